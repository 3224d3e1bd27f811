-- Filled: where each row's own lines are written in a list of words, every line of the flat list is, so it is the flat list. Rows are taken
-- from the last one on: each row's links lead to later rows.
use Rattle.std.specs.Prelude.{◌≡◌, Bool, true, false, List, ◌⊎◌, ltb, ℤ, length, get_or}
use Rattle.std.proofs.Math.Path.{refl, ap}
use Rattle.std.proofs.Common.{sym, subst, ◌∙◌, inl, inr, ⊎_elim, ltb-true, ltb-false}
use Prim.Native.Nat.{ℕ, zero, suc, ◌+◌, ◌*◌, ◌≤◌, ◌<◌}
use native.Mathlib.Omega.{arith}
use Rattle.std.proofs.Math.Decide.{ℕ_discrete}
use Rattle.words.specs.Table.{row_count, number_at}
use Rattle.words.specs.Layout.{Layout, layout_of}
use Rattle.words.specs.Links.{is_statement, link}
use Rattle.words.specs.declared.Form.TheVariants.{Kernel}
use Rattle.language.specs.Decode.{statement_at, items_at, list_at}
use Rattle.language.specs.Calls.{arity_in}
use Rattle.language.specs.Program.{contents}
use Rattle.check_fields.specs.Fields.{bounds_of}
use Rattle.check_structure.specs.NoteLaws.{above_zero}
use Rattle.check_plain.specs.Plain.{Plain}
use Rattle.accepted.proofs.Statements.{list-some, root-inside, root-statement}
use Rattle.accepted_kernel.proofs.Kernel.{plain-program}
use Rattle.flat_kernel_rows.proofs.Rows.{Lone, Listed, BlockRow, KernelRow, empty-row, assign-row, block-row, if-row, while-row, goto-row, label-row, abort-row, next-at, kernel-row, label-list, statement-list}
use Rattle.flat_kernel_rows.proofs.Labels.{plain-once}
use Rattle.flat_kernel_rows.proofs.Tree.{root-items}
use Rattle.flat.specs.Lines.{Operand, FlatLine}
use Rattle.flat.specs.Words.{line_parts, Written}
use Rattle.flat_fate.specs.Code.{always, if_lines, while_lines, statement_lines, items_lines}
use Rattle.flat_fate.specs.Branches.{first_at, second_at, body_at}
use Rattle.flat_fate.specs.Addresses.{flat_of}
use Rattle.flat_fate.proofs.AddressLaws.{flat-size}
use Rattle.flat_fate.specs.FlatWords.{words_from, flattened}
use Rattle.flat_rows.specs.Places.{list_lines, test_of, handed, line_of, if_own, while_own, own_lines, Each}
use Rattle.flat_rows.specs.LinesPut.{nothing, There, Holds}
use Rattle.flat_rows.proofs.Standing.{list, line-root, line-link, branch-lines, own-there}
use Rattle.flat_rows.proofs.Written.{written-whole}

module _ (lines : List FlatLine) (out : List ℤ) where
  -- Every line from i to j is written.
  abbrev pub Filled : ℕ → ℕ → Type 0
  Filled i j = (k : ℕ) → i ≤ k → k < j → Holds out k (get_or lines k nothing)

  filled_none : (i j : ℕ) → j ≤ i → Filled i j
  filled_none i j h k l m = absurd (omega arith)

  filled-one : (i : ℕ) (x : FlatLine) → There lines i x → Holds out i x → Filled i (i + 1)
  filled-one i x there w k l m =
      let e : k ≡ i = omega arith in
      subst (λ (n : ℕ). Holds out n (get_or lines n nothing)) (sym e) (subst (λ y. Holds out i y) (sym there.1) w)

  filled-two : (i j l : ℕ) → Filled i j → Filled j l → Filled i l
  filled-two i j l f g k least most = by (ltb k j) refl
    where
      by : (b : Bool) → ltb k j ≡ b → Holds out k (get_or lines k nothing)
      by true e = f k least (ltb-true k j e)
      by false e = g k (ltb-false k j e) most

  filled-cast : (i j k l : ℕ) → i ≡ k → j ≡ l → Filled i j → Filled k l
  filled-cast i j k l p q f = subst (λ (n : ℕ). Filled n l) p (subst (λ (n : ℕ). Filled i n) q f)

  -- an if: its own lines, and its branches
  if-filled : (a : Operand) (p q i : ℕ) → Each (There lines) (if_own a p q i) → Each (Holds out) (if_own a p q i) → Filled (first_at p q i) (first_at p q i + p) → Filled (second_at p q i) (second_at p q i + q) → Filled i (i + if_lines p q)
  if-filled a zero zero i there own f g = filled_none i (i + 0) (omega arith)
  if-filled a zero (suc q) i there own f g =
      filled-two i (i + 1) (i + (1 + suc q)) (filled-one i _ there.0 own.0) (filled-cast (i + 1) (i + 1 + suc q) (i + 1) (i + (1 + suc q)) refl (let e : i + 1 + suc q ≡ i + (1 + suc q) = omega arith in e) g)
  if-filled a (suc p) zero i there own f g =
      filled-two i (i + 1) (i + (1 + suc p)) (filled-one i _ there.0 own.0) (filled-cast (i + 1) (i + 1 + suc p) (i + 1) (i + (1 + suc p)) refl (let e : i + 1 + suc p ≡ i + (1 + suc p) = omega arith in e) f)
  if-filled a (suc p) (suc q) i there own f g =
      let j = i + 1 + suc p in
      let back : i + (2 + suc p) ≡ j + 1 = omega arith in
      let end : i + (2 + suc p) + suc q ≡ i + (2 + (suc p + suc q)) = omega arith in
      filled-two i (i + 1) (i + (2 + (suc p + suc q))) (filled-one i _ there.0 own.0)
      (filled-two (i + 1) j (i + (2 + (suc p + suc q))) f
      (filled-two j (j + 1) (i + (2 + (suc p + suc q))) (filled-one j _ there.1.0 own.1.0) (filled-cast (i + (2 + suc p)) (i + (2 + suc p) + suc q) (j + 1) (i + (2 + (suc p + suc q))) back end g)))

  while-filled : (b : Bool) (a : Operand) (p i : ℕ) → Each (There lines) (while_own b a p i) → Each (Holds out) (while_own b a p i) → Filled (body_at b i) (body_at b i + p) → Filled i (i + while_lines b p)
  while-filled true a p i there own f =
      filled-two i (i + p) (i + (p + 1)) f (filled-cast (i + p) (i + p + 1) (i + p) (i + (p + 1)) refl (let e : i + p + 1 ≡ i + (p + 1) = omega arith in e) (filled-one (i + p) _ there.0 own.0))
  while-filled false a p i there own f =
      let j = i + 1 + p in
      filled-two i (i + 1) (i + (p + 2)) (filled-one i _ there.0 own.0)
      (filled-two (i + 1) j (i + (p + 2)) f (filled-cast j (j + 1) j (i + (p + 2)) refl (let e : j + 1 ≡ i + (p + 2) = omega arith in e) (filled-one j _ there.1.0 own.1.0)))

module _ (header rows : List ℤ) (plain : Plain header rows) (out : List ℤ) (written : (row : ℕ) → row < row_count rows → Each (Holds out) (own_lines rows row)) where
  abbrev lines : List FlatLine
  lines = list header rows plain

  -- The list from a row on is written.
  abbrev From : ℕ → Type 0
  From row = Filled lines out (line_of rows row) (line_of rows row + items_lines (items_at rows row))

  module _ (row : ℕ) (n : row < row_count rows) (t : is_statement rows row ≡ true) (later : (l : ℕ) → row < l → l < row_count rows → is_statement rows l ≡ true → From l) where
    abbrev i : ℕ
    i = line_of rows row

    there : Each (There lines) (own_lines rows row)
    there = own-there header rows plain row n

    own : Each (Holds out) (own_lines rows row)
    own = written row n

    -- a list that a field links, or none
    listed-filled : (field : ℕ) → field < 6 → Listed rows row field → (j : ℕ) → handed rows row field i ≡ j → Filled lines out j (j + list_lines rows (number_at rows row field))
    unfolding list_lines items_lines
    listed-filled field h listed j e = go (number_at rows row field) refl
      where
        go : (l : ℕ) → number_at rows row field ≡ l → Filled lines out j (j + items_lines (list_at rows (number_at rows row field)))
        go zero z = rw z (filled_none lines out j (j + 0) (omega arith))
        go (suc l) z =
            let b = number_at rows row field in
            let some : 0 < b = omega arith in
            let at : line_of rows b ≡ j = ap (line_of rows) (sym listed.same) ∙ line-link header rows plain row field h (listed.leads some) ∙ e in
            let end : line_of rows b + items_lines (items_at rows b) ≡ j + items_lines (list_at rows b) = cc (at, list-some rows b some) in
            filled-cast lines out (line_of rows b) (line_of rows b + items_lines (items_at rows b)) j (j + items_lines (list_at rows b)) at end (later b (listed.later some) (listed.inside some) (listed.statement some))

    branch-filled : (field : ℕ) → field < 6 → (l : Lone rows row field) (j : ℕ) → handed rows row field i ≡ j → Filled lines out j (j + list_lines rows (number_at rows row field))
    unfolding list_lines
    branch-filled field h l j e =
        let b = number_at rows row field in
        let some : 0 < b = (let q = l.later in omega arith) in
        let at : line_of rows b ≡ j = ap (line_of rows) (sym l.same) ∙ line-link header rows plain row field h l.leads ∙ e in
        let end : line_of rows b + items_lines (items_at rows b) ≡ j + items_lines (list_at rows b) = cc (at, list-some rows b some) in
        filled-cast lines out (line_of rows b) (line_of rows b + items_lines (items_at rows b)) j (j + items_lines (list_at rows b)) at end (later b l.later l.inside l.statement)

    -- a statement that is no label, and the list behind it
    statement-filled : (number_at rows row 0 ≡ 53 → ⊥) → Filled lines out i (i + statement_lines (statement_at rows row)) → From row
    unfolding items_lines handed list_lines
    statement-filled other f =
        let size : items_lines (items_at rows row) ≡ statement_lines (statement_at rows row) + items_lines (list_at rows (number_at rows row 5)) = ap items_lines (statement-list header rows plain row n other t) in
        let j = i + statement_lines (statement_at rows row) in
        let end : j + items_lines (list_at rows (number_at rows row 5)) ≡ i + items_lines (items_at rows row) = omega arith in
        filled-two lines out i j (i + items_lines (items_at rows row)) f
        (filled-cast lines out j (j + items_lines (list_at rows (number_at rows row 5))) j (i + items_lines (items_at rows row)) refl end (listed-filled 5 (omega arith) (next-at header rows plain row n t) j refl))

    label-filled : number_at rows row 0 ≡ 53 → statement_lines (statement_at rows row) ≡ 0 → From row
    unfolding items_lines handed list_lines
    label-filled k z =
        let size : items_lines (items_at rows row) ≡ items_lines (list_at rows (number_at rows row 5)) = ap items_lines (label-list header rows plain row n k t) in
        let e : i + statement_lines (statement_at rows row) ≡ i = omega arith in
        filled-cast lines out i (i + items_lines (list_at rows (number_at rows row 5))) i (i + items_lines (items_at rows row)) refl (omega arith) (listed-filled 5 (omega arith) (next-at header rows plain row n t) i e)

    one-filled : (x : FlatLine) → There lines i x → Holds out i x → statement_lines (statement_at rows row) ≡ 1 → (number_at rows row 0 ≡ 53 → ⊥) → From row
    one-filled x th w e other = statement-filled other (rw e (filled-one lines out i x th w))

    block-filled : number_at rows row 0 ≡ 42 → BlockRow rows row → From row
    unfolding statement_lines handed list_lines
    block-filled k r = statement-filled (λ (q : number_at rows row 0 ≡ 53). omega arith) (rw r.is (listed-filled 1 (omega arith) r.listed i (rw k)))

    filled-by : KernelRow rows row → From row
    unfolding statement_lines own_lines handed
    filled-by (empty-row k e) = statement-filled (λ (q : number_at rows row 0 ≡ 53). omega arith) (rw e (filled_none lines out i (i + 0) (omega arith)))
    filled-by (assign-row k r) = one-filled _ (rw k at there).0 (rw k at own).0 (rw r.is) (λ (q : number_at rows row 0 ≡ 53). omega arith)
    filled-by (block-row k r) = block-filled k r
    filled-by (if-row k r) =
        statement-filled (λ (q : number_at rows row 0 ≡ 53). omega arith)
        (rw (r.is, ← branch-lines header rows plain r.on_true, ← branch-lines header rows plain r.on_false)
        (if-filled lines out (test_of rows row) (list_lines rows (number_at rows row 2)) (list_lines rows (number_at rows row 3)) i (rw k at there) (rw k at own)
        (branch-filled 2 (omega arith) r.on_true _ (rw k)) (branch-filled 3 (omega arith) r.on_false _ (rw k))))
    filled-by (while-row k r) =
        statement-filled (λ (q : number_at rows row 0 ≡ 53). omega arith)
        (rw (r.is, ← branch-lines header rows plain r.body)
        (while-filled lines out (always (test_of rows row)) (test_of rows row) (list_lines rows (number_at rows row 2)) i (rw k at there) (rw k at own) (branch-filled 2 (omega arith) r.body _ (rw k))))
    filled-by (goto-row k e) = one-filled _ (rw k at there).0 (rw k at own).0 (rw e) (λ (q : number_at rows row 0 ≡ 53). omega arith)
    filled-by (label-row k e) = label-filled k (rw e)
    filled-by (abort-row k e) = one-filled _ (rw k at there).0 (rw k at own).0 (rw e) (λ (q : number_at rows row 0 ≡ 53). omega arith)

  filled-from : (links row : ℕ) → row_count rows ≤ row + links → row < row_count rows → is_statement rows row ≡ true → From row
  filled-from zero row h n t = absurd (omega arith)
  filled-from (suc links) row h n t = filled-by row n t (λ l later inside u. filled-from links l (omega arith) inside u) (kernel-row header rows plain row n t)

  -- Where each row's own lines are written, the words are the flat list's.
  pub filled-whole : length out ≡ 5 * length lines → out ≡ flattened rows
  unfolding flattened items_lines statement_lines
  filled-whole e =
      let s = plain.legal.structured in
      let bounds = bounds_of Kernel header in
      let some = root-inside Kernel bounds rows s in
      let t = root-statement Kernel bounds rows s in
      let size : items_lines (items_at rows 0) ≡ items_lines (contents rows) + 0 = ap items_lines (root-items header rows plain) in
      let all = filled-from (row_count rows) 0 (omega arith) some t in
      written-whole out lines e (λ k h. all k (omega (arith, line-root header rows plain)) (omega (arith, line-root header rows plain, flat-size (layout_of Kernel header) (contents rows) (plain-program header rows plain).items (arity_in (contents rows)) (plain-program header rows plain).calls (λ l. plain-once header rows plain l))))
