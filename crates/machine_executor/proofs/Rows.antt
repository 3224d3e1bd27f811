-- What follows the entry of a row of a sound table, by its kind: where the links of the row lead, from the sorts of its fields, and what the tree
-- at the row does, told by the steps left. The links are given as the code has them.
use mathlib.Core.Path.{◌≡◌, refl, sym, ap, ◌∙◌}
use mathlib.Core.Bool.{true, false}
use mathlib.Core.List.{List}
use Prim.Native.Nat.{ℕ, zero, suc, ◌+◌, ◌*◌, ◌≤◌, ◌<◌}
use native.Mathlib.Omega.{arith}
use borrow.Author.Tests.{eq-eqb, ne_eqb}
use lib.IntN.{ℤ, pos}
use lib.ListN.{length, set}
use Rattle.words.specs.Word.{natural, pick}
use Rattle.words.specs.Table.{row_count, word_at, number_at}
use Rattle.words.specs.Kinds.{is_statement_kind, is_link, is_required, statement_fields, kind_row, sort_in}
use Rattle.words.specs.KindLaws.{kind-numbered, no-statement}
use Rattle.arithmetic.specs.Arithmetic.{is_true}
use Rattle.words.specs.declared.Kind.{Kind}
use Rattle.words.specs.declared.Kind.TheVariants.{OfStatement}
use Rattle.words.specs.declared.StatementKind.TheVariants.{Empty, Express, Block, If, While, Do, For, Switch, Break, Continue, Goto, Declare, Return}
use Rattle.computation.specs.Computation.{ret, loop}
use Rattle.computation.specs.Remaining.{Rest, gives, onward, spend}
use Rattle.language.specs.Trees.{Part, absent, present, label, Statement, express, block, if_then, if_else, while, do_while, for, switch, declare, give_back}
use Rattle.language.specs.Decode.{expression_at, statement_at, list_at, part_at}
use Rattle.language.specs.DecodeLaws.{at-no-statement, at-empty, at-express, at_block, at-if_then, at-if_else, at-while, at-do_while, at-for, at-switch, at-break, at-continue, at-goto, at-declared, at_return, part-some}
use Rattle.language.specs.Meaning.{Context, Signal, next, breaking, continuing, seeking, returning, perform, items, after_switch}
use Rattle.language.specs.Sound.{Link, OptionalLink}
use Rattle.language.specs.SoundLaws.{root_none, field_of, optional-link-of}
use Rattle.machine_operations.specs.Bounds.{layout_in}
use Rattle.machine_operations.specs.Ready.{Ready, Entered}
use Rattle.machine_operations.specs.Rows.{context_at, value_at}
use Rattle.machine_operations.proofs.Enter.{onward-same, forks}
use Rattle.machine_operations.proofs.Rows.{link}
use Rattle.machine_flows.specs.Lists.{start_of, InTable}
use Rattle.machine_executor.specs.Rows.{value_or, round_of, part_or, perform_at, exec_at, item_at, items_from, rounds_at}
use Rattle.machine_flows.proofs.Enter.{switch-starts}

-- the tree at the row is known
pub known : (rows : List ℤ) (bounds : List ℕ) (row : ℕ) (t : Statement) (n : ℕ) (s : List ℤ) → statement_at rows row ≡ t
    → spend (perform_at rows bounds row) n s ≡ spend (perform (context_at rows bounds) t) n s
known rows bounds row t n s e = ap (λ (x : Statement). spend (perform (context_at rows bounds) x) n s) e

-- ---- the item at a row, as the code tests for it

module _ (rows : List ℤ) (bounds : List ℕ) (row : ℕ) {number : ℕ} (p : number ≡ number_at rows row 0) (n : ℕ) (s : List ℤ) where
  pub defined-item : number ≡ 59 → spend (item_at rows bounds row) n s ≡ gives next n s
  unfolding spend
  defined-item e = rw (eq-eqb (number_at rows row 0) 59 (sym p ∙ e))

  pub stated-item : (number ≡ 59 → ⊥) → spend (item_at rows bounds row) n s ≡ spend (exec_at rows bounds row) n s
  stated-item q = rw (ne_eqb (number_at rows row 0) 59 (λ e. q (p ∙ e)))

-- ---- links that may be absent

module _ {rows : List ℤ} {bounds : List ℕ} {words row : ℕ} (here : Ready rows bounds words row) where
  pub in_table : InTable rows row
  in_table = record { layout = layout_in rows bounds; words = words; sound = here.setting.sound; few_rows = here.setting.few_rows; below = here.below }

  pub table-row : {r size : ℕ} → r < row_count rows → size ≡ words → Ready rows bounds size r
  table-row h e = record { setting = rw e here.setting; below = h }

  module _ {field : ℕ} (link : OptionalLink rows (layout_in rows bounds) words row field) where
    pub optional-below : number_at rows row field < row_count rows
    optional-below = by (number_at rows row field) (λ h. (link h).inside)
      where
        by : (l : ℕ) → (0 < l → l < row_count rows) → l < row_count rows
        by zero f = here.setting.sound.some_rows
        by (suc l) f = f (omega arith)

    pub optional-asks : field < 6 → (6 * row + field < length rows) × (number_at rows row field < 2147483648)
    optional-asks h = (omega (arith, here.setting.sound.whole, here.below), omega (arith, optional-below, here.setting.few_rows))

    pub optional : {l size : ℕ} → l ≡ number_at rows row field → size ≡ words → Ready rows bounds size l
    optional e q = table-row (rw e optional-below) q

-- a part of a for, as the code tests for it
module _ (v : ℤ) (rows : List ℤ) (bounds : List ℕ) (n : ℕ) (s : List ℤ) where
  pub part-absent : (row : ℕ) → row ≡ 0 → spend (part_or v rows bounds row) n s ≡ gives v n s
  unfolding spend
  part-absent row e = rw e

  pub part-there : (row : ℕ) → (row ≡ 0 → ⊥) → spend (part_or v rows bounds row) n s ≡ spend (value_at rows bounds row) n s
  part-there zero z = absurd (z refl)
  part-there (suc row) z = refl

-- an if's other branch, which may be absent
abbrev pub otherwise : List ℤ → List ℕ → ℕ → ℕ → List ℤ → Rest Signal
otherwise rows bounds zero n s = gives next n s
otherwise rows bounds (suc c) n s = spend (exec_at rows bounds (suc c)) n s

module _ (rows : List ℤ) (bounds : List ℕ) (n : ℕ) (s : List ℤ) where
  pub otherwise-none : (c : ℕ) → c ≡ 0 → otherwise rows bounds c n s ≡ gives next n s
  otherwise-none c e = rw e

  pub otherwise-some : (c : ℕ) → (c ≡ 0 → ⊥) → otherwise rows bounds c n s ≡ spend (exec_at rows bounds c) n s
  otherwise-some zero z = absurd (z refl)
  otherwise-some (suc c) z = refl

-- a for: its start, then the rounds
enter-for : (C : Context) (n : ℕ) (s : List ℤ) (first test step : Part) (body : Statement) → spend (perform C (for first test step body)) n s
    ≡ onward (spend (value_or C (pos 0) first) n s) (λ _ n s. spend (loop (round_of C test (perform C body) step false)) n s)
unfolding spend perform
enter-for C n s absent absent step body = refl
enter-for C n s absent (present t) step body = refl
enter-for C n s (present e) absent step body = refl
enter-for C n s (present e) (present t) step body = refl

-- a return: its value
enter-return : (C : Context) (n : ℕ) (s : List ℤ) (p : Part) → spend (perform C (give_back p)) n s ≡ onward (spend (value_or C (pos 0) p) n s) (λ v n s. gives (returning v) n s)
unfolding spend perform
enter-return C n s absent = refl
enter-return C n s (present e) = refl

module _ {rows : List ℤ} {bounds : List ℕ} {words row : ℕ} where
  module _ {kind : Kind} (here : Entered rows bounds words row kind) where
    abbrev whole : length rows ≡ 6 * row_count rows
    whole = here.ready.setting.sound.whole

    -- a field that links a row, or is 0
    abbrev optional_link : (field : ℕ) → 1 ≤ field → field < 6 → is_link (sort_in kind field) ≡ true → OptionalLink rows (layout_in rows bounds) words row field
    optional_link = optional-link-of here.ready.setting.sound here.ready.below here.kind_is

  pub empty-row : Entered rows bounds words row (OfStatement Empty) → (n : ℕ) (s : List ℤ) → spend (perform_at rows bounds row) n s ≡ gives next n s
  unfolding spend perform
  empty-row here n s = known rows bounds row _ n s (at-empty rows (whole here) row here.kind_is)

  pub express-link : Entered rows bounds words row (OfStatement Express) → Link rows (layout_in rows bounds) words row 1
  unfolding is_link is_required sort_in kind_row statement_fields
  express-link here = link here 1 (omega arith) (omega arith) refl

  pub express-row : Entered rows bounds words row (OfStatement Express) → {a : ℕ} → a ≡ number_at rows row 1 → (n : ℕ) (s : List ℤ)
      → spend (perform_at rows bounds row) n s ≡ onward (spend (value_at rows bounds a) n s) (λ _ n s. gives next n s)
  unfolding spend perform
  express-row here p n s =
      known rows bounds row _ n s (at-express rows (whole here) row here.kind_is (express-link here).later ∙ ap (λ (k : ℕ). express (expression_at rows k)) (sym p))

  pub block-link : Entered rows bounds words row (OfStatement Block) → OptionalLink rows (layout_in rows bounds) words row 1
  unfolding is_link is_required sort_in kind_row statement_fields
  block-link here = optional_link here 1 (omega arith) (omega arith) refl

  pub block-row : Entered rows bounds words row (OfStatement Block) → {a : ℕ} → a ≡ number_at rows row 1 → (n : ℕ) (s : List ℤ)
      → spend (perform_at rows bounds row) n s ≡ spend (items_from rows bounds a) n s
  unfolding perform
  block-row here p n s =
      known rows bounds row _ n s (at_block rows (whole here) row here.kind_is (λ h. (block-link here h).later) ∙ ap (λ (k : ℕ). block (list_at rows k)) (sym p))

  pub if-links : Entered rows bounds words row (OfStatement If) → Link rows (layout_in rows bounds) words row 1 × Link rows (layout_in rows bounds) words row 2 × OptionalLink rows (layout_in rows bounds) words row 3
  unfolding is_link is_required sort_in kind_row statement_fields
  if-links here = (link here 1 (omega arith) (omega arith) refl, link here 2 (omega arith) (omega arith) refl, optional_link here 3 (omega arith) (omega arith) refl)

  pub if-row : Entered rows bounds words row (OfStatement If) → {a b c : ℕ} → a ≡ number_at rows row 1 → b ≡ number_at rows row 2 → c ≡ number_at rows row 3 → (n : ℕ) (s : List ℤ)
      → spend (perform_at rows bounds row) n s
      ≡ onward (spend (value_at rows bounds a) n s) (λ v n s. pick (is_true v) (spend (exec_at rows bounds b) n s) (otherwise rows bounds c n s))
  unfolding spend perform
  if-row here {a} {b} {c} p q r n s = by c r
    where
      by : (c : ℕ) → c ≡ number_at rows row 3 → spend (perform_at rows bounds row) n s
          ≡ onward (spend (value_at rows bounds a) n s) (λ v n s. pick (is_true v) (spend (exec_at rows bounds b) n s) (otherwise rows bounds c n s))
      by zero r =
          let t : statement_at rows row ≡ if_then (expression_at rows a) (statement_at rows b) =
          at-if_then rows (whole here) row here.kind_is (if-links here).0.later (if-links here).1.later (sym r) ∙ rw (← p, ← q) in
          known rows bounds row _ n s t ∙ onward-same (spend (value_at rows bounds a) n s) _ _ (λ v. forks (is_true v) (exec_at rows bounds b) (ret next))
      by (suc c) r =
          let t : statement_at rows row ≡ if_else (expression_at rows a) (statement_at rows b) (statement_at rows (suc c)) =
          at-if_else rows (whole here) row here.kind_is (if-links here).0.later (if-links here).1.later ((if-links here).2 (omega arith)).later ∙ rw (← p, ← q, ← r) in
          known rows bounds row _ n s t ∙ onward-same (spend (value_at rows bounds a) n s) _ _ (λ v. forks (is_true v) (exec_at rows bounds b) (exec_at rows bounds (suc c)))

  pub while-links : Entered rows bounds words row (OfStatement While) → Link rows (layout_in rows bounds) words row 1 × Link rows (layout_in rows bounds) words row 2
  unfolding is_link is_required sort_in kind_row statement_fields
  while-links here = (link here 1 (omega arith) (omega arith) refl, link here 2 (omega arith) (omega arith) refl)

  pub while-row : Entered rows bounds words row (OfStatement While) → {a b : ℕ} → a ≡ number_at rows row 1 → b ≡ number_at rows row 2 → (n : ℕ) (s : List ℤ)
      → spend (perform_at rows bounds row) n s ≡ spend (rounds_at rows bounds a b 0 false) n s
  unfolding perform
  while-row here {a} {b} p q n s =
      let t : statement_at rows row ≡ while (expression_at rows a) (statement_at rows b) =
      at-while rows (whole here) row here.kind_is (while-links here).0.later (while-links here).1.later ∙ rw (← p, ← q) in
      known rows bounds row _ n s t
      ∙ ap (λ (test : Part). spend (loop (round_of (context_at rows bounds) test (perform_at rows bounds b) absent false)) n s) (sym (part-some rows a (omega (arith, p, (while-links here).0.later))))

  pub do-links : Entered rows bounds words row (OfStatement Do) → Link rows (layout_in rows bounds) words row 1 × Link rows (layout_in rows bounds) words row 2
  unfolding is_link is_required sort_in kind_row statement_fields
  do-links here = (link here 1 (omega arith) (omega arith) refl, link here 2 (omega arith) (omega arith) refl)

  pub do-row : Entered rows bounds words row (OfStatement Do) → {a b : ℕ} → a ≡ number_at rows row 1 → b ≡ number_at rows row 2 → (n : ℕ) (s : List ℤ)
      → spend (perform_at rows bounds row) n s ≡ spend (rounds_at rows bounds 0 a b true) n s
  unfolding perform
  do-row here {a} {b} p q n s =
      let t : statement_at rows row ≡ do_while (statement_at rows a) (expression_at rows b) =
      at-do_while rows (whole here) row here.kind_is (do-links here).0.later (do-links here).1.later ∙ rw (← p, ← q) in
      known rows bounds row _ n s t
      ∙ ap (λ (test : Part). spend (loop (round_of (context_at rows bounds) absent (perform_at rows bounds a) test true)) n s) (sym (part-some rows b (omega (arith, q, (do-links here).1.later))))

  pub for-links : Entered rows bounds words row (OfStatement For) → OptionalLink rows (layout_in rows bounds) words row 1 × OptionalLink rows (layout_in rows bounds) words row 2 × OptionalLink rows (layout_in rows bounds) words row 3 × Link rows (layout_in rows bounds) words row 4
  unfolding is_link is_required sort_in kind_row statement_fields
  for-links here = (optional_link here 1 (omega arith) (omega arith) refl, optional_link here 2 (omega arith) (omega arith) refl, optional_link here 3 (omega arith) (omega arith) refl, link here 4 (omega arith) (omega arith) refl)

  pub for-row : Entered rows bounds words row (OfStatement For) → {a b c d : ℕ} → a ≡ number_at rows row 1 → b ≡ number_at rows row 2 → c ≡ number_at rows row 3 → d ≡ number_at rows row 4 → (n : ℕ) (s : List ℤ)
      → spend (perform_at rows bounds row) n s ≡ onward (spend (part_or (pos 0) rows bounds a) n s) (λ _ n s. spend (rounds_at rows bounds b d c false) n s)
  for-row here {a} {b} {c} {d} p q r u n s =
      let t : statement_at rows row ≡ for (part_at rows a) (part_at rows b) (part_at rows c) (statement_at rows d) =
      at-for rows (whole here) row here.kind_is (λ h. ((for-links here).0 h).later) (λ h. ((for-links here).1 h).later) (λ h. ((for-links here).2 h).later) (for-links here).3.later ∙ rw (← p, ← q, ← r, ← u) in
      known rows bounds row _ n s t ∙ enter-for (context_at rows bounds) n s (part_at rows a) (part_at rows b) (part_at rows c) (statement_at rows d)

  pub switch-links : Entered rows bounds words row (OfStatement Switch) → Link rows (layout_in rows bounds) words row 1 × OptionalLink rows (layout_in rows bounds) words row 2
  unfolding is_link is_required sort_in kind_row statement_fields
  switch-links here = (link here 1 (omega arith) (omega arith) refl, optional_link here 2 (omega arith) (omega arith) refl)

  pub switch-row : Entered rows bounds words row (OfStatement Switch) → {a b : ℕ} → a ≡ number_at rows row 1 → b ≡ number_at rows row 2 → (n : ℕ) (s : List ℤ)
      → spend (perform_at rows bounds row) n s
      ≡ onward (spend (value_at rows bounds a) n s) (λ v n s. onward (spend (items (context_at rows bounds) (start_of v (list_at rows b)) next) n s) (λ signal n s. gives (after_switch signal) n s))
  unfolding spend perform
  switch-row here {a} {b} p q n s =
      let t : statement_at rows row ≡ switch (expression_at rows a) (list_at rows b) =
      at-switch rows (whole here) row here.kind_is (switch-links here).0.later (λ h. ((switch-links here).1 h).later) ∙ rw (← p, ← q) in
      known rows bounds row _ n s t
      ∙ onward-same (spend (value_at rows bounds a) n s) _ _ (λ v n s. switch-starts (context_at rows bounds) v (list_at rows b) n s)

  pub break-row : Entered rows bounds words row (OfStatement Break) → (n : ℕ) (s : List ℤ) → spend (perform_at rows bounds row) n s ≡ gives breaking n s
  unfolding spend perform
  break-row here n s = known rows bounds row _ n s (at-break rows (whole here) row here.kind_is)

  pub continue-row : Entered rows bounds words row (OfStatement Continue) → (n : ℕ) (s : List ℤ) → spend (perform_at rows bounds row) n s ≡ gives continuing n s
  unfolding spend perform
  continue-row here n s = known rows bounds row _ n s (at-continue rows (whole here) row here.kind_is)

  pub goto-row : Entered rows bounds words row (OfStatement Goto) → (n : ℕ) (s : List ℤ) → spend (perform_at rows bounds row) n s ≡ gives (seeking (label (natural (word_at rows row 1)))) n s
  unfolding spend perform number_at
  goto-row here n s = known rows bounds row _ n s (at-goto rows (whole here) row here.kind_is)

  -- a parameter has no expression; a run that came to one would take row 0's
  pub declare-link : Entered rows bounds words row (OfStatement Declare) → OptionalLink rows (layout_in rows bounds) words row 2
  unfolding is_link is_required sort_in kind_row statement_fields
  declare-link here = optional_link here 2 (omega arith) (omega arith) refl

  -- the word of the new object is in the store
  pub declared-inside : Entered rows bounds words row (OfStatement Declare) → number_at rows row 1 < words
  unfolding sort_in kind_row statement_fields
  declared-inside here = (field_of here.ready.setting.sound here.ready.below here.kind_is 1 (omega arith) (omega arith) refl).declares-word refl

  pub declared-asks : Entered rows bounds words row (OfStatement Declare) → (6 * row + 1 < length rows) × (number_at rows row 1 < 2147483648)
  declared-asks here = (omega (arith, whole here, here.ready.below), omega (arith, declared-inside here, here.ready.setting.few_words))

  pub declare-row : Entered rows bounds words row (OfStatement Declare) → {i b : ℕ} → i ≡ number_at rows row 1 → b ≡ number_at rows row 2 → (n : ℕ) (s : List ℤ)
      → spend (perform_at rows bounds row) n s ≡ onward (spend (value_at rows bounds b) n s) (λ v n s. gives next n (set s i v))
  unfolding spend perform
  declare-row here {i} {b} p q n s =
      let t : statement_at rows row ≡ declare i (expression_at rows b) = at-declared rows (whole here) row (root_none here.ready.setting.sound) here.kind_is (λ h. (declare-link here h).later) ∙ rw (← p, ← q) in
      known rows bounds row _ n s t

  pub return-link : Entered rows bounds words row (OfStatement Return) → OptionalLink rows (layout_in rows bounds) words row 1
  unfolding is_link is_required sort_in kind_row statement_fields
  return-link here = optional_link here 1 (omega arith) (omega arith) refl

  pub return-row : Entered rows bounds words row (OfStatement Return) → {a : ℕ} → a ≡ number_at rows row 1 → (n : ℕ) (s : List ℤ)
      → spend (perform_at rows bounds row) n s ≡ onward (spend (part_or (pos 0) rows bounds a) n s) (λ v n s. gives (returning v) n s)
  return-row here {a} p n s =
      known rows bounds row _ n s (at_return rows (whole here) row here.kind_is (λ h. (return-link here h).later) ∙ ap (λ (k : ℕ). give_back (part_at rows k)) (sym p))
      ∙ enter-return (context_at rows bounds) n s (part_at rows a)

  -- a row whose number no statement has
  pub other_row : Ready rows bounds words row → {number : ℕ} → number ≡ number_at rows row 0 → ((40 ≤ number) × (number ≤ 47) → ⊥) → ((50 ≤ number) × (number ≤ 52) → ⊥)
      → ((54 ≤ number) × (number ≤ 55) → ⊥) → ((57 ≤ number) × (number ≤ 58) → ⊥) → (number ≡ 60 → ⊥) → (n : ℕ) (s : List ℤ)
      → spend (perform_at rows bounds row) n s ≡ gives next n s
  unfolding spend perform
  other_row here {number} p plain jumps guarded others last n s =
      known rows bounds row _ n s (at-no-statement rows here.setting.sound.whole row (ap is_statement_kind (kind-numbered rows row p number refl) ∙ no-statement number plain jumps guarded others last))
