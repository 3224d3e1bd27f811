-- Rows: what a row's own lines are, by the number of its kind, and what its parts are asked for.
use Rattle.std.specs.Prelude.{◌≡◌, refl, true, List, [], ℕ, ◌+◌, ◌*◌, ◌≤◌, ◌<◌, ℤ, pos, length, get_or}
use Rattle.std.proofs.Common.{sym, ap, ◌∙◌, arith, ne_eqb}
use Rattle.words.specs.Table.{row_count, number_at}
use Rattle.words.specs.Links.{is_statement}
use Rattle.words.specs.declared.Form.TheVariants.{Kernel}
use Rattle.language.specs.Decode.{expression_at, statement_at}
use Rattle.language.specs.Program.{contents}
use Rattle.check_fields.specs.Fields.{bounds_of}
use Rattle.check_structure.specs.Lists.{before_inside}
use Rattle.check_kernel_statements.specs.Statements.{is_atom, is_assignment}
use Rattle.check_labels.specs.Ahead.{Ahead, behind, outward}
use Rattle.check_kernel.specs.Accepts.{structured-labels}
use Rattle.flat_kernel_rows.specs.KernelTable.{KernelTable}
use Rattle.flat_kernel_rows.proofs.Rows.{assign-of, if-of, while-of, number-statement, label-statement}
use Rattle.flat.specs.Lines.{jump, abort}
use Rattle.flat.specs.Words.{parts, unused, operation_parts, distance}
use Rattle.flat_fate.specs.Code.{operand_of, operation_of, always, if_lines, while_lines, statement_lines}
use Rattle.flat_fate.specs.Addresses.{address_in, flat_of}
use Rattle.flat_rows.specs.Places.{list_lines, line_of, if_own, while_own, own_lines}
use Rattle.flat_rows.proofs.Standing.{row_within, list-few, label-address}
use Rattle.flat_rows.specs.LinesPut.{put_line, put_all}
use Rattle.flat_sizes.specs.Tables.{slot, Sized, LinesPlaced, Labelled}
use Rattle.flat_sizes.specs.Sizes.{one_size, true-answer, false-answer, body-answer, true-room, false-room, body-room, sized-later, size-split, if-size, while-size, line-few}
use Rattle.flat_sizes.specs.Places.{placed-here}
use Rattle.flat_lines.specs.Lent.{Tables, Exact, Standing}
use Rattle.flat_lines.specs.Puts.{puts_none, puts_one}

-- a label that is ahead stands in a row
pub record LabelRow (rows : List ℤ) (number : ℕ) : Type 0 where
  pub row : ℕ
  pub inside : row < row_count rows
  pub label : number_at rows row 0 ≡ 53
  pub number_is : number_at rows row 1 ≡ number

pub label-row : {rows : List ℤ} {number row : ℕ} → Ahead rows number row → LabelRow rows number
label-row (behind {item = item} b l) = record { row = item; inside = before_inside b; label = l.label; number_is = l.number_is }
label-row (outward o d a) = label-row a

-- ---- where a row stands

module _ {rows : List ℤ} {sizes lines labels : List ℕ} (s : Tables rows sizes lines labels) {row : ℕ} (n : row < row_count rows) where
  earlier : LinesPlaced rows row lines
  earlier = let p = s.placed in record { room = p.room; root = p.root; linked = λ o field l m. p.linked o field (omega arith) m }

  pub stands : {out : List ℤ} → Exact rows out → 41 ≤ number_at rows row 0 → (line : ℕ) → line ≡ get_or lines row 0 → Standing rows row line out
  stands exact h line e =
      let table = s.table in
      record { table = table; inside = n; at = e ∙ placed-here table n earlier (number-statement table.header rows table.plain row n (omega arith)); exact = exact }

-- ---- a row without lines of its own

pub own-none : (rows : List ℤ) (row : ℕ) (out : List ℤ) (k : ℕ) → k ≡ number_at rows row 0 → (k ≡ 41 → ⊥) → (k ≡ 43 → ⊥) → (k ≡ 44 → ⊥) → (k ≡ 52 → ⊥) → (k ≡ 57 → ⊥) → out ≡ put_all (own_lines rows row) out
unfolding own_lines
own-none rows row out k e a b c d f =
    rw (ne_eqb (number_at rows row 0) 41 (λ q. a (e ∙ q)), ne_eqb (number_at rows row 0) 43 (λ q. b (e ∙ q)), ne_eqb (number_at rows row 0) 44 (λ q. c (e ∙ q)), ne_eqb (number_at rows row 0) 52 (λ q. d (e ∙ q)), ne_eqb (number_at rows row 0) 57 (λ q. f (e ∙ q)))
    (puts_none out)

pub own-few : (rows : List ℤ) (row : ℕ) (out : List ℤ) → number_at rows row 0 < 41 → out ≡ put_all (own_lines rows row) out
own-few rows row out h =
    own-none rows row out (number_at rows row 0) refl (λ (q : number_at rows row 0 ≡ 41). omega arith) (λ (q : number_at rows row 0 ≡ 43). omega arith) (λ (q : number_at rows row 0 ≡ 44). omega arith)
    (λ (q : number_at rows row 0 ≡ 52). omega arith) (λ (q : number_at rows row 0 ≡ 57). omega arith)

-- ---- a row's own lines, by its kind

module _ {rows : List ℤ} {row line : ℕ} {out : List ℤ} (s : Standing rows row line out) where
  abbrev table : KernelTable rows
  table = s.table

  abbrev n : row < row_count rows
  n = s.inside

  -- the row's lines lie in the list
  row_room : 41 ≤ number_at rows row 0 → line + statement_lines (statement_at rows row) ≤ length (flat_of (contents rows))
  row_room h =
      let t = number-statement table.header rows table.plain row n (omega arith) in
      let at = s.at in
      omega (arith, row_within table.header rows table.plain row n t, size-split table n t)

  pub line_small : 41 ≤ number_at rows row 0 → line < 40980
  line_small h = omega (arith, row_room h, list-few table.header rows table.plain)

  -- a line of its own has room
  pub one-room : (k : ℕ) → number_at rows row 0 ≡ k → 41 ≤ k → (k ≡ 42 → ⊥) → (k ≡ 43 → ⊥) → (k ≡ 44 → ⊥) → (k ≡ 53 → ⊥) → 5 * line + 5 ≤ length out
  one-room k e h a b c d =
      let t = number-statement table.header rows table.plain row n (omega arith) in
      let exact = s.exact in
      omega (arith, row_room (omega arith), one_size table n t k e a b c (λ (q : k ≡ 40). omega arith) d)

  -- an assignment
  pub record AssignmentAt (a : ℕ) : Type 0 where
    pub inside : a < row_count rows
    pub assigns : is_assignment rows a ≡ true
    pub room : 5 * line + 5 ≤ length out

  pub assignment-at : number_at rows row 0 ≡ 41 → (a : ℕ) → a ≡ number_at rows row 1 → AssignmentAt a
  assignment-at k a e =
      let r = assign-of table.header rows table.plain row n k in
      let some : 41 ≤ 41 = omega arith in
      record {
        inside = rw e r.operand.inside;
        assigns = rw e r.assigns;
        room = one-room 41 k some (λ (q : 41 ≡ 42). omega arith) (λ (q : 41 ≡ 43). omega arith) (λ (q : 41 ≡ 44). omega arith) (λ (q : 41 ≡ 53). omega arith);
      }

  pub assign-own : number_at rows row 0 ≡ 41 → (after : List ℤ) (a : ℕ) → a ≡ number_at rows row 1 → after ≡ put_line line (operation_parts (operation_of (expression_at rows a))) out → after ≡ put_all (own_lines rows row) out
  unfolding own_lines
  assign-own k after a e f = rw k (puts_one out after (line_of rows row) _ (rw (s.at, e) at f))

  -- an if
  pub record IfAt (test y z : ℕ) : Type 0 where
    pub inside : test < row_count rows
    pub atom : is_atom rows test ≡ true
    pub room : 5 * (line + if_lines y z) ≤ length out
    pub few : line + if_lines y z < 65536

  -- a while
  pub record WhileAt (test body : ℕ) : Type 0 where
    pub inside : test < row_count rows
    pub atom : is_atom rows test ≡ true
    pub room : 5 * (line + while_lines (always (operand_of (expression_at rows test))) body) ≤ length out
    pub few : line + while_lines (always (operand_of (expression_at rows test))) body < 65536

  module _ {sizes : List ℕ} (sized : Sized rows 0 sizes) where
    pub yes-room : number_at rows row 0 ≡ 43 → number_at rows row 2 < length sizes
    yes-room k = true-room table n sized.room k

    pub no_room : number_at rows row 0 ≡ 43 → number_at rows row 3 < length sizes
    no_room k = false-room table n sized.room k

    pub loop-room : number_at rows row 0 ≡ 44 → number_at rows row 2 < length sizes
    loop-room k = body-room table n sized.room k

    yes-is : number_at rows row 0 ≡ 43 → (y first : ℕ) → first ≡ number_at rows row 2 → y ≡ slot sizes first → y ≡ list_lines rows (number_at rows row 2)
    yes-is k y first e f = f ∙ true-answer table n (sized-later table sized) k first e

    no-is : number_at rows row 0 ≡ 43 → (z second : ℕ) → second ≡ number_at rows row 3 → z ≡ slot sizes second → z ≡ list_lines rows (number_at rows row 3)
    no-is k z second e f = f ∙ false-answer table n (sized-later table sized) k second e

    body_is : number_at rows row 0 ≡ 44 → (body first : ℕ) → first ≡ number_at rows row 2 → body ≡ slot sizes first → body ≡ list_lines rows (number_at rows row 2)
    body_is k body first e f = f ∙ body-answer table n (sized-later table sized) k first e

    module _ (k : number_at rows row 0 ≡ 43) (test y z first second : ℕ) (e : test ≡ number_at rows row 1) (f : first ≡ number_at rows row 2) (g : y ≡ slot sizes first) (h : second ≡ number_at rows row 3) (i : z ≡ slot sizes second) where
      pub if-at : IfAt test y z
      if-at =
          let r = if-of table.header rows table.plain row n k in
          let size : if_lines y z ≡ statement_lines (statement_at rows row) = rw (yes-is k y first f g, no-is k z second h i, if-size table n k) in
          let exact = s.exact in
          let most = row_room (omega arith) in
          record { inside = rw e r.operand.inside; atom = rw e r.atom; room = omega arith; few = omega (arith, list-few table.header rows table.plain) }

      pub if-own : (after : List ℤ) → after ≡ put_all (if_own (operand_of (expression_at rows test)) y z line) out → after ≡ put_all (own_lines rows row) out
      unfolding own_lines
      if-own after q = rw k (rw (e, yes-is k y first f g, no-is k z second h i, s.at) at q)

    module _ (k : number_at rows row 0 ≡ 44) (test body first : ℕ) (e : test ≡ number_at rows row 1) (f : first ≡ number_at rows row 2) (g : body ≡ slot sizes first) where
      pub while-at : WhileAt test body
      while-at =
          let r = while-of table.header rows table.plain row n k in
          let size : while_lines (always (operand_of (expression_at rows test))) body ≡ statement_lines (statement_at rows row) = rw (e, body_is k body first f g, while-size table n k) in
          let exact = s.exact in
          let most = row_room (omega arith) in
          record { inside = rw e r.operand.inside; atom = rw e r.atom; room = omega arith; few = omega (arith, list-few table.header rows table.plain) }

      pub while-own : (after : List ℤ) → after ≡ put_all (while_own (always (operand_of (expression_at rows test))) (operand_of (expression_at rows test)) body line) out → after ≡ put_all (own_lines rows row) out
      unfolding own_lines
      while-own after q = rw k (rw (e, body_is k body first f g, s.at) at q)

  -- a goto
  module _ (k : number_at rows row 0 ≡ 52) {labels : List ℕ} (labelled : Labelled rows (row_count rows) labels) where
    pub label-few : number_at rows row 1 < 40980
    label-few = structured-labels (bounds_of Kernel table.header) rows table.plain.legal.structured row n (rw k)

    pub label-room : number_at rows row 1 < length labels
    label-room = let room = labelled.room in omega (arith, label-few)

    pub record GotoAt (to : ℕ) : Type 0 where
      pub is : to ≡ address_in (contents rows) (number_at rows row 1)
      pub small : to < 65536
      pub room : 5 * line + 5 ≤ length out

    pub goto-at : (label to : ℕ) → label ≡ number_at rows row 1 → to ≡ get_or labels label 0 → GotoAt to
    goto-at label to e f =
        let l = label-row (table.plain.legal.gotos_ahead row n k) in
        let there : get_or labels label 0 ≡ address_in (contents rows) (number_at rows row 1) = rw (e, ← l.number_is) (labelled.labelled l.row l.inside l.inside l.label) in
        let line-is : address_in (contents rows) (number_at rows l.row 1) ≡ line_of rows l.row = label-address table.header rows table.plain l.row l.inside l.label in
        let same : address_in (contents rows) (number_at rows row 1) ≡ address_in (contents rows) (number_at rows l.row 1) = ap (address_in (contents rows)) (sym l.number_is) in
        let few = line-few table l.inside (label-statement rows l.row l.label) in
        let some : 41 ≤ 52 = omega arith in
        record {
          is = f ∙ there;
          small = omega arith;
          room = one-room 52 k some (λ (q : 52 ≡ 42). omega arith) (λ (q : 52 ≡ 43). omega arith) (λ (q : 52 ≡ 44). omega arith) (λ (q : 52 ≡ 53). omega arith);
        }

    pub goto-own : (after : List ℤ) (label to : ℕ) → label ≡ number_at rows row 1 → to ≡ get_or labels label 0 → after ≡ put_line line (parts 52 0 unused unused (distance line to)) out → after ≡ put_all (own_lines rows row) out
    unfolding own_lines
    goto-own after label to e g f = rw k (puts_one out after (line_of rows row) (jump (address_in (contents rows) (number_at rows row 1))) (rw (s.at, (goto-at label to e g).is) at f))

  -- an abort
  pub abort-room : number_at rows row 0 ≡ 57 → 5 * line + 5 ≤ length out
  abort-room k = let some : 41 ≤ 57 = omega arith in one-room 57 k some (λ (q : 57 ≡ 42). omega arith) (λ (q : 57 ≡ 43). omega arith) (λ (q : 57 ≡ 44). omega arith) (λ (q : 57 ≡ 53). omega arith)

  pub abort-own : number_at rows row 0 ≡ 57 → (after : List ℤ) → after ≡ put_line line (parts 57 0 unused unused (pos 0)) out → after ≡ put_all (own_lines rows row) out
  unfolding own_lines
  abort-own k after f = rw k (puts_one out after (line_of rows row) abort (rw s.at at f))
