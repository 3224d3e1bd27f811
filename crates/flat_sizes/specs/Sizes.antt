-- Sizes: the lines of a statement, by its kind, from the sizes of the lists at its links; and the table of sizes with one row more.
use Rattle.std.specs.Prelude.{◌≡◌, Bool, true, false, List, ℤ, length, get_or, set}
use Rattle.std.proofs.Math.Path.{refl, ap}
use Rattle.std.proofs.Common.{sym, subst, ◌∙◌, arith, length-set, get_or-set_same, get_or-set_other, ne_eqb}
use Prim.Native.Nat.{ℕ, zero, suc, ◌+◌, ◌-◌, ◌≤◌, ◌<◌}
use Rattle.std.proofs.Math.Decide.{ℕ_discrete}
use Rattle.std.proofs.Math.Arith.{lt_of_le-ne}
use Rattle.words.specs.Table.{row_count, word_at, number_at}
use Rattle.words.specs.Links.{is_statement}
use Rattle.language.specs.Decode.{expression_at, statement_at, items_at, list_at}
use Rattle.check_kernel_statements.specs.Statements.{is_atom}
use Rattle.accepted.proofs.Statements.{list-some}
use Rattle.flat_kernel_rows.specs.KernelTable.{KernelTable}
use Rattle.flat_kernel_rows.proofs.Rows.{Lone, Listed, KernelRow, empty-row, assign-row, block-row, if-row, while-row, goto-row, label-row, abort-row, next-at, block_at, if-of, while-of, kernel-row, label-list, statement-list, statement-number}
use Rattle.flat_fate.specs.Code.{operand_of, always, if_lines, while_lines, statement_lines, items_lines}
use Rattle.flat_rows.specs.Places.{list_lines, test_of, line_of}
use Rattle.arithmetic.specs.Arithmetic.{is_true}
use Rattle.flat_rows.specs.Atoms.{constant-operand, variable-operand, other-atom}
use Rattle.flat_rows.proofs.Standing.{branch-lines, list-few, row_within}
use Rattle.flat_sizes.specs.Tables.{slot, Sized}

module _ {rows : List ℤ} (table : KernelTable rows) where
  -- ---- sizes at links

  -- the row at a link, if there is one, is a later statement
  pub slot-lines : {k : ℕ} {sizes : List ℕ} → Sized rows k sizes → (l : ℕ) → (0 < l → (k ≤ l) × (l < row_count rows) × (is_statement rows l ≡ true)) → slot sizes l ≡ list_lines rows l
  unfolding list_lines items_lines
  slot-lines s zero h = refl
  slot-lines s (suc l) h = let t = h (omega arith) in rw (ne_eqb (suc l) 0 (λ (q : suc l ≡ 0). omega arith)) (s.sized (suc l) t.0 t.1 t.2 ∙ ap items_lines (sym (list-some rows (suc l) (omega arith))))

  module _ {row : ℕ} (n : row < row_count rows) where
    pub listed-slot : {sizes : List ℕ} {field : ℕ} → Sized rows (row + 1) sizes → Listed rows row field → slot sizes (number_at rows row field) ≡ list_lines rows (number_at rows row field)
    listed-slot s l = slot-lines s _ (λ p. (let later = l.later p in omega arith, l.inside p, l.statement p))

    pub lone-slot : {sizes : List ℕ} {field : ℕ} → Sized rows (row + 1) sizes → Lone rows row field → slot sizes (number_at rows row field) ≡ list_lines rows (number_at rows row field)
    lone-slot s l = slot-lines s _ (λ p. (let later = l.later in omega arith, l.inside, l.statement))

    -- ---- the lines of a statement

    pub block_size : number_at rows row 0 ≡ 42 → statement_lines (statement_at rows row) ≡ list_lines rows (number_at rows row 1)
    unfolding statement_lines list_lines
    block_size k = rw (block_at table.header rows table.plain row n k).is

    pub if-size : number_at rows row 0 ≡ 43 → statement_lines (statement_at rows row) ≡ if_lines (list_lines rows (number_at rows row 2)) (list_lines rows (number_at rows row 3))
    unfolding statement_lines
    if-size k =
        let r = if-of table.header rows table.plain row n k in
        rw (r.is, branch-lines table.header rows table.plain r.on_true, branch-lines table.header rows table.plain r.on_false)

    pub while-size : number_at rows row 0 ≡ 44 → statement_lines (statement_at rows row) ≡ while_lines (always (test_of rows row)) (list_lines rows (number_at rows row 2))
    unfolding statement_lines
    while-size k =
        let r = while-of table.header rows table.plain row n k in
        rw (r.is, branch-lines table.header rows table.plain r.body)

    module _ (t : is_statement rows row ≡ true) where
      abbrev here_is : KernelRow rows row
      here_is = kernel-row table.header rows table.plain row n t

      -- an assignment, a goto, an abort
      pub one_size : (k : ℕ) → number_at rows row 0 ≡ k → (k ≡ 42 → ⊥) → (k ≡ 43 → ⊥) → (k ≡ 44 → ⊥) → (k ≡ 40 → ⊥) → (k ≡ 53 → ⊥) → statement_lines (statement_at rows row) ≡ 1
      unfolding statement_lines
      one_size k e a b c d f = by here_is
        where
          by : KernelRow rows row → statement_lines (statement_at rows row) ≡ 1
          by (empty-row q r) = absurd (d (sym e ∙ q))
          by (assign-row q r) = rw r.is
          by (block-row q r) = absurd (a (sym e ∙ q))
          by (if-row q r) = absurd (b (sym e ∙ q))
          by (while-row q r) = absurd (c (sym e ∙ q))
          by (goto-row q r) = rw r
          by (label-row q r) = absurd (f (sym e ∙ q))
          by (abort-row q r) = rw r

      -- an empty statement, a label
      pub none-size : (k : ℕ) → number_at rows row 0 ≡ k → (k ≡ 41 → ⊥) → (k ≡ 42 → ⊥) → (k ≡ 43 → ⊥) → (k ≡ 44 → ⊥) → (k ≡ 52 → ⊥) → (k ≡ 57 → ⊥) → statement_lines (statement_at rows row) ≡ 0
      unfolding statement_lines
      none-size k e a b c d f g = by here_is
        where
          by : KernelRow rows row → statement_lines (statement_at rows row) ≡ 0
          by (empty-row q r) = rw r
          by (assign-row q r) = absurd (a (sym e ∙ q))
          by (block-row q r) = absurd (b (sym e ∙ q))
          by (if-row q r) = absurd (c (sym e ∙ q))
          by (while-row q r) = absurd (d (sym e ∙ q))
          by (goto-row q r) = absurd (f (sym e ∙ q))
          by (label-row q r) = rw r
          by (abort-row q r) = absurd (g (sym e ∙ q))

      -- The lines from a row on: its statement's, and those behind it.
      pub size-split : items_lines (items_at rows row) ≡ statement_lines (statement_at rows row) + list_lines rows (number_at rows row 5)
      unfolding items_lines list_lines statement_lines
      size-split = by (ℕ_discrete (number_at rows row 0) 53)
        where
          label-none : number_at rows row 0 ≡ 53 → KernelRow rows row → statement_lines (statement_at rows row) ≡ 0
          label-none k (empty-row q r) = absurd (omega arith)
          label-none k (assign-row q r) = absurd (omega arith)
          label-none k (block-row q r) = absurd (omega arith)
          label-none k (if-row q r) = absurd (omega arith)
          label-none k (while-row q r) = absurd (omega arith)
          label-none k (goto-row q r) = absurd (omega arith)
          label-none k (label-row q r) = rw r
          label-none k (abort-row q r) = absurd (omega arith)

          by : Dec (number_at rows row 0 ≡ 53) → items_lines (items_at rows row) ≡ statement_lines (statement_at rows row) + items_lines (list_at rows (number_at rows row 5))
          by (yes k) =
              let list : items_lines (items_at rows row) ≡ items_lines (list_at rows (number_at rows row 5)) = ap items_lines (label-list table.header rows table.plain row n k t) in
              omega (arith, label-none k here_is)
          by (no k) = ap items_lines (statement-list table.header rows table.plain row n k t)

      pub next-slot : {sizes : List ℕ} → Sized rows (row + 1) sizes → slot sizes (number_at rows row 5) ≡ list_lines rows (number_at rows row 5)
      next-slot s = listed-slot s (next-at table.header rows table.plain row n t)

      pub size_few : items_lines (items_at rows row) < 40980
      size_few = omega (arith, row_within table.header rows table.plain row n t, list-few table.header rows table.plain)

      pub line-few : line_of rows row + items_lines (items_at rows row) < 40980
      line-few = omega (arith, row_within table.header rows table.plain row n t, list-few table.header rows table.plain)

  -- ---- room in a table that has a number for each row

  module _ {row m : ℕ} (n : row < row_count rows) (room : row_count rows ≤ m) where
    listed-room : {field : ℕ} → Listed rows row field → number_at rows row field < m
    listed-room {field} l = by (number_at rows row field) refl
      where
        by : (b : ℕ) → number_at rows row field ≡ b → number_at rows row field < m
        by zero z = omega arith
        by (suc b) z = let inside = l.inside (omega arith) in omega arith

    pub block_room : number_at rows row 0 ≡ 42 → number_at rows row 1 < m
    block_room k = listed-room (block_at table.header rows table.plain row n k).listed

    pub next-room : is_statement rows row ≡ true → number_at rows row 5 < m
    next-room t = listed-room (next-at table.header rows table.plain row n t)

    pub true-room : number_at rows row 0 ≡ 43 → number_at rows row 2 < m
    true-room k = let inside = (if-of table.header rows table.plain row n k).on_true.inside in omega arith

    pub false-room : number_at rows row 0 ≡ 43 → number_at rows row 3 < m
    false-room k = let inside = (if-of table.header rows table.plain row n k).on_false.inside in omega arith

    pub body-room : number_at rows row 0 ≡ 44 → number_at rows row 2 < m
    body-room k = let inside = (while-of table.header rows table.plain row n k).body.inside in omega arith

  -- ---- what the code works out

  module _ {row : ℕ} {sizes : List ℕ} (n : row < row_count rows) (s : Sized rows (row + 1) sizes) where
    pub block-answer : number_at rows row 0 ≡ 42 → (link : ℕ) → link ≡ number_at rows row 1 → slot sizes link ≡ statement_lines (statement_at rows row)
    block-answer k link e = ap (slot sizes) e ∙ listed-slot n s (block_at table.header rows table.plain row n k).listed ∙ sym (block_size n k)

    pub true-answer : number_at rows row 0 ≡ 43 → (link : ℕ) → link ≡ number_at rows row 2 → slot sizes link ≡ list_lines rows (number_at rows row 2)
    true-answer k link e = ap (slot sizes) e ∙ lone-slot n s (if-of table.header rows table.plain row n k).on_true

    pub false-answer : number_at rows row 0 ≡ 43 → (link : ℕ) → link ≡ number_at rows row 3 → slot sizes link ≡ list_lines rows (number_at rows row 3)
    false-answer k link e = ap (slot sizes) e ∙ lone-slot n s (if-of table.header rows table.plain row n k).on_false

    pub body-answer : number_at rows row 0 ≡ 44 → (link : ℕ) → link ≡ number_at rows row 2 → slot sizes link ≡ list_lines rows (number_at rows row 2)
    body-answer k link e = ap (slot sizes) e ∙ lone-slot n s (while-of table.header rows table.plain row n k).body

    pub if-answer : number_at rows row 0 ≡ 43 → (y z : ℕ) → y ≡ list_lines rows (number_at rows row 2) → z ≡ list_lines rows (number_at rows row 3) → if_lines y z ≡ statement_lines (statement_at rows row)
    if-answer k y z e f = rw (e, f) (sym (if-size n k))

    pub while-answer : number_at rows row 0 ≡ 44 → (a : ℕ) (endless : Bool) (y : ℕ) → a ≡ number_at rows row 1 → endless ≡ always (operand_of (expression_at rows a)) → y ≡ list_lines rows (number_at rows row 2)
        → while_lines endless y ≡ statement_lines (statement_at rows row)
    while-answer k a endless y e f g = rw (f, e, g) (sym (while-size n k))

    pub row-sum : is_statement rows row ≡ true → (own behind next : ℕ) → own ≡ statement_lines (statement_at rows row) → behind ≡ slot sizes next → next ≡ number_at rows row 5 → own + behind ≡ items_lines (items_at rows row)
    row-sum t own behind next e f g =
        let there : slot sizes next ≡ list_lines rows (number_at rows row 5) = ap (slot sizes) g ∙ next-slot n t s in
        omega (arith, size-split n t)

  pub test-atom : {row : ℕ} (n : row < row_count rows) (a : ℕ) → a ≡ number_at rows row 1 → number_at rows row 0 ≡ 44 → (a < row_count rows) × (is_atom rows a ≡ true)
  test-atom {row} n a e k = let r = while-of table.header rows table.plain row n k in rw e (r.operand.inside, r.atom)

  -- ---- a test that always holds

  pub always-constant : (a : ℕ) → number_at rows a 0 ≡ 1 → is_true (word_at rows a 1) ≡ always (operand_of (expression_at rows a))
  always-constant a k = rw (constant-operand table a k)

  pub always-variable : (a : ℕ) → is_atom rows a ≡ true → (number_at rows a 0 ≡ 1 → ⊥) → false ≡ always (operand_of (expression_at rows a))
  always-variable a e h = rw (variable-operand table a (other-atom table a e h))

  -- ---- one row more

  pub sized-at : {k l : ℕ} {sizes : List ℕ} → k ≡ l → Sized rows k sizes → Sized rows l sizes
  sized-at {sizes = sizes} e s = subst (λ (k : ℕ). Sized rows k sizes) e s

  pub sized-later : {k : ℕ} {sizes : List ℕ} → Sized rows 0 sizes → Sized rows k sizes
  sized-later s = record { room = s.room; sized = λ row l n t. s.sized row (omega arith) n t }

  -- what is handed to the item behind
  module _ {row : ℕ} {sizes : List ℕ} (n : row < row_count rows) (s : Sized rows 0 sizes) (t : is_statement rows row ≡ true) where
    pub own_value : (size behind next : ℕ) → size ≡ get_or sizes row 0 → behind ≡ slot sizes next → next ≡ number_at rows row 5 → size ≡ statement_lines (statement_at rows row) + behind
    own_value size behind next e f g =
        let there : slot sizes next ≡ list_lines rows (number_at rows row 5) = ap (slot sizes) g ∙ next-slot n t (sized-later s) in
        omega (arith, size-split n t, s.sized row (omega arith) n t)

  pub sized-none : (sizes : List ℕ) → row_count rows ≤ length sizes → Sized rows (row_count rows) sizes
  sized-none sizes room = record { room = room; sized = λ row l n t. absurd (omega arith) }

  pub sized_row : (sizes : List ℕ) (row value : ℕ) → Sized rows (row + 1) sizes → row < row_count rows → (is_statement rows row ≡ true → value ≡ items_lines (items_at rows row)) → Sized rows row (set sizes row value)
  sized_row sizes row value s n v =
      let room = s.room in
      record {
        room = omega (arith, length-set sizes row value);
        sized = λ other least inside t. by other least inside t (ℕ_discrete other row);
      }
    where
      by : (other : ℕ) → row ≤ other → other < row_count rows → is_statement rows other ≡ true → Dec (other ≡ row) → get_or (set sizes row value) other 0 ≡ items_lines (items_at rows other)
      by other least inside t (yes q) =
          let room = s.room in
          rw q (get_or-set_same sizes row value 0 (omega arith) ∙ v (rw q at t))
      by other least inside t (no q) = get_or-set_other sizes row other value 0 q ∙ s.sized other (let l = lt_of_le-ne least (λ (x : row ≡ other). q (sym x)) in omega arith) inside t

  -- a row that is no statement has no size
  pub sized-other : (sizes : List ℕ) (row : ℕ) → Sized rows (row + 1) sizes → number_at rows row 0 < 40 → Sized rows row sizes
  sized-other sizes row s h =
      record {
        room = s.room;
        sized = λ other least inside t. by other least inside t (ℕ_discrete other row);
      }
    where
      by : (other : ℕ) → row ≤ other → other < row_count rows → is_statement rows other ≡ true → Dec (other ≡ row) → get_or sizes other 0 ≡ items_lines (items_at rows other)
      by other least inside t (yes q) = absurd (let l = statement-number rows other t in omega (arith, ap (λ (r : ℕ). number_at rows r 0) q))
      by other least inside t (no q) = s.sized other (let l = lt_of_le-ne least (λ (x : row ≡ other). q (sym x)) in omega arith) inside t
