-- Values: what an assignment's rows hold: what may be assigned to a variable, by the number of its kind; a place and its value.
use Rattle.std.specs.Prelude.{◌≡◌, true, List, ℕ, ◌+◌, ◌*◌, ◌≤◌, ◌<◌, ℤ, length}
use Rattle.std.proofs.Common.{sym, ap, ◌∙◌, arith}
use Rattle.words.specs.Table.{row_count, number_at}
use Rattle.language.specs.Decode.{expression_at}
use Rattle.check_kernel_statements.specs.Statements.{is_atom, fits_variable, is_assignment}
use Rattle.flat_kernel_rows.specs.KernelTable.{KernelTable}
use Rattle.flat.specs.Words.{operation_parts}
use Rattle.flat_fate.specs.Code.{assigned, operation_of}
use Rattle.flat_rows.specs.Operations.{ValueAt, atom-value, minus_value, operation-value, element-value, value-at, variable-few, array-few, assign-parts, assign-five, assign-fits, element-place-at}
use Rattle.flat_rows.specs.LinesPut.{put_line}
use Rattle.flat_lines.specs.Lent.{Assigning}

module _ {rows : List ℤ} (table : KernelTable rows) (v : ℕ) (e : fits_variable rows v ≡ true) where
  pub copied : number_at rows v 0 < 3 → is_atom rows v ≡ true
  copied h = by (value-at table v e)
    where
      by : ValueAt table v → is_atom rows v ≡ true
      by (atom-value a b) = b
      by (minus_value a b) = absurd (omega arith)
      by (operation-value a b c d) = absurd (omega arith)
      by (element-value a b) = absurd (omega arith)

  pub fetched : number_at rows v 0 ≡ 3 → is_atom rows (number_at rows v 2) ≡ true
  fetched k = by (value-at table v e)
    where
      by : ValueAt table v → is_atom rows (number_at rows v 2) ≡ true
      by (atom-value a b) = absurd (omega arith)
      by (minus_value a b) = absurd (omega arith)
      by (operation-value a b c d) = absurd (omega arith)
      by (element-value a b) = b

  pub negated : number_at rows v 0 ≡ 4 → is_atom rows (number_at rows v 1) ≡ true
  negated k = by (value-at table v e)
    where
      by : ValueAt table v → is_atom rows (number_at rows v 1) ≡ true
      by (atom-value a b) = absurd (omega arith)
      by (minus_value a b) = b
      by (operation-value a b c d) = absurd (omega arith)
      by (element-value a b) = absurd (omega arith)

  pub record Operated : Type 0 where
    pub least : 6 ≤ number_at rows v 0
    pub most : number_at rows v 0 ≤ 16
    pub left : is_atom rows (number_at rows v 1) ≡ true
    pub right : is_atom rows (number_at rows v 2) ≡ true

  pub operated : 3 ≤ number_at rows v 0 → (number_at rows v 0 ≡ 3 → ⊥) → (number_at rows v 0 ≡ 4 → ⊥) → Operated
  operated h k l = by (value-at table v e)
    where
      by : ValueAt table v → Operated
      by (atom-value a b) = absurd (omega arith)
      by (minus_value a b) = absurd (l a)
      by (operation-value a b c d) = record { least = a; most = b; left = c; right = d }
      by (element-value a b) = absurd (k a)

-- ---- the place and the value of an assignment

module _ {rows : List ℤ} (table : KernelTable rows) (e : ℕ) (n : e < row_count rows) (g : is_assignment rows e ≡ true) where
  -- what is assigned to an element is an atom
  pub value-here : (number_at rows (number_at rows e 1) 0 ≡ 2 → ⊥) → (v : ℕ) → v ≡ number_at rows e 2 → (v < row_count rows) × (is_atom rows v ≡ true)
  value-here h v b = rw b ((assign-parts table e n g).value_inside, (element-place-at table e n g h).value-atom)

  module _ (p : ℕ) (a : p ≡ number_at rows e 1) where
    pub place_here : p < row_count rows
    place_here = rw a (assign-parts table e n g).place_inside

    pub is-variable : (k : ℕ) → k ≡ number_at rows p 0 → k ≡ 2 → number_at rows (number_at rows e 1) 0 ≡ 2
    is-variable k d f = ap (λ (l : ℕ). number_at rows l 0) (sym a) ∙ sym d ∙ f

    pub is-element : (k : ℕ) → k ≡ number_at rows p 0 → (k ≡ 2 → ⊥) → number_at rows (number_at rows e 1) 0 ≡ 2 → ⊥
    is-element k d f q = f (d ∙ ap (λ (l : ℕ). number_at rows l 0) a ∙ q)

    -- an element: its array and its index
    pub array-here : (number_at rows (number_at rows e 1) 0 ≡ 2 → ⊥) → (t : ℕ) → t ≡ number_at rows p 1 → t < 65536
    array-here h t c = rw (c, a) (array-few table (number_at rows e 1) (assign-parts table e n g).place_inside (element-place-at table e n g h).three)

    pub index-here : (number_at rows (number_at rows e 1) 0 ≡ 2 → ⊥) → (j : ℕ) → j ≡ number_at rows p 2 → (j < row_count rows) × (is_atom rows j ≡ true)
    index-here h j c = let o = element-place-at table e n g h in rw (c, a) (o.element-is.inside, o.index-atom)

    -- a variable: what is assigned to it
    module _ (v t k : ℕ) (b : v ≡ number_at rows e 2) (c : t ≡ number_at rows p 1) (d : k ≡ number_at rows p 0) (f : k ≡ 2) where
      pub assigning : {line : ℕ} {out : List ℤ} → 5 * line + 5 ≤ length out → Assigning rows v line t out
      assigning room = record { table = table; inside = rw b (assign-parts table e n g).value_inside; room = room; few = rw c (variable-few table p place_here (sym d ∙ f)) }

      pub fits-here : fits_variable rows v ≡ true
      fits-here = rw b (assign-fits table e n g (is-variable k d f))

      pub assigned-as : (out after : List ℤ) (line : ℕ) → after ≡ put_line line (operation_parts (assigned t (expression_at rows v))) out → after ≡ put_line line (operation_parts (operation_of (expression_at rows e))) out
      assigned-as out after line q = q ∙ ap (λ o. put_line line o out) (rw c (assign-five table e n g (is-variable k d f) p v a b))
