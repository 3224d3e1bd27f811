-- The words of kernel statements, as the leaves put them together, are those of emission; and how many rows they are.
use mathlib.Core.Path.{◌≡◌, refl, subst}
use mathlib.Core.Bool.{Bool, true, false}
use mathlib.Core.List.{List, ◌++◌}
use Prim.Native.Nat.{ℕ, ◌+◌, ◌*◌, ◌≤◌, ◌<◌}
use native.Mathlib.Omega.{arith}
use lib.IntN.{ℤ, pos}
use lib.ListN.{length}
use Rattle.words.specs.Word.{pick}
use Rattle.words.specs.declared.Operator.{Operator}
use Rattle.words.specs.declared.Operator.TheVariants.{Add, Subtract, Multiply, Divide, Remainder, Less, Greater, LessOrEqual, GreaterOrEqual, Equal, NotEqual}
use Rattle.language.specs.Trees.{read, minus, binary, assign, variable, element, present, empty, express, block, if_else, goto, abort, give_back, label, none, ◌then◌, ◌here◌}
use Rattle.language.specs.Sizes.{expression_rows, statement_rows}
use Rattle.language_emission.specs.Emission.{row_of, operator_number, emit_expression, emit_items}
use Rattle.words.specs.Over.{over}
use Rattle.writers_rows.specs.Atoms.{atom_tree, atom_row, AtomFits}
use Rattle.writers_rows.specs.Straight.{target_rows}
use Rattle.writers_rows.specs.Chain.{PutWords}
use Rattle.writers_rows.specs.declared.KernelAtom.{KernelAtom}
use Rattle.writers_rows.specs.declared.KernelAtom.TheVariants.{Constant, Variable}

pub atom-low : {x : KernelAtom} {n : ℕ} → AtomFits x → x ≡ Variable n → n < 65536
atom-low {x} {n} f e = subst (λ (x : KernelAtom). AtomFits x) e f

-- the same words, said otherwise
pub worded : (u w l m : List ℤ) → m ≡ over u l → u ≡ w → m ≡ over w l
worded u w l m e h = rw h at e

pub pick-most : (b : Bool) (n : ℕ) → pick b n 0 ≤ n
pick-most true n = omega arith
pick-most false n = omega arith

pub operator-most : (operator : Operator) → operator_number operator ≤ 10
operator-most Add = omega arith
operator-most Subtract = omega arith
operator-most Multiply = omega arith
operator-most Divide = omega arith
operator-most Remainder = omega arith
operator-most Less = omega arith
operator-most Greater = omega arith
operator-most LessOrEqual = omega arith
operator-most GreaterOrEqual = omega arith
operator-most Equal = omega arith
operator-most NotEqual = omega arith

-- ---- how many rows were written

pub rows-put : (n : ℕ) (u l m : List ℤ) → m ≡ over u l → length u ≡ 6 * n → PutWords u n l m
rows-put n u l m e h = record { table = e; size = h }

module _ (l m : List ℤ) where
  pub atom-put : (x : KernelAtom) → m ≡ over (atom_row x) l → PutWords (atom_row x) 1 l m
  atom-put (Constant v) e = record { table = e; size = refl }
  atom-put (Variable n) e = record { table = e; size = refl }

  pub if-put : (base second next : ℕ) (x : KernelAtom) → m ≡ over (row_of 43 (pos (base + 1)) (base + 2) second 0 next ++ emit_expression (atom_tree x) (base + 1)) l
      → PutWords (row_of 43 (pos (base + 1)) (base + 2) second 0 next ++ emit_expression (atom_tree x) (base + 1)) 2 l m
  unfolding emit_expression
  if-put base second next (Constant v) e = record { table = e; size = refl }
  if-put base second next (Variable n) e = record { table = e; size = refl }

  pub operand-put : (number kind a b size base : ℕ) (follows : Bool) (x : KernelAtom) → m ≡ over ((target_rows 2 number 0 (base + 3) size base follows ++ row_of kind (pos a) b 0 0 0) ++ atom_row x) l
      → PutWords ((target_rows 2 number 0 (base + 3) size base follows ++ row_of kind (pos a) b 0 0 0) ++ atom_row x) 5 l m
  operand-put number kind a b size base follows (Constant v) e = record { table = e; size = refl }
  operand-put number kind a b size base follows (Variable n) e = record { table = e; size = refl }

-- ---- one row

pub atom-words : (x : KernelAtom) (base : ℕ) → atom_row x ≡ emit_expression (atom_tree x) base
unfolding emit_expression
atom-words (Constant v) base = refl
atom-words (Variable n) base = refl

module _ (base : ℕ) (follows : Bool) where
  pub empty-words : row_of 40 (pos 0) 0 0 0 (pick follows (base + 1) 0) ≡ emit_items follows (empty then none) base
  unfolding emit_items statement_rows
  empty-words = refl

  pub goto-words : (number : ℕ) → row_of 52 (pos number) 0 0 0 (pick follows (base + 1) 0) ≡ emit_items follows (goto number then none) base
  unfolding emit_items statement_rows
  goto-words number = refl

  pub abort-words : row_of 57 (pos 0) 0 0 0 (pick follows (base + 1) 0) ≡ emit_items follows (abort then none) base
  unfolding emit_items statement_rows
  abort-words = refl

  pub label-words : (number : ℕ) → row_of 53 (pos number) 0 0 0 (pick follows (base + 1) 0) ≡ emit_items follows (label number here none) base
  unfolding emit_items
  label-words number = refl

-- ---- several rows

-- The rows of a statement, counted from its first one and from those before them.
record Sums (base : ℕ) : Type 0 where
  two : base + 1 + 1 ≡ base + 2
  three : base + 2 + 1 ≡ base + 3
  four : base + 3 + 1 ≡ base + 4
  five : base + 4 + 1 ≡ base + 5
  two_more : base + 2 + 2 ≡ base + 4

sums : (base : ℕ) → Sums base
sums base = record { two = omega arith; three = omega arith; four = omega arith; five = omega arith; two_more = omega arith }

module _ (base : ℕ) (follows : Bool) where
  pub copy-words : (number : ℕ) (x : KernelAtom) → target_rows 2 number 0 (base + 3) 4 base follows ++ atom_row x ≡ emit_items follows (express (assign (variable number) (atom_tree x)) then none) base
  unfolding emit_items emit_expression statement_rows expression_rows
  copy-words number (Constant v) = let s = sums base in cc
  copy-words number (Variable n) = let s = sums base in cc

  pub minus-words : (number : ℕ) (x : KernelAtom)
      → (target_rows 2 number 0 (base + 3) 5 base follows ++ row_of 4 (pos (base + 4)) 0 0 0 0) ++ atom_row x ≡ emit_items follows (express (assign (variable number) (minus (atom_tree x))) then none) base
  unfolding emit_items emit_expression statement_rows expression_rows
  minus-words number (Constant v) = let s = sums base in cc
  minus-words number (Variable n) = let s = sums base in cc

  pub fetch-words : (number array : ℕ) (x : KernelAtom)
      → (target_rows 2 number 0 (base + 3) 5 base follows ++ row_of 3 (pos array) (base + 4) 0 0 0) ++ atom_row x ≡ emit_items follows (express (assign (variable number) (read (element array (atom_tree x)))) then none) base
  unfolding emit_items emit_expression statement_rows expression_rows
  fetch-words number array (Constant v) = let s = sums base in cc
  fetch-words number array (Variable n) = let s = sums base in cc

  pub binary-words : (number : ℕ) (operator : Operator) (x y : KernelAtom) {o : ℕ} → o ≡ operator_number operator
      → ((target_rows 2 number 0 (base + 3) 6 base follows ++ row_of (6 + o) (pos (base + 4)) (base + 5) 0 0 0) ++ atom_row x) ++ atom_row y
      ≡ emit_items follows (express (assign (variable number) (binary operator (atom_tree x) (atom_tree y))) then none) base
  unfolding emit_items emit_expression statement_rows expression_rows
  binary-words number operator (Constant v) (Constant w) e = let s = sums base in cc
  binary-words number operator (Constant v) (Variable k) e = let s = sums base in cc
  binary-words number operator (Variable n) (Constant w) e = let s = sums base in cc
  binary-words number operator (Variable n) (Variable k) e = let s = sums base in cc

  pub store-words : (array : ℕ) (x y : KernelAtom)
      → (target_rows 3 array (base + 3) (base + 4) 5 base follows ++ atom_row x) ++ atom_row y ≡ emit_items follows (express (assign (element array (atom_tree x)) (atom_tree y)) then none) base
  unfolding emit_items emit_expression statement_rows expression_rows
  store-words array (Constant v) (Constant w) = let s = sums base in cc
  store-words array (Constant v) (Variable k) = let s = sums base in cc
  store-words array (Variable n) (Constant w) = let s = sums base in cc
  store-words array (Variable n) (Variable k) = let s = sums base in cc

  pub return-words : (x : KernelAtom) {next : ℕ} → next ≡ pick follows (base + 2) 0 → row_of 60 (pos (base + 1)) 0 0 0 next ++ atom_row x ≡ emit_items follows (give_back (present (atom_tree x)) then none) base
  unfolding emit_items emit_expression statement_rows expression_rows
  return-words (Constant v) e = let s = sums base in cc
  return-words (Variable n) e = let s = sums base in cc

  pub exit-words : (number : ℕ) (x : KernelAtom) {next : ℕ} → next ≡ pick follows (base + 5) 0
      → ((row_of 43 (pos (base + 1)) (base + 2) (base + 3) 0 next ++ emit_expression (atom_tree x) (base + 1)) ++ row_of 42 (pos 0) 0 0 0 0) ++ (row_of 42 (pos (base + 3 + 1)) 0 0 0 0 ++ row_of 52 (pos number) 0 0 0 0)
      ≡ emit_items follows (if_else (atom_tree x) (block none) (block (goto number then none)) then none) base
  unfolding emit_items emit_expression statement_rows expression_rows
  exit-words number (Constant v) e = let s = sums base in cc
  exit-words number (Variable n) e = let s = sums base in cc

pub jump-words : (number to base : ℕ)
    → ((row_of 43 (pos (base + 1)) (base + 2) (base + 4) 0 (base + 5) ++ emit_expression (read (variable number)) (base + 1)) ++ (row_of 42 (pos (base + 2 + 1)) 0 0 0 0 ++ row_of 52 (pos to) 0 0 0 0)) ++ row_of 42 (pos 0) 0 0 0 0
    ≡ emit_items true (if_else (read (variable number)) (block (goto to then none)) (block none) then none) base
unfolding emit_items emit_expression statement_rows expression_rows
jump-words number to base = let s = sums base in cc
