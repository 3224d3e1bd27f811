-- Laws of the leaves: what they wrote, as lists of kernel items with their rows.
use Rattle.std.specs.Prelude.{◌≡◌, Bool, List, ℕ, ◌≤◌, ℤ}
use Rattle.std.proofs.Math.Path.{refl}
use Rattle.std.proofs.Common.{arith}
use Rattle.words.specs.declared.Operator.{Operator}
use Rattle.language.specs.Trees.{read, binary, assign, Place, variable, element, present, express, block, if_else, goto, abort, give_back, label, Items, none, ◌then◌, ◌here◌}
use Rattle.language.specs.Sizes.{expression_rows, items_rows}
use Rattle.translation.specs.Translate.{place_taken, atom_of}
use Rattle.language_emission.specs.Emission.{emit_items}
use Rattle.translation.proofs.TranslateBounds.{taken_most}
use Rattle.words.specs.Over.{over}
use Rattle.writers_rows.specs.Atoms.{atom_tree}
use Rattle.writers_rows.specs.Chain.{Wrote}
use Rattle.writers_rows.specs.declared.KernelAtom.{KernelAtom}
use Rattle.writers_rows.specs.declared.KernelAtom.TheVariants.{Constant, Variable}

-- the same items, said otherwise
pub recoded : (follows : Bool) (is is' : Items) (base : ℕ) (l m : List ℤ) → m ≡ over (emit_items follows is base) l → is ≡ is' → m ≡ over (emit_items follows is' base) l
recoded follows is is' base l m e h = rw h at e

-- nothing was written
pub nothing-wrote : (follows : Bool) (base : ℕ) (l : List ℤ) → l ≡ over (emit_items follows none base) l
unfolding over emit_items
nothing-wrote follows base l = refl

module _ (follows : Bool) (base : ℕ) (l m : List ℤ) where
  pub copy-wrote : (number : ℕ) (x : KernelAtom) → m ≡ over (emit_items follows (express (assign (variable number) (atom_tree x)) then none) base) l → Wrote follows (express (assign (variable number) (atom_tree x)) then none) base 4 l m
  unfolding items_rows expression_rows
  copy-wrote number (Constant v) e = record { table = e; size = refl }
  copy-wrote number (Variable n) e = record { table = e; size = refl }

  pub binary-wrote : (number : ℕ) (operator : Operator) (x y : KernelAtom) → m ≡ over (emit_items follows (express (assign (variable number) (binary operator (atom_tree x) (atom_tree y))) then none) base) l
      → Wrote follows (express (assign (variable number) (binary operator (atom_tree x) (atom_tree y))) then none) base 6 l m
  unfolding items_rows expression_rows
  binary-wrote number operator (Constant v) (Constant w) e = record { table = e; size = refl }
  binary-wrote number operator (Constant v) (Variable k) e = record { table = e; size = refl }
  binary-wrote number operator (Variable n) (Constant w) e = record { table = e; size = refl }
  binary-wrote number operator (Variable n) (Variable k) e = record { table = e; size = refl }

  pub fetch-wrote : (number array : ℕ) (x : KernelAtom) → m ≡ over (emit_items follows (express (assign (variable number) (read (element array (atom_tree x)))) then none) base) l
      → Wrote follows (express (assign (variable number) (read (element array (atom_tree x)))) then none) base 5 l m
  unfolding items_rows expression_rows
  fetch-wrote number array (Constant v) e = record { table = e; size = refl }
  fetch-wrote number array (Variable n) e = record { table = e; size = refl }

  pub store_wrote : (array : ℕ) (x y : KernelAtom) → m ≡ over (emit_items follows (express (assign (element array (atom_tree x)) (atom_tree y)) then none) base) l
      → Wrote follows (express (assign (element array (atom_tree x)) (atom_tree y)) then none) base 5 l m
  unfolding items_rows expression_rows
  store_wrote array (Constant v) (Constant w) e = record { table = e; size = refl }
  store_wrote array (Constant v) (Variable k) e = record { table = e; size = refl }
  store_wrote array (Variable n) (Constant w) e = record { table = e; size = refl }
  store_wrote array (Variable n) (Variable k) e = record { table = e; size = refl }

  pub goto-wrote : (number : ℕ) → m ≡ over (emit_items follows (goto number then none) base) l → Wrote follows (goto number then none) base 1 l m
  unfolding items_rows
  goto-wrote number e = record { table = e; size = refl }

  pub abort-wrote : m ≡ over (emit_items follows (abort then none) base) l → Wrote follows (abort then none) base 1 l m
  unfolding items_rows
  abort-wrote e = record { table = e; size = refl }

  pub label-wrote : (number : ℕ) → m ≡ over (emit_items follows (label number here none) base) l → Wrote follows (label number here none) base 1 l m
  unfolding items_rows
  label-wrote number e = record { table = e; size = refl }

  pub return-wrote : (x : KernelAtom) → m ≡ over (emit_items follows (give_back (present (atom_tree x)) then none) base) l → Wrote follows (give_back (present (atom_tree x)) then none) base 2 l m
  unfolding items_rows expression_rows
  return-wrote (Constant v) e = record { table = e; size = refl }
  return-wrote (Variable n) e = record { table = e; size = refl }

  pub exit-wrote : (number : ℕ) (x : KernelAtom) → m ≡ over (emit_items follows (if_else (atom_tree x) (block none) (block (goto number then none)) then none) base) l
      → Wrote follows (if_else (atom_tree x) (block none) (block (goto number then none)) then none) base 5 l m
  unfolding items_rows expression_rows
  exit-wrote number (Constant v) e = record { table = e; size = refl }
  exit-wrote number (Variable n) e = record { table = e; size = refl }

-- an index takes a temporary or none
pub place-taken-most : (called : ℕ → ℕ → Bool) (p : Place) → place_taken called p ≤ 1
unfolding place_taken
place-taken-most called (variable i) = omega arith
place-taken-most called (element array e) = taken_most (atom_of called e)
