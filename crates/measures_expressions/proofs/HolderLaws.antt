-- What holds a value, by the shape of the row that it comes from; and whether a value goes straight into a variable.
use mathlib.Core.Path.{◌≡◌, refl, sym, ap, subst, ◌∙◌}
use mathlib.Core.Bool.{Bool, false}
use mathlib.Core.List.{List}
use Prim.Native.Nat.{ℕ, ◌-◌}
use lib.IntN.{ℤ}
use Rattle.language.specs.Trees.{Place, variable, element}
use Rattle.language.specs.Decode.{place_of, expression_at}
use Rattle.language_shapes.specs.Shapes.{place_tree, operation_tree, choice_tree, expression_tree, PlaceOnward}
use Rattle.language_shapes.specs.Source.{Name, most_arrays, PlaceAt, ExpressionAt}
use Rattle.language_shapes.specs.declared.PlaceShape.{PlaceShape}
use Rattle.language_shapes.specs.declared.PlaceShape.TheVariants.{Variable, Element}
use Rattle.language_shapes.specs.declared.OperationShape.{OperationShape}
use Rattle.language_shapes.specs.declared.OperationShape.TheVariants.{Minus, Not, Binary, Comma, Assign, Compound, Prefix, Postfix}
use Rattle.language_shapes.specs.declared.ChoiceShape.{ChoiceShape}
use Rattle.language_shapes.specs.declared.ChoiceShape.TheVariants.{And, Or, Conditional}
use Rattle.language_shapes.specs.declared.ExpressionShape.{ExpressionShape}
use Rattle.language_shapes.specs.declared.ExpressionShape.TheVariants.{Choice}
use Rattle.translation.specs.Uses.{direct}
use Rattle.translation.specs.Translate.{Atom, number, top, updated}
use Rattle.measures_table.specs.Parts.{called_in, read_atom, plain_atom, place_holder, direct_operation, Holding}
use Rattle.measures_table.specs.MeasureLaws.{choice-top}
use Rattle.measures_table.specs.declared.Holder.{Holder}
use Rattle.measures_table.specs.declared.Holder.TheVariants.{Number as NumberHolder, Temporary}

-- what holds the value that comes from a row
pub held-as : {rows : List ℤ} {h : Atom} {x y : Holder} → Holding rows h x → x ≡ y → Holding rows h y
held-as {rows} {h} a e = subst (Holding rows h) e a

pub held_same : {rows : List ℤ} {h h' : Atom} {x : Holder} → Holding rows h x → h ≡ h' → Holding rows h' x
held_same {rows} {x = x} a e = subst (λ (k : Atom). Holding rows k x) e a

pub place-holds : (rows : List ℤ) (row : ℕ) {x : Holder} (p : PlaceShape) → PlaceOnward rows row (Name rows) most_arrays p → x ≡ place_holder p → Holding rows (read_atom (place_tree rows p)) x
place-holds rows row (Variable i) o e = rw e (record { is = refl; fits = o })
place-holds rows row (Element array index) o e = rw e (record { is = refl; fits = tt })

read-updated : (p : Place) → read_atom p ≡ updated p
read-updated (variable i) = refl
read-updated (element array e) = refl

pub updated-holds : {rows : List ℤ} {row : ℕ} {p : PlaceShape} {x : Holder} → PlaceAt rows row p → x ≡ place_holder p → Holding rows (updated (place_of (expression_at rows row))) x
updated-holds {rows} {row} {p} f e = held_same (place-holds rows row p f.onward e) (read-updated (place_tree rows p) ∙ ap updated (sym f.is))

-- a temporary, or what an expression of this shape gives
pub plain-holds : {rows : List ℤ} {row : ℕ} {s : ExpressionShape} {x : Holder} → ExpressionAt rows row s → Holding rows (plain_atom (called_in rows) (expression_tree rows s)) x → Holding rows (plain_atom (called_in rows) (expression_at rows row)) x
plain-holds {rows} f a = held_same a (ap (plain_atom (called_in rows)) (sym f.is))

pub top-holds : {rows : List ℤ} {h : Atom} → h ≡ top → Holding rows h Temporary
top-holds e = rw e (record { is = refl; fits = tt })

pub number-holds : {rows : List ℤ} {z v : ℤ} → z ≡ v → Holding rows (number v) (NumberHolder z)
number-holds e = record { is = ap number e; fits = tt }

pub choice-holds : {rows : List ℤ} {row : ℕ} {c : ChoiceShape} → ExpressionAt rows row (Choice c) → Holding rows (plain_atom (called_in rows) (expression_at rows row)) Temporary
choice-holds {rows} {row} {c} f = plain-holds f (top-holds (choice-top (called_in rows) rows c))

-- ---- whether a value goes straight into a variable

pub direct-shape : {rows : List ℤ} {row : ℕ} {s : ExpressionShape} {b : Bool} → ExpressionAt rows row s → b ≡ direct (expression_tree rows s) → b ≡ direct (expression_at rows row)
direct-shape f e = e ∙ ap direct (sym f.is)

pub operation-direct : (rows : List ℤ) (o : OperationShape) → direct_operation o ≡ direct (operation_tree rows o)
unfolding direct
operation-direct rows (Minus a) = refl
operation-direct rows (Not a) = refl
operation-direct rows (Binary operator a b) = refl
operation-direct rows (Comma a b) = refl
operation-direct rows (Assign p e) = refl
operation-direct rows (Compound operator p e) = refl
operation-direct rows (Prefix operator p) = refl
operation-direct rows (Postfix operator p) = refl

pub choice-direct : (rows : List ℤ) (c : ChoiceShape) → false ≡ direct (choice_tree rows c)
unfolding direct
choice-direct rows (And a b) = refl
choice-direct rows (Or a b) = refl
choice-direct rows (Conditional c a b) = refl
