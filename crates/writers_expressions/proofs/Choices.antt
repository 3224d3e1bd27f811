-- What an expression's code ends with, by its shape: a choice between two branches for and, or and a conditional.
use Rattle.std.specs.Prelude.{None, Option, Some}
use mathlib.Core.Path.{◌≡◌, refl, sym, ap, ap₂, subst, ◌∙◌}
use mathlib.Core.List.{List}
use Prim.Native.Nat.{ℕ, ◌+◌, ◌≤◌, ◌<◌}
use native.Mathlib.Omega.{arith}
use lib.IntN.{ℤ, pos}
use Rattle.words.specs.Table.{row_count}
use Rattle.words.specs.declared.Operator.TheVariants.{NotEqual}
use Rattle.language.specs.Trees.{Expression, constant, binary, Items, none, ◌⧺◌}
use Rattle.language.specs.Decode.{expression_at, part_at}
use Rattle.language.specs.DecodeLaws.{part-some}
use Rattle.translation.specs.declared.Use.{Use}
use Rattle.translation.specs.declared.Use.TheVariants.{Wanted as wanted}
use Rattle.translation.specs.Translate.{Atom as Held, number, word, top, atom_of, taken, atom, temporary, assigning, choosing, copy_code, expression_code, operand_code, expression_levels, operand_levels}
use Rattle.translation.specs.TranslateSize.{copy_rows, operand_size, expression_size}
use Rattle.language_shapes.specs.Shapes.{operation_tree, expression_tree, Onward}
use Rattle.language_shapes.specs.Source.{ExpressionAt}
use Rattle.language_shapes.specs.declared.OperationShape.{OperationShape}
use Rattle.language_shapes.specs.declared.OperationShape.TheVariants.{Minus, Not, Binary, Comma, Assign, Compound, Prefix, Postfix}
use Rattle.language_shapes.specs.declared.ChoiceShape.TheVariants.{And, Or, Conditional}
use Rattle.language_shapes.specs.declared.ExpressionShape.{ExpressionShape}
use Rattle.language_shapes.specs.declared.ExpressionShape.TheVariants.{Operation}
use Rattle.language_shapes.specs.declared.ExpressionShape.TheVariants as expression
use Rattle.measures_table.specs.Parts.{called_in}
use Rattle.writers_rows.specs.Atoms.{atom_tree, AtomFits}
use Rattle.writers_rows.specs.Straight.{straight_code, last_size}
use Rattle.writers_steps.specs.Asks.{Writing, AtomAt}
use Rattle.writers_rows.specs.declared.KernelAtom.{KernelAtom}
use Rattle.writers_expressions.specs.Code.{last_code, finish_code, branch_code}
use Rattle.writers_expressions.specs.Asks.{end_of, finish_size, branch_size, BranchInside, BranchFits, ChoiceAt, number_branch}
use Rattle.writers_expressions.specs.declared.End.{End}
use Rattle.writers_expressions.specs.declared.End.TheVariants.{Truth, Copy, Stays}
use Rattle.writers_expressions.specs.declared.Branch.{Branch}

-- ---- what a choice tells

-- A choice that was found to be another.
pub chosen : {S : ℕ} {rows : List ℤ} {row level : ℕ} {choice other : (Option (KernelAtom × Branch × Branch))} → ChoiceAt S rows row level choice → choice ≡ other → ChoiceAt S rows row level other
chosen {S} {rows} {row} {level} at e = subst (λ (c : Option (KernelAtom × Branch × Branch)). ChoiceAt S rows row level c) e at

-- The test and the branches that are chosen between.
pub record BranchesFit (rows : List ℤ) (row level : ℕ) (test : KernelAtom) (on_true on_false : Branch) : Type 0 where
  pub test_fits : AtomFits test
  pub true_fits : BranchFits rows on_true level
  pub false_fits : BranchFits rows on_false level
  pub true_later : 0 < on_true.row → row < on_true.row
  pub false_later : 0 < on_false.row → row < on_false.row
  pub rows_are : (u : Use) → last_size (called_in rows) (expression_at rows row) u ≡ 2 + branch_size rows on_true + branch_size rows on_false

-- Levels that the whole has room for, at a level.
pub branches-fit : {S : ℕ} {rows : List ℤ} {row level : ℕ} {test : KernelAtom} {on_true on_false : Branch} (u : Use) → ChoiceAt S rows row level (Some (test, on_true, on_false))
    → level + expression_levels (called_in rows) (expression_at rows row) u ≤ 2048 → BranchesFit rows row level test on_true on_false
branches-fit u at low = record {
  test_fits = at.fits.0;
  true_fits = record { inside = at.fits.1.inside; level_low = omega (arith, at.fits.6 u); atom_fits = at.fits.1.atom_fits };
  false_fits = record { inside = at.fits.2.inside; level_low = omega (arith, at.fits.7 u); atom_fits = at.fits.2.atom_fits };
  true_later = at.fits.3;
  false_later = at.fits.4;
  rows_are = at.fits.5;
}

-- ---- how a branch of a conditional ends

pub end_stays : (held : Held) {n : ℕ} → n ≡ taken held → n ≡ 1 → Stays ≡ end_of held
end_stays (number v) e h = absurd (omega arith)
end_stays (word i) e h = absurd (omega arith)
end_stays top e h = refl

pub end_copy : (held : Held) {n : ℕ} → n ≡ taken held → (n ≡ 1 → ⊥) → Copy ≡ end_of held
end_copy (number v) e h = refl
end_copy (word i) e h = refl
end_copy top e h = absurd (h e)

-- ---- the choice of a shape

-- What the caller promised of a row that is worked out at a level.
pub record RowAsked (S : ℕ) (rows : List ℤ) (table : List ℕ) (row level : ℕ) : Type 0 where
  pub writing : Writing rows table S
  pub inside : row < row_count rows
  pub level_low : level ≤ 2048

module _ (S : ℕ) (rows : List ℤ) (row level : ℕ) where
  pub straight : {s : ExpressionShape} → ExpressionAt rows row s → ((u : Use) → last_code (called_in rows) S (expression_tree rows s) u level ≡ straight_code (called_in rows) S (expression_tree rows s) u level) → ChoiceAt S rows row level None
  straight {s} f h = record { is = λ u. ap (λ (e : Expression). last_code (called_in rows) S e u level) f.is ∙ h u ∙ sym (ap (λ (e : Expression). straight_code (called_in rows) S e u level) f.is); fits = tt }

  operation-code : (o : OperationShape) (u : Use) → last_code (called_in rows) S (operation_tree rows o) u level ≡ straight_code (called_in rows) S (operation_tree rows o) u level
  operation-code (Minus a) u = refl
  operation-code (Not a) u = refl
  operation-code (Binary operator a b) u = refl
  operation-code (Comma a b) u = refl
  operation-code (Assign p e) u = refl
  operation-code (Compound operator p e) u = refl
  operation-code (Prefix operator p) u = refl
  operation-code (Postfix operator p) u = refl

  pub straight-operation : {o : OperationShape} → ExpressionAt rows row (Operation o) → ChoiceAt S rows row level None
  straight-operation {o} f = straight f (operation-code o)

  abbrev branch : ℕ → End → KernelAtom → Branch
  branch link end x = record { row = link; end = end; atom = x }

  -- ---- the code of a branch

  some-code : (link : ℕ) → 0 < link → operand_code (called_in rows) S (part_at rows link) wanted level ≡ expression_code (called_in rows) S (expression_at rows link) wanted level
  some-code link h = ap (λ p. operand_code (called_in rows) S p wanted level) (part-some rows link h)

  -- whether a value is not 0, into the temporary
  abbrev truth_of : Expression → Items
  truth_of value = assigning S (temporary S level) (binary NotEqual value (constant (pos 0))) none

  truth-code : (link : ℕ) (x : KernelAtom) → 0 < link → AtomAt S rows link level x
      → branch_code S rows (branch link Truth x) level ≡ expression_code (called_in rows) S (expression_at rows link) wanted level ⧺ truth_of (atom S level (atom_of (called_in rows) (expression_at rows link)))
  truth-code link x h a = ap₂ (λ (is : Items) (y : Expression). is ⧺ truth_of y) (some-code link h) a.is

  -- a number or a variable goes into the temporary; a value that is there already stays
  finish-copy : (x : KernelAtom) (held : Held) → atom_tree x ≡ atom S level held → finish_code S (end_of held) x level ≡ copy_code S level held
  finish-copy x (number v) e = ap (λ (y : Expression). assigning S (temporary S level) y none) e
  finish-copy x (word i) e = ap (λ (y : Expression). assigning S (temporary S level) y none) e
  finish-copy x top e = refl

  finish-rows : (held : Held) → finish_size (end_of held) ≡ copy_rows held
  finish-rows (number v) = refl
  finish-rows (word i) = refl
  finish-rows top = refl

  value-code : (link : ℕ) (x : KernelAtom) → 0 < link → AtomAt S rows link level x
      → branch_code S rows (branch link (end_of (atom_of (called_in rows) (expression_at rows link))) x) level ≡ expression_code (called_in rows) S (expression_at rows link) wanted level ⧺ copy_code S level (atom_of (called_in rows) (expression_at rows link))
  value-code link x h a = ap₂ ◌⧺◌ (some-code link h) (finish-copy x (atom_of (called_in rows) (expression_at rows link)) a.is)

  number-code : (v : ℤ) → branch_code S rows (number_branch v) level ≡ assigning S (temporary S level) (constant v) none
  unfolding ◌⧺◌
  number-code v = refl

  -- ---- what a branch asks

  module _ {table : List ℕ} (asked : RowAsked S rows table row level) where
    branch_fits : {link : ℕ} {end : End} {x : KernelAtom} → Onward rows row link → AtomFits x → BranchInside rows (branch link end x)
    branch_fits o f = record { inside = o.inside; atom_fits = f }

    number-fits : (v : ℤ) → BranchInside rows (number_branch v)
    number-fits v = record { inside = omega (arith, asked.inside); atom_fits = tt }

    some-levels : {link : ℕ} → Onward rows row link → operand_levels (called_in rows) (part_at rows link) wanted ≡ expression_levels (called_in rows) (expression_at rows link) wanted
    some-levels {link} o = ap (λ p. operand_levels (called_in rows) p wanted) (part-some rows link (omega (arith, o.later)))

    all-levels : {s : ExpressionShape} → ExpressionAt rows row s → (u : Use) → expression_levels (called_in rows) (expression_at rows row) u ≡ expression_levels (called_in rows) (expression_tree rows s) u
    all-levels f u = ap (λ (e : Expression). expression_levels (called_in rows) e u) f.is

    some_size : {link : ℕ} → Onward rows row link → operand_size (called_in rows) (part_at rows link) wanted ≡ expression_size (called_in rows) (expression_at rows link) wanted
    some_size {link} o = ap (λ p. operand_size (called_in rows) p wanted) (part-some rows link (omega (arith, o.later)))

    last-size : {s : ExpressionShape} → ExpressionAt rows row s → (u : Use) → last_size (called_in rows) (expression_at rows row) u ≡ last_size (called_in rows) (expression_tree rows s) u
    last-size f u = ap (λ (e : Expression). last_size (called_in rows) e u) f.is

    as-last : {s : ExpressionShape} (is : Items) → ExpressionAt rows row s → (u : Use) → last_code (called_in rows) S (expression_tree rows s) u level ≡ is → last_code (called_in rows) S (expression_at rows row) u level ≡ is
    as-last is f u h = ap (λ (e : Expression). last_code (called_in rows) S e u level) f.is ∙ h

    ap₃ : {A B C D : Type 0} (f : A → B → C → D) {x x' : A} {y y' : B} {z z' : C} → x ≡ x' → y ≡ y' → z ≡ z' → f x y z ≡ f x' y' z'
    ap₃ f p q r = ap₂ (λ g w. g w) (ap₂ f p q) r

    abbrev if-of : Expression → Items → Items → Items
    if-of test on_true on_false = choosing S test on_true on_false none

    pub and-choice : {a b : ℕ} {test x : KernelAtom} {no : Branch} → ExpressionAt rows row (expression.Choice (And a b)) → AtomAt S rows a level test → AtomAt S rows b level x → no ≡ number_branch (pos 0)
        → ChoiceAt S rows row level (Some (test, (branch b Truth x), no))
    unfolding expression_levels
    and-choice {a} {b} {test} {x} {no} f t y n = rw n (record {
      is = λ u. as-last _ f u (sym (ap₃ if-of t.is (truth-code b x (omega (arith, f.onward.1.later)) y) (number-code (pos 0))));
      fits = (
        t.fits,
        branch_fits f.onward.1 y.fits,
        number-fits (pos 0),
        (λ h. f.onward.1.later),
        (λ h. absurd (omega arith)),
        (λ u. last-size f u ∙ omega (arith, some_size f.onward.1)),
        (λ u. omega (arith, all-levels f u, some-levels f.onward.1)),
        (λ u. omega arith),
      );
    })

    pub or-choice : {a b : ℕ} {test x : KernelAtom} {on_true : Branch} → ExpressionAt rows row (expression.Choice (Or a b)) → AtomAt S rows a level test → AtomAt S rows b level x → on_true ≡ number_branch (pos 1)
        → ChoiceAt S rows row level (Some (test, on_true, (branch b Truth x)))
    unfolding expression_levels
    or-choice {a} {b} {test} {x} {on_true} f t y n = rw n (record {
      is = λ u. as-last _ f u (sym (ap₃ if-of t.is (number-code (pos 1)) (truth-code b x (omega (arith, f.onward.1.later)) y)));
      fits = (
        t.fits,
        number-fits (pos 1),
        branch_fits f.onward.1 y.fits,
        (λ h. absurd (omega arith)),
        (λ h. f.onward.1.later),
        (λ u. last-size f u ∙ omega (arith, some_size f.onward.1)),
        (λ u. omega arith),
        (λ u. omega (arith, all-levels f u, some-levels f.onward.1)),
      );
    })

    pub conditional-choice : {c a b : ℕ} {test x y : KernelAtom} {yesEnd noEnd : End} → ExpressionAt rows row (expression.Choice (Conditional c a b)) → AtomAt S rows c level test
        → yesEnd ≡ end_of (atom_of (called_in rows) (expression_at rows a)) → AtomAt S rows a level x → noEnd ≡ end_of (atom_of (called_in rows) (expression_at rows b)) → AtomAt S rows b level y
        → ChoiceAt S rows row level (Some (test, (branch a yesEnd x), (branch b noEnd y)))
    unfolding expression_levels
    conditional-choice {c} {a} {b} {test} {x} {y} f t ea p eb q = rw (ea, eb) (record {
      is = λ u. as-last _ f u (sym (ap₃ if-of t.is (value-code a x (omega (arith, f.onward.1.later)) p) (value-code b y (omega (arith, f.onward.2.later)) q)));
      fits = (
        t.fits,
        branch_fits f.onward.1 p.fits,
        branch_fits f.onward.2 q.fits,
        (λ h. f.onward.1.later),
        (λ h. f.onward.2.later),
        (λ u. last-size f u ∙ omega (arith, some_size f.onward.1, some_size f.onward.2, finish-rows (atom_of (called_in rows) (expression_at rows a)), finish-rows (atom_of (called_in rows) (expression_at rows b)))),
        (λ u. omega (arith, all-levels f u, some-levels f.onward.1)),
        (λ u. omega (arith, all-levels f u, some-levels f.onward.2)),
      );
    })
