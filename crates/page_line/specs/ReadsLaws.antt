-- Laws of reading: what the functions read at a row, from sound links.
use Rattle.std.specs.Prelude.{◌≡◌, refl, List, ℕ, zero, suc, ◌+◌, ◌*◌, ◌<◌, ℤ, length, None, Option, Some}
use Rattle.std.proofs.Common.{sym, ap, subst, ◌∙◌, arith}
use Rattle.words.specs.Table.{row_count, number_at}
use Rattle.language.specs.Decode.{place_of, arguments_at, argument_list_at}
use Rattle.language.specs.Trees.{variable}
use Rattle.language_shapes.specs.Shapes.{expression_in, place_in, argument_in, shape_at, operation_tree, choice_tree, OptionalOnward, OperationOnward, PlaceOnward, ExpressionOnward, ArgumentOnward, ExpressionWithin}
use Rattle.language_shapes.specs.ShapeLaws.{expression-found, item-found, argument-found}
use Rattle.language_shapes.specs.declared.PlaceShape.{PlaceShape}
use Rattle.language_shapes.specs.declared.PlaceShape.TheVariants.{Variable, Element}
use Rattle.language_shapes.specs.declared.OperationShape.{OperationShape}
use Rattle.language_shapes.specs.declared.OperationShape.TheVariants.{Minus, Not, Binary, Comma, Assign, Compound, Prefix, Postfix}
use Rattle.language_shapes.specs.declared.ChoiceShape.{ChoiceShape}
use Rattle.language_shapes.specs.declared.ChoiceShape.TheVariants.{And, Or, Conditional}
use Rattle.language_shapes.specs.declared.ExpressionShape.{ExpressionShape}
use Rattle.language_shapes.specs.declared.ExpressionShape.TheVariants.{Number, Read, Operation, Choice, Call}
use Rattle.language_shapes.specs.declared.Shape.{Shape}
use Rattle.page_line.specs.Reads.{argument_at, Readable, PlaceInside, OperationInside, ExpressionInside, ArgumentInside, PlaceRead, ExpressionRead, ArgumentRead}

module _ (rows : List ℤ) (row : ℕ) (inside : row < row_count rows) where
  pub optional-inside : (link : ℕ) → OptionalOnward rows row link → link < row_count rows
  optional-inside zero o = omega arith
  optional-inside (suc link) o = (o (omega arith)).inside

  place_inside : (name : ℕ → Type 0) (arrays : ℕ) (p : PlaceShape) → PlaceOnward rows row name arrays p → PlaceInside (row_count rows) p
  place_inside name arrays (Variable i) o = tt
  place_inside name arrays (Element array index) o = o.1.inside

  operation-inside : (o : OperationShape) → OperationOnward rows row o → OperationInside (row_count rows) o
  operation-inside (Minus a) o = o.inside
  operation-inside (Not a) o = o.inside
  operation-inside (Binary operator a b) o = (o.0.inside, o.1.inside)
  operation-inside (Comma a b) o = (o.0.inside, o.1.inside)
  operation-inside (Assign p e) o = (o.0.inside, o.1.inside)
  operation-inside (Compound operator p e) o = (o.0.inside, o.1.inside)
  operation-inside (Prefix operator p) o = o.inside
  operation-inside (Postfix operator p) o = o.inside

  expression-inside : (name : ℕ → Type 0) (arrays : ℕ) (s : ExpressionShape) → ExpressionOnward rows row name arrays s → ExpressionInside (row_count rows) s
  expression-inside name arrays (Number v) o = tt
  expression-inside name arrays (Read p) o = place_inside name arrays p o
  expression-inside name arrays (Operation s) o = operation-inside s o
  expression-inside name arrays (Choice c) o = tt
  expression-inside name arrays (Call f arguments) o = optional-inside arguments o

  argument-inside : (s : Option ℕ) → ArgumentOnward rows row s → ArgumentInside (row_count rows) s
  argument-inside (Some e) o = o.inside
  argument-inside None o = tt

module _ {rows : List ℤ} {row : ℕ} where
  module _ (readable : Readable rows) (inside : row < row_count rows) where
    -- any number is a name here
    abbrev Any : ℕ → Type 0
    Any i = Unit {0}

    found : ExpressionWithin rows row Any (length readable.layout.lengths) (expression_in (shape_at rows row))
    found = expression-found readable.sound inside Any (λ k. tt) (omega arith)

    pub expression-read : {shape : Shape} {e : ExpressionShape} → shape ≡ shape_at rows row → e ≡ expression_in shape → ExpressionRead rows row e
    expression-read {shape} {e} h g =
        subst (λ (x : ExpressionShape). ExpressionRead rows row x) (sym (g ∙ ap expression_in h))
        (record { is = found.is; inside = expression-inside rows row inside Any (length readable.layout.lengths) (expression_in (shape_at rows row)) found.onward })

    -- a row has six words
    pub row-words : 6 * row + 5 < length rows
    row-words = omega (arith, readable.sound.whole)

  -- ---- arguments

  -- The link 0 leads to no argument, whatever row 0 is.
  no-argument : Readable rows → row < row_count rows → row ≡ 0 → ArgumentRead rows row None
  no-argument readable inside z =
      let next = (item-found readable.sound inside).onward in
      record { is = ap (argument_list_at rows) z; inside = tt; next_inside = optional-inside rows row inside (number_at rows row 5) next; next-later = λ h. (next h).later }

  argument-some : Readable rows → row < row_count rows → (row ≡ 0 → ⊥) → ArgumentRead rows row (argument_in (shape_at rows row))
  argument-some readable inside some =
      let found = argument-found readable.sound inside in
      record {
        is = some-arguments row some ∙ found.is;
        inside = argument-inside rows row inside (argument_in (shape_at rows row)) found.onward;
        next_inside = optional-inside rows row inside (number_at rows row 5) found.behind;
        next-later = λ h. (found.behind h).later;
      }
    where
      some-arguments : (link : ℕ) → (link ≡ 0 → ⊥) → argument_list_at rows link ≡ arguments_at rows link
      some-arguments zero some = absurd (some refl)
      some-arguments (suc link) some = refl

  pub argument-none : {s : (Option ℕ)} → Readable rows → row < row_count rows → row ≡ 0 → s ≡ None → ArgumentRead rows row s
  argument-none {s} readable inside z e = subst (λ (x : Option ℕ). ArgumentRead rows row x) (sym e) (no-argument readable inside z)

  pub argument-read : {shape : Shape} {s : (Option ℕ)} → Readable rows → row < row_count rows → (row ≡ 0 → ⊥) → shape ≡ shape_at rows row → s ≡ argument_in shape → ArgumentRead rows row s
  argument-read {shape} {s} readable inside some h g = subst (λ (x : Option ℕ). ArgumentRead rows row x) (sym (g ∙ ap argument_in h)) (argument-some readable inside some)

  -- A row that is no place counts as variable 0.
  place-in-read : (e : ExpressionShape) → ExpressionRead rows row e → PlaceRead rows row (place_in e)
  place-in-read (Number v) r = record { is = ap place_of r.is; inside = tt }
  place-in-read (Read p) r = record { is = ap place_of r.is; inside = r.inside }
  place-in-read (Operation o) r = record { is = ap place_of r.is ∙ no_place o; inside = tt }
    where
      no_place : (o : OperationShape) → place_of (operation_tree rows o) ≡ variable 0
      no_place (Minus a) = refl
      no_place (Not a) = refl
      no_place (Binary operator a b) = refl
      no_place (Comma a b) = refl
      no_place (Assign p e) = refl
      no_place (Compound operator p e) = refl
      no_place (Prefix operator p) = refl
      no_place (Postfix operator p) = refl
  place-in-read (Choice c) r = record { is = ap place_of r.is ∙ no-choice c; inside = tt }
    where
      no-choice : (c : ChoiceShape) → place_of (choice_tree rows c) ≡ variable 0
      no-choice (And a b) = refl
      no-choice (Or a b) = refl
      no-choice (Conditional c a b) = refl
  place-in-read (Call f arguments) r = record { is = ap place_of r.is; inside = tt }

  pub place_read : {e : ExpressionShape} {p : PlaceShape} → ExpressionRead rows row e → p ≡ place_in e → PlaceRead rows row p
  place_read {e} found g = subst (λ (x : PlaceShape). PlaceRead rows row x) (sym g) (place-in-read e found)

-- ---- what a match tells

pub read_as : {rows : List ℤ} {row : ℕ} {s t : ExpressionShape} → ExpressionRead rows row s → s ≡ t → ExpressionRead rows row t
read_as {rows} {row} found e = subst (λ (s : ExpressionShape). ExpressionRead rows row s) e found

-- The argument that a link leads to.
pub argument-found-at : {rows : List ℤ} → Readable rows → (link : ℕ) → link < row_count rows → ArgumentRead rows link (argument_at rows link)
unfolding argument_at
argument-found-at readable zero inside = argument-none readable inside refl refl
argument-found-at readable (suc link) inside = argument-read readable inside (λ e. omega arith) refl refl

pub no-argument-at : (rows : List ℤ) (link : ℕ) → link ≡ 0 → None ≡ argument_at rows link
unfolding argument_at
no-argument-at rows zero z = refl
no-argument-at rows (suc link) z = absurd (omega arith)

pub some-argument-at : (rows : List ℤ) (link : ℕ) {shape : Shape} {s : (Option ℕ)} → (link ≡ 0 → ⊥) → shape ≡ shape_at rows link → s ≡ argument_in shape → s ≡ argument_at rows link
unfolding argument_at
some-argument-at rows zero some h g = absurd (some refl)
some-argument-at rows (suc link) some h g = g ∙ ap argument_in h

pub argument-as : {rows : List ℤ} {row : ℕ} {s t : (Option ℕ)} → ArgumentRead rows row s → s ≡ t → ArgumentRead rows row t
argument-as {rows} {row} found e = subst (λ (s : Option ℕ). ArgumentRead rows row s) e found
