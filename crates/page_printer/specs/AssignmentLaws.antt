-- Laws of assignments: an expression statement's lines are those of its outline, and what that names stands in the table.
use Rattle.std.specs.Prelude.{◌≡◌, List, ℕ, ◌<◌, ℤ, None, Option, Some}
use Rattle.std.proofs.Math.Path.{refl}
use Rattle.std.proofs.Common.{sym, ap, ◌∙◌}
use Rattle.words.specs.Table.{row_count}
use Rattle.language.specs.Trees.{Expression, Place, assign, call}
use Rattle.language.specs.Decode.{expression_at, place_of, argument_list_at}
use Rattle.language_shapes.specs.Shapes.{operation_tree, choice_tree, expression_tree}
use Rattle.language_shapes.specs.declared.OperationShape.{OperationShape}
use Rattle.language_shapes.specs.declared.OperationShape.TheVariants as operation
use Rattle.language_shapes.specs.declared.ChoiceShape.{ChoiceShape}
use Rattle.language_shapes.specs.declared.ChoiceShape.TheVariants as choice
use Rattle.language_shapes.specs.declared.ExpressionShape.{ExpressionShape}
use Rattle.language_shapes.specs.declared.ExpressionShape.TheVariants as expression
use Rattle.page.specs.Lines.{Indented, expressed_lines, assigned_lines, expression_lines}
use Rattle.page_line.specs.Reads.{expression_shape_at, argument_at, OperationInside, Readable, ExpressionRead, ArgumentRead}
use Rattle.page_line.specs.ReadsLaws.{expression-read, argument-found-at}
use Rattle.page_printer.specs.Outlines.{called_outline, value_outline, operation_outline, expression_outline, express_outline, outlined, OutlineInside}

module _ {rows : List ℤ} (readable : Readable rows) (level e : ℕ) where
  abbrev own : List Indented
  own = expressed_lines level (expression_at rows e)

  -- ---- one line

  no-call-chosen : (p : Place) (c : ChoiceShape) → assigned_lines level p (choice_tree rows c) ≡ expressed_lines level (assign p (choice_tree rows c))
  no-call-chosen p (choice.And a b) = refl
  no-call-chosen p (choice.Or a b) = refl
  no-call-chosen p (choice.Conditional c a b) = refl

  no-call-operated : (p : Place) (o : OperationShape) → assigned_lines level p (operation_tree rows o) ≡ expressed_lines level (assign p (operation_tree rows o))
  no-call-operated p (operation.Minus a) = refl
  no-call-operated p (operation.Not a) = refl
  no-call-operated p (operation.Binary o a b) = refl
  no-call-operated p (operation.Comma a b) = refl
  no-call-operated p (operation.Assign q a) = refl
  no-call-operated p (operation.Compound o q a) = refl
  no-call-operated p (operation.Prefix o q) = refl
  no-call-operated p (operation.Postfix o q) = refl

  no-assignment-chosen : (c : ChoiceShape) → expression_lines level (choice_tree rows c) ≡ expressed_lines level (choice_tree rows c)
  no-assignment-chosen (choice.And a b) = refl
  no-assignment-chosen (choice.Or a b) = refl
  no-assignment-chosen (choice.Conditional c a b) = refl

  -- no assignment
  plain-line : (tree : Expression) → expression_at rows e ≡ tree → expression_lines level tree ≡ expressed_lines level tree → expression_lines level (expression_at rows e) ≡ own
  plain-line tree h plain = ap (expression_lines level) h ∙ plain ∙ sym (ap (expressed_lines level) h)

  -- an assignment whose value is no call
  single-line : (q value : ℕ) (s : ExpressionShape) → ExpressionRead rows value s → expression_at rows e ≡ assign (place_of (expression_at rows q)) (expression_at rows value)
      → ((p : Place) → assigned_lines level p (expression_tree rows s) ≡ expressed_lines level (assign p (expression_tree rows s))) → expression_lines level (expression_at rows e) ≡ own
  single-line q value s r h plain =
      let p = place_of (expression_at rows q) in
      ap (expression_lines level) h ∙ ap (assigned_lines level p) r.is ∙ plain p ∙ sym (ap (expressed_lines level) (h ∙ ap (assign p) r.is))

  -- ---- a call

  called-lines : (q f link : ℕ) (s : Option ℕ) → ArgumentRead rows link s → expression_at rows e ≡ assign (place_of (expression_at rows q)) (call f (argument_list_at rows link))
      → expression_lines level (expression_at rows e) ≡ outlined rows level (called_outline rows e q f link s)
  called-lines q f link (Some first) r h =
      ap (expression_lines level) h ∙ ap (λ arguments. assigned_lines level (place_of (expression_at rows q)) (call f arguments)) r.is
  called-lines q f link None r h =
      ap (expression_lines level) h ∙ ap (λ arguments. assigned_lines level (place_of (expression_at rows q)) (call f arguments)) r.is
      ∙ sym (ap (expressed_lines level) (h ∙ ap (λ arguments. assign (place_of (expression_at rows q)) (call f arguments)) r.is))

  value-lines : (q value : ℕ) (s : ExpressionShape) → ExpressionRead rows value s → expression_at rows e ≡ assign (place_of (expression_at rows q)) (expression_at rows value)
      → expression_lines level (expression_at rows e) ≡ outlined rows level (value_outline rows e q s)
  value-lines q value (expression.Number v) r h = single-line q value (expression.Number v) r h (λ p. refl)
  value-lines q value (expression.Read p) r h = single-line q value (expression.Read p) r h (λ p. refl)
  value-lines q value (expression.Operation o) r h = single-line q value (expression.Operation o) r h (λ p. no-call-operated p o)
  value-lines q value (expression.Choice c) r h = single-line q value (expression.Choice c) r h (λ p. no-call-chosen p c)
  value-lines q value (expression.Call f link) r h =
      called-lines q f link (argument_at rows link) (argument-found-at readable link r.inside) (h ∙ ap (assign (place_of (expression_at rows q))) r.is)

  operation-lines : (o : OperationShape) → expression_at rows e ≡ operation_tree rows o → OperationInside (row_count rows) o
      → expression_lines level (expression_at rows e) ≡ outlined rows level (operation_outline rows e o)
  unfolding expression_shape_at
  operation-lines (operation.Assign q value) h i = value-lines q value (expression_shape_at rows value) (expression-read readable i.1 refl refl) h
  operation-lines (operation.Minus a) h i = plain-line _ h refl
  operation-lines (operation.Not a) h i = plain-line _ h refl
  operation-lines (operation.Binary o a b) h i = plain-line _ h refl
  operation-lines (operation.Comma a b) h i = plain-line _ h refl
  operation-lines (operation.Compound o q a) h i = plain-line _ h refl
  operation-lines (operation.Prefix o q) h i = plain-line _ h refl
  operation-lines (operation.Postfix o q) h i = plain-line _ h refl

  expression-lines : (s : ExpressionShape) → ExpressionRead rows e s → expression_lines level (expression_at rows e) ≡ outlined rows level (expression_outline rows e s)
  expression-lines (expression.Number v) r = plain-line _ r.is refl
  expression-lines (expression.Read p) r = plain-line _ r.is refl
  expression-lines (expression.Operation o) r = operation-lines o r.is r.inside
  expression-lines (expression.Choice c) r = plain-line _ r.is (no-assignment-chosen c)
  expression-lines (expression.Call f arguments) r = plain-line _ r.is refl

  pub express-lines : e < row_count rows → expression_lines level (expression_at rows e) ≡ outlined rows level (express_outline rows e)
  unfolding express_outline expression_shape_at
  express-lines inside = expression-lines (expression_shape_at rows e) (expression-read readable inside refl refl)

-- ---- rows

module _ {rows : List ℤ} (readable : Readable rows) (e : ℕ) (inside : e < row_count rows) where
  called-inside : (q f link : ℕ) (s : Option ℕ) → q < row_count rows → ArgumentRead rows link s → OutlineInside (row_count rows) (called_outline rows e q f link s)
  called-inside q f link (Some first) i r = (i, r.inside, r.next_inside)
  called-inside q f link None i r = inside

  value_inside : (q value : ℕ) (s : ExpressionShape) → q < row_count rows → ExpressionRead rows value s → OutlineInside (row_count rows) (value_outline rows e q s)
  value_inside q value (expression.Number v) i r = inside
  value_inside q value (expression.Read p) i r = inside
  value_inside q value (expression.Operation o) i r = inside
  value_inside q value (expression.Choice c) i r = inside
  value_inside q value (expression.Call f link) i r = called-inside q f link (argument_at rows link) i (argument-found-at readable link r.inside)

  operation-inside : (o : OperationShape) → OperationInside (row_count rows) o → OutlineInside (row_count rows) (operation_outline rows e o)
  unfolding expression_shape_at
  operation-inside (operation.Assign q value) i = value_inside q value (expression_shape_at rows value) i.0 (expression-read readable i.1 refl refl)
  operation-inside (operation.Minus a) i = inside
  operation-inside (operation.Not a) i = inside
  operation-inside (operation.Binary o a b) i = inside
  operation-inside (operation.Comma a b) i = inside
  operation-inside (operation.Compound o q a) i = inside
  operation-inside (operation.Prefix o q) i = inside
  operation-inside (operation.Postfix o q) i = inside

  expression-inside : (s : ExpressionShape) → ExpressionRead rows e s → OutlineInside (row_count rows) (expression_outline rows e s)
  expression-inside (expression.Number v) r = inside
  expression-inside (expression.Read p) r = inside
  expression-inside (expression.Operation o) r = operation-inside o r.inside
  expression-inside (expression.Choice c) r = inside
  expression-inside (expression.Call f arguments) r = inside

  pub express-inside : OutlineInside (row_count rows) (express_outline rows e)
  unfolding express_outline expression_shape_at
  express-inside = expression-inside (expression_shape_at rows e) (expression-read readable inside refl refl)
