-- What the functions read at a row of a source, from the laws of shapes.
use Rattle.std.specs.Prelude.{Option}
use mathlib.Core.Path.{◌≡◌, sym, ap, subst, ◌∙◌}
use mathlib.Core.List.{List}
use Prim.Native.Nat.{ℕ, ◌<◌}
use native.Mathlib.Omega.{arith}
use lib.IntN.{ℤ}
use Rattle.words.specs.Table.{row_count, word_at, number_at}
use Rattle.words.specs.Kinds.{kind_at}
use Rattle.words.specs.declared.Kind.{Kind}
use Rattle.words.specs.declared.Kind.TheVariants.{OfExpression, OfStatement}
use Rattle.words.specs.declared.ExpressionKind.{ExpressionKind}
use Rattle.words.specs.declared.ExpressionKind.TheVariants.{Variable}
use Rattle.words.specs.declared.StatementKind.{StatementKind}
use Rattle.words.specs.declared.StatementKind.TheVariants.{Declare}
use Rattle.words.specs.declared.MarkKind.{MarkKind}
use Rattle.words.specs.declared.MemberKind.{MemberKind}
use Rattle.language_shapes.specs.Shapes.{expression_shape, statement_shape, mark_shape, member_shape, expression_as, statement_as, mark_as, member_as, shape_as, shape_at, expression_in, place_in, statement_in, item_in, arm_in, argument_in, ItemAt, ArmAt, ArgumentAt}
use Rattle.language_shapes.specs.Source.{Source, Name, PlaceAt, ExpressionAt, StatementAt}
use Rattle.language_shapes.specs.ShapeLaws.{expression-found, statement-found, item-found, arm-found, argument-found, place-in}
use Rattle.language_shapes.specs.declared.PlaceShape.{PlaceShape}
use Rattle.language_shapes.specs.declared.ExpressionShape.{ExpressionShape}
use Rattle.language_shapes.specs.declared.StatementShape.{StatementShape}
use Rattle.language_shapes.specs.declared.Shape.{Shape}
use Rattle.language_shapes.specs.declared.Item.{Item}

-- ---- the shape of a row, from the kind and the fields that were read

module _ (rows : List ℤ) (row : ℕ) where
  pub expression-arm : {kind k : ExpressionKind} (v : ℤ) (a b c : ℕ) → kind ≡ k → v ≡ word_at rows row 1 → a ≡ number_at rows row 1 → b ≡ number_at rows row 2 → c ≡ number_at rows row 3
      → expression_shape k v a b c ≡ expression_as rows row kind
  expression-arm v a b c e ev ea eb ec = rw (ev, ea, eb, ec) (ap (λ (x : ExpressionKind). expression_as rows row x) (sym e))

  pub statement-arm : {kind k : StatementKind} (a b c d : ℕ) → kind ≡ k → a ≡ number_at rows row 1 → b ≡ number_at rows row 2 → c ≡ number_at rows row 3 → d ≡ number_at rows row 4
      → statement_shape k a b c d ≡ statement_as rows row kind
  statement-arm a b c d e ea eb ec ed = rw (ea, eb, ec, ed) (ap (λ (x : StatementKind). statement_as rows row x) (sym e))

  pub mark-arm : {kind k : MarkKind} (v : ℤ) (a : ℕ) → kind ≡ k → v ≡ word_at rows row 1 → a ≡ number_at rows row 1 → mark_shape k v a ≡ mark_as rows row kind
  mark-arm v a e ev ea = rw (ev, ea) (ap (λ (x : MarkKind). mark_as rows row x) (sym e))

  pub member-arm : {kind k : MemberKind} (a b : ℕ) → kind ≡ k → a ≡ number_at rows row 1 → b ≡ number_at rows row 2 → member_shape k a b ≡ member_as rows row kind
  unfolding member_as
  member-arm a b e ea eb = rw (ea, eb) (ap (λ (x : MemberKind). member_as rows row x) (sym e))

  pub shape-arm : {kind k : Kind} → kind ≡ kind_at rows row → kind ≡ k → shape_as rows row k ≡ shape_at rows row
  unfolding shape_at
  shape-arm e g = ap (λ (x : Kind). shape_as rows row x) (sym g ∙ e)

module _ {rows : List ℤ} {row : ℕ} (source : Source rows) (inside : row < row_count rows) where
  variable-named : kind_at rows row ≡ OfExpression Variable → Name rows (number_at rows row 1)
  variable-named k = record { low = omega (arith, source.names.small, (source.names.variables row inside k).within); named = λ S n. n.variables row inside k }

  declared-named : kind_at rows row ≡ OfStatement Declare → Name rows (number_at rows row 1)
  declared-named k = record { low = omega (arith, source.names.small, (source.names.declared row inside k).within); named = λ S n. n.declared row inside k }

  pub expression-read : {shape : Shape} {e : ExpressionShape} → shape ≡ shape_at rows row → e ≡ expression_in shape → ExpressionAt rows row e
  expression-read {shape} {e} h g = subst (λ (x : ExpressionShape). ExpressionAt rows row x) (sym (g ∙ ap expression_in h)) (expression-found source.sound inside (Name rows) variable-named source.few_arrays)

  pub statement-read : {shape : Shape} {s : StatementShape} → shape ≡ shape_at rows row → s ≡ statement_in shape → StatementAt rows row s
  statement-read {shape} {s} h g = subst (λ (x : StatementShape). StatementAt rows row x) (sym (g ∙ ap statement_in h)) (statement-found source.sound inside (Name rows) declared-named)

  pub item-read : {shape : Shape} {i : Item} → shape ≡ shape_at rows row → i ≡ item_in shape → ItemAt rows row (number_at rows row 5) i
  item-read {shape} {i} h g = subst (λ (x : Item). ItemAt rows row (number_at rows row 5) x) (sym (g ∙ ap item_in h)) (item-found source.sound inside)

  pub arm_read : {shape : Shape} {i : (Option (ℕ × ℕ))} → shape ≡ shape_at rows row → i ≡ arm_in shape → ArmAt rows row (number_at rows row 5) i
  arm_read {shape} {i} h g = subst (λ (x : Option (ℕ × ℕ)). ArmAt rows row (number_at rows row 5) x) (sym (g ∙ ap arm_in h)) (arm-found source.sound inside)

  pub argument-read : {shape : Shape} {i : (Option ℕ)} → shape ≡ shape_at rows row → i ≡ argument_in shape → ArgumentAt rows row (number_at rows row 5) i
  argument-read {shape} {i} h g = subst (λ (x : Option ℕ). ArgumentAt rows row (number_at rows row 5) x) (sym (g ∙ ap argument_in h)) (argument-found source.sound inside)

-- what a row counts as that is no place
first-name : {rows : List ℤ} → Name rows 0
first-name = record { low = omega arith; named = λ S n. record { within = omega arith; variable = λ h. omega arith } }

pub place_read : {rows : List ℤ} {row : ℕ} {e : ExpressionShape} {p : PlaceShape} → ExpressionAt rows row e → p ≡ place_in e → PlaceAt rows row p
place_read {rows} {row} {e} found g = subst (λ (x : PlaceShape). PlaceAt rows row x) (sym g) (place-in e first-name found)
