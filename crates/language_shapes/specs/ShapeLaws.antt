-- Laws of shapes: what stands at a row of a sound table, kind by kind, by the laws of decode; and what a match on a shape tells of a row.
use Rattle.std.specs.Prelude.{◌≡◌, true, List, ℤ, pos, length, Option}
use Rattle.std.proofs.Math.Path.{refl}
use Rattle.std.proofs.Common.{sym, ap, subst, ◌∙◌, arith}
use Prim.Native.Nat.{ℕ, zero, suc, ◌≤◌, ◌<◌}
use Rattle.words.specs.Table.{row_count, Whole, word_at, number_at}
use Rattle.words.specs.Kinds.{kind_at, variable, array, is_link, is_required, expression_fields, statement_fields, definition_fields, member_fields, kind_row, sort_in}
use Rattle.words.specs.Layout.{Layout}
use Rattle.words.specs.declared.Kind.{Kind}
use Rattle.words.specs.declared.Kind.TheVariants as group
use Rattle.words.specs.declared.ExpressionKind.{ExpressionKind}
use Rattle.words.specs.declared.ExpressionKind.TheVariants.{Constant, Variable, Element, Minus, Not, Binary, And, Or, Conditional, Comma, Assign, Compound, Prefix, Postfix, Call}
use Rattle.words.specs.declared.StatementKind.{StatementKind}
use Rattle.words.specs.declared.StatementKind.TheVariants.{Empty, Express, Block, If, While, Do, For, Switch, Break, Continue, Goto, GuardedIf, GuardedDo, Abort, Declare, Return}
use Rattle.words.specs.declared.MarkKind.{MarkKind}
use Rattle.words.specs.declared.MarkKind.TheVariants.{Case, Default, Label}
use Rattle.words.specs.declared.MemberKind.TheVariants.{Arm, Argument}
use Rattle.language.specs.Trees.{variable as variable_tree, Statement, ◌then◌}
use Rattle.language.specs.Decode.{Forward, place_of, expression_of, arguments_of, statement_of, items_of, arms_of, statement_at}
use Rattle.language.specs.DecodeLaws.{expression-at, statement-at, at-no-expression, at_constant, at-variable, at-element, at-minus, at-not, at-binary, at-and, at-or, at-comma, at-conditional, at-assign, at-compound, at-prefix, at-postfix, at_call, at-empty, at-express, at_block, at-if_then, at-if_else, at-while, at-do_while, at-for, at-switch, at-break, at-continue, at-goto, at-guarded_if, at-guarded_do, at-abort, at-declared, at_return, at_item, at-case, at_default, at_label, at-definition, at-arm, at-argument, items-at, arms-at, arguments-at, later-list}
use Rattle.language.specs.Sound.{Link, OptionalLink, Sound}
use Rattle.language.specs.SoundLaws.{always, root_none, field_of, link-of, optional-link-of, behind}
use Rattle.language_shapes.specs.Shapes.{expression_as, statement_as, mark_as, definition_as, member_as, shape_as, shape_at, expression_in, place_in, statement_in, item_in, arm_in, argument_in, Onward, OptionalOnward, Initial, operation_tree, choice_tree, statement_tree, PlaceWithin, ExpressionWithin, StatementWithin, ItemAt, ArmAt, ArgumentAt}
use Rattle.language_shapes.specs.declared.PlaceShape.{PlaceShape}
use Rattle.language_shapes.specs.declared.OperationShape.{OperationShape}
use Rattle.language_shapes.specs.declared.OperationShape.TheVariants as operation
use Rattle.language_shapes.specs.declared.ChoiceShape.{ChoiceShape}
use Rattle.language_shapes.specs.declared.ChoiceShape.TheVariants as choice
use Rattle.language_shapes.specs.declared.ExpressionShape.{ExpressionShape}
use Rattle.language_shapes.specs.declared.ExpressionShape.TheVariants.{Number, Read, Operation, Choice, Call as CallShape}
use Rattle.language_shapes.specs.declared.StatementShape.{StatementShape}
use Rattle.language_shapes.specs.declared.StatementShape.TheVariants as statement
use Rattle.language_shapes.specs.declared.MarkShape.{MarkShape}
use Rattle.language_shapes.specs.declared.Item.{Item}
use Rattle.language_shapes.specs.declared.Item.TheVariants as item

module _ {rows : List ℤ} {L : Layout} {words : ℕ} (sound : Sound rows L words) {row : ℕ} (inside : row < row_count rows) where
  whole : Whole rows
  whole = sound.whole

  abbrev f : ℕ → ℕ
  f field = number_at rows row field

  onward : (field : ℕ) → Link rows L words row field → Onward rows row (f field)
  onward field l = record { later = l.later; inside = l.inside }

  -- ---- links, by the sort of the field

  module _ {kind : Kind} (k : kind_at rows row ≡ kind) where
    required : (field : ℕ) → 1 ≤ field → field < 6 → always is_required kind field ≡ true → Onward rows row (f field)
    required field p q r = onward field (link-of sound inside k field p q r)

    optional_link : (field : ℕ) → 1 ≤ field → field < 6 → is_link (sort_in kind field) ≡ true → OptionalOnward rows row (f field)
    optional_link field p q r h = onward field (optional-link-of sound inside k field p q r h)

  forward : (field : ℕ) → OptionalOnward rows row (f field) → Forward row (f field)
  forward field o p = (o p).later

  next : OptionalOnward rows row (f 5)
  next p = onward 5 (behind sound inside p)

  initial : (field : ℕ) → OptionalOnward rows row (f field) → Initial rows row (f field)
  initial field o = go (f field) o
    where
      go : (link : ℕ) → OptionalOnward rows row link → Initial rows row link
      go zero o = record { onward = o; inside = sound.some_rows; absent = λ z. at-no-expression rows whole 0 (root_none sound) }
      go (suc link) o = record { onward = o; inside = (o (omega arith)).inside; absent = λ z. absurd (omega arith) }

  -- ---- expressions: the numbers of variables are names, `arrays` bounds those of arrays

  module _ (name : ℕ → Type 0) {arrays : ℕ} (names : kind_at rows row ≡ group.OfExpression Variable → name (f 1)) (few_arrays : length L.lengths ≤ arrays) where
    abbrev E : ExpressionShape → Type 0
    E s = ExpressionWithin rows row name arrays s

    expression-of : (kind : ExpressionKind) → kind_at rows row ≡ group.OfExpression kind → E (expression_as rows row kind)
    unfolding sort_in kind_row expression_fields is_required is_link
    expression-of Constant k = record { is = at_constant rows whole row k; onward = tt }
    expression-of Variable k = record { is = at-variable rows whole row k; onward = names k }
    expression-of Element k =
        let b = required k 2 (omega arith) (omega arith) refl in
        record { is = at-element rows whole row k b.later; onward = (omega (arith, (field_of sound inside k 1 (omega arith) (omega arith) refl).names-array refl), b) }
    expression-of Minus k = let a = required k 1 (omega arith) (omega arith) refl in record { is = at-minus rows whole row k a.later; onward = a }
    expression-of Not k = let a = required k 1 (omega arith) (omega arith) refl in record { is = at-not rows whole row k a.later; onward = a }
    expression-of (Binary o) k =
        let a = required k 1 (omega arith) (omega arith) refl in
        let b = required k 2 (omega arith) (omega arith) refl in
        record { is = at-binary rows whole row o k a.later b.later; onward = (a, b) }
    expression-of And k =
        let a = required k 1 (omega arith) (omega arith) refl in
        let b = required k 2 (omega arith) (omega arith) refl in
        record { is = at-and rows whole row k a.later b.later; onward = (a, b) }
    expression-of Or k =
        let a = required k 1 (omega arith) (omega arith) refl in
        let b = required k 2 (omega arith) (omega arith) refl in
        record { is = at-or rows whole row k a.later b.later; onward = (a, b) }
    expression-of Conditional k =
        let a = required k 1 (omega arith) (omega arith) refl in
        let b = required k 2 (omega arith) (omega arith) refl in
        let c = required k 3 (omega arith) (omega arith) refl in
        record { is = at-conditional rows whole row k a.later b.later c.later; onward = (a, b, c) }
    expression-of Comma k =
        let a = required k 1 (omega arith) (omega arith) refl in
        let b = required k 2 (omega arith) (omega arith) refl in
        record { is = at-comma rows whole row k a.later b.later; onward = (a, b) }
    expression-of Assign k =
        let a = required k 1 (omega arith) (omega arith) refl in
        let b = required k 2 (omega arith) (omega arith) refl in
        record { is = at-assign rows whole row k a.later b.later; onward = (a, b) }
    expression-of (Compound o) k =
        let a = required k 1 (omega arith) (omega arith) refl in
        let b = required k 2 (omega arith) (omega arith) refl in
        record { is = at-compound rows whole row o k a.later b.later; onward = (a, b) }
    expression-of (Prefix o) k = let a = required k 1 (omega arith) (omega arith) refl in record { is = at-prefix rows whole row o k a.later; onward = a }
    expression-of (Postfix o) k = let a = required k 1 (omega arith) (omega arith) refl in record { is = at-postfix rows whole row o k a.later; onward = a }
    expression-of Call k = let b = optional_link k 2 (omega arith) (omega arith) refl in record { is = at_call rows whole row k (forward 2 b); onward = b }

    -- What a row is as an expression; the constant 0 where it is none.
    pub expression-found : E (expression_in (shape_at rows row))
    unfolding shape_at definition_as member_as expression_of
    expression-found = go (kind_at rows row) refl
      where
        go : (kind : Kind) → kind_at rows row ≡ kind → E (expression_in (shape_as rows row kind))
        go (group.OfExpression kind) k = expression-of kind k
        go (group.OfStatement kind) k = record { is = rw (expression-at rows whole row, k); onward = tt }
        go (group.OfMark kind) k = record { is = rw (expression-at rows whole row, k); onward = tt }
        go (group.OfMember Arm) k = record { is = rw (expression-at rows whole row, k); onward = tt }
        go (group.OfMember Argument) k = record { is = rw (expression-at rows whole row, k); onward = tt }
        go group.Definition k = record { is = rw (expression-at rows whole row, k); onward = tt }
        go group.Other k = record { is = rw (expression-at rows whole row, k); onward = tt }

  -- ---- statements: the words of declarations are names

  module _ (name : ℕ → Type 0) (declares : kind_at rows row ≡ group.OfStatement Declare → name (f 1)) where
    abbrev S : StatementShape → Type 0
    S s = StatementWithin rows row name s

    if-of : kind_at rows row ≡ group.OfStatement If → (n : ℕ) → f 3 ≡ n → S (statement.If (f 1) (f 2) (f 3))
    unfolding sort_in kind_row statement_fields is_required is_link
    if-of k zero z =
        let a = required k 1 (omega arith) (omega arith) refl in
        let b = required k 2 (omega arith) (omega arith) refl in
        record { is = at-if_then rows whole row k a.later b.later z ∙ rw z; onward = (a, b, optional_link k 3 (omega arith) (omega arith) refl) }
    if-of k (suc n) z =
        let a = required k 1 (omega arith) (omega arith) refl in
        let b = required k 2 (omega arith) (omega arith) refl in
        let c = optional_link k 3 (omega arith) (omega arith) refl in
        record { is = at-if_else rows whole row k a.later b.later (c (omega arith)).later ∙ rw z; onward = (a, b, c) }

    statement-of : (kind : StatementKind) → kind_at rows row ≡ group.OfStatement kind → S (statement_as rows row kind)
    unfolding sort_in kind_row statement_fields is_required is_link
    statement-of Empty k = record { is = at-empty rows whole row k; onward = tt }
    statement-of Express k = let a = required k 1 (omega arith) (omega arith) refl in record { is = at-express rows whole row k a.later; onward = a }
    statement-of Block k = let a = optional_link k 1 (omega arith) (omega arith) refl in record { is = at_block rows whole row k (forward 1 a); onward = a }
    statement-of If k = if-of k (f 3) refl
    statement-of While k =
        let a = required k 1 (omega arith) (omega arith) refl in
        let b = required k 2 (omega arith) (omega arith) refl in
        record { is = at-while rows whole row k a.later b.later; onward = (a, b) }
    statement-of Do k =
        let a = required k 1 (omega arith) (omega arith) refl in
        let b = required k 2 (omega arith) (omega arith) refl in
        record { is = at-do_while rows whole row k a.later b.later; onward = (a, b) }
    statement-of For k =
        let a = optional_link k 1 (omega arith) (omega arith) refl in
        let b = optional_link k 2 (omega arith) (omega arith) refl in
        let c = optional_link k 3 (omega arith) (omega arith) refl in
        let d = required k 4 (omega arith) (omega arith) refl in
        record { is = at-for rows whole row k (forward 1 a) (forward 2 b) (forward 3 c) d.later; onward = (a, b, c, d) }
    statement-of Switch k =
        let a = required k 1 (omega arith) (omega arith) refl in
        let b = optional_link k 2 (omega arith) (omega arith) refl in
        record { is = at-switch rows whole row k a.later (forward 2 b); onward = (a, b) }
    statement-of Break k = record { is = at-break rows whole row k; onward = tt }
    statement-of Continue k = record { is = at-continue rows whole row k; onward = tt }
    statement-of Goto k = record { is = at-goto rows whole row k; onward = tt }
    statement-of GuardedIf k = let a = optional_link k 1 (omega arith) (omega arith) refl in record { is = at-guarded_if rows whole row k (forward 1 a); onward = a }
    statement-of GuardedDo k = let a = optional_link k 1 (omega arith) (omega arith) refl in record { is = at-guarded_do rows whole row k (forward 1 a); onward = a }
    statement-of Abort k = record { is = at-abort rows whole row k; onward = tt }
    statement-of Declare k = let b = optional_link k 2 (omega arith) (omega arith) refl in record { is = at-declared rows whole row (root_none sound) k (forward 2 b); onward = (declares k, initial 2 b) }
    statement-of Return k = let a = optional_link k 1 (omega arith) (omega arith) refl in record { is = at_return rows whole row k (forward 1 a); onward = a }

    -- What a row is as a statement; empty where it is none.
    pub statement-found : S (statement_in (shape_at rows row))
    unfolding shape_at definition_as member_as statement_of
    statement-found = go (kind_at rows row) refl
      where
        go : (kind : Kind) → kind_at rows row ≡ kind → S (statement_in (shape_as rows row kind))
        go (group.OfExpression kind) k = record { is = rw (statement-at rows whole row, k); onward = tt }
        go (group.OfStatement kind) k = statement-of kind k
        go (group.OfMark kind) k = record { is = rw (statement-at rows whole row, k); onward = tt }
        go (group.OfMember Arm) k = record { is = rw (statement-at rows whole row, k); onward = tt }
        go (group.OfMember Argument) k = record { is = rw (statement-at rows whole row, k); onward = tt }
        go group.Definition k = record { is = rw (statement-at rows whole row, k); onward = tt }
        go group.Other k = record { is = rw (statement-at rows whole row, k); onward = tt }

  -- ---- items

  mark-of : (kind : MarkKind) → kind_at rows row ≡ group.OfMark kind → ItemAt rows row (f 5) (item.Mark (mark_as rows row kind))
  mark-of Case k = record { is = at-case rows whole row k (forward 5 next); onward = next; parts = tt }
  mark-of Default k = record { is = at_default rows whole row k (forward 5 next); onward = next; parts = tt }
  mark-of Label k = record { is = at_label rows whole row k (forward 5 next); onward = next; parts = tt }

  definition-of : kind_at rows row ≡ group.Definition → ItemAt rows row (f 5) (item.Definition (f 1) (f 2) (f 3))
  unfolding sort_in kind_row definition_fields is_required is_link
  definition-of k =
      let b = optional_link k 2 (omega arith) (omega arith) refl in
      let c = required k 3 (omega arith) (omega arith) refl in
      record { is = at-definition rows whole row k (forward 2 b) c.later (forward 5 next); onward = next; parts = (b, c) }

  -- What a row is as an item: a mark, a definition, or else its statement.
  pub item-found : ItemAt rows row (f 5) (item_in (shape_at rows row))
  unfolding shape_at definition_as member_as items_of
  item-found = go (kind_at rows row) refl
    where
      go : (kind : Kind) → kind_at rows row ≡ kind → ItemAt rows row (f 5) (item_in (shape_as rows row kind))
      go (group.OfExpression kind) k = record { is = rw (items-at rows whole row, k) (ap (λ l. statement_at rows row then l) (later-list rows whole row (f 5) (forward 5 next))); onward = next; parts = tt }
      go (group.OfStatement kind) k = record { is = at_item rows whole row (rw k) (forward 5 next); onward = next; parts = tt }
      go (group.OfMark kind) k = mark-of kind k
      go (group.OfMember Arm) k = record { is = rw (items-at rows whole row, k) (ap (λ l. statement_at rows row then l) (later-list rows whole row (f 5) (forward 5 next))); onward = next; parts = tt }
      go (group.OfMember Argument) k = record { is = rw (items-at rows whole row, k) (ap (λ l. statement_at rows row then l) (later-list rows whole row (f 5) (forward 5 next))); onward = next; parts = tt }
      go group.Definition k = definition-of k
      go group.Other k = absurd (sound.known row inside k)

  -- ---- arms

  -- What a row is among arms; none where it is no arm.
  pub arm-found : ArmAt rows row (f 5) (arm_in (shape_at rows row))
  unfolding shape_at definition_as member_as arms_of sort_in kind_row member_fields is_required
  arm-found = go (kind_at rows row) refl
    where
      go : (kind : Kind) → kind_at rows row ≡ kind → ArmAt rows row (f 5) (arm_in (shape_as rows row kind))
      go (group.OfExpression kind) k = record { is = rw (arms-at rows whole row, k); onward = tt; behind = next }
      go (group.OfStatement kind) k = record { is = rw (arms-at rows whole row, k); onward = tt; behind = next }
      go (group.OfMark kind) k = record { is = rw (arms-at rows whole row, k); onward = tt; behind = next }
      go (group.OfMember Arm) k =
          let a = required k 1 (omega arith) (omega arith) refl in
          let b = required k 2 (omega arith) (omega arith) refl in
          record { is = at-arm rows whole row k a.later b.later (forward 5 next); onward = (a, b); behind = next }
      go (group.OfMember Argument) k = record { is = rw (arms-at rows whole row, k); onward = tt; behind = next }
      go group.Definition k = record { is = rw (arms-at rows whole row, k); onward = tt; behind = next }
      go group.Other k = record { is = rw (arms-at rows whole row, k); onward = tt; behind = next }

  -- ---- arguments

  -- What a row is among arguments; none where it is no argument.
  pub argument-found : ArgumentAt rows row (f 5) (argument_in (shape_at rows row))
  unfolding shape_at definition_as member_as arguments_of sort_in kind_row member_fields is_required
  argument-found = go (kind_at rows row) refl
    where
      go : (kind : Kind) → kind_at rows row ≡ kind → ArgumentAt rows row (f 5) (argument_in (shape_as rows row kind))
      go (group.OfExpression kind) k = record { is = rw (arguments-at rows whole row, k); onward = tt; behind = next }
      go (group.OfStatement kind) k = record { is = rw (arguments-at rows whole row, k); onward = tt; behind = next }
      go (group.OfMark kind) k = record { is = rw (arguments-at rows whole row, k); onward = tt; behind = next }
      go (group.OfMember Arm) k = record { is = rw (arguments-at rows whole row, k); onward = tt; behind = next }
      go (group.OfMember Argument) k =
          let a = required k 1 (omega arith) (omega arith) refl in
          record { is = at-argument rows whole row k a.later (forward 5 next); onward = a; behind = next }
      go group.Definition k = record { is = rw (arguments-at rows whole row, k); onward = tt; behind = next }
      go group.Other k = record { is = rw (arguments-at rows whole row, k); onward = tt; behind = next }

-- ---- places

no_place : (rows : List ℤ) (o : OperationShape) → place_of (operation_tree rows o) ≡ variable_tree 0
no_place rows (operation.Minus a) = refl
no_place rows (operation.Not a) = refl
no_place rows (operation.Binary operator a b) = refl
no_place rows (operation.Comma a b) = refl
no_place rows (operation.Assign p e) = refl
no_place rows (operation.Compound operator p e) = refl
no_place rows (operation.Prefix operator p) = refl
no_place rows (operation.Postfix operator p) = refl

no-place-chosen : (rows : List ℤ) (c : ChoiceShape) → place_of (choice_tree rows c) ≡ variable_tree 0
no-place-chosen rows (choice.And a b) = refl
no-place-chosen rows (choice.Or a b) = refl
no-place-chosen rows (choice.Conditional c a b) = refl

-- What a row is as a place; variable 0 where it is none.
pub place-in : {rows : List ℤ} {row : ℕ} {name : ℕ → Type 0} {arrays : ℕ} (s : ExpressionShape) → name 0 → ExpressionWithin rows row name arrays s → PlaceWithin rows row name arrays (place_in s)
place-in (Number v) some found = record { is = ap place_of found.is; onward = some }
place-in (Read p) some found = record { is = ap place_of found.is; onward = found.onward }
place-in {rows} (Operation o) some found = record { is = ap place_of found.is ∙ no_place rows o; onward = some }
place-in {rows} (Choice c) some found = record { is = ap place_of found.is ∙ no-place-chosen rows c; onward = some }
place-in (CallShape f arguments) some found = record { is = ap place_of found.is; onward = some }

-- ---- what a match tells

pub expressed : {rows : List ℤ} {row : ℕ} {name : ℕ → Type 0} {arrays : ℕ} {s t : ExpressionShape} → ExpressionWithin rows row name arrays s → s ≡ t → ExpressionWithin rows row name arrays t
expressed {rows} {row} {name} {arrays} found e = subst (λ (s : ExpressionShape). ExpressionWithin rows row name arrays s) e found

pub placed : {rows : List ℤ} {row : ℕ} {name : ℕ → Type 0} {arrays : ℕ} {p q : PlaceShape} → PlaceWithin rows row name arrays p → p ≡ q → PlaceWithin rows row name arrays q
placed {rows} {row} {name} {arrays} found e = subst (λ (p : PlaceShape). PlaceWithin rows row name arrays p) e found

pub stated : {rows : List ℤ} {row : ℕ} {name : ℕ → Type 0} {s t : StatementShape} → StatementWithin rows row name s → s ≡ t → StatementWithin rows row name t
stated {rows} {row} {name} found e = subst (λ (s : StatementShape). StatementWithin rows row name s) e found

pub itemed : {rows : List ℤ} {row next : ℕ} {i j : Item} → ItemAt rows row next i → i ≡ j → ItemAt rows row next j
itemed {rows} {row} {next} found e = subst (λ (i : Item). ItemAt rows row next i) e found

pub armed : {rows : List ℤ} {row next : ℕ} {i j : (Option (ℕ × ℕ))} → ArmAt rows row next i → i ≡ j → ArmAt rows row next j
armed {rows} {row} {next} found e = subst (λ (i : Option (ℕ × ℕ)). ArmAt rows row next i) e found

pub argued : {rows : List ℤ} {row next : ℕ} {i j : (Option ℕ)} → ArgumentAt rows row next i → i ≡ j → ArgumentAt rows row next j
argued {rows} {row} {next} found e = subst (λ (i : Option ℕ). ArgumentAt rows row next i) e found

-- the row behind, as the code has it
pub at_next : {rows : List ℤ} {row next read : ℕ} {i : Item} → read ≡ next → ItemAt rows row next i → ItemAt rows row read i
at_next {rows} {row} {next} {read} {i} e found = subst (λ (n : ℕ). ItemAt rows row n i) (sym e) found

-- a measure of the statement at a row is that of its shape
pub by-statement : {rows : List ℤ} {row : ℕ} {name : ℕ → Type 0} {s : StatementShape} {x : ℕ} (g : Statement → ℕ) → StatementWithin rows row name s → x ≡ g (statement_tree rows s) → x ≡ g (statement_at rows row)
by-statement g found e = e ∙ sym (ap g found.is)

pub optional : {rows : List ℤ} {row link : ℕ} → Onward rows row link → OptionalOnward rows row link
optional o h = o
