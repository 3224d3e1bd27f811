-- Sorts: what the table of kinds says of a row, by the row's kind.
use Rattle.std.proofs.Math.Path.{◌≡◌, refl, sym}
use Rattle.std.proofs.Common.{ap, ◌∙◌, arith, leb-true, le-leb, eqb-true}
use Rattle.std.specs.Prelude.{Bool, false, ◌||◌, List, ◌⊎◌, ℕ, ◌≤◌, leb, ℤ}
use Rattle.std.proofs.Math.Bool.{true, false≢true}
use Rattle.std.proofs.Math.Logic.{inl, inr, ⊎_elim}
use Rattle.std.proofs.Math.Dec.{eqb}
use Rattle.words.specs.Word.{pick}
use Rattle.words.specs.Table.{number_at}
use Rattle.words.specs.Kinds.{kinds, kind_in, kind_of, kind_at, is_statement_kind, optional_item, expression_row, place_row, statement_row, arm_row, argument_row, between, kind_row, expression_fields, statement_fields, mark_fields, definition_fields, member_fields, sort_in, sort_of, sort_at, stands_in, in_language}
use Rattle.words.specs.KindLaws.{every_line, every-number, arm-kind, argument-kind}
use Rattle.words.specs.Laws.{both, either, by_cases}
use Rattle.words.specs.declared.Form.{Form}
use Rattle.words.specs.declared.Kind.{Kind}
use Rattle.words.specs.declared.Kind.TheVariants.{OfExpression, OfStatement, OfMark, OfMember, Definition, Other}
use Rattle.words.specs.declared.ExpressionKind.{ExpressionKind}
use Rattle.words.specs.declared.ExpressionKind.TheVariants.{Variable, Element}
use Rattle.words.specs.declared.StatementKind.TheVariants.{Empty, Express, Block, If, While, Do, For, Switch, Break, Continue, Goto, GuardedIf, GuardedDo, Abort, Declare, Return}
use Rattle.words.specs.declared.MarkKind.TheVariants.{Case, Default, Label}
use Rattle.words.specs.declared.MemberKind.TheVariants.{Arm, Argument}
use Rattle.words.specs.Links.{is_expression, is_statement, is_arm, is_argument}

pub between-true : (least most number : ℕ) → between least most number ≡ true → (least ≤ number) × (number ≤ most)
between-true least most number e =
    let parts = both (leb least number) (leb number most) e in
    (leb-true _ _ parts.0, leb-true _ _ parts.1)

pub between_is : (least most number : ℕ) → least ≤ number → number ≤ most → between least most number ≡ true
between_is least most number p q = rw (le-leb least number p, le-leb number most q)

-- ---- the number of a statement's, mark's, definition's or arm's kind

unfoldable pub statement_number : Kind → ℕ
statement_number (OfExpression kind) = 0
statement_number (OfStatement Empty) = 40
statement_number (OfStatement Express) = 41
statement_number (OfStatement Block) = 42
statement_number (OfStatement If) = 43
statement_number (OfStatement While) = 44
statement_number (OfStatement Do) = 45
statement_number (OfStatement For) = 46
statement_number (OfStatement Switch) = 47
statement_number (OfMark Case) = 48
statement_number (OfMark Default) = 49
statement_number (OfStatement Break) = 50
statement_number (OfStatement Continue) = 51
statement_number (OfStatement Goto) = 52
statement_number (OfMark Label) = 53
statement_number (OfStatement GuardedIf) = 54
statement_number (OfStatement GuardedDo) = 55
statement_number (OfMember Arm) = 56
statement_number (OfStatement Abort) = 57
statement_number (OfStatement Declare) = 58
statement_number (OfStatement Return) = 60
statement_number (OfMember Argument) = 0
statement_number Definition = 59
statement_number Other = 0

abbrev numbered : ℕ → Kind → Bool
numbered number kind = pick (between statement_row arm_row (sort_in kind 0)) (eqb (statement_number kind) number) true

-- ---- tests over the table

is_operand : Kind → Bool
is_operand (OfExpression kind) = true
is_operand (OfStatement kind) = false
is_operand (OfMark kind) = false
is_operand (OfMember kind) = false
is_operand Definition = false
is_operand Other = false

-- a row of an expression's kind is an expression or a place
abbrev operand_sort : ℕ → Kind → Bool
operand_sort number kind = pick (is_operand kind) (between expression_row place_row (sort_in kind 0)) true

operand-sort : (number : ℕ) → operand_sort number (kind_of number) ≡ true
unfolding every_line kinds sort_in kind_row expression_fields statement_fields mark_fields definition_fields member_fields is_operand
operand-sort number = every-number operand_sort refl (λ number. refl) number

abbrev place_number : ℕ → Kind → Bool
place_number number kind = pick (eqb (sort_in kind 0) place_row) (eqb number 2 || eqb number 3) true

place-number : (number : ℕ) → place_number number (kind_of number) ≡ true
unfolding every_line kinds sort_in kind_row expression_fields statement_fields mark_fields definition_fields member_fields
place-number number = every-number place_number refl (λ number. refl) number

module _ (rows : List ℤ) (row : ℕ) where
  own-number : between statement_row arm_row (sort_in (kind_at rows row) 0) ≡ true → number_at rows row 0 ≡ statement_number (kind_at rows row)
  unfolding kind_at every_line kinds sort_in kind_row expression_fields statement_fields mark_fields definition_fields member_fields statement_number
  own-number e = sym (eqb-true _ _ (rw e at (every-number numbered refl (λ number. refl) (number_at rows row 0))))

  pub number_is : {kind : Kind} → kind_at rows row ≡ kind → between statement_row arm_row (sort_in kind 0) ≡ true → number_at rows row 0 ≡ statement_number kind
  number_is k e = own-number (ap (λ kind. between statement_row arm_row (sort_in kind 0)) k ∙ e) ∙ ap statement_number k

  pub sort-is : (field : ℕ) → sort_at rows row field ≡ sort_in (kind_at rows row) field
  unfolding sort_at sort_of kind_at
  sort-is field = refl

  -- "'Place' means a row of kind 2 or 3."
  pub place-kind : sort_at rows row 0 ≡ place_row → (kind_at rows row ≡ OfExpression Variable) ⊎ (kind_at rows row ≡ OfExpression Element)
  unfolding sort_at sort_of kind_at kind_of kind_in kinds
  place-kind e =
      let number = number_at rows row 0 in
      ⊎_elim (λ h. inl (ap kind_of (eqb-true number 2 h))) (λ h. inr (ap kind_of (eqb-true number 3 h)))
      (either (eqb number 2) (eqb number 3) (rw e at (place-number number)))

  pub operand-is : {kind : ExpressionKind} → kind_at rows row ≡ OfExpression kind → between expression_row place_row (sort_in (OfExpression kind) 0) ≡ true
  unfolding kind_at is_operand
  operand-is k = rw k at (operand-sort (number_at rows row 0))

  -- a row of a statement's sort is a statement, a mark or a definition
  pub statement-kind : sort_at rows row 0 ≡ statement_row → (is_statement_kind (kind_at rows row) ≡ true) ⊎ ((kind_at rows row ≡ OfMark Case) ⊎ ((kind_at rows row ≡ OfMark Default) ⊎ ((kind_at rows row ≡ OfMark Label) ⊎ (kind_at rows row ≡ Definition))))
  unfolding sort_in kind_row definition_fields member_fields
  statement-kind e = go (kind_at rows row) refl (sym (sort-is 0) ∙ e)
    where
      go : (kind : Kind) → kind_at rows row ≡ kind → sort_in kind 0 ≡ statement_row
          → (is_statement_kind kind ≡ true) ⊎ ((kind ≡ OfMark Case) ⊎ ((kind ≡ OfMark Default) ⊎ ((kind ≡ OfMark Label) ⊎ (kind ≡ Definition))))
      go (OfExpression kind) k t = absurd (false≢true (rw t at (operand-is k)))
      go (OfStatement kind) k t = inl refl
      go (OfMark Case) k t = inr (inl refl)
      go (OfMark Default) k t = inr (inr (inl refl))
      go (OfMark Label) k t = inr (inr (inr (inl refl)))
      go (OfMember Arm) k t = absurd (let z : ◌≡◌ {A = ℕ} 21 20 = t in omega arith)
      go (OfMember Argument) k t = absurd (let z : ◌≡◌ {A = ℕ} 22 20 = t in omega arith)
      go Definition k t = inr (inr (inr (inr refl)))
      go Other k t = absurd (let z : ◌≡◌ {A = ℕ} 0 20 = t in omega arith)

  -- a block is a statement
  pub block-statement : number_at rows row 0 ≡ 42 → is_statement rows row ≡ true
  unfolding is_statement sort_at sort_of kind_of kind_in kinds sort_in kind_row statement_fields
  block-statement e = rw e

  -- "Items of a block or switch are linked by next."
  pub item-next : is_statement rows row ≡ true → sort_at rows row 5 ≡ optional_item
  unfolding is_statement sort_in kind_row definition_fields member_fields
  item-next e = go (kind_at rows row) refl (rw (sort-is 0) at e)
    where
      go : (kind : Kind) → kind_at rows row ≡ kind → eqb (sort_in kind 0) statement_row ≡ true → sort_at rows row 5 ≡ optional_item
      go (OfExpression kind) k t = absurd (false≢true (rw (eqb-true (sort_in (OfExpression kind) 0) statement_row t) at (operand-is k)))
      go (OfStatement kind) k t = rw (sort-is 5, k)
      go (OfMark kind) k t = rw (sort-is 5, k)
      go (OfMember Arm) k t = absurd (false≢true t)
      go (OfMember Argument) k t = absurd (false≢true t)
      go Definition k t = rw (sort-is 5, k)
      go Other k t = absurd (false≢true t)

  -- "Kind 56 (arm)".
  pub arm_is : is_arm rows row ≡ true → kind_at rows row ≡ OfMember Arm
  unfolding is_arm sort_at sort_of kind_at
  arm_is e = arm-kind (number_at rows row 0) e

  -- "Kind 32 is an argument".
  pub argument_is : is_argument rows row ≡ true → kind_at rows row ≡ OfMember Argument
  unfolding is_argument sort_at sort_of kind_at
  argument_is e = argument-kind (number_at rows row 0) e

module _ (form : Form) (rows : List ℤ) (row : ℕ) (known : in_language form (number_at rows row 0) ≡ true) where
  -- the form has the row's kind
  pub in-language : {kind : Kind} → kind_at rows row ≡ kind → stands_in (kind_row kind).forms form ≡ true
  unfolding in_language kind_at
  in-language k = rw k at known

  pub kind-known : kind_at rows row ≡ Other → ⊥
  unfolding kind_row
  kind-known e = false≢true (in-language e)

  -- An expression, a statement, an arm or an argument.
  abbrev pub RowSort : Type 0
  RowSort = (is_expression rows row ≡ true) ⊎ ((is_statement rows row ≡ true) ⊎ ((is_arm rows row ≡ true) ⊎ (is_argument rows row ≡ true)))

  pub row-sort : RowSort
  unfolding is_expression is_statement is_arm is_argument sort_in kind_row definition_fields member_fields
  row-sort = go (kind_at rows row) refl
    where
      go : (kind : Kind) → kind_at rows row ≡ kind → RowSort
      go (OfExpression kind) k = inl (rw (sort-is rows row 0, k) (operand-is rows row k))
      go (OfStatement kind) k = inr (inl (rw (sort-is rows row 0, k)))
      go (OfMark kind) k = inr (inl (rw (sort-is rows row 0, k)))
      go (OfMember Arm) k = inr (inr (inl (rw (sort-is rows row 0, k))))
      go (OfMember Argument) k = inr (inr (inr (rw (sort-is rows row 0, k))))
      go Definition k = inr (inl (rw (sort-is rows row 0, k)))
      go Other k = absurd (kind-known k)
