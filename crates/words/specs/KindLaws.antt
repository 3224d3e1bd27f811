-- Laws of the table of kinds: what holds of every kind is tested over the table.
use Rattle.std.specs.Prelude.{◌≡◌, refl, Bool, true, false, ◌&&◌, ◌||◌, List, [], ◌∷◌, ℕ, zero, suc, ◌+◌, ◌-◌, ◌≤◌, eqb, ℤ}
use Rattle.std.proofs.Common.{sym, ap, ◌∙◌, arith, eqb-true, leb-true}
use Rattle.std.proofs.lemmas.Bool.{eqb-false}
use Rattle.words.specs.Word.{pick}
use Rattle.words.specs.Table.{number_at}
use Rattle.words.specs.Kinds.{kinds, kind_in, kind_of, kind_at, operators, operator_of, is_expression_kind, is_statement_kind, between, expression, place, branch, body_block, arm_row, argument_row, is_link, is_required, kind_row, expression_fields, statement_fields, mark_fields, definition_fields, member_fields, sort_in, is_function_number, is_place_kind}
use Rattle.words.specs.Laws.{both, by_cases}
use Rattle.words.specs.declared.Operator.{Operator}
use Rattle.words.specs.declared.Kind.{Kind}
use Rattle.words.specs.declared.Kind.TheVariants.{OfExpression, OfStatement, OfMark, OfMember, Definition, Other}
use Rattle.words.specs.declared.MarkKind.{MarkKind}
use Rattle.words.specs.declared.MarkKind.TheVariants.{Case, Default, Label}
use Rattle.words.specs.declared.MemberKind.TheVariants.{Arm, Argument}
use Rattle.words.specs.declared.ExpressionKind.{ExpressionKind}
use Rattle.words.specs.declared.ExpressionKind.TheVariants.{Constant, Variable, Element, Minus, Not, Binary, And, Or, Conditional, Comma, Assign, Compound, Prefix, Postfix, Call}

-- A test that every line of the table passes.
unfoldable pub every_line : (ℕ → Kind → Bool) → List (ℕ × Kind) → Bool
every_line test [] = true
every_line test (k ∷ ks) = test k.0 k.1 && every_line test ks

-- What every line passes, and a number without a kind too, every number passes.
pub every-number : (test : ℕ → Kind → Bool) → every_line test kinds ≡ true → ((number : ℕ) → test number Other ≡ true) → (number : ℕ) → test number (kind_of number) ≡ true
unfolding kind_of kind_in every_line
every-number test passed other number = go kinds passed
  where
    go : (ks : List (ℕ × Kind)) → every_line test ks ≡ true → test number (kind_in ks number) ≡ true
    go [] e = other number
    go (k ∷ ks) e = by (eqb number k.0) refl (both (test k.0 k.1) (every_line test ks) e).0 (go ks (both (test k.0 k.1) (every_line test ks) e).1)
      where
        by : (same : Bool) → eqb number k.0 ≡ same → test k.0 k.1 ≡ true → test number (kind_in ks number) ≡ true → test number (pick same k.1 (kind_in ks number)) ≡ true
        by true s here later = rw (eqb-true number k.0 s) here
        by false s here later = later

-- A link that must be there is a link.
pub required-link : (sort : ℕ) → is_required sort ≡ true → is_link sort ≡ true
unfolding is_required is_link
required-link sort r = by (eqb sort expression) refl r
  where
    by : (t : Bool) → eqb sort expression ≡ t → (t || (eqb sort place || (eqb sort branch || eqb sort body_block))) ≡ true → is_link sort ≡ true
    by true e r = rw (eqb-true sort expression e)
    by false e r = by_place (eqb sort place) refl r
      where
        by_place : (t : Bool) → eqb sort place ≡ t → (t || (eqb sort branch || eqb sort body_block)) ≡ true → is_link sort ≡ true
        by_place true e r = rw (eqb-true sort place e)
        by_place false e r = by-branch (eqb sort branch) refl r
          where
            by-branch : (t : Bool) → eqb sort branch ≡ t → (t || eqb sort body_block) ≡ true → is_link sort ≡ true
            by-branch true e r = rw (eqb-true sort branch e)
            by-branch false e r = rw (eqb-true sort body_block r)

-- ---- the kind of a row, from its number

pub kind-numbered : (rows : List ℤ) (row : ℕ) {number : ℕ} → number ≡ number_at rows row 0 → (key : ℕ) → number ≡ key → kind_at rows row ≡ kind_of key
unfolding kind_at
kind-numbered rows row p key e = ap kind_of (sym p ∙ e)

-- The numbers that some kinds have: `these` tells the kinds, `numbers` their numbers.
numbers-of : (these : Kind → Bool) (numbers : ℕ → Bool) → every_line (λ number kind. pick (these kind) (numbers number) true) kinds ≡ true → these Other ≡ false
    → (number : ℕ) → these (kind_of number) ≡ true → numbers number ≡ true
numbers-of these numbers passed other number t = rw t at (every-number (λ number kind. pick (these kind) (numbers number) true) passed (λ number. rw other) number)

pub between-both : (least most number : ℕ) → between least most number ≡ true → (least ≤ number) × (number ≤ most)
between-both least most number e = let parts = both _ _ e in (leb-true least number parts.0, leb-true number most parts.1)

-- A number that no expression has, and one that no statement has.
pub no-expression : (number : ℕ) → ((1 ≤ number) × (number ≤ 31) → ⊥) → is_expression_kind (kind_of number) ≡ false
unfolding every_line kinds
no-expression number beyond =
    by_cases (is_expression_kind (kind_of number)) (λ e. absurd (beyond (between-both 1 31 number (numbers-of is_expression_kind (between 1 31) refl refl number e)))) (λ e. e)

-- The numbers of statements, marks and definitions apart.
abbrev statement_numbers : ℕ → Bool
statement_numbers n = between 40 47 n || (between 50 52 n || (between 54 55 n || (between 57 58 n || eqb n 60)))

pub no-statement : (number : ℕ) → ((40 ≤ number) × (number ≤ 47) → ⊥) → ((50 ≤ number) × (number ≤ 52) → ⊥) → ((54 ≤ number) × (number ≤ 55) → ⊥) → ((57 ≤ number) × (number ≤ 58) → ⊥) → (number ≡ 60 → ⊥)
    → is_statement_kind (kind_of number) ≡ false
unfolding every_line kinds
no-statement number plain jumps guarded others last =
    by_cases (is_statement_kind (kind_of number))
    (λ e. let inside = numbers-of is_statement_kind statement_numbers refl refl number e in
    by_cases (between 40 47 number) (λ t. absurd (plain (between-both 40 47 number t)))
    (λ t. by_cases (between 50 52 number) (λ u. absurd (jumps (between-both 50 52 number u)))
    (λ u. by_cases (between 54 55 number) (λ v. absurd (guarded (between-both 54 55 number v)))
    (λ v. by_cases (between 57 58 number) (λ w. absurd (others (between-both 57 58 number w)))
    (λ w. absurd (last (eqb-true number 60 (rw (t, u, v, w) at inside))))))))
    (λ e. e)

-- A place is a variable or an element.
pub place-cases : {A : Type 0} (number : ℕ) → is_place_kind (kind_of number) ≡ true → (number ≡ 2 → A) → (number ≡ 3 → A) → A
unfolding every_line kinds is_place_kind sort_in kind_row expression_fields statement_fields mark_fields definition_fields member_fields
place-cases number e f g =
    let inside = between-both 2 3 number (numbers-of is_place_kind (between 2 3) refl refl number e) in
    by_cases (eqb number 2) (λ t. f (eqb-true number 2 t)) (λ t. g (omega (arith, eqb-false number 2 t, inside.0, inside.1)))

-- An arm's row is of the kind of arms.
abbrev own_arm : ℕ → Kind → Bool
own_arm number kind = pick (eqb (sort_in kind 0) arm_row) (eqb number 56) true

pub arm-kind : (number : ℕ) → eqb (sort_in (kind_of number) 0) arm_row ≡ true → kind_of number ≡ OfMember Arm
unfolding every_line kinds kind_of kind_in sort_in kind_row expression_fields statement_fields mark_fields definition_fields member_fields
arm-kind number e = rw (eqb-true number 56 (rw e at (every-number own_arm refl (λ n. refl) number)))

-- An argument's row is of the kind of arguments.
abbrev own_argument : ℕ → Kind → Bool
own_argument number kind = pick (eqb (sort_in kind 0) argument_row) (eqb number 32) true

pub argument-kind : (number : ℕ) → eqb (sort_in (kind_of number) 0) argument_row ≡ true → kind_of number ≡ OfMember Argument
unfolding every_line kinds kind_of kind_in sort_in kind_row expression_fields statement_fields mark_fields definition_fields member_fields
argument-kind number e = rw (eqb-true number 32 (rw e at (every-number own_argument refl (λ n. refl) number)))

-- The number of a mark.
abbrev pub mark_number : MarkKind → ℕ
mark_number Case = 48
mark_number Default = 49
mark_number Label = 53

abbrev own_number : ℕ → Kind → Bool
own_number number (OfExpression kind) = true
own_number number (OfStatement kind) = true
own_number number (OfMark kind) = eqb number (mark_number kind)
own_number number (OfMember kind) = true
own_number number Definition = true
own_number number Other = true

pub mark-number : (number : ℕ) {kind : MarkKind} → kind_of number ≡ OfMark kind → number ≡ mark_number kind
unfolding every_line kinds
mark-number number {kind} k = eqb-true number (mark_number kind) (rw k at (every-number own_number refl (λ n. refl) number))

-- ---- kinds that differ in an operator

-- What holds of so many numbers more from one on.
abbrev Each : ℕ → ℕ → (ℕ → Type 0) → Type 0
Each from zero holds = holds from
Each from (suc more) holds = holds from × Each (suc from) more holds

each : (from more : ℕ) (holds : ℕ → Type 0) → Each from more holds → (k : ℕ) → from ≤ k → k ≤ from + more → holds k
each from zero holds e k p q = let same : k ≡ from = omega arith in rw same e
each from (suc more) holds e k p q =
    by_cases (eqb k from) (λ t. rw (eqb-true k from t) e.0) (λ t. each (suc from) more holds e.1 k (omega (arith, eqb-false k from t)) (omega arith))

-- The kinds from `first` to `last` have the operators in their order.
ranged : (first last : ℕ) (kind : Operator → Kind) → Each first (last - first) (λ n. kind_of n ≡ kind (operator_of (n - first)))
    → (number : ℕ) → first ≤ number → number ≤ last → kind_of number ≡ kind (operator_of (number - first))
ranged first last kind lines number p q = each first (last - first) (λ n. kind_of n ≡ kind (operator_of (n - first))) lines number p (omega arith)

module _ (number : ℕ) where
  pub binary-kind : 6 ≤ number → number ≤ 16 → kind_of number ≡ OfExpression (Binary (operator_of (number - 6)))
  unfolding kinds kind_in kind_of operators operator_of
  binary-kind p q = ranged 6 16 (λ o. OfExpression (Binary o)) (refl, (refl, (refl, (refl, (refl, (refl, (refl, (refl, (refl, (refl, refl)))))))))) number p q

  pub compound-kind : 22 ≤ number → number ≤ 26 → kind_of number ≡ OfExpression (Compound (operator_of (number - 22)))
  unfolding kinds kind_in kind_of operators operator_of
  compound-kind p q = ranged 22 26 (λ o. OfExpression (Compound o)) (refl, (refl, (refl, (refl, refl)))) number p q

  pub prefix-kind : 27 ≤ number → number ≤ 28 → kind_of number ≡ OfExpression (Prefix (operator_of (number - 27)))
  unfolding kinds kind_in kind_of operators operator_of
  prefix-kind p q = ranged 27 28 (λ o. OfExpression (Prefix o)) (refl, refl) number p q

  pub postfix-kind : 29 ≤ number → number ≤ 30 → kind_of number ≡ OfExpression (Postfix (operator_of (number - 29)))
  unfolding kinds kind_in kind_of operators operator_of
  postfix-kind p q = ranged 29 30 (λ o. OfExpression (Postfix o)) (refl, refl) number p q

-- ---- what the last arm of a match knows: the number is none of those before it

-- So many numbers from one on were passed; `known` is what was known before.
abbrev pub Passed : ℕ → ℕ → ℕ → Type 0 → Type 0
Passed from zero number known = known
Passed from (suc more) number known = Passed (suc from) more number (known × (number ≡ from → ⊥))

pub passed : (from more number : ℕ) (known : Type 0) → Passed from more number known → known × (from ≤ number → from + more ≤ number)
passed from zero number known rest = (rest, λ h. omega arith)
passed from (suc more) number known rest =
    let later = passed (suc from) more number (known × (number ≡ from → ⊥)) rest in
    (later.0.0, λ h. let beyond : suc from ≤ number = omega (arith, later.0.1) in omega (arith, later.1 beyond))

-- A definition's number is one of the kinds of functions, and so is a call's.
abbrev is_call : ExpressionKind → Bool
is_call Constant = false
is_call Variable = false
is_call Element = false
is_call Minus = false
is_call Not = false
is_call (Binary operator) = false
is_call And = false
is_call Or = false
is_call Conditional = false
is_call Comma = false
is_call Assign = false
is_call (Compound operator) = false
is_call (Prefix operator) = false
is_call (Postfix operator) = false
is_call Call = true

abbrev own_function : ℕ → Kind → Bool
own_function number (OfExpression kind) = pick (is_call kind) (is_function_number number) true
own_function number (OfStatement kind) = true
own_function number (OfMark kind) = true
own_function number (OfMember kind) = true
own_function number Definition = is_function_number number
own_function number Other = true

own-function : (number : ℕ) → own_function number (kind_of number) ≡ true
unfolding every_line kinds is_function_number
own-function number = every-number own_function refl (λ n. refl) number

pub definition-number : (number : ℕ) → kind_of number ≡ Definition → is_function_number number ≡ true
definition-number number k = rw k at (own-function number)

pub call-number : (number : ℕ) → kind_of number ≡ OfExpression Call → is_function_number number ≡ true
call-number number k = rw k at (own-function number)
