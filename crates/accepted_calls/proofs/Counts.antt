-- Counts: as many arguments as a call's list has rows, and as many parameters as a definition's.
use Rattle.std.specs.Prelude.{◌≡◌, List, ◌∷◌, ℤ, length}
use Rattle.std.proofs.Math.Path.{refl, sym, ap}
use Rattle.std.proofs.Common.{◌∙◌, arith, add-one}
use Prim.Native.Nat.{ℕ, zero, suc, ◌<◌}
use Rattle.words.specs.Table.{row_count, Whole, number_at}
use Rattle.words.specs.Kinds.{kind_at, is_link, sort_in, kind_row, statement_fields, member_fields}
use Rattle.words.specs.Links.{link}
use Rattle.words.specs.declared.Kind.TheVariants.{OfMember}
use Rattle.words.specs.declared.MemberKind.TheVariants.{Argument}
use Rattle.language.specs.Decode.{arguments_at, argument_list_at, parameters_at, parameter_list_at}
use Rattle.language.specs.DecodeLaws.{at-argument, at-parameter}
use Rattle.language.specs.Calls.{argument_count}
use Rattle.check_function_causes.specs.Demands.{Listed, ended, counted}
use Rattle.check_parameter_causes.specs.Demands.{Parameter, first_parameter, next_parameter}
use Rattle.accepted_calls.specs.Tables.{FunctionTable}
use Rattle.accepted_calls.specs.Kinds.{declaration-kind}
use Rattle.accepted_calls.specs.CallsAlong.{followed, link-same}

module _ (rows : List ℤ) (table : FunctionTable rows) where
  whole : Whole rows
  whole = sym table.tree.whole

  arguments-some : (l : ℕ) → 0 < l → argument_list_at rows l ≡ arguments_at rows l
  arguments-some zero p = absurd (omega arith)
  arguments-some (suc l) p = refl

  parameters-some : (l : ℕ) → 0 < l → parameter_list_at rows l ≡ parameters_at rows l
  parameters-some zero p = absurd (omega arith)
  parameters-some (suc l) p = refl

  -- A row where arguments begin.
  pub record AtArgument (row : ℕ) : Type 0 where
    pub inside : row < row_count rows
    pub kind : kind_at rows row ≡ OfMember Argument

  next-at : (row : ℕ) → AtArgument row → 0 < link rows row 5 → AtArgument (link rows row 5)
  unfolding sort_in kind_row member_fields is_link
  next-at row own p =
      let same = link-same rows table.tree row own.inside own.kind 5 refl in
      record { inside = (table.tree.forward row 5 own.inside (omega arith) p).inside; kind = rw same (table.links.next_argument row own.inside own.kind (rw (← same) p)) }

  argument-step : (row : ℕ) → 0 < row → AtArgument row → argument_count (argument_list_at rows row) ≡ suc (argument_count (argument_list_at rows (link rows row 5)))
  unfolding argument_count sort_in kind_row member_fields is_link
  argument-step row p own =
      let value = followed rows table.tree row own.inside own.kind 1 refl (table.links.value_there row own.inside own.kind) in
      let same = link-same rows table.tree row own.inside own.kind 5 refl in
      rw (
        arguments-some row p,
        same,
        at-argument rows whole row own.kind (rw (← value.same) value.leads.later) (λ q. rw (← same) (table.tree.forward row 5 own.inside (omega arith) (rw same q)).later),
      )

  pub arguments-counted : {row count : ℕ} → Listed rows row count → (0 < row → AtArgument row) → argument_count (argument_list_at rows row) ≡ count
  unfolding argument_count
  arguments-counted ended own = refl
  arguments-counted (counted {row} {count} p rest) own =
      argument-step row p (own p) ∙ ap suc (arguments-counted rest (next-at row (own p))) ∙ sym (add-one count)

  -- ---- parameters

  module _ (definition : ℕ) where
    pub parameter-inside : {row : ℕ} → Parameter rows definition row → row < row_count rows
    parameter-inside (first_parameter d leads) = leads.inside
    parameter-inside (next_parameter p leads) = leads.inside

    pub parameter-list : (row : ℕ) → 0 < row → Parameter rows definition row → parameter_list_at rows row ≡ number_at rows row 1 ∷ parameter_list_at rows (link rows row 5)
    unfolding sort_in kind_row statement_fields is_link
    parameter-list row p own =
        let declared = table.links.parameter definition row own in
        let n = parameter-inside own in
        let same = link-same rows table.tree row n (declaration-kind rows row declared) 5 refl in
        rw (parameters-some row p, same, at-parameter rows whole row declared (λ q. rw (← same) (table.tree.forward row 5 n (omega arith) (rw same q)).later))

    pub parameters-counted : {row count : ℕ} → Listed rows row count → (0 < row → Parameter rows definition row) → length (parameter_list_at rows row) ≡ count
    parameters-counted ended own = refl
    parameters-counted (counted {row} {count} p rest) own =
        ap length (parameter-list row p (own p))
        ∙ ap suc (parameters-counted rest (λ q. next_parameter (own p) (table.tree.forward row 5 (parameter-inside (own p)) (omega arith) q)))
        ∙ sym (add-one count)
