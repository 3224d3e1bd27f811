-- Items: in a structured kernel table a row that is an item of a list is a statement, a label or a definition, and so are the rows that it links as
-- items.
use Rattle.std.specs.Prelude.{◌≡◌, true, false, List, ◌⊎◌, ℤ}
use Rattle.std.proofs.Math.Path.{refl}
use Rattle.std.proofs.Common.{sym, ◌∙◌, true≢false, eqb-true}
use Rattle.std.proofs.Math.Logic.{inl, inr, ⊎_elim}
use Prim.Native.Nat.{ℕ, zero, suc, ◌<◌}
use native.Mathlib.Omega.{arith}
use Rattle.words.specs.Table.{row_count, number_at}
use Rattle.words.specs.Kinds.{kind_at, optional_item, optional_argument, is_link, is_statement_kind, sort_in, kind_row, expression_fields, mark_fields, stands_in}
use Rattle.words.specs.Links.{is_statement, link, fits}
use Rattle.words.specs.declared.Form.TheVariants.{Kernel}
use Rattle.words.specs.declared.Kind.{Kind}
use Rattle.words.specs.declared.Kind.TheVariants.{OfExpression, OfMark, Definition}
use Rattle.words.specs.declared.ExpressionKind.TheVariants.{Call}
use Rattle.words.specs.declared.MarkKind.TheVariants.{Label}
use Rattle.words_roles.specs.Roles.{is_parameter}
use Rattle.language.specs.Trees.{call, none}
use Rattle.language.specs.Decode.{expression_at, argument_list_at, items_at}
use Rattle.language.specs.DecodeLaws.{at_call, at_item, at_label}
use Rattle.check_fields.specs.declared.Bounds.{Bounds}
use Rattle.check_structure.specs.Structured.{Structured}
use Rattle.check_structure.specs.RoleLaws.{first-parameter}
use Rattle.accepted_calls.specs.Kinds.{kind-definition}
use Rattle.accepted.specs.Sorts.{statement-kind, in-language}
use Rattle.accepted.proofs.Fields.{MayLink, may-link, item-link}
use Rattle.accepted.proofs.Expressions.{ArgumentsRow, no_arguments, whole-rows, arguments-row}
use Rattle.accepted.proofs.Statements.{ParametersRow, no-parameters, parameters-row}
use Rattle.accepted.proofs.Definitions.{defines}

-- A row that is an item of a list, row 0 among them: a parameter is none.
pub record IsItem (table : List ℤ) (row : ℕ) : Type 0 where
  pub statement : is_statement table row ≡ true
  pub other_role : is_parameter table row ≡ false

-- The item that a field links.
pub item-at : (table : List ℤ) {row field : ℕ} → MayLink table row optional_item field → 0 < link table row field → (link table row field < row_count table) × IsItem table (link table row field)
unfolding fits
item-at table l p = ((l.leads p).inside, record { statement = l.fit p; other_role = l.other p })

module _ (bounds : Bounds) (table : List ℤ) (u : Structured Kernel bounds table) (row : ℕ) (n : row < row_count table) where
  pub not-in-kernel : {kind : Kind} → kind_at table row ≡ kind → stands_in (kind_row kind).forms Kernel ≡ false → ⊥
  not-in-kernel k f = true≢false (sym (in-language Kernel table row (u.known row n) k) ∙ f)

  -- A statement, a label or a definition.
  pub kernel-kinds : is_statement table row ≡ true → (is_statement_kind (kind_at table row) ≡ true) ⊎ ((kind_at table row ≡ OfMark Label) ⊎ (kind_at table row ≡ Definition))
  unfolding is_statement kind_row mark_fields
  kernel-kinds h =
      ⊎_elim (λ k. inl k)
      (⊎_elim (λ k. absurd (not-in-kernel k refl))
      (⊎_elim (λ k. absurd (not-in-kernel k refl)) (λ k. inr k)))
      (statement-kind table row (eqb-true _ _ h))

  -- What stands behind it in its list.
  pub next-item : IsItem table row → MayLink table row optional_item 5
  next-item h = item-link Kernel bounds table u row n h.other_role h.statement

  -- Its list is not empty.
  pub items-some : IsItem table row → items_at table row ≡ none → ⊥
  items-some h e =
      let next = next-item h in
      let w = whole-rows Kernel bounds table u in
      ⊎_elim (λ k. let f = at_item table w row k next.later in let z : ◌≡◌ {A = ℕ} 0 1 = cc in omega arith)
      (⊎_elim (λ k. let f = at_label table w row k next.later in let z : ◌≡◌ {A = ℕ} 0 1 = cc in omega arith)
      (λ k. let f = (defines Kernel bounds table u row n k).items-is in let z : ◌≡◌ {A = ℕ} 0 1 = cc in omega arith))
      (kernel-kinds h.statement)

  -- A call, and its arguments.
  call-link : kind_at table row ≡ OfExpression Call → MayLink table row optional_argument 2
  unfolding is_link sort_in kind_row expression_fields
  call-link k = may-link Kernel bounds table u row n k optional_argument 2 refl refl

  pub call-is : kind_at table row ≡ OfExpression Call → expression_at table row ≡ call (number_at table row 1) (argument_list_at table (link table row 2))
  call-is k = let a = call-link k in rw a.same (at_call table (whole-rows Kernel bounds table u) row k a.later)

  pub arguments-at : kind_at table row ≡ OfExpression Call → ArgumentsRow table (link table row 2)
  unfolding fits
  arguments-at k = go (link table row 2) refl
    where
      go : (l : ℕ) → link table row 2 ≡ l → ArgumentsRow table (link table row 2)
      go zero z = no_arguments z (rw z)
      go (suc l) z =
          let a = call-link k in
          let p : 0 < link table row 2 = omega arith in
          arguments-row Kernel bounds table u (link table row 2) (a.leads p).inside (a.fit p) p

  -- The parameters of a definition.
  pub parameters-at : kind_at table row ≡ Definition → ParametersRow table (link table row 2)
  parameters-at k = go (link table row 2) refl
    where
      go : (l : ℕ) → link table row 2 ≡ l → ParametersRow table (link table row 2)
      go zero z = no-parameters z (rw z)
      go (suc l) z =
          let p : 0 < link table row 2 = omega arith in
          parameters-row Kernel bounds table u (link table row 2) (u.forward row n 2 (omega arith) (omega arith) p).inside (first-parameter Kernel bounds table u row n (kind-definition table row k) p) p
