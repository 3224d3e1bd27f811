-- Fronts of resolved programs: resolving names leaves definitions, their order and the words at the seam as they were.
use Rattle.std.specs.Prelude.{◌≡◌, true, List, ℤ}
use Rattle.std.proofs.Math.Path.{refl, ap}
use Rattle.std.proofs.Common.{sym, ◌∙◌, subst, arith, eqb-true}
use Prim.Native.Nat.{ℕ, zero, suc, ◌+◌, ◌<◌}
use Rattle.words.specs.Word.{natural}
use Rattle.words.specs.Table.{row_count, number_at}
use Rattle.words.specs.Links.{link}
use Rattle.names.specs.Names.{is_name, resolved}
use Rattle.names.proofs.ResolvedLaws.{resolved-other, resolved-kind, resolved-link, resolved-count, resolved-leads}
use Rattle.check_function_causes.specs.Functions.{is_definition}
use Rattle.check_function_causes.specs.Demands.{InFront, foremost, behind}
use Rattle.join.specs.Join.{item_from, functions_from, functions_of, first_item}
use Rattle.join.specs.Moved.{at_seam, InOrder}
use Rattle.join.proofs.MovedRoles.{definition-undeclared}

module _ (S : ℕ) (rows : List ℤ) where
  pub resolved-definition : (row : ℕ) → is_definition (resolved S rows) row ≡ is_definition rows row
  unfolding is_definition
  resolved-definition row = rw (resolved-kind S rows row)

  pub resolved-seam : (row field : ℕ) → at_seam (resolved S rows) row field ≡ at_seam rows row field
  unfolding at_seam
  resolved-seam row field = rw (resolved-definition row)

  item-from : (most row : ℕ) → item_from most (resolved S rows) row ≡ item_from most rows row
  unfolding item_from
  item-from zero row = refl
  item-from (suc most) row = rw (resolved-definition row, resolved-link S rows row 5 (omega arith), item-from most (link rows row 5))

  functions-from : (most row : ℕ) → functions_from most (resolved S rows) row ≡ functions_from most rows row
  unfolding functions_from
  functions-from zero row = refl
  functions-from (suc most) row = rw (resolved-definition row, resolved-link S rows row 5 (omega arith), functions-from most (link rows row 5))

  pub resolved-first : first_item (resolved S rows) ≡ first_item rows
  unfolding first_item
  resolved-first = rw (resolved-count S rows, resolved-link S rows 0 1 (omega arith)) (item-from (row_count rows) (link rows 0 1))

  pub resolved-functions : functions_of (resolved S rows) ≡ functions_of rows
  unfolding functions_of
  resolved-functions = rw (resolved-count S rows, resolved-link S rows 0 1 (omega arith)) (functions-from (row_count rows) (link rows 0 1))

  -- a definition's number is no name
  pub definition-number : (row field : ℕ) → field < 6 → is_definition rows row ≡ true → number_at (resolved S rows) row field ≡ number_at rows row field
  unfolding is_definition is_name number_at
  definition-number row field f d = ap natural (resolved-other S rows row field f (definition-undeclared rows row d) (rw (eqb-true (number_at rows row 0) 59 d)))

  resolved-front : {row place : ℕ} → InFront rows row place → InFront (resolved S rows) row place
  resolved-front (foremost leads d) =
      let e = resolved-link S rows 0 1 (omega arith) in
      subst (λ (x : ℕ). InFront (resolved S rows) x 0) e (foremost ((resolved-leads S rows (omega arith)).0 leads) (rw e (resolved-definition (link rows 0 1) ∙ d)))
  resolved-front (behind {row} {place} f leads d) =
      let e = resolved-link S rows row 5 (omega arith) in
      subst (λ (x : ℕ). InFront (resolved S rows) x (place + 1)) e (behind (resolved-front f) ((resolved-leads S rows (omega arith)).0 leads) (rw e (resolved-definition (link rows row 5) ∙ d)))

  pub resolved-in-order : InOrder rows → InOrder (resolved S rows)
  resolved-in-order i row n d =
      let here = sym (resolved-definition row) ∙ d in
      subst (InFront (resolved S rows) row) (sym (definition-number row 1 (omega arith) here)) (resolved-front (i row (rw (resolved-count S rows) at n) here))
