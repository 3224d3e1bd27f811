-- Resolved tables: another table with the same kinds, links and numbers of functions has the same functions and calls; so has the resolved table,
-- in which the names alone change.
use Rattle.std.specs.Prelude.{◌≡◌, true, false, List, ℕ, ◌+◌, ◌<◌, ℤ}
use Rattle.std.proofs.Common.{sym, subst, ◌∙◌, arith}
use borrow.Author.Tests.{eqb-true}
use Rattle.words.specs.Table.{row_count, number_at}
use Rattle.words.specs.Links.{link}
use Rattle.words.specs.Declarations.{is_declaration}
use Rattle.check_structure.specs.Structured.{Leads}
use Rattle.names.specs.Names.{is_name, resolved}
use Rattle.names.proofs.ResolvedLaws.{resolved-other, resolved-kind, resolved-link, resolved-count}
use Rattle.check_function_causes.specs.Functions.{is_definition, is_call}
use Rattle.check_function_causes.specs.Demands.{InFront, foremost, behind, Within, function_part, function_along, Listed, ended, counted, Called, WellCalled}

-- The same rows, as far as functions go.
pub record Alike (rows other : List ℤ) : Type 0 where
  pub count : row_count other ≡ row_count rows
  pub kind : (row : ℕ) → number_at other row 0 ≡ number_at rows row 0
  pub linked : (row field : ℕ) → field < 6 → link other row field ≡ link rows row field
  pub defined : (row : ℕ) → is_definition rows row ≡ true → number_at other row 1 ≡ number_at rows row 1
  pub called : (row : ℕ) → is_call rows row ≡ true → number_at other row 1 ≡ number_at rows row 1

module _ {rows other : List ℤ} (a : Alike rows other) where
  pub same-definition : (row : ℕ) → is_definition other row ≡ is_definition rows row
  unfolding is_definition
  same-definition row = rw (a.kind row)

  same-call : (row : ℕ) → is_call other row ≡ is_call rows row
  unfolding is_call
  same-call row = rw (a.kind row)

  pub swapped : Alike other rows
  swapped = record {
    count = sym a.count;
    kind = λ row. sym (a.kind row);
    linked = λ row field h. sym (a.linked row field h);
    defined = λ row d. sym (a.defined row (sym (same-definition row) ∙ d));
    called = λ row c. sym (a.called row (sym (same-call row) ∙ c));
  }

  pub same-leads : {row field : ℕ} → field < 6 → Leads rows row field → Leads other row field
  same-leads {row} {field} h leads = record { later = rw (a.linked row field h) leads.later; inside = rw (a.linked row field h, a.count) leads.inside }

  pub same-front : {row place : ℕ} → InFront rows row place → InFront other row place
  same-front (foremost leads d) =
      let is = a.linked 0 1 (omega arith) in
      subst (λ (x : ℕ). InFront other x 0) is (foremost (same-leads (omega arith) leads) (same-definition (link other 0 1) ∙ (rw is d)))
  same-front (behind {row} {place} f leads d) =
      let is = a.linked row 5 (omega arith) in
      subst (λ (x : ℕ). InFront other x (place + 1)) is (behind (same-front f) (same-leads (omega arith) leads) (same-definition (link other row 5) ∙ (rw is d)))

  same-within : {definition row : ℕ} → Within rows definition row → Within other definition row
  same-within {definition} (function_part {field} h d leads) =
      subst (Within other definition) (a.linked definition field (omega arith)) (function_part h (same-definition definition ∙ d) (same-leads (omega arith) leads))
  same-within {definition} (function_along {row} {field} h leads w) =
      subst (Within other definition) (a.linked row field h) (function_along h (same-leads h leads) (same-within w))

  same-listed : {row count : ℕ} → Listed rows row count → Listed other row count
  same-listed ended = ended
  same-listed (counted {row} {count} p rest) = counted p (subst (λ (x : ℕ). Listed other x count) (sym (a.linked row 5 (omega arith))) (same-listed rest))

module _ {rows other : List ℤ} (a : Alike rows other) where
  called-alike : (row : ℕ) → is_call rows row ≡ true → Called rows row → Called other row
  called-alike row k c =
      let number = a.called row k in
      record {
        definition = c.definition;
        function = rw number (same-front a c.function);
        lower = λ around w.
            let back = same-within (swapped a) w in
            rw (number, a.defined around (within-definition back)) (c.lower around back);
        count = c.count;
        arguments = subst (λ (x : ℕ). Listed other x c.count) (sym (a.linked row 2 (omega arith))) (same-listed a c.arguments);
        parameters = subst (λ (x : ℕ). Listed other x c.count) (sym (a.linked c.definition 2 (omega arith))) (same-listed a c.parameters);
      }
    where
      within-definition : {definition row : ℕ} → Within rows definition row → is_definition rows definition ≡ true
      within-definition (function_part h d leads) = d
      within-definition (function_along h leads w) = within-definition w

  pub well-called-alike : WellCalled rows → WellCalled other
  well-called-alike w = record {
    in_order = λ row n d.
        let own = sym (same-definition a row) ∙ d in
        rw (a.defined row own) (same-front a (w.in_order row (rw (← a.count) n) own));
    called = λ row n k.
        let own = sym (same-call a row) ∙ k in
        called-alike row own (w.called row (rw (← a.count) n) own);
  }

-- ---- the resolved table

module _ (S : ℕ) (rows : List ℤ) where
  kept : (row : ℕ) → is_declaration rows row ≡ false → is_name rows row ≡ false → number_at (resolved S rows) row 1 ≡ number_at rows row 1
  unfolding number_at
  kept row d n = rw (resolved-other S rows row 1 (omega arith) d n)

  pub resolved-alike : Alike rows (resolved S rows)
  unfolding is_definition is_call is_declaration is_name
  resolved-alike = record {
    count = resolved-count S rows;
    kind = resolved-kind S rows;
    linked = resolved-link S rows;
    defined = λ row d. let k = eqb-true (number_at rows row 0) 59 d in kept row (rw k) (rw k);
    called = λ row c. let k = eqb-true (number_at rows row 0) 31 c in kept row (rw k) (rw k);
  }

  pub resolved-called : WellCalled rows → WellCalled (resolved S rows)
  resolved-called w = well-called-alike resolved-alike w
