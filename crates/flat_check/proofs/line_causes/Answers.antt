-- `line_causes` takes the causes in order.
use mathlib.Core.Path.{◌≡◌, sym, ◌∙◌}
use mathlib.Core.Bool.{true, false}
use Rattle.std.proofs.lemmas.Iterator.{first_from_Range}
use Rattle.check_structure.specs.RefusalLaws.{refused-at, passed-at, last}
use Rattle.words.specs.Search.{lowest}
use Rattle.flat.specs.Words.{line_count}
use Rattle.flat.specs.Refusal.{unknown_operation, jump_outside, number_outside, line_causes}
use Rattle.flat_check.proofs.Searches.{lowest-found}
use borrow.Author.Rules.{rules}
use Rattle.flat_check.proofs.line_causes.Goals as goal

pub returns-in_err-at : goal.returns-in_err-at
unfolding line_causes
returns-in_err-at c =
    let found : c.find.result ≡ lowest (unknown_operation c.args.list.now) 0 (line_count c.args.list.now) = lowest-found _ _ _ (first_from_Range _ _ _ _ (λ i. unknown_operation c.args.list.now i ≡ true) (λ i. unknown_operation c.args.list.now i ≡ false) c.find.ensures.ran (λ x q k. search rules) (λ x q k. search rules)) in
    refused-at _ _ _ _ _ _ c.from_residual.ensures.1 (sym c.in_err-at.was ∙ c.at.ensures) found

pub returns-in_err-at-2 : goal.returns-in_err-at-2
unfolding line_causes
returns-in_err-at-2 c =
    let found : c.find.result ≡ lowest (unknown_operation c.args.list.now) 0 (line_count c.args.list.now) = lowest-found _ _ _ (first_from_Range _ _ _ _ (λ i. unknown_operation c.args.list.now i ≡ true) (λ i. unknown_operation c.args.list.now i ≡ false) c.find.ensures.ran (λ x q k. search rules) (λ x q k. search rules)) in
    let landed : c.find-2.result ≡ lowest (jump_outside c.args.list.now) 0 (line_count c.args.list.now) = lowest-found _ _ _ (first_from_Range _ _ _ _ (λ i. jump_outside c.args.list.now i ≡ true) (λ i. jump_outside c.args.list.now i ≡ false) c.find-2.ensures.ran (λ x q k. search rules) (λ x q k. search rules)) in
    passed-at _ _ _ _ _ (sym c.in_ok-at.was ∙ c.at.ensures) found (refused-at _ _ _ _ _ _ c.from_residual-in_err-at-2.ensures.1 (sym c.in_err-at-2.was ∙ c.at-2.ensures) landed)

pub returns : goal.returns
unfolding line_causes
returns c =
    let found : c.find.result ≡ lowest (unknown_operation c.args.list.now) 0 (line_count c.args.list.now) = lowest-found _ _ _ (first_from_Range _ _ _ _ (λ i. unknown_operation c.args.list.now i ≡ true) (λ i. unknown_operation c.args.list.now i ≡ false) c.find.ensures.ran (λ x q k. search rules) (λ x q k. search rules)) in
    let landed : c.find-2.result ≡ lowest (jump_outside c.args.list.now) 0 (line_count c.args.list.now) = lowest-found _ _ _ (first_from_Range _ _ _ _ (λ i. jump_outside c.args.list.now i ≡ true) (λ i. jump_outside c.args.list.now i ≡ false) c.find-2.ensures.ran (λ x q k. search rules) (λ x q k. search rules)) in
    let named : c.find-3.result ≡ lowest (number_outside c.args.bounds c.args.list.now) 0 (line_count c.args.list.now) = lowest-found _ _ _ (first_from_Range _ _ _ _ (λ i. number_outside c.args.bounds c.args.list.now i ≡ true) (λ i. number_outside c.args.bounds c.args.list.now i ≡ false) c.find-3.ensures.ran (λ x q k. search rules) (λ x q k. search rules)) in
    passed-at _ _ _ _ _ (sym c.in_ok-at.was ∙ c.at.ensures) found (passed-at _ _ _ _ _ (sym c.in_ok-at-2.was ∙ c.at-2.ensures) landed (last _ _ _ _ c.at-3.ensures named))
