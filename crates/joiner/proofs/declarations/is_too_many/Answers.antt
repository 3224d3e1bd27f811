-- `is_too_many` tests the number before the row, and then the row.
use mathlib.Core.Path.{sym, ◌∙◌}
use borrow.Author.Tests.{eq-eqb, ne_eqb}
use Rattle.words.specs.Laws.{by_cases}
use Rattle.words.specs.Declarations.{is_declaration}
use Rattle.check_declaration_causes.specs.Causes.{one_too_many}
use Rattle.joiner.proofs.declarations.is_too_many.Goals as goal

pub returns-then-before-eq-LIMIT : goal.returns-then-before-eq-LIMIT
unfolding one_too_many
returns-then-before-eq-LIMIT c =
    let start = c.before.before in
    c.is_declaration.ensures ∙ by_cases (is_declaration start.args.rows.now start.args.row) (λ d. rw (d, eq-eqb _ _ (sym start.requires.1 ∙ c.if-before-eq-LIMIT.true))) (λ d. rw d)

pub returns : goal.returns
unfolding one_too_many
returns c =
    let start = c.before in
    by_cases (is_declaration start.args.rows.now start.args.row) (λ d. rw (d, ne_eqb _ _ (λ q. c.if-before-eq-LIMIT.false (start.requires.1 ∙ q)))) (λ d. rw d)
