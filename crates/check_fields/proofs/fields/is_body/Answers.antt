-- `is_body` makes its definition's test.
use borrow.Author.Tests.{eq-eqb, ne_eqb}
use borrow.Author.Rules.{rules}
use Rattle.check_fields.proofs.fields.is_body.Goals as goal

pub returns-then-sort-eq-BODY_BLOCK : goal.returns-then-sort-eq-BODY_BLOCK
returns-then-sort-eq-BODY_BLOCK c =
    rw (eq-eqb _ _ c.if-sort-eq-BODY_BLOCK.true) c.is_block.ensures

pub returns : goal.returns
returns c =
    rw (ne_eqb _ _ c.if-sort-eq-BODY_BLOCK.false) c.is_statement.ensures
