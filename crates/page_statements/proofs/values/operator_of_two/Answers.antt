-- `operator_of_two`: the first bytes one after the other.
use borrow.Author.Tests.{eq-eqb, ne_eqb}
use Rattle.page_words.specs.Reads.{operator_of_two}
use Rattle.page_statements.proofs.values.operator_of_two.Goals as goal

pub returns-then-byte-eq60 : goal.returns-then-byte-eq60
unfolding operator_of_two
returns-then-byte-eq60 c =
    rw (eq-eqb _ _ c.if-byte-eq60.true)

pub returns-then-byte-eq62 : goal.returns-then-byte-eq62
unfolding operator_of_two
returns-then-byte-eq62 c =
    rw (ne_eqb _ _ c.if-byte-eq60.false, eq-eqb _ _ c.if-byte-eq62.true)

pub returns-then-byte-eq61 : goal.returns-then-byte-eq61
unfolding operator_of_two
returns-then-byte-eq61 c =
    rw (ne_eqb _ _ c.if-byte-eq60.false, ne_eqb _ _ c.if-byte-eq62.false, eq-eqb _ _ c.if-byte-eq61.true)

pub returns-then-byte-eq33 : goal.returns-then-byte-eq33
unfolding operator_of_two
returns-then-byte-eq33 c =
    rw (ne_eqb _ _ c.if-byte-eq60.false, ne_eqb _ _ c.if-byte-eq62.false, ne_eqb _ _ c.if-byte-eq61.false, eq-eqb _ _ c.if-byte-eq33.true)

pub returns : goal.returns
unfolding operator_of_two
returns c =
    rw (ne_eqb _ _ c.if-byte-eq60.false, ne_eqb _ _ c.if-byte-eq62.false, ne_eqb _ _ c.if-byte-eq61.false, ne_eqb _ _ c.if-byte-eq33.false)
