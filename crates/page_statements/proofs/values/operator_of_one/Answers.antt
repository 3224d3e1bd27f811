-- `operator_of_one`: the bytes one after the other.
use borrow.Author.Tests.{eq-eqb, ne_eqb}
use Rattle.page_words.specs.Reads.{operator_of_one}
use Rattle.page_statements.proofs.values.operator_of_one.Goals as goal

pub returns-then-byte-eq43 : goal.returns-then-byte-eq43
unfolding operator_of_one
returns-then-byte-eq43 c =
    rw (eq-eqb _ _ c.if-byte-eq43.true)

pub returns-then-byte-eq45 : goal.returns-then-byte-eq45
unfolding operator_of_one
returns-then-byte-eq45 c =
    rw (ne_eqb _ _ c.if-byte-eq43.false, eq-eqb _ _ c.if-byte-eq45.true)

pub returns-then-byte-eq42 : goal.returns-then-byte-eq42
unfolding operator_of_one
returns-then-byte-eq42 c =
    rw (ne_eqb _ _ c.if-byte-eq43.false, ne_eqb _ _ c.if-byte-eq45.false, eq-eqb _ _ c.if-byte-eq42.true)

pub returns-then-byte-eq47 : goal.returns-then-byte-eq47
unfolding operator_of_one
returns-then-byte-eq47 c =
    rw (ne_eqb _ _ c.if-byte-eq43.false, ne_eqb _ _ c.if-byte-eq45.false, ne_eqb _ _ c.if-byte-eq42.false, eq-eqb _ _ c.if-byte-eq47.true)

pub returns-then-byte-eq37 : goal.returns-then-byte-eq37
unfolding operator_of_one
returns-then-byte-eq37 c =
    rw (ne_eqb _ _ c.if-byte-eq43.false, ne_eqb _ _ c.if-byte-eq45.false, ne_eqb _ _ c.if-byte-eq42.false, ne_eqb _ _ c.if-byte-eq47.false, eq-eqb _ _ c.if-byte-eq37.true)

pub returns-then-byte-eq60 : goal.returns-then-byte-eq60
unfolding operator_of_one
returns-then-byte-eq60 c =
    rw (ne_eqb _ _ c.if-byte-eq43.false, ne_eqb _ _ c.if-byte-eq45.false, ne_eqb _ _ c.if-byte-eq42.false, ne_eqb _ _ c.if-byte-eq47.false, ne_eqb _ _ c.if-byte-eq37.false, eq-eqb _ _ c.if-byte-eq60.true)

pub returns-then-byte-eq62 : goal.returns-then-byte-eq62
unfolding operator_of_one
returns-then-byte-eq62 c =
    rw (ne_eqb _ _ c.if-byte-eq43.false, ne_eqb _ _ c.if-byte-eq45.false, ne_eqb _ _ c.if-byte-eq42.false, ne_eqb _ _ c.if-byte-eq47.false, ne_eqb _ _ c.if-byte-eq37.false, ne_eqb _ _ c.if-byte-eq60.false, eq-eqb _ _ c.if-byte-eq62.true)

pub returns : goal.returns
unfolding operator_of_one
returns c =
    rw (ne_eqb _ _ c.if-byte-eq43.false, ne_eqb _ _ c.if-byte-eq45.false, ne_eqb _ _ c.if-byte-eq42.false, ne_eqb _ _ c.if-byte-eq47.false, ne_eqb _ _ c.if-byte-eq37.false, ne_eqb _ _ c.if-byte-eq60.false, ne_eqb _ _ c.if-byte-eq62.false)
