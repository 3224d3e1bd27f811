-- The rows that store a value, by whether it goes straight into its variable.
use Rattle.measures_expressions.proofs.holders.store_rows.Goals as goal

pub returns-then-direct_at : goal.returns-then-direct_at
returns-then-direct_at c = rw (← c.direct_at.ensures, c.if-direct_at.true)

pub returns : goal.returns
returns c = rw (← c.direct_at.ensures, c.if-direct_at.false)
