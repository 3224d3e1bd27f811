-- Laws of this crate's definitions. A line of comment for each file.
-- Laws of runs: counts, stores, writes; wider limits; budgets and rounds; loops unrolled; when writes are made.
pub mod RunLaws
-- Laws of the writes that a run makes.
pub mod WritesMadeLaws
-- Laws of runs with no limit on steps.
pub mod UnlimitedLaws
-- Laws of runs told by the steps that are left.
pub mod RemainingLaws
-- Laws of agreement: a rule for each constructor of computations.
pub mod AgreementLaws
