-- `assigned_of`: to an element, or else to a name.
use Rattle.page_statements.proofs.lines.assigned_of.Goals as goal

pub returns-in-Some : goal.returns-in-Some
returns-in-Some c =
    rw c.in-Some.is c.put_of.ensures

pub returns-in-None : goal.returns-in-None
returns-in-None c =
    rw c.in-None.is c.store_of.ensures
