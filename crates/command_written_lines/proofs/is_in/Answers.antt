-- `is_in`: the set of each sort.
use Rattle.command_written_lines.proofs.is_in.Goals as goal

pub has_array-requires : goal.has_array-requires
has_array-requires c = rw c.in-Arrays.is at c.requires

pub has_declared-requires : goal.has_declared-requires
has_declared-requires c = rw c.in-Declared.is at c.requires

pub returns-in-Variables : goal.returns-in-Variables
returns-in-Variables c = rw c.in-Variables.is c.has_variable.ensures

pub returns-in-Arrays : goal.returns-in-Arrays
returns-in-Arrays c = rw c.in-Arrays.is c.has_array.ensures

pub returns-in-Declared : goal.returns-in-Declared
returns-in-Declared c = rw c.in-Declared.is c.has_declared.ensures
