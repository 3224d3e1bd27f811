-- `put_name`: the word of each sort.
use Rattle.command_written_lines.proofs.put_name.Goals as goal

pub returns-in-Variables : goal.returns-in-Variables
returns-in-Variables c = rw c.in-Variables.is c.put_bytes.ensures

pub returns-in-Arrays : goal.returns-in-Arrays
returns-in-Arrays c = rw c.in-Arrays.is c.put_bytes-in-Arrays.ensures

pub returns-in-Declared : goal.returns-in-Declared
returns-in-Declared c = rw c.in-Declared.is c.put_bytes-in-Declared.ensures
