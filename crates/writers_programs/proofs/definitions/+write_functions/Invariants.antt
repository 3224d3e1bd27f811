-- The writers of definitions and of a program's list meet their contracts. A file for each member.
use Prim.Native.Nat.{◌+◌, ◌*◌}
use Rattle.writers_calls.specs.Ranks.{rank}
use Rattle.writers_programs.proofs.definitions.+write_functions.Given as goal

abbrev pub decreases-write_front : goal.decreases-write_front
decreases-write_front l = 2 * rank l.source.now.rows.now l.item

-- by the link `next`
abbrev pub decreases-write_function : goal.decreases-write_function
decreases-write_function l = 2 * rank l.source.now.rows.now l.next + 1
