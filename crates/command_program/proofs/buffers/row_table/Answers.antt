-- `row_table`: the length of an array of zeros.
use Rattle.std.proofs.Math.Path.{sym}
use Rattle.std.proofs.lemmas.List.{length-replicate}
use Rattle.std.specs.Prelude.{ℤ, pos}
use Rattle.command_program.proofs.buffers.row_table.Goals as goal

pub returns : goal.returns
returns c = sym (length-replicate {A = ℤ} 245880 (pos 0))
