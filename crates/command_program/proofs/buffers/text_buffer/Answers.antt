-- `text_buffer`: the length of an array of zeros.
use Rattle.std.proofs.Common.{ℕ}
use Rattle.std.proofs.Math.Path.{sym}
use Rattle.std.proofs.lemmas.List.{length-replicate}
use Rattle.command_program.proofs.buffers.text_buffer.Goals as goal

pub returns : goal.returns
returns c = sym (length-replicate {A = ℕ} 2097153 0)
