-- `is_parting`: a blank or a newline.
use borrow.Author.Tests.{eq-eqb, ne_eqb}
use Rattle.command_request.specs.StoreFile.{is_parting}
use Rattle.command_request.proofs.store_file.is_parting.Goals as goal

pub returns-then-byte-eq32 : goal.returns-then-byte-eq32
unfolding is_parting
returns-then-byte-eq32 c = rw (eq-eqb _ _ c.if-byte-eq32.true)

pub returns-else-byte-eq32 : goal.returns-else-byte-eq32
unfolding is_parting
returns-else-byte-eq32 c = rw (ne_eqb _ _ c.if-byte-eq32.false)
