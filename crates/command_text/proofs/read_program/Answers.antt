-- `read_program`: the answer of the reader, by what is printed for it.
use Rattle.command_text.proofs.Readings.{read-for}
use Rattle.command_text.proofs.read_program.Goals as goal

pub returns : goal.returns
returns c =
    let s = c.before.before.before.before.before.before in
    let read = c.read in
    read-for s.args.form s.args.text.now s.requires read.result _ _ read.ensures
