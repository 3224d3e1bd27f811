-- `run_kernel`: the machine walks the rows as they stand, and a kernel program's run is that of its rows.
use borrow.Author.Rules.{rules}
use Rattle.words.specs.declared.Form.TheVariants.{Kernel}
use Rattle.language_programs.specs.Program.{run_program}
use Rattle.program_runs.proofs.AcceptedLaws.{accepted-runnable}
use Rattle.program_runs.proofs.run_kernel.Goals as goal

pub run_kernel_table-requires : goal.run_kernel_table-requires
run_kernel_table-requires c =
    let s = c.before in
    accepted-runnable Kernel s.args.header.now s.args.rows.now s.requires.rows_value s.args.store.now s.requires.store_len

pub returns : goal.returns
unfolding run_program
returns c = c.run_kernel_table.ensures
