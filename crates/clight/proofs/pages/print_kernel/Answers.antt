-- `print_kernel` hands the check's refusal on, or the answer for an accepted program.
use mathlib.Core.Path.{refl}
use borrow.Author.Rules.{rules}
use Rattle.std.proofs.lemmas.Result.{err_from_is_err_and}
use Rattle.page_printer.specs.PageLaws.{refused-reads}
use Rattle.clight.specs.Prints.{print_result}
use Rattle.clight.proofs.pages.print_kernel.Goals as goal

pub print_accepted-requires : goal.print_accepted-requires
print_accepted-requires c = c.kernel_check.ensures.accepts_legal.no_others c.in_ok-kernel_check.was

pub returns-in_err-kernel_check : goal.returns-in_err-kernel_check
unfolding print_result
returns-in_err-kernel_check c =
    let p = err_from_is_err_and c.from_residual.result c.from_residual.ensures.1 in
    rw (p.1, p.2) (record { writes = rw (← c.kernel_check.ensures.value, c.in_err-kernel_check.was) (record { outcome = refl; text_left = refl }); page_reads = refused-reads _ _ _ _ })

pub returns : goal.returns
unfolding print_result
returns c = record { writes = rw (← c.kernel_check.ensures.value, c.in_ok-kernel_check.was) c.print_accepted.ensures.writes; page_reads = c.print_accepted.ensures.page_reads }
