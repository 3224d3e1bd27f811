-- `translate` hands the check's refusal on, or the answer for an accepted program. That an accepted program has a kernel form which
-- shares its fate is a theorem about the definitions.
use mathlib.Core.Path.{sym}
use Rattle.std.proofs.lemmas.Result.{err_from_is_err_and}
use Rattle.translation_fate.proofs.HasKernelForm.{has-kernel-form}
use Rattle.translator.specs.Translation.{translate_result}
use Rattle.translator.proofs.translate.Goals as goal

pub translate_accepted-requires : goal.translate_accepted-requires
translate_accepted-requires c = sym c.in_ok-check.ensures

pub returns : goal.returns
returns c = c.translate_accepted.ensures

pub returns-in_err-check : goal.returns-in_err-check
unfolding translate_result
returns-in_err-check c =
    let refused = err_from_is_err_and c.from_residual.result c.from_residual.ensures.1 in
    record {
      kernel_rows_after = rw (refused.1, refused.2, ← c.in_err-check.ensures);
      has_kernel_form = has-kernel-form c.args.header.now c.args.rows.now;
      writes_kernel_form = rw refused.1 tt;
    }
