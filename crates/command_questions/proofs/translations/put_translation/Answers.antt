-- `put_translation`: the refusal of the translator, or what it wrote, shown.
use native.Mathlib.Omega.{arith}
use Rattle.text_numbers.specs.PutLaws.{put_as}
use Rattle.command_questions.proofs.Kernels.{refused-translation, translated}
use borrow.Author.Rules.{rules}
use Rattle.command_questions.proofs.translations.put_translation.Goals as goal

pub refused_line-requires : goal.refused_line-requires
refused_line-requires c = omega (arith, c.requires.output_room_in_bounds)

pub slice_bounds-put_sheet-end : goal.slice_bounds-put_sheet-end
slice_bounds-put_sheet-end c = (translated c.args.header.now c.args.rows.now c.requires.roomy c.translate-answer.ensures.has_kernel_form (rw c.in-Ok.is at c.translate-answer.ensures.kernel_rows_after) c.translate-answer.auto.kernel_header c.translate-answer.auto.kernel_rows).header_inside

pub slice_bounds-put_sheet-end-in-Ok : goal.slice_bounds-put_sheet-end-in-Ok
slice_bounds-put_sheet-end-in-Ok c = (translated c.args.header.now c.args.rows.now c.requires.roomy c.translate-answer.ensures.has_kernel_form (rw c.in-Ok.is at c.translate-answer.ensures.kernel_rows_after) c.translate-answer.auto.kernel_header c.translate-answer.auto.kernel_rows).rows_inside

pub put_sheet-requires : goal.put_sheet-requires
put_sheet-requires c = record { printable = (translated c.args.header.now c.args.rows.now c.requires.roomy c.translate-answer.ensures.has_kernel_form (rw c.in-Ok.is at c.translate-answer.ensures.kernel_rows_after) c.translate-answer.auto.kernel_header c.translate-answer.auto.kernel_rows).printable; output_room_in_bounds = c.requires.output_room_in_bounds }

pub returns-in-Err : goal.returns-in-Err
returns-in-Err c = put_as (refused-translation c.args.header.now c.args.rows.now c.requires.roomy c.translate-answer.ensures.has_kernel_form c.args.sheet _ _ _ (rw c.in-Err.is at c.translate-answer.ensures.kernel_rows_after)) c.refused_line.ensures

pub returns-in-Ok : goal.returns-in-Ok
returns-in-Ok c = put_as ((translated c.args.header.now c.args.rows.now c.requires.roomy c.translate-answer.ensures.has_kernel_form (rw c.in-Ok.is at c.translate-answer.ensures.kernel_rows_after) c.translate-answer.auto.kernel_header c.translate-answer.auto.kernel_rows).is c.args.sheet) c.put_sheet.ensures
