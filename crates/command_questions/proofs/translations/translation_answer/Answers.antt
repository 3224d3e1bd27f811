-- `translation_answer`: the refusal of the reader, or the translation of what it read.
use Rattle.text_numbers.specs.PutLaws.{put_as}
use Rattle.command_text.proofs.Printing.{source-roomy}
use Rattle.command_questions.specs.Translations.{translation_sheet, translation_output}
use borrow.Author.Rules.{rules}
use Rattle.command_questions.proofs.translations.translation_answer.Goals as goal

pub read_program-answer-requires : goal.read_program-answer-requires
read_program-answer-requires c = source-roomy

pub slice_bounds-put_translation-end : goal.slice_bounds-put_translation-end
slice_bounds-put_translation-end c = (rw c.in-Ok.is at c.read_program-answer.ensures).header_inside

pub slice_bounds-put_translation-end-in-Ok : goal.slice_bounds-put_translation-end-in-Ok
slice_bounds-put_translation-end-in-Ok c = (rw c.in-Ok.is at c.read_program-answer.ensures).rows_inside

pub returns-in-Err : goal.returns-in-Err
unfolding translation_output
returns-in-Err c = put_as ((rw c.in-Err.is at c.read_program-answer.ensures) (translation_sheet c.args.sheet)) c.refused_line.ensures

pub returns-in-Ok : goal.returns-in-Ok
unfolding translation_output
returns-in-Ok c = put_as ((rw c.in-Ok.is at c.read_program-answer.ensures).is (translation_sheet c.args.sheet)) c.put_translation.ensures
