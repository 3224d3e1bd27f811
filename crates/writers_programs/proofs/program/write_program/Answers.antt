-- A program: the row of its block, and then its list.
use mathlib.Core.Path.{sym, ap, ◌∙◌}
use mathlib.Core.Bool.{Bool}
use native.Mathlib.Omega.{arith}
use Rattle.words.specs.Word.{pick}
use Rattle.language.specs.Decode.{list_at}
use Rattle.translation.specs.Translate.{program_levels}
use Rattle.translation.specs.TranslateSize.{program_size}
use Rattle.measures_table.specs.Parts.{called_in}
use Rattle.writers_rows.proofs.Words.{pick-most}
use Rattle.writers.proofs.Sequence.{room-behind}
use Rattle.writers_programs.proofs.ProgramLaws.{program-labels-small, program-numbered, program-done}
use Rattle.measures.proofs.ProgramLaws.{contents-at, program-inside}
use Rattle.writers_programs.proofs.program.write_program.Goals as goal

pub put_block-requires : goal.put_block-requires
put_block-requires c =
    (omega (arith, c.requires.room.inside), omega (arith, c.behind.ensures, pick-most c.more.result 1), omega arith)

pub write_front-requires : goal.write_front-requires
write_front-requires c =
    let asks = c.requires in
    let rows = c.args.rows.now in
    let past-number-at = c.number_at-list in
    let same = contents-at rows past-number-at.ensures in
    let source = asks.writing.measured.source in
    let size = ap (program_size (called_in rows)) same in
    let past-put-block = c.put_block in (
      asks.writing,
      record {
        inside = program-inside source past-number-at.result past-number-at.ensures;
        numbers = program-numbered source past-number-at.ensures;
        takes = record {
          size_is = asks.size_is ∙ sym size;
          levels_are = asks.levels_are ∙ sym (ap (program_levels (called_in rows)) same);
          store_low = asks.store_low;
          labels_low = omega (arith, program-labels-small (called_in rows) (list_at rows past-number-at.result), size, asks.size_is, asks.room.low);
          room = room-behind 1 _ past-put-block.new.out asks.room past-put-block.auto.out (omega arith);
        };
      },
    )

pub returns : goal.returns
returns c =
    let args = c.args in
    let link = c.behind.ensures ∙ ap (λ (b : Bool). pick b 1 0) c.more.ensures in
    program-done args.store args.rows.now args.out.now c.number_at-list.ensures c.requires.size_is link c.put_block.ensures c.write_front.ensures
