-- `read_lines`: causes 1 and 2, and then what `store_text` does.
use native.Mathlib.Omega.{arith}
use Rattle.text_form.proofs.ReaderLaws.{line-exactly, line-cause}
use Rattle.text_form.proofs.Shapes.{reads-by}
use Rattle.text_form.proofs.reader.read_lines.Goals as goal

pub slice_bounds-text_cause-end : goal.slice_bounds-text_cause-end
slice_bounds-text_cause-end c = omega (arith, c.requires.inside)

pub text_cause-cause-requires : goal.text_cause-cause-requires
text_cause-cause-requires c = line-exactly c.requires

pub returns : goal.returns
returns c =
    rw (reads-by c.requires c.args.header.now c.args.rows.now _ (line-cause c.requires _ c.text_cause-cause.ensures))
    c.store_text.ensures
