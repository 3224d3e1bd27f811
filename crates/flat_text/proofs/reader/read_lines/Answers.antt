-- `read_lines`: cause 1, and then what `store_text` does.
use native.Mathlib.Omega.{arith}
use Rattle.text_form.proofs.ReaderLaws.{line-exactly}
use Rattle.flat_text.specs.ReaderLaws.{line-cause, reads-by}
use borrow.Author.Rules.{rules}
use Rattle.flat_text.proofs.reader.read_lines.Goals as goal

pub slice_bounds-text_cause-end : goal.slice_bounds-text_cause-end
slice_bounds-text_cause-end c = omega (arith, c.requires.inside)

pub text_cause-cause-requires : goal.text_cause-cause-requires
text_cause-cause-requires c = line-exactly c.requires

pub returns : goal.returns
returns c =
    rw (reads-by c.requires c.args.header.now c.args.list.now _ (line-cause c.requires _ c.text_cause-cause.ensures))
    c.store_text.ensures
