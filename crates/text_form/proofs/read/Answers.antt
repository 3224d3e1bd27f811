-- `read`: cause 14 by the shape, the rest by `read_lines`.
use Rattle.std.specs.Prelude.{◌≡◌, Ok}
use borrow.Author.Rules.{rules}
use Rattle.text_form.proofs.ReaderLaws.{err-is, mapped-ok, mapped-malformed}
use Rattle.text_form.proofs.Shapes.{reads-malformed}
use Rattle.text_form.proofs.read.Goals as goal

pub read_lines-requires : goal.read_lines-requires
read_lines-requires c =
    let shape : c.shape_of.result ≡ Ok (c.in_ok-end.end, c.in_ok-end.numbers, c.in_ok-end.words) = mapped-ok c.shape_of.result _ _ _ c.map_err.ensures.cases c.in_ok-end.was in
    rw shape at c.shape_of.ensures

pub returns-in_err-end : goal.returns-in_err-end
returns-in_err-end c =
    let bad = mapped-malformed c.shape_of.result c.map_err.result _ c.in_err-end.field-0.0 c.map_err.ensures.cases c.in_err-end.was (λ e d k. search rules) in
    rw (err-is _ _ c.from_residual.ensures.1, bad.2) (reads-malformed _ _ _ _ _ (rw bad.1 at c.shape_of.ensures))
