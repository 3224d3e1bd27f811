-- `piece_end`: the first place that has the separator.
use mathlib.Core.Path.{ap, ◌∙◌}
use Prim.Native.Nat.{ℕ, ◌+◌}
use lib.Dec.{eqb}
use borrow.Author.Rules.{rules}
use Rattle.std.proofs.lemmas.Iterator.{YieldsList-from_slice}
use Rattle.std.proofs.lemmas.Iterator.Search.{position_from_yields_List}
use Rattle.words.specs.OverLaws.{rest_of}
use Rattle.text_lines.specs.Reader.{piece_end}
use Rattle.text_lines.proofs.Pieces.{piece-found}
use Rattle.text_lines.proofs.line.piece_end.Goals as goal

pub returns : goal.returns
returns c =
    let found = position_from_yields_List (λ byte. eqb byte c.args.separator) _ _ _ c.position.ensures.ran (YieldsList-from_slice _ c.iter.ensures.rest) (λ x b q k. search rules) in
    ap (λ (n : ℕ). c.args.at + n) (c.unwrap_or.ensures ∙ piece-found _ _ _ found ∙ ap (piece_end c.args.separator) (rest_of c.args.bytes.now c.args.at))
