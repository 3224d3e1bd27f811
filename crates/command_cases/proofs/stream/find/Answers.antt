-- `find`: a piece ends behind its start, within the bytes.
use Rattle.text_lines.proofs.Pieces.{piece_of}
use Rattle.command_cases.proofs.stream.find.Goals as goal

pub returns : goal.returns
returns c = let piece = piece_of _ _ _ _ c.requires c.piece_end.ensures in (piece.from, piece.inside)
