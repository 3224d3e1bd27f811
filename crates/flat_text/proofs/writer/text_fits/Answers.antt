-- `text_fits`: what the header leaves, and then the list.
use mathlib.Core.Path.{sym, ◌∙◌}
use Rattle.flat_text.proofs.Rooms.{leaves_of, short-of, header-short, list-told}
use Rattle.flat_text.proofs.writer.text_fits.Goals as goal

pub returns-in_default : goal.returns-in_default
returns-in_default c = header-short c.args.header.now c.args.list.now c.requires.header_nonzero c.requires.list_len _ (short-of _ _ (sym c.in_default.is ∙ c.room_behind.ensures))

pub returns : goal.returns
returns c = c.is_some.ensures ∙ list-told c.args.header.now c.args.list.now c.requires.header_nonzero c.requires.list_len _ (leaves_of _ _ _ (sym c.in-Some.is ∙ c.room_behind.ensures)) _ c.room_behind-2.ensures
