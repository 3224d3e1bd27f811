-- Writer: what its inner functions answer.
use Rattle.std.specs.Prelude.{ℕ, ◌-◌, leb, None, Some, Option}
use Rattle.words.specs.Word.{pick}

-- What so many bytes leave of a room, where they fit.
unfoldable pub left_of : (room size : ℕ) → Option ℕ
left_of room size = pick (leb size room) (Some (room - size)) None
