-- `put_joined` begins with blank arrays.
use Rattle.check_functions.specs.KnownLaws.{blank-zeros}
use Rattle.join_rows.proofs.rows.put_joined.Goals as goal

pub note_rows-definitions-requires : goal.note_rows-definitions-requires
note_rows-definitions-requires c =
    let p = c.requires.0 in (p.tree_first, blank-zeros _ 2048 p.few_first, blank-zeros _ 2048 p.few_first)

pub note_rows-second_definitions-requires : goal.note_rows-second_definitions-requires
note_rows-second_definitions-requires c =
    let p = c.requires.0 in (p.tree_second, blank-zeros _ 2048 p.few_second, blank-zeros _ 2048 p.few_second)
