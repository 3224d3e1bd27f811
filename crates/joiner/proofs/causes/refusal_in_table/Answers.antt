-- `refusal_in_table`: a table of their size holds the joined rows and nothing else.
use mathlib.Core.Path.{◌≡◌, sym, ap, ◌∙◌}
use Rattle.join.specs.Join.{joined_rows, rows_refusal}
use Rattle.joiner.specs.JoinerLaws.{filled, parts-length}
use Rattle.joiner.proofs.causes.refusal_in_table.Goals as goal

pub rows_refusal-requires : goal.rows_refusal-requires
rows_refusal-requires c =
    let joined : _ ≡ joined_rows c.args.first.now c.args.second.now = filled (joined_rows c.args.first.now c.args.second.now) c.args.table.now _ c.put_joined.ensures (c.requires.1 ∙ sym (parts-length c.args.first.now c.args.second.now c.requires.0.parts)) in
    (rw joined c.requires.0.tree)

pub returns : goal.returns
returns c =
    let joined : _ ≡ joined_rows c.args.first.now c.args.second.now = filled (joined_rows c.args.first.now c.args.second.now) c.args.table.now _ c.put_joined.ensures (c.requires.1 ∙ sym (parts-length c.args.first.now c.args.second.now c.requires.0.parts)) in
    c.rows_refusal.ensures ∙ ap rows_refusal joined
