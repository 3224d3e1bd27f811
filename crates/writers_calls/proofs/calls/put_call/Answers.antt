-- The call: the rows that head it, its own row, and what holds its arguments.
use mathlib.Core.Path.{refl, ap, ◌∙◌}
use mathlib.Core.Bool.{Bool}
use Prim.Native.Nat.{◌+◌}
use Rattle.words.specs.Word.{pick}
use Rattle.language.specs.Decode.{argument_list_at}
use Rattle.measures_table.specs.Parts.{called_in}
use Rattle.writers_rows.proofs.Words.{pick-most}
use Rattle.writers_calls.specs.ArgumentLaws.{call-done}
use borrow.Author.Rules.{rules}
use Rattle.writers_calls.proofs.calls.put_call.Goals as goal

pub put_row-requires : goal.put_row-requires
put_row-requires c =
    let low = pick-most c.more.result (c.args.at.base + 4) in
    search rules

pub returns : goal.returns
returns c =
    let args = c.args in
    let link = c.behind.ensures ∙ ap (λ (b : Bool). pick b (args.at.base + 4) 0) c.more.ensures in
    call-done (called_in args.source.now.rows.now) args.source.now.store (argument_list_at args.source.now.rows.now args.called.first) args.copies args.at.level args.number args.called.function args.at.base args.at.follows args.out.now c.requires.1.size_is refl link
    c.put_target.ensures c.put_row.ensures c.put_atoms.ensures
