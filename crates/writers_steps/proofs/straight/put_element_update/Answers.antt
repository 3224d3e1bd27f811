-- An element's update: what three assignments in a row write.
use native.Mathlib.Omega.{arith}
use Rattle.language.specs.Trees.{◌⧺◌}
use Rattle.writers_rows.specs.Chain.{wrote-put, wrote-next, put-room}
use Rattle.writers_rows.specs.LeafLaws.{binary-wrote, fetch-wrote, store_wrote}
use Rattle.writers_rows.specs.declared.KernelAtom.TheVariants.{Variable}
use Rattle.writers_steps.proofs.straight.put_element_update.Goals as goal

pub put_store-requires : goal.put_store-requires
put_store-requires c =
    let fetched = fetch-wrote _ _ _ _ _ _ c.args.index c.put_fetch.ensures in
    let computed = binary-wrote _ _ _ _ _ c.args.operator (Variable c.args.old) c.args.operand c.put_binary.ensures in
    (put-room 5 (wrote-put (wrote-next fetched computed)) c.requires.0 (omega arith), c.requires.1, c.requires.2, c.requires.5)

pub returns : goal.returns
unfolding ◌⧺◌
returns c =
    let fetched = fetch-wrote _ _ _ _ _ _ c.args.index c.put_fetch.ensures in
    let computed = binary-wrote _ _ _ _ _ c.args.operator (Variable c.args.old) c.args.operand c.put_binary.ensures in
    let stored = store_wrote _ _ _ _ _ c.args.index (Variable c.args.new) c.put_store.ensures in
    (wrote-next (wrote-next fetched computed) stored).table
