-- The test of an item, by what the row is as an item.
use mir.Syntax.{w32}
use mir.Facts.{to_z-of_z}
use Rattle.language_shapes.specs.declared.Item.TheVariants.{Mark}
use Rattle.writers.specs.Items.{case_test, item_test}
use mathlib.Core.Path.{sym, ap, ◌∙◌}
use mathlib.Core.Bool.{true}
use Rattle.language_emission.specs.Emission.{emit_items}
use Rattle.words.specs.Over.{over}
use Rattle.writers_rows.specs.Atoms.{atom_tree}
use Rattle.writers.proofs.ListLaws.{item_is}
use borrow.Author.Rules.{rules}
use Rattle.writers.proofs.switches.put_item_test.Goals as goal

pub put_case-requires : goal.put_case-requires
put_case-requires c =
    let asks = c.requires in
    let room = rw (item_is c.item_at-item.ensures (c.in-Mark.is ∙ ap Mark c.in-Case.is)) at asks.room in
    (room, asks.atom_fits, asks.number_low, asks.target_low)

pub returns-in-Statement : goal.returns-in-Statement
unfolding emit_items over
returns-in-Statement c =
    let args = c.args in
    sym (ap (λ is. over (emit_items true (item_test args.source.now.store (atom_tree args.x) args.level is args.target) args.base) args.out.now) (item_is c.item_at-item.ensures c.in-Statement.is))

pub returns-in-Case : goal.returns-in-Case
returns-in-Case c =
    let args = c.args in
    c.put_case.ensures
    ∙ ap (λ v. over (emit_items true (case_test args.source.now.store (atom_tree args.x) args.level v args.target) args.base) args.out.now) (to_z-of_z {w = w32} {z = c.in-Case.v} (search rules))
    ∙ sym (ap (λ is. over (emit_items true (item_test args.source.now.store (atom_tree args.x) args.level is args.target) args.base) args.out.now) (item_is c.item_at-item.ensures (c.in-Mark.is ∙ ap Mark c.in-Case.is)))

pub returns-in-Default : goal.returns-in-Default
unfolding emit_items over
returns-in-Default c =
    let args = c.args in
    sym (ap (λ is. over (emit_items true (item_test args.source.now.store (atom_tree args.x) args.level is args.target) args.base) args.out.now) (item_is c.item_at-item.ensures (c.in-Mark.is ∙ ap Mark c.in-Default.is)))

pub returns-in-Label : goal.returns-in-Label
unfolding emit_items over
returns-in-Label c =
    let args = c.args in
    sym (ap (λ is. over (emit_items true (item_test args.source.now.store (atom_tree args.x) args.level is args.target) args.base) args.out.now) (item_is c.item_at-item.ensures (c.in-Mark.is ∙ ap Mark c.in-Label.is)))

pub returns-in-Definition : goal.returns-in-Definition
unfolding emit_items over
returns-in-Definition c =
    let args = c.args in
    sym (ap (λ is. over (emit_items true (item_test args.source.now.store (atom_tree args.x) args.level is args.target) args.base) args.out.now) (item_is c.item_at-item.ensures c.in-Definition.is))
