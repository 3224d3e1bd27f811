-- The tests of a switch: the loop keeps `Progress`, so that what is written is the tests of the items passed.
use Rattle.writers.proofs.ListLaws.{start as begin, finish, none-at, next-less, first_of, some-list, first-cases, first-labels, room-item, tests-step}
use mathlib.Core.Path.{ap}
use mathlib.Core.Bool.{true}
use Prim.Native.Nat.{◌*◌}
use native.Mathlib.Omega.{arith}
use Rattle.language.specs.Trees.{Items}
use Rattle.translation.specs.Translate.{case_tests, items_labels}
use Rattle.translation.specs.TranslateSize.{cases}
use Rattle.writers_rows.specs.Atoms.{atom_tree}
use Rattle.writers_steps.specs.AtomLaws.{atom-rows}
use Rattle.writers.proofs.switches.write_cases.Goals as goal

pub loop-item-init : goal.loop-item-init
loop-item-init c = begin _ _ _ _ _ _ _ _ _ _ c.requires.1.inside

pub put_item_test-requires : goal.put_item_test-requires
put_item_test-requires c =
    let past-loop = c.loop-item in
    let asks = c.requires in
    let p = past-loop.invariant in
    let first = first_of _ _ asks.0.source p.inside in
    let same = some-list c.args.source.now.rows.now past-loop.item (omega arith) in
    record {
      source = asks.0.source;
      inside = p.inside;
      atom_fits = asks.1.atom_fits;
      number_low = asks.1.number_low;
      target_low = omega (arith, p.labels_are, asks.1.labels_low);
      room = room-item c.args.source.now.rows.now c.args.list past-loop.item past-loop.n (λ is. 11 * cases is) past-loop.out asks.1.room p.kept p.size_is (omega (arith, first-cases first, ap cases same));
    }

pub overflow_add-n : goal.overflow_add-n
overflow_add-n c =
    let past-loop = c.loop-item in
    let p = past-loop.invariant in
    let first = first_of _ _ c.requires.0.source p.inside in
    let same = some-list c.args.source.now.rows.now past-loop.item (omega arith) in
    omega (arith, c.case_size-n.ensures, p.size_is, c.requires.1.room.low, first-cases first, ap cases same)

pub item_labels-target-requires : goal.item_labels-target-requires
item_labels-target-requires c =
    let past-loop = c.loop-item in
    let p = past-loop.invariant in
    let first = first_of _ _ c.requires.0.source p.inside in
    let same = some-list c.args.source.now.rows.now past-loop.item (omega arith) in
    (c.requires.0, p.inside, omega (arith, p.labels_are, c.requires.1.labels_low, first-labels first, ap items_labels same))

pub overflow_add-target : goal.overflow_add-target
overflow_add-target c =
    let past-loop = c.loop-item in
    let p = past-loop.invariant in
    let first = first_of _ _ c.requires.0.source p.inside in
    let same = some-list c.args.source.now.rows.now past-loop.item (omega arith) in
    omega (arith, c.item_labels-target.ensures, p.labels_are, c.requires.1.labels_low, first-labels first, ap items_labels same)

pub loop-item-smaller : goal.loop-item-smaller
loop-item-smaller c = next-less _ _ _ c.requires.0.source c.loop-item.invariant.inside c.loop-item-test.true c.number_at-item.ensures

pub loop-item-preserved : goal.loop-item-preserved
loop-item-preserved c =
    let past-put-item-test = c.put_item_test in
    tests-step _ _ _ _ _ _ c.requires.0.source c.loop-item-test.true _ _ (atom-rows c.args.x) c.loop-item.invariant _ _ _ _ c.number_at-item.ensures c.item_labels-target.ensures c.case_size-n.ensures past-put-item-test.ensures past-put-item-test.auto.out

pub returns : goal.returns
unfolding case_tests
returns c =
    let past-loop = c.loop-item in
    let args = c.args in
    finish _ _ _ _ _ _ _ _ _ _ past-loop.invariant (ap (λ (is : Items). case_tests args.source.now.store (atom_tree args.x) args.level is past-loop.target) (none-at args.source.now.rows.now past-loop.item c.loop-item-test.false))
