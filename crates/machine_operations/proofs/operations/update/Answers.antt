-- `update` stores what the operation gives, or hands its fault up.
use Rattle.machine_operations.proofs.Decoding.{handed, wide_fits, update-fails, update-old, update-new, settled-settles}
use lib.IntN.{pos}
use lib.ListN.{get_or}
use Rattle.words.specs.Word.{pick}
use Rattle.language.specs.Meaning.{old_value, new_value}
use Rattle.machine_operations.proofs.operations.update.Goals as goal

pub returns-in_default : goal.returns-in_default
returns-in_default c n =
    let start = c.before.before.before.before in
    let done = c.before.before in
    let is = settled-settles c.settled.result done.apply-result.result c.settled.type_inv c.settled.ensures in
    update-fails start.args.operator start.args.at start.args.right start.args.store.now done.apply-result.result done.apply-result.ensures done.before-1.given start.ranges.right.sfits (pick start.args.old old_value new_value) n c.in_default.field-0 (handed c.settled.result) c.in_default.is is

pub overflow_cast-result : goal.overflow_cast-result
overflow_cast-result c =
    let start = c.before.before.before.before in
    wide_fits (get_or start.args.store.now start.args.at (pos 0)) c.before-1.given

pub returns-then-old : goal.returns-then-old
returns-then-old c n =
    let start = c.before.before.before.before in
    let done = c.before.before in
    update-old start.args.operator start.args.at start.args.right start.args.store.now done.apply-result.result done.apply-result.ensures done.before-1.given start.ranges.right.sfits c.in-Ok.after c.in-Ok.is c.in-Ok.known_told-1-own.given.0.1 start.args.old n c.if-old.true

pub overflow_cast-result-2 : goal.overflow_cast-result-2
overflow_cast-result-2 c = wide_fits c.in-Ok.after c.in-Ok.known_told-1-own.given.0.1

pub returns : goal.returns
returns c n =
    let start = c.before.before.before.before in
    let done = c.before.before in
    update-new start.args.operator start.args.at start.args.right start.args.store.now done.apply-result.result done.apply-result.ensures done.before-1.given start.ranges.right.sfits c.in-Ok.after c.in-Ok.is c.in-Ok.known_told-1-own.given.0.1 start.args.old n c.if-old.false
