-- `passing` makes the tests of its definition in order.
use mathlib.Core.Path.{sym, ap, ◌∙◌}
use native.Mathlib.Omega.{arith}
use lib.IntN.{negsuc}
use Rattle.words.specs.Word.{natural}
use Rattle.words.specs.Laws.{back}
use Rattle.machine_flows.specs.declared.Flow.TheVariants.{Goto}
use Rattle.machine_flows.proofs.Answers.{is-word, is-no-word, passing-next, passing-break, passing-continue, passing-goto}
use Rattle.machine_flows.proofs.flows.passing.Goals as goal

pub returns-then-number-eqminus1 : goal.returns-then-number-eqminus1
returns-then-number-eqminus1 c =
    let z = c.args.number in
    let h = c.ranges.number.sfits in
    sym (passing-next z (is-word z (negsuc 0) h (omega arith) c.if-number-eqminus1.true))

pub returns-then-number-eqminus2 : goal.returns-then-number-eqminus2
returns-then-number-eqminus2 c =
    let z = c.args.number in
    let h = c.ranges.number.sfits in
    sym (passing-break z (is-no-word z (negsuc 0) h (omega arith) c.if-number-eqminus1.false) (is-word z (negsuc 1) h (omega arith) c.if-number-eqminus2.true))

pub returns-then-number-eqminus3 : goal.returns-then-number-eqminus3
returns-then-number-eqminus3 c =
    let z = c.args.number in
    let h = c.ranges.number.sfits in
    sym (passing-continue z (is-no-word z (negsuc 0) h (omega arith) c.if-number-eqminus1.false) (is-no-word z (negsuc 1) h (omega arith) c.if-number-eqminus2.false) (is-word z (negsuc 2) h (omega arith) c.if-number-eqminus3.true))

pub returns : goal.returns
returns c =
    let z = c.args.number in
    let h = c.ranges.number.sfits in
    ap Goto (c.natural.ensures ∙ ap natural (back z h)) ∙ sym (passing-goto z (is-no-word z (negsuc 0) h (omega arith) c.if-number-eqminus1.false) (is-no-word z (negsuc 1) h (omega arith) c.if-number-eqminus2.false) (is-no-word z (negsuc 2) h (omega arith) c.if-number-eqminus3.false))
