-- `make` hands a line to the function of its kind; what no test takes is kind 4.
use Rattle.flat_steps.proofs.Made.{small-operation, of-kind, kind-known, jump-ready, jump-next, abort_fails, last-kind}
use borrow.Author.Rules.{rules}
use mathlib.Core.Path.{sym, ◌∙◌}
use native.Mathlib.Omega.{arith}
use Rattle.flat_steps.proofs.lines.make.Goals as goal

pub number_at-operation-requires : goal.number_at-operation-requires
number_at-operation-requires c = (omega (arith, c.requires.inside), omega (arith, small-operation c.requires))

pub jump_zero-requires : goal.jump_zero-requires
jump_zero-requires c = of-kind c.requires c.number_at-operation.ensures (search rules)

pub operate-requires : goal.operate-requires
operate-requires c = (of-kind c.requires c.number_at-operation.ensures (sym c.operation_kind-kind.ensures), sym c.is_binary.ensures ∙ c.if-is_binary.true)

pub returns-then-is_binary : goal.returns-then-is_binary
returns-then-is_binary c = c.operate.ensures

pub copy-requires : goal.copy-requires
copy-requires c = of-kind c.requires c.number_at-operation.ensures (sym c.operation_kind-kind.ensures ∙ c.if-kind-eq1.true)

pub returns-then-kind-eq1 : goal.returns-then-kind-eq1
returns-then-kind-eq1 c = c.copy.ensures

pub target_of-requires : goal.target_of-requires
target_of-requires c = jump-ready (of-kind c.requires c.number_at-operation.ensures (sym c.operation_kind-kind.ensures))

pub returns-then-kind-eq52 : goal.returns-then-kind-eq52
returns-then-kind-eq52 c = jump-next c.args.store.now (of-kind c.requires c.number_at-operation.ensures (sym c.operation_kind-kind.ensures ∙ c.if-kind-eq52.true)) c.target_of.result c.target_of.ensures

pub fetch-requires : goal.fetch-requires
fetch-requires c = of-kind c.requires c.number_at-operation.ensures (sym c.operation_kind-kind.ensures ∙ c.if-kind-eq3.true)

pub returns-then-kind-eq3 : goal.returns-then-kind-eq3
returns-then-kind-eq3 c = c.fetch.ensures

pub put-requires : goal.put-requires
put-requires c = of-kind c.requires c.number_at-operation.ensures (sym c.operation_kind-kind.ensures ∙ c.if-kind-eq21.true)

pub returns-then-kind-eq21 : goal.returns-then-kind-eq21
returns-then-kind-eq21 c = c.put.ensures

pub jump_other-requires : goal.jump_other-requires
jump_other-requires c = of-kind c.requires c.number_at-operation.ensures (sym c.operation_kind-kind.ensures ∙ c.if-kind-eq44.true)

pub returns-then-kind-eq44 : goal.returns-then-kind-eq44
returns-then-kind-eq44 c = c.jump_other.ensures

pub returns-then-kind-eq57 : goal.returns-then-kind-eq57
returns-then-kind-eq57 c = abort_fails c.args.store.now (of-kind c.requires c.number_at-operation.ensures (sym c.operation_kind-kind.ensures ∙ c.if-kind-eq57.true))

pub negate-requires : goal.negate-requires
negate-requires c = of-kind c.requires c.number_at-operation.ensures (sym c.operation_kind-kind.ensures ∙ last-kind (kind-known c.requires c.number_at-operation.ensures c.operation_kind-kind.ensures) (sym c.is_binary.ensures ∙ c.if-is_binary.false) c.if-kind-eq1.false c.if-kind-eq43.false c.if-kind-eq52.false c.if-kind-eq3.false c.if-kind-eq21.false c.if-kind-eq44.false c.if-kind-eq57.false)

pub returns : goal.returns
returns c = c.negate.ensures
