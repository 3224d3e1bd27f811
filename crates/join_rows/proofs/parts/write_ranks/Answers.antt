-- `write_ranks` gives one row after the other its place.
use Rattle.std.proofs.Common.{◌≡◌, ℕ, ◌+◌, ◌≤◌, ap, arith}
use mathlib.Core.Bool.{Bool, true, false}
use mir.Val.{bool_byte}
use Rattle.words.specs.Word.{one}
use Rattle.join_rows.specs.StandingLaws.{ranking-begun, ranking-below, ranking-on, ranking-ended}
use Rattle.join_rows.proofs.parts.write_ranks.Goals as goal

as_one : (b : Bool) (n : ℕ) → n ≡ bool_byte b → (n ≡ one b) × (n ≤ 1)
as_one true n e = (e, omega (arith, e))
as_one false n e = (e, omega (arith, e))

pub loop-row-init : goal.loop-row-init
loop-row-init c = ranking-begun

pub is_of_definition-of_definition-requires : goal.is_of_definition-of_definition-requires
is_of_definition-of_definition-requires c = (c.requires.0, omega arith, c.requires.1)

pub rank-requires : goal.rank-requires
rank-requires c = (ranking-below c.loop-row.invariant, omega (arith, c.requires.0.few))

pub overflow_add-definitions : goal.overflow_add-definitions
overflow_add-definitions c = omega (arith, ranking-below c.loop-row.invariant, (as_one _ _ c.from-definitions.ensures).1, c.requires.0.few)

pub loop-row-preserved : goal.loop-row-preserved
loop-row-preserved c = ranking-on _ _ _ c.loop-row.invariant (omega arith) c.requires.2 c.is_of_definition-of_definition.ensures c.rank.ensures (ap (λ (n : ℕ). c.loop-row.definitions + n) (as_one _ _ c.from-definitions.ensures).0)

pub returns : goal.returns
returns c = ranking-ended c.loop-row.invariant (omega arith) c.requires.2
