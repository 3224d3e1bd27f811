-- A variable's step, by the use of its old value: one assignment or two.
use mathlib.Core.Path.{sym, ap}
use native.Mathlib.Omega.{arith}
use Rattle.translation.specs.declared.Use.{Use}
use Rattle.translation.specs.Translate.{step_code}
use Rattle.translation.specs.TranslateSize.{step_rows}
use Rattle.writers_rows.specs.Chain.{room-less}
use Rattle.writers_rows.specs.LeafLaws.{recoded}
use Rattle.writers_steps.proofs.straight.put_variable_step.Goals as goal

pub put_binary-requires : goal.put_binary-requires
put_binary-requires c = (room-less 6 c.requires.0 (omega (arith, ap step_rows c.in-Dropped.is)), c.requires.1, c.requires.1, tt)

pub put_kept_step-requires : goal.put_kept_step-requires
put_kept_step-requires c = (room-less 10 c.requires.0 (omega (arith, ap step_rows c.in-Wanted.is)), c.requires.1, c.requires.2)

pub put_kept_step-requires-in-Stored : goal.put_kept_step-requires-in-Stored
put_kept_step-requires-in-Stored c = (room-less 10 c.requires.0 (omega (arith, ap step_rows c.in-Stored.is)), c.requires.1, c.requires.2)

pub returns-in-Dropped : goal.returns-in-Dropped
returns-in-Dropped c =
    let args = c.args in
    recoded _ _ _ _ _ _ c.put_binary.ensures (ap (λ (u : Use). step_code args.store args.operator args.number u args.at.level) (sym c.in-Dropped.is))

pub returns-in-Wanted : goal.returns-in-Wanted
returns-in-Wanted c =
    let args = c.args in
    recoded _ _ _ _ _ _ c.put_kept_step.ensures (ap (λ (u : Use). step_code args.store args.operator args.number u args.at.level) (sym c.in-Wanted.is))

pub returns-in-Stored : goal.returns-in-Stored
returns-in-Stored c =
    let args = c.args in
    recoded _ _ _ _ _ _ c.put_kept_step-in-Stored.ensures (ap (λ (u : Use). step_code args.store args.operator args.number u args.at.level) (sym c.in-Stored.is))
