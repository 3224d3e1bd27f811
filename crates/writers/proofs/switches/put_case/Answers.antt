-- The test of a case: the jump stands behind the comparison.
use mathlib.Core.Path.{refl, ap, ◌∙◌}
use Prim.Native.Nat.{◌+◌}
use mir.Syntax.{w32}
use mir.Facts.{to_z-of_z}
use Rattle.words.specs.declared.Operator.TheVariants.{Equal}
use Rattle.language.specs.Trees.{constant, binary, assign, variable, express, none, ◌then◌, ◌⧺◌}
use Rattle.language_emission.specs.Emission.{emit_items}
use Rattle.words.specs.Over.{over}
use Rattle.writers_rows.specs.Atoms.{atom_tree}
use Rattle.writers_steps.specs.AtomLaws.{atom-rows}
use mathlib.Core.Bool.{true}
use native.Mathlib.Omega.{arith}
use Rattle.language.specs.Sizes.{items_rows, expression_rows}
use Rattle.writers.proofs.Sequence.{wrote-behind}
use Rattle.writers.proofs.switches.put_case.Goals as goal

pub returns : goal.returns
unfolding ◌⧺◌ items_rows expression_rows
returns c =
    let args = c.args in
    let one = atom-rows args.x in
    let test = c.put_binary.ensures
    ∙ ap (λ v. over (emit_items true (express (assign (variable (args.store + args.level)) (binary Equal (atom_tree args.x) (constant v))) then none) args.base) args.out.now) (to_z-of_z {w = w32} c.ranges.v) in
    (wrote-behind {first = true} {follows = true} {n = 6} {k = 5} 11 refl refl refl
    (record { table = test; size = omega (arith, one) })
    (record { table = c.put_jump.ensures; size = refl })).table
