-- The word of a declaration alone, or nothing.
use mathlib.Core.Path.{sym, ◌∙◌}
use native.Mathlib.Omega.{arith}
use Rattle.write_sets_programs.proofs.UnionLaws.{declared-word, declared-none}
use Rattle.write_sets_programs.proofs.program.declared_set.Goals as goal

pub is_declaration-requires : goal.is_declaration-requires
is_declaration-requires c = omega (arith, c.requires.0.sound.whole, c.requires.2)

pub number_at-requires : goal.number_at-requires
number_at-requires c = omega (arith, c.requires.0.sound.whole, c.requires.2)

pub returns-then-is_declaration : goal.returns-then-is_declaration
returns-then-is_declaration c =
    let start = c.before.before.before.before in
    declared-word start.args.row start.requires.1 start.requires.2 (sym c.is_declaration.ensures ∙ c.if-is_declaration.true) c.number_at.ensures c.single.ensures

pub returns : goal.returns
returns c = declared-none c.args.rows.now c.args.row (sym c.is_declaration.ensures ∙ c.if-is_declaration.false) c.nothing.ensures
