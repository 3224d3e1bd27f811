-- The walk for a number. Its measure is the rows from this one on, none where there is no row; the fields' loop tries one after the other.
use mathlib.Core.Path.{◌≡◌, sym, ap, ◌∙◌}
use Prim.Native.Nat.{◌-◌, ◌≤◌, ℕ, ◌<◌}
use native.Mathlib.Omega.{arith}
use Rattle.words.specs.Links.{link as link_of}
use Rattle.words.specs.SearchLaws.{Tried, tried-start, tried-on, tried-hit, tried-end}
use Rattle.check_structure.specs.NoteLaws.{above_zero}
use Rattle.check_declaration_causes.specs.Causes.{named_from}
use Rattle.check_declaration_causes.proofs.InitialLaws.{named_none, named_step}
use Rattle.check_structure.specs.LinkLaws.{part-inside}
use Rattle.check_declarations.specs.WalkLaws.{left, part_falls, below-only}
use Rattle.check_declarations.proofs.initial.+named_from.Goals as goal

pub returns-then-row-eq0 : goal.returns-then-row-eq0
returns-then-row-eq0 t c =
    sym (named_none _ c.requires.0 _ _ c.if-row-eq0.true)

pub names_number-requires : goal.names_number-requires
names_number-requires t c =
    let n = c.requires.1 in let whole = c.requires.0.whole in omega arith

pub returns-then-names_number : goal.returns-then-names_number
returns-then-names_number t c =
    let start = c.before.before.before in
    sym (named_step _ start.requires.0 _ _ (above_zero _ c.if-row-eq0.false) start.requires.1 ∙ rw (← c.names_number.ensures, c.if-names_number.true))

pub loop-field-init : goal.loop-field-init
loop-field-init t c =
    tried-start _ _

pub link-requires : goal.link-requires
link-requires t c =
    let start = c.before.before.before.before.before in
    let n = start.requires.1 in
    let whole = start.requires.0.whole in
    (omega arith, omega arith)

pub named_from-requires : goal.named_from-requires
named_from-requires t c =
    let start = c.before.before.before.before.before.before in
    let tree = start.requires.0 in
    let h : c.loop-field.field < 6 = omega arith in
    let less = part_falls _ tree _ _ _ c.if-row-eq0.false start.requires.1 h c.link.ensures in
    let same = start.decreases in
    (omega arith, (tree, part-inside _ tree _ _ _ start.requires.1 h c.link.ensures))

pub returns-then-named_from : goal.returns-then-named_from
returns-then-named_from t c =
    let start = c.before.before.before.before.before.before.before.before in
    tried-hit _ 6 _ _ (omega arith) c.loop-field.invariant (c.named_from.ensures ∙ ap (named_from _ _) c.link.ensures) c.if-named_from.true
    ∙ sym (below-only _ start.requires.0 _ _ _ c.if-row-eq0.false start.requires.1 c.names_number.ensures c.if-names_number.false)

pub loop-field-preserved : goal.loop-field-preserved
loop-field-preserved t c =
    tried-on _ 6 _ _ (omega arith) c.loop-field.invariant (c.named_from.ensures ∙ ap (named_from _ _) c.link.ensures) c.if-named_from.false

pub returns : goal.returns
returns t c =
    let start = c.before.before.before.before.before in
    tried-end _ 6 _ (omega arith) c.loop-field.invariant
    ∙ sym (below-only _ start.requires.0 _ _ _ c.if-row-eq0.false start.requires.1 c.names_number.ensures c.if-names_number.false)
