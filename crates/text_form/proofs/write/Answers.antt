-- `write`: causes 1 and 2, then 10 by the sizes, then the text is put.
use Rattle.std.specs.Prelude.{None}
use mathlib.Core.Path.{◌≡◌, sym, ap, ◌∙◌}
use native.Mathlib.Omega.{arith}
use mathlib.Core.Bool.{true}
use lib.ListN.{length}
use Rattle.text_form.specs.Answers.{cause_of}
use Rattle.text_form.specs.Reader.{cause_says}
use Rattle.text_form.proofs.Sizing.{Sized, Limited, limited, sized-fills, writes_short, writes-all, writes-cause}
use Rattle.text_form.proofs.write.Goals as goal
use Rattle.text_form.proofs.write.Goals.{After-size_of-2, In_default}

pub returns-in-Some : goal.returns-in-Some
returns-in-Some c = writes-cause _ _ _ _ _ (sym c.first_cause.ensures ∙ ap cause_says c.in-Some.is)

-- no cause but 10 is left
passes : (c : In_default) → cause_of c.args.form c.args.header.now (length c.args.rows.now) true ≡ None
passes c = sym c.first_cause.ensures ∙ ap cause_says c.in_default.is

limits : (c : In_default) → Limited c.args.header.now c.args.rows.now
limits c = limited c.args.form _ _ (passes c)

sized : (c : After-size_of-2) → Sized c.args.form c.args.header.now c.args.rows.now c.size_of.result c.size_of-2.result
sized c = record { passes = passes (goal.at.After-size_of-2 c).In_default; header_size = c.size_of.ensures; rows_size = c.size_of-2.ensures }

pub size_of-requires : goal.size_of-requires
size_of-requires c = omega (arith, (limits c).header_few)

pub size_of-requires-2 : goal.size_of-requires-2
size_of-requires-2 c = (limits (goal.at.size_of-requires-2 c).In_default).rows_few

pub overflow_add-size_of : goal.overflow_add-size_of
overflow_add-size_of c = omega (arith, c.size_of.ensures.most, c.size_of-2.ensures.most, (limits (goal.at.overflow_add-size_of c).In_default).header_few, (limits (goal.at.overflow_add-size_of c).In_default).rows_few)

pub returns-then-text-size_of : goal.returns-then-text-size_of
returns-then-text-size_of c = writes_short (sized (goal.at.returns-then-text-size_of c).After-size_of-2) _ c.if-text-size_of.true

pub put_text-requires : goal.put_text-requires
put_text-requires c = sized-fills (sized (goal.at.put_text-requires c).After-size_of-2) _ c.if-text-size_of.false

pub returns : goal.returns
returns c = writes-all (sized (goal.at.returns c).After-size_of-2) _ c.if-text-size_of.false _ _ c.put_text.ensures
