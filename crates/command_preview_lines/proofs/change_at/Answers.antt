-- `change_at`: nothing for equal words, which are compared by their bits, else the line.
use mathlib.Core.Path.{sym, ap₂, ◌∙◌}
use native.Mathlib.Omega.{arith}
use borrow.Author.Tests.{eq-eqb, ne_eqb}
use Rattle.words.specs.Laws.{same_word-bits, back}
use Rattle.text_numbers.specs.PutLaws.{put-none, put_as}
use Rattle.command_preview_lines.specs.Changes.{change_line}
use Rattle.command_preview_lines.proofs.Changed.{unchanged, changed}
use Rattle.command_preview_lines.proofs.change_at.Goals as goal

pub returns-then-before-after : goal.returns-then-before-after
returns-then-before-after c =
    let same = sym (same_word-bits c.args.before c.args.after c.ranges.before.sfits c.ranges.after.sfits) ∙ eq-eqb _ _ c.if-before-after.true in
    record { put = put_as (unchanged c.args.place c.args.before c.args.after same) (put-none c.args.text.now); upper_bound = omega arith }

pub returns : goal.returns
returns c =
    let before = c.args.before in
    let after = c.args.after in
    let other = sym (same_word-bits before after c.ranges.before.sfits c.ranges.after.sfits) ∙ ne_eqb _ _ c.if-before-after.false in
    let told = c.change_line.ensures in
    record { put = put_as (ap₂ (change_line c.args.place) (back before c.ranges.before.sfits) (back after c.ranges.after.sfits) ∙ changed c.args.place before after other) told.put; upper_bound = told.upper_bound }
