-- `own_refusal` takes 16, 17, 9 and 20 in order; the two checks and the tests leave rows that can be joined.
use Rattle.std.proofs.Common.{sym, ap, ◌∙◌}
use mathlib.Core.Bool.{not}
use native.Mathlib.Omega.{arith}
use borrow.Author.Tests.{le-leb, lt-leb}
use Rattle.words.specs.Table.{row_count}
use Rattle.join.specs.Join.{joined_rows}
use Rattle.join.proofs.JoinLaws.{unequal-headers, too_many_rows}
use Rattle.joiner.specs.JoinerLaws.{headers-tested, parts-count, accepted-parts, accepted-joinable, own-rows}
use Rattle.joiner.proofs.causes.own_refusal.Goals as goal

pub returns-then-ne : goal.returns-then-ne
returns-then-ne c =
    sym (unequal-headers c.args.header.now c.args.first.now c.args.second_header.now c.args.second.now (headers-tested _ _ _ c.ne.ensures ∙ ap not c.if-ne.true))

pub returns-then-first-second-gt2048 : goal.returns-then-first-second-gt2048
returns-then-first-second-gt2048 c =
    let same = headers-tested _ _ _ c.ne.ensures ∙ ap not c.if-ne.false in
    let many = parts-count c.args.first.now c.args.second.now (accepted-parts c.args.header.now c.args.first.now c.args.second_header.now c.args.second.now c.requires.0 c.requires.1) in
    sym (too_many_rows c.args.header.now c.args.first.now c.args.second_header.now c.args.second.now same (lt-leb (row_count (joined_rows c.args.first.now c.args.second.now)) 2048 (omega (arith, many, c.if-first-second-gt2048.true))))

pub joined_refusal-requires : goal.joined_refusal-requires
joined_refusal-requires c =
    let same = headers-tested _ _ _ c.ne.ensures ∙ ap not c.if-ne.false in
    accepted-joinable c.args.header.now c.args.first.now c.args.second_header.now c.args.second.now c.requires.0 c.requires.1 same (omega (arith, c.if-first-second-gt2048.false))

pub returns : goal.returns
returns c =
    let same = headers-tested _ _ _ c.ne.ensures ∙ ap not c.if-ne.false in
    let many = parts-count c.args.first.now c.args.second.now (accepted-parts c.args.header.now c.args.first.now c.args.second_header.now c.args.second.now c.requires.0 c.requires.1) in
    c.joined_refusal.ensures ∙ sym (own-rows c.args.header.now c.args.first.now c.args.second_header.now c.args.second.now same (le-leb (row_count (joined_rows c.args.first.now c.args.second.now)) 2048 (omega (arith, many, c.if-first-second-gt2048.false))))
