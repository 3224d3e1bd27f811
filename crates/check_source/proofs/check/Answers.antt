-- `check` takes the causes that both forms share, which leave a tree of rows, then the others.
use mathlib.Core.Path.{sym}
use native.Mathlib.Omega.{arith}
use Rattle.words.specs.Laws.{count_fits-facts}
use Rattle.words.specs.declared.Form.TheVariants.{Source}
use Rattle.check_structure.specs.RefusalLaws.{refused, passed}
use Rattle.check_structure.specs.StructuredLaws.{accepted-structured, structured-tree}
use Rattle.check_function_causes.proofs.FrontLaws.{block-undefined}
use Rattle.check_source.specs.Refusal.{refusal}
use borrow.Author.Rules.{rules}
use Rattle.check_source.proofs.check.Goals as goal

pub later_refusal-requires : goal.later_refusal-requires
later_refusal-requires c =
    let structured = (accepted-structured Source c.args.header.now c.args.rows.now (sym c.in_ok-shared_refusal.ensures)).1 in
    let fit = count_fits-facts Source _ structured.count-fits in
    (structured-tree Source _ _ structured, block-undefined _ 0 structured.block, (let most = fit.most in omega arith))

pub returns-in_err-shared_refusal : goal.returns-in_err-shared_refusal
unfolding refusal
returns-in_err-shared_refusal c = refused _ _ _ _ c.from_residual.ensures.1 c.in_err-shared_refusal.ensures

pub returns : goal.returns
unfolding refusal
returns c = passed _ _ _ c.in_ok-shared_refusal.ensures c.later_refusal.ensures
