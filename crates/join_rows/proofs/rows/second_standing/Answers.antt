-- `second_standing`: no more rows are of definitions than there are, and there are few.
use Rattle.std.proofs.Common.{refl, arith}
use Rattle.join_rows.specs.NotedLaws.{noted-most}
use Rattle.join_rows.proofs.rows.second_standing.Goals as goal

pub overflow_add-others : goal.overflow_add-others
overflow_add-others c = let few = c.requires.0 in let few' = c.requires.1 in omega (arith, noted-most c.args.first.now.noted, noted-most c.args.second.now.noted)

pub overflow_add-others-2 : goal.overflow_add-others-2
overflow_add-others-2 c = let few = c.requires.0 in let few' = c.requires.1 in omega (arith, noted-most c.args.first.now.noted, noted-most c.args.second.now.noted)

pub overflow_add-result : goal.overflow_add-result
overflow_add-result c = let few = c.requires.0 in let few' = c.requires.1 in omega (arith, noted-most c.args.first.now.noted, noted-most c.args.second.now.noted)

pub overflow_sub-result : goal.overflow_sub-result
overflow_sub-result c = let few = c.requires.0 in let few' = c.requires.1 in omega (arith, noted-most c.args.first.now.noted, noted-most c.args.second.now.noted)

pub overflow_add-result-2 : goal.overflow_add-result-2
overflow_add-result-2 c = let few = c.requires.0 in let few' = c.requires.1 in omega (arith, noted-most c.args.first.now.noted, noted-most c.args.second.now.noted)

pub returns : goal.returns
returns c = record { definitions_is = refl; others_is = refl; functions_is = c.requires.2; behind_is = refl; after_is = refl; item_is = c.requires.3 }
