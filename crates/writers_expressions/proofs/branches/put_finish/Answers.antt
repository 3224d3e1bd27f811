-- The end of a branch: each arm writes what finish_code says of it.
use mathlib.Core.Path.{sym, ap}
use mathlib.Core.Bool.{false}
use native.Mathlib.Omega.{arith}
use Rattle.writers_rows.specs.Chain.{room-less}
use Rattle.writers_rows.specs.LeafLaws.{recoded, nothing-wrote}
use Rattle.writers_expressions.specs.Code.{finish_code}
use Rattle.writers_expressions.specs.Asks.{finish_size}
use Rattle.writers_expressions.specs.declared.End.{End}
use Rattle.writers_expressions.proofs.branches.put_finish.Goals as goal

pub put_binary-requires : goal.put_binary-requires
put_binary-requires c = (room-less 6 c.requires.0 (omega (arith, ap finish_size c.in-Truth.is)), c.requires.2, c.requires.1, tt)

pub put_copy-requires : goal.put_copy-requires
put_copy-requires c = (room-less 4 c.requires.0 (omega (arith, ap finish_size c.in-Copy.is)), c.requires.2, c.requires.1)

pub returns-in-Truth : goal.returns-in-Truth
returns-in-Truth c = recoded _ _ _ _ _ _ c.put_binary.ensures (ap (λ (e : End). finish_code c.args.store e c.args.atom c.args.level) (sym c.in-Truth.is))

pub returns-in-Copy : goal.returns-in-Copy
returns-in-Copy c = recoded _ _ _ _ _ _ c.put_copy.ensures (ap (λ (e : End). finish_code c.args.store e c.args.atom c.args.level) (sym c.in-Copy.is))

pub returns-in-Stays : goal.returns-in-Stays
returns-in-Stays c = recoded _ _ _ _ _ _ (nothing-wrote false c.args.base _) (ap (λ (e : End). finish_code c.args.store e c.args.atom c.args.level) (sym c.in-Stays.is))
