-- `write_sets::bit_in` meets its contract.
use mathlib.Core.Path.{sym, ap}
use mathlib.Core.Bool.{Bool}
use native.Mathlib.Omega.{arith}
use borrow.Author.Tests.{eq-eqb, ne_eqb}
use Rattle.words.specs.Word.{pick}
use Rattle.write_sets.proofs.bit_in.Goals as goal

pub returns-then-k-n : goal.returns-then-k-n
returns-then-k-n c = sym (ap (λ (b : Bool). pick b c.args.bit 0) (eq-eqb c.args.k c.args.n (omega arith)))

pub returns : goal.returns
returns c = sym (ap (λ (b : Bool). pick b c.args.bit 0) (ne_eqb c.args.k c.args.n (λ e. omega arith)))
