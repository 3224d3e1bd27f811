-- `forms_of` looks into the last column of the table that it is lent; beyond it no form has the kind.
use mathlib.Core.Path.{sym}
use Prim.Native.Nat.{ℕ, ◌≤◌}
use native.Mathlib.Omega.{arith}
use borrow.Author.Rules.{rules}
use Rattle.check_grammar.specs.Grammar.{kind_limit}
use Rattle.check_grammar.specs.GrammarLaws.{grammar-forms, forms-beyond}
use Rattle.check_grammar.proofs.kinds.KindTable.forms_of.Goals as goal

pub returns-then-kind-lt-KIND_LIMIT : goal.returns-then-kind-lt-KIND_LIMIT
returns-then-kind-lt-KIND_LIMIT c = rw c.args.self.now.is_grammar (grammar-forms _ c.if-kind-lt-KIND_LIMIT.true)

pub returns : goal.returns
returns c = sym (forms-beyond _ (let h : kind_limit ≤ c.args.kind = omega (arith, c.if-kind-lt-KIND_LIMIT.false) in h))
