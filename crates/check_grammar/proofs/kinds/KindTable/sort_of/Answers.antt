-- `sort_of` looks into the table that it is lent; beyond it every field is unused.
use mathlib.Core.Path.{sym}
use Prim.Native.Nat.{ℕ, ◌≤◌}
use native.Mathlib.Omega.{arith}
use borrow.Author.Rules.{rules}
use Rattle.check_grammar.specs.Grammar.{kind_limit}
use Rattle.check_grammar.specs.GrammarLaws.{grammar-sort, sort-beyond}
use Rattle.check_grammar.proofs.kinds.KindTable.sort_of.Goals as goal

pub returns-then-kind-lt-KIND_LIMIT : goal.returns-then-kind-lt-KIND_LIMIT
returns-then-kind-lt-KIND_LIMIT c = rw c.args.self.now.is_grammar (grammar-sort _ _ c.if-kind-lt-KIND_LIMIT.true c.requires)

pub returns : goal.returns
returns c = sym (sort-beyond _ _ (let h : kind_limit ≤ c.args.kind = omega (arith, c.if-kind-lt-KIND_LIMIT.false) in h) c.requires)
