-- `resolve_accepted` hands S to the resolver: an accepted program is a tree of few enough rows.
use mathlib.Core.Path.{ap, ◌∙◌}
use Prim.Native.Nat.{ℕ}
use native.Mathlib.Omega.{arith}
use borrow.Author.Rules.{rules}
use Rattle.words.specs.Over.{over}
use Rattle.names.specs.Names.{resolved}
use Rattle.accepted_rows.specs.ResolvedPrograms.{accepted-header, accepted-tree, accepted-size, accepted-words}
use Rattle.accepted_rows.proofs.resolve_accepted.Goals as goal

pub store_size-size-requires : goal.store_size-size-requires
store_size-size-requires c = accepted-header c.args.header.now c.args.rows.now c.requires.0

pub resolve-requires : goal.resolve-requires
resolve-requires c =
    let s = c.before.before in
    let header = s.args.header.now in
    let rows = s.args.rows.now in
    let few = accepted-words header rows s.requires.0 in
    (accepted-tree header rows s.requires.0, omega (arith, few), omega (arith, c.store_size-size.ensures, accepted-size header rows s.requires.0), s.requires.1)

pub returns : goal.returns
returns c =
    let s = c.before.before.before.before in
    c.resolve.ensures ∙ ap (λ (S : ℕ). over (resolved S s.args.rows.now) s.args.out.now) c.store_size-size.ensures
