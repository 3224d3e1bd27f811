-- `chain_row` puts a row at the head of its chain, or leaves the chains.
use mathlib.Core.Path.{sym, ◌∙◌}
use Prim.Native.Nat.{ℕ, ◌<◌}
use native.Mathlib.Omega.{arith}
use borrow.Author.Rules.{rules}
use Rattle.check_labels.specs.Passes.{Jump}
use Rattle.check_labels.proofs.Chaining.{heads-keep, chain-keep, heads-set, chain-set, no_jump}
use borrow.Author.Rules.{rules}
use Rattle.check_labels.proofs.chains.chain_row.Goals as goal
use Rattle.check_labels.proofs.chains.chain_row.Goals.{After-number_at-number, Else-between}

-- the row is a goto or label with the number that was read
jump-at : (c : After-number_at-number) → Jump c.args.rows.now c.number_at-number.result c.args.row
jump-at c =
    let s = c.before.before.before.before.before.before in
    record { inside = s.requires.2; jump = rw (← c.number_at.ensures) (sym c.between.ensures ∙ c.if-between.true); number_is = sym c.number_at-number.ensures }

number_small : (c : After-number_at-number) → c.number_at-number.result < 40980
number_small c =
    let s = c.before.before.before.before.before.before in
    rw c.number_at-number.ensures (s.requires.1 _ s.requires.2 (jump-at c).jump)

-- or neither
none-at : (c : Else-between) → (number : ℕ) → Jump c.args.rows.now number c.args.row → ⊥
none-at c = no_jump _ _ c.between.result (rw (← c.number_at.ensures) c.between.ensures) c.if-between.false

pub number_at-requires : goal.number_at-requires
number_at-requires c = let s = c.before.before in let whole = s.requires.0.whole in omega arith

pub number_at-number-requires : goal.number_at-number-requires
number_at-number-requires c = let s = c.before.before.before.before.before in let whole = s.requires.0.whole in omega arith

pub offset_bounds-heads-number : goal.offset_bounds-heads-number
offset_bounds-heads-number c = let n = number_small (c) in record { fits = omega arith }

pub bounds-heads-number : goal.bounds-heads-number
bounds-heads-number c = let n = number_small (goal.at.bounds-heads-number c).After-number_at-number in let s = c.before.before.before.before.before.before.before in let room = s.requires.3.room in omega arith

pub offset_bounds-chain-row : goal.offset_bounds-chain-row
offset_bounds-chain-row c = let s = c.before.before.before.before.before.before.before in let few = s.requires.0.few in record { fits = omega arith }

pub bounds-chain-row : goal.bounds-chain-row
bounds-chain-row c = let s = c.before.before.before.before.before.before.before in let room = s.requires.4.room in omega arith

pub narrow-requires : goal.narrow-requires
narrow-requires c = let s = c.before.before.before.before.before.before.before in let few = s.requires.0.few in omega arith

pub offset_bounds-heads-number-then-between : goal.offset_bounds-heads-number-then-between
offset_bounds-heads-number-then-between c = let n = number_small (goal.at.offset_bounds-heads-number-then-between c).After-number_at-number in record { fits = omega arith }

pub bounds-heads-number-then-between : goal.bounds-heads-number-then-between
bounds-heads-number-then-between c = let n = number_small (goal.at.bounds-heads-number-then-between c).After-number_at-number in let s = c.before.before.before.before.before.before.before.before in let room = s.requires.3.room in omega arith

pub returns-then-between : goal.returns-then-between
returns-then-between c =
    let s = c.before.before.before.before.before.before.before.before in
    let jump = jump-at (goal.at.returns-then-between c).After-number_at-number in
    let small = number_small (goal.at.returns-then-between c).After-number_at-number in
    (rw c.narrow.ensures (heads-set _ _ _ jump _ s.requires.3 small), chain-set _ _ _ jump _ s.requires.3 small _ s.requires.4)

pub returns-else-between : goal.returns-else-between
returns-else-between c = let s = c.before.before.before.before.before in (heads-keep _ _ (none-at c) _ s.requires.3, chain-keep _ _ (none-at c) _ s.requires.4)
