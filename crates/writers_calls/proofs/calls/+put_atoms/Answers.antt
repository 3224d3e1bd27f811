-- What holds the arguments: the first one's rows, and then those behind it.
use mathlib.Core.Path.{◌≡◌, ap}
use mathlib.Core.List.{◌++◌}
use native.Mathlib.Omega.{arith}
use lib.IntN.{pos}
use Rattle.words.specs.Word.{pick}
use Rattle.language.specs.Calls.{argument_count}
use Rattle.language.specs.Decode.{argument_list_at}
use Rattle.language_emission.specs.Emission.{row_of, emit_expression}
use Rattle.measures_table.specs.Parts.{called_in}
use Rattle.writers_rows.specs.Atoms.{atom_tree}
use Rattle.writers_rows.specs.Chain.{PutWords, Reach, put-reach, put-room, room-less}
use Rattle.writers_calls.specs.Arguments.{taken_by}
use Rattle.writers_calls.specs.Ranks.{rank, rank_falls}
use Rattle.writers_calls.specs.ArgumentLaws.{link-inside, passing-count, passing-taken, atoms-none, first-put, atoms-done}
use Prim.Native.Nat.{ℕ, ◌+◌, ◌*◌, ◌-◌, ◌/◌, ◌≤◌}
use Rattle.writers_calls.proofs.calls.+put_atoms.Goals as goal
use Rattle.writers_calls.proofs.calls.+put_atoms.Goals.{After-arguments_taken, After-out-1}

pub returns-then-size-eq0 : goal.returns-then-size-eq0
returns-then-size-eq0 t c =
    let args = c.args in
    let none : argument_count (argument_list_at args.source.now.rows.now args.argument) ≡ 0 = omega (arith, c.requires.1.size_is, c.if-size-eq0.true) in
    atoms-none (called_in args.source.now.rows.now) args.source.now.store (argument_list_at args.source.now.rows.now args.argument) args.copies args.level args.base args.out.now none

pub arguments_taken-requires : goal.arguments_taken-requires
arguments_taken-requires t c =
    let asks = c.requires.1 in
    (c.requires.0.measured, omega (arith, c.number_at-next.ensures, link-inside _ asks.inside c.argument_value-e.ensures.behind))

-- what is worked out above the arguments behind is low
above_low : (t : ℕ) (c : After-arguments_taken t) → c.args.level + c.arguments_taken.result ≤ 4096
above_low t c =
    let args = c.args in
    let rows = args.source.now.rows.now in
    let next = ap (λ (n : ℕ). taken_by (called_in rows) (argument_list_at rows n) (args.copies / 2)) c.number_at-next.ensures in
    omega (arith, c.requires.1.level_low, c.arguments_taken.ensures.is, next, passing-taken args.copies c.argument_value-e.ensures)

pub overflow_add-above : goal.overflow_add-above
overflow_add-above t c = omega (arith, above_low t c)

pub held_atom-atom-requires : goal.held_atom-atom-requires
held_atom-atom-requires t c =
    (c.requires.0, c.argument_value-e.ensures.onward.inside, above_low t c)

pub overflow_sub-rest : goal.overflow_sub-rest
overflow_sub-rest t c =
    omega (arith, c.requires.1.size_is, passing-count c.argument_value-e.ensures)

pub put_argument-requires : goal.put_argument-requires
put_argument-requires t c =
    let asks = c.requires.1 in
    (room-less 2 asks.room (omega (arith, asks.size_is, passing-count c.argument_value-e.ensures)), c.held_atom-atom.ensures.fits)

-- The first argument is written.
two-rows : (t : ℕ) (c : After-out-1 t) → 2 + 2 * argument_count (argument_list_at c.args.source.now.rows.now c.number_at-next.result) ≡ c.args.size
two-rows t c =
    let rows = c.args.source.now.rows.now in
    omega (arith, c.requires.1.size_is, passing-count c.argument_value-e.ensures, ap (λ (n : ℕ). argument_count (argument_list_at rows n)) c.number_at-next.ensures)

written : (t : ℕ) (c : After-out-1 t) →
    let args = c.args in
    let value = c.held_atom-atom.result in
    PutWords (row_of 32 (pos (args.base + 1)) 0 0 0 (pick c.more.result (args.base + 2) 0) ++ emit_expression (atom_tree value) (args.base + 1)) 2 args.out.now c.put_argument.new.out
written t c =
    let args = c.args in
    first-put args.base (pick c.more.result (args.base + 2) 0) c.held_atom-atom.result args.out.now c.put_argument.new.out c.put_argument.ensures

reach : (t : ℕ) (c : After-out-1 t) → Reach 2 c.args.base c.put_argument.new.out
reach t c =
    put-reach 0 (written t c) c.requires.1.room (omega (arith, two-rows t c))

pub overflow_add-base : goal.overflow_add-base
overflow_add-base t c = omega (arith, reach t c)

pub slice_bounds-put_atoms-count : goal.slice_bounds-put_atoms-count
slice_bounds-put_atoms-count t c = omega (arith, reach t c)

pub slice_bounds-put_atoms-start : goal.slice_bounds-put_atoms-start
slice_bounds-put_atoms-start t c = omega (arith, reach t c)

pub slice_bounds-put_atoms-end : goal.slice_bounds-put_atoms-end
slice_bounds-put_atoms-end t c = omega (arith, reach t c)

pub put_atoms-requires : goal.put_atoms-requires
put_atoms-requires t c =
    let args = c.args in
    let rows = args.source.now.rows.now in
    let asks = c.requires.1 in
    let at = c.argument_value-e.ensures in
    let next = c.number_at-next.ensures in
    let others = ap (λ (n : ℕ). taken_by (called_in rows) (argument_list_at rows n) (args.copies / 2)) next in (
      omega (arith, c.decreases, ap (rank rows) next, rank_falls rows args.argument _ at.some asks.inside (λ h. (at.behind h).later)),
      (
        c.requires.0,
        record {
          inside = omega (arith, next, link-inside _ asks.inside at.behind);
          size_is = omega (arith, two-rows t (goal.at.put_atoms-requires t c).After-out-1);
          level_low = omega (arith, asks.level_low, others, passing-taken args.copies at);
          room = put-room _ (written t (goal.at.put_atoms-requires t c).After-out-1) asks.room (omega (arith, two-rows t (goal.at.put_atoms-requires t c).After-out-1));
        },
      ),
    )

pub returns : goal.returns
returns t c =
    let args = c.args in
    let next = c.number_at-next.ensures in
    let rest : args.size - 2 ≡ 2 * argument_count (argument_list_at args.source.now.rows.now c.number_at-next.result) = omega (arith, two-rows t (goal.at.returns t c).After-out-1) in
    atoms-done args.source.now.store args.source.now.rows.now args.argument args.copies args.level args.base args.out.now c.argument_value-e.ensures next rest
    (ap (λ (n : ℕ). args.level + n) c.arguments_taken.ensures.is) c.held_atom-atom.ensures c.more.ensures c.put_argument.ensures c.put_atoms.ensures
