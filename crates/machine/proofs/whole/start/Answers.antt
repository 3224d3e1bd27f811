-- `start` writes the bounds and the rows of the functions, and runs the statement at row 0 with them.
use native.Mathlib.Omega.{arith}
use mathlib.Core.Path.{◌≡◌, sym, ap, subst, ◌∙◌}
use mathlib.Core.List.{List, ◌++◌}
use Prim.Native.Nat.{ℕ, ◌+◌}
use lib.ListN.{length, drop}
use lib.Seq.{length-take-le}
use Rattle.words.specs.Layout.{Layout}
use Rattle.computation.specs.Remaining.{spend}
use Rattle.language.specs.Decode.{statement_at}
use Rattle.language.specs.Meaning.{exec}
use Rattle.language.specs.Functions.{function_count}
use Rattle.language.specs.Program.{contents}
use Rattle.machine_operations.specs.Ready.{Setting}
use Rattle.machine_operations.specs.Rows.{context_in}
use Rattle.machine_executor.specs.Rows.{exec_at}
use Rattle.machine_flows.proofs.Answers.{ran-handed}
use Rattle.machine.proofs.Bounds.{list_written, functions-room, bounds-words}
use Rattle.machine.proofs.whole.start.Goals as goal

pub slice_bounds-fill_bounds-end-2 : goal.slice_bounds-fill_bounds-end-2
slice_bounds-fill_bounds-end-2 c = sym (length-take-le _ _ (let start = c.before.before in omega (arith, start.requires.room_is)))

pub fill_bounds-requires : goal.fill_bounds-requires
fill_bounds-requires c =
    (length-take-le _ _ (omega (arith, c.requires.room_is)), c.requires.small)

pub exec-requires : goal.exec-requires
exec-requires c =
    let bounds = c.fill_bounds.new.bounds in
    let functions = c.fill_functions.new.room in
    let n = length c.args.lengths.now + 1 in
    let words : n ≡ length bounds = sym (ap length c.fill_bounds.ensures ∙ bounds-words c.args.variables c.args.lengths.now) in
    let all : length functions ≡ function_count (contents c.args.rows.now) = c.fill_functions.auto.room ∙ functions-room bounds c.args.bounds.now n _ words c.requires.room_is in
    let written = list_written bounds functions (drop n c.args.bounds.now) n words ∙ ap (λ (b : List ℕ). b ++ functions) c.fill_bounds.ensures in
    record { setting = subst (λ (b : List ℕ). Setting c.args.rows.now b (length c.args.store.now)) (sym written) (c.requires.setting functions all c.fill_functions.ensures); below = c.requires.order.table.below }

pub returns : goal.returns
returns c =
    let bounds = c.fill_bounds.new.bounds in
    let functions = c.fill_functions.new.room in
    let n = length c.args.lengths.now + 1 in
    let words : n ≡ length bounds = sym (ap length c.fill_bounds.ensures ∙ bounds-words c.args.variables c.args.lengths.now) in
    let all : length functions ≡ function_count (contents c.args.rows.now) = c.fill_functions.auto.room ∙ functions-room bounds c.args.bounds.now n _ words c.requires.room_is in
    let written = list_written bounds functions (drop n c.args.bounds.now) n words ∙ ap (λ (b : List ℕ). b ++ functions) c.fill_bounds.ensures in
    ran-handed c.exec.result _ _ c.exec.type_inv ∙ c.exec.ensures
    ∙ ap (λ (b : List ℕ). spend (exec_at c.args.rows.now b 0) c.args.left.now c.args.store.now) written
    ∙ ap (λ (L : Layout). spend (exec (context_in L c.args.rows.now) (statement_at c.args.rows.now 0)) c.args.left.now c.args.store.now) (c.requires.layout_is functions all)
