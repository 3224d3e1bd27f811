-- `answer_case`: the parts of the case lie within the input.
use native.Mathlib.Omega.{arith}
use Rattle.programs.specs.Cases.{parts}
use borrow.Author.Rules.{rules}
use Rattle.programs.proofs.answer_case.Goals as goal

pub slice_bounds-answer_text-count : goal.slice_bounds-answer_text-count
slice_bounds-answer_text-count g c =
    let inside = parts _ c.find_case-found.ensures c.in-Some.is in
    omega (arith, inside.0, inside.1.0, inside.1.1)

pub slice_bounds-answer_text-start : goal.slice_bounds-answer_text-start
slice_bounds-answer_text-start g c =
    let inside = parts _ c.find_case-found.ensures c.in-Some.is in
    omega (arith, inside.0, inside.1.0, inside.1.1)

pub slice_bounds-answer_text-end : goal.slice_bounds-answer_text-end
slice_bounds-answer_text-end g c =
    let inside = parts _ c.find_case-found.ensures c.in-Some.is in
    omega (arith, inside.0, inside.1.0, inside.1.1)

pub overflow_add-line : goal.overflow_add-line
overflow_add-line g c =
    let inside = parts _ c.find_case-found.ensures c.in-Some.is in
    omega (arith, inside.0, inside.1.0, inside.1.1)

pub slice_bounds-answer_text-count-2 : goal.slice_bounds-answer_text-count-2
slice_bounds-answer_text-count-2 g c =
    let inside = parts _ c.find_case-found.ensures c.in-Some.is in
    omega (arith, inside.0, inside.1.0, inside.1.1)

pub slice_bounds-answer_text-start-2 : goal.slice_bounds-answer_text-start-2
slice_bounds-answer_text-start-2 g c =
    let inside = parts _ c.find_case-found.ensures c.in-Some.is in
    omega (arith, inside.0, inside.1.0, inside.1.1)

pub slice_bounds-answer_text-end-2 : goal.slice_bounds-answer_text-end-2
slice_bounds-answer_text-end-2 g c =
    let inside = parts _ c.find_case-found.ensures c.in-Some.is in
    omega (arith, inside.0, inside.1.0, inside.1.1)
