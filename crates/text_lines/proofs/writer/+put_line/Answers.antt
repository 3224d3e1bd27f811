-- `put_line` recurs on the numbers behind the first.
use native.Mathlib.Omega.{arith}
use Prim.Native.Nat.{ℕ, ◌<◌}
use lib.ListN.{length}
use Rattle.text_lines.proofs.Writing.{Begun, begun, begun-room, begun-below, begun-length, begun-set, begun-one, others-filled, others-fewer, others-room, others-back, begun_more, begun-total}
use Rattle.text_lines.proofs.writer.+put_line.Goals as goal
use Rattle.text_lines.proofs.writer.+put_line.Goals.{After-slice_known-2-1, Else-words-eq1}

-- the first number was put
first : (t : ℕ) (c : After-slice_known-2-1 t)
    → Begun c.args.words.now c.args.text.now c.put_number-end.result c.put_number-end.new.text
first t c = begun _ _ _ _ (record { sfits = c.put_number-arg-1.given }) c.requires.words_nonzero c.requires.words_in_bounds c.put_number-end.ensures

-- and there are others
more : (t : ℕ) (c : Else-words-eq1 t) → 1 < length c.args.words.now
more t c = omega (arith, c.requires.words_nonzero, c.if-words-eq1.false)

pub bounds-words-0 : goal.bounds-words-0
bounds-words-0 t c = c.requires.words_nonzero

pub put_number-end-requires : goal.put_number-end-requires
put_number-end-requires t c = begun-room _ c.args.text.now (record { sfits = c.put_number-arg-1.given }) c.requires.words_nonzero c.requires.words_in_bounds

pub overflow_add-next : goal.overflow_add-next
overflow_add-next t c = omega (arith, begun-below (first t (goal.at.overflow_add-next t c).After-slice_known-2-1))

pub bounds-text-end : goal.bounds-text-end
bounds-text-end t c = omega (arith, begun-below (first t (goal.at.bounds-text-end t c).After-slice_known-2-1), begun-length (first t (goal.at.bounds-text-end t c).After-slice_known-2-1))

pub shape_of-text-then-words-eq1 : goal.shape_of-text-then-words-eq1
shape_of-text-then-words-eq1 t c = begun-set (first t (goal.at.shape_of-text-then-words-eq1 t c).After-slice_known-2-1) 10

pub returns-then-words-eq1 : goal.returns-then-words-eq1
returns-then-words-eq1 t c = begun-one (first t (goal.at.returns-then-words-eq1 t c).After-slice_known-2-1) c.if-words-eq1.true

pub bounds-text-end-2 : goal.bounds-text-end-2
bounds-text-end-2 t c = omega (arith, begun-below (first t (goal.at.bounds-text-end-2 t c).After-slice_known-2-1), begun-length (first t (goal.at.bounds-text-end-2 t c).After-slice_known-2-1))

pub slice_bounds-put_line-count : goal.slice_bounds-put_line-count
slice_bounds-put_line-count t c = omega (arith, (first t (goal.at.slice_bounds-put_line-count t c).After-slice_known-2-1).filled)

pub slice_bounds-put_line-start : goal.slice_bounds-put_line-start
slice_bounds-put_line-start t c = omega (arith, (first t (goal.at.slice_bounds-put_line-start t c).After-slice_known-2-1).filled)

pub slice_bounds-put_line-count-2 : goal.slice_bounds-put_line-count-2
slice_bounds-put_line-count-2 t c = omega (arith, begun-below (first t (goal.at.slice_bounds-put_line-count-2 t c).After-slice_known-2-1), begun-set (first t (goal.at.slice_bounds-put_line-count-2 t c).After-slice_known-2-1) 9)

pub slice_bounds-put_line-start-2 : goal.slice_bounds-put_line-start-2
slice_bounds-put_line-start-2 t c = omega (arith, begun-below (first t (goal.at.slice_bounds-put_line-start-2 t c).After-slice_known-2-1), begun-set (first t (goal.at.slice_bounds-put_line-start-2 t c).After-slice_known-2-1) 9)

pub put_line-requires : goal.put_line-requires
put_line-requires t c = (omega (arith, others-fewer (first t (goal.at.put_line-requires t c).After-slice_known-2-1) (more t (goal.at.put_line-requires t c).Else-words-eq1), c.decreases), (others-filled (first t (goal.at.put_line-requires t c).After-slice_known-2-1) (more t (goal.at.put_line-requires t c).Else-words-eq1), others-room (first t (goal.at.put_line-requires t c).After-slice_known-2-1) (more t (goal.at.put_line-requires t c).Else-words-eq1)))

pub overflow_add-result : goal.overflow_add-result
overflow_add-result t c = omega (arith, begun-total (first t (goal.at.overflow_add-result t c).After-slice_known-2-1) (more t (goal.at.overflow_add-result t c).Else-words-eq1) _ _ c.put_line.ensures)

pub shape_of-text : goal.shape_of-text
shape_of-text t c = others-back (first t (goal.at.shape_of-text t c).After-slice_known-2-1) (more t (goal.at.shape_of-text t c).Else-words-eq1) c.put_line.new.text c.put_line.auto.text

pub returns : goal.returns
returns t c = begun_more (first t (goal.at.returns t c).After-slice_known-2-1) (more t (goal.at.returns t c).Else-words-eq1) _ _ c.put_line.ensures
