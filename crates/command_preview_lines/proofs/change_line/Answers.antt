-- `change_line`: the place and a colon, both words, and a newline.
use mathlib.Core.Path.{◌≡◌, ap, ◌∙◌}
use mathlib.Core.List.{List, [], ◌∷◌, ◌++◌, append_assoc}
use Prim.Native.Nat.{ℕ, ◌+◌, ◌^◌, ◌≤◌, ◌<◌}
use native.Mathlib.Omega.{arith}
use lib.IntN.{ℤ}
use lib.Signed.{mag}
use lib.ListN.{length, set, length-set, length-append}
use mir.Syntax.{w32}
use mir.Val.{to_z, of_z}
use Rattle.words.specs.Laws.{back}
use Rattle.words.specs.OverLaws.{back_in}
use Rattle.text_numbers.specs.Number.{digits, number_bytes}
use Rattle.text_lines.specs.Line.{newline}
use Rattle.text_numbers.specs.Writer.{Put}
use Rattle.text_numbers.specs.PutLaws.{put_as, put_byte, number-eleven}
use Rattle.text_report.specs.Lines.{blank, spaced, line_of}
use Rattle.text_report.proofs.Spacing.{SoFar, far-below, far-length, far-inside, far-space, far-next, place-few}
use Rattle.command_preview_lines.specs.Changes.{colon, change_line}
use Rattle.command_preview_lines.proofs.change_line.Goals as goal
use Rattle.command_preview_lines.proofs.change_line.Goals.{After-slice_known-2-1, After-slice_known-3-1, After-slice_known-4-1}

change-is : (place : ℕ) (before after : ℤ) → (((digits place ++ (colon ∷ [])) ++ (blank ∷ number_bytes before)) ++ (blank ∷ number_bytes after)) ++ (newline ∷ []) ≡ change_line place before after
unfolding change_line line_of spaced
change-is place before after = simp append_assoc

-- a word as the code reads it, with its blank
word-put : (z : ℤ) → mag z < 2 ^ 31 → {buffer : List ℕ} {size : ℕ} {left : List ℕ} → Put (blank ∷ number_bytes (to_z w32 (of_z w32 z))) buffer size left → Put (blank ∷ number_bytes z) buffer size left
word-put z h p = put_as (ap (λ (y : ℤ). blank ∷ number_bytes y) (back z h)) p

word-few : (z : ℤ) → mag z < 2 ^ 31 → length (blank ∷ number_bytes z) ≤ 12
word-few z h = omega (arith, number-eleven z h)

pub put_digits-placed-requires : goal.put_digits-placed-requires
put_digits-placed-requires c = omega (arith, place-few c.args.place c.ranges.place.fits, c.requires)

-- the place
numbered : (c : After-slice_known-2-1) → SoFar 20 (digits c.args.place) c.args.text.now c.put_digits-placed.result c.put_digits-placed.new.text
numbered c =
    record { put = c.put_digits-placed.ensures; few = omega (arith, place-few c.args.place c.ranges.place.fits); room = omega (arith, c.requires) }

-- and the colon
placed : (c : After-slice_known-2-1) → SoFar 21 (digits c.args.place ++ (colon ∷ [])) c.args.text.now (c.put_digits-placed.result + 1) (set c.put_digits-placed.new.text c.put_digits-placed.result colon)
placed c =
    record {
      put = put_byte (numbered c).put colon (omega (arith, (numbered c).few, c.requires));
      few = omega (arith, length-append (digits c.args.place) (colon ∷ []), (numbered c).few);
      room = omega (arith, c.requires);
    }

pub bounds-text-placed : goal.bounds-text-placed
bounds-text-placed c = omega (arith, far-below (numbered c), far-length (numbered c), c.requires)

pub overflow_add-first : goal.overflow_add-first
overflow_add-first c = omega (arith, far-below (numbered c))

pub slice_bounds-put_word-count : goal.slice_bounds-put_word-count
slice_bounds-put_word-count c = far-inside (placed c)

pub slice_bounds-put_word-start : goal.slice_bounds-put_word-start
slice_bounds-put_word-start c = omega (arith, far-inside (placed c))

pub put_word-requires : goal.put_word-requires
put_word-requires c = far-space (placed (goal.at.put_word-requires c).After-slice_known-2-1) 12 (omega (arith, c.requires))

-- what the word holds
held : (c : After-slice_known-3-1) → SoFar 33 ((digits c.args.place ++ (colon ∷ [])) ++ (blank ∷ number_bytes c.args.before)) c.args.text.now (c.put_digits-placed.result + 1 + c.put_word.result) (back_in (c.put_digits-placed.result + 1) (set c.put_digits-placed.new.text c.put_digits-placed.result colon) c.put_word.new.text)
held c =
    let fits = c.ranges.before.sfits in
    far-next (placed (goal.at.After-slice_known-3-1 c).After-slice_known-2-1) (blank ∷ number_bytes c.args.before) 12 (word-few c.args.before fits) (omega (arith, c.requires)) _ _ (word-put c.args.before fits c.put_word.ensures)

pub overflow_add-second : goal.overflow_add-second
overflow_add-second c = omega (arith, far-below (held c))

pub slice_bounds-put_word-count-2 : goal.slice_bounds-put_word-count-2
slice_bounds-put_word-count-2 c = far-inside (held c)

pub slice_bounds-put_word-start-2 : goal.slice_bounds-put_word-start-2
slice_bounds-put_word-start-2 c = omega (arith, far-inside (held c))

pub put_word-requires-2 : goal.put_word-requires-2
put_word-requires-2 c = far-space (held (goal.at.put_word-requires-2 c).After-slice_known-3-1) 12 (omega (arith, c.requires))

-- where that ends, and the buffer then
abbrev end : After-slice_known-4-1 → ℕ
end c = c.put_digits-placed.result + 1 + c.put_word.result + c.put_word-2.result

abbrev filled : After-slice_known-4-1 → List ℕ
filled c = back_in (c.put_digits-placed.result + 1 + c.put_word.result) (back_in (c.put_digits-placed.result + 1) (set c.put_digits-placed.new.text c.put_digits-placed.result colon) c.put_word.new.text) c.put_word-2.new.text

-- what it would hold
both : (c : After-slice_known-4-1) → SoFar 45 (((digits c.args.place ++ (colon ∷ [])) ++ (blank ∷ number_bytes c.args.before)) ++ (blank ∷ number_bytes c.args.after)) c.args.text.now (end c) (filled c)
both c =
    let fits = c.ranges.after.sfits in
    far-next (held (goal.at.After-slice_known-4-1 c).After-slice_known-3-1) (blank ∷ number_bytes c.args.after) 12 (word-few c.args.after fits) (omega (arith, c.requires)) _ _ (word-put c.args.after fits c.put_word-2.ensures)

pub overflow_add-end : goal.overflow_add-end
overflow_add-end c = omega (arith, far-below (both c))

pub bounds-text-end : goal.bounds-text-end
bounds-text-end c = omega (arith, far-below (both c), far-length (both c), c.requires)

pub overflow_add-result : goal.overflow_add-result
overflow_add-result c = omega (arith, far-below (both c))

pub shape_of-text : goal.shape_of-text
shape_of-text c = length-set (filled c) (end c) 10 ∙ far-length (both c)

pub returns : goal.returns
returns c =
    record { put = put_as (change-is _ _ _) (put_byte (both c).put 10 (omega (arith, (both c).few, c.requires))); upper_bound = omega (arith, far-below (both c)) }
