-- `inputs_answer`: what cannot be read, then the answer for the bytes that were read.
use mathlib.Core.Path.{◌≡◌, sym, ap₂, ◌∙◌}
use mathlib.Core.List.{List}
use Prim.Native.Nat.{ℕ, ◌≤◌}
use native.Mathlib.Omega.{arith}
use lib.ListN.{length, take}
use lib.Seq.{length-take-le}
use Rattle.text_numbers.specs.PutLaws.{put_as}
use Rattle.command_answer.specs.Output.{command_output}
use Rattle.command_request.specs.Inputs.{bytes_read}
use Rattle.command_request.specs.declared.Input.{Input}
use Rattle.command_answer.specs.Inputs.{inputs_output}
use borrow.Author.Rules.{rules}
use Rattle.command_answer.proofs.answer.inputs_answer.Goals as goal

-- the bytes that were read, at the start of a buffer
counted : (input : Input) (n : ℕ) (bytes : List ℕ) → n ≡ bytes_read input → bytes_read input ≤ length bytes → n ≡ length (take n bytes)
counted input n bytes e h = sym (length-take-le n bytes (omega (arith, e, h)))

pub returns-then-is_unreadable : goal.returns-then-is_unreadable
unfolding inputs_output
returns-then-is_unreadable c = rw (sym c.is_unreadable.ensures ∙ c.if-is_unreadable.true) c.unreadable_text_line.ensures

pub returns-then-is_unreadable-2 : goal.returns-then-is_unreadable-2
unfolding inputs_output
returns-then-is_unreadable-2 c = rw (sym c.is_unreadable.ensures ∙ c.if-is_unreadable.false, sym c.is_unreadable-2.ensures ∙ c.if-is_unreadable-2.true) c.unreadable_store_line.ensures

pub slice_bounds-answer-end : goal.slice_bounds-answer-end
slice_bounds-answer-end c = counted c.args.text_input c.bytes_read-text_bytes.result c.args.text.now c.bytes_read-text_bytes.ensures c.requires.text_input_in_bounds.0

pub slice_bounds-answer-end-2 : goal.slice_bounds-answer-end-2
slice_bounds-answer-end-2 c = counted c.args.store_input c.bytes_read-store_bytes.result c.args.stored.now c.bytes_read-store_bytes.ensures c.requires.text_input_in_bounds.1

pub returns : goal.returns
unfolding inputs_output
returns c =
    rw (sym c.is_unreadable.ensures ∙ c.if-is_unreadable.false, sym c.is_unreadable-2.ensures ∙ c.if-is_unreadable-2.false)
    (put_as (ap₂ (λ (n m : ℕ). command_output c.args.request (take n c.args.text.now) (take m c.args.stored.now)) c.bytes_read-text_bytes.ensures c.bytes_read-store_bytes.ensures) c.answer.ensures)
