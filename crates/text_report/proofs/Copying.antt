-- Bytes copied one by one to the start of a buffer: what was put grows by the next byte.
use mathlib.Core.Path.{◌≡◌, sym, ap, ◌∙◌}
use mathlib.Core.List.{List}
use Prim.Native.Nat.{ℕ, ◌+◌, ◌≤◌, ◌<◌}
use native.Mathlib.Omega.{arith}
use native.Mathlib.Numerals.{add-one}
use lib.ListN.{length, take, get_or, set}
use lib.Seq.{take-suc, take-length, length-take-le}
use Rattle.text_numbers.specs.Writer.{Put}
use Rattle.text_numbers.specs.PutLaws.{put-none, put_as, put-length, put_byte}

-- so many of the bytes were copied to the start of a buffer
pub record Copied (bytes : List ℕ) (i : ℕ) (buffer left : List ℕ) : Type 0 where
  pub inside : i ≤ length bytes
  pub room : length bytes ≤ length buffer
  pub put : Put (take i bytes) buffer i left

pub copied-start : (bytes buffer : List ℕ) → length bytes ≤ length buffer → Copied bytes 0 buffer buffer
copied-start bytes buffer h = record { inside = omega arith; room = h; put = put-none buffer }

module _ {bytes : List ℕ} {i : ℕ} {buffer left : List ℕ} (b : Copied bytes i buffer left) where
  copied-size : length (take i bytes) ≡ i
  copied-size = length-take-le i bytes b.inside

  pub copied-length : length left ≡ length buffer
  copied-length = put-length b.put (omega (arith, copied-size, b.inside, b.room))

  pub copied_next : i < length bytes → Copied bytes (i + 1) buffer (set left i (get_or bytes i 0))
  copied_next h = record {
    inside = omega arith;
    room = b.room;
    put = put_as (sym (ap (λ (n : ℕ). take n bytes) (add-one i) ∙ take-suc bytes i 0 h)) (put_byte b.put (get_or bytes i 0) (omega (arith, copied-size, b.room)));
  }

  pub copied-end : length bytes ≤ i → Put bytes buffer i left
  copied-end h = let e : i ≡ length bytes = omega (arith, b.inside) in put_as (ap (λ (n : ℕ). take n bytes) e ∙ take-length bytes) b.put
