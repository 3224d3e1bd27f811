-- Laws of bytes laid one after the other.
use Rattle.std.specs.Prelude.{◌≡◌, ℕ, ◌+◌, ◌-◌, ◌≤◌, ◌<◌, set}
use Rattle.std.proofs.Math.Path.{sym, ap}
use Rattle.std.proofs.Common.{◌∙◌, arith, length-drop, take-append-drop, length-take-le, take_at}
use mathlib.Core.List.{List, [], ◌∷◌, ◌++◌, append_assoc, append-nil}
use Rattle.std.proofs.Math.ListN.{length, take, drop, length-append}
use Rattle.std.proofs.Math.Seq.{drop_at, drop-drop}
use borrow.Rule.Slice.PartMut.{same_len_mid}
use Rattle.words.specs.Over.{over}
use Rattle.words.specs.OverLaws.{part, back_in, part-is, length_over, over-set, over-next}
use Rattle.text_numbers.specs.Writer.{Put}
use Rattle.page_line.specs.Laid.{Laid}

-- the first `at` bytes, and those laid behind them
head-length : (bytes buffer : List ℕ) (at : ℕ) → at ≤ length buffer → length (take at buffer ++ bytes) ≡ at + length bytes
head-length bytes buffer at h = omega (arith, length-append (take at buffer) bytes, length-take-le at buffer h)

-- a buffer is what it was over its own first bytes
over-own : (buffer : List ℕ) (at : ℕ) → at ≤ length buffer → buffer ≡ over (take at buffer) buffer
unfolding over
over-own buffer at h = sym (ap (λ (n : ℕ). take at buffer ++ drop n buffer) (length-take-le at buffer h) ∙ take-append-drop at buffer)

pub laid_none : (buffer : List ℕ) (at : ℕ) → at ≤ length buffer → Laid [] buffer at at buffer
laid_none buffer at h = record { room = omega arith; reached = omega arith; written = over-own buffer at h ∙ ap (λ (l : List ℕ). over l buffer) (sym (append-nil (take at buffer))) }

-- what `put` laid into the part from `at` on
pub laid-put : (bytes buffer lent : List ℕ) (at count : ℕ) → at + length bytes ≤ length buffer → Put bytes (part at buffer) count lent → Laid bytes buffer at (at + count) (back_in at buffer lent)
laid-put bytes buffer lent at count h p = record {
  room = h;
  reached = ap (λ (n : ℕ). at + n) p.size;
  written = over-next (take at buffer) bytes buffer buffer lent at (sym (length-take-le at buffer (omega arith))) (over-own buffer at (omega arith)) p.written;
}

-- the part from `at` on has room, and is given back
pub part_room : (buffer : List ℕ) (at more : ℕ) → at + more ≤ length buffer → more ≤ length (part at buffer)
part_room buffer at more h = rw (part-is at buffer, length-drop) (omega arith)

pub part-back : (buffer lent : List ℕ) (at : ℕ) → length lent ≡ length (part at buffer) → length (back_in at buffer lent) ≡ length buffer
part-back buffer lent at e = same_len_mid at (length buffer - at) buffer lent e

module _ {bytes buffer : List ℕ} {at next : ℕ} {left : List ℕ} (p : Laid bytes buffer at next left) where
  abbrev head : List ℕ
  head = take at buffer ++ bytes

  long : length head ≡ next
  long = omega (arith, head-length bytes buffer at (omega (arith, p.room)), p.reached)

  pub laid-length : length left ≡ length buffer
  laid-length = length_over head buffer left p.written (omega (arith, long, p.reached, p.room))

  -- a byte more
  pub laid-byte : (byte : ℕ) → next < length buffer → Laid (bytes ++ (byte ∷ [])) buffer at (next + 1) (set left next byte)
  laid-byte byte h = record {
    room = omega (arith, p.reached, length-append bytes (byte ∷ []));
    reached = omega (arith, p.reached, length-append bytes (byte ∷ []));
    written = over-set head buffer left next byte p.written (sym long) (omega (arith, long)) ∙ ap (λ (l : List ℕ). over l buffer) (append_assoc (take at buffer) bytes (byte ∷ []));
  }

  -- others behind
  pub laid_next : {others last : List ℕ} {end : ℕ} → Laid others left next end last → Laid (bytes ++ others) buffer at end last
  unfolding over
  laid_next {others} {last} {end} q =
      let t : take next left ≡ head = rw p.written (take_at head (drop (length head) buffer) next long) in
      let d : drop (next + length others) left ≡ drop (next + length others) buffer =
      sym (drop-drop (length others) next left) ∙ ap (drop (length others)) (ap (drop next) p.written ∙ drop_at head (drop (length head) buffer) next long ∙ ap (λ (n : ℕ). drop n buffer) long)
      ∙ drop-drop (length others) next buffer in
      let w : last ≡ (take next left ++ others) ++ drop (next + length others) left =
      q.written ∙ ap (λ (n : ℕ). (take next left ++ others) ++ drop n left) (head-length others left next (omega (arith, q.room))) in
      let n : length (take at buffer ++ (bytes ++ others)) ≡ next + length others =
      omega (arith, head-length (bytes ++ others) buffer at (omega (arith, p.room)), length-append bytes others, p.reached) in
      record {
        room = omega (arith, q.room, laid-length, p.reached, length-append bytes others);
        reached = omega (arith, q.reached, p.reached, length-append bytes others);
        written = w ∙ rw (t, d, n, append_assoc (take at buffer) bytes others);
      }

  -- the room behind
  pub laid-behind : (others : List ℕ) → at + length (bytes ++ others) ≤ length buffer → next + length others ≤ length left
  laid-behind others h = omega (arith, laid-length, p.reached, length-append bytes others)

-- room for some has room for the first of them
pub room-first : (bytes others : List ℕ) (at size : ℕ) → at + length (bytes ++ others) ≤ size → at + length bytes ≤ size
room-first bytes others at size h = omega (arith, length-append bytes others)

-- the same bytes, named otherwise
pub laid_as : {bytes others buffer : List ℕ} {at next : ℕ} {left : List ℕ} → bytes ≡ others → Laid bytes buffer at next left → Laid others buffer at next left
laid_as {buffer = buffer} {at = at} e p = record {
  room = rw e at p.room;
  reached = p.reached ∙ ap (λ (l : List ℕ). at + length l) e;
  written = p.written ∙ ap (λ (l : List ℕ). over (take at buffer ++ l) buffer) e;
}

pub laid-to : {bytes buffer : List ℕ} {at next other : ℕ} {left : List ℕ} → next ≡ other → Laid bytes buffer at next left → Laid bytes buffer at other left
laid-to e p = record { room = p.room; reached = sym e ∙ p.reached; written = p.written }

-- the bytes of one thing are those of another that it equals
pub laid_of : {A : Type 0} (bytes : A → List ℕ) {x y : A} {buffer : List ℕ} {at next : ℕ} {left : List ℕ} → x ≡ y → Laid (bytes y) buffer at next left → Laid (bytes x) buffer at next left
laid_of bytes e p = laid_as (ap bytes (sym e)) p

-- nothing to lay
pub laid-nothing : (bytes buffer : List ℕ) (at : ℕ) → bytes ≡ [] → at + length bytes ≤ length buffer → Laid bytes buffer at at buffer
laid-nothing bytes buffer at e h = laid_as (sym e) (laid_none buffer at (omega arith))
