-- PutLaws: bytes put one after the other at the start of a buffer: a byte more, a part behind, digits.
use Rattle.std.specs.Prelude.{◌≡◌, refl, List, [], ◌∷◌, ◌++◌, ℕ, zero, suc, ◌+◌, ◌-◌, ◌/◌, ◌^◌, ◌≤◌, ◌<◌, ltb, ℤ, pos, negsuc, length, set}
use Rattle.std.proofs.Common.{sym, ap, ◌∙◌, pow-suc, arith, length-append, length-drop, ltb-true, ltb-false}
use Rattle.std.specs.Int.Signed.{mag}
use borrow.Rule.Slice.PartMut.{same_len_mid}
use Rattle.text_numbers.specs.Number.{digits, number_bytes}
use Rattle.words.specs.Over.{over}
use Rattle.words.specs.Laws.{by_cases}
use Rattle.text_numbers.specs.NumberLaws.{digits-one, length-one, length_more}
use Rattle.text_numbers.specs.Writer.{Put}
use Rattle.words.specs.OverLaws.{part, back_in, part-is, length_over, over-fits, over_none, over-set, over-next}

pub put-none : (buffer : List ℕ) → Put [] buffer 0 buffer
put-none buffer = record { size = refl; written = over_none buffer }

module _ {bytes buffer : List ℕ} {count : ℕ} {left : List ℕ} (p : Put bytes buffer count left) where
  pub put-length : length bytes ≤ length buffer → length left ≡ length buffer
  put-length h = length_over bytes buffer left p.written h

  pub put-fits : length left ≡ length buffer → length bytes ≤ length buffer
  put-fits e = over-fits bytes buffer (sym (ap length p.written) ∙ e)

  pub put_byte : (byte : ℕ) → length bytes < length buffer → Put (bytes ++ (byte ∷ [])) buffer (count + 1) (set left count byte)
  put_byte byte h = record {
    size = omega (arith, p.size, length-append bytes (byte ∷ []));
    written = over-set bytes buffer left count byte p.written p.size h;
  }

  pub put_next : (others : List ℕ) (more : ℕ) (lent : List ℕ) → Put others (part count left) more lent → Put (bytes ++ others) buffer (count + more) (back_in count left lent)
  put_next others more lent q = record {
    size = omega (arith, p.size, q.size, length-append bytes others);
    written = over-next bytes others buffer left lent count p.size p.written q.written;
  }

  -- there is room behind, for so many bytes and for others
  pub put-space : (more : ℕ) → length bytes + more ≤ length buffer → more ≤ length (part count left)
  put-space more h = rw (part-is count left, length-drop) (omega (arith, put-length (omega arith), p.size))

  pub put-room : (others : List ℕ) → length (bytes ++ others) ≤ length buffer → length others ≤ length (part count left)
  put-room others h = put-space (length others) (rw length-append at h)

  pub put-inside : length bytes ≤ length buffer → count ≤ length left
  put-inside h = omega (arith, p.size, put-length h)

  -- the buffer when the part behind is back
  pub put_back : (lent : List ℕ) → length bytes ≤ length buffer → length lent ≡ length (part count left) → length (back_in count left lent) ≡ length buffer
  put_back lent h e = same_len_mid count (length left - count) left lent e ∙ put-length h

-- the same bytes, named otherwise
pub put_as : {bytes others buffer : List ℕ} {count : ℕ} {left : List ℕ} → bytes ≡ others → Put bytes buffer count left → Put others buffer count left
put_as {buffer = buffer} e p = record { size = p.size ∙ ap length e; written = p.written ∙ ap (λ (l : List ℕ). over l buffer) e }

-- ---- digits

pub put_one : (n : ℕ) (buffer : List ℕ) → n < 10 → length (digits n) ≤ length buffer → Put (digits n) buffer 1 (set buffer 0 (48 + n))
put_one n buffer h room = put_as (sym (digits-one n h)) (put_byte (put-none buffer) (48 + n) (omega (arith, length-one n h)))

-- a number below 10 ^ (k + 1) has at most k + 1 digits
pub digits-within : (k n : ℕ) → n < 10 ^ suc k → length (digits n) ≤ suc k
digits-within zero n h = omega (arith, length-one n h)
digits-within (suc k) n h =
    by_cases (ltb n 10)
    (λ t. omega (arith, length-one n (ltb-true n 10 t)))
    (λ t. omega (arith, length_more n (ltb-false n 10 t), digits-within k (n / 10) (omega (arith, pow-suc 10 (suc k)))))

-- a word's size has at most ten digits
pub digits-ten : (n : ℕ) → n ≤ 2147483648 → length (digits n) ≤ 10
digits-ten n h = digits-within 9 n (omega arith)

-- a word takes at most eleven bytes
pub number-eleven : (z : ℤ) → mag z < 2 ^ 31 → length (number_bytes z) ≤ 11
unfolding number_bytes
number-eleven (pos n) h = omega (arith, digits-ten n (omega arith))
number-eleven (negsuc n) h = omega (arith, digits-ten (suc n) (omega arith))

-- ---- a byte, and others behind it

pub record LedRoom (byte : ℕ) (others buffer : List ℕ) : Type 0 where
  pub room : length (byte ∷ others) ≤ length buffer

module _ {byte : ℕ} {others buffer : List ℕ} (r : LedRoom byte others buffer) where
  lead : Put (byte ∷ []) buffer 1 (set buffer 0 byte)
  lead = put_byte (put-none buffer) byte (omega (arith, r.room))

  pub led-room : length others ≤ length (part 1 (set buffer 0 byte))
  led-room = put-room lead others r.room

  pub led-back : (lent : List ℕ) → length lent ≡ length (part 1 (set buffer 0 byte)) → length (back_in 1 (set buffer 0 byte) lent) ≡ length buffer
  led-back lent e = put_back lead lent (omega (arith, r.room)) e

  pub led-put : (count : ℕ) (lent : List ℕ) → Put others (part 1 (set buffer 0 byte)) count lent → Put (byte ∷ others) buffer (count + 1) (back_in 1 (set buffer 0 byte) lent)
  led-put count lent p =
      let whole = put_next lead others count lent p in
      let e : 1 + count ≡ count + 1 = omega arith in
      rw (← e) whole
