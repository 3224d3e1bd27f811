-- Laws of numbers: the bytes that are read as a number are those it is written with, and no others.
-- Digits are followed from the front: those behind digits of a number that is not 0 only lengthen its digits.
use Rattle.std.specs.Prelude.{◌≡◌, refl, true, false, List, [], ◌∷◌, ◌++◌, ℕ, zero, suc, ◌+◌, ◌*◌, ◌-◌, ◌/◌, ◌%◌, ◌^◌, ◌≤◌, ◌<◌, ltb, leb, eqb, ℤ, pos, negsuc, length, get_or, None, Option, Some}
use Rattle.std.proofs.Common.{sym, ap, ◌∙◌, append_assoc, append-nil, arith, length-append, ltb-true, ltb-false, lt-ltb, le-ltb, le-leb, leb-true, ne_eqb, eqb-true}
use Rattle.std.specs.Int.Signed.{mag}
use Rattle.std.proofs.lemmas.Bool.{eqb-false}
use Rattle.words.specs.Word.{is_word}
use Rattle.words.specs.Laws.{by_cases}
use Rattle.text_numbers.specs.Number.{digits_within, digits, number_bytes, is_digit, decimal, natural_of, word, positive, negative, number_of}

pub not_some : {A G : Type 0} {a : A} → None ≡ Some a → G
not_some {a = a} e = absurd (let z : ◌≡◌ {A = ℕ} 0 1 = cc in omega arith)

-- ---- digits

within-enough : (j k n : ℕ) → n ≤ j → n ≤ k → digits_within j n ≡ digits_within k n
unfolding digits_within
within-enough zero zero n h l = refl
within-enough zero (suc k) n h l = let e : ltb n 10 ≡ true = lt-ltb n 10 (omega arith) in rw e
within-enough (suc j) zero n h l = let e : ltb n 10 ≡ true = lt-ltb n 10 (omega arith) in rw e
within-enough (suc j) (suc k) n h l =
    by_cases (ltb n 10) (λ e. rw e)
    (λ e. let b : 10 ≤ n = ltb-false n 10 e in rw (e, within-enough j k (n / 10) (omega arith) (omega arith)))

pub digits-one : (n : ℕ) → n < 10 → digits n ≡ (48 + n) ∷ []
unfolding digits digits_within
digits-one zero h = refl
digits-one (suc n) h = rw (lt-ltb (suc n) 10 h)

pub digits_more : (n : ℕ) → 10 ≤ n → digits n ≡ digits (n / 10) ++ ((48 + n % 10) ∷ [])
unfolding digits digits_within
digits_more zero h = absurd (omega arith)
digits_more (suc n) h =
    rw (le-ltb (suc n) 10 h, within-enough n (suc n / 10) (suc n / 10) (omega arith) (omega arith))

-- a digit behind a number that is not 0
digits-next : (n d : ℕ) → 0 < n → d < 10 → digits (10 * n + d) ≡ digits n ++ ((48 + d) ∷ [])
digits-next n d h l =
    let q : (10 * n + d) / 10 ≡ n = omega arith in
    let r : (10 * n + d) % 10 ≡ d = omega arith in
    rw (digits_more (10 * n + d) (omega arith), q, r)

pub length-one : (n : ℕ) → n < 10 → length (digits n) ≡ 1
length-one n h = ap length (digits-one n h)

pub length_more : (n : ℕ) → 10 ≤ n → length (digits n) ≡ length (digits (n / 10)) + 1
length_more n h = ap length (digits_more n h) ∙ length-append (digits (n / 10)) _

-- the first byte of a number's digits
head-within : (k n : ℕ) (rest : List ℕ) → 0 < n → n ≤ k → 49 ≤ get_or (digits_within k n ++ rest) 0 0
unfolding digits_within
head-within zero n rest h l = omega arith
head-within (suc k) n rest h l =
    by_cases (ltb n 10) (λ e. rw e (omega arith))
    (λ e. let b : 10 ≤ n = ltb-false n 10 e in rw (e, append_assoc) (head-within k (n / 10) _ (omega arith) (omega arith)))

head-digits : (n : ℕ) → 0 < n → 49 ≤ get_or (digits n) 0 0
unfolding digits
head-digits n h = rw append-nil at (head-within n n [] h (omega arith))

-- ---- bytes that a text's separators are not

-- a separator does not stand among these bytes
unfoldable pub Free : ℕ → List ℕ → Type 0
Free separator [] = Unit
Free separator (byte ∷ bytes) = (byte ≡ separator → ⊥) × Free separator bytes

pub free-append : (separator : ℕ) (xs ys : List ℕ) → Free separator xs → Free separator ys → Free separator (xs ++ ys)
unfolding Free
free-append separator [] ys f g = g
free-append separator (x ∷ xs) ys f g = (f.0, free-append separator xs ys f.1 g)

free-within : (separator k n : ℕ) → separator < 48 → Free separator (digits_within k n)
unfolding digits_within Free
free-within separator zero n h = (λ e. omega arith, tt)
free-within separator (suc k) n h =
    by_cases (ltb n 10) (λ e. rw e (λ e. omega arith, tt))
    (λ e. rw e (free-append separator (digits_within k (n / 10)) _ (free-within separator k (n / 10) h) (λ e. omega arith, tt)))

pub number-free : (separator : ℕ) (z : ℤ) → separator < 45 → Free separator (number_bytes z)
unfolding number_bytes digits Free
number-free separator (pos n) h = free-within separator n n (omega arith)
number-free separator (negsuc n) h = (λ e. omega arith, free-within separator (suc n) (suc n) (omega arith))

-- ---- what was written is read

pub digit-is : (d : ℕ) → d < 10 → is_digit (48 + d) ≡ true
unfolding is_digit
digit-is d h = rw (le-leb 48 (48 + d) (omega arith), le-leb (48 + d) 57 (omega arith))

pub digit-range : (byte : ℕ) → is_digit byte ≡ true → (48 ≤ byte) × (byte ≤ 57)
unfolding is_digit
digit-range byte h =
    by_cases (leb 48 byte)
    (λ e. (leb-true 48 byte e, leb-true byte 57 (rw e at h)))
    (λ e. absurd (let k : false ≡ true = rw e at h in let z : ◌≡◌ {A = ℕ} 0 1 = cc in omega arith))

pub decimal_digit : (value byte : ℕ) (bytes : List ℕ) → is_digit byte ≡ true → decimal value (byte ∷ bytes) ≡ decimal (10 * value + (byte - 48)) bytes
unfolding decimal
decimal_digit value byte bytes h = rw h

pub decimal-other : (value byte : ℕ) (bytes : List ℕ) → is_digit byte ≡ false → decimal value (byte ∷ bytes) ≡ None
unfolding decimal
decimal-other value byte bytes h = rw h

decimal-shows : (value d : ℕ) (rest : List ℕ) → d < 10 → decimal value ((48 + d) ∷ rest) ≡ decimal (10 * value + d) rest
decimal-shows value d rest h =
    let e : 48 + d - 48 ≡ d = omega arith in
    decimal_digit value (48 + d) rest (digit-is d h) ∙ rw e

within-shows : (k n : ℕ) (rest : List ℕ) → n ≤ k → decimal 0 (digits_within k n ++ rest) ≡ decimal n rest
unfolding digits_within
within-shows zero n rest h = decimal-shows 0 n rest (omega arith) ∙ ap (λ (v : ℕ). decimal v rest) (omega arith)
within-shows (suc k) n rest h =
    by_cases (ltb n 10)
    (λ e. rw e (decimal-shows 0 n rest (ltb-true n 10 e) ∙ ap (λ (v : ℕ). decimal v rest) (omega arith)))
    (λ e.
    let b : 10 ≤ n = ltb-false n 10 e in
    rw (e, append_assoc) (within-shows k (n / 10) ((48 + n % 10) ∷ rest) (omega arith)
    ∙ decimal-shows (n / 10) (n % 10) rest (omega arith)
    ∙ ap (λ (v : ℕ). decimal v rest) (omega arith)))

digits-shows : (n : ℕ) → decimal 0 (digits n) ≡ Some n
unfolding digits decimal
digits-shows n = rw append-nil at (within-shows n n [] (omega arith))

-- a first digit that is not 0
pub natural-is : (bytes : List ℕ) → 0 < length bytes → (get_or bytes 0 0 ≡ 48 → ⊥) → natural_of bytes ≡ decimal 0 bytes
unfolding natural_of
natural-is [] h f = absurd (omega arith)
natural-is (byte ∷ []) h f = refl
natural-is (byte ∷ (next ∷ bytes)) h f = rw (ne_eqb byte 48 f)

pub length_some : (n : ℕ) → 1 ≤ length (digits n)
length_some n =
    by_cases (ltb n 10) (λ e. omega (arith, length-one n (ltb-true n 10 e)))
    (λ e. omega (arith, length_more n (ltb-false n 10 e)))

natural-zero : natural_of (digits 0) ≡ Some 0
unfolding natural_of digits digits_within decimal is_digit
natural-zero = refl

pub natural-shows : (n : ℕ) → natural_of (digits n) ≡ Some n
natural-shows zero = natural-zero
natural-shows (suc n) = natural-is (digits (suc n)) (omega (arith, length_some (suc n))) (λ e. omega (arith, head-digits (suc n) (omega arith))) ∙ digits-shows (suc n)

pub word-is : (z : ℤ) → mag z < 2 ^ 31 → word z ≡ Some z
unfolding word is_word
word-is z h = rw (lt-ltb (mag z) (2 ^ 31) h)

number-plain : (bytes : List ℕ) → 0 < length bytes → (get_or bytes 0 0 ≡ 45 → ⊥) → number_of bytes ≡ positive (natural_of bytes)
unfolding number_of
number-plain [] h f = absurd (omega arith)
number-plain (byte ∷ bytes) h f = rw (ne_eqb byte 45 f)

number-minus : (bytes : List ℕ) → number_of (45 ∷ bytes) ≡ negative (natural_of bytes)
unfolding number_of
number-minus bytes = refl

head-shown : (n : ℕ) → 48 ≤ get_or (digits n) 0 0
head-shown zero = rw (digits-one 0 (omega arith)) (omega arith)
head-shown (suc n) = omega (arith, head-digits (suc n) (omega arith))

-- a number that was written is read back
pub number-shows : (z : ℤ) → mag z < 2 ^ 31 → number_of (number_bytes z) ≡ Some z
unfolding number_bytes positive negative
number-shows (pos n) h =
    number-plain (digits n) (omega (arith, length_some n)) (λ e. omega (arith, head-shown n))
    ∙ ap positive (natural-shows n) ∙ word-is (pos n) h
number-shows (negsuc n) h = number-minus (digits (suc n)) ∙ ap negative (natural-shows (suc n)) ∙ word-is (negsuc n) h

-- ---- what was read is written alike

-- digits behind those of a number that is not 0
decimal-reads : (bytes front : List ℕ) (value n : ℕ) → front ≡ digits value → 0 < value → decimal value bytes ≡ Some n → front ++ bytes ≡ digits n
unfolding decimal
decimal-reads [] front value n e h d = let same : value ≡ n = cc in append-nil front ∙ e ∙ ap digits same
decimal-reads (byte ∷ bytes) front value n e h d =
    by_cases (is_digit byte)
    (λ t.
    let r = digit-range byte t in
    let b : 48 + (byte - 48) ≡ byte = omega arith in
    let more : front ++ (byte ∷ []) ≡ digits (10 * value + (byte - 48)) = sym (digits-next value (byte - 48) h (omega arith) ∙ rw (b, e)) in
    sym (append_assoc front (byte ∷ []) bytes)
    ∙ decimal-reads bytes (front ++ (byte ∷ [])) (10 * value + (byte - 48)) n more (omega arith) (rw t at d))
    (λ t. not_some (rw t at d))

one-reads : (byte n : ℕ) → decimal 0 (byte ∷ []) ≡ Some n → byte ∷ [] ≡ digits n
unfolding decimal
one-reads byte n d =
    by_cases (is_digit byte)
    (λ t.
    let r = digit-range byte t in
    let f : Some (10 * 0 + (byte - 48)) ≡ Some n = rw t at d in
    let v : 10 * 0 + (byte - 48) ≡ n = cc in
    let b : 48 + n ≡ byte = omega arith in
    rw (digits-one n (omega arith), b))
    (λ t. not_some (rw t at d))

more-reads : (first : ℕ) (others : List ℕ) (n : ℕ) → (first ≡ 48 → ⊥) → decimal 0 (first ∷ others) ≡ Some n → first ∷ others ≡ digits n
unfolding decimal
more-reads first others n f d =
    by_cases (is_digit first)
    (λ t.
    let r = digit-range first t in
    let b : 48 + (10 * 0 + (first - 48)) ≡ first = omega arith in
    decimal-reads others (first ∷ []) (10 * 0 + (first - 48)) n (sym (digits-one _ (omega arith) ∙ rw b)) (omega arith) (rw t at d))
    (λ t. not_some (rw t at d))

natural-reads : (bytes : List ℕ) (n : ℕ) → natural_of bytes ≡ Some n → bytes ≡ digits n
unfolding natural_of
natural-reads [] n d = not_some d
natural-reads (byte ∷ []) n d = one-reads byte n d
natural-reads (first ∷ (second ∷ others)) n d =
    by_cases (eqb first 48)
    (λ t. not_some (rw t at d))
    (λ t. more-reads first (second ∷ others) n (eqb-false first 48 t) (rw t at d))

-- what bytes that are a number are
pub record IsNumber (bytes : List ℕ) (z : ℤ) : Type 0 where
  pub written : bytes ≡ number_bytes z
  pub fits : mag z < 2 ^ 31

word-reads : (y z : ℤ) → word y ≡ Some z → (y ≡ z) × (mag z < 2 ^ 31)
unfolding word is_word
word-reads y z d =
    by_cases (ltb (mag y) (2 ^ 31))
    (λ t. let f : Some y ≡ Some z = rw t at d in let same : y ≡ z = cc in (same, rw (← same) (ltb-true _ _ t)))
    (λ t. not_some (rw t at d))

positive-reads : (bytes : List ℕ) (value : Option ℕ) (z : ℤ) → natural_of bytes ≡ value → positive value ≡ Some z → IsNumber bytes z
unfolding positive number_bytes
positive-reads bytes None z e d = not_some d
positive-reads bytes (Some n) z e d =
    let w = word-reads (pos n) z d in
    record { written = natural-reads bytes n e ∙ ap number_bytes w.0; fits = w.1 }

negative-reads : (bytes : List ℕ) (value : Option ℕ) (z : ℤ) → natural_of bytes ≡ value → negative value ≡ Some z → IsNumber (45 ∷ bytes) z
unfolding negative number_bytes
negative-reads bytes None z e d = not_some d
negative-reads bytes (Some zero) z e d = not_some d
negative-reads bytes (Some (suc n)) z e d =
    let w = word-reads (negsuc n) z d in
    record { written = ap (λ (l : List ℕ). 45 ∷ l) (natural-reads bytes (suc n) e) ∙ ap number_bytes w.0; fits = w.1 }

-- a number that was read is written alike
pub number-reads : (bytes : List ℕ) (z : ℤ) → number_of bytes ≡ Some z → IsNumber bytes z
unfolding number_of
number-reads [] z d = not_some d
number-reads (byte ∷ bytes) z d =
    by_cases (eqb byte 45)
    (λ t. rw (eqb-true byte 45 t) (negative-reads bytes (natural_of bytes) z refl (rw t at d)))
    (λ t. positive-reads (byte ∷ bytes) (natural_of (byte ∷ bytes)) z refl (rw t at d))
