-- Numbers: how one is written, and which bytes are one. "Decimal, no plus, no leading zero, no −0."
use Rattle.std.specs.Prelude.{Bool, true, false, ◌&&◌, List, [], ◌∷◌, ◌++◌, ℕ, zero, suc, ◌+◌, ◌*◌, ◌-◌, ◌/◌, ◌%◌, ltb, leb, eqb, ℤ, pos, negsuc, None, Option, Some}
use Rattle.words.specs.Word.{is_word, pick}

-- The bytes '0' and '-'.
abbrev pub zero_digit : ℕ
zero_digit = 48

abbrev pub minus_sign : ℕ
minus_sign = 45

-- ---- writing

-- The one list when the test is true, else the other, which is worked out only then.
abbrev pub or_else : Bool → List ℕ → (Unit {0} → List ℕ) → List ℕ
or_else true bytes others = bytes
or_else false bytes others = others tt

-- The decimal digits of n, the most significant first. `most` is at least n, and only shows that the recursion ends.
unfoldable pub digits_within : ℕ → ℕ → List ℕ
digits_within zero n = (zero_digit + n) ∷ []
digits_within (suc most) n =
    or_else (ltb n 10) ((zero_digit + n) ∷ []) (λ _. digits_within most (n / 10) ++ ((zero_digit + n % 10) ∷ []))

unfoldable pub digits : ℕ → List ℕ
digits n = digits_within n n

-- The bytes of a number.
unfoldable pub number_bytes : ℤ → List ℕ
number_bytes (pos n) = digits n
number_bytes (negsuc n) = minus_sign ∷ digits (suc n)

-- ---- reading

-- A byte '0' to '9'.
unfoldable pub is_digit : ℕ → Bool
is_digit byte = leb zero_digit byte && leb byte (zero_digit + 9)

-- The value of digits that stand behind others, whose value is given; none where a byte is no digit.
unfoldable pub decimal : ℕ → List ℕ → Option ℕ
decimal value [] = Some value
decimal value (byte ∷ bytes) = pick (is_digit byte) (decimal (10 * value + (byte - zero_digit)) bytes) None

-- At least one digit; "no leading zero": a first digit 0 stands alone.
unfoldable pub natural_of : List ℕ → Option ℕ
natural_of [] = None
natural_of (byte ∷ []) = decimal 0 (byte ∷ [])
natural_of (first ∷ (second ∷ others)) = pick (eqb first zero_digit) None (decimal 0 (first ∷ (second ∷ others)))

-- "A number outside 32 signed bits .. is malformed."
unfoldable pub word : ℤ → Option ℤ
word z = pick (is_word z) (Some z) None

unfoldable pub positive : Option ℕ → Option ℤ
positive None = None
positive (Some n) = word (pos n)

-- "No −0".
unfoldable pub negative : Option ℕ → Option ℤ
negative None = None
negative (Some zero) = None
negative (Some (suc n)) = word (negsuc n)

-- The number that bytes are; none where they are malformed.
unfoldable pub number_of : List ℕ → Option ℤ
number_of [] = None
number_of (first ∷ others) = pick (eqb first minus_sign) (negative (natural_of others)) (positive (natural_of (first ∷ others)))
