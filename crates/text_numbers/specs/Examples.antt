-- Examples: bytes that are numbers and bytes that are not.
use Rattle.std.specs.Prelude.{◌≡◌, refl, [], ◌∷◌, pos, negsuc, None, Some}
use Rattle.words.specs.Word.{is_word}
use Rattle.text_numbers.specs.Number.{is_digit, decimal, natural_of, word, positive, negative, number_of}

-- −0
minus-zero : number_of (45 ∷ 48 ∷ []) ≡ None
unfolding number_of natural_of decimal is_digit negative
minus-zero = refl

-- 00
leading-zero : number_of (48 ∷ 48 ∷ []) ≡ None
unfolding number_of natural_of positive
leading-zero = refl

-- +1
plus : number_of (43 ∷ 49 ∷ []) ≡ None
unfolding number_of natural_of decimal is_digit positive
plus = refl

-- −
minus-alone : number_of (45 ∷ []) ≡ None
unfolding number_of natural_of negative
minus-alone = refl

-- 0
zero-alone : number_of (48 ∷ []) ≡ Some (pos 0)
unfolding number_of natural_of decimal is_digit positive word is_word
zero-alone = refl

-- −2147483648
least : number_of (45 ∷ 50 ∷ 49 ∷ 52 ∷ 55 ∷ 52 ∷ 56 ∷ 51 ∷ 54 ∷ 52 ∷ 56 ∷ []) ≡ Some (negsuc 2147483647)
unfolding number_of natural_of decimal is_digit negative word is_word
least = refl

-- 2147483648
beyond-greatest : number_of (50 ∷ 49 ∷ 52 ∷ 55 ∷ 52 ∷ 56 ∷ 51 ∷ 54 ∷ 52 ∷ 56 ∷ []) ≡ None
unfolding number_of natural_of decimal is_digit positive word is_word
beyond-greatest = refl
