-- Sets of the words that names mean, a bit for each, in five 64-bit words: four for the variables, one for the declared words; and sets of
-- arrays, a bit for each, in one 32-bit word.
use Rattle.std.specs.Prelude.{Bool, [], ◌∷◌, ℕ, get_or, zero, suc, ◌+◌, ◌-◌, ◌/◌, ◌%◌, ◌^◌, eqb, ltb}
use Rattle.std.specs.Int.Bits.{bit_or}
use Rattle.words.specs.Word.{pick}
use Rattle.write_sets.specs.Bits.{has_bit}
use Rattle.write_sets.specs.declared.Bit.{Bit}
use Rattle.write_sets.specs.declared.WriteSet.{WriteSet}

-- As many variables as four words hold, as many declared words as one, and as many arrays as one of half the size: "V variables (0 to
-- 256) and up to 32 array lengths", "at most 64" declarations.
abbrev pub variable_bits : ℕ
variable_bits = 256

abbrev pub declared_bits : ℕ
declared_bits = 64

abbrev pub array_bits : ℕ
array_bits = 32

-- Where the bit of a name's word stands: a variable's in the first four words, a declared word's in the fifth, from S on.
unfoldable pub bit_of : ℕ → ℕ → Bit
bit_of S i = pick (ltb i S) (record { word = i / 64; place = i % 64 }) (record { word = 4 + (i - S) / 64; place = (i - S) % 64 })

-- The word k of a set: 0 from the sixth on.
abbrev pub word_of : WriteSet → ℕ → ℕ
word_of s zero = get_or s.words 0 0
word_of s (suc zero) = get_or s.words 1 0
word_of s (suc (suc zero)) = get_or s.words 2 0
word_of s (suc (suc (suc zero))) = get_or s.words 3 0
word_of s (suc (suc (suc (suc zero)))) = get_or s.words 4 0
word_of s (suc (suc (suc (suc (suc k))))) = 0

-- The bit at a place of a word.
abbrev pub bit_at : WriteSet → Bit → Bool
bit_at s at = has_bit (word_of s at.word) at.place

-- Whether the word i, which a name means, is in the set.
unfoldable pub member : ℕ → WriteSet → ℕ → Bool
member S s i = bit_at s (bit_of S i)

-- The bit of the variable i, and that of the declared word i, from 0.
unfoldable pub variable_bit : WriteSet → ℕ → Bool
variable_bit s i = bit_at s (record { word = i / 64; place = i % 64 })

unfoldable pub declared_bit : WriteSet → ℕ → Bool
declared_bit s i = has_bit (word_of s 4) i

-- Whether the array is in the set.
unfoldable pub member_array : ℕ → ℕ → Bool
member_array arrays array = has_bit arrays array

abbrev pub nothing : WriteSet
nothing = record { words = 0 ∷ 0 ∷ 0 ∷ 0 ∷ 0 ∷ [] }

-- The word k of what is in either set.
abbrev pub either : WriteSet → WriteSet → ℕ → ℕ
either a b k = bit_or (word_of a k) (word_of b k)

abbrev pub join : WriteSet → WriteSet → WriteSet
join a b = record { words = either a b 0 ∷ either a b 1 ∷ either a b 2 ∷ either a b 3 ∷ either a b 4 ∷ [] }

-- The bit of the word i, where the word n of the set holds it; else 0.
abbrev pub bit_in : ℕ → ℕ → ℕ → ℕ
bit_in S i n = pick (eqb (bit_of S i).word n) (2 ^ (bit_of S i).place) 0

abbrev pub single : ℕ → ℕ → WriteSet
single S i = record { words = bit_in S i 0 ∷ bit_in S i 1 ∷ bit_in S i 2 ∷ bit_in S i 3 ∷ bit_in S i 4 ∷ [] }
