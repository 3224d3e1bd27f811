-- Arithmetic: the operations on words, with their faults, "after ISO C".
use Rattle.std.specs.Prelude.{Bool, true, false, not, ℕ, zero, suc, ◌+◌, ltb, ℤ, pos, negsuc, neg_ℤ, ◌+ℤ◌, ◌-ℤ◌, ◌*ℤ◌, Err, Ok, Result}
use Rattle.std.specs.Int.Signed.{quot_z, rem_z, lt_z, le_z}
use Rattle.words.specs.Word.{is_word, same_word, natural, pick}
use Rattle.words.specs.declared.FaultSort.{FaultSort}
use Rattle.words.specs.declared.FaultSort.TheVariants.{Overflow, ZeroDivisor, Index}
use Rattle.words.specs.declared.Operator.{Operator}
use Rattle.words.specs.declared.Operator.TheVariants.{Add, Subtract, Multiply, Divide, Remainder, Less, Greater, LessOrEqual, GreaterOrEqual, Equal, NotEqual}

-- What an operation gives: a value, or the sort of its fault.

-- "Overflow": a result that is no word.
unfoldable pub in_word : ℤ → Result ℤ FaultSort
in_word z = pick (is_word z) (Ok z) (Err Overflow)

-- A value is true unless it is 0.
unfoldable pub is_true : ℤ → Bool
is_true (pos zero) = false
is_true (pos (suc n)) = true
is_true (negsuc n) = true

-- "The result is 0 or 1."
unfoldable pub bit : Bool → ℤ
bit b = pick b (pos 1) (pos 0)

-- The truth of a value, 0 or 1. "Not gives 0 or 1."
unfoldable pub truth : ℤ → ℤ
truth v = bit (is_true v)

unfoldable pub logical_not : ℤ → ℤ
logical_not v = bit (not (is_true v))

-- "Overflow (also minus of −2147483648 ..)".
unfoldable pub minus : ℤ → Result ℤ FaultSort
minus v = in_word (neg_ℤ v)

-- "Zero divisor": for every dividend.
unfoldable pub dividing : ℤ → Result ℤ FaultSort → Result ℤ FaultSort
dividing divisor quotient = pick (is_true divisor) quotient (Err ZeroDivisor)

-- "ISO C 2011 leaves a % b undefined: a / b can't be represented": a remainder whose quotient is no word.
unfoldable pub remainder_by : ℤ → ℤ → Result ℤ FaultSort
remainder_by left right = pick (is_word (quot_z left right)) (Ok (rem_z left right)) (Err Overflow)

-- "Division truncates toward zero; the remainder takes the dividend's sign." Change 4: "−2147483648 % −1 is an overflow fault, as the
-- division is; any other dividend gives 0." (`quot_z` and `rem_z` are the quotient rounded toward zero and its remainder.)
unfoldable pub apply : Operator → ℤ → ℤ → Result ℤ FaultSort
apply Add left right = in_word (left +ℤ right)
apply Subtract left right = in_word (left -ℤ right)
apply Multiply left right = in_word (left *ℤ right)
apply Divide left right = dividing right (in_word (quot_z left right))
apply Remainder left right = dividing right (remainder_by left right)
apply Less left right = Ok (bit (lt_z left right))
apply Greater left right = Ok (bit (lt_z right left))
apply LessOrEqual left right = Ok (bit (le_z left right))
apply GreaterOrEqual left right = Ok (bit (le_z right left))
apply Equal left right = Ok (bit (same_word left right))
apply NotEqual left right = Ok (bit (not (same_word left right)))

-- The bounds test: the store position of an element of the array of `length` words from `base` on.
unfoldable pub element : ℕ → ℕ → ℤ → Result ℕ FaultSort
element base length index = pick (ltb (natural index) length) (Ok (base + natural index)) (Err Index)
