-- Words: what is one, and the number that one names.
use Rattle.std.specs.Prelude.{Bool, true, false, ℕ, ◌^◌, ltb, eqb, ℤ, pos, negsuc}
use Rattle.std.specs.Int.Signed.{mag}

-- "Values are signed 32-bit integers": −2147483648 to 2147483647. (`mag` is n for n, and for −(n + 1).)
unfoldable pub is_word : ℤ → Bool
is_word z = ltb (mag z) (2 ^ 31)

-- Two words are equal.
unfoldable pub same_word : ℤ → ℤ → Bool
same_word (pos m) (pos n) = eqb m n
same_word (pos m) (negsuc n) = false
same_word (negsuc m) (pos n) = false
same_word (negsuc m) (negsuc n) = eqb m n

-- The number that a word names, as a link, an index, a variable, array or label number. A negative word names nothing: it
-- is read as 2 ^ 32, which is above every limit.
unfoldable pub natural : ℤ → ℕ
natural (pos n) = n
natural (negsuc n) = 2 ^ 32

-- a when the test is true, else b.
abbrev pub pick {ℓ} : {A : Type ℓ} → Bool → A → A → A
pick true a b = a
pick false a b = b

-- 1 when the test is true, else 0.
abbrev pub one : Bool → ℕ
one test = pick test 1 0
