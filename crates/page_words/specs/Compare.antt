-- Compare: bytes at the start of others, alone, or around what is between them.
use Rattle.std.specs.Prelude.{Bool, true, false, List, [], ◌∷◌, ℕ, ◌+◌, ◌-◌, eqb, ltb, length, take, drop}
use Rattle.words.specs.Word.{pick}

unfoldable pub is_prefix : List ℕ → List ℕ → Bool
is_prefix [] text = true
is_prefix (byte ∷ bytes) [] = false
is_prefix (byte ∷ bytes) (first ∷ text) = pick (eqb first byte) (is_prefix bytes text) false

unfoldable pub is_word : List ℕ → List ℕ → Bool
is_word word text = pick (eqb (length text) (length word)) (is_prefix word text) false

-- The text begins with the one and ends with the other, and they do not meet.
unfoldable pub is_framed : (before behind text : List ℕ) → Bool
is_framed before behind text =
    pick (ltb (length text) (length before + length behind)) false
    (pick (is_prefix before text) (is_prefix behind (drop (length text - length behind) text)) false)

-- What is left of a text without so many bytes before it and so many behind it.
abbrev pub middle : (before behind : ℕ) → List ℕ → List ℕ
middle before behind text = take (length text - behind - before) (drop before text)
