-- A sample: a program as words, and what a check must answer of it.
use Rattle.std.specs.Prelude.{List, [], ◌∷◌, ◌++◌, ℕ, zero, suc, ◌+◌, ℤ, pos, set, Err, Result}
use Rattle.words.specs.Refusals.{NumberedRefusal}

pub record Sample : Type 0 where
  pub header : List ℤ
  pub rows : List ℤ
  pub answer : Result (Unit {0}) NumberedRefusal

abbrev pub sample : List ℤ → List ℤ → Result (Unit {0}) NumberedRefusal → Sample
sample header rows answer = record { header = header; rows = rows; answer = answer }

-- The answer with this cause and place.
abbrev pub refused : ℕ → ℕ → Result (Unit {0}) NumberedRefusal
refused number place = Err (record { number = number; place = place })

abbrev pub row : ℕ → ℕ → ℕ → ℕ → ℕ → ℕ → List ℤ
row kind a b c d next = pos kind ∷ pos a ∷ pos b ∷ pos c ∷ pos d ∷ pos next ∷ []

-- A row of a kind with this field set to 1, which the kind does not use: it is refused, whatever its links.
abbrev pub with_field : List ℤ → ℕ → ℕ → Sample
with_field header kind field = sample header (row 42 1 0 0 0 0 ++ set (row kind 0 0 0 0 0) field (pos 1)) (refused 3 1)

-- So many fields from one on, of a kind; and of each of some kinds.
abbrev pub fields_from : List ℤ → ℕ → ℕ → ℕ → List Sample
fields_from header kind first zero = []
fields_from header kind first (suc count) = with_field header kind first ∷ fields_from header kind (first + 1) count

abbrev pub unused_from : List ℤ → ℕ → ℕ → List ℕ → List Sample
unused_from header first count [] = []
unused_from header first count (kind ∷ kinds) = fields_from header kind first count ++ unused_from header first count kinds

-- So many rows of minus from a row on, each with the next row as its operand, and a constant at the end.
abbrev pub minuses : ℕ → ℕ → List ℤ
minuses from zero = row 1 0 0 0 0 0
minuses from (suc count) = row 4 (from + 1) 0 0 0 0 ++ minuses (from + 1) count

-- A block, an expression statement, so many rows of minus, a constant: the constant's depth is 3 more.
abbrev pub chain : ℕ → List ℤ
chain count = row 42 1 0 0 0 0 ++ row 41 2 0 0 0 0 ++ minuses 2 count

-- So many blocks from a row on, each in the one before it, and then a guarded if with two arms.
abbrev pub guarded_in : ℕ → ℕ → List ℤ
guarded_in from zero =
    row 54 (from + 1) 0 0 0 0
    ++ (row 56 (from + 2) (from + 3) 0 0 (from + 4) ++ row 1 0 0 0 0 0 ++ row 42 0 0 0 0 0)
    ++ (row 56 (from + 5) (from + 6) 0 0 0 ++ row 1 0 0 0 0 0 ++ row 42 0 0 0 0 0)
guarded_in from (suc count) = row 42 (from + 1) 0 0 0 0 ++ guarded_in (from + 1) count
