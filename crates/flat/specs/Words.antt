-- Words: "a flat list of five words a line: operation, target, two operands and a signed jump distance counted from the following line".
-- The operation is the kernel's kind, 64 more where the left operand is a constant, 128 more where the right one is.
use Rattle.std.specs.Prelude.{◌≡◌, Bool, true, false, List, [], ◌∷◌, ℕ, zero, suc, ◌+◌, ◌*◌, ◌-◌, ◌/◌, ◌%◌, eqb, ltb, leb, ℤ, pos, negsuc, length, get_or}
use Rattle.words.specs.Word.{natural, pick}
use Rattle.words.specs.Kinds.{operator_of}
use Rattle.language_emission.specs.Emission.{operator_number}
use Rattle.flat.specs.Lines.{Operand, number, word, Operation, copy, minus, operate, fetch, put, FlatLine, does, jump, jump_zero, jump_other, abort}

-- ---- distances

-- From line i to line j, counted from the following line.
abbrev pub distance : ℕ → ℕ → ℤ
distance i j = pick (ltb i j) (pos (j - suc i)) (negsuc (i - j))

-- Where a jump from line i goes.
abbrev pub target_of : ℕ → ℤ → ℕ
target_of i (pos d) = suc i + d
target_of i (negsuc d) = i - d

-- ---- the parts of a line: its kind, what it assigns to, its operands, its distance

pub record Parts : Type 0 where
  pub kind : ℕ
  pub target : ℕ
  pub left : Operand
  pub right : Operand
  pub distance_is : ℤ

abbrev pub parts : ℕ → ℕ → Operand → Operand → ℤ → Parts
parts kind target left right distance_is = record { kind = kind; target = target; left = left; right = right; distance_is = distance_is }

-- An operand that is not used: both of its words are 0.
abbrev pub unused : Operand
unused = word 0

abbrev pub operation_parts : Operation → Parts
operation_parts (copy i a) = parts 1 i a unused (pos 0)
operation_parts (minus i a) = parts 4 i a unused (pos 0)
operation_parts (operate o i a b) = parts (6 + operator_number o) i a b (pos 0)
operation_parts (fetch i array a) = parts 3 i (word array) a (pos 0)
operation_parts (put array a b) = parts 21 array a b (pos 0)

-- The parts of a line that stands at i.
abbrev pub line_parts : ℕ → FlatLine → Parts
line_parts i (does o) = operation_parts o
line_parts i (jump j) = parts 52 0 unused unused (distance i j)
line_parts i (jump_zero a j) = parts 43 0 a unused (distance i j)
line_parts i (jump_other a j) = parts 44 0 a unused (distance i j)
line_parts i abort = parts 57 0 unused unused (pos 0)

-- The number of an array that stands in an operand's place.
abbrev pub number_in : Operand → ℕ
number_in (number v) = 0
number_in (word i) = i

-- The line with these parts, at i.
abbrev pub line_of : ℕ → Parts → FlatLine
line_of i p =
    pick (eqb p.kind 1) (does (copy p.target p.left))
    (pick (eqb p.kind 3) (does (fetch p.target (number_in p.left) p.right))
    (pick (eqb p.kind 4) (does (minus p.target p.left))
    (pick (eqb p.kind 21) (does (put p.target p.left p.right))
    (pick (eqb p.kind 43) (jump_zero p.left (target_of i p.distance_is))
    (pick (eqb p.kind 44) (jump_other p.left (target_of i p.distance_is))
    (pick (eqb p.kind 52) (jump (target_of i p.distance_is))
    (pick (eqb p.kind 57) abort
    (does (operate (operator_of (p.kind - 6)) p.target p.left p.right)))))))))

-- ---- the words of a line

abbrev pub sort_of : Operand → ℕ
sort_of (number v) = 1
sort_of (word i) = 0

abbrev pub word_of : Operand → ℤ
word_of (number v) = v
word_of (word i) = pos i

unfoldable pub operation_of : Parts → ℕ
operation_of p = p.kind + (64 * sort_of p.left + 128 * sort_of p.right)

abbrev pub five_words : Parts → List ℤ
five_words p = pos (operation_of p) ∷ pos p.target ∷ word_of p.left ∷ word_of p.right ∷ p.distance_is ∷ []

-- ---- and back

abbrev pub line_count : List ℤ → ℕ
line_count list = length list / 5

-- The field of a line: 0 is the operation, 1 the target, 2 and 3 the operands, 4 the distance. Beyond the list every word is 0.
unfoldable pub field_at : List ℤ → ℕ → ℕ → ℤ
field_at list line field = get_or list (5 * line + field) (pos 0)

unfoldable pub operation_at : List ℤ → ℕ → ℕ
operation_at list line = natural (field_at list line 0)

unfoldable pub kind_of : ℕ → ℕ
kind_of operation = operation % 64

unfoldable pub left_constant : ℕ → Bool
left_constant operation = leb 64 (operation % 128)

unfoldable pub right_constant : ℕ → Bool
right_constant operation = leb 128 operation

abbrev pub operand_of : Bool → ℤ → Operand
operand_of true v = number v
operand_of false v = word (natural v)

unfoldable pub parts_at : List ℤ → ℕ → Parts
parts_at list line =
    let operation = operation_at list line in
    parts (kind_of operation) (natural (field_at list line 1)) (operand_of (left_constant operation) (field_at list line 2))
    (operand_of (right_constant operation) (field_at list line 3)) (field_at list line 4)

unfoldable pub line_at : List ℤ → ℕ → FlatLine
line_at list line = line_of line (parts_at list line)

-- So many lines from line i on; all lines of a list.
unfoldable pub lines_from : List ℤ → ℕ → ℕ → List FlatLine
lines_from list i zero = []
lines_from list i (suc count) = line_at list i ∷ lines_from list (suc i) count

unfoldable pub lines_of : List ℤ → List FlatLine
lines_of list = lines_from list 0 (line_count list)

-- Words of parts at a line.
pub record Written (list : List ℤ) (line : ℕ) (p : Parts) : Type 0 where
  pub operation_word : field_at list line 0 ≡ pos (operation_of p)
  pub target-word : field_at list line 1 ≡ pos p.target
  pub left_word : field_at list line 2 ≡ word_of p.left
  pub right_word : field_at list line 3 ≡ word_of p.right
  pub distance_word : field_at list line 4 ≡ p.distance_is
