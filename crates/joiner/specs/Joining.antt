-- Joining: the answer of a join, and what stands in the table lent for its rows.
use Rattle.std.specs.Prelude.{List, ℕ, ◌≤◌, ℤ, length, take, Err, Ok, Result}
use Rattle.words.specs.Refusals.{NumberedRefusal}
use Rattle.words.specs.Numbers.{Numbers, done, refused}
use Rattle.words.specs.Over.{over}
use Rattle.join.specs.Join.{joined_rows, join_refusal}
use Rattle.join_names.specs.JoinedFate.{Joins}

-- A join in numbers: the words of the joined rows, or the refusal.
abbrev pub join_numbers : Result ℕ NumberedRefusal → Numbers
join_numbers (Ok words) = done words 0
join_numbers (Err refusal) = refused refusal.number refusal.place

-- What a join gives: its answer, that answer in numbers, and the table that it leaves.
pub record JoinResult : Type 0 where
  pub answer : Result ℕ NumberedRefusal
  pub numbers : Numbers
  pub rows : List ℤ

-- An answer and the table that it leaves.
abbrev pub answer_and_rows : Result ℕ NumberedRefusal → List ℤ → JoinResult
answer_and_rows answer rows = record { answer = answer; numbers = join_numbers answer; rows = rows }

-- The joined rows, written from the table's start: "Rows of an output table .. beyond the result keep their content." A refusal leaves it as it was.
abbrev pub join_after : Result (Unit {0}) NumberedRefusal → (joined out : List ℤ) → JoinResult
join_after (Err refusal) joined out = answer_and_rows (Err refusal) out
join_after (Ok tt) joined out = answer_and_rows (Ok (length joined)) (over joined out)

unfoldable pub join_result : (header first secondHeader second out : List ℤ) → JoinResult
join_result header first secondHeader second out = join_after (join_refusal header first secondHeader second (length out)) (joined_rows first second) out

-- ---- the words written

-- "Join two legal source programs into a legal one that runs the first, then the second": the first words of the table, as many as the answer says.
pub record WroteJoin (header first second : List ℤ) (words : ℕ) (left : List ℤ) : Type 0 where
  pub inside : words ≤ length left
  pub joins : Joins header first second (take words left)

-- The same by the answer; a refusal writes nothing.
abbrev pub WritesJoin : (header first second : List ℤ) → Result ℕ NumberedRefusal → (left : List ℤ) → Type 0
WritesJoin header first second (Ok words) left = WroteJoin header first second words left
WritesJoin header first second (Err refusal) left = Unit {0}
