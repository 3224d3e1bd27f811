-- Flattening: the answer, what stands in the output after it, and what the words written have to be.
use Rattle.std.specs.Prelude.{◌≡◌, List, ℕ, ◌*◌, ◌≤◌, leb, ℤ, length, take, Err, Ok, Result}
use Rattle.words.specs.Refusals.{NumberedRefusal}
use Rattle.words.specs.Word.{pick}
use Rattle.words.specs.Numbers.{Numbers, done, refused}
use Rattle.words.specs.Over.{over}
use Rattle.language.specs.Program.{contents}
use Rattle.check_plain.specs.Refusal.{plain_refusal}
use Rattle.flat.specs.Refusal.{refusal as flat_refusal}
use Rattle.flat_fate.specs.Code.{items_lines}
use Rattle.flat_fate.specs.FlatWords.{flattened, SharedFate}

-- A flattening in numbers: the words of the list, or the refusal.
abbrev pub flatten_numbers : Result ℕ NumberedRefusal → Numbers
flatten_numbers (Ok words) = done words 0
flatten_numbers (Err refusal) = refused refusal.number refusal.place

-- What a flattening gives: its answer, that answer in numbers, and the output that it leaves.
pub record FlattenResult : Type 0 where
  pub answer : Result ℕ NumberedRefusal
  pub numbers : Numbers
  pub list : List ℤ

abbrev pub answer_and_list : Result ℕ NumberedRefusal → List ℤ → FlattenResult
answer_and_list answer list = record { answer = answer; numbers = flatten_numbers answer; list = list }

-- "a shorter output gets 10"; words beyond the result stay.
abbrev pub written : (list out : List ℤ) → FlattenResult
written list out =
    pick (leb (length list) (length out)) (answer_and_list (Ok (length list)) (over list out)) (answer_and_list (Err (record { number = 10; place = 0 })) out)

-- A refusal first; then the list of docs/FLAT.md.
abbrev pub flatten_after : Result (Unit {0}) NumberedRefusal → (rows out : List ℤ) → FlattenResult
flatten_after (Err refusal) rows out = answer_and_list (Err refusal) out
flatten_after (Ok tt) rows out = written (flattened rows) out

-- "The flat list refuses functions with 25 and the first one's row, just before its 10": the kernel check's causes, 25, then 10.
unfoldable pub flatten_result : (header rows out : List ℤ) → FlattenResult
flatten_result header rows out = flatten_after (plain_refusal header rows) rows out

-- ---- the words written

-- What a flat list has to be for a kernel program without functions.
pub record FlatFormOf (header rows list : List ℤ) : Type 0 where
  -- "the list's exact size": five words a line
  pub size : length list ≡ 5 * items_lines (contents rows)
  -- "Jumps stay inside the list or go just past its last line": the list's own check takes it
  pub accepted : flat_refusal header list ≡ (Ok tt)
  -- "With no limit on steps, a flat run and the kernel run on equal stores both end or neither does; if they end, ending and every store word agree."
  pub shares_fate : (store : List ℤ) → SharedFate header rows list store

-- The first words of the output, as many as the answer says.
pub record WroteList (header rows : List ℤ) (words : ℕ) (left : List ℤ) : Type 0 where
  pub inside : words ≤ length left
  pub form : FlatFormOf header rows (take words left)

-- The same by the answer; a refusal writes nothing.
abbrev pub WritesList : (header rows : List ℤ) → Result ℕ NumberedRefusal → (left : List ℤ) → Type 0
WritesList header rows (Ok words) left = WroteList header rows words left
WritesList header rows (Err refusal) left = Unit {0}
