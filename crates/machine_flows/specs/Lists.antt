-- Lists: where a list goes on: the search for a mark, and what follows an item.
use Rattle.std.specs.Prelude.{◌≡◌, Bool, false, List, ℕ, zero, suc, ◌<◌, ◌≤◌, ltb, eqb, ℤ}
use Rattle.words.specs.Word.{pick}
use Rattle.words.specs.Table.{row_count, number_at}
use Rattle.words.specs.Layout.{Layout}
use Rattle.computation.specs.Computation.{Computation, ret}
use Rattle.computation.specs.Remaining.{Rest, onward, spend}
use Rattle.language.specs.Trees.{Mark, case, default, label, Items, none, ◌then◌, ◌here◌, define, same_mark, has}
use Rattle.language.specs.Decode.{statement_at, items_at, list_at}
use Rattle.language.specs.Meaning.{Context, Signal, next, items, exec}
use Rattle.language.specs.Sound.{Sound}
use Rattle.machine_operations.specs.Rows.{context_in}
use Rattle.machine_flows.specs.Flows.{ran}
use Rattle.machine_flows.specs.declared.SoughtMark as declared
use Rattle.machine_flows.specs.declared.SoughtMark.TheVariants.{Case, Default, Label}

-- The mark that the code's value is.
abbrev pub mark_of : declared.SoughtMark → Mark
mark_of (Case v) = case v
mark_of Default = default
mark_of (Label l) = label l

-- Whether the first item of a list is this mark.
abbrev pub marks : Mark → Items → Bool
marks m none = false
marks m (s then is) = false
marks m (k here is) = same_mark m k
marks m (define f words body is) = false

-- The items of a list from the first one on that is this mark; none where it has no such mark.
unfoldable pub from : Mark → Items → Items
from m none = none
from m (s then is) = from m is
from m (define f words body is) = from m is
from m (k here is) = let rest = from m is in pick (same_mark m k) (k here is) rest

-- The items that a switch runs: "go to the case of equal value, else to default, else past the switch".
unfoldable pub start_of : ℤ → Items → Items
start_of v is = pick (has (case v) is) (from (case v) is) (from default is)

-- A row of a table that is sound for some layout.
pub record InTable (rows : List ℤ) (row : ℕ) : Type 0 where
  pub layout : Layout
  pub words : ℕ
  pub sound : Sound rows layout words
  pub few_rows : row_count rows < 65536
  pub below : row < row_count rows

-- r is the row of the first item from `first` on that is the mark, or 0.
pub record Finds (rows : List ℤ) (first : ℕ) (mark : Mark) (r : ℕ) : Type 0 where
  pub list : list_at rows r ≡ from mark (list_at rows first)
  pub found : has mark (list_at rows first) ≡ ltb 0 r
  pub below : r < row_count rows
  pub ahead : 0 < r → first ≤ r

-- r is the row of the item at which a switch begins, or 0.
pub record Starts (rows : List ℤ) (first : ℕ) (value : ℤ) (r : ℕ) : Type 0 where
  pub list : list_at rows r ≡ start_of value (list_at rows first)
  pub below : r < row_count rows

-- The item at a row: a definition, of kind 59, is passed over uncounted; a mark does what an empty statement does.
abbrev pub item_of : Context → List ℤ → ℕ → Computation Signal
item_of C rows row = pick (eqb (number_at rows row 0) 59) (ret next) (exec C (statement_at rows row))

-- The run of a list that is at a row; at 0 it is at its end, and its last item had this answer.
abbrev pub continued : Context → List ℤ → ℕ → ℤ → ℕ → List ℤ → Rest Signal
continued C rows zero answer n s = ran answer n s
continued C rows (suc at) answer n s = spend (items C (items_at rows (suc at)) next) n s

-- r is the row at which a list goes on after the item at `row` ended with this answer, or 0.
pub record Resumes (rows : List ℤ) (row : ℕ) (answer : ℤ) (r : ℕ) : Type 0 where
  pub goes_on : (L : Layout) (n : ℕ) (s : List ℤ)
      → onward (ran answer n s) (λ signal n s. spend (items (context_in L rows) (list_at rows (number_at rows row 5)) signal) n s) ≡ continued (context_in L rows) rows r answer n s
  pub below : r < row_count rows
  pub ahead : 0 < r → row < r
