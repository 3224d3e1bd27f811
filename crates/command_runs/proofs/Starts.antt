-- What a run, a preview or a dispatcher's run starts from: zeros, or the words of a store file; and that its line has room.
use mathlib.Core.Path.{◌≡◌, sym, ap, ◌∙◌}
use mathlib.Core.Bool.{true}
use mathlib.Core.List.{List}
use Prim.Native.Nat.{ℕ, ◌-◌, ◌≤◌}
use native.Mathlib.Omega.{arith}
use lib.IntN.{ℤ}
use lib.ListN.{length, take}
use lib.Seq.{length-take-le}
use Rattle.words.specs.Layout.{header_fits, store_words}
use Rattle.words.specs.Laws.{header_fits-facts}
use Rattle.words.specs.StoreLaws.{kernel-small}
use Rattle.words.specs.declared.Form.TheVariants.{Kernel}
use Rattle.text_form.specs.Text.{Parsed}
use Rattle.words.specs.OverLaws.{first_of, over-fits, written-part}
use Rattle.text_report.specs.Lines.{line_room}
use Rattle.command_request.specs.StoreFile.{Stored}
use Rattle.command_request.specs.declared.request.Task.{Task}
use Rattle.command_request.specs.declared.request.Task.TheVariants.{Run, Preview, DispatcherRun, FlatRun}
use Rattle.command_text.specs.Texts.{most_store, output_room}
use Rattle.command_runs.specs.Tasks.{form_of, start_words}

-- no task starts from more words than the store of its program has
pub start-most : (task : Task) (header rows : List ℤ) → header_fits (form_of task) header ≡ true → store_words (form_of task) header rows ≤ most_store → start_words task header rows ≤ most_store
start-most (Run form) header rows h s = s
start-most Preview header rows h s = s
start-most DispatcherRun header rows h s = omega (arith, (header_fits-facts Kernel header h).small_store)
start-most FlatRun header rows h s = omega (arith, kernel-small header h)

-- the line of a run on the first part of a store
pub part_room : (n : ℕ) (store : List ℤ) → n ≤ length store → length store ≤ 98688 → {room : ℕ} → output_room ≤ room → line_room (length (take (n - 0) store)) ≤ room
part_room n store h l o = rw (first_of store n) (omega (arith, length-take-le n store h))

module _ {read : Parsed (List ℤ)} {count : ℕ} {table left : List ℤ} (s : Stored read count table left) where
  pub stored-inside : length left ≡ length table → count ≤ length left
  stored-inside e = omega (arith, s.size, over-fits s.words table (sym (ap length s.written) ∙ e))

  pub stored-words : take (count - 0) left ≡ s.words
  stored-words = written-part s.words table left count s.size s.written
