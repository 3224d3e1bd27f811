-- Days: "does the lines in order: store the pairs, run the rule with budget 100,000". The rows are those of the rule's resolved table, in
-- which every name stands for its store word.
use Rattle.std.specs.Prelude.{List, [], ◌∷◌, map, ℕ, ◌+◌, ℤ, set}
use Rattle.words.specs.Word.{natural}
use Rattle.words.specs.declared.Form.TheVariants.{Source}
use Rattle.words.specs.declared.Ending.{Ending}
use Rattle.words.specs.declared.Ending.TheVariants.{Plain, Spent, Fault}
use Rattle.language.specs.Program.{run_table}
use Rattle.text_lines.specs.Line.{TextLine}
use Rattle.text_rules.specs.Rules.{budget}
use Rattle.day_form.specs.Lines.{line_words}

-- A day so far: the store, the "lines that ended plainly" and the "lines that didn't".
pub record Day : Type 0 where
  pub store : List ℤ
  pub plain : ℕ
  pub other : ℕ

abbrev pub new_day : List ℤ → Day
new_day store = record { store = store; plain = 0; other = 0 }

-- "Store the pairs": in order, a variable number and a value each.
unfoldable pub store_pairs : List ℤ → List ℤ → List ℤ
store_pairs [] store = store
store_pairs (number ∷ []) store = store
store_pairs (number ∷ (value ∷ pairs)) store = store_pairs pairs (set store (natural number) value)

-- "A line whose run doesn't end plainly leaves no change, its pairs included."
abbrev pub unchanged : Day → Day
unchanged day = record { store = day.store; plain = day.plain; other = day.other + 1 }

abbrev pub after_run : Ending → List ℤ → Day → Day
after_run Plain left day = record { store = left; plain = day.plain + 1; other = day.other }
after_run Spent left day = unchanged day
after_run (Fault sort) left day = unchanged day

-- What one line does: "store the pairs, run the rule with budget 100,000".
unfoldable pub do_line : List ℤ → List ℤ → List ℤ → Day → Day
do_line header rows pairs day =
    let finished = run_table Source header rows budget (store_pairs pairs day.store) in
    after_run finished.ending finished.store day

-- What a list of lines does: "the lines in order".
unfoldable pub do_lines : List ℤ → List ℤ → List (List ℤ) → Day → Day
do_lines header rows [] day = day
do_lines header rows (pairs ∷ lines) day = do_lines header rows lines (do_line header rows pairs day)

-- The pairs of each line.
abbrev pub pairs_of : List TextLine → List (List ℤ)
pairs_of lines = map line_words lines
