-- Values: "For each value, lowest first, it starts from zeros, stores the value and does the lines in order". The rows are those of the
-- rule's resolved table.
use Rattle.std.specs.Prelude.{List, [], ◌∷◌, ◌++◌, ℕ, zero, suc, ℤ, pos, ◌+ℤ◌, take, set}
use Rattle.words.specs.Layout.{layout_of, store_words, zeros}
use Rattle.words.specs.declared.Form.TheVariants.{Source}
use Rattle.text_lines.specs.Line.{line_bytes}
use Rattle.day_form.specs.declared.setting.Setting.{Setting}
use Rattle.day_run.specs.Days.{Day, new_day, do_lines}

-- "It starts from zeros, stores the value and does the lines".
unfoldable pub day_of : List ℤ → List ℤ → ℕ → List (List ℤ) → ℤ → Day
day_of header rows variable lines value = do_lines header rows lines (new_day (set (zeros (store_words Source header rows)) variable value))

-- "The value, lines that ended plainly, lines that didn't, and the V variables".
unfoldable pub day_numbers : List ℤ → ℤ → Day → List ℤ
day_numbers header value day =
    value ∷ (pos day.plain ∷ (pos day.other ∷ take (layout_of Source header).variables day.store))

-- "Parted by tabs".
unfoldable pub day_line : List ℤ → List ℤ → ℕ → List (List ℤ) → ℤ → List ℕ
day_line header rows variable lines value = line_bytes (day_numbers header value (day_of header rows variable lines value))

-- The lines of so many values, from the lowest on.
unfoldable pub values_output : (ℤ → List ℕ) → ℤ → ℕ → List ℕ
values_output line lowest zero = []
values_output line lowest (suc values) = line lowest ++ values_output line (lowest +ℤ pos 1) values

-- "It prints, for each value".
unfoldable pub setting_output : List ℤ → List ℤ → Setting → List (List ℤ) → List ℕ
setting_output header rows setting lines = values_output (day_line header rows setting.variable lines) setting.lowest setting.values
