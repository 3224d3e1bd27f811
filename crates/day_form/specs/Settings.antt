-- Settings: "a line with a variable number, a lowest and a highest value".
use Rattle.std.specs.Prelude.{List, ℕ, ◌+◌, ltb, eqb, ℤ, pos, ◌-ℤ◌, length, get_or, None, Some, Option}
use Rattle.words.specs.Word.{natural, pick}
use Rattle.day_form.specs.declared.setting.Setting.{Setting}

-- "At most 100 values".
abbrev pub most_values : ℕ
most_values = 100

-- "Lowest above highest, or a value .. too many": highest − lowest is 0 to 99. (A number below 0 is read as one above every limit.)
unfoldable pub setting_by : ℤ → ℤ → ℤ → Option Setting
setting_by variable lowest highest =
    let more = natural (highest -ℤ lowest) in
    pick (ltb more most_values) (Some (record { variable = natural variable; lowest = lowest; values = more + 1 })) None

-- The setting that the numbers of a line are: three.
unfoldable pub setting_of : List ℤ → Option Setting
setting_of numbers =
    pick (eqb (length numbers) 3) (setting_by (get_or numbers 0 (pos 0)) (get_or numbers 1 (pos 0)) (get_or numbers 2 (pos 0))) None
