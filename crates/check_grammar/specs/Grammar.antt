-- Grammar: the table of kinds by number, as the code holds it.
use Rattle.std.specs.Prelude.{List, [], ◌∷◌, ℕ, zero, suc}
use Rattle.words.specs.Kinds.{Forms, in_both, in_source, in_kernel, in_neither, KindRow, kind_row, kind_of}

-- No kind has this number or a higher one.
abbrev pub kind_limit : ℕ
kind_limit = 61

abbrev pub forms_number : Forms → ℕ
forms_number in_neither = 0
forms_number in_source = 1
forms_number in_both = 2
forms_number in_kernel = 3

-- The forms that have a kind, as a number.
unfoldable pub forms_of : ℕ → ℕ
forms_of number = forms_number (kind_row (kind_of number)).forms

abbrev pub columns : KindRow → List ℕ
columns r = r.what ∷ r.a ∷ r.b ∷ r.c ∷ r.d ∷ r.next ∷ forms_number r.forms ∷ []

abbrev pub tabulate : {A : Type 0} → (ℕ → A) → ℕ → ℕ → List A
tabulate entry from zero = []
tabulate entry from (suc count) = entry from ∷ tabulate entry (suc from) count

unfoldable pub grammar : List (List ℕ)
grammar = tabulate (λ number. columns (kind_row (kind_of number))) 0 kind_limit
