-- Fields: the causes that lie in one field of a row: 3, 4 and 6. Each test is true where the field breaks the cause.
use Rattle.std.specs.Prelude.{Bool, true, not, ◌&&◌, ◌||◌, List, ℕ, ◌+◌, ltb, leb, eqb, ℤ, length}
use Rattle.words.specs.Word.{pick}
use Rattle.words.specs.Table.{row_count, number_at}
use Rattle.words.specs.Layout.{Layout, layout_of, store_size, declared_of, header_store}
use Rattle.words.specs.declared.Form.{Form}
use Rattle.words.specs.declared.Form.TheVariants.{Source, Kernel}
use Rattle.words.specs.Kinds.{unused, variable, array, label, declared_number, sort_at, in_language, is_link, is_required}
use Rattle.words.specs.Links.{fits}
use Rattle.words_roles.specs.Roles.{role_sort}
use Rattle.check_fields.specs.declared.NumberRange.{NumberRange}
use Rattle.check_fields.specs.declared.Bounds.{Bounds}

-- Cause 3: "kind not in the language, or unused field not 0". Field 0 is the kind.
unfoldable pub foreign : Form → List ℤ → ℕ → ℕ → Bool
foreign form rows row field =
    pick (eqb field 0) (not (in_language form (number_at rows row 0)))
    (eqb (sort_at rows row field) unused && not (eqb (number_at rows row field) 0))

-- "A link is a row number greater than the row's own", of the table and of the fitting sort.
unfoldable pub leads_right : List ℤ → ℕ → ℕ → ℕ → Bool
leads_right rows row sort link = ltb row link && (ltb link (row_count rows) && fits rows sort link)

-- Cause 4: "link not to a later row of the fitting sort, or a branch or body with next not 0", at "row with the link (for such a
-- branch or body, its owner)". Of a parameter: "its b 0, else 4 with its own row".
unfoldable pub mislinked : List ℤ → ℕ → ℕ → Bool
mislinked rows row field =
    let sort = role_sort rows row field in
    let link = number_at rows row field in
    is_link sort && pick (eqb link 0) (is_required sort) (not (leads_right rows row sort link))

-- "Kind 58: a variable number below V".
abbrev pub variable_range : Layout → NumberRange
variable_range L = record { first = 0; past = L.variables }

-- "In the kernel they name their words, S to S+D−1", and so do declarations where names stand for their words.
abbrev pub word_range : Layout → ℕ → NumberRange
word_range L declared = record { first = store_size L; past = store_size L + declared }

-- The numbers that a header gives to declarations and parameters.
abbrev pub declared_range : Form → List ℤ → NumberRange
declared_range Source header = variable_range (layout_of Source header)
declared_range Kernel header = word_range (layout_of Kernel header) (declared_of Kernel header)

-- The numbers that may be named with a layout and so many words, where declarations and parameters have such numbers.
abbrev pub bounds_in : Layout → NumberRange → ℕ → Bounds
bounds_in L declared words =
    record { variables = L.variables; arrays = length L.lengths; store = store_size L; words = words; declared = declared }

-- Those that a header gives. A source header gives no words behind the first S: its `words` is its `store`.
unfoldable pub bounds_of : Form → List ℤ → Bounds
bounds_of form header = bounds_in (layout_of form header) (declared_range form header) (header_store form header)

-- Those of a source table, and of its resolved table, in which D declarations and the names of them stand for their words.
abbrev pub source_bounds : Layout → Bounds
source_bounds L = bounds_in L (variable_range L) (store_size L)

abbrev pub resolved_bounds : Layout → ℕ → Bounds
resolved_bounds L declared = bounds_in L (word_range L declared) (store_size L + declared)

-- "T temporaries (0 to 8,192)"; "numbers V to S−1 name nothing". Change 11: "the kernel names them S to S+D−1", "temporaries begin at S+D".
abbrev pub variable_fits : Bounds → ℕ → Bool
variable_fits bounds number = ltb number bounds.variables || (leb bounds.store number && ltb number bounds.words)

-- Of a declaration or a parameter.
abbrev pub declared_fits : Bounds → ℕ → Bool
declared_fits bounds number = leb bounds.declared.first number && ltb number bounds.declared.past

-- "A label number (0 to 40,979)".
unfoldable pub number_fits : Bounds → ℕ → ℕ → Bool
number_fits bounds sort number =
    pick (eqb sort variable) (variable_fits bounds number)
    (pick (eqb sort declared_number) (declared_fits bounds number)
    (pick (eqb sort array) (ltb number bounds.arrays)
    (pick (eqb sort label) (ltb number 40980)
    true)))

-- Cause 6: "variable, array or label number outside".
unfoldable pub outside : Bounds → List ℤ → ℕ → ℕ → Bool
outside bounds rows row field = not (number_fits bounds (sort_at rows row field) (number_at rows row field))
