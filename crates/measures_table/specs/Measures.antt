-- Measures: what the table of measures holds, as many words for each source row as it has measures. Sums are cut off at 65,536, which is above every
-- limit, so that they fit on any table.
use Rattle.std.specs.Prelude.{◌≡◌, Bool, List, [], ◌∷◌, ℕ, zero, suc, ◌+◌, ◌*◌, ◌≤◌, ◌<◌, min, max, ℤ, length, get_or}
use Rattle.words.specs.Table.{row_count}
use Rattle.words.specs.declared.Operator.{Operator}
use Rattle.language.specs.Trees.{Expression, assign, postfix, variable, Statement, Arguments, Arms, Items, none, ◌then◌, ◌here◌, define, case, default, label}
use Rattle.language.specs.Calls.{argument_count}
use Rattle.language.specs.Decode.{place_of, expression_at, statement_at, items_at, arms_at}
use Rattle.translation.specs.declared.Use.{Use}
use Rattle.translation.specs.declared.Use.TheVariants.{Dropped as dropped, Wanted as wanted, Stored as stored}
use Rattle.translation.specs.Translate.{atom_of, labels, arms_labels, items_labels, arguments_taken, expression_levels, arguments_levels, statement_levels, arms_levels, items_levels, program_levels, program_labels}
use Rattle.translation.specs.TranslateSize.{expression_size, arguments_size, statement_size, arms_size, items_size, program_size, cases}
use Rattle.language_shapes.specs.Shapes.{Onward}
use Rattle.language_shapes.specs.Source.{most_words, Source}
use Rattle.measures_table.specs.Parts.{called_in, first_copied, plain_atom}
use Rattle.measures_table.specs.Arguments.{argument_copies, call_copies}
use Rattle.measures_table.specs.declared.ExpressionMeasures.{ExpressionMeasures}
use Rattle.measures_table.specs.declared.Passed.{Passed}
use Rattle.measures_table.specs.declared.StatementMeasures.{StatementMeasures}
use Rattle.measures_table.specs.declared.ListMeasures.{ListMeasures}

unfoldable pub limited : ℕ → ℕ
limited n = min n 65536

-- One more, where there is one.
abbrev pub past_labels : ℕ → ℕ → ℕ
past_labels more zero = zero
past_labels more (suc place) = suc place + more

-- 1 + the labels before a list's default; 0 where it has none.
unfoldable pub default_place : Items → ℕ
default_place none = 0
default_place (s then is) = past_labels (labels s) (default_place is)
default_place (case v here is) = past_labels 1 (default_place is)
default_place (default here is) = 1
default_place (label l here is) = past_labels 1 (default_place is)
default_place (define f words body is) = default_place is

-- ---- what is measured

pub record ExpressionMeasured (rows : List ℤ) (e : Expression) (m : ExpressionMeasures) : Type 0 where
  pub rows_are : m.rows ≡ limited (expression_size (called_in rows) e wanted)
  pub levels_are : m.levels ≡ limited (expression_levels (called_in rows) e wanted)
  -- the row that the value comes from
  pub value_is : plain_atom (called_in rows) (expression_at rows m.value) ≡ atom_of (called_in rows) e
  pub value_inside : m.value < row_count rows
  -- 1 where the value of the first operand is copied
  pub copied_is : m.copied ≡ first_copied (called_in rows) e
  -- where nobody uses the value
  pub dropped_rows_are : m.dropped_rows ≡ limited (expression_size (called_in rows) e dropped)
  pub dropped_levels_are : m.dropped_levels ≡ limited (expression_levels (called_in rows) e dropped)
  -- where a variable stores it, whichever; its rows are those of a value that is wanted
  pub stored_levels_are : m.stored_levels ≡ limited (expression_levels (called_in rows) e (stored 0))
  -- which arguments of a call are copied
  pub copies_are : m.copies ≡ call_copies (called_in rows) e

-- `called f i`: whether function f can write the variable i.
pub record StatementMeasured (called : ℕ → ℕ → Bool) (s : Statement) (m : StatementMeasures) : Type 0 where
  pub rows_are : m.rows ≡ limited (statement_size called s)
  pub levels_are : m.levels ≡ limited (statement_levels called s)
  pub labels_are : m.labels ≡ limited (labels s)

pub record ListMeasured (called : ℕ → ℕ → Bool) (is : Items) (m : ListMeasures) : Type 0 where
  pub rows_are : m.rows ≡ limited (items_size called is)
  pub levels_are : m.levels ≡ limited (items_levels called is)
  pub labels_are : m.labels ≡ limited (items_labels is)
  pub cases_are : m.cases ≡ limited (cases is)
  pub default_is : m.default ≡ limited (default_place is)

pub record ArmsMeasured (called : ℕ → ℕ → Bool) (arms : Arms) (m : StatementMeasures) : Type 0 where
  pub rows_are : m.rows ≡ limited (arms_size called arms)
  pub levels_are : m.levels ≡ limited (arms_levels called arms)
  pub labels_are : m.labels ≡ limited (arms_labels arms)

-- The arguments from one on; those before it can write the variables W.
pub record PassedMeasured (called : ℕ → ℕ → Bool) (arguments : Arguments) (W : ℕ → Bool) (m : Passed) : Type 0 where
  pub rows_are : m.rows ≡ limited (arguments_size called arguments W)
  pub levels_are : m.levels ≡ limited (arguments_levels called arguments W)
  pub taken_is : m.taken ≡ arguments_taken called arguments W
  pub count_is : m.count ≡ argument_count arguments
  pub copies_are : m.copies ≡ argument_copies called arguments W

-- The head of a program's list: its definitions, and then its main part.
pub record ProgramMeasured (called : ℕ → ℕ → Bool) (program : Items) (m : StatementMeasures) : Type 0 where
  pub rows_are : m.rows ≡ limited (program_size called program)
  pub levels_are : m.levels ≡ limited (program_levels called program)
  pub labels_are : m.labels ≡ limited (program_labels program)

-- ---- the table

-- The words of a row, and where each measure stands among them.
abbrev pub width : ℕ
width = 19

-- Those before the last are sums, and small.
abbrev pub sums : ℕ
sums = 18

abbrev pub rows_slot : ℕ
rows_slot = 0

abbrev pub levels_slot : ℕ
levels_slot = 1

abbrev pub value_slot : ℕ
value_slot = 2

abbrev pub statement_rows_slot : ℕ
statement_rows_slot = 3

abbrev pub statement_levels_slot : ℕ
statement_levels_slot = 4

abbrev pub statement_labels_slot : ℕ
statement_labels_slot = 5

abbrev pub list_rows_slot : ℕ
list_rows_slot = 6

abbrev pub list_levels_slot : ℕ
list_levels_slot = 7

abbrev pub list_labels_slot : ℕ
list_labels_slot = 8

abbrev pub list_cases_slot : ℕ
list_cases_slot = 9

abbrev pub list_default_slot : ℕ
list_default_slot = 10

abbrev pub copied_slot : ℕ
copied_slot = 11

abbrev pub dropped_rows_slot : ℕ
dropped_rows_slot = 12

abbrev pub dropped_levels_slot : ℕ
dropped_levels_slot = 13

abbrev pub stored_levels_slot : ℕ
stored_levels_slot = 14

abbrev pub arms_rows_slot : ℕ
arms_rows_slot = 15

abbrev pub arms_levels_slot : ℕ
arms_levels_slot = 16

abbrev pub arms_labels_slot : ℕ
arms_labels_slot = 17

abbrev pub copies_slot : ℕ
copies_slot = 18

-- The measures of an expression, by the use of its value.
abbrev pub rows_for : Use → ℕ
rows_for dropped = dropped_rows_slot
rows_for wanted = rows_slot
rows_for (stored i) = rows_slot

abbrev pub levels_for : Use → ℕ
levels_for dropped = dropped_levels_slot
levels_for wanted = levels_slot
levels_for (stored i) = stored_levels_slot

pub record RowsWord (u : Use) (k : ℕ) : Type 0 where
  pub is : k ≡ rows_for u
  pub inside : k < sums

pub record LevelsWord (u : Use) (k : ℕ) : Type 0 where
  pub is : k ≡ levels_for u
  pub inside : k < sums

abbrev pub slot : List ℕ → ℕ → ℕ → ℕ
slot table row k = get_or table (width * row + k) 0

-- The same by a link; 0 is absent and measures nothing.
abbrev pub slot_at : List ℕ → ℕ → ℕ → ℕ
slot_at table zero k = 0
slot_at table (suc link) k = slot table (suc link) k

-- The word is in the table, and small.
pub record SlotAsks (table : List ℕ) (link k : ℕ) : Type 0 where
  pub held : 0 < link → width * link + k < length table
  pub small : slot_at table link k ≤ 65536

-- All sums of the link.
abbrev pub LinkMeasured : List ℕ → ℕ → Type 0
LinkMeasured table link = (k : ℕ) → k < sums → SlotAsks table link k

pub record SlotIs (table : List ℕ) (link k r : ℕ) : Type 0 where
  pub is : r ≡ slot_at table link k
  pub small : r ≤ 65536

abbrev pub expression_slots : List ℕ → ℕ → ExpressionMeasures
expression_slots table row =
    record { rows = slot table row rows_slot; levels = slot table row levels_slot; value = slot table row value_slot; copied = slot table row copied_slot; dropped_rows = slot table row dropped_rows_slot; dropped_levels = slot table row dropped_levels_slot; stored_levels = slot table row stored_levels_slot; copies = slot table row copies_slot }

abbrev pub statement_slots : List ℕ → ℕ → StatementMeasures
statement_slots table row = record { rows = slot table row statement_rows_slot; levels = slot table row statement_levels_slot; labels = slot table row statement_labels_slot }

abbrev pub list_slots : List ℕ → ℕ → ListMeasures
list_slots table row = record { rows = slot table row list_rows_slot; levels = slot table row list_levels_slot; labels = slot table row list_labels_slot; cases = slot table row list_cases_slot; default = slot table row list_default_slot }

abbrev pub arms_slots : List ℕ → ℕ → StatementMeasures
arms_slots table row = record { rows = slot table row arms_rows_slot; levels = slot table row arms_levels_slot; labels = slot table row arms_labels_slot }

-- The words of a row.
abbrev pub row_words : ExpressionMeasures → StatementMeasures → ListMeasures → StatementMeasures → List ℕ
row_words e s l a =
    e.rows ∷ e.levels ∷ e.value ∷ s.rows ∷ s.levels ∷ s.labels ∷ l.rows ∷ l.levels ∷ l.labels ∷ l.cases ∷ l.default ∷ e.copied ∷ e.dropped_rows ∷ e.dropped_levels ∷ e.stored_levels ∷ a.rows ∷ a.levels ∷ a.labels ∷ e.copies ∷ []

-- A loop's test: its code and 5 rows, where it is there.
abbrev pub test_slots : List ℕ → ℕ → ℕ
test_slots table zero = 0
test_slots table (suc test) = slot table (suc test) rows_slot + 5

pub record TestIs (table : List ℕ) (test r : ℕ) : Type 0 where
  pub is : r ≡ test_slots table test
  pub small : r ≤ 65541

-- A row is measured.
pub record MeasuredRow (rows : List ℤ) (table : List ℕ) (row : ℕ) : Type 0 where
  pub expression : ExpressionMeasured rows (expression_at rows row) (expression_slots table row)
  pub statement : StatementMeasured (called_in rows) (statement_at rows row) (statement_slots table row)
  pub list : ListMeasured (called_in rows) (items_at rows row) (list_slots table row)
  -- a row that is no arm ends the arms: none of it on
  pub arms : ArmsMeasured (called_in rows) (arms_at rows row) (arms_slots table row)

-- The rows from `least` on are measured.
pub record MeasuredFrom (rows : List ℤ) (table : List ℕ) (least : ℕ) : Type 0 where
  pub source : Source rows
  pub room : width * row_count rows ≤ length table
  pub row_measured : (row : ℕ) → least ≤ row → row < row_count rows → MeasuredRow rows table row

abbrev pub Measured : List ℤ → List ℕ → Type 0
Measured rows table = MeasuredFrom rows table 0

-- ---- what the functions that measure an assignment and a postfix ask

-- The variable i at a row's place, and the value's row.
pub record StoreAsks (rows : List ℤ) (table : List ℕ) (row i e : ℕ) : Type 0 where
  pub measured : MeasuredFrom rows table (row + 1)
  pub inside : row < row_count rows
  pub is : expression_at rows row ≡ assign (variable i) (expression_at rows e)
  pub onward : Onward rows row e
  pub low : i < most_words

pub record PostfixAt (rows : List ℤ) (row place : ℕ) : Type 0 where
  pub operator : Operator
  pub is : expression_at rows row ≡ postfix operator (place_of (expression_at rows place))
  pub onward : Onward rows row place

-- ---- what the functions that measure a list give, from the words of the table

abbrev pub MarkAsks : List ℕ → ℕ → ℕ → ℕ → Type 0
MarkAsks table next cases place = LinkMeasured table next × (cases ≤ 1)

abbrev pub mark_measures : List ℕ → ℕ → ℕ → ℕ → ListMeasures
mark_measures table next cases place =
    record { rows = limited (1 + slot_at table next list_rows_slot); levels = slot_at table next list_levels_slot; labels = limited (1 + slot_at table next list_labels_slot); cases = limited (cases + slot_at table next list_cases_slot); default = place }

abbrev pub StatementAsks : List ℕ → ℕ → StatementMeasures → Type 0
StatementAsks table next s = LinkMeasured table next × (s.rows ≤ 65536) × (s.labels ≤ 65536)

abbrev pub statement_measures : List ℕ → ℕ → StatementMeasures → ListMeasures
statement_measures table next s =
    record { rows = limited (s.rows + slot_at table next list_rows_slot); levels = max s.levels (slot_at table next list_levels_slot); labels = limited (s.labels + slot_at table next list_labels_slot); cases = slot_at table next list_cases_slot; default = limited (past_labels s.labels (slot_at table next list_default_slot)) }

-- ---- what the functions that measure a statement give

abbrev measures : ℕ → ℕ → ℕ → StatementMeasures
measures n levels marks = record { rows = n; levels = levels; labels = marks }

abbrev pub plain_measures : StatementMeasures
plain_measures = measures 1 0 0

abbrev pub no_measures : StatementMeasures
no_measures = measures 0 0 0

-- What a guarded do takes, by the rows of its arms: without arms it is an empty statement.
abbrev pub around_arms : ℕ → StatementMeasures → StatementMeasures
around_arms zero m = plain_measures
around_arms (suc n) m = m

module _ (table : List ℕ) where
  abbrev pub express_measures : ℕ → StatementMeasures
  express_measures e = measures (max 1 (slot_at table e dropped_rows_slot)) (slot_at table e dropped_levels_slot) 0

  abbrev pub block_measures : ℕ → StatementMeasures
  block_measures list = measures (limited (1 + slot_at table list list_rows_slot)) (slot_at table list list_levels_slot) (slot_at table list list_labels_slot)

  abbrev pub if_measures : ℕ → ℕ → ℕ → StatementMeasures
  if_measures e on_true on_false =
      measures (limited (4 + slot_at table e rows_slot + slot_at table on_true statement_rows_slot + slot_at table on_false statement_rows_slot))
      (max (slot_at table e levels_slot) (max (slot_at table on_true statement_levels_slot) (slot_at table on_false statement_levels_slot)))
      (limited (slot_at table on_true statement_labels_slot + slot_at table on_false statement_labels_slot))

  -- What stands first, the test, the step, the body.
  abbrev pub loop_measures : ℕ → ℕ → ℕ → ℕ → StatementMeasures
  loop_measures first test action body =
      measures (limited (5 + (slot_at table first dropped_rows_slot + test_slots table test) + (slot_at table action dropped_rows_slot + slot_at table body statement_rows_slot)))
      (max (max (slot_at table first dropped_levels_slot) (slot_at table test levels_slot)) (max (slot_at table action dropped_levels_slot) (slot_at table body statement_levels_slot)))
      (limited (2 + slot_at table body statement_labels_slot))

  -- `held` is how many temporaries the selector's value takes.
  abbrev pub switch_measures : ℕ → ℕ → ℕ → StatementMeasures
  switch_measures held e list =
      measures (limited (2 + slot_at table e rows_slot + 11 * slot_at table list list_cases_slot + slot_at table list list_rows_slot))
      (max (held + 1) (max (slot_at table e levels_slot) (slot_at table list list_levels_slot)))
      (limited (1 + slot_at table list list_labels_slot))

  -- The arms of a guarded form, with the rows and labels of its own.
  abbrev pub guarded_measures : ℕ → ℕ → ℕ → StatementMeasures
  guarded_measures own marks arms =
      measures (limited (own + slot_at table arms arms_rows_slot)) (slot_at table arms arms_levels_slot) (limited (marks + slot_at table arms arms_labels_slot))

  abbrev pub rounds_measures : ℕ → StatementMeasures
  rounds_measures arms = around_arms (slot_at table arms arms_rows_slot) (guarded_measures 6 2 arms)

  -- `store` is how many rows store the value.
  abbrev pub declare_measures : ℕ → ℕ → StatementMeasures
  declare_measures store e = measures (limited (store + slot_at table e rows_slot)) (slot_at table e stored_levels_slot) 0

  abbrev pub return_measures : ℕ → StatementMeasures
  return_measures value = measures (limited (2 + slot_at table value rows_slot)) (slot_at table value levels_slot) 0

  -- ---- what the function that measures an arm gives; `next` is the row behind it

  abbrev pub arm_measures : ℕ → ℕ → ℕ → StatementMeasures
  arm_measures guard body next =
      measures (limited (5 + slot_at table guard rows_slot + slot_at table body statement_rows_slot + slot_at table next arms_rows_slot))
      (max (slot_at table guard levels_slot) (max (slot_at table body statement_levels_slot) (slot_at table next arms_levels_slot)))
      (limited (slot_at table body statement_labels_slot + slot_at table next arms_labels_slot))
