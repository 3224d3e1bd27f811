-- Parts: an expression's code in parts. Two operands may be worked out first, the second above the first; two more stand in branches.
-- What is added up over the code of an expression is added up over these parts. And what the code finds of them at a row.
use Rattle.std.specs.Prelude.{◌≡◌, Bool, true, false, List, ℕ, ◌+◌, ◌<◌, max, ℤ}
use Rattle.words.specs.Word.{pick}
use Rattle.words.specs.Table.{row_count}
use Rattle.language.specs.Trees.{Expression, constant, read, minus, not, binary, and, or, comma, conditional, assign, compound, prefix, postfix, call, Place, variable, element, Part, absent, present}
use Rattle.language.specs.Decode.{place_of, expression_at, part_at}
use Rattle.language.specs.Writes.{writes, index_writes}
use Rattle.language.specs.FunctionWrites.{functions_write}
use Rattle.language.specs.Program.{contents}
use Rattle.language_shapes.specs.Shapes.{OptionalOnward}
use Rattle.language_shapes.specs.Source.{most_words, Name}
use Rattle.language_shapes.specs.declared.PlaceShape.{PlaceShape}
use Rattle.language_shapes.specs.declared.PlaceShape.TheVariants.{Variable as VariableShape, Element as ElementShape}
use Rattle.language_shapes.specs.declared.OperationShape.{OperationShape}
use Rattle.language_shapes.specs.declared.OperationShape.TheVariants.{Minus, Not, Binary, Comma, Assign, Compound, Prefix, Postfix}
use Rattle.translation.specs.Uses.{use_for, passed_on, direct}
use Rattle.translation.specs.declared.Use.{Use}
use Rattle.translation.specs.declared.Use.TheVariants.{Dropped as dropped, Wanted as wanted, Stored as stored}
use Rattle.translation.specs.Translate.{Atom, number, word, top, held, nothing, landed, updated, atom_of, taken, result_levels, read_levels, old_levels, arguments_levels}
use Rattle.translation.specs.TranslateSize.{index_rows, copied, own_rows, arguments_size}
use Rattle.measures_table.specs.declared.Holder.{Holder}
use Rattle.measures_table.specs.declared.Holder.TheVariants.{Number, Variable, Temporary}
use Rattle.measures_table.specs.declared.Own.{Own}
use Rattle.measures_table.specs.declared.PlaceOwn.{PlaceOwn}

-- What the functions of a table's program can write.
abbrev pub called_in : List ℤ → ℕ → ℕ → Bool
called_in rows = functions_write (contents rows)

abbrev pub index_of : Place → Part
index_of (variable i) = absent
index_of (element array e) = present e

abbrev pub read_atom : Place → Atom
read_atom (variable i) = word i
read_atom (element array e) = top

pub record Parts : Type 0 where
  pub first : Part
  pub second : Part
  pub third : Part
  pub fourth : Part
  -- how far above the first operand the second one is worked out
  pub above : ℕ
  -- 1 where the value of the first operand is copied, because the second one can write it
  pub copied : ℕ
  -- the atom of an expression that is neither a comma nor an assignment, whose atoms are those of their right operands; an assignment's
  -- where its value went straight into its variable, or was copied
  pub atom : Atom

abbrev pub parts : Part → Part → Part → Part → ℕ → ℕ → Atom → Parts
parts first second third fourth above copies atom =
    record { first = first; second = second; third = third; fourth = fourth; above = above; copied = copies; atom = atom }

-- The use of the first operand's value, and that of the second one's, where u is the use of the expression's. Those in branches are wanted.
abbrev pub first_use : Expression → Use
first_use (constant v) = wanted
first_use (read p) = wanted
first_use (minus e) = wanted
first_use (not e) = wanted
first_use (binary operator a b) = wanted
first_use (and a b) = wanted
first_use (or a b) = wanted
first_use (comma a b) = dropped
first_use (conditional c a b) = wanted
first_use (assign p e) = use_for p
first_use (compound operator p e) = wanted
first_use (prefix operator p) = wanted
first_use (postfix operator p) = wanted
first_use (call f arguments) = wanted

abbrev pub second_use : Expression → Use → Use
second_use (constant v) u = wanted
second_use (read p) u = wanted
second_use (minus e) u = wanted
second_use (not e) u = wanted
second_use (binary operator a b) u = wanted
second_use (and a b) u = wanted
second_use (or a b) u = wanted
second_use (comma a b) u = passed_on u
second_use (conditional c a b) u = wanted
second_use (assign p e) u = wanted
second_use (compound operator p e) u = wanted
second_use (prefix operator p) u = wanted
second_use (postfix operator p) u = wanted
second_use (call f arguments) u = wanted

-- `called f i`: whether function f can write the variable i.
module _ (called : ℕ → ℕ → Bool) where
  -- The levels of an update: none for a variable; for an element the result's, the index's and one above it.
  abbrev pub update_own : Place → ℕ
  update_own (variable i) = 0
  update_own (element array e) = 2 + taken (atom_of called e)

  -- e++ and e−− keep a variable's old value where it is used.
  abbrev pub postfix_own : Place → Use → ℕ
  postfix_own (variable i) u = old_levels u
  postfix_own (element array e) u = 2 + taken (atom_of called e)

  abbrev pub parts_of : Expression → Parts
  parts_of (constant v) = parts absent absent absent absent 0 0 (number v)
  parts_of (read p) = parts (index_of p) absent absent absent 0 0 (read_atom p)
  parts_of (minus e) = parts (present e) absent absent absent 0 0 top
  parts_of (not e) = parts (present e) absent absent absent 0 0 top
  parts_of (binary operator a b) = parts (present b) (present a) absent absent (taken (held (atom_of called b) (writes called a))) (copied (atom_of called b) (writes called a)) top
  parts_of (and a b) = parts (present a) absent (present b) absent 0 0 top
  parts_of (or a b) = parts (present a) absent (present b) absent 0 0 top
  parts_of (comma a b) = parts (present a) (present b) absent absent 0 0 top
  parts_of (conditional c a b) = parts (present c) absent (present a) (present b) 0 0 top
  parts_of (assign p e) =
      parts (present e) (index_of p) absent absent (taken (held (landed p (direct e) (atom_of called e)) (index_writes called p))) (copied (atom_of called e) (index_writes called p)) (updated p)
  parts_of (compound operator p e) = parts (present e) (index_of p) absent absent (index_rows p) (copied (atom_of called e) (index_writes called p)) (updated p)
  parts_of (prefix operator p) = parts absent (index_of p) absent absent (index_rows p) 0 (updated p)
  parts_of (postfix operator p) = parts absent (index_of p) absent absent (index_rows p) 0 top
  parts_of (call f arguments) = parts absent absent absent absent 0 0 top

  abbrev pub first_operand : Expression → Part
  first_operand e = (parts_of e).first

  abbrev pub second_operand : Expression → Part
  second_operand e = (parts_of e).second

  abbrev pub third_operand : Expression → Part
  third_operand e = (parts_of e).third

  abbrev pub fourth_operand : Expression → Part
  fourth_operand e = (parts_of e).fourth

  abbrev pub above_first : Expression → ℕ
  above_first e = (parts_of e).above

  abbrev pub first_copied : Expression → ℕ
  first_copied e = (parts_of e).copied

  abbrev pub plain_atom : Expression → Atom
  plain_atom e = (parts_of e).atom

  -- The levels that the expression's own code names; a call's, with those of its arguments.
  abbrev pub own_levels : Expression → Use → ℕ
  own_levels (constant v) u = 0
  own_levels (read p) u = read_levels p u
  own_levels (minus e) u = result_levels u
  own_levels (not e) u = result_levels u
  own_levels (binary operator a b) u = result_levels u
  own_levels (and a b) u = 1
  own_levels (or a b) u = 1
  own_levels (comma a b) u = 0
  own_levels (conditional c a b) u = 1
  own_levels (assign p e) u = 0
  own_levels (compound operator p e) u = update_own p
  own_levels (prefix operator p) u = update_own p
  own_levels (postfix operator p) u = postfix_own p u
  own_levels (call f arguments) u = max (result_levels u) (arguments_levels called arguments nothing)

  -- The rows of a call's arguments.
  abbrev pub passed_rows : Expression → ℕ
  passed_rows (constant v) = 0
  passed_rows (read p) = 0
  passed_rows (minus e) = 0
  passed_rows (not e) = 0
  passed_rows (binary operator a b) = 0
  passed_rows (and a b) = 0
  passed_rows (or a b) = 0
  passed_rows (comma a b) = 0
  passed_rows (conditional c a b) = 0
  passed_rows (assign p e) = 0
  passed_rows (compound operator p e) = 0
  passed_rows (prefix operator p) = 0
  passed_rows (postfix operator p) = 0
  passed_rows (call f arguments) = arguments_size called arguments nothing

-- ---- what an own row brings, as the code puts it together

-- An expression whose own code does not depend on the use of its value.
abbrev pub plain_own : ℕ → ℕ → ℕ → ℕ → ℕ → ℕ → ℕ → ℕ → Own
plain_own a b c d above n levels value =
    record { first = a; second = b; third = c; fourth = d; first_use = wanted; passes = false; above = above; rows = n; levels = levels; dropped_rows = n; dropped_levels = levels; stored_levels = levels; value = value }

-- An element or an operation.
abbrev pub result_own : ℕ → ℕ → ℕ → ℕ → ℕ → Own
result_own a b above n value =
    record { first = a; second = b; third = 0; fourth = 0; first_use = wanted; passes = false; above = above; rows = n; levels = 1; dropped_rows = n; dropped_levels = 1; stored_levels = 0; value = value }

-- An assignment to the variable i.
abbrev pub stored_own : ℕ → ℕ → ℕ → ℕ → ℕ → Own
stored_own i a above n value =
    record { first = a; second = 0; third = 0; fourth = 0; first_use = stored i; passes = false; above = above; rows = n; levels = 0; dropped_rows = n; dropped_levels = 0; stored_levels = 0; value = value }

abbrev pub comma_own : ℕ → ℕ → ℕ → Own
comma_own a b value =
    record { first = a; second = b; third = 0; fourth = 0; first_use = dropped; passes = true; above = 0; rows = 0; levels = 0; dropped_rows = 0; dropped_levels = 0; stored_levels = 0; value = value }

-- e++ and e−− on a variable.
abbrev pub step_own : ℕ → Own
step_own value =
    record { first = 0; second = 0; third = 0; fourth = 0; first_use = wanted; passes = false; above = 0; rows = 10; levels = 1; dropped_rows = 6; dropped_levels = 0; stored_levels = 1; value = value }

-- ---- what the code finds at a row

-- The use of the second operand's value, by whether the expression passes its own on.
abbrev pub use_passed : Bool → Use → Use
use_passed passes u = pick passes (passed_on u) wanted

-- The variable that stores a value is one that a source can name.
abbrev pub UseFits : Use → Type 0
UseFits dropped = Unit {0}
UseFits wanted = Unit {0}
UseFits (stored i) = i < most_words

-- What an own row brings, by the use of its value.
abbrev pub rows_by : Own → Use → ℕ
rows_by o dropped = o.dropped_rows
rows_by o wanted = o.rows
rows_by o (stored i) = o.rows

abbrev pub levels_by : Own → Use → ℕ
levels_by o dropped = o.dropped_levels
levels_by o wanted = o.levels
levels_by o (stored i) = o.stored_levels

module _ (rows : List ℤ) (row : ℕ) where
  -- An operand: what it is, and that its link leads on.
  pub record Operand (link : ℕ) (part : Part) : Type 0 where
    pub is : part_at rows link ≡ part
    pub onward : OptionalOnward rows row link

  -- What the row brings, where e is its expression.
  pub record Brings (e : Expression) (o : Own) : Type 0 where
    pub first : Operand o.first (first_operand (called_in rows) e)
    pub second : Operand o.second (second_operand (called_in rows) e)
    pub third : Operand o.third (third_operand (called_in rows) e)
    pub fourth : Operand o.fourth (fourth_operand (called_in rows) e)
    pub first-use : o.first_use ≡ first_use e
    pub first_fits : UseFits o.first_use
    pub second-use : (u : Use) → use_passed o.passes u ≡ second_use e u
    pub above-is : o.above ≡ above_first (called_in rows) e
    pub rows_are : o.rows ≡ own_rows (called_in rows) e wanted
    pub levels_are : o.levels ≡ own_levels (called_in rows) e wanted
    pub dropped_rows_are : o.dropped_rows ≡ own_rows (called_in rows) e dropped
    pub dropped_levels_are : o.dropped_levels ≡ own_levels (called_in rows) e dropped
    -- in which variable a value is stored changes nothing here
    pub stored_levels_are : o.stored_levels ≡ own_levels (called_in rows) e (stored 0)
    pub value_is : plain_atom (called_in rows) (expression_at rows o.value) ≡ atom_of (called_in rows) e
    pub value_inside : o.value < row_count rows

  abbrev pub OwnAt : Own → Type 0
  OwnAt o = Brings (expression_at rows row) o

  -- What the place at this row brings.
  pub record PlaceOwnAt (o : PlaceOwn) : Type 0 where
    pub index : Operand o.index (index_of (place_of (expression_at rows row)))
    pub rows_are : o.rows ≡ index_rows (place_of (expression_at rows row))
    pub levels_are : o.levels ≡ update_own (called_in rows) (place_of (expression_at rows row))

-- ---- what holds a value, as the code says it

abbrev pub holder_atom : Holder → Atom
holder_atom (Number v) = number v
holder_atom (Variable i) = word i
holder_atom Temporary = top

abbrev pub HolderFits : List ℤ → Holder → Type 0
HolderFits rows (Number v) = Unit {0}
HolderFits rows (Variable i) = Name rows i
HolderFits rows Temporary = Unit {0}

-- A variable holds its own value; an element's goes into the temporary.
abbrev pub place_holder : PlaceShape → Holder
place_holder (VariableShape i) = Variable i
place_holder (ElementShape array index) = Temporary

-- Whether an operation gives a result.
abbrev pub direct_operation : OperationShape → Bool
direct_operation (Minus a) = true
direct_operation (Not a) = true
direct_operation (Binary operator a b) = true
direct_operation (Comma a b) = false
direct_operation (Assign p e) = false
direct_operation (Compound operator p e) = false
direct_operation (Prefix operator p) = false
direct_operation (Postfix operator p) = false

pub record Holding (rows : List ℤ) (h : Atom) (r : Holder) : Type 0 where
  pub is : holder_atom r ≡ h
  pub fits : HolderFits rows r
