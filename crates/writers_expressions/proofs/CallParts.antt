-- A call in the table: its arguments' code, and the call on what holds them. A record for each place between them has what is known there; the
-- laws below it are what the next part asks, and at last that the two are the call's code.
use mathlib.Core.Path.{◌≡◌, sym, ap, ◌∙◌}
use mathlib.Core.Bool.{Bool, true}
use mathlib.Core.List.{List}
use Prim.Native.Nat.{ℕ, ◌+◌, ◌*◌, ◌-◌, ◌≤◌, ◌<◌}
use native.Mathlib.Omega.{arith}
use lib.IntN.{ℤ}
use lib.ListN.{length}
use Rattle.words.specs.Table.{row_count}
use Rattle.words.specs.Over.{over}
use Rattle.language.specs.Trees.{Expression, assign, call, variable, Arguments, express, Items, none, ◌then◌, ◌⧺◌}
use Rattle.language.specs.Decode.{expression_at, argument_list_at, part_at}
use Rattle.language.specs.DecodeLaws.{part-some}
use Rattle.language.specs.Sizes.{items_rows}
use Rattle.translation.specs.declared.Use.{Use}
use Rattle.translation.specs.Translate.{nothing, target, expression_levels, expression_code}
use Rattle.translation.specs.TranslateSize.{expression_size, operand_size}
use Rattle.translation.proofs.TranslateRows.{rows_append, rows-expression}
use Rattle.language_emission.specs.Emission.{emit_items}
use Rattle.language_shapes.specs.CallLaws.{call-behind}
use Rattle.measures_table.specs.Arguments.{argument_copies, call_copies}
use Rattle.measures_table.specs.Parts.{called_in}
use Rattle.writers_rows.specs.Chain.{part, back_in, Reach, put-length, put-reach, put-room, room-less, more-some, Wrote, wrote-put, wrote-next, wrote_as}
use Rattle.writers_steps.specs.Asks.{Writing, TargetIs}
use Rattle.writers_calls.specs.Arguments.{size_by, levels_by, atoms_by, code_by}
use Rattle.writers_calls.specs.ArgumentLaws.{link-inside, atoms-by, code-by}
use Rattle.writers_calls.specs.Asks.{CallAt, CountIs, CallAsks}
use Rattle.writers_calls.specs.CallCode.{size-by, levels-by, taken-levels, rows_code}
use Rattle.writers_calls.specs.declared.CallRow.{CallRow}
use Rattle.writers_calls.specs.Ranks.{rank, rank_most, rank_below}
use Rattle.writers_expressions.specs.Asks.{CalledAsks, ArgumentsAsk}

-- ---- what the caller promised

pub record CallAsked (S : ℕ) (rows : List ℤ) (table : List ℕ) (row : ℕ) (u : Use) (level base : ℕ) (out : List ℤ) : Type 0 where
  pub writing : Writing rows table S
  pub asks : CalledAsks rows row u level base (length out)

pub call-asked : {S : ℕ} {rows : List ℤ} {table : List ℕ} {row : ℕ} {u : Use} {level base : ℕ} (out : List ℤ) → Writing rows table S × CalledAsks rows row u level base (length out) → CallAsked S rows table row u level base out
call-asked out asked = record { writing = asked.0; asks = asked.1 }

module _ {S : ℕ} {rows : List ℤ} {table : List ℕ} {row : ℕ} {u : Use} {level base : ℕ} {out : List ℤ} (asked : CallAsked S rows table row u level base out) where
  pub call-small : operand_size (called_in rows) (part_at rows row) u ≤ 40980
  call-small = omega (arith, ap (λ p. operand_size (called_in rows) p u) (part-some rows row asked.asks.some), asked.asks.room.low)

  pub target_low : S + level < 65536
  target_low = omega (arith, asked.writing.small_store, asked.asks.level_low)

  -- ---- the call is known

  -- `copies` tells which arguments are copied, which are `count`; the call takes `all` rows, and its result goes into the word `number`.
  pub record CallFound (r : CallRow) (copies count number : ℕ) : Type 0 where
    pub at : CallAt rows row r
    pub copies_are : copies ≡ call_copies (called_in rows) (expression_at rows row)
    pub counted : CountIs rows r.first count
    pub target_is : TargetIs S u level number

  pub call-found : {r : CallRow} {copies count number : ℕ} → CallAt rows row r → copies ≡ call_copies (called_in rows) (expression_at rows row) → CountIs rows r.first count → TargetIs S u level number → CallFound r copies count number
  call-found at copies counted target = record { at = at; copies_are = copies; counted = counted; target_is = target }

module _ {S : ℕ} {rows : List ℤ} {table : List ℕ} {row : ℕ} {u : Use} {level base : ℕ} {out : List ℤ} {asked : CallAsked S rows table row u level base out}
    {r : CallRow} {copies count number : ℕ} (found : CallFound asked r copies count number) where
  abbrev called : ℕ → ℕ → Bool
  called = called_in rows

  abbrev arguments : Arguments
  arguments = argument_list_at rows r.first

  pub first_inside : r.first < row_count rows
  first_inside = link-inside r.first asked.asks.inside found.at.onward

  pub first_below : rank rows r.first < row_count rows - row
  first_below = rank_below rows row r.first asked.asks.inside (λ h. (found.at.onward h).later)

  pub count_low : count ≤ 2048
  count_low = omega (arith, found.counted.low, rank_most rows r.first, asked.writing.measured.source.few_rows)

  function_low : r.function < 65536
  function_low = omega (arith, call-behind asked.writing.measured.source asked.asks.inside found.at.is, asked.asks.inside, asked.writing.measured.source.few_rows)

  copied-are : copies ≡ argument_copies called arguments nothing
  copied-are = found.copies_are ∙ ap (call_copies called) found.at.is

  all-rows : operand_size called (part_at rows row) u ≡ size_by called arguments copies + (4 + 2 * count)
  unfolding expression_size
  all-rows =
      let parts = ap (λ p. operand_size called p u) (part-some rows row asked.asks.some) in
      let whole = ap (λ (e : Expression). expression_size called e u) found.at.is in
      let behind = ap (size_by called arguments) copied-are ∙ size-by called arguments nothing in
      omega (arith, parts, whole, behind, found.counted.is)

  pub own-within : 4 + 2 * count ≤ operand_size called (part_at rows row) u
  own-within = omega (arith, all-rows)

  levels-low : level + levels_by called arguments copies ≤ 2048
  unfolding expression_levels
  levels-low =
      let whole = ap (λ (e : Expression). expression_levels called e u) found.at.is in
      let behind = ap (levels_by called arguments) copied-are ∙ levels-by called arguments nothing in
      omega (arith, asked.asks.level_low, whole, behind)

  pub arguments-ask : {all : ℕ} → all ≡ operand_size called (part_at rows row) u → ArgumentsAsk rows r.first count copies level (all - (4 + 2 * count)) base (length out)
  arguments-ask e = record {
    inside = first_inside;
    count_is = found.counted.is;
    size_is = omega (arith, e, all-rows);
    level_low = levels-low;
    room = room-less _ asked.asks.room (omega (arith, e, ap (λ p. operand_size called p u) (part-some rows row asked.asks.some)));
  }

  -- The code of both parts is the call's.
  code_is : code_by called S arguments copies level ⧺ (express (assign (variable number) (call r.function (atoms_by called S arguments copies level))) then none) ≡ expression_code called S (expression_at rows row) u level
  unfolding expression_code
  code_is =
      let code = ap (λ (n : ℕ). code_by called S arguments n level) copied-are ∙ code-by called S arguments nothing level in
      let atoms = ap (λ (n : ℕ). atoms_by called S arguments n level) copied-are ∙ atoms-by called S arguments nothing level in
      rw (found.at.is, code, atoms, found.target_is.is)

  -- ---- the arguments' code is written

  pub record ArgumentsWritten (n : ℕ) (argumentsTable : List ℤ) : Type 0 where
    pub rows_are : n + (4 + 2 * count) ≡ operand_size called (part_at rows row) u
    pub table_is : argumentsTable ≡ over (emit_items true (code_by called S arguments copies level) base) out

  pub passed-written : {all : ℕ} {argumentsTable : List ℤ} → all ≡ operand_size called (part_at rows row) u → argumentsTable ≡ over (emit_items true (code_by called S arguments copies level) base) out
      → ArgumentsWritten (all - (4 + 2 * count)) argumentsTable
  passed-written size e = record { rows_are = omega (arith, size, own-within); table_is = e }

module _ {S : ℕ} {rows : List ℤ} {table : List ℕ} {row : ℕ} {u : Use} {level base : ℕ} {out : List ℤ} {asked : CallAsked S rows table row u level base out}
    {r : CallRow} {copies count number : ℕ} {found : CallFound asked r copies count number} {n : ℕ} {argumentsTable : List ℤ} (written : ArgumentsWritten found n argumentsTable) where
  some_size : operand_size (called found) (part_at rows row) u ≡ expression_size (called found) (expression_at rows row) u
  some_size = ap (λ p. operand_size (called found) p u) (part-some rows row asked.asks.some)

  arguments-wrote : Wrote true (code_by (called found) S (arguments found) copies level) base n out argumentsTable
  arguments-wrote = record { table = written.table_is; size = omega (arith, rows_code (called found) S (arguments found) copies level, all-rows found, written.rows_are) }

  pub arguments-reach : Reach n base argumentsTable
  arguments-reach = put-reach 0 (wrote-put arguments-wrote) asked.asks.room (omega (arith, written.rows_are, some_size))

  pub call_asks : CallAsks rows number r.function r.first copies level (4 + 2 * count) (base + n) (length (part n argumentsTable))
  call_asks = record {
    inside = first_inside found;
    number_low = found.target_is.fits;
    function_low = function_low found;
    size_is = omega (arith, found.counted.is);
    level_low = omega (arith, levels-low found, taken-levels (called found) (arguments found) copies);
    room = put-room _ (wrote-put arguments-wrote) asked.asks.room (omega (arith, written.rows_are, some_size));
  }

  abbrev own : Items
  own = express (assign (variable number) (call r.function (atoms_by (called found) S (arguments found) copies level))) then none

  own-rows : items_rows own ≡ 4 + 2 * count
  own-rows =
      let all = ap items_rows (code_is found) ∙ rows-expression (called found) S (expression_at rows row) u level in
      omega (arith, all, rows_append (code_by (called found) S (arguments found) copies level) own, rows_code (called found) S (arguments found) copies level, all-rows found, some_size)

  -- ---- the call is written: `call_words` is the part behind the arguments

  module _ (follows : Bool) {call_words : List ℤ}
      (table_is : call_words ≡ over (emit_items follows (express (assign (variable number) (call r.function (atoms_by (called found) S (arguments found) copies level))) then none) (base + n)) (part n argumentsTable)) where
    all-wrote : Wrote follows (expression_code (called found) S (expression_at rows row) u level) base (n + (4 + 2 * count)) out (back_in n argumentsTable call_words)
    all-wrote =
        wrote_as _
        (wrote-next (rw (sym (more-some follows (4 + 2 * count) (omega arith))) at arguments-wrote) (record { table = table_is; size = own-rows }))
        (code_is found)

    pub call_length : length (back_in n argumentsTable call_words) ≡ length out
    call_length = put-length (wrote-put all-wrote) (omega (arith, written.rows_are, some_size, asked.asks.room.inside))

    pub call-written : back_in n argumentsTable call_words ≡ over (emit_items follows (expression_code (called found) S (expression_at rows row) u level) base) out
    call-written = all-wrote.table
