-- The arguments of a call in the table: the code of those behind the first, the code of the first, and the copy of its value where it waits. A
-- record for each place between them has what is known there; the laws below it are what the next part asks, and at last that the three are
-- the arguments' code.
use mathlib.Core.Path.{◌≡◌, sym, ap, ◌∙◌, refl}
use mathlib.Core.Bool.{Bool}
use mathlib.Core.List.{List}
use Prim.Native.Nat.{ℕ, ◌+◌, ◌*◌, ◌-◌, ◌/◌, ◌%◌, ◌≤◌, ◌<◌}
use native.Mathlib.Omega.{arith}
use lib.IntN.{ℤ}
use lib.ListN.{length}
use Rattle.words.specs.Table.{row_count, number_at}
use Rattle.words.specs.Over.{over}
use Rattle.language.specs.Trees.{Arguments, ◌also◌, ◌⧺◌}
use Rattle.language.specs.TreeLaws.{append-append}
use Rattle.language.specs.Calls.{argument_count}
use Rattle.language.specs.Decode.{expression_at, argument_list_at, part_at}
use Rattle.language.specs.DecodeLaws.{part-some}
use Rattle.translation.specs.declared.Use.TheVariants.{Wanted as wanted}
use Rattle.translation.specs.Translate.{atom_of, operand_code, operand_levels}
use Rattle.translation.specs.TranslateSize.{operand_size}
use Rattle.translation.specs.Holding.{hold_by}
use Rattle.language_emission.specs.Emission.{emit_items}
use Rattle.measures_table.specs.Parts.{called_in}
use Rattle.writers_rows.specs.Room.{Room, more_rows}
use Rattle.writers_rows.specs.Chain.{part, back_in, Reach, put-length, put-reach, put-room, room-less, Wrote, wrote-put, wrote-next, wrote_as}
use Rattle.writers_steps.specs.Asks.{Writing}
use Rattle.writers_steps.specs.AtomLaws.{rows-hold}
use Rattle.writers_calls.specs.Arguments.{size_by, levels_by, code_by}
use Rattle.writers_calls.specs.ArgumentLaws.{link-inside, passing-count}
use Rattle.writers_calls.specs.Asks.{Passing, TakenIs}
use Rattle.writers_calls.specs.CallCode.{rows_code}
use Rattle.writers_calls.specs.Ranks.{rank, rank_falls}
use Rattle.writers_expressions.specs.Asks.{OperandAsks, ArgumentsAsk}
use Rattle.writers_expressions.specs.CodeLaws.{rows-operand}

-- ---- what the caller promised

pub record ArgumentsAsked (S : ℕ) (rows : List ℤ) (table : List ℕ) (argument count copies level size base : ℕ) (out : List ℤ) : Type 0 where
  pub writing : Writing rows table S
  pub asks : ArgumentsAsk rows argument count copies level size base (length out)

pub arguments-asked : {S : ℕ} {rows : List ℤ} {table : List ℕ} {argument count copies level size base : ℕ} (out : List ℤ) → Writing rows table S × ArgumentsAsk rows argument count copies level size base (length out)
    → ArgumentsAsked S rows table argument count copies level size base out
arguments-asked out asked = record { writing = asked.0; asks = asked.1 }

-- the first one's rows are among theirs
pub value-small : {S : ℕ} {rows : List ℤ} {table : List ℕ} {argument count copies level size base e : ℕ} {out : List ℤ} → ArgumentsAsked S rows table argument count copies level size base out → Passing rows argument e
    → operand_size (called_in rows) (part_at rows e) wanted ≤ 40980
unfolding size_by
value-small {rows = rows} {copies = copies} {e = e} asked at =
    let value = ap (λ p. operand_size (called_in rows) p wanted) (part-some rows e (omega (arith, at.onward.later))) in
    omega (arith, asked.asks.size_is, asked.asks.room.low, ap (λ (arguments : Arguments). size_by (called_in rows) arguments copies) at.is, value)

-- ---- the first argument is known: `next` leads to those behind it, which take `taken` temporaries, and its code has `own` rows

pub record ArgumentFound (S : ℕ) (rows : List ℤ) (table : List ℕ) (argument count copies level size base : ℕ) (out : List ℤ) (e next taken own : ℕ) : Type 0 where
  pub asked : ArgumentsAsked S rows table argument count copies level size base out
  pub at : Passing rows argument e
  pub next_is : next ≡ number_at rows argument 5
  pub taken_is : TakenIs rows next (copies / 2) taken
  pub own_is : own ≡ operand_size (called_in rows) (part_at rows e) wanted

pub argument-found : {S : ℕ} {rows : List ℤ} {table : List ℕ} {argument count copies level size base : ℕ} {out : List ℤ} {e next taken own : ℕ} → ArgumentsAsked S rows table argument count copies level size base out → Passing rows argument e → next ≡ number_at rows argument 5
    → TakenIs rows next (copies / 2) taken → own ≡ operand_size (called_in rows) (part_at rows e) wanted → ArgumentFound S rows table argument count copies level size base out e next taken own
argument-found asked at next taken own = record { asked = asked; at = at; next_is = next; taken_is = taken; own_is = own }

module _ {S : ℕ} {rows : List ℤ} {table : List ℕ} {argument count copies level size base : ℕ} {out : List ℤ} {e next taken own : ℕ}
    (found : ArgumentFound S rows table argument count copies level size base out e next taken own) where
  abbrev called : ℕ → ℕ → Bool
  called = called_in rows

  abbrev behind : Arguments
  behind = argument_list_at rows next

  arguments-are : argument_list_at rows argument ≡ expression_at rows e also behind
  arguments-are = found.at.is ∙ ap (λ (n : ℕ). expression_at rows e also argument_list_at rows n) (sym found.next_is)

  some : 0 < e
  some = omega (arith, found.at.onward.later)

  pub value_inside : e < row_count rows
  value_inside = found.at.onward.inside

  pub next_inside : next < row_count rows
  next_inside = omega (arith, found.next_is, link-inside _ found.asked.asks.inside found.at.behind)

  pub next-falls : rank rows next < rank rows argument
  next-falls = omega (arith, ap (rank rows) found.next_is, rank_falls rows argument _ found.at.some found.asked.asks.inside (λ h. (found.at.behind h).later))

  pub value-falls : rank rows e < rank rows argument
  value-falls = rank_falls rows argument e found.at.some found.asked.asks.inside (λ h. found.at.onward.later)

  pub count_is : count ≡ 1 + argument_count behind
  count_is = omega (arith, found.asked.asks.count_is, passing-count found.at, ap (λ (n : ℕ). argument_count (argument_list_at rows n)) found.next_is)

  pub size_is : size ≡ size_by called behind (copies / 2) + (own + 4 * (copies % 2))
  unfolding size_by
  size_is =
      let value = found.own_is ∙ ap (λ p. operand_size called p wanted) (part-some rows e some) in
      omega (arith, found.asked.asks.size_is, ap (λ (arguments : Arguments). size_by called arguments copies) arguments-are, value)

  pub levels-low : (level + levels_by called behind (copies / 2) ≤ 2048) × (level + taken + operand_levels called (part_at rows e) wanted ≤ 2048)
  unfolding levels_by
  levels-low =
      let all = ap (λ (arguments : Arguments). levels_by called arguments copies) arguments-are in
      let value = ap (λ p. operand_levels called p wanted) (part-some rows e some) in
      (omega (arith, found.asked.asks.level_low, all), omega (arith, found.asked.asks.level_low, all, found.taken_is.is, value))

  pub behind-asks : ArgumentsAsk rows next (count - 1) (copies / 2) level (size - (own + 4 * (copies % 2))) base (length out)
  behind-asks = record {
    inside = next_inside;
    count_is = omega (arith, count_is);
    size_is = omega (arith, size_is);
    level_low = levels-low.0;
    room = room-less _ found.asked.asks.room (omega arith);
  }

  code_is : (code_by called S behind (copies / 2) level ⧺ operand_code called S (part_at rows e) wanted (level + taken)) ⧺ hold_by S (level + taken) (copies % 2) (atom_of called (expression_at rows e))
      ≡ code_by called S (argument_list_at rows argument) copies level
  unfolding code_by
  code_is =
      let value = ap (λ p. operand_code called S p wanted (level + taken)) (part-some rows e some) in
      rw (arguments-are, value, found.taken_is.is) (append-append _ _ _)

-- ---- those behind it are written

pub record BehindWritten (S : ℕ) (rows : List ℤ) (table : List ℕ) (argument count copies level size base : ℕ) (out : List ℤ) (e next taken own rest : ℕ) (more : Bool) (restTable : List ℤ) : Type 0 where
  pub found : ArgumentFound S rows table argument count copies level size base out e next taken own
  pub rest_is : rest ≡ size - (own + 4 * (copies % 2))
  pub table_is : restTable ≡ over (emit_items more (code_by (called_in rows) S (argument_list_at rows next) (copies / 2) level) base) out

pub behind-written : {S : ℕ} {rows : List ℤ} {table : List ℕ} {argument count copies level size base : ℕ} {out : List ℤ} {e next taken own : ℕ} (more : Bool) {restTable : List ℤ} → ArgumentFound S rows table argument count copies level size base out e next taken own
    → restTable ≡ over (emit_items more (code_by (called_in rows) S (argument_list_at rows next) (copies / 2) level) base) out
    → BehindWritten S rows table argument count copies level size base out e next taken own (size - (own + 4 * (copies % 2))) more restTable
behind-written more found e = record { found = found; rest_is = refl; table_is = e }

module _ {S : ℕ} {rows : List ℤ} {table : List ℕ} {argument count copies level size base : ℕ} {out : List ℤ} {e next taken own rest : ℕ} {more : Bool} {restTable : List ℤ}
    (written : BehindWritten S rows table argument count copies level size base out e next taken own rest more restTable) where
  rest-wrote : Wrote more (code_by (called_in rows) S (argument_list_at rows next) (copies / 2) level) base rest out restTable
  rest-wrote = record { table = written.table_is; size = omega (arith, rows_code (called_in rows) S (argument_list_at rows next) (copies / 2) level, size_is written.found, written.rest_is) }

  pub rest-reach : Reach rest base restTable
  rest-reach = put-reach 0 (wrote-put rest-wrote) written.found.asked.asks.room (omega (arith, written.rest_is))

  pub value-asks : OperandAsks rows e wanted (level + taken) (base + rest) (length (part rest restTable))
  value-asks = record {
    inside = value_inside written.found;
    level_low = (levels-low written.found).1;
    use_fits = tt;
    room = put-room _ (wrote-put rest-wrote) written.found.asked.asks.room (omega (arith, written.rest_is, size_is written.found, written.found.own_is));
  }

-- ---- its code is written: `value_words` is the part behind those

pub record ValueWritten (S : ℕ) (rows : List ℤ) (table : List ℕ) (argument count copies level size base : ℕ) (out : List ℤ) (e next taken own rest : ℕ) (more : Bool) (restTable : List ℤ) (held : Bool) (value_words : List ℤ) : Type 0 where
  pub behind : BehindWritten S rows table argument count copies level size base out e next taken own rest more restTable
  pub more_is : more ≡ more_rows held own
  pub table_is : value_words ≡ over (emit_items held (operand_code (called_in rows) S (part_at rows e) wanted (level + taken)) (base + rest)) (part rest restTable)

pub value-written : {S : ℕ} {rows : List ℤ} {table : List ℕ} {argument count copies level size base : ℕ} {out : List ℤ} {e next taken own rest : ℕ} {more : Bool} {restTable : List ℤ} (held : Bool) {value_words : List ℤ}
    → BehindWritten S rows table argument count copies level size base out e next taken own rest more restTable → more ≡ more_rows held own
    → value_words ≡ over (emit_items held (operand_code (called_in rows) S (part_at rows e) wanted (level + taken)) (base + rest)) (part rest restTable)
    → ValueWritten S rows table argument count copies level size base out e next taken own rest more restTable held value_words
value-written held behind more e = record { behind = behind; more_is = more; table_is = e }

module _ {S : ℕ} {rows : List ℤ} {table : List ℕ} {argument count copies level size base : ℕ} {out : List ℤ} {e next taken own rest : ℕ} {more : Bool} {restTable : List ℤ} {held : Bool} {value_words : List ℤ}
    (written : ValueWritten S rows table argument count copies level size base out e next taken own rest more restTable held value_words) where
  abbrev found : ArgumentFound S rows table argument count copies level size base out e next taken own
  found = written.behind.found

  value-wrote : Wrote held (code_by (called_in rows) S (argument_list_at rows next) (copies / 2) level ⧺ operand_code (called_in rows) S (part_at rows e) wanted (level + taken)) base (rest + own) out (back_in rest restTable value_words)
  value-wrote =
      wrote-next (rw written.more_is at (rest-wrote written.behind))
      (record { table = written.table_is; size = rows-operand (called_in rows) S (part_at rows e) wanted (level + taken) ∙ sym found.own_is })

  pub value-reach : Reach (rest + own) base (back_in rest restTable value_words)
  value-reach = put-reach 0 (wrote-put value-wrote) found.asked.asks.room (omega (arith, size_is found, written.behind.rest_is))

  pub argument-room : Room (4 * (copies % 2)) (base + (rest + own)) (length (part (rest + own) (back_in rest restTable value_words)))
  argument-room = put-room _ (wrote-put value-wrote) found.asked.asks.room (omega (arith, size_is found, written.behind.rest_is))

  -- ---- the copy is written: `holdWords` is the part behind the code

  module _ (follows : Bool) {holdWords : List ℤ} (held-is : held ≡ more_rows follows (4 * (copies % 2)))
      (table_is : holdWords ≡ over (emit_items follows (hold_by S (level + taken) (copies % 2) (atom_of (called_in rows) (expression_at rows e))) (base + (rest + own))) (part (rest + own) (back_in rest restTable value_words))) where
    all-wrote : Wrote follows (code_by (called_in rows) S (argument_list_at rows argument) copies level) base (rest + own + 4 * (copies % 2)) out (back_in (rest + own) (back_in rest restTable value_words) holdWords)
    all-wrote =
        wrote_as _
        (wrote-next (rw held-is at value-wrote) (record { table = table_is; size = rows-hold S (level + taken) (copies % 2) (atom_of (called_in rows) (expression_at rows e)) (omega arith) }))
        (code_is found)

    pub arguments-length : length (back_in (rest + own) (back_in rest restTable value_words) holdWords) ≡ length out
    arguments-length = put-length (wrote-put all-wrote) (omega (arith, size_is found, written.behind.rest_is, found.asked.asks.room.inside))

    pub arguments-written : back_in (rest + own) (back_in rest restTable value_words) holdWords ≡ over (emit_items follows (code_by (called_in rows) S (argument_list_at rows argument) copies level) base) out
    arguments-written = all-wrote.table
