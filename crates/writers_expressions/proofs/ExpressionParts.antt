-- The parts of an expression in the table: its first operand's code, the copy of its value where it waits, its second operand's code, what
-- it does with their values. A record for each place between them has what is known there; the laws below it are what the next part asks,
-- and at last that the four are the expression's code.
use mathlib.Core.Path.{◌≡◌, sym, ap, ap₂, subst, ◌∙◌}
use mathlib.Core.Bool.{Bool, true, false}
use mathlib.Core.List.{List}
use Prim.Native.Nat.{ℕ, zero, suc, ◌+◌, ◌*◌, ◌-◌, ◌≤◌, ◌<◌}
use native.Mathlib.Omega.{arith}
use lib.IntN.{ℤ}
use lib.ListN.{length}
use Rattle.words.specs.Table.{row_count}
use Rattle.words.specs.Over.{over}
use Rattle.language.specs.Trees.{◌⧺◌}
use Rattle.language.specs.Decode.{expression_at, part_at}
use Rattle.language.specs.DecodeLaws.{part-some}
use Rattle.translation.specs.TranslateSize.{operand_size}
use Rattle.language_emission.specs.Emission.{emit_items}
use Rattle.language_shapes.specs.Shapes.{OptionalOnward}
use Rattle.language_shapes.specs.Functions.{is_call}
use Rattle.language_shapes.specs.Source.{Source}
use Rattle.translation.specs.declared.Use.{Use}
use Rattle.translation.specs.Translate.{atom_of, expression_code, operand_code, expression_levels, operand_levels}
use Rattle.translation.specs.Holding.{hold_by}
use Rattle.measures_table.specs.Parts.{called_in, first_operand, above_first, first_copied, second_use, use_passed, UseFits, OwnAt}
use Rattle.measures_table.specs.MeasureLaws.{passed-fits, size-parts, levels-parts, first-copied-most, own-copies}
use Rattle.measures_table.specs.declared.Own.{Own}
use Rattle.writers_rows.specs.Room.{Room, more_rows}
use Rattle.writers_rows.specs.Straight.{last_size}
use Rattle.writers_steps.specs.Asks.{Writing}
use Rattle.writers_steps.specs.AtomLaws.{rows-hold}
use Rattle.writers_rows.specs.Chain.{part, back_in, Reach, put-length, put-reach, put-room, room-less, Wrote, wrote-put, wrote-next, wrote_as}
use Rattle.writers_expressions.specs.Code.{wait_code, last_code}
use Rattle.writers_expressions.specs.Asks.{OperandAsks, CalledAsks, LastAsks}
use Rattle.writers_expressions.specs.CodeLaws.{code-parts, rows-operand, wait-hold, hold-part, waits-some, rows_last}
use Rattle.writers_calls.specs.Ranks.{rank, rank_falls}

-- A link that is absent or goes onward is inside.
inside_of : {rows : List ℤ} {row : ℕ} (link : ℕ) → Source rows → OptionalOnward rows row link → link < row_count rows
inside_of zero s o = s.sound.some_rows
inside_of (suc link) s o = (o (omega arith)).inside

-- ---- what the caller promised

pub record ExpressionAsked (S : ℕ) (rows : List ℤ) (table : List ℕ) (row : ℕ) (u : Use) (level base : ℕ) (out : List ℤ) : Type 0 where
  pub writing : Writing rows table S
  pub asks : OperandAsks rows row u level base (length out)

pub expression-asked : {S : ℕ} {rows : List ℤ} {table : List ℕ} {row : ℕ} {u : Use} {level base : ℕ} (out : List ℤ) → Writing rows table S × OperandAsks rows row u level base (length out) → ExpressionAsked S rows table row u level base out
expression-asked out asked = record { writing = asked.0; asks = asked.1 }

module _ {S : ℕ} {rows : List ℤ} {table : List ℕ} {row : ℕ} {u : Use} {level base : ℕ} {out : List ℤ} (asked : ExpressionAsked S rows table row u level base out) where
  pub source : Source rows
  source = asked.writing.measured.source

  pub all_small : operand_size (called_in rows) (part_at rows row) u ≤ 40980
  all_small = omega (arith, asked.asks.room.low)

  -- ---- the row is not absent, and is a call

  pub called-asks : 0 < row → is_call (expression_at rows row) ≡ true → CalledAsks rows row u level base (length out)
  called-asks some is = record {
    some = some;
    inside = asked.asks.inside;
    is_call = is;
    level_low = omega (arith, asked.asks.level_low, ap (λ p. operand_levels (called_in rows) p u) (part-some rows row some));
    use_fits = asked.asks.use_fits;
    room = room-less _ asked.asks.room (omega (arith, ap (λ p. operand_size (called_in rows) p u) (part-some rows row some)));
  }

  pub called-code : 0 < row → expression_code (called_in rows) S (expression_at rows row) u level ≡ operand_code (called_in rows) S (part_at rows row) u level
  called-code some = sym (ap (λ p. operand_code (called_in rows) S p u level) (part-some rows row some))

  -- ---- the row is no call, and its operands are known

  -- `copied` is 1 where the value of the first one is copied; v is the use of the second one's.
  pub record OperandsFound (copied : ℕ) (operands : Own) (v : Use) : Type 0 where
    pub some : 0 < row
    pub no_call : is_call (expression_at rows row) ≡ false
    pub copied_is : copied ≡ first_copied (called_in rows) (expression_at rows row)
    pub at : OwnAt rows row operands
    pub passed : v ≡ use_passed operands.passes u

  pub operands-found : {called : Bool} {copied : ℕ} {operands : Own} {v : Use} → (row ≡ 0 → ⊥) → called ≡ is_call (expression_at rows row) → called ≡ false → copied ≡ first_copied (called_in rows) (expression_at rows row)
      → OwnAt rows row operands → v ≡ use_passed operands.passes u → OperandsFound copied operands v
  operands-found some called no_call copied at passed = record { some = omega (arith, some); no_call = sym called ∙ no_call; copied_is = copied; at = at; passed = passed }

module _ {S : ℕ} {rows : List ℤ} {table : List ℕ} {row : ℕ} {u : Use} {level base : ℕ} {out : List ℤ} {asked : ExpressionAsked S rows table row u level base out}
    {copied : ℕ} {operands : Own} {v : Use} (found : OperandsFound asked copied operands v) where
  second-use : v ≡ second_use (expression_at rows row) u
  second-use = found.passed ∙ found.at.second-use u

  -- The rows of an expression are those of its operands, of the copy, and those behind them.
  all-rows : operand_size (called_in rows) (part_at rows row) u ≡ operand_size (called_in rows) (part_at rows operands.first) operands.first_use + 4 * copied + operand_size (called_in rows) (part_at rows operands.second) v + last_size (called_in rows) (expression_at rows row) u
  all-rows =
      let first = ap₂ (operand_size (called_in rows)) found.at.first.is found.at.first-use in
      let second = ap₂ (operand_size (called_in rows)) found.at.second.is second-use in
      omega (arith, ap (λ p. operand_size (called_in rows) p u) (part-some rows row found.some), size-parts (called_in rows) (expression_at rows row) u, first, second, found.copied_is, own-copies (called_in rows) (expression_at rows row) u)

  pub copied-most : copied ≤ 1
  copied-most = omega (arith, found.copied_is, first-copied-most (called_in rows) (expression_at rows row))

  pub first_inside : operands.first < row_count rows
  first_inside = inside_of operands.first (source asked) found.at.first.onward

  pub first_small : operand_size (called_in rows) (part_at rows operands.first) operands.first_use ≤ 40980
  first_small = omega (arith, all-rows, all_small asked)

  pub second-inside : operands.second < row_count rows
  second-inside = inside_of operands.second (source asked) found.at.second.onward

  pub second-small : operand_size (called_in rows) (part_at rows operands.second) v ≤ 40980
  second-small = omega (arith, all-rows, all_small asked)

  pub held-within : {firstRows : ℕ} → firstRows ≡ operand_size (called_in rows) (part_at rows operands.first) operands.first_use → firstRows + 4 * copied ≤ operand_size (called_in rows) (part_at rows row) u
  held-within e = omega (arith, all-rows)

  pub operands-within : {firstRows secondRows : ℕ} → firstRows ≡ operand_size (called_in rows) (part_at rows operands.first) operands.first_use → secondRows ≡ operand_size (called_in rows) (part_at rows operands.second) v
      → firstRows + 4 * copied + secondRows ≤ operand_size (called_in rows) (part_at rows row) u
  operands-within e h = omega (arith, all-rows)

  -- The levels of the operands, the second one's above the first, are among those of the whole.
  all-levels : level + expression_levels (called_in rows) (expression_at rows row) u ≤ 2048
  all-levels = omega (arith, asked.asks.level_low, ap (λ p. operand_levels (called_in rows) p u) (part-some rows row found.some))

  first-levels : level + operand_levels (called_in rows) (part_at rows operands.first) operands.first_use ≤ 2048
  first-levels = omega (arith, all-levels, levels-parts (called_in rows) (expression_at rows row) u, ap₂ (operand_levels (called_in rows)) found.at.first.is found.at.first-use)

  pub second-levels : {above : ℕ} → above ≡ above_first (called_in rows) (expression_at rows row) → level + above + operand_levels (called_in rows) (part_at rows operands.second) v ≤ 2048
  second-levels e = omega (arith, all-levels, levels-parts (called_in rows) (expression_at rows row) u, ap₂ (operand_levels (called_in rows)) found.at.second.is second-use)

  pub level-small : level ≤ 4096
  level-small = omega (arith, all-levels)

  pub first-falls : rank rows operands.first < rank rows row
  first-falls = rank_falls rows row operands.first found.some asked.asks.inside (λ h. (found.at.first.onward h).later)

  pub second-falls : rank rows operands.second < rank rows row
  second-falls = rank_falls rows row operands.second found.some asked.asks.inside (λ h. (found.at.second.onward h).later)

  pub first-asks : OperandAsks rows operands.first operands.first_use level base (length out)
  first-asks = record {
    inside = first_inside;
    level_low = first-levels;
    use_fits = found.at.first_fits;
    room = room-less _ asked.asks.room (omega (arith, all-rows));
  }

  -- ---- the sizes are known

  pub record ExpressionSizes (above firstRows secondRows all_rows : ℕ) : Type 0 where
    pub above-is : above ≡ above_first (called_in rows) (expression_at rows row)
    pub first_is : firstRows ≡ operand_size (called_in rows) (part_at rows operands.first) operands.first_use
    pub second_is : secondRows ≡ operand_size (called_in rows) (part_at rows operands.second) v
    pub all-is : all_rows ≡ operand_size (called_in rows) (part_at rows row) u

  pub expression-sizes : {firstRows secondRows all_rows : ℕ} → firstRows ≡ operand_size (called_in rows) (part_at rows operands.first) operands.first_use → secondRows ≡ operand_size (called_in rows) (part_at rows operands.second) v
      → all_rows ≡ operand_size (called_in rows) (part_at rows row) u → ExpressionSizes operands.above firstRows secondRows all_rows
  expression-sizes first second all = record { above-is = found.at.above-is; first_is = first; second_is = second; all-is = all }

module _ {S : ℕ} {rows : List ℤ} {table : List ℕ} {row : ℕ} {u : Use} {level base : ℕ} {out : List ℤ} {asked : ExpressionAsked S rows table row u level base out}
    {copied : ℕ} {operands : Own} {v : Use} {found : OperandsFound asked copied operands v} {above firstRows secondRows all_rows : ℕ}
    (sizes : ExpressionSizes found above firstRows secondRows all_rows) where
  pub sizes-within : firstRows + 4 * copied + secondRows ≤ all_rows
  sizes-within = omega (arith, all-rows found, sizes.first_is, sizes.second_is, sizes.all-is)

  last-is : all_rows - (firstRows + 4 * copied + secondRows) ≡ last_size (called_in rows) (expression_at rows row) u
  last-is = omega (arith, all-rows found, sizes.first_is, sizes.second_is, sizes.all-is)

  -- The code of the four parts is the expression's.
  code_is : ((operand_code (called_in rows) S (part_at rows operands.first) operands.first_use level ⧺ hold_by S level copied (atom_of (called_in rows) (expression_at rows operands.first))) ⧺ operand_code (called_in rows) S (part_at rows operands.second) v (level + above)) ⧺ last_code (called_in rows) S (expression_at rows row) u level
      ≡ operand_code (called_in rows) S (part_at rows row) u level
  code_is =
      let e = expression_at rows row in
      let copy : hold_by S level copied (atom_of (called_in rows) (expression_at rows operands.first)) ≡ wait_code (called_in rows) S e level =
      ap (λ (k : ℕ). hold_by S level k (atom_of (called_in rows) (expression_at rows operands.first))) found.copied_is
      ∙ hold-part (called_in rows) S level rows operands.first (first_operand (called_in rows) e) (first_copied (called_in rows) e) found.at.first.is (λ h. waits-some (called_in rows) e rows operands.first h found.at.first.is)
      ∙ sym (wait-hold (called_in rows) S e level) in
      let first = ap₂ (λ p w. operand_code (called_in rows) S p w level) found.at.first.is found.at.first-use in
      let second = ap₂ (λ p w. operand_code (called_in rows) S p w (level + above)) found.at.second.is (second-use found) in
      rw (copy, first, second, sizes.above-is)
      (code-parts (called_in rows) S e u level ∙ sym (ap (λ p. operand_code (called_in rows) S p u level) (part-some rows row found.some)))

  -- ---- the first operand is written

  pub record FirstOperand (more : Bool) (firstTable : List ℤ) : Type 0 where
    pub table_is : firstTable ≡ over (emit_items more (operand_code (called_in rows) S (part_at rows operands.first) operands.first_use level) base) out

  pub first-written : (more : Bool) {firstTable : List ℤ} → firstTable ≡ over (emit_items more (operand_code (called_in rows) S (part_at rows operands.first) operands.first_use level) base) out → FirstOperand more firstTable
  first-written more e = record { table_is = e }

module _ {S : ℕ} {rows : List ℤ} {table : List ℕ} {row : ℕ} {u : Use} {level base : ℕ} {out : List ℤ} {asked : ExpressionAsked S rows table row u level base out}
    {copied : ℕ} {operands : Own} {v : Use} {found : OperandsFound asked copied operands v} {above firstRows secondRows all_rows : ℕ}
    {sizes : ExpressionSizes found above firstRows secondRows all_rows} {more : Bool} {firstTable : List ℤ} (written : FirstOperand sizes more firstTable) where
  first-wrote : Wrote more (operand_code (called_in rows) S (part_at rows operands.first) operands.first_use level) base firstRows out firstTable
  first-wrote = record { table = written.table_is; size = rows-operand (called_in rows) S (part_at rows operands.first) operands.first_use level ∙ sym sizes.first_is }

  pub first_reach : Reach firstRows base firstTable
  first_reach = put-reach 0 (wrote-put first-wrote) asked.asks.room (omega (arith, all-rows found, sizes.first_is))

  pub hold-room : Room (4 * copied) (base + firstRows) (length (part firstRows firstTable))
  hold-room = put-room _ (wrote-put first-wrote) asked.asks.room (omega (arith, all-rows found, sizes.first_is))

  -- ---- the copy is written: `holdWords` is the part behind the first operand

  pub record HeldFirst (held : Bool) (holdWords : List ℤ) : Type 0 where
    pub more_is : more ≡ more_rows held (4 * copied)
    pub table_is : holdWords ≡ over (emit_items held (hold_by S level copied (atom_of (called_in rows) (expression_at rows operands.first))) (base + firstRows)) (part firstRows firstTable)

  pub held-written : (held : Bool) {holdWords : List ℤ} → more ≡ more_rows held (4 * copied)
      → holdWords ≡ over (emit_items held (hold_by S level copied (atom_of (called_in rows) (expression_at rows operands.first))) (base + firstRows)) (part firstRows firstTable) → HeldFirst held holdWords
  held-written held more e = record { more_is = more; table_is = e }

module _ {S : ℕ} {rows : List ℤ} {table : List ℕ} {row : ℕ} {u : Use} {level base : ℕ} {out : List ℤ} {asked : ExpressionAsked S rows table row u level base out}
    {copied : ℕ} {operands : Own} {v : Use} {found : OperandsFound asked copied operands v} {above firstRows secondRows all_rows : ℕ}
    {sizes : ExpressionSizes found above firstRows secondRows all_rows} {more : Bool} {firstTable : List ℤ} {first : FirstOperand sizes more firstTable}
    {held : Bool} {holdWords : List ℤ} (written : HeldFirst first held holdWords) where
  hold-wrote : Wrote held (hold_by S level copied (atom_of (called_in rows) (expression_at rows operands.first))) (base + firstRows) (4 * copied) (part firstRows firstTable) holdWords
  hold-wrote = record { table = written.table_is; size = rows-hold S level copied (atom_of (called_in rows) (expression_at rows operands.first)) (copied-most found) }

  held-wrote : Wrote held (operand_code (called_in rows) S (part_at rows operands.first) operands.first_use level ⧺ hold_by S level copied (atom_of (called_in rows) (expression_at rows operands.first)))
      base (firstRows + 4 * copied) out (back_in firstRows firstTable holdWords)
  held-wrote = wrote-next (rw written.more_is at (first-wrote first)) hold-wrote

  pub held-reach : Reach (firstRows + 4 * copied) base (back_in firstRows firstTable holdWords)
  held-reach = put-reach 0 (wrote-put held-wrote) asked.asks.room (omega (arith, all-rows found, sizes.first_is))

  pub second-asks : OperandAsks rows operands.second v (level + above) (base + (firstRows + 4 * copied)) (length (part (firstRows + 4 * copied) (back_in firstRows firstTable holdWords)))
  second-asks = record {
    inside = second-inside found;
    level_low = second-levels found sizes.above-is;
    use_fits = subst UseFits (sym found.passed) (passed-fits operands.passes u);
    room = put-room _ (wrote-put held-wrote) asked.asks.room (omega (arith, all-rows found, sizes.first_is));
  }

  -- ---- the second operand is written: `secondWords` is the part behind the copy

  pub record SecondOperand (then : Bool) (secondWords : List ℤ) : Type 0 where
    pub more_is : held ≡ more_rows then secondRows
    pub table_is : secondWords
        ≡ over (emit_items then (operand_code (called_in rows) S (part_at rows operands.second) v (level + above)) (base + (firstRows + 4 * copied))) (part (firstRows + 4 * copied) (back_in firstRows firstTable holdWords))

  pub second-written : (then : Bool) {secondWords : List ℤ} → held ≡ more_rows then secondRows
      → secondWords ≡ over (emit_items then (operand_code (called_in rows) S (part_at rows operands.second) v (level + above)) (base + (firstRows + 4 * copied))) (part (firstRows + 4 * copied) (back_in firstRows firstTable holdWords))
      → SecondOperand then secondWords
  second-written then held e = record { more_is = held; table_is = e }

module _ {S : ℕ} {rows : List ℤ} {table : List ℕ} {row : ℕ} {u : Use} {level base : ℕ} {out : List ℤ} {asked : ExpressionAsked S rows table row u level base out}
    {copied : ℕ} {operands : Own} {v : Use} {found : OperandsFound asked copied operands v} {above firstRows secondRows all_rows : ℕ}
    {sizes : ExpressionSizes found above firstRows secondRows all_rows} {more : Bool} {firstTable : List ℤ} {first : FirstOperand sizes more firstTable}
    {held : Bool} {holdWords : List ℤ} {hold : HeldFirst first held holdWords} {then : Bool} {secondWords : List ℤ} (written : SecondOperand hold then secondWords) where
  abbrev behind : ℕ
  behind = firstRows + 4 * copied + secondRows

  abbrev operands_table : List ℤ
  operands_table = back_in (firstRows + 4 * copied) (back_in firstRows firstTable holdWords) secondWords

  second-wrote : Wrote then (operand_code (called_in rows) S (part_at rows operands.second) v (level + above)) (base + (firstRows + 4 * copied)) secondRows (part (firstRows + 4 * copied) (back_in firstRows firstTable holdWords)) secondWords
  second-wrote = record { table = written.table_is; size = rows-operand (called_in rows) S (part_at rows operands.second) v (level + above) ∙ sym sizes.second_is }

  both-wrote : Wrote then ((operand_code (called_in rows) S (part_at rows operands.first) operands.first_use level ⧺ hold_by S level copied (atom_of (called_in rows) (expression_at rows operands.first))) ⧺ operand_code (called_in rows) S (part_at rows operands.second) v (level + above))
      base behind out operands_table
  both-wrote = wrote-next (rw written.more_is at (held-wrote hold)) second-wrote

  pub second-reach : Reach behind base operands_table
  second-reach = put-reach 0 (wrote-put both-wrote) asked.asks.room (omega (arith, sizes-within sizes, sizes.all-is))

  pub last-asks : LastAsks rows row u level (base + behind) (length (part behind operands_table))
  last-asks = record {
    inside = asked.asks.inside;
    no_call = found.no_call;
    level_low = all-levels found;
    use_fits = asked.asks.use_fits;
    room = put-room _ (wrote-put both-wrote) asked.asks.room (omega (arith, last-is sizes, sizes-within sizes, sizes.all-is));
  }

  -- ---- the rest is written: `lastWords` is the part behind the operands

  pub record LastPart (follows : Bool) (lastWords : List ℤ) : Type 0 where
    pub more_is : then ≡ more_rows follows (all_rows - behind)
    pub table_is : lastWords ≡ over (emit_items follows (last_code (called_in rows) S (expression_at rows row) u level) (base + behind)) (part behind operands_table)

  pub last-written : (follows : Bool) {lastWords : List ℤ} → then ≡ more_rows follows (all_rows - behind)
      → lastWords ≡ over (emit_items follows (last_code (called_in rows) S (expression_at rows row) u level) (base + behind)) (part behind operands_table) → LastPart follows lastWords
  last-written follows then e = record { more_is = then; table_is = e }

module _ {S : ℕ} {rows : List ℤ} {table : List ℕ} {row : ℕ} {u : Use} {level base : ℕ} {out : List ℤ} {asked : ExpressionAsked S rows table row u level base out}
    {copied : ℕ} {operands : Own} {v : Use} {found : OperandsFound asked copied operands v} {above firstRows secondRows all_rows : ℕ}
    {sizes : ExpressionSizes found above firstRows secondRows all_rows} {more : Bool} {firstTable : List ℤ} {first : FirstOperand sizes more firstTable}
    {held : Bool} {holdWords : List ℤ} {hold : HeldFirst first held holdWords} {then : Bool} {secondWords : List ℤ} {second : SecondOperand hold then secondWords}
    {follows : Bool} {lastWords : List ℤ} (rest : LastPart second follows lastWords) where
  last-wrote : Wrote follows (last_code (called_in rows) S (expression_at rows row) u level) (base + behind second) (all_rows - behind second) (part (behind second) (operands_table second)) lastWords
  last-wrote = record { table = rest.table_is; size = rows_last (called_in rows) S (expression_at rows row) u level ∙ sym (last-is sizes) }

  all-wrote : Wrote follows (operand_code (called_in rows) S (part_at rows row) u level) base (behind second + (all_rows - behind second)) out (back_in (behind second) (operands_table second) lastWords)
  all-wrote = wrote_as _ (wrote-next (rw rest.more_is at (both-wrote second)) last-wrote) (code_is sizes)

  pub expression-length : length (back_in (behind second) (operands_table second) lastWords) ≡ length out
  expression-length = put-length (wrote-put all-wrote) (omega (arith, sizes-within sizes, sizes.all-is, asked.asks.room.inside))

  pub expression-written : back_in (behind second) (operands_table second) lastWords ≡ over (emit_items follows (operand_code (called_in rows) S (part_at rows row) u level) base) out
  expression-written = all-wrote.table
