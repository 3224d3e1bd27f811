-- The parts of a branch in the table: its block's row, its expression's code, its end. A record for each place between them has what is
-- known there; the laws below it are what the next part asks, and at last that the three are the block.
use mathlib.Core.Path.{◌≡◌, refl, sym, ◌∙◌, ap}
use mathlib.Core.Bool.{Bool, false}
use mathlib.Core.List.{List, ◌++◌}
use Prim.Native.Nat.{ℕ, ◌+◌, ◌≤◌}
use native.Mathlib.Omega.{arith}
use lib.IntN.{ℤ, pos}
use lib.ListN.{length}
use Rattle.words.specs.Word.{pick}
use Rattle.words.specs.Over.{over}
use Rattle.language.specs.Trees.{block}
use Rattle.language.specs.Decode.{part_at}
use Rattle.translation.specs.declared.Use.TheVariants.{Wanted as wanted}
use Rattle.translation.specs.Translate.{operand_code}
use Rattle.translation.specs.TranslateSize.{operand_size}
use Rattle.language_emission.specs.Emission.{row_of, emit_statement, emit_items}
use Rattle.measures_table.specs.Parts.{called_in}
use Rattle.writers_rows.specs.Room.{Room, more_rows}
use Rattle.writers_steps.specs.Asks.{Writing}
use Rattle.writers_rows.specs.Chain.{part, back_in, PutWords, put_next, reworded, Reach, put-length, put-reach, put-room, Wrote, wrote-put}
use Rattle.writers_expressions.specs.Code.{finish_code, branch_code}
use Rattle.writers_expressions.specs.Asks.{OperandAsks, finish_size, branch_size, BranchFits}
use Rattle.writers_expressions.specs.CodeLaws.{rows-operand, rows-finish, branch-words}
use Rattle.writers_expressions.specs.declared.Branch.{Branch}

-- ---- what the caller promised

pub record BranchAsked (S : ℕ) (rows : List ℤ) (table : List ℕ) (branch : Branch) (level base : ℕ) (out : List ℤ) : Type 0 where
  pub writing : Writing rows table S
  pub fits : BranchFits rows branch level
  pub room : Room (branch_size rows branch) base (length out)

pub branch-asked : {S : ℕ} {rows : List ℤ} {table : List ℕ} {branch : Branch} {level base : ℕ} (out : List ℤ) → Writing rows table S × BranchFits rows branch level × Room (branch_size rows branch) base (length out)
    → BranchAsked S rows table branch level base out
branch-asked out asked = record { writing = asked.0; fits = asked.1; room = asked.2 }

module _ {S : ℕ} {rows : List ℤ} {table : List ℕ} {branch : Branch} {level base : ℕ} {out : List ℤ} (asked : BranchAsked S rows table branch level base out) where
  pub code-small : operand_size (called_in rows) (part_at rows branch.row) wanted ≤ 40980
  code-small = omega (arith, asked.room.low)

  -- ---- the sizes are known

  pub record BranchSizes (codeRows endRows : ℕ) : Type 0 where
    pub code_is : codeRows ≡ operand_size (called_in rows) (part_at rows branch.row) wanted
    pub end_is : endRows ≡ finish_size branch.end

  pub branch-sizes : {codeRows endRows : ℕ} → codeRows ≡ operand_size (called_in rows) (part_at rows branch.row) wanted → endRows ≡ finish_size branch.end → BranchSizes codeRows endRows
  branch-sizes code end = record { code_is = code; end_is = end }

module _ {S : ℕ} {rows : List ℤ} {table : List ℕ} {branch : Branch} {level base : ℕ} {out : List ℤ} {asked : BranchAsked S rows table branch level base out}
    {codeRows endRows : ℕ} (sizes : BranchSizes asked codeRows endRows) where
  pub branch-room : Room (1 + codeRows + endRows) base (length out)
  branch-room = record {
    inside = omega (arith, sizes.code_is, sizes.end_is, asked.room.inside);
    low = omega (arith, sizes.code_is, sizes.end_is, asked.room.low);
  }

  -- ---- the block's row is written, with a link to its first item

  pub record BlockRow (first : ℕ) (headed : List ℤ) : Type 0 where
    pub first_is : first ≡ pick (more_rows false (codeRows + endRows)) (base + 1) 0
    pub table_is : headed ≡ over (row_of 42 (pos first) 0 0 0 0) out

  pub block-row : {more : Bool} {first : ℕ} {headed : List ℤ} → more ≡ more_rows false (codeRows + endRows) → first ≡ pick more (base + 1) 0 → headed ≡ over (row_of 42 (pos first) 0 0 0 0) out → BlockRow first headed
  block-row more first e = record { first_is = first ∙ ap (λ (f : Bool). pick f (base + 1) 0) more; table_is = e }

module _ {S : ℕ} {rows : List ℤ} {table : List ℕ} {branch : Branch} {level base : ℕ} {out : List ℤ} {asked : BranchAsked S rows table branch level base out}
    {codeRows endRows : ℕ} {sizes : BranchSizes asked codeRows endRows} {first : ℕ} {headed : List ℤ} (row : BlockRow sizes first headed) where
  row_put : PutWords (row_of 42 (pos first) 0 0 0 0) 1 out headed
  row_put = record { table = row.table_is; size = refl }

  pub row-reach : Reach 1 base headed
  row-reach = put-reach 0 row_put asked.room (omega arith)

  pub code-asks : OperandAsks rows branch.row wanted level (base + 1) (length (part 1 headed))
  code-asks = record {
    inside = asked.fits.inside;
    level_low = asked.fits.level_low;
    use_fits = tt;
    room = put-room _ row_put asked.room (omega arith);
  }

  -- ---- the expression's code is written: `code` is the part behind the block's row

  pub record BranchCode (more : Bool) (code : List ℤ) : Type 0 where
    pub more_is : more ≡ more_rows false endRows
    pub table_is : code ≡ over (emit_items more (operand_code (called_in rows) S (part_at rows branch.row) wanted level) (base + 1)) (part 1 headed)

  pub code-written : (more : Bool) {code : List ℤ} → more ≡ more_rows false endRows
      → code ≡ over (emit_items more (operand_code (called_in rows) S (part_at rows branch.row) wanted level) (base + 1)) (part 1 headed) → BranchCode more code
  code-written more is e = record { more_is = is; table_is = e }

module _ {S : ℕ} {rows : List ℤ} {table : List ℕ} {branch : Branch} {level base : ℕ} {out : List ℤ} {asked : BranchAsked S rows table branch level base out}
    {codeRows endRows : ℕ} {sizes : BranchSizes asked codeRows endRows} {first : ℕ} {headed : List ℤ} {row : BlockRow sizes first headed}
    {more : Bool} {code : List ℤ} (written : BranchCode row more code) where
  code_wrote : Wrote more (operand_code (called_in rows) S (part_at rows branch.row) wanted level) (base + 1) codeRows (part 1 headed) code
  code_wrote = record { table = written.table_is; size = rows-operand (called_in rows) S (part_at rows branch.row) wanted level ∙ sym sizes.code_is }

  code_put : PutWords (row_of 42 (pos first) 0 0 0 0 ++ emit_items more (operand_code (called_in rows) S (part_at rows branch.row) wanted level) (base + 1))
      (1 + codeRows) out (back_in 1 headed code)
  code_put = put_next (row_put row) (wrote-put code_wrote)

  pub code-reach : Reach (1 + codeRows) base (back_in 1 headed code)
  code-reach = put-reach 0 code_put asked.room (omega (arith, sizes.code_is))

  pub end-room : Room (finish_size branch.end) (base + (1 + codeRows)) (length (part (1 + codeRows) (back_in 1 headed code)))
  end-room = put-room _ code_put asked.room (omega (arith, sizes.code_is))

  -- ---- the end is written: `end` is the part behind the code

  module _ (end : List ℤ)
      (end-table : end ≡ over (emit_items false (finish_code S branch.end branch.atom level) (base + (1 + codeRows))) (part (1 + codeRows) (back_in 1 headed code))) where
    end-wrote : Wrote false (finish_code S branch.end branch.atom level) (base + (1 + codeRows)) endRows (part (1 + codeRows) (back_in 1 headed code)) end
    end-wrote = record { table = end-table; size = rows-finish S branch.end branch.atom level ∙ sym sizes.end_is }

    pub branch-length : length (back_in (1 + codeRows) (back_in 1 headed code) end) ≡ length out
    branch-length = put-length (put_next code_put (wrote-put end-wrote)) (branch-room sizes).inside

    pub branch-written : back_in (1 + codeRows) (back_in 1 headed code) end ≡ over (emit_statement (block (branch_code S rows branch level)) base 0) out
    branch-written =
        reworded _ (put_next code_put (wrote-put end-wrote))
        (branch-words (operand_code (called_in rows) S (part_at rows branch.row) wanted level) (finish_code S branch.end branch.atom level) base codeRows endRows first more
        code_wrote.size end-wrote.size row.first_is written.more_is)
