-- What a program can write: "what any row of it can", whether a run enters that row or not. S is where the declared words begin.
use Rattle.std.specs.Prelude.{◌≡◌, Bool, true, false, ◌&&◌, ◌||◌, List, ℕ, zero, suc, ◌+◌, ◌<◌, eqb, ltb, ℤ}
use Rattle.words.specs.Table.{row_count, number_at}
use Rattle.words.specs.Declarations.{is_declaration}
use Rattle.language.specs.Trees.{Expression}
use Rattle.language.specs.Decode.{expression_at}
use Rattle.language.specs.Writes.{writes}
use Rattle.measures_table.specs.Parts.{called_in}
use Rattle.write_sets_rows.specs.WriteSets.{SetIs}
use Rattle.write_sets.specs.Sets.{variable_bits, declared_bits}
use Rattle.write_sets.specs.Counts.{count_below}
use Rattle.write_sets_programs.specs.ArrayWrites.{writes_array}
use Rattle.write_sets_programs.specs.Arrays.{ArraysAre}
use Rattle.write_sets_programs.specs.declared.Writes.{Writes}

-- ---- in the request's words

-- Function f of the program can write the word i: "a call can write what its function can".
abbrev pub CalledWrites : List ℤ → ℕ → ℕ → Type 0
CalledWrites rows i f = called_in rows f i ≡ true

-- Some row of the table is an expression of which P holds.
pub record SomeRow (rows : List ℤ) (P : Expression → Type 0) : Type 0 where
  pub row : ℕ
  pub inside : row < row_count rows
  pub holds : P (expression_at rows row)

-- Some row of the table is the declaration of the word i.
pub record SomeDeclaration (rows : List ℤ) (i : ℕ) : Type 0 where
  pub row : ℕ
  pub inside : row < row_count rows
  pub declaration : is_declaration rows row ≡ true
  pub word : number_at rows row 1 ≡ i

-- ---- as tests

-- Whether a number below k passes the test.
unfoldable pub any_below : ℕ → (ℕ → Bool) → Bool
any_below zero p = false
any_below (suc k) p = any_below k p || p k

-- Whether the row is the declaration of the word i.
abbrev pub declares : List ℤ → ℕ → ℕ → Bool
declares rows row i = is_declaration rows row && eqb (number_at rows row 1) i

-- Whether the program can write the word i, which is a variable's or a declared one: "each declared word among them".
unfoldable pub program_writes : List ℤ → ℕ → Bool
program_writes rows i = any_below (row_count rows) (λ row. writes (called_in rows) (expression_at rows row) i || declares rows row i)

-- Whether it can write an element of the array n.
unfoldable pub program_writes_array : List ℤ → ℕ → Bool
program_writes_array rows n = any_below (row_count rows) (λ row. writes_array (expression_at rows row) n)

-- Its variables, and its declared words, from 0.
abbrev pub variables_written : ℕ → List ℤ → ℕ → Bool
variables_written S rows i = ltb i S && program_writes rows i

abbrev pub declared_written : ℕ → List ℤ → ℕ → Bool
declared_written S rows i = program_writes rows (S + i)

-- "The number of distinct variables the program can write", and of the declared words.
unfoldable pub written : ℕ → List ℤ → ℕ
written S rows = count_below variable_bits (variables_written S rows) + count_below declared_bits (declared_written S rows)

-- ---- as words

-- The words hold what the program can write.
pub record WritesAre (S : ℕ) (w : Writes) (rows : List ℤ) : Type 0 where
  pub variables : SetIs S w.variables (program_writes rows)
  pub arrays : ArraysAre w.arrays (program_writes_array rows)
