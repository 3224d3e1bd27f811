-- The sets of the rows joined, row by row: what any row so far can write.
use mathlib.Core.Path.{◌≡◌, sym, ap, ap₂, subst, ◌∙◌}
use mathlib.Core.Bool.{Bool, true, false, ◌&&◌, ◌||◌}
use mathlib.Core.List.{List}
use Prim.Native.Nat.{ℕ, ◌+◌, ◌*◌, ◌<◌, ◌≤◌}
use native.Mathlib.Omega.{arith}
use native.Mathlib.Numerals.{add-one}
use lib.Bits.{bit_or}
use lib.Dec.{eqb}
use lib.IntN.{ℤ}
use lib.ListN.{length, get_or}
use borrow.Author.Tests.{eqb-true}
use Rattle.words.specs.Table.{row_count, number_at}
use Rattle.words.specs.Kinds.{kind_at, kind_of, kind_in, kinds}
use Rattle.words.specs.Declarations.{is_declaration}
use Rattle.words.specs.declared.Kind.TheVariants.{OfStatement}
use Rattle.words.specs.declared.StatementKind.TheVariants.{Declare}
use Rattle.language.specs.Decode.{expression_at}
use Rattle.language.specs.Writes.{writes}
use Rattle.language_shapes.specs.Source.{NamesFrom}
use Rattle.measures_table.specs.Parts.{called_in}
use Rattle.write_sets_rows.specs.WriteSets.{SetIs, Sets, set_of}
use Rattle.write_sets.specs.Sets.{variable_bits, declared_bits, variable_bit, declared_bit, nothing, join, single}
use Rattle.write_sets.specs.Counts.{count_below, count_same}
use Rattle.write_sets.specs.declared.WriteSet.{WriteSet}
use Rattle.write_sets_programs.specs.ArrayWrites.{writes_array}
use Rattle.write_sets_programs.specs.Arrays.{ArraysAre, ArraysFrom}
use Rattle.write_sets_programs.specs.ProgramWrites.{any_below, declares, program_writes, program_writes_array, variables_written, declared_written, written}
use Rattle.write_sets_rows.proofs.WriteLaws.{set-nothing, set_single, set-join}
use Rattle.write_sets_programs.proofs.ArrayLaws.{arrays-none, arrays-join}

-- ---- the word of a declaration

declaration-kind : (rows : List ℤ) (row : ℕ) → is_declaration rows row ≡ true → kind_at rows row ≡ OfStatement Declare
unfolding is_declaration kind_at kind_of kind_in kinds
declaration-kind rows row e = rw (eqb-true (number_at rows row 0) 58 e)

pub declared-word : {S : ℕ} {rows : List ℤ} (row : ℕ) {s : WriteSet} {i : ℕ} → NamesFrom S rows → row < row_count rows → is_declaration rows row ≡ true → i ≡ number_at rows row 1 → s ≡ single S i → SetIs S s (declares rows row)
declared-word {S} {rows} row {s} {i} names h d e es =
    subst (λ (b : Bool). SetIs S s (λ j. b && eqb (number_at rows row 1) j)) (sym d) (set_single (number_at rows row 1) (names.declared row h (declaration-kind rows row d)) (es ∙ ap (single S) e))

pub declared-none : {S : ℕ} (rows : List ℤ) (row : ℕ) {s : WriteSet} → is_declaration rows row ≡ false → s ≡ nothing → SetIs S s (declares rows row)
declared-none {S} rows row {s} d es = subst (λ (b : Bool). SetIs S s (λ j. b && eqb (number_at rows row 1) j)) (sym d) (set-nothing es)

-- ---- the rows so far

-- What the rows below k can write.
pub record Variables (S : ℕ) (rows : List ℤ) (s : WriteSet) (k : ℕ) : Type 0 where
  pub within : k ≤ row_count rows
  pub are : SetIs S s (λ i. any_below k (λ row. writes (called_in rows) (expression_at rows row) i || declares rows row i))

pub record Arrays (rows : List ℤ) (w k : ℕ) : Type 0 where
  pub within : k ≤ row_count rows
  pub are : ArraysAre w (λ n. any_below k (λ row. writes_array (expression_at rows row) n))

module _ {S : ℕ} {rows : List ℤ} where
  pub variables-start : {s : WriteSet} → s ≡ nothing → Variables S rows s 0
  unfolding any_below
  variables-start e = record { within = omega arith; are = set-nothing e }

  pub variables-next : {sets : List WriteSet} {s t d both u : WriteSet} {k : ℕ} → Sets S rows sets → Variables S rows s k → k < row_count rows → t ≡ set_of sets k → SetIs S d (declares rows k) → both ≡ join t d → u ≡ join s both → Variables S rows u (k + 1)
  unfolding any_below
  variables-next {sets} {s} {t} {d} {both} {u} {k} m v h et declared eb eu = rw (add-one k) (record {
    within = omega arith;
    are = set-join s both _ _ v.are (set-join t d _ _ (subst (λ (z : WriteSet). SetIs S z (writes (called_in rows) (expression_at rows k))) (sym et) (m.row_set k (omega arith) h)) declared eb) eu;
  })

  pub variables-end : {s : WriteSet} {k : ℕ} → Variables S rows s k → row_count rows ≤ k → SetIs S s (program_writes rows)
  unfolding program_writes
  variables-end {s} {k} v h = let e : k ≡ row_count rows = omega (arith, v.within) in subst (λ (n : ℕ). SetIs S s (λ i. any_below n (λ row. writes (called_in rows) (expression_at rows row) i || declares rows row i))) e v.are

module _ {rows : List ℤ} where
  pub arrays-start : Arrays rows 0 0
  unfolding any_below
  arrays-start = record { within = omega arith; are = arrays-none }

  pub arrays-next : {arrays : List ℕ} {w u k : ℕ} → ArraysFrom rows arrays 0 → Arrays rows w k → k < row_count rows → u ≡ bit_or w (get_or arrays k 0) → Arrays rows u (k + 1)
  unfolding any_below
  arrays-next {arrays} {w} {u} {k} m v h e = rw (add-one k) (record { within = omega arith; are = arrays-join w (get_or arrays k 0) _ _ v.are (m.row_arrays k (omega arith) h) e })

  pub arrays-end : {w k : ℕ} → Arrays rows w k → row_count rows ≤ k → ArraysAre w (program_writes_array rows)
  unfolding program_writes_array
  arrays-end {w} {k} v h = let e : k ≡ row_count rows = omega (arith, v.within) in record { are = λ n. v.are.are n ∙ ap (λ (k : ℕ). any_below k (λ row. writes_array (expression_at rows row) n)) e }

-- the ones in the five words
pub written_count : {S : ℕ} (rows : List ℤ) {s : WriteSet} {r : ℕ} → SetIs S s (program_writes rows) → r ≡ count_below variable_bits (variable_bit s) + count_below declared_bits (declared_bit s) → r ≡ written S rows
unfolding written
written_count {S} rows {s} x e = e ∙ ap₂ ◌+◌ (count_same variable_bits (variable_bit s) (variables_written S rows) (λ i h. x.variables i h)) (count_same declared_bits (declared_bit s) (declared_written S rows) (λ i h. x.declared i h))
