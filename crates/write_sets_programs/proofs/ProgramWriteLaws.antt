-- A bit of a program's sets is 1 exactly where some row of it has that variable, or an element of that array, as the place of a kind 21 to 30,
-- or is the declaration of that word.
use Rattle.std.specs.Prelude.{◌≡◌, refl, Bool, true, false, ◌&&◌, ◌||◌, ◌↔◌, ◌⊎◌, List, ℕ, zero, suc, ◌+◌, ◌<◌, ℤ}
use Rattle.std.proofs.Common.{sym, ap, ◌∙◌, inl, inr, ⊎_elim, arith, eqb-true, eq-eqb, lt-ltb}
use Rattle.std.proofs.lemmas.Bool.{false≢true}
use Rattle.std.proofs.Math.Decide.{ℕ_discrete}
use Rattle.words.specs.Laws.{both, either, or_right}
use Rattle.words.specs.Table.{row_count}
use Rattle.language.specs.Trees.{Expression}
use Rattle.language.specs.Decode.{expression_at}
use Rattle.language.specs.Writes.{HasAsPlace, writes}
use Rattle.language.proofs.WriteLaws.{writes-exactly}
use Rattle.measures_table.specs.Parts.{called_in}
use Rattle.write_sets.specs.Sets.{variable_bits, declared_bits, variable_bit, declared_bit, member_array}
use Rattle.write_sets_programs.specs.ArrayWrites.{HasElementAsPlace, writes_array}
use Rattle.write_sets_programs.proofs.ArrayWriteLaws.{array-exactly}
use Rattle.write_sets_programs.specs.ProgramWrites.{CalledWrites, SomeRow, SomeDeclaration, any_below, declares, program_writes, program_writes_array, WritesAre}
use Rattle.write_sets_programs.specs.declared.Writes.{Writes}

-- ---- a test of some number below k

record Found (k : ℕ) (p : ℕ → Bool) : Type 0 where
  at : ℕ
  below : at < k
  passes : p at ≡ true

found : (k : ℕ) (p : ℕ → Bool) → any_below k p ≡ true → Found k p
unfolding any_below
found zero p h = absurd (false≢true h)
found (suc k) p h = ⊎_elim (λ l. let f = found k p l in record { at = f.at; below = omega (arith, f.below); passes = f.passes }) (λ r. record { at = k; below = omega arith; passes = r }) (either _ _ h)

or_left : (a b : Bool) → a ≡ true → (a || b) ≡ true
or_left a b e = rw e

any_step : (k : ℕ) (p : ℕ → Bool) (n : ℕ) → n < suc k → p n ≡ true → (n < k → any_below k p ≡ true) → (any_below k p || p k) ≡ true
any_step k p n l h earlier = by (ℕ_discrete n k)
  where
    by : Dec (n ≡ k) → (any_below k p || p k) ≡ true
    by (yes e) = or_right (any_below k p) (p k) (sym (ap p e) ∙ h)
    by (no d) = or_left (any_below k p) (p k) (earlier (omega arith))

any_found : (k : ℕ) (p : ℕ → Bool) (n : ℕ) → n < k → p n ≡ true → any_below k p ≡ true
unfolding any_below
any_found zero p n l h = absurd (omega arith)
any_found (suc k) p n l h = any_step k p n l h (λ m. any_found k p n m h)

-- some row, of a test that says exactly where P holds
some-row : (rows : List ℤ) (W : Expression → Bool) (P : Expression → Type 0) → ((e : Expression) → (W e ≡ true) ↔ P e) → (any_below (row_count rows) (λ row. W (expression_at rows row)) ≡ true) ↔ SomeRow rows P
some-row rows W P x = (
  λ h. let f = found _ _ h in record { row = f.at; inside = f.below; holds = (x (expression_at rows f.at)).0 f.passes },
  λ s. any_found _ _ s.row s.inside ((x (expression_at rows s.row)).1 s.holds),
)

-- ---- some row that writes the word, or some declaration of it

declared-row : (rows : List ℤ) (row i : ℕ) → row < row_count rows → declares rows row i ≡ true → SomeDeclaration rows i
declared-row rows row i h d = let p = both _ _ d in record { row = row; inside = h; declaration = p.0; word = eqb-true _ _ p.1 }

declaration-writes : (rows : List ℤ) (i : ℕ) (d : SomeDeclaration rows i) → declares rows d.row i ≡ true
declaration-writes rows i d = rw (d.declaration, eq-eqb _ _ d.word)

pub program-exactly : (rows : List ℤ) (i : ℕ) → (program_writes rows i ≡ true) ↔ (SomeRow rows (HasAsPlace (CalledWrites rows i) i) ⊎ SomeDeclaration rows i)
unfolding program_writes
program-exactly rows i = (
  λ h.
      let f = found _ _ h in
      ⊎_elim (λ w. inl (record { row = f.at; inside = f.below; holds = (writes-exactly (called_in rows) i (expression_at rows f.at)).0 w })) (λ d. inr (declared-row rows f.at i f.below d)) (either _ _ f.passes),
  ⊎_elim (λ s. any_found _ _ s.row s.inside (or_left _ _ ((writes-exactly (called_in rows) i (expression_at rows s.row)).1 s.holds)))
      (λ d. any_found _ _ d.row d.inside (or_right (writes (called_in rows) (expression_at rows d.row) i) _ (declaration-writes rows i d))),
)

-- ---- the sets

module _ {S : ℕ} {w : Writes} {rows : List ℤ} (is : WritesAre S w rows) where
  pub variable-bit : (i : ℕ) → i < variable_bits → i < S → (variable_bit w.variables i ≡ true) ↔ (SomeRow rows (HasAsPlace (CalledWrites rows i) i) ⊎ SomeDeclaration rows i)
  variable-bit i h k =
      let x = program-exactly rows i in
      let b = is.variables.variables i h ∙ ap (λ (below : Bool). below && program_writes rows i) (lt-ltb i S k) in
      (λ t. x.0 (sym b ∙ t), λ s. b ∙ x.1 s)

  pub declared-bit : (i : ℕ) → i < declared_bits → (declared_bit w.variables i ≡ true) ↔ (SomeRow rows (HasAsPlace (CalledWrites rows (S + i)) (S + i)) ⊎ SomeDeclaration rows (S + i))
  declared-bit i h = let x = program-exactly rows (S + i) in let b = is.variables.declared i h in (λ t. x.0 (sym b ∙ t), λ s. b ∙ x.1 s)

  pub array-bit : (n : ℕ) → (member_array w.arrays n ≡ true) ↔ SomeRow rows (HasElementAsPlace n)
  unfolding program_writes_array
  array-bit n = let x = some-row rows (λ e. writes_array e n) (HasElementAsPlace n) (array-exactly n) in let b = is.arrays.are n in (λ t. x.0 (sym b ∙ t), λ s. b ∙ x.1 s)
