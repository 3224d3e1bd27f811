-- Laws of resolved names: a declaration names its own word, a name its declaration's word or the header's variable; all of them lie in the
-- first S words or among the D words behind them.
use Rattle.std.specs.Prelude.{◌≡◌, true, false, ◌⊎◌, List, ℕ, ◌+◌, ◌*◌, ◌/◌, ◌%◌, ◌≤◌, ◌<◌, eqb, ℤ, pos, get_or}
use Rattle.std.proofs.Math.Path.{ap}
use Rattle.std.proofs.Common.{◌∙◌, inl, inr, arith}
use Rattle.std.proofs.Math.Decide.{ℕ_discrete, dec_lt}
use Rattle.std.proofs.Math.ListN.{length, get_or-eq_default}
use borrow.Author.Tests.{eq-eqb, ne_eqb}
use Rattle.words.specs.Word.{natural}
use Rattle.words.specs.Table.{row_count, word_at, number_at}
use Rattle.words.specs.Laws.{by_cases}
use Rattle.check_grammar.specs.GrammarLaws.{tabulated}
use Rattle.check_structure.specs.Structured.{Tree}
use Rattle.names.specs.Names.{is_name, word_of, meant_at, variable_word, resolved_name, resolved_word, resolved}
use Rattle.words.specs.Declarations.{is_declaration, declaration_count}
use Rattle.names.proofs.ScopeLaws.{meant-declared, meant-inside, word_after, word_below}
use Rattle.names.proofs.ResolvedLaws.{resolved-length, resolved-word}

-- One of the D words behind the first S.
pub record DeclaredWord (S : ℕ) (rows : List ℤ) (word : ℕ) : Type 0 where
  pub least : S ≤ word
  pub most : word < S + declaration_count rows

module _ (S : ℕ) (rows : List ℤ) (t : Tree rows) (row : ℕ) (n : row < row_count rows) where
  first_field : word_at (resolved S rows) row 1 ≡ resolved_name S rows row
  unfolding resolved_word
  first_field = resolved-word S rows row 1 (omega arith) (let whole = t.whole in omega arith)

  pub declaration-resolved : is_declaration rows row ≡ true → number_at (resolved S rows) row 1 ≡ word_of S rows row
  unfolding number_at natural resolved_name
  declaration-resolved d = ap natural first_field ∙ rw d

  pub declaration-word : is_declaration rows row ≡ true → DeclaredWord S rows (number_at (resolved S rows) row 1)
  declaration-word d = rw (declaration-resolved d) (record { least = word_after rows S row; most = word_below rows S row d n })

  module _ (other : is_declaration rows row ≡ false) (name : is_name rows row ≡ true) where
    -- the header's variable keeps its number
    pub variable-resolved : meant_at rows row (number_at rows row 1) ≡ 0 → number_at (resolved S rows) row 1 ≡ number_at rows row 1
    unfolding number_at resolved_name variable_word
    variable-resolved z = ap natural first_field ∙ rw (other, name, eq-eqb _ _ z)

    pub name-resolved : (meant_at rows row (number_at rows row 1) ≡ 0 → ⊥) → number_at (resolved S rows) row 1 ≡ word_of S rows (meant_at rows row (number_at rows row 1))
    unfolding number_at natural resolved_name variable_word
    name-resolved some = ap natural first_field ∙ rw (other, name, ne_eqb _ _ some)

    pub name-word : (number_at (resolved S rows) row 1 ≡ number_at rows row 1) ⊎ DeclaredWord S rows (number_at (resolved S rows) row 1)
    name-word = go (ℕ_discrete (meant_at rows row (number_at rows row 1)) 0) (meant-declared rows row (number_at rows row 1))
      where
        go : Dec (meant_at rows row (number_at rows row 1) ≡ 0)
            → (meant_at rows row (number_at rows row 1) ≡ 0) ⊎ ((is_declaration rows (meant_at rows row (number_at rows row 1)) ≡ true) × (number_at rows (meant_at rows row (number_at rows row 1)) 1 ≡ number_at rows row 1))
            → (number_at (resolved S rows) row 1 ≡ number_at rows row 1) ⊎ DeclaredWord S rows (number_at (resolved S rows) row 1)
        go (yes z) meant = inl (variable-resolved z)
        go (no some) (inl z) = absurd (some z)
        go (no some) (inr d) =
            inr (rw (name-resolved some) (record { least = word_after rows S _; most = word_below rows S _ d.0 (meant-inside rows t row (number_at rows row 1) n) }))

-- What holds of the table's words and of the words that its declarations have holds of every word of the resolved table.
module _ (S : ℕ) (rows : List ℤ) (t : Tree rows) (P : ℤ → Type 0) (own : (i : ℕ) → P (get_or rows i (pos 0))) (declared : (word : ℕ) → word < S + declaration_count rows → P (pos word)) where
  module _ (row : ℕ) (n : row < row_count rows) where
    abbrev meant : ℕ
    meant = meant_at rows row (number_at rows row 1)

    variable-holds : Dec (meant ≡ 0) → (meant ≡ 0) ⊎ ((is_declaration rows meant ≡ true) × (number_at rows meant 1 ≡ number_at rows row 1)) → P (variable_word S rows row)
    unfolding variable_word word_at
    variable-holds (yes z) d = rw (eq-eqb _ _ z) (own (6 * row + 1))
    variable-holds (no some) (inl z) = absurd (some z)
    variable-holds (no some) (inr d) = rw (ne_eqb _ _ some) (declared _ (word_below rows S _ d.0 (meant-inside rows t row (number_at rows row 1) n)))

    name-holds : P (resolved_name S rows row)
    unfolding resolved_name word_at
    name-holds =
        by_cases (is_declaration rows row) (λ d. rw d (declared _ (word_below rows S row d n)))
        (λ d. by_cases (is_name rows row)
        (λ m. rw (d, m) (variable-holds (ℕ_discrete meant 0) (meant-declared rows row (number_at rows row 1))))
        (λ m. rw (d, m) (own (6 * row + 1))))

  pub resolved-holds : (i : ℕ) → P (get_or (resolved S rows) i (pos 0))
  unfolding resolved resolved_word word_at
  resolved-holds i = go (dec_lt i (length rows))
    where
      go : Dec (i < length rows) → P (get_or (resolved S rows) i (pos 0))
      go (yes b) =
          let whole = t.whole in
          rw (tabulated (pos 0) (λ (w : ℕ). resolved_word S rows (w / 6) (w % 6)) (length rows) i b)
          (by_cases (eqb (i % 6) 1) (λ e. rw e (name-holds (i / 6) (omega arith))) (λ e. rw e (own (6 * (i / 6) + i % 6))))
      go (no b) =
          let past : length rows ≤ i = omega (arith, b) in
          rw (get_or-eq_default (resolved S rows) (pos 0) {n = i} (rw (resolved-length S rows) past), ← get_or-eq_default rows (pos 0) {n = i} past) (own i)
