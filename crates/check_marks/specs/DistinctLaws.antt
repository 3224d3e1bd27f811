-- Laws of distinct marks: cause 8 is document 01's "second equal case, or second default, in one switch". A search back from a row meets
-- exactly the marks before it in its list.
use Rattle.std.specs.Prelude.{◌≡◌, List, ℕ, ◌<◌, eqb, ℤ}
use Rattle.std.proofs.Common.{ap, ◌∙◌}
use Rattle.std.proofs.Math.Bool.{true}
use borrow.Author.Tests.{eqb-true, eq-eqb}
use Rattle.words.specs.Table.{row_count, word_at, number_at}
use Rattle.words.specs.Laws.{both, same_word-refl, same_word-equal}
use Rattle.check_structure.specs.Structured.{Tree}
use Rattle.check_structure.specs.Lists.{Before}
use Rattle.check_items.proofs.EarlierLaws.{earlier-met, met-earlier}
use Rattle.check_places.specs.Places.{is_mark, mark_at}
use Rattle.check_marks.specs.Marks.{same_mark, repeated}

module _ (rows : List ℤ) (t : Tree rows) where
  pub record Repeats (row mark : ℕ) : Type 0 where
    pub before : Before rows mark row
    pub kind : number_at rows mark 0 ≡ number_at rows row 0
    pub value : word_at rows mark 1 ≡ word_at rows row 1

  pub repeated-by : (row mark : ℕ) → is_mark (number_at rows row 0) ≡ true → Repeats row mark → (mark ≡ 0 → ⊥) → repeated rows row ≡ true
  unfolding repeated same_mark
  repeated-by row mark k r p =
      let same : same_mark rows mark row ≡ true = rw (eq-eqb _ _ r.kind, r.value) (same_word-refl (word_at rows row 1)) in
      rw k (earlier-met rows t (mark_at rows) (λ (m : ℕ). same_mark rows m row) r.before (ap is_mark r.kind ∙ k) p same)

  pub repeats : (row : ℕ) → row < row_count rows → repeated rows row ≡ true → (is_mark (number_at rows row 0) ≡ true) × ((mark : ℕ) × Repeats row mark)
  unfolding repeated same_mark
  repeats row n e =
      let parts = both (is_mark (number_at rows row 0)) _ e in
      let met = met-earlier rows t (mark_at rows) (λ (m : ℕ). same_mark rows m row) row n parts.1 in
      let same = both (eqb (number_at rows met.item 0) (number_at rows row 0)) _ met.has in
      (parts.0, (met.item, record { before = met.earlier.before; kind = eqb-true _ _ same.0; value = same_word-equal _ _ same.1 }))
