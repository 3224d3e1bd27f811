-- Lists: a row is an item of one list, so that no mark stands behind a declaration.
use Rattle.std.specs.Prelude.{◌≡◌, refl, List, ℕ, ◌<◌, ℤ}
use Rattle.std.proofs.Common.{sym, ap, ◌∙◌, arith}
use Rattle.words.specs.Table.{number_at}
use Rattle.check_structure.specs.Structured.{Tree}
use Rattle.check_items.specs.Items.{ListItem, first, next}
use Rattle.accepted_calls.specs.Owners.{same-owner}

module _ (rows : List ℤ) (t : Tree rows) where
  -- the lists that two rows are items of begin at rows of one kind, if the rows are the same
  same-list : {kind part other there : ℕ} → part < 5 → there < 5 → {l m : ℕ} → ListItem rows kind part l → ListItem rows other there m → l ≡ m → kind ≡ other
  same-list {part = part} {there = there} h k (first {row} q leads) (first {row = that} r again) e =
      let same = same-owner rows t row part that there (omega arith) (omega arith) leads again e in
      sym q ∙ ap (λ (x : ℕ). number_at rows x 0) same.0 ∙ r
  same-list {part = part} h k (first {row} q leads) (next {row = that} again i) e =
      let same = same-owner rows t row part that 5 (omega arith) (omega arith) leads again e in absurd (omega (arith, same.1))
  same-list {there = there} h k (next {row} leads i) (first {row = that} r again) e =
      let same = same-owner rows t row 5 that there (omega arith) (omega arith) leads again e in absurd (omega (arith, same.1))
  same-list h k (next {row} leads i) (next {row = that} again j) e = same-list h k i j (same-owner rows t row 5 that 5 (omega arith) (omega arith) leads again e).0

  -- an item of a block is no item of a switch
  pub not-in-switch : {row : ℕ} → ListItem rows 42 1 row → ListItem rows 47 2 row → ⊥
  not-in-switch i j = absurd (let z : ◌≡◌ {A = ℕ} 42 47 = same-list (omega arith) (omega arith) i j refl in omega arith)
