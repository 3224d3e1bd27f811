-- Owners: a row is linked once; so a definition at the front has one place, and behind a row that is no definition stands none.
use Rattle.std.specs.Prelude.{◌≡◌, refl, false, List, ℕ, ◌+◌, ◌*◌, ◌<◌, ℤ}
use Rattle.std.proofs.Common.{sym, subst, ap, ◌∙◌, true≢false, arith}
use Rattle.words.specs.Table.{row_count, number_at}
use Rattle.words.specs.Laws.{by_cases}
use Rattle.words.specs.Links.{link}
use Rattle.check_structure.specs.LinkLaws.{linker-of}
use Rattle.check_structure.specs.Structured.{Leads, Tree}
use Rattle.check_function_causes.specs.Functions.{is_definition}
use Rattle.check_function_causes.specs.Demands.{InFront, foremost, behind, DefinedInOrder}
use Rattle.check_function_causes.proofs.FrontLaws.{front-defines, front-inside, definition-leads}

module _ (rows : List ℤ) (t : Tree rows) where
  -- a row has one owner
  pub same-owner : (row field other there : ℕ) → field < 6 → there < 6 → Leads rows row field → Leads rows other there
      → link rows row field ≡ link rows other there → (row ≡ other) × (field ≡ there)
  same-owner row field other there h k l m e =
      let inside : row < row_count rows = (let a = l.later in let b = l.inside in omega arith) in
      let below : other < row_count rows = (let a = m.later in let b = m.inside in omega arith) in
      let one = linker-of rows t row field h l inside in
      let two = linker-of rows t other there k m below in
      let same : 6 * row + field ≡ 6 * other + there = cc in
      (omega arith, omega arith)

  -- so one place at the front
  front-place : {row other place there : ℕ} → InFront rows row place → InFront rows other there → row ≡ other → place ≡ there
  front-place (foremost l d) (foremost m f) e = refl
  front-place (foremost l d) (behind {row} {place} f m g) e = absurd (let s = (same-owner 0 1 row 5 (omega arith) (omega arith) l m e).1 in omega arith)
  front-place (behind {row} {place} f l d) (foremost m g) e = absurd (let s = (same-owner row 5 0 1 (omega arith) (omega arith) l m e).1 in omega arith)
  front-place (behind {row} {place} f l d) (behind {row = other} {place = there} g m h) e =
      ap (λ (p : ℕ). p + 1) (front-place f g (same-owner row 5 other 5 (omega arith) (omega arith) l m e).0)

  module _ (root : is_definition rows 0 ≡ false) (ordered : (row : ℕ) → row < row_count rows → DefinedInOrder rows row) where
    -- "numbered from 0 in order"
    pub front-number : {row place : ℕ} → InFront rows row place → number_at rows row 1 ≡ place
    front-number {row} f = front-place (ordered row (front-inside rows f) (front-defines rows f)) f refl

    -- "Definitions come first in row 0's list": no other field leads to one
    pub part-other : (row field : ℕ) → field < 5 → ((row ≡ 0) × (field ≡ 1) → ⊥) → Leads rows row field → is_definition rows (link rows row field) ≡ false
    part-other row field h other leads =
        by_cases (is_definition rows (link rows row field))
        (λ d. absurd (go (ordered (link rows row field) leads.inside d) refl))
        (λ d. d)
      where
        go : {found place : ℕ} → InFront rows found place → found ≡ link rows row field → ⊥
        go (foremost l d) e = let s = same-owner 0 1 row field (omega arith) (omega arith) l leads e in other (sym s.0, sym s.1)
        go (behind {row = before} f l d) e = let s = (same-owner before 5 row field (omega arith) (omega arith) l leads e).1 in omega arith

    -- "Definitions come first"
    pub next-other : (row : ℕ) → row < row_count rows → is_definition rows row ≡ false → is_definition rows (link rows row 5) ≡ false
    next-other row n other =
        by_cases (is_definition rows (link rows row 5))
        (λ d. let leads = definition-leads rows t root row 5 n (omega arith) d in
        absurd (go leads (ordered (link rows row 5) leads.inside d) refl))
        (λ d. d)
      where
        go : Leads rows row 5 → {found place : ℕ} → InFront rows found place → found ≡ link rows row 5 → ⊥
        go leads (foremost l d) e = let s = (same-owner 0 1 row 5 (omega arith) (omega arith) l leads e).1 in omega arith
        go leads (behind {row = before} f l d) e =
            let same = (same-owner before 5 row 5 (omega arith) (omega arith) l leads e).0 in
            true≢false (sym (front-defines rows f) ∙ subst (λ (x : ℕ). is_definition rows x ≡ false) (sym same) other)
