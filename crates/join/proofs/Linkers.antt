-- Linkers: which word of a join links a row of one of its programs, in numbers of words. The word is that which linked the row before; the list of the
-- new block begins elsewhere.
use Rattle.std.specs.Prelude.{◌≡◌, false, List, ℕ, ◌+◌, ◌*◌, ◌/◌, ◌%◌, ◌<◌, eqb, ℤ, None, Option, Some}
use Rattle.std.proofs.Math.Path.{refl, sym, ap, ap₂}
use Rattle.std.proofs.Common.{◌∙◌}
use Rattle.std.proofs.Math.Bool.{true, true≢false}
use native.Mathlib.Omega.{arith}
use borrow.Author.Tests.{ne_eqb, eq-eqb}
use Rattle.words.specs.Word.{pick}
use Rattle.words.specs.Table.{row_count}
use Rattle.words.specs.Links.{link, linker}
use Rattle.check_structure.specs.LinkLaws.{word-of, linker-of}
use Rattle.check_structure.specs.Structured.{Leads}
use Rattle.check_function_causes.specs.Functions.{is_definition, function_at}
use Rattle.check_function_causes.specs.Demands.{InFront, foremost, behind}
use Rattle.check_function_causes.proofs.FrontLaws.{front-function}
use Rattle.join.specs.Join.{first_item}
use Rattle.join.specs.Moved.{at_seam}
use Rattle.join.proofs.Fronts.{functions-last, Front, empty, ending}
use Rattle.join.proofs.Kept.{one_word, Ordered, kept-undefined, definition-some, first-linked, first-undefined}

abbrev word_of : Option ℕ → ℕ
word_of (Some word) = word
word_of None = 0

-- a program with definitions at its front begins with one
pub front-head : {rows : List ℤ} {row place : ℕ} → InFront rows row place → is_definition rows (link rows 0 1) ≡ true
front-head (foremost leads d) = d
front-head (behind f leads d) = front-head f

-- ρ r is the new number of row r; `head` is the word that links the first of the definitions, `root` that which links row 0.
module _ {rows : List ℤ} (o : Ordered rows) (ρ : ℕ → ℕ) (head root : ℕ) where
  -- the word of the new block's list that links what this word of the front linked
  abbrev pub front_word : ℕ → ℕ
  front_word row = pick (eqb row 0) head (6 * ρ row + 5)

  pub new_linker : ℕ → ℕ
  new_linker row =
      let word = word_of (linker rows row) in
      pick (eqb row 0) root
      (pick (eqb row (first_item rows)) (6 * ρ 0 + 1)
      (pick (is_definition rows row) (front_word (word / 6)) (6 * ρ (word / 6) + word % 6)))

  pub linker-root : new_linker 0 ≡ root
  unfolding new_linker
  linker-root = refl

  pub linker-item : 0 < first_item rows → new_linker (first_item rows) ≡ 6 * ρ 0 + 1
  unfolding new_linker
  linker-item p = rw (ne_eqb (first_item rows) 0 (λ q. omega arith), eq-eqb (first_item rows) (first_item rows) refl)

  linker-word : (row field : ℕ) → field < 6 → Leads rows row field → (word_of (linker rows (link rows row field)) / 6 ≡ row) × (word_of (linker rows (link rows row field)) % 6 ≡ field)
  linker-word row field f leads =
      let later = leads.later in
      let inside = leads.inside in
      let w = word-of row field f in
      rw (linker-of rows o.tree row field f leads (omega arith)) (w.0, w.1)

  pub linker-kept : (row field : ℕ) → field < 6 → Leads rows row field → at_seam rows row field ≡ false → new_linker (link rows row field) ≡ 6 * ρ row + field
  unfolding new_linker
  linker-kept row field f leads k =
      let later = leads.later in
      let w = linker-word row field f leads in
      rw (ne_eqb (link rows row field) 0 (λ q. omega arith), ne_eqb (link rows row field) (first_item rows) other, kept-undefined o row field f leads k, w.0, w.1)
    where
      other : link rows row field ≡ first_item rows → ⊥
      other q =
          let later = leads.later in
          let l = first-linked o (omega arith) in
          let same = one_word rows o.tree row field l.owner l.field f l.most leads l.leads (q ∙ sym l.is) in
          let here : at_seam rows row field ≡ true = ap₂ (at_seam rows) same.0 same.1 ∙ l.seam in
          true≢false (sym here ∙ k)

  pub linker-front : (row field : ℕ) → field < 6 → Leads rows row field → is_definition rows (link rows row field) ≡ true → new_linker (link rows row field) ≡ front_word row
  unfolding new_linker
  linker-front row field f leads d =
      let later = leads.later in
      let w = linker-word row field f leads in
      rw (ne_eqb (link rows row field) 0 (λ q. omega arith), ne_eqb (link rows row field) (first_item rows) (λ q. true≢false (sym d ∙ ap (is_definition rows) q ∙ first-undefined o)), d, w.0)

  -- ---- the end of the front

  pub end_word : Front rows → ℕ
  end_word (empty d) = head
  end_word (ending {row} f last) = front_word row

  pub end-head : (end : Front rows) → is_definition rows (link rows 0 1) ≡ false → head ≡ end_word end
  unfolding end_word
  end-head (empty d) e = refl
  end-head (ending f last) e = absurd (true≢false (sym (front-head f) ∙ e))

  pub end-definition : (end : Front rows) (row : ℕ) → row < row_count rows → is_definition rows row ≡ true → is_definition rows (link rows row 5) ≡ false → 6 * ρ row + 5 ≡ end_word end
  unfolding end_word
  end-definition (empty d) row n e none = absurd (true≢false (sym (front-head (o.in_order n e)) ∙ d))
  end-definition (ending {row = other} {place = place} f last) row n e none =
      let here = o.in_order n e in
      let a = functions-last rows here none in
      let b = functions-last rows f last in
      let same : row ≡ other = sym (front-function rows here) ∙ ap (function_at rows) (let q : _ ≡ place = omega arith in q) ∙ front-function rows f in
      let some = definition-some o row e in
      sym (rw (ne_eqb row 0 (λ q. omega arith))) ∙ ap front_word same
