-- Laws of what the code writes: the words of a row, one row behind the other, one part behind the other.
use Rattle.std.specs.Prelude.{◌≡◌, refl, Bool, true, false, ◌&&◌, List, [], ◌∷◌, ◌++◌, ℕ, zero, suc, ◌+◌, ◌-◌, ◌*◌, ◌≤◌, ◌<◌, eqb, ℤ, pos, length, set}
use Rattle.std.proofs.Math.Path.{sym, ap}
use Rattle.std.proofs.Common.{◌∙◌, arith, add-one, length-drop}
use borrow.Author.Tests.{ne_eqb, eq-eqb}
use Rattle.words.specs.Word.{pick}
use Rattle.words.specs.Laws.{by_cases}
use Rattle.words.specs.Over.{over}
use Rattle.words.specs.OverLaws.{length_over, part as rest, back_in, part-is, over-set, over-next}
use Rattle.words.specs.Table.{row_count, number_at, word_at}
use Rattle.words.specs.Kinds.{function_number, is_link, sort_at}
use Rattle.words.specs.Links.{link}
use Rattle.check_grammar.specs.Grammar.{tabulate}
use Rattle.check_function_causes.specs.Functions.{is_definition}
use Rattle.join.proofs.Counting.{before-has, before-not, before-parts, before-most, placed-length}
use Rattle.join.specs.Join.{is_of_definition, is_other, before, first_item, Placement, place_of, front_of, placed_link, placed_word, placed_rows}
use Rattle.join_rows.specs.Standings.{rank_of, part}

-- ---- the place of a row

-- its place in its part is no higher than the row
pub rank_most : (rows : List ℤ) (row : ℕ) → rank_of rows row ≤ row
unfolding rank_of is_other
rank_most rows row =
    let parts = before-parts (is_of_definition rows) row in
    by_cases (is_of_definition rows row) (λ e. rw e (omega arith)) (λ e. rw e (omega arith))

module _ (placement : Placement) (rows : List ℤ) (row rank : ℕ) (is : rank ≡ rank_of rows row) where
  pub place-definition : is_of_definition rows row ≡ true → placement.definitions + rank ≡ place_of placement rows row
  unfolding rank_of place_of
  place-definition e = rw (is, e)

  pub place_other : is_of_definition rows row ≡ false → placement.others + rank ≡ place_of placement rows row
  unfolding rank_of place_of
  place_other e = rw (is, e)

-- ---- words of a row

module _ (placement : Placement) (rows : List ℤ) where
  -- the next of a row
  pub next-definition : (row to : ℕ) → is_definition rows row ≡ true → to ≡ link rows row 5 → front_of placement rows to ≡ placed_link placement rows row 5
  unfolding placed_link
  next-definition row to d e = rw (d, e)

  pub next-root : (row : ℕ) → is_definition rows row ≡ false → row ≡ 0 → placement.after ≡ placed_link placement rows row 5
  unfolding placed_link
  next-root row d z = rw (d, eq-eqb row 0 z)

  pub next-other : (row to : ℕ) → is_definition rows row ≡ false → (row ≡ 0 → ⊥) → to ≡ link rows row 5 → pick (eqb to 0) 0 (place_of placement rows to) ≡ placed_link placement rows row 5
  unfolding placed_link
  next-other row to d z e = rw (d, ne_eqb row 0 z, e)

  -- a part of a row
  pub part-first : (row field item : ℕ) → field < 5 → (eqb row 0 && eqb field 1) ≡ true → item ≡ first_item rows → pick (eqb item 0) 0 (place_of placement rows item) ≡ placed_link placement rows row field
  unfolding placed_link
  part-first row field item h first e = rw (first, ne_eqb field 5 (λ q. omega arith), e) (by_cases (is_definition rows row) (λ d. rw d (by_cases (eqb row 0) (λ z. rw z) (λ z. rw z))) (λ d. rw d (by_cases (eqb row 0) (λ z. rw z) (λ z. rw z))))

  pub part-other : (row field to : ℕ) → field < 5 → (eqb row 0 && eqb field 1) ≡ false → to ≡ link rows row field → pick (eqb to 0) 0 (place_of placement rows to) ≡ placed_link placement rows row field
  unfolding placed_link
  part-other row field to h other e = rw (other, ne_eqb field 5 (λ q. omega arith), e) (by_cases (is_definition rows row) (λ d. rw d (by_cases (eqb row 0) (λ z. rw z) (λ z. rw z))) (λ d. rw d (by_cases (eqb row 0) (λ z. rw z) (λ z. rw z))))

  pub word-linked : (row field : ℕ) → is_link (sort_at rows row field) ≡ true → pos (placed_link placement rows row field) ≡ placed_word placement rows row field
  unfolding placed_word
  word-linked row field e = rw e

  pub word-numbered : (row field : ℕ) → is_link (sort_at rows row field) ≡ false → sort_at rows row field ≡ function_number → pos (placement.functions + number_at rows row field) ≡ placed_word placement rows row field
  unfolding placed_word
  word-numbered row field e f = rw (e, eq-eqb (sort_at rows row field) function_number f)

  pub word_kept : (row field : ℕ) → is_link (sort_at rows row field) ≡ false → (sort_at rows row field ≡ function_number → ⊥) → word_at rows row field ≡ placed_word placement rows row field
  unfolding placed_word
  word_kept row field e f = rw (e, ne_eqb (sort_at rows row field) function_number f)

-- ---- words, one behind the other

-- one entry more
tabulate-next : {A : Type 0} (entry : ℕ → A) (from count : ℕ) → tabulate entry from (suc count) ≡ tabulate entry from count ++ (entry (from + count) ∷ [])
tabulate-next entry from zero = ap (λ (n : ℕ). entry n ∷ []) (let e : from ≡ from + 0 = omega arith in e)
tabulate-next entry from (suc count) =
    ap (λ (l : List _). entry from ∷ l) (tabulate-next entry (suc from) count
    ∙ ap (λ (n : ℕ). tabulate entry (suc from) count ++ (entry n ∷ [])) (let e : suc from + count ≡ from + suc count = omega arith in e))

pub length-tabulate : {A : Type 0} (entry : ℕ → A) (from count : ℕ) → length (tabulate entry from count) ≡ count
length-tabulate entry from zero = refl
length-tabulate entry from (suc count) = ap suc (length-tabulate entry (suc from) count)

-- one word more is written
pub word_more : (entry : ℕ → ℤ) (out left : List ℤ) (words : ℕ) (w : ℤ) → left ≡ over (tabulate entry 0 words) out → words < length out → w ≡ entry words → set left words w ≡ over (tabulate entry 0 (words + 1)) out
word_more entry out left words w e h is =
    let many = length-tabulate entry 0 words in
    over-set (tabulate entry 0 words) out left words w e (sym many) (omega arith)
    ∙ ap (λ (v : ℤ). over (tabulate entry 0 words ++ (v ∷ [])) out) (is ∙ ap entry (let q : words ≡ 0 + words = omega arith in q))
    ∙ ap (λ (l : List ℤ). over l out) (sym (ap (λ (n : ℕ). tabulate entry 0 n) (add-one words) ∙ tabulate-next entry 0 words))

-- ---- rows of a part, one behind the other

module _ (placement : Placement) (definitions : Bool) (rows : List ℤ) where
  abbrev chosen : ℕ → Bool
  chosen = part definitions rows

  pub words-so-far : (row : ℕ) → length (placed_rows placement chosen rows row) ≡ 6 * before chosen row
  words-so-far row = placed-length placement chosen rows row

  -- one row more is written
  pub row_more : (row k words : ℕ) (l l1 l2 : List ℤ) (b : Bool) → b ≡ chosen row → k ≡ 6 * before chosen row → l1 ≡ over (placed_rows placement chosen rows row) l
      → l2 ≡ over (pick b (tabulate (placed_word placement rows row) 0 6) []) (rest k l1) → words ≡ pick b 6 0
      → (back_in k l1 l2 ≡ over (placed_rows placement chosen rows (row + 1)) l) × (k + words ≡ 6 * before chosen (row + 1))
  unfolding placed_rows
  row_more row k words l l1 l2 b c e w w2 n = (
    over-next (placed_rows placement chosen rows row) (pick b (tabulate (placed_word placement rows row) 0 6) []) l l1 l2 k (e ∙ sym (words-so-far row)) w w2
        ∙ ap (λ (x : Bool). over (placed_rows placement chosen rows row ++ pick x (tabulate (placed_word placement rows row) 0 6) []) l) c
        ∙ ap (λ (m : ℕ). over (placed_rows placement chosen rows m) l) (sym (add-one row)),
    counts,
  )
    where
      counts : k + words ≡ 6 * before chosen (row + 1)
      counts =
          rw (add-one row) (by_cases (chosen row)
          (λ t. let q : words ≡ 6 = n ∙ ap (λ (x : Bool). pick x 6 0) (c ∙ t) in let up = before-has chosen row t in omega arith)
          (λ t. let q : words ≡ 0 = n ∙ ap (λ (x : Bool). pick x 6 0) (c ∙ t) in let up = before-not chosen row t in omega arith))

  -- there is room for it
  pub row_room : (row k : ℕ) (l l1 : List ℤ) (b : Bool) → b ≡ chosen row → row < row_count rows → k ≡ 6 * before chosen row → l1 ≡ over (placed_rows placement chosen rows row) l → 6 * before chosen (row_count rows) ≤ length l
      → (k ≤ length l1) × (pick b 6 0 ≤ length (rest k l1)) × (length l1 ≡ length l)
  row_room row k l l1 b c n e w room =
      let long = words-so-far row in
      let most = before-most chosen row (row_count rows) (omega arith) in
      let same = length_over (placed_rows placement chosen rows row) l l1 w (omega arith) in
      let left : length (rest k l1) ≡ length l1 - k = rw (part-is k l1, length-drop k l1) refl in
      (omega arith, fits left same, same)
    where
      fits : length (rest k l1) ≡ length l1 - k → length l1 ≡ length l → pick b 6 0 ≤ length (rest k l1)
      fits left same =
          by_cases (chosen row)
          (λ t. let has = before-has chosen row t in let more = before-most chosen (suc row) (row_count rows) (omega arith) in rw (c ∙ t) (omega arith))
          (λ t. rw (c ∙ t) (omega arith))
