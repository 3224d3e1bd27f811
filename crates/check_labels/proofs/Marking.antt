-- Marks of the lists that have labels with a number; and that a mark answers the search for a label behind a row.
use mathlib.Core.Path.{◌≡◌, refl, sym, ap, ◌∙◌}
use mathlib.Core.Bool.{Bool, true, false, true≢false}
use mathlib.Core.List.{List}
use Prim.Native.Nat.{ℕ, ◌+◌, ◌≤◌, ◌<◌}
use native.Mathlib.Omega.{arith}
use native.Mathlib.Decide.{ℕ_discrete, dec_lt}
use lib.Arith.{lt_of_le-ne}
use lib.IntN.{ℤ}
use lib.ListN.{get_or, set, length-set, replicate, length-replicate, get_or-replicate}
use lib.Seq.{get_or-set_same, get_or-set_other}
use Rattle.words.specs.Table.{row_count}
use Rattle.check_structure.specs.Structured.{Tree}
use Rattle.check_structure.specs.Lists.{before-later, before_inside}
use Rattle.check_labels.specs.Labels.{is_label, label_behind}
use Rattle.check_labels.specs.Ahead.{Label}
use Rattle.check_labels.proofs.LabelLaws.{label-test, test-label, search-behind, behind-search}
use Rattle.check_labels.proofs.ListLaws.{first-most, same-list, before-first}
use Rattle.check_labels.specs.Passes.{note_at, Jump, NextJump, ListLabel, Marks, Latest, Marked}
use Rattle.check_labels.specs.declared.LabelNote.TheVariants.{First}

pub refuted : (b : Bool) → (b ≡ true → ⊥) → b ≡ false
refuted true n = absurd (n refl)
refuted false n = refl

-- no list is marked yet
pub marks-start : (rows : List ℤ) (room : ℕ) → row_count rows ≤ room → Marks rows (replicate room 0)
marks-start rows room h =
    record { room = rw length-replicate h; own = λ first n p. absurd (let z = rw (get_or-replicate {A = ℕ} room first 0 0 (omega arith)) at p in omega arith) }

module _ (rows : List ℤ) (number : ℕ) where
  pub label-jump : (row : ℕ) → row < row_count rows → Label rows number row → Jump rows number row
  label-jump row n l = record { inside = n; jump = rw l.label; number_is = l.number_is }

  module _ (marks : List ℕ) where
    pub marked_start : Marks rows marks → Marked rows number 0 marks
    marked_start m = record { labels = m; latest = λ row n h l. absurd (omega arith) }

    -- rows between an item of the chain and the next are no labels with the number
    pub marked-skip : (from next : ℕ) → NextJump rows number from next → Marked rows number from marks → Marked rows number next marks
    marked-skip from next j m = record { labels = m.labels; latest = λ row n h l. go row n h l (dec_lt row from) }
      where
        go : (row : ℕ) → row < row_count rows → row < next → Label rows number row → Dec (row < from) → Latest rows number row (get_or marks (note_at First rows row) 0)
        go row n h l (yes d) = m.latest row n d l
        go row n h l (no d) = absurd (j.none_before row (omega (arith, d)) h (label-jump row n l))

    pub marked_all : (upto : ℕ) → row_count rows ≤ upto → Marked rows number upto marks → Marked rows number (row_count rows) marks
    marked_all upto b m = record { labels = m.labels; latest = λ row n h l. m.latest row n (omega arith) l }

    pub marked-none : (row : ℕ) (test : Bool) → test ≡ is_label rows number row → test ≡ false → Marked rows number row marks → Marked rows number (row + 1) marks
    marked-none row test e f m = record { labels = m.labels; latest = λ other n h l. m.latest other n (go other h l) l }
      where
        go : (other : ℕ) → other < row + 1 → Label rows number other → other < row
        go other h l = lt_of_le-ne (omega arith) (λ (q : other ≡ row). true≢false (sym (label-test rows number other l) ∙ ap (is_label rows number) q ∙ sym e ∙ f))

    module _ (t : Tree rows) where
      pub marked-set : (row first : ℕ) (test : Bool) → row < row_count rows → first ≡ note_at First rows row → test ≡ is_label rows number row → test ≡ true
          → Marked rows number row marks → Marked rows number (row + 1) (set marks first row)
      marked-set row first test n f e y m =
          record {
            labels = record { room = rw length-set m.labels.room; own = λ other b p. own other b p (ℕ_discrete other first) };
            latest = λ other b h l. latest other b h l (ℕ_discrete (note_at First rows other) first);
          }
        where
          is : is_label rows number row ≡ true
          is = sym e ∙ y

          same : get_or (set marks first row) first 0 ≡ row
          same = get_or-set_same marks first row 0 (let most = first-most rows t row n in let room = m.labels.room in omega arith)

          own : (other : ℕ) → other < row_count rows → 0 < get_or (set marks first row) other 0 → Dec (other ≡ first) → ListLabel rows other (get_or (set marks first row) other 0)
          own other b p (yes q) = rw (q, same) (record { inside = n; label = (test-label rows number row is).label; list = sym f })
          own other b p (no q) = rw (get_or-set_other marks first other row 0 q) (m.labels.own other b (rw (get_or-set_other marks first other row 0 q) at p))

          latest : (other : ℕ) → other < row_count rows → other < row + 1 → Label rows number other → Dec (note_at First rows other ≡ first)
              → Latest rows number other (get_or (set marks first row) (note_at First rows other) 0)
          latest other b h l (yes q) = rw (q, same) (record { late = omega arith; label = is })
          latest other b h l (no q) =
              let below : other < row = lt_of_le-ne (omega arith) (λ (x : other ≡ row). q (ap (note_at First rows) x ∙ sym f)) in
              rw (get_or-set_other marks first (note_at First rows other) row 0 q) (m.latest other b below l)

      -- ---- the mark of a row's list answers the search

      module _ (row mark : ℕ) (n : row < row_count rows) (m : Marked rows number (row_count rows) marks) (at : mark ≡ get_or marks (note_at First rows row) 0) where
        late : (item : ℕ) → (note_at First rows item ≡ note_at First rows row) → item < row_count rows → Label rows number item → Latest rows number item mark
        late item e b l = rw (at, ← e) (m.latest item b b l)

        pub mark-none : mark ≤ row → false ≡ label_behind (row_count rows) rows number row
        mark-none h = sym (refuted _ (λ e.
            let z = search-behind rows t number (row_count rows) row n e in
            let l = (late z.item (before-first rows t z.before) (before_inside z.before) z.is).late in
            let after = before-later z.before in
            omega arith))

        pub mark-some : (test : Bool) → row < mark → test ≡ is_label rows number mark → test ≡ label_behind (row_count rows) rows number row
        mark-some true h e =
            let first = first-most rows t row n in
            let own : ListLabel rows (note_at First rows row) mark = rw at (m.labels.own (note_at First rows row) (omega arith) (rw (← at) (omega arith))) in
            sym (behind-search rows t number (row_count rows) row mark (let i = own.inside in omega arith)
            (same-list rows t row mark h own.inside (sym own.list)) (test-label rows number mark (sym e)))
        mark-some false h e = sym (refuted _ (λ f.
            let z = search-behind rows t number (row_count rows) row n f in
            true≢false (sym (late z.item (before-first rows t z.before) (before_inside z.before) z.is).label ∙ sym e)))
