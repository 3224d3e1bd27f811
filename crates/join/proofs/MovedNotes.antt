-- Notes of moved rows: what is handed along the links comes to a row's new place as it came to its old one, moved. At the front of a program, and at its
-- seams, there is nothing to hand on.
use Rattle.std.specs.Prelude.{◌≡◌, true, false, List, ℕ, ◌<◌, ℤ}
use Rattle.std.proofs.Common.{sym, ◌∙◌, ap, arith}
use Rattle.words.specs.Laws.{by_cases}
use Rattle.words.specs.Table.{row_count}
use Rattle.words.specs.Links.{link, note}
use Rattle.words.specs.declared.Form.{Form}
use Rattle.check_fields.specs.declared.Bounds.{Bounds}
use Rattle.check_structure.specs.LinkLaws.{by-owner}
use Rattle.check_structure.specs.NoteLaws.{note-root, note-link}
use Rattle.check_structure.specs.Structured.{Structured, Tree}
use Rattle.check_function_causes.specs.Functions.{is_definition}
use Rattle.check_function_causes.specs.Demands.{InFront, foremost, behind}
use Rattle.check_function_causes.proofs.FrontLaws.{front-defines, front-inside}
use Rattle.join.specs.Join.{first_item, joined_rows}
use Rattle.join.specs.Moved.{at_seam, InOrder, moved_link, Holds}
use Rattle.join.proofs.Fronts.{item-none, item-last, Front, empty, ending}
use Rattle.join.proofs.Kept.{Ordered, ordered, end_of_front, seam-links}
use Rattle.join.proofs.MovedLaws.{link-leads, leads-held}
use Rattle.join.proofs.MovedRoles.{begins-is, begins-leads}
use Rattle.join.proofs.Placements.{front-behind}
use Rattle.join.proofs.JoinedRows.{of_first, of_second, first_place, second_place}
use Rattle.join.proofs.JoinedSeams.{ordered-first, ordered-second, outer-first, block-seam, next-of-first, next-of-second, behind-first, behind-second}
use Rattle.join.proofs.JoinedFront.{outer-leads, block-leads, next-first-leads, next-second-leads, front-first, front-second}

-- What is handed along the links of a table. Row 0 hands nothing to its first item, and a definition hands nothing of its own to its next item.
pub record Hands (rows : List ℤ) (hand : ℕ → ℕ → ℕ → ℕ) : Type 0 where
  pub root : hand 0 1 0 ≡ 0
  pub along : (row : ℕ) → is_definition rows row ≡ true → hand row 5 0 ≡ 0

-- at the front nothing is noted
module _ {rows : List ℤ} (t : Tree rows) {hand : ℕ → ℕ → ℕ → ℕ} (w : Hands rows hand) where
  pub front-note : {row place : ℕ} → InFront rows row place → note hand 0 rows row ≡ 0
  front-note (foremost leads d) = note-link hand 0 rows t 0 1 (omega arith) leads ∙ ap (hand 0 1) (note-root hand 0 rows) ∙ w.root
  front-note (behind {row} f leads d) = note-link hand 0 rows t row 5 (omega arith) leads ∙ ap (hand row 5) (front-note f) ∙ w.along row (front-defines rows f)

-- ---- a program in another table

-- A row and its new place hand on the same, moved; the old block and the definitions have nothing noted there.
pub record HandsMoved (joined rows : List ℤ) (ρ : ℕ → ℕ) (hand hand' : ℕ → ℕ → ℕ → ℕ) : Type 0 where
  pub kept : (owner field : ℕ) → owner < row_count rows → field < 6 → at_seam rows owner field ≡ false → note hand' 0 joined (ρ owner) ≡ moved_link ρ (note hand 0 rows owner)
      → hand' (ρ owner) field (note hand' 0 joined (ρ owner)) ≡ moved_link ρ (hand owner field (note hand 0 rows owner))
  pub block : hand' (ρ 0) 1 0 ≡ 0
  pub top : note hand' 0 joined (ρ 0) ≡ 0
  pub front : {row place : ℕ} → InFront rows row place → note hand' 0 joined (ρ row) ≡ 0

module _ {form : Form} {bounds : Bounds} {joined rows : List ℤ} {ρ φ : ℕ → ℕ} (s : Structured form bounds rows) (i : InOrder rows) (h : Holds joined rows ρ φ) (t : Tree joined) {hand hand' : ℕ → ℕ → ℕ → ℕ} (w : Hands rows hand) (m : HandsMoved joined rows ρ hand hand') where
  o : Ordered rows
  o = ordered s i

  item-note : 0 < first_item rows → note hand 0 rows (first_item rows) ≡ 0
  item-note p = go (end_of_front o)
    where
      go : Front rows → note hand 0 rows (first_item rows) ≡ 0
      go (empty d) =
          let is = item-none rows d in
          ap (note hand 0 rows) is ∙ note-link hand 0 rows o.tree 0 1 (omega arith) (o.tree.forward 0 1 o.tree.some_rows (omega arith) (rw is at p)) ∙ ap (hand 0 1) (note-root hand 0 rows) ∙ w.root
      go (ending {row} f last) =
          let is = item-last rows f last in
          ap (note hand 0 rows) is ∙ note-link hand 0 rows o.tree row 5 (omega arith) (o.tree.forward row 5 (front-inside rows f) (omega arith) (rw is at p)) ∙ ap (hand row 5) (front-note o.tree w f) ∙ w.along row (front-defines rows f)

  item-moved : 0 < first_item rows → note hand' 0 joined (ρ (first_item rows)) ≡ 0
  item-moved p = ap (note hand' 0 joined) (sym (begins-is s i h p)) ∙ note-link hand' 0 joined t (ρ 0) 1 (omega arith) (begins-leads s i h p) ∙ ap (hand' (ρ 0) 1) m.top ∙ m.block

  pub moved-note : (row : ℕ) → row < row_count rows → note hand' 0 joined (ρ row) ≡ moved_link ρ (note hand 0 rows row)
  moved-note =
      by-owner rows o.tree (λ (row : ℕ). note hand' 0 joined (ρ row) ≡ moved_link ρ (note hand 0 rows row))
      (m.top ∙ sym (ap (moved_link ρ) (note-root hand 0 rows)))
      (λ owner field f leads above.
      let later = leads.later in
      let inside = leads.inside in
      by_cases (at_seam rows owner field)
      (λ e. by_cases (is_definition rows (link rows owner field))
      (λ d. let front = o.in_order inside d in m.front front ∙ sym (ap (moved_link ρ) (front-note o.tree w front)))
      (λ d. let is = seam-links o owner field leads e d in
      ap (λ (x : ℕ). note hand' 0 joined (ρ x)) is ∙ item-moved (omega arith) ∙ sym (ap (λ (x : ℕ). moved_link ρ (note hand 0 rows x)) is ∙ ap (moved_link ρ) (item-note (omega arith)))))
      (λ k. ap (note hand' 0 joined) (sym (link-leads h owner field f leads k))
      ∙ note-link hand' 0 joined t (ρ owner) field f (leads-held h owner field f leads k)
      ∙ m.kept owner field (omega arith) f k above
      ∙ sym (ap (moved_link ρ) (note-link hand 0 rows o.tree owner field f leads))))

-- ---- the items of a join's new block

module _ {form : Form} {bounds : Bounds} (first second : List ℤ) (s : Structured form bounds first) (z : Structured form bounds second) (p : InOrder first) (q : InOrder second)
    (t : Tree (joined_rows first second)) {hand : ℕ → ℕ → ℕ → ℕ} (w : Hands (joined_rows first second) hand) (after : hand (first_place first second 0) 5 0 ≡ 0) where
  abbrev joined : List ℤ
  joined = joined_rows first second

  abbrev ρ : ℕ → ℕ
  ρ = first_place first second

  abbrev ρ' : ℕ → ℕ
  ρ' = second_place first second

  behind-note : note hand 0 joined (of_first first second).behind ≡ 0
  behind-note = go (end_of_front (ordered-first first second s z p q))
    where
      go : Front first → note hand 0 joined (of_first first second).behind ≡ 0
      go (empty d) =
          ap (note hand 0 joined) (sym (outer-first first second s z p q ∙ front-behind (of_first first second) first (link first 0 1) d))
          ∙ note-link hand 0 joined t 0 1 (omega arith) (outer-leads first second s z p q) ∙ ap (hand 0 1) (note-root hand 0 joined) ∙ w.root
      go (ending {row} f last) =
          let n = front-inside first f in
          let d = front-defines first f in
          let there = front-first first second s z p q f in
          ap (note hand 0 joined) (sym (next-of-first first second s z p q row n d ∙ front-behind (of_first first second) first (link first row 5) last))
          ∙ note-link hand 0 joined t (ρ row) 5 (omega arith) (next-first-leads first second s z p q row n d) ∙ ap (hand (ρ row) 5) (front-note t w there) ∙ w.along (ρ row) (front-defines joined there)

  pub first-top : note hand 0 joined (ρ 0) ≡ 0
  first-top = go (end_of_front (ordered-second first second s z p q))
    where
      go : Front second → note hand 0 joined (ρ 0) ≡ 0
      go (empty d) = ap (note hand 0 joined) (sym (behind-first first second s z p q ∙ front-behind (of_second first second) second (link second 0 1) d ∙ behind-second first second s z p q)) ∙ behind-note
      go (ending {row} f last) =
          let n = front-inside second f in
          let d = front-defines second f in
          let there = front-second first second s z p q f in
          ap (note hand 0 joined) (sym (next-of-second first second s z p q row n d ∙ front-behind (of_second first second) second (link second row 5) last ∙ behind-second first second s z p q))
          ∙ note-link hand 0 joined t (ρ' row) 5 (omega arith) (next-second-leads first second s z p q row n d) ∙ ap (hand (ρ' row) 5) (front-note t w there) ∙ w.along (ρ' row) (front-defines joined there)

  pub second-top : note hand 0 joined (ρ' 0) ≡ 0
  second-top = ap (note hand 0 joined) (sym (block-seam first second s z p q)) ∙ note-link hand 0 joined t (ρ 0) 5 (omega arith) (block-leads first second s z p q) ∙ ap (hand (ρ 0) 5) first-top ∙ after
