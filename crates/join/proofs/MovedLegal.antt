-- Legality of moved rows: what legality asks of a word that is kept, and of the marks of a list, holds at the new place. Of the words at the seam the
-- joined table speaks itself.
use Rattle.std.specs.Prelude.{◌≡◌, refl, ◌↔◌, true, false, List, eqb, ℤ}
use Rattle.std.proofs.Math.Path.{sym, ap}
use Rattle.std.proofs.Common.{◌∙◌, subst}
use Prim.Native.Nat.{ℕ, zero, suc, ◌≤◌, ◌<◌}
use native.Mathlib.Omega.{arith}
use borrow.Author.Tests.{ne_eqb, eqb-true}
use Rattle.words.specs.Word.{natural}
use Rattle.words.specs.Laws.{by_cases}
use Rattle.words.specs.Table.{row_count, word_at, number_at}
use Rattle.words.specs.Kinds.{kinds, kind_in, kind_of, unused, variable, array, label, declared_number, function_number, expression, absent_link, is_link, is_required, in_language, kind_row, expression_fields, statement_fields, mark_fields, definition_fields, member_fields, sort_in, sort_of, sort_at}
use Rattle.words.specs.KindLaws.{between-both}
use Rattle.words.specs.Declarations.{is_declaration}
use Rattle.words.specs.Links.{link, fits, is_expression, is_place, is_statement, is_block, is_arm, is_argument}
use Rattle.words.specs.declared.Form.{Form}
use Rattle.check_fields.specs.Fields.{number_fits}
use Rattle.words_roles.specs.Roles.{role_sort}
use Rattle.check_structure.specs.Structured.{Leads, Structured, Tree}
use Rattle.check_structure.specs.Lists.{Before, adjacent, further, before-later}
use Rattle.check_fields.specs.declared.Bounds.{Bounds}
use Rattle.check_source.specs.Legal.{Distinct}
use Rattle.check_function_causes.specs.Functions.{is_definition}
use Rattle.join.specs.Moved.{at_seam, InOrder, numbers_function, Holds}
use Rattle.join.proofs.Fronts.{kept-part, kept_next}
use Rattle.join.proofs.Kept.{Ordered, ordered, kept-undefined}
use Rattle.join.proofs.MovedLaws.{Earlier, number-held, sort-held, link-leads, leads-held, link-back, holds-itself}
use Rattle.join.proofs.MovedRoles.{role-sort}
use Rattle.join.proofs.MovedTrees.{next-alike}

-- a link names no variable, array or label
pub link-named : (bounds : Bounds) (sort number : ℕ) → is_link sort ≡ true → number_fits bounds sort number ≡ true
unfolding number_fits is_link
link-named bounds sort number e =
    let range = between-both expression absent_link sort e in
    let least = range.0 in
    rw (ne_eqb sort variable (λ q. omega arith), ne_eqb sort array (λ q. omega arith), ne_eqb sort label (λ q. omega arith), ne_eqb sort declared_number (λ q. omega arith))

zero-alike : (m l : ℕ) → (m ≡ 0) ↔ (l ≡ 0) → eqb m 0 ≡ eqb l 0
zero-alike zero zero a = refl
zero-alike zero (suc l) a = absurd (let z = a.0 refl in omega arith)
zero-alike (suc m) zero a = absurd (let z = a.1 refl in omega arith)
zero-alike (suc m) (suc l) a = ne_eqb (suc m) 0 (λ q. omega arith) ∙ sym (ne_eqb (suc l) 0 (λ q. omega arith))

-- a function's number is not bounded
pub function-named : (bounds : Bounds) (sort number : ℕ) → numbers_function sort ≡ true → number_fits bounds sort number ≡ true
unfolding number_fits
function-named bounds sort number e = rw (eqb-true sort function_number e)

module _ {form : Form} {bounds : Bounds} {joined rows : List ℤ} {ρ φ : ℕ → ℕ} (s : Structured form bounds rows) (i : InOrder rows) (h : Holds joined rows ρ φ) where
  o : Ordered rows
  o = ordered s i

  -- ---- causes 3, 4 and 6

  pub known-held : (row : ℕ) → row < row_count rows → in_language form (number_at joined (ρ row) 0) ≡ true
  known-held row n = rw (number-held h row n) (s.known row n)

  module _ (row field : ℕ) (n : row < row_count rows) (least : 1 ≤ field) (most : field < 6) (own : at_seam rows row field ≡ false) where
    pub unused-held : sort_at joined (ρ row) field ≡ unused → number_at joined (ρ row) field ≡ 0
    unfolding number_at is_link
    unused-held e =
        let same : sort_at rows row field ≡ unused = sym (sort-held h row field n) ∙ e in
        ap natural (h.stays row field n most own (ap is_link same) (ap numbers_function same)) ∙ s.unused_zero row n field least most same

    pub present-held : Tree joined → is_required (role_sort joined (ρ row) field) ≡ true → 0 < link joined (ρ row) field
    present-held t e =
        let leads = s.forward row n field least most (s.present row n field least most (rw (role-sort s i h t row field n) at e)) in
        let later = (leads-held h row field most leads own).later in
        omega arith

    pub forward-held : 0 < link joined (ρ row) field → Leads joined (ρ row) field
    forward-held p = leads-held h row field most (link-back s h row field n least most own p) own

    pub named-held : number_fits bounds (sort_at joined (ρ row) field) (number_at joined (ρ row) field) ≡ true
    unfolding number_at
    named-held = rw (sort-held h row field n) (by_cases (is_link (sort_at rows row field))
        (λ e. link-named bounds (sort_at rows row field) (number_at joined (ρ row) field) e)
        (λ e. by_cases (numbers_function (sort_at rows row field))
        (λ f. function-named bounds (sort_at rows row field) (number_at joined (ρ row) field) f)
        (λ f. rw (h.stays row field n most own e f) (s.named row n field least most))))

  pub fits-held : (sort row : ℕ) → 0 < row → is_definition rows row ≡ false → row < row_count rows → fits joined sort (ρ row) ≡ fits rows sort row
  unfolding fits is_expression is_place is_statement is_block is_arm is_argument is_declaration
  fits-held sort row p d n = rw (sort-held h row 0 n, number-held h row n, zero-alike (number_at joined (ρ row) 5) (number_at rows row 5) (next-alike s i (holds-itself h) row (p, d) n))

  pub fitting-held : Tree joined → (row field : ℕ) → row < row_count rows → 1 ≤ field → field < 6 → at_seam rows row field ≡ false → 0 < link joined (ρ row) field
      → fits joined (role_sort joined (ρ row) field) (link joined (ρ row) field) ≡ true
  fitting-held t row field n least most own p =
      let leads = link-back s h row field n least most own p in
      let later = leads.later in
      rw (role-sort s i h t row field n, link-leads h row field most leads own, fits-held (role_sort rows row field) (link rows row field) (omega arith) (kept-undefined o row field most leads own) leads.inside)
      (s.fitting row n field least most (omega arith))

  -- ---- cause 8: back along the lists

  -- An item before a row, at its old place.
  pub record EarlierItem (row item : ℕ) : Type 0 where
    pub old : ℕ
    pub is : item ≡ ρ old
    pub before : Before rows old row

  module _ (back : (row item : ℕ) → 0 < row → row < row_count rows → is_definition rows row ≡ false → Leads joined item 5 → link joined item 5 ≡ ρ row → Earlier rows ρ row item) where
    pub before_back : {item place : ℕ} → Before joined item place → (row : ℕ) → 0 < row → row < row_count rows → is_definition rows row ≡ false → place ≡ ρ row → EarlierItem row item
    before_back (adjacent {item} leads) row p n d e =
        let w = back row item p n d leads e in
        record { old = w.old; is = w.is; before = subst (Before rows w.old) w.to (adjacent w.leads) }
    before_back (further {item} {row} b leads) place p n d e =
        let w = back place row p n d leads e in
        let inner = kept_next rows w.old w.kept in
        let later = w.leads.later in
        let below = w.leads.inside in
        let m = before_back b w.old inner.0 (omega arith) inner.1 w.is in
        record { old = m.old; is = m.is; before = subst (Before rows m.old) w.to (further m.before w.leads) }

    -- a mark is neither row 0, which is a block, nor a definition
    mark-inner : (row number : ℕ) → number_at rows row 0 ≡ number → 48 ≤ number → number ≤ 49 → (0 < row) × (is_definition rows row ≡ false)
    unfolding is_definition
    mark-inner row number e m most = (some row e, ne_eqb (number_at rows row 0) 59 (λ q. omega arith))
      where
        some : (row : ℕ) → number_at rows row 0 ≡ number → 0 < row
        some zero e = absurd (let b = s.block in omega arith)
        some (suc row) e = omega arith

    case-value : (row : ℕ) → row < row_count rows → number_at rows row 0 ≡ 48 → word_at joined (ρ row) 1 ≡ word_at rows row 1
    unfolding sort_at sort_of sort_in kind_of kind_in kinds kind_row expression_fields statement_fields mark_fields definition_fields member_fields is_link
    case-value row n k = h.stays row 1 n (omega arith) (kept-part rows row 1 (mark-inner row 48 k (omega arith) (omega arith)).0 (omega arith)) (rw k) (rw k)

    old-number : {row item number : ℕ} → row < row_count rows → (m : EarlierItem row item) → number_at joined item 0 ≡ number → number_at rows m.old 0 ≡ number
    old-number n m e = let up = before-later m.before in sym (number-held h m.old (omega arith)) ∙ sym (ap (λ (x : ℕ). number_at joined x 0) m.is) ∙ e

    pub distinct-held : (row : ℕ) → row < row_count rows → Distinct rows row → Distinct joined (ρ row)
    distinct-held row n d = record {
      no_equal_case = λ k mark before q v.
          let here : number_at rows row 0 ≡ 48 = sym (number-held h row n) ∙ k in
          let inner = mark-inner row 48 here (omega arith) (omega arith) in
          let m = before_back before row inner.0 n inner.1 refl in
          let up = before-later m.before in
          let there = old-number n m q in
          d.no_equal_case here m.old m.before there
          (sym (case-value m.old (omega arith) there) ∙ sym (ap (λ (x : ℕ). word_at joined x 1) m.is) ∙ v ∙ case-value row n here);
      no_second_default = λ k mark before q.
          let here : number_at rows row 0 ≡ 49 = sym (number-held h row n) ∙ k in
          let inner = mark-inner row 49 here (omega arith) (omega arith) in
          let m = before_back before row inner.0 n inner.1 refl in
          d.no_second_default here m.old m.before (old-number n m q);
    }
