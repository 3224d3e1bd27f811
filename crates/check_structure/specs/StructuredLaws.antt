-- Laws of structure: the causes 1 to 6 accept exactly the structured tables, whose rows make a tree. Each cause by itself, then the chain.
use Rattle.std.specs.Prelude.{◌≡◌, Bool, ◌&&◌, List, ℕ, zero, suc, ◌≤◌, ◌<◌, ltb, ℤ, length, None, Ok}
use Rattle.std.proofs.Math.Path.{refl, ap}
use Rattle.std.proofs.Common.{sym, ◌∙◌, arith}
use Rattle.std.proofs.Math.Bool.{true, false, not, true≢false}
use Rattle.std.proofs.Math.Decide.{ℕ_discrete}
use Rattle.std.proofs.Math.Dec.{eqb}
use borrow.Author.Tests.{eqb-true, eq-eqb, ne_eqb, ltb-true, lt-ltb, not-false}
use Rattle.words.specs.Word.{pick}
use Rattle.words.specs.Table.{row_count, number_at}
use Rattle.words.specs.Layout.{header_fits, count_fits}
use Rattle.words.specs.Laws.{both, row_limit-most, count_fits-facts}
use Rattle.words.specs.declared.Form.{Form}
use Rattle.words.specs.Kinds.{unused, variable, array, label, declared_number, sort_of, sort_at, between, in_language, is_link, is_required}
use Rattle.words.specs.KindLaws.{required-link}
use Rattle.words.specs.Links.{link, fits}
use Rattle.words_roles.specs.Roles.{role_sort}
use Rattle.words_roles.proofs.RoleLaws.{role-links}
use Rattle.words.specs.Search.{lowest_row, some_field}
use Rattle.words.specs.SearchLaws.{lowest_row-all, all-lowest_row, some_field-all, all-some_field}
use Rattle.check_fields.specs.Fields.{foreign, leads_right, mislinked, bounds_of, number_fits, outside}
use Rattle.check_structure.specs.Links.{link_count, lone_block, not_once}
use Rattle.check_grammar.specs.GrammarLaws.{kind-no-link, kind-no-number, kind-links-none}
use Rattle.check_structure.specs.NoteLaws.{above_zero}
use Rattle.check_structure.specs.Refusal.{at, unless, ◌next◌, row_causes, structural_refusal}
use Rattle.check_structure.specs.RefusalLaws.{next-accepts, accepts-next, at-accepts, accepts-at, unless-accepts, accepts-unless}
use Rattle.check_structure.specs.Structured.{Leads, Structured, Tree}
use Rattle.check_fields.specs.declared.Bounds.{Bounds}

-- ---- each field of each row

-- a search through the fields of all rows finds nothing exactly where no field has the property
abbrev NoField : List ℤ → (ℕ → ℕ → Bool) → Type 0
NoField rows p = (row : ℕ) → row < row_count rows → (field : ℕ) → field < 6 → p row field ≡ false

fields-all : (rows : List ℤ) (p : ℕ → ℕ → Bool) → lowest_row rows (λ row. some_field (p row)) ≡ None → NoField rows p
fields-all rows p e row n field h = some_field-all (p row) (lowest_row-all rows (λ row. some_field (p row)) e row n) field h

all-fields : (rows : List ℤ) (p : ℕ → ℕ → Bool) → NoField rows p → lowest_row rows (λ row. some_field (p row)) ≡ None
all-fields rows p h = all-lowest_row rows (λ row. some_field (p row)) (λ row n. all-some_field (p row) (λ field f. h row n field f))

-- a property of each field, from one of the kind and one of the others
each-field : (p : ℕ → Bool) → p 0 ≡ false → ((field : ℕ) → 1 ≤ field → field < 6 → p field ≡ false) → (field : ℕ) → field < 6 → p field ≡ false
each-field p kind others zero h = kind
each-field p kind others (suc field) h = others (suc field) (omega arith) h

-- ---- cause 3

module _ (form : Form) (rows : List ℤ) (row : ℕ) where
  foreign-kind : foreign form rows row 0 ≡ false → in_language form (number_at rows row 0) ≡ true
  unfolding foreign
  foreign-kind e = not-false (in_language form (number_at rows row 0)) e

  kind-foreign : in_language form (number_at rows row 0) ≡ true → foreign form rows row 0 ≡ false
  unfolding foreign
  kind-foreign e = ap not e

  foreign-unused : (field : ℕ) → 1 ≤ field → foreign form rows row field ≡ false → sort_at rows row field ≡ unused → number_at rows row field ≡ 0
  unfolding foreign
  foreign-unused field h e q =
      eqb-true _ _ (not-false (eqb (number_at rows row field) 0) (rw (ne_eqb field 0 (λ z. omega arith), eq-eqb _ _ q) at e))

  unused-foreign : (field : ℕ) → 1 ≤ field → (sort_at rows row field ≡ unused → number_at rows row field ≡ 0) → foreign form rows row field ≡ false
  unfolding foreign
  unused-foreign field h zeroed = rw (ne_eqb field 0 (λ z. omega arith)) (go (ℕ_discrete (sort_at rows row field) unused))
    where
      go : Dec (sort_at rows row field ≡ unused) → (eqb (sort_at rows row field) unused && not (eqb (number_at rows row field) 0)) ≡ false
      go (yes q) = rw (eq-eqb _ _ q, zeroed q)
      go (no q) = rw (ne_eqb _ _ q)

-- ---- cause 4

module _ (rows : List ℤ) (row field : ℕ) where
  -- a link that is there
  pub record Fitting : Type 0 where
    pub is : link rows row field ≡ number_at rows row field
    pub leads : Leads rows row field
    pub fit : fits rows (role_sort rows row field) (link rows row field) ≡ true

  link-there : 0 < link rows row field → (is_link (role_sort rows row field) ≡ true) × (link rows row field ≡ number_at rows row field)
  unfolding link
  link-there h = go (is_link (sort_at rows row field)) refl h
    where
      go : (b : Bool) → is_link (sort_at rows row field) ≡ b → 0 < pick b (number_at rows row field) 0 → (is_link (role_sort rows row field) ≡ true) × (pick (is_link (sort_at rows row field)) (number_at rows row field) 0 ≡ number_at rows row field)
      go true e h = (role-links rows row field ∙ e, rw e)
      go false e h = absurd (omega arith)

  -- a field of a link's sort, in its role, links the row that its number names
  is-link : is_link (role_sort rows row field) ≡ true → link rows row field ≡ number_at rows row field
  unfolding link
  is-link e = rw (← role-links rows row field, e)

  right-link : mislinked rows row field ≡ false → 0 < link rows row field → Fitting
  unfolding mislinked leads_right
  right-link e h =
      let there = link-there h in
      let is : link rows row field ≡ number_at rows row field = there.1 in
      let some : eqb (number_at rows row field) 0 ≡ false = ne_eqb _ _ (λ (q : number_at rows row field ≡ 0). omega arith) in
      let right = not-false _ (rw (there.0, some) at e) in
      let later = both (ltb row (number_at rows row field)) _ right in
      let inside = both (ltb (number_at rows row field) (row_count rows)) _ later.1 in
      record { is = is; leads = record { later = rw is (ltb-true _ _ later.0); inside = rw is (ltb-true _ _ inside.0) }; fit = rw is inside.1 }

  right-present : mislinked rows row field ≡ false → is_required (role_sort rows row field) ≡ true → 0 < link rows row field
  unfolding mislinked
  right-present e r =
      let l = required-link (role_sort rows row field) r in
      rw (is-link l) (above_zero (number_at rows row field) (λ q. true≢false (sym r ∙ (rw (l, eq-eqb _ _ q) at e))))

  link-right : (is_required (role_sort rows row field) ≡ true → 0 < link rows row field) → (0 < link rows row field → Leads rows row field)
      → (0 < link rows row field → fits rows (role_sort rows row field) (link rows row field) ≡ true) → mislinked rows row field ≡ false
  unfolding mislinked leads_right
  link-right present forward fitting = go (is_link (role_sort rows row field)) refl (ℕ_discrete (number_at rows row field) 0)
    where
      needed : (b : Bool) → is_required (role_sort rows row field) ≡ b → is_link (role_sort rows row field) ≡ true → number_at rows row field ≡ 0 → is_required (role_sort rows row field) ≡ false
      needed true r l q = absurd (let p = present r in let s = is-link l in omega arith)
      needed false r l q = r

      go : (b : Bool) → is_link (role_sort rows row field) ≡ b → Dec (number_at rows row field ≡ 0) → mislinked rows row field ≡ false
      go true l (yes q) = rw (l, eq-eqb _ _ q) (needed (is_required (role_sort rows row field)) refl l q)
      go true l (no q) =
          let is = is-link l in
          let there : 0 < link rows row field = rw is (above_zero _ q) in
          let leads = forward there in
          rw (l, ne_eqb _ _ q, lt-ltb row (number_at rows row field) (rw is at leads.later), lt-ltb (number_at rows row field) (row_count rows) (rw is at leads.inside), rw is at (fitting there))
      go false l d = rw l

-- ---- the kind itself is no link and no number

kind-linked : (rows : List ℤ) (row : ℕ) → mislinked rows row 0 ≡ false
unfolding mislinked sort_at
kind-linked rows row = rw (role-links rows row 0, kind-no-link (number_at rows row 0))

no-number-fits : (bounds : Bounds) (sort number : ℕ) → between variable declared_number sort ≡ false → number_fits bounds sort number ≡ true
unfolding number_fits
no-number-fits bounds sort number e =
    let other : (s : ℕ) → between variable declared_number s ≡ true → eqb sort s ≡ false = λ s h. ne_eqb sort s (λ q. true≢false (sym h ∙ ap (between variable declared_number) (sym q) ∙ e)) in
    rw (other variable refl, other array refl, other label refl, other declared_number refl)

kind-inside : (bounds : Bounds) (rows : List ℤ) (row : ℕ) → outside bounds rows row 0 ≡ false
unfolding outside sort_at
kind-inside bounds rows row = ap not (no-number-fits bounds (sort_of (number_at rows row 0) 0) (number_at rows row 0) (kind-no-number (number_at rows row 0)))

-- ---- cause 5

module _ (rows : List ℤ) where
  once-block : not_once rows (link_count rows 0) 0 ≡ false → (number_at rows 0 0 ≡ 42) × (number_at rows 0 5 ≡ 0)
  unfolding not_once lone_block
  once-block e =
      let parts = both (eqb (number_at rows 0 0) 42) _ (not-false _ e) in
      (eqb-true _ _ parts.0, eqb-true _ _ parts.1)

  once-row : (row : ℕ) → 0 < row → not_once rows (link_count rows row) row ≡ false → link_count rows row ≡ 1
  unfolding not_once
  once-row row h e = eqb-true _ _ (not-false (eqb (link_count rows row) 1) (rw (ne_eqb row 0 (λ q. omega arith)) at e))

  row-once : (row : ℕ) → number_at rows 0 0 ≡ 42 → number_at rows 0 5 ≡ 0 → (0 < row → link_count rows row ≡ 1) → not_once rows (link_count rows row) row ≡ false
  unfolding not_once lone_block
  row-once row block lone once = go (ℕ_discrete row 0)
    where
      go : Dec (row ≡ 0) → not_once rows (link_count rows row) row ≡ false
      go (yes q) = rw (eq-eqb _ _ q, block, lone)
      go (no q) = rw (ne_eqb _ _ q, once (above_zero row q))

-- ---- all causes

module _ (form : Form) (header rows : List ℤ) where
  pub accepted-structured : structural_refusal form header rows ≡ (Ok tt) → (header_fits form header ≡ true) × Structured form (bounds_of form header) rows
  unfolding structural_refusal row_causes outside
  accepted-structured e =
      let c1 = next-accepts (unless (header_fits form header) 1) _ e in
      let c2 = next-accepts (unless (count_fits form (length rows)) 2) _ c1.1 in
      let c3 = next-accepts (at 3 _) _ c2.1 in
      let c4 = next-accepts (at 4 _) _ c3.1 in
      let c5 = next-accepts (at 5 _) _ c4.1 in
      let kinds = fields-all rows (foreign form rows) (at-accepts 3 _ c3.0) in
      let links = fields-all rows (mislinked rows) (at-accepts 4 _ c4.0) in
      let once = lowest_row-all rows (λ row. not_once rows (link_count rows row) row) (at-accepts 5 _ c5.0) in
      let numbers = fields-all rows (outside (bounds_of form header) rows) (at-accepts 6 _ c5.1) in
      let count = unless-accepts (count_fits form (length rows)) 2 c2.0 in
      let fit = count_fits-facts form (length rows) count in
      let root = once-block rows (once 0 (let l = fit.least in omega arith)) in (
        unless-accepts (header_fits form header) 1 c1.0,
        record {
          count-fits = count;
          known = λ row n. foreign-kind form rows row (kinds row n 0 (omega arith));
          unused_zero = λ row n field a b. foreign-unused form rows row field a (kinds row n field b);
          present = λ row n field a b. right-present rows row field (links row n field b);
          forward = λ row n field a b h. (right-link rows row field (links row n field b) h).leads;
          fitting = λ row n field a b h. (right-link rows row field (links row n field b) h).fit;
          block = root.0;
          lone = root.1;
          once = λ row h n. once-row rows row h (once row n);
          named = λ row n field a b. not-false _ (numbers row n field b);
        },
      )

  pub structured-accepted : header_fits form header ≡ true → Structured form (bounds_of form header) rows → structural_refusal form header rows ≡ (Ok tt)
  unfolding structural_refusal row_causes outside
  structured-accepted fit s =
      accepts-next (unless (header_fits form header) 1) _ (accepts-unless _ 1 fit)
      (accepts-next (unless (count_fits form (length rows)) 2) _ (accepts-unless _ 2 s.count-fits)
      (accepts-next (at 3 _) _
      (accepts-at 3 _ (all-fields rows (foreign form rows)
      (λ row n. each-field (foreign form rows row) (kind-foreign form rows row (s.known row n))
      (λ field a b. unused-foreign form rows row field a (s.unused_zero row n field a b)))))
      (accepts-next (at 4 _) _
      (accepts-at 4 _ (all-fields rows (mislinked rows)
      (λ row n. each-field (mislinked rows row) (kind-linked rows row)
      (λ field a b. link-right rows row field (s.present row n field a b) (s.forward row n field a b) (s.fitting row n field a b)))))
      (accepts-next (at 5 _) _
      (accepts-at 5 _ (all-lowest_row rows (λ row. not_once rows (link_count rows row) row)
      (λ row n. row-once rows row s.block s.lone (λ h. s.once row h n))))
      (accepts-at 6 _ (all-fields rows (outside (bounds_of form header) rows)
      (λ row n. each-field (outside (bounds_of form header) rows row) (kind-inside (bounds_of form header) rows row)
      (λ field a b. ap not (s.named row n field a b)))))))))

-- the rows of a structured table make a tree
module _ (form : Form) (bounds : Bounds) (rows : List ℤ) where
  pub structured-tree : Structured form bounds rows → Tree rows
  structured-tree s =
      let fit = count_fits-facts form (length rows) s.count-fits in
      let most = row_limit-most form in
      record {
        whole = fit.whole;
        few = (let m = fit.most in omega arith);
        some_rows = (let l = fit.least in omega arith);
        once = s.once;
        forward = λ row field n h p. forward-from row n field h p;
      }
    where
      forward-from : (row : ℕ) → row < row_count rows → (field : ℕ) → field < 6 → 0 < link rows row field → Leads rows row field
      forward-from row n zero h p = absurd (let none = kind-links-none rows row in omega arith)
      forward-from row n (suc field) h p = s.forward row n (suc field) (omega arith) h p
