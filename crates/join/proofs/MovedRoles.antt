-- Roles of moved rows: a row is a parameter at its new place exactly where it was one. By the row that links it: a link that is kept makes the same row a
-- parameter, and what the seam links is none.
use Rattle.std.specs.Prelude.{◌≡◌, true, false, ◌⊎◌, List, ℕ, ◌<◌, ℤ}
use Rattle.std.proofs.Common.{sym, ◌∙◌, ap, subst, true≢false, inl, inr, arith, eqb-true}
use Rattle.words.specs.Laws.{by_cases}
use Rattle.words.specs.Table.{row_count, number_at}
use Rattle.words.specs.Kinds.{is_link, sort_at}
use Rattle.words.specs.Declarations.{is_declaration}
use Rattle.words.specs.Links.{link}
use Rattle.words.specs.declared.Form.{Form}
use Rattle.check_fields.specs.declared.Bounds.{Bounds}
use Rattle.words_roles.specs.Roles.{is_parameter, role_sort}
use Rattle.words_roles.proofs.RoleLaws.{parameter-declaration, sort-other}
use Rattle.check_structure.specs.LinkLaws.{by-owner}
use Rattle.check_structure.specs.RoleLaws.{RoleLink, of-definition, of_parameter, role-linked, first_made, next-made}
use Rattle.check_structure.specs.Structured.{Leads, Structured, Tree}
use Rattle.check_declaration_causes.proofs.DeclarationLaws.{block-undeclared}
use Rattle.check_function_causes.specs.Functions.{is_definition}
use Rattle.join.specs.Join.{first_item}
use Rattle.join.specs.Moved.{at_seam, InOrder, Holds}
use Rattle.join.proofs.Fronts.{Seam, first-of-root, next-of-root, next-of-definition, seam-is}
use Rattle.join.proofs.Kept.{Ordered, ordered, seam-links, first_inside}
use Rattle.join.proofs.MovedLaws.{moved-some, link-is, number-held, sort-held, definition-held, declaration-held, link-leads, leads-held}
use Rattle.join.proofs.Placements.{block-first}

-- ---- which rows are no parameters

-- a definition declares nothing
pub definition-undeclared : (rows : List ℤ) (row : ℕ) → is_definition rows row ≡ true → is_declaration rows row ≡ false
unfolding is_definition is_declaration
definition-undeclared rows row d = rw (eqb-true (number_at rows row 0) 59 d)

undeclared-other : (rows : List ℤ) (row : ℕ) → is_declaration rows row ≡ false → is_parameter rows row ≡ false
undeclared-other rows row d = by_cases (is_parameter rows row) (λ p. absurd (true≢false (sym (parameter-declaration rows row p) ∙ d))) (λ p. p)

pub plain-sort : (rows : List ℤ) (row field : ℕ) → is_declaration rows row ≡ false → role_sort rows row field ≡ sort_at rows row field
plain-sort rows row field d = sort-other rows row field (undeclared-other rows row d)

-- row 0 and the definitions
pub seam-undeclared : {form : Form} {bounds : Bounds} {rows : List ℤ} → Structured form bounds rows → {row field : ℕ} → Seam rows row field → is_declaration rows row ≡ false
seam-undeclared {rows = rows} s (first-of-root a b) = rw a (block-undeclared rows 0 s.block)
seam-undeclared {rows = rows} s (next-of-root a b) = rw a (block-undeclared rows 0 s.block)
seam-undeclared {rows = rows} s {row} (next-of-definition d b) = definition-undeclared rows row d

-- ---- which fields make parameters

abbrev Makes : List ℤ → ℕ → ℕ → Type 0
Makes rows row field = ((is_definition rows row ≡ true) × (field ≡ 2)) ⊎ ((is_parameter rows row ≡ true) × (field ≡ 5))

linked-by : (rows : List ℤ) → Tree rows → (row field : ℕ) → field < 6 → Leads rows row field → is_parameter rows (link rows row field) ≡ true → Makes rows row field
linked-by rows t row field f leads p = go (role-linked rows t row field f leads p)
  where
    go : RoleLink rows row field → Makes rows row field
    go (of-definition d e) = inl (d, e)
    go (of_parameter p e) = inr (p, e)

made-by : (rows : List ℤ) (row field : ℕ) → Makes rows row field → Leads rows row field → is_declaration rows (link rows row field) ≡ true → is_parameter rows (link rows row field) ≡ true
made-by rows row field (inl m) leads d =
    subst (λ (x : ℕ). Leads rows row x → is_declaration rows (link rows row x) ≡ true → is_parameter rows (link rows row x) ≡ true) (sym m.1) (first_made rows row m.0) leads d
made-by rows row field (inr m) leads d =
    subst (λ (x : ℕ). Leads rows row x → is_declaration rows (link rows row x) ≡ true → is_parameter rows (link rows row x) ≡ true) (sym m.1) (next-made rows row m.0) leads d

-- ---- a program in another table

module _ {form : Form} {bounds : Bounds} {joined rows : List ℤ} {ρ φ : ℕ → ℕ} (s : Structured form bounds rows) (i : InOrder rows) (h : Holds joined rows ρ φ) where
  o : Ordered rows
  o = ordered s i

  -- the old block is one, and begins behind the definitions
  pub block-there : number_at joined (ρ 0) 0 ≡ 42
  block-there = number-held h 0 o.tree.some_rows ∙ s.block

  pub begins-is : 0 < first_item rows → link joined (ρ 0) 1 ≡ ρ (first_item rows)
  unfolding is_link
  begins-is p = link-is joined (ρ 0) 1 (rw (block-first joined (ρ 0) block-there)) ∙ h.begins ∙ moved-some ρ (first_item rows) p

  pub begins-leads : 0 < first_item rows → Leads joined (ρ 0) 1
  begins-leads p =
      let to = begins-is p in
      let later = h.begins_later p in
      let below = h.inside (first_item rows) (first_inside o p) in
      record { later = omega arith; inside = omega arith }

  module _ (t : Tree joined) where
    abbrev SameRole : ℕ → Type 0
    SameRole row = is_parameter joined (ρ row) ≡ is_parameter rows row

    undeclared-role : (row : ℕ) → row < row_count rows → is_declaration rows row ≡ false → SameRole row
    undeclared-role row n d = undeclared-other joined (ρ row) (declaration-held h row n ∙ d) ∙ sym (undeclared-other rows row d)

    kept-role : (owner field : ℕ) → field < 6 → Leads rows owner field → at_seam rows owner field ≡ false → SameRole owner → SameRole (link rows owner field)
    kept-role owner field f leads k above =
        by_cases (is_parameter rows (link rows owner field))
        (λ p. ap (is_parameter joined) (sym to) ∙ made-by joined (ρ owner) field (moved (linked-by rows o.tree owner field f leads p)) there (ap (is_declaration joined) to ∙ same ∙ parameter-declaration rows (link rows owner field) p) ∙ sym p)
        (λ p. by_cases (is_parameter joined (ρ (link rows owner field)))
        (λ q. absurd (true≢false (sym (made-by rows owner field (back (linked-by joined t (ρ owner) field f there (ap (is_parameter joined) to ∙ q))) leads (sym same ∙ parameter-declaration joined (ρ (link rows owner field)) q)) ∙ p)))
        (λ q. q ∙ sym p))
      where
        n : owner < row_count rows
        n = let l = leads.later in let below = leads.inside in omega arith

        to : link joined (ρ owner) field ≡ ρ (link rows owner field)
        to = link-leads h owner field f leads k

        there : Leads joined (ρ owner) field
        there = leads-held h owner field f leads k

        same : is_declaration joined (ρ (link rows owner field)) ≡ is_declaration rows (link rows owner field)
        same = declaration-held h (link rows owner field) leads.inside

        moved : Makes rows owner field → Makes joined (ρ owner) field
        moved (inl m) = inl (definition-held h owner n ∙ m.0, m.1)
        moved (inr m) = inr (above ∙ m.0, m.1)

        back : Makes joined (ρ owner) field → Makes rows owner field
        back (inl m) = inl (sym (definition-held h owner n) ∙ m.0, m.1)
        back (inr m) = inr (sym above ∙ m.0, m.1)

    -- neither field a nor the next of row 0 or of a definition makes a parameter
    not-second : {row field : ℕ} → Seam rows row field → field ≡ 2 → ⊥
    not-second (first-of-root a b) e = omega arith
    not-second (next-of-root a b) e = omega arith
    not-second (next-of-definition d b) e = omega arith

    seam-makes : (row field : ℕ) → Seam rows row field → Makes rows row field → ⊥
    seam-makes row field seam (inl m) = not-second seam m.1
    seam-makes row field seam (inr m) = true≢false (sym (parameter-declaration rows row m.0) ∙ seam-undeclared s seam)

    first-makes : (row : ℕ) → Makes joined row 1 → ⊥
    first-makes row (inl m) = let two = m.1 in omega arith
    first-makes row (inr m) = let five = m.1 in omega arith

    seam-role : (owner field : ℕ) → field < 6 → Leads rows owner field → at_seam rows owner field ≡ true → SameRole (link rows owner field)
    seam-role owner field f leads e =
        by_cases (is_definition rows (link rows owner field))
        (λ d. undeclared-role (link rows owner field) leads.inside (definition-undeclared rows (link rows owner field) d))
        (λ d. not_there (seam-links o owner field leads e d) ∙ sym not-here)
      where
        not-here : is_parameter rows (link rows owner field) ≡ false
        not-here = by_cases (is_parameter rows (link rows owner field)) (λ p. absurd (seam-makes owner field (seam-is rows owner field e) (linked-by rows o.tree owner field f leads p))) (λ p. p)

        not_there : link rows owner field ≡ first_item rows → is_parameter joined (ρ (link rows owner field)) ≡ false
        not_there is =
            let some : 0 < first_item rows = (let l = leads.later in omega arith) in
            by_cases (is_parameter joined (ρ (link rows owner field)))
            (λ p. absurd (first-makes (ρ 0) (linked-by joined t (ρ 0) 1 (omega arith) (begins-leads some) (ap (is_parameter joined) (begins-is some ∙ ap ρ (sym is)) ∙ p)))) (λ p. p)

    pub role-held : (row : ℕ) → row < row_count rows → is_parameter joined (ρ row) ≡ is_parameter rows row
    role-held =
        by-owner rows o.tree SameRole (undeclared-role 0 o.tree.some_rows (block-undeclared rows 0 s.block))
        (λ owner field f leads above. by_cases (at_seam rows owner field) (λ e. seam-role owner field f leads e) (λ k. kept-role owner field f leads k above))

    pub role-sort : (row field : ℕ) → row < row_count rows → role_sort joined (ρ row) field ≡ role_sort rows row field
    unfolding role_sort
    role-sort row field n = rw (role-held row n, sort-held h row field n)
