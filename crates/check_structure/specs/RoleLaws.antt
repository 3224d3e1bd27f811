-- Laws of roles: in a structured table a definition's b leads to a parameter, so does a parameter's next, and no other field; a parameter has no
-- initial expression, every other declaration has one.
use Rattle.std.specs.Prelude.{◌≡◌, refl, Bool, true, false, List, ℕ, ◌+◌, ◌*◌, ◌<◌, ℤ, Some}
use Rattle.std.proofs.Common.{sym, subst, ◌∙◌, true≢false, arith}
use Rattle.std.proofs.lemmas.Bool.{false≢true}
use Rattle.std.proofs.Math.Decide.{ℕ_discrete}
use borrow.Author.Tests.{eqb-true}
use Rattle.words.specs.Table.{row_count, number_at}
use Rattle.words.specs.Laws.{by_cases}
use Rattle.words.specs.Kinds.{expression, absent_link, optional_parameter, kinds, kind_in, kind_of, kind_row, statement_fields, definition_fields, parameter_fields, sort_in, sort_of, sort_at, is_link, is_required}
use Rattle.words.specs.Links.{link, linker, fits}
use Rattle.words.specs.Declarations.{is_declaration}
use Rattle.words.specs.declared.Form.{Form}
use Rattle.words_roles.specs.Roles.{is_definition, is_parameter, parameter_sort, role_sort}
use Rattle.words_roles.specs.Demands.{AsParameter, by_definition, by_parameter}
use Rattle.words_roles.proofs.RoleLaws.{is-parameter, parameter-is, parameter-declaration, sort-parameter, sort-other}
use Rattle.check_fields.specs.declared.Bounds.{Bounds}
use Rattle.check_structure.specs.LinkLaws.{linker-of}
use Rattle.check_structure.specs.NoteLaws.{above_zero}
use Rattle.check_structure.specs.Structured.{Leads, Structured, Tree}
use Rattle.check_structure.specs.StructuredLaws.{structured-tree}

module _ (rows : List ℤ) where
  definition-sort : (row : ℕ) → is_definition rows row ≡ true → sort_at rows row 2 ≡ optional_parameter
  unfolding is_definition sort_at sort_of sort_in kind_of kind_in kinds kind_row definition_fields
  definition-sort row d = rw (eqb-true (number_at rows row 0) 59 d)

  declaration-sort : (row : ℕ) → is_declaration rows row ≡ true → sort_at rows row 2 ≡ expression
  unfolding is_declaration sort_at sort_of sort_in kind_of kind_in kinds kind_row statement_fields
  declaration-sort row d = rw (eqb-true (number_at rows row 0) 58 d)

  definition-link : (row : ℕ) → is_definition rows row ≡ true → link rows row 2 ≡ number_at rows row 2
  unfolding link is_link
  definition-link row d = rw (definition-sort row d)

  initial-link : (row : ℕ) → is_declaration rows row ≡ true → link rows row 2 ≡ number_at rows row 2
  unfolding link is_link
  initial-link row d = rw (declaration-sort row d)

  next-link : (row : ℕ) → is_declaration rows row ≡ true → link rows row 5 ≡ number_at rows row 5
  unfolding link is_link is_declaration sort_at sort_of sort_in kind_of kind_in kinds kind_row statement_fields
  next-link row d = rw (eqb-true (number_at rows row 0) 58 d)

  -- a definition is of another kind than a parameter
  definition-other : (row : ℕ) → is_definition rows row ≡ true → is_parameter rows row ≡ false
  unfolding is_definition is_declaration
  definition-other row d =
      by_cases (is_parameter rows row)
      (λ p. absurd (let a = eqb-true (number_at rows row 0) 59 d in let b = eqb-true (number_at rows row 0) 58 (parameter-declaration rows row p) in omega arith))
      (λ p. p)

  -- ---- what makes a row a parameter

  pub first_made : (row : ℕ) → is_definition rows row ≡ true → Leads rows row 2 → is_declaration rows (link rows row 2) ≡ true → is_parameter rows (link rows row 2) ≡ true
  first_made row f leads d = parameter-is rows (link rows row 2) (by_definition leads.later d f (sym (definition-link row f)))

  pub next-made : (row : ℕ) → is_parameter rows row ≡ true → Leads rows row 5 → is_declaration rows (link rows row 5) ≡ true → is_parameter rows (link rows row 5) ≡ true
  next-made row p leads d =
      parameter-is rows (link rows row 5) (by_parameter leads.later d (is-parameter rows row p) (sym (next-link row (parameter-declaration rows row p))))

  -- The field of a row that makes what it links a parameter.
  pub data RoleLink (row field : ℕ) : Type 0 where
    of-definition : is_definition rows row ≡ true → field ≡ 2 → RoleLink row field
    of_parameter : is_parameter rows row ≡ true → field ≡ 5 → RoleLink row field

  -- in a tree of rows nothing else does
  module _ (t : Tree rows) where
    same-word : (row field owner other : ℕ) → field < 6 → other < 6 → Leads rows row field → owner < link rows row field → link rows owner other ≡ link rows row field → (owner ≡ row) × (other ≡ field)
    same-word row field owner other h k leads l e =
        let i = leads.inside in
        let r = leads.later in
        let by : Leads rows owner other = record { later = rw e l; inside = rw e i } in
        let one = linker-of rows t row field h leads (omega arith) in
        let two = linker-of rows t owner other k by (omega arith) in
        let same : Some (6 * owner + other) ≡ Some (6 * row + field) = sym two ∙ (rw e one) in
        let words : 6 * owner + other ≡ 6 * row + field = cc in
        (omega arith, omega arith)

    pub role-linked : (row field : ℕ) → field < 6 → Leads rows row field → is_parameter rows (link rows row field) ≡ true → RoleLink row field
    role-linked row field h leads p = go (is-parameter rows (link rows row field) p) refl
      where
        go : {linked : ℕ} → AsParameter rows linked → linked ≡ link rows row field → RoleLink row field
        go (by_definition {owner} l d f e) q =
            let same = same-word row field owner 2 h (omega arith) leads (omega arith) (definition-link owner f ∙ e ∙ q) in
            of-definition (subst (λ (x : ℕ). is_definition rows x ≡ true) same.0 f) (sym same.1)
        go (by_parameter {owner} l d a e) q =
            let own = parameter-is rows owner a in
            let same = same-word row field owner 5 h (omega arith) leads (omega arith) (next-link owner (parameter-declaration rows owner own) ∙ e ∙ q) in
            of_parameter (subst (λ (x : ℕ). is_parameter rows x ≡ true) same.0 own) (sym same.1)

-- ---- structured tables

module _ (form : Form) (bounds : Bounds) (rows : List ℤ) (s : Structured form bounds rows) (row : ℕ) (n : row < row_count rows) where
  -- "Its b 0", and its next is a parameter.
  pub record ParameterFits : Type 0 where
    pub no-initial : number_at rows row 2 ≡ 0
    pub next-parameter : 0 < link rows row 5 → is_parameter rows (link rows row 5) ≡ true

  pub parameter-fits : is_parameter rows row ≡ true → ParameterFits
  unfolding fits parameter_sort parameter_fields
  parameter-fits p =
      record {
        no-initial = go (ℕ_discrete (number_at rows row 2) 0);
        next-parameter = λ h. next-made rows row p (s.forward row n 5 (omega arith) (omega arith) h) (rw (sort-parameter rows row 5 p) at (s.fitting row n 5 (omega arith) (omega arith) h));
      }
    where
      go : Dec (number_at rows row 2 ≡ 0) → number_at rows row 2 ≡ 0
      go (yes z) = z
      go (no z) =
          let some : 0 < link rows row 2 = rw (initial-link rows row (parameter-declaration rows row p)) (above_zero _ z) in
          absurd (false≢true (rw (sort-parameter rows row 2 p) at (s.fitting row n 2 (omega arith) (omega arith) some)))

  pub first-parameter : is_definition rows row ≡ true → 0 < link rows row 2 → is_parameter rows (link rows row 2) ≡ true
  unfolding fits
  first-parameter d h =
      first_made rows row d (s.forward row n 2 (omega arith) (omega arith) h)
      (rw (sort-other rows row 2 (definition-other rows row d), definition-sort rows row d) at (s.fitting row n 2 (omega arith) (omega arith) h))

  -- "b initial expression"
  pub initial-there : is_declaration rows row ≡ true → is_parameter rows row ≡ false → 0 < link rows row 2
  unfolding is_required
  initial-there d p = s.present row n 2 (omega arith) (omega arith) (rw (sort-other rows row 2 p, declaration-sort rows row d))
