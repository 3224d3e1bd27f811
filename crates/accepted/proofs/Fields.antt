-- Fields: what a structured table gives at each field of a row, by the row's kind. A fact about a kind's fields is a test of `sorts`, which
-- computes at each kind. Kind 58 has two roles, which differ at b and next: there a row must be known to be no parameter.
use Rattle.std.specs.Prelude.{◌≡◌, Bool, true, false, not, ◌&&◌, List, ◌⊎◌, ℕ, ◌≤◌, ◌<◌, eqb, ℤ}
use Rattle.std.proofs.Math.Path.{refl, sym, ap}
use Rattle.std.proofs.Common.{◌∙◌, inl, inr, ⊎_elim, arith}
use Rattle.std.proofs.lemmas.Bool.{false≢true}
use borrow.Author.Tests.{ltb-true, leb-true, eqb-true, eqb-false, not-true}
use Rattle.words.specs.Table.{row_count, number_at}
use Rattle.words.specs.Kinds.{kinds, kind_in, kind_of, kind_at, variable, array, declared_number, expression, optional_item, optional_parameter, sort_at, sort_of, between, is_link, is_required, sort_in, kind_row, statement_fields, definition_fields, parameter_fields}
use Rattle.words.specs.Laws.{both, either, by_cases}
use Rattle.words.specs.Layout.{Layout, header_store}
use Rattle.words.specs.declared.Form.{Form}
use Rattle.words.specs.declared.Form.TheVariants.{Source, Kernel}
use Rattle.words.specs.declared.Kind.{Kind}
use Rattle.words.specs.declared.Kind.TheVariants.{OfStatement}
use Rattle.words.specs.declared.StatementKind.TheVariants.{Declare}
use Rattle.words_roles.specs.Roles.{is_definition, is_parameter, parameter_sort, role_sort}
use Rattle.words_roles.proofs.RoleLaws.{sort-parameter, sort-other}
use Rattle.language.specs.Decode.{Forward}
use Rattle.language.specs.FieldRoles.{settled, parameter-number, role-settled}
use Rattle.words.specs.KindLaws.{required-link}
use Rattle.words.specs.Links.{is_statement, link, fits}
use Rattle.check_fields.specs.Fields.{bounds_of, resolved_bounds, variable_fits, number_fits}
use Rattle.check_fields.specs.FieldLaws.{declared-inside}
use Rattle.check_fields.specs.declared.Bounds.{Bounds}
use Rattle.check_structure.specs.Structured.{Leads, Structured}
use Rattle.check_structure.specs.StructuredLaws.{structured-tree}
use Rattle.check_structure.specs.RoleLaws.{RoleLink, of-definition, of_parameter, role-linked}
use Rattle.accepted.specs.Sorts.{sort-is, item-next, between-true}
use Rattle.accepted.specs.NamedWords.{NamesVariable, NamesDeclared, DeclaredNames}

-- The field of a kind is one of a, b, c, d and next, and its sort passes the test.
abbrev pub holds : (ℕ → Bool) → Kind → ℕ → Bool
holds test kind field = between 1 5 field && (settled kind field && test (sort_in kind field))

-- A link to a row that is no parameter.
abbrev pub links_other : ℕ → Bool
links_other sort = is_link sort && not (eqb sort optional_parameter)

abbrev pub no_link : ℕ → Bool
no_link sort = not (is_link sort)

pub header-declared : (form : Form) (header : List ℤ) → DeclaredNames (bounds_of form header)
unfolding bounds_of header_store
header-declared Source header number n = inl n.1
header-declared Kernel header number n = inr (n.0, omega (arith, n.1))

pub resolved-declared : (L : Layout) (declared : ℕ) → DeclaredNames (resolved_bounds L declared)
resolved-declared L declared number n = inr n

module _ (rows : List ℤ) (row sort field : ℕ) where
  -- The field links a row that its sort asks for.
  pub record Linked : Type 0 where
    pub leads : Leads rows row field
    pub some : 0 < link rows row field
    pub same : link rows row field ≡ number_at rows row field
    pub later : row < number_at rows row field
    pub fit : fits rows sort (link rows row field) ≡ true
    pub other : is_parameter rows (link rows row field) ≡ false

  -- The same, or the field is 0.
  pub record MayLink : Type 0 where
    pub leads : 0 < link rows row field → Leads rows row field
    pub same : link rows row field ≡ number_at rows row field
    pub later : Forward row (number_at rows row field)
    pub fit : 0 < link rows row field → fits rows sort (link rows row field) ≡ true
    pub other : 0 < link rows row field → is_parameter rows (link rows row field) ≡ false

-- ---- roles

required-other : (sort : ℕ) → is_required sort ≡ true → eqb sort optional_parameter ≡ false
unfolding is_required
required-other sort e = by_cases (eqb sort optional_parameter) (λ q. absurd (false≢true (rw (eqb-true sort optional_parameter q) at e))) (λ q. q)

module _ (rows : List ℤ) (row : ℕ) where
  -- A field that makes what it links a parameter is of that sort.
  role-sort : (field : ℕ) → RoleLink rows row field → role_sort rows row field ≡ optional_parameter
  unfolding parameter_sort parameter_fields is_definition sort_at sort_of sort_in kind_of kind_in kinds kind_row definition_fields
  role-sort field (of-definition d e) =
      let number = eqb-true (number_at rows row 0) 59 d in
      let apart = by_cases (is_parameter rows row) (λ p. absurd (let other = parameter-number rows row p in omega arith)) (λ p. p) in
      sort-other rows row field apart ∙ (rw (number, e))
  role-sort field (of_parameter p e) = sort-parameter rows row field p ∙ (rw e)

module _ (form : Form) (bounds : Bounds) (rows : List ℤ) (s : Structured form bounds rows) (row : ℕ) (inside : row < row_count rows) where
  -- a link that is there leads to a later row
  pub leads-on : (field : ℕ) → between 1 5 field ≡ true → 0 < link rows row field → Leads rows row field
  leads-on field t p = let range = between-true 1 5 field t in s.forward row inside field range.0 (omega arith) p

  pub stays : (field : ℕ) → between 1 5 field ≡ true → 0 < link rows row field → link rows row field < row_count rows
  stays field t p = (leads-on field t p).inside

  -- what a test of a kind's field tells
  record Tested (test : ℕ → Bool) (field : ℕ) : Type 0 where
    first : 1 ≤ field
    last : field < 6
    role : role_sort rows row field ≡ sort_at rows row field
    passes : test (sort_at rows row field) ≡ true

  tested : {kind : Kind} (test : ℕ → Bool) → kind_at rows row ≡ kind → (field : ℕ) → holds test kind field ≡ true → Tested test field
  tested {kind} test k field t =
      let parts = both (between 1 5 field) _ t in
      let range = between-true 1 5 field parts.0 in
      let rest = both (settled kind field) (test (sort_in kind field)) parts.1 in
      let sort = sort-is rows row field ∙ ap (λ kind. sort_in kind field) k in
      record { first = range.0; last = omega arith; role = role-settled rows row k field range.0 (omega arith) rest.0; passes = rw sort rest.1 }

  pub link-none : {kind : Kind} → kind_at rows row ≡ kind → (field : ℕ) → holds no_link kind field ≡ true → link rows row field ≡ 0
  unfolding link
  link-none k field t = rw (not-true (is_link (sort_at rows row field)) (tested no_link k field t).passes)

  -- ---- links, by their sort

  may-by : (sort field : ℕ) → 1 ≤ field → field < 6 → link rows row field ≡ number_at rows row field → eqb sort optional_parameter ≡ false
      → role_sort rows row field ≡ sort → MayLink rows row sort field
  may-by sort field first last same apart is =
      let leads = s.forward row inside field first last in
      record {
        leads = leads;
        same = same;
        later = λ p. (let l = (leads (omega arith)).later in omega arith);
        fit = λ p. rw (← is) (s.fitting row inside field first last p);
        other = λ p. by_cases (is_parameter rows (link rows row field))
            (λ q. absurd (eqb-false sort optional_parameter apart (sym is ∙ role-sort rows row field (role-linked rows (structured-tree form bounds rows s) row field (omega arith) (leads p) q))))
            (λ q. q);
      }

  linked-by : (sort field : ℕ) → 1 ≤ field → field < 6 → is_required sort ≡ true → link rows row field ≡ number_at rows row field → role_sort rows row field ≡ sort → Linked rows row sort field
  linked-by sort field first last e same is =
      let may = may-by sort field first last same (required-other sort e) is in
      let some = s.present row inside field first last (rw is e) in
      record {
        leads = may.leads some;
        some = some;
        same = may.same;
        later = may.later (rw (← may.same) some);
        fit = may.fit some;
        other = may.other some;
      }

  pub may-link : {kind : Kind} → kind_at rows row ≡ kind → (sort field : ℕ) → links_other sort ≡ true → holds (eqb sort) kind field ≡ true → MayLink rows row sort field
  unfolding link
  may-link k sort field e t =
      let at = tested (eqb sort) k field t in
      let parts = both (is_link sort) _ e in
      let is = eqb-true sort (sort_at rows row field) at.passes in
      may-by sort field at.first at.last (rw (← is, parts.0)) (not-true _ parts.1) (at.role ∙ sym is)

  pub linked : {kind : Kind} → kind_at rows row ≡ kind → (sort field : ℕ) → is_required sort ≡ true → holds (eqb sort) kind field ≡ true → Linked rows row sort field
  unfolding link
  linked k sort field e t =
      let at = tested (eqb sort) k field t in
      let is = eqb-true sort (sort_at rows row field) at.passes in
      linked-by sort field at.first at.last e (rw (← is, required-link sort e)) (at.role ∙ sym is)

  -- next, of every statement, and the initial expression of a declaration
  module _ (apart : is_parameter rows row ≡ false) where
    pub item-link : is_statement rows row ≡ true → MayLink rows row optional_item 5
    unfolding link is_link
    item-link t = let e = item-next rows row t in may-by optional_item 5 (omega arith) (omega arith) (rw e) refl (sort-other rows row 5 apart ∙ e)

    pub initial-link : kind_at rows row ≡ OfStatement Declare → Linked rows row expression 2
    unfolding link is_link is_required sort_in kind_row statement_fields
    initial-link k =
        let e : sort_at rows row 2 ≡ expression = sort-is rows row 2 ∙ ap (λ (kind : Kind). sort_in kind 2) k in
        linked-by expression 2 (omega arith) (omega arith) refl (rw e) (sort-other rows row 2 apart ∙ e)

  -- ---- numbers

  names : {kind : Kind} → kind_at rows row ≡ kind → (sort field : ℕ) → holds (eqb sort) kind field ≡ true → number_fits bounds sort (number_at rows row field) ≡ true
  names k sort field t =
      let at = tested (eqb sort) k field t in
      rw (eqb-true sort (sort_at rows row field) at.passes) (s.named row inside field at.first at.last)

  word_fits : (number : ℕ) → variable_fits bounds number ≡ true → NamesVariable bounds number
  word_fits number fits =
      ⊎_elim (λ h. inl (ltb-true _ _ h)) (λ h. let parts = both _ _ h in inr (leb-true _ _ parts.0, ltb-true _ _ parts.1)) (either _ _ fits)

  pub names-variable : {kind : Kind} → kind_at rows row ≡ kind → (field : ℕ) → holds (eqb variable) kind field ≡ true → NamesVariable bounds (number_at rows row field)
  unfolding number_fits
  names-variable k field t = word_fits _ (names k variable field t)

  pub names-declared : {kind : Kind} → kind_at rows row ≡ kind → (field : ℕ) → holds (eqb declared_number) kind field ≡ true → NamesDeclared bounds (number_at rows row field)
  unfolding number_fits
  names-declared k field t = declared-inside bounds _ (names k declared_number field t)

  pub names-array : {kind : Kind} → kind_at rows row ≡ kind → (field : ℕ) → holds (eqb array) kind field ≡ true → number_at rows row field < bounds.arrays
  unfolding number_fits
  names-array k field t = ltb-true _ _ (names k array field t)
