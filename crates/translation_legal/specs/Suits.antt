-- Fields that suit their sorts: what the structure of a table asks of one field, said of the field's sort and number alone; and of a
-- row, from its kind, its role and its numbers.
use Rattle.std.specs.Prelude.{◌≡◌, Bool, false, List, ℕ, zero, suc, ◌≤◌, ◌<◌, leb, ℤ}
use Rattle.std.proofs.Math.Path.{refl}
use Rattle.std.proofs.Common.{sym, ap, subst, ◌∙◌, true≢false, arith}
use Rattle.std.proofs.Math.Bool.{true}
use Rattle.std.proofs.lemmas.Bool.{false≢true}
use borrow.Author.Tests.{le-leb, lt-leb, leb-true, eqb-true, ne_eqb}
use Rattle.words.specs.Word.{pick}
use Rattle.words.specs.Table.{row_count, number_at}
use Rattle.words.specs.Laws.{both, by_cases}
use Rattle.words.specs.Declarations.{is_declaration}
use Rattle.words.specs.Kinds.{unused, value, variable, array, label, declared_number, function_number, expression, place, branch, optional_item, body_block, optional_parameter, absent_link, sort_of, sort_at, is_link, is_required, kind_of, kind_in, kinds, sort_in, kind_row, statement_fields, parameter_fields}
use Rattle.words.specs.Links.{link, fits}
use Rattle.words_roles.specs.Roles.{is_parameter, parameter_sort, role_sort}
use Rattle.words_roles.proofs.RoleLaws.{parameter-declaration, sort-parameter, sort-other, role-links}
use Rattle.check_fields.specs.Fields.{number_fits}
use Rattle.check_grammar.specs.GrammarLaws.{kind-links-none}
use Rattle.check_structure.specs.Structured.{Leads}
use Rattle.check_fields.specs.declared.Bounds.{Bounds}
use Rattle.language_emission.specs.Emitted.{Row}

-- ---- one field

-- A number in a field of this sort, of the row `row`.
pub record Suits (bounds : Bounds) (rows : List ℤ) (row sort number : ℕ) : Type 0 where
  pub zero_where_unused : sort ≡ unused → number ≡ 0
  pub there_where_required : is_required sort ≡ true → (is_link sort ≡ true) × (0 < number)
  pub forward : is_link sort ≡ true → 0 < number → row < number
  pub inside : is_link sort ≡ true → 0 < number → number < row_count rows
  pub fitting : is_link sort ≡ true → 0 < number → fits rows sort number ≡ true
  pub named : number_fits bounds sort number ≡ true

-- What `Structured` asks of a field.
pub record FieldLegal (bounds : Bounds) (rows : List ℤ) (row field : ℕ) : Type 0 where
  pub unused_zero : sort_at rows row field ≡ unused → number_at rows row field ≡ 0
  pub present : is_required (role_sort rows row field) ≡ true → 0 < link rows row field
  pub forward : 0 < link rows row field → Leads rows row field
  pub fitting : 0 < link rows row field → fits rows (role_sort rows row field) (link rows row field) ≡ true
  pub named : number_fits bounds (sort_at rows row field) (number_at rows row field) ≡ true

-- Unused fields are no links, and links name nothing.
unused-no-link : is_link unused ≡ false
unfolding is_link
unused-no-link = refl

link-unnamed : (bounds : Bounds) (sort number : ℕ) → is_link sort ≡ true → number_fits bounds sort number ≡ true
unfolding is_link number_fits
link-unnamed bounds sort number e =
    let least = leb-true expression sort (both (leb expression sort) _ e).0 in
    rw (ne_eqb sort variable (λ q. omega arith), ne_eqb sort declared_number (λ q. omega arith), ne_eqb sort array (λ q. omega arith), ne_eqb sort label (λ q. omega arith))

-- The row that a field links, by its sort.
abbrev link_of : ℕ → ℕ → ℕ
link_of sort number = pick (is_link sort) number 0

suits-link : (sort number : ℕ) → 0 < link_of sort number → (is_link sort ≡ true) × (link_of sort number ≡ number)
suits-link sort number h = go (is_link sort) refl h
  where
    go : (b : Bool) → is_link sort ≡ b → 0 < pick b number 0 → (is_link sort ≡ true) × (link_of sort number ≡ number)
    go true e h = (e, rw e)
    go false e h = absurd (omega arith)

pub link-by : (rows : List ℤ) (row field sort number : ℕ) → sort_at rows row field ≡ sort → number_at rows row field ≡ number → link rows row field ≡ pick (is_link sort) number 0
unfolding link
link-by rows row field sort number e f = rw (e, f)

-- By the sort that the field has in the row's role: that of the table of kinds, or a link in both.
module _ {bounds : Bounds} {rows : List ℤ} {row sort number : ℕ} (field : ℕ) (s : Suits bounds rows row sort number) (role : role_sort rows row field ≡ sort) (f : number_at rows row field ≡ number) where
  linked : link rows row field ≡ link_of sort number
  linked = link-by rows row field (sort_at rows row field) number refl f ∙ ap (λ (b : Bool). pick b number 0) (sym (role-links rows row field) ∙ ap is_link role)

  field-by : (sort_at rows row field ≡ unused → number_at rows row field ≡ 0) → number_fits bounds (sort_at rows row field) (number_at rows row field) ≡ true → FieldLegal bounds rows row field
  field-by unused_zero named =
      record {
        unused_zero = unused_zero;
        present = λ q. let there = s.there_where_required (sym (ap is_required role) ∙ q) in rw (linked, there.0) there.1;
        forward = λ h.
            let l = suits-link sort number (rw linked at h) in
            let n : link rows row field ≡ number = linked ∙ l.1 in
            let p : 0 < number = omega arith in
            record { later = omega (arith, s.forward l.0 p); inside = omega (arith, s.inside l.0 p) };
        fitting = λ h.
            let l = suits-link sort number (rw linked at h) in
            let n : link rows row field ≡ number = linked ∙ l.1 in
            let p : 0 < number = omega arith in
            rw (role, n) (s.fitting l.0 p);
        named = named;
      }

  field-legal : sort_at rows row field ≡ sort → FieldLegal bounds rows row field
  field-legal e = field-by (λ q. f ∙ s.zero_where_unused (sym e ∙ q)) (rw (e, f) s.named)

  role-legal : is_link (sort_at rows row field) ≡ true → FieldLegal bounds rows row field
  role-legal e = field-by (λ q. absurd (true≢false (sym e ∙ ap is_link q ∙ unused-no-link))) (link-unnamed bounds (sort_at rows row field) (number_at rows row field) e)

-- ---- the fields of kernel rows

module _ (bounds : Bounds) (rows : List ℤ) (row : ℕ) where
  pub suits-unused : Suits bounds rows row unused 0
  unfolding is_required is_link number_fits
  suits-unused =
      record {
        zero_where_unused = λ q. refl;
        there_where_required = λ q. absurd (false≢true q);
        forward = λ q h. absurd (false≢true q);
        inside = λ q h. absurd (false≢true q);
        fitting = λ q h. absurd (false≢true q);
        named = refl;
      }

  -- A number that is no link.
  suits-number : (sort number : ℕ) → (sort ≡ unused → ⊥) → is_required sort ≡ false → is_link sort ≡ false → number_fits bounds sort number ≡ true → Suits bounds rows row sort number
  suits-number sort number used required linking fit =
      record {
        zero_where_unused = λ q. absurd (used q);
        there_where_required = λ q. absurd (false≢true (sym required ∙ q));
        forward = λ q h. absurd (false≢true (sym linking ∙ q));
        inside = λ q h. absurd (false≢true (sym linking ∙ q));
        fitting = λ q h. absurd (false≢true (sym linking ∙ q));
        named = fit;
      }

  pub suits-value : (number : ℕ) → Suits bounds rows row value number
  unfolding is_required is_link number_fits
  suits-value number = suits-number value number (λ q. omega arith) refl refl refl

  -- The number of a function, which no bound keeps: 23 and 24 are about it.
  pub suits-function : (number : ℕ) → Suits bounds rows row function_number number
  unfolding is_required is_link number_fits
  suits-function number = suits-number function_number number (λ q. omega arith) refl refl refl

  -- A variable, array or label number that names one, and the number of a parameter.
  pub suits-name : (sort number : ℕ) → variable ≤ sort → sort ≤ declared_number → number_fits bounds sort number ≡ true → Suits bounds rows row sort number
  unfolding is_required is_link
  suits-name sort number l m fit =
      suits-number sort number (λ q. omega arith)
      (rw (ne_eqb sort expression (λ e. omega arith), ne_eqb sort place (λ e. omega arith), ne_eqb sort branch (λ e. omega arith), ne_eqb sort body_block (λ e. omega arith)))
      (rw (lt-leb expression sort (omega arith))) fit

  -- A link to a later row of the fitting sort.
  pub suits-link-to : (sort number : ℕ) → expression ≤ sort → sort ≤ absent_link → row < number → number < row_count rows → fits rows sort number ≡ true → Suits bounds rows row sort number
  unfolding is_required is_link number_fits
  suits-link-to sort number l m later inside fitting =
      let linking : is_link sort ≡ true = rw (le-leb expression sort l, le-leb sort absent_link m) in
      record {
        zero_where_unused = λ q. absurd (omega arith);
        there_where_required = λ q. (linking, omega arith);
        forward = λ q h. later;
        inside = λ q h. inside;
        fitting = λ q h. fitting;
        named = rw (ne_eqb sort variable (λ e. omega arith), ne_eqb sort declared_number (λ e. omega arith), ne_eqb sort array (λ e. omega arith), ne_eqb sort label (λ e. omega arith));
      }

  -- A link that is absent, where it may be.
  pub suits-none : (sort : ℕ) → expression ≤ sort → sort ≤ absent_link → is_required sort ≡ false → Suits bounds rows row sort 0
  unfolding is_link
  suits-none sort l m optional =
      record {
        zero_where_unused = λ q. refl;
        there_where_required = λ q. absurd (false≢true (sym optional ∙ q));
        forward = λ q h. absurd (omega arith);
        inside = λ q h. absurd (omega arith);
        fitting = λ q h. absurd (omega arith);
        named = link-unnamed bounds sort 0 (rw (le-leb expression sort l, le-leb sort absent_link m));
      }

  pub suits-absent : Suits bounds rows row optional_item 0
  unfolding is_required
  suits-absent = suits-none optional_item (omega arith) (omega arith) refl

-- ---- one row

-- What `Structured` asks of the fields of a row.
abbrev pub RowLegal : Bounds → List ℤ → ℕ → Type 0
RowLegal bounds rows row = (field : ℕ) → 1 ≤ field → field < 6 → FieldLegal bounds rows row field

each-field : (P : ℕ → Type 0) → P 1 → P 2 → P 3 → P 4 → P 5 → (field : ℕ) → 1 ≤ field → field < 6 → P field
each-field P a b c d n zero l m = absurd (omega arith)
each-field P a b c d n (suc zero) l m = a
each-field P a b c d n (suc (suc zero)) l m = b
each-field P a b c d n (suc (suc (suc zero))) l m = c
each-field P a b c d n (suc (suc (suc (suc zero)))) l m = d
each-field P a b c d n (suc (suc (suc (suc (suc zero))))) l m = n
each-field P a b c d n (suc (suc (suc (suc (suc (suc field)))))) l m = absurd (omega arith)

-- A row of another kind than 58 is no parameter.
no-parameter : {rows : List ℤ} {row kind a b c d next : ℕ} → Row rows row kind a b c d next → (kind ≡ 58 → ⊥) → is_parameter rows row ≡ false
unfolding is_declaration
no-parameter {rows} {row} r h = by_cases (is_parameter rows row) (λ p. absurd (h (sym r.kind_is ∙ eqb-true _ 58 (parameter-declaration rows row p)))) (λ p. p)

-- A row whose fields suit the kind's sorts.
pub row-legal : {bounds : Bounds} {rows : List ℤ} {row kind a b c d next : ℕ} → Row rows row kind a b c d next → (kind ≡ 58 → ⊥)
    → Suits bounds rows row (sort_of kind 1) a → Suits bounds rows row (sort_of kind 2) b → Suits bounds rows row (sort_of kind 3) c → Suits bounds rows row (sort_of kind 4) d
    → Suits bounds rows row (sort_of kind 5) next → RowLegal bounds rows row
unfolding sort_at
row-legal {bounds} {rows} {row} {kind} r other a b c d next =
    let sort : (field : ℕ) → sort_at rows row field ≡ sort_of kind field = λ field. ap (λ k. sort_of k field) r.kind_is in
    let role : (field : ℕ) → role_sort rows row field ≡ sort_of kind field = λ field. sort-other rows row field (no-parameter r other) ∙ sort field in
    each-field (FieldLegal bounds rows row)
    (field-legal 1 a (role 1) r.a_is (sort 1))
    (field-legal 2 b (role 2) r.b_is (sort 2))
    (field-legal 3 c (role 3) r.c_is (sort 3))
    (field-legal 4 d (role 4) r.d_is (sort 4))
    (field-legal 5 next (role 5) r.next_is (sort 5))

-- A parameter: "its b 0", and its next is a parameter or absent.
pub parameter-legal : {bounds : Bounds} {rows : List ℤ} {row word next : ℕ} → Row rows row 58 word 0 0 0 next → is_parameter rows row ≡ true
    → Suits bounds rows row declared_number word → Suits bounds rows row optional_parameter next → RowLegal bounds rows row
unfolding sort_at sort_of kind_of kind_in kinds sort_in kind_row statement_fields parameter_sort parameter_fields is_link is_required
parameter-legal {bounds} {rows} {row} r p word next =
    let sort : (field : ℕ) → sort_at rows row field ≡ sort_of 58 field = λ field. ap (λ k. sort_of k field) r.kind_is in
    let role : (field : ℕ) → role_sort rows row field ≡ parameter_sort field = λ field. sort-parameter rows row field p in
    each-field (FieldLegal bounds rows row)
    (field-legal 1 word (role 1) r.a_is (sort 1))
    (role-legal 2 (suits-none bounds rows row absent_link (omega arith) (omega arith) refl) (role 2) r.b_is (ap is_link (sort 2)))
    (field-legal 3 (suits-unused bounds rows row) (role 3) r.c_is (sort 3))
    (field-legal 4 (suits-unused bounds rows row) (role 4) r.d_is (sort 4))
    (role-legal 5 next (role 5) r.next_is (ap is_link (sort 5)))

-- ---- the links of a row

-- The row that a field of a kind links, where the field holds the number.
abbrev pub link_by : ℕ → ℕ → ℕ → ℕ
link_by kind field number = pick (is_link (sort_of kind field)) number 0

pub row-link : {rows : List ℤ} {row kind a b c d next : ℕ} → Row rows row kind a b c d next → (field number : ℕ) → number_at rows row field ≡ number → link rows row field ≡ link_by kind field number
unfolding sort_at
row-link {rows} {row} {kind} r field number e = link-by rows row field (sort_of kind field) number (ap (λ k. sort_of k field) r.kind_is) e

-- What holds of each link of a row, from its kind and its numbers.
module _ {rows : List ℤ} {row kind a b c d next : ℕ} (r : Row rows row kind a b c d next) (Q : ℕ → ℕ → Type 0) where
  each_at : (field number : ℕ) → number_at rows row field ≡ number → (0 < link_by kind field number → Q field (link_by kind field number)) → Leads rows row field → Q field (link rows row field)
  each_at field number e q leads = let same = row-link r field number e in subst (Q field) (sym same) (q (omega (arith, leads.later)))

  pub each-link : (0 < link_by kind 1 a → Q 1 (link_by kind 1 a)) → (0 < link_by kind 2 b → Q 2 (link_by kind 2 b)) → (0 < link_by kind 3 c → Q 3 (link_by kind 3 c))
      → (0 < link_by kind 4 d → Q 4 (link_by kind 4 d)) → (0 < link_by kind 5 next → Q 5 (link_by kind 5 next)) → (field : ℕ) → field < 6 → Leads rows row field → Q field (link rows row field)
  each-link qa qb qc qd qn zero h leads = absurd (omega (arith, leads.later, kind-links-none rows row))
  each-link qa qb qc qd qn (suc field) h leads =
      each-field (λ f. Leads rows row f → Q f (link rows row f)) (each_at 1 a r.a_is qa) (each_at 2 b r.b_is qb) (each_at 3 c r.c_is qc) (each_at 4 d r.d_is qd) (each_at 5 next r.next_is qn)
      (suc field) (omega arith) h leads
