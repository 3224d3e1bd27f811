-- Scoped programs: every name in the tree of a resolved table is known where it stands. By recursion on the rows.
use Rattle.std.proofs.Math.Path.{◌≡◌, refl, sym, ap}
use Rattle.std.proofs.Common.{◌∙◌, true≢false, inl, inr, arith}
use Rattle.std.specs.Prelude.{true, false, List, ℕ, ◌+◌, ◌<◌, eqb, ℤ, length}
use Rattle.std.proofs.Math.Logic.{⊎_elim}
use borrow.Author.Tests.{eq-eqb, eqb-true}
use Rattle.words.specs.Table.{row_count, number_at}
use Rattle.words.specs.Declarations.{is_declaration, declaration_count}
use Rattle.words.specs.KindLaws.{place-cases}
use Rattle.words.specs.Kinds.{kinds, kind_in, kind_of, kind_at, is_statement_kind, is_place_kind, statement_row, arm_row, between, stands_in, is_link, sort_in, kind_row, expression_fields, statement_fields, mark_fields, definition_fields, member_fields}
use Rattle.words.specs.Layout.{Layout, store_size}
use Rattle.words.specs.Links.{link}
use Rattle.words.specs.declared.Form.TheVariants.{Source}
use Rattle.words.specs.declared.Kind.{Kind}
use Rattle.words.specs.declared.Kind.TheVariants.{OfExpression, OfStatement, OfMember, Definition}
use Rattle.words.specs.declared.ExpressionKind.TheVariants.{Variable}
use Rattle.words.specs.declared.StatementKind.TheVariants.{Declare}
use Rattle.words.specs.declared.MemberKind.{MemberKind}
use Rattle.words.specs.declared.MemberKind.TheVariants.{Argument}
use Rattle.words.specs.Laws.{by_cases}
use Rattle.computation.specs.Agreement.{Words, ◌within◌}
use Rattle.language.specs.Trees.{Items}
use Rattle.language.specs.Decode.{expression_at, statement_at, decode, list_at, arm_list_at, part_at}
use Rattle.language.specs.Program.{contents}
use Rattle.language.specs.WellFormed.{NamedExpression, NamedPart}
use Rattle.language_renaming.specs.Twin.{◌with◌}
use Rattle.language_renaming.specs.Scoped.{declared, behind, Unmarked, Unreached, Scoped, ScopedArms, ScopedItems}
use Rattle.check_fields.specs.Fields.{source_bounds, resolved_bounds}
use Rattle.check_fields.specs.declared.Bounds.{Bounds}
use Rattle.check_structure.specs.Structured.{Leads, Tree, Structured}
use Rattle.check_structure.specs.StructuredLaws.{structured-tree}
use Rattle.check_structure.specs.RoleLaws.{parameter-fits}
use Rattle.words_roles.specs.Roles.{is_definition, is_parameter}
use Rattle.check_function_causes.proofs.FrontLaws.{block-undefined}
use Rattle.accepted_calls.specs.Kinds.{kind-definition}
use Rattle.accepted_calls.specs.CallsAlong.{link-same}
use Rattle.accepted_calls.specs.Owners.{part-other, next-other}
use Rattle.check_places.specs.Places.{is_mark}
use Rattle.check_items.specs.Items.{ListItem, next}
use Rattle.names.specs.Names.{is_name, word_of, resolved}
use Rattle.names.proofs.ResolvedLaws.{resolved-kind, resolved-link, resolved-count, resolved-leads, resolved-declaration}
use Rattle.names.proofs.ResolvedNames.{DeclaredWord, declaration-resolved, declaration-word}
use Rattle.names.proofs.ResolvedStructured.{resolved-structured}
use Rattle.accepted.specs.Sorts.{between-true, statement_number, number_is, in-language}
use Rattle.accepted.proofs.Fields.{names-variable}
use Rattle.accepted.proofs.Expressions.{ExpressionRow}
use Rattle.accepted.proofs.NamedBelow.{named-below, named-part-below}
use Rattle.accepted.proofs.DefinitionLists.{by-definitions}
use Rattle.accepted.proofs.Statements.{PartRow, StatementRow, empty-row, express-row, block-row, if_then-row, if_else-row, while-row, do_while-row, for-row, switch-row, case_row, default_row, break-row, continue-row, goto-row, label-row, guarded_if-row, guarded_do-row, abort-row, declare-row, return-row, definition-row, ArmsRow, no-arms, arm-row, ListRow, no_items, item, case-item, default-item, label-item, definition-item, root-inside, program-list, program-contents, program-block}
use Rattle.accepted_scopes.specs.Sources.{SourceRows}
use Rattle.accepted_scopes.specs.Known.{Known}
use Rattle.accepted_scopes.specs.KnownLaws.{known-root, known-part, known_next, known_behind, name-known}
use Rattle.accepted_scopes.specs.Lists.{not-in-switch}

module _ (L : Layout) (rows : List ℤ) (source : SourceRows L rows) where
  abbrev S : ℕ
  S = store_size L

  abbrev arrays : ℕ
  arrays = length L.lengths

  abbrev table : List ℤ
  table = resolved S rows

  abbrev pub bounds : Bounds
  bounds = resolved_bounds L (declaration_count rows)

  s : Structured Source (source_bounds L) rows
  s = source.structured

  pub t : Tree rows
  t = structured-tree Source (source_bounds L) rows s

  pub own : Structured Source bounds table
  own = resolved-structured Source L rows s

  abbrev KnownAt : ℕ → ℕ → Type 0
  KnownAt row = Known L.variables S rows row

  pub root : is_definition rows 0 ≡ false
  root = block-undefined rows 0 s.block

  -- A row that is no definition, below row 0, where P holds of what is known.
  pub record Here (P : Words) (row : ℕ) : Type 0 where
    pub below : 0 < row
    pub plain : is_definition rows row ≡ false
    pub known : KnownAt row within P

  part-here : (P : Words) (row field : ℕ) → field < 5 → Leads table row field → Here P row → Here P (link table row field)
  part-here P row field h l here =
      let own-leads = (resolved-leads S rows {row = row} {field = field} (omega arith)).1 l in
      let later = own-leads.later in
      rw (resolved-link S rows row field (omega arith))
      (record {
        below = omega arith;
        plain = part-other rows t root source.called.in_order row field h (λ z. let some = here.below in omega (arith, z.0)) own-leads;
        known = λ word q. here.known word (known-part rows t L.variables S row field h here.plain own-leads word q);
      })

  -- ---- kinds

  same_kind : (row : ℕ) → kind_at table row ≡ kind_at rows row
  unfolding kind_at
  same_kind row = ap kind_of (resolved-kind S rows row)

  -- a row of another kind declares nothing
  other-kind : {row : ℕ} {kind : Kind} → row < row_count table → kind_at table row ≡ kind → between statement_row arm_row (sort_in kind 0) ≡ true → eqb (statement_number kind) 58 ≡ false → is_declaration rows row ≡ false
  unfolding is_declaration
  other-kind {row} n k e f = sym (resolved-declaration S rows row) ∙ rw (number_is table row k e) f

  declares : {row : ℕ} → row < row_count table → kind_at table row ≡ OfStatement Declare → is_declaration rows row ≡ true
  unfolding is_declaration sort_in kind_row expression_fields statement_fields mark_fields definition_fields member_fields statement_number
  declares {row} n k = sym (resolved-declaration S rows row) ∙ rw (number_is table row k refl)

  -- a declaration is no parameter, since it has an initial expression
  declaration-apart : {row : ℕ} → row < row_count table → kind_at table row ≡ OfStatement Declare → Leads table row 2 → is_parameter rows row ≡ false
  unfolding sort_in kind_row statement_fields is_link
  declaration-apart {row} n k l =
      by_cases (is_parameter rows row)
      (λ p. absurd (
      let inside : row < row_count rows = rw (resolved-count S rows) at n in
      let none = (parameter-fits Source (source_bounds L) rows s row inside p).no-initial in
      let same = link-same rows t row inside (sym (same_kind row) ∙ k) 2 refl in
      let later : row < link rows row 2 = ((resolved-leads S rows {row = row} {field = 2} (omega arith)).1 l).later in
      omega arith))
      (λ p. p)

  same-definition : (row : ℕ) → is_definition table row ≡ is_definition rows row
  unfolding is_definition
  same-definition row = rw (resolved-kind S rows row)

  defines-one : (row : ℕ) → kind_at table row ≡ Definition → is_definition rows row ≡ true
  defines-one row k = sym (same-definition row) ∙ kind-definition table row k

  -- a variable's row
  module _ (row : ℕ) (k : kind_at rows row ≡ OfExpression Variable) where
    variable-number : number_at rows row 0 ≡ 2
    unfolding kind_at is_place_kind sort_in kind_row expression_fields statement_fields mark_fields definition_fields member_fields kind_of kind_in kinds
    variable-number =
        place-cases (number_at rows row 0) (ap is_place_kind k) (λ e. e)
        (λ e. absurd (let z : ◌≡◌ {A = ℕ} 3 2 = ap (λ kind. sort_in kind 1) (sym (ap kind_of e) ∙ k) in omega arith))

    names-one : is_name rows row ≡ true
    unfolding is_name
    names-one = eq-eqb _ _ variable-number

    declares-none : is_declaration rows row ≡ false
    unfolding is_declaration
    declares-none = rw variable-number

  -- a variable's row names a known word
  variable-known : (row : ℕ) → row < row_count table → kind_at table row ≡ OfExpression Variable → KnownAt row (number_at table row 1)
  unfolding sort_in kind_row expression_fields statement_fields mark_fields definition_fields member_fields
  variable-known row n k =
      let here : kind_at rows row ≡ OfExpression Variable = sym (same_kind row) ∙ k in
      let inside : row < row_count rows = rw (resolved-count S rows) at n in
      let below : number_at rows row 1 < L.variables =
      ⊎_elim (λ b. b) (λ b. absurd (omega (arith, b.0, b.1))) (names-variable Source (source_bounds L) rows s row inside here 1 refl) in
      name-known rows t L.variables S s.block row inside (declares-none row here) (names-one row here) below

  -- a member declares nothing, so that what stands beside an argument knows what it knows
  member-declares-none : (row : ℕ) {kind : MemberKind} → kind_at table row ≡ OfMember kind → is_declaration rows row ≡ false
  unfolding kind_at is_declaration kind_of kind_in kinds
  member-declares-none row k =
      by_cases (is_declaration rows row) (λ d. absurd (true≢false (ap is_statement_kind (sym (ap kind_of (resolved-kind S rows row ∙ eqb-true _ _ d)) ∙ k)))) (λ d. d)

  -- the next row of a list
  next_here : (P : Words) (row : ℕ) → row < row_count table → is_declaration rows row ≡ false → Leads table row 5 → Here P row → Here P (link table row 5)
  next_here P row n other l here =
      let own-leads = (resolved-leads S rows {row = row} {field = 5} (omega arith)).1 l in
      let later = own-leads.later in
      rw (resolved-link S rows row 5 (omega arith))
      (record {
        below = omega arith;
        plain = next-other rows t root source.called.in_order row (rw (resolved-count S rows) at n) here.plain;
        known = λ word q. here.known word (known_next rows t L.variables S row other own-leads word q);
      })

  argument-here : (P : Words) (row : ℕ) → kind_at table row ≡ OfMember Argument → Leads table row 5 → Here P row → Here P (link table row 5)
  argument-here P row k l here = next_here P row (let later = l.later in let inside = l.inside in omega arith) (member-declares-none row k) l here

  -- ---- from a row to the rows that it links

  module _ (P : Words) {row : ℕ} (n : row < row_count table) (h : Here P row) where
    in-part : (field : ℕ) → field < 5 → Leads table row field → Here P (link table row field)
    in-part field k l = part-here P row field k l h

    -- where the link may be absent
    abbrev At : ℕ → Words → Type 0
    At l Q = 0 < l → (l < row_count table) × Here Q l

    at_part : (field : ℕ) → between 1 4 field ≡ true → At (link table row field) P
    at_part field range p =
        let parts = between-true 1 4 field range in
        let l = own.forward row n field parts.0 (omega (arith, parts.1)) p in
        (l.inside, in-part field (omega (arith, parts.1)) l)

    leads_next : 0 < link table row 5 → Leads table row 5
    leads_next p = own.forward row n 5 (omega arith) (omega arith) p

    at_next : is_declaration rows row ≡ false → At (link table row 5) P
    at_next other p = let l = leads_next p in (l.inside, next_here P row n other l h)

    at-behind : is_declaration rows row ≡ true → At (link table row 5) (P with number_at table row 1)
    at-behind d p =
        let l = leads_next p in
        let own-leads = (resolved-leads S rows {row = row} {field = 5} (omega arith)).1 l in
        let later = own-leads.later in (
          l.inside,
          rw (resolved-link S rows row 5 (omega arith))
              (record {
                below = omega arith;
                plain = next-other rows t root source.called.in_order row (rw (resolved-count S rows) at n) h.plain;
                known = λ word q. go word (known_behind rows t L.variables S row own-leads word q);
              }),
        )
      where
        go : (word : ℕ) → (KnownAt row with word_of S rows row) word → (P with number_at table row 1) word
        go word (inl q) = inl (h.known word q)
        go word (inr e) = inr (e ∙ sym (declaration-resolved S rows t row (rw (resolved-count S rows) at n) d))

  -- ---- no mark behind a declaration

  not-in-source : {row : ℕ} {kind : Kind} → row < row_count table → kind_at table row ≡ kind → stands_in (kind_row kind).forms Source ≡ false → ⊥
  not-in-source {row} n k f = true≢false (sym (in-language Source table row (own.known row n) k) ∙ f)

  -- a mark is no item of a block
  marked : {row : ℕ} {kind : Kind} → row < row_count table → kind_at table row ≡ kind → between statement_row arm_row (sort_in kind 0) ≡ true → is_mark (statement_number kind) ≡ true → ListItem rows 42 1 row → ⊥
  marked {row} n k e m i =
      let number : number_at rows row 0 ≡ statement_number _ = sym (resolved-kind S rows row) ∙ number_is table row k e in
      not-in-switch rows t i (source.marks row (rw (resolved-count S rows) at n) (rw number m))

  next-in-block : {row : ℕ} → row < row_count table → ListItem rows 42 1 row → 0 < link table row 5 → (link table row 5 < row_count table) × ListItem rows 42 1 (link table row 5)
  next-in-block {row} n i p =
      let l = own.forward row n 5 (omega arith) (omega arith) p in
      (l.inside, rw (resolved-link S rows row 5 (omega arith)) (next ((resolved-leads S rows {row = row} {field = 5} (omega arith)).1 l) i))

  unmarked-list : {l : ℕ} → ListRow table l → (0 < l → (l < row_count table) × ListItem rows 42 1 l) → Unmarked (list_at table l)
  unfolding Unmarked sort_in kind_row expression_fields statement_fields mark_fields definition_fields member_fields statement_number
  unmarked-list (no_items z e) i = rw e tt
  unmarked-list (item p e x y) i = rw e (unmarked-list y (next-in-block (i p).0 (i p).1))
  unmarked-list (case-item p k e x y) i = absurd (marked (i p).0 k refl refl (i p).1)
  unmarked-list (default-item p k e x y) i = absurd (marked (i p).0 k refl refl (i p).1)
  unmarked-list (label-item p k e x y) i = absurd (not-in-source (i p).0 k refl)
  unmarked-list (definition-item p k q r b e x y z) i = rw e (unmarked-list z (next-in-block (i p).0 (i p).1))

  -- ---- expressions

  expression-scoped : (P : Words) {row : ℕ} → ExpressionRow table row → row < row_count table → Here P row → NamedExpression P arrays (expression_at table row)
  expression-scoped P x n h = named-below Source bounds table own P (Here P) (λ row n k h. h.known _ (variable-known row n k)) (part-here P) (argument-here P) x n h

  part-scoped : (P : Words) {l : ℕ} → PartRow table l → (0 < l → (l < row_count table) × Here P l) → NamedPart P arrays (part_at table l)
  part-scoped P x at = named-part-below Source bounds table own P (Here P) (λ row n k h. h.known _ (variable-known row n k)) (part-here P) (argument-here P) x at

  -- ---- statements: All holds of the words of declarations

  module _ (All : Words) (all : DeclaredWord S rows within All) where
    -- the list behind an item
    behind-item : {l : ℕ} → StatementRow table l → l < row_count table → (P : Words) → Here P l → (rest : Items) → (is_declaration rows l ≡ true → is_parameter rows l ≡ false → Unmarked rest)
        → ((Q : Words) → (0 < link table l 5 → (link table l 5 < row_count table) × (Here Q (link table l 5))) → ScopedItems All arrays Q rest)
        → Unreached (declared (statement_at table l)) rest × ScopedItems All arrays (behind P (declared (statement_at table l))) rest
    unfolding declared behind Unreached sort_in kind_row expression_fields statement_fields mark_fields definition_fields member_fields statement_number
    behind-item (empty-row k e) n P h rest u c = rw e (tt, c P (at_next P n h (other-kind n k refl refl)))
    behind-item (express-row k p e x) n P h rest u c = rw e (tt, c P (at_next P n h (other-kind n k refl refl)))
    behind-item (block-row k e x) n P h rest u c = rw e (tt, c P (at_next P n h (other-kind n k refl refl)))
    behind-item (if_then-row k p q z e x y) n P h rest u c = rw e (tt, c P (at_next P n h (other-kind n k refl refl)))
    behind-item (if_else-row k p q r e x y z) n P h rest u c = rw e (tt, c P (at_next P n h (other-kind n k refl refl)))
    behind-item (while-row k p q e x y) n P h rest u c = rw e (tt, c P (at_next P n h (other-kind n k refl refl)))
    behind-item (do_while-row k p q e x y) n P h rest u c = rw e (tt, c P (at_next P n h (other-kind n k refl refl)))
    behind-item (for-row k p e x y z w) n P h rest u c = rw e (tt, c P (at_next P n h (other-kind n k refl refl)))
    behind-item (switch-row k p e x y) n P h rest u c = rw e (tt, c P (at_next P n h (other-kind n k refl refl)))
    behind-item (case_row k e) n P h rest u c = rw e (tt, c P (at_next P n h (other-kind n k refl refl)))
    behind-item (default_row k e) n P h rest u c = rw e (tt, c P (at_next P n h (other-kind n k refl refl)))
    behind-item (break-row k e) n P h rest u c = rw e (tt, c P (at_next P n h (other-kind n k refl refl)))
    behind-item (continue-row k e) n P h rest u c = rw e (tt, c P (at_next P n h (other-kind n k refl refl)))
    behind-item (goto-row k e) n P h rest u c = rw e (tt, c P (at_next P n h (other-kind n k refl refl)))
    behind-item (label-row k e) n P h rest u c = rw e (tt, c P (at_next P n h (other-kind n k refl refl)))
    behind-item (guarded_if-row k e x) n P h rest u c = rw e (tt, c P (at_next P n h (other-kind n k refl refl)))
    behind-item (guarded_do-row k e x) n P h rest u c = rw e (tt, c P (at_next P n h (other-kind n k refl refl)))
    behind-item (abort-row k e) n P h rest u c = rw e (tt, c P (at_next P n h (other-kind n k refl refl)))
    behind-item (declare-row k p e x) n P h rest u c = rw e (u (declares n k) (declaration-apart n k p), c _ (at-behind P n h (declares n k)))
    behind-item (return-row k e x) n P h rest u c = rw e (tt, c P (at_next P n h (other-kind n k refl refl)))
    behind-item (definition-row k e) n P h rest u c = rw e (tt, c P (at_next P n h (other-kind n k refl refl)))

    mutual
      unfolding Scoped ScopedArms ScopedItems sort_in kind_row expression_fields statement_fields mark_fields definition_fields member_fields statement_number

      scoped-statement : {row : ℕ} → StatementRow table row → row < row_count table → (P : Words) → Here P row → Scoped All arrays P (statement_at table row)
      scoped-statement (empty-row k e) n P h = rw e tt
      scoped-statement (express-row k p e x) n P h = rw e (expression-scoped P x p.inside (in-part P n h 1 (omega arith) p))
      scoped-statement (block-row k e x) n P h = rw e (scoped-list x P (at_part P n h 1 refl))
      scoped-statement (if_then-row k p q z e x y) n P h =
          rw e (expression-scoped P x p.inside (in-part P n h 1 (omega arith) p), scoped-statement y q.inside P (in-part P n h 2 (omega arith) q))
      scoped-statement (if_else-row k p q r e x y z) n P h =
          rw e (expression-scoped P x p.inside (in-part P n h 1 (omega arith) p), scoped-statement y q.inside P (in-part P n h 2 (omega arith) q), scoped-statement z r.inside P (in-part P n h 3 (omega arith) r))
      scoped-statement (while-row k p q e x y) n P h =
          rw e (expression-scoped P x p.inside (in-part P n h 1 (omega arith) p), scoped-statement y q.inside P (in-part P n h 2 (omega arith) q))
      scoped-statement (do_while-row k p q e x y) n P h =
          rw e (scoped-statement x p.inside P (in-part P n h 1 (omega arith) p), expression-scoped P y q.inside (in-part P n h 2 (omega arith) q))
      scoped-statement (for-row k p e x y z w) n P h =
          rw e (part-scoped P x (at_part P n h 1 refl), part-scoped P y (at_part P n h 2 refl), part-scoped P z (at_part P n h 3 refl), scoped-statement w p.inside P (in-part P n h 4 (omega arith) p))
      scoped-statement (switch-row k p e x y) n P h = rw e (expression-scoped P x p.inside (in-part P n h 1 (omega arith) p), scoped-list y P (at_part P n h 2 refl))
      scoped-statement (case_row k e) n P h = rw e tt
      scoped-statement (default_row k e) n P h = rw e tt
      scoped-statement (break-row k e) n P h = rw e tt
      scoped-statement (continue-row k e) n P h = rw e tt
      scoped-statement (goto-row k e) n P h = rw e tt
      scoped-statement (label-row k e) n P h = rw e tt
      scoped-statement (guarded_if-row k e x) n P h = rw e (scoped-arms x P (at_part P n h 1 refl))
      scoped-statement (guarded_do-row k e x) n P h = rw e (scoped-arms x P (at_part P n h 1 refl))
      scoped-statement (abort-row k e) n P h = rw e tt
      scoped-statement {row} (declare-row k p e x) n P h =
          rw e (all _ (declaration-word S rows t row (rw (resolved-count S rows) at n) (declares n k)), expression-scoped P x p.inside (in-part P n h 2 (omega arith) p))
      scoped-statement (return-row k e x) n P h = rw e (part-scoped P x (at_part P n h 1 refl))
      scoped-statement (definition-row k e) n P h = rw e tt

      scoped-arms : {l : ℕ} → ArmsRow table l → (P : Words) → (0 < l → (l < row_count table) × (Here P l)) → ScopedArms All arrays P (arm_list_at table l)
      scoped-arms (no-arms z e) P at = rw e tt
      scoped-arms (arm-row p k q r e x y z) P at =
          rw e (expression-scoped P x q.inside (in-part P (at p).0 (at p).1 1 (omega arith) q), scoped-statement y r.inside P (in-part P (at p).0 (at p).1 2 (omega arith) r), scoped-arms z P (at_next P (at p).0 (at p).1 (other-kind (at p).0 k refl refl)))

      pub scoped-list : {l : ℕ} → ListRow table l → (P : Words) → (0 < l → (l < row_count table) × (Here P l)) → ScopedItems All arrays P (list_at table l)
      scoped-list (no_items z e) P at = rw e tt
      scoped-list {l} (item p e x y) P at =
          let n = (at p).0 in
          let h = (at p).1 in
          let behind = behind-item x n P h (list_at table (link table l 5)) (λ d a. unmarked-list y (next-in-block n (source.declarations l (rw (resolved-count S rows) at n) d a))) (λ Q known. scoped-list y Q known) in
          rw e (scoped-statement x n P h, behind.0, behind.1)
      scoped-list (case-item p k e x y) P at = rw e (scoped-list y P (at_next P (at p).0 (at p).1 (other-kind (at p).0 k refl refl)))
      scoped-list (default-item p k e x y) P at = rw e (scoped-list y P (at_next P (at p).0 (at p).1 (other-kind (at p).0 k refl refl)))
      scoped-list (label-item p k e x y) P at = rw e (scoped-list y P (at_next P (at p).0 (at p).1 (other-kind (at p).0 k refl refl)))
      scoped-list {l} (definition-item p k q r b e x y z) P at = absurd (true≢false (sym (defines-one l k) ∙ (at p).1.plain))

    -- the items of a program, where P holds of what is known
    scoped-program : (P : Words) {l : ℕ} → ListRow table l → (0 < l → (l < row_count table) × (KnownAt l within P)) → ScopedItems All arrays P (list_at table l)
    unfolding ScopedItems sort_in kind_row expression_fields statement_fields mark_fields definition_fields member_fields statement_number
    scoped-program P x at =
        by-definitions Source bounds table own (λ (l : ℕ). (0 < l → (l < row_count table) × (KnownAt l within P)) → ScopedItems All arrays P (list_at table l))
        (λ l p k q r y e rest at. rw e (rest (λ s-next.
        let leads = own.forward l (at p).0 5 (omega arith) (omega arith) s-next in
        (leads.inside, λ word w. (at p).1 word (known_next rows t L.variables S l (other-kind (at p).0 k refl refl) ((resolved-leads S rows (omega arith)).1 leads) word (rw (resolved-link S rows l 5 (omega arith)) at w))))))
        (λ l x other at. scoped-list x P (λ p. ((at p).0, record { below = p; plain = sym (same-definition l) ∙ other p; known = (at p).1 })))
        x (λ p. (at p).0) at

    -- The program, where the header's variables are known.
    pub resolved-scoped : (P : Words) → (λ word. word < L.variables) within P → ScopedItems All arrays P (contents table)
    resolved-scoped P h =
        rw (program-contents Source bounds table own)
        (scoped-program P (program-list Source bounds table own)
        (λ p. let leads = own.forward 0 (root-inside Source bounds table own) 1 (omega arith) (omega arith) p in (
          leads.inside,
          λ word w. h word (known-root rows t L.variables S word
              (known-part rows t L.variables S 0 1 (omega arith) root ((resolved-leads S rows (omega arith)).1 leads) word (rw (resolved-link S rows 0 1 (omega arith)) at w))),
        )))

    pub program-scoped : (P : Words) → (λ word. word < L.variables) within P → Scoped All arrays P (decode table)
    unfolding Scoped
    program-scoped P h = rw (program-block Source bounds table own) (resolved-scoped P h)
