-- The joined rows are structured: the fields of the new block, those at the seams, and all others, which are kept.
use Rattle.std.specs.Prelude.{◌≡◌, true, false, List, ℤ, length}
use Rattle.std.proofs.Common.{sym, ◌∙◌, ap, arith, eqb-true}
use Rattle.std.proofs.lemmas.Bool.{false≢true}
use Prim.Native.Nat.{ℕ, zero, suc, ◌+◌, ◌≤◌, ◌<◌}
use Rattle.words.specs.Laws.{by_cases, facts-count_fits}
use Rattle.words.specs.Table.{row_count, number_at}
use Rattle.words.specs.Kinds.{kinds, kind_in, kind_of, unused, optional_item, is_link, is_required, in_language, kind_row, expression_fields, statement_fields, mark_fields, definition_fields, member_fields, sort_in, sort_of, sort_at}
use Rattle.words.specs.Declarations.{is_declaration}
use Rattle.words.specs.Links.{link, fits, is_statement}
use Rattle.words.specs.declared.Form.TheVariants.{Source}
use Rattle.check_fields.specs.Fields.{number_fits}
use Rattle.check_fields.specs.declared.Bounds.{Bounds}
use Rattle.check_grammar.specs.GrammarLaws.{zero-links-none, kind-links-none}
use Rattle.check_structure.specs.Structured.{Leads, EachField, Structured, Tree}
use Rattle.words_roles.specs.Roles.{role_sort}
use Rattle.check_declaration_causes.proofs.DeclarationLaws.{block-undeclared}
use Rattle.check_function_causes.specs.Functions.{is_definition}
use Rattle.join.specs.Join.{first_item, front_of, joined_rows}
use Rattle.join.specs.Moved.{at_seam, InOrder, Holds}
use Rattle.join.proofs.Fronts.{Seam, first-of-root, next-of-root, next-of-definition, seam-is}
use Rattle.join.proofs.Kept.{ordered, definition-some, first-linked, first_inside, first-undefined}
use Rattle.join.proofs.MovedLaws.{moved-some, moved_back, sort-held, definition-held, declaration-held}
use Rattle.join.proofs.MovedLegal.{link-named, known-held, unused-held, present-held, forward-held, fits-held, fitting-held, named-held}
use Rattle.join.proofs.MovedRoles.{plain-sort, seam-undeclared}
use Rattle.join.proofs.Placements.{block-next, block-first, definition-next, front-definition, front-behind}
use Rattle.join.proofs.JoinedRows.{of_first, of_second, first_place, second_place, length-joined, whole-joined}
use Rattle.join.proofs.JoinedSeams.{ordered-first, ordered-second, whole_first, whole_second, some_first, count, holds-first, holds-second, every-row, outer-block, outer-first, outer-rest, block-of-first, block-of-second, block-seam, no-seam, items-of-first, items-of-second, next-of-first, next-of-second, behind-first, behind-second}
use Rattle.join.proofs.JoinedFront.{outer-leads, block-leads, items-first-leads, items-second-leads, next-first-leads, next-second-leads}
use Rattle.join.proofs.JoinedLinks.{joined_once}

-- ---- a block's fields

module _ (rows : List ℤ) (row : ℕ) (block : number_at rows row 0 ≡ 42) where
  pub block-known : in_language Source (number_at rows row 0) ≡ true
  unfolding in_language kind_of kind_in kinds kind_row statement_fields
  block-known = rw block

  -- a block is an item
  pub block-fits : fits rows optional_item row ≡ true
  unfolding fits is_statement sort_at sort_of sort_in kind_of kind_in kinds kind_row expression_fields statement_fields mark_fields definition_fields member_fields
  block-fits = rw block

  no_field : (field : ℕ) → 2 ≤ field → field < 5 → sort_at rows row field ≡ unused
  unfolding sort_at sort_of sort_in kind_of kind_in kinds kind_row expression_fields statement_fields mark_fields definition_fields member_fields
  no_field zero least most = absurd (omega arith)
  no_field (suc zero) least most = absurd (omega arith)
  no_field (suc (suc zero)) least most = rw block
  no_field (suc (suc (suc zero))) least most = rw block
  no_field (suc (suc (suc (suc zero)))) least most = rw block
  no_field (suc (suc (suc (suc (suc field))))) least most = absurd (omega arith)

-- a definition is an item
definition-fits : (rows : List ℤ) (row : ℕ) → is_definition rows row ≡ true → fits rows optional_item row ≡ true
unfolding is_definition fits is_statement sort_at sort_of sort_in kind_of kind_in kinds kind_row expression_fields statement_fields mark_fields definition_fields member_fields
definition-fits rows row d = rw (eqb-true (number_at rows row 0) 59 d)

-- every word at the seam is an item
seam-sort : {bounds : Bounds} {rows : List ℤ} → Structured Source bounds rows → (row field : ℕ) → Seam rows row field → sort_at rows row field ≡ optional_item
seam-sort {bounds} {rows} s row field (first-of-root a b) = rw (a, b) (block-first rows 0 s.block)
seam-sort {bounds} {rows} s row field (next-of-root a b) = rw (a, b) (block-next rows 0 s.block)
seam-sort {bounds} {rows} s row field (next-of-definition d b) = rw b (definition-next rows row d)

-- the item behind the definitions is one
first_fits : {bounds : Bounds} {rows : List ℤ} (s : Structured Source bounds rows) (i : InOrder rows) → 0 < first_item rows → fits rows optional_item (first_item rows) ≡ true
first_fits {bounds} {rows} s i p =
    let l = first-linked (ordered s i) p in
    let later = l.leads.later in
    let below = l.leads.inside in
    let most = l.most in
    let item = seam-sort s l.owner l.field (seam-is rows l.owner l.field l.seam) in
    let n : l.owner < row_count rows = omega arith in
    let fits-there = s.fitting l.owner n l.field (field-some l.field l.leads) most (omega arith) in
    rw (plain-sort rows l.owner l.field (seam-undeclared s (seam-is rows l.owner l.field l.seam)), item, l.is) at fits-there
  where
    field-some : (field : ℕ) {owner : ℕ} → Leads rows owner field → 1 ≤ field
    field-some zero {owner} leads = absurd (let none = kind-links-none rows owner in let later = leads.later in omega arith)
    field-some (suc field) leads = omega arith

-- ---- a field whose sort is that of items

module _ (rows : List ℤ) (row field : ℕ) (item : sort_at rows row field ≡ optional_item) where
  item-used : sort_at rows row field ≡ unused → number_at rows row field ≡ 0
  item-used e = absurd (omega arith)

  -- of a row that declares nothing
  item-role : is_declaration rows row ≡ false → role_sort rows row field ≡ optional_item
  item-role plain = plain-sort rows row field plain ∙ item

  item-optional : is_declaration rows row ≡ false → is_required (role_sort rows row field) ≡ true → 0 < link rows row field
  unfolding is_required
  item-optional plain e = absurd (false≢true (sym (ap is_required (item-role plain)) ∙ e))

  item-named : (bounds : Bounds) → number_fits bounds (sort_at rows row field) (number_at rows row field) ≡ true
  unfolding is_link
  item-named bounds = link-named bounds (sort_at rows row field) (number_at rows row field) (rw item)

-- ---- a field that is unused

module _ (rows : List ℤ) (row field : ℕ) (none : sort_at rows row field ≡ unused) where
  unused-optional : is_declaration rows row ≡ false → is_required (role_sort rows row field) ≡ true → 0 < link rows row field
  unfolding is_required
  unused-optional plain e = absurd (false≢true (sym (ap is_required (plain-sort rows row field plain ∙ none)) ∙ e))

  unused-named : (bounds : Bounds) → number_fits bounds (sort_at rows row field) (number_at rows row field) ≡ true
  unfolding number_fits
  unused-named bounds = rw none

module _ {bounds : Bounds} (first second : List ℤ) (s : Structured Source bounds first) (z : Structured Source bounds second) (p : InOrder first) (q : InOrder second) where
  abbrev joined : List ℤ
  joined = joined_rows first second

  abbrev ρ : ℕ → ℕ
  ρ = first_place first second

  abbrev ρ' : ℕ → ℕ
  ρ' = second_place first second

  h : Holds joined first ρ (λ f. (of_first first second).functions + f)
  h = holds-first first second s z p q

  h' : Holds joined second ρ' (λ f. (of_second first second).functions + f)
  h' = holds-second first second s z p q

  -- ---- fields of the new block: a is the first item, b to d are unused, next is 0

  outer-field : (P : ℕ → Type 0) → P 1 → ((field : ℕ) → sort_at joined 0 field ≡ unused → number_at joined 0 field ≡ 0 → P field) → (sort_at joined 0 5 ≡ optional_item → number_at joined 0 5 ≡ 0 → P 5)
      → (field : ℕ) → 1 ≤ field → field < 6 → P field
  outer-field P a rest next zero least most = absurd (omega arith)
  outer-field P a rest next (suc zero) least most = a
  outer-field P a rest next (suc (suc zero)) least most = rest 2 (no_field joined 0 (outer-block first second s z p q) 2 (omega arith) (omega arith)) (outer-rest first second s z p q 2 (omega arith) (omega arith))
  outer-field P a rest next (suc (suc (suc zero))) least most = rest 3 (no_field joined 0 (outer-block first second s z p q) 3 (omega arith) (omega arith)) (outer-rest first second s z p q 3 (omega arith) (omega arith))
  outer-field P a rest next (suc (suc (suc (suc zero)))) least most = rest 4 (no_field joined 0 (outer-block first second s z p q) 4 (omega arith) (omega arith)) (outer-rest first second s z p q 4 (omega arith) (omega arith))
  outer-field P a rest next (suc (suc (suc (suc (suc zero))))) least most = next (block-next joined 0 (outer-block first second s z p q)) (outer-rest first second s z p q 5 (omega arith) (omega arith))
  outer-field P a rest next (suc (suc (suc (suc (suc (suc field)))))) least most = absurd (omega arith)

  -- Every field of every row: those of the new block, those at the seams, and all others.
  each-field : (P : ℕ → ℕ → Type 0) → P 0 1 → ((field : ℕ) → sort_at joined 0 field ≡ unused → number_at joined 0 field ≡ 0 → P 0 field) → (sort_at joined 0 5 ≡ optional_item → number_at joined 0 5 ≡ 0 → P 0 5)
      → ((r field : ℕ) → r < row_count first → Seam first r field → P (ρ r) field)
      → ((r field : ℕ) → r < row_count second → Seam second r field → P (ρ' r) field)
      → ((r field : ℕ) → r < row_count first → 1 ≤ field → field < 6 → at_seam first r field ≡ false → P (ρ r) field)
      → ((r field : ℕ) → r < row_count second → 1 ≤ field → field < 6 → at_seam second r field ≡ false → P (ρ' r) field)
      → EachField joined P
  each-field P a rest next seam-first seam-second in_first in_second = every-row first second s z p q (λ row. (field : ℕ) → 1 ≤ field → field < 6 → P row field) (outer-field (P 0) a rest next)
      (λ r n field least most. by_cases (at_seam first r field) (λ e. seam-first r field n (seam-is first r field e)) (λ e. in_first r field n least most e))
      (λ r n field least most. by_cases (at_seam second r field) (λ e. seam-second r field n (seam-is second r field e)) (λ e. in_second r field n least most e))

  -- row 0, and the rows at the seams, declare nothing
  plain-outer : is_declaration joined 0 ≡ false
  plain-outer = block-undeclared joined 0 (outer-block first second s z p q)

  plain-first : (r field : ℕ) → r < row_count first → Seam first r field → is_declaration joined (ρ r) ≡ false
  plain-first r field n seam = declaration-held h r n ∙ seam-undeclared s seam

  plain_second : (r field : ℕ) → r < row_count second → Seam second r field → is_declaration joined (ρ' r) ≡ false
  plain_second r field n seam = declaration-held h' r n ∙ seam-undeclared z seam

  first-of-outer : sort_at joined 0 1 ≡ optional_item
  first-of-outer = block-first joined 0 (outer-block first second s z p q)

  item-first : (r field : ℕ) → r < row_count first → Seam first r field → sort_at joined (ρ r) field ≡ optional_item
  item-first r field n seam = sort-held h r field n ∙ seam-sort s r field seam

  item-second : (r field : ℕ) → r < row_count second → Seam second r field → sort_at joined (ρ' r) field ≡ optional_item
  item-second r field n seam = sort-held h' r field n ∙ seam-sort z r field seam

  -- a word 0 leads nowhere
  nowhere : (row field : ℕ) → number_at joined row field ≡ 0 → 0 < link joined row field → ⊥
  nowhere row field e c = let none = zero-links-none joined row field e in omega arith

  seam-leads : (r field : ℕ) → r < row_count first → Seam first r field → 0 < link joined (ρ r) field → Leads joined (ρ r) field
  seam-leads r field n (first-of-root a b) c = let there : 0 < link joined (ρ 0) 1 = (rw (a, b) at c) in rw (a, b) (items-first-leads first second s z p q there)
  seam-leads r field n (next-of-root a b) c = rw (a, b) (block-leads first second s z p q)
  seam-leads r field n (next-of-definition d b) c = rw b (next-first-leads first second s z p q r n d)

  seam-leads' : (r field : ℕ) → r < row_count second → Seam second r field → 0 < link joined (ρ' r) field → Leads joined (ρ' r) field
  seam-leads' r field n (first-of-root a b) c = let there : 0 < link joined (ρ' 0) 1 = (rw (a, b) at c) in rw (a, b) (items-second-leads first second s z p q there)
  seam-leads' r field n (next-of-root a b) c = absurd (let there : 0 < link joined (ρ' 0) 5 = (rw (a, b) at c) in let none = no-seam first second s z p q in omega arith)
  seam-leads' r field n (next-of-definition d b) c = rw b (next-second-leads first second s z p q r n d)

  joined-forward : EachField joined (λ row field. 0 < link joined row field → Leads joined row field)
  joined-forward =
      each-field (λ row field. 0 < link joined row field → Leads joined row field)
      (λ c. outer-leads first second s z p q)
      (λ field e n c. absurd (nowhere 0 field n c))
      (λ e n c. absurd (nowhere 0 5 n c))
      seam-leads
      seam-leads'
      (λ r field n least most own. forward-held s p h r field n least most own)
      (λ r field n least most own. forward-held z q h' r field n least most own)

  -- ---- what the seams lead to are items

  behind-fits : fits joined optional_item (of_first first second).behind ≡ true
  behind-fits =
      by_cases (is_definition second (link second 0 1))
      (λ d. let o = ordered-second first second s z p q in
      let leads = o.tree.forward 0 1 o.tree.some_rows (omega arith) (definition-some o (link second 0 1) d) in
      rw (behind-first first second s z p q ∙ front-definition (of_second first second) second (link second 0 1) d) (definition-fits joined (ρ' (link second 0 1)) (definition-held h' (link second 0 1) leads.inside ∙ d)))
      (λ d. rw (behind-first first second s z p q ∙ front-behind (of_second first second) second (link second 0 1) d ∙ behind-second first second s z p q) (block-fits joined (ρ 0) (block-of-first first second s z p q)))

  front_fits : (row field : ℕ) → row < row_count first → field < 6 → fits joined optional_item (front_of (of_first first second) first (link first row field)) ≡ true
  front_fits row field n f =
      by_cases (is_definition first (link first row field))
      (λ d. let o = ordered-first first second s z p q in
      let leads = o.tree.forward row field n f (definition-some o (link first row field) d) in
      rw (front-definition (of_first first second) first (link first row field) d) (definition-fits joined (ρ (link first row field)) (definition-held h (link first row field) leads.inside ∙ d)))
      (λ d. rw (front-behind (of_first first second) first (link first row field) d) behind-fits)

  front-fits' : (row field : ℕ) → row < row_count second → field < 6 → fits joined optional_item (front_of (of_second first second) second (link second row field)) ≡ true
  front-fits' row field n f =
      by_cases (is_definition second (link second row field))
      (λ d. let o = ordered-second first second s z p q in
      let leads = o.tree.forward row field n f (definition-some o (link second row field) d) in
      rw (front-definition (of_second first second) second (link second row field) d) (definition-fits joined (ρ' (link second row field)) (definition-held h' (link second row field) leads.inside ∙ d)))
      (λ d. rw (front-behind (of_second first second) second (link second row field) d ∙ behind-second first second s z p q) (block-fits joined (ρ 0) (block-of-first first second s z p q)))

  -- the first item of a block of before
  item-fits : 0 < link joined (ρ 0) 1 → fits joined optional_item (link joined (ρ 0) 1) ≡ true
  item-fits c =
      let to = items-of-first first second s z p q in
      let some = moved_back ρ (first_item first) (rw to at c) in
      rw (to ∙ moved-some ρ (first_item first) some, fits-held s p h optional_item (first_item first) some (first-undefined (ordered s p)) (first_inside (ordered s p) some)) (first_fits s p some)

  item-fits' : 0 < link joined (ρ' 0) 1 → fits joined optional_item (link joined (ρ' 0) 1) ≡ true
  item-fits' c =
      let to = items-of-second first second s z p q in
      let some = moved_back ρ' (first_item second) (rw to at c) in
      rw (to ∙ moved-some ρ' (first_item second) some, fits-held z q h' optional_item (first_item second) some (first-undefined (ordered z q)) (first_inside (ordered z q) some)) (first_fits z q some)

  seam-fits : (r field : ℕ) → r < row_count first → Seam first r field → 0 < link joined (ρ r) field → fits joined optional_item (link joined (ρ r) field) ≡ true
  seam-fits r field n (first-of-root a b) c = let there : 0 < link joined (ρ 0) 1 = (rw (a, b) at c) in rw (a, b) (item-fits there)
  seam-fits r field n (next-of-root a b) c = rw (a, b, block-seam first second s z p q) (block-fits joined (ρ' 0) (block-of-second first second s z p q))
  seam-fits r field n (next-of-definition d b) c = rw (b, next-of-first first second s z p q r n d) (front_fits r 5 n (omega arith))

  seam-fits' : (r field : ℕ) → r < row_count second → Seam second r field → 0 < link joined (ρ' r) field → fits joined optional_item (link joined (ρ' r) field) ≡ true
  seam-fits' r field n (first-of-root a b) c = let there : 0 < link joined (ρ' 0) 1 = (rw (a, b) at c) in rw (a, b) (item-fits' there)
  seam-fits' r field n (next-of-root a b) c = absurd (let there : 0 < link joined (ρ' 0) 5 = (rw (a, b) at c) in let none = no-seam first second s z p q in omega arith)
  seam-fits' r field n (next-of-definition d b) c = rw (b, next-of-second first second s z p q r n d) (front-fits' r 5 n (omega arith))

  -- what is asked of a field by the role of its row, in a tree of rows
  module _ (t : Tree joined) where
    joined-fitting : EachField joined (λ row field. 0 < link joined row field → fits joined (role_sort joined row field) (link joined row field) ≡ true)
    joined-fitting =
        each-field (λ row field. 0 < link joined row field → fits joined (role_sort joined row field) (link joined row field) ≡ true)
        (λ c. rw (item-role joined 0 1 first-of-outer plain-outer, outer-first first second s z p q) (front_fits 0 1 (some_first first second s z p q) (omega arith)))
        (λ field e n c. absurd (nowhere 0 field n c))
        (λ e n c. absurd (nowhere 0 5 n c))
        (λ r field n seam c. rw (item-role joined (ρ r) field (item-first r field n seam) (plain-first r field n seam)) (seam-fits r field n seam c))
        (λ r field n seam c. rw (item-role joined (ρ' r) field (item-second r field n seam) (plain_second r field n seam)) (seam-fits' r field n seam c))
        (λ r field n least most own. fitting-held s p h t r field n least most own)
        (λ r field n least most own. fitting-held z q h' t r field n least most own)

    joined-present : EachField joined (λ row field. is_required (role_sort joined row field) ≡ true → 0 < link joined row field)
    joined-present =
        each-field (λ row field. is_required (role_sort joined row field) ≡ true → 0 < link joined row field)
        (item-optional joined 0 1 first-of-outer plain-outer)
        (λ field e n. unused-optional joined 0 field e plain-outer)
        (λ e n. item-optional joined 0 5 e plain-outer)
        (λ r field n seam. item-optional joined (ρ r) field (item-first r field n seam) (plain-first r field n seam))
        (λ r field n seam. item-optional joined (ρ' r) field (item-second r field n seam) (plain_second r field n seam))
        (λ r field n least most own. present-held s p h r field n least most own t)
        (λ r field n least most own. present-held z q h' r field n least most own t)

  joined-unused : EachField joined (λ row field. sort_at joined row field ≡ unused → number_at joined row field ≡ 0)
  joined-unused =
      each-field (λ row field. sort_at joined row field ≡ unused → number_at joined row field ≡ 0)
      (item-used joined 0 1 first-of-outer)
      (λ field e n _. n)
      (λ e n _. n)
      (λ r field n seam. item-used joined (ρ r) field (item-first r field n seam))
      (λ r field n seam. item-used joined (ρ' r) field (item-second r field n seam))
      (λ r field n least most own. unused-held s p h r field n least most own)
      (λ r field n least most own. unused-held z q h' r field n least most own)

  joined-named : EachField joined (λ row field. number_fits bounds (sort_at joined row field) (number_at joined row field) ≡ true)
  joined-named =
      each-field (λ row field. number_fits bounds (sort_at joined row field) (number_at joined row field) ≡ true)
      (item-named joined 0 1 first-of-outer bounds)
      (λ field e n. unused-named joined 0 field e bounds)
      (λ e n. item-named joined 0 5 e bounds)
      (λ r field n seam. item-named joined (ρ r) field (item-first r field n seam) bounds)
      (λ r field n seam. item-named joined (ρ' r) field (item-second r field n seam) bounds)
      (λ r field n least most own. named-held s p h r field n least most own)
      (λ r field n least most own. named-held z q h' r field n least most own)

  joined-tree : row_count joined ≤ 2048 → Tree joined
  joined-tree few =
      record {
        whole = sym (whole-joined first second (whole_first first second s z p q) (whole_second first second s z p q));
        few = omega arith;
        some_rows = (let many = count first second s z p q in omega arith);
        once = λ row c n. joined_once first second s z p q row n c;
        forward = forward;
      }
    where
      forward : (row field : ℕ) → row < row_count joined → field < 6 → 0 < link joined row field → Leads joined row field
      forward row zero n f c = absurd (let none = kind-links-none joined row in omega arith)
      forward row (suc field) n f c = joined-forward row n (suc field) (omega arith) f c

  -- Causes 2 to 6.
  pub joined-structured : row_count joined ≤ 2048 → Structured Source bounds joined
  joined-structured few =
      let l = length-joined first second (whole_first first second s z p q) (whole_second first second s z p q) in
      let one = whole_first first second s z p q in
      let two = whole_second first second s z p q in
      record {
        count-fits = facts-count_fits Source (length joined) (record { least = omega arith; most = omega arith; multiple = omega arith; whole = omega arith });
        known = every-row first second s z p q (λ row. in_language Source (number_at joined row 0) ≡ true) (block-known joined 0 (outer-block first second s z p q)) (known-held s p h) (known-held z q h');
        unused_zero = joined-unused;
        present = joined-present (joined-tree few);
        forward = joined-forward;
        fitting = joined-fitting (joined-tree few);
        block = outer-block first second s z p q;
        lone = outer-rest first second s z p q 5 (omega arith) (omega arith);
        once = λ row c n. joined_once first second s z p q row n c;
        named = joined-named;
      }
