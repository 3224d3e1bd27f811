-- Lists: the lists of a legal kernel program have kernel form, and so has the program: definitions, each with the items of its block, and then
-- items without definitions. Lists are taken from the last rows on: each statement's lists begin at later rows.
use Rattle.std.specs.Prelude.{◌≡◌, Bool, true, List, eqb, ℤ}
use Rattle.std.proofs.Math.Path.{subst, refl}
use Rattle.std.proofs.Common.{sym, ap, ◌∙◌, true≢false, arith}
use Rattle.std.proofs.Math.Bool.{false}
use Rattle.std.proofs.Math.Logic.{⊎_elim}
use Prim.Native.Nat.{ℕ, zero, suc, ◌+◌, ◌≤◌, ◌<◌}
use Rattle.std.proofs.Math.Decide.{ℕ_discrete}
use borrow.Author.Tests.{eqb-true}
use Rattle.words.specs.Table.{row_count, number_at, Whole}
use Rattle.words.specs.Kinds.{kinds, kind_in, kind_of, kind_at, optional_item, body_block, in_language, is_link, is_required, sort_in, kind_row, expression_fields, statement_fields, mark_fields, definition_fields, member_fields, stands_in}
use Rattle.words.specs.Laws.{both, by_cases}
use Rattle.words.specs.Links.{is_statement, is_block, link, fits}
use Rattle.words.specs.declared.Form.TheVariants.{Kernel}
use Rattle.words.specs.declared.Kind.{Kind}
use Rattle.words.specs.declared.Kind.TheVariants.{OfStatement, Definition}
use Rattle.words.specs.declared.StatementKind.TheVariants.{Block}
use Rattle.language.specs.Trees.{Items, none, ◌then◌, ◌⧺◌}
use Rattle.language.specs.Decode.{list_at, statement_at}
use Rattle.language.specs.DecodeLaws.{at_item, at_label}
use Rattle.language.specs.Program.{contents}
use Rattle.check_fields.specs.Fields.{bounds_of}
use Rattle.check_fields.specs.declared.Bounds.{Bounds}
use Rattle.words_roles.specs.Roles.{is_parameter}
use Rattle.check_structure.specs.NoteLaws.{above_zero}
use Rattle.check_structure.specs.Structured.{Leads, Structured, Tree}
use Rattle.check_structure.specs.Lists.{Step, once, on, before-step}
use Rattle.check_structure.specs.StructuredLaws.{structured-tree}
use Rattle.translation.specs.KernelForm.{KernelStatement, KernelItems, kernel-none, kernel-then, kernel-label, KernelProgram, kernel_main, kernel_define}
use Rattle.check_function_causes.specs.Functions.{is_definition}
use Rattle.check_function_causes.proofs.FrontLaws.{block-undefined}
use Rattle.check_kernel.specs.Accepts.{structured-lone, structured-labels}
use Rattle.check_labels.specs.Ahead.{Owner, part, beside, behind, outward}
use Rattle.check_kernel.specs.Legal.{Legal}
use Rattle.check_labels.proofs.ListLaws.{owner-earlier}
use Rattle.accepted_calls.specs.Kinds.{kind-definition}
use Rattle.accepted_calls.specs.Owners.{part-other, next-other}
use Rattle.accepted.specs.Sorts.{statement_number, number_is, statement-kind, in-language}
use Rattle.accepted.proofs.Fields.{linked, may-link, item-link}
use Rattle.accepted.proofs.Expressions.{whole-rows}
use Rattle.accepted.proofs.Definitions.{defines}
use Rattle.accepted.proofs.Statements.{list-some, program-contents}
use Rattle.accepted_kernel.specs.Labels.{Covers, covers-item, covers-body}
use Rattle.accepted_kernel.specs.Definitions.{in_function, root-outside, part-alike, next-alike, definition-part}
use Rattle.accepted_kernel.specs.Forms.{first-item, Lists, statement-form}

module _ (header rows : List ℤ) (legal : Legal header rows) where
  abbrev bounds : Bounds
  bounds = bounds_of Kernel header

  abbrev s : Structured Kernel bounds rows
  s = legal.structured

  whole : Whole rows
  whole = whole-rows Kernel bounds rows s

  tree : Tree rows
  tree = structured-tree Kernel bounds rows s

  root : is_definition rows 0 ≡ false
  root = block-undefined rows 0 s.block

  -- An item of the list of an owner, and in the same function; no parameter.
  record ItemOf (owner row : ℕ) : Type 0 where
    inside : row < row_count rows
    statement : is_statement rows row ≡ true
    owned : Owner rows owner row
    alike : in_function rows row ≡ in_function rows owner
    no-parameter : is_parameter rows row ≡ false

  first_of : (row : ℕ) → row < row_count rows → kind_at rows row ≡ OfStatement Block → is_definition rows row ≡ false → 0 < link rows row 1 → ItemOf row (link rows row 1)
  unfolding fits
  first_of row n k d p =
      let first = first-item header rows legal row n k in
      record { inside = (first.leads p).inside; statement = first.fit p; owned = part {field = 1} (omega arith) (first.leads p); alike = part-alike rows tree row 1 (omega arith) d (first.leads p); no-parameter = first.other p }

  next-of : (owner row : ℕ) → ItemOf owner row → 0 < link rows row 5 → ItemOf owner (link rows row 5)
  unfolding fits
  next-of owner row b p =
      let next = item-link Kernel bounds rows s row b.inside b.no-parameter b.statement in
      record { inside = (next.leads p).inside; statement = next.fit p; owned = beside b.owned (next.leads p); alike = next-alike rows tree row (next.leads p) ∙ b.alike; no-parameter = next.other p }

  -- ---- lists without definitions

  record Begins (owner row : ℕ) : Type 0 where
    item : ItemOf owner row
    undefined : is_definition rows row ≡ false

  begins-in : (row : ℕ) → row < row_count rows → kind_at rows row ≡ OfStatement Block → is_definition rows row ≡ false → (row ≡ 0 → ⊥) → 0 < link rows row 1 → Begins row (link rows row 1)
  begins-in row n k d other p =
      record { item = first_of row n k d p; undefined = part-other rows tree root legal.well_called.in_order row 1 (omega arith) (λ q. other q.0) ((first-item header rows legal row n k).leads p) }

  begins-next : (owner row : ℕ) → Begins owner row → 0 < link rows row 5 → Begins owner (link rows row 5)
  begins-next owner row b p =
      let i = b.item in
      record { item = next-of owner row i p; undefined = next-other rows tree root legal.well_called.in_order row i.inside b.undefined }

  -- no case and no default
  not-in-kernel : (row : ℕ) {kind : Kind} → row < row_count rows → kind_at rows row ≡ kind → stands_in (kind_row kind).forms Kernel ≡ false → ⊥
  not-in-kernel row n k f = true≢false (sym (in-language Kernel rows row (s.known row n) k) ∙ f)

  block-other : (row : ℕ) → kind_at rows row ≡ OfStatement Block → is_definition rows row ≡ false
  unfolding sort_in kind_row statement_fields statement_number
  block-other row k = block-undefined rows row (number_is rows row k refl)

  list-step : (row : ℕ) (ahead : Items) (owner : ℕ) → Begins owner row → 0 < row → Covers bounds rows s ahead owner → Lists header rows legal row
      → KernelItems (in_function rows owner) ahead (list_at rows (link rows row 5)) → KernelItems (in_function rows owner) ahead (list_at rows row)
  unfolding in_language is_statement sort_in kind_row expression_fields statement_fields mark_fields definition_fields member_fields statement_number
  list-step row ahead owner b p covers lists rest =
      let i = b.item in
      let next = item-link Kernel bounds rows s row i.inside i.no-parameter i.statement in
      let own = subst (λ m. KernelStatement m (list_at rows (link rows row 5) ⧺ ahead) (statement_at rows row)) i.alike
      (statement-form header rows legal row i.inside lists (list_at rows (link rows row 5) ⧺ ahead) (covers-item bounds rows s ahead owner row (record { statement = i.statement; other = i.no-parameter }) i.owned covers) i.statement b.undefined i.no-parameter) in
      ⊎_elim (λ t. rw (list-some rows row p ∙ at_item rows whole row t next.later, ← next.same) (kernel-then own rest))
      (⊎_elim (λ k. absurd (not-in-kernel row i.inside k refl))
      (⊎_elim (λ k. absurd (not-in-kernel row i.inside k refl))
      (⊎_elim (λ k. rw (list-some rows row p ∙ at_label rows whole row k next.later, ← next.same)
      (kernel-label (structured-labels bounds rows s row i.inside (rw (number_is rows row k refl))) rest))
      (λ k. absurd (true≢false (sym (kind-definition rows row k) ∙ b.undefined))))))
      (statement-kind rows row (eqb-true _ _ i.statement))

  no-list : (mayReturn : Bool) (row : ℕ) (ahead : Items) → row ≡ 0 → KernelItems mayReturn ahead (list_at rows row)
  no-list mayReturn row ahead z = rw z kernel-none

  -- `links` bounds the rows from the list's first on
  list-form : (links row : ℕ) (ahead : Items) (owner : ℕ) → (0 < row → row_count rows ≤ row + links) → (0 < row → Begins owner row) → Covers bounds rows s ahead owner → KernelItems (in_function rows owner) ahead (list_at rows row)
  list-form zero row ahead owner h begins covers = go (ℕ_discrete row 0)
    where
      go : Dec (row ≡ 0) → KernelItems (in_function rows owner) ahead (list_at rows row)
      go (yes z) = no-list (in_function rows owner) row ahead z
      go (no z) = absurd (let p = above_zero row z in let n = (begins p).item.inside in let e = h p in omega arith)
  list-form (suc links) row ahead owner h begins covers = go (ℕ_discrete row 0) (λ r more o. list-form links r more o)
    where
      go : Dec (row ≡ 0) → ((r : ℕ) (more : Items) (o : ℕ) → (0 < r → row_count rows ≤ r + links) → (0 < r → Begins o r) → Covers bounds rows s more o → KernelItems (in_function rows o) more (list_at rows r))
          → KernelItems (in_function rows owner) ahead (list_at rows row)
      go (yes z) rec = no-list (in_function rows owner) row ahead z
      go (no z) rec =
          let p = above_zero row z in
          let b = begins p in
          let enough = h p in
          list-step row ahead owner b p covers
          (λ other more l m k c. rec (link rows other 1) more other (λ q. let later = ((first-item header rows legal other m k).leads q).later in omega arith) (begins-in other m k (block-other other k) (λ y. omega arith)) c)
          (rec (link rows row 5) ahead owner (λ q. let later = ((item-link Kernel bounds rows s row b.item.inside b.item.no-parameter b.item.statement).leads q).later in omega arith) (begins-next owner row b) covers)

  -- ---- the program

  -- Ahead of row 0 there is nothing.
  root-covers : Covers bounds rows s none 0
  root-covers number (behind b l) = absurd (let lone = structured-lone bounds rows s in let later = next-there (before-step b) in omega arith)
    where
      next-there : {item : ℕ} → Step rows 0 item → 0 < link rows 0 5
      next-there (once leads) = leads.later
      next-there (on leads b) = leads.later
  root-covers number (outward o d a) = absurd (let e = owner-earlier rows tree o in omega arith)

  -- From the first item on that is no definition.
  main-form : (row : ℕ) → ItemOf 0 row → is_definition rows row ≡ false → KernelProgram (list_at rows row)
  main-form row i d =
      kernel_main
      (subst (λ m. KernelItems m none (list_at rows row)) (root-outside rows)
      (list-form (row_count rows) row none 0 (λ p. omega arith) (λ p. record { item = i; undefined = d }) root-covers))

  -- The items of a definition's block.
  body-form : (row : ℕ) → row < row_count rows → 0 < row → kind_at rows row ≡ Definition → KernelItems true none (list_at rows (link rows (link rows row 3) 1))
  unfolding is_required fits is_block is_link sort_in kind_row statement_fields definition_fields
  body-form row n p k =
      let own = defines Kernel bounds rows s row n k in
      let body = link rows row 3 in
      let fit = (linked Kernel bounds rows s row n k body_block 3 refl refl).fit in
      let next = may-link Kernel bounds rows s body own.leads.inside own.body-kind optional_item 5 refl refl in
      let lone : link rows body 5 ≡ 0 = next.same ∙ eqb-true (number_at rows body 5) 0 (both (eqb (number_at rows body 0) 42) _ fit).1 in
      let d = kind-definition rows row k in
      let later = own.leads.later in
      subst (λ m. KernelItems m none (list_at rows (link rows body 1))) (definition-part rows tree row 3 (omega arith) d (λ q. omega arith) own.leads)
      (list-form (row_count rows) (link rows body 1) none body (λ q. omega arith) (begins-in body own.leads.inside own.body-kind (block-other body own.body-kind) (λ q. omega arith))
      (covers-body bounds rows s row body (part {field = 3} (omega arith) own.leads) d lone))

  definition-form : (row : ℕ) → ItemOf 0 row → 0 < row → kind_at rows row ≡ Definition → KernelProgram (list_at rows (link rows row 5)) → KernelProgram (list_at rows row)
  definition-form row i p k rest = rw (list-some rows row p ∙ (defines Kernel bounds rows s row i.inside k).items-is) (kernel_define (body-form row i.inside p k) rest)

  program-form : (links row : ℕ) → (0 < row → row_count rows ≤ row + links) → (0 < row → ItemOf 0 row) → KernelProgram (list_at rows row)
  unfolding is_definition kind_at kind_of kind_in kinds
  program-form zero row h items = go (ℕ_discrete row 0)
    where
      go : Dec (row ≡ 0) → KernelProgram (list_at rows row)
      go (yes z) = kernel_main (no-list false row none z)
      go (no z) = absurd (let p = above_zero row z in let n = (items p).inside in let e = h p in omega arith)
  program-form (suc links) row h items = go (ℕ_discrete row 0) (λ r. program-form links r)
    where
      go : Dec (row ≡ 0) → ((r : ℕ) → (0 < r → row_count rows ≤ r + links) → (0 < r → ItemOf 0 r) → KernelProgram (list_at rows r)) → KernelProgram (list_at rows row)
      go (yes z) rec = kernel_main (no-list false row none z)
      go (no z) rec =
          let p = above_zero row z in
          let i = items p in
          let enough = h p in
          by_cases (is_definition rows row)
          (λ d. definition-form row i p (ap kind_of (eqb-true (number_at rows row 0) 59 d))
          (rec (link rows row 5) (λ q. let later = ((item-link Kernel bounds rows s row i.inside i.no-parameter i.statement).leads q).later in omega arith) (next-of 0 row i)))
          (λ d. main-form row i d)

  first-in : 0 < link rows 0 1 → ItemOf 0 (link rows 0 1)
  unfolding kind_at kind_of kind_in kinds
  first-in = first_of 0 tree.some_rows (rw s.block) root

  pub contents-form : KernelProgram (contents rows)
  contents-form = rw (program-contents Kernel bounds rows s) (program-form (row_count rows) (link rows 0 1) (λ p. omega arith) first-in)
