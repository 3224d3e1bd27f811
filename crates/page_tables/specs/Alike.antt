-- Alike rows: in two structured tables with the same tree, rows that the same links lead to have the same kind, and the same numbers
-- where they do not link.
use Rattle.std.proofs.Math.Path.{◌≡◌, refl, sym, ap}
use Rattle.std.proofs.Common.{◌∙◌, inl, arith}
use Rattle.std.specs.Prelude.{Bool, true, not, ◌&&◌, ◌||◌, List, ◌⊎◌, ℕ, zero, suc, ◌≤◌, ◌<◌, eqb, ℤ}
use Rattle.std.proofs.Math.Bool.{false, true≢false}
use Rattle.std.proofs.Math.Logic.{inr, ⊎_elim}
use borrow.Author.Tests.{eqb-true}
use Rattle.words.specs.Word.{natural}
use Rattle.words.specs.Table.{row_count, word_at, number_at, Whole}
use Rattle.words.specs.Kinds.{kinds, kind_in, kind_of, kind_at, unused, expression, optional_expression, place, branch, optional_branch, optional_item, body_block, is_link, is_required, is_statement_kind, sort_at, sort_in, kind_row, expression_fields, statement_fields, mark_fields, definition_fields, member_fields}
use Rattle.words.specs.Laws.{both, either, by_cases}
use Rattle.words.specs.Links.{is_expression, is_statement, is_block as is_block_row, link, fits}
use Rattle.words.specs.declared.Form.TheVariants.{Kernel}
use Rattle.words.specs.declared.Kind.{Kind}
use Rattle.words.specs.declared.Kind.TheVariants.{OfExpression, OfStatement, OfMark, Definition}
use Rattle.words.specs.declared.ExpressionKind.TheVariants.{Constant, Variable, Element, Minus, Binary, Assign, Call}
use Rattle.words.specs.declared.StatementKind.TheVariants.{Empty, Express, Block, If, While, Goto, Abort, Return, Declare}
use Rattle.words.specs.declared.MarkKind.TheVariants.{Label}
use Rattle.words_roles.specs.Roles.{is_parameter}
use Rattle.language.specs.Trees.{Expression, read, minus, binary, assign, element, label, Statement, express, block, if_else, while, give_back, none, ◌then◌, ◌here◌}
use Rattle.language.specs.Decode.{place_of, expression_at, argument_list_at, statement_at, items_at, list_at, part_at, parameter_list_at}
use Rattle.language.specs.DecodeLaws.{at_constant, at-variable, at-element, at-minus, at-binary, at-assign, at-no-statement, at-express, at_block, at-if_then, at-if_else, at-while, at-goto, at_return, at_item, at_label, part-some}
use Rattle.check_structure.specs.NoteLaws.{above_zero}
use Rattle.check_fields.specs.declared.Bounds.{Bounds}
use Rattle.check_structure.specs.Structured.{Leads, Structured}
use Rattle.check_structure.specs.StructuredLaws.{structured-tree}
use Rattle.accepted_calls.specs.CallsAlong.{link-same}
use Rattle.check_kernel_statements.specs.Statements.{is_atom, is_block, is_kernel_if, is_kernel_while, is_kernel_expression, is_kernel_return, is_kernel_parameter, is_of_function, is_kernel_statement}
use Rattle.accepted.specs.Sorts.{sort-is, block-statement, statement_number, number_is}
use Rattle.accepted.proofs.Fields.{holds, no_link, MayLink, linked, may-link, link-none}
use Rattle.accepted.proofs.Expressions.{ExpressionRow, constant-row, variable-row, element-row, minus-row, not-row, binary-row, and-row, or-row, comma-row, conditional-row, assign-row, compound-row, prefix-row, postfix-row, call-row, ArgumentsRow, no_arguments, argument-row, whole-rows, read-place, expression-row, place-expression}
use Rattle.accepted.proofs.Statements.{StatementRow, empty-row, express-row, block-row, if_then-row, if_else-row, while-row, do_while-row, for-row, switch-row, case_row, default_row, break-row, continue-row, goto-row, label-row, guarded_if-row, guarded_do-row, abort-row, declare-row, return-row, definition-row, ParametersRow, no-parameters, parameter-row, statement-held}
use Rattle.accepted.proofs.Definitions.{defines}
use Rattle.page_tables.specs.TreeKinds.{expression_kind, expression-kind, statement_kind, kind-of-statement}
use Rattle.page_tables.specs.Items.{IsItem, item-at, not-in-kernel, kernel-kinds, next-item, items-some, call-is, arguments-at, parameters-at}

module _ (bounds : Bounds) (rows other : List ℤ) (s : Structured Kernel bounds rows) (t : Structured Kernel bounds other)
    (formed : (row : ℕ) → row < row_count rows → is_statement rows row ≡ true → is_kernel_statement rows row ≡ true) where
  whole : Whole rows
  whole = whole-rows Kernel bounds rows s

  whole-other : Whole other
  whole-other = whole-rows Kernel bounds other t

  -- Two rows with the same tree.
  pub data Alike : ℕ → ℕ → Type 0 where
    expressions : {row that : ℕ} → is_expression rows row ≡ true → is_expression other that ≡ true → expression_at rows row ≡ expression_at other that → Alike row that
    items : {row that : ℕ} → IsItem rows row → IsItem other that → items_at rows row ≡ items_at other that → Alike row that
    passed : {row that : ℕ} → 0 < row → 0 < that → ArgumentsRow rows row → ArgumentsRow other that → argument_list_at rows row ≡ argument_list_at other that → Alike row that
    taken : {row that : ℕ} → 0 < row → 0 < that → ParametersRow rows row → ParametersRow other that → parameter_list_at rows row ≡ parameter_list_at other that → Alike row that

  -- What two links lead to.
  abbrev pub Child : ℕ → ℕ → Type 0
  Child one two = ((one ≡ 0) × (two ≡ 0)) ⊎ ((0 < one) × (0 < two) × Alike one two)

  pub record Same (row that : ℕ) : Type 0 where
    pub kind : kind_at other that ≡ kind_at rows row
    pub number : (field : ℕ) → 1 ≤ field → field < 6 → is_link (sort_at rows row field) ≡ false → number_at other that field ≡ number_at rows row field
    pub word : kind_at rows row ≡ OfExpression Constant → word_at other that 1 ≡ word_at rows row 1
    pub child : (field : ℕ) → 1 ≤ field → field < 6 → Child (link rows row field) (link other that field)

  each-field : (P : ℕ → Type 0) → P 1 → P 2 → P 3 → P 4 → P 5 → (field : ℕ) → 1 ≤ field → field < 6 → P field
  each-field P a b c d e zero l m = absurd (omega arith)
  each-field P a b c d e (suc zero) l m = a
  each-field P a b c d e (suc (suc zero)) l m = b
  each-field P a b c d e (suc (suc (suc zero))) l m = c
  each-field P a b c d e (suc (suc (suc (suc zero)))) l m = d
  each-field P a b c d e (suc (suc (suc (suc (suc zero))))) l m = e
  each-field P a b c d e (suc (suc (suc (suc (suc (suc n)))))) l m = absurd (omega arith)

  -- ---- lists and branches

  list-child : (one two : ℕ) → (0 < one → (one < row_count rows) × IsItem rows one) → (0 < two → (two < row_count other) × IsItem other two)
      → list_at rows one ≡ list_at other two → Child one two
  list-child zero zero f g e = inl (refl, refl)
  list-child zero (suc two) f g e = absurd (items-some bounds other t (suc two) (g (omega arith)).0 (g (omega arith)).1 (sym e))
  list-child (suc one) zero f g e = absurd (items-some bounds rows s (suc one) (f (omega arith)).0 (f (omega arith)).1 e)
  list-child (suc one) (suc two) f g e = inr (omega arith, omega arith, items (f (omega arith)).1 (g (omega arith)).1 e)

  -- ---- arguments, parameters, and what is returned

  passed-child : (one two : ℕ) → ArgumentsRow rows one → ArgumentsRow other two → argument_list_at rows one ≡ argument_list_at other two → Child one two
  passed-child one two (no_arguments z e) (no_arguments y f) q = inl (z, y)
  passed-child one two (no_arguments z e) (argument-row p k l f x r) q = absurd (let z : ◌≡◌ {A = ℕ} 0 1 = cc in omega arith)
  passed-child one two (argument-row p k l e x r) (no_arguments y f) q = absurd (let z : ◌≡◌ {A = ℕ} 0 1 = cc in omega arith)
  passed-child one two (argument-row p k l e x r) (argument-row p' k' l' e' x' r') q = inr (p, p', passed p p' (argument-row p k l e x r) (argument-row p' k' l' e' x' r') q)

  taken-child : (one two : ℕ) → ParametersRow rows one → ParametersRow other two → parameter_list_at rows one ≡ parameter_list_at other two → Child one two
  taken-child one two (no-parameters z e) (no-parameters y f) q = inl (z, y)
  taken-child one two (no-parameters z e) (parameter-row p k l f r) q = absurd (let z : ◌≡◌ {A = ℕ} 0 1 = cc in omega arith)
  taken-child one two (parameter-row p k l e r) (no-parameters y f) q = absurd (let z : ◌≡◌ {A = ℕ} 0 1 = cc in omega arith)
  taken-child one two (parameter-row p k l e r) (parameter-row p' k' l' e' r') q = inr (p, p', taken p p' (parameter-row p k l e r) (parameter-row p' k' l' e' r') q)

  part-child : (one two : ℕ) → (0 < one → is_expression rows one ≡ true) → (0 < two → is_expression other two ≡ true) → part_at rows one ≡ part_at other two → Child one two
  part-child zero zero f g e = inl (refl, refl)
  part-child zero (suc two) f g e = absurd (let q = part-some other (suc two) (omega arith) in let z : ◌≡◌ {A = ℕ} 0 1 = cc in omega arith)
  part-child (suc one) zero f g e = absurd (let q = part-some rows (suc one) (omega arith) in let z : ◌≡◌ {A = ℕ} 0 1 = cc in omega arith)
  part-child (suc one) (suc two) f g e =
      let p = part-some rows (suc one) (omega arith) in
      let q = part-some other (suc two) (omega arith) in
      let same : expression_at rows (suc one) ≡ expression_at other (suc two) = cc in
      inr (omega arith, omega arith, expressions (f (omega arith)) (g (omega arith)) same)

  first-items : (row : ℕ) → row < row_count rows → kind_at rows row ≡ OfStatement Block → statement_at rows row ≡ block (list_at rows (link rows row 1))
  unfolding is_link sort_in kind_row expression_fields statement_fields mark_fields member_fields
  first-items row n k = let a = may-link Kernel bounds rows s row n k optional_item 1 refl refl in rw a.same (at_block rows whole row k a.later)

  pub branch-items : (one two : ℕ) → one < row_count rows → two < row_count other → IsItem rows one → IsItem other two → kind_at rows one ≡ OfStatement Block
      → number_at rows one 5 ≡ 0 → number_at other two 5 ≡ 0 → statement_at rows one ≡ statement_at other two → items_at rows one ≡ items_at other two
  branch-items one two n m f g k y z e =
      let a = next-item bounds rows s one n f in
      let b = next-item bounds other t two m g in
      let is = first-items one n k in
      by_cases (is_statement_kind (kind_at other two))
      (λ h. at_item rows whole one (ap is_statement_kind k) a.later ∙ ap (λ l. statement_at rows one then list_at rows l) y ∙ ap (λ (x : Statement). x then none) e
      ∙ sym (at_item other whole-other two h b.later ∙ ap (λ l. statement_at other two then list_at other l) z))
      (λ h. absurd (let q = at-no-statement other whole-other two h in let z : ◌≡◌ {A = ℕ} 0 1 = cc in omega arith))

  module _ (row that : ℕ) (n : row < row_count rows) (m : that < row_count other) where
    -- ---- fields of rows of one kind

    module _ {kind : Kind} (k : kind_at rows row ≡ kind) (j : kind_at other that ≡ kind) where
      sort-here : (field : ℕ) → sort_at rows row field ≡ sort_in kind field
      sort-here field = sort-is rows row field ∙ ap (λ kind. sort_in kind field) k

      sort-there : (field : ℕ) → sort_at other that field ≡ sort_in kind field
      sort-there field = sort-is other that field ∙ ap (λ kind. sort_in kind field) j

      abbrev link_or_unused : ℕ → Bool
      link_or_unused field = is_link (sort_in kind field) || eqb (sort_in kind field) unused

      -- a field without a number of its own
      plain : (field : ℕ) → link_or_unused field ≡ true → 1 ≤ field → field < 6 → is_link (sort_at rows row field) ≡ false → number_at other that field ≡ number_at rows row field
      plain field h l u f =
          ⊎_elim (λ g. absurd (true≢false (sym g ∙ sym (ap is_link (sort-here field)) ∙ f)))
          (λ g. let z = eqb-true (sort_in kind field) unused g in t.unused_zero that m field l u (sort-there field ∙ z) ∙ sym (s.unused_zero row n field l u (sort-here field ∙ z)))
          (either (is_link (sort_in kind field)) (eqb (sort_in kind field) unused) h)

      no-link : (field : ℕ) → holds no_link kind field ≡ true → Child (link rows row field) (link other that field)
      no-link field h = inl (link-none Kernel bounds rows s row n k field h, link-none Kernel bounds other t that m j field h)

      operand : (field : ℕ) → holds (eqb expression) kind field ≡ true → expression_at rows (link rows row field) ≡ expression_at other (link other that field)
          → Child (link rows row field) (link other that field)
      unfolding is_required fits
      operand field h e =
          let a = linked Kernel bounds rows s row n k expression field refl h in
          let b = linked Kernel bounds other t that m j expression field refl h in
          inr (a.some, b.some, expressions a.fit b.fit e)

      placed : (field : ℕ) → holds (eqb place) kind field ≡ true → expression_at rows (link rows row field) ≡ expression_at other (link other that field)
          → Child (link rows row field) (link other that field)
      unfolding is_required fits
      placed field h e =
          let a = linked Kernel bounds rows s row n k place field refl h in
          let b = linked Kernel bounds other t that m j place field refl h in
          inr (a.some, b.some, expressions (place-expression Kernel bounds rows s (link rows row field) a.fit) (place-expression Kernel bounds other t (link other that field) b.fit) e)

      -- rows of one kind, of which the fields behind a link or are unused
      fields : link_or_unused 2 ≡ true → link_or_unused 3 ≡ true → link_or_unused 4 ≡ true → link_or_unused 5 ≡ true
          → (is_link (sort_at rows row 1) ≡ false → number_at other that 1 ≡ number_at rows row 1) → (kind_at rows row ≡ OfExpression Constant → word_at other that 1 ≡ word_at rows row 1)
          → Child (link rows row 1) (link other that 1) → Child (link rows row 2) (link other that 2) → Child (link rows row 3) (link other that 3)
          → Child (link rows row 4) (link other that 4) → Child (link rows row 5) (link other that 5) → Same row that
      fields f g h i number word a b c d e = record {
        kind = j ∙ sym k;
        number = each-field (λ field. is_link (sort_at rows row field) ≡ false → number_at other that field ≡ number_at rows row field)
            number (plain 2 f (omega arith) (omega arith)) (plain 3 g (omega arith) (omega arith)) (plain 4 h (omega arith) (omega arith)) (plain 5 i (omega arith) (omega arith));
        word = word;
        child = each-field (λ field. Child (link rows row field) (link other that field)) a b c d e;
      }

    -- ---- expressions

    abbrev own : ℕ → Expression
    own field = expression_at rows (link rows row field)

    abbrev its : ℕ → Expression
    its field = expression_at other (link other that field)

    expression-same : ExpressionRow rows row → kind_at other that ≡ kind_at rows row → expression_at rows row ≡ expression_at other that → Same row that
    unfolding is_required is_link sort_in kind_row expression_fields statement_fields mark_fields member_fields number_at fits
    expression-same (constant-row k e) j q =
        let i : kind_at other that ≡ OfExpression Constant = j ∙ k in
        let f = at_constant other whole-other that i in
        let w : word_at other that 1 ≡ word_at rows row 1 = cc in
        fields k i refl refl refl refl (λ g. ap natural w) (λ c. w) (no-link k i 1 refl) (no-link k i 2 refl) (no-link k i 3 refl) (no-link k i 4 refl) (no-link k i 5 refl)
    expression-same (variable-row k e) j q =
        let i : kind_at other that ≡ OfExpression Variable = j ∙ k in
        let f = at-variable other whole-other that i in
        let w : number_at other that 1 ≡ number_at rows row 1 = cc in
        fields k i refl refl refl refl (λ g. w) (λ c. absurd (let z : ◌≡◌ {A = ℕ} 0 1 = cc in omega arith))
        (no-link k i 1 refl) (no-link k i 2 refl) (no-link k i 3 refl) (no-link k i 4 refl) (no-link k i 5 refl)
    expression-same (element-row k p e x) j q =
        let i : kind_at other that ≡ OfExpression Element = j ∙ k in
        let b = linked Kernel bounds other t that m i expression 2 refl refl in
        let f : expression_at other that ≡ read (element (number_at other that 1) (its 2)) = rw b.same (at-element other whole-other that i b.later) in
        let w : number_at other that 1 ≡ number_at rows row 1 = cc in
        let v : own 2 ≡ its 2 = cc in
        fields k i refl refl refl refl (λ g. w) (λ c. absurd (let z : ◌≡◌ {A = ℕ} 0 1 = cc in omega arith))
        (no-link k i 1 refl) (operand k i 2 refl v) (no-link k i 3 refl) (no-link k i 4 refl) (no-link k i 5 refl)
    expression-same (minus-row k p e x) j q =
        let i : kind_at other that ≡ OfExpression Minus = j ∙ k in
        let b = linked Kernel bounds other t that m i expression 1 refl refl in
        let f : expression_at other that ≡ minus (its 1) = rw b.same (at-minus other whole-other that i b.later) in
        let v : own 1 ≡ its 1 = cc in
        fields k i refl refl refl refl (plain k i 1 refl (omega arith) (omega arith)) (λ c. absurd (let z : ◌≡◌ {A = ℕ} 0 1 = cc in omega arith))
        (operand k i 1 refl v) (no-link k i 2 refl) (no-link k i 3 refl) (no-link k i 4 refl) (no-link k i 5 refl)
    expression-same (binary-row {o = o} k p r e x y) j q =
        let i : kind_at other that ≡ OfExpression (Binary o) = j ∙ k in
        let b = linked Kernel bounds other t that m i expression 1 refl refl in
        let d = linked Kernel bounds other t that m i expression 2 refl refl in
        let f : expression_at other that ≡ binary o (its 1) (its 2) = rw (b.same, d.same) (at-binary other whole-other that o i b.later d.later) in
        let v : own 1 ≡ its 1 = cc in
        let w : own 2 ≡ its 2 = cc in
        fields k i refl refl refl refl (plain k i 1 refl (omega arith) (omega arith)) (λ c. absurd (let z : ◌≡◌ {A = ℕ} 0 1 = cc in omega arith))
        (operand k i 1 refl v) (operand k i 2 refl w) (no-link k i 3 refl) (no-link k i 4 refl) (no-link k i 5 refl)
    expression-same (assign-row k p r h e x y) j q =
        let i : kind_at other that ≡ OfExpression Assign = j ∙ k in
        let b = linked Kernel bounds other t that m i place 1 refl refl in
        let d = linked Kernel bounds other t that m i expression 2 refl refl in
        let f : expression_at other that ≡ assign (place_of (its 1)) (its 2) = rw (b.same, d.same) (at-assign other whole-other that i b.later d.later) in
        let g : its 1 ≡ read (place_of (its 1)) = read-place Kernel bounds other t (link other that 1) b.leads.inside b.fit in
        let v : own 1 ≡ its 1 = cc in
        let w : own 2 ≡ its 2 = cc in
        fields k i refl refl refl refl (plain k i 1 refl (omega arith) (omega arith)) (λ c. absurd (let z : ◌≡◌ {A = ℕ} 0 1 = cc in omega arith))
        (placed k i 1 refl v) (operand k i 2 refl w) (no-link k i 3 refl) (no-link k i 4 refl) (no-link k i 5 refl)
    expression-same (not-row k p e x) j q = absurd (not-in-kernel bounds rows s row n k refl)
    expression-same (and-row k p r e x y) j q = absurd (not-in-kernel bounds rows s row n k refl)
    expression-same (or-row k p r e x y) j q = absurd (not-in-kernel bounds rows s row n k refl)
    expression-same (comma-row k p r e x y) j q = absurd (not-in-kernel bounds rows s row n k refl)
    expression-same (conditional-row k p r u e x y z) j q = absurd (not-in-kernel bounds rows s row n k refl)
    expression-same (compound-row k p r i e x y) j q = absurd (not-in-kernel bounds rows s row n k refl)
    expression-same (prefix-row k p i e x) j q = absurd (not-in-kernel bounds rows s row n k refl)
    expression-same (postfix-row k p i e x) j q = absurd (not-in-kernel bounds rows s row n k refl)
    expression-same (call-row k e x) j q =
        let i : kind_at other that ≡ OfExpression Call = j ∙ k in
        let f = call-is bounds other t that m i in
        let w : number_at other that 1 ≡ number_at rows row 1 = cc in
        let v : argument_list_at rows (link rows row 2) ≡ argument_list_at other (link other that 2) = cc in
        fields k i refl refl refl refl (λ g. w) (λ c. absurd (let z : ◌≡◌ {A = ℕ} 0 1 = cc in omega arith))
        (no-link k i 1 refl) (passed-child (link rows row 2) (link other that 2) x (arguments-at bounds other t that m i) v) (no-link k i 3 refl) (no-link k i 4 refl) (no-link k i 5 refl)

    -- ---- arguments and parameters

    passed-same : 0 < row → 0 < that → ArgumentsRow rows row → ArgumentsRow other that → argument_list_at rows row ≡ argument_list_at other that → Same row that
    unfolding is_required is_link sort_in kind_row expression_fields statement_fields mark_fields member_fields fits
    passed-same p p' (no_arguments z e) there q = absurd (omega arith)
    passed-same p p' (argument-row o k l e x r) (no_arguments z f) q = absurd (omega arith)
    passed-same p p' (argument-row o k l e x r) (argument-row o' i l' f x' r') q =
        let v : own 1 ≡ its 1 = cc in
        let w : argument_list_at rows (link rows row 5) ≡ argument_list_at other (link other that 5) = cc in
        fields k i refl refl refl refl (plain k i 1 refl (omega arith) (omega arith)) (λ c. absurd (let z : ◌≡◌ {A = ℕ} 0 1 = cc in omega arith))
        (operand k i 1 refl v) (no-link k i 2 refl) (no-link k i 3 refl) (no-link k i 4 refl) (passed-child (link rows row 5) (link other that 5) r r' w)

    taken-same : 0 < row → 0 < that → ParametersRow rows row → ParametersRow other that → parameter_list_at rows row ≡ parameter_list_at other that → Same row that
    unfolding is_required is_link sort_in kind_row expression_fields statement_fields mark_fields member_fields fits
    taken-same p p' (no-parameters z e) there q = absurd (omega arith)
    taken-same p p' (parameter-row o k l e r) (no-parameters z f) q = absurd (omega arith)
    taken-same p p' (parameter-row o k l e r) (parameter-row o' i l' f r') q =
        let v : number_at other that 1 ≡ number_at rows row 1 = cc in
        let w : parameter_list_at rows (link rows row 5) ≡ parameter_list_at other (link other that 5) = cc in
        fields k i refl refl refl refl (λ g. v) (λ c. absurd (let z : ◌≡◌ {A = ℕ} 0 1 = cc in omega arith))
        (no-link k i 1 refl) (inl (l, l')) (no-link k i 3 refl) (no-link k i 4 refl) (taken-child (link rows row 5) (link other that 5) r r' w)

    -- ---- statements

    branched : (field : ℕ) → Leads rows row field → Leads other that field → is_statement rows (link rows row field) && eqb (number_at rows (link rows row field) 5) 0 ≡ true
        → is_statement other (link other that field) && eqb (number_at other (link other that field) 5) 0 ≡ true → is_parameter rows (link rows row field) ≡ false → is_parameter other (link other that field) ≡ false
        → is_block rows (link rows row field) ≡ true
        → statement_at rows (link rows row field) ≡ statement_at other (link other that field) → Child (link rows row field) (link other that field)
    unfolding is_block kind_at kind_of kind_in kinds
    branched field a b f g apart apart' h e =
        let u = both (is_statement rows (link rows row field)) _ f in
        let v = both (is_statement other (link other that field)) _ g in
        let number = eqb-true (number_at rows (link rows row field) 0) 42 (both (not (eqb (link rows row field) 0)) _ h).1 in
        let k : kind_at rows (link rows row field) ≡ OfStatement Block = rw number in
        let one : IsItem rows (link rows row field) = record { statement = u.0; other_role = apart } in
        let two : IsItem other (link other that field) = record { statement = v.0; other_role = apart' } in
        inr (
          omega (arith, a.later),
          omega (arith, b.later),
          items one two (branch-items (link rows row field) (link other that field) a.inside b.inside one two k (eqb-true _ _ u.1) (eqb-true _ _ v.1) e),
        )

    if-blocks : is_statement rows row ≡ true → kind_at rows row ≡ OfStatement If → (is_block rows (number_at rows row 2) ≡ true) × (is_block rows (number_at rows row 3) ≡ true)
    unfolding is_kernel_statement is_kernel_if is_kernel_while is_kernel_expression is_of_function is_kernel_return is_kernel_parameter statement_number sort_in kind_row expression_fields statement_fields mark_fields member_fields
    if-blocks h k =
        let number : number_at rows row 0 ≡ 43 = number_is rows row k refl in
        ⊎_elim (λ f. let g = both (is_atom rows (number_at rows row 1)) _ f in both (is_block rows (number_at rows row 2)) _ g.1) (λ f. absurd (true≢false (sym f)))
        (either (is_atom rows (number_at rows row 1) && (is_block rows (number_at rows row 2) && is_block rows (number_at rows row 3))) false (rw number at (formed row n h)))

    while-block : is_statement rows row ≡ true → kind_at rows row ≡ OfStatement While → is_block rows (number_at rows row 2) ≡ true
    unfolding is_kernel_statement is_kernel_if is_kernel_while is_kernel_expression is_of_function is_kernel_return is_kernel_parameter statement_number sort_in kind_row expression_fields statement_fields mark_fields member_fields
    while-block h k =
        let number : number_at rows row 0 ≡ 44 = number_is rows row k refl in
        ⊎_elim (λ f. (both (is_atom rows (number_at rows row 1)) _ f).1) (λ f. absurd (true≢false (sym f)))
        (either (is_atom rows (number_at rows row 1) && is_block rows (number_at rows row 2)) false (rw number at (formed row n h)))

    -- a declaration of kernel form is a parameter, without an initial expression
    no-initial : is_statement rows row ≡ true → kind_at rows row ≡ OfStatement Declare → Leads rows row 2 → ⊥
    unfolding is_kernel_statement is_kernel_if is_kernel_while is_kernel_expression is_of_function is_kernel_return is_kernel_parameter statement_number is_link sort_in kind_row expression_fields statement_fields mark_fields member_fields
    no-initial h k p =
        let number : number_at rows row 0 ≡ 58 = number_is rows row k refl in
        let none : number_at rows row 2 ≡ 0 = eqb-true (number_at rows row 2) 0 (rw number at (formed row n h)) in
        omega (arith, p.later, link-same rows (structured-tree Kernel bounds rows s) row n k 2 refl, none)

    abbrev own_branch : ℕ → Statement
    own_branch field = statement_at rows (link rows row field)

    abbrev its_branch : ℕ → Statement
    its_branch field = statement_at other (link other that field)

    -- an if with an else has one in the other table too
    else-there : {e : Expression} {on_true on_false : Statement} → kind_at other that ≡ OfStatement If → statement_at other that ≡ if_else e on_true on_false → 0 < link other that 3
    unfolding is_required is_link sort_in kind_row expression_fields statement_fields mark_fields member_fields
    else-there i f =
        let b = linked Kernel bounds other t that m i expression 1 refl refl in
        let d = linked Kernel bounds other t that m i branch 2 refl refl in
        let g = may-link Kernel bounds other t that m i optional_branch 3 refl refl in
        above_zero (link other that 3) (λ z. let q = at-if_then other whole-other that i b.later d.later (sym g.same ∙ z) in let z : ◌≡◌ {A = ℕ} 0 1 = cc in omega arith)

    -- and none is without one
    no-else : is_statement rows row ≡ true → kind_at rows row ≡ OfStatement If → link rows row 3 ≡ 0 → ⊥
    unfolding is_block is_link sort_in kind_row expression_fields statement_fields mark_fields member_fields
    no-else h k z =
        let c = may-link Kernel bounds rows s row n k optional_branch 3 refl refl in
        let none : number_at rows row 3 ≡ 0 = sym c.same ∙ z in
        true≢false (sym (rw none at (if-blocks h k).1))

    statement-same : StatementRow rows row → is_statement rows row ≡ true → is_statement_kind (kind_at rows row) ≡ true → kind_at other that ≡ kind_at rows row
        → statement_at rows row ≡ statement_at other that → Child (link rows row 5) (link other that 5) → Same row that
    unfolding is_required is_link sort_in kind_row expression_fields statement_fields mark_fields member_fields fits
    statement-same (empty-row k e) h o j q next =
        let i : kind_at other that ≡ OfStatement Empty = j ∙ k in
        fields k i refl refl refl refl (plain k i 1 refl (omega arith) (omega arith)) (λ c. absurd (let z : ◌≡◌ {A = ℕ} 0 1 = cc in omega arith))
        (no-link k i 1 refl) (no-link k i 2 refl) (no-link k i 3 refl) (no-link k i 4 refl) next
    statement-same (abort-row k e) h o j q next =
        let i : kind_at other that ≡ OfStatement Abort = j ∙ k in
        fields k i refl refl refl refl (plain k i 1 refl (omega arith) (omega arith)) (λ c. absurd (let z : ◌≡◌ {A = ℕ} 0 1 = cc in omega arith))
        (no-link k i 1 refl) (no-link k i 2 refl) (no-link k i 3 refl) (no-link k i 4 refl) next
    statement-same (goto-row k e) h o j q next =
        let i : kind_at other that ≡ OfStatement Goto = j ∙ k in
        let f = at-goto other whole-other that i in
        let w : number_at other that 1 ≡ number_at rows row 1 = cc in
        fields k i refl refl refl refl (λ g. w) (λ c. absurd (let z : ◌≡◌ {A = ℕ} 0 1 = cc in omega arith))
        (no-link k i 1 refl) (no-link k i 2 refl) (no-link k i 3 refl) (no-link k i 4 refl) next
    statement-same (express-row k p e x) h o j q next =
        let i : kind_at other that ≡ OfStatement Express = j ∙ k in
        let b = linked Kernel bounds other t that m i expression 1 refl refl in
        let f : statement_at other that ≡ express (its 1) = rw b.same (at-express other whole-other that i b.later) in
        let v : own 1 ≡ its 1 = cc in
        fields k i refl refl refl refl (plain k i 1 refl (omega arith) (omega arith)) (λ c. absurd (let z : ◌≡◌ {A = ℕ} 0 1 = cc in omega arith))
        (operand k i 1 refl v) (no-link k i 2 refl) (no-link k i 3 refl) (no-link k i 4 refl) next
    statement-same (block-row k e x) h o j q next =
        let i : kind_at other that ≡ OfStatement Block = j ∙ k in
        let a = may-link Kernel bounds rows s row n k optional_item 1 refl refl in
        let b = may-link Kernel bounds other t that m i optional_item 1 refl refl in
        let f : statement_at other that ≡ block (list_at other (link other that 1)) = rw b.same (at_block other whole-other that i b.later) in
        let v : list_at rows (link rows row 1) ≡ list_at other (link other that 1) = cc in
        fields k i refl refl refl refl (plain k i 1 refl (omega arith) (omega arith)) (λ c. absurd (let z : ◌≡◌ {A = ℕ} 0 1 = cc in omega arith))
        (list-child (link rows row 1) (link other that 1) (item-at rows a) (item-at other b) v)
        (no-link k i 2 refl) (no-link k i 3 refl) (no-link k i 4 refl) next
    statement-same (while-row k p r e x y) h o j q next =
        let i : kind_at other that ≡ OfStatement While = j ∙ k in
        let a = linked Kernel bounds rows s row n k branch 2 refl refl in
        let b = linked Kernel bounds other t that m i expression 1 refl refl in
        let d = linked Kernel bounds other t that m i branch 2 refl refl in
        let f : statement_at other that ≡ while (its 1) (its_branch 2) = rw (b.same, d.same) (at-while other whole-other that i b.later d.later) in
        let v : own 1 ≡ its 1 = cc in
        let w : own_branch 2 ≡ its_branch 2 = cc in
        fields k i refl refl refl refl (plain k i 1 refl (omega arith) (omega arith)) (λ c. absurd (let z : ◌≡◌ {A = ℕ} 0 1 = cc in omega arith))
        (operand k i 1 refl v) (branched 2 a.leads d.leads a.fit d.fit a.other d.other (rw a.same (while-block h k)) w) (no-link k i 3 refl) (no-link k i 4 refl) next
    statement-same (if_else-row k p r u e x y z) h o j q next =
        let i : kind_at other that ≡ OfStatement If = j ∙ k in
        let blocks = if-blocks h k in
        let a = linked Kernel bounds rows s row n k branch 2 refl refl in
        let c = may-link Kernel bounds rows s row n k optional_branch 3 refl refl in
        let b = linked Kernel bounds other t that m i expression 1 refl refl in
        let d = linked Kernel bounds other t that m i branch 2 refl refl in
        let g = may-link Kernel bounds other t that m i optional_branch 3 refl refl in
        let some = else-there i (sym q ∙ e) in
        let f : statement_at other that ≡ if_else (its 1) (its_branch 2) (its_branch 3) =
        rw (b.same, d.same, g.same) (at-if_else other whole-other that i b.later d.later (g.later (rw g.same at some))) in
        let v : own 1 ≡ its 1 = cc in
        let w : own_branch 2 ≡ its_branch 2 = cc in
        let w' : own_branch 3 ≡ its_branch 3 = cc in
        fields k i refl refl refl refl (plain k i 1 refl (omega arith) (omega arith)) (λ c. absurd (let z : ◌≡◌ {A = ℕ} 0 1 = cc in omega arith))
        (operand k i 1 refl v) (branched 2 a.leads d.leads a.fit d.fit a.other d.other (rw a.same blocks.0) w)
        (branched 3 u (g.leads some) (c.fit (omega (arith, u.later))) (g.fit some) (c.other (omega (arith, u.later))) (g.other some) (rw c.same blocks.1) w') (no-link k i 4 refl) next
    statement-same (if_then-row k p r z e x y) h o j q next = absurd (no-else h k z)
    statement-same (do_while-row k p r e x y) h o j q next = absurd (not-in-kernel bounds rows s row n k refl)
    statement-same (for-row k p e x y z w) h o j q next = absurd (not-in-kernel bounds rows s row n k refl)
    statement-same (switch-row k p e x y) h o j q next = absurd (not-in-kernel bounds rows s row n k refl)
    statement-same (case_row k e) h o j q next = absurd (not-in-kernel bounds rows s row n k refl)
    statement-same (default_row k e) h o j q next = absurd (not-in-kernel bounds rows s row n k refl)
    statement-same (break-row k e) h o j q next = absurd (not-in-kernel bounds rows s row n k refl)
    statement-same (continue-row k e) h o j q next = absurd (not-in-kernel bounds rows s row n k refl)
    statement-same (label-row k e) h o j q next = absurd (true≢false (sym o ∙ ap is_statement_kind k))
    statement-same (guarded_if-row k e x) h o j q next = absurd (not-in-kernel bounds rows s row n k refl)
    statement-same (guarded_do-row k e x) h o j q next = absurd (not-in-kernel bounds rows s row n k refl)
    statement-same (declare-row k p e x) h o j q next = absurd (no-initial h k p)
    statement-same (return-row k e x) h o j q next =
        let i : kind_at other that ≡ OfStatement Return = j ∙ k in
        let a = may-link Kernel bounds rows s row n k optional_expression 1 refl refl in
        let b = may-link Kernel bounds other t that m i optional_expression 1 refl refl in
        let f : statement_at other that ≡ give_back (part_at other (link other that 1)) = rw b.same (at_return other whole-other that i b.later) in
        let v : part_at rows (link rows row 1) ≡ part_at other (link other that 1) = cc in
        fields k i refl refl refl refl (plain k i 1 refl (omega arith) (omega arith)) (λ c. absurd (let z : ◌≡◌ {A = ℕ} 0 1 = cc in omega arith))
        (part-child (link rows row 1) (link other that 1) a.fit b.fit v) (no-link k i 2 refl) (no-link k i 3 refl) (no-link k i 4 refl) next
    statement-same (definition-row k e) h o j q next = absurd (true≢false (sym o ∙ ap is_statement_kind k))

    -- ---- items

    next-child : IsItem rows row → IsItem other that → list_at rows (link rows row 5) ≡ list_at other (link other that 5) → Child (link rows row 5) (link other that 5)
    next-child f g e =
        let a = next-item bounds rows s row n f in
        let b = next-item bounds other t that m g in
        list-child (link rows row 5) (link other that 5) (item-at rows a) (item-at other b) e

    body-child : kind_at rows row ≡ Definition → kind_at other that ≡ Definition → statement_at rows (link rows row 3) ≡ statement_at other (link other that 3) → Child (link rows row 3) (link other that 3)
    unfolding is_required is_link is_block_row sort_in kind_row expression_fields statement_fields mark_fields definition_fields member_fields fits
    body-child k i e =
        let a = linked Kernel bounds rows s row n k body_block 3 refl refl in
        let b = linked Kernel bounds other t that m i body_block 3 refl refl in
        let u = both (eqb (number_at rows (link rows row 3) 0) 42) _ a.fit in
        let v = both (eqb (number_at other (link other that 3) 0) 42) _ b.fit in
        let one : IsItem rows (link rows row 3) = record { statement = block-statement rows (link rows row 3) (eqb-true _ _ u.0); other_role = a.other } in
        let two : IsItem other (link other that 3) = record { statement = block-statement other (link other that 3) (eqb-true _ _ v.0); other_role = b.other } in
        let body = (defines Kernel bounds rows s row n k).body-kind in
        inr (a.some, b.some, items one two (branch-items (link rows row 3) (link other that 3) a.leads.inside b.leads.inside one two body (eqb-true _ _ u.1) (eqb-true _ _ v.1) e))

    module _ (f : IsItem rows row) (g : IsItem other that) (e : items_at rows row ≡ items_at other that) where
      a : MayLink rows row optional_item 5
      a = next-item bounds rows s row n f

      b : MayLink other that optional_item 5
      b = next-item bounds other t that m g

      here-statement : is_statement_kind (kind_at rows row) ≡ true → items_at rows row ≡ statement_at rows row then list_at rows (link rows row 5)
      here-statement y = rw a.same (at_item rows whole row y a.later)

      there-statement : is_statement_kind (kind_at other that) ≡ true → items_at other that ≡ statement_at other that then list_at other (link other that 5)
      there-statement y = rw b.same (at_item other whole-other that y b.later)

      here_label : kind_at rows row ≡ OfMark Label → items_at rows row ≡ label (number_at rows row 1) here list_at rows (link rows row 5)
      here_label k = rw a.same (at_label rows whole row k a.later)

      there-label : kind_at other that ≡ OfMark Label → items_at other that ≡ label (number_at other that 1) here list_at other (link other that 5)
      there-label k = rw b.same (at_label other whole-other that k b.later)

      statements : is_statement_kind (kind_at rows row) ≡ true → is_statement_kind (kind_at other that) ≡ true → Same row that
      statements y x =
          let u = here-statement y in
          let v = there-statement x in
          let tree : statement_at rows row ≡ statement_at other that = cc in
          let rest : list_at rows (link rows row 5) ≡ list_at other (link other that 5) = cc in
          let one = statement-held Kernel bounds rows s row n f.statement f.other_role in
          let two = statement-held Kernel bounds other t that m g.statement g.other_role in
          statement-same one f.statement y (kind-of-statement other two x ∙ ap statement_kind (sym tree) ∙ sym (kind-of-statement rows one y)) tree (next-child f g rest)

      labels : kind_at rows row ≡ OfMark Label → kind_at other that ≡ OfMark Label → Same row that
      unfolding is_link sort_in kind_row expression_fields statement_fields mark_fields member_fields
      labels k i =
          let u = here_label k in
          let v = there-label i in
          let w : number_at other that 1 ≡ number_at rows row 1 = cc in
          let rest : list_at rows (link rows row 5) ≡ list_at other (link other that 5) = cc in
          fields k i refl refl refl refl (λ g. w) (λ c. absurd (let z : ◌≡◌ {A = ℕ} 0 1 = cc in omega arith))
          (no-link k i 1 refl) (no-link k i 2 refl) (no-link k i 3 refl) (no-link k i 4 refl) (next-child f g rest)

      definitions : kind_at rows row ≡ Definition → kind_at other that ≡ Definition → Same row that
      unfolding is_link sort_in kind_row expression_fields statement_fields mark_fields definition_fields member_fields
      definitions k i =
          let one = defines Kernel bounds rows s row n k in
          let two = defines Kernel bounds other t that m i in
          let u = one.items-is in
          let v = two.items-is in
          let w : number_at other that 1 ≡ number_at rows row 1 = cc in
          let words : parameter_list_at rows (link rows row 2) ≡ parameter_list_at other (link other that 2) = cc in
          let inner : list_at rows (link rows (link rows row 3) 1) ≡ list_at other (link other (link other that 3) 1) = cc in
          let rest : list_at rows (link rows row 5) ≡ list_at other (link other that 5) = cc in
          fields k i refl refl refl refl (λ g. w) (λ c. absurd (let z : ◌≡◌ {A = ℕ} 0 1 = cc in omega arith))
          (no-link k i 1 refl) (taken-child (link rows row 2) (link other that 2) (parameters-at bounds rows s row n k) (parameters-at bounds other t that m i) words)
          (body-child k i (one.body_is ∙ ap block inner ∙ sym two.body_is)) (no-link k i 4 refl) (next-child f g rest)

      -- of two rows with the same tree neither is a label or a definition where the other is not
      item-same : Same row that
      item-same =
          ⊎_elim
          (λ y. let u = here-statement y in
          ⊎_elim (statements y) (⊎_elim (λ k. let v = there-label k in absurd (let z : ◌≡◌ {A = ℕ} 0 1 = cc in omega arith)) (λ k. let v = (defines Kernel bounds other t that m k).items-is in absurd (let z : ◌≡◌ {A = ℕ} 0 1 = cc in omega arith)))
          (kernel-kinds bounds other t that m g.statement))
          (⊎_elim
          (λ k. let u = here_label k in
          ⊎_elim (λ y. let v = there-statement y in absurd (let z : ◌≡◌ {A = ℕ} 0 1 = cc in omega arith))
          (⊎_elim (labels k) (λ i. let v = (defines Kernel bounds other t that m i).items-is in absurd (let z : ◌≡◌ {A = ℕ} 0 1 = cc in omega arith)))
          (kernel-kinds bounds other t that m g.statement))
          (λ k. let u = (defines Kernel bounds rows s row n k).items-is in
          ⊎_elim (λ y. let v = there-statement y in absurd (let z : ◌≡◌ {A = ℕ} 0 1 = cc in omega arith))
          (⊎_elim (λ i. let v = there-label i in absurd (let z : ◌≡◌ {A = ℕ} 0 1 = cc in omega arith)) (definitions k))
          (kernel-kinds bounds other t that m g.statement)))
          (kernel-kinds bounds rows s row n f.statement)

    -- Rows with the same tree are the same row, with links to rows with the same trees.
    pub same : Alike row that → Same row that
    same (expressions f g e) =
        let one = expression-row Kernel bounds rows s row n f in
        let two = expression-row Kernel bounds other t that m g in
        expression-same one (expression-kind other two ∙ ap expression_kind (sym e) ∙ sym (expression-kind rows one)) e
    same (items f g e) = item-same f g e
    same (passed p p' r r' e) = passed-same p p' r r' e
    same (taken p p' r r' e) = taken-same p p' r r' e
