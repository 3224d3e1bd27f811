-- Standing: the code of each row of a legal kernel program stands in its flat list at the row's line, with its labels at their addresses.
-- It goes along the links from row 0. So each row's own lines stand in the list.
use Rattle.std.specs.Prelude.{◌≡◌, Bool, true, false, List, [], ◌∷◌, ◌++◌, ℕ, zero, suc, ◌+◌, ◌≤◌, ◌<◌, eqb, ℤ, length, get_or}
use Rattle.std.proofs.Math.Path.{refl, ap, subst}
use Rattle.std.proofs.Common.{sym, ◌∙◌, append-nil, ⊎_elim, arith}
use Rattle.std.proofs.Math.Bool.{true≢false}
use Rattle.std.proofs.Math.Decide.{ℕ_discrete}
use borrow.Author.Tests.{ne_eqb}
use Rattle.words.specs.Word.{pick}
use Rattle.words.specs.Table.{row_count, number_at}
use Rattle.words.specs.Kinds.{kinds, kind_in, kind_of, statement_row, sort_at, sort_of, sort_in, kind_row, statement_fields}
use Rattle.words.specs.Layout.{Layout, layout_of}
use Rattle.words.specs.Links.{is_expression, is_statement, link, note}
use Rattle.words.specs.declared.Form.TheVariants.{Kernel}
use Rattle.language.specs.Trees.{Statement, block, if_else, while, Items, none, ◌then◌}
use Rattle.language.specs.Decode.{expression_at, statement_at, items_at, list_at}
use Rattle.language.specs.Calls.{arity_in}
use Rattle.language.specs.Program.{contents}
use Rattle.check_fields.specs.Fields.{bounds_of}
use Rattle.check_structure.specs.Structured.{Leads, Tree}
use Rattle.check_structure.specs.StructuredLaws.{structured-tree}
use Rattle.check_grammar.specs.GrammarLaws.{kind-links-none}
use Rattle.check_structure.specs.LinkLaws.{by-owner}
use Rattle.check_structure.specs.NoteLaws.{above_zero, note-root, note-link}
use Rattle.check_plain.specs.Plain.{Plain}
use Rattle.accepted.proofs.Statements.{list-some}
use Rattle.accepted_kernel.proofs.Kernel.{legal-rows, plain-program}
use Rattle.flat_kernel_rows.specs.StatementLinks.{StatementLink, next-item, first-item, true_branch, false_branch, loop_body}
use Rattle.flat_kernel_rows.proofs.Rows.{Lone, Listed, BlockRow, IfRow, WhileRow, KernelRow, empty-row, assign-row, block-row, if-row, while-row, goto-row, label-row, abort-row, expression-or-statement, statement-link, next-at, kernel-row, label-list, statement-list, lone-list, linking-statement, label-statement, as-expression, block_at, if-of, while-of}
use Rattle.flat_kernel_rows.proofs.Labels.{plain-once}
use Rattle.flat_kernel_rows.proofs.Tree.{root-items}
use Rattle.flat.specs.Lines.{FlatLine}
use Rattle.flat_fate.specs.Code.{operand_of, operation_of, always, if_lines, statement_lines, items_lines, statement_code, items_code}
use Rattle.flat_fate.specs.Branches.{first_at, second_at, body_at}
use Rattle.flat_fate.proofs.CodeStands.{Addressed, AddressedItems, statement-length, items-length}
use Rattle.flat_fate.specs.Addresses.{address_in, flat_of}
use Rattle.flat_fate.proofs.AddressLaws.{flat-size, items-addressed}
use Rattle.flat_fate.proofs.LineCount.{lines-below-rows}
use Rattle.flat_rows.specs.Places.{list_lines, test_of, handed, line_of, own_lines, Each}
use Rattle.flat_rows.specs.LinesPut.{nothing, There}
use Rattle.flat_rows.proofs.Lies.{Lies, lies_whole, lies-first, lies-second, lies-head, lies-cast, if-first, if-second, if-own, while-body, while-own}

module _ (header rows : List ℤ) (plain : Plain header rows) where
  abbrev L : Layout
  L = layout_of Kernel header

  abbrev pub list : List FlatLine
  list = flat_of (contents rows)

  abbrev address : ℕ → ℕ
  address = address_in (contents rows)

  tree : Tree rows
  tree = structured-tree Kernel (bounds_of Kernel header) rows plain.legal.structured

  -- A list of items stands from line i on.
  pub record Stands (is : Items) (i : ℕ) : Type 0 where
    pub lies : Lies list i (items_code address is i)
    pub labelled : AddressedItems L list address is i

  -- One statement does.
  pub record StandsOne (s : Statement) (i : ℕ) : Type 0 where
    pub lies : Lies list i (statement_code address s i)
    pub labelled : Addressed L list address s i

  stands-cast : (is : Items) (i j : ℕ) → i ≡ j → Stands is i → Stands is j
  stands-cast is i j e s = subst (λ (m : ℕ). Stands is m) e s

  -- a list of one statement
  stands-alone : (s : Statement) (i : ℕ) → StandsOne s i → Stands (s then none) i
  unfolding items_code AddressedItems
  stands-alone s i o = record { lies = rw (append-nil (statement_code address s i)) o.lies; labelled = (o.labelled, tt) }

  first-stands : (s : Statement) (is : Items) (i : ℕ) → Stands (s then is) i → StandsOne s i
  unfolding items_code AddressedItems
  first-stands s is i st = record { lies = lies-first list i (statement_code address s i) _ st.lies; labelled = st.labelled.0 }

  rest-stands : (s : Statement) (is : Items) (i : ℕ) → Stands (s then is) i → Stands is (i + statement_lines s)
  unfolding items_code AddressedItems
  rest-stands s is i st =
      record { lies = lies-second list i (statement_lines s) (statement_code address s i) _ (statement-length L list address s i) st.lies; labelled = st.labelled.1 }

  -- ---- along the links

  pub line-root : line_of rows 0 ≡ 0
  unfolding line_of
  line-root = note-root (handed rows) 0 rows

  pub line-link : (row field : ℕ) → field < 6 → Leads rows row field → line_of rows (link rows row field) ≡ handed rows row field (line_of rows row)
  unfolding line_of
  line-link row field h leads = note-link (handed rows) 0 rows tree row field h leads

  -- the lines of a branch
  pub branch-lines : {row field : ℕ} → Lone rows row field → list_lines rows (number_at rows row field) ≡ statement_lines (statement_at rows (number_at rows row field))
  unfolding list_lines items_lines
  branch-lines {row} {field} l =
      let b = number_at rows row field in
      let there : 0 < b = (let later = l.later in omega arith) in
      let lines : items_lines (list_at rows b) ≡ statement_lines (statement_at rows b) + 0 = ap items_lines (list-some rows b there ∙ lone-list header rows plain l) in
      omega (arith, lines)

  abbrev At : ℕ → Type 0
  At row = Stands (items_at rows row) (line_of rows row)

  module _ (row : ℕ) (n : row < row_count rows) (t : is_statement rows row ≡ true) (at : At row) where
    abbrev i : ℕ
    i = line_of rows row

    -- The row's own statement.
    pub own-stands : (number_at rows row 0 ≡ 53 → ⊥) → StandsOne (statement_at rows row) i
    own-stands other = first-stands (statement_at rows row) _ i (subst (λ is. Stands is i) (statement-list header rows plain row n other t) at)

    -- What stands behind it.
    behind-stands : Stands (list_at rows (number_at rows row 5)) (i + statement_lines (statement_at rows row))
    unfolding items_code AddressedItems statement_lines
    behind-stands = by-label (ℕ_discrete (number_at rows row 0) 53)
      where
        by-label : Dec (number_at rows row 0 ≡ 53) → Stands (list_at rows (number_at rows row 5)) (i + statement_lines (statement_at rows row))
        by-label (yes k) =
            let st = subst (λ is. Stands is i) (label-list header rows plain row n k t) at in
            let none_of : statement_lines (statement_at rows row) ≡ 0 = label-lines k in
            stands-cast (list_at rows (number_at rows row 5)) i (i + statement_lines (statement_at rows row)) (omega arith) (record { lies = st.lies; labelled = st.labelled.1 })
          where
            label-lines : number_at rows row 0 ≡ 53 → statement_lines (statement_at rows row) ≡ 0
            label-lines k = by_row (kernel-row header rows plain row n t)
              where
                by_row : KernelRow rows row → statement_lines (statement_at rows row) ≡ 0
                by_row (empty-row e q) = absurd (omega arith)
                by_row (assign-row e q) = absurd (omega arith)
                by_row (block-row e q) = absurd (omega arith)
                by_row (if-row e q) = absurd (omega arith)
                by_row (while-row e q) = absurd (omega arith)
                by_row (goto-row e q) = absurd (omega arith)
                by_row (label-row e q) = rw q
                by_row (abort-row e q) = absurd (omega arith)
        by-label (no k) = rest-stands (statement_at rows row) _ i (subst (λ is. Stands is i) (statement-list header rows plain row n k t) at)

    -- ---- a branch

    branch-stands : {field : ℕ} (l : Lone rows row field) (j : ℕ) → line_of rows (number_at rows row field) ≡ j → StandsOne (statement_at rows (number_at rows row field)) j → At (number_at rows row field)
    branch-stands {field} l j e o =
        let b = number_at rows row field in
        subst (λ (m : ℕ). Stands (items_at rows b) m) (sym e) (subst (λ is. Stands is j) (sym (lone-list header rows plain l)) (stands-alone (statement_at rows b) j o))

    -- ---- what each linked row stands at

    linked-line : (field : ℕ) → field < 6 → Leads rows row field → link rows row field ≡ number_at rows row field → line_of rows (number_at rows row field) ≡ handed rows row field i
    linked-line field h leads same = ap (line_of rows) (sym same) ∙ line-link row field h leads

    by_number : (field : ℕ) → link rows row field ≡ number_at rows row field → At (number_at rows row field) → At (link rows row field)
    by_number field same s = subst At (sym same) s

    listed-stands : (field : ℕ) → field < 6 → Listed rows row field → Leads rows row field → (j : ℕ) → handed rows row field i ≡ j → Stands (list_at rows (number_at rows row field)) j → At (link rows row field)
    listed-stands field h listed leads j e st =
        let l = number_at rows row field in
        let there : 0 < l = (let later = leads.later in let same = listed.same in omega arith) in
        by_number field listed.same
        (subst (λ (m : ℕ). Stands (items_at rows l) m) (sym (linked-line field h leads listed.same ∙ e)) (subst (λ is. Stands is j) (list-some rows l there) st))

    next-stands : Leads rows row 5 → At (link rows row 5)
    unfolding handed
    next-stands leads = listed-stands 5 (omega arith) (next-at header rows plain row n t) leads _ refl behind-stands

    first-item-stands : number_at rows row 0 ≡ 42 → Leads rows row 1 → At (link rows row 1)
    unfolding handed statement_code Addressed
    first-item-stands k leads =
        let r = block_at header rows plain row n k in
        let o = subst (λ s. StandsOne s i) r.is (own-stands (λ (q : number_at rows row 0 ≡ 53). omega arith)) in
        listed-stands 1 (omega arith) r.listed leads i (rw k) (record { lies = o.lies; labelled = o.labelled })

    module _ (k : number_at rows row 0 ≡ 43) where
      the-if : IfRow rows row
      the-if = if-of header rows plain row n k

      abbrev on_true : Statement
      on_true = statement_at rows (number_at rows row 2)

      abbrev on_false : Statement
      on_false = statement_at rows (number_at rows row 3)

      if-stands : StandsOne (if_else (expression_at rows (number_at rows row 1)) on_true on_false) i
      if-stands = subst (λ s. StandsOne s i) the-if.is (own-stands (λ (q : number_at rows row 0 ≡ 53). omega arith))

      if-within : i + if_lines (statement_lines on_true) (statement_lines on_false) ≤ length list
      unfolding statement_lines
      if-within = let w = if-stands.lies.within in omega (arith, statement-length L list address (if_else (expression_at rows (number_at rows row 1)) on_true on_false) i)

      true-stands : At (link rows row 2)
      unfolding handed statement_code Addressed
      true-stands =
          let r = the-if in
          let o = if-stands in
          let j = first_at (statement_lines on_true) (statement_lines on_false) i in
          let e : handed rows row 2 i ≡ j = rw (k, branch-lines r.on_true, branch-lines r.on_false) in
          by_number 2 r.on_true.same
          (branch-stands r.on_true j (linked-line 2 (omega arith) r.on_true.leads r.on_true.same ∙ e)
          (record {
            lies = if-first list (test_of rows row) (λ j. statement_code address on_true j) (λ j. statement_code address on_false j) (statement_lines on_true) (statement_lines on_false) i (λ j. statement-length L list address on_true j) if-within o.lies;
            labelled = o.labelled.0;
          }))

      false-stands : At (link rows row 3)
      unfolding handed statement_code Addressed
      false-stands =
          let r = the-if in
          let o = if-stands in
          let j = second_at (statement_lines on_true) (statement_lines on_false) i in
          let e : handed rows row 3 i ≡ j = rw (k, branch-lines r.on_true, branch-lines r.on_false) in
          by_number 3 r.on_false.same
          (branch-stands r.on_false j (linked-line 3 (omega arith) r.on_false.leads r.on_false.same ∙ e)
          (record {
            lies = if-second list (test_of rows row) (λ j. statement_code address on_true j) (λ j. statement_code address on_false j) (statement_lines on_true) (statement_lines on_false) i (λ j. statement-length L list address on_true j)
                (λ j. statement-length L list address on_false j) if-within o.lies;
            labelled = o.labelled.1;
          }))

      pub if-own-lines : Each (There list) (own_lines rows row)
      unfolding own_lines statement_code
      if-own-lines =
          let r = the-if in
          rw (k, branch-lines r.on_true, branch-lines r.on_false)
          (if-own list (test_of rows row) (λ j. statement_code address on_true j) (λ j. statement_code address on_false j) (statement_lines on_true) (statement_lines on_false) i (λ j. statement-length L list address on_true j) if-stands.lies)

    module _ (k : number_at rows row 0 ≡ 44) where
      the-while : WhileRow rows row
      the-while = while-of header rows plain row n k

      abbrev body : Statement
      body = statement_at rows (number_at rows row 2)

      while-stands : StandsOne (while (expression_at rows (number_at rows row 1)) body) i
      while-stands = subst (λ s. StandsOne s i) the-while.is (own-stands (λ (q : number_at rows row 0 ≡ 53). omega arith))

      body-stands : At (link rows row 2)
      unfolding handed statement_code Addressed
      body-stands =
          let r = the-while in
          let o = while-stands in
          let j = body_at (always (test_of rows row)) i in
          let e : handed rows row 2 i ≡ j = (rw k) in
          by_number 2 r.body.same
          (branch-stands r.body j (linked-line 2 (omega arith) r.body.leads r.body.same ∙ e)
          (record { lies = while-body list (test_of rows row) (λ j. statement_code address body j) (always (test_of rows row)) (statement_lines body) i o.lies; labelled = o.labelled }))

      pub while-own-lines : Each (There list) (own_lines rows row)
      unfolding own_lines statement_code
      while-own-lines =
          rw (k, branch-lines the-while.body)
          (while-own list (test_of rows row) (λ j. statement_code address body j) (always (test_of rows row)) (statement_lines body) i (λ j. statement-length L list address body j) while-stands.lies)

    one_line : (x : FlatLine) (s : Statement) → statement_at rows row ≡ s → statement_code address s i ≡ x ∷ [] → (number_at rows row 0 ≡ 53 → ⊥) → There list i x
    one_line x s e c other = lies-head list i x [] (subst (λ xs. Lies list i xs) (ap (λ s. statement_code address s i) e ∙ c) (own-stands other).lies)

    link-stands : (field : ℕ) → Leads rows row field → StatementLink rows row field → At (link rows row field)
    link-stands field leads (next-item e u) = subst (λ (f : ℕ). At (link rows row f)) (sym e) (next-stands (subst (Leads rows row) e leads))
    link-stands field leads (first-item e k) = subst (λ (f : ℕ). At (link rows row f)) (sym e) (first-item-stands k (subst (Leads rows row) e leads))
    link-stands field leads (true_branch e k) = subst (λ (f : ℕ). At (link rows row f)) (sym e) (true-stands k)
    link-stands field leads (false_branch e k) = subst (λ (f : ℕ). At (link rows row f)) (sym e) (false-stands k)
    link-stands field leads (loop_body e k) = subst (λ (f : ℕ). At (link rows row f)) (sym e) (body-stands k)

  -- ---- every row

  root_stands : At 0
  unfolding flat_of statement_code Addressed
  root_stands =
      subst (λ (m : ℕ). Stands (items_at rows 0) m) (sym line-root)
      (subst (λ is. Stands is 0) (sym (root-items header rows plain)) (stands-alone (block (contents rows)) 0 whole-stands))
    where
      whole-stands : StandsOne (block (contents rows)) 0
      whole-stands =
          record {
            lies = lies_whole list;
            labelled = items-addressed L list address (plain-program header rows plain).items 0 (λ l. 0) (λ l. plain-once header rows plain l) (λ l h. refl);
          }

  pub row-stands : (row : ℕ) → row < row_count rows → is_statement rows row ≡ true → At row
  row-stands = by-owner rows tree (λ (row : ℕ). is_statement rows row ≡ true → At row) (λ t. root_stands) along
    where
      along : (owner field : ℕ) → field < 6 → Leads rows owner field → (is_statement rows owner ≡ true → At owner) → is_statement rows (link rows owner field) ≡ true → At (link rows owner field)
      along owner field h leads at t =
          let inside : owner < row_count rows = (let later = leads.later in let most = leads.inside in omega arith) in
          let some : 0 < link rows owner field = (let later = leads.later in omega arith) in
          let x = statement-link header rows plain owner inside field (first_field field some) h some t in
          let u = linking-statement rows owner x in
          link-stands owner inside u (at u) field leads x
        where
          first_field : (field : ℕ) → 0 < link rows owner field → 1 ≤ field
          first_field zero p = absurd (let none-there = kind-links-none rows owner in omega arith)
          first_field (suc field) p = omega arith

  -- ---- own lines

  -- A row of a statement's kind is one.
  numbered : (row number : ℕ) → number_at rows row 0 ≡ number → eqb (sort_of number 0) statement_row ≡ true → is_statement rows row ≡ true
  unfolding is_statement sort_at
  numbered row number k e = rw k e

  own-by : (row : ℕ) → row < row_count rows → is_statement rows row ≡ true → KernelRow rows row → Each (There list) (own_lines rows row)
  unfolding own_lines statement_code
  own-by row n t (empty-row k e) = rw k tt
  own-by row n t (assign-row k r) = rw k (one_line row n t (row-stands row n t) _ _ r.is refl (λ (q : number_at rows row 0 ≡ 53). omega arith), tt)
  own-by row n t (block-row k r) = rw k tt
  own-by row n t (if-row k r) = if-own-lines row n t (row-stands row n t) k
  own-by row n t (while-row k r) = while-own-lines row n t (row-stands row n t) k
  own-by row n t (goto-row k e) = rw k (one_line row n t (row-stands row n t) _ _ e refl (λ (q : number_at rows row 0 ≡ 53). omega arith), tt)
  own-by row n t (label-row k e) = rw k tt
  own-by row n t (abort-row k e) = rw k (one_line row n t (row-stands row n t) _ _ e refl (λ (q : number_at rows row 0 ≡ 53). omega arith), tt)

  -- an expression has no lines
  expression-own : (row : ℕ) → is_statement rows row ≡ false → own_lines rows row ≡ []
  unfolding own_lines sort_of kind_of kind_in kinds sort_in kind_row statement_fields
  expression-own row f =
      rw (
        ne_eqb (number_at rows row 0) 41 (λ k. true≢false (sym (numbered row 41 k refl) ∙ f)),
        ne_eqb (number_at rows row 0) 43 (λ k. true≢false (sym (numbered row 43 k refl) ∙ f)),
        ne_eqb (number_at rows row 0) 44 (λ k. true≢false (sym (numbered row 44 k refl) ∙ f)),
        ne_eqb (number_at rows row 0) 52 (λ k. true≢false (sym (numbered row 52 k refl) ∙ f)),
        ne_eqb (number_at rows row 0) 57 (λ k. true≢false (sym (numbered row 57 k refl) ∙ f)),
      )

  -- Each row's own lines stand in the list.
  pub own-there : (row : ℕ) → row < row_count rows → Each (There list) (own_lines rows row)
  own-there row n =
      ⊎_elim (λ e. rw (expression-own row (as-expression rows row e)) tt) (λ t. own-by row n t (kernel-row header rows plain row n t))
      (expression-or-statement header rows plain row n)

  -- A label's address is its row's line.
  pub label-address : (row : ℕ) → row < row_count rows → number_at rows row 0 ≡ 53 → address (number_at rows row 1) ≡ line_of rows row
  unfolding AddressedItems
  label-address row n k =
      let t = label-statement rows row k in
      (subst (λ is. Stands is (line_of rows row)) (label-list header rows plain row n k t) (row-stands row n t)).labelled.0

  -- ---- limits

  pub list-few : length list < 40980
  list-few =
      let rows_few = tree.few in
      omega (arith, flat-size L (contents rows) (plain-program header rows plain).items (arity_in (contents rows)) (plain-program header rows plain).calls (λ l. plain-once header rows plain l), lines-below-rows (contents rows) (plain-program header rows plain).items, legal-rows header rows plain.legal)

  -- The lines from a row on lie in the list.
  pub row_within : (row : ℕ) → row < row_count rows → is_statement rows row ≡ true → line_of rows row + items_lines (items_at rows row) ≤ length list
  row_within row n t = let w = (row-stands row n t).lies.within in omega (arith, items-length L list address (items_at rows row) (line_of rows row))
