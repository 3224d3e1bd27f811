-- Emitted tables are as deep as their trees: a row at some depth has a tree that leaves room below it, and so have the rows that it
-- links.
use Rattle.std.specs.Prelude.{◌≡◌, false, List, [], ◌∷◌, ℕ, ◌+◌, ◌≤◌, ◌<◌, eqb, ℤ}
use Rattle.std.proofs.Common.{subst, ne_eqb}
use native.Mathlib.Omega.{arith}
use Rattle.words.specs.Word.{pick}
use Rattle.language.specs.Trees.{Expression, Place, Arguments, ◌also◌, Statement, Items, none, define}
use Rattle.language.specs.Sizes.{statement_rows, expression_depth, place_depth, arguments_depth, parameters_depth, statement_depth, items_depth}
use Rattle.words.specs.Kinds.{sort_of, is_link, kind_of, kind_in, kinds, sort_in, kind_row, expression_fields, statement_fields, mark_fields, definition_fields, member_fields}
use Rattle.words.specs.Links.{link}
use Rattle.check_structure.specs.Structured.{Leads, Depth, root, owned, beside}
use Rattle.language_emission.specs.Emission.{arguments_link, list_link, parameters_link}
use Rattle.language_emission.specs.Emitted.{Row, EmittedExpression, constant-at, read_at, minus-at, binary-at, assign-at, call_at, EmittedPlace, variable-at, element-at, EmittedArguments, no-more-at, argument-at, EmittedParameters, no_parameter_at, parameter-at, EmittedStatement, empty-at, express-at, block_at, if-at, while-at, goto-at, abort-at, return-at, EmittedItems, none-at, then_at, label_at, define-at}
use Rattle.translation_legal.specs.Suits.{each-link}
use Rattle.translation_legal.proofs.EmittedRows.{sort-binary}

-- The depth that a row hands to the row that its field links.
abbrev handed : ℕ → ℕ → ℕ
handed field depth = pick (eqb field 5) depth (depth + 1)

-- No row is linked by 0.
never : {A : Type 0} → 0 < 0 → A
never h = absurd (omega arith)

module _ (rows : List ℤ) (limit : ℕ) where
  -- What stands at a row of some depth reaches no deeper than the limit.
  data Standing : ℕ → ℕ → Type 0 where
    an-expression : {e : Expression} {row depth : ℕ} → EmittedExpression rows e row → depth + expression_depth e ≤ limit + 1 → Standing row depth
    a-statement : {s : Statement} {is : Items} {row depth : ℕ} → EmittedStatement rows s row (list_link false is (row + statement_rows s)) → EmittedItems rows is (row + statement_rows s)
        → depth + statement_depth s ≤ limit + 1 → depth + items_depth is ≤ limit + 1 → Standing row depth
    a-label : {l : ℕ} {is : Items} {row depth : ℕ} → Row rows row 53 l 0 0 0 (list_link false is (row + 1)) → EmittedItems rows is (row + 1)
        → depth ≤ limit → depth + items_depth is ≤ limit + 1 → Standing row depth
    an-argument : {e : Expression} {arguments : Arguments} {row depth : ℕ} → EmittedArguments rows (e also arguments) row → depth + arguments_depth (e also arguments) ≤ limit + 1 → Standing row depth
    a-parameter : {word : ℕ} {words : List ℕ} {row depth : ℕ} → EmittedParameters rows (word ∷ words) row → depth ≤ limit → Standing row depth
    a-definition : {f : ℕ} {words : List ℕ} {body is : Items} {row depth : ℕ} → EmittedItems rows (define f words body is) row → depth + items_depth (define f words body is) ≤ limit + 1 → Standing row depth

  a-list : {is : Items} {base : ℕ} (depth : ℕ) → EmittedItems rows is base → depth + items_depth is ≤ limit + 1 → 0 < list_link false is base → Standing (list_link false is base) depth
  unfolding statement_depth
  a-list depth none-at room h = never h
  a-list depth (then_at m n) room h = a-statement {depth = depth} m n (omega arith) (omega arith)
  a-list depth (label_at r n) room h = a-label {depth = depth} r n (omega arith) (omega arith)
  a-list depth (define-at r p m n) room h = a-definition {depth = depth} (define-at r p m n) room

  some-arguments : {arguments : Arguments} {base : ℕ} (depth : ℕ) → EmittedArguments rows arguments base → depth + arguments_depth arguments ≤ limit + 1 → 0 < arguments_link arguments base
      → Standing (arguments_link arguments base) depth
  some-arguments depth no-more-at room h = never h
  some-arguments depth (argument-at r m n) room h = an-argument {depth = depth} (argument-at r m n) room

  some-parameters : {words : List ℕ} {base : ℕ} (depth : ℕ) → EmittedParameters rows words base → depth + parameters_depth words ≤ limit + 1 → 0 < parameters_link words base → Standing (parameters_link words base) depth
  some-parameters depth no_parameter_at room h = never h
  some-parameters depth (parameter-at r n) room h = a-parameter {depth = depth} (parameter-at r n) (omega arith)

  parameters-most : (words : List ℕ) → parameters_depth words ≤ 1
  parameters-most [] = omega arith
  parameters-most (word ∷ words) = omega arith

  a-branch : {s : Statement} {base : ℕ} (depth : ℕ) → EmittedStatement rows s base 0 → depth + statement_depth s ≤ limit + 1 → Standing base depth
  unfolding statement_depth
  a-branch depth m room = a-statement {is = none} {depth = depth} m none-at room (omega arith)

  abbrev Below : ℕ → ℕ → ℕ → Type 0
  Below depth field n = Standing n (handed field depth)

  -- A row's links lead to what stands one deeper, and its next to what stands beside it.
  module _ (depth : ℕ) where
    below-place : {p : Place} {row : ℕ} → EmittedPlace rows p row → depth + place_depth p ≤ limit + 1 → (field : ℕ) → field < 6 → Leads rows row field → Standing (link rows row field) (handed field depth)
    unfolding sort_of kind_of kind_in kinds sort_in kind_row expression_fields statement_fields mark_fields definition_fields member_fields is_link expression_depth
    below-place (variable-at r) room = each-link r (Below depth) never never never never never
    below-place (element-at r m) room = each-link r (Below depth) never (λ h. an-expression {depth = depth + 1} m (omega arith)) never never never

    below-expression : {e : Expression} {row : ℕ} → EmittedExpression rows e row → depth + expression_depth e ≤ limit + 1 → (field : ℕ) → field < 6 → Leads rows row field → Standing (link rows row field) (handed field depth)
    unfolding sort_of kind_of kind_in kinds sort_in kind_row expression_fields statement_fields mark_fields definition_fields member_fields is_link expression_depth
    below-expression (constant-at r v) room = each-link r (Below depth) never never never never never
    below-expression (read_at m) room = below-place m room
    below-expression (minus-at r m) room = each-link r (Below depth) (λ h. an-expression {depth = depth + 1} m (omega arith)) never never never never
    below-expression (binary-at {o} r m n) room =
        let sort = sort-binary o in
        each-link r (Below depth) (rw (sort 1) (λ h. an-expression {depth = depth + 1} m (omega arith))) (rw (sort 2) (λ h. an-expression {depth = depth + 1} n (omega arith)))
        (rw (sort 3) never) (rw (sort 4) never) (rw (sort 5) never)
    below-expression (assign-at r m n) room =
        each-link r (Below depth) (λ h. an-expression {depth = depth + 1} (read_at m) (omega arith)) (λ h. an-expression {depth = depth + 1} n (omega arith)) never never never
    below-expression (call_at r m) room = each-link r (Below depth) never (some-arguments (depth + 1) m (omega arith)) never never never

    below-argument : {e : Expression} {arguments : Arguments} {row : ℕ} → EmittedArguments rows (e also arguments) row → depth + arguments_depth (e also arguments) ≤ limit + 1
        → (field : ℕ) → field < 6 → Leads rows row field → Standing (link rows row field) (handed field depth)
    unfolding sort_of kind_of kind_in kinds sort_in kind_row expression_fields statement_fields mark_fields definition_fields member_fields is_link expression_depth
    below-argument (argument-at r m n) room = each-link r (Below depth) (λ h. an-expression {depth = depth + 1} m (omega arith)) never never never (some-arguments depth n (omega arith))

    below-parameter : {word : ℕ} {words : List ℕ} {row : ℕ} → EmittedParameters rows (word ∷ words) row → depth ≤ limit → (field : ℕ) → field < 6 → Leads rows row field → Standing (link rows row field) (handed field depth)
    unfolding sort_of kind_of kind_in kinds sort_in kind_row expression_fields statement_fields mark_fields definition_fields member_fields is_link
    below-parameter (parameter-at {words = words} r n) room = each-link r (Below depth) never never never never (some-parameters depth n (omega (arith, parameters-most words)))

    below-definition : {f : ℕ} {words : List ℕ} {body is : Items} {row : ℕ} → EmittedItems rows (define f words body is) row → depth + items_depth (define f words body is) ≤ limit + 1
        → (field : ℕ) → field < 6 → Leads rows row field → Standing (link rows row field) (handed field depth)
    unfolding sort_of kind_of kind_in kinds sort_in kind_row expression_fields statement_fields mark_fields definition_fields member_fields is_link statement_depth
    below-definition (define-at r p m n) room =
        each-link r (Below depth) never (some-parameters (depth + 1) p (omega arith)) (λ h. a-branch (depth + 1) m (omega arith)) never (a-list depth n (omega arith))

    below-statement : {s : Statement} {row next : ℕ} → EmittedStatement rows s row next → depth + statement_depth s ≤ limit + 1 → (0 < next → Standing next depth)
        → (field : ℕ) → field < 6 → Leads rows row field → Standing (link rows row field) (handed field depth)
    unfolding sort_of kind_of kind_in kinds sort_in kind_row expression_fields statement_fields mark_fields definition_fields member_fields is_link statement_depth
    below-statement (empty-at r) room next = each-link r (Below depth) never never never never next
    below-statement (express-at r m) room next = each-link r (Below depth) (λ h. an-expression {depth = depth + 1} m (omega arith)) never never never next
    below-statement (block_at r m) room next = each-link r (Below depth) (a-list (depth + 1) m (omega arith)) never never never next
    below-statement (if-at r m n o) room next =
        each-link r (Below depth) (λ h. an-expression {depth = depth + 1} m (omega arith)) (λ h. a-branch (depth + 1) n (omega arith)) (λ h. a-branch (depth + 1) o (omega arith)) never next
    below-statement (while-at r m n) room next =
        each-link r (Below depth) (λ h. an-expression {depth = depth + 1} m (omega arith)) (λ h. a-branch (depth + 1) n (omega arith)) never never next
    below-statement (goto-at r) room next = each-link r (Below depth) never never never never next
    below-statement (abort-at r) room next = each-link r (Below depth) never never never never next
    below-statement (return-at r m) room next = each-link r (Below depth) (λ h. an-expression {depth = depth + 1} m (omega arith)) never never never next

  below : {row depth : ℕ} (field : ℕ) → field < 6 → Leads rows row field → Standing row depth → Standing (link rows row field) (handed field depth)
  unfolding sort_of kind_of kind_in kinds sort_in kind_row expression_fields statement_fields mark_fields definition_fields member_fields is_link
  below {row} {depth} field h leads (an-expression m room) = below-expression depth m room field h leads
  below {row} {depth} field h leads (a-statement m n room rest) = below-statement depth m room (a-list depth n rest) field h leads
  below {row} {depth} field h leads (an-argument m room) = below-argument depth m room field h leads
  below {row} {depth} field h leads (a-parameter m room) = below-parameter depth m room field h leads
  below {row} {depth} field h leads (a-definition m room) = below-definition depth m room field h leads
  below {row} {depth} field h leads (a-label r n room rest) = each-link r (Below depth) never never never never (a-list depth n rest) field h leads

  standing : Standing 0 1 → {row depth : ℕ} → Depth rows row depth → Standing row depth
  standing first root = first
  standing first (owned {row} {field} {depth} h leads d) =
      let further : handed field depth ≡ depth + 1 = rw (ne_eqb field 5 (λ e. omega arith)) in
      subst (Standing (link rows row field)) further (below field (omega arith) leads (standing first d))
  standing first (beside {row} {depth} leads d) = below 5 (omega arith) leads (standing first d)

  expression-deep : {e : Expression} {base : ℕ} → EmittedExpression rows e base → 1 ≤ expression_depth e
  unfolding expression_depth
  expression-deep (constant-at r v) = omega arith
  expression-deep (read_at (variable-at r)) = omega arith
  expression-deep (read_at (element-at r m)) = omega arith
  expression-deep (minus-at r m) = omega arith
  expression-deep (binary-at r m n) = omega arith
  expression-deep (assign-at r m n) = omega arith
  expression-deep (call_at r m) = omega arith

  statement-deep : {s : Statement} {base next : ℕ} → EmittedStatement rows s base next → 1 ≤ statement_depth s
  unfolding statement_depth
  statement-deep (empty-at r) = omega arith
  statement-deep (express-at r m) = omega arith
  statement-deep (block_at r m) = omega arith
  statement-deep (if-at r m n o) = omega arith
  statement-deep (while-at r m n) = omega arith
  statement-deep (goto-at r) = omega arith
  statement-deep (abort-at r) = omega arith
  statement-deep (return-at r m) = omega arith

  within : {row depth : ℕ} → Standing row depth → depth ≤ limit
  unfolding expression_depth statement_depth
  within (an-expression m room) = omega (arith, expression-deep m)
  within (a-statement m n room rest) = omega (arith, statement-deep m)
  within (a-label r n room rest) = room
  within (an-argument m room) = omega arith
  within (a-parameter m room) = room
  within (a-definition m room) = omega arith

  -- A table with a statement from row 0 on has no row deeper than the statement.
  pub emitted-depth : {s : Statement} → EmittedStatement rows s 0 0 → statement_depth s ≤ limit → (row depth : ℕ) → Depth rows row depth → depth ≤ limit
  emitted-depth m room row depth d = within (standing (a-branch 1 m (omega arith)) d)
