-- Depth: the tree of a structured table is no deeper than its rows: below a row of depth d that holds a tree of depth n there is a row of
-- depth d + n − 1. By recursion on the rows.
use Rattle.std.specs.Prelude.{◌≡◌, refl, true, List, ℕ, ◌+◌, ◌≤◌, ◌<◌, ℤ}
use Rattle.std.proofs.Math.Path.{subst}
use Rattle.std.proofs.Common.{arith}
use Rattle.words.specs.Table.{row_count}
use Rattle.words.specs.Layout.{depth_limit}
use Rattle.words.specs.declared.Form.{Form}
use Rattle.language.specs.Trees.{read}
use Rattle.language.specs.Decode.{expression_at, argument_list_at, statement_at, decode, list_at, arm_list_at, part_at, parameter_list_at}
use Rattle.language.specs.Sizes.{expression_depth, place_depth, arguments_depth, parameters_depth, part_depth, statement_depth, arms_depth, items_depth}
use Rattle.words.specs.Kinds.{between}
use Rattle.words.specs.Links.{link}
use Rattle.check_fields.specs.declared.Bounds.{Bounds}
use Rattle.check_structure.specs.Structured.{Leads, Structured, Depth, root, owned, beside, Shallow}
use Rattle.check_structure.specs.StructuredLaws.{structured-tree}
use Rattle.check_structure.specs.DepthLaws.{depth-inside}
use Rattle.accepted.specs.Sorts.{between-true}
use Rattle.accepted.proofs.Expressions.{ExpressionRow, constant-row, variable-row, element-row, minus-row, not-row, binary-row, and-row, or-row, comma-row, conditional-row, assign-row, compound-row, prefix-row, postfix-row, call-row, ArgumentsRow, no_arguments, argument-row, place_at}
use Rattle.accepted.proofs.Statements.{PartRow, absent-part, present-part, StatementRow, empty-row, express-row, block-row, if_then-row, if_else-row, while-row, do_while-row, for-row, switch-row, case_row, default_row, break-row, continue-row, goto-row, label-row, guarded_if-row, guarded_do-row, abort-row, declare-row, return-row, definition-row, ArmsRow, no-arms, arm-row, ListRow, no_items, item, case-item, default-item, label-item, definition-item, ParametersRow, no-parameters, parameter-row, root-row}

module _ (form : Form) (bounds : Bounds) (rows : List ℤ) (s : Structured form bounds rows) (shallow : Shallow form rows) where
  abbrev limit : ℕ
  limit = depth_limit form

  -- a tree of this depth fits below a row of depth `depth`
  abbrev Fits : ℕ → ℕ → Type 0
  Fits depth tree = depth + tree ≤ limit + 1

  inside : {row depth : ℕ} → Depth rows row depth → row < row_count rows
  inside = depth-inside rows (structured-tree form bounds rows s)

  -- the row that a field links is one deeper
  below : {row depth : ℕ} → Depth rows row depth → (field : ℕ) → between 1 4 field ≡ true → Leads rows row field → Depth rows (link rows row field) (depth + 1)
  below d field t l = let range = between-true 1 4 field t in owned {field = field} (omega arith) l d

  -- the same of a link that may be absent
  below-any : {row depth : ℕ} → Depth rows row depth → (field : ℕ) → between 1 4 field ≡ true → 0 < link rows row field → Depth rows (link rows row field) (depth + 1)
  below-any {row} d field t p =
      let range = between-true 1 4 field t in
      below d field t (s.forward row (inside d) field range.0 (omega arith) p)

  room : {row depth : ℕ} → Depth rows row depth → depth + 1 ≤ limit + 1
  room d = omega (arith, shallow _ _ d)

  -- a list's next item is as deep
  next : (row depth : ℕ) → Depth rows row depth → 0 < link rows row 5 → Depth rows (link rows row 5) depth
  next row depth d p = beside (s.forward row (inside d) 5 (omega arith) (omega arith) p) d

  deep-place : (row depth : ℕ) → expression_at rows row ≡ read (place_at rows row) → Fits depth (expression_depth (expression_at rows row)) → Fits depth (place_depth (place_at rows row))
  unfolding expression_depth
  deep-place row depth e n = subst (λ tree. Fits depth (expression_depth tree)) e n

  mutual
    unfolding expression_depth place_depth

    deep-expression : {row : ℕ} → ExpressionRow rows row → (depth : ℕ) → Depth rows row depth → Fits depth (expression_depth (expression_at rows row))
    deep-expression (constant-row k e) depth d = rw e (room d)
    deep-expression (variable-row k e) depth d = rw e (room d)
    deep-expression (element-row k p e x) depth d = rw e (omega (arith, deep-expression x _ (below d 2 refl p)))
    deep-expression (minus-row k p e x) depth d = rw e (omega (arith, deep-expression x _ (below d 1 refl p)))
    deep-expression (not-row k p e x) depth d = rw e (omega (arith, deep-expression x _ (below d 1 refl p)))
    deep-expression (binary-row k p q e x y) depth d = rw e (omega (arith, deep-expression x _ (below d 1 refl p), deep-expression y _ (below d 2 refl q)))
    deep-expression (and-row k p q e x y) depth d = rw e (omega (arith, deep-expression x _ (below d 1 refl p), deep-expression y _ (below d 2 refl q)))
    deep-expression (or-row k p q e x y) depth d = rw e (omega (arith, deep-expression x _ (below d 1 refl p), deep-expression y _ (below d 2 refl q)))
    deep-expression (comma-row k p q e x y) depth d = rw e (omega (arith, deep-expression x _ (below d 1 refl p), deep-expression y _ (below d 2 refl q)))
    deep-expression (conditional-row k p q r e x y z) depth d =
        rw e (omega (arith, deep-expression x _ (below d 1 refl p), deep-expression y _ (below d 2 refl q), deep-expression z _ (below d 3 refl r)))
    deep-expression {row} (assign-row k p q i e x y) depth d =
        rw e (omega (arith, deep-place (link rows row 1) (depth + 1) i (deep-expression x _ (below d 1 refl p)), deep-expression y _ (below d 2 refl q)))
    deep-expression {row} (compound-row k p q i e x y) depth d =
        rw e (omega (arith, deep-place (link rows row 1) (depth + 1) i (deep-expression x _ (below d 1 refl p)), deep-expression y _ (below d 2 refl q)))
    deep-expression {row} (prefix-row k p i e x) depth d = rw e (omega (arith, deep-place (link rows row 1) (depth + 1) i (deep-expression x _ (below d 1 refl p))))
    deep-expression {row} (postfix-row k p i e x) depth d = rw e (omega (arith, deep-place (link rows row 1) (depth + 1) i (deep-expression x _ (below d 1 refl p))))
    deep-expression {row} (call-row k e x) depth d = rw e (omega (arith, deep-arguments x _ (room d) (below-any d 2 refl)))

    deep-arguments : {l : ℕ} → ArgumentsRow rows l → (depth : ℕ) → depth ≤ limit + 1 → (0 < l → Depth rows l depth) → Fits depth (arguments_depth (argument_list_at rows l))
    deep-arguments (no_arguments z e) depth h d = rw e (omega arith)
    deep-arguments {l} (argument-row p k q e x y) depth h d = rw e (omega (arith, deep-expression x _ (below (d p) 1 refl q), deep-arguments y depth h (next l depth (d p))))

  deep-part : {l : ℕ} → PartRow rows l → (depth : ℕ) → depth ≤ limit + 1 → (0 < l → Depth rows l depth) → Fits depth (part_depth (part_at rows l))
  deep-part (absent-part z e) depth h d = rw e (omega arith)
  deep-part (present-part p e x) depth h d = rw e (deep-expression x depth (d p))

  deep-parameters : {l : ℕ} → ParametersRow rows l → (depth : ℕ) → depth ≤ limit + 1 → (0 < l → Depth rows l depth) → Fits depth (parameters_depth (parameter_list_at rows l))
  deep-parameters (no-parameters z e) depth h d = rw e (omega arith)
  deep-parameters (parameter-row p k z e x) depth h d = rw e (room (d p))

  mutual
    unfolding statement_depth arms_depth items_depth

    deep-statement : {row : ℕ} → StatementRow rows row → (depth : ℕ) → Depth rows row depth → Fits depth (statement_depth (statement_at rows row))
    deep-statement (empty-row k e) depth d = rw e (room d)
    deep-statement (express-row k p e x) depth d = rw e (omega (arith, deep-expression x _ (below d 1 refl p)))
    deep-statement (block-row k e x) depth d = rw e (omega (arith, deep-list x _ (room d) (below-any d 1 refl)))
    deep-statement (if_then-row k p q z e x y) depth d = rw e (omega (arith, deep-expression x _ (below d 1 refl p), deep-statement y _ (below d 2 refl q)))
    deep-statement (if_else-row k p q r e x y z) depth d =
        rw e (omega (arith, deep-expression x _ (below d 1 refl p), deep-statement y _ (below d 2 refl q), deep-statement z _ (below d 3 refl r)))
    deep-statement (while-row k p q e x y) depth d = rw e (omega (arith, deep-expression x _ (below d 1 refl p), deep-statement y _ (below d 2 refl q)))
    deep-statement (do_while-row k p q e x y) depth d = rw e (omega (arith, deep-statement x _ (below d 1 refl p), deep-expression y _ (below d 2 refl q)))
    deep-statement (for-row k p e x y z w) depth d =
        rw e (omega (arith, deep-part x _ (room d) (below-any d 1 refl), deep-part y _ (room d) (below-any d 2 refl), deep-part z _ (room d) (below-any d 3 refl), deep-statement w _ (below d 4 refl p)))
    deep-statement (switch-row k p e x y) depth d = rw e (omega (arith, deep-expression x _ (below d 1 refl p), deep-list y _ (room d) (below-any d 2 refl)))
    deep-statement (case_row k e) depth d = rw e (room d)
    deep-statement (default_row k e) depth d = rw e (room d)
    deep-statement (break-row k e) depth d = rw e (room d)
    deep-statement (continue-row k e) depth d = rw e (room d)
    deep-statement (goto-row k e) depth d = rw e (room d)
    deep-statement (label-row k e) depth d = rw e (room d)
    deep-statement (guarded_if-row k e x) depth d = rw e (omega (arith, deep-arms x _ (room d) (below-any d 1 refl)))
    deep-statement (guarded_do-row k e x) depth d = rw e (omega (arith, deep-arms x _ (room d) (below-any d 1 refl)))
    deep-statement (abort-row k e) depth d = rw e (room d)
    deep-statement (declare-row k p e x) depth d = rw e (omega (arith, deep-expression x _ (below d 2 refl p)))
    deep-statement (return-row k e x) depth d = rw e (omega (arith, deep-part x _ (room d) (below-any d 1 refl)))
    deep-statement (definition-row k e) depth d = rw e (room d)

    deep-arms : {l : ℕ} → ArmsRow rows l → (depth : ℕ) → depth ≤ limit + 1 → (0 < l → Depth rows l depth) → Fits depth (arms_depth (arm_list_at rows l))
    deep-arms (no-arms z e) depth h d = rw e (omega arith)
    deep-arms {l} (arm-row p k q r e x y z) depth h d =
        rw e (omega (arith, deep-expression x _ (below (d p) 1 refl q), deep-statement y _ (below (d p) 2 refl r), deep-arms z depth h (next l depth (d p))))

    deep-list : {l : ℕ} → ListRow rows l → (depth : ℕ) → depth ≤ limit + 1 → (0 < l → Depth rows l depth) → Fits depth (items_depth (list_at rows l))
    deep-list (no_items z e) depth h d = rw e (omega arith)
    deep-list {l} (item p e x y) depth h d = rw e (omega (arith, deep-statement x depth (d p), deep-list y depth h (next l depth (d p))))
    deep-list {l} (case-item p k e x y) depth h d = rw e (omega (arith, shallow _ _ (d p), deep-list y depth h (next l depth (d p))))
    deep-list {l} (default-item p k e x y) depth h d = rw e (omega (arith, shallow _ _ (d p), deep-list y depth h (next l depth (d p))))
    deep-list {l} (label-item p k e x y) depth h d = rw e (omega (arith, shallow _ _ (d p), deep-list y depth h (next l depth (d p))))
    deep-list {l} (definition-item p k q c b e x y z) depth h d =
        let body = below (d p) 3 refl q in
        rw e (omega (arith, deep-parameters x _ (room (d p)) (below-any (d p) 2 refl), deep-list y _ (room body) (below-any body 1 refl), deep-list z depth h (next l depth (d p))))

-- "Depth: row 0 has 1, a row has its owner's plus 1, items of one list share theirs." The tree's depth is within the form's limit.
pub structured-depth : (form : Form) (bounds : Bounds) (rows : List ℤ) → Structured form bounds rows → Shallow form rows → statement_depth (decode rows) ≤ depth_limit form
unfolding decode
structured-depth form bounds rows s shallow = omega (arith, deep-statement form bounds rows s shallow (root-row form bounds rows s) 1 root)
