-- Laws of outlines: an item's lines are those of its outline, and its blocks are rows of the table.
use Rattle.std.specs.Prelude.{◌≡◌, ℕ, zero, suc, ◌+◌, ◌<◌, ℤ}
use Rattle.std.proofs.Math.Path.{refl, ap}
use Rattle.std.proofs.Common.{sym, subst, ◌∙◌}
use mathlib.Core.List.{List, [], ◌∷◌, ◌++◌, append_assoc}
use native.Mathlib.Omega.{arith}
use Rattle.words.specs.Table.{row_count, number_at}
use Rattle.language.specs.Trees.{Statement, empty, express, block, if_then, if_else, while, do_while, for, switch, break, continue, goto, guarded_if, guarded_do, abort, declare, give_back, Items, ◌then◌}
use Rattle.language.specs.Decode.{block_items, parameter_list_at, statement_at, items_at, list_at}
use Rattle.language_shapes.specs.Shapes.{shape_at, statement_in, item_in, statement_tree, mark_tree, StatementOnward, StatementWithin, ItemAt}
use Rattle.language_shapes.specs.ShapeLaws.{statement-found, item-found, stated, itemed}
use Rattle.language_shapes.specs.declared.Shape.{Shape}
use Rattle.language_shapes.specs.declared.Shape.TheVariants.{OfExpression, OfStatement, OfMark, OfArm, OfArgument, OfDefinition, Other}
use Rattle.language_shapes.specs.declared.StatementShape.{StatementShape}
use Rattle.language_shapes.specs.declared.StatementShape.TheVariants as statement
use Rattle.language_shapes.specs.declared.MarkShape.{MarkShape}
use Rattle.language_shapes.specs.declared.MarkShape.TheVariants.{Case, Default, Label}
use Rattle.language_shapes.specs.declared.Item.{Item}
use Rattle.language_shapes.specs.declared.Item.TheVariants as item
use Rattle.page.specs.Lines.{Indented, indented, mark, closes, definition_lines, statement_lines, branch_lines, items_lines}
use Rattle.page_line.specs.Reads.{Readable}
use Rattle.page_line.specs.ReadsLaws.{optional-inside}
use Rattle.page_printer.specs.declared.Outline.{Outline}
use Rattle.page_printer.specs.declared.Outline.TheVariants.{Defined}
use Rattle.page_printer.specs.Outlines.{statement_outline, outline_of, outline_at, list_of, list_in, block_list, outlined, OutlineInside, ExpressInside}
use Rattle.page_printer.specs.AssignmentLaws.{express-lines, express-inside}

-- a mark's tree does not hang on the table
mark-same : (rows : List ℤ) (m : MarkShape) → mark_tree rows m ≡ mark_tree [] m
mark-same rows (Case v) = refl
mark-same rows Default = refl
mark-same rows (Label l) = refl

-- a block's lines are those of its items
branch-items : (level : ℕ) (s : Statement) → branch_lines level s ≡ items_lines level (block_items s)
unfolding statement_lines
branch-items level empty = refl
branch-items level (express e) = refl
branch-items level (block is) = refl
branch-items level (if_then e on_true) = refl
branch-items level (if_else e on_true on_false) = refl
branch-items level (while e body) = refl
branch-items level (do_while body e) = refl
branch-items level (for first test action body) = refl
branch-items level (switch e is) = refl
branch-items level break = refl
branch-items level continue = refl
branch-items level (goto l) = refl
branch-items level (guarded_if arms) = refl
branch-items level (guarded_do arms) = refl
branch-items level abort = refl
branch-items level (declare word e) = refl
branch-items level (give_back value) = refl

module _ {rows : List ℤ} (readable : Readable rows) {row : ℕ} (inside : row < row_count rows) where
  -- any number is a name here
  abbrev Any : ℕ → Type 0
  Any i = Unit {0}

  at-statement : (s : Shape) → shape_at rows row ≡ s → StatementWithin rows row Any (statement_in s)
  at-statement s e = stated (statement-found readable.sound inside Any (λ k. tt)) (ap statement_in e)

  -- ---- lines

  statement-outlined : (level : ℕ) (s : StatementShape) → StatementOnward rows row Any s → statement_at rows row ≡ statement_tree rows s
      → statement_lines level (statement_tree rows s) ≡ outlined rows level (statement_outline rows row s)
  unfolding statement_lines
  statement-outlined level statement.Empty o e = refl
  statement-outlined level (statement.Express a) o e = express-lines readable level a o.inside
  statement-outlined level (statement.Block list) o e = rw e
  statement-outlined level (statement.If a b zero) o e = refl
  statement-outlined level (statement.If a b (suc c)) o e = refl
  statement-outlined level (statement.While a b) o e = refl
  statement-outlined level (statement.Do a b) o e = refl
  statement-outlined level (statement.For a b c d) o e = refl
  statement-outlined level (statement.Switch a b) o e = refl
  statement-outlined level statement.Break o e = refl
  statement-outlined level statement.Continue o e = refl
  statement-outlined level (statement.Goto a) o e = refl
  statement-outlined level (statement.GuardedIf a) o e = refl
  statement-outlined level (statement.GuardedDo a) o e = refl
  statement-outlined level statement.Abort o e = refl
  statement-outlined level (statement.Declare a b) o e = refl
  statement-outlined level (statement.Return a) o e = refl

  module _ (level : ℕ) where
    abbrev behind : List Indented
    behind = items_lines level (list_at rows (number_at rows row 5))

    as-statement : (s : Shape) → shape_at rows row ≡ s → item_in s ≡ item.Statement → items_lines level (items_at rows row) ≡ outlined rows level (statement_outline rows row (statement_in s)) ++ behind
    unfolding statement_lines
    as-statement s e g =
        let found = itemed (item-found readable.sound inside) (ap item_in e ∙ g) in
        let own = at-statement s e in
        ap (items_lines level) found.is ∙ ap (λ (x : Statement). statement_lines level x ++ behind) own.is
        ∙ ap (λ (x : List Indented). x ++ behind) (statement-outlined level (statement_in s) own.onward own.is)

    -- the lines of a definition, with those behind it
    defined-lines : (f words body : ℕ) (rest : List Indented)
        → definition_lines level f (parameter_list_at rows words) ++ (items_lines (level + 1) (block_items (statement_at rows body)) ++ (indented level closes ∷ rest)) ≡ outlined rows level (Defined f words body) ++ rest
    defined-lines f words body rest =
        let first = definition_lines level f (parameter_list_at rows words) in
        let inner = branch_lines (level + 1) (statement_at rows body) in
        ap (λ (l : List Indented). first ++ (l ++ (indented level closes ∷ rest))) (sym (branch-items (level + 1) (statement_at rows body)))
        ∙ sym (append_assoc first (inner ++ (indented level closes ∷ [])) rest ∙ ap (λ (l : List Indented). first ++ l) (append_assoc inner (indented level closes ∷ []) rest))

    pub item-lines : items_lines level (items_at rows row) ≡ outlined rows level (outline_at rows row) ++ behind
    unfolding outline_at statement_lines
    item-lines = go (shape_at rows row) refl
      where
        go : (s : Shape) → shape_at rows row ≡ s → items_lines level (items_at rows row) ≡ outlined rows level (outline_of rows row s) ++ behind
        go (OfExpression x) e = as-statement (OfExpression x) e refl
        go (OfStatement x) e = as-statement (OfStatement x) e refl
        go (OfMark m) e =
            let found = itemed (item-found readable.sound inside) (ap item_in e) in
            ap (items_lines level) found.is ∙ ap (λ x. indented level (mark x) ∷ behind) (mark-same rows m)
        go (OfArm guard body) e = as-statement (OfArm guard body) e refl
        go (OfArgument x) e = as-statement (OfArgument x) e refl
        go (OfDefinition f words body) e =
            let found = itemed (item-found readable.sound inside) (ap item_in e) in
            ap (items_lines level) found.is ∙ defined-lines f words body behind
        go Other e = as-statement Other e refl

    list-lines : (s : StatementShape) → branch_lines level (statement_tree rows s) ≡ items_lines level (list_at rows (list_of s))
    unfolding statement_lines
    list-lines statement.Empty = refl
    list-lines (statement.Express a) = refl
    list-lines (statement.Block list) = refl
    list-lines (statement.If a b zero) = refl
    list-lines (statement.If a b (suc c)) = refl
    list-lines (statement.While a b) = refl
    list-lines (statement.Do a b) = refl
    list-lines (statement.For a b c d) = refl
    list-lines (statement.Switch a b) = refl
    list-lines statement.Break = refl
    list-lines statement.Continue = refl
    list-lines (statement.Goto a) = refl
    list-lines (statement.GuardedIf a) = refl
    list-lines (statement.GuardedDo a) = refl
    list-lines statement.Abort = refl
    list-lines (statement.Declare a b) = refl
    list-lines (statement.Return a) = refl

    pub block-lines : branch_lines level (statement_at rows row) ≡ items_lines level (list_at rows (block_list rows row))
    unfolding block_list
    block-lines = go (shape_at rows row) refl
      where
        go : (s : Shape) → shape_at rows row ≡ s → branch_lines level (statement_at rows row) ≡ items_lines level (list_at rows (list_in s))
        go (OfExpression x) e = ap (branch_lines level) (at-statement (OfExpression x) e).is ∙ list-lines statement.Empty
        go (OfStatement x) e = ap (branch_lines level) (at-statement (OfStatement x) e).is ∙ list-lines x
        go (OfMark m) e = ap (branch_lines level) (at-statement (OfMark m) e).is ∙ list-lines statement.Empty
        go (OfArm guard body) e = ap (branch_lines level) (at-statement (OfArm guard body) e).is ∙ list-lines statement.Empty
        go (OfArgument x) e = ap (branch_lines level) (at-statement (OfArgument x) e).is ∙ list-lines statement.Empty
        go (OfDefinition f words body) e = ap (branch_lines level) (at-statement (OfDefinition f words body) e).is ∙ list-lines statement.Empty
        go Other e = ap (branch_lines level) (at-statement Other e).is ∙ list-lines statement.Empty

  -- ---- rows

  pub next_inside : number_at rows row 5 < row_count rows
  next_inside = optional-inside rows row inside (number_at rows row 5) (item-found readable.sound inside).onward

  pub next-later : 0 < number_at rows row 5 → row < number_at rows row 5
  next-later h = ((item-found readable.sound inside).onward h).later

  statement-inside : (s : StatementShape) → StatementOnward rows row Any s → OutlineInside (row_count rows) (statement_outline rows row s)
  statement-inside statement.Empty o = tt
  statement-inside (statement.Express a) o = express-inside readable a o.inside
  statement-inside (statement.Block list) o = (tt, inside)
  statement-inside (statement.If a b zero) o = tt
  statement-inside (statement.If a b (suc c)) o = (o.0.inside, o.1.inside, (o.2 (omega arith)).inside)
  statement-inside (statement.While a b) o = (o.0.inside, o.1.inside)
  statement-inside (statement.Do a b) o = tt
  statement-inside (statement.For a b c d) o = tt
  statement-inside (statement.Switch a b) o = tt
  statement-inside statement.Break o = tt
  statement-inside statement.Continue o = tt
  statement-inside (statement.Goto a) o = tt
  statement-inside (statement.GuardedIf a) o = tt
  statement-inside (statement.GuardedDo a) o = tt
  statement-inside statement.Abort o = tt
  statement-inside (statement.Declare a b) o = tt
  statement-inside (statement.Return a) o = optional-inside rows row inside a o

  pub statement-expression : {s : StatementShape} → shape_at rows row ≡ OfStatement s → ExpressInside (row_count rows) s
  statement-expression {s} e = go s (at-statement (OfStatement s) e).onward
    where
      go : (s : StatementShape) → StatementOnward rows row Any s → ExpressInside (row_count rows) s
      go statement.Empty o = tt
      go (statement.Express a) o = o.inside
      go (statement.Block list) o = tt
      go (statement.If a b c) o = tt
      go (statement.While a b) o = tt
      go (statement.Do a b) o = tt
      go (statement.For a b c d) o = tt
      go (statement.Switch a b) o = tt
      go statement.Break o = tt
      go statement.Continue o = tt
      go (statement.Goto a) o = tt
      go (statement.GuardedIf a) o = tt
      go (statement.GuardedDo a) o = tt
      go statement.Abort o = tt
      go (statement.Declare a b) o = tt
      go (statement.Return a) o = tt

  pub outline-inside : OutlineInside (row_count rows) (outline_at rows row)
  unfolding outline_at
  outline-inside = go (shape_at rows row) refl
    where
      go : (s : Shape) → shape_at rows row ≡ s → OutlineInside (row_count rows) (outline_of rows row s)
      go (OfExpression x) e = tt
      go (OfStatement x) e = statement-inside x (at-statement (OfStatement x) e).onward
      go (OfMark m) e = tt
      go (OfArm guard body) e = tt
      go (OfArgument x) e = tt
      go (OfDefinition f words body) e =
          let found = itemed (item-found readable.sound inside) (ap item_in e) in
          (optional-inside rows row inside words found.parts.0, found.parts.1.inside)
      go Other e = tt

  list_inside : (s : StatementShape) → StatementOnward rows row Any s → list_of s < row_count rows
  list_inside statement.Empty o = omega arith
  list_inside (statement.Express a) o = omega arith
  list_inside (statement.Block list) o = optional-inside rows row inside list o
  list_inside (statement.If a b c) o = omega arith
  list_inside (statement.While a b) o = omega arith
  list_inside (statement.Do a b) o = omega arith
  list_inside (statement.For a b c d) o = omega arith
  list_inside (statement.Switch a b) o = omega arith
  list_inside statement.Break o = omega arith
  list_inside statement.Continue o = omega arith
  list_inside (statement.Goto a) o = omega arith
  list_inside (statement.GuardedIf a) o = omega arith
  list_inside (statement.GuardedDo a) o = omega arith
  list_inside statement.Abort o = omega arith
  list_inside (statement.Declare a b) o = omega arith
  list_inside (statement.Return a) o = omega arith

  pub block_inside : block_list rows row < row_count rows
  unfolding block_list
  block_inside = go (shape_at rows row) refl
    where
      go : (s : Shape) → shape_at rows row ≡ s → list_in s < row_count rows
      go (OfExpression x) e = omega arith
      go (OfStatement x) e = list_inside x (at-statement (OfStatement x) e).onward
      go (OfMark m) e = omega arith
      go (OfArm guard body) e = omega arith
      go (OfArgument x) e = omega arith
      go (OfDefinition f words body) e = omega arith
      go Other e = omega arith
