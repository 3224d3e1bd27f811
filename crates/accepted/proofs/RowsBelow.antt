-- Rows below: the tree at a row of a structured table has at most as many rows as the table. By induction along the links: a row's tree is part
-- of that of the row that links it.
use Rattle.std.specs.Prelude.{◌≡◌, true, List, ℤ}
use Rattle.std.proofs.Math.Path.{refl}
use Rattle.std.proofs.Common.{◌∙◌, arith, ne_eqb}
use Rattle.std.proofs.Math.Bool.{false}
use Prim.Native.Nat.{ℕ, zero, suc, ◌+◌, ◌≤◌, ◌<◌}
use Rattle.words.specs.Table.{row_count}
use Rattle.words.specs.Kinds.{kind_at, is_expression_kind}
use Rattle.words.specs.Links.{is_expression, link}
use Rattle.words.specs.declared.Form.{Form}
use Rattle.words.specs.declared.Kind.{Kind}
use Rattle.words.specs.declared.Kind.TheVariants.{OfExpression, OfStatement, OfMark, OfMember, Definition, Other}
use Rattle.language.specs.Decode.{expression_at}
use Rattle.language.specs.DecodeLaws.{at-no-expression}
use Rattle.language.specs.Sizes.{expression_rows}
use Rattle.check_grammar.specs.GrammarLaws.{kind-links-none}
use Rattle.check_fields.specs.declared.Bounds.{Bounds}
use Rattle.check_function_causes.specs.Demands.{DefinedInOrder}
use Rattle.check_structure.specs.LinkLaws.{by-owner}
use Rattle.check_structure.specs.Structured.{Leads, Structured}
use Rattle.check_structure.specs.StructuredLaws.{structured-tree}
use Rattle.accepted.specs.Sorts.{sort-is, operand-is}
use Rattle.accepted.proofs.Expressions.{whole-rows}
use Rattle.accepted.specs.Sums.{total_from, along, brought, total-one, gathers}
use Rattle.accepted.specs.TreeRows.{tree_rows}
use Rattle.accepted.proofs.Rows.{expression-weight, row-adds}

-- one term of a sum
term-most : (f : ℕ → ℕ) (field : ℕ) → 1 ≤ field → field < 6 → f field ≤ total_from f 1 5
unfolding total_from
term-most f zero h l = absurd (omega arith)
term-most f (suc zero) h l = omega arith
term-most f (suc (suc zero)) h l = omega arith
term-most f (suc (suc (suc zero))) h l = omega arith
term-most f (suc (suc (suc (suc zero)))) h l = omega arith
term-most f (suc (suc (suc (suc (suc zero))))) h l = omega arith
term-most f (suc (suc (suc (suc (suc (suc field)))))) h l = absurd (omega arith)

module _ (form : Form) (bounds : Bounds) (rows : List ℤ) (s : Structured form bounds rows) (ordered : (row : ℕ) → row < row_count rows → DefinedInOrder rows row) where
  all-rows : tree_rows rows 0 ≡ row_count rows
  all-rows = gathers (tree_rows rows) rows (structured-tree form bounds rows s) (λ row. 1) (row-adds form bounds rows s ordered) ∙ total-one (row_count rows)

  part-below : (owner field : ℕ) → field < 6 → Leads rows owner field → tree_rows rows owner ≤ row_count rows → tree_rows rows (link rows owner field) ≤ row_count rows
  unfolding along
  part-below owner zero last leads most = absurd (omega (arith, leads.later, kind-links-none rows owner))
  part-below owner (suc field) last leads most =
      let own = row-adds form bounds rows s ordered owner (omega (arith, leads.later, leads.inside)) in
      let one = term-most (brought (tree_rows rows) rows owner) (suc field) (omega arith) last in
      let some : brought (tree_rows rows) rows owner (suc field) ≡ tree_rows rows (link rows owner (suc field)) = rw (ne_eqb (link rows owner (suc field)) 0 (λ z. omega (arith, leads.later))) in
      omega (arith, own, one, some)

  rows-below : (row : ℕ) → row < row_count rows → tree_rows rows row ≤ row_count rows
  rows-below = by-owner rows (structured-tree form bounds rows s) (λ row. tree_rows rows row ≤ row_count rows) (omega (arith, all-rows)) part-below

  -- An expression's; a row that is none counts as the constant 0.
  pub expression-below : (row : ℕ) → row < row_count rows → expression_rows (expression_at rows row) ≤ row_count rows
  unfolding is_expression expression_rows
  expression-below row inside = go (kind_at rows row) refl
    where
      none : is_expression_kind (kind_at rows row) ≡ false → expression_rows (expression_at rows row) ≤ row_count rows
      none n = rw (at-no-expression rows (whole-rows form bounds rows s) row n) (omega arith)

      go : (kind : Kind) → kind_at rows row ≡ kind → expression_rows (expression_at rows row) ≤ row_count rows
      go (OfExpression kind) k =
          let is : is_expression rows row ≡ true = rw (sort-is rows row 0, k) (operand-is rows row k) in
          omega (arith, expression-weight form bounds rows s ordered row is, rows-below row inside)
      go (OfStatement kind) k = none (rw k)
      go (OfMark kind) k = none (rw k)
      go (OfMember kind) k = none (rw k)
      go Definition k = none (rw k)
      go Other k = none (rw k)
