-- Tables without the kinds of functions: their programs have no functions and no calls, so that their trees are read in the plain context. By
-- induction on the links.
use Rattle.std.specs.Prelude.{◌≡◌, List, ltb, ℤ}
use Rattle.std.proofs.Math.Path.{refl, ap}
use Rattle.std.proofs.Common.{sym, ◌∙◌, true≢false, arith}
use Rattle.std.proofs.Math.Bool.{Bool, true, false}
use Prim.Native.Nat.{ℕ, zero, suc, ◌<◌}
use Rattle.std.proofs.Math.Decide.{dec_lt}
use Rattle.words.specs.Word.{pick}
use Rattle.words.specs.Table.{row_count, Whole, word_at, number_at}
use Rattle.words.specs.Kinds.{kind_of, kind_at, is_function_number}
use Rattle.words.specs.KindLaws.{definition-number}
use Rattle.words.specs.Layout.{layout_of}
use Rattle.words.specs.declared.Form.{Form}
use Rattle.words.specs.declared.Kind.{Kind}
use Rattle.words.specs.declared.Kind.TheVariants.{OfExpression, OfStatement, OfMark, OfMember, Definition, Other}
use Rattle.words.specs.declared.MarkKind.TheVariants.{Case, Default, Label}
use Rattle.computation.specs.Computation.{Computation}
use Rattle.language.specs.Trees.{Statement, Items, none}
use Rattle.language.specs.Decode.{later, items_of, trees_of, trees_by, items_at, list_at, decode}
use Rattle.language.specs.DecodeLaws.{kind-beyond}
use Rattle.language.specs.Meaning.{Context, Signal, exec}
use Rattle.language.specs.Functions.{function_count, context_of, plain}
use Rattle.language.proofs.FunctionLaws.{context-plain}
use Rattle.language.specs.Program.{contents, table_program}

module _ (rows : List ℤ) (whole : Whole rows) (without : (row : ℕ) → row < row_count rows → is_function_number (number_at rows row 0) ≡ false) where
  no_definition : (row : ℕ) → kind_at rows row ≡ Definition → ⊥
  unfolding kind_at
  no_definition row k = go (dec_lt row (row_count rows))
    where
      is_definition : Kind → Bool
      is_definition (OfExpression kind) = false
      is_definition (OfStatement kind) = false
      is_definition (OfMark kind) = false
      is_definition (OfMember kind) = false
      is_definition Definition = true
      is_definition Other = false

      go : Dec (row < row_count rows) → ⊥
      go (yes h) = true≢false (sym (definition-number (number_at rows row 0) k) ∙ without row h)
      go (no h) = true≢false (ap is_definition (sym k ∙ kind-beyond rows whole row (omega (arith, h))))

  none-counted : (kind : Kind) (word : ℕ → ℤ) (s : Statement) (words : List ℕ) (body : Statement) (is : Items) → (kind ≡ Definition → ⊥) → function_count is ≡ 0
      → function_count (items_of kind word s words body is) ≡ 0
  unfolding items_of function_count
  none-counted (OfExpression kind) word s words body is n e = e
  none-counted (OfStatement kind) word s words body is n e = e
  none-counted (OfMark Case) word s words body is n e = e
  none-counted (OfMark Default) word s words body is n e = e
  none-counted (OfMark Label) word s words body is n e = e
  none-counted (OfMember kind) word s words body is n e = e
  none-counted Definition word s words body is n e = absurd (n refl)
  none-counted Other word s words body is n e = refl

  counted-by : (links row : ℕ) → function_count (trees_by links rows row).items ≡ 0
  unfolding trees_by trees_of function_count
  counted-by zero row = refl
  counted-by (suc links) row = none-counted (kind_at rows row) (word_at rows row) _ _ _ _ (no_definition row) (behind (ltb row _) _ (λ l. counted-by links l))
    where
      behind : (onward : Bool) (l : ℕ) → ((k : ℕ) → function_count (trees_by links rows k).items ≡ 0) → function_count (pick onward (trees_by links rows l).items none) ≡ 0
      behind true l h = h l
      behind false l h = refl

  pub no-functions : function_count (contents rows) ≡ 0
  unfolding contents items_at function_count
  no-functions = go (number_at rows 0 1)
    where
      go : (l : ℕ) → function_count (list_at rows l) ≡ 0
      go zero = refl
      go (suc l) = counted-by (row_count rows) (suc l)

  -- What such a table does.
  pub plain-table : (form : Form) (header : List ℤ) → table_program form header rows ≡ exec (plain (layout_of form header)) (decode rows)
  unfolding table_program
  plain-table form header = ap (λ (C : Context). exec C (decode rows)) (context-plain (layout_of form header) (contents rows) no-functions)
