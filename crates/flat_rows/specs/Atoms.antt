-- Atoms: the operand that an atom's row holds: a constant's value, or a variable's number.
use Rattle.std.specs.Prelude.{◌≡◌, true, List, ℕ, ℤ}
use Rattle.std.proofs.Common.{sym, ◌∙◌}
use Rattle.std.proofs.Math.Path.{ap}
use native.Mathlib.Omega.{arith}
use Rattle.std.proofs.Math.Decide.{ℕ_discrete}
use Rattle.std.proofs.Math.Arith.{lt_of_le-ne}
use Rattle.words.specs.Table.{word_at, number_at}
use Rattle.words.specs.Kinds.{kinds, kind_in, kind_of, kind_at}
use Rattle.words.specs.declared.Form.TheVariants.{Kernel}
use Rattle.language.specs.Decode.{expression_at}
use Rattle.language.specs.DecodeLaws.{at_constant, at-variable}
use Rattle.check_fields.specs.Fields.{bounds_of}
use Rattle.check_kernel_statements.specs.Statements.{is_atom}
use Rattle.accepted.specs.Sorts.{between-true}
use Rattle.accepted.proofs.Expressions.{whole-rows}
use Rattle.flat_kernel_rows.specs.KernelTable.{KernelTable}
use Rattle.flat.specs.Lines.{number, word}
use Rattle.flat_fate.specs.Code.{operand_of}

module _ {rows : List ℤ} (table : KernelTable rows) (a : ℕ) where
  kind-of : (k : ℕ) → number_at rows a 0 ≡ k → kind_at rows a ≡ kind_of k
  unfolding kind_at
  kind-of k e = ap kind_of e

  pub constant-operand : number_at rows a 0 ≡ 1 → operand_of (expression_at rows a) ≡ number (word_at rows a 1)
  unfolding kind_of kind_in kinds
  constant-operand k = rw (at_constant rows (whole-rows Kernel (bounds_of Kernel table.header) rows table.plain.legal.structured) a (kind-of 1 k))

  pub variable-operand : number_at rows a 0 ≡ 2 → operand_of (expression_at rows a) ≡ word (number_at rows a 1)
  unfolding kind_of kind_in kinds
  variable-operand k = rw (at-variable rows (whole-rows Kernel (bounds_of Kernel table.header) rows table.plain.legal.structured) a (kind-of 2 k))

  -- "An atom is a constant or variable."
  pub other-atom : is_atom rows a ≡ true → (number_at rows a 0 ≡ 1 → ⊥) → number_at rows a 0 ≡ 2
  unfolding is_atom
  other-atom e h =
      let range = between-true 1 2 (number_at rows a 0) e in
      let least = lt_of_le-ne range.0 (λ (q : 1 ≡ number_at rows a 0). h (sym q)) in
      let most = range.1 in
      omega arith
