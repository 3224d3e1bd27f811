-- Names in expressions: every variable number of an expression has a property that holds at the rows below it, and every array number names an
-- array. By recursion on the rows.
use Rattle.std.specs.Prelude.{◌≡◌, refl, List, ℕ, ◌<◌, ℤ}
use Rattle.std.proofs.Math.Path.{subst}
use Rattle.std.proofs.Common.{arith}
use Rattle.words.specs.Table.{row_count, number_at}
use Rattle.words.specs.Kinds.{kind_at, kind_row, expression_fields, statement_fields, mark_fields, definition_fields, member_fields, sort_in}
use Rattle.words.specs.declared.Form.{Form}
use Rattle.words.specs.declared.Kind.TheVariants.{OfExpression, OfMember}
use Rattle.words.specs.declared.ExpressionKind.TheVariants.{Variable}
use Rattle.words.specs.declared.MemberKind.TheVariants.{Argument}
use Rattle.language.specs.Trees.{read}
use Rattle.language.specs.Decode.{expression_at, argument_list_at, part_at}
use Rattle.language.specs.WellFormed.{NamedExpression, NamedPlace, NamedArguments, NamedPart}
use Rattle.words.specs.Links.{link}
use Rattle.check_fields.specs.declared.Bounds.{Bounds}
use Rattle.check_structure.specs.Structured.{Leads, Structured}
use Rattle.accepted.proofs.Fields.{leads-on, names-array}
use Rattle.accepted.proofs.Expressions.{ExpressionRow, constant-row, variable-row, element-row, minus-row, not-row, binary-row, and-row, or-row, comma-row, conditional-row, assign-row, compound-row, prefix-row, postfix-row, call-row, ArgumentsRow, no_arguments, argument-row, place_at}
use Rattle.accepted.proofs.Statements.{PartRow, absent-part, present-part}

-- `Below` holds of the rows at which variable numbers satisfy `Names`; it goes down the links, and along arguments.
module _ (form : Form) (bounds : Bounds) (rows : List ℤ) (s : Structured form bounds rows) (Names Below : ℕ → Type 0)
    (names : (row : ℕ) → row < row_count rows → kind_at rows row ≡ OfExpression Variable → Below row → Names (number_at rows row 1))
    (down : (row field : ℕ) → field < 5 → Leads rows row field → Below row → Below (link rows row field))
    (beside : (row : ℕ) → kind_at rows row ≡ OfMember Argument → Leads rows row 5 → Below row → Below (link rows row 5)) where
  abbrev arrays : ℕ
  arrays = bounds.arrays

  -- an operand that is a place
  named-place : (row : ℕ) → expression_at rows row ≡ read (place_at rows row) → NamedExpression Names arrays (expression_at rows row) → NamedPlace Names arrays (place_at rows row)
  unfolding NamedExpression
  named-place row e n = subst (NamedExpression Names arrays) e n

  mutual
    unfolding NamedExpression NamedPlace sort_in kind_row expression_fields statement_fields mark_fields definition_fields member_fields

    pub named-below : {row : ℕ} → ExpressionRow rows row → row < row_count rows → Below row → NamedExpression Names arrays (expression_at rows row)
    named-below (constant-row k e) n b = rw e tt
    named-below {row} (variable-row k e) n b = rw e (names row n k b)
    named-below {row} (element-row k p e x) n b = rw e (names-array form bounds rows s row n k 1 refl, named-below x p.inside (down row 2 (omega arith) p b))
    named-below {row} (minus-row k p e x) n b = rw e (named-below x p.inside (down row 1 (omega arith) p b))
    named-below {row} (not-row k p e x) n b = rw e (named-below x p.inside (down row 1 (omega arith) p b))
    named-below {row} (binary-row k p q e x y) n b = rw e (named-below x p.inside (down row 1 (omega arith) p b), named-below y q.inside (down row 2 (omega arith) q b))
    named-below {row} (and-row k p q e x y) n b = rw e (named-below x p.inside (down row 1 (omega arith) p b), named-below y q.inside (down row 2 (omega arith) q b))
    named-below {row} (or-row k p q e x y) n b = rw e (named-below x p.inside (down row 1 (omega arith) p b), named-below y q.inside (down row 2 (omega arith) q b))
    named-below {row} (comma-row k p q e x y) n b = rw e (named-below x p.inside (down row 1 (omega arith) p b), named-below y q.inside (down row 2 (omega arith) q b))
    named-below {row} (conditional-row k p q r e x y z) n b =
        rw e (named-below x p.inside (down row 1 (omega arith) p b), named-below y q.inside (down row 2 (omega arith) q b), named-below z r.inside (down row 3 (omega arith) r b))
    named-below {row} (assign-row k p q i e x y) n b =
        rw e (named-place (link rows row 1) i (named-below x p.inside (down row 1 (omega arith) p b)), named-below y q.inside (down row 2 (omega arith) q b))
    named-below {row} (compound-row k p q i e x y) n b =
        rw e (named-place (link rows row 1) i (named-below x p.inside (down row 1 (omega arith) p b)), named-below y q.inside (down row 2 (omega arith) q b))
    named-below {row} (prefix-row k p i e x) n b = rw e (named-place (link rows row 1) i (named-below x p.inside (down row 1 (omega arith) p b)))
    named-below {row} (postfix-row k p i e x) n b = rw e (named-place (link rows row 1) i (named-below x p.inside (down row 1 (omega arith) p b)))
    named-below {row} (call-row k e x) n b = rw e (named-arguments x (λ p. let l = leads-on form bounds rows s row n 2 refl p in (l.inside, down row 2 (omega arith) l b)))

    named-arguments : {l : ℕ} → ArgumentsRow rows l → (0 < l → (l < row_count rows) × Below l) → NamedArguments Names arrays (argument_list_at rows l)
    named-arguments (no_arguments z e) at = rw e tt
    named-arguments {l} (argument-row p k q e x y) at =
        rw e (named-below x q.inside (down l 1 (omega arith) q (at p).1), named-arguments y (λ r. let m = leads-on form bounds rows s l (at p).0 5 refl r in (m.inside, beside l k m (at p).1)))

  pub named-part-below : {l : ℕ} → PartRow rows l → (0 < l → (l < row_count rows) × Below l) → NamedPart Names arrays (part_at rows l)
  named-part-below (absent-part z e) at = rw e tt
  named-part-below (present-part p e x) at = rw e (named-below x (at p).0 (at p).1)
