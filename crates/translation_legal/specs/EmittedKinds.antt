-- Emitted kinds: each row of an emitted table has a kind of the kernel. By induction over the emitted tree.
use Rattle.std.specs.Prelude.{◌≡◌, refl, true, List, ℕ, ◌+◌, ◌<◌, ℤ, length}
use Rattle.std.proofs.Common.{arith}
use Rattle.words.specs.Table.{number_at}
use Rattle.words.specs.declared.Form.TheVariants.{Kernel}
use Rattle.words.specs.declared.Operator.{Operator}
use Rattle.words.specs.Kinds.{in_language, kind_of, kind_in, kinds, kind_row, expression_fields, statement_fields, mark_fields, definition_fields, member_fields}
use Rattle.language.specs.Trees.{Expression, Place, Arguments, Statement, Items}
use Rattle.language.specs.Sizes.{expression_rows, place_rows, arguments_rows, statement_rows, items_rows}
use Rattle.language_emission.specs.Emission.{operator_number}
use Rattle.language_emission.specs.Emitted.{Row, EmittedExpression, constant-at, read_at, minus-at, binary-at, assign-at, call_at, EmittedPlace, variable-at, element-at, EmittedArguments, no-more-at, argument-at, EmittedParameters, no_parameter_at, parameter-at, EmittedStatement, empty-at, express-at, block_at, if-at, while-at, goto-at, abort-at, return-at, EmittedItems, none-at, then_at, label_at, define-at}
use Rattle.language_emission.proofs.ReadBack.{kind-binary}
use Rattle.translation_legal.specs.Ranges.{Each, none_of, join, first-and}

known-binary : (o : Operator) → in_language Kernel (6 + operator_number o) ≡ true
unfolding in_language kind_row expression_fields
known-binary o = rw (kind-binary o)

module _ (rows : List ℤ) where
  abbrev Known : ℕ → ℕ → Type 0
  Known low high = Each (λ row. in_language Kernel (number_at rows row 0) ≡ true) low high

  known-row : {row kind a b c d next : ℕ} → Row rows row kind a b c d next → in_language Kernel kind ≡ true → in_language Kernel (number_at rows row 0) ≡ true
  known-row r e = rw r.kind_is e

  mutual
    unfolding in_language kind_of kind_in kinds kind_row expression_fields statement_fields mark_fields definition_fields member_fields expression_rows

    known-expression : {e : Expression} {base : ℕ} (end : ℕ) → base + expression_rows e ≡ end → EmittedExpression rows e base → Known base end
    known-expression end q (constant-at {v} {base} r w) = first-and _ base end (known-row r refl) (none_of _ (base + 1) end (omega arith))
    known-expression end q (read_at m) = known-place end q m
    known-expression end q (minus-at {e} {base} r m) = first-and _ base end (known-row r refl) (known-expression end (omega arith) m)
    known-expression end q (binary-at {o} {a} {b} {base} r m n) =
        first-and _ base end (known-row r (known-binary o)) (join _ (base + 1) (base + 1 + expression_rows a) end (known-expression _ refl m) (known-expression end (omega arith) n))
    known-expression end q (assign-at {p} {e} {base} r m n) =
        first-and _ base end (known-row r refl) (join _ (base + 1) (base + 1 + place_rows p) end (known-place _ refl m) (known-expression end (omega arith) n))
    known-expression end q (call_at {f} {arguments} {base} r m) = first-and _ base end (known-row r refl) (known-arguments end (omega arith) m)

    known-place : {p : Place} {base : ℕ} (end : ℕ) → base + place_rows p ≡ end → EmittedPlace rows p base → Known base end
    known-place end q (variable-at {i} {base} r) = first-and _ base end (known-row r refl) (none_of _ (base + 1) end (omega arith))
    known-place end q (element-at {array} {e} {base} r m) = first-and _ base end (known-row r refl) (known-expression end (omega arith) m)

    known-arguments : {arguments : Arguments} {base : ℕ} (end : ℕ) → base + arguments_rows arguments ≡ end → EmittedArguments rows arguments base → Known base end
    known-arguments end q (no-more-at {base}) = none_of _ base end (omega arith)
    known-arguments end q (argument-at {e} {arguments} {base} r m n) =
        first-and _ base end (known-row r refl) (join _ (base + 1) (base + 1 + expression_rows e) end (known-expression _ refl m) (known-arguments end (omega arith) n))

  known-parameters : {words : List ℕ} {base : ℕ} (end : ℕ) → base + length words ≡ end → EmittedParameters rows words base → Known base end
  unfolding in_language kind_of kind_in kinds kind_row statement_fields
  known-parameters end q (no_parameter_at {base}) = none_of _ base end (omega arith)
  known-parameters end q (parameter-at {word} {words} {base} r n) = first-and _ base end (known-row r refl) (known-parameters end (omega arith) n)

  mutual
    unfolding in_language kind_of kind_in kinds kind_row expression_fields statement_fields mark_fields definition_fields member_fields statement_rows items_rows

    pub known-statement : {s : Statement} {base next : ℕ} (end : ℕ) → base + statement_rows s ≡ end → EmittedStatement rows s base next → Known base end
    known-statement end q (empty-at {base} r) = first-and _ base end (known-row r refl) (none_of _ (base + 1) end (omega arith))
    known-statement end q (express-at {e} {base} r m) = first-and _ base end (known-row r refl) (known-expression end (omega arith) m)
    known-statement end q (block_at {is} {base} r m) = first-and _ base end (known-row r refl) (known-items end (omega arith) m)
    known-statement end q (if-at {e} {on_true} {on_false} {base} r m n o) =
        let second = base + 1 + expression_rows e in
        let third = base + 1 + expression_rows e + statement_rows on_true in
        first-and _ base end (known-row r refl)
        (join _ (base + 1) second end (known-expression _ refl m)
        (join _ second third end (known-statement _ refl n) (known-statement end (omega arith) o)))
    known-statement end q (while-at {e} {body} {base} r m n) =
        first-and _ base end (known-row r refl)
        (join _ (base + 1) (base + 1 + expression_rows e) end (known-expression _ refl m) (known-statement end (omega arith) n))
    known-statement end q (goto-at {l} {base} r) = first-and _ base end (known-row r refl) (none_of _ (base + 1) end (omega arith))
    known-statement end q (abort-at {base} r) = first-and _ base end (known-row r refl) (none_of _ (base + 1) end (omega arith))
    known-statement end q (return-at {e} {base} r m) = first-and _ base end (known-row r refl) (known-expression end (omega arith) m)

    known-items : {is : Items} {base : ℕ} (end : ℕ) → base + items_rows is ≡ end → EmittedItems rows is base → Known base end
    known-items end q (none-at {base}) = none_of _ base end (omega arith)
    known-items end q (then_at {s} {is} {base} m n) = join _ base (base + statement_rows s) end (known-statement _ refl m) (known-items end (omega arith) n)
    known-items end q (label_at {l} {is} {base} r n) = first-and _ base end (known-row r refl) (known-items end (omega arith) n)
    known-items end q (define-at {f} {words} {body} {is} {base} r p m n) =
        let inner = base + 1 + length words in
        let behind = inner + 1 + items_rows body in
        first-and _ base end (known-row r refl)
        (join _ (base + 1) inner end (known-parameters inner refl p)
        (join _ inner behind end (known-statement behind (omega arith) m) (known-items end (omega arith) n)))
