-- Each emitted statement has kernel form: the rows of a statement of kernel form pass the kernel's tests. By induction over the emitted tree.
use Rattle.std.specs.Prelude.{◌≡◌, Bool, false, List, ℤ}
use Rattle.std.proofs.Math.Path.{refl}
use Rattle.std.proofs.Common.{sym, ◌∙◌, true≢false, arith}
use Rattle.std.proofs.Math.Bool.{true, or-true}
use Prim.Native.Nat.{ℕ, zero, suc, ◌+◌, ◌<◌}
use borrow.Author.Tests.{ne_eqb}
use Rattle.std.proofs.Math.ListN.{length}
use Rattle.words.specs.Table.{row_count, number_at}
use Rattle.words.specs.declared.Operator.{Operator}
use Rattle.language.specs.Trees.{Expression, read, minus, binary, assign, call, Place, variable, element, Arguments, Statement, block, Items}
use Rattle.language.specs.Sizes.{expression_rows, statement_rows, items_rows}
use Rattle.translation.specs.KernelForm.{IsAtom, constant-atom, variable_atom, AreAtoms, no_more_atoms, more_atoms, Assigns, assigns_atom, assigns_minus, assigns_operation, assigns_element, assigns_call, assigns_to_element, KernelStatement, kernel-empty, kernel-assign, kernel-block, kernel-if, kernel-while, kernel-goto, kernel-abort, kernel-return, KernelItems, kernel-then, kernel-label, KernelProgram, kernel_main, kernel_define}
use Rattle.words.specs.Links.{is_statement}
use Rattle.check_kernel_statements.specs.Statements.{is_atom, is_atom_minus, is_atom_operation, is_atom_element, atom_arguments, is_atom_call, fits_variable, is_assignment, is_block, is_kernel_if, is_kernel_while, is_kernel_expression, is_kernel_return, is_kernel_parameter, is_of_function, is_kernel_statement}
use Rattle.translation_legal.specs.Ranges.{Each, none_of, join, first-and}
use Rattle.translation_legal.proofs.EmittedRows.{between-binary}
use Rattle.translation_legal.proofs.EmittedAhead.{plain-expression}
use Rattle.language_emission.specs.Emission.{arguments_link}
use Rattle.language_emission.specs.Emitted.{Row, EmittedExpression, constant-at, read_at, minus-at, binary-at, assign-at, call_at, EmittedPlace, variable-at, element-at, EmittedArguments, no-more-at, argument-at, EmittedParameters, no_parameter_at, parameter-at, EmittedStatement, empty-at, express-at, block_at, if-at, while-at, goto-at, abort-at, return-at, EmittedItems, none-at, then_at, label_at, define-at}

-- ---- forms

place-of : {rows : List ℤ} {p : Place} {base : ℕ} → EmittedExpression rows (read p) base → EmittedPlace rows p base
place-of (read_at m) = m

module _ (rows : List ℤ) where
  form-atom : {e : Expression} {base : ℕ} → IsAtom e → EmittedExpression rows e base → is_atom rows base ≡ true
  unfolding is_atom
  form-atom constant-atom (constant-at r v) = rw r.kind_is
  form-atom variable_atom (read_at (variable-at r)) = rw r.kind_is

  form-atoms : (most : ℕ) {arguments : Arguments} {base : ℕ} → 0 < base → AreAtoms arguments → EmittedArguments rows arguments base → atom_arguments most rows (arguments_link arguments base) ≡ true
  unfolding atom_arguments
  form-atoms zero h k m = refl
  form-atoms (suc most) h no_more_atoms no-more-at = refl
  form-atoms (suc most) {base = base} h (more_atoms a k) (argument-at r m n) = rw (ne_eqb base 0 (λ e. omega arith), r.a_is, r.next_is, form-atom a m) (form-atoms most (omega arith) k n)

  -- What is assigned to a variable.
  form-minus : {e : Expression} {base : ℕ} → IsAtom e → EmittedExpression rows (minus e) base → is_atom_minus rows base ≡ true
  unfolding is_atom_minus
  form-minus h (minus-at r m) = rw (r.kind_is, r.a_is, form-atom h m)

  form-operation : {o : Operator} {a b : Expression} {base : ℕ} → IsAtom a → IsAtom b → EmittedExpression rows (binary o a b) base → is_atom_operation rows base ≡ true
  unfolding is_atom_operation
  form-operation h k (binary-at {o} r m n) = rw (r.kind_is, r.a_is, r.b_is, between-binary o, form-atom h m, form-atom k n)

  form-element : {array : ℕ} {e : Expression} {base : ℕ} → IsAtom e → EmittedPlace rows (element array e) base → is_atom_element rows base ≡ true
  unfolding is_atom_element
  form-element h (element-at r m) = rw (r.kind_is, r.b_is, form-atom h m)

  form-call : {f : ℕ} {arguments : Arguments} {base : ℕ} → AreAtoms arguments → EmittedExpression rows (call f arguments) base → is_atom_call rows base ≡ true
  unfolding is_atom_call
  form-call h (call_at r m) = rw (r.kind_is, r.b_is) (form-atoms (row_count rows) (omega arith) h m)

  element-kind : {array : ℕ} {e : Expression} {base : ℕ} → EmittedPlace rows (element array e) base → number_at rows base 0 ≡ 3
  element-kind (element-at r m) = r.kind_is

  to-variable : {i : ℕ} {e : Expression} {base : ℕ} → EmittedExpression rows (assign (variable i) e) base → ((value : ℕ) → EmittedExpression rows e value → fits_variable rows value ≡ true)
      → is_assignment rows base ≡ true
  unfolding is_assignment
  to-variable (assign-at r (variable-at v) n) fit = rw (r.kind_is, r.a_is, r.b_is, v.kind_is, fit _ n)

  form-assignment : {e : Expression} {base : ℕ} → Assigns e → EmittedExpression rows e base → is_assignment rows base ≡ true
  unfolding is_assignment fits_variable
  form-assignment (assigns_atom h) m = to-variable m (λ value n. rw (form-atom h n))
  form-assignment (assigns_minus h) m = to-variable m (λ value n. rw (form-minus h n, or-true))
  form-assignment (assigns_operation h k) m = to-variable m (λ value n. rw (form-operation h k n, or-true, or-true))
  form-assignment (assigns_element h) m = to-variable m (λ value n. rw (form-element h (place-of n), or-true, or-true, or-true))
  form-assignment (assigns_call h) m = to-variable m (λ value n. rw (form-call h n, or-true, or-true, or-true, or-true))
  form-assignment (assigns_to_element h k) (assign-at r m n) = rw (r.kind_is, r.a_is, r.b_is, element-kind m, form-element h m, form-atom k n)

  form-block : {is : Items} {base next : ℕ} → 0 < base → EmittedStatement rows (block is) base next → is_block rows base ≡ true
  unfolding is_block
  form-block {is} {base} h (block_at r m) = rw (ne_eqb base 0 (λ e. omega arith), r.kind_is)

  -- The row of a statement of kernel form.
  form-statement : {mayReturn : Bool} {ahead : Items} {s : Statement} {base next : ℕ} → KernelStatement mayReturn ahead s → EmittedStatement rows s base next → is_kernel_statement rows base ≡ true
  unfolding is_kernel_statement is_kernel_if is_kernel_while is_kernel_expression is_of_function is_kernel_parameter is_kernel_return
  form-statement kernel-empty (empty-at r) = rw r.kind_is
  form-statement (kernel-assign h) (express-at r m) = rw (r.kind_is, r.a_is, form-assignment h m)
  form-statement (kernel-block h) (block_at r m) = rw r.kind_is
  form-statement (kernel-if h k j) (if-at r m n o) = rw (r.kind_is, r.a_is, r.b_is, r.c_is, form-atom h m, form-block (omega arith) n, form-block (omega arith) o)
  form-statement (kernel-while h k) (while-at r m n) = rw (r.kind_is, r.a_is, r.b_is, form-atom h m, form-block (omega arith) n)
  form-statement (kernel-goto b h) (goto-at r) = rw r.kind_is
  form-statement kernel-abort (abort-at r) = rw r.kind_is
  form-statement (kernel-return h) (return-at {base} r m) = rw (r.kind_is, r.a_is, ne_eqb (base + 1) 0 (λ e. omega arith), form-atom h m)

  form-label : {row l next : ℕ} → Row rows row 53 l 0 0 0 next → is_kernel_statement rows row ≡ true
  unfolding is_kernel_statement is_kernel_if is_kernel_while
  form-label r = rw r.kind_is

  form-definition : {row f b c next : ℕ} → Row rows row 59 f b c 0 next → is_kernel_statement rows row ≡ true
  unfolding is_kernel_statement is_kernel_if is_kernel_while is_kernel_expression is_of_function
  form-definition r = rw r.kind_is

  form-parameter : {row word next : ℕ} → Row rows row 58 word 0 0 0 next → is_kernel_statement rows row ≡ true
  unfolding is_kernel_statement is_kernel_if is_kernel_while is_kernel_expression is_of_function is_kernel_return is_kernel_parameter
  form-parameter r = rw (r.kind_is, r.b_is)

  -- ---- the induction

  abbrev Formed : ℕ → ℕ → Type 0
  Formed low high = Each (λ row. is_statement rows row ≡ true → is_kernel_statement rows row ≡ true) low high

  formed-expression : {e : Expression} {base : ℕ} (end : ℕ) → base + expression_rows e ≡ end → EmittedExpression rows e base → Formed base end
  formed-expression end q m row l h statement = absurd (true≢false (sym statement ∙ plain-expression end q m row l h))

  mutual
    unfolding statement_rows

    formed-statement : {mayReturn : Bool} {ahead : Items} {s : Statement} {base next : ℕ} (end : ℕ) → base + statement_rows s ≡ end → EmittedStatement rows s base next → KernelStatement mayReturn ahead s → Formed base end
    formed-statement end q (empty-at {base} r) f = first-and _ base end (λ e. form-statement f (empty-at r)) (none_of _ (base + 1) end (omega arith))
    formed-statement end q (express-at {e} {base} r m) f = first-and _ base end (λ e. form-statement f (express-at r m)) (formed-expression end (omega arith) m)
    formed-statement end q (block_at {is} {base} r m) (kernel-block f) = first-and _ base end (λ e. form-statement (kernel-block f) (block_at r m)) (formed-items end (omega arith) m f)
    formed-statement end q (if-at {e} {on_true} {on_false} {base} r m n o) (kernel-if t f g) =
        let second = base + 1 + expression_rows e in
        let third = base + 1 + expression_rows e + statement_rows on_true in
        first-and _ base end (λ e. form-statement (kernel-if t f g) (if-at r m n o))
        (join _ (base + 1) second end (formed-expression _ refl m)
        (join _ second third end (formed-statement _ refl n (kernel-block f)) (formed-statement end (omega arith) o (kernel-block g))))
    formed-statement end q (while-at {e} {body} {base} r m n) (kernel-while t f) =
        first-and _ base end (λ e. form-statement (kernel-while t f) (while-at r m n))
        (join _ (base + 1) (base + 1 + expression_rows e) end (formed-expression _ refl m) (formed-statement end (omega arith) n (kernel-block f)))
    formed-statement end q (goto-at {l} {base} r) f = first-and _ base end (λ e. form-statement f (goto-at r)) (none_of _ (base + 1) end (omega arith))
    formed-statement end q (abort-at {base} r) f = first-and _ base end (λ e. form-statement f (abort-at r)) (none_of _ (base + 1) end (omega arith))
    formed-statement end q (return-at {e} {base} r m) f = first-and _ base end (λ e. form-statement f (return-at r m)) (formed-expression end (omega arith) m)

    formed-items : {mayReturn : Bool} {ahead is : Items} {base : ℕ} (end : ℕ) → base + items_rows is ≡ end → EmittedItems rows is base → KernelItems mayReturn ahead is → Formed base end
    formed-items end q (none-at {base}) f = none_of _ base end (omega arith)
    formed-items end q (then_at {s} {is} {base} m n) (kernel-then f g) = join _ base (base + statement_rows s) end (formed-statement _ refl m f) (formed-items end (omega arith) n g)
    formed-items end q (label_at {l} {is} {base} r n) (kernel-label b g) = first-and _ base end (λ e. form-label r) (formed-items end (omega arith) n g)
    formed-items end q (define-at _ _ _ _) none_such = elim none_such [ ]

  -- ---- a program: definitions, then its main part

  formed-parameters : {words : List ℕ} {base : ℕ} (end : ℕ) → base + length words ≡ end → EmittedParameters rows words base → Formed base end
  formed-parameters end q (no_parameter_at {base}) = none_of _ base end (omega arith)
  formed-parameters end q (parameter-at {word} {words} {base} r n) = first-and _ base end (λ e. form-parameter r) (formed-parameters end (omega arith) n)

  formed-program : {is : Items} {base : ℕ} (end : ℕ) → base + items_rows is ≡ end → EmittedItems rows is base → KernelProgram is → Formed base end
  unfolding items_rows statement_rows
  formed-program end q m (kernel_main k) = formed-items end q m k
  formed-program end q (define-at {f} {words} {body} {is} {base} r p m n) (kernel_define b k) =
      let inner = base + 1 + length words in
      let behind = inner + 1 + items_rows body in
      first-and _ base end (λ e. form-definition r)
      (join _ (base + 1) inner end (formed-parameters inner refl p)
      (join _ inner behind end (formed-statement behind (omega arith) m (kernel-block b)) (formed-program end (omega arith) n k)))

  pub emitted-formed : {program : Items} → row_count rows ≡ statement_rows (block program) → EmittedStatement rows (block program) 0 0 → KernelProgram program
      → (row : ℕ) → row < row_count rows → is_statement rows row ≡ true → is_kernel_statement rows row ≡ true
  unfolding statement_rows is_kernel_statement
  emitted-formed count (block_at r m) form row h =
      first-and (λ row. is_statement rows row ≡ true → is_kernel_statement rows row ≡ true) 0 (row_count rows) (λ e. rw r.kind_is) (formed-program (row_count rows) (omega arith) m form) row (omega arith) h
