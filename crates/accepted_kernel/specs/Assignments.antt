-- Assignments: the expressions of a legal kernel program have kernel form: atoms, and what is assigned, calls on atoms among it.
use Rattle.std.specs.Prelude.{◌≡◌, ◌&&◌, List, eqb, ℤ}
use Rattle.std.proofs.Math.Path.{refl, ap}
use Rattle.std.proofs.Common.{sym, ◌∙◌, arith, eqb-true, eq-eqb, ne_eqb}
use Rattle.std.proofs.Math.Bool.{true}
use Rattle.std.proofs.Math.Logic.{⊎_elim}
use Prim.Native.Nat.{ℕ, zero, suc, ◌+◌, ◌≤◌, ◌<◌}
use Rattle.std.proofs.Math.Decide.{ℕ_discrete}
use Rattle.std.proofs.Math.Arith.{lt_of_le-ne}
use Rattle.words.specs.Word.{pick}
use Rattle.words.specs.Table.{row_count, number_at}
use Rattle.words.specs.Kinds.{kinds, kind_in, kind_of, kind_at, expression, place, optional_argument, is_link, is_required, sort_in, kind_row, expression_fields, statement_fields, mark_fields, definition_fields, member_fields}
use Rattle.words.specs.Laws.{both, either}
use Rattle.words.specs.Links.{is_argument, link, fits}
use Rattle.words.specs.declared.Form.TheVariants.{Kernel}
use Rattle.words.specs.declared.Kind.{Kind}
use Rattle.words.specs.declared.Kind.TheVariants.{OfExpression, OfMember}
use Rattle.words.specs.declared.MemberKind.TheVariants.{Argument}
use Rattle.words.specs.declared.ExpressionKind.TheVariants.{Binary, Assign}
use Rattle.words.specs.declared.Operator.{Operator}
use Rattle.words.specs.declared.Operator.TheVariants.{Add, Subtract, Multiply, Divide, Remainder, Less, Greater, LessOrEqual, GreaterOrEqual, Equal, NotEqual}
use Rattle.language.specs.Trees.{Expression, read, assign, variable, element}
use Rattle.language.specs.Decode.{place_of, expression_at, argument_list_at}
use Rattle.language.specs.DecodeLaws.{at_constant, at-variable, at-element, at-minus, at-binary, at-assign, at_call, at-argument}
use Rattle.words.specs.SearchLaws.{from_on}
use Rattle.check_fields.specs.declared.Bounds.{Bounds}
use Rattle.check_structure.specs.NoteLaws.{above_zero}
use Rattle.check_structure.specs.Structured.{Structured}
use Rattle.translation.specs.KernelForm.{IsAtom, constant-atom, variable_atom, AreAtoms, no_more_atoms, more_atoms, Assigns, assigns_atom, assigns_minus, assigns_operation, assigns_element, assigns_call, assigns_to_element}
use Rattle.check_kernel_statements.specs.Statements.{is_atom, is_atom_minus, is_atom_operation, is_atom_element, atom_arguments, is_atom_call, fits_variable, is_assignment}
use Rattle.accepted.specs.Sorts.{between-true, argument_is}
use Rattle.accepted.proofs.Fields.{holds, Linked, linked, may-link}
use Rattle.accepted.proofs.Expressions.{whole-rows, arguments-some}

-- Kinds 6 to 16 are the binary ones.
record BinaryKind (number : ℕ) : Type 0 where
  operator : Operator
  is : kind_of number ≡ OfExpression (Binary operator)

binary-kind : (number : ℕ) → 6 ≤ number → number ≤ 16 → BinaryKind number
unfolding kind_of kind_in kinds
binary-kind number h k =
    from_on BinaryKind number 6 h (record { operator = Add; is = refl }) (λ h. from_on BinaryKind number 7 h (record { operator = Subtract; is = refl })
    (λ h. from_on BinaryKind number 8 h (record { operator = Multiply; is = refl }) (λ h. from_on BinaryKind number 9 h (record { operator = Divide; is = refl })
    (λ h. from_on BinaryKind number 10 h (record { operator = Remainder; is = refl }) (λ h. from_on BinaryKind number 11 h (record { operator = Less; is = refl })
    (λ h. from_on BinaryKind number 12 h (record { operator = Greater; is = refl }) (λ h. from_on BinaryKind number 13 h (record { operator = LessOrEqual; is = refl })
    (λ h. from_on BinaryKind number 14 h (record { operator = GreaterOrEqual; is = refl }) (λ h. from_on BinaryKind number 15 h (record { operator = Equal; is = refl })
    (λ h. from_on BinaryKind number 16 h (record { operator = NotEqual; is = refl }) (λ h. absurd (omega arith))))))))))))

module _ (bounds : Bounds) (rows : List ℤ) (s : Structured Kernel bounds rows) where
  kind-of : (row number : ℕ) → number_at rows row 0 ≡ number → kind_at rows row ≡ kind_of number
  unfolding kind_at
  kind-of row number e = ap kind_of e

  operand : (row : ℕ) → row < row_count rows → {kind : Kind} → kind_at rows row ≡ kind → (field : ℕ) → holds (eqb expression) kind field ≡ true → Linked rows row expression field
  unfolding is_required
  operand row n k field t = linked Kernel bounds rows s row n k expression field refl t

  target : (row : ℕ) → row < row_count rows → kind_at rows row ≡ OfExpression Assign → Linked rows row place 1
  unfolding is_required sort_in kind_row expression_fields statement_fields mark_fields definition_fields member_fields
  target row n k = linked Kernel bounds rows s row n k place 1 refl refl

  -- "An atom is a constant or variable."
  pub atom-at : (row : ℕ) → is_atom rows row ≡ true → IsAtom (expression_at rows row)
  unfolding is_atom kind_of kind_in kinds
  atom-at row e = go (ℕ_discrete (number_at rows row 0) 1)
    where
      go : Dec (number_at rows row 0 ≡ 1) → IsAtom (expression_at rows row)
      go (yes q) = rw (at_constant rows (whole-rows Kernel bounds rows s) row (kind-of row 1 q)) constant-atom
      go (no q) =
          let range = between-true 1 2 (number_at rows row 0) e in
          let more : 1 < number_at rows row 0 = lt_of_le-ne range.0 (λ (x : 1 ≡ number_at rows row 0). q (sym x)) in
          let two : number_at rows row 0 ≡ 2 = (let most = range.1 in omega arith) in
          rw (at-variable rows (whole-rows Kernel bounds rows s) row (kind-of row 2 two)) variable_atom

  -- "An element with an atom index."
  record ElementAt (row : ℕ) : Type 0 where
    array : ℕ
    index : Expression
    is : expression_at rows row ≡ read (element array index)
    atom : IsAtom index

  element-at : (row : ℕ) → row < row_count rows → is_atom_element rows row ≡ true → ElementAt row
  unfolding is_atom_element kind_of kind_in kinds sort_in kind_row expression_fields statement_fields mark_fields definition_fields member_fields
  element-at row n e =
      let parts = both (eqb (number_at rows row 0) 3) _ e in
      let kind = kind-of row 3 (eqb-true _ _ parts.0) in
      record {
        array = number_at rows row 1;
        index = expression_at rows (number_at rows row 2);
        is = at-element rows (whole-rows Kernel bounds rows s) row kind (operand row n kind 2 refl).later;
        atom = atom-at (number_at rows row 2) parts.1;
      }

  -- "To a variable it assigns an atom, minus an atom, one of kinds 6 to 16 on two atoms, or an element with an atom index."
  minus-at : (i row : ℕ) → row < row_count rows → is_atom_minus rows row ≡ true → Assigns (assign (variable i) (expression_at rows row))
  unfolding is_atom_minus kind_of kind_in kinds sort_in kind_row expression_fields statement_fields mark_fields definition_fields member_fields
  minus-at i row n e =
      let parts = both (eqb (number_at rows row 0) 4) _ e in
      let kind = kind-of row 4 (eqb-true _ _ parts.0) in
      rw (at-minus rows (whole-rows Kernel bounds rows s) row kind (operand row n kind 1 refl).later) (assigns_minus (atom-at (number_at rows row 1) parts.1))

  operation-at : (i row : ℕ) → row < row_count rows → is_atom_operation rows row ≡ true → Assigns (assign (variable i) (expression_at rows row))
  unfolding is_atom_operation sort_in kind_row expression_fields statement_fields mark_fields definition_fields member_fields
  operation-at i row n e =
      let parts = both _ _ e in
      let atoms = both (is_atom rows (number_at rows row 1)) _ parts.1 in
      let range = between-true 6 16 (number_at rows row 0) parts.0 in
      let b = binary-kind (number_at rows row 0) range.0 range.1 in
      let kind = kind-of row (number_at rows row 0) refl ∙ b.is in
      rw (at-binary rows (whole-rows Kernel bounds rows s) row b.operator kind (operand row n kind 1 refl).later (operand row n kind 2 refl).later)
      (assigns_operation (atom-at (number_at rows row 1) atoms.0) (atom-at (number_at rows row 2) atoms.1))

  -- "Kernel calls assign to a variable and take atoms": an argument, where there is one, and those behind it.
  record ArgumentAt (row : ℕ) : Type 0 where
    inside : row < row_count rows
    argument : is_argument rows row ≡ true

  arguments-at : (most row : ℕ) → atom_arguments most rows row ≡ true → (0 < row → row_count rows ≤ row + most) → (0 < row → ArgumentAt row) → AreAtoms (argument_list_at rows row)
  unfolding atom_arguments fits is_link is_required sort_in kind_row member_fields
  arguments-at zero row e enough there = go (ℕ_discrete row 0)
    where
      go : Dec (row ≡ 0) → AreAtoms (argument_list_at rows row)
      go (yes z) = rw z no_more_atoms
      go (no z) = absurd (let p = above_zero row z in let n = (there p).inside in let h = enough p in omega arith)
  arguments-at (suc most) row e enough there = go (ℕ_discrete row 0) (λ r. arguments-at most r)
    where
      go : Dec (row ≡ 0) → ((r : ℕ) → atom_arguments most rows r ≡ true → (0 < r → row_count rows ≤ r + most) → (0 < r → ArgumentAt r) → AreAtoms (argument_list_at rows r)) → AreAtoms (argument_list_at rows row)
      go (yes z) rec = rw z no_more_atoms
      go (no z) rec =
          let p = above_zero row z in
          let n = (there p).inside in
          let h = enough p in
          let kind : kind_at rows row ≡ OfMember Argument = argument_is rows row (there p).argument in
          let a = linked Kernel bounds rows s row n kind expression 1 refl refl in
          let next = may-link Kernel bounds rows s row n kind optional_argument 5 refl refl in
          let parts = both (is_atom rows (number_at rows row 1)) (atom_arguments most rows (number_at rows row 5)) (rw (ne_eqb row 0 z) at e) in
          let behind = rec (link rows row 5) (rw next.same parts.1) (λ q. let later = (next.leads q).later in omega arith) (λ q. record { inside = (next.leads q).inside; argument = next.fit q }) in
          rw (arguments-some rows row p, at-argument rows (whole-rows Kernel bounds rows s) row kind a.later next.later, ← next.same) (more_atoms (atom-at (number_at rows row 1) parts.0) behind)

  call_at : (i row : ℕ) → row < row_count rows → is_atom_call rows row ≡ true → Assigns (assign (variable i) (expression_at rows row))
  unfolding is_atom_call fits is_link kind_at kind_of kind_in kinds sort_in kind_row expression_fields
  call_at i row n e =
      let parts = both (eqb (number_at rows row 0) 31) _ e in
      let kind = kind-of row 31 (eqb-true _ _ parts.0) in
      let first = may-link Kernel bounds rows s row n kind optional_argument 2 refl refl in
      rw (at_call rows (whole-rows Kernel bounds rows s) row kind first.later, ← first.same)
      (assigns_call (arguments-at (row_count rows) (link rows row 2) (rw first.same parts.1) (λ q. omega arith) (λ q. record { inside = (first.leads q).inside; argument = first.fit q })))

  value-at : (i row : ℕ) → row < row_count rows → fits_variable rows row ≡ true → Assigns (assign (variable i) (expression_at rows row))
  unfolding fits_variable
  value-at i row n e =
      ⊎_elim (λ h. assigns_atom (atom-at row h))
      (λ h. ⊎_elim (minus-at i row n)
      (λ h. ⊎_elim (operation-at i row n)
      (λ h. ⊎_elim (λ h. let z = element-at row n h in rw z.is (assigns_element z.atom)) (call_at i row n)
      (either (is_atom_element rows row) _ h)) (either (is_atom_operation rows row) _ h)) (either (is_atom_minus rows row) _ h)) (either (is_atom rows row) _ e)

  -- "An expression statement that assigns."
  pub assignment-at : (row : ℕ) → row < row_count rows → is_assignment rows row ≡ true → Assigns (expression_at rows row)
  unfolding is_assignment kind_of kind_in kinds sort_in kind_row expression_fields statement_fields mark_fields definition_fields member_fields
  assignment-at row n e =
      let parts = both (eqb (number_at rows row 0) 21) _ e in
      let kind = kind-of row 21 (eqb-true _ _ parts.0) in
      let a = target row n kind in
      let b = operand row n kind 2 refl in
      let inside-a : number_at rows row 1 < row_count rows = rw a.same at a.leads.inside in
      let inside-b : number_at rows row 2 < row_count rows = rw b.same at b.leads.inside in
      rw (at-assign rows (whole-rows Kernel bounds rows s) row kind a.later b.later) (go (ℕ_discrete (number_at rows (number_at rows row 1) 0) 2) inside-a inside-b parts.1)
    where
      go : Dec (number_at rows (number_at rows row 1) 0 ≡ 2) → number_at rows row 1 < row_count rows → number_at rows row 2 < row_count rows
          → pick (eqb (number_at rows (number_at rows row 1) 0) 2) (fits_variable rows (number_at rows row 2)) (is_atom_element rows (number_at rows row 1) && is_atom rows (number_at rows row 2)) ≡ true
          → Assigns (assign (place_of (expression_at rows (number_at rows row 1))) (expression_at rows (number_at rows row 2)))
      go (yes q) a b e =
          rw (at-variable rows (whole-rows Kernel bounds rows s) (number_at rows row 1) (kind-of (number_at rows row 1) 2 q)) (value-at _ (number_at rows row 2) b (rw (eq-eqb _ _ q) at e))
      go (no q) a b e =
          let parts = both (is_atom_element rows (number_at rows row 1)) _ (rw (ne_eqb _ _ q) at e) in
          let z = element-at (number_at rows row 1) a parts.0 in
          rw z.is (assigns_to_element z.atom (atom-at (number_at rows row 2) parts.1))
