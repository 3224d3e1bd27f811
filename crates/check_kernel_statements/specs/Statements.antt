-- Statements: cause 12, "statement not of kernel form". Each test reads the kinds of the rows that a statement links.
use Rattle.std.specs.Prelude.{Bool, true, not, ◌&&◌, ◌||◌, List, ℕ, zero, suc, eqb, ℤ}
use Rattle.words.specs.Word.{pick}
use Rattle.words.specs.Table.{row_count, number_at}
use Rattle.words.specs.Kinds.{between}
use Rattle.words.specs.Links.{is_statement}

-- "An atom is a constant or variable."
unfoldable pub is_atom : List ℤ → ℕ → Bool
is_atom rows row = between 1 2 (number_at rows row 0)

-- "Minus an atom."
unfoldable pub is_atom_minus : List ℤ → ℕ → Bool
is_atom_minus rows row = eqb (number_at rows row 0) 4 && is_atom rows (number_at rows row 1)

-- "One of kinds 6 to 16 on two atoms."
unfoldable pub is_atom_operation : List ℤ → ℕ → Bool
is_atom_operation rows row =
    between 6 16 (number_at rows row 0) && (is_atom rows (number_at rows row 1) && is_atom rows (number_at rows row 2))

-- "An element with an atom index."
unfoldable pub is_atom_element : List ℤ → ℕ → Bool
is_atom_element rows row = eqb (number_at rows row 0) 3 && is_atom rows (number_at rows row 2)

-- The arguments of a list from this one on are atoms, through so many; 0 stands for the list's end.
unfoldable pub atom_arguments : ℕ → List ℤ → ℕ → Bool
atom_arguments zero rows argument = true
atom_arguments (suc most) rows argument =
    let rest = atom_arguments most rows (number_at rows argument 5) in
    pick (eqb argument 0) true (is_atom rows (number_at rows argument 1) && rest)

-- "Kernel calls .. take atoms." A list has no more rows than the table.
unfoldable pub is_atom_call : List ℤ → ℕ → Bool
is_atom_call rows row = eqb (number_at rows row 0) 31 && atom_arguments (row_count rows) rows (number_at rows row 2)

-- "To a variable it assigns an atom, minus an atom, one of kinds 6 to 16 on two atoms, or an element with an atom index." "Kernel calls assign
-- to a variable and take atoms".
unfoldable pub fits_variable : List ℤ → ℕ → Bool
fits_variable rows value =
    is_atom rows value || (is_atom_minus rows value || (is_atom_operation rows value || (is_atom_element rows value || is_atom_call rows value)))

-- An expression that assigns. "To an element with an atom index it assigns an atom."
unfoldable pub is_assignment : List ℤ → ℕ → Bool
is_assignment rows row =
    let target = number_at rows row 1 in
    let value = number_at rows row 2 in
    eqb (number_at rows row 0) 21
    && pick (eqb (number_at rows target 0) 2) (fits_variable rows value) (is_atom_element rows target && is_atom rows value)

-- A branch or body that is a block; 0 is an absent one.
unfoldable pub is_block : List ℤ → ℕ → Bool
is_block rows row = not (eqb row 0) && eqb (number_at rows row 0) 42

-- "If with an atom and two blocks."
unfoldable pub is_kernel_if : List ℤ → ℕ → Bool
is_kernel_if rows row =
    eqb (number_at rows row 0) 43
    && (is_atom rows (number_at rows row 1) && (is_block rows (number_at rows row 2) && is_block rows (number_at rows row 3)))

-- "While with an atom and a block."
unfoldable pub is_kernel_while : List ℤ → ℕ → Bool
is_kernel_while rows row =
    eqb (number_at rows row 0) 44 && (is_atom rows (number_at rows row 1) && is_block rows (number_at rows row 2))

-- "An expression statement that assigns."
unfoldable pub is_kernel_expression : List ℤ → ℕ → Bool
is_kernel_expression rows row = eqb (number_at rows row 0) 41 && is_assignment rows (number_at rows row 1)

-- "A kernel return takes an atom": it must be there.
unfoldable pub is_kernel_return : List ℤ → ℕ → Bool
is_kernel_return rows row = eqb (number_at rows row 0) 60 && (not (eqb (number_at rows row 1) 0) && is_atom rows (number_at rows row 1))

-- Kind 58 stands in the kernel as a parameter alone, which has no b.
unfoldable pub is_kernel_parameter : List ℤ → ℕ → Bool
is_kernel_parameter rows row = eqb (number_at rows row 0) 58 && eqb (number_at rows row 2) 0

-- What functions add: a definition, a return of an atom, a parameter.
unfoldable pub is_of_function : List ℤ → ℕ → Bool
is_of_function rows row = eqb (number_at rows row 0) 59 || (is_kernel_return rows row || is_kernel_parameter rows row)

-- "Statements: empty; block; if with an atom and two blocks; while with an atom and a block; goto; label; and an expression
-- statement that assigns." "The kernel's new kind 57 (abort, no fields)".
unfoldable pub is_kernel_statement : List ℤ → ℕ → Bool
is_kernel_statement rows row =
    let kind = number_at rows row 0 in
    eqb kind 40
    || (eqb kind 42
    || (is_kernel_if rows row
    || (is_kernel_while rows row
    || (eqb kind 52
    || (eqb kind 53
    || (eqb kind 57
    || (is_kernel_expression rows row || is_of_function rows row)))))))

-- Cause 12, at the "row of the statement", also where the fault lies in an expression below it.
unfoldable pub not_kernel_form : List ℤ → ℕ → Bool
not_kernel_form rows row = is_statement rows row && not (is_kernel_statement rows row)
