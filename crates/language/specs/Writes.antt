-- Write sets: which variables an expression can write. Change 1: "can write that variable (has it as the place of a kind 21 to 30)".
-- Twice: as a relation in those words, and as a test, which the translation asks. A variable is named by its store word, as in the trees.
use Rattle.std.specs.Prelude.{Bool, false, ◌||◌, ℕ, eqb}
use Rattle.words.specs.declared.Operator.{Operator}
use Rattle.language.specs.Trees.{Expression, constant, read, minus, not, binary, and, or, comma, conditional, assign, compound, prefix, postfix, call, Place, variable, element, Arguments, no_more, ◌also◌}

-- ---- in the request's words

-- Kinds 21 to 30, each with its place.
pub data Stores (p : Place) : Expression → Type 0 where
  by_assign : {e : Expression} → Stores p (assign p e)
  by_compound : {operator : Operator} {e : Expression} → Stores p (compound operator p e)
  by_prefix : {operator : Operator} → Stores p (prefix operator p)
  by_postfix : {operator : Operator} → Stores p (postfix operator p)

-- The index of a place.
pub data Index (d : Expression) : Place → Type 0 where
  of_element : {array : ℕ} → Index d (element array d)

-- One of the arguments of a call.
pub data Argument (d : Expression) : Arguments → Type 0 where
  first_argument : {arguments : Arguments} → Argument d (d also arguments)
  later_argument : {e : Expression} {arguments : Arguments} → Argument d arguments → Argument d (e also arguments)

-- The expressions that hang at an expression's links, or at those of its place or of its arguments.
pub data Operand (d : Expression) : Expression → Type 0 where
  of_read : {p : Place} → Index d p → Operand d (read p)
  of_minus : Operand d (minus d)
  of_not : Operand d (not d)
  left_of_binary : {operator : Operator} {b : Expression} → Operand d (binary operator d b)
  right_of_binary : {operator : Operator} {a : Expression} → Operand d (binary operator a d)
  left_of_and : {b : Expression} → Operand d (and d b)
  right_of_and : {a : Expression} → Operand d (and a d)
  left_of_or : {b : Expression} → Operand d (or d b)
  right_of_or : {a : Expression} → Operand d (or a d)
  left_of_comma : {b : Expression} → Operand d (comma d b)
  right_of_comma : {a : Expression} → Operand d (comma a d)
  test_of_conditional : {a b : Expression} → Operand d (conditional d a b)
  yes_of_conditional : {c b : Expression} → Operand d (conditional c d b)
  no_of_conditional : {c a : Expression} → Operand d (conditional c a d)
  index_of_assign : {p : Place} {e : Expression} → Index d p → Operand d (assign p e)
  value_of_assign : {p : Place} → Operand d (assign p d)
  index_of_compound : {operator : Operator} {p : Place} {e : Expression} → Index d p → Operand d (compound operator p e)
  value_of_compound : {operator : Operator} {p : Place} → Operand d (compound operator p d)
  index_of_prefix : {operator : Operator} {p : Place} → Index d p → Operand d (prefix operator p)
  index_of_postfix : {operator : Operator} {p : Place} → Index d p → Operand d (postfix operator p)
  argument_of_call : {f : ℕ} {arguments : Arguments} → Argument d arguments → Operand d (call f arguments)

-- "Has it as the place of a kind 21 to 30": in its own row, or in a row below it; or the row calls a function that can write it: "a call can
-- write what its function can".
pub data HasAsPlace (Called : ℕ → Type 0) (i : ℕ) : Expression → Type 0 where
  at_row : {e : Expression} → Stores (variable i) e → HasAsPlace Called i e
  below : {d e : Expression} → Operand d e → HasAsPlace Called i d → HasAsPlace Called i e
  by_call : {f : ℕ} {arguments : Arguments} → Called f → HasAsPlace Called i (call f arguments)

-- ---- as a test

-- Whether a place is the variable i.
abbrev pub is_variable : Place → ℕ → Bool
is_variable (variable j) i = eqb j i
is_variable (element array e) i = false

-- `called f i`: whether function f can write the variable i.
module _ (called : ℕ → ℕ → Bool) where
  unfoldable mutual
    -- Whether an expression can write the variable i.
    pub writes : Expression → ℕ → Bool
    writes (constant v) i = false
    writes (read p) i = index_writes p i
    writes (minus e) i = writes e i
    writes (not e) i = writes e i
    writes (binary operator a b) i = writes a i || writes b i
    writes (and a b) i = writes a i || writes b i
    writes (or a b) i = writes a i || writes b i
    writes (comma a b) i = writes a i || writes b i
    writes (conditional c a b) i = writes c i || (writes a i || writes b i)
    writes (assign p e) i = is_variable p i || (index_writes p i || writes e i)
    writes (compound operator p e) i = is_variable p i || (index_writes p i || writes e i)
    writes (prefix operator p) i = is_variable p i || index_writes p i
    writes (postfix operator p) i = is_variable p i || index_writes p i
    writes (call f arguments) i = called f i || arguments_write arguments i

    -- Whether the index of a place can.
    pub index_writes : Place → ℕ → Bool
    index_writes (variable j) i = false
    index_writes (element array e) i = writes e i

    -- Whether one of the arguments can.
    pub arguments_write : Arguments → ℕ → Bool
    arguments_write no_more i = false
    arguments_write (e also arguments) i = writes e i || arguments_write arguments i

-- Of a program without functions.
abbrev pub no_function : ℕ → ℕ → Bool
no_function f i = false
