-- Kernel form: what document 01's section of that name, and document 02 for abort, ask of a tree.
use Rattle.std.specs.Prelude.{◌≡◌, Bool, true, false, List, ℕ, ◌+◌, ◌<◌, ◌≤◌, eqb, ℤ, length}
use Rattle.words.specs.Word.{pick}
use Rattle.words.specs.Layout.{Layout, store_size}
use Rattle.words.specs.declared.Operator.{Operator}
use Rattle.language.specs.Trees.{Expression, constant, read, minus, binary, assign, call, variable, element, Arguments, no_more, ◌also◌, present, Mark, case, default, label, has, Statement, empty, express, block, if_then, if_else, while, do_while, for, switch, break, continue, goto, guarded_if, guarded_do, abort, declare, give_back, Arms, no_arm, arm, Items, none, ◌then◌, ◌here◌, define, ◌⧺◌}
use Rattle.language.specs.Sizes.{statement_rows, statement_depth}
use Rattle.language.specs.WellFormed.{NamedItems}
use Rattle.language.specs.Calls.{CallsInOrder}

-- "An atom is a constant or variable."
pub data IsAtom : Expression → Type 0 where
  constant-atom : {v : ℤ} → IsAtom (constant v)
  variable_atom : {i : ℕ} → IsAtom (read (variable i))

pub data AreAtoms : Arguments → Type 0 where
  no_more_atoms : AreAtoms no_more
  more_atoms : {e : Expression} {arguments : Arguments} → IsAtom e → AreAtoms arguments → AreAtoms (e also arguments)

-- "An expression statement that assigns. To a variable it assigns an atom, minus an atom, one of kinds 6 to 16 on two atoms, or an
-- element with an atom index. To an element with an atom index it assigns an atom." "Kernel calls assign to a variable and take atoms".
pub data Assigns : Expression → Type 0 where
  assigns_atom : {i : ℕ} {e : Expression} → IsAtom e → Assigns (assign (variable i) e)
  assigns_minus : {i : ℕ} {e : Expression} → IsAtom e → Assigns (assign (variable i) (minus e))
  assigns_operation : {i : ℕ} {operator : Operator} {a b : Expression} → IsAtom a → IsAtom b → Assigns (assign (variable i) (binary operator a b))
  assigns_element : {i array : ℕ} {e : Expression} → IsAtom e → Assigns (assign (variable i) (read (element array e)))
  assigns_call : {i f : ℕ} {arguments : Arguments} → AreAtoms arguments → Assigns (assign (variable i) (call f arguments))
  assigns_to_element : {array : ℕ} {index e : Expression} → IsAtom index → IsAtom e → Assigns (assign (element array index) e)

-- "A label number (0 to 40,979)".
abbrev pub is_label_number : ℕ → Type 0
is_label_number l = l < 40980

mutual
  -- "Statements: empty; block; if with an atom and two blocks; while with an atom and a block; goto; label; and an expression statement
  -- that assigns"; and "the kernel's new kind 57 (abort, no fields)". The items `ahead` stand behind the statement in its list, and behind that list's owner in the lists around: "a
  -- goto's label is a later item of a list that encloses it". "Kinds not named in this paragraph are not in the kernel language." `mayReturn`:
  -- the statement stands inside a function.
  pub data KernelStatement : Bool → Items → Statement → Type 0 where
    kernel-empty : {mayReturn : Bool} {ahead : Items} → KernelStatement mayReturn ahead empty
    kernel-assign : {mayReturn : Bool} {ahead : Items} {e : Expression} → Assigns e → KernelStatement mayReturn ahead (express e)
    kernel-block : {mayReturn : Bool} {ahead is : Items} → KernelItems mayReturn ahead is → KernelStatement mayReturn ahead (block is)
    kernel-if : {mayReturn : Bool} {ahead on_true on_false : Items} {e : Expression} → IsAtom e → KernelItems mayReturn ahead on_true → KernelItems mayReturn ahead on_false
        → KernelStatement mayReturn ahead (if_else e (block on_true) (block on_false))
    kernel-while : {mayReturn : Bool} {ahead body : Items} {e : Expression} → IsAtom e → KernelItems mayReturn ahead body → KernelStatement mayReturn ahead (while e (block body))
    kernel-goto : {mayReturn : Bool} {ahead : Items} {l : ℕ} → is_label_number l → has (label l) ahead ≡ true → KernelStatement mayReturn ahead (goto l)
    kernel-abort : {mayReturn : Bool} {ahead : Items} → KernelStatement mayReturn ahead abort
    -- "a kernel return takes an atom", and no "return outside a function"
    kernel-return : {ahead : Items} {e : Expression} → IsAtom e → KernelStatement true ahead (give_back (present e))

  pub data KernelItems : Bool → Items → Items → Type 0 where
    kernel-none : {mayReturn : Bool} {ahead : Items} → KernelItems mayReturn ahead none
    kernel-then : {mayReturn : Bool} {ahead is : Items} {s : Statement} → KernelStatement mayReturn (is ⧺ ahead) s → KernelItems mayReturn ahead is → KernelItems mayReturn ahead (s then is)
    kernel-label : {mayReturn : Bool} {ahead is : Items} {l : ℕ} → is_label_number l → KernelItems mayReturn ahead is → KernelItems mayReturn ahead (label l here is)

-- "Definitions come first in row 0's list"; "a goto stays inside its function".
pub data KernelProgram : Items → Type 0 where
  kernel_main : {is : Items} → KernelItems false none is → KernelProgram is
  kernel_define : {is body : Items} {f : ℕ} {words : List ℕ} → KernelItems true none body → KernelProgram is → KernelProgram (define f words body is)

-- How often a label stands in a tree.
abbrev pub mark_times : ℕ → Mark → ℕ
mark_times j (case v) = 0
mark_times j default = 0
mark_times j (label l) = pick (eqb j l) 1 0

unfoldable mutual
  pub statement_times : ℕ → Statement → ℕ
  statement_times j empty = 0
  statement_times j (express e) = 0
  statement_times j (block is) = items_times j is
  statement_times j (if_then e on_true) = statement_times j on_true
  statement_times j (if_else e on_true on_false) = statement_times j on_true + statement_times j on_false
  statement_times j (while e body) = statement_times j body
  statement_times j (do_while body e) = statement_times j body
  statement_times j (for first test action body) = statement_times j body
  statement_times j (switch e is) = items_times j is
  statement_times j break = 0
  statement_times j continue = 0
  statement_times j (goto l) = 0
  statement_times j (guarded_if arms) = arms_times j arms
  statement_times j (guarded_do arms) = arms_times j arms
  statement_times j abort = 0
  statement_times j (declare i e) = 0
  statement_times j (give_back value) = 0

  pub arms_times : ℕ → Arms → ℕ
  arms_times j no_arm = 0
  arms_times j (arm e s arms) = statement_times j s + arms_times j arms

  pub items_times : ℕ → Items → ℕ
  items_times j none = 0
  items_times j (s then is) = statement_times j s + items_times j is
  items_times j (m here is) = mark_times j m + items_times j is
  items_times j (define f words body is) = items_times j body + items_times j is

-- "T temporaries, which are variable numbers S to S+T−1; numbers V to S−1 name nothing." Change 11: S to S+D+T−1. Here T is the number of
-- all words behind the first S: D declared words, then the temporaries.
pub data KernelName (L : Layout) (T : ℕ) : ℕ → Type 0 where
  name_variable : {i : ℕ} → i < L.variables → KernelName L T i
  name_temporary : {t : ℕ} → t < T → KernelName L T (store_size L + t)

-- The items of a kernel program, with T words behind the first S.
pub record KernelTree (L : Layout) (T : ℕ) (program : Items) : Type 0 where
  pub form : KernelProgram program
  -- "A label number stands once".
  pub labels_once : (l : ℕ) → items_times l program ≤ 1
  pub named : NamedItems (KernelName L T) (length L.lengths) program
  -- Calls go to lower functions, with as many arguments as these have parameters.
  pub calls : CallsInOrder program
  -- "T temporaries (0 to 8,192)", D at most 64; "Up to 40,980 rows, depth up to 512."
  pub few_temporaries : T ≤ 8256
  pub few_rows : statement_rows (block program) ≤ 40980
  pub shallow : statement_depth (block program) ≤ 512
