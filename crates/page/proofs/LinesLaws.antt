-- Laws of lines: what a line comes to, by what it stands before; a kernel program's lines are read back as its items; a row has at most two
-- lines. The last two by induction over kernel form.
use Rattle.std.specs.Prelude.{◌≡◌, refl, Bool, List, [], ◌∷◌, ◌++◌, ℕ, ◌+◌, ◌*◌, ◌≤◌, length, Some}
use Rattle.std.proofs.Common.{ap, arith, length-append}
use Rattle.language.specs.Trees.{Expression, Arguments, no_more, ◌also◌, Statement, express, block, if_else, Items, none as no_item, ◌then◌, ◌here◌, define, ◌⧺◌}
use Rattle.language.specs.Sizes.{expression_rows, arguments_rows, statement_rows, items_rows}
use Rattle.translation.specs.KernelForm.{constant-atom, variable_atom, no_more_atoms, more_atoms, Assigns, assigns_atom, assigns_minus, assigns_operation, assigns_element, assigns_call, assigns_to_element, KernelStatement, kernel-empty, kernel-assign, kernel-block, kernel-if, kernel-while, kernel-goto, kernel-abort, kernel-return, KernelItems, kernel-none, kernel-then, kernel-label, KernelProgram, kernel_main, kernel_define}
use Rattle.page.specs.Lines.{closes, turns, Indented, indented, argument_lines, expression_lines, parameter_lines, definition_lines, statement_lines, items_lines, plain, Waiting, outermost, closed, turned, Reading, reading, passing, taking, malformed, takes_back, opened_if, before_items, before_arguments, before_parameters, read_line, read_before, read_lines}

-- ---- a line before others

-- Before anything else than it stands before, a line is malformed.
module _ (T : Reading → Reading → Type 0) (wrong : (r : Reading) → T r malformed) where
  pub before-items : (f : Items → Waiting → Reading) → ((is : Items) (waiting : Waiting) → T (reading is waiting) (f is waiting)) → (r : Reading) → T r (before_items f r)
  before-items f own (reading is waiting) = own is waiting
  before-items f own (passing e arguments is waiting) = wrong (passing e arguments is waiting)
  before-items f own (taking word words body later waiting) = wrong (taking word words body later waiting)
  before-items f own malformed = wrong malformed

  pub before-arguments : (f : Expression → Arguments → Items → Waiting → Reading)
      → ((e : Expression) (arguments : Arguments) (is : Items) (waiting : Waiting) → T (passing e arguments is waiting) (f e arguments is waiting)) → (r : Reading) → T r (before_arguments f r)
  before-arguments f own (reading is waiting) = wrong (reading is waiting)
  before-arguments f own (passing e arguments is waiting) = own e arguments is waiting
  before-arguments f own (taking word words body later waiting) = wrong (taking word words body later waiting)
  before-arguments f own malformed = wrong malformed

  pub before-parameters : (f : ℕ → List ℕ → Items → Items → Waiting → Reading)
      → ((word : ℕ) (words : List ℕ) (body later : Items) (waiting : Waiting) → T (taking word words body later waiting) (f word words body later waiting)) → (r : Reading) → T r (before_parameters f r)
  before-parameters f own (reading is waiting) = wrong (reading is waiting)
  before-parameters f own (passing e arguments is waiting) = wrong (passing e arguments is waiting)
  before-parameters f own (taking word words body later waiting) = own word words body later waiting
  before-parameters f own malformed = wrong malformed

  -- A line that opens a block.
  pub before-block : (f : Items → Items → Waiting → Reading) → ((is later : Items) (waiting : Waiting) → T (reading is (closed later waiting)) (f is later waiting)) → (r : Reading)
      → T r (before_items (takes_back f) r)
  before-block f own = before-items (takes_back f) from
    where
      from : (is : Items) (waiting : Waiting) → T (reading is waiting) (takes_back f is waiting)
      from is outermost = wrong (reading is outermost)
      from is (closed later waiting) = own is later waiting
      from is (turned on_false waiting) = wrong (reading is (turned on_false waiting))

  -- An if, with both its branches.
  pub before-branches : (e : Expression) → ((is on_false later : Items) (waiting : Waiting) → T (reading is (turned on_false (closed later waiting))) (reading (if_else e (block is) (block on_false) then later) waiting))
      → (r : Reading) → T r (before_items (opened_if e) r)
  before-branches e own = before-items (opened_if e) from
    where
      from : (is : Items) (waiting : Waiting) → T (reading is waiting) (opened_if e is waiting)
      from is outermost = wrong (reading is outermost)
      from is (closed later waiting) = wrong (reading is (closed later waiting))
      from is (turned on_false outermost) = wrong (reading is (turned on_false outermost))
      from is (turned on_false (closed later waiting)) = own is on_false later waiting
      from is (turned on_false (turned other waiting)) = wrong (reading is (turned on_false (turned other waiting)))

-- ---- read back

read-append : (xs ys : List Indented) (r : Reading) → read_before (plain (xs ++ ys)) r ≡ read_before (plain xs) (read_before (plain ys) r)
unfolding read_before plain
read-append [] ys r = refl
read-append (indented level x ∷ xs) ys r = ap (read_line x) (read-append xs ys r)

append-none : (is : Items) → is ⧺ no_item ≡ is
unfolding ◌⧺◌
append-none no_item = refl
append-none (s then is) = ap (λ ys. s then ys) (append-none is)
append-none (m here is) = ap (λ ys. m here ys) (append-none is)
append-none (define f words body is) = ap (λ ys. define f words body ys) (append-none is)

arguments-read : (level : ℕ) (e : Expression) (arguments : Arguments) (later : Items) (waiting : Waiting)
    → read_before (plain (argument_lines level e arguments)) (reading later waiting) ≡ passing e arguments later waiting
unfolding argument_lines plain read_before
arguments-read level e no_more later waiting = refl
arguments-read level e (next also arguments) later waiting = rw (arguments-read level next arguments later waiting)

assignment-read : (level : ℕ) {e : Expression} → Assigns e → (later : Items) (waiting : Waiting)
    → read_before (plain (expression_lines level e)) (reading later waiting) ≡ reading (express e then later) waiting
unfolding plain read_before
assignment-read level (assigns_atom constant-atom) later waiting = refl
assignment-read level (assigns_atom variable_atom) later waiting = refl
assignment-read level (assigns_minus h) later waiting = refl
assignment-read level (assigns_operation h k) later waiting = refl
assignment-read level (assigns_element h) later waiting = refl
assignment-read level (assigns_call no_more_atoms) later waiting = refl
assignment-read level (assigns_call (more_atoms {e} {arguments} h k)) later waiting = rw (arguments-read level e arguments later waiting)
assignment-read level (assigns_to_element h constant-atom) later waiting = refl
assignment-read level (assigns_to_element h variable_atom) later waiting = refl

parameters-read : (level word : ℕ) (words : List ℕ) (body later : Items) (waiting : Waiting)
    → read_before (plain (parameter_lines level word words)) (reading body (closed later waiting)) ≡ taking word words body later waiting
unfolding parameter_lines plain read_before
parameters-read level word [] body later waiting = refl
parameters-read level word (next ∷ words) body later waiting = rw (parameters-read level next words body later waiting)

definition-read : (level f : ℕ) (words : List ℕ) (body later : Items) (waiting : Waiting)
    → read_before (plain (definition_lines level f words)) (reading body (closed later waiting)) ≡ reading (define f words body later) waiting
unfolding plain read_before
definition-read level f [] body later waiting = refl
definition-read level f (word ∷ words) body later waiting = rw (parameters-read level word words body later waiting)

mutual
  unfolding statement_lines plain read_before ◌⧺◌

  statement-read : {mayReturn : Bool} {ahead : Items} {s : Statement} → (level : ℕ) → KernelStatement mayReturn ahead s → (later : Items) (waiting : Waiting)
      → read_before (plain (statement_lines level s)) (reading later waiting) ≡ reading (s then later) waiting
  statement-read level kernel-empty later waiting = refl
  statement-read level (kernel-assign h) later waiting = assignment-read level h later waiting
  statement-read level (kernel-block {is = is} h) later waiting =
      rw (read-append (items_lines (level + 1) is) (indented level closes ∷ []), items-read (level + 1) h no_item (closed later waiting), append-none)
  statement-read level (kernel-if {on_true = on_true} {on_false = on_false} a h k) later waiting =
      rw (
        read-append (items_lines (level + 1) on_true),
        read-append (items_lines (level + 1) on_false) (indented level closes ∷ []),
        items-read (level + 1) k no_item (closed later waiting),
        append-none on_false,
        items-read (level + 1) h no_item (turned on_false (closed later waiting)),
        append-none on_true,
      )
  statement-read level (kernel-while {body = body} a h) later waiting =
      rw (read-append (items_lines (level + 1) body) (indented level closes ∷ []), items-read (level + 1) h no_item (closed later waiting), append-none)
  statement-read level (kernel-goto b h) later waiting = refl
  statement-read level kernel-abort later waiting = refl
  statement-read level (kernel-return a) later waiting = refl

  items-read : {mayReturn : Bool} {ahead is : Items} → (level : ℕ) → KernelItems mayReturn ahead is → (later : Items) (waiting : Waiting)
      → read_before (plain (items_lines level is)) (reading later waiting) ≡ reading (is ⧺ later) waiting
  items-read level kernel-none later waiting = refl
  items-read level (kernel-then {is = is} {s = s} h hs) later waiting =
      rw (read-append (statement_lines level s) (items_lines level is), items-read level hs later waiting) (statement-read level h (is ⧺ later) waiting)
  items-read level (kernel-label b hs) later waiting = rw (items-read level hs later waiting)

program-read : {is : Items} → (level : ℕ) → KernelProgram is → (later : Items) (waiting : Waiting) → read_before (plain (items_lines level is)) (reading later waiting) ≡ reading (is ⧺ later) waiting
unfolding statement_lines plain read_before ◌⧺◌
program-read level (kernel_main k) later waiting = items-read level k later waiting
program-read level (kernel_define {is} {body} {f} {words} b k) later waiting =
    rw (
      read-append (definition_lines level f words),
      read-append (items_lines (level + 1) body) (indented level closes ∷ items_lines level is),
      program-read level k later waiting,
      items-read (level + 1) b no_item (closed (is ⧺ later) waiting),
      append-none body,
    ) (definition-read level f words body (is ⧺ later) waiting)

pub lines-read-back : {is : Items} → KernelProgram is → (level : ℕ) → read_lines (plain (items_lines level is)) ≡ Some is
unfolding read_lines
lines-read-back {is} h level = rw (program-read level h no_item outermost, append-none is)

-- ---- how many

arguments-few : (level : ℕ) (e : Expression) (arguments : Arguments) → length (argument_lines level e arguments) ≤ arguments_rows (e also arguments)
unfolding argument_lines expression_rows
arguments-few level e no_more = omega arith
arguments-few level e (next also arguments) = omega (arith, arguments-few level next arguments)

assignment-few : (level : ℕ) {e : Expression} → Assigns e → length (expression_lines level e) ≤ 1 + expression_rows e
unfolding expression_rows
assignment-few level (assigns_atom constant-atom) = omega arith
assignment-few level (assigns_atom variable_atom) = omega arith
assignment-few level (assigns_minus h) = omega arith
assignment-few level (assigns_operation h k) = omega arith
assignment-few level (assigns_element h) = omega arith
assignment-few level (assigns_call no_more_atoms) = omega arith
assignment-few level (assigns_call (more_atoms {e} {arguments} h k)) = omega (arith, arguments-few level e arguments)
assignment-few level (assigns_to_element h constant-atom) = omega arith
assignment-few level (assigns_to_element h variable_atom) = omega arith

parameters-few : (level word : ℕ) (words : List ℕ) → length (parameter_lines level word words) ≡ 1 + length words
unfolding parameter_lines
parameters-few level word [] = refl
parameters-few level word (next ∷ words) = omega (arith, parameters-few level next words)

definition-few : (level f : ℕ) (words : List ℕ) → length (definition_lines level f words) ≡ 1 + length words
definition-few level f [] = refl
definition-few level f (word ∷ words) = omega (arith, parameters-few level word words)

mutual
  unfolding statement_lines statement_rows

  statement-few : {mayReturn : Bool} {ahead : Items} {s : Statement} → (level : ℕ) → KernelStatement mayReturn ahead s → length (statement_lines level s) ≤ 2 * statement_rows s
  statement-few level kernel-empty = omega arith
  statement-few level (kernel-assign h) = omega (arith, assignment-few level h)
  statement-few level (kernel-block {is = is} h) = omega (arith, length-append (items_lines (level + 1) is) (indented level closes ∷ []), items-few (level + 1) h)
  statement-few level (kernel-if {on_true = on_true} {on_false = on_false} a h k) =
      let ends = indented level closes ∷ [] in
      omega (
        arith,
        length-append (items_lines (level + 1) on_true) (indented level turns ∷ (items_lines (level + 1) on_false ++ ends)),
        length-append (items_lines (level + 1) on_false) ends,
        items-few (level + 1) h,
        items-few (level + 1) k,
      )
  statement-few level (kernel-while {body = body} a h) = omega (arith, length-append (items_lines (level + 1) body) (indented level closes ∷ []), items-few (level + 1) h)
  statement-few level (kernel-goto b h) = omega arith
  statement-few level kernel-abort = omega arith
  statement-few level (kernel-return a) = omega arith

  items-few : {mayReturn : Bool} {ahead is : Items} → (level : ℕ) → KernelItems mayReturn ahead is → length (items_lines level is) ≤ 2 * items_rows is
  items-few level kernel-none = omega arith
  items-few level (kernel-then {is = is} {s = s} h hs) = omega (arith, length-append (statement_lines level s) (items_lines level is), statement-few level h, items-few level hs)
  items-few level (kernel-label b hs) = omega (arith, items-few level hs)

program-few : {is : Items} → (level : ℕ) → KernelProgram is → length (items_lines level is) ≤ 2 * items_rows is
unfolding statement_lines statement_rows
program-few level (kernel_main k) = items-few level k
program-few level (kernel_define {is} {body} {f} {words} b k) =
    omega (
      arith,
      length-append (definition_lines level f words) (items_lines (level + 1) body ++ (indented level closes ∷ items_lines level is)),
      length-append (items_lines (level + 1) body) (indented level closes ∷ items_lines level is),
      definition-few level f words,
      items-few (level + 1) b,
      program-few level k,
    )

-- Row 0's block has no lines of its own: "2 × rows − 2" at most.
pub lines-few : {is : Items} → KernelProgram is → length (items_lines 0 is) + 2 ≤ 2 * statement_rows (block is)
unfolding statement_rows
lines-few h = omega (arith, program-few 0 h)
