-- Fits: lines of kernel form whose constants are words and whose names are within bounds; a kernel program has no others.
use Rattle.std.specs.Prelude.{Bool, true, false, List, [], ◌∷◌, ◌++◌, ℕ, ◌+◌, ◌^◌, ◌<◌, ◌≤◌, ℤ}
use Rattle.std.proofs.Common.{arith}
use Rattle.std.specs.Int.Signed.{mag}
use Rattle.words.specs.declared.Operator.{Operator}
use Rattle.language.specs.Trees.{Expression, constant, read, minus, binary, assign, call, variable, element, Arguments, no_more, ◌also◌, present, label, Statement, empty, express, goto, abort, give_back, Items, none as no_item, define}
use Rattle.language.specs.Calls.{CallsBelow, StatementCallsBelow, ItemsCallBelow}
use Rattle.language.specs.WellFormed.{NamedExpression, NamedArguments, NamedStatement, NamedItems}
use Rattle.translation.specs.KernelForm.{IsAtom, constant-atom, variable_atom, AreAtoms, no_more_atoms, more_atoms, Assigns, assigns_atom, assigns_minus, assigns_operation, assigns_element, assigns_call, assigns_to_element, is_label_number, KernelStatement, kernel-empty, kernel-assign, kernel-block, kernel-if, kernel-while, kernel-goto, kernel-abort, kernel-return, KernelItems, kernel-none, kernel-then, kernel-label}
use Rattle.accepted.specs.Worded.{ValuedExpression, ValuedArguments, ValuedStatement, ValuedItems, IsWord}
use Rattle.page.specs.Lines.{PageLine, single, mark, opens, opens_while, opens_if, turns, closes, opens_call, argument, last_argument, opens_function, opens_parameters, parameter, last_parameter, Indented, indented, argument_lines, expression_lines, parameter_lines, definition_lines, statement_lines, items_lines}

-- A program has fewer functions than rows.
abbrev pub is_function : ℕ → Type 0
is_function f = f < 40980

-- Variables satisfy Names, arrays are below `arrays`.
module _ (Names : ℕ → Type 0) (arrays : ℕ) where
  pub data AtomFits : Expression → Type 0 where
    fits-constant : {v : ℤ} → mag v < 2 ^ 31 → AtomFits (constant v)
    fits-variable : {i : ℕ} → Names i → AtomFits (read (variable i))

  pub data ValueFits : Expression → Type 0 where
    value-atom : {e : Expression} → AtomFits e → ValueFits e
    value-element : {array : ℕ} {e : Expression} → array < arrays → AtomFits e → ValueFits (read (element array e))
    value-minus : {e : Expression} → AtomFits e → ValueFits (minus e)
    value-binary : {o : Operator} {a b : Expression} → AtomFits a → AtomFits b → ValueFits (binary o a b)
    value-call : {f : ℕ} → is_function f → ValueFits (call f no_more)

  atom_fits : {e : Expression} → IsAtom e → NamedExpression Names arrays e → ValuedExpression IsWord e → AtomFits e
  unfolding NamedExpression ValuedExpression
  atom_fits constant-atom n v = fits-constant v
  atom_fits variable_atom n v = fits-variable n

  -- The words of parameters satisfy Parameters.
  module _ (Parameters : ℕ → Type 0) where
    pub data LineFits : PageLine → Type 0 where
      fits-empty : LineFits (single empty)
      fits-abort : LineFits (single abort)
      fits-goto : {l : ℕ} → is_label_number l → LineFits (single (goto l))
      fits-label : {l : ℕ} → is_label_number l → LineFits (mark (label l))
      fits-store : {i : ℕ} {e : Expression} → Names i → ValueFits e → LineFits (single (express (assign (variable i) e)))
      fits-put : {array : ℕ} {index e : Expression} → array < arrays → AtomFits index → AtomFits e → LineFits (single (express (assign (element array index) e)))
      fits-return : {e : Expression} → AtomFits e → LineFits (single (give_back (present e)))
      fits-opens : LineFits opens
      fits-while : {e : Expression} → AtomFits e → LineFits (opens_while e)
      fits-if : {e : Expression} → AtomFits e → LineFits (opens_if e)
      fits-turns : LineFits turns
      fits-closes : LineFits closes
      fits-call : {i f : ℕ} → Names i → is_function f → LineFits (opens_call (variable i) f)
      fits-argument : {e : Expression} → AtomFits e → LineFits (argument e)
      fits-last-argument : {e : Expression} → AtomFits e → LineFits (last_argument e)
      fits-function : {f : ℕ} → is_function f → LineFits (opens_function f)
      fits-parameters : {f : ℕ} → is_function f → LineFits (opens_parameters f)
      fits-parameter : {word : ℕ} → Parameters word → LineFits (parameter word)
      fits-last-parameter : {word : ℕ} → Parameters word → LineFits (last_parameter word)

    pub data AllFit : List Indented → Type 0 where
      all_none : AllFit []
      all_more : {level : ℕ} {line : PageLine} {lines : List Indented} → LineFits line → AllFit lines → AllFit (indented level line ∷ lines)

    fit_append : {xs ys : List Indented} → AllFit xs → AllFit ys → AllFit (xs ++ ys)
    fit_append all_none k = k
    fit_append (all_more f h) k = all_more f (fit_append h k)

    -- ---- a kernel program whose names and constants are within bounds

    arguments-fit : (level : ℕ) (e : Expression) {arguments : Arguments} → AtomFits e → AreAtoms arguments → NamedArguments Names arrays arguments → ValuedArguments IsWord arguments
        → AllFit (argument_lines level e arguments)
    unfolding argument_lines NamedExpression ValuedExpression
    arguments-fit level e f no_more_atoms n v = all_more (fits-last-argument f) all_none
    arguments-fit level e f (more_atoms {e = next} h k) n v = all_more (fits-argument f) (arguments-fit level next (atom_fits h n.0 v.0) k n.1 v.1)

    -- The words of parameters, one by one.
    pub data Parametered : List ℕ → Type 0 where
      no-parameter : Parametered []
      more-parameters : {word : ℕ} {words : List ℕ} → Parameters word → Parametered words → Parametered (word ∷ words)

    parameters-fit : (level word : ℕ) {words : List ℕ} → Parameters word → Parametered words → AllFit (parameter_lines level word words)
    unfolding parameter_lines
    parameters-fit level word p no-parameter = all_more (fits-last-parameter p) all_none
    parameters-fit level word p (more-parameters {word = next} q more) = all_more (fits-parameter p) (parameters-fit level next q more)

    definition-fits : (level : ℕ) {f : ℕ} {words : List ℕ} → is_function f → Parametered words → AllFit (definition_lines level f words)
    definition-fits level h no-parameter = all_more (fits-function h) all_none
    definition-fits level h (more-parameters {word} p more) = all_more (fits-parameters h) (parameters-fit level word p more)

    -- Calls go to functions below `limit`; `arity f` is the number of function f's parameters.
    module _ (arity : ℕ → ℕ) (limit : ℕ) (few : limit ≤ 40980) where
      assignment-fits : (level : ℕ) {e : Expression} → Assigns e → CallsBelow arity limit e → NamedExpression Names arrays e → ValuedExpression IsWord e → AllFit (expression_lines level e)
      unfolding NamedExpression ValuedExpression CallsBelow
      assignment-fits level (assigns_atom constant-atom) c n v = all_more (fits-store n.0 (value-atom (fits-constant v.1))) all_none
      assignment-fits level (assigns_atom variable_atom) c n v = all_more (fits-store n.0 (value-atom (fits-variable n.1))) all_none
      assignment-fits level (assigns_minus h) c n v = all_more (fits-store n.0 (value-minus (atom_fits h n.1 v.1))) all_none
      assignment-fits level (assigns_operation h k) c n v = all_more (fits-store n.0 (value-binary (atom_fits h n.1.0 v.1.0) (atom_fits k n.1.1 v.1.1))) all_none
      assignment-fits level (assigns_element h) c n v = all_more (fits-store n.0 (value-element n.1.0 (atom_fits h n.1.1 v.1))) all_none
      assignment-fits level (assigns_call {f = f} no_more_atoms) c n v = let below : f < limit = c.1.0 in all_more (fits-store n.0 (value-call {f = f} (omega arith))) all_none
      assignment-fits level (assigns_call {f = f} (more_atoms {e} h k)) c n v =
          let below : f < limit = c.1.0 in
          all_more (fits-call {f = f} n.0 (omega arith)) (arguments-fit level e (atom_fits h n.1.0 v.1.0) k n.1.1 v.1.1)
      assignment-fits level (assigns_to_element h constant-atom) c n v = all_more (fits-put n.0.0 (atom_fits h n.0.1 v.0) (fits-constant v.1)) all_none
      assignment-fits level (assigns_to_element h variable_atom) c n v = all_more (fits-put n.0.0 (atom_fits h n.0.1 v.0) (fits-variable n.1)) all_none

      mutual
        unfolding statement_lines NamedStatement ValuedStatement StatementCallsBelow

        statement-fits : {mayReturn : Bool} {ahead : Items} {s : Statement} → (level : ℕ) → KernelStatement mayReturn ahead s → StatementCallsBelow arity limit s → NamedStatement Names arrays s
            → ValuedStatement IsWord s → AllFit (statement_lines level s)
        statement-fits level kernel-empty c n v = all_more fits-empty all_none
        statement-fits level (kernel-assign h) c n v = assignment-fits level h c n v
        statement-fits level (kernel-block h) c n v = all_more fits-opens (fit_append (items-fit (level + 1) h c n v) (all_more fits-closes all_none))
        statement-fits level (kernel-if a h k) c n v =
            all_more (fits-if (atom_fits a n.0 v.0))
            (fit_append (items-fit (level + 1) h c.1 n.1 v.1)
            (all_more fits-turns (fit_append (items-fit (level + 1) k c.2 n.2 v.2) (all_more fits-closes all_none))))
        statement-fits level (kernel-while a h) c n v =
            all_more (fits-while (atom_fits a n.0 v.0)) (fit_append (items-fit (level + 1) h c.1 n.1 v.1) (all_more fits-closes all_none))
        statement-fits level (kernel-goto b h) c n v = all_more (fits-goto b) all_none
        statement-fits level kernel-abort c n v = all_more fits-abort all_none
        statement-fits level (kernel-return a) c n v = all_more (fits-return (atom_fits a n v)) all_none

        items-fit : {mayReturn : Bool} {ahead is : Items} → (level : ℕ) → KernelItems mayReturn ahead is → ItemsCallBelow arity limit is → NamedItems Names arrays is → ValuedItems IsWord is
            → AllFit (items_lines level is)
        items-fit level kernel-none c n v = all_none
        items-fit level (kernel-then h hs) c n v = fit_append (statement-fits level h c.0 n.0 v.0) (items-fit level hs c.1 n.1 v.1)
        items-fit level (kernel-label b hs) c n v = all_more (fits-label b) (items-fit level hs c n v.1)

      -- A program's definitions, which call below `limit` and stand below it, then its other items.
      pub data ProgramFits : Items → Type 0 where
        main-fits : {is : Items} → KernelItems false no_item is → ItemsCallBelow arity limit is → ProgramFits is
        define-fits : {f : ℕ} {words : List ℕ} {body is : Items} → f < limit → Parametered words → KernelItems true no_item body → ItemsCallBelow arity limit body → ProgramFits is
            → ProgramFits (define f words body is)

      pub program-fits : {is : Items} → (level : ℕ) → ProgramFits is → NamedItems Names arrays is → ValuedItems IsWord is → AllFit (items_lines level is)
      unfolding statement_lines NamedStatement ValuedStatement
      program-fits level (main-fits h c) n v = items-fit level h c n v
      program-fits level (define-fits {f} below p h c rest) n v =
          fit_append (definition-fits level {f = f} (omega arith) p)
          (fit_append (items-fit (level + 1) h c n.1 v.0) (all_more fits-closes (program-fits level rest n.2 v.1)))
