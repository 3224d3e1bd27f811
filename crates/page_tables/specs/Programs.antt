-- Programs: the lines of a kernel program fit, where its functions are numbered in order, its calls go to lower ones, and its parameters have words of
-- their own.
use Rattle.std.specs.Prelude.{◌≡◌, Bool, List, [], ◌∷◌, length}
use Rattle.std.proofs.Common.{sym, eq-eqb, ne_eqb}
use Prim.Native.Nat.{ℕ, suc, ◌+◌, ◌≤◌, ◌<◌}
use native.Mathlib.Omega.{arith}
use Rattle.language.specs.Trees.{Expression, Arguments, Statement, Items, define}
use Rattle.language.specs.Functions.{function_of, function_count}
use Rattle.language.specs.Calls.{CallsBelow, ArgumentsCallBelow, StatementCallsBelow, ItemsCallBelow, arity_in, Numbered, CallsInOrder}
use Rattle.language.specs.Sizes.{items_rows, statement_rows}
use Rattle.language.specs.WellFormed.{NamedWords}
use Rattle.translation.specs.KernelForm.{IsAtom, constant-atom, variable_atom, AreAtoms, no_more_atoms, more_atoms, Assigns, assigns_atom, assigns_minus, assigns_operation, assigns_element, assigns_call, assigns_to_element, KernelStatement, kernel-empty, kernel-assign, kernel-block, kernel-if, kernel-while, kernel-goto, kernel-abort, kernel-return, KernelItems, kernel-none, kernel-then, kernel-label, KernelProgram, kernel_main, kernel_define}
use Rattle.translation_legal.proofs.EmittedFunctions.{plain-count}
use Rattle.translation_legal.specs.OwnWords.{ParameterWord, OwnWords, FrontParameters}
use Rattle.page.proofs.Fits.{Parametered, no-parameter, more-parameters, ProgramFits, main-fits, define-fits}

-- A program has fewer functions than rows.
pub functions-few : {is : Items} → KernelProgram is → function_count is ≤ items_rows is
unfolding function_count items_rows statement_rows
functions-few (kernel_main k) = omega (arith, plain-count k)
functions-few (kernel_define b k) = omega (arith, functions-few k)

-- Calls below a number are below a higher one.
module _ (arity : ℕ → ℕ) (low high : ℕ) (more : low ≤ high) where
  atom-wider : {e : Expression} → IsAtom e → CallsBelow arity low e → CallsBelow arity high e
  unfolding CallsBelow
  atom-wider constant-atom c = tt
  atom-wider variable_atom c = tt

  arguments-wider : {arguments : Arguments} → AreAtoms arguments → ArgumentsCallBelow arity low arguments → ArgumentsCallBelow arity high arguments
  unfolding CallsBelow
  arguments-wider no_more_atoms c = tt
  arguments-wider (more_atoms a others) c = (atom-wider a c.0, arguments-wider others c.1)

  assignment-wider : {e : Expression} → Assigns e → CallsBelow arity low e → CallsBelow arity high e
  unfolding CallsBelow
  assignment-wider (assigns_atom a) c = (tt, atom-wider a c.1)
  assignment-wider (assigns_minus a) c = (tt, atom-wider a c.1)
  assignment-wider (assigns_operation a b) c = (tt, (atom-wider a c.1.0, atom-wider b c.1.1))
  assignment-wider (assigns_element a) c = (tt, atom-wider a c.1)
  assignment-wider (assigns_call {f = f} h) c = let below : f < low = c.1.0 in (tt, (omega arith, c.1.1, arguments-wider h c.1.2))
  assignment-wider (assigns_to_element a b) c = (atom-wider a c.0, atom-wider b c.1)

  mutual
    unfolding StatementCallsBelow

    statement-wider : {mayReturn : Bool} {ahead : Items} {s : Statement} → KernelStatement mayReturn ahead s → StatementCallsBelow arity low s → StatementCallsBelow arity high s
    statement-wider kernel-empty c = tt
    statement-wider (kernel-assign h) c = assignment-wider h c
    statement-wider (kernel-block h) c = items-wider h c
    statement-wider (kernel-if a h k) c = (atom-wider a c.0, items-wider h c.1, items-wider k c.2)
    statement-wider (kernel-while a h) c = (atom-wider a c.0, items-wider h c.1)
    statement-wider (kernel-goto b h) c = tt
    statement-wider kernel-abort c = tt
    statement-wider (kernel-return a) c = atom-wider a c

    items-wider : {mayReturn : Bool} {ahead is : Items} → KernelItems mayReturn ahead is → ItemsCallBelow arity low is → ItemsCallBelow arity high is
    items-wider kernel-none c = tt
    items-wider (kernel-then h hs) c = (statement-wider h c.0, items-wider hs c.1)
    items-wider (kernel-label b hs) c = items-wider hs c

module _ (Names : ℕ → Type 0) (arrays : ℕ) (Parameters : ℕ → Type 0) (S D : ℕ) (named : (word : ℕ) → ParameterWord S D word → Parameters word) where
  words-fit : (words : List ℕ) → NamedWords (ParameterWord S D) 0 words → Parametered Names arrays Parameters words
  words-fit [] h = no-parameter
  words-fit (word ∷ words) h = more-parameters (named word h.0) (words-fit words h.1)

  module _ (arity : ℕ → ℕ) (functions : ℕ) (few : functions ≤ 40980) where
    fits-from : (number : ℕ) {is : Items} → KernelProgram is → Numbered number is → number + function_count is ≡ functions → FrontParameters (OwnWords S D) is
        → ((f : ℕ) → number ≤ f → f < functions → ItemsCallBelow arity f (function_of f is).body) → ItemsCallBelow arity functions is → ProgramFits Names arrays Parameters arity functions few is
    unfolding Numbered function_count function_of FrontParameters ItemsCallBelow
    fits-from number (kernel_main k) numbered count own bodies calls = main-fits k calls
    fits-from number (kernel_define {is} {body} {f} {words} b k) numbered count own bodies calls =
        let same = numbered.0 in
        let inner : ItemsCallBelow arity number body = rw (eq-eqb number f (sym same)) at (bodies number (omega arith) (omega (arith, count))) in
        let others : (g : ℕ) → suc number ≤ g → g < functions → ItemsCallBelow arity g (function_of g is).body = λ g l h. rw (ne_eqb g f (λ e. omega (arith, same))) at (bodies g (omega arith) h) in
        define-fits {f = f} (omega (arith, same, count)) (words-fit words own.0.declared) b (items-wider arity number functions (omega (arith, count)) b inner)
        (fits-from (suc number) k numbered.1 (omega (arith, count)) own.1 others calls)

  pub legal-fits : {program : Items} (few : function_count program ≤ 40980) → KernelProgram program → CallsInOrder program → FrontParameters (OwnWords S D) program
      → ProgramFits Names arrays Parameters (arity_in program) (function_count program) few program
  legal-fits {program} few form calls own =
      fits-from (arity_in program) (function_count program) few 0 form calls.numbered (omega arith) own (λ f l h. calls.lower f h) calls.main
