-- Trees of kernel form have the kernel's kinds.
use Rattle.std.specs.Prelude.{Bool}
use Rattle.language.specs.Trees.{Expression, Arguments, Statement, Items}
use Rattle.translation.specs.KernelForm.{IsAtom, constant-atom, variable_atom, AreAtoms, no_more_atoms, more_atoms, Assigns, assigns_atom, assigns_minus, assigns_operation, assigns_element, assigns_call, assigns_to_element, KernelStatement, kernel-empty, kernel-assign, kernel-block, kernel-if, kernel-while, kernel-goto, kernel-abort, kernel-return, KernelItems, kernel-none, kernel-then, kernel-label, KernelProgram, kernel_main, kernel_define}
use Rattle.language_emission.specs.KernelKinds.{ExpressionInKernel, a-constant, a_read, a-minus, a-binary, an-assign, a_call, a-variable, an-element, ArgumentsInKernel, no_arguments, an-argument, StatementInKernel, an-empty, an-express, a_block, an-if, a-while, a-goto, an-abort, a-return, ItemsInKernel, no_items, a-statement, a-label, a-definition}

atom-kinds : {e : Expression} → IsAtom e → ExpressionInKernel e
atom-kinds constant-atom = a-constant
atom-kinds variable_atom = a_read a-variable

atoms-kinds : {arguments : Arguments} → AreAtoms arguments → ArgumentsInKernel arguments
atoms-kinds no_more_atoms = no_arguments
atoms-kinds (more_atoms h k) = an-argument (atom-kinds h) (atoms-kinds k)

assignment-kinds : {e : Expression} → Assigns e → ExpressionInKernel e
assignment-kinds (assigns_atom h) = an-assign a-variable (atom-kinds h)
assignment-kinds (assigns_minus h) = an-assign a-variable (a-minus (atom-kinds h))
assignment-kinds (assigns_operation h k) = an-assign a-variable (a-binary (atom-kinds h) (atom-kinds k))
assignment-kinds (assigns_element h) = an-assign a-variable (a_read (an-element (atom-kinds h)))
assignment-kinds (assigns_call h) = an-assign a-variable (a_call (atoms-kinds h))
assignment-kinds (assigns_to_element h k) = an-assign (an-element (atom-kinds h)) (atom-kinds k)

mutual
  pub statement-kinds : {mayReturn : Bool} {ahead : Items} {s : Statement} → KernelStatement mayReturn ahead s → StatementInKernel s
  statement-kinds kernel-empty = an-empty
  statement-kinds (kernel-assign h) = an-express (assignment-kinds h)
  statement-kinds (kernel-block h) = a_block (items-kinds h)
  statement-kinds (kernel-if h k j) = an-if (atom-kinds h) (a_block (items-kinds k)) (a_block (items-kinds j))
  statement-kinds (kernel-while h k) = a-while (atom-kinds h) (a_block (items-kinds k))
  statement-kinds (kernel-goto n h) = a-goto
  statement-kinds kernel-abort = an-abort
  statement-kinds (kernel-return h) = a-return (atom-kinds h)

  pub items-kinds : {mayReturn : Bool} {ahead is : Items} → KernelItems mayReturn ahead is → ItemsInKernel is
  items-kinds kernel-none = no_items
  items-kinds (kernel-then h k) = a-statement (statement-kinds h) (items-kinds k)
  items-kinds (kernel-label n k) = a-label (items-kinds k)

pub program-kinds : {program : Items} → KernelProgram program → ItemsInKernel program
program-kinds (kernel_main k) = items-kinds k
program-kinds (kernel_define b k) = a-definition (items-kinds b) (program-kinds k)
