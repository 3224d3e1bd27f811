-- Calls: which functions a tree calls, and with how many arguments. "A call to no function, to its own or a higher one, or with the wrong number of
-- arguments 24": every call of a function's block goes to a lower number, and every other call to some function, each with as many arguments as
-- the function has parameters.
use Rattle.std.specs.Prelude.{◌≡◌, ℕ, suc, ◌<◌, length}
use Rattle.language.specs.Trees.{Expression, constant, read, minus, not, binary, and, or, comma, conditional, assign, compound, prefix, postfix, call, Place, variable, element, Arguments, no_more, ◌also◌, Part, absent, present, Statement, empty, express, block, if_then, if_else, while, do_while, for, switch, break, continue, goto, guarded_if, guarded_do, abort, declare, give_back, Arms, no_arm, arm, Items, none, ◌then◌, ◌here◌, define}
use Rattle.language.specs.Functions.{function_of, function_count}

unfoldable pub argument_count : Arguments → ℕ
argument_count no_more = 0
argument_count (e also arguments) = suc (argument_count arguments)

-- Calls go to numbers below `limit`; `arity f` is the number of function f's parameters.
module _ (arity : ℕ → ℕ) (limit : ℕ) where
  unfoldable mutual
    pub CallsBelow : Expression → Type 0
    CallsBelow (constant v) = Unit {0}
    CallsBelow (read p) = PlaceCallsBelow p
    CallsBelow (minus e) = CallsBelow e
    CallsBelow (not e) = CallsBelow e
    CallsBelow (binary o a b) = CallsBelow a × CallsBelow b
    CallsBelow (and a b) = CallsBelow a × CallsBelow b
    CallsBelow (or a b) = CallsBelow a × CallsBelow b
    CallsBelow (comma a b) = CallsBelow a × CallsBelow b
    CallsBelow (conditional c a b) = CallsBelow c × CallsBelow a × CallsBelow b
    CallsBelow (assign p e) = PlaceCallsBelow p × CallsBelow e
    CallsBelow (compound o p e) = PlaceCallsBelow p × CallsBelow e
    CallsBelow (prefix o p) = PlaceCallsBelow p
    CallsBelow (postfix o p) = PlaceCallsBelow p
    CallsBelow (call f arguments) = (f < limit) × (argument_count arguments ≡ arity f) × ArgumentsCallBelow arguments

    pub PlaceCallsBelow : Place → Type 0
    PlaceCallsBelow (variable i) = Unit {0}
    PlaceCallsBelow (element array e) = CallsBelow e

    pub ArgumentsCallBelow : Arguments → Type 0
    ArgumentsCallBelow no_more = Unit {0}
    ArgumentsCallBelow (e also arguments) = CallsBelow e × ArgumentsCallBelow arguments

  abbrev pub PartCallsBelow : Part → Type 0
  PartCallsBelow absent = Unit {0}
  PartCallsBelow (present e) = CallsBelow e

  unfoldable mutual
    pub StatementCallsBelow : Statement → Type 0
    StatementCallsBelow empty = Unit {0}
    StatementCallsBelow (express e) = CallsBelow e
    StatementCallsBelow (block is) = ItemsCallBelow is
    StatementCallsBelow (if_then e on_true) = CallsBelow e × StatementCallsBelow on_true
    StatementCallsBelow (if_else e on_true on_false) = CallsBelow e × StatementCallsBelow on_true × StatementCallsBelow on_false
    StatementCallsBelow (while e body) = CallsBelow e × StatementCallsBelow body
    StatementCallsBelow (do_while body e) = StatementCallsBelow body × CallsBelow e
    StatementCallsBelow (for first test action body) = PartCallsBelow first × PartCallsBelow test × PartCallsBelow action × StatementCallsBelow body
    StatementCallsBelow (switch e is) = CallsBelow e × ItemsCallBelow is
    StatementCallsBelow break = Unit {0}
    StatementCallsBelow continue = Unit {0}
    StatementCallsBelow (goto l) = Unit {0}
    StatementCallsBelow (guarded_if arms) = ArmsCallBelow arms
    StatementCallsBelow (guarded_do arms) = ArmsCallBelow arms
    StatementCallsBelow abort = Unit {0}
    StatementCallsBelow (declare word e) = CallsBelow e
    StatementCallsBelow (give_back value) = PartCallsBelow value

    pub ArmsCallBelow : Arms → Type 0
    ArmsCallBelow no_arm = Unit {0}
    ArmsCallBelow (arm guard body arms) = CallsBelow guard × StatementCallsBelow body × ArmsCallBelow arms

    -- A definition calls nothing where it stands.
    pub ItemsCallBelow : Items → Type 0
    ItemsCallBelow none = Unit {0}
    ItemsCallBelow (s then is) = StatementCallsBelow s × ItemsCallBelow is
    ItemsCallBelow (m here is) = ItemsCallBelow is
    ItemsCallBelow (define f words body is) = ItemsCallBelow is

-- How many parameters a function of a program has.
abbrev pub arity_in : Items → ℕ → ℕ
arity_in program f = length (function_of f program).parameters

-- "Definitions come first in row 0's list, numbered from 0 in order": those of a list, from a number on.
unfoldable pub Numbered : ℕ → Items → Type 0
Numbered number none = Unit {0}
Numbered number (s then is) = Unit {0}
Numbered number (m here is) = Unit {0}
Numbered number (define f words body is) = (f ≡ number) × Numbered (suc number) is

-- "Definitions come first in row 0's list": behind another item there is none.
unfoldable pub DefinitionsFirst : Items → Type 0
DefinitionsFirst none = Unit {0}
DefinitionsFirst (s then is) = function_count is ≡ 0
DefinitionsFirst (m here is) = function_count is ≡ 0
DefinitionsFirst (define f words body is) = DefinitionsFirst is

-- The functions of a program and its calls.
pub record CallsInOrder (program : Items) : Type 0 where
  pub numbered : Numbered 0 program
  pub lower : (f : ℕ) → f < function_count program → ItemsCallBelow (arity_in program) f (function_of f program).body
  pub main : ItemsCallBelow (arity_in program) (function_count program) program
