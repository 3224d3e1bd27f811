-- Worded trees: constants and case values are words.
use Rattle.std.specs.Prelude.{◌^◌, ◌<◌, ℤ}
use Rattle.std.specs.Int.Signed.{mag}
use Rattle.language.specs.Trees.{Expression, constant, read, minus, not, binary, and, or, comma, conditional, assign, compound, prefix, postfix, call, Place, variable, element, Arguments, no_more, ◌also◌, Part, absent, present, Mark, case, default, label, Statement, empty, express, block, if_then, if_else, while, do_while, for, switch, break, continue, goto, guarded_if, guarded_do, abort, declare, give_back, Arms, no_arm, arm, Items, none, ◌then◌, ◌here◌, define}

-- Every constant and every case value of a tree satisfies Value.
module _ (Value : ℤ → Type 0) where
  unfoldable mutual
    pub ValuedExpression : Expression → Type 0
    ValuedExpression (constant v) = Value v
    ValuedExpression (read p) = ValuedPlace p
    ValuedExpression (minus e) = ValuedExpression e
    ValuedExpression (not e) = ValuedExpression e
    ValuedExpression (binary o a b) = ValuedExpression a × ValuedExpression b
    ValuedExpression (and a b) = ValuedExpression a × ValuedExpression b
    ValuedExpression (or a b) = ValuedExpression a × ValuedExpression b
    ValuedExpression (comma a b) = ValuedExpression a × ValuedExpression b
    ValuedExpression (conditional c a b) = ValuedExpression c × ValuedExpression a × ValuedExpression b
    ValuedExpression (assign p e) = ValuedPlace p × ValuedExpression e
    ValuedExpression (compound o p e) = ValuedPlace p × ValuedExpression e
    ValuedExpression (prefix o p) = ValuedPlace p
    ValuedExpression (postfix o p) = ValuedPlace p
    ValuedExpression (call f arguments) = ValuedArguments arguments

    pub ValuedPlace : Place → Type 0
    ValuedPlace (variable i) = Unit {0}
    ValuedPlace (element array e) = ValuedExpression e

    pub ValuedArguments : Arguments → Type 0
    ValuedArguments no_more = Unit {0}
    ValuedArguments (e also arguments) = ValuedExpression e × ValuedArguments arguments

  abbrev pub ValuedPart : Part → Type 0
  ValuedPart absent = Unit {0}
  ValuedPart (present e) = ValuedExpression e

  abbrev pub ValuedMark : Mark → Type 0
  ValuedMark (case v) = Value v
  ValuedMark default = Unit {0}
  ValuedMark (label l) = Unit {0}

  unfoldable mutual
    pub ValuedStatement : Statement → Type 0
    ValuedStatement empty = Unit {0}
    ValuedStatement (express e) = ValuedExpression e
    ValuedStatement (block is) = ValuedItems is
    ValuedStatement (if_then e on_true) = ValuedExpression e × ValuedStatement on_true
    ValuedStatement (if_else e on_true on_false) = ValuedExpression e × ValuedStatement on_true × ValuedStatement on_false
    ValuedStatement (while e body) = ValuedExpression e × ValuedStatement body
    ValuedStatement (do_while body e) = ValuedStatement body × ValuedExpression e
    ValuedStatement (for first test action body) = ValuedPart first × ValuedPart test × ValuedPart action × ValuedStatement body
    ValuedStatement (switch e is) = ValuedExpression e × ValuedItems is
    ValuedStatement break = Unit {0}
    ValuedStatement continue = Unit {0}
    ValuedStatement (goto l) = Unit {0}
    ValuedStatement (guarded_if arms) = ValuedArms arms
    ValuedStatement (guarded_do arms) = ValuedArms arms
    ValuedStatement abort = Unit {0}
    ValuedStatement (declare word e) = ValuedExpression e
    ValuedStatement (give_back value) = ValuedPart value

    pub ValuedArms : Arms → Type 0
    ValuedArms no_arm = Unit {0}
    ValuedArms (arm guard body arms) = ValuedExpression guard × ValuedStatement body × ValuedArms arms

    pub ValuedItems : Items → Type 0
    ValuedItems none = Unit {0}
    ValuedItems (s then is) = ValuedStatement s × ValuedItems is
    ValuedItems (m here is) = ValuedMark m × ValuedItems is
    ValuedItems (define f words body is) = ValuedItems body × ValuedItems is

-- "Values are signed 32-bit integers."
abbrev pub IsWord : ℤ → Type 0
IsWord v = mag v < 2 ^ 31

abbrev pub Worded : Statement → Type 0
Worded = ValuedStatement IsWord
