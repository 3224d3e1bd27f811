-- Well-formed trees: numbers in range; break, continue, case, default and return in place; calls in order. What the check gives of an accepted program, and
-- what the translation asks.
use Rattle.std.specs.Prelude.{◌≡◌, Bool, true, false, List, [], ◌∷◌, ◌⊎◌, ℕ, ◌<◌, ◌≤◌, length}
use Rattle.words.specs.Layout.{Layout, store_size}
use Rattle.language.specs.Trees.{Expression, constant, read, minus, not, binary, and, or, comma, conditional, assign, compound, prefix, postfix, call, Place, variable, element, Arguments, no_more, ◌also◌, Part, absent, present, Mark, case, default, label, Statement, empty, express, block, if_then, if_else, while, do_while, for, switch, break, continue, goto, guarded_if, guarded_do, abort, declare, give_back, Arms, no_arm, arm, Items, none, ◌then◌, ◌here◌, define}
use Rattle.language.specs.Calls.{CallsInOrder}

-- Every variable that a tree names satisfies Names, and every array is below `arrays`.
module _ (Names : ℕ → Type 0) (arrays : ℕ) where
  unfoldable mutual
    pub NamedExpression : Expression → Type 0
    NamedExpression (constant v) = Unit {0}
    NamedExpression (read p) = NamedPlace p
    NamedExpression (minus e) = NamedExpression e
    NamedExpression (not e) = NamedExpression e
    NamedExpression (binary o a b) = NamedExpression a × NamedExpression b
    NamedExpression (and a b) = NamedExpression a × NamedExpression b
    NamedExpression (or a b) = NamedExpression a × NamedExpression b
    NamedExpression (comma a b) = NamedExpression a × NamedExpression b
    NamedExpression (conditional c a b) = NamedExpression c × NamedExpression a × NamedExpression b
    NamedExpression (assign p e) = NamedPlace p × NamedExpression e
    NamedExpression (compound o p e) = NamedPlace p × NamedExpression e
    NamedExpression (prefix o p) = NamedPlace p
    NamedExpression (postfix o p) = NamedPlace p
    NamedExpression (call f arguments) = NamedArguments arguments

    pub NamedPlace : Place → Type 0
    NamedPlace (variable i) = Names i
    NamedPlace (element array e) = (array < arrays) × NamedExpression e

    pub NamedArguments : Arguments → Type 0
    NamedArguments no_more = Unit {0}
    NamedArguments (e also arguments) = NamedExpression e × NamedArguments arguments

  -- The words of parameters.
  abbrev pub NamedWords : List ℕ → Type 0
  NamedWords [] = Unit {0}
  NamedWords (word ∷ words) = Names word × NamedWords words

  abbrev pub NamedPart : Part → Type 0
  NamedPart absent = Unit {0}
  NamedPart (present e) = NamedExpression e

  unfoldable mutual
    pub NamedStatement : Statement → Type 0
    NamedStatement empty = Unit {0}
    NamedStatement (express e) = NamedExpression e
    NamedStatement (block is) = NamedItems is
    NamedStatement (if_then e on_true) = NamedExpression e × NamedStatement on_true
    NamedStatement (if_else e on_true on_false) = NamedExpression e × NamedStatement on_true × NamedStatement on_false
    NamedStatement (while e body) = NamedExpression e × NamedStatement body
    NamedStatement (do_while body e) = NamedStatement body × NamedExpression e
    NamedStatement (for first test action body) = NamedPart first × NamedPart test × NamedPart action × NamedStatement body
    NamedStatement (switch e is) = NamedExpression e × NamedItems is
    NamedStatement break = Unit {0}
    NamedStatement continue = Unit {0}
    NamedStatement (goto l) = Unit {0}
    NamedStatement (guarded_if arms) = NamedArms arms
    NamedStatement (guarded_do arms) = NamedArms arms
    NamedStatement abort = Unit {0}
    NamedStatement (declare word e) = Names word × NamedExpression e
    NamedStatement (give_back value) = NamedPart value

    pub NamedArms : Arms → Type 0
    NamedArms no_arm = Unit {0}
    NamedArms (arm guard body arms) = NamedExpression guard × NamedStatement body × NamedArms arms

    pub NamedItems : Items → Type 0
    NamedItems none = Unit {0}
    NamedItems (s then is) = NamedStatement s × NamedItems is
    NamedItems (m here is) = NamedItems is
    NamedItems (define f words body is) = NamedWords words × NamedItems body × NamedItems is

-- Whether a case or default may stand in a list. A label may not stand in a source program.
abbrev pub mark_allowed : Bool → Mark → Bool
mark_allowed inSwitch (case v) = inSwitch
mark_allowed inSwitch default = inSwitch
mark_allowed inSwitch (label l) = false

-- "A case or default is an item of a switch's own list. Break stands inside a loop or switch, continue inside a loop." A return stands inside a
-- function. No goto and no abort: the source has none. `mayReturn`, `mayBreak` and `mayContinue` say what stands around the tree. Definitions
-- stand in no list but the program's.
module _ (mayReturn : Bool) where
  unfoldable mutual
    pub Placed : Bool → Bool → Statement → Type 0
    Placed mayBreak mayContinue empty = Unit {0}
    Placed mayBreak mayContinue (express e) = Unit {0}
    Placed mayBreak mayContinue (block is) = PlacedItems false mayBreak mayContinue is
    Placed mayBreak mayContinue (if_then e on_true) = Placed mayBreak mayContinue on_true
    Placed mayBreak mayContinue (if_else e on_true on_false) = Placed mayBreak mayContinue on_true × Placed mayBreak mayContinue on_false
    Placed mayBreak mayContinue (while e body) = Placed true true body
    Placed mayBreak mayContinue (do_while body e) = Placed true true body
    Placed mayBreak mayContinue (for first test action body) = Placed true true body
    Placed mayBreak mayContinue (switch e is) = PlacedItems true true mayContinue is
    Placed mayBreak mayContinue break = mayBreak ≡ true
    Placed mayBreak mayContinue continue = mayContinue ≡ true
    Placed mayBreak mayContinue (goto l) = ⊥
    Placed mayBreak mayContinue (guarded_if arms) = PlacedArms mayBreak mayContinue arms
    Placed mayBreak mayContinue (guarded_do arms) = PlacedArms mayBreak mayContinue arms
    Placed mayBreak mayContinue abort = ⊥
    Placed mayBreak mayContinue (declare word e) = Unit {0}
    Placed mayBreak mayContinue (give_back value) = mayReturn ≡ true

    -- "Neither form counts as a loop for break and continue."
    pub PlacedArms : Bool → Bool → Arms → Type 0
    PlacedArms mayBreak mayContinue no_arm = Unit {0}
    PlacedArms mayBreak mayContinue (arm guard body arms) = Placed mayBreak mayContinue body × PlacedArms mayBreak mayContinue arms

    -- The items of a list, which is a switch's own or not.
    pub PlacedItems : Bool → Bool → Bool → Items → Type 0
    PlacedItems inSwitch mayBreak mayContinue none = Unit {0}
    PlacedItems inSwitch mayBreak mayContinue (s then is) = Placed mayBreak mayContinue s × PlacedItems inSwitch mayBreak mayContinue is
    PlacedItems inSwitch mayBreak mayContinue (m here is) = (mark_allowed inSwitch m ≡ true) × PlacedItems inSwitch mayBreak mayContinue is
    PlacedItems inSwitch mayBreak mayContinue (define f words body is) = ⊥

-- "Definitions come first in row 0's list": the items of a program, those of each function's block apart.
unfoldable pub PlacedProgram : Items → Type 0
PlacedProgram none = PlacedItems false false false false none
PlacedProgram (s then is) = PlacedItems false false false false (s then is)
PlacedProgram (m here is) = PlacedItems false false false false (m here is)
PlacedProgram (define f words body is) = PlacedItems true false false false body × PlacedProgram is

-- The word that a source program names: a variable's or a declaration's, none of an array. `first` is where the temporaries begin.
pub record SourceName (L : Layout) (first i : ℕ) : Type 0 where
  pub inside : i < first
  pub apart : (i < L.variables) ⊎ (store_size L ≤ i)

-- The items of a source program: their numbers in range, their jumps in place, their calls in order.
pub record SourceTree (L : Layout) (first : ℕ) (program : Items) : Type 0 where
  pub named : NamedItems (SourceName L first) (length L.lengths) program
  pub placed : PlacedProgram program
  pub calls : CallsInOrder program
