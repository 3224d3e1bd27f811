-- Trees: expressions, places, arguments, statements, arms, items. One language of trees for source and kernel, as document 01 has one table of
-- kinds and one section on how a run goes. Kinds that differ in an operator are one constructor.
use Rattle.std.specs.Prelude.{Bool, true, false, ◌||◌, List, ℕ, eqb, ℤ}
use Rattle.words.specs.Word.{same_word}
use Rattle.words.specs.declared.Operator.{Operator}

mutual
  -- Kinds 1 to 31.
  pub data Expression : Type 0 where
    constant : ℤ → Expression
    read : Place → Expression
    minus not : Expression → Expression
    binary : Operator → Expression → Expression → Expression
    and or comma : Expression → Expression → Expression
    conditional : Expression → Expression → Expression → Expression
    assign : Place → Expression → Expression
    compound : Operator → Place → Expression → Expression
    prefix postfix : Operator → Place → Expression
    call : ℕ → Arguments → Expression

  -- Document 01's "place": a row of kind 2 or 3. A variable is named by its store position, an array by its number.
  pub data Place : Type 0 where
    variable : ℕ → Place
    element : ℕ → Expression → Place

  -- Kind 32, "and next": an expression each.
  pub data Arguments : Type 0 where
    no_more : Arguments
    ◌also◌ : Expression → Arguments → Arguments

-- A part of a for, or the value of a return, which may be absent.
pub data Part : Type 0 where
  absent : Part
  present : Expression → Part

-- What a switch or a goto looks for in a list: kinds 48, 49 and 53. A mark is an item of a list, and no statement.
pub data Mark : Type 0 where
  case : ℤ → Mark
  default : Mark
  label : ℕ → Mark

mutual
  -- Kinds 40 to 60, without the marks, the arm and the definition. A declaration names its object by its store word, as a variable.
  pub data Statement : Type 0 where
    empty : Statement
    express : Expression → Statement
    block : Items → Statement
    if_then : Expression → Statement → Statement
    if_else : Expression → Statement → Statement → Statement
    while : Expression → Statement → Statement
    do_while : Statement → Expression → Statement
    for : Part → Part → Part → Statement → Statement
    switch : Expression → Items → Statement
    break continue : Statement
    goto : ℕ → Statement
    guarded_if guarded_do : Arms → Statement
    abort : Statement
    declare : ℕ → Expression → Statement
    give_back : Part → Statement

  -- Kind 56, and "next the next arm": a guard and a block each.
  pub data Arms : Type 0 where
    no_arm : Arms
    arm : Expression → Statement → Arms → Arms

  -- "Items of a block or switch are linked by next." A definition is an item, and no statement: the number of the function, the store words
  -- of its parameters, the items of its block; and then the items behind it.
  pub data Items : Type 0 where
    none : Items
    ◌then◌ : Statement → Items → Items
    ◌here◌ : Mark → Items → Items
    define : ℕ → List ℕ → Items → Items → Items

infixr 20 ◌also◌ ◌then◌ ◌here◌ ◌⧺◌
-- One list behind the other.
unfoldable pub ◌⧺◌ : Items → Items → Items
none ⧺ ys = ys
(s then xs) ⧺ ys = s then (xs ⧺ ys)
(m here xs) ⧺ ys = m here (xs ⧺ ys)
define f words body xs ⧺ ys = define f words body (xs ⧺ ys)

unfoldable pub same_mark : Mark → Mark → Bool
same_mark (case v) (case w) = same_word v w
same_mark (case v) default = false
same_mark (case v) (label l) = false
same_mark default (case w) = false
same_mark default default = true
same_mark default (label l) = false
same_mark (label l) (case w) = false
same_mark (label l) default = false
same_mark (label l) (label k) = eqb l k

-- Whether a list has a mark among its own items.
unfoldable pub has : Mark → Items → Bool
has m none = false
has m (s then is) = has m is
has m (n here is) = same_mark m n || has m is
has m (define f words body is) = has m is
