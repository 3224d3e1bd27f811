-- Scope: every name in a tree is known where it stands. A declaration makes its word known to the rest of its list.
use Rattle.std.specs.Prelude.{ℕ, None, Option, Some}
use Rattle.computation.specs.Agreement.{Words}
use Rattle.language.specs.Trees.{Statement, empty, express, block, if_then, if_else, while, do_while, for, switch, break, continue, goto, guarded_if, guarded_do, abort, declare, give_back, Arms, no_arm, arm, Items, none, ◌then◌, ◌here◌, define}
use Rattle.language.specs.WellFormed.{NamedExpression, NamedPart}
use Rattle.language_renaming.specs.Twin.{◌with◌}

-- The word that a statement declares.
unfoldable pub declared : Statement → Option ℕ
declared empty = None
declared (express e) = None
declared (block is) = None
declared (if_then e on_true) = None
declared (if_else e on_true on_false) = None
declared (while e body) = None
declared (do_while body e) = None
declared (for first test action body) = None
declared (switch e is) = None
declared break = None
declared continue = None
declared (goto l) = None
declared (guarded_if arms) = None
declared (guarded_do arms) = None
declared abort = None
declared (declare word e) = Some word
declared (give_back value) = None

-- "From its next item to the block's end": what is known behind a statement.
unfoldable pub behind : Words → Option ℕ → Words
behind P None = P
behind P (Some word) = P with word

unfoldable pub Unmarked : Items → Type 0
Unmarked none = Unit {0}
Unmarked (s then is) = Unmarked is
Unmarked (m here is) = ⊥
Unmarked (define f words body is) = Unmarked is

-- Behind a declaration stands no mark, so that a run that passes it over enters no item behind it.
unfoldable pub Unreached : Option ℕ → Items → Type 0
Unreached None is = Unit {0}
Unreached (Some word) is = Unmarked is

-- All: every word that the program names anywhere. Words are known by a set that stands before the tree.
module _ (All : Words) (arrays : ℕ) where
  unfoldable mutual
    pub Scoped : Words → Statement → Type 0
    Scoped P empty = Unit {0}
    Scoped P (express e) = NamedExpression P arrays e
    Scoped P (block is) = ScopedItems P is
    Scoped P (if_then e on_true) = NamedExpression P arrays e × Scoped P on_true
    Scoped P (if_else e on_true on_false) = NamedExpression P arrays e × Scoped P on_true × Scoped P on_false
    Scoped P (while e body) = NamedExpression P arrays e × Scoped P body
    Scoped P (do_while body e) = Scoped P body × NamedExpression P arrays e
    Scoped P (for first test action body) = NamedPart P arrays first × NamedPart P arrays test × NamedPart P arrays action × Scoped P body
    Scoped P (switch e is) = NamedExpression P arrays e × ScopedItems P is
    Scoped P break = Unit {0}
    Scoped P continue = Unit {0}
    Scoped P (goto l) = Unit {0}
    Scoped P (guarded_if arms) = ScopedArms P arms
    Scoped P (guarded_do arms) = ScopedArms P arms
    Scoped P abort = Unit {0}
    Scoped P (declare word e) = All word × NamedExpression P arrays e
    Scoped P (give_back value) = NamedPart P arrays value

    pub ScopedArms : Words → Arms → Type 0
    ScopedArms P no_arm = Unit {0}
    ScopedArms P (arm guard body arms) = NamedExpression P arrays guard × Scoped P body × ScopedArms P arms

    pub ScopedItems : Words → Items → Type 0
    ScopedItems P none = Unit {0}
    ScopedItems P (s then is) = Scoped P s × Unreached (declared s) is × ScopedItems (behind P (declared s)) is
    ScopedItems P (m here is) = ScopedItems P is
    -- the block of a function is scoped by itself (RenamedFunctions)
    ScopedItems P (define f words body is) = ScopedItems P is
