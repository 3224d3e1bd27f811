-- More names: a tree whose names have a property has them with every weaker one. By induction on the tree.
use Rattle.std.specs.Prelude.{List, [], ◌∷◌, ℕ}
use Rattle.language.specs.Trees.{Expression, constant, read, minus, not, binary, and, or, comma, conditional, assign, compound, prefix, postfix, call, Place, variable, element, Arguments, no_more, ◌also◌, Part, absent, present, Statement, empty, express, block, if_then, if_else, while, do_while, for, switch, break, continue, goto, guarded_if, guarded_do, abort, declare, give_back, Arms, no_arm, arm, Items, none, ◌then◌, ◌here◌, define}
use Rattle.language.specs.WellFormed.{NamedExpression, NamedPlace, NamedArguments, NamedWords, NamedPart, NamedStatement, NamedArms, NamedItems}

module _ (Names More : ℕ → Type 0) (arrays : ℕ) (more : (i : ℕ) → Names i → More i) where
  mutual
    unfolding NamedExpression

    more-expression : (e : Expression) → NamedExpression Names arrays e → NamedExpression More arrays e
    more-expression (constant v) h = tt
    more-expression (read p) h = more-place p h
    more-expression (minus e) h = more-expression e h
    more-expression (not e) h = more-expression e h
    more-expression (binary operator a b) h = (more-expression a h.0, more-expression b h.1)
    more-expression (and a b) h = (more-expression a h.0, more-expression b h.1)
    more-expression (or a b) h = (more-expression a h.0, more-expression b h.1)
    more-expression (comma a b) h = (more-expression a h.0, more-expression b h.1)
    more-expression (conditional c a b) h = (more-expression c h.0, more-expression a h.1, more-expression b h.2)
    more-expression (assign p e) h = (more-place p h.0, more-expression e h.1)
    more-expression (compound operator p e) h = (more-place p h.0, more-expression e h.1)
    more-expression (prefix operator p) h = more-place p h
    more-expression (postfix operator p) h = more-place p h
    more-expression (call f arguments) h = more-arguments arguments h

    more-place : (p : Place) → NamedPlace Names arrays p → NamedPlace More arrays p
    more-place (variable i) h = more i h
    more-place (element array e) h = (h.0, more-expression e h.1)

    more-arguments : (arguments : Arguments) → NamedArguments Names arrays arguments → NamedArguments More arrays arguments
    more-arguments no_more h = tt
    more-arguments (e also arguments) h = (more-expression e h.0, more-arguments arguments h.1)

  more-words : (words : List ℕ) → NamedWords Names arrays words → NamedWords More arrays words
  more-words [] h = tt
  more-words (i ∷ words) h = (more i h.0, more-words words h.1)

  more-part : (p : Part) → NamedPart Names arrays p → NamedPart More arrays p
  more-part absent h = tt
  more-part (present e) h = more-expression e h

  mutual
    unfolding NamedStatement

    more-statement : (s : Statement) → NamedStatement Names arrays s → NamedStatement More arrays s
    more-statement empty h = tt
    more-statement (express e) h = more-expression e h
    more-statement (block is) h = more-names is h
    more-statement (if_then e on_true) h = (more-expression e h.0, more-statement on_true h.1)
    more-statement (if_else e on_true on_false) h = (more-expression e h.0, more-statement on_true h.1, more-statement on_false h.2)
    more-statement (while e body) h = (more-expression e h.0, more-statement body h.1)
    more-statement (do_while body e) h = (more-statement body h.0, more-expression e h.1)
    more-statement (for first test action body) h = (more-part first h.0, more-part test h.1, more-part action h.2, more-statement body h.3)
    more-statement (switch e is) h = (more-expression e h.0, more-names is h.1)
    more-statement break h = tt
    more-statement continue h = tt
    more-statement (goto l) h = tt
    more-statement (guarded_if arms) h = more-arms arms h
    more-statement (guarded_do arms) h = more-arms arms h
    more-statement abort h = tt
    more-statement (declare i e) h = (more i h.0, more-expression e h.1)
    more-statement (give_back value) h = more-part value h

    more-arms : (arms : Arms) → NamedArms Names arrays arms → NamedArms More arrays arms
    more-arms no_arm h = tt
    more-arms (arm e s arms) h = (more-expression e h.0, more-statement s h.1, more-arms arms h.2)

    -- A tree whose names have a property has them with every weaker one.
    pub more-names : (is : Items) → NamedItems Names arrays is → NamedItems More arrays is
    more-names none h = tt
    more-names (s then is) h = (more-statement s h.0, more-names is h.1)
    more-names (m here is) h = more-names is h
    more-names (define f words body is) h = (more-words words h.0, more-names body h.1, more-names is h.2)
