-- Laws of renaming: the marks of a list stay, and a renaming that moves no word and no number gives the program itself.
use Rattle.std.specs.Prelude.{◌≡◌, List, [], ◌∷◌, map, ℕ, ℤ}
use Rattle.std.proofs.Math.Path.{refl}
use Rattle.language.specs.Trees.{Expression, constant, read, minus, not, binary, and, or, comma, conditional, assign, compound, prefix, postfix, call, Place, variable, element, Arguments, no_more, ◌also◌, Part, absent, present, Mark, case, default, Statement, empty, express, block, if_then, if_else, while, do_while, for, switch, break, continue, goto, guarded_if, guarded_do, abort, declare, give_back, Arms, no_arm, arm, Items, none, ◌then◌, ◌here◌, define, has}
use Rattle.language.specs.Meaning.{target}
use Rattle.language_renaming.specs.Renaming.{renamed, renamed_place, renamed_arguments, renamed_part, renamed_statement, renamed_arms, renamed_items}

module _ (π ρ : ℕ → ℕ) where
  -- marks are not renamed, so a switch goes to the same one
  has-renamed : (m : Mark) (is : Items) → has m (renamed_items π ρ is) ≡ has m is
  unfolding has renamed_items
  has-renamed m none = refl
  has-renamed m (s then is) = has-renamed m is
  has-renamed m (n here is) = rw (has-renamed m is)
  has-renamed m (define f words body is) = has-renamed m is

  pub target-renamed : (v : ℤ) (is : Items) → target v is ≡ target v (renamed_items π ρ is)
  target-renamed v is = rw (has-renamed (case v) is, has-renamed default is)

-- ---- no word is moved

abbrev pub itself : ℕ → ℕ
itself i = i

mutual
  unfolding renamed

  expression-itself : (e : Expression) → renamed itself itself e ≡ e
  expression-itself (constant v) = refl
  expression-itself (read p) = rw (place-itself p)
  expression-itself (minus e) = rw (expression-itself e)
  expression-itself (not e) = rw (expression-itself e)
  expression-itself (binary operator a b) = rw (expression-itself a, expression-itself b)
  expression-itself (and a b) = rw (expression-itself a, expression-itself b)
  expression-itself (or a b) = rw (expression-itself a, expression-itself b)
  expression-itself (comma a b) = rw (expression-itself a, expression-itself b)
  expression-itself (conditional c a b) = rw (expression-itself c, expression-itself a, expression-itself b)
  expression-itself (assign p e) = rw (place-itself p, expression-itself e)
  expression-itself (compound operator p e) = rw (place-itself p, expression-itself e)
  expression-itself (prefix operator p) = rw (place-itself p)
  expression-itself (postfix operator p) = rw (place-itself p)
  expression-itself (call f arguments) = rw (arguments-itself arguments)

  place-itself : (p : Place) → renamed_place itself itself p ≡ p
  place-itself (variable i) = refl
  place-itself (element array e) = rw (expression-itself e)

  arguments-itself : (arguments : Arguments) → renamed_arguments itself itself arguments ≡ arguments
  arguments-itself no_more = refl
  arguments-itself (e also arguments) = rw (expression-itself e, arguments-itself arguments)

words-itself : (words : List ℕ) → map itself words ≡ words
words-itself [] = refl
words-itself (word ∷ words) = rw (words-itself words)

part-itself : (p : Part) → renamed_part itself itself p ≡ p
part-itself absent = refl
part-itself (present e) = rw (expression-itself e)

mutual
  unfolding renamed_statement

  pub statement-itself : (s : Statement) → renamed_statement itself itself s ≡ s
  statement-itself empty = refl
  statement-itself (express e) = rw (expression-itself e)
  statement-itself (block is) = rw (items-itself is)
  statement-itself (if_then e on_true) = rw (expression-itself e, statement-itself on_true)
  statement-itself (if_else e on_true on_false) = rw (expression-itself e, statement-itself on_true, statement-itself on_false)
  statement-itself (while e body) = rw (expression-itself e, statement-itself body)
  statement-itself (do_while body e) = rw (statement-itself body, expression-itself e)
  statement-itself (for first test action body) = rw (part-itself first, part-itself test, part-itself action, statement-itself body)
  statement-itself (switch e is) = rw (expression-itself e, items-itself is)
  statement-itself break = refl
  statement-itself continue = refl
  statement-itself (goto l) = refl
  statement-itself (guarded_if arms) = rw (arms-itself arms)
  statement-itself (guarded_do arms) = rw (arms-itself arms)
  statement-itself abort = refl
  statement-itself (declare word e) = rw (expression-itself e)
  statement-itself (give_back value) = rw (part-itself value)

  arms-itself : (arms : Arms) → renamed_arms itself itself arms ≡ arms
  arms-itself no_arm = refl
  arms-itself (arm guard body arms) = rw (expression-itself guard, statement-itself body, arms-itself arms)

  items-itself : (is : Items) → renamed_items itself itself is ≡ is
  items-itself none = refl
  items-itself (s then is) = rw (statement-itself s, items-itself is)
  items-itself (m here is) = rw (items-itself is)
  items-itself (define f words body is) = rw (words-itself words, items-itself body, items-itself is)
