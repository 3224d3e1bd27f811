-- Laws of trees: one list of items behind another, the marks that a list has, the rows of a statement. By induction on the tree.
use Rattle.std.specs.Prelude.{◌≡◌, refl, Bool, true, false, ◌||◌, ℕ, ◌<◌}
use Rattle.std.proofs.Common.{ap, arith}
use Rattle.words.specs.Laws.{or_right}
use Rattle.language.specs.Trees.{Mark, same_mark, has, Statement, empty, express, block, if_then, if_else, while, do_while, for, switch, break, continue, goto, guarded_if, guarded_do, abort, declare, give_back, Items, none, ◌then◌, ◌here◌, define, ◌⧺◌}
use Rattle.language.specs.Sizes.{statement_rows}

-- ---- one list behind another

pub append-none : (is : Items) → is ⧺ none ≡ is
unfolding ◌⧺◌
append-none none = refl
append-none (s then is) = ap (λ (x : Items). s then x) (append-none is)
append-none (m here is) = ap (λ (x : Items). m here x) (append-none is)
append-none (define f words body is) = ap (define f words body) (append-none is)

pub append-append : (xs ys zs : Items) → (xs ⧺ ys) ⧺ zs ≡ xs ⧺ (ys ⧺ zs)
unfolding ◌⧺◌
append-append none ys zs = refl
append-append (s then xs) ys zs = ap (λ (x : Items). s then x) (append-append xs ys zs)
append-append (m here xs) ys zs = ap (λ (x : Items). m here x) (append-append xs ys zs)
append-append (define f words body xs) ys zs = ap (define f words body) (append-append xs ys zs)

-- ---- the marks that a list has

pub has-next : (m n : Mark) (xs : Items) → has m xs ≡ true → has m (n here xs) ≡ true
unfolding has
has-next m n xs e = or_right (same_mark m n) (has m xs) e

-- What the first of two lists has, and what the second has, they have one behind the other.
pub has_left : (m : Mark) (xs ys : Items) → has m xs ≡ true → has m (xs ⧺ ys) ≡ true
unfolding has ◌⧺◌
has_left m none ys e = absurd (let z : ◌≡◌ {A = ℕ} 0 1 = cc in omega arith)
has_left m (s then xs) ys e = has_left m xs ys e
has_left m (define f words body xs) ys e = has_left m xs ys e
has_left m (n here xs) ys e = go (same_mark m n) e (has_left m xs ys)
  where
    go : (b : Bool) → (b || has m xs) ≡ true → (has m xs ≡ true → has m (xs ⧺ ys) ≡ true) → (b || has m (xs ⧺ ys)) ≡ true
    go true e r = refl
    go false e r = r e

pub has_right : (m : Mark) (xs ys : Items) → has m ys ≡ true → has m (xs ⧺ ys) ≡ true
unfolding has ◌⧺◌
has_right m none ys e = e
has_right m (s then xs) ys e = has_right m xs ys e
has_right m (n here xs) ys e = has-next m n (xs ⧺ ys) (has_right m xs ys e)
has_right m (define f words body xs) ys e = has_right m xs ys e

-- ---- rows

-- Every statement has a row.
pub statement-some : (s : Statement) → 0 < statement_rows s
unfolding statement_rows
statement-some empty = omega arith
statement-some (express e) = omega arith
statement-some (block is) = omega arith
statement-some (if_then e on_true) = omega arith
statement-some (if_else e on_true on_false) = omega arith
statement-some (while e body) = omega arith
statement-some (do_while body e) = omega arith
statement-some (for first test action body) = omega arith
statement-some (switch e is) = omega arith
statement-some break = omega arith
statement-some continue = omega arith
statement-some (goto l) = omega arith
statement-some (guarded_if arms) = omega arith
statement-some (guarded_do arms) = omega arith
statement-some abort = omega arith
statement-some (declare word e) = omega arith
statement-some (give_back value) = omega arith
