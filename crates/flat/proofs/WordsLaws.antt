-- Laws of words: distances, the parts of a line and its words are read back as they were written.
use Rattle.std.specs.Prelude.{◌≡◌, refl, Bool, List, ℕ, suc, ◌+◌, ◌*◌, ◌-◌, ◌%◌, ◌≤◌, ◌<◌, ltb, ℤ, pos, negsuc}
use Rattle.std.proofs.Math.Path.{ap}
use Rattle.std.proofs.Common.{◌∙◌}
use Rattle.std.proofs.Math.Bool.{true, false}
use native.Mathlib.Omega.{arith}
use Rattle.std.proofs.Math.Dec.{leb}
use borrow.Author.Tests.{ltb-true, ltb-false, lt-ltb, le-ltb, leb-true, leb-false, le-leb, lt-leb}
use Rattle.words.specs.Word.{natural, pick}
use Rattle.words.specs.Kinds.{operators, operator_of}
use Rattle.words.specs.declared.Operator.{Operator}
use Rattle.words.specs.declared.Operator.TheVariants.{Add, Subtract, Multiply, Divide, Remainder, Less, Greater, LessOrEqual, GreaterOrEqual, Equal, NotEqual}
use Rattle.language_emission.specs.Emission.{operator_number}
use Rattle.flat.specs.Lines.{Operand, number, word, copy, minus, operate, fetch, put, FlatLine, does, jump, jump_zero, jump_other, abort}
use Rattle.flat.specs.Words.{distance, target_of, Parts, parts, line_parts, line_of, sort_of, word_of, operation_of, operation_at, kind_of, left_constant, right_constant, operand_of, parts_at, line_at, Written}

-- ---- distances

pub target-distance : (i j : ℕ) → target_of i (distance i j) ≡ j
target-distance i j = by (ltb i j) refl
  where
    by : (b : Bool) → ltb i j ≡ b → target_of i (pick b (pos (j - suc i)) (negsuc (i - j))) ≡ j
    by true e = let below = ltb-true i j e in omega arith
    by false e = let most = ltb-false i j e in omega arith

pub distance-onward : (i d : ℕ) → distance i (suc i + d) ≡ pos d
distance-onward i d = let e : suc i + d - suc i ≡ d = omega arith in rw (lt-ltb i (suc i + d) (omega arith), e)

pub distance_back : (i d : ℕ) → d ≤ i → distance i (i - d) ≡ negsuc d
distance_back i d h = let e : i - (i - d) ≡ d = omega arith in rw (le-ltb i (i - d) (omega arith), e)

-- ---- operators

pub operator-few : (o : Operator) → operator_number o ≤ 10
operator-few Add = omega arith
operator-few Subtract = omega arith
operator-few Multiply = omega arith
operator-few Divide = omega arith
operator-few Remainder = omega arith
operator-few Less = omega arith
operator-few Greater = omega arith
operator-few LessOrEqual = omega arith
operator-few GreaterOrEqual = omega arith
operator-few Equal = omega arith
operator-few NotEqual = omega arith

-- a line of every operator, read back
operate-back : (i x : ℕ) (o : Operator) (a b : Operand) → line_of i (parts (6 + operator_number o) x a b (pos 0)) ≡ does (operate o x a b)
unfolding operator_of operators
operate-back i x Add a b = refl
operate-back i x Subtract a b = refl
operate-back i x Multiply a b = refl
operate-back i x Divide a b = refl
operate-back i x Remainder a b = refl
operate-back i x Less a b = refl
operate-back i x Greater a b = refl
operate-back i x LessOrEqual a b = refl
operate-back i x GreaterOrEqual a b = refl
operate-back i x Equal a b = refl
operate-back i x NotEqual a b = refl

-- The parts of a line, read back.
pub line-back : (i : ℕ) (x : FlatLine) → line_of i (line_parts i x) ≡ x
line-back i (does (copy x a)) = refl
line-back i (does (minus x a)) = refl
line-back i (does (operate o x a b)) = operate-back i x o a b
line-back i (does (fetch x array a)) = refl
line-back i (does (put array a b)) = refl
line-back i (jump j) = ap jump (target-distance i j)
line-back i (jump_zero a j) = ap (jump_zero a) (target-distance i j)
line-back i (jump_other a j) = ap (jump_other a) (target-distance i j)
line-back i abort = refl

pub kind-small : (i : ℕ) (x : FlatLine) → (line_parts i x).kind < 64
kind-small i (does (copy x a)) = omega arith
kind-small i (does (minus x a)) = omega arith
kind-small i (does (operate o x a b)) = omega (arith, operator-few o)
kind-small i (does (fetch x array a)) = omega arith
kind-small i (does (put array a b)) = omega arith
kind-small i (jump j) = omega arith
kind-small i (jump_zero a j) = omega arith
kind-small i (jump_other a j) = omega arith
kind-small i abort = omega arith

-- ---- operations: a kind and two sorts

-- whether an operand is a constant
abbrev pub is_number : Operand → Bool
is_number (number v) = true
is_number (word i) = false

abbrev pub one : Bool → ℕ
one b = pick b 1 0

sort-one : (a : Operand) → sort_of a ≡ one (is_number a)
sort-one (number v) = refl
sort-one (word i) = refl

module _ (k : ℕ) (a b : Bool) (h : k < 64) where
  abbrev numbered : ℕ
  numbered = k + (64 * one a + 128 * one b)

  kind-numbered : kind_of numbered ≡ k
  unfolding kind_of
  kind-numbered = by a b
    where
      by : (a b : Bool) → (k + (64 * one a + 128 * one b)) % 64 ≡ k
      by true true = omega arith
      by true false = omega arith
      by false true = omega arith
      by false false = omega arith

  left-numbered : left_constant numbered ≡ a
  unfolding left_constant
  left-numbered = by a b
    where
      by : (a b : Bool) → leb 64 ((k + (64 * one a + 128 * one b)) % 128) ≡ a
      by true true = le-leb 64 ((k + (64 * 1 + 128 * 1)) % 128) (omega arith)
      by true false = le-leb 64 ((k + (64 * 1 + 128 * 0)) % 128) (omega arith)
      by false true = lt-leb 64 ((k + (64 * 0 + 128 * 1)) % 128) (omega arith)
      by false false = lt-leb 64 ((k + (64 * 0 + 128 * 0)) % 128) (omega arith)

  right-numbered : right_constant numbered ≡ b
  unfolding right_constant
  right-numbered = by a b
    where
      by : (a b : Bool) → leb 128 (k + (64 * one a + 128 * one b)) ≡ b
      by true true = le-leb 128 (k + (64 * 1 + 128 * 1)) (omega arith)
      by true false = lt-leb 128 (k + (64 * 1 + 128 * 0)) (omega arith)
      by false true = le-leb 128 (k + (64 * 0 + 128 * 1)) (omega arith)
      by false false = lt-leb 128 (k + (64 * 0 + 128 * 0)) (omega arith)

-- what an operation says, and what it is made of
module _ (p : Parts) (h : p.kind < 64) where
  operation-numbered : operation_of p ≡ p.kind + (64 * one (is_number p.left) + 128 * one (is_number p.right))
  unfolding operation_of
  operation-numbered = rw (sort-one p.left, sort-one p.right)

  pub kind-back : kind_of (operation_of p) ≡ p.kind
  kind-back = ap kind_of operation-numbered ∙ kind-numbered p.kind (is_number p.left) (is_number p.right) h

  pub left_back : left_constant (operation_of p) ≡ is_number p.left
  left_back = ap left_constant operation-numbered ∙ left-numbered p.kind (is_number p.left) (is_number p.right) h

  pub right-back : right_constant (operation_of p) ≡ is_number p.right
  right-back = ap right_constant operation-numbered ∙ right-numbered p.kind (is_number p.left) (is_number p.right) h

  pub operation-small : operation_of p < 256
  operation-small = omega (arith, operation-numbered, most (is_number p.left) (is_number p.right))
    where
      most : (a b : Bool) → 64 * one a + 128 * one b ≤ 192
      most true true = omega arith
      most true false = omega arith
      most false true = omega arith
      most false false = omega arith

-- an operation below 256 is its kind and its two sorts
pub operation-whole : (n : ℕ) → n < 256 → n ≡ kind_of n + (64 * one (left_constant n) + 128 * one (right_constant n))
unfolding kind_of left_constant right_constant
operation-whole n h = by (leb 64 (n % 128)) (leb 128 n) refl refl
  where
    by : (a b : Bool) → leb 64 (n % 128) ≡ a → leb 128 n ≡ b → n ≡ n % 64 + (64 * one a + 128 * one b)
    by true true p q = omega (arith, leb-true 64 (n % 128) p, leb-true 128 n q)
    by true false p q = omega (arith, leb-true 64 (n % 128) p, leb-false 128 n q)
    by false true p q = omega (arith, leb-false 64 (n % 128) p, leb-true 128 n q)
    by false false p q = omega (arith, leb-false 64 (n % 128) p, leb-false 128 n q)

-- ---- words of parts, read back

operand-back : (a : Operand) → operand_of (is_number a) (word_of a) ≡ a
unfolding natural
operand-back (number v) = refl
operand-back (word i) = refl

module _ {list : List ℤ} {i : ℕ} {p : Parts} (w : Written list i p) where
  pub operation-back : operation_at list i ≡ operation_of p
  unfolding operation_at natural
  operation-back = ap natural w.operation_word

  pub parts-back : p.kind < 64 → parts_at list i ≡ p
  unfolding parts_at natural
  parts-back h =
      rw (operation-back, kind-back p h, left_back p h, right-back p h, w.target-word, w.left_word, w.right_word, w.distance_word, operand-back p.left, operand-back p.right)

-- Five words, written and read, give the same line.
pub written-line : (list : List ℤ) (i : ℕ) (x : FlatLine) → Written list i (line_parts i x) → line_at list i ≡ x
unfolding line_at
written-line list i x w = ap (line_of i) (parts-back w (kind-small i x)) ∙ line-back i x
