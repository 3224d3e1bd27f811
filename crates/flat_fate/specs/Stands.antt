-- Stands: that the lines of a kernel statement stand in the flat list, from one line up to another. Empty statements, blocks and
-- labels have no line; the label's address is the line it stands before.
use Rattle.std.specs.Prelude.{◌≡◌, true, List, ℕ, suc, ℤ}
use Rattle.words.specs.Layout.{Layout}
use Rattle.arithmetic.specs.Arithmetic.{is_true}
use Rattle.words.specs.declared.Operator.{Operator}
use Rattle.language.specs.Trees.{Expression, constant, read, minus, binary, assign, variable, element, label, Statement, empty, express, block, if_else, while, goto, abort, Items, none, ◌then◌, ◌here◌}
use Rattle.flat.specs.Lines.{Operand, number, word, Operation, copy, minus as negate, operate, fetch, put, FlatLine, does, jump, jump_zero, jump_other, abort as abort_line, next_of, next_at}

-- An atom as an operand.
pub data Means : Expression → Operand → Type 0 where
  means_number : {v : ℤ} → Means (constant v) (number v)
  means_word : {i : ℕ} → Means (read (variable i)) (word i)

-- An assignment of kernel form as an operation.
pub data Acts : Expression → Operation → Type 0 where
  acts_copy : {i : ℕ} {e : Expression} {a : Operand} → Means e a → Acts (assign (variable i) e) (copy i a)
  acts_minus : {i : ℕ} {e : Expression} {a : Operand} → Means e a → Acts (assign (variable i) (minus e)) (negate i a)
  acts_operate : {operator : Operator} {i : ℕ} {e f : Expression} {a b : Operand} → Means e a → Means f b → Acts (assign (variable i) (binary operator e f)) (operate operator i a b)
  acts_fetch : {i array : ℕ} {e : Expression} {a : Operand} → Means e a → Acts (assign (variable i) (read (element array e))) (fetch i array a)
  acts_put : {array : ℕ} {e f : Expression} {a b : Operand} → Means e a → Means f b → Acts (assign (element array e) f) (put array a b)

module _ (L : Layout) (lines : List FlatLine) (address : ℕ → ℕ) where
  -- The line x stands at i.
  abbrev pub At : ℕ → FlatLine → Type 0
  At i x = (s : List ℤ) → next_at L lines i i s ≡ next_of L x i s

  mutual
    pub data Stands : ℕ → Statement → ℕ → Type 0 where
      stands-empty : {i : ℕ} → Stands i empty i
      stands-assign : {i : ℕ} {e : Expression} {o : Operation} → Acts e o → At i (does o) → Stands i (express e) (suc i)
      stands-block : {i j : ℕ} {is : Items} → StandsItems i is j → Stands i (block is) j
      -- neither branch has a line: nor has the if
      stands-neither : {i : ℕ} {e : Expression} {a : Operand} {on_true on_false : Items} → Means e a → StandsItems i on_true i → StandsItems i on_false i → Stands i (if_else e (block on_true) (block on_false)) i
      -- a branch without a line stands behind the other
      stands-yes : {i j : ℕ} {e : Expression} {a : Operand} {on_true on_false : Items} → Means e a → At i (jump_zero a j) → StandsItems (suc i) on_true j → StandsItems j on_false j → Stands i (if_else e (block on_true) (block on_false)) j
      stands-no : {i j : ℕ} {e : Expression} {a : Operand} {on_true on_false : Items} → Means e a → At i (jump_other a j) → StandsItems j on_true j → StandsItems (suc i) on_false j → Stands i (if_else e (block on_true) (block on_false)) j
      stands-both : {i j k : ℕ} {e : Expression} {a : Operand} {on_true on_false : Items} → Means e a → At i (jump_zero a (suc k)) → StandsItems (suc i) on_true k → At k (jump j) → StandsItems (suc k) on_false j
          → Stands i (if_else e (block on_true) (block on_false)) j
      stands-while : {i k : ℕ} {e : Expression} {a : Operand} {body : Items} → Means e a → At i (jump_zero a (suc k)) → StandsItems (suc i) body k → At k (jump i) → Stands i (while e (block body)) (suc k)
      -- a test that is a number, and not 0, has no line
      stands-endless : {i k : ℕ} {v : ℤ} {body : Items} → is_true v ≡ true → StandsItems i body k → At k (jump i) → Stands i (while (constant v) (block body)) (suc k)
      stands-goto : {i l : ℕ} → At i (jump (address l)) → Stands i (goto l) (suc i)
      stands-abort : {i : ℕ} → At i abort_line → Stands i abort (suc i)

    pub data StandsItems : ℕ → Items → ℕ → Type 0 where
      stands-none : {i : ℕ} → StandsItems i none i
      stands-then : {i j k : ℕ} {s : Statement} {is : Items} → Stands i s j → StandsItems j is k → StandsItems i (s then is) k
      stands-label : {i j l : ℕ} {is : Items} → address l ≡ i → StandsItems i is j → StandsItems i (label l here is) j
