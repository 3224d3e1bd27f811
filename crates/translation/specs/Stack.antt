-- The temporaries in use as a stack, and how a kernel store is laid out: the source's words, the stack, what is spare. Laws of
-- reading and writing a store so laid out, by induction on the stack.
use Rattle.std.specs.Prelude.{◌≡◌, List, [], ◌∷◌, ◌++◌, ℕ, suc, ◌+◌, ◌<◌, length, get_or, set}
use Rattle.std.proofs.Common.{ap, zero-add, suc-add, add-suc, get_or-append-add}
use Rattle.std.proofs.Math.ListN.{get_or-append}
use Rattle.std.proofs.lemmas.List.{set-append_left}

infixl 30 ◌▹◌
-- The last temporary is the top.
pub data Stack (A : Type 0) : Type 0 where
  bottom : Stack A
  ◌▹◌ : Stack A → A → Stack A

module _ {A : Type 0} where
  abbrev pub depth : Stack A → ℕ
  depth bottom = 0
  depth (F ▹ v) = suc (depth F)

  -- The words l, the stack behind them, and r behind that.
  abbrev pub laid : List A → Stack A → List A → List A
  laid l bottom r = l ++ r
  laid l (F ▹ v) r = laid l F (v ∷ r)

  pub read_word : (l : List A) (F : Stack A) (r : List A) (i : ℕ) (other : A) → i < length l → get_or (laid l F r) i other ≡ get_or l i other
  read_word l bottom r i other h = get_or-append l r other i h
  read_word l (F ▹ v) r i other h = read_word l F (v ∷ r) i other h

  pub write_word : (l : List A) (F : Stack A) (r : List A) (i : ℕ) (v : A) → i < length l → set (laid l F r) i v ≡ laid (set l i v) F r
  write_word l bottom r i v h = set-append_left l r i v h
  write_word l (F ▹ w) r i v h = write_word l F (w ∷ r) i v h

  -- Words behind the stack.
  pub read_behind : (l : List A) (F : Stack A) (r : List A) (j : ℕ) (other : A) → get_or (laid l F r) (length l + (depth F + j)) other ≡ get_or r j other
  read_behind l bottom r j other = rw (zero-add) (get_or-append-add l r j other)
  read_behind l (F ▹ v) r j other = rw (suc-add, ← add-suc) (read_behind l F (v ∷ r) (suc j) other)

  set-append-add : (l r : List A) (j : ℕ) (v : A) → set (l ++ r) (length l + j) v ≡ l ++ set r j v
  set-append-add [] r j v = rw zero-add
  set-append-add (x ∷ l) r j v = rw suc-add (ap (λ m. x ∷ m) (set-append-add l r j v))

  pub write-behind : (l : List A) (F : Stack A) (r : List A) (j : ℕ) (v : A) → set (laid l F r) (length l + (depth F + j)) v ≡ laid l F (set r j v)
  write-behind l bottom r j v = rw (zero-add) (set-append-add l r j v)
  write-behind l (F ▹ w) r j v = rw (suc-add, ← add-suc) (write-behind l F (w ∷ r) (suc j) v)
