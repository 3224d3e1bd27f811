-- Chains: parts of a table written one behind the other. What two writers in a row write is what one writes for both.
use Rattle.std.specs.Prelude.{◌≡◌, refl, Bool, true, false, List, ◌++◌, ℕ, zero, suc, ◌+◌, ◌*◌, ◌-◌, ◌≤◌, ◌<◌, ℤ, pos, length}
use Rattle.std.proofs.Common.{sym, ap, ap₂, ◌∙◌, append_assoc, append-nil, arith, length-append, length-drop}
use borrow.Rule.Slice.PartMut.{mid_of, put_mid}
use Rattle.words.specs.Word.{pick}
use Rattle.language.specs.Trees.{Expression, Statement, block, if_else, Items, none, ◌then◌, ◌here◌, define, ◌⧺◌}
use Rattle.language.specs.Sizes.{expression_rows, statement_rows, items_rows}
use Rattle.language.specs.TreeLaws.{statement-some}
use Rattle.translation.proofs.TranslateRows.{rows_append}
use Rattle.language_emission.specs.Emission.{row_of, list_link, emit_expression, emit_statement, emit_items}
use Rattle.language_emission.specs.EmissionLaws.{or_more, emit-append, length-items}
use Rattle.words.specs.Over.{over}
use Rattle.words.specs.OverLaws.{part-is, length_over, over-next}
use Rattle.writers_rows.specs.Room.{Room, more_rows}

-- ---- a part of a table

-- The part from row n on that is lent, and the table when the part is back.
abbrev pub part : ℕ → List ℤ → List ℤ
part n l = mid_of (6 * n) (length l - 6 * n) l

abbrev pub back_in : ℕ → List ℤ → List ℤ → List ℤ
back_in n l m = put_mid (6 * n) (length l - 6 * n) l m

-- ---- words

-- n rows, the words u, were written from the start of l, which gave m.
pub record PutWords (u : List ℤ) (n : ℕ) (l m : List ℤ) : Type 0 where
  pub table : m ≡ over u l
  pub size : length u ≡ 6 * n

-- Two parts, one behind the other.
pub put_next : {u v : List ℤ} {n k : ℕ} {l l1 l2 : List ℤ} → PutWords u n l l1 → PutWords v k (part n l1) l2 → PutWords (u ++ v) (n + k) l (back_in n l1 l2)
put_next {u} {v} {n} p q = record {
  table = over-next u v _ _ _ (6 * n) (sym p.size) p.table q.table;
  size = rw (length-append u v) (omega (arith, p.size, q.size));
}

-- The same words, said otherwise.
pub reworded : {u : List ℤ} {n : ℕ} {l m : List ℤ} (w : List ℤ) → PutWords u n l m → u ≡ w → m ≡ over w l
reworded {u} {n} {l} {m} w p h = rw h at p.table

pub put-length : {u : List ℤ} {n : ℕ} {l m : List ℤ} → PutWords u n l m → 6 * n ≤ length l → length m ≡ length l
put-length {u} {n} {l} {m} p h = length_over u l m p.table (omega (arith, p.size))

-- Where the next part begins.
pub record Reach (n base : ℕ) (l : List ℤ) : Type 0 where
  pub inside : 6 * n ≤ length l
  pub low : base + n ≤ 40980

pub put-reach : {u : List ℤ} {n w base : ℕ} {l m : List ℤ} (k : ℕ) → PutWords u n l m → Room w base (length l) → n + k ≤ w → Reach n base m
put-reach k p r e = record { inside = omega (arith, put-length p (omega (arith, r.inside)), r.inside); low = omega (arith, r.low) }

-- The room that is left behind n rows.
pub put-room : {u : List ℤ} {n w base : ℕ} {l m : List ℤ} (k : ℕ) → PutWords u n l m → Room w base (length l) → n + k ≤ w → Room k (base + n) (length (part n m))
put-room {u} {n} {w} {base} {l} {m} k p r e = record {
  inside = rw (part-is (6 * n) m, length-drop) (omega (arith, put-length p (omega (arith, r.inside)), r.inside));
  low = omega (arith, r.low);
}

pub room-less : {w base words : ℕ} (n : ℕ) → Room w base words → n ≤ w → Room n base words
room-less n r e = record { inside = omega (arith, r.inside); low = omega (arith, r.low) }

-- ---- lists

pub more-some : (follows : Bool) (n : ℕ) → 0 < n → more_rows follows n ≡ true
more-some follows zero h = absurd (omega arith)
more-some follows (suc n) h = refl

-- A list says by its rows whether anything stands in it.
pub more_is : (follows : Bool) (is : Items) → or_more follows is ≡ more_rows follows (items_rows is)
unfolding items_rows
more_is follows none = refl
more_is follows (s then is) = sym (more-some follows (statement_rows s + items_rows is) (omega (arith, statement-some s)))
more_is follows (m here is) = sym (more-some follows (1 + items_rows is) (omega arith))
more_is follows (define f words body is) = sym (more-some follows (2 + length words + items_rows body + items_rows is) (omega arith))

pub link-is : (follows : Bool) (is : Items) (base : ℕ) → list_link follows is base ≡ pick (more_rows follows (items_rows is)) base 0
unfolding items_rows
link-is follows none base = refl
link-is follows (s then is) base = rw (more-some follows (statement_rows s + items_rows is) (omega (arith, statement-some s)))
link-is follows (m here is) base = rw (more-some follows (1 + items_rows is) (omega arith))
link-is follows (define f words body is) base = rw (more-some follows (2 + length words + items_rows body + items_rows is) (omega arith))

-- The list `is`, n rows from the row `base` on, was written from the start of l, which gave m.
pub record Wrote (follows : Bool) (is : Items) (base n : ℕ) (l m : List ℤ) : Type 0 where
  pub table : m ≡ over (emit_items follows is base) l
  pub size : items_rows is ≡ n

pub wrote-put : {follows : Bool} {is : Items} {base n : ℕ} {l m : List ℤ} → Wrote follows is base n l m → PutWords (emit_items follows is base) n l m
wrote-put {follows} {is} {base} {n} w = record { table = w.table; size = length-items follows is base ∙ ap (λ (k : ℕ). 6 * k) w.size }

emit-two : (follows : Bool) (xs ys : Items) (base n k : ℕ) → items_rows xs ≡ n → items_rows ys ≡ k
    → emit_items (more_rows follows k) xs base ++ emit_items follows ys (base + n) ≡ emit_items follows (xs ⧺ ys) base
emit-two follows xs ys base n k e h =
    ap₂ (λ (f : Bool) (b : ℕ). emit_items f xs base ++ emit_items follows ys (base + b)) (ap (more_rows follows) (sym h) ∙ sym (more_is follows ys)) (sym e) ∙ sym (emit-append follows xs ys base)

-- One list behind the other.
pub wrote-next : {follows : Bool} {xs ys : Items} {base n k : ℕ} {l l1 l2 : List ℤ}
    → Wrote (more_rows follows k) xs base n l l1 → Wrote follows ys (base + n) k (part n l1) l2 → Wrote follows (xs ⧺ ys) base (n + k) l (back_in n l1 l2)
wrote-next {follows} {xs} {ys} {base} {n} {k} w v = record {
  table = reworded _ (put_next (wrote-put w) (wrote-put v)) (emit-two follows xs ys base n k w.size v.size);
  size = rows_append xs ys ∙ ap₂ ◌+◌ w.size v.size;
}

-- The same list, said otherwise; the same number of rows.
pub wrote_as : {follows : Bool} {is : Items} {base n : ℕ} {l m : List ℤ} (is' : Items) → Wrote follows is base n l m → is ≡ is' → Wrote follows is' base n l m
wrote_as {follows} {is} {base} {n} {l} {m} is' w e = rw e at w

-- ---- an if

-- A list of one statement.
pub one-item : (follows : Bool) (s : Statement) (base : ℕ) → emit_items follows (s then none) base ≡ emit_statement s base (pick follows (base + statement_rows s) 0)
unfolding emit_items
one-item follows s base = append-nil (emit_statement s base (pick follows (base + statement_rows s) 0))

if-is : (x : Expression) (on_true on_false : Statement) (base next : ℕ)
    → emit_statement (if_else x on_true on_false) base next
    ≡ row_of 43 (pos (base + 1)) (base + 1 + expression_rows x) (base + 1 + expression_rows x + statement_rows on_true) 0 next
    ++ emit_expression x (base + 1) ++ emit_statement on_true (base + 1 + expression_rows x) 0 ++ emit_statement on_false (base + 1 + expression_rows x + statement_rows on_true) 0
unfolding emit_statement
if-is x on_true on_false base next = refl

if-rows : (x : Expression) (on_true on_false : Statement) → statement_rows (if_else x on_true on_false) ≡ 1 + expression_rows x + statement_rows on_true + statement_rows on_false
unfolding statement_rows
if-rows x on_true on_false = refl

-- The rows of an if and its test, and then its branches.
pub choice-words : (follows : Bool) (x : Expression) (on_true on_false : Statement) (base n k next : ℕ) → expression_rows x ≡ 1 → statement_rows on_true ≡ n → statement_rows on_false ≡ k
    → next ≡ pick follows (base + (2 + n + k)) 0
    → ((row_of 43 (pos (base + 1)) (base + 2) (base + (2 + n)) 0 next ++ emit_expression x (base + 1)) ++ emit_statement on_true (base + 2) 0) ++ emit_statement on_false (base + (2 + n)) 0
    ≡ emit_items follows (if_else x on_true on_false then none) base
choice-words follows x on_true on_false base n k next e h g z =
    let one : base + 1 + expression_rows x ≡ base + 2 = omega arith in
    let two : base + 2 + statement_rows on_true ≡ base + (2 + n) = omega arith in
    let all : base + (1 + expression_rows x + statement_rows on_true + statement_rows on_false) ≡ base + (2 + n + k) = omega arith in
    rw (one-item, if-is, if-rows, all, one, two, z, append_assoc (emit_expression x (base + 1)))

-- ---- a block

pub block_words : (is : Items) (base k : ℕ) → items_rows is ≡ k → row_of 42 (pos (pick (more_rows false k) (base + 1) 0)) 0 0 0 0 ++ emit_items false is (base + 1) ≡ emit_statement (block is) base 0
unfolding emit_statement
block_words is base k e = rw (← e, ← link-is false is (base + 1))
