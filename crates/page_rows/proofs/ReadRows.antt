-- The rows of what lines are read as: of items, of arguments and of parameters, with those of the lists that wait; and a statement's line before
-- them.
use Rattle.std.specs.Prelude.{◌≡◌, refl, Bool, true, ℕ, ◌+◌, ℤ, pos, length, get_or, drop}
use Rattle.std.proofs.Math.Path.{sym, ap, ap₂}
use Rattle.std.proofs.Common.{◌∙◌}
use Rattle.std.proofs.Math.Bool.{false}
use mathlib.Core.List.{List, [], ◌∷◌, ◌++◌, append_assoc}
use native.Mathlib.Omega.{arith}
use Rattle.words.specs.Word.{pick}
use Rattle.language.specs.Trees.{Expression, Arguments, ◌also◌, Statement, Items, none as no_item, ◌then◌, ◌here◌, define, ◌⧺◌, block, while, if_else}
use Rattle.language.specs.Sizes.{expression_rows, arguments_rows, statement_rows, items_rows}
use Rattle.language_emission.specs.Emission.{row_of, list_link, emit_expression, emit_arguments, emit_parameters, emit_statement, emit_items}
use Rattle.language_emission.specs.EmissionLaws.{or_more, emit-append}
use Rattle.page.specs.Lines.{Waiting, outermost, closed, Reading, reading, passing, taking, malformed}
use Rattle.page.specs.Lines.{turned as else_waiting}
use Rattle.page_rows.specs.Rows.{Left, block_row}

pub link-is : (is : Items) (base : ℕ) → list_link false is base ≡ pick (or_more false is) base 0
link-is no_item base = refl
link-is (s then is) base = refl
link-is (m here is) base = refl
link-is (define f words body is) base = refl

-- ---- lists that wait

-- The row that each waits with, where the first list begins at `base`.
unfoldable pub waiting_rows : Waiting → ℕ → List ℕ
waiting_rows outermost base = []
waiting_rows (closed later waiting) base = list_link false later base ∷ waiting_rows waiting (base + items_rows later)
waiting_rows (else_waiting on_false waiting) base = base ∷ waiting_rows waiting (base + (1 + items_rows on_false))

-- Their rows.
unfoldable pub waiting_table : Waiting → ℕ → List ℤ
waiting_table outermost base = []
waiting_table (closed later waiting) base = emit_items false later base ++ waiting_table waiting (base + items_rows later)
waiting_table (else_waiting on_false waiting) base = emit_statement (block on_false) base 0 ++ waiting_table waiting (base + (1 + items_rows on_false))

-- What was read leaves this, and has these rows from `base` on.
pub record IsRead (is : Items) (waiting : Waiting) (base : ℕ) (left : Left) (table : List ℤ) : Type 0 where
  pub follows : left.follows ≡ or_more false is
  pub rows : left.waiting ≡ waiting_rows waiting (base + items_rows is)
  pub words : table ≡ emit_items false is base ++ waiting_table waiting (base + items_rows is)

-- The same of arguments, from `base` on, before a list.
pub record IsPassed (e : Expression) (arguments : Arguments) (is : Items) (waiting : Waiting) (base : ℕ) (left : Left) (table : List ℤ) : Type 0 where
  pub rows : left.waiting ≡ list_link false is (base + arguments_rows (e also arguments)) ∷ waiting_rows waiting (base + arguments_rows (e also arguments) + items_rows is)
  pub words : table ≡ emit_arguments (e also arguments) base ++ (emit_items false is (base + arguments_rows (e also arguments)) ++ waiting_table waiting (base + arguments_rows (e also arguments) + items_rows is))

-- And of parameters, before their function's block and the list behind it; `own` is the row of that block.
pub record IsTaken (word : ℕ) (words : List ℕ) (body later : Items) (waiting : Waiting) (base : ℕ) (left : Left) (table : List ℤ) : Type 0 where
  pub own : ℕ
  pub own_is : own ≡ base + 1 + length words
  pub rows : left.waiting ≡ own ∷ (list_link false later (own + 1 + items_rows body) ∷ waiting_rows waiting (own + 1 + items_rows body + items_rows later))
  pub words_are : table ≡ emit_parameters (word ∷ words) base ++ (emit_statement (block body) own 0 ++ (emit_items false later (own + 1 + items_rows body) ++ waiting_table waiting (own + 1 + items_rows body + items_rows later)))

unfoldable pub Read : Reading → ℕ → Left → List ℤ → Type 0
Read malformed base left table = Unit
Read (passing e arguments is waiting) base left table = IsPassed e arguments is waiting base left table
Read (taking word words body later waiting) base left table = IsTaken word words body later waiting base left table
Read (reading is waiting) base left table = IsRead is waiting base left table

-- ---- a line before others

-- A list of one item before those of its list.
pub item-read : (xs is : Items) (waiting : Waiting) (base n : ℕ) (left : Left) (table : List ℤ) → items_rows xs ≡ n → or_more false (xs ⧺ is) ≡ true → items_rows (xs ⧺ is) ≡ n + items_rows is
    → IsRead is waiting (base + n) left table → IsRead (xs ⧺ is) waiting base (record { follows = true; waiting = left.waiting }) (emit_items left.follows xs base ++ table)
item-read xs is waiting base n left table e some_more size r =
    let behind : base + n + items_rows is ≡ base + items_rows (xs ⧺ is) = omega (arith, size) in
    record {
      follows = sym some_more;
      rows = r.rows ∙ ap (waiting_rows waiting) behind;
      words =
          ap₂ (λ (f : Bool) (l : List ℤ). emit_items f xs base ++ l) r.follows r.words
          ∙ sym (append_assoc (emit_items (or_more false is) xs base) (emit_items false is (base + n)) (waiting_table waiting (base + n + items_rows is)))
          ∙ ap₂ (λ (k : ℕ) (l : List ℤ). (emit_items (or_more false is) xs base ++ emit_items false is (base + k)) ++ l) (sym e) (ap (waiting_table waiting) behind)
          ∙ ap (λ (l : List ℤ). l ++ waiting_table waiting (base + items_rows (xs ⧺ is))) (sym (emit-append false xs is base));
    }

-- A statement before the list behind its blocks, which begins at the row b.
pub statement-read : (s : Statement) (later : Items) (waiting : Waiting) (base b : ℕ) (left : Left) (table : List ℤ) → b ≡ base + statement_rows s
    → left.follows ≡ true → left.waiting ≡ waiting_rows waiting (b + items_rows later)
    → table ≡ emit_statement s base (list_link false later b) ++ (emit_items false later b ++ waiting_table waiting (b + items_rows later))
    → IsRead (s then later) waiting base left table
unfolding emit_items items_rows
statement-read s later waiting base b left table e f w t =
    let behind : b + items_rows later ≡ base + (statement_rows s + items_rows later) = omega (arith, e) in
    record {
      follows = f;
      rows = w ∙ ap (waiting_rows waiting) behind;
      words =
          t ∙ sym (append_assoc (emit_statement s base (list_link false later b)) (emit_items false later b) (waiting_table waiting (b + items_rows later)))
          ∙ ap₂ (λ (k : ℕ) (l : List ℤ). (emit_statement s base (list_link false later k) ++ emit_items false later k) ++ l) e (ap (waiting_table waiting) behind);
    }

-- A line that opens a block which closes: its own k rows are the statement's up to the items of that block.
pub opened-read : (s : Statement) (is later : Items) (waiting : Waiting) (base k : ℕ) (left : Left) (table : List ℤ) (head : ℕ → List ℤ) → statement_rows s ≡ k + items_rows is
    → ((next : ℕ) → head next ++ emit_items false is (base + k) ≡ emit_statement s base next) → IsRead is (closed later waiting) (base + k) left table
    → IsRead (s then later) waiting base (record { follows = true; waiting = drop 1 left.waiting }) (head (get_or left.waiting 0 0) ++ table)
unfolding waiting_rows waiting_table
opened-read s is later waiting base k left table head e own r =
    let b = base + k + items_rows is in
    let rest = emit_items false later b ++ waiting_table waiting (b + items_rows later) in
    let next : get_or left.waiting 0 0 ≡ list_link false later b = ap (λ (l : List ℕ). get_or l 0 0) r.rows in
    statement-read s later waiting base b _ _ (omega (arith, e)) refl (ap (drop 1) r.rows)
    (ap₂ (λ (n : ℕ) (l : List ℤ). head n ++ l) next r.words ∙ sym (append_assoc (head (list_link false later b)) (emit_items false is (base + k)) rest) ∙ ap (λ (l : List ℤ). l ++ rest) (own (list_link false later b)))

-- One that opens the first branch of an if.
pub branched-read : (s : Statement) (is on_false later : Items) (waiting : Waiting) (base k : ℕ) (left : Left) (table : List ℤ) (head : ℕ → ℕ → List ℤ)
    → statement_rows s ≡ k + items_rows is + (1 + items_rows on_false)
    → ((next : ℕ) → (head (base + k + items_rows is) next ++ emit_items false is (base + k)) ++ emit_statement (block on_false) (base + k + items_rows is) 0 ≡ emit_statement s base next)
    → IsRead is (else_waiting on_false (closed later waiting)) (base + k) left table
    → IsRead (s then later) waiting base (record { follows = true; waiting = drop 2 left.waiting }) (head (get_or left.waiting 0 0) (get_or left.waiting 1 0) ++ table)
unfolding waiting_rows waiting_table
branched-read s is on_false later waiting base k left table head e own r =
    let c = base + k + items_rows is in
    let b = c + (1 + items_rows on_false) in
    let rest = emit_items false later b ++ waiting_table waiting (b + items_rows later) in
    let other = emit_statement (block on_false) c 0 in
    let second : get_or left.waiting 0 0 ≡ c = ap (λ (l : List ℕ). get_or l 0 0) r.rows in
    let next : get_or left.waiting 1 0 ≡ list_link false later b = ap (λ (l : List ℕ). get_or l 1 0) r.rows in
    let own-rows = head c (list_link false later b) in
    statement-read s later waiting base b _ _ (omega (arith, e)) refl (ap (drop 2) r.rows)
    (ap₂ (λ (n : ℕ) (l : List ℤ). head n (get_or left.waiting 1 0) ++ l) second r.words ∙ ap (λ (n : ℕ). head c n ++ (emit_items false is (base + k) ++ (other ++ rest))) next
    ∙ sym (append_assoc own-rows (emit_items false is (base + k)) (other ++ rest)) ∙ sym (append_assoc (own-rows ++ emit_items false is (base + k)) other rest)
    ∙ ap (λ (l : List ℤ). l ++ rest) (own (list_link false later b)))

-- The statements, each by the rows of the line that opens it and those of its blocks.
module _ (is : Items) (base : ℕ) (follows : Bool) (e : follows ≡ or_more false is) where
  pub block_words : (next : ℕ) → block_row base follows next ++ emit_items false is (base + 1) ≡ emit_statement (block is) base next
  unfolding emit_statement
  block_words next = rw (e, link-is is (base + 1))

module _ (x : Expression) (one : expression_rows x ≡ 1) (is : Items) (base : ℕ) (follows : Bool) (e : follows ≡ or_more false is) where
  pub while-words : (next : ℕ)
      → ((row_of 44 (pos (base + 1)) (base + 2) 0 0 next ++ emit_expression x (base + 1)) ++ block_row (base + 2) follows 0) ++ emit_items false is (base + 3) ≡ emit_statement (while x (block is)) base next
  unfolding emit_statement
  while-words next =
      let at : base + 1 + expression_rows x ≡ base + 2 = omega (arith, one) in
      let behind : base + 2 + 1 ≡ base + 3 = omega arith in
      let opened = row_of 42 (pos (pick (or_more false is) (base + 3) 0)) 0 0 0 0 in
      rw (at, behind, e, link-is is (base + 3))
      (ap (λ (l : List ℤ). row_of 44 (pos (base + 1)) (base + 2) 0 0 next ++ l) (append_assoc (emit_expression x (base + 1)) opened (emit_items false is (base + 3))))

  pub if-words : (on_false : Items) (next : ℕ)
      → (((row_of 43 (pos (base + 1)) (base + 2) (base + 3 + items_rows is) 0 next ++ emit_expression x (base + 1)) ++ block_row (base + 2) follows 0) ++ emit_items false is (base + 3))
      ++ emit_statement (block on_false) (base + 3 + items_rows is) 0 ≡ emit_statement (if_else x (block is) (block on_false)) base next
  unfolding emit_statement statement_rows
  if-words on_false next =
      let at : base + 1 + expression_rows x ≡ base + 2 = omega (arith, one) in
      let behind : base + 2 + 1 ≡ base + 3 = omega arith in
      let other : base + 2 + (1 + items_rows is) ≡ base + 3 + items_rows is = omega arith in
      let opened = row_of 42 (pos (pick (or_more false is) (base + 3) 0)) 0 0 0 0 in
      rw (at, behind, other, e, link-is is (base + 3))
      (ap (λ (l : List ℤ). row_of 43 (pos (base + 1)) (base + 2) (base + 3 + items_rows is) 0 next ++ (l ++ emit_statement (block on_false) (base + 3 + items_rows is) 0))
      (append_assoc (emit_expression x (base + 1)) opened (emit_items false is (base + 3))))

-- A line that closes or turns puts the list behind it aside.
module _ (is : Items) (waiting : Waiting) (base : ℕ) (left : Left) (table : List ℤ) where
  pub closed-read : IsRead is waiting (base + 0) left table → IsRead no_item (closed is waiting) base (record { follows = false; waiting = pick left.follows base 0 ∷ left.waiting }) table
  unfolding waiting_rows waiting_table emit_items items_rows
  closed-read r =
      let same : base + 0 ≡ base = omega arith in
      record {
        follows = refl;
        rows = rw (same, link-is is base, ← r.follows) (ap (λ (l : List ℕ). pick left.follows base 0 ∷ l) (rw same at r.rows));
        words = rw same (rw same at r.words);
      }

  pub turned-read : IsRead is waiting (base + 1) left table
      → IsRead no_item (else_waiting is waiting) base (record { follows = false; waiting = base ∷ left.waiting }) (block_row base left.follows 0 ++ table)
  unfolding waiting_rows waiting_table emit_items items_rows
  turned-read r =
      let same : base + 0 ≡ base = omega arith in
      let behind : base + 1 + items_rows is ≡ base + (1 + items_rows is) = omega arith in
      record {
        follows = refl;
        rows = rw same (ap (λ (l : List ℕ). base ∷ l) (r.rows ∙ ap (waiting_rows waiting) behind));
        words =
            rw same
            (ap (λ (l : List ℤ). block_row base left.follows 0 ++ l) r.words ∙ sym (append_assoc (block_row base left.follows 0) (emit_items false is (base + 1)) (waiting_table waiting (base + 1 + items_rows is)))
            ∙ ap₂ (λ (l m : List ℤ). l ++ m) (block_words is base left.follows r.follows 0) (ap (waiting_table waiting) behind));
      }
