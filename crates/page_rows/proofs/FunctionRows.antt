-- The rows of calls and definitions: their lines before the rows of what was read.
use Rattle.std.specs.Prelude.{◌≡◌, refl, true, ℕ, suc, ◌+◌, ℤ, pos, length, get_or, drop}
use Rattle.std.proofs.Common.{sym, ap₂, ◌∙◌, arith}
use Rattle.std.proofs.Math.Path.{ap}
use Rattle.std.proofs.Math.Bool.{false}
use mathlib.Core.List.{List, [], ◌∷◌, ◌++◌, append_assoc, append-nil}
use Rattle.words.specs.Word.{pick}
use Rattle.language.specs.Trees.{Expression, Arguments, no_more, ◌also◌, assign, call, variable, express, Items, ◌then◌, define, block}
use Rattle.language.specs.Sizes.{expression_rows, arguments_rows, statement_rows, items_rows}
use Rattle.language_emission.specs.Emission.{row_of, list_link, emit_expression, emit_place, emit_arguments, emit_parameters, emit_statement, emit_items}
use Rattle.page.specs.Lines.{Waiting, closed}
use Rattle.page_rows.specs.Rows.{Left, block_row}
use Rattle.page_rows.proofs.ReadRows.{link-is, waiting_rows, waiting_table, IsRead, IsPassed, IsTaken, statement-read, block_words}

-- The last argument, and one before others.
module _ (x : Expression) (one : expression_rows x ≡ 1) (is : Items) (waiting : Waiting) (base : ℕ) (left : Left) (table : List ℤ) where
  pub last-passed : IsRead is waiting (base + 2) left table
      → IsPassed x no_more is waiting base (record { follows = false; waiting = pick left.follows (base + 2) 0 ∷ left.waiting }) ((row_of 32 (pos (base + 1)) 0 0 0 0 ++ emit_expression x (base + 1)) ++ table)
  unfolding emit_expression expression_rows
  last-passed r =
      let behind : base + (1 + expression_rows x + 0) ≡ base + 2 = omega (arith, one) in
      record {
        rows = rw (behind, link-is is (base + 2), ← r.follows) (ap (λ (l : List ℕ). pick left.follows (base + 2) 0 ∷ l) r.rows);
        words = rw (behind, append-nil (emit_expression x (base + 1))) (ap (λ (l : List ℤ). (row_of 32 (pos (base + 1)) 0 0 0 0 ++ emit_expression x (base + 1)) ++ l) r.words);
      }

  pub more-passed : (e : Expression) (arguments : Arguments) → IsPassed e arguments is waiting (base + 2) left table
      → IsPassed x (e also arguments) is waiting base (record { follows = true; waiting = left.waiting }) ((row_of 32 (pos (base + 1)) 0 0 0 (base + 2) ++ emit_expression x (base + 1)) ++ table)
  unfolding emit_expression expression_rows
  more-passed e arguments r =
      let inner = arguments_rows (e also arguments) in
      let behind : base + (1 + expression_rows x + inner) ≡ base + 2 + inner = omega (arith, one) in
      let next : base + 1 + expression_rows x ≡ base + 2 = omega (arith, one) in
      let rest = emit_items false is (base + 2 + inner) ++ waiting_table waiting (base + 2 + inner + items_rows is) in
      record {
        rows = rw behind r.rows;
        words =
            rw (behind, next)
            (ap (λ (l : List ℤ). (row_of 32 (pos (base + 1)) 0 0 0 (base + 2) ++ emit_expression x (base + 1)) ++ l) r.words
            ∙ ap (λ (l : List ℤ). row_of 32 (pos (base + 1)) 0 0 0 (base + 2) ++ l) (sym (append_assoc (emit_expression x (base + 1)) (emit_arguments (e also arguments) (base + 2)) rest)));
      }

-- The line of a call.
pub call-read : (i f : ℕ) (e : Expression) (arguments : Arguments) (is : Items) (waiting : Waiting) (base : ℕ) (left : Left) (table : List ℤ) → IsPassed e arguments is waiting (base + 4) left table
    → IsRead (express (assign (variable i) (call f (e also arguments))) then is) waiting base (record { follows = true; waiting = drop 1 left.waiting })
    ((((row_of 41 (pos (base + 1)) 0 0 0 (get_or left.waiting 0 0) ++ row_of 21 (pos (base + 2)) (base + 3) 0 0 0) ++ emit_place (variable i) (base + 2)) ++ row_of 31 (pos f) (base + 4) 0 0 0) ++ table)
unfolding emit_expression expression_rows emit_statement statement_rows
call-read i f e arguments is waiting base left table r =
    let b = base + 4 + arguments_rows (e also arguments) in
    let next : get_or left.waiting 0 0 ≡ list_link false is b = ap (λ (l : List ℕ). get_or l 0 0) r.rows in
    let two : base + 1 + 1 ≡ base + 2 = omega arith in
    let three : base + 2 + 1 ≡ base + 3 = omega arith in
    let four : base + 3 + 1 ≡ base + 4 = omega arith in
    statement-read (express (assign (variable i) (call f (e also arguments)))) is waiting base b _ _ (omega arith) refl (ap (drop 1) r.rows)
    (rw (two, three, four, next) (ap (λ (l : List ℤ). (((row_of 41 (pos (base + 1)) 0 0 0 (list_link false is b) ++ row_of 21 (pos (base + 2)) (base + 3) 0 0 0) ++ row_of 2 (pos i) 0 0 0 0) ++ row_of 31 (pos f) (base + 4) 0 0 0) ++ l) r.words))

-- The line of a definition without parameters.
pub function-read : (f : ℕ) (is later : Items) (waiting : Waiting) (base : ℕ) (left : Left) (table : List ℤ) → IsRead is (closed later waiting) (base + 2) left table
    → IsRead (define f [] is later) waiting base (record { follows = true; waiting = drop 1 left.waiting }) ((row_of 59 (pos f) 0 (base + 1) 0 (get_or left.waiting 0 0) ++ block_row (base + 1) left.follows 0) ++ table)
unfolding waiting_rows waiting_table emit_items emit_parameters items_rows
function-read f is later waiting base left table given =
    let own : base + 1 + 0 ≡ base + 1 = omega arith in
    let inner : base + 1 + 1 ≡ base + 2 = omega arith in
    let r : IsRead is (closed later waiting) (base + 1 + 1) left table = rw inner given in
    let b = base + 1 + 1 + items_rows is in
    let next : get_or left.waiting 0 0 ≡ list_link false later b = ap (λ (l : List ℕ). get_or l 0 0) r.rows in
    let behind : b + items_rows later ≡ base + (2 + 0 + items_rows is + items_rows later) = omega arith in
    let head = row_of 59 (pos f) 0 (base + 1) 0 (list_link false later b) in
    let first = block_row (base + 1) left.follows 0 in
    record {
      follows = refl;
      rows = ap (drop 1) r.rows ∙ ap (waiting_rows waiting) behind;
      words =
          rw (own, next)
          (ap (λ (l : List ℤ). (head ++ first) ++ l) r.words
          ∙ ap (λ (l : List ℤ). head ++ l) (sym (append_assoc first (emit_items false is (base + 1 + 1)) (emit_items false later b ++ waiting_table waiting (b + items_rows later))))
          ∙ ap₂ (λ (l m : List ℤ). head ++ (l ++ (emit_items false later b ++ m))) (block_words is (base + 1) left.follows r.follows 0) (ap (waiting_table waiting) behind)
          ∙ regroup head (emit_statement (block is) (base + 1) 0) (emit_items false later b) (waiting_table waiting (base + (2 + 0 + items_rows is + items_rows later))));
    }
  where
    regroup : (a b c d : List ℤ) → a ++ (b ++ (c ++ d)) ≡ (a ++ (b ++ c)) ++ d
    regroup a b c d = sym (append_assoc a (b ++ c) d ∙ ap (λ (l : List ℤ). a ++ l) (append_assoc b c d))

-- The last parameter, one before others, and the line of their definition.
pub last_taken : (word : ℕ) (is later : Items) (waiting : Waiting) (base : ℕ) (left : Left) (table : List ℤ) → IsRead is (closed later waiting) (base + 2) left table
    → IsTaken word [] is later waiting base (record { follows = false; waiting = (base + 1) ∷ left.waiting }) ((row_of 58 (pos word) 0 0 0 0 ++ block_row (base + 1) left.follows 0) ++ table)
unfolding waiting_rows waiting_table emit_parameters
last_taken word is later waiting base left table given =
    let inner : base + 1 + 1 ≡ base + 2 = omega arith in
    let r : IsRead is (closed later waiting) (base + 1 + 1) left table = rw inner given in
    let b = base + 1 + 1 + items_rows is in
    let rest = emit_items false later b ++ waiting_table waiting (b + items_rows later) in
    let head = row_of 58 (pos word) 0 0 0 0 in
    let first = block_row (base + 1) left.follows 0 in
    record {
      own = base + 1;
      own_is = omega arith;
      rows = ap (λ (l : List ℕ). (base + 1) ∷ l) r.rows;
      words_are =
          ap (λ (l : List ℤ). (head ++ first) ++ l) r.words ∙ ap (λ (l : List ℤ). head ++ l) (sym (append_assoc first (emit_items false is (base + 1 + 1)) rest))
          ∙ ap (λ (l : List ℤ). head ++ (l ++ rest)) (block_words is (base + 1) left.follows r.follows 0);
    }

pub more-taken : (n word : ℕ) (words : List ℕ) (body later : Items) (waiting : Waiting) (base : ℕ) (left : Left) (table : List ℤ) → IsTaken word words body later waiting (base + 1) left table
    → IsTaken n (word ∷ words) body later waiting base (record { follows = true; waiting = left.waiting }) (row_of 58 (pos n) 0 0 0 (base + 1) ++ table)
unfolding emit_parameters
more-taken n word words body later waiting base left table r = record {
  own = r.own;
  own_is = omega (arith, r.own_is);
  rows = r.rows;
  words_are = ap (λ (l : List ℤ). row_of 58 (pos n) 0 0 0 (base + 1) ++ l) r.words_are;
}

pub definition-read : (f word : ℕ) (words : List ℕ) (body later : Items) (waiting : Waiting) (base : ℕ) (left : Left) (table : List ℤ) → IsTaken word words body later waiting (base + 1) left table
    → IsRead (define f (word ∷ words) body later) waiting base (record { follows = true; waiting = drop 2 left.waiting }) (row_of 59 (pos f) (base + 1) (get_or left.waiting 0 0) 0 (get_or left.waiting 1 0) ++ table)
unfolding emit_items emit_statement items_rows
definition-read f word words body later waiting base left table r =
    let own : base + 1 + suc (length words) ≡ r.own = omega (arith, r.own_is) in
    let b = r.own + 1 + items_rows body in
    let first : get_or left.waiting 0 0 ≡ r.own = ap (λ (l : List ℕ). get_or l 0 0) r.rows in
    let next : get_or left.waiting 1 0 ≡ list_link false later b = ap (λ (l : List ℕ). get_or l 1 0) r.rows in
    let behind : b + items_rows later ≡ base + (2 + suc (length words) + items_rows body + items_rows later) = omega (arith, r.own_is) in
    let head = row_of 59 (pos f) (base + 1) r.own 0 (list_link false later b) in
    let given = emit_parameters (word ∷ words) (base + 1) in
    let inner = emit_statement (block body) r.own 0 in
    record {
      follows = refl;
      rows = ap (drop 2) r.rows ∙ ap (waiting_rows waiting) behind;
      words =
          rw (first, next, own)
          (ap (λ (l : List ℤ). head ++ l) r.words_are
          ∙ ap (λ (m : List ℤ). head ++ (given ++ (inner ++ (emit_items false later b ++ m)))) (ap (waiting_table waiting) behind)
          ∙ regroup head given inner (emit_items false later b) (waiting_table waiting (base + (2 + suc (length words) + items_rows body + items_rows later))));
    }
  where
    regroup : (a b c d e : List ℤ) → a ++ (b ++ (c ++ (d ++ e))) ≡ (((a ++ b) ++ c) ++ d) ++ e
    regroup a b c d e = sym (append_assoc ((a ++ b) ++ c) d e ∙ append_assoc (a ++ b) c (d ++ e) ∙ append_assoc a b (c ++ (d ++ e)))
