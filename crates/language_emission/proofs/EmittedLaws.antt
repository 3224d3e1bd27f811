-- Laws of emitted trees: the words of a tree's emission are its rows, wherever they stand.
use Rattle.std.specs.Prelude.{◌≡◌, refl, false, List, [], ◌∷◌, ◌++◌, ℕ, ◌+◌, ◌*◌, ◌≤◌, ◌<◌, ℤ, pos, length, get_or}
use Rattle.std.proofs.Common.{ap, ◌∙◌, zero-add, arith, length-append, get_or-append-add}
use Rattle.std.proofs.Math.ListN.{get_or-append}
use Rattle.words.specs.Word.{natural}
use Rattle.words.specs.Table.{row_count, word_at, number_at}
use Rattle.words.specs.declared.Operator.{Operator}
use Rattle.language.specs.Trees.{Expression, constant, read, minus, binary, assign, call, Place, variable, element, Arguments, no_more, ◌also◌, present, label, Statement, empty, express, block, if_else, while, goto, abort, give_back, Items, none, ◌then◌, ◌here◌, define}
use Rattle.language.specs.Sizes.{expression_rows, place_rows, statement_rows, items_rows}
use Rattle.language_emission.specs.Emission.{row_of, operator_number, arguments_link, emit_expression, emit_place, emit_arguments, list_link, parameters_link, emit_parameters, emit_statement, emit_items, emit}
use Rattle.language_emission.specs.EmissionLaws.{length-expression, length-place, length-parameters, length-statement, length-items}
use Rattle.language_emission.specs.KernelKinds.{ExpressionInKernel, a-constant, a_read, a-minus, a-binary, an-assign, a_call, PlaceInKernel, a-variable, an-element, ArgumentsInKernel, no_arguments, an-argument, StatementInKernel, an-empty, an-express, a_block, an-if, a-while, a-goto, an-abort, a-return, ItemsInKernel, no_items, a-statement, a-label, a-definition}
use Rattle.language_emission.specs.Emitted.{Row, EmittedExpression, constant-at, read_at, minus-at, binary-at, assign-at, call_at, EmittedPlace, variable-at, element-at, EmittedArguments, no-more-at, argument-at, EmittedParameters, no_parameter_at, parameter-at, EmittedStatement, empty-at, express-at, block_at, if-at, while-at, goto-at, abort-at, return-at, EmittedItems, none-at, then_at, label_at, define-at}

-- ---- from the words to the relations

-- The words stand in the table from the row `base` on.
pub record Segment (rows : List ℤ) (base : ℕ) (words : List ℤ) : Type 0 where
  pub inside : 6 * base + length words ≤ length rows
  pub same : (i : ℕ) → i < length words → get_or rows (6 * base + i) (pos 0) ≡ get_or words i (pos 0)

segment-left : {rows : List ℤ} {base : ℕ} (u v : List ℤ) → Segment rows base (u ++ v) → Segment rows base u
segment-left u v g =
    let size = length-append u v in
    record {
      inside = omega (arith, g.inside);
      same = λ i h. g.same i (omega arith) ∙ get_or-append u v (pos 0) i h;
    }

segment-right : {rows : List ℤ} {base : ℕ} (n : ℕ) (u v : List ℤ) → length u ≡ 6 * n → Segment rows base (u ++ v) → Segment rows (base + n) v
segment-right {rows} {base} n u v e g =
    let size = length-append u v in
    record {
      inside = omega (arith, g.inside);
      same = λ i h.
          let place : 6 * (base + n) + i ≡ 6 * base + (length u + i) = omega arith in
          ap (λ k. get_or rows k (pos 0)) place ∙ g.same (length u + i) (omega arith) ∙ get_or-append-add u v i (pos 0);
    }

-- A row, and the words behind it.
module _ {rows : List ℤ} {base : ℕ} (kind : ℕ) (a : ℤ) (b c d next : ℕ) (rest : List ℤ) (g : Segment rows base (row_of kind a b c d next ++ rest)) where
  row_first : Row rows base kind (natural a) b c d next
  unfolding number_at word_at natural
  row_first =
      record {
        inside = omega (arith, g.inside);
        kind_is = rw (g.same 0 (omega arith));
        a_is = rw (g.same 1 (omega arith));
        b_is = rw (g.same 2 (omega arith));
        c_is = rw (g.same 3 (omega arith));
        d_is = rw (g.same 4 (omega arith));
        next_is = rw (g.same 5 (omega arith));
      }

  row-value : word_at rows base 1 ≡ a
  unfolding word_at
  row-value = g.same 1 (omega arith)

  row-rest : Segment rows (base + 1) rest
  row-rest = segment-right 1 (row_of kind a b c d next) rest refl g

mutual
  unfolding emit_expression natural

  emitted-expression : {rows : List ℤ} {e : Expression} (base : ℕ) → ExpressionInKernel e → Segment rows base (emit_expression e base) → EmittedExpression rows e base
  emitted-expression base (a-constant {v}) g = constant-at (row_first 1 v 0 0 0 0 [] g) (row-value 1 v 0 0 0 0 [] g)
  emitted-expression base (a_read k) g = read_at (emitted-place base k g)
  emitted-expression base (a-minus {e} k) g =
      let rest = row-rest 4 (pos (base + 1)) 0 0 0 0 (emit_expression e (base + 1)) g in
      minus-at (row_first 4 (pos (base + 1)) 0 0 0 0 (emit_expression e (base + 1)) g) (emitted-expression (base + 1) k rest)
  emitted-expression base (a-binary {o} {a} {b} k j) g =
      let m = base + 1 + expression_rows a in
      let u = emit_expression a (base + 1) in
      let v = emit_expression b m in
      let rest = row-rest (6 + operator_number o) (pos (base + 1)) m 0 0 0 (u ++ v) g in
      binary-at (row_first (6 + operator_number o) (pos (base + 1)) m 0 0 0 (u ++ v) g)
      (emitted-expression (base + 1) k (segment-left u v rest)) (emitted-expression m j (segment-right (expression_rows a) u v (length-expression a (base + 1)) rest))
  emitted-expression base (an-assign {p} {e} k j) g =
      let m = base + 1 + place_rows p in
      let u = emit_place p (base + 1) in
      let v = emit_expression e m in
      let rest = row-rest 21 (pos (base + 1)) m 0 0 0 (u ++ v) g in
      assign-at (row_first 21 (pos (base + 1)) m 0 0 0 (u ++ v) g)
      (emitted-place (base + 1) k (segment-left u v rest)) (emitted-expression m j (segment-right (place_rows p) u v (length-place p (base + 1)) rest))
  emitted-expression base (a_call {f} {arguments} k) g =
      let first = arguments_link arguments (base + 1) in
      let rest = row-rest 31 (pos f) first 0 0 0 (emit_arguments arguments (base + 1)) g in
      call_at (row_first 31 (pos f) first 0 0 0 (emit_arguments arguments (base + 1)) g) (emitted-arguments (base + 1) k rest)

  emitted-place : {rows : List ℤ} {p : Place} (base : ℕ) → PlaceInKernel p → Segment rows base (emit_place p base) → EmittedPlace rows p base
  emitted-place base (a-variable {i}) g = variable-at (row_first 2 (pos i) 0 0 0 0 [] g)
  emitted-place base (an-element {array} {e} k) g =
      let rest = row-rest 3 (pos array) (base + 1) 0 0 0 (emit_expression e (base + 1)) g in
      element-at (row_first 3 (pos array) (base + 1) 0 0 0 (emit_expression e (base + 1)) g) (emitted-expression (base + 1) k rest)

  emitted-arguments : {rows : List ℤ} {arguments : Arguments} (base : ℕ) → ArgumentsInKernel arguments → Segment rows base (emit_arguments arguments base) → EmittedArguments rows arguments base
  emitted-arguments base no_arguments g = no-more-at
  emitted-arguments base (an-argument {e} {arguments} k j) g =
      let m = base + 1 + expression_rows e in
      let u = emit_expression e (base + 1) in
      let v = emit_arguments arguments m in
      let rest = row-rest 32 (pos (base + 1)) 0 0 0 (arguments_link arguments m) (u ++ v) g in
      argument-at (row_first 32 (pos (base + 1)) 0 0 0 (arguments_link arguments m) (u ++ v) g)
      (emitted-expression (base + 1) k (segment-left u v rest)) (emitted-arguments m j (segment-right (expression_rows e) u v (length-expression e (base + 1)) rest))

emitted-parameters : {rows : List ℤ} (words : List ℕ) (base : ℕ) → Segment rows base (emit_parameters words base) → EmittedParameters rows words base
unfolding emit_parameters natural
emitted-parameters [] base g = no_parameter_at
emitted-parameters (word ∷ words) base g =
    let next = parameters_link words (base + 1) in
    let rest = emit_parameters words (base + 1) in
    parameter-at (row_first 58 (pos word) 0 0 0 next rest g) (emitted-parameters words (base + 1) (row-rest 58 (pos word) 0 0 0 next rest g))

mutual
  unfolding emit_statement natural

  emitted-statement : {rows : List ℤ} {s : Statement} (base next : ℕ) → StatementInKernel s → Segment rows base (emit_statement s base next) → EmittedStatement rows s base next
  emitted-statement base next an-empty g = empty-at (row_first 40 (pos 0) 0 0 0 next [] g)
  emitted-statement base next (an-express {e} k) g =
      let rest = row-rest 41 (pos (base + 1)) 0 0 0 next (emit_expression e (base + 1)) g in
      express-at (row_first 41 (pos (base + 1)) 0 0 0 next (emit_expression e (base + 1)) g) (emitted-expression (base + 1) k rest)
  emitted-statement base next (a_block {is} k) g =
      let first = list_link false is (base + 1) in
      let rest = row-rest 42 (pos first) 0 0 0 next (emit_items false is (base + 1)) g in
      block_at (row_first 42 (pos first) 0 0 0 next (emit_items false is (base + 1)) g) (emitted-items (base + 1) k rest)
  emitted-statement base next (an-if {e} {on_true} {on_false} k j i) g =
      let m = base + 1 + expression_rows e in
      let n = m + statement_rows on_true in
      let u = emit_expression e (base + 1) in
      let v = emit_statement on_true m 0 in
      let w = emit_statement on_false n 0 in
      let size : length (u ++ v) ≡ 6 * (expression_rows e + statement_rows on_true) =
      omega (arith, length-append u v, length-expression e (base + 1), length-statement on_true m 0) in
      let rest = row-rest 43 (pos (base + 1)) m n 0 next ((u ++ v) ++ w) g in
      let front = segment-left (u ++ v) w rest in
      let back = segment-right (expression_rows e + statement_rows on_true) (u ++ v) w size rest in
      let end : base + 1 + (expression_rows e + statement_rows on_true) ≡ n = omega arith in
      if-at (row_first 43 (pos (base + 1)) m n 0 next ((u ++ v) ++ w) g)
      (emitted-expression (base + 1) k (segment-left u v front)) (emitted-statement m 0 j (segment-right (expression_rows e) u v (length-expression e (base + 1)) front))
      (emitted-statement n 0 i (rw end at back))
  emitted-statement base next (a-while {e} {body} k j) g =
      let m = base + 1 + expression_rows e in
      let u = emit_expression e (base + 1) in
      let v = emit_statement body m 0 in
      let rest = row-rest 44 (pos (base + 1)) m 0 0 next (u ++ v) g in
      while-at (row_first 44 (pos (base + 1)) m 0 0 next (u ++ v) g)
      (emitted-expression (base + 1) k (segment-left u v rest)) (emitted-statement m 0 j (segment-right (expression_rows e) u v (length-expression e (base + 1)) rest))
  emitted-statement base next (a-goto {l}) g = goto-at (row_first 52 (pos l) 0 0 0 next [] g)
  emitted-statement base next an-abort g = abort-at (row_first 57 (pos 0) 0 0 0 next [] g)
  emitted-statement base next (a-return {e} k) g =
      let rest = row-rest 60 (pos (base + 1)) 0 0 0 next (emit_expression e (base + 1)) g in
      return-at (row_first 60 (pos (base + 1)) 0 0 0 next (emit_expression e (base + 1)) g) (emitted-expression (base + 1) k rest)

  emitted-items : {rows : List ℤ} {is : Items} (base : ℕ) → ItemsInKernel is → Segment rows base (emit_items false is base) → EmittedItems rows is base
  emitted-items base no_items g = none-at
  emitted-items base (a-statement {s} {is} k j) g =
      let m = base + statement_rows s in
      let u = emit_statement s base (list_link false is m) in
      let v = emit_items false is m in
      then_at (emitted-statement base (list_link false is m) k (segment-left u v g)) (emitted-items m j (segment-right (statement_rows s) u v (length-statement s base (list_link false is m)) g))
  emitted-items base (a-label {l} {is} k) g =
      let rest = emit_items false is (base + 1) in
      label_at (row_first 53 (pos l) 0 0 0 (list_link false is (base + 1)) rest g) (emitted-items (base + 1) k (row-rest 53 (pos l) 0 0 0 (list_link false is (base + 1)) rest g))
  emitted-items base (a-definition {f} {words} {body} {is} k j) g =
      let own = base + 1 + length words in
      let behind = own + 1 + items_rows body in
      let first = list_link false body (own + 1) in
      let inner = emit_items false body (own + 1) in
      let p = emit_parameters words (base + 1) in
      let b = row_of 42 (pos first) 0 0 0 0 ++ inner in
      let w = emit_items false is behind in
      let size : length (p ++ b) ≡ 6 * (length words + 1 + items_rows body) = omega (arith, length-append p b, length-parameters words (base + 1), length-items false body (own + 1)) in
      let rest = row-rest 59 (pos f) (parameters_link words (base + 1)) own 0 (list_link false is behind) ((p ++ b) ++ w) g in
      let front = segment-left (p ++ b) w rest in
      let back = segment-right (length words + 1 + items_rows body) (p ++ b) w size rest in
      let its-block = segment-right (length words) p b (length-parameters words (base + 1)) front in
      let end : base + 1 + (length words + 1 + items_rows body) ≡ behind = omega arith in
      define-at (row_first 59 (pos f) (parameters_link words (base + 1)) own 0 (list_link false is behind) ((p ++ b) ++ w) g)
      (emitted-parameters words (base + 1) (segment-left p b front))
      (block_at (row_first 42 (pos first) 0 0 0 0 inner its-block) (emitted-items (own + 1) k (row-rest 42 (pos first) 0 0 0 0 inner its-block)))
      (emitted-items behind j (rw end at back))

-- The table of a program has the program's rows from row 0 on.
pub emitted : {program : Statement} → StatementInKernel program → EmittedStatement (emit program) program 0 0
unfolding emit
emitted {program} k =
    emitted-statement 0 0 k (record { inside = omega arith; same = λ i h. ap (λ k. get_or (emit program) k (pos 0)) (zero-add i) })
