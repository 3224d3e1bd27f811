-- Laws of emission: lengths, and one part behind another.
use Rattle.std.specs.Prelude.{◌≡◌, refl, Bool, true, false, List, [], ◌∷◌, ◌++◌, ℕ, ◌+◌, ◌*◌, ℤ, pos, length}
use Rattle.std.proofs.Common.{sym, ◌∙◌, ap, ap₂, append_assoc, arith, length-append}
use Rattle.language.specs.Trees.{Expression, constant, read, minus, not, binary, and, or, comma, conditional, assign, compound, prefix, postfix, call, Place, variable, element, Arguments, no_more, ◌also◌, Part, absent, present, Mark, case, default, label, Statement, empty, express, block, if_then, if_else, while, do_while, for, switch, break, continue, goto, guarded_if, guarded_do, abort, declare, give_back, Arms, no_arm, arm, Items, none, ◌then◌, ◌here◌, define, ◌⧺◌}
use Rattle.language.specs.Sizes.{expression_rows, place_rows, arguments_rows, part_rows, statement_rows, arms_rows, items_rows}
use Rattle.language_emission.specs.Emission.{row_of, emit_expression, emit_place, emit_arguments, emit_part, list_link, emit_mark, parameters_link, emit_parameters, emit_statement, emit_arms, emit_items, emit}

-- Whether items stand behind a list that is followed by another.
abbrev pub or_more : Bool → Items → Bool
or_more follows none = follows
or_more follows (s then is) = true
or_more follows (m here is) = true
or_more follows (define f words body is) = true

link-append : (follows : Bool) (xs ys : Items) (base : ℕ) → list_link follows (xs ⧺ ys) base ≡ list_link (or_more follows ys) xs base
unfolding ◌⧺◌
link-append follows none none base = refl
link-append follows none (s then ys) base = refl
link-append follows none (m here ys) base = refl
link-append follows none (define f words body ys) base = refl
link-append follows (s then xs) ys base = refl
link-append follows (m here xs) ys base = refl
link-append follows (define f words body xs) ys base = refl

-- A list that is one list behind another.
pub emit-append : (follows : Bool) (xs ys : Items) (base : ℕ) → emit_items follows (xs ⧺ ys) base ≡ emit_items (or_more follows ys) xs base ++ emit_items follows ys (base + items_rows xs)
unfolding emit_statement items_rows ◌⧺◌
emit-append follows none ys base = let z : base ≡ base + 0 = omega arith in ap (emit_items follows ys) z
emit-append follows (s then xs) ys base =
    let z : base + statement_rows s + items_rows xs ≡ base + (statement_rows s + items_rows xs) = omega arith in
    ap₂ (λ n l. emit_statement s base n ++ l) (link-append follows xs ys (base + statement_rows s))
    (emit-append follows xs ys (base + statement_rows s) ∙ ap (λ b. emit_items (or_more follows ys) xs (base + statement_rows s) ++ emit_items follows ys b) z)
    ∙ sym (append_assoc (emit_statement s base (list_link (or_more follows ys) xs (base + statement_rows s))) (emit_items (or_more follows ys) xs (base + statement_rows s)) (emit_items follows ys (base + (statement_rows s + items_rows xs))))
emit-append follows (m here xs) ys base =
    let z : base + 1 + items_rows xs ≡ base + (1 + items_rows xs) = omega arith in
    ap₂ (λ n l. emit_mark m n ++ l) (link-append follows xs ys (base + 1))
    (emit-append follows xs ys (base + 1) ∙ ap (λ b. emit_items (or_more follows ys) xs (base + 1) ++ emit_items follows ys b) z)
    ∙ sym (append_assoc (emit_mark m (list_link (or_more follows ys) xs (base + 1))) (emit_items (or_more follows ys) xs (base + 1)) (emit_items follows ys (base + (1 + items_rows xs))))
emit-append follows (define f words body xs) ys base =
    let own = base + 1 + length words in
    let behind = own + 1 + items_rows body in
    let definition : ℕ → List ℤ = λ next. row_of 59 (pos f) (parameters_link words (base + 1)) own 0 next ++ emit_parameters words (base + 1) ++ (row_of 42 (pos (list_link false body (own + 1))) 0 0 0 0 ++ emit_items false body (own + 1)) in
    let z : behind + items_rows xs ≡ base + (2 + length words + items_rows body + items_rows xs) = omega arith in
    ap₂ (λ n l. definition n ++ l) (link-append follows xs ys behind)
    (emit-append follows xs ys behind ∙ ap (λ b. emit_items (or_more follows ys) xs behind ++ emit_items follows ys b) z)
    ∙ sym (append_assoc (definition (list_link (or_more follows ys) xs behind)) (emit_items (or_more follows ys) xs behind) (emit_items follows ys (base + (2 + length words + items_rows body + items_rows xs))))

-- ---- lengths: six words a row

mutual
  unfolding emit_expression expression_rows

  pub length-expression : (e : Expression) (base : ℕ) → length (emit_expression e base) ≡ 6 * expression_rows e
  length-expression (constant v) base = refl
  length-expression (read p) base = length-place p base
  length-expression (minus e) base = omega (arith, length-expression e (base + 1))
  length-expression (not e) base = omega (arith, length-expression e (base + 1))
  length-expression (binary o a b) base = simp length-append (omega (arith, length-expression a (base + 1), length-expression b (base + 1 + expression_rows a)))
  length-expression (and a b) base = simp length-append (omega (arith, length-expression a (base + 1), length-expression b (base + 1 + expression_rows a)))
  length-expression (or a b) base = simp length-append (omega (arith, length-expression a (base + 1), length-expression b (base + 1 + expression_rows a)))
  length-expression (comma a b) base = simp length-append (omega (arith, length-expression a (base + 1), length-expression b (base + 1 + expression_rows a)))
  length-expression (conditional c a b) base =
      simp length-append (omega (arith, length-expression c (base + 1), length-expression a (base + 1 + expression_rows c), length-expression b (base + 1 + expression_rows c + expression_rows a)))
  length-expression (assign p e) base = simp length-append (omega (arith, length-place p (base + 1), length-expression e (base + 1 + place_rows p)))
  length-expression (compound o p e) base = simp length-append (omega (arith, length-place p (base + 1), length-expression e (base + 1 + place_rows p)))
  length-expression (prefix o p) base = omega (arith, length-place p (base + 1))
  length-expression (postfix o p) base = omega (arith, length-place p (base + 1))
  length-expression (call f arguments) base = omega (arith, length-arguments arguments (base + 1))

  pub length-place : (p : Place) (base : ℕ) → length (emit_place p base) ≡ 6 * place_rows p
  length-place (variable i) base = refl
  length-place (element array e) base = omega (arith, length-expression e (base + 1))

  pub length-arguments : (arguments : Arguments) (base : ℕ) → length (emit_arguments arguments base) ≡ 6 * arguments_rows arguments
  length-arguments no_more base = refl
  length-arguments (e also arguments) base = simp length-append (omega (arith, length-expression e (base + 1), length-arguments arguments (base + 1 + expression_rows e)))

pub length_part : (p : Part) (base : ℕ) → length (emit_part p base) ≡ 6 * part_rows p
length_part absent base = refl
length_part (present e) base = length-expression e base

pub length-mark : (m : Mark) (next : ℕ) → length (emit_mark m next) ≡ 6
length-mark (case v) next = refl
length-mark default next = refl
length-mark (label l) next = refl

pub length-parameters : (words : List ℕ) (base : ℕ) → length (emit_parameters words base) ≡ 6 * length words
unfolding emit_parameters
length-parameters [] base = refl
length-parameters (word ∷ words) base = omega (arith, length-parameters words (base + 1))

mutual
  unfolding emit_statement statement_rows

  pub length-statement : (s : Statement) (base next : ℕ) → length (emit_statement s base next) ≡ 6 * statement_rows s
  length-statement empty base next = refl
  length-statement (express e) base next = omega (arith, length-expression e (base + 1))
  length-statement (block is) base next = omega (arith, length-items false is (base + 1))
  length-statement (if_then e on_true) base next = simp length-append (omega (arith, length-expression e (base + 1), length-statement on_true (base + 1 + expression_rows e) 0))
  length-statement (if_else e on_true on_false) base next =
      simp length-append (omega (arith, length-expression e (base + 1), length-statement on_true (base + 1 + expression_rows e) 0, length-statement on_false (base + 1 + expression_rows e + statement_rows on_true) 0))
  length-statement (while e body) base next = simp length-append (omega (arith, length-expression e (base + 1), length-statement body (base + 1 + expression_rows e) 0))
  length-statement (do_while body e) base next = simp length-append (omega (arith, length-statement body (base + 1) 0, length-expression e (base + 1 + statement_rows body)))
  length-statement (for first test action body) base next =
      simp length-append (omega (
        arith,
        length_part first (base + 1),
        length_part test (base + 1 + part_rows first),
        length_part action (base + 1 + part_rows first + part_rows test),
        length-statement body (base + 1 + part_rows first + part_rows test + part_rows action) 0,
      ))
  length-statement (switch e is) base next = simp length-append (omega (arith, length-expression e (base + 1), length-items false is (base + 1 + expression_rows e)))
  length-statement break base next = refl
  length-statement continue base next = refl
  length-statement (goto l) base next = refl
  length-statement (guarded_if arms) base next = omega (arith, length-arms arms (base + 1))
  length-statement (guarded_do arms) base next = omega (arith, length-arms arms (base + 1))
  length-statement abort base next = refl
  length-statement (declare i e) base next = omega (arith, length-expression e (base + 1))
  length-statement (give_back value) base next = omega (arith, length_part value (base + 1))

  length-arms : (arms : Arms) (base : ℕ) → length (emit_arms arms base) ≡ 6 * arms_rows arms
  length-arms no_arm base = refl
  length-arms (arm e s arms) base =
      simp length-append (omega (arith, length-expression e (base + 1), length-statement s (base + 1 + expression_rows e) 0, length-arms arms (base + 1 + expression_rows e + statement_rows s)))

  pub length-items : (follows : Bool) (is : Items) (base : ℕ) → length (emit_items follows is base) ≡ 6 * items_rows is
  length-items follows none base = refl
  length-items follows (s then is) base =
      simp length-append (omega (arith, length-statement s base (list_link follows is (base + statement_rows s)), length-items follows is (base + statement_rows s)))
  length-items follows (m here is) base = simp length-append (omega (arith, length-mark m (list_link follows is (base + 1)), length-items follows is (base + 1)))
  length-items follows (define f words body is) base =
      let own = base + 1 + length words in
      simp length-append (omega (arith, length-parameters words (base + 1), length-items false body (own + 1), length-items follows is (own + 1 + items_rows body)))

-- The table of a program.
pub length-emit : (program : Statement) → length (emit program) ≡ 6 * statement_rows program
unfolding emit
length-emit program = length-statement program 0 0
