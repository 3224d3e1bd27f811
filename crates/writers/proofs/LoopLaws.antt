-- Loops: the code of a part of a for, of a loop's test, of a round's end, of a round and of a loop, one part behind another.
use mathlib.Core.Path.{◌≡◌, refl, sym, ap, ap₂, ◌∙◌}
use mathlib.Core.Bool.{Bool, true, false}
use mathlib.Core.List.{List, ◌++◌}
use Prim.Native.Nat.{ℕ, zero, suc, ◌+◌, ◌≤◌}
use native.Mathlib.Omega.{arith}
use lib.IntN.{ℤ, pos}
use Rattle.words.specs.Word.{pick}
use Rattle.language.specs.Trees.{Expression, Part, absent, present, label, Statement, block, if_else, goto, Items, none, ◌then◌, ◌here◌, ◌⧺◌}
use Rattle.language.specs.Sizes.{expression_rows, statement_rows, items_rows}
use Rattle.language.specs.TreeLaws.{append-append}
use Rattle.language.specs.Decode.{expression_at, statement_at, part_at}
use Rattle.translation.specs.declared.Use.TheVariants.{Dropped as dropped, Wanted as wanted}
use Rattle.translation.specs.Translate.{choosing, operand_code, part_code, test_code, loop_code, expression_code, Exits, exits, statement_code}
use Rattle.translation.specs.TranslateSize.{operand_size, part_size, test_size, statement_size}
use Rattle.translation.proofs.TranslateRows.{rows_append, rows-expression, rows-test, rows-statement}
use Rattle.language_emission.specs.Emission.{row_of, list_link, emit_expression, emit_statement, emit_items}
use Rattle.language_emission.specs.EmissionLaws.{or_more, emit-append}
use Rattle.words.specs.Over.{over}
use Rattle.measures_table.specs.Parts.{called_in}
use Rattle.writers_rows.specs.Room.{more_rows}
use Rattle.writers_rows.specs.Atoms.{atom_tree}
use Rattle.writers_steps.specs.Asks.{AtomAt}
use Rattle.writers.specs.Asks.{round_size}
use Rattle.writers_rows.specs.Straight.{loop_head}
use Rattle.writers_expressions.specs.CodeLaws.{rows-operand}
use Rattle.writers.specs.Code.{round_end, round_code, whole_loop}
use Rattle.writers_rows.specs.declared.KernelAtom.{KernelAtom}
use Rattle.writers.specs.declared.Loop.{Loop}
use Rattle.writers_steps.specs.AtomLaws.{atom-rows}
use Rattle.writers_rows.specs.Chain.{part, back_in, PutWords, reworded, Wrote, wrote-put, more_is, link-is}
use Rattle.writers.proofs.Sequence.{put-behind, wrote-behind, more-rows, more-append, more-true, append-four}

-- ---- operands and tests

pub test_some : (rows : List ℤ) (test : ℕ) → (test ≡ 0 → ⊥) → test_size (called_in rows) (part_at rows test) ≡ operand_size (called_in rows) (part_at rows test) wanted + 5
test_some rows zero h = absurd (h refl)
test_some rows (suc test) h = refl

pub test-most : (called : ℕ → ℕ → Bool) (p : Part) → operand_size called p wanted ≤ test_size called p
test-most called absent = omega arith
test-most called (present e) = omega arith

-- `called f i`: whether function f can write the variable i.
module _ (called : ℕ → ℕ → Bool) (S : ℕ) where
  test-rows : (p : Part) (number : ℕ) → items_rows (test_code called S p number none) ≡ test_size called p
  unfolding items_rows
  test-rows p number = rows-test called S p number none ∙ omega arith

  -- What a writer of a part of a for, of a test and of a statement leaves.
  pub part-written : (p : Part) {follows : Bool} {n base : ℕ} {l m : List ℤ} → n ≡ part_size called p → m ≡ over (emit_items follows (part_code called S p) base) l → Wrote follows (part_code called S p) base n l m
  part-written p h e = record { table = e; size = rows-operand called S p dropped 0 ∙ sym h }

  pub test-written : (p : Part) (number : ℕ) {follows : Bool} {n base : ℕ} {l m : List ℤ} → n ≡ test_size called p → m ≡ over (emit_items follows (test_code called S p number none) base) l → Wrote follows (test_code called S p number none) base n l m
  test-written p number h e = record { table = e; size = test-rows p number ∙ sym h }

  pub statement-written : (s : Statement) (x : Exits) (number : ℕ) {follows : Bool} {n base : ℕ} {l m : List ℤ} → n ≡ statement_size called s → m ≡ over (emit_items follows (statement_code called S s x number) base) l
      → Wrote follows (statement_code called S s x number) base n l m
  statement-written s x number h e = record { table = e; size = rows-statement called S s x number ∙ sym h }

module _ (S : ℕ) where
  -- A test: the expression, and then the exit.
  pub test-done : (follows : Bool) (number base : ℕ) (l : List ℤ) {rows : List ℤ} (test : ℕ) {k : ℕ} {x : KernelAtom} {l1 l2 : List ℤ} → (test ≡ 0 → ⊥) → AtomAt S rows test 0 x → k ≡ operand_size (called_in rows) (part_at rows test) wanted
      → l1 ≡ over (emit_items true (operand_code (called_in rows) S (part_at rows test) wanted 0) base) l
      → l2 ≡ over (emit_items follows (if_else (atom_tree x) (block none) (block (goto number then none)) then none) (base + k)) (part k l1)
      → back_in k l1 l2 ≡ over (emit_items follows (test_code (called_in rows) S (part_at rows test) number none) base) l
  unfolding items_rows expression_rows
  test-done follows number base l zero some a ek e1 e2 = absurd (some refl)
  test-done follows number base l {rows} (suc test) {k} {x} some a ek e1 e2 =
      let e = expression_at rows (suc test) in
      (wrote-behind {first = true} (k + 5) refl refl refl
      (record { table = e1; size = rows-expression (called_in rows) S e wanted 0 ∙ sym ek })
      (record { table = e2; size = omega (arith, atom-rows x) })).table
      ∙ ap (λ (y : Expression). over (emit_items follows (expression_code (called_in rows) S e wanted 0 ⧺ choosing S y none (goto number then none) none) base) l) a.is

  module _ (rows : List ℤ) where
    -- The end of a round: the label, the step, the test.
    pub round-end-done : (action after : Part) (number base : ℕ) (l : List ℤ) {k end : ℕ} {first second : Bool} {l1 l2 l3 : List ℤ} → k ≡ part_size (called_in rows) action → end ≡ test_size (called_in rows) after
        → second ≡ more_rows false end → first ≡ more_rows second k
        → l1 ≡ over (emit_items first (label (number + 1) here none) base) l
        → l2 ≡ over (emit_items second (part_code (called_in rows) S action) (base + 1)) (part 1 l1)
        → l3 ≡ over (emit_items false (test_code (called_in rows) S after number none) (base + (1 + k))) (part (1 + k) (back_in 1 l1 l2))
        → back_in (1 + k) (back_in 1 l1 l2) l3 ≡ over (emit_items false (round_end S rows action after number) base) l
    unfolding items_rows ◌⧺◌
    round-end-done action after number base l {k} {end} {first} {second} ek eend e2 e1 t1 t2 t3 =
        let w1 : Wrote first (label (number + 1) here none) base 1 _ _ = record { table = t1; size = refl } in
        let w2 = part-written (called_in rows) S action ek t2 in
        let w3 = test-written (called_in rows) S after number eend t3 in
        let a = wrote-behind (1 + k) refl (e1 ∙ more-rows second (part_code (called_in rows) S action) k w2.size) refl w1 w2 in
        (wrote-behind (1 + k + end) refl (e2 ∙ more-rows false (test_code (called_in rows) S after number none) end w3.size) refl a w3).table

    round-end-rows : (action after : Part) (number : ℕ) → items_rows (round_end S rows action after number) ≡ 1 + part_size (called_in rows) action + test_size (called_in rows) after
    unfolding items_rows
    round-end-rows action after number =
        omega (arith, rows_append (part_code (called_in rows) S action) (test_code (called_in rows) S after number none), rows-operand (called_in rows) S action dropped 0, test-rows (called_in rows) S after number)

    round-rows : (parts : Loop) (number : ℕ) → items_rows (round_code S rows parts number) ≡ round_size rows parts
    round-rows parts number =
        let T = test_code (called_in rows) S (part_at rows parts.before) number none in
        let B = statement_code (called_in rows) S (statement_at rows parts.body) (exits number (number + 1)) (number + 2) in
        let E = round_end S rows (part_at rows parts.action) (part_at rows parts.after) number in
        omega (
          arith,
          rows_append T (B ⧺ E),
          rows_append B E,
          test-rows (called_in rows) S (part_at rows parts.before) number,
          rows-statement (called_in rows) S (statement_at rows parts.body) (exits number (number + 1)) (number + 2),
          round-end-rows (part_at rows parts.action) (part_at rows parts.after) number,
        )

    -- A round: the test before the body, the body, the end.
    pub round-done : (parts : Loop) (number base : ℕ) (l : List ℤ) {k size : ℕ} {l1 l2 l3 : List ℤ} → k ≡ test_size (called_in rows) (part_at rows parts.before) → size ≡ statement_size (called_in rows) (statement_at rows parts.body)
        → l1 ≡ over (emit_items true (test_code (called_in rows) S (part_at rows parts.before) number none) base) l
        → l2 ≡ over (emit_items true (statement_code (called_in rows) S (statement_at rows parts.body) (exits number (number + 1)) (number + 2)) (base + k)) (part k l1)
        → l3 ≡ over (emit_items false (round_end S rows (part_at rows parts.action) (part_at rows parts.after) number) (base + (k + size))) (part (k + size) (back_in k l1 l2))
        → back_in (k + size) (back_in k l1 l2) l3 ≡ over (emit_items false (round_code S rows parts number) base) l
    round-done parts number base l {k} {size} ek es t1 t2 t3 =
        let T = test_code (called_in rows) S (part_at rows parts.before) number none in
        let B = statement_code (called_in rows) S (statement_at rows parts.body) (exits number (number + 1)) (number + 2) in
        let E = round_end S rows (part_at rows parts.action) (part_at rows parts.after) number in
        let w1 = test-written (called_in rows) S (part_at rows parts.before) number ek t1 in
        let w2 = statement-written (called_in rows) S (statement_at rows parts.body) (exits number (number + 1)) (number + 2) es t2 in
        let w3 : Wrote false E _ (1 + part_size (called_in rows) (part_at rows parts.action) + test_size (called_in rows) (part_at rows parts.after)) _ _ =
        record { table = t3; size = round-end-rows (part_at rows parts.action) (part_at rows parts.after) number } in
        let a = wrote-behind (k + size) refl (sym (more-true B)) refl w1 w2 in
        (wrote-behind (k + size + (1 + part_size (called_in rows) (part_at rows parts.action) + test_size (called_in rows) (part_at rows parts.after))) refl refl refl a w3).table
        ∙ ap (λ (xs : Items). over (emit_items false xs base) l) (append-append T B E)

    -- A round is not empty: it has a label.
    round-some : (parts : Loop) (number : ℕ) → or_more false (round_code S rows parts number) ≡ true
    round-some parts number =
        let T = test_code (called_in rows) S (part_at rows parts.before) number none in
        let B = statement_code (called_in rows) S (statement_at rows parts.body) (exits number (number + 1)) (number + 2) in
        let E = round_end S rows (part_at rows parts.action) (part_at rows parts.after) number in
        more-append false T (B ⧺ E) ∙ ap (λ (b : Bool). or_more b T) (more-append false B E ∙ more-true B) ∙ more-true T

  -- The rows of a loop, whose round is not empty.
  pub loop-words : (R : Items) (base round number : ℕ) (follows : Bool) → items_rows R ≡ round → or_more false R ≡ true
      → (loop_head base round ++ emit_items false R (base + 3)) ++ emit_items follows (label number here none) (base + 3 + round) ≡ emit_items follows (loop_code S R number) base
  unfolding emit_expression emit_statement expression_rows statement_rows
  loop-words R base round number follows size some =
      let two : base + 2 ≡ base + 1 + 1 = omega arith in
      let three : base + 3 ≡ base + 1 + 1 + 1 = omega arith in
      let link : base + 3 ≡ list_link false R (base + 1 + 1 + 1) =
      three ∙ sym (link-is false R (base + 1 + 1 + 1) ∙ ap (λ (b : Bool). pick b (base + 1 + 1 + 1) 0) (sym (more_is false R) ∙ some)) in
      let all : base + 3 + round ≡ base + (1 + 1 + (1 + items_rows R)) = omega (arith, size) in
      let words : ℕ → ℕ → ℕ → ℕ → List ℤ = λ body next first from. row_of 44 (pos (base + 1)) body 0 0 next ++ row_of 1 (pos 1) 0 0 0 0 ++ row_of 42 (pos first) 0 0 0 0 ++ emit_items false R from ++ emit_items follows (label number here none) next in
      ap₂ (λ (body next : ℕ). words body next (base + 3) (base + 3)) two all ∙ ap₂ (λ (first from : ℕ). words (base + 1 + 1) (base + (1 + 1 + (1 + items_rows R))) first from) link three

  module _ (rows : List ℤ) where
    -- A loop: its first part, its head, its round, and the label behind it.
    pub loop-done : (follows : Bool) (parts : Loop) (number base : ℕ) (l : List ℤ) {k round : ℕ} {l1 l2 l3 l4 : List ℤ} → k ≡ part_size (called_in rows) (part_at rows parts.first) → round ≡ round_size rows parts
        → l1 ≡ over (emit_items true (part_code (called_in rows) S (part_at rows parts.first)) base) l
        → l2 ≡ over (loop_head (base + k) round) (part k l1)
        → l3 ≡ over (emit_items false (round_code S rows parts number) (base + (k + 3))) (part (k + 3) (back_in k l1 l2))
        → l4 ≡ over (emit_items follows (label number here none) (base + (k + 3 + round))) (part (k + 3 + round) (back_in (k + 3) (back_in k l1 l2) l3))
        → back_in (k + 3 + round) (back_in (k + 3) (back_in k l1 l2) l3) l4 ≡ over (emit_items follows (whole_loop S rows parts number) base) l
    unfolding items_rows
    loop-done follows parts number base l {k} {round} ek er t1 t2 t3 t4 =
        let F = part_code (called_in rows) S (part_at rows parts.first) in
        let R = round_code S rows parts number in
        let size : items_rows R ≡ round = round-rows rows parts number ∙ sym er in
        let first = part-written (called_in rows) S (part_at rows parts.first) ek t1 in
        let head : PutWords (loop_head (base + k) round) 3 _ _ = record { table = t2; size = refl } in
        let body : Wrote false R _ round _ _ = record { table = t3; size = size } in
        let behind : Wrote follows (label number here none) _ 1 _ _ = record { table = t4; size = refl } in
        let put = put-behind (k + 3 + round + 1) refl (put-behind (k + 3 + round) refl (put-behind (k + 3) refl (wrote-put first) head) (wrote-put body)) (wrote-put behind) in
        let A = emit_items true F base in
        let here1 : base + (k + 3) ≡ base + k + 3 = omega arith in
        let here2 : base + (k + 3 + round) ≡ base + k + 3 + round = omega arith in
        reworded _ put (
        ap₂ (λ (a b : ℕ). ((A ++ loop_head (base + k) round) ++ emit_items false R a) ++ emit_items follows (label number here none) b) here1 here2
        ∙ append-four A (loop_head (base + k) round) (emit_items false R (base + k + 3)) (emit_items follows (label number here none) (base + k + 3 + round))
        ∙ ap (λ (ws : List ℤ). A ++ ws) (loop-words R (base + k) round number follows size (round-some rows parts number))
        ∙ ap (λ (n : ℕ). A ++ emit_items follows (loop_code S R number) (base + n)) (sym first.size)
        ∙ sym (emit-append follows F (loop_code S R number) base)
        )
