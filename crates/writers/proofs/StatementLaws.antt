-- Statements: the code of an expression statement, of a block, of an if and of a switch, one part behind another.
use mathlib.Core.Path.{◌≡◌, refl, sym, ap, ap₂, subst, ◌∙◌}
use mathlib.Core.Bool.{Bool, true, false}
use mathlib.Core.List.{List, ◌++◌}
use Prim.Native.Nat.{ℕ, zero, suc, ◌+◌, ◌*◌, ◌≤◌, ◌<◌}
use native.Mathlib.Omega.{arith}
use lib.IntN.{ℤ, pos}
use Rattle.words.specs.Word.{pick}
use Rattle.language.specs.Trees.{Expression, Part, absent, present, default, label, Statement, empty, express, block, if_then, if_else, while, do_while, for, switch, break, continue, goto, guarded_if, guarded_do, abort, declare, give_back, Arms, no_arm, arm, Items, none, ◌then◌, ◌here◌, define, ◌⧺◌}
use Rattle.language.specs.Sizes.{statement_rows, items_rows}
use Rattle.language.specs.TreeLaws.{append-none, append-append, statement-some}
use Rattle.language.specs.Decode.{expression_at, if_of, statement_at, part_at}
use Rattle.translation.specs.declared.Use.{Use}
use Rattle.translation.specs.declared.Use.TheVariants.{Dropped as dropped, Wanted as wanted}
use Rattle.translation.specs.Translate.{Atom, number as constant_atom, top, atom_of, taken, atom, labels, label_of, choosing, or_empty, operand_code, part_code, test_code, loop_code, case_tests, expression_code, Exits, exits, statement_code, items_code}
use Rattle.translation.specs.TranslateSize.{expression_size, operand_size, part_size, cases, rounds_rows, statement_size, items_size}
use Rattle.translation.proofs.TranslateRows.{rows-expression, rows-cases, rows-statement, rows-items}
use Rattle.language_emission.specs.Emission.{row_of, list_link, emit_expression, emit_statement, emit_items}
use Rattle.language_emission.specs.EmissionLaws.{emit-append, length-expression, length-statement}
use Rattle.words.specs.Over.{over}
use Rattle.measures_table.specs.Parts.{called_in}
use Rattle.writers_rows.specs.Room.{more_rows}
use Rattle.writers_rows.specs.Atoms.{atom_tree}
use Rattle.language_shapes.specs.Shapes.{statement_tree}
use Rattle.language_shapes.specs.Source.{StatementAt}
use Rattle.language_shapes.specs.declared.StatementShape.{StatementShape}
use Rattle.writers_steps.specs.Asks.{AtomAt}
use Rattle.writers.specs.Asks.{body_size, body_labels, loop_size}
use Rattle.writers.specs.Code.{body_code, whole_loop}
use Rattle.writers.specs.declared.Loop.{Loop}
use Rattle.writers_rows.specs.declared.KernelAtom.{KernelAtom}
use Rattle.writers_steps.specs.AtomLaws.{atom-rows}
use Rattle.writers_rows.specs.Chain.{part, back_in, PutWords, reworded, more-some, link-is, Wrote, wrote-put, one-item, choice-words}
use Rattle.writers.proofs.DeclarationLaws.{declared-some}
use Rattle.writers.proofs.Sequence.{put-behind, wrote-behind, more-true, append-four}

-- ---- branches that may be absent

pub body-some : (rows : List ℤ) (row : ℕ) → 0 < row → body_size rows row ≡ statement_size (called_in rows) (statement_at rows row)
body-some rows zero h = absurd (omega arith)
body-some rows (suc row) h = refl

pub body-labels : (rows : List ℤ) (row : ℕ) → 0 < row → body_labels rows row ≡ labels (statement_at rows row)
body-labels rows zero h = absurd (omega arith)
body-labels rows (suc row) h = refl

pub part-size : (u : Use) (rows : List ℤ) (row : ℕ) → 0 < row → operand_size (called_in rows) (part_at rows row) u ≡ expression_size (called_in rows) (expression_at rows row) u
part-size u rows zero h = absurd (omega arith)
part-size u rows (suc row) h = refl

-- ---- expression statements

no_rows : (xs : Items) → items_rows xs ≡ 0 → xs ≡ none
unfolding items_rows
no_rows none e = refl
no_rows (s then xs) e = absurd (omega (arith, statement-some s))
no_rows (m here xs) e = absurd (omega arith)
no_rows (define f words body xs) e = absurd (omega arith)

some_rows : (S : ℕ) (xs : Items) → (items_rows xs ≡ 0 → ⊥) → or_empty S xs ≡ xs
unfolding items_rows
some_rows S none h = absurd (h refl)
some_rows S (s then xs) h = refl
some_rows S (m here xs) h = refl
some_rows S (define f words body xs) h = refl

part-is : (S : ℕ) (rows : List ℤ) (row : ℕ) → 0 < row → part_code (called_in rows) S (part_at rows row) ≡ expression_code (called_in rows) S (expression_at rows row) dropped 0
part-is S rows zero h = absurd (omega arith)
part-is S rows (suc row) h = refl

module _ (S : ℕ) (rows : List ℤ) (row base : ℕ) (follows : Bool) (l : List ℤ) where
  express-rows : {n : ℕ} → 0 < row → n ≡ part_size (called_in rows) (part_at rows row) → items_rows (expression_code (called_in rows) S (expression_at rows row) dropped 0) ≡ n
  express-rows some size = rows-expression (called_in rows) S (expression_at rows row) dropped 0 ∙ sym (part-size dropped rows row some) ∙ sym size

  -- Nothing to do: an empty statement.
  pub express-nothing : {n : ℕ} {m : List ℤ} → 0 < row → n ≡ part_size (called_in rows) (part_at rows row) → n ≡ 0 → m ≡ over (emit_items follows (empty then none) base) l
      → m ≡ over (emit_items follows (or_empty S (expression_code (called_in rows) S (expression_at rows row) dropped 0)) base) l
  express-nothing some size z e =
      e ∙ ap (λ (xs : Items). over (emit_items follows (or_empty S xs) base) l) (sym (no_rows (expression_code (called_in rows) S (expression_at rows row) dropped 0) (express-rows some size ∙ z)))

  pub express-something : {n : ℕ} {m : List ℤ} → 0 < row → n ≡ part_size (called_in rows) (part_at rows row) → (n ≡ 0 → ⊥) → m ≡ over (emit_items follows (part_code (called_in rows) S (part_at rows row)) base) l
      → m ≡ over (emit_items follows (or_empty S (expression_code (called_in rows) S (expression_at rows row) dropped 0)) base) l
  express-something some size h e =
      e ∙ ap (λ (xs : Items). over (emit_items follows xs base) l) (part-is S rows row some ∙ sym (some_rows S (expression_code (called_in rows) S (expression_at rows row) dropped 0) (λ z. h (sym (express-rows some size) ∙ z))))

-- ---- blocks

-- The row of a block, and then its items.
pub block-put : (X : Items) (base next : ℕ) (l : List ℤ) {first n : ℕ} {l1 l2 : List ℤ} → items_rows X ≡ n → first ≡ pick (more_rows false n) (base + 1) 0
    → l1 ≡ over (row_of 42 (pos first) 0 0 0 next) l → l2 ≡ over (emit_items false X (base + 1)) (part 1 l1)
    → PutWords (emit_statement (block X) base next) (1 + n) l (back_in 1 l1 l2)
unfolding emit_statement
block-put X base next l {first} {n} {l1} {l2} size link t1 t2 =
    let row : PutWords (row_of 42 (pos first) 0 0 0 next) 1 _ _ = record { table = t1; size = refl } in
    let items : Wrote false X (base + 1) n _ _ = record { table = t2; size = size } in
    let put = put-behind (1 + n) refl row (wrote-put items) in
    let same : first ≡ list_link false X (base + 1) = link ∙ ap (λ (k : ℕ). pick (more_rows false k) (base + 1) 0) (sym size) ∙ sym (link-is false X (base + 1)) in
    subst (λ (f : ℕ). PutWords (row_of 42 (pos f) 0 0 0 next ++ emit_items false X (base + 1)) (1 + n) l (back_in 1 l1 l2)) same put

-- A statement that stands by itself.
pub alone : (s : Statement) (follows : Bool) (base : ℕ) (l : List ℤ) {n : ℕ} {m : List ℤ} → statement_rows s ≡ n → PutWords (emit_statement s base (pick follows (base + n) 0)) n l m
    → m ≡ over (emit_items follows (s then none) base) l
alone s follows base l {n} size put = reworded _ put (ap (λ (k : ℕ). emit_statement s base (pick follows (base + k) 0)) (sym size) ∙ sym (one-item follows s base))

rounds-some : (arms : Arms) → 1 ≤ rounds_rows arms
rounds-some no_arm = omega arith
rounds-some (arm e s arms) = omega arith

pub statement-size-some : (called : ℕ → ℕ → Bool) (s : Statement) → 1 ≤ statement_size called s
unfolding statement_size
statement-size-some called empty = omega arith
statement-size-some called (express e) = omega arith
statement-size-some called (block is) = omega arith
statement-size-some called (if_then e on_true) = omega arith
statement-size-some called (if_else e on_true on_false) = omega arith
statement-size-some called (while e body) = omega arith
statement-size-some called (do_while body e) = omega arith
statement-size-some called (for first test action body) = omega arith
statement-size-some called (switch e is) = omega arith
statement-size-some called break = omega arith
statement-size-some called continue = omega arith
statement-size-some called (goto l) = omega arith
statement-size-some called (guarded_if arms) = omega arith
statement-size-some called (guarded_do arms) = omega (arith, rounds-some arms)
statement-size-some called abort = omega arith
statement-size-some called (declare i e) = declared-some called i e
statement-size-some called (give_back value) = omega arith

module _ (called : ℕ → ℕ → Bool) (S : ℕ) where
  -- A block of a list.
  pub block-done : (is : Items) (x : Exits) (number base : ℕ) (follows : Bool) (l : List ℤ) {n first next : ℕ} {more : Bool} {l1 l2 : List ℤ} → n ≡ items_size called is
      → more ≡ more_rows false n → first ≡ pick more (base + 1) 0 → next ≡ pick follows (base + 1 + n) 0
      → l1 ≡ over (row_of 42 (pos first) 0 0 0 next) l → l2 ≡ over (emit_items false (items_code called S is x number) (base + 1)) (part 1 l1)
      → back_in 1 l1 l2 ≡ over (emit_items follows (block (items_code called S is x number) then none) base) l
  unfolding statement_rows
  block-done is x number base follows l {n} {first} {next} {more} {l1} {l2} en em ef enext t1 t2 =
      let X = items_code called S is x number in
      let size : items_rows X ≡ n = rows-items called S is x number ∙ sym en in
      let at : base + 1 + n ≡ base + (1 + n) = omega arith in
      let place : next ≡ pick follows (base + (1 + n)) 0 = enext ∙ ap (λ (k : ℕ). pick follows k 0) at in
      alone (block X) follows base l (omega (arith, size))
      (subst (λ (k : ℕ). PutWords (emit_statement (block X) base k) (1 + n) l (back_in 1 l1 l2)) place (block-put X base next l size (ef ∙ ap (λ (b : Bool). pick b (base + 1) 0) em) t1 t2))

module _ (S : ℕ) where
  module _ (rows : List ℤ) where
    pub body-rows : (row : ℕ) (x : Exits) (number : ℕ) → items_rows (body_code S rows row x number) ≡ body_size rows row
    unfolding items_rows
    body-rows zero x number = refl
    body-rows (suc row) x number = rows-statement (called_in rows) S (statement_at rows (suc row)) x number

    -- A branch that is absent, and one that is there.
    pub body-none : (row : ℕ) (x : Exits) (number base : ℕ) (l : List ℤ) {m : List ℤ} → row ≡ 0 → m ≡ over (row_of 42 (pos 0) 0 0 0 0) l
        → m ≡ over (emit_statement (block (body_code S rows row x number)) base 0) l
    unfolding emit_statement
    body-none row x number base l z e = e ∙ sym (ap (λ (r : ℕ). over (emit_statement (block (body_code S rows r x number)) base 0) l) z)

    pub body-done : (row : ℕ) (x : Exits) (number base : ℕ) (l : List ℤ) {l1 l2 : List ℤ} → (row ≡ 0 → ⊥) → l1 ≡ over (row_of 42 (pos (base + 1)) 0 0 0 0) l
        → l2 ≡ over (emit_items false (statement_code (called_in rows) S (statement_at rows row) x number) (base + 1)) (part 1 l1)
        → back_in 1 l1 l2 ≡ over (emit_statement (block (body_code S rows row x number)) base 0) l
    body-done zero x number base l some t1 t2 = absurd (some refl)
    body-done (suc row) x number base l some t1 t2 =
        let s = statement_at rows (suc row) in
        (block-put (statement_code (called_in rows) S s x number) base 0 l (rows-statement (called_in rows) S s x number)
        (sym (ap (λ (b : Bool). pick b (base + 1) 0) (more-some false (statement_size (called_in rows) s) (statement-size-some (called_in rows) s)))) t1 t2).table

-- ---- ifs

module _ (S : ℕ) (rows : List ℤ) where
  -- An if with or without its second branch.
  if-code : (on_false : ℕ) (e : Expression) (s : Statement) (x : Exits) (number : ℕ)
      → statement_code (called_in rows) S (if_of on_false e s (statement_at rows on_false)) x number
      ≡ expression_code (called_in rows) S e wanted 0 ⧺ choosing S (atom S 0 (atom_of (called_in rows) e)) (statement_code (called_in rows) S s x number) (body_code S rows on_false x (number + labels s)) none
  unfolding statement_code
  if-code zero e s x number = refl
  if-code (suc on_false) e s x number = refl

  -- An if: its test, its head, its two blocks.
  pub if-done : (test on_true on_false : ℕ) (x : Exits) (number base : ℕ) (follows : Bool) (l : List ℤ) {k sy sn count next : ℕ} {a : KernelAtom} {l1 l2 l3 l4 : List ℤ}
      → 0 < test → 0 < on_true → AtomAt S rows test 0 a → k ≡ operand_size (called_in rows) (part_at rows test) wanted → sy ≡ statement_size (called_in rows) (statement_at rows on_true) → sn ≡ body_size rows on_false → count ≡ labels (statement_at rows on_true)
      → next ≡ pick follows (base + (k + 2 + 1 + sy + 1 + sn)) 0
      → l1 ≡ over (emit_items true (operand_code (called_in rows) S (part_at rows test) wanted 0) base) l
      → l2 ≡ over (row_of 43 (pos (base + k + 1)) (base + k + 2) (base + (k + 2 + 1 + sy)) 0 next ++ emit_expression (atom_tree a) (base + k + 1)) (part k l1)
      → l3 ≡ over (emit_statement (block (body_code S rows on_true x number)) (base + (k + 2)) 0) (part (k + 2) (back_in k l1 l2))
      → l4 ≡ over (emit_statement (block (body_code S rows on_false x (number + count))) (base + (k + 2 + 1 + sy)) 0) (part (k + 2 + 1 + sy) (back_in (k + 2) (back_in k l1 l2) l3))
      → back_in (k + 2 + 1 + sy) (back_in (k + 2) (back_in k l1 l2) l3) l4
      ≡ over (emit_items follows (statement_code (called_in rows) S (if_of on_false (expression_at rows test) (statement_at rows on_true) (statement_at rows on_false)) x number) base) l
  unfolding statement_rows
  if-done zero on_true on_false x number base follows l some-test some-yes a ek ey en ec enext t1 t2 t3 t4 = absurd (omega arith)
  if-done (suc test) zero on_false x number base follows l some-test some-yes a ek ey en ec enext t1 t2 t3 t4 = absurd (omega arith)
  if-done (suc test) (suc on_true) on_false x number base follows l {k} {sy} {sn} {count} {next} {a} some-test some-yes at ek ey en ec enext t1 t2 t3 t4 =
      let e = expression_at rows (suc test) in
      let Y = body_code S rows (suc on_true) x number in
      let N = body_code S rows on_false x (number + count) in
      let test-written : Wrote true (expression_code (called_in rows) S e wanted 0) base k l _ = record { table = t1; size = rows-expression (called_in rows) S e wanted 0 ∙ sym ek } in
      let size-yes : items_rows Y ≡ sy = body-rows S rows (suc on_true) x number ∙ sym ey in
      let size-no : items_rows N ≡ sn = body-rows S rows on_false x (number + count) ∙ sym en in
      let head : PutWords (row_of 43 (pos (base + k + 1)) (base + k + 2) (base + (k + 2 + 1 + sy)) 0 next ++ emit_expression (atom_tree a) (base + k + 1)) 2 _ _ =
      record { table = t2; size = omega (arith, length-expression (atom_tree a) (base + k + 1), atom-rows a) } in
      let put-yes : PutWords (emit_statement (block Y) (base + (k + 2)) 0) (1 + sy) _ _ = record { table = t3; size = length-statement (block Y) (base + (k + 2)) 0 ∙ omega (arith, size-yes) } in
      let put-no : PutWords (emit_statement (block N) (base + (k + 2 + 1 + sy)) 0) (1 + sn) _ _ = record { table = t4; size = length-statement (block N) (base + (k + 2 + 1 + sy)) 0 ∙ omega (arith, size-no) } in
      let put = put-behind (k + 2 + 1 + sy + 1 + sn) (omega arith) (put-behind (k + 2 + 1 + sy) (omega arith) (put-behind (k + 2) refl (wrote-put test-written) head) put-yes) put-no in
      let A = emit_items true (expression_code (called_in rows) S e wanted 0) base in
      let words : ℕ → ℕ → List ℤ = λ first other.
      ((A ++ (row_of 43 (pos (base + k + 1)) (base + k + 2) other 0 next ++ emit_expression (atom_tree a) (base + k + 1))) ++ emit_statement (block Y) first 0) ++ emit_statement (block N) other 0 in
      let at-yes : base + (k + 2) ≡ base + k + 2 = omega arith in
      let at-no : base + (k + 2 + 1 + sy) ≡ base + k + (2 + (1 + sy)) = omega arith in
      let at_end : base + (k + 2 + 1 + sy + 1 + sn) ≡ base + k + (2 + (1 + sy) + (1 + sn)) = omega arith in
      reworded _ put (
      ap₂ words at-yes at-no
      ∙ append-four A (row_of 43 (pos (base + k + 1)) (base + k + 2) (base + k + (2 + (1 + sy))) 0 next ++ emit_expression (atom_tree a) (base + k + 1)) (emit_statement (block Y) (base + k + 2) 0) (emit_statement (block N) (base + k + (2 + (1 + sy))) 0)
      ∙ ap (λ (ws : List ℤ). A ++ ws)
      (choice-words follows (atom_tree a) (block Y) (block N) (base + k) (1 + sy) (1 + sn) next (atom-rows a) (omega (arith, size-yes)) (omega (arith, size-no)) (enext ∙ ap (λ (b : ℕ). pick follows b 0) at_end))
      ∙ ap (λ (n : ℕ). A ++ emit_items follows (choosing S (atom_tree a) Y N none) (base + n)) (sym test-written.size)
      ∙ sym (emit-append follows (expression_code (called_in rows) S e wanted 0) (choosing S (atom_tree a) Y N none) base)
      )
      ∙ ap₂ (λ (b : Expression) (c : ℕ). over (emit_items follows (expression_code (called_in rows) S e wanted 0 ⧺ choosing S b Y (body_code S rows on_false x (number + c)) none) base) l) at.is ec
      ∙ ap (λ (xs : Items). over (emit_items follows xs base) l) (sym (if-code on_false e (statement_at rows (suc on_true)) x number))

  -- ---- switches

  -- A switch: its selector, the tests, the jump, the items, the label behind it.
  pub switch-done : (selector : ℕ) (is : Items) (x : Exits) (number base : ℕ) (follows : Bool) (l : List ℤ) {k count size level target : ℕ} {a : KernelAtom} {l1 l2 l3 l4 l5 : List ℤ}
      → 0 < selector → AtomAt S rows selector 0 a → k ≡ operand_size (called_in rows) (part_at rows selector) wanted → count ≡ cases is → size ≡ items_size (called_in rows) is → level ≡ taken (atom_of (called_in rows) (expression_at rows selector))
      → target ≡ label_of default is (number + 1) number
      → l1 ≡ over (emit_items true (operand_code (called_in rows) S (part_at rows selector) wanted 0) base) l
      → l2 ≡ over (emit_items true (case_tests S (atom_tree a) level is (number + 1)) (base + k)) (part k l1)
      → l3 ≡ over (emit_items true (goto target then none) (base + (k + 11 * count))) (part (k + 11 * count) (back_in k l1 l2))
      → l4 ≡ over (emit_items true (items_code (called_in rows) S is (exits number x.on_continue) (number + 1)) (base + (k + 11 * count + 1))) (part (k + 11 * count + 1) (back_in (k + 11 * count) (back_in k l1 l2) l3))
      → l5 ≡ over (emit_items follows (label number here none) (base + (k + 11 * count + 1 + size))) (part (k + 11 * count + 1 + size) (back_in (k + 11 * count + 1) (back_in (k + 11 * count) (back_in k l1 l2) l3) l4))
      → back_in (k + 11 * count + 1 + size) (back_in (k + 11 * count + 1) (back_in (k + 11 * count) (back_in k l1 l2) l3) l4) l5
      ≡ over (emit_items follows (statement_code (called_in rows) S (switch (expression_at rows selector) is) x number) base) l
  unfolding statement_code items_rows ◌⧺◌
  switch-done zero is x number base follows l some at ek ec es el et t1 t2 t3 t4 t5 = absurd (omega arith)
  switch-done (suc selector) is x number base follows l {k} {count} {size} {level} {target} {a} {l1} some at ek ec es el et t1 t2 t3 t4 t5 =
      let e = expression_at rows (suc selector) in
      let E = expression_code (called_in rows) S e wanted 0 in
      let T = case_tests S (atom S 0 (atom_of (called_in rows) e)) (taken (atom_of (called_in rows) e)) is (number + 1) in
      let I = items_code (called_in rows) S is (exits number x.on_continue) (number + 1) in
      let L = label number here none in
      let table2 = t2 ∙ ap₂ (λ (b : Expression) (u : ℕ). over (emit_items true (case_tests S b u is (number + 1)) (base + k)) (part k l1)) at.is el in
      let w1 : Wrote true E base k l _ = record { table = t1; size = rows-expression (called_in rows) S e wanted 0 ∙ sym ek } in
      let w2 : Wrote true T (base + k) (11 * count) _ _ = record { table = table2; size = rows-cases (called_in rows) S 0 (taken (atom_of (called_in rows) e)) (atom_of (called_in rows) e) is (number + 1) ∙ ap (λ (n : ℕ). 11 * n) (sym ec) } in
      let w3 : Wrote true (goto target then none) _ 1 _ _ = record { table = t3; size = refl } in
      let w4 : Wrote true I _ size _ _ = record { table = t4; size = rows-items (called_in rows) S is (exits number x.on_continue) (number + 1) ∙ sym es } in
      let w5 : Wrote follows L _ 1 _ _ = record { table = t5; size = refl } in
      let a2 = wrote-behind (k + 11 * count) refl (sym (more-true T)) refl w1 w2 in
      let a3 = wrote-behind (k + 11 * count + 1) refl refl refl a2 w3 in
      let a4 = wrote-behind (k + 11 * count + 1 + size) refl (sym (more-true I)) refl a3 w4 in
      let a5 = wrote-behind (k + 11 * count + 1 + size + 1) refl refl refl a4 w5 in
      a5.table
      ∙ ap (λ (xs : Items). over (emit_items follows xs base) l) (append-append ((E ⧺ T) ⧺ (goto target then none)) I L ∙ append-append (E ⧺ T) (goto target then none) (I ⧺ L) ∙ append-append E T (goto target then (I ⧺ L)))
      ∙ ap (λ (n : ℕ). over (emit_items follows (E ⧺ T ⧺ goto n then I ⧺ L) base) l) et

-- ---- what a statement at a row is

-- What is written of a line is written of the statement.
pub line-done : (S : ℕ) (x : Exits) (number base : ℕ) (follows : Bool) (l : List ℤ) {rows : List ℤ} {row : ℕ} {line : StatementShape} {m : List ℤ} → StatementAt rows row line
    → m ≡ over (emit_items follows (statement_code (called_in rows) S (statement_tree rows line) x number) base) l → m ≡ over (emit_items follows (statement_code (called_in rows) S (statement_at rows row) x number) base) l
line-done S x number base follows l {rows} line e = e ∙ sym (ap (λ (s : Statement). over (emit_items follows (statement_code (called_in rows) S s x number) base) l) line.is)

pub if-size : (rows : List ℤ) (on_false : ℕ) (e : Expression) (s : Statement) → statement_size (called_in rows) (if_of on_false e s (statement_at rows on_false)) ≡ 4 + expression_size (called_in rows) e wanted + statement_size (called_in rows) s + body_size rows on_false
unfolding statement_size
if-size rows zero e s = omega arith
if-size rows (suc on_false) e s = refl

pub if-labels : (rows : List ℤ) (on_false : ℕ) (e : Expression) (s : Statement) → labels (if_of on_false e s (statement_at rows on_false)) ≡ labels s + body_labels rows on_false
unfolding labels
if-labels rows zero e s = omega arith
if-labels rows (suc on_false) e s = refl

-- ---- the three loops are one

abbrev pub while_loop : ℕ → ℕ → Loop
while_loop e body = record { first = 0; before = e; body = body; action = 0; after = 0 }

abbrev pub do_loop : ℕ → ℕ → Loop
do_loop body e = record { first = 0; before = 0; body = body; action = 0; after = e }

abbrev pub for_loop : ℕ → ℕ → ℕ → ℕ → Loop
for_loop first test action body = record { first = first; before = test; body = body; action = action; after = 0 }

module _ (rows : List ℤ) where
  pub while-size : (e body : ℕ) → 0 < e → loop_size rows (while_loop e body) ≡ statement_size (called_in rows) (while (expression_at rows e) (statement_at rows body))
  unfolding statement_size
  while-size zero body some = absurd (omega arith)
  while-size (suc e) body some = omega arith

  pub do-size : (body e : ℕ) → 0 < e → loop_size rows (do_loop body e) ≡ statement_size (called_in rows) (do_while (statement_at rows body) (expression_at rows e))
  unfolding statement_size
  do-size body zero some = absurd (omega arith)
  do-size body (suc e) some = omega arith

  pub for-size : (first test action body : ℕ)
      → loop_size rows (for_loop first test action body) ≡ statement_size (called_in rows) (for (part_at rows first) (part_at rows test) (part_at rows action) (statement_at rows body))
  unfolding statement_size
  for-size first test action body = omega arith

  module _ (S : ℕ) where
    test-code : (p : Part) (number : ℕ) (rest : Items) → test_code (called_in rows) S p number none ⧺ rest ≡ test_code (called_in rows) S p number rest
    unfolding ◌⧺◌
    test-code absent number rest = refl
    test-code (present e) number rest = append-append (expression_code (called_in rows) S e wanted 0) (choosing S (atom S 0 (atom_of (called_in rows) e)) none (goto number then none) none) rest

    pub while-code : (e body : ℕ) (x : Exits) (number : ℕ) → 0 < e → whole_loop S rows (while_loop e body) number ≡ statement_code (called_in rows) S (while (expression_at rows e) (statement_at rows body)) x number
    unfolding statement_code ◌⧺◌
    while-code zero body x number some = absurd (omega arith)
    while-code (suc e) body x number some =
        ap (λ (xs : Items). loop_code S xs number) (test-code (present (expression_at rows (suc e))) number (statement_code (called_in rows) S (statement_at rows body) (exits number (number + 1)) (number + 2) ⧺ label (number + 1) here none))

    pub do-code : (body e : ℕ) (x : Exits) (number : ℕ) → 0 < e → whole_loop S rows (do_loop body e) number ≡ statement_code (called_in rows) S (do_while (statement_at rows body) (expression_at rows e)) x number
    unfolding statement_code ◌⧺◌
    do-code body zero x number some = absurd (omega arith)
    do-code body (suc e) x number some = refl

    pub for-code : (first test action body : ℕ) (x : Exits) (number : ℕ)
        → whole_loop S rows (for_loop first test action body) number ≡ statement_code (called_in rows) S (for (part_at rows first) (part_at rows test) (part_at rows action) (statement_at rows body)) x number
    unfolding statement_code ◌⧺◌
    for-code first test action body x number =
        let B = statement_code (called_in rows) S (statement_at rows body) (exits number (number + 1)) (number + 2) in
        let step = append-none (part_code (called_in rows) S (part_at rows action)) in
        ap (λ (r : Items). part_code (called_in rows) S (part_at rows first) ⧺ loop_code S r number)
        (test-code (part_at rows test) number (B ⧺ label (number + 1) here (part_code (called_in rows) S (part_at rows action) ⧺ none))
        ∙ ap (λ (a : Items). test_code (called_in rows) S (part_at rows test) number (B ⧺ label (number + 1) here a)) step)
