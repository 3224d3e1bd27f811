-- Arms: the arms of a guarded form one behind another, as `Progress` says it of lists, and the guarded forms around them.
use Rattle.std.specs.Prelude.{None, Option, Some}
use mathlib.Core.Path.{◌≡◌, refl, sym, ap, ap₂, subst, ◌∙◌}
use mathlib.Core.Bool.{Bool, true, false}
use mathlib.Core.List.{List, ◌++◌, append_assoc}
use Prim.Native.Nat.{ℕ, zero, suc, ◌+◌, ◌*◌, ◌≤◌, ◌<◌}
use native.Mathlib.Omega.{arith}
use lib.IntN.{ℤ, pos}
use lib.ListN.{length, length-append}
use Rattle.words.specs.Table.{row_count, number_at}
use Rattle.words.specs.Over.{over}
use Rattle.language.specs.Trees.{Expression, Statement, empty, block, if_else, goto, guarded_if, guarded_do, abort, label, Arms, no_arm, arm, Items, none, ◌then◌, ◌here◌, ◌⧺◌}
use Rattle.language.specs.Sizes.{expression_rows, statement_rows, items_rows}
use Rattle.language.specs.TreeLaws.{append-append}
use Rattle.language.specs.Decode.{expression_at, part_at, arms_at, arm_list_at}
use Rattle.translation.specs.declared.Use.TheVariants.{Wanted as wanted}
use Rattle.translation.specs.Translate.{atom_of, atom, rounds_labels, labels, arms_labels, choosing, loop_code, operand_code, expression_code, arm_code, Exits, statement_code, arms_code}
use Rattle.translation.specs.TranslateSize.{operand_size, rounds_rows, statement_size, arms_size}
use Rattle.translation.proofs.TranslateRows.{rows_append, rows-expression, rows-statement, rows-arms}
use Rattle.language_emission.specs.Emission.{row_of, emit_expression, emit_statement, emit_items}
use Rattle.language_emission.specs.EmissionLaws.{or_more, emit-append, length-expression, length-items}
use Rattle.language_shapes.specs.Shapes.{arm_tree, OptionalOnward, ArmAt}
use Rattle.language_shapes.specs.Source.{Source}
use Rattle.language_shapes.specs.ShapeLaws.{arm-found}
use Rattle.measures_table.specs.Parts.{called_in}
use Rattle.writers_rows.specs.Atoms.{atom_tree}
use Rattle.writers_steps.specs.AtomLaws.{atom-rows}
use Rattle.writers_steps.specs.Asks.{AtomAt}
use Rattle.writers_rows.specs.declared.KernelAtom.{KernelAtom}
use Rattle.writers_rows.specs.Straight.{loop_head}
use Rattle.writers_rows.specs.Guarded.{arm_head, arm_end, round_over, rounds_end}
use Rattle.writers_rows.specs.Chain.{part, back_in, PutWords, reworded, Wrote, wrote-put, choice-words, block_words}
use Rattle.writers.specs.Items.{first_only}
use Rattle.writers.proofs.Sequence.{put-behind, wrote-behind, append-four, more-append, more-true}
use Rattle.writers.proofs.ListLaws.{Progress, step, above, above-some, above-less, optional-inside, le_of_lt}
use Rattle.writers.proofs.LoopLaws.{loop-words}

-- ---- the first of some arms, and the rest

pub data First : Arms → Arms → Type 0 where
  first : {e : Expression} {s : Statement} {rest : Arms} → First (arm e s rest) rest

tree_first : (rows : List ℤ) (shape : Option (ℕ × ℕ)) (rest : Arms) → 0 < arms_size (called_in rows) (arm_tree rows shape rest) → First (arm_tree rows shape rest) rest
unfolding arms_size
tree_first rows (Some (guard, body)) rest h = first
tree_first rows None rest h = absurd (omega arith)

pub some-arms : (rows : List ℤ) (row : ℕ) → 0 < row → arm_list_at rows row ≡ arms_at rows row
some-arms rows zero h = absurd (omega arith)
some-arms rows (suc row) h = refl

-- Arms that take rows stand at a link that is there.
pub arms-some : (rows : List ℤ) (row : ℕ) → 0 < arms_size (called_in rows) (arm_list_at rows row) → 0 < row
unfolding arms_size
arms-some rows zero h = h
arms-some rows (suc row) h = omega arith

arm_at : (rows : List ℤ) (row : ℕ) → Source rows → row < row_count rows → (shape : Option (ℕ × ℕ)) × ArmAt rows row (number_at rows row 5) shape
arm_at rows row source inside = (_, arm-found source.sound inside)

-- What an arm that a match tells makes of the arms.
pub arm_is : {rows : List ℤ} {row next : ℕ} {shape told : (Option (ℕ × ℕ))} → ArmAt rows row next shape → shape ≡ told → arms_at rows row ≡ arm_tree rows told (arm_list_at rows next)
arm_is {rows} {row} {next} i e = i.is ∙ ap (λ (t : Option (ℕ × ℕ)). arm_tree rows t (arm_list_at rows next)) e

first_of : (rows : List ℤ) (row : ℕ) → Source rows → row < row_count rows → 0 < arms_size (called_in rows) (arm_list_at rows row) → First (arm_list_at rows row) (arm_list_at rows (number_at rows row 5))
first_of rows row source inside some =
    let i = arm_at rows row source inside in
    let rest = arm_list_at rows (number_at rows row 5) in
    let is : arm_list_at rows row ≡ arm_tree rows i.0 rest = some-arms rows row (arms-some rows row some) ∙ i.1.is in
    subst (λ (a : Arms). First a rest) (sym is) (tree_first rows i.0 rest (subst (λ (a : Arms). 0 < arms_size (called_in rows) a) is some))

behind-arm : (rows : List ℤ) (row : ℕ) → Source rows → row < row_count rows → OptionalOnward rows row (number_at rows row 5)
behind-arm rows row source inside = (arm_at rows row source inside).1.behind

first-size : (called : ℕ → ℕ → Bool) {a rest : Arms} → First a rest → arms_size called a ≡ arms_size called (first_only a) + arms_size called rest
unfolding arms_size
first-size called first = omega arith

first-labels : {a rest : Arms} → First a rest → arms_labels a ≡ arms_labels (first_only a) + arms_labels rest
unfolding arms_labels
first-labels first = omega arith

first_some : (called : ℕ → ℕ → Bool) {a rest : Arms} → First a rest → 0 < arms_size called (first_only a)
unfolding arms_size
first_some called first = omega arith

first_code : (called : ℕ → ℕ → Bool) (S : ℕ) {a rest : Arms} → First a rest → (x : Exits) (target l : ℕ) → arms_code called S a x target l ≡ arms_code called S (first_only a) x target l ⧺ arms_code called S rest x target (l + arms_labels (first_only a))
unfolding arms_code arms_labels ◌⧺◌
first_code called S (first {e = e} {s = s} {rest = rest}) x target l =
    let B = statement_code called S s x l in
    let from : l + labels s ≡ l + (labels s + 0) = omega arith in
    first-append S e B target (arms_code called S rest x target (l + labels s)) ∙ ap (λ (n : ℕ). arm_code called S e B target none ⧺ arms_code called S rest x target n) from
  where
    first-append : (S : ℕ) (e : Expression) (body : Items) (target : ℕ) (rest : Items) → arm_code called S e body target rest ≡ arm_code called S e body target none ⧺ rest
    first-append S e body target rest = sym (append-append (expression_code called S e wanted 0) (choosing S (atom S 0 (atom_of called e)) (body ⧺ goto target then none) none none) rest)

-- What an arm takes of the arms from it on, where `next` is the row behind it.
module _ (rows : List ℤ) (row next : ℕ) (source : Source rows) (inside : row < row_count rows) (some : 0 < arms_size (called_in rows) (arm_list_at rows row)) (e : next ≡ number_at rows row 5) where
  pub arms-behind-inside : next < row_count rows
  arms-behind-inside = rw e (optional-inside rows row (number_at rows row 5) inside (behind-arm rows row source inside))

  pub arms-behind-size : arms_size (called_in rows) (arm_list_at rows row) ≡ arms_size (called_in rows) (first_only (arms_at rows row)) + arms_size (called_in rows) (arm_list_at rows next)
  arms-behind-size = rw (e, ← some-arms rows row (arms-some rows row some)) (first-size (called_in rows) (first_of rows row source inside some))

  pub arms-behind-labels : arms_labels (arm_list_at rows row) ≡ arms_labels (first_only (arms_at rows row)) + arms_labels (arm_list_at rows next)
  arms-behind-labels = rw (e, ← some-arms rows row (arms-some rows row some)) (first-labels (first_of rows row source inside some))

  pub behind-less : arms_size (called_in rows) (arm_list_at rows next) < arms_size (called_in rows) (arm_list_at rows row)
  behind-less =
      let own : 0 < arms_size (called_in rows) (first_only (arms_at rows row)) = rw (← some-arms rows row (arms-some rows row some)) (first_some (called_in rows) (first_of rows row source inside some)) in
      omega (arith, arms-behind-size, own)

-- One arm more is passed; `from2` and `n2` are where the next one begins.
module _ (S : ℕ) (x : Exits) (target : ℕ) (rows : List ℤ) (arms label base : ℕ) (out₀ : List ℤ) {out : List ℤ} {row from n : ℕ} (source : Source rows) (some : 0 < arms_size (called_in rows) (arm_list_at rows row)) where
  pub arms_step : Progress (arm_list_at rows) arms_labels true (λ a. arms_code (called_in rows) S a x target) (arms_size (called_in rows)) rows arms label base out₀ out row from n
      → (next from2 n2 : ℕ) (out2 : List ℤ) → next ≡ number_at rows row 5 → label + arms_labels (arm_list_at rows arms) ≡ from2 + arms_labels (arm_list_at rows next) → arms_size (called_in rows) (arm_list_at rows arms) ≡ n2 + arms_size (called_in rows) (arm_list_at rows next)
      → out2 ≡ over (emit_items true (arms_code (called_in rows) S (first_only (arms_at rows row)) x target from) (base + n)) (part n out) → length out2 ≡ length (part n out)
      → Progress (arm_list_at rows) arms_labels true (λ a. arms_code (called_in rows) S a x target) (arms_size (called_in rows)) rows arms label base out₀ (back_in n out out2) next from2 n2
  arms_step p next from2 n2 out2 e el es t h =
      let inside = p.inside in
      let same : arm_list_at rows row ≡ arms_at rows row = some-arms rows row (arms-some rows row some) in
      let size = arms-behind-size rows row next source inside some e in
      let marks = arms-behind-labels rows row next source inside some e in
      let own = first_only (arms_at rows row) in
      let code : arms_code (called_in rows) S (arm_list_at rows row) x target from ≡ arms_code (called_in rows) S own x target from ⧺ arms_code (called_in rows) S (arm_list_at rows next) x target (from + arms_labels own) =
      rw (e, ← same) (first_code (called_in rows) S (first_of rows row source inside some) x target from) in
      let less : above rows next ≤ above rows row =
      rw (e, above-some rows row (arms-some rows row some)) (le_of_lt (above-less rows row (number_at rows row 5) inside (behind-arm rows row source inside))) in
      let at_from : from2 ≡ from + arms_labels own = omega (arith, el, marks, p.labels_are) in
      let at_n : n2 ≡ n + arms_size (called_in rows) own = omega (arith, es, size, p.size_is) in
      rw (at_from, at_n) (
      step (arm_list_at rows) arms_labels true (λ a. arms_code (called_in rows) S a x target) (arms_size (called_in rows)) rows arms label base out₀ p next (arms_labels own) (arms_size (called_in rows) own)
      (arms_code (called_in rows) S own x target from) out2
      (arms-behind-inside rows row next source inside some e) less code marks size
      (record { table = rw (more-true (arms_code (called_in rows) S (arm_list_at rows next) x target (from + arms_labels own))) t; size = rows-arms (called_in rows) S own x target from })
      h
      )

-- No arms are left.
pub no-arms : (called : ℕ → ℕ → Bool) (S : ℕ) (a : Arms) (x : Exits) (target l : ℕ) → arms_size called a ≡ 0 → arms_code called S a x target l ≡ none
unfolding arms_size arms_code
no-arms called S no_arm x target l h = refl
no-arms called S (arm e s a) x target l h = absurd (omega arith)

-- ---- an arm

append-six : (a b c d e f : List ℤ) → ((a ++ (b ++ c)) ++ d) ++ (e ++ f) ≡ ((a ++ b) ++ (c ++ (d ++ e))) ++ f
append-six a b c d e f = simp append_assoc

-- The rows that head an arm, its body's, and those that end it.
arm-words : (x : Expression) (B : Items) (target base n : ℕ) → expression_rows x ≡ 1 → items_rows B ≡ n
    → (arm_head x base n ++ emit_items true B (base + 3)) ++ arm_end target ≡ emit_items true (if_else x (block (B ⧺ goto target then none)) (block none) then none) base
unfolding emit_items emit_statement statement_rows items_rows
arm-words x B target base n one size =
    let Y = B ⧺ goto target then none in
    let rows_are : items_rows Y ≡ suc n = rows_append B (goto target then none) ∙ omega (arith, size) in
    let second : base + 4 + n ≡ base + (2 + (2 + n)) = omega arith in
    let after : base + 5 + n ≡ base + (2 + (2 + n) + 1) = omega arith in
    let three : base + 3 ≡ base + 2 + 1 = omega arith in
    let E = emit_expression x (base + 1) in
    let jump = row_of 52 (pos target) 0 0 0 0 in
    let other = row_of 42 (pos 0) 0 0 0 0 in
    let body : emit_statement (block Y) (base + 2) 0 ≡ row_of 42 (pos (base + 2 + 1)) 0 0 0 0 ++ (emit_items true B (base + 2 + 1) ++ jump) =
    sym (block_words Y (base + 2) (suc n) rows_are) ∙ ap (λ (ws : List ℤ). row_of 42 (pos (base + 2 + 1)) 0 0 0 0 ++ ws) (emit-append false B (goto target then none) (base + 2 + 1)) in
    let words : ℕ → ℕ → ℕ → List ℤ = λ to next from. ((row_of 43 (pos (base + 1)) (base + 2) to 0 next ++ E) ++ (row_of 42 (pos from) 0 0 0 0 ++ (emit_items true B from ++ jump))) ++ other in
    append-six (row_of 43 (pos (base + 1)) (base + 2) (base + 4 + n) 0 (base + 5 + n)) E (row_of 42 (pos (base + 3)) 0 0 0 0) (emit_items true B (base + 3)) jump other
    ∙ ap₂ (λ (to next : ℕ). words to next (base + 3)) second after
    ∙ ap (words (base + (2 + (2 + n))) (base + (2 + (2 + n) + 1))) three
    ∙ ap (λ (ws : List ℤ). ((row_of 43 (pos (base + 1)) (base + 2) (base + (2 + (2 + n))) 0 (base + (2 + (2 + n) + 1)) ++ E) ++ ws) ++ other) (sym body)
    ∙ choice-words true x (block Y) (block none) base (2 + n) 1 (base + (2 + (2 + n) + 1)) one (omega (arith, rows_are)) refl refl

module _ (S : ℕ) (rows : List ℤ) where
  -- An arm: its guard, its head, its body, its end.
  pub arm_done : (guard : ℕ) (s : Statement) (x : Exits) (target number base : ℕ) (l : List ℤ) {k size : ℕ} {a : KernelAtom} {l1 l2 l3 l4 : List ℤ}
      → 0 < guard → AtomAt S rows guard 0 a → k ≡ operand_size (called_in rows) (part_at rows guard) wanted → size ≡ statement_size (called_in rows) s
      → l1 ≡ over (emit_items true (operand_code (called_in rows) S (part_at rows guard) wanted 0) base) l
      → l2 ≡ over (arm_head (atom_tree a) (base + k) size) (part k l1)
      → l3 ≡ over (emit_items true (statement_code (called_in rows) S s x number) (base + (k + 3))) (part (k + 3) (back_in k l1 l2))
      → l4 ≡ over (arm_end target) (part (k + 3 + size) (back_in (k + 3) (back_in k l1 l2) l3))
      → back_in (k + 3 + size) (back_in (k + 3) (back_in k l1 l2) l3) l4 ≡ over (emit_items true (arms_code (called_in rows) S (arm (expression_at rows guard) s no_arm) x target number) base) l
  unfolding arms_code
  arm_done zero s x target number base l some at ek es t1 t2 t3 t4 = absurd (omega arith)
  arm_done (suc guard) s x target number base l {k} {size} {a} some at ek es t1 t2 t3 t4 =
      let e = expression_at rows (suc guard) in
      let E = expression_code (called_in rows) S e wanted 0 in
      let B = statement_code (called_in rows) S s x number in
      let guarded : Wrote true E base k l _ = record { table = t1; size = rows-expression (called_in rows) S e wanted 0 ∙ sym ek } in
      let head : PutWords (arm_head (atom_tree a) (base + k) size) 3 _ _ = record { table = t2; size = head-length a (base + k) size } in
      let body : Wrote true B _ size _ _ = record { table = t3; size = rows-statement (called_in rows) S s x number ∙ sym es } in
      let end : PutWords (arm_end target) 2 _ _ = record { table = t4; size = refl } in
      let put = put-behind (k + 3 + size + 2) refl (put-behind (k + 3 + size) refl (put-behind (k + 3) refl (wrote-put guarded) head) (wrote-put body)) end in
      let A = emit_items true E base in
      let at_body : base + (k + 3) ≡ base + k + 3 = omega arith in
      let chosen : Expression → Items = λ b. choosing S b (B ⧺ goto target then none) none none in
      reworded _ put (
      ap (λ (b : ℕ). ((A ++ arm_head (atom_tree a) (base + k) size) ++ emit_items true B b) ++ arm_end target) at_body
      ∙ append-four A (arm_head (atom_tree a) (base + k) size) (emit_items true B (base + k + 3)) (arm_end target)
      ∙ ap (λ (ws : List ℤ). A ++ ws) (arm-words (atom_tree a) B target (base + k) size (atom-rows a) body.size)
      ∙ ap (λ (n : ℕ). A ++ emit_items true (chosen (atom_tree a)) (base + n)) (sym guarded.size)
      ∙ sym (emit-append true E (chosen (atom_tree a)) base)
      )
      ∙ ap (λ (b : Expression). over (emit_items true (E ⧺ chosen b) base) l) at.is
    where
      head-length : (a : KernelAtom) (base size : ℕ) → length (arm_head (atom_tree a) base size) ≡ 6 * 3
      head-length a base size = length-append (row_of 43 (pos (base + 1)) (base + 2) (base + 4 + size) 0 (base + 5 + size)) (emit_expression (atom_tree a) (base + 1) ++ row_of 42 (pos (base + 3)) 0 0 0 0) ∙ omega (arith, length-append (emit_expression (atom_tree a) (base + 1)) (row_of 42 (pos (base + 3)) 0 0 0 0), length-expression (atom_tree a) (base + 1), atom-rows a)

-- ---- the guarded forms

module _ (called : ℕ → ℕ → Bool) (S : ℕ) where
  -- A guarded if: its arms, and what stands behind them.
  pub choice-done : (a : Arms) (x : Exits) (number base : ℕ) (follows : Bool) (l : List ℤ) {n : ℕ} {l1 l2 : List ℤ} → n ≡ arms_size called a
      → l1 ≡ over (emit_items true (arms_code called S a x number (number + 1)) base) l
      → l2 ≡ over (emit_items follows (abort then label number here none) (base + n)) (part n l1)
      → back_in n l1 l2 ≡ over (emit_items follows (statement_code called S (guarded_if a) x number) base) l
  unfolding statement_code items_rows
  choice-done a x number base follows l {n} en t1 t2 =
      let arms : Wrote true (arms_code called S a x number (number + 1)) base n _ _ = record { table = t1; size = rows-arms called S a x number (number + 1) ∙ sym en } in
      let behind : Wrote follows (abort then label number here none) (base + n) 2 _ _ = record { table = t2; size = refl } in
      (wrote-behind (n + 2) refl refl refl arms behind).table

  rounds-code : (a : Arms) (x : Exits) (number : ℕ) → (arms_size called a ≡ 0 → ⊥) → statement_code called S (guarded_do a) x number ≡ loop_code S (arms_code called S a x (number + 1) (number + 2) ⧺ round_over number) number
  unfolding statement_code arms_size
  rounds-code no_arm x number h = absurd (h refl)
  rounds-code (arm e s a) x number h = refl

  -- A guarded do without arms, and one with arms: the head of a loop, the arms, and what stands behind them.
  pub rounds-none : (a : Arms) (x : Exits) (number base : ℕ) (follows : Bool) (l : List ℤ) {n : ℕ} {m : List ℤ} → n ≡ arms_size called a → n ≡ 0
      → m ≡ over (emit_items follows (empty then none) base) l → m ≡ over (emit_items follows (statement_code called S (guarded_do a) x number) base) l
  unfolding statement_code arms_size
  rounds-none no_arm x number base follows l en z t = t
  rounds-none (arm e s a) x number base follows l en z t = absurd (omega arith)

  pub rounds-done : (a : Arms) (x : Exits) (number base : ℕ) (follows : Bool) (l : List ℤ) {n : ℕ} {l1 l2 l3 : List ℤ} → n ≡ arms_size called a → (n ≡ 0 → ⊥)
      → l1 ≡ over (loop_head base (n + 2)) l
      → l2 ≡ over (emit_items true (arms_code called S a x (number + 1) (number + 2)) (base + 3)) (part 3 l1)
      → l3 ≡ over (rounds_end number (base + (3 + n)) follows) (part (3 + n) (back_in 3 l1 l2))
      → back_in (3 + n) (back_in 3 l1 l2) l3 ≡ over (emit_items follows (statement_code called S (guarded_do a) x number) base) l
  unfolding items_rows
  rounds-done a x number base follows l {n} en some t1 t2 t3 =
      let A = arms_code called S a x (number + 1) (number + 2) in
      let R = A ⧺ round_over number in
      let head : PutWords (loop_head base (n + 2)) 3 _ _ = record { table = t1; size = refl } in
      let arms : Wrote true A (base + 3) n _ _ = record { table = t2; size = rows-arms called S a x (number + 1) (number + 2) ∙ sym en } in
      let end : PutWords (rounds_end number (base + (3 + n)) follows) 3 _ _ = record { table = t3; size = end-length number (base + (3 + n)) follows } in
      let put = put-behind (3 + n + 3) refl (put-behind (3 + n) refl head (wrote-put arms)) end in
      let size : items_rows R ≡ n + 2 = rows_append A (round_over number) ∙ omega (arith, arms.size) in
      let at_end : base + (3 + n) ≡ base + 3 + items_rows A = omega (arith, arms.size) in
      let behind : base + (3 + n) + 2 ≡ base + 3 + (n + 2) = omega arith in
      let more : or_more false R ≡ true = more-append false A (round_over number) ∙ more-true A in
      let H = loop_head base (n + 2) in
      let L : ℕ → List ℤ = λ b. emit_items follows (label number here none) b in
      reworded _ put (
      append-around H (emit_items true A (base + 3)) (emit_items false (round_over number) (base + (3 + n))) (L (base + (3 + n) + 2))
      ∙ ap₂ (λ (b c : ℕ). (H ++ (emit_items true A (base + 3) ++ emit_items false (round_over number) b)) ++ L c) at_end behind
      ∙ ap (λ (ws : List ℤ). (H ++ ws) ++ L (base + 3 + (n + 2))) (sym (emit-append false A (round_over number) (base + 3)))
      ∙ loop-words S R base (n + 2) number follows size more
      )
      ∙ ap (λ (xs : Items). over (emit_items follows xs base) l) (sym (rounds-code a x number (λ z. some (en ∙ z))))
    where
      append-around : (a b c d : List ℤ) → (a ++ b) ++ (c ++ d) ≡ (a ++ (b ++ c)) ++ d
      append-around a b c d = simp append_assoc

      end-length : (number base : ℕ) (follows : Bool) → length (rounds_end number base follows) ≡ 6 * 3
      end-length number base follows = length-append (emit_items false (round_over number) base) (emit_items follows (label number here none) (base + 2)) ∙ omega (arith, length-items false (round_over number) base, length-items follows (label number here none) (base + 2))

-- What a guarded do with arms takes beside them; every one takes a row.
pub rounds-rows : (called : ℕ → ℕ → Bool) (a : Arms) → (arms_size called a ≡ 0 → ⊥) → rounds_rows a ≡ 6
unfolding arms_size
rounds-rows called no_arm h = absurd (h refl)
rounds-rows called (arm e s a) h = refl

pub rounds-labels : (called : ℕ → ℕ → Bool) (a : Arms) → (arms_size called a ≡ 0 → ⊥) → rounds_labels a ≡ 2
unfolding arms_size
rounds-labels called no_arm h = absurd (h refl)
rounds-labels called (arm e s a) h = refl

pub rounds-own : (a : Arms) → 1 ≤ rounds_rows a
rounds-own no_arm = omega arith
rounds-own (arm e s a) = omega arith
