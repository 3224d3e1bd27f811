-- Laws of an expression's code: its parts, and their rows.
use Rattle.std.specs.Prelude.{◌≡◌, Bool, false, List, ◌++◌, ℕ, zero, suc, ◌+◌, ◌*◌, ◌<◌, eqb, ℤ, pos}
use Rattle.std.proofs.Math.Path.{refl, ap}
use Rattle.std.proofs.Common.{sym, ap₂, ◌∙◌, append_assoc, arith, eqb-true}
use Rattle.words.specs.Word.{pick}
use Rattle.words.specs.Laws.{by_cases}
use Rattle.language.specs.Trees.{Expression, constant, read, minus, not, binary, and, or, comma, conditional, assign, compound, prefix, postfix, call, variable, element, Part, absent, present, block, Items, none, ◌⧺◌}
use Rattle.language.specs.Sizes.{expression_rows, statement_rows, items_rows}
use Rattle.language.specs.TreeLaws.{append-none, append-append}
use Rattle.language.specs.Decode.{expression_at, part_at}
use Rattle.language.specs.DecodeLaws.{part-some}
use Rattle.language.specs.Writes.{writes, index_writes}
use Rattle.translation.specs.Uses.{passed_on, direct}
use Rattle.translation.specs.declared.Use.{Use}
use Rattle.translation.specs.declared.Use.TheVariants.{Dropped as dropped, Wanted as wanted}
use Rattle.translation.specs.Translate.{Atom as Held, number, word, top, landed, atom_of, move_code, expression_code, operand_code}
use Rattle.translation.specs.Holding.{hold_code, hold_by}
use Rattle.translation.proofs.HeldCode.{held-variable, hold-by}
use Rattle.translation.specs.TranslateSize.{expression_size, operand_size}
use Rattle.translation.proofs.TranslateRows.{rows_append, rows-expression}
use Rattle.language_emission.specs.Emission.{row_of, emit_statement, emit_items}
use Rattle.language_emission.specs.EmissionLaws.{emit-append}
use Rattle.measures_table.specs.Parts.{called_in, first_operand, second_operand, above_first, first_copied, first_use, second_use}
use Rattle.measures_table.specs.MeasureLaws.{size-parts, first-copied-most, own-copies}
use Rattle.writers_rows.specs.Room.{more_rows}
use Rattle.writers_rows.specs.Straight.{last_size}
use Rattle.writers_rows.specs.Chain.{more_is, block_words}
use Rattle.writers_steps.specs.AtomLaws.{rows-hold}
use Rattle.writers_rows.specs.declared.KernelAtom.{KernelAtom}
use Rattle.writers_rows.specs.declared.KernelAtom.TheVariants.{Constant, Variable}
use Rattle.writers_expressions.specs.Code.{wait_code, last_code, finish_code, branch_code}
use Rattle.writers_expressions.specs.Asks.{finish_size, branch_size}
use Rattle.writers_expressions.specs.declared.End.{End}
use Rattle.writers_expressions.specs.declared.End.TheVariants.{Truth, Copy, Stays}
use Rattle.writers_expressions.specs.declared.Branch.{Branch}

-- What holds an operand's value; where there is none, this is not asked.
abbrev pub part_atom : (ℕ → ℕ → Bool) → Part → Held
part_atom called absent = top
part_atom called (present e) = atom_of called e

-- an expression that copies the value of its first operand has one
first_some : (called : ℕ → ℕ → Bool) (e : Expression) → first_copied called e ≡ 1 → absent ≡ first_operand called e → ⊥
first_some called (constant v) h n = omega arith
first_some called (read p) h n = omega arith
first_some called (minus e) h n = omega arith
first_some called (not e) h n = omega arith
first_some called (binary operator a b) h n = let z : ◌≡◌ {A = ℕ} 0 1 = cc in omega arith
first_some called (and a b) h n = omega arith
first_some called (or a b) h n = omega arith
first_some called (comma a b) h n = omega arith
first_some called (conditional c a b) h n = omega arith
first_some called (assign p e) h n = let z : ◌≡◌ {A = ℕ} 0 1 = cc in omega arith
first_some called (compound operator p e) h n = let z : ◌≡◌ {A = ℕ} 0 1 = cc in omega arith
first_some called (prefix operator p) h n = omega arith
first_some called (postfix operator p) h n = omega arith
first_some called (call f arguments) h n = omega arith

pub waits-some : (called : ℕ → ℕ → Bool) (e : Expression) (rows : List ℤ) (link : ℕ) → first_copied called e ≡ 1 → part_at rows link ≡ first_operand called e → 0 < link
waits-some called e rows zero h p = absurd (first_some called e h p)
waits-some called e rows (suc link) h p = omega arith

module _ (called : ℕ → ℕ → Bool) (S : ℕ) where
  plus_none : (p : Part) (u : Use) (t : ℕ) → operand_code called S p u (t + 0) ≡ operand_code called S p u t
  plus_none p u t = let z : t + 0 ≡ t = omega arith in ap (operand_code called S p u) z

  -- the operands' code, with the copy of the first one's value between them, and then what is done with their values
  code-four : (e : Expression) (u : Use) (t : ℕ)
      → operand_code called S (first_operand called e) (first_use e) t ⧺ (wait_code called S e t ⧺ (operand_code called S (second_operand called e) (second_use e u) (t + above_first called e) ⧺ last_code called S e u t)) ≡ expression_code called S e u t
  unfolding expression_code ◌⧺◌
  code-four (constant v) u t = refl
  code-four (read (variable i)) u t = refl
  code-four (read (element array e)) u t = refl
  code-four (minus e) u t = refl
  code-four (not e) u t = refl
  code-four (binary operator a b) u t = refl
  code-four (and a b) u t = refl
  code-four (or a b) u t = refl
  code-four (comma a b) u t = ap (λ (x : Items). expression_code called S a dropped t ⧺ x) (append-none (operand_code called S (present b) (passed_on u) (t + 0)) ∙ plus_none (present b) (passed_on u) t)
  code-four (conditional c a b) u t = refl
  code-four (assign (variable i) e) u t = refl
  code-four (assign (element array i) e) u t = refl
  code-four (compound operator (variable i) e) u t = refl
  code-four (compound operator (element array i) e) u t = refl
  code-four (prefix operator (variable i)) u t = refl
  code-four (prefix operator (element array i)) u t = refl
  code-four (postfix operator (variable i)) u t = refl
  code-four (postfix operator (element array i)) u t = refl
  code-four (call f arguments) u t = refl

  pub code-parts : (e : Expression) (u : Use) (t : ℕ)
      → ((operand_code called S (first_operand called e) (first_use e) t ⧺ wait_code called S e t) ⧺ operand_code called S (second_operand called e) (second_use e u) (t + above_first called e)) ⧺ last_code called S e u t ≡ expression_code called S e u t
  code-parts e u t = append-append _ _ _ ∙ append-append _ _ _ ∙ code-four e u t

  pub rows-operand : (p : Part) (u : Use) (t : ℕ) → items_rows (operand_code called S p u t) ≡ operand_size called p u
  unfolding items_rows
  rows-operand absent u t = refl
  rows-operand (present e) u t = rows-expression called S e u t

  -- a variable has no index, so that nothing waits for it
  hold-variable : (t i : ℕ) (h : Held) → hold_code S t h (index_writes called (variable i)) ≡ none
  hold-variable t i h = ap (move_code S t h) (held-variable called h i) ∙ moved h
    where
      moved : (h : Held) → move_code S t h h ≡ none
      moved (number v) = refl
      moved (word j) = refl
      moved top = refl

  -- the copy, by whether there is one
  pub wait-hold : (e : Expression) (t : ℕ) → wait_code called S e t ≡ hold_by S t (first_copied called e) (part_atom called (first_operand called e))
  wait-hold (constant v) t = refl
  wait-hold (read p) t = refl
  wait-hold (minus e) t = refl
  wait-hold (not e) t = refl
  wait-hold (binary operator a b) t = hold-by S t (atom_of called b) (writes called a)
  wait-hold (and a b) t = refl
  wait-hold (or a b) t = refl
  wait-hold (comma a b) t = refl
  wait-hold (conditional c a b) t = refl
  wait-hold (assign (variable i) e) t = hold-variable t i (landed (variable i) (direct e) (atom_of called e)) ∙ sym (hold-variable t i (atom_of called e)) ∙ hold-by S t (atom_of called e) (index_writes called (variable i))
  wait-hold (assign (element array i) e) t = hold-by S t (atom_of called e) (index_writes called (element array i))
  wait-hold (compound operator p e) t = hold-by S t (atom_of called e) (index_writes called p)
  wait-hold (prefix operator p) t = refl
  wait-hold (postfix operator p) t = refl
  wait-hold (call f arguments) t = refl

  -- the operand at a link
  pub hold-part : (t : ℕ) (rows : List ℤ) (link : ℕ) (p : Part) (k : ℕ) → part_at rows link ≡ p → (k ≡ 1 → 0 < link) → hold_by S t k (atom_of called (expression_at rows link)) ≡ hold_by S t k (part_atom called p)
  hold-part t rows link p k e some =
      by_cases (eqb k 1) (λ b. ap (λ (q : Part). hold_by S t k (part_atom called q)) (sym (part-some rows link (some (eqb-true k 1 b))) ∙ e)) (λ b. rw b)

  -- the rows behind the first two operands and the copy
  pub rows_last : (e : Expression) (u : Use) (t : ℕ) → items_rows (last_code called S e u t) ≡ last_size called e u
  rows_last e u t =
      let first = operand_code called S (first_operand called e) (first_use e) t in
      let above = operand_code called S (second_operand called e) (second_use e u) (t + above_first called e) in
      let whole : items_rows (first ⧺ (wait_code called S e t ⧺ (above ⧺ last_code called S e u t))) ≡ expression_size called e u = ap items_rows (code-four e u t) ∙ rows-expression called S e u t in
      let outer = rows_append first (wait_code called S e t ⧺ (above ⧺ last_code called S e u t)) in
      let middle = rows_append (wait_code called S e t) (above ⧺ last_code called S e u t) in
      let inner = rows_append above (last_code called S e u t) in
      let copy : items_rows (wait_code called S e t) ≡ 4 * first_copied called e = ap items_rows (wait-hold e t) ∙ rows-hold S t (first_copied called e) (part_atom called (first_operand called e)) (first-copied-most called e) in
      omega (arith, size-parts called e u, own-copies called e u, rows-operand (first_operand called e) (first_use e) t, rows-operand (second_operand called e) (second_use e u) (t + above_first called e))

module _ (S : ℕ) where
  -- a branch
  pub rows-finish : (end : End) (x : KernelAtom) (t : ℕ) → items_rows (finish_code S end x t) ≡ finish_size end
  unfolding items_rows expression_rows
  rows-finish Truth (Constant v) t = refl
  rows-finish Truth (Variable n) t = refl
  rows-finish Copy (Constant v) t = refl
  rows-finish Copy (Variable n) t = refl
  rows-finish Stays x t = refl

  pub rows-branch : (rows : List ℤ) (branch : Branch) (t : ℕ) → statement_rows (block (branch_code S rows branch t)) ≡ branch_size rows branch
  unfolding statement_rows
  rows-branch rows branch t =
      omega (arith, rows_append (operand_code (called_in rows) S (part_at rows branch.row) wanted t) (finish_code S branch.end branch.atom t), rows-operand (called_in rows) S (part_at rows branch.row) wanted t, rows-finish branch.end branch.atom t)

-- the words of a block of two lists
pub branch-words : (xs ys : Items) (base k end first : ℕ) (more : Bool) → items_rows xs ≡ k → items_rows ys ≡ end → first ≡ pick (more_rows false (k + end)) (base + 1) 0 → more ≡ more_rows false end
    → (row_of 42 (pos first) 0 0 0 0 ++ emit_items more xs (base + 1)) ++ emit_items false ys (base + (1 + k)) ≡ emit_statement (block (xs ⧺ ys)) base 0
branch-words xs ys base k end first more ex ey ef em =
    let at : base + 1 + items_rows xs ≡ base + (1 + k) = omega arith in
    let both : emit_items more xs (base + 1) ++ emit_items false ys (base + (1 + k)) ≡ emit_items false (xs ⧺ ys) (base + 1) =
    ap₂ (λ (f : Bool) (b : ℕ). emit_items f xs (base + 1) ++ emit_items false ys b) (em ∙ ap (more_rows false) (sym ey) ∙ sym (more_is false ys)) (sym at) ∙ sym (emit-append false xs ys (base + 1)) in
    append_assoc (row_of 42 (pos first) 0 0 0 0) (emit_items more xs (base + 1)) (emit_items false ys (base + (1 + k)))
    ∙ ap₂ (λ (n : ℕ) (l : List ℤ). row_of 42 (pos n) 0 0 0 0 ++ l) ef both
    ∙ block_words (xs ⧺ ys) base (k + end) (rows_append xs ys ∙ ap₂ ◌+◌ ex ey)
