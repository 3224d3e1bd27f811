-- The parts of an if with two branches in the table: the rows of the if and of its test, the branch taken where the test is true, the other
-- one. A record for each place between them has what is known there; the laws below it are what the next part asks, and at last that the
-- three are the if.
use mathlib.Core.Path.{◌≡◌, sym, ◌∙◌}
use mathlib.Core.Bool.{Bool}
use mathlib.Core.List.{List, ◌++◌}
use Prim.Native.Nat.{ℕ, ◌+◌, ◌≤◌}
use native.Mathlib.Omega.{arith}
use lib.IntN.{ℤ, pos}
use lib.ListN.{length}
use Rattle.words.specs.Word.{pick}
use Rattle.words.specs.Over.{over}
use Rattle.language.specs.Trees.{block}
use Rattle.language_emission.specs.Emission.{row_of, emit_expression, emit_statement, emit_items}
use Rattle.language_emission.specs.EmissionLaws.{length-expression, length-statement}
use Rattle.writers_rows.specs.Room.{Room}
use Rattle.writers_rows.specs.Atoms.{atom_tree, AtomFits}
use Rattle.writers_steps.specs.AtomLaws.{atom-rows}
use Rattle.writers_steps.specs.Asks.{Writing}
use Rattle.writers_rows.specs.Chain.{part, back_in, PutWords, put_next, reworded, Reach, put-length, put-reach, put-room, choice-words}
use Rattle.writers_rows.specs.declared.KernelAtom.{KernelAtom}
use Rattle.writers_expressions.specs.Code.{branch_code, choice_code}
use Rattle.writers_expressions.specs.Asks.{branch_size, BranchFits}
use Rattle.writers_expressions.specs.CodeLaws.{rows-branch}
use Rattle.writers_expressions.specs.declared.Branch.{Branch}

-- The rows of an if and of its test.
abbrev pub if_words : KernelAtom → ℕ → ℕ → ℕ → List ℤ
if_words test base second next = row_of 43 (pos (base + 1)) (base + 2) second 0 next ++ emit_expression (atom_tree test) (base + 1)

-- A branch as a block that nothing follows.
abbrev pub branch_words : ℕ → List ℤ → Branch → ℕ → ℕ → List ℤ
branch_words S rows branch level base = emit_statement (block (branch_code S rows branch level)) base 0

if-put : (test : KernelAtom) (base second next : ℕ) (out headed : List ℤ) → headed ≡ over (if_words test base second next) out → PutWords (if_words test base second next) 2 out headed
if-put test base second next out headed e = record { table = e; size = omega (arith, length-expression (atom_tree test) (base + 1), atom-rows test) }

branch-put : (S : ℕ) (rows : List ℤ) (branch : Branch) (level base size : ℕ) (l m : List ℤ) → size ≡ branch_size rows branch → m ≡ over (branch_words S rows branch level base) l
    → PutWords (branch_words S rows branch level base) size l m
branch-put S rows branch level base size l m s e = record {
  table = e;
  size = omega (arith, length-statement (block (branch_code S rows branch level)) base 0, rows-branch S rows branch level);
}

-- ---- what the caller promised

pub record ChoiceAsked (S : ℕ) (rows : List ℤ) (table : List ℕ) (test : KernelAtom) (on_true on_false : Branch) (level base : ℕ) (out : List ℤ) : Type 0 where
  pub writing : Writing rows table S
  pub test_fits : AtomFits test
  pub true_fits : BranchFits rows on_true level
  pub false_fits : BranchFits rows on_false level
  pub room : Room (2 + branch_size rows on_true + branch_size rows on_false) base (length out)

pub choice-asked : {S : ℕ} {rows : List ℤ} {table : List ℕ} (test : KernelAtom) {on_true on_false : Branch} {level base : ℕ} (out : List ℤ) → Writing rows table S × AtomFits test × BranchFits rows on_true level × BranchFits rows on_false level
    → Room (2 + branch_size rows on_true + branch_size rows on_false) base (length out) → ChoiceAsked S rows table test on_true on_false level base out
choice-asked test out fits room = record { writing = fits.0; test_fits = fits.1; true_fits = fits.2; false_fits = fits.3; room = room }

module _ {S : ℕ} {rows : List ℤ} {table : List ℕ} {test : KernelAtom} {on_true on_false : Branch} {level base : ℕ} {out : List ℤ}
    (asked : ChoiceAsked S rows table test on_true on_false level base out) where
  pub true-small : branch_size rows on_true ≤ 40978
  true-small = omega (arith, asked.room.low)

  pub false-small : branch_size rows on_false ≤ 40978
  false-small = omega (arith, asked.room.low)

  -- ---- the sizes are known

  pub record ChoiceSizes (trueRows falseRows : ℕ) : Type 0 where
    pub true-is : trueRows ≡ branch_size rows on_true
    pub false-is : falseRows ≡ branch_size rows on_false

  pub choice-sizes : {trueRows falseRows : ℕ} → trueRows ≡ branch_size rows on_true → falseRows ≡ branch_size rows on_false → ChoiceSizes trueRows falseRows
  choice-sizes true_rows false_rows = record { true-is = true_rows; false-is = false_rows }

module _ {S : ℕ} {rows : List ℤ} {table : List ℕ} {test : KernelAtom} {on_true on_false : Branch} {level base : ℕ} {out : List ℤ}
    {asked : ChoiceAsked S rows table test on_true on_false level base out} {trueRows falseRows : ℕ} (sizes : ChoiceSizes asked trueRows falseRows) where
  pub choice-room : Room (2 + trueRows + falseRows) base (length out)
  choice-room = record {
    inside = omega (arith, sizes.true-is, sizes.false-is, asked.room.inside);
    low = omega (arith, sizes.true-is, sizes.false-is, asked.room.low);
  }

  -- ---- the rows of the if and of its test are written

  pub record IfRows (follows : Bool) (next : ℕ) (headed : List ℤ) : Type 0 where
    pub next_is : next ≡ pick follows (base + (2 + trueRows + falseRows)) 0
    pub table_is : headed ≡ over (if_words test base (base + (2 + trueRows)) next) out

  pub if-rows : (follows : Bool) {next : ℕ} {headed : List ℤ} → next ≡ pick follows (base + (2 + trueRows + falseRows)) 0 → headed ≡ over (if_words test base (base + (2 + trueRows)) next) out → IfRows follows next headed
  if-rows follows next e = record { next_is = next; table_is = e }

module _ {S : ℕ} {rows : List ℤ} {table : List ℕ} {test : KernelAtom} {on_true on_false : Branch} {level base : ℕ} {out : List ℤ}
    {asked : ChoiceAsked S rows table test on_true on_false level base out} {trueRows falseRows : ℕ} {sizes : ChoiceSizes asked trueRows falseRows}
    {follows : Bool} {next : ℕ} {headed : List ℤ} (head : IfRows sizes follows next headed) where
  head-put : PutWords (if_words test base (base + (2 + trueRows)) next) 2 out headed
  head-put = if-put test base (base + (2 + trueRows)) next out headed head.table_is

  pub if-reach : Reach 2 base headed
  if-reach = put-reach 0 head-put asked.room (omega arith)

  pub true-room : Room (branch_size rows on_true) (base + 2) (length (part 2 headed))
  true-room = put-room _ head-put asked.room (omega arith)

  -- ---- the first branch is written: `first` is the part behind the test

  pub record TrueBranch (first : List ℤ) : Type 0 where
    pub table_is : first ≡ over (branch_words S rows on_true level (base + 2)) (part 2 headed)

  pub true-branch : {first : List ℤ} → first ≡ over (branch_words S rows on_true level (base + 2)) (part 2 headed) → TrueBranch first
  true-branch e = record { table_is = e }

module _ {S : ℕ} {rows : List ℤ} {table : List ℕ} {test : KernelAtom} {on_true on_false : Branch} {level base : ℕ} {out : List ℤ}
    {asked : ChoiceAsked S rows table test on_true on_false level base out} {trueRows falseRows : ℕ} {sizes : ChoiceSizes asked trueRows falseRows}
    {follows : Bool} {next : ℕ} {headed : List ℤ} {head : IfRows sizes follows next headed} {first : List ℤ} (written : TrueBranch head first) where
  true-put : PutWords (if_words test base (base + (2 + trueRows)) next ++ branch_words S rows on_true level (base + 2)) (2 + trueRows) out (back_in 2 headed first)
  true-put = put_next (head-put head) (branch-put S rows on_true level (base + 2) trueRows (part 2 headed) first sizes.true-is written.table_is)

  pub true-reach : Reach (2 + trueRows) base (back_in 2 headed first)
  true-reach = put-reach 0 true-put asked.room (omega (arith, sizes.true-is))

  pub false-room : Room (branch_size rows on_false) (base + (2 + trueRows)) (length (part (2 + trueRows) (back_in 2 headed first)))
  false-room = put-room _ true-put asked.room (omega (arith, sizes.true-is))

  -- ---- the second branch is written: `second` is the part behind the first

  module _ (second : List ℤ)
      (second-table : second ≡ over (branch_words S rows on_false level (base + (2 + trueRows))) (part (2 + trueRows) (back_in 2 headed first))) where
    false-put : PutWords ((if_words test base (base + (2 + trueRows)) next ++ branch_words S rows on_true level (base + 2)) ++ branch_words S rows on_false level (base + (2 + trueRows)))
        (2 + trueRows + falseRows) out (back_in (2 + trueRows) (back_in 2 headed first) second)
    false-put =
        put_next true-put
        (branch-put S rows on_false level (base + (2 + trueRows)) falseRows (part (2 + trueRows) (back_in 2 headed first)) second sizes.false-is second-table)

    pub choice-length : length (back_in (2 + trueRows) (back_in 2 headed first) second) ≡ length out
    choice-length = put-length false-put (choice-room sizes).inside

    pub choice-written : back_in (2 + trueRows) (back_in 2 headed first) second ≡ over (emit_items follows (choice_code S rows test on_true on_false level) base) out
    choice-written =
        reworded _ false-put
        (choice-words follows (atom_tree test) (block (branch_code S rows on_true level)) (block (branch_code S rows on_false level)) base trueRows falseRows next
        (atom-rows test) (rows-branch S rows on_true level ∙ sym sizes.true-is) (rows-branch S rows on_false level ∙ sym sizes.false-is) head.next_is)
