-- Endings: why the run with an answer ended, by the tests that the code makes; and what a run's answer says of the run under the budget.
use Rattle.std.specs.Prelude.{None, Option, Some}
use mathlib.Core.Path.{◌≡◌, refl, sym, ap, ◌∙◌}
use mathlib.Core.Bool.{Bool, true, false}
use mathlib.Core.List.{List}
use Prim.Native.Nat.{ℕ, ◌-◌, ◌^◌, ◌<◌, ◌≤◌}
use native.Mathlib.Omega.{arith}
use lib.IntN.{ℤ, pos, negsuc}
use lib.Signed.{mag}
use mir.Syntax.{w64}
use mir.Val.{to_z, of_z}
use borrow.Author.Tests.{ne_eqb}
use Rattle.words.specs.Word.{same_word, natural, pick}
use Rattle.words.specs.Answers.{fault_numbered}
use Rattle.words.specs.declared.Ending.TheVariants.{Plain, Spent, Fault}
use Rattle.computation.specs.Computation.{Computation}
use Rattle.computation.specs.Run.{spent, fault, Result, ok, stopped, steps, run, start, final}
use Rattle.computation.proofs.RunLaws.{count-never-passes}
use Rattle.computation.specs.Remaining.{Rest, gives, halts, spend}
use Rattle.computation.proofs.RemainingLaws.{told, spend-is-run}
use Rattle.language.specs.Meaning.{Signal}
use Rattle.language.specs.Program.{Finished, finished}
use Rattle.machine_operations.specs.Answers.{beyond, stop_of, is_return, operand_of}
use Rattle.machine_operations.proofs.Decoding.{handed, handed-is}
use Rattle.machine_flows.specs.Flows.{passing_of, flow_rest, ran}
use Rattle.machine.specs.Whole.{ending_of_stop, ending_of_answer}
use Rattle.machine_flows.specs.declared.Flow.{Flow}
use Rattle.machine_flows.specs.declared.Flow.TheVariants.{Next, Break, Continue, Goto, Return, Halted}
use Rattle.machine_flows.proofs.Answers.{flow-stops, flow-passes, flow-returns}

-- an answer that is no word, and not that of a spent run, is a fault's
unspent : (z : ℤ) → (z ≡ pos 2147483648 → ⊥) → stop_of z ≡ fault (fault_numbered (beyond z))
unfolding stop_of beyond
unspent (pos n) p = rw (ne_eqb (n - 2147483647) 1 (λ e. p (ap pos (omega arith))))
unspent (negsuc n) p = refl

module _ (z : ℤ) (fits : mag z < 2 ^ 63) (o : Option ℤ) (e : o ≡ operand_of (handed z)) where
  operand-is : operand_of z ≡ o
  operand-is = ap operand_of (sym (handed-is z fits)) ∙ sym e

  pub ending-plain : (v : ℤ) → o ≡ Some v → Plain ≡ ending_of_answer z
  unfolding ending_of_answer
  ending-plain v q = rw (operand-is, q)

  module _ (q : o ≡ None) where
    stopped-is : ending_of_answer z ≡ ending_of_stop (stop_of z)
    unfolding ending_of_answer
    stopped-is = rw (operand-is, q)

    -- a test of bits
    number_is : (n : ℕ) → of_z w64 z ≡ n → z ≡ to_z w64 n
    number_is n b = sym (handed-is z fits) ∙ ap (to_z w64) b

    differs : (n : ℕ) → (of_z w64 z ≡ of_z w64 (pos n) → ⊥) → z ≡ pos n → ⊥
    differs n p g = p (ap (of_z w64) g)

    pub ending-spent : of_z w64 z ≡ 2147483648 → Spent ≡ ending_of_answer z
    unfolding stop_of beyond
    ending-spent b = sym (stopped-is ∙ ap (λ (x : ℤ). ending_of_stop (stop_of x)) (number_is 2147483648 b))

    pub ending_fault : (of_z w64 z ≡ 2147483648 → ⊥) → Fault (fault_numbered (beyond z)) ≡ ending_of_answer z
    ending_fault p = sym (stopped-is ∙ ap ending_of_stop (unspent z (differs 2147483648 p)))

-- ---- the run under the budget

-- how a run ended, told by the steps left
abbrev finished_rest : ℕ → Rest Signal → Finished
finished_rest b (gives signal n s) = record { ending = Plain; count = b - n; store = s }
finished_rest b (halts why n s) = record { ending = ending_of_stop why; count = b - n; store = s }

told-finished : (b : ℕ) (r : Result Signal) → (final r).count ≤ b → finished_rest b (told b r) ≡ finished r
told-finished b (ok signal σ) h = ap (λ (n : ℕ). record { ending = Plain; count = n; store = σ.store }) (omega arith)
told-finished b (stopped spent σ) h = ap (λ (n : ℕ). record { ending = Spent; count = n; store = σ.store }) (omega arith)
told-finished b (stopped (fault sort) σ) h = ap (λ (n : ℕ). record { ending = Fault sort; count = n; store = σ.store }) (omega arith)

passing-goes-on : (v : ℤ) → passing_of v ≡ Halted → ⊥
unfolding passing_of
passing-goes-on v e = by (same_word v (negsuc 0)) (same_word v (negsuc 1)) (same_word v (negsuc 2)) e
  where
    by : (a b c : Bool) → pick a Next (pick b Break (pick c Continue (Goto (natural v)))) ≡ Halted → ⊥
    by true b c e = let w : ◌≡◌ {A = ℕ} 0 1 = cc in omega arith
    by false true c e = let w : ◌≡◌ {A = ℕ} 0 1 = cc in omega arith
    by false false true e = let w : ◌≡◌ {A = ℕ} 0 1 = cc in omega arith
    by false false false e = let w : ◌≡◌ {A = ℕ} 0 1 = cc in omega arith

ran-finished : (b : ℕ) (z : ℤ) (n : ℕ) (s : List ℤ) → record { ending = ending_of_answer z; count = b - n; store = s } ≡ finished_rest b (ran z n s)
unfolding ending_of_answer
ran-finished b z n s = by (operand_of z) refl
  where
    passes : (f : Flow) → (f ≡ Halted → ⊥) → record { ending = Plain; count = b - n; store = s } ≡ finished_rest b (flow_rest f z n s)
    passes Next q = refl
    passes Break q = refl
    passes Continue q = refl
    passes (Goto l) q = refl
    passes Return q = refl
    passes Halted q = absurd (q refl)

    value : (v : ℤ) → operand_of z ≡ Some v → (r : Bool) → is_return z ≡ r → record { ending = ending_of_answer z; count = b - n; store = s } ≡ finished_rest b (ran z n s)
    value v e true r = rw (flow-returns z r, e)
    value v e false r = rw (flow-passes z v r e, e) (passes (passing_of v) (passing-goes-on v))

    by : (o : Option ℤ) → operand_of z ≡ o → record { ending = ending_of_answer z; count = b - n; store = s } ≡ finished_rest b (ran z n s)
    by (Some v) e = value v e (is_return z) refl
    by None e = rw (flow-stops z e, e)

pub run-finished : (b : ℕ) (m : Computation Signal) (s : List ℤ) (z : ℤ) (n : ℕ) (t : List ℤ) → ran z n t ≡ spend m b s
    → record { ending = ending_of_answer z; count = b - n; store = t } ≡ finished (run (steps b) m (start s))
run-finished b m s z n t h =
    ran-finished b z n t ∙ ap (finished_rest b) (h ∙ spend-is-run b m s) ∙ told-finished b (run (steps b) m (start s)) (count-never-passes b m (start s) (omega arith))
