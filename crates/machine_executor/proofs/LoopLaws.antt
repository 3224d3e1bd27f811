-- LoopLaws by their unrolling, told by the steps left: the laws that the proofs chain. All by computing `spend` of the meaning.
use mathlib.Core.Path.{◌≡◌, refl, ap, ◌∙◌}
use mathlib.Core.Bool.{Bool}
use mathlib.Core.List.{List}
use Prim.Native.Nat.{ℕ}
use lib.IntN.{ℤ, pos}
use Rattle.words.specs.Word.{pick}
use Rattle.arithmetic.specs.Arithmetic.{is_true}
use Rattle.computation.specs.Computation.{Turn, again, leave, Computation, ret, ◌>>=◌, loop}
use Rattle.computation.proofs.RunLaws.{turn_of}
use Rattle.computation.specs.Remaining.{gives, onward, pay, on_turn, spend}
use Rattle.computation.proofs.RemainingLaws.{spend-unroll}
use Rattle.language.specs.Trees.{Part, absent, present}
use Rattle.language.specs.Meaning.{Context, Signal, next, enter, evaluate, value, after_body, after_test}
use Rattle.machine_operations.proofs.Enter.{onward-same, onward-onward, forks}
use Rattle.machine_executor.specs.Rows.{value_or, closing, round_of}

-- a loop is a round, and the loop again or its end
pub loop-round : (m : Computation (Turn Signal)) (n : ℕ) (s : List ℤ) → spend (loop m) n s ≡ onward (spend (enter m) n s) (on_turn (spend (loop m)))
unfolding spend
loop-round m n s =
    spend-unroll m n s ∙ onward-same (pay n s) _ _ (λ _ n s. onward-same (spend m n s) _ _ on) ∙ onward-onward (pay n s) (λ _ n s. spend m n s) (on_turn (spend (loop m)))
  where
    on : (t : Turn Signal) (n : ℕ) (s : List ℤ) → spend (turn_of (loop m) t) n s ≡ on_turn (spend (loop m)) t n s
    on again n s = refl
    on (leave signal) n s = refl

module _ (C : Context) where
  -- what follows the body of a loop
  pub closing-is : (last : Part) (decides : Bool) (n : ℕ) (s : List ℤ) → spend (closing C last decides) n s
      ≡ onward (spend (value_or C (pos 0) last) n s) (λ v n s. pick decides (pick (is_true v) (gives again n s) (gives (leave next) n s)) (gives again n s))
  unfolding spend
  closing-is last decides n s = by last
    where
      turns : (v : ℤ) (n : ℕ) (s : List ℤ) → spend (pick decides (after_test (ret again) v) (ret again)) n s ≡ pick decides (pick (is_true v) (gives again n s) (gives (leave next) n s)) (gives again n s)
      turns v n s = forks decides (after_test (ret again) v) (ret again) n s ∙ ap (λ r. pick decides r (gives again n s)) (forks (is_true v) (ret again) (ret (leave next)) n s)

      by : (p : Part) → spend (closing C p decides) n s ≡ onward (spend (value_or C (pos 0) p) n s) (λ v n s. pick decides (pick (is_true v) (gives again n s) (gives (leave next) n s)) (gives again n s))
      by absent = turns (pos 0) n s
      by (present e) = onward-same (spend (value C e) n s) _ _ turns

  -- a round of a loop: the test, the body, and what follows the body
  pub round_is : (test : Part) (body : Computation Signal) (last : Part) (decides : Bool) (n : ℕ) (s : List ℤ) → spend (enter (round_of C test body last decides)) n s
      ≡ onward (spend (value_or C (pos 1) test) n s) (λ v n s. pick (is_true v) (onward (spend (enter body) n s) (λ signal n s. spend (after_body (closing C last decides) signal) n s)) (gives (leave next) n s))
  unfolding spend is_true
  round_is absent body last decides n s = onward-onward (pay n s) (λ _ n s. spend body n s) (λ signal n s. spend (after_body (closing C last decides) signal) n s)
  round_is (present e) body last decides n s =
      onward-onward (pay n s) (λ _ n s. spend (evaluate C e) n s) (λ v n s. spend (after_test (do signal ← enter body; after_body (closing C last decides) signal) v) n s)
      ∙ onward-same (spend (value C e) n s) _ _ (λ v. forks (is_true v) (do signal ← enter body; after_body (closing C last decides) signal) (ret (leave next)))
