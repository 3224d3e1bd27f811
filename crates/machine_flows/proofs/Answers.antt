-- Answers: laws of the answers of statements and rounds: what the numbers say, how they are handed on, and that steps left never rise.
use Rattle.std.specs.Prelude.{None, Option, Some}
use Rattle.std.proofs.Common.{◌⊎◌, inl, inr}
use mathlib.Core.Path.{◌≡◌, refl, sym, ap, ◌∙◌}
use mathlib.Core.Bool.{Bool, true, false, ◌||◌, true≢false, false≢true}
use mathlib.Core.List.{List, [], ◌∷◌}
use mathlib.Core.Logic.{⊎_elim}
use Prim.Native.Nat.{ℕ, zero, suc, ◌+◌, ◌-◌, ◌^◌, ◌≤◌, ◌<◌}
use native.Mathlib.Omega.{arith}
use types.Run.{OneOf}
use denote.Enum.Declared.{tag_of}
use lib.Dec.{ltb, eqb}
use lib.IntN.{ℤ, pos, negsuc, ◌+ℤ◌, ◌-ℤ◌, +ℤ_comm, +ℤ-neg_ℤ_cancel}
use lib.ListN.{set}
use lib.Signed.{mag, lt_z}
use mir.Syntax.{w32, w64}
use mir.Val.{SFits, to_z, of_z}
use borrow.Author.Tests.{ltb-true, ltb-false, lt-ltb, le-ltb, eq-eqb}
use Rattle.words.specs.Word.{is_word, same_word, natural, pick}
use Rattle.arithmetic.specs.Arithmetic.{is_true}
use Rattle.words.specs.Laws.{or_right, back, same_word-refl, same_word-differ}
use Rattle.words.specs.Answers.{fault_numbered}
use Rattle.words.specs.declared.FaultSort.TheVariants.{Guard}
use Rattle.computation.specs.Computation.{Turn, again, leave, Computation, ret}
use Rattle.computation.specs.Run.{spent, fault}
use Rattle.computation.specs.Remaining.{Rest, gives, halts, onward, on_turn, spend}
use Rattle.computation.proofs.RemainingLaws.{left_of, left-never-rises}
use Rattle.language.specs.Trees.{label}
use Rattle.language.specs.Meaning.{Signal, next, breaking, continuing, seeking, returning, enter, after_switch, after_body, Choice, ran as ran_with, after_arms}
use Rattle.language.specs.Functions.{returned}
use Rattle.machine_operations.specs.Answers.{beyond, stop_of, is_return, operand_of, answered}
use Rattle.machine_operations.proofs.Decoding.{handed, handed-is, wide, wide_is, operand-word, word-no-return, answered-word}
use Rattle.machine_operations.proofs.Enter.{entered, not_entered}
use Rattle.machine_operations.proofs.Operands.{stops, handed-on}
use Rattle.machine_flows.specs.Flows.{passing_of, flow_of, return_value, flow_rest, ran, turn_by, turned, EndsCall, EndsReturn, EndsExpression, EndsDeclaration, EndsSwitch, EndsBody, EndsRound}
use Rattle.machine_flows.specs.declared.Flow.{Flow}
use Rattle.machine_flows.specs.declared.Flow.TheVariants.{Next, Break, Continue, Goto, Return, Halted}
use Rattle.machine_flows.specs.contracts.Flow as declared

-- ---- what the numbers say

module _ (n : ℕ) (s : List ℤ) where
  pub ran-next : ran (negsuc 0) n s ≡ gives next n s
  unfolding flow_of operand_of is_word is_return passing_of same_word
  ran-next = refl

  pub ran-break : ran (negsuc 1) n s ≡ gives breaking n s
  unfolding flow_of operand_of is_word is_return passing_of same_word
  ran-break = refl

  pub ran-continue : ran (negsuc 2) n s ≡ gives continuing n s
  unfolding flow_of operand_of is_word is_return passing_of same_word
  ran-continue = refl

  pub ran-spent : ran (pos 2147483648) n s ≡ halts spent n s
  unfolding flow_of operand_of is_word is_return beyond stop_of
  ran-spent = refl

  pub ran-guard : ran (pos 2147483652) n s ≡ halts (fault Guard) n s
  unfolding flow_of operand_of is_word is_return beyond stop_of fault_numbered
  ran-guard = refl

  pub turned-last : turned (negsuc 0) n s ≡ gives (leave next) n s
  unfolding flow_of operand_of is_word is_return passing_of same_word
  turned-last = refl

  pub turned-again : turned (negsuc 2) n s ≡ gives again n s
  unfolding flow_of operand_of is_word is_return passing_of same_word
  turned-again = refl

pub flow_next : flow_of (negsuc 0) ≡ Next
unfolding flow_of operand_of is_word is_return passing_of same_word
flow_next = refl

-- ---- a word tested by its bits

module _ (z k : ℤ) (h : mag z < 2 ^ 31) (g : mag k < 2 ^ 31) where
  pub is-word : of_z w32 z ≡ of_z w32 k → same_word z k ≡ true
  is-word e = ap (λ (x : ℤ). same_word x k) (sym (back z h) ∙ ap (to_z w32) e ∙ back k g) ∙ same_word-refl k

  pub is-no-word : (of_z w32 z ≡ of_z w32 k → ⊥) → same_word z k ≡ false
  is-no-word q = same_word-differ z k (λ e. q (ap (of_z w32) e))

module _ (z : ℤ) (a b c : Bool) (p : same_word z (negsuc 0) ≡ a) (q : same_word z (negsuc 1) ≡ b) (r : same_word z (negsuc 2) ≡ c) where
  passing-by : passing_of z ≡ pick a Next (pick b Break (pick c Continue (Goto (natural z))))
  unfolding passing_of
  passing-by = rw (p, q, r)

pub passing-next : (z : ℤ) → same_word z (negsuc 0) ≡ true → passing_of z ≡ Next
passing-next z p = passing-by z true _ _ p refl refl

pub passing-break : (z : ℤ) → same_word z (negsuc 0) ≡ false → same_word z (negsuc 1) ≡ true → passing_of z ≡ Break
passing-break z p q = passing-by z false true _ p q refl

pub passing-continue : (z : ℤ) → same_word z (negsuc 0) ≡ false → same_word z (negsuc 1) ≡ false → same_word z (negsuc 2) ≡ true → passing_of z ≡ Continue
passing-continue z p q r = passing-by z false false true p q r

pub passing-goto : (z : ℤ) → same_word z (negsuc 0) ≡ false → same_word z (negsuc 1) ≡ false → same_word z (negsuc 2) ≡ false → passing_of z ≡ Goto (natural z)
passing-goto z p q r = passing-by z false false false p q r

-- ---- a label, as a goto's answer

negative-label : (z : ℤ) → lt_z z (pos 0) ≡ true → natural (negsuc 3) ≡ natural z
unfolding natural
negative-label (pos n) e = absurd (omega (arith, ltb-true n 0 e))
negative-label (negsuc n) e = refl

label-goto : (z : ℤ) → lt_z z (pos 0) ≡ false → passing_of z ≡ Goto (natural z)
unfolding passing_of same_word
label-goto (pos n) e = refl
label-goto (negsuc n) e = absurd (true≢false e)

module _ (z : ℤ) (h : mag z < 2 ^ 31) where
  pub jump-negative : lt_z (to_z w32 (of_z w32 z)) (pos 0) ≡ true → (n : ℕ) (s : List ℤ) → ran (negsuc 3) n s ≡ gives (seeking (label (natural z))) n s
  unfolding flow_of operand_of is_word is_return passing_of same_word
  jump-negative e n s = ap (λ (l : ℕ). gives (seeking (label l)) n s) (negative-label z (rw (back z h) at e))

  pub jump_label : lt_z (to_z w32 (of_z w32 z)) (pos 0) ≡ false → (n : ℕ) (s : List ℤ) → ran (wide z) n s ≡ gives (seeking (label (natural z))) n s
  unfolding flow_of
  jump_label e n s = rw (wide_is z h, word-no-return z h, operand-word z h, label-goto z (rw (back z h) at e))

-- ---- the flow of an answer

-- a stop is no return
stop-is-none : (z : ℤ) → operand_of z ≡ None → is_return z ≡ false
unfolding operand_of
stop-is-none z e = by (is_word z) (is_return z) e
  where
    by : (w r : Bool) → pick w (Some z) (pick r (Some (pos 0)) None) ≡ None → r ≡ false
    by true r e = absurd (let w : ◌≡◌ {A = ℕ} 0 1 = cc in omega arith)
    by false true e = absurd (let w : ◌≡◌ {A = ℕ} 0 1 = cc in omega arith)
    by false false e = refl

pub flow-stops : (z : ℤ) → operand_of z ≡ None → flow_of z ≡ Halted
unfolding flow_of
flow-stops z e = rw (stop-is-none z e, e)

pub flow-passes : (z v : ℤ) → is_return z ≡ false → operand_of z ≡ Some v → flow_of z ≡ passing_of v
unfolding flow_of
flow-passes z v r e = rw (r, e)

pub flow-returns : (z : ℤ) → is_return z ≡ true → flow_of z ≡ Return
unfolding flow_of
flow-returns z r = rw r

-- ---- returns

-- a return's answer, by its value
return-is : (v : ℤ) → mag v < 2 ^ 31 → is_return (pos 8589934592 +ℤ v) ≡ true
unfolding is_return
return-is (pos a) h = rw (le-ltb (8589934592 + a) 6442450944 (omega arith), lt-ltb (8589934592 + a) 10737418240 (omega arith))
return-is (negsuc a) h =
    rw (le-ltb 8589934592 (suc a) (omega arith), le-ltb (8589934592 - suc a) 6442450944 (omega arith), lt-ltb (8589934592 - suc a) 10737418240 (omega arith))

return-again : (v : ℤ) → return_value (pos 8589934592 +ℤ v) ≡ v
unfolding return_value
return-again v = ap (λ (z : ℤ). z -ℤ pos 8589934592) (+ℤ_comm (pos 8589934592) v) ∙ +ℤ-neg_ℤ_cancel v (pos 8589934592)

return_fits : (v : ℤ) → mag v < 2 ^ 31 → mag (pos 8589934592 +ℤ v) < 2 ^ 63
return_fits (pos a) h = omega arith
return_fits (negsuc a) h = rw (le-ltb 8589934592 (suc a) (omega arith)) (omega arith)

ran-return : (v : ℤ) → mag v < 2 ^ 31 → (n : ℕ) (s : List ℤ) → ran (pos 8589934592 +ℤ v) n s ≡ gives (returning v) n s
ran-return v h n s = rw (flow-returns (pos 8589934592 +ℤ v) (return-is v h), return-again v)

-- as the code adds
module _ (v : ℤ) (h : mag v < 2 ^ 31) where
  pub return-adds : SFits w64 (pos 8589934592 +ℤ wide v)
  return-adds = rw (wide_is v h) (record { sfits = return_fits v h })

  pub ran-returned : (n : ℕ) (s : List ℤ) → ran (handed (pos 8589934592 +ℤ wide v)) n s ≡ gives (returning v) n s
  ran-returned n s = rw (wide_is v h, handed-is (pos 8589934592 +ℤ v) (return_fits v h)) (ran-return v h n s)

-- the value of a return is a word
returned-word : (z : ℤ) → is_return z ≡ true → mag (return_value z) < 2 ^ 31
unfolding is_return return_value
returned-word (negsuc m) e = absurd (true≢false (sym e))
returned-word (pos m) e = least (ltb m 6442450944) refl e
  where
    value : (t : Bool) → ltb m 8589934592 ≡ t → 6442450944 ≤ m → m < 10737418240 → mag (pos m -ℤ pos 8589934592) < 2 ^ 31
    value true t p q = rw t (omega (arith, ltb-true m 8589934592 t))
    value false t p q = rw t (omega (arith, ltb-false m 8589934592 t))

    least : (t : Bool) → ltb m 6442450944 ≡ t → pick t false (ltb m 10737418240) ≡ true → mag (pos m -ℤ pos 8589934592) < 2 ^ 31
    least true t e = absurd (true≢false (sym e))
    least false t e = value (ltb m 8589934592) refl (ltb-false m 6442450944 t) (ltb-true m 10737418240 e)

-- the answer of a call, by its block's
module _ (z : ℤ) (fits : mag z < 2 ^ 63) {b : Bool} (r : b ≡ is_return (handed z)) where
  no_other : is_return z ≡ b
  no_other = ap is_return (sym (handed-is z fits)) ∙ sym r

  pub call_fits : b ≡ true → mag (handed z -ℤ pos 8589934592) < 2 ^ 63
  unfolding return_value
  call_fits t = rw (handed-is z fits) (omega (arith, returned-word z (no_other ∙ t)))

  pub call_returns : b ≡ true → EndsCall z (handed (handed z -ℤ pos 8589934592))
  unfolding return_value
  call_returns t n s =
      ap (λ (x : ℤ). answered x n s) (handed-is (handed z -ℤ pos 8589934592) (call_fits t) ∙ ap (λ (x : ℤ). x -ℤ pos 8589934592) (handed-is z fits))
      ∙ answered-word (return_value z) (returned-word z (no_other ∙ t)) n s ∙ rw (flow-returns z (no_other ∙ t))

  module _ (t : b ≡ false) (o : Option ℤ) (e : o ≡ operand_of (handed z)) where
    says-operand : operand_of z ≡ o
    says-operand = ap operand_of (sym (handed-is z fits)) ∙ sym e

    pub call-stops : o ≡ None → EndsCall z (handed z)
    call-stops q n s = rw (handed-is z fits, flow-stops z (says-operand ∙ q), says-operand, q)

    pub call_ends : (v : ℤ) → o ≡ Some v → EndsCall z (pos 0)
    unfolding passing_of
    call_ends v q n s = answered-word (pos 0) (omega arith) n s ∙ sym (rw (flow-passes z v (no_other ∙ t) (says-operand ∙ q)) (by v))
      where
        by : (v : ℤ) → onward (flow_rest (passing_of v) z n s) (λ signal n s. gives (returned signal) n s) ≡ gives (pos 0) n s
        by v = go (same_word v (negsuc 0)) (same_word v (negsuc 1)) (same_word v (negsuc 2))
          where
            go : (a b c : Bool) → onward (flow_rest (pick a Next (pick b Break (pick c Continue (Goto (natural v))))) z n s) (λ signal n s. gives (returned signal) n s) ≡ gives (pos 0) n s
            go true b c = refl
            go false true c = refl
            go false false true = refl
            go false false false = refl

-- an arm that several variants share: the tag is one of theirs
abbrev member : ℕ → List ℕ → Bool
member x [] = false
member x (k ∷ ks) = eqb x k || member x ks

one_of : (k : ℕ) (ks : List ℕ) (x : ℕ) → OneOf (k ∷ ks) x → member x (k ∷ ks) ≡ true
one_of k [] x e = rw (eq-eqb x k e)
one_of k (l ∷ ks) x h = ⊎_elim (λ e. rw (eq-eqb x k e)) (λ g. or_right (eqb x k) (member x (l ∷ ks)) (one_of l ks x g)) h

excluded : (ks : List ℕ) (x : ℕ) → OneOf ks x → member x ks ≡ false → ⊥
excluded [] x h m = h
excluded (k ∷ ks) x h m = false≢true (sym m ∙ one_of k ks x h)

abbrev tag : Flow → ℕ
tag f = tag_of declared.the_type f

pub not-next : (f : Flow) → OneOf (1 ∷ 2 ∷ 3 ∷ 4 ∷ 5 ∷ []) (tag f) → f ≡ Next → ⊥
not-next f h e = excluded (1 ∷ 2 ∷ 3 ∷ 4 ∷ 5 ∷ []) 0 (rw e at h) refl

pub not-break : (f : Flow) → OneOf (0 ∷ 2 ∷ 3 ∷ 4 ∷ 5 ∷ []) (tag f) → f ≡ Break → ⊥
not-break f h e = excluded (0 ∷ 2 ∷ 3 ∷ 4 ∷ 5 ∷ []) 1 (rw e at h) refl

pub not-continue : (f : Flow) → OneOf (0 ∷ 1 ∷ 3 ∷ 4 ∷ 5 ∷ []) (tag f) → f ≡ Continue → ⊥
not-continue f h e = excluded (0 ∷ 1 ∷ 3 ∷ 4 ∷ 5 ∷ []) 2 (rw e at h) refl

-- ---- answers handed on

module _ (r : ℤ) (n : ℕ) (s : List ℤ) (fits : mag r < 2 ^ 63) where
  pub ran-handed : ran (handed r) n s ≡ ran r n s
  ran-handed = ap (λ (z : ℤ). ran z n s) (handed-is r fits)

  pub turned-handed : turned (handed r) n s ≡ turned r n s
  turned-handed = ap (λ (z : ℤ). turned z n s) (handed-is r fits)

-- an evaluation's stop is handed up
module _ {m : Rest ℤ} (r : ℤ) (n : ℕ) (s : List ℤ) (fits : mag r < 2 ^ 63) (h : answered r n s ≡ m) (o : Option ℤ) (e : o ≡ operand_of (handed r)) (q : o ≡ None) where
  halted-flow : flow_of r ≡ Halted
  halted-flow = flow-stops r (ap operand_of (sym (handed-is r fits)) ∙ sym e ∙ q)

  pub hands-flow : (f : ℤ → ℕ → List ℤ → Rest Signal) → ran (handed r) n s ≡ onward m f
  hands-flow f = ran-handed r n s fits ∙ rw halted-flow (sym (stops f r n s fits h o e q))

  pub hands-turn : (f : ℤ → ℕ → List ℤ → Rest (Turn Signal)) → turned (handed r) n s ≡ onward m f
  hands-turn f = turned-handed r n s fits ∙ rw halted-flow (sym (stops f r n s fits h o e q))

-- ---- after an expression

module _ {m : Rest ℤ} (r : ℤ) (n : ℕ) (s : List ℤ) (fits : mag r < 2 ^ 63) (h : answered r n s ≡ m) (z : ℤ) (ok : mag z < 2 ^ 63) where
  -- an expression statement's
  pub expressed : EndsExpression (handed r) z → ran (handed z) n s ≡ onward m (λ _ n s. gives next n s)
  expressed e = ran-handed z n s ok ∙ e n s ∙ ap (λ (x : Rest ℤ). onward x (λ _ n s. gives next n s)) (handed-on r n s fits ∙ h)

  -- the value of a return
  pub valued : EndsReturn (handed r) z → ran (handed z) n s ≡ onward m (λ v n s. gives (returning v) n s)
  valued e = ran-handed z n s ok ∙ e n s ∙ ap (λ (x : Rest ℤ). onward x (λ v n s. gives (returning v) n s)) (handed-on r n s fits ∙ h)

  -- a declaration's initial one
  pub initial : (word : ℕ) (t : List ℤ) → EndsDeclaration word (handed r) s z t → ran (handed z) n t ≡ onward m (λ v n s. gives next n (set s word v))
  initial word t e = ran-handed z n t ok ∙ e n ∙ ap (λ (x : Rest ℤ). onward x (λ v n s. gives next n (set s word v))) (handed-on r n s fits ∙ h)

-- ---- after a switch and after a loop's body

module _ (z : ℤ) (fits : mag z < 2 ^ 63) (f : Flow) (e : f ≡ flow_of (handed z)) where
  pub flow-is : flow_of z ≡ f
  flow-is = ap flow_of (sym (handed-is z fits)) ∙ sym e

  pub switch-break : f ≡ Break → EndsSwitch z (negsuc 0)
  switch-break q n s = ran-next n s ∙ rw (flow-is, q)

  pub switch-same : (f ≡ Break → ⊥) → EndsSwitch z (handed z)
  switch-same q n s = ran-handed z n s fits ∙ by (flow_of z) (λ g. q (sym flow-is ∙ g))
    where
      by : (g : Flow) → (g ≡ Break → ⊥) → flow_rest g z n s ≡ onward (flow_rest g z n s) (λ signal n s. gives (after_switch signal) n s)
      by Next q = refl
      by Break q = absurd (q refl)
      by Continue q = refl
      by (Goto l) q = refl
      by Return q = refl
      by Halted q = refl

  pub body-next : f ≡ Next → EndsBody z (negsuc 2)
  unfolding spend
  body-next q n s = turned-again n s ∙ rw (flow-is, q)

  pub body-break : f ≡ Break → EndsBody z (negsuc 0)
  unfolding spend
  body-break q n s = turned-last n s ∙ rw (flow-is, q)

  -- what is no next and no break is handed on
  pub body-kept : (f ≡ Return) ⊎ ((f ≡ Continue) ⊎ (((l : ℕ) × (f ≡ Goto l)) ⊎ (f ≡ Halted))) → EndsBody z (handed z)
  unfolding spend
  body-kept (inl q) n s = turned-handed z n s fits ∙ rw (flow-is, q)
  body-kept (inr (inl q)) n s = turned-handed z n s fits ∙ rw (flow-is, q)
  body-kept (inr (inr (inl (l, q)))) n s = turned-handed z n s fits ∙ rw (flow-is, q)
  body-kept (inr (inr (inr q))) n s = turned-handed z n s fits ∙ rw (flow-is, q)

-- ---- rounds

-- the rest of a round, where the body goes on to it
abbrev pub resumed : (ℕ → List ℤ → Rest (Turn Signal)) → Turn Signal → ℕ → List ℤ → Rest (Turn Signal)
resumed more again n s = more n s
resumed more (leave signal) n s = gives (leave signal) n s

pub body-then : (m : Rest Signal) (rest : Computation (Turn Signal))
    → onward m (λ signal n s. spend (after_body rest signal) n s) ≡ onward (onward m (λ signal n s. spend (after_body (ret again) signal) n s)) (resumed (spend rest))
unfolding spend
body-then (gives next n s) rest = refl
body-then (gives breaking n s) rest = refl
body-then (gives continuing n s) rest = refl
body-then (gives (seeking m) n s) rest = refl
body-then (gives (returning v) n s) rest = refl
body-then (halts why n s) rest = refl

-- the body's answer, and what follows it
module _ {m : Rest Signal} (r : ℤ) (n : ℕ) (s : List ℤ) (fits : mag r < 2 ^ 63) (h : ran r n s ≡ m) (z : ℤ) where
  pub body-turns : EndsBody (handed r) z → (rest : Computation (Turn Signal)) → onward m (λ signal n s. spend (after_body rest signal) n s) ≡ onward (turned z n s) (resumed (spend rest))
  body-turns e rest =
      body-then m rest
      ∙ ap (λ (x : Rest (Turn Signal)). onward x (resumed (spend rest))) (ap (λ (x : Rest Signal). onward x (λ signal n s. spend (after_body (ret again) signal) n s)) (sym h ∙ sym (ran-handed r n s fits)) ∙ sym (e n s))

  -- the answer of a switch's items, and the switch's own
  pub switch-turns : EndsSwitch (handed r) z → ran z n s ≡ onward m (λ signal n s. gives (after_switch signal) n s)
  switch-turns e = e n s ∙ ap (λ (x : Rest Signal). onward x (λ signal n s. gives (after_switch signal) n s)) (ran-handed r n s fits ∙ h)

-- what enters a row and goes on has made a step
step_falls : {A : Type 0} (a : A) (n : ℕ) (s : List ℤ) (m : Computation A) (k : ℕ) (t : List ℤ) → gives a n s ≡ spend (enter m) k t → n < k
step_falls a n s m zero t h =
    let p : gives a n s ≡ halts spent 0 t = h ∙ not_entered m t 0 refl in
    let w : ◌≡◌ {A = ℕ} 0 1 = cc in
    omega arith
step_falls a n s m (suc k) t h =
    let l : n ≡ left_of (spend m (suc k - 1) t) = ap left_of (h ∙ entered m t (suc k) (λ w. omega arith)) in
    omega (arith, left-never-rises m (suc k - 1) t)

-- `m` is the part of the run that a round did
module _ (z : ℤ) (n : ℕ) (s : List ℤ) (fits : mag z < 2 ^ 63) (f : Flow) (e : f ≡ flow_of (handed z)) where
  module _ (q : f ≡ Continue) where
    went : turned z n s ≡ gives again n s
    went = rw (flow-is z fits f e, q)

    pub goes-round : {m : Rest (Turn Signal)} → turned z n s ≡ m → (more : ℕ → List ℤ → Rest Signal) → onward m (on_turn more) ≡ more n s
    goes-round h more = rw (← h, went)

    pub goes_on : (more : ℕ → List ℤ → Rest (Turn Signal)) → onward (turned z n s) (resumed more) ≡ more n s
    goes_on more = rw went

    -- and it has made a step
    pub round-falls : (m : Computation (Turn Signal)) (k : ℕ) (t : List ℤ) → turned z n s ≡ spend (enter m) k t → n < k
    round-falls m k t h = step_falls again n s m k t (sym went ∙ h)

  module _ (q : f ≡ Continue → ⊥) where
    goes-not : flow_of z ≡ Continue → ⊥
    goes-not g = q (sym (flow-is z fits f e) ∙ g)

    pub leaves : {m : Rest (Turn Signal)} → turned z n s ≡ m → (more : ℕ → List ℤ → Rest Signal) → onward m (on_turn more) ≡ ran (handed z) n s
    leaves h more = rw (← h) (by (flow_of z) goes-not ∙ sym (ran-handed z n s fits))
      where
        by : (g : Flow) → (g ≡ Continue → ⊥) → onward (onward (flow_rest g z n s) (λ signal n s. gives (turn_by signal) n s)) (on_turn more) ≡ flow_rest g z n s
        by Next q = refl
        by Break q = refl
        by Continue q = absurd (q refl)
        by (Goto l) q = refl
        by Return q = refl
        by Halted q = refl

    pub ends-round : (more : ℕ → List ℤ → Rest (Turn Signal)) → onward (turned z n s) (resumed more) ≡ turned (handed z) n s
    ends-round more = by (flow_of z) goes-not ∙ sym (turned-handed z n s fits)
      where
        by : (g : Flow) → (g ≡ Continue → ⊥) → onward (onward (flow_rest g z n s) (λ signal n s. gives (turn_by signal) n s)) (resumed more) ≡ onward (flow_rest g z n s) (λ signal n s. gives (turn_by signal) n s)
        by Next q = refl
        by Break q = refl
        by Continue q = absurd (q refl)
        by (Goto l) q = refl
        by Return q = refl
        by Halted q = refl

-- ---- the rounds of a guarded do

-- after its arms, which ran a block: the rounds again, or the block's own end
abbrev pub rounded : (ℕ → List ℤ → Rest Signal) → Choice → ℕ → List ℤ → Rest Signal
rounded more choice n s = on_turn more (after_arms choice) n s

module _ (z : ℤ) (n : ℕ) (s : List ℤ) (fits : mag z < 2 ^ 63) {m : Rest Signal} (h : ran z n s ≡ m) (f : Flow) (e : f ≡ flow_of (handed z)) where
  module _ (q : f ≡ Next) where
    went_on : ran z n s ≡ gives next n s
    went_on = rw (flow-is z fits f e, q)

    pub arms-again : (more : ℕ → List ℤ → Rest Signal) → onward m (λ signal n s. rounded more (ran_with signal) n s) ≡ more n s
    arms-again more = rw (← h, went_on)

  module _ (q : f ≡ Next → ⊥) where
    pub arms-left : (more : ℕ → List ℤ → Rest Signal) → onward m (λ signal n s. rounded more (ran_with signal) n s) ≡ ran (handed z) n s
    arms-left more = rw (← h) (by (flow_of z) (λ g. q (sym (flow-is z fits f e) ∙ g)) ∙ sym (ran-handed z n s fits))
      where
        by : (g : Flow) → (g ≡ Next → ⊥) → onward (flow_rest g z n s) (λ signal n s. rounded more (ran_with signal) n s) ≡ flow_rest g z n s
        by Next q = absurd (q refl)
        by Break q = refl
        by Continue q = refl
        by (Goto l) q = refl
        by Return q = refl
        by Halted q = refl

-- and a block that ended plainly has made a step
pub block_falls : (z : ℤ) (n : ℕ) (s : List ℤ) → mag z < 2 ^ 63 → (f : Flow) → f ≡ flow_of (handed z) → f ≡ Next → (m : Computation Signal) (k : ℕ) (t : List ℤ) → ran z n s ≡ spend (enter m) k t → n < k
block_falls z n s fits f e q m k t h = step_falls next n s m k t (sym (went_on z n s fits refl f e q) ∙ h)

-- ---- the steps left never rise

ran-left : (r : ℤ) (n : ℕ) (s : List ℤ) → left_of (ran r n s) ≡ n
ran-left r n s = by (flow_of r)
  where
    by : (f : Flow) → left_of (flow_rest f r n s) ≡ n
    by Next = refl
    by Break = refl
    by Continue = refl
    by (Goto l) = refl
    by Return = refl
    by Halted = refl

module _ (r : ℤ) (n : ℕ) (s : List ℤ) (k : ℕ) (t : List ℤ) where
  pub ran-least : (m : Computation Signal) → ran r n s ≡ spend m k t → n ≤ k
  ran-least m h = let l : n ≡ left_of (spend m k t) = sym (ran-left r n s) ∙ ap left_of h in omega (arith, left-never-rises m k t)

-- the last part of a round, whose value was handed on
pub round-ends : (decides : Bool) (v r : ℤ) → mag v < 2 ^ 31 → mag r < 2 ^ 63 → EndsRound decides (to_z w32 (of_z w32 v)) r → (n : ℕ) (s : List ℤ)
    → turned (handed r) n s ≡ pick decides (pick (is_true v) (gives again n s) (gives (leave next) n s)) (gives again n s)
round-ends decides v r h fits ends n s =
    turned-handed r n s fits ∙ ends n s ∙ ap (λ (z : ℤ). pick decides (pick (is_true z) (gives again n s) (gives (leave next) n s)) (gives again n s)) (back v h)

-- the answer of a call's block, and the call's own
pub call-turns : {m : Rest Signal} (r : ℤ) (n : ℕ) (s : List ℤ) → mag r < 2 ^ 63 → ran r n s ≡ m → (z : ℤ) → EndsCall (handed r) z → answered z n s ≡ onward m (λ signal n s. gives (returned signal) n s)
call-turns r n s fits h z e = e n s ∙ ap (λ (x : Rest Signal). onward x (λ signal n s. gives (returned signal) n s)) (ran-handed r n s fits ∙ h)
