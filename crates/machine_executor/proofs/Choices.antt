-- Choices: the arms of a guarded statement by the rows that hold them, told by the steps left: the arm at a row, the rounds of a guarded do, and
-- what follows the block that an answer names.
use Rattle.std.specs.Prelude.{None, Option, Some}
use mathlib.Core.Path.{◌≡◌, refl, sym, ap, ◌∙◌}
use mathlib.Core.Bool.{Bool, true, false}
use mathlib.Core.List.{List}
use Prim.Native.Nat.{ℕ, zero, suc, ◌*◌, ◌-◌, ◌^◌, ◌≤◌, ◌<◌}
use native.Mathlib.Omega.{arith}
use lib.IntN.{ℤ, pos}
use lib.ListN.{length}
use lib.Signed.{mag}
use mir.Syntax.{w64}
use mir.Val.{to_z}
use Rattle.words.specs.Word.{natural, pick}
use Rattle.words.specs.Table.{row_count, number_at}
use Rattle.words.specs.Kinds.{is_required, statement_fields, member_fields, kind_row, sort_in}
use Rattle.arithmetic.specs.Arithmetic.{is_true}
use Rattle.words.specs.declared.Kind.{Kind}
use Rattle.words.specs.declared.Kind.TheVariants.{OfStatement, OfMember}
use Rattle.words.specs.declared.MemberKind.TheVariants.{Arm}
use Rattle.words.specs.declared.StatementKind.TheVariants.{GuardedIf, GuardedDo, Abort}
use Rattle.words.specs.declared.FaultSort.TheVariants.{Guard}
use Rattle.computation.specs.Computation.{Turn, Computation, ret, ◌>>=◌, loop}
use Rattle.computation.specs.Run.{fault}
use Rattle.computation.specs.Remaining.{Rest, gives, halts, onward, pay, on_turn, spend}
use Rattle.language.specs.Trees.{Arms, no_arm, arm, guarded_if, guarded_do}
use Rattle.language.specs.Decode.{arms_at, arm_list_at}
use Rattle.language.specs.DecodeLaws.{at-guarded_if, at-guarded_do, at-abort, at-arm}
use Rattle.language.specs.Meaning.{Context, Signal, next, Choice, none_true, ran as ran_with, enter, value, try_arm, after_choice, after_arms, perform, choose, choice_rounds}
use Rattle.language.specs.Sound.{Link, ArmLink}
use Rattle.language.specs.SoundLaws.{arm-link-of}
use Rattle.machine_operations.specs.Answers.{operand_of, answered, position_of}
use Rattle.machine_operations.specs.Bounds.{layout_in}
use Rattle.machine_operations.specs.Ready.{Entered}
use Rattle.machine_operations.specs.Rows.{context_at, value_at}
use Rattle.machine_operations.proofs.Decoding.{handed, handed-is, operand-word, operand-other, no-return-below, placed-word, placed-position, placed-spent}
use Rattle.machine_operations.proofs.Enter.{entered, not_entered, onward-same, onward-onward, forks}
use Rattle.machine_operations.proofs.Operands.{answered-least, goes, stops, chosen-true, chosen-false}
use Rattle.machine_operations.proofs.Rows.{link}
use Rattle.machine_flows.specs.Flows.{ran}
use Rattle.machine_executor.specs.Arms.{guard_at, arms_from, block_from, chosen, ReadyArms, Chooses}
use Rattle.machine_executor.specs.Rows.{perform_at, exec_at}
use Rattle.machine_flows.proofs.Answers.{flow-stops, ran-handed, rounded}
use Rattle.machine_executor.proofs.LoopLaws.{loop-round}
use Rattle.machine_executor.proofs.Rows.{known, table-row, optional}

-- ---- the arm at a row

-- the arms that begin at a row that is not 0
pub arm-list : (rows : List ℤ) (at : ℕ) → (at ≡ 0 → ⊥) → arm_list_at rows at ≡ arms_at rows at
arm-list rows zero z = absurd (z refl)
arm-list rows (suc at) z = refl

-- an arm: its guard, then its block or the arms behind it
enter-arm : (guard : Computation ℤ) (body : Computation Signal) (rest : Computation Choice) (n : ℕ) (s : List ℤ) → spend (enter (try_arm guard body rest)) n s
    ≡ onward (spend (enter guard) n s) (λ v n s. pick (is_true v) (onward (spend body n s) (λ signal n s. gives (ran_with signal) n s)) (spend rest n s))
unfolding spend
enter-arm guard body rest n s =
    onward-onward (pay n s) (λ _ n s. spend guard n s) (λ v n s. spend (pick (is_true v) (do signal ← body; ret (ran_with signal)) rest) n s)
    ∙ onward-same (spend (enter guard) n s) _ _ (λ v. forks (is_true v) (do signal ← body; ret (ran_with signal)) rest)

-- the block at a row that is not 0
block-there : (rows : List ℤ) (bounds : List ℕ) (block : ℕ) → (block ≡ 0 → ⊥) → (n : ℕ) (s : List ℤ)
    → spend (block_from rows bounds block) n s ≡ onward (spend (exec_at rows bounds block) n s) (λ signal n s. gives (ran_with signal) n s)
unfolding spend
block-there rows bounds zero z n s = absurd (z refl)
block-there rows bounds (suc block) z n s = refl

module _ {rows : List ℤ} {bounds : List ℕ} {words row : ℕ} (here : Entered rows bounds words row (OfMember Arm)) where
  pub arm-links : Link rows (layout_in rows bounds) words row 1 × Link rows (layout_in rows bounds) words row 2 × ArmLink rows (layout_in rows bounds) words row 5
  unfolding is_required sort_in kind_row member_fields
  arm-links = (
    link here 1 (omega arith) (omega arith) refl,
    link here 2 (omega arith) (omega arith) refl,
    arm-link-of here.ready.setting.sound here.ready.below here.kind_is 5 (omega arith) (omega arith) refl,
  )

  pub arm-row : (n : ℕ) (s : List ℤ) → spend (choose (context_at rows bounds) (arms_at rows row)) n s
      ≡ onward (spend (guard_at rows bounds row) n s) (λ v n s. pick (is_true v) (spend (block_from rows bounds (number_at rows row 2)) n s) (spend (arms_from rows bounds (number_at rows row 5)) n s))
  unfolding choose
  arm-row n s =
      ap (λ (arms : Arms). spend (choose (context_at rows bounds) arms) n s) (at-arm rows here.ready.setting.sound.whole row here.kind_is arm-links.0.later arm-links.1.later (λ h. (arm-links.2 h).0.later))
      ∙ enter-arm (value_at rows bounds (number_at rows row 1)) (exec_at rows bounds (number_at rows row 2)) (arms_from rows bounds (number_at rows row 5)) n s
      ∙ onward-same (spend (guard_at rows bounds row) n s) _ _ (λ v n s. ap (λ (r : Rest Choice). pick (is_true v) r (spend (arms_from rows bounds (number_at rows row 5)) n s)) (sym (block-there rows bounds (number_at rows row 2) (λ e. omega (arith, arm-links.1.later)) n s)))

-- what the first of a row's arms asks, or the next arm
pub arms-ready : {rows : List ℤ} {bounds : List ℕ} {words row : ℕ} {kind : Kind} → Entered rows bounds words row kind → {field : ℕ} → ArmLink rows (layout_in rows bounds) words row field
    → {first size : ℕ} → first ≡ number_at rows row field → size ≡ words → ReadyArms rows bounds size first
arms-ready here arm-link {first} e q = record {
  ready = optional here.ready (λ h. (arm-link h).0) e q;
  arm_is = λ h. rw e (arm-link (rw e at h)).1;
}

-- equal positions
at_same : {i j : ℕ} → Some i ≡ Some j → i ≡ j
at_same e = cc

-- ---- the arms in turn

-- a row, as an answer
position_is : (i : ℕ) → i < 2 ^ 31 → position_of (operand_of (to_z w64 i)) ≡ Some i
unfolding natural
position_is i h = ap (λ (z : ℤ). position_of (operand_of z)) (handed-is (pos i) (omega arith)) ∙ ap position_of (operand-word (pos i) (omega arith))

-- the arms from `first` on, begun with n steps and the store s, have come to the row `at`
pub record Trying (rows : List ℤ) (bounds : List ℕ) (words first n : ℕ) (s : List ℤ) (at left : ℕ) (store : List ℤ) : Type 0 where
  pub arms : ReadyArms rows bounds words at
  pub same : length store ≡ words
  pub steps : left ≤ n
  pub runs : spend (arms_from rows bounds first) n s ≡ spend (arms_from rows bounds at) left store

module _ {rows : List ℤ} {bounds : List ℕ} {words first n : ℕ} {s : List ℤ} {at left : ℕ} {store : List ℤ} (trying : Trying rows bounds words first n s at left store) where
  -- no arm is left
  pub chooses_none : at ≡ 0 → Chooses rows bounds first n s (pos 0) left store
  unfolding spend choose natural
  chooses_none e = record {
    runs = ap (λ (r : Rest ℕ). onward r (λ block n s. spend (block_from rows bounds block) n s)) (placed-word (pos 0) (omega arith) left store) ∙ sym (trying.runs ∙ rw e);
    steps = trying.steps;
    below = λ block q. omega (arith, at_same (sym (position_is 0 (omega arith)) ∙ q), trying.arms.ready.setting.sound.some_rows);
  }

  module _ (z : at ≡ 0 → ⊥) where
    pub arm-here : Entered rows bounds words at (OfMember Arm)
    arm-here = record { ready = trying.arms.ready; kind_is = trying.arms.arm_is (omega arith) }

    pub arm_now : Entered rows bounds (length store) at (OfMember Arm)
    arm_now = record { ready = table-row trying.arms.ready trying.arms.ready.below trying.same; kind_is = arm-here.kind_is }

    abbrev after_guard : ℤ → ℕ → List ℤ → Rest Choice
    after_guard v n s = pick (is_true v) (spend (block_from rows bounds (number_at rows at 2)) n s) (spend (arms_from rows bounds (number_at rows at 5)) n s)

    tried : spend (arms_from rows bounds first) n s ≡ onward (spend (guard_at rows bounds at) left store) after_guard
    tried = trying.runs ∙ ap (λ (arms : Arms). spend (choose (context_at rows bounds) arms) left store) (arm-list rows at z) ∙ arm-row arm-here left store

    -- no step is left for the arm's row
    pub chooses-spent : left ≡ 0 → Chooses rows bounds first n s (pos 2147483648) left store
    chooses-spent e = record {
      runs = ap (λ (r : Rest ℕ). onward r (λ block n s. spend (block_from rows bounds block) n s)) (placed-spent left store) ∙ sym (tried ∙ ap (λ (r : Rest ℤ). onward r after_guard) (not_entered (value_at rows bounds (number_at rows at 1)) store left e));
      steps = trying.steps;
      below = λ block g. absurd (let w : position_of None ≡ Some block = rw (operand-other (pos 2147483648) (omega arith) (no-return-below 2147483648 (omega arith))) at g in let v : ◌≡◌ {A = ℕ} 0 1 = cc in omega arith);
    }

    -- the guard's answer, behind the step for the arm's row
    pub guard-answered : (left ≡ 0 → ⊥) → (r : ℤ) (k : ℕ) (t : List ℤ) {l : ℕ} → l ≡ number_at rows at 1 → answered r k t ≡ spend (value_at rows bounds l) (left - 1) store
        → answered r k t ≡ spend (guard_at rows bounds at) left store
    guard-answered z r k t p h = h ∙ ap (λ (l : ℕ). spend (value_at rows bounds l) (left - 1) store) p ∙ sym (entered (value_at rows bounds (number_at rows at 1)) store left z)

    -- the guard's answer
    module _ (r : ℤ) (k : ℕ) (t : List ℤ) (fits : mag r < 2 ^ 63) (h : answered r k t ≡ spend (guard_at rows bounds at) left store) (o : Option ℤ) (e : o ≡ operand_of (handed r)) where
      fewer : k ≤ n
      fewer = omega (arith, answered-least r k t left store (guard_at rows bounds at) h, trying.steps)

      pub chooses-stop : o ≡ None → Chooses rows bounds first n s (handed r) k t
      chooses-stop q = record {
        runs = rw (← e, q, handed-is r fits) (sym (tried ∙ stops after_guard r k t fits h o e q));
        steps = fewer;
        below = λ block g. absurd (let w : position_of None ≡ Some block = rw (← e, q) at g in let v : ◌≡◌ {A = ℕ} 0 1 = cc in omega arith);
      }

      module _ (v : ℤ) (q : o ≡ Some v) where
        pub chooses-block : is_true v ≡ true → {block : ℕ} → block ≡ number_at rows at 2 → Chooses rows bounds first n s (to_z w64 block) k t
        chooses-block true-is {block} b =
            let inside : block < row_count rows = rw b (arm-links arm-here).1.inside in
            let small : block < 2 ^ 31 = omega (arith, trying.arms.ready.setting.few_rows) in
            record {
              runs =
                  ap (λ (r : Rest ℕ). onward r (λ block n s. spend (block_from rows bounds block) n s)) (placed-position block small k t)
                  ∙ ap (λ (l : ℕ). spend (block_from rows bounds l) k t) b
                  ∙ sym (tried ∙ goes after_guard r k t fits h o e v q ∙ chosen-true (is_true v) _ _ true-is);
              steps = fewer;
              below = λ other g. omega (arith, at_same (sym (position_is block small) ∙ g));
            }

        pub trying-next : is_true v ≡ false → length t ≡ length store → {behind : ℕ} → behind ≡ number_at rows at 5 → Trying rows bounds words first n s behind k t
        trying-next false-is kept b = record {
          arms = arms-ready arm-here (arm-links arm-here).2 b refl;
          same = kept ∙ trying.same;
          steps = fewer;
          runs = tried ∙ goes after_guard r k t fits h o e v q ∙ chosen-false (is_true v) _ _ false-is ∙ ap (λ (l : ℕ). spend (arms_from rows bounds l) k t) (sym b);
        }

-- ---- the rounds of a guarded do

-- a round is what its arms come to, and the rounds again or their end
round-of : (m : Computation Choice) (n : ℕ) (s : List ℤ) → spend (loop (do choice ← m; ret (after_arms choice))) n s
    ≡ onward (spend (enter m) n s) (λ choice n s. on_turn (spend (loop (do choice ← m; ret (after_arms choice)))) (after_arms choice) n s)
unfolding spend
round-of m n s =
    let rounds : Computation Signal = loop (do choice ← m; ret (after_arms choice)) in
    loop-round (do choice ← m; ret (after_arms choice)) n s
    ∙ ap (λ (r : Rest (Turn Signal)). onward r (on_turn (spend rounds))) (onward-onward (pay n s) (λ _ n s. spend m n s) (λ choice n s. gives (after_arms choice) n s))
    ∙ sym (onward-onward (spend (enter m) n s) (λ choice n s. gives (after_arms choice) n s) (on_turn (spend rounds)))

no-round : (n : ℕ) (s : List ℤ) → spend (ret next) n s ≡ onward (spend (ret none_true) n s) (λ choice n s. on_turn (spend (ret next)) (after_arms choice) n s)
unfolding spend
no-round n s = refl

pub choice-round : (C : Context) (arms : Arms) (n : ℕ) (s : List ℤ) → spend (choice_rounds C arms) n s
    ≡ onward (spend (choose C arms) n s) (λ choice n s. on_turn (spend (choice_rounds C arms)) (after_arms choice) n s)
unfolding choose choice_rounds
choice-round C no_arm n s = no-round n s
choice-round C (arm guard body arms) n s = round-of (try_arm (value C guard) (enter (perform C body)) (choose C arms)) n s

-- what follows the arms of a guarded if
choice-fails : (n : ℕ) (s : List ℤ) → spend (after_choice none_true) n s ≡ halts (fault Guard) n s
unfolding spend
choice-fails n s = refl

choice-ends : (m : Rest Signal) → onward m (λ signal n s. spend (after_choice (ran_with signal)) n s) ≡ m
unfolding spend
choice-ends (gives signal n s) = refl
choice-ends (halts why n s) = refl

-- ---- what is left of a guarded statement, with its arms from `first` on; a do repeats

abbrev pub guarded_rest : Bool → List ℤ → List ℕ → ℕ → ℕ → List ℤ → Rest Signal
guarded_rest repeats rows bounds first n s =
    pick repeats (spend (choice_rounds (context_at rows bounds) (arm_list_at rows first)) n s) (onward (spend (arms_from rows bounds first) n s) (λ choice n s. spend (after_choice choice) n s))

-- what follows its arms
abbrev pub guarded_after : Bool → List ℤ → List ℕ → ℕ → Choice → ℕ → List ℤ → Rest Signal
guarded_after repeats rows bounds first choice n s =
    pick repeats (rounded (spend (choice_rounds (context_at rows bounds) (arm_list_at rows first))) choice n s) (spend (after_choice choice) n s)

pub guarded-turn : (repeats : Bool) (rows : List ℤ) (bounds : List ℕ) (first n : ℕ) (s : List ℤ)
    → guarded_rest repeats rows bounds first n s ≡ onward (spend (arms_from rows bounds first) n s) (guarded_after repeats rows bounds first)
guarded-turn true rows bounds first n s = choice-round (context_at rows bounds) (arm_list_at rows first) n s
guarded-turn false rows bounds first n s = refl

-- no guard is true
pub guarded-none : (repeats : Bool) (rows : List ℤ) (bounds : List ℕ) (first n : ℕ) (s : List ℤ) → guarded_after repeats rows bounds first none_true n s ≡ pick repeats (gives next n s) (halts (fault Guard) n s)
guarded-none true rows bounds first n s = refl
guarded-none false rows bounds first n s = choice-fails n s

module _ (repeats : Bool) (rows : List ℤ) (bounds : List ℕ) (first : ℕ) where
  module _ (e : repeats ≡ true) where
    -- a block ran
    pub guarded-again : (m : Rest Signal) → onward m (λ signal n s. guarded_after repeats rows bounds first (ran_with signal) n s)
        ≡ onward m (λ signal n s. rounded (spend (choice_rounds (context_at rows bounds) (arm_list_at rows first))) (ran_with signal) n s)
    guarded-again m = rw e

    pub guarded-rounds : (n : ℕ) (s : List ℤ) → spend (choice_rounds (context_at rows bounds) (arm_list_at rows first)) n s ≡ guarded_rest repeats rows bounds first n s
    guarded-rounds n s = rw e

  module _ (e : repeats ≡ false) where
    pub guarded-once : (m : Rest Signal) → onward m (λ signal n s. guarded_after repeats rows bounds first (ran_with signal) n s) ≡ m
    guarded-once m = rw e (choice-ends m)

-- ---- rows of guarded statements

module _ {rows : List ℤ} {bounds : List ℕ} {words row : ℕ} where
  module _ {kind : Kind} (here : Entered rows bounds words row kind) where
    abbrev whole : length rows ≡ 6 * row_count rows
    whole = here.ready.setting.sound.whole

  guarded-if-link : Entered rows bounds words row (OfStatement GuardedIf) → ArmLink rows (layout_in rows bounds) words row 1
  unfolding sort_in kind_row statement_fields
  guarded-if-link here = arm-link-of here.ready.setting.sound here.ready.below here.kind_is 1 (omega arith) (omega arith) refl

  guarded-do-link : Entered rows bounds words row (OfStatement GuardedDo) → ArmLink rows (layout_in rows bounds) words row 1
  unfolding sort_in kind_row statement_fields
  guarded-do-link here = arm-link-of here.ready.setting.sound here.ready.below here.kind_is 1 (omega arith) (omega arith) refl

  guarded-if-row : Entered rows bounds words row (OfStatement GuardedIf) → {a : ℕ} → a ≡ number_at rows row 1 → (n : ℕ) (s : List ℤ)
      → spend (perform_at rows bounds row) n s ≡ onward (spend (arms_from rows bounds a) n s) (λ choice n s. spend (after_choice choice) n s)
  unfolding spend perform
  guarded-if-row here p n s =
      known rows bounds row _ n s (at-guarded_if rows (whole here) row here.kind_is (λ h. (guarded-if-link here h).0.later) ∙ ap (λ (k : ℕ). guarded_if (arm_list_at rows k)) (sym p))

  guarded-do-row : Entered rows bounds words row (OfStatement GuardedDo) → {a : ℕ} → a ≡ number_at rows row 1 → (n : ℕ) (s : List ℤ)
      → spend (perform_at rows bounds row) n s ≡ spend (choice_rounds (context_at rows bounds) (arm_list_at rows a)) n s
  unfolding perform
  guarded-do-row here p n s =
      known rows bounds row _ n s (at-guarded_do rows (whole here) row here.kind_is (λ h. (guarded-do-link here h).0.later) ∙ ap (λ (k : ℕ). guarded_do (arm_list_at rows k)) (sym p))

  -- both: what is left of a guarded statement, a do where it repeats, with its arms from `first` on
  pub guarded-link : (repeats : Bool) → Entered rows bounds words row (OfStatement (pick repeats GuardedDo GuardedIf)) → ArmLink rows (layout_in rows bounds) words row 1
  guarded-link true here = guarded-do-link here
  guarded-link false here = guarded-if-link here

  pub guarded-row : (repeats : Bool) → Entered rows bounds words row (OfStatement (pick repeats GuardedDo GuardedIf)) → {a : ℕ} → a ≡ number_at rows row 1 → (n : ℕ) (s : List ℤ)
      → spend (perform_at rows bounds row) n s ≡ guarded_rest repeats rows bounds a n s
  guarded-row true here p n s = guarded-do-row here p n s
  guarded-row false here p n s = guarded-if-row here p n s

  pub abort-row : Entered rows bounds words row (OfStatement Abort) → (n : ℕ) (s : List ℤ) → spend (perform_at rows bounds row) n s ≡ halts (fault Guard) n s
  unfolding spend perform
  abort-row here n s = known rows bounds row _ n s (at-abort rows (whole here) row here.kind_is)

-- ---- the block that an answer names

module _ {rows : List ℤ} {bounds : List ℕ} {first n : ℕ} {s : List ℤ} (r : ℤ) (k : ℕ) (t : List ℤ) (choice : Chooses rows bounds first n s r k t) (fits : mag r < 2 ^ 63)
    (p : Option ℕ) (e : p ≡ position_of (operand_of (handed r))) where
  position-says : position_of (operand_of r) ≡ p
  position-says = ap (λ (z : ℤ). position_of (operand_of z)) (sym (handed-is r fits)) ∙ sym e

  halted-at : (o : Option ℤ) → position_of o ≡ None → o ≡ None
  halted-at (Some v) q = absurd (let w : ◌≡◌ {A = ℕ} 0 1 = cc in omega arith)
  halted-at None q = refl

  -- the run stops; `f` is what would follow the arms
  pub choice-stops : p ≡ None → (f : Choice → ℕ → List ℤ → Rest Signal) → ran (handed r) k t ≡ onward (spend (arms_from rows bounds first) n s) f
  choice-stops q f = ran-handed r k t fits ∙ rw (flow-stops r (halted-at (operand_of r) (position-says ∙ q))) (rw (← choice.runs, position-says, q))

  module _ (block : ℕ) (q : p ≡ Some block) where
    pub block-below : block < row_count rows
    block-below = choice.below block (position-says ∙ q)

    pub choice_none : block ≡ 0 → (f : Choice → ℕ → List ℤ → Rest Signal) → onward (spend (arms_from rows bounds first) n s) f ≡ f none_true k t
    unfolding spend
    choice_none z f = rw (← choice.runs, position-says, q, z)

    pub choice-block : (block ≡ 0 → ⊥) → (f : Choice → ℕ → List ℤ → Rest Signal)
        → onward (spend (arms_from rows bounds first) n s) f ≡ onward (spend (exec_at rows bounds block) k t) (λ signal n s. f (ran_with signal) n s)
    choice-block z f =
        let here : chosen rows bounds r k t ≡ onward (spend (exec_at rows bounds block) k t) (λ signal n s. gives (ran_with signal) n s) = rw (position-says, q) (block-there rows bounds block z k t) in
        ap (λ (x : Rest Choice). onward x f) (sym choice.runs ∙ here)
        ∙ sym (onward-onward (spend (exec_at rows bounds block) k t) (λ signal n s. gives (ran_with signal) n s) f)
