-- Renamed programs: statements, a line for each kind, and the theorem: a scoped program and its renamed one run alike under every limit,
-- so that a run that is cut off is covered too; whatever the declared words held at the start, in the two runs independently.
use Rattle.std.specs.Prelude.{refl, List, ℕ, ℤ}
use Rattle.std.proofs.Common.{subst}
use Rattle.words.specs.Layout.{Layout}
use Rattle.words.specs.declared.FaultSort.TheVariants.{Guard}
use Rattle.arithmetic.specs.Arithmetic.{is_true}
use Rattle.computation.specs.Computation.{Computation}
use Rattle.computation.specs.Run.{State, Limit, run}
use Rattle.computation.specs.Agreement.{Words}
use Rattle.language.specs.Trees.{absent, present, Statement, empty, express, block, if_then, if_else, while, do_while, for, switch, break, continue, goto, guarded_if, guarded_do, abort, declare, give_back, Arms, no_arm, arm, Items, none, ◌then◌, ◌here◌, define}
use Rattle.language.specs.Meaning.{Signal, next, enters_mark, target, after_arms, perform, choose, choice_rounds, items, exec}
use Rattle.language.specs.Functions.{context_by}
use Rattle.language_renaming.specs.Renaming.{renamed_statement, renamed_arms, renamed_items}
use Rattle.language_renaming.proofs.RenamingLaws.{target-renamed, itself, statement-itself}
use Rattle.language_renaming.specs.Scoped.{declared, behind, Scoped, ScopedArms, ScopedItems}
use Rattle.language_renaming.specs.Twin.{Twin, TwinResult, Alike, Equal, Renames, Callings}
use Rattle.language_renaming.proofs.TwinLaws.{alike-ret, alike-bind, alike-fail, alike-pick, alike-loop}
use Rattle.language_renaming.proofs.RenamedParts.{Same, same-enter, value_same, part_same, same_body, same-rounds, same_arm, same-choice, same_turn}
use Rattle.language_renaming.proofs.Declared.{renames-behind, declared_same, forget, item-same}

module _ {L : Layout} {arrays : ℕ} {All : Words} {π ρ : ℕ → ℕ} {Visible : Words} {c d : ℕ → List ℤ → Computation ℤ} (k : Callings L arrays All π ρ Visible c d) where
  mutual
    unfolding perform renamed_statement Scoped declared behind

    pub statement-same : {P : Words} (h : Renames L arrays All π Visible P) (s : Statement) → Scoped All arrays P s
        → Alike All π Visible P (behind P (declared s)) Equal (perform (context_by L c) s) (perform (context_by L d) (renamed_statement π ρ s))
    statement-same h empty n = alike-ret refl
    statement-same h (express e) n = alike-bind (value_same k h e n) (λ _. alike-ret refl)
    statement-same h (block is) n = items-same h is n next
    statement-same h (if_then e s) n = alike-bind (value_same k h e n.0) (λ v. alike-pick (is_true v) (same-enter h (forget h (declared s) (statement-same h s n.1))) (alike-ret refl))
    statement-same h (if_else e s r) n = alike-bind (value_same k h e n.0) (λ v. alike-pick (is_true v) (same-enter h (forget h (declared s) (statement-same h s n.1))) (same-enter h (forget h (declared r) (statement-same h r n.2))))
    statement-same h (while e s) n = same-rounds k h (present e) absent n.0 tt (forget h (declared s) (statement-same h s n.1))
    statement-same h (do_while s e) n =
        alike-loop h.visible (alike-bind (forget h (declared s) (statement-same h s n.0)) (λ signal. same_body k h (alike-bind (value_same k h e n.1) (λ v. alike-pick (is_true v) (alike-ret tt) (alike-ret refl))) signal))
    statement-same h (for a b c s) n = alike-bind (part_same k h a n.0) (λ _. same-rounds k h b c n.1 n.2 (forget h (declared s) (statement-same h s n.3)))
    statement-same h (switch e is) n =
        alike-bind (value_same k h e n.0)
        (λ v. alike-bind (subst (λ (signal : Signal). Same h Equal (items (context_by L c) is (target v is)) (items (context_by L d) (renamed_items π ρ is) signal)) (target-renamed π ρ v is) (items-same h is n.1 (target v is))) (λ _. alike-ret refl))
    statement-same h break n = alike-ret refl
    statement-same h continue n = alike-ret refl
    statement-same h (goto l) n = alike-ret refl
    statement-same h (guarded_if arms) n = alike-bind (arms_same h arms n) (λ choice. same-choice k h choice)
    statement-same h (guarded_do arms) n = arm-rounds-same h arms n
    statement-same h abort n = alike-fail Guard h.visible
    statement-same h (declare word e) n = declared_same k h word e n.0 n.1
    statement-same h (give_back value) n = alike-bind (part_same k h value n) (λ _. alike-ret refl)

    arms_same : {P : Words} (h : Renames L arrays All π Visible P) (arms : Arms) → ScopedArms All arrays P arms → Same h Equal (choose (context_by L c) arms) (choose (context_by L d) (renamed_arms π ρ arms))
    arms_same h no_arm n = alike-ret refl
    arms_same h (arm guard body arms) n = same-enter h (same_arm k h (value_same k h guard n.0) (same-enter h (forget h (declared body) (statement-same h body n.1))) (arms_same h arms n.2))

    arm-rounds-same : {P : Words} (h : Renames L arrays All π Visible P) (arms : Arms) → ScopedArms All arrays P arms → Same h Equal (choice_rounds (context_by L c) arms) (choice_rounds (context_by L d) (renamed_arms π ρ arms))
    arm-rounds-same h no_arm n = alike-ret refl
    arm-rounds-same h (arm guard body arms) n =
        alike-loop h.visible (alike-bind (same_arm k h (value_same k h guard n.0) (same-enter h (forget h (declared body) (statement-same h body n.1))) (arms_same h arms n.2)) (λ choice. alike-ret (same_turn k h (after_arms choice))))

    pub items-same : {P : Words} (h : Renames L arrays All π Visible P) (is : Items) → ScopedItems All arrays P is → (signal : Signal) → Same h Equal (items (context_by L c) is signal) (items (context_by L d) (renamed_items π ρ is) signal)
    items-same h none n signal = alike-ret refl
    items-same h (s then is) n signal = item-same k h (declared s) is n.1 (statement-same h s n.0) (λ after. items-same (renames-behind h s n.0) is n.2 after) signal
    items-same h (m here is) n signal = alike-bind (alike-pick (enters_mark signal m) (same-enter h (alike-ret refl)) (alike-ret refl)) (λ after. items-same h is n after)
    items-same h (define f words body is) n signal = items-same h is n signal

  -- The theorem: from states that are twins on the words known at the start, a program and the renamed one come to the same ending with the
  -- same count, and to twin states.
  pub scoped-runs : {P : Words} → Renames L arrays All π Visible P → (s : Statement) → Scoped All arrays P s
      → (l : Limit) (σ τ : State) → Twin All π P σ τ → TwinResult All π Visible P Equal (run l (exec (context_by L c) s) σ) (run l (exec (context_by L d) (renamed_statement π ρ s)) τ)
  scoped-runs h s n l σ τ t = (same-enter h (forget h (declared s) (statement-same h s n))).goes l σ τ t

-- A program runs alike from stores that agree on the words known at the start, whatever the other words hold.
pub independent-runs : {L : Layout} {arrays : ℕ} {All Visible P : Words} {c : ℕ → List ℤ → Computation ℤ} → Callings L arrays All itself itself Visible c c → Renames L arrays All itself Visible P → (s : Statement) → Scoped All arrays P s
    → (l : Limit) (σ τ : State) → Twin All itself P σ τ → TwinResult All itself Visible P Equal (run l (exec (context_by L c) s) σ) (run l (exec (context_by L c) s) τ)
independent-runs k h s n l σ τ t = rw (statement-itself s) at (scoped-runs k h s n l σ τ t)
