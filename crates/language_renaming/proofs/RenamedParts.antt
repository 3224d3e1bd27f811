-- Renamed parts of programs: expressions, a line for each kind; loops and arms over what they hold.
use Rattle.std.specs.Prelude.{refl, List, ℕ, ℤ, pos}
use Rattle.words.specs.Layout.{Layout, array_base, array_length}
use Rattle.words.specs.declared.Operator.{Operator}
use Rattle.words.specs.declared.FaultSort.TheVariants.{Guard}
use Rattle.arithmetic.proofs.Laws.{element-inside}
use Rattle.arithmetic.specs.Arithmetic.{is_true, apply, minus as minus_word, element as element_word}
use Rattle.computation.specs.Computation.{Turn, again, leave, Computation, save}
use Rattle.computation.specs.Agreement.{Words}
use Rattle.language.specs.Trees.{Expression, constant, read, minus, not, binary, and, or, comma, conditional, assign, compound, prefix, postfix, call, Place, variable, element, Arguments, no_more, ◌also◌, Part, absent, present}
use Rattle.language.specs.Meaning.{enter, update, evaluate, locate, given, value, value_of, Signal, next, breaking, continuing, seeking, returning, after_body, Choice, none_true, ran, after_choice, try_arm, rounds}
use Rattle.language.specs.WellFormed.{NamedExpression, NamedPlace, NamedArguments, NamedPart}
use Rattle.language.specs.Functions.{context_by}
use Rattle.language_renaming.specs.Renaming.{renamed, renamed_place, renamed_arguments, renamed_part}
use Rattle.language_renaming.specs.Twin.{Alike, Equal, There, TurnOf, Renames, Callings}
use Rattle.language_renaming.proofs.TwinLaws.{alike-ret, alike_then, alike-bind, alike-enter, alike-load, alike-save, alike-fail, alike-settle, alike-pick, alike-loop}

module _ {L : Layout} {arrays : ℕ} {All : Words} {π : ℕ → ℕ} {Visible P : Words} (h : Renames L arrays All π Visible P) where
  -- Nothing more is known afterwards, and nothing less.
  abbrev pub Same : {A B : Type 0} → (A → B → Type 0) → Computation A → Computation B → Type 0
  Same Val m n = Alike All π Visible P P Val m n

  pub same-enter : {A B : Type 0} {Val : A → B → Type 0} {m : Computation A} {n : Computation B} → Same Val m n → Same Val (enter m) (enter n)
  same-enter p = alike-enter h.visible p

  same-save : {i j : ℕ} (v : ℤ) → There P π i j → Same Equal (save i v) (save j v)
  same-save {i} v there = rw there.1 (alike-save i v h.apart h.known (h.known i there.0) (λ j q _. q))

  same_update : (operator : Operator) (right : ℤ) (result : ℤ → ℤ → ℤ) {i j : ℕ} → There P π i j → Same Equal (update operator i right result) (update operator j right result)
  same_update operator right result there =
      alike-bind (alike-load there) (λ old. alike-bind (alike-settle (apply operator old right) h.visible (λ _ _. refl)) (λ new. alike_then (same-save new there) (λ _ _ _. alike-ret refl)))

-- ---- expressions

module _ {L : Layout} {arrays : ℕ} {All : Words} {π ρ : ℕ → ℕ} {Visible : Words} {c d : ℕ → List ℤ → Computation ℤ} (k : Callings L arrays All π ρ Visible c d)
    {P : Words} (h : Renames L arrays All π Visible P) where
  mutual
    unfolding evaluate renamed NamedExpression

    pub expression-same : (e : Expression) → NamedExpression P arrays e → Same h Equal (evaluate (context_by L c) e) (evaluate (context_by L d) (renamed π ρ e))
    expression-same (constant v) n = alike-ret refl
    expression-same (read p) n = alike_then (place_same p n) (λ i j there. alike-load there)
    expression-same (minus e) n = alike-bind (same-enter h (expression-same e n)) (λ v. alike-settle (minus_word v) h.visible (λ _ _. refl))
    expression-same (not e) n = alike-bind (same-enter h (expression-same e n)) (λ v. alike-ret refl)
    expression-same (binary operator a b) n =
        alike-bind (same-enter h (expression-same b n.1)) (λ right. alike-bind (same-enter h (expression-same a n.0)) (λ left. alike-settle (apply operator left right) h.visible (λ _ _. refl)))
    expression-same (and a b) n =
        alike-bind (same-enter h (expression-same a n.0)) (λ v. alike-pick (is_true v) (alike-bind (same-enter h (expression-same b n.1)) (λ w. alike-ret refl)) (alike-ret refl))
    expression-same (or a b) n =
        alike-bind (same-enter h (expression-same a n.0)) (λ v. alike-pick (is_true v) (alike-ret refl) (alike-bind (same-enter h (expression-same b n.1)) (λ w. alike-ret refl)))
    expression-same (comma a b) n = alike-bind (same-enter h (expression-same a n.0)) (λ _. same-enter h (expression-same b n.1))
    expression-same (conditional c a b) n =
        alike-bind (same-enter h (expression-same c n.0)) (λ v. alike-pick (is_true v) (same-enter h (expression-same a n.1)) (same-enter h (expression-same b n.2)))
    expression-same (assign p e) n =
        alike-bind (same-enter h (expression-same e n.1)) (λ v. alike_then (same-enter h (place_same p n.0)) (λ i j there. alike_then (same-save h v there) (λ _ _ _. alike-ret refl)))
    expression-same (compound operator p e) n = alike-bind (same-enter h (expression-same e n.1)) (λ v. alike_then (same-enter h (place_same p n.0)) (λ i j there. same_update h operator v _ there))
    expression-same (prefix operator p) n = alike_then (same-enter h (place_same p n)) (λ i j there. same_update h operator (pos 1) _ there)
    expression-same (postfix operator p) n = alike_then (same-enter h (place_same p n)) (λ i j there. same_update h operator (pos 1) _ there)
    expression-same (call f arguments) n = alike-bind (arguments-same arguments n) (λ values. k.calls h f values)

    place_same : (p : Place) → NamedPlace P arrays p → Same h (There P π) (locate (context_by L c) p) (locate (context_by L d) (renamed_place π ρ p))
    place_same (variable i) n = alike-ret (n, refl)
    place_same (element array e) n =
        alike-bind (same-enter h (expression-same e n.1)) (λ v. alike-settle (element_word (array_base L array) (array_length L array) v) h.visible
        (λ i q. let inside = element-inside (array_base L array) (array_length L array) v i q in h.elements array n.0 i inside.least inside.most))

    arguments-same : (arguments : Arguments) → NamedArguments P arrays arguments → Same h Equal (given (context_by L c) arguments) (given (context_by L d) (renamed_arguments π ρ arguments))
    arguments-same no_more n = alike-ret refl
    arguments-same (e also arguments) n = alike-bind (arguments-same arguments n.1) (λ values. alike-bind (same-enter h (same-enter h (expression-same e n.0))) (λ v. alike-ret refl))

  pub value_same : (e : Expression) → NamedExpression P arrays e → Same h Equal (value (context_by L c) e) (value (context_by L d) (renamed π ρ e))
  value_same e n = same-enter h (expression-same e n)

  pub part_same : (p : Part) → NamedPart P arrays p → Same h Equal (value_of (context_by L c) p) (value_of (context_by L d) (renamed_part π ρ p))
  part_same absent n = alike-ret refl
  part_same (present e) n = value_same e n

  -- ---- loops and arms

  pub same_body : {r q : Computation (Turn Signal)} → Same h (TurnOf Equal) r q → (signal : Signal) → Same h (TurnOf Equal) (after_body r signal) (after_body q signal)
  same_body p next = p
  same_body p continuing = p
  same_body p breaking = alike-ret refl
  same_body p (seeking m) = alike-ret refl
  same_body p (returning v) = alike-ret refl

  pub same-rounds : (test action : Part) {m n : Computation Signal} → NamedPart P arrays test → NamedPart P arrays action → Same h Equal m n
      → Same h Equal (rounds (context_by L c) test action m) (rounds (context_by L d) (renamed_part π ρ test) (renamed_part π ρ action) n)
  same-rounds (present e) action n a p =
      alike-loop h.visible (alike-bind (expression-same e n) (λ v. alike-pick (is_true v) (alike-bind (same-enter h p) (λ s. same_body (alike-bind (part_same action a) (λ _. alike-ret tt)) s)) (alike-ret refl)))
  same-rounds absent action n a p = alike-loop h.visible (alike-bind p (λ s. same_body (alike-bind (part_same action a) (λ _. alike-ret tt)) s))

  pub same_arm : {guard guard' : Computation ℤ} {body body' : Computation Signal} {rest rest' : Computation Choice} → Same h Equal guard guard' → Same h Equal body body' → Same h Equal rest rest'
      → Same h Equal (try_arm guard body rest) (try_arm guard' body' rest')
  same_arm g b r = alike-bind g (λ v. alike-pick (is_true v) (alike-bind b (λ signal. alike-ret refl)) r)

  pub same-choice : (choice : Choice) → Same h Equal (after_choice choice) (after_choice choice)
  same-choice none_true = alike-fail Guard h.visible
  same-choice (ran signal) = alike-ret refl

  pub same_turn : (turn : Turn Signal) → TurnOf Equal turn turn
  same_turn again = tt
  same_turn (leave signal) = refl
