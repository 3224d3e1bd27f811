-- Laws of the writes that a run makes: what a store adds to them; of a log in two parts; what first ones are.
use Rattle.std.specs.Prelude.{◌≡◌, refl, List, [], ◌∷◌, ◌++◌, ℕ, ◌≤◌, ◌<◌, ltb, ℤ, length, take}
use Rattle.std.proofs.Common.{sym, ap, ◌∙◌, append-nil, append_assoc, take_at, lt-ltb, le-ltb}
use Rattle.words.specs.Word.{pick}
use Rattle.computation.specs.Computation.{save}
use Rattle.computation.specs.Run.{Write, State, Limit, run}
use Rattle.computation.specs.WritesMade.{Stored, stored, visible, made, FirstOf}

module _ (S : ℕ) (l : Limit) (i : ℕ) (v : ℤ) (σ : State) where
  -- A store to one of the first S words is one write more, the last one, whatever the word held.
  pub store-is-made : i < S → made S (run l (save i v) σ) ≡ visible S σ.writes ++ record { place = i; value = v } ∷ []
  unfolding run visible
  store-is-made h = rw (lt-ltb i S h)

  -- A store to a word behind them is none.
  pub store-behind : S ≤ i → made S (run l (save i v) σ) ≡ visible S σ.writes
  unfolding run visible
  store-behind h = rw (le-ltb i S h) (append-nil (visible S σ.writes))

pub visible-append : (S : ℕ) (late early : List Write) → visible S (late ++ early) ≡ visible S early ++ visible S late
unfolding visible
visible-append S [] early = sym (append-nil (visible S early))
visible-append S (w ∷ late) early = ap (λ l. l ++ pick (ltb w.place S) (stored w ∷ []) []) (visible-append S late early) ∙ append_assoc (visible S early) (visible S late) _

pub first_taken : {ws vs : List Stored} → FirstOf ws vs → take (length ws) vs ≡ ws
first_taken {ws} f = rw f.are (take_at ws f.later (length ws) refl)

pub first-trans : {us vs ws : List Stored} → FirstOf us vs → FirstOf vs ws → FirstOf us ws
first-trans {us} f g = record { later = f.later ++ g.later; are = g.are ∙ ap (λ l. l ++ g.later) f.are ∙ append_assoc us f.later g.later }
