-- Renamed functions: a function's parameters become known when they are stored, so its calls go alike whatever the caller knows. By induction on the
-- calls within calls, both programs with as many.
use Rattle.std.specs.Prelude.{◌≡◌, ℤ, pos}
use Rattle.std.proofs.Math.Path.{refl}
use Rattle.std.proofs.Common.{inl, inr}
use mathlib.Core.List.{List, [], ◌∷◌, map}
use Prim.Native.Nat.{ℕ, zero, suc}
use Rattle.words.specs.Layout.{Layout}
use Rattle.computation.specs.Computation.{ret}
use Rattle.computation.specs.Agreement.{Words, ◌within◌}
use Rattle.language.specs.Trees.{Items}
use Rattle.language.specs.Meaning.{next, perform}
use Rattle.language.specs.Functions.{Function, function_of, storing, invoke, call_by}
use Rattle.language_renaming.specs.Renaming.{renamed_items}
use Rattle.language_renaming.specs.Scoped.{ScopedItems}
use Rattle.language_renaming.proofs.ScopedLaws.{items_more}
use Rattle.language_renaming.specs.Twin.{Alike, Equal, Renames, Callings, ◌with◌}
use Rattle.language_renaming.proofs.TwinLaws.{alike-weaker, alike-ret, alike_then, alike-bind, alike-enter, alike-save}
use Rattle.language_renaming.proofs.Declared.{with-named, renames-with}
use Rattle.language_renaming.proofs.Renamed.{items-same}

-- More words.
unfoldable pub with_all : Words → List ℕ → Words
with_all P [] = P
with_all P (word ∷ words) = with_all (P with word) words

abbrev pub AllOf : Words → List ℕ → Type 0
AllOf All [] = Unit {0}
AllOf All (word ∷ words) = All word × AllOf All words

abbrev pub renamed_function : (ℕ → ℕ) → (ℕ → ℕ) → Function → Function
renamed_function π ρ function = record { parameters = map π function.parameters; body = renamed_items π ρ function.body }

-- A function's block is scoped by itself: it sees its parameters and what every function sees.
pub record ScopedFunction (All : Words) (arrays : ℕ) (Visible : Words) (function : Function) : Type 0 where
  pub named : AllOf All function.parameters
  pub scoped : ScopedItems All arrays (with_all Visible function.parameters) function.body

all_more : {P Q : Words} (words : List ℕ) → P within Q → with_all P words within with_all Q words
unfolding with_all
all_more [] h = h
all_more {P} {Q} (word ∷ words) h = all_more words one
  where
    one : (P with word) within (Q with word)
    one i (inl p) = inl (h i p)
    one i (inr e) = inr e

with-all : (P : Words) (words : List ℕ) → P within with_all P words
unfolding with_all
with-all P [] i p = p
with-all P (word ∷ words) i p = with-all (P with word) words i (inl p)

module _ {L : Layout} {arrays : ℕ} {All : Words} {π : ℕ → ℕ} {Visible : Words} where
  renames-all : {P : Words} → Renames L arrays All π Visible P → (words : List ℕ) → AllOf All words → Renames L arrays All π Visible (with_all P words)
  unfolding with_all
  renames-all h [] a = h
  renames-all h (word ∷ words) a = renames-all (renames-with h word a.0) words a.1

  stored_same : {P : Words} → Renames L arrays All π Visible P → (words : List ℕ) (values : List ℤ) → AllOf All words
      → Alike All π Visible P (with_all P words) Equal (storing words values) (storing (map π words) values)
  unfolding with_all storing
  stored_same h [] values a = alike-ret refl
  stored_same {P} h (word ∷ words) [] a = alike_then (alike-save word (pos 0) h.apart (with-named h word a.0) a.0 older) (λ _ _ _. stored_same (renames-with h word a.0) words [] a.1)
    where
      older : (j : ℕ) → (P with word) j → (j ≡ word → ⊥) → P j
      older j (inl p) d = p
      older j (inr e) d = absurd (d e)
  stored_same {P} h (word ∷ words) (v ∷ values) a = alike_then (alike-save word v h.apart (with-named h word a.0) a.0 older) (λ _ _ _. stored_same (renames-with h word a.0) words values a.1)
    where
      older : (j : ℕ) → (P with word) j → (j ≡ word → ⊥) → P j
      older j (inl p) d = p
      older j (inr e) d = absurd (d e)

  module _ {ρ : ℕ → ℕ} (program renamedProgram : Items) (same : (f : ℕ) → function_of (ρ f) renamedProgram ≡ renamed_function π ρ (function_of f program))
      (scoped : (f : ℕ) → ScopedFunction All arrays Visible (function_of f program)) where
    -- Calls of a program and of the renamed one go alike.
    pub renamed-calls : (calls : ℕ) → Callings L arrays All π ρ Visible (call_by calls L program) (call_by calls L renamedProgram)
    unfolding call_by invoke perform
    renamed-calls zero = record { calls = λ h f values. alike-ret refl }
    renamed-calls (suc calls) = record {
      calls = λ h f values.
          let words = (function_of f program).parameters in
          let inner = renames-all h words (scoped f).named in
          rw (same f) (alike_then (stored_same h words values (scoped f).named) (λ _ _ _.
          alike-weaker (λ i p. p) (with-all _ words) (alike-bind (alike-enter inner.visible (items-same (renamed-calls calls) inner (function_of f program).body (items_more arrays All (all_more words h.visible) (function_of f program).body (scoped f).scoped) next))
          (λ signal. alike-ret refl))));
    }

-- Of programs without functions.
pub plain-calls : {L : Layout} {arrays : ℕ} {All : Words} {π ρ : ℕ → ℕ} {Visible : Words} → Callings L arrays All π ρ Visible (λ f values. ret (pos 0)) (λ f values. ret (pos 0))
plain-calls = record { calls = λ h f values. alike-ret refl }
