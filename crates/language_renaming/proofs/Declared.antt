-- Declared words: a declaration makes its word known, whatever it held before; how the rest of its list goes on, entered or passed over.
use Rattle.std.specs.Prelude.{◌≡◌, false, List, ℕ, ℤ, None, Option, Some}
use Rattle.std.proofs.Math.Path.{refl}
use Rattle.std.proofs.Common.{subst, sym, true≢false, inr}
use Rattle.std.proofs.Math.Logic.{inl}
use Rattle.words.specs.Word.{pick}
use Rattle.words.specs.Layout.{Layout}
use Rattle.computation.specs.Computation.{Computation, ret, ◌>>=◌}
use Rattle.computation.specs.Agreement.{Words, ◌within◌}
use Rattle.language.specs.Trees.{Expression, Statement, empty, express, block, if_then, if_else, while, do_while, for, switch, break, continue, goto, guarded_if, guarded_do, abort, declare, give_back, Items, none, ◌then◌, ◌here◌, define}
use Rattle.language.specs.Meaning.{enter, Signal, next, breaking, continuing, seeking, returning, enters_statement, perform, items}
use Rattle.language.specs.WellFormed.{NamedExpression}
use Rattle.language.specs.Functions.{context_by}
use Rattle.language_renaming.specs.Renaming.{renamed_statement, renamed_items}
use Rattle.language_renaming.specs.Scoped.{declared, behind, Unmarked, Unreached, Scoped}
use Rattle.language_renaming.specs.Twin.{Alike, Equal, Renames, Callings, ◌with◌}
use Rattle.language_renaming.proofs.TwinLaws.{alike-weaker, alike-ret, alike_then, alike-bind, alike-after, alike-enter, alike-save, alike-pick}
use Rattle.language_renaming.proofs.RenamedParts.{Same, same-enter, value_same}

module _ {L : Layout} {arrays : ℕ} {All : Words} {π : ℕ → ℕ} {Visible P : Words} (h : Renames L arrays All π Visible P) where
  pub with-named : (word : ℕ) → All word → (P with word) within All
  with-named word a i (inl p) = h.known i p
  with-named word a i (inr e) = subst All (sym e) a

  -- with one word more known it is a renaming still
  pub renames-with : (word : ℕ) → All word → Renames L arrays All π Visible (P with word)
  renames-with word a =
      record {
        apart = h.apart;
        known = with-named word a;
        visible = λ i v. inl (h.visible i v);
        elements = λ array b i least most. let e = h.elements array b i least most in (inl e.0, e.1);
      }

  -- what is known behind a statement
  pub renames-behind : (s : Statement) → Scoped All arrays P s → Renames L arrays All π Visible (behind P (declared s))
  unfolding Scoped declared behind
  renames-behind empty n = h
  renames-behind (express e) n = h
  renames-behind (block is) n = h
  renames-behind (if_then e on_true) n = h
  renames-behind (if_else e on_true on_false) n = h
  renames-behind (while e body) n = h
  renames-behind (do_while body e) n = h
  renames-behind (for first test action body) n = h
  renames-behind (switch e is) n = h
  renames-behind break n = h
  renames-behind continue n = h
  renames-behind (goto l) n = h
  renames-behind (guarded_if arms) n = h
  renames-behind (guarded_do arms) n = h
  renames-behind abort n = h
  renames-behind (declare word e) n = renames-with word n.0
  renames-behind (give_back value) n = h

  -- behind the list it is not known
  pub forget : (d : Option ℕ) {m n : Computation Signal} → Alike All π Visible P (behind P d) Equal m n → Same h Equal m n
  unfolding behind
  forget None p = p
  forget (Some word) p = alike-weaker (λ i p. p) (λ i p. inl p) p

module _ {L : Layout} {arrays : ℕ} {All : Words} {π ρ : ℕ → ℕ} {Visible : Words} {c d : ℕ → List ℤ → Computation ℤ} (k : Callings L arrays All π ρ Visible c d)
    {P : Words} (h : Renames L arrays All π Visible P) where
  -- the word is known from then on
  pub declared_same : (word : ℕ) (e : Expression) → All word → NamedExpression P arrays e
      → Alike All π Visible P (P with word) Equal (perform (context_by L c) (declare word e)) (perform (context_by L d) (renamed_statement π ρ (declare word e)))
  unfolding perform renamed_statement
  declared_same word e a n = alike-bind (value_same k h e n) (λ v. alike_then (alike-save word v h.apart (with-named h word a) a older) (λ _ _ _. alike-ret refl))
    where
      older : (j : ℕ) → (P with word) j → (j ≡ word → ⊥) → P j
      older j (inl p) d = p
      older j (inr e) d = absurd (d e)

  -- ---- the rest of a list

  -- no item is entered: nothing need be known
  passed-same : (is : Items) → Unmarked is → (signal : Signal) → enters_statement signal ≡ false → Same h Equal (items (context_by L c) is signal) (items (context_by L d) (renamed_items π ρ is) signal)
  unfolding items renamed_items Unmarked
  passed-same none u signal p = alike-ret refl
  passed-same (s then is) u next p = absurd (true≢false p)
  passed-same (s then is) u breaking p = alike-after (passed-same is u breaking p)
  passed-same (s then is) u continuing p = alike-after (passed-same is u continuing p)
  passed-same (s then is) u (seeking m) p = alike-after (passed-same is u (seeking m) p)
  passed-same (s then is) u (returning v) p = alike-after (passed-same is u (returning v) p)
  passed-same (m here is) u signal p = absurd u
  passed-same (define f words body is) u signal p = passed-same is u signal p

  -- an item and the rest of its list
  pub item-same : (own : Option ℕ) (is : Items) {m n : Computation Signal} → Unreached own is → Alike All π Visible P (behind P own) Equal m n
      → ((signal : Signal) → Alike All π Visible (behind P own) (behind P own) Equal (items (context_by L c) is signal) (items (context_by L d) (renamed_items π ρ is) signal))
      → (signal : Signal) → Same h Equal (pick (enters_statement signal) (enter m) (ret signal) >>= items (context_by L c) is) (pick (enters_statement signal) (enter n) (ret signal) >>= items (context_by L d) (renamed_items π ρ is))
  unfolding behind Unreached
  item-same None is u p r signal = alike-bind (alike-pick (enters_statement signal) (same-enter h p) (alike-ret refl)) r
  item-same (Some word) is u p r next = forget h (Some word) (alike-bind (alike-enter h.visible p) r)
  item-same (Some word) is u p r breaking = alike-after (passed-same is u breaking refl)
  item-same (Some word) is u p r continuing = alike-after (passed-same is u continuing refl)
  item-same (Some word) is u p r (seeking m) = alike-after (passed-same is u (seeking m) refl)
  item-same (Some word) is u p r (returning v) = alike-after (passed-same is u (returning v) refl)
