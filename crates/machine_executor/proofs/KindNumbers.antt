-- KindNumbers: the numbers of kinds that a match on them has passed.
use Prim.Native.Nat.{ℕ, ◌≤◌}
use mathlib.Core.Path.{◌≡◌, sym, ◌∙◌}
use mathlib.Core.Bool.{false, true≢false}
use native.Mathlib.Omega.{arith}
use lib.Dec.{leb, eqb}
use borrow.Author.Tests.{le-leb, leb-false, eqb-true, eqb-false}
use Rattle.words.specs.Word.{pick}
use Rattle.words.specs.Laws.{by_cases}
use Rattle.words.specs.Kinds.{kinds, kind_in, kind_of, between}
use Rattle.words.specs.KindLaws.{Passed, passed}
use Rattle.words.specs.declared.Kind.TheVariants.{OfStatement}
use Rattle.words.specs.declared.StatementKind.TheVariants.{GuardedIf, GuardedDo}

-- those that the match of `compute` passed: 1 to 5, 17 to 21, and 31
module _ {known : Type 0} (number : ℕ) (rest : Passed 31 1 number (Passed 17 5 number (Passed 1 5 number known))) where
  abbrev past-call : Passed 17 5 number (Passed 1 5 number known)
  past-call = (passed 31 1 number (Passed 17 5 number (Passed 1 5 number known)) rest).0

  pub beyond-assign : 17 ≤ number → 22 ≤ number
  beyond-assign h = (passed 17 5 number (Passed 1 5 number known) past-call).1 h

  pub not_call : number ≡ 31 → ⊥
  not_call e = omega (arith, (passed 31 1 number (Passed 17 5 number (Passed 1 5 number known)) rest).1 (omega arith))

  -- and it was none of 6 to 16
  pub passed-by : between 6 16 number ≡ false → 1 ≤ number → 22 ≤ number
  passed-by other h =
      let six : 6 ≤ number = (passed 1 5 number known (passed 17 5 number (Passed 1 5 number known) past-call).0).1 h in
      by_cases (leb number 16) (λ e. absurd (true≢false (sym (rw (le-leb 6 number six, e)) ∙ other))) (λ e. beyond-assign (omega (arith, leb-false number 16 e)))

-- those that the match of `perform` passed: 40 to 47, 50 to 52, 57 and 58, 60
module _ {known : Type 0} (number : ℕ) (rest : Passed 60 1 number (Passed 57 2 number (Passed 50 3 number (Passed 40 8 number known)))) where
  abbrev past-others : Passed 57 2 number (Passed 50 3 number (Passed 40 8 number known))
  past-others = (passed 60 1 number (Passed 57 2 number (Passed 50 3 number (Passed 40 8 number known))) rest).0

  abbrev past-jumps : Passed 50 3 number (Passed 40 8 number known)
  past-jumps = (passed 57 2 number (Passed 50 3 number (Passed 40 8 number known)) past-others).0

  pub not_plain : (40 ≤ number) × (number ≤ 47) → ⊥
  not_plain inside = omega (arith, inside.1, (passed 40 8 number known (passed 50 3 number (Passed 40 8 number known) past-jumps).0).1 inside.0)

  pub not-jump : (50 ≤ number) × (number ≤ 52) → ⊥
  not-jump inside = omega (arith, inside.1, (passed 50 3 number (Passed 40 8 number known) past-jumps).1 inside.0)

  pub not-other : (57 ≤ number) × (number ≤ 58) → ⊥
  not-other inside = omega (arith, inside.1, (passed 57 2 number (Passed 50 3 number (Passed 40 8 number known)) past-others).1 inside.0)

  pub not-return : number ≡ 60 → ⊥
  not-return e = omega (arith, (passed 60 1 number (Passed 57 2 number (Passed 50 3 number (Passed 40 8 number known))) rest).1 (omega arith))

-- those of guarded statements, 54 and 55
pub guarded-kind : (number : ℕ) → 54 ≤ number → number ≤ 55 → kind_of number ≡ OfStatement (pick (eqb number 55) GuardedDo GuardedIf)
unfolding kinds kind_in kind_of
guarded-kind number least most =
    by_cases (eqb number 55)
    (λ e. let n : number ≡ 55 = eqb-true number 55 e in rw n)
    (λ e. let n : number ≡ 54 = omega (arith, least, most, eqb-false number 55 e) in rw n)
