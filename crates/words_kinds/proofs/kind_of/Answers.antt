-- `kind_of` is the table of kinds: each arm of the match is a line of the table, and what is left is on no line.
use mathlib.Core.Path.{◌≡◌, refl, sym, ap}
use mathlib.Core.List.{List, [], ◌∷◌}
use Prim.Native.Nat.{ℕ}
use borrow.Author.Tests.{ne_eqb}
use Rattle.words.specs.Kinds.{kinds, kind_in, kind_of}
use Rattle.words.specs.declared.Kind.TheVariants.{Other}
use Rattle.words.specs.declared.Kind.{Kind}
use Rattle.words_kinds.proofs.kind_of.Goals as goal

-- what the match leaves: the number is that of no line
abbrev NoLine : List (ℕ × Kind) → ℕ → Type 0 → Type 0
NoLine [] number known = known
NoLine (k ∷ ks) number known = NoLine ks number (known × (number ≡ k.0 → ⊥))

no_line : (ks : List (ℕ × Kind)) (number : ℕ) (known : Type 0) → NoLine ks number known → (kind_in ks number ≡ Other) × known
unfolding kind_in
no_line [] number known r = (refl, r)
no_line (k ∷ ks) number known r =
    let later = no_line ks number (known × (number ≡ k.0 → ⊥)) r in
    (rw (ne_eqb _ _ later.1.1) later.0, later.1.0)

-- an arm: the kind that the table has at the arm's number
arm : (number key : ℕ) → number ≡ key → kind_of key ≡ kind_of number
arm number key e = ap kind_of (sym e)

pub returns-in-1 : goal.returns-in-1
unfolding kinds kind_in kind_of
returns-in-1 c = arm _ 1 c.in-1.is

pub returns-in-2 : goal.returns-in-2
unfolding kinds kind_in kind_of
returns-in-2 c = arm _ 2 c.in-2.is

pub returns-in-3 : goal.returns-in-3
unfolding kinds kind_in kind_of
returns-in-3 c = arm _ 3 c.in-3.is

pub returns-in-4 : goal.returns-in-4
unfolding kinds kind_in kind_of
returns-in-4 c = arm _ 4 c.in-4.is

pub returns-in-5 : goal.returns-in-5
unfolding kinds kind_in kind_of
returns-in-5 c = arm _ 5 c.in-5.is

pub returns-in-6 : goal.returns-in-6
unfolding kinds kind_in kind_of
returns-in-6 c = arm _ 6 c.in-6.is

pub returns-in-7 : goal.returns-in-7
unfolding kinds kind_in kind_of
returns-in-7 c = arm _ 7 c.in-7.is

pub returns-in-8 : goal.returns-in-8
unfolding kinds kind_in kind_of
returns-in-8 c = arm _ 8 c.in-8.is

pub returns-in-9 : goal.returns-in-9
unfolding kinds kind_in kind_of
returns-in-9 c = arm _ 9 c.in-9.is

pub returns-in-10 : goal.returns-in-10
unfolding kinds kind_in kind_of
returns-in-10 c = arm _ 10 c.in-10.is

pub returns-in-11 : goal.returns-in-11
unfolding kinds kind_in kind_of
returns-in-11 c = arm _ 11 c.in-11.is

pub returns-in-12 : goal.returns-in-12
unfolding kinds kind_in kind_of
returns-in-12 c = arm _ 12 c.in-12.is

pub returns-in-13 : goal.returns-in-13
unfolding kinds kind_in kind_of
returns-in-13 c = arm _ 13 c.in-13.is

pub returns-in-14 : goal.returns-in-14
unfolding kinds kind_in kind_of
returns-in-14 c = arm _ 14 c.in-14.is

pub returns-in-15 : goal.returns-in-15
unfolding kinds kind_in kind_of
returns-in-15 c = arm _ 15 c.in-15.is

pub returns-in-16 : goal.returns-in-16
unfolding kinds kind_in kind_of
returns-in-16 c = arm _ 16 c.in-16.is

pub returns-in-17 : goal.returns-in-17
unfolding kinds kind_in kind_of
returns-in-17 c = arm _ 17 c.in-17.is

pub returns-in-18 : goal.returns-in-18
unfolding kinds kind_in kind_of
returns-in-18 c = arm _ 18 c.in-18.is

pub returns-in-19 : goal.returns-in-19
unfolding kinds kind_in kind_of
returns-in-19 c = arm _ 19 c.in-19.is

pub returns-in-20 : goal.returns-in-20
unfolding kinds kind_in kind_of
returns-in-20 c = arm _ 20 c.in-20.is

pub returns-in-21 : goal.returns-in-21
unfolding kinds kind_in kind_of
returns-in-21 c = arm _ 21 c.in-21.is

pub returns-in-22 : goal.returns-in-22
unfolding kinds kind_in kind_of
returns-in-22 c = arm _ 22 c.in-22.is

pub returns-in-23 : goal.returns-in-23
unfolding kinds kind_in kind_of
returns-in-23 c = arm _ 23 c.in-23.is

pub returns-in-24 : goal.returns-in-24
unfolding kinds kind_in kind_of
returns-in-24 c = arm _ 24 c.in-24.is

pub returns-in-25 : goal.returns-in-25
unfolding kinds kind_in kind_of
returns-in-25 c = arm _ 25 c.in-25.is

pub returns-in-26 : goal.returns-in-26
unfolding kinds kind_in kind_of
returns-in-26 c = arm _ 26 c.in-26.is

pub returns-in-27 : goal.returns-in-27
unfolding kinds kind_in kind_of
returns-in-27 c = arm _ 27 c.in-27.is

pub returns-in-28 : goal.returns-in-28
unfolding kinds kind_in kind_of
returns-in-28 c = arm _ 28 c.in-28.is

pub returns-in-29 : goal.returns-in-29
unfolding kinds kind_in kind_of
returns-in-29 c = arm _ 29 c.in-29.is

pub returns-in-30 : goal.returns-in-30
unfolding kinds kind_in kind_of
returns-in-30 c = arm _ 30 c.in-30.is

pub returns-in-31 : goal.returns-in-31
unfolding kinds kind_in kind_of
returns-in-31 c = arm _ 31 c.in-31.is

pub returns-in-32 : goal.returns-in-32
unfolding kinds kind_in kind_of
returns-in-32 c = arm _ 32 c.in-32.is

pub returns-in-40 : goal.returns-in-40
unfolding kinds kind_in kind_of
returns-in-40 c = arm _ 40 c.in-40.is

pub returns-in-41 : goal.returns-in-41
unfolding kinds kind_in kind_of
returns-in-41 c = arm _ 41 c.in-41.is

pub returns-in-42 : goal.returns-in-42
unfolding kinds kind_in kind_of
returns-in-42 c = arm _ 42 c.in-42.is

pub returns-in-43 : goal.returns-in-43
unfolding kinds kind_in kind_of
returns-in-43 c = arm _ 43 c.in-43.is

pub returns-in-44 : goal.returns-in-44
unfolding kinds kind_in kind_of
returns-in-44 c = arm _ 44 c.in-44.is

pub returns-in-45 : goal.returns-in-45
unfolding kinds kind_in kind_of
returns-in-45 c = arm _ 45 c.in-45.is

pub returns-in-46 : goal.returns-in-46
unfolding kinds kind_in kind_of
returns-in-46 c = arm _ 46 c.in-46.is

pub returns-in-47 : goal.returns-in-47
unfolding kinds kind_in kind_of
returns-in-47 c = arm _ 47 c.in-47.is

pub returns-in-48 : goal.returns-in-48
unfolding kinds kind_in kind_of
returns-in-48 c = arm _ 48 c.in-48.is

pub returns-in-49 : goal.returns-in-49
unfolding kinds kind_in kind_of
returns-in-49 c = arm _ 49 c.in-49.is

pub returns-in-50 : goal.returns-in-50
unfolding kinds kind_in kind_of
returns-in-50 c = arm _ 50 c.in-50.is

pub returns-in-51 : goal.returns-in-51
unfolding kinds kind_in kind_of
returns-in-51 c = arm _ 51 c.in-51.is

pub returns-in-52 : goal.returns-in-52
unfolding kinds kind_in kind_of
returns-in-52 c = arm _ 52 c.in-52.is

pub returns-in-53 : goal.returns-in-53
unfolding kinds kind_in kind_of
returns-in-53 c = arm _ 53 c.in-53.is

pub returns-in-54 : goal.returns-in-54
unfolding kinds kind_in kind_of
returns-in-54 c = arm _ 54 c.in-54.is

pub returns-in-55 : goal.returns-in-55
unfolding kinds kind_in kind_of
returns-in-55 c = arm _ 55 c.in-55.is

pub returns-in-56 : goal.returns-in-56
unfolding kinds kind_in kind_of
returns-in-56 c = arm _ 56 c.in-56.is

pub returns-in-57 : goal.returns-in-57
unfolding kinds kind_in kind_of
returns-in-57 c = arm _ 57 c.in-57.is

pub returns-in-58 : goal.returns-in-58
unfolding kinds kind_in kind_of
returns-in-58 c = arm _ 58 c.in-58.is

pub returns-in-59 : goal.returns-in-59
unfolding kinds kind_in kind_of
returns-in-59 c = arm _ 59 c.in-59.is

pub returns-in-60 : goal.returns-in-60
unfolding kinds kind_in kind_of
returns-in-60 c = arm _ 60 c.in-60.is

pub returns-in_default : goal.returns-in_default
unfolding kinds kind_in kind_of
returns-in_default c = sym (no_line kinds _ _ c.in_default.in_default-own.rest).0
