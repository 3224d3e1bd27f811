-- Laws of the searches outward and along parameters: one declaration at a time; and of the two together.
use Rattle.std.specs.Prelude.{◌≡◌, Bool, ◌||◌, List, eqb, ℤ}
use Rattle.std.proofs.Math.Path.{refl}
use Rattle.std.proofs.Math.Bool.{true, false}
use Prim.Native.Nat.{ℕ, zero, suc, ◌-◌, ◌<◌}
use native.Mathlib.Omega.{arith}
use borrow.Author.Tests.{eq-eqb, ne_eqb}
use Rattle.words.specs.Word.{pick}
use Rattle.words.specs.Table.{number_at}
use Rattle.words.specs.Links.{link}
use Rattle.words.specs.Declarations.{is_declaration}
use Rattle.check_function_causes.specs.Functions.{function_around}
use Rattle.names.specs.Names.{scope_at, meant_from, parameter_from, parameter_at, meant_at}

module _ (rows : List ℤ) where
  -- none is left around
  pub meant-nothing : (outward declaration number : ℕ) → declaration ≡ 0 → meant_from outward rows declaration number ≡ 0
  unfolding meant_from
  meant-nothing zero declaration number z = refl
  meant-nothing (suc outward) declaration number z = rw z

  pub meant-here : (outward declaration number : ℕ) → 0 < outward → number_at rows declaration 1 ≡ number → meant_from outward rows declaration number ≡ declaration
  unfolding meant_from
  meant-here zero declaration number p e = absurd (omega arith)
  meant-here (suc outward) declaration number p e = rw (eq-eqb _ _ e) (either (eqb declaration 0))
    where
      either : (b : Bool) → pick (b || true) declaration (meant_from outward rows (scope_at rows declaration) number) ≡ declaration
      either true = refl
      either false = refl

  pub meant-outward : (outward declaration number : ℕ) → 0 < outward → (declaration ≡ 0 → ⊥) → (number_at rows declaration 1 ≡ number → ⊥)
      → meant_from outward rows declaration number ≡ meant_from (outward - 1) rows (scope_at rows declaration) number
  unfolding meant_from
  meant-outward zero declaration number p d n = absurd (omega arith)
  meant-outward (suc outward) declaration number p d n = let z : suc outward - 1 ≡ outward = omega arith in rw (ne_eqb _ _ d, ne_eqb _ _ n, z)

  -- ---- parameters

  -- the list has ended
  pub named-nothing : (most parameter number : ℕ) → is_declaration rows parameter ≡ false → parameter_from most rows parameter number ≡ 0
  unfolding parameter_from
  named-nothing zero parameter number d = refl
  named-nothing (suc most) parameter number d = rw d

  pub named_here : (most parameter number : ℕ) → 0 < most → is_declaration rows parameter ≡ true → number_at rows parameter 1 ≡ number → parameter_from most rows parameter number ≡ parameter
  unfolding parameter_from
  named_here zero parameter number p d e = absurd (omega arith)
  named_here (suc most) parameter number p d e = rw (d, eq-eqb _ _ e)

  pub named-along : (most parameter number : ℕ) → 0 < most → is_declaration rows parameter ≡ true → (number_at rows parameter 1 ≡ number → ⊥)
      → parameter_from most rows parameter number ≡ parameter_from (most - 1) rows (link rows parameter 5) number
  unfolding parameter_from
  named-along zero parameter number p d n = absurd (omega arith)
  named-along (suc most) parameter number p d n = let z : suc most - 1 ≡ most = omega arith in rw (d, ne_eqb _ _ n, z)

  pub named-inside : (definition number : ℕ) → (definition ≡ 0 → ⊥) → parameter_at rows definition number ≡ parameter_from 64 rows (link rows definition 2) number
  unfolding parameter_at
  named-inside definition number d = rw (ne_eqb _ _ d)

  -- ---- both

  pub meant-around : (row number declaration : ℕ) → declaration ≡ meant_from 64 rows (scope_at rows row) number → (declaration ≡ 0 → ⊥) → meant_at rows row number ≡ declaration
  unfolding meant_at
  meant-around row number declaration e some = rw (← e, ne_eqb _ _ some)

  pub meant-parameter : (row number declaration : ℕ) → declaration ≡ meant_from 64 rows (scope_at rows row) number → declaration ≡ 0 → meant_at rows row number ≡ parameter_at rows (function_around rows row) number
  unfolding meant_at
  meant-parameter row number declaration e none = rw (← e, eq-eqb _ _ none)
