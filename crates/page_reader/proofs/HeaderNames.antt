-- The names that a header gives, by its bounds.
use mathlib.Core.Path.{◌≡◌}
use mathlib.Core.Bool.{true}
use mathlib.Core.List.{List}
use Prim.Native.Nat.{ℕ, ◌≤◌}
use native.Mathlib.Omega.{arith}
use lib.IntN.{ℤ}
use Rattle.words.specs.Layout.{header_fits, declared_of, temporaries_of}
use Rattle.words.specs.Laws.{header_fits-facts}
use Rattle.words.specs.declared.Form.TheVariants.{Kernel}
use Rattle.check_fields.specs.Fields.{bounds_of}
use Rattle.check_fields.specs.declared.Bounds.{Bounds}
use Rattle.page_words.specs.declared.Names.{Names}
use Rattle.page_blocks.specs.Scans.{names_of}

abbrev named : Bounds → ℕ → ℕ → Names
named bounds declared temporaries = record { variables = bounds.variables; declared = declared; temporaries = temporaries; arrays = bounds.arrays }

module _ (header : List ℤ) where
  pub variables-low : header_fits Kernel header ≡ true → (bounds : Bounds) → bounds ≡ bounds_of Kernel header → bounds.variables ≤ 256
  unfolding bounds_of
  variables-low f bounds e = rw e (header_fits-facts Kernel header f).few_variables

  pub arrays-low : header_fits Kernel header ≡ true → (bounds : Bounds) → bounds ≡ bounds_of Kernel header → bounds.arrays ≤ 32
  unfolding bounds_of
  arrays-low f bounds e = rw e (header_fits-facts Kernel header f).few_arrays

  pub names-are : (bounds : Bounds) (declared temporaries : ℕ) → bounds ≡ bounds_of Kernel header → declared ≡ declared_of Kernel header → temporaries ≡ temporaries_of Kernel header
      → named bounds declared temporaries ≡ names_of header
  unfolding names_of
  names-are bounds declared temporaries e d t = rw (e, d, t)
