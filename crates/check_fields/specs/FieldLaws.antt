-- Laws of fields: a number that fits a declaration lies in its range, and the ranges of both forms lie in the words that a header gives.
use Rattle.std.specs.Prelude.{◌≡◌, true, List, ℕ, ◌≤◌, ◌<◌, ℤ}
use Rattle.std.proofs.Common.{arith, ltb-true, leb-true}
use Rattle.words.specs.Laws.{both}
use Rattle.words.specs.Layout.{store_size, header_store}
use Rattle.words.specs.declared.Form.{Form}
use Rattle.words.specs.declared.Form.TheVariants.{Source, Kernel}
use Rattle.check_fields.specs.Fields.{declared_range, declared_fits}
use Rattle.check_fields.specs.declared.Bounds.{Bounds}

pub declared-inside : (bounds : Bounds) (number : ℕ) → declared_fits bounds number ≡ true → (bounds.declared.first ≤ number) × (number < bounds.declared.past)
declared-inside bounds number e = let parts = both _ _ e in (leb-true _ _ parts.0, ltb-true _ _ parts.1)

pub range-in-store : (form : Form) (header : List ℤ) → (declared_range form header).past ≤ header_store form header
unfolding store_size header_store
range-in-store Source header = omega arith
range-in-store Kernel header = omega arith
