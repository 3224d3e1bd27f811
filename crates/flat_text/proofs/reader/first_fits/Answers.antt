-- `first_fits` stores the header in a scratch array, and has it tested.
use mathlib.Core.Path.{refl, ap, ◌∙◌}
use mathlib.Core.List.{List}
use native.Mathlib.Omega.{arith}
use lib.IntN.{ℤ}
use Rattle.words.specs.Layout.{header_fits}
use Rattle.words.specs.declared.Form.TheVariants.{Kernel}
use Rattle.text_form.proofs.ReaderLaws.{scratch-holds, scratch-part}
use borrow.Author.Rules.{rules}
use Rattle.flat_text.proofs.reader.first_fits.Goals as goal

pub store_numbers-requires : goal.store_numbers-requires
store_numbers-requires c = scratch-holds c.requires _ refl

pub returns : goal.returns
returns c = c.header_fits.ensures ∙ ap (λ (l : List ℤ). header_fits Kernel l) (scratch-part c.requires _ _ c.store_numbers.ensures)
