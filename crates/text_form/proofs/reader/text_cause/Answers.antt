-- `text_cause` stores the header in a scratch array, and has it tested.
use mathlib.Core.Path.{refl, ap, ◌∙◌}
use mathlib.Core.Bool.{true}
use mathlib.Core.List.{List}
use lib.IntN.{ℤ}
use Rattle.text_form.specs.Answers.{cause_of}
use Rattle.text_form.proofs.ReaderLaws.{scratch-holds, scratch-part}
use Rattle.text_form.proofs.reader.text_cause.Goals as goal

pub store_numbers-requires : goal.store_numbers-requires
store_numbers-requires c = scratch-holds c.requires _ refl

pub returns : goal.returns
returns c = c.first_cause.ensures ∙ ap (λ (l : List ℤ). cause_of c.args.form l c.args.words true) (scratch-part c.requires _ _ c.store_numbers.ensures)
