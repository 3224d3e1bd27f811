-- Refusals: "the number of the cause, and the place". What the clauses see of a refusal.
use Rattle.std.specs.Prelude.{List, [], ◌∷◌, ℕ, eqb}
use Rattle.words.specs.Word.{pick}
use Rattle.words.specs.Causes.{cause_number}
use Rattle.words.specs.declared.Cause.{Cause}
use Rattle.words.specs.declared.Cause.TheVariants.{Header, RowCount, Foreign, Mislinked, NotLinkedOnce, NumberOutside, Misplaced, RepeatedMark, TooDeep, NoRoom, StoreSize, NotKernelForm, LabelFault, MalformedText, ScratchSize, HeadersDiffer, TooManyRows, NamesItself, DeclaredTwice, TooManyDeclared, MalformedDay, DayVariable, FunctionOrder, WrongCall, DefinesFunctions}

pub record NumberedRefusal : Type 0 where
  pub number : ℕ
  pub place : ℕ

abbrev pub numbered : Cause → ℕ → NumberedRefusal
numbered cause place = record { number = cause_number cause; place = place }

-- The cause with a number; the last where it is no other's.
abbrev pub cause_among : List Cause → ℕ → Cause
cause_among [] number = DefinesFunctions
cause_among (cause ∷ causes) number = pick (eqb number (cause_number cause)) cause (cause_among causes number)

abbrev pub cause_numbered : ℕ → Cause
cause_numbered number =
    cause_among
    (Header ∷ RowCount ∷ Foreign ∷ Mislinked ∷ NotLinkedOnce ∷ NumberOutside ∷ Misplaced ∷ RepeatedMark ∷ TooDeep ∷ NoRoom ∷ StoreSize ∷ NotKernelForm ∷ LabelFault ∷ MalformedText ∷ ScratchSize ∷ HeadersDiffer ∷ TooManyRows ∷ NamesItself ∷ DeclaredTwice ∷ TooManyDeclared ∷ MalformedDay ∷ DayVariable ∷ FunctionOrder ∷ WrongCall ∷ [])
    number
