-- Numbers: an entry's answer in document 01's numbers. Cause 0 means that the entry did its work, and two values say what it gave;
-- else the cause's number, with the place as the first value.
use Rattle.std.specs.Prelude.{ℕ, Err, Ok, Result}
use Rattle.words.specs.declared.RunAnswer.{RunAnswer}
use Rattle.words.specs.Refusals.{NumberedRefusal}
use Rattle.words.specs.Answers.{ending_number}

pub record Numbers : Type 0 where
  pub cause : ℕ
  pub first : ℕ
  pub second : ℕ

abbrev pub done : ℕ → ℕ → Numbers
done first second = record { cause = 0; first = first; second = second }

abbrev pub refused : ℕ → ℕ → Numbers
refused number place = record { cause = number; first = place; second = 0 }

-- A check: nothing more than acceptance, or the refusal.
abbrev pub verdict_numbers : Result (Unit {0}) NumberedRefusal → Numbers
verdict_numbers (Ok tt) = done 0 0
verdict_numbers (Err refusal) = refused refusal.number refusal.place

-- A run: the ending's number and the count, or the refusal.
abbrev pub run_numbers : Result RunAnswer NumberedRefusal → Numbers
run_numbers (Ok run) = done (ending_number run.ending) run.count
run_numbers (Err refusal) = refused refusal.number refusal.place
