-- Laws of words put over others.
use Rattle.std.specs.Prelude.{◌≡◌, List, ◌++◌, ℤ, length}
use Rattle.std.proofs.Common.{ap, ◌∙◌, append-nil, arith, drop_of_length-le}
use Rattle.words.specs.Over.{over}

-- words put over as many words are all that stands there
pub over-whole : (words copy : List ℤ) → length words ≡ length copy → over words copy ≡ words
unfolding over
over-whole words copy e = ap (λ (l : List ℤ). words ++ l) (drop_of_length-le copy {i = length words} (omega (arith, e))) ∙ append-nil words
