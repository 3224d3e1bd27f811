-- Own words: the words of each function's parameters are words of declarations, no two of them the same.
use Rattle.std.specs.Prelude.{◌≡◌, List, [], ◌∷◌, ℕ, ◌+◌, ◌≤◌, ◌<◌}
use Rattle.language.specs.Trees.{Items, none, ◌then◌, ◌here◌, define}
use Rattle.language.specs.Functions.{function_of, function_count}
use Rattle.language.specs.WellFormed.{NamedWords}

-- The word is none of these.
unfoldable pub NotAmong : ℕ → List ℕ → Type 0
NotAmong word [] = Unit {0}
NotAmong word (other ∷ words) = (other ≡ word → ⊥) × NotAmong word words

unfoldable pub Apart : List ℕ → Type 0
Apart [] = Unit {0}
Apart (word ∷ words) = NotAmong word words × Apart words

-- A word that a parameter may have: one of D behind the first S.
pub record ParameterWord (S D word : ℕ) : Type 0 where
  pub least : S ≤ word
  pub most : word < S + D

-- The words of a function's parameters. "Parameters count in D, and for .. 19 as c's first items; in the kernel they name their words, S to S+D−1".
pub record OwnWords (S D : ℕ) (words : List ℕ) : Type 0 where
  pub declared : NamedWords (ParameterWord S D) 0 words
  pub apart : Apart words

-- So in each function of a program.
abbrev pub OwnParameters : ℕ → ℕ → Items → Type 0
OwnParameters S D program = (f : ℕ) → f < function_count program → OwnWords S D (function_of f program).parameters

-- The parameters of the definitions that items begin with.
unfoldable pub FrontParameters : (List ℕ → Type 0) → Items → Type 0
FrontParameters P none = Unit {0}
FrontParameters P (s then is) = Unit {0}
FrontParameters P (m here is) = Unit {0}
FrontParameters P (define f words body is) = P words × FrontParameters P is
