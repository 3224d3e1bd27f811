-- What `map` gives, where the function that it calls is known.
use Rattle.std.specs.Prelude.{◌≡◌, Option, None, Some, MatchOption}
use Rattle.std.specs.Option.{IsSomeAnd, option_map}
use Rattle.std.proofs.Common.{ap}

pub mapped : {A B : Type 0} (f : A → B) (o : Option A) (r : Option B) (P : A → B → Type 0) → MatchOption o (r ≡ None) (λ x. IsSomeAnd r (P x)) → ((x : A) (y : B) → P x y → y ≡ f x) → r ≡ option_map f o
mapped f None r P h g = h
mapped f (Some x) None P h g = absurd h
mapped f (Some x) (Some y) P h g = ap Some (g x y h)
