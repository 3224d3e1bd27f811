-- Names: another text is no verb's name, nor are bytes that are no text.
use Rattle.std.specs.Prelude.{◌≡◌, true, false, Bool, ◌&&◌, List, [], ◌∷◌, ℕ, zero, suc, bytes_eq}
use Rattle.std.specs.Str.{IsUtf8, IsAscii}
use Rattle.std.proofs.lemmas.Bool.{false_from_ne_true}
use Rattle.std.proofs.lemmas.Slice.Eq.{bytes_eq-Decides}
use Rattle.std.proofs.lemmas.Str.{IsUtf8-from_ascii}
use native.Mathlib.Omega.{arith}
use lib.Dec.{ltb}
use borrow.Author.Tests.{ltb-true}
use Rattle.words.specs.Laws.{both}

pub other_name : (name known : List ℕ) → (name ≡ known → ⊥) → bytes_eq name known ≡ false
other_name name known n = false_from_ne_true _ (λ e. n ((bytes_eq-Decides name known).0 e))

-- bytes below 128, which are text
unfoldable pub are_small : List ℕ → Bool
are_small [] = true
are_small (byte ∷ bytes) = ltb byte 128 && are_small bytes

small-ascii : (bytes : List ℕ) → are_small bytes ≡ true → IsAscii bytes
unfolding are_small
small-ascii [] e i = omega arith
small-ascii (byte ∷ bytes) e zero = ltb-true _ _ ((both _ _ e).0)
small-ascii (byte ∷ bytes) e (suc i) = small-ascii bytes ((both _ _ e).1) i

pub no_text : (name known : List ℕ) → (IsUtf8 name → ⊥) → are_small known ≡ true → bytes_eq name known ≡ false
no_text name known n s = other_name name known (λ e. n (rw e (IsUtf8-from_ascii known (small-ascii known s))))
