-- What a call's answer says of the run that asked for it: an operand's value goes on, its stop goes up; and what a call down a link
-- asks.
use Rattle.std.specs.Prelude.{None, Option, Result, Some}
use Rattle.words.specs.declared.FaultSort.{FaultSort}
use mathlib.Core.Path.{◌≡◌, refl, sym, ap, ◌∙◌}
use mathlib.Core.Bool.{Bool, true, false, not}
use mathlib.Core.List.{List}
use Prim.Native.Nat.{ℕ, ◌+◌, ◌*◌, ◌^◌, ◌<◌, ◌≤◌}
use native.Mathlib.Omega.{arith}
use lib.IntN.{ℤ, pos}
use lib.ListN.{length, get_or}
use lib.Signed.{mag}
use mir.Syntax.{w32}
use mir.Val.{to_z, of_z}
use Rattle.words.specs.Word.{pick}
use Rattle.words.specs.Table.{number_at}
use Rattle.arithmetic.specs.Arithmetic.{is_true, bit, truth, logical_not, apply, minus, element}
use Rattle.words.specs.Laws.{back}
use Rattle.words.specs.declared.Operator.{Operator}
use Rattle.computation.specs.Computation.{Computation, settle}
use Rattle.computation.specs.Remaining.{Rest, gives, halts, onward, spend}
use Rattle.computation.proofs.RemainingLaws.{left_of, left-never-rises}
use Rattle.language.specs.Sound.{Link, PlaceLink}
use Rattle.machine_operations.specs.Answers.{stop_of, operand_of, operand_rest, answered, position_of, placed, Settles, Fetches, Negates}
use Rattle.machine_operations.specs.Bounds.{layout_in}
use Rattle.machine_operations.specs.Ready.{Setting, Ready, ReadyPlace, Entered}
use Rattle.words.specs.declared.Kind.TheVariants.{OfExpression}
use Rattle.words.specs.declared.ExpressionKind.TheVariants.{Element}
use Rattle.machine_operations.proofs.Decoding.{handed, handed-is}
use Rattle.machine_operations.proofs.Rows.{field-inside, element-array}

-- ---- answers: `m` is the part of the run that the call did, `f` the rest of it

module _ {A : Type 0} {m : Rest ℤ} (f : ℤ → ℕ → List ℤ → Rest A) (r : ℤ) (n : ℕ) (s : List ℤ) (fits : mag r < 2 ^ 63) (h : answered r n s ≡ m)
    (o : Option ℤ) (e : o ≡ operand_of (handed r)) where
  says : operand_of r ≡ o
  says = ap operand_of (sym (handed-is r fits)) ∙ sym e

  pub goes : (v : ℤ) → o ≡ Some v → onward m f ≡ f v n s
  goes v q = rw (← h, says, q)

  pub stops : o ≡ None → onward m f ≡ halts (stop_of r) n s
  stops q = rw (← h, says, q)

module _ {m : Rest ℤ} (r : ℤ) (n : ℕ) (s : List ℤ) (fits : mag r < 2 ^ 63) (h : answered r n s ≡ m) (o : Option ℤ) (e : o ≡ operand_of (handed r)) (q : o ≡ None) where
  pub hands-up : (f : ℤ → ℕ → List ℤ → Rest ℤ) → answered (handed r) n s ≡ onward m f
  hands-up f = rw (← e, q, handed-is r fits) (sym (stops f r n s fits h o e q))

  pub hands-placed : (f : ℤ → ℕ → List ℤ → Rest ℕ) → placed (handed r) n s ≡ onward m f
  hands-placed f = rw (← e, q, handed-is r fits) (sym (stops f r n s fits h o e q))

module _ {m : Rest ℕ} (r : ℤ) (n : ℕ) (s : List ℤ) (fits : mag r < 2 ^ 63) (h : placed r n s ≡ m) (p : Option ℕ) (e : p ≡ position_of (operand_of (handed r))) where
  lies : position_of (operand_of r) ≡ p
  lies = ap (λ (z : ℤ). position_of (operand_of z)) (sym (handed-is r fits)) ∙ sym e

  pub found : {A : Type 0} (f : ℕ → ℕ → List ℤ → Rest A) (i : ℕ) → p ≡ Some i → onward m f ≡ f i n s
  found f i q = rw (← h, lies, q)

  at_value : (o : Option ℤ) → position_of o ≡ None → o ≡ None
  at_value (Some v) q = absurd (let z : ◌≡◌ {A = ℕ} 0 1 = cc in omega arith)
  at_value None q = refl

  pub lost : (f : ℕ → ℕ → List ℤ → Rest ℤ) → p ≡ None → answered (handed r) n s ≡ onward m f
  lost f q = rw (at_value (operand_of (handed r)) (sym e ∙ q), handed-is r fits) (rw (← h, lies, q))

-- an operand's answer, handed on
pub handed-value : (r : ℤ) (n : ℕ) (s : List ℤ) (o : Option ℤ) → o ≡ operand_of (handed r) → (v : ℤ) → o ≡ Some v → answered (handed r) n s ≡ gives v n s
handed-value r n s o e v q = rw (← e, q)

-- the bounds test of a word that was handed on
pub element-handed : (base length base' length' : ℕ) (v : ℤ) → base ≡ base' → length ≡ length' → mag v < 2 ^ 31 → (n : ℕ) (s : List ℤ)
    → spend (settle (element base length (to_z w32 (of_z w32 v)))) n s ≡ spend (settle (element base' length' v)) n s
element-handed base length base' length' v p q fits n s = rw (p, q, back v fits)

-- a call's answer, handed on
pub handed-on : (r : ℤ) (n : ℕ) (s : List ℤ) → mag r < 2 ^ 63 → answered (handed r) n s ≡ answered r n s
handed-on r n s fits = ap (λ (z : ℤ). answered z n s) (handed-is r fits)

pub handed_on-placed : (r : ℤ) (n : ℕ) (s : List ℤ) → mag r < 2 ^ 63 → placed (handed r) n s ≡ placed r n s
handed_on-placed r n s fits = ap (λ (z : ℤ). placed z n s) (handed-is r fits)

-- the word at a place's answer, and the negation of an operand's, handed on
pub fetched : {m : Rest ℕ} (r : ℤ) (n : ℕ) (s : List ℤ) → mag r < 2 ^ 63 → placed r n s ≡ m → (z : ℤ) → mag z < 2 ^ 63 → Fetches (handed r) s z
    → answered (handed z) n s ≡ onward m (λ i n s. gives (get_or s i (pos 0)) n s)
fetched r n s fits h z ok e = handed-on z n s ok ∙ e n ∙ ap (λ (x : Rest ℕ). onward x (λ i n s. gives (get_or s i (pos 0)) n s)) (handed_on-placed r n s fits ∙ h)

pub negated : {m : Rest ℤ} (ofTruth : Bool) (r : ℤ) (n : ℕ) (s : List ℤ) → mag r < 2 ^ 63 → answered r n s ≡ m → (z : ℤ) → mag z < 2 ^ 63 → Negates ofTruth (handed r) z
    → answered (handed z) n s ≡ onward m (λ v n s. pick ofTruth (gives (logical_not v) n s) (spend (settle (minus v)) n s))
negated ofTruth r n s fits h z ok e =
    handed-on z n s ok ∙ e n s ∙ ap (λ (x : Rest ℤ). onward x (λ v n s. pick ofTruth (gives (logical_not v) n s) (spend (settle (minus v)) n s))) (handed-on r n s fits ∙ h)

-- an operation of words that were handed on
pub operands-handed : (o : Operator) (left right : ℤ) → mag left < 2 ^ 31 → mag right < 2 ^ 31 → (n : ℕ) (s : List ℤ)
    → spend (settle (apply o (to_z w32 (of_z w32 left)) (to_z w32 (of_z w32 right)))) n s ≡ spend (settle (apply o left right)) n s
operands-handed o left right h g n s = rw (back left h, back right g)

-- an operation's answer
pub settled_is : (r : ℤ) (c : Result ℤ FaultSort) (o : Result ℤ FaultSort) → mag r < 2 ^ 63 → Settles r c → c ≡ o → (n : ℕ) (s : List ℤ) → answered (handed r) n s ≡ spend (settle o) n s
settled_is r c o fits p e n s = handed-on r n s fits ∙ p n s ∙ ap (λ (x : Result ℤ FaultSort). spend (settle x) n s) e

-- ---- the steps left never rise

answered-left : (r : ℤ) (n : ℕ) (s : List ℤ) → left_of (answered r n s) ≡ n
answered-left r n s = by (operand_of r)
  where
    by : (o : Option ℤ) → left_of (operand_rest o r n s) ≡ n
    by (Some v) = refl
    by None = refl

pub answered-least : (r : ℤ) (n : ℕ) (s : List ℤ) (k : ℕ) (t : List ℤ) (m : Computation ℤ) → answered r n s ≡ spend m k t → n ≤ k
answered-least r n s k t m h = let l : n ≡ left_of (spend m k t) = sym (answered-left r n s) ∙ ap left_of h in omega (arith, left-never-rises m k t)

-- ---- what a call down a link asks

module _ {rows : List ℤ} {bounds : List ℕ} {words row : ℕ} (here : Ready rows bounds words row) where
  pub resize : {size : ℕ} → size ≡ words → Setting rows bounds size
  resize e = rw e here.setting

  module _ {field : ℕ} (link : Link rows (layout_in rows bounds) words row field) where
    pub link-asks : field < 6 → (6 * row + field < length rows) × (number_at rows row field < 2147483648)
    link-asks h = (omega (arith, here.setting.sound.whole, here.below), omega (arith, link.inside, here.setting.few_rows))

    module _ {l : ℕ} (e : l ≡ number_at rows row field) where
      pub linked : {size : ℕ} → size ≡ words → Ready rows bounds size l
      linked q = record { setting = resize q; below = rw e link.inside }

  module _ {field : ℕ} (link : PlaceLink rows (layout_in rows bounds) words row field) {l : ℕ} (e : l ≡ number_at rows row field) where
    pub linked-place : {size : ℕ} → size ≡ words → ReadyPlace rows bounds size l
    linked-place q = record { ready = linked link.0 e q; place_is = rw e link.1 }

-- the number of an element's array
module _ {rows : List ℤ} {bounds : List ℕ} {words row : ℕ} (here : Entered rows bounds words row (OfExpression Element)) where
  pub array-asks : (6 * row + 1 < length rows) × (number_at rows row 1 < 2147483648)
  array-asks = (field-inside here.ready 1 (omega arith), omega (arith, element-array here, here.ready.setting.few_arrays))

  pub array-is : {array : ℕ} → array ≡ number_at rows row 1 → array < length (layout_in rows bounds).lengths
  array-is e = rw e (element-array here)

-- ---- tests

pub chosen-true : {A : Type 0} (t : Bool) (x y : A) → t ≡ true → pick t x y ≡ x
chosen-true t x y e = rw e

pub chosen-false : {A : Type 0} (t : Bool) (x y : A) → t ≡ false → pick t x y ≡ y
chosen-false t x y e = rw e

-- the left operand of an and or an or decides, or the right one does
module _ {A : Type 0} (decided t : Bool) (right : A) (one zero : A) where
  pub decided-left : pick decided t (not t) ≡ true → pick decided (pick t one right) (pick t right zero) ≡ pick decided one zero
  decided-left e = by decided t e
    where
      by : (d u : Bool) → pick d u (not u) ≡ true → pick d (pick u one right) (pick u right zero) ≡ pick d one zero
      by true true e = refl
      by true false e = absurd (let z : ◌≡◌ {A = ℕ} 0 1 = cc in omega arith)
      by false true e = absurd (let z : ◌≡◌ {A = ℕ} 0 1 = cc in omega arith)
      by false false e = refl

  pub decided-right : pick decided t (not t) ≡ false → pick decided (pick t one right) (pick t right zero) ≡ right
  decided-right e = by decided t e
    where
      by : (d u : Bool) → pick d u (not u) ≡ false → pick d (pick u one right) (pick u right zero) ≡ right
      by true true e = absurd (let z : ◌≡◌ {A = ℕ} 0 1 = cc in omega arith)
      by true false e = refl
      by false true e = refl
      by false false e = absurd (let z : ◌≡◌ {A = ℕ} 0 1 = cc in omega arith)

pub decided-bit : (decided : Bool) (n : ℕ) (s : List ℤ) → gives (bit decided) n s ≡ pick decided (gives (pos 1) n s) (gives (pos 0) n s)
unfolding bit
decided-bit true n s = refl
decided-bit false n s = refl

pub truth-is : (v : ℤ) → bit (is_true v) ≡ truth v
unfolding truth
truth-is v = refl
