-- Tests: the tests of a line, with what the code read of it, and on words that went through a call.
use Rattle.std.specs.Prelude.{None, Some}
use mathlib.Core.Path.{◌≡◌, refl, sym, ap, ◌∙◌}
use mathlib.Core.Bool.{Bool, true, false, true≢false, not, ◌&&◌}
use mathlib.Core.List.{List}
use Prim.Native.Nat.{ℕ, ◌^◌, ◌<◌}
use lib.Dec.{ltb, eqb}
use lib.IntN.{ℤ}
use lib.Signed.{mag}
use mir.Syntax.{w32}
use mir.Val.{to_z, of_z}
use Rattle.words.specs.Word.{natural, pick}
use Rattle.words.specs.Laws.{back}
use Rattle.check_fields.specs.declared.Bounds.{Bounds}
use Rattle.flat.specs.Words.{line_count, field_at, operation_at, kind_of, left_constant, right_constant}
use Rattle.flat.specs.Refusal.{shape_of, is_kind, or_unused, constant_fits, known_operation, lands_inside, jump_outside, holds_right, number_outside}
use Rattle.flat.specs.declared.LineShape.{LineShape}

-- a word that was read and handed on
pub handed : {A : Type 0} (f : ℤ → A) (w z : ℤ) {r : A} → mag w < 2 ^ 31 → w ≡ z → r ≡ f (to_z w32 (of_z w32 w)) → r ≡ f z
handed f w z h e g = g ∙ ap f (back w h ∙ e)

module _ (operation kind : ℕ) (k : kind ≡ kind_of operation) where
  pub no_kind : None ≡ shape_of kind → false ≡ known_operation operation
  unfolding known_operation
  no_kind e = by (ltb operation 256)
    where
      by : (t : Bool) → false ≡ (t && (is_kind (shape_of (kind_of operation)) && (constant_fits (left_constant operation) (or_unused (shape_of (kind_of operation))).left && constant_fits (right_constant operation) (or_unused (shape_of (kind_of operation))).right)))
      by true = rw (← k, ← e)
      by false = refl

  pub known_is : (s : LineShape) → Some s ≡ shape_of kind → known_operation operation ≡ (ltb operation 256 && (constant_fits (left_constant operation) s.left && constant_fits (right_constant operation) s.right))
  unfolding known_operation
  known_is s e = rw (← k, ← e)

module _ (list : List ℤ) (line operation kind : ℕ) (s : LineShape) (o : operation ≡ operation_at list line) (k : kind ≡ kind_of operation) (e : s ≡ or_unused (shape_of kind)) where
  shape_is : s ≡ or_unused (shape_of (kind_of operation))
  shape_is = e ∙ ap (λ (n : ℕ). or_unused (shape_of n)) k

  pub jump-is : jump_outside list line ≡ not (pick s.jumps (lands_inside line (line_count list) (field_at list line 4)) (eqb (natural (field_at list line 4)) 0))
  unfolding jump_outside
  jump-is = rw (← o, ← shape_is)

  pub number_is : (bounds : Bounds) → number_outside bounds list line
      ≡ not (holds_right bounds s.target false (field_at list line 1) && (holds_right bounds s.left (left_constant operation) (field_at list line 2) && holds_right bounds s.right (right_constant operation) (field_at list line 3)))
  unfolding number_outside
  number_is bounds = rw (← o, ← shape_is)

-- three tests in a row, by what the first two say
module _ (a b c both : Bool) (e : both ≡ (a && b)) where
  pub third-counts : both ≡ true → (r : Bool) → r ≡ c → not r ≡ not (a && (b && c))
  third-counts t r f = ap not (f ∙ by a b (sym e ∙ t))
    where
      by : (a b : Bool) → (a && b) ≡ true → c ≡ (a && (b && c))
      by true true t = refl
      by true false t = absurd (true≢false (sym t))
      by false b t = absurd (true≢false (sym t))

  pub third-spared : both ≡ false → not both ≡ not (a && (b && c))
  third-spared t = ap not (t ∙ by a b (sym e ∙ t))
    where
      by : (a b : Bool) → (a && b) ≡ false → false ≡ (a && (b && c))
      by true true t = absurd (true≢false t)
      by true false t = refl
      by false b t = refl
