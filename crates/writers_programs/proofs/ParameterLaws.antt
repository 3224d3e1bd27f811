-- Parameters: the parameters of a function, one behind another.
use mathlib.Core.Path.{◌≡◌, refl, sym, ap, ap₂, ◌∙◌}
use mathlib.Core.Bool.{true, false, true≢false}
use mathlib.Core.List.{List, [], ◌∷◌, ◌++◌}
use Prim.Native.Nat.{ℕ, zero, suc, ◌+◌, ◌≤◌, ◌<◌}
use native.Mathlib.Omega.{arith}
use lib.IntN.{ℤ, pos}
use lib.ListN.{length}
use Rattle.words.specs.Word.{pick}
use Rattle.words.specs.Table.{row_count, number_at}
use Rattle.words.specs.Laws.{by_cases}
use Rattle.words.specs.Over.{over}
use Rattle.words.specs.OverLaws.{over-next}
use Rattle.language.specs.Decode.{parameter_list_at}
use Rattle.language_emission.specs.Emission.{row_of, parameters_link, emit_parameters}
use Rattle.language_shapes.specs.Shapes.{OptionalOnward}
use Rattle.language_shapes.specs.Source.{Source}
use Rattle.writers_rows.specs.Room.{more_rows}
use Rattle.writers_rows.specs.Chain.{part, back_in, PutWords}
use Rattle.write_sets_functions.specs.Definitions.{is_parameter}
use Rattle.write_sets_functions.proofs.DefinitionLaws.{declared-kind, next_inside, next-later, list-parameter, list-ended}

-- A parameter: its word, and those behind it.
pub record ParameterAt (rows : List ℤ) (parameter : ℕ) : Type 0 where
  pub is : parameter_list_at rows parameter ≡ number_at rows parameter 1 ∷ parameter_list_at rows (number_at rows parameter 5)
  pub low : number_at rows parameter 1 < 65536
  pub behind : OptionalOnward rows parameter (number_at rows parameter 5)

module _ {rows : List ℤ} (s : Source rows) where
  parameter-is : (parameter : ℕ) → parameter < row_count rows → is_parameter rows parameter ≡ true → ParameterAt rows parameter
  parameter-is zero inside d = absurd (true≢false (sym d))
  parameter-is (suc parameter) inside d = record {
    is = list-parameter s (suc parameter) inside d;
    low = omega (arith, (s.names.declared (suc parameter) inside (declared-kind rows (suc parameter) d)).within, s.names.small);
    behind = λ h. record { later = next-later s inside (number_at rows (suc parameter) 5) refl h; inside = next_inside s inside (number_at rows (suc parameter) 5) refl };
  }

  -- parameters that are counted are there
  pub parameter-some : (parameter : ℕ) → 0 < length (parameter_list_at rows parameter) → 0 < parameter
  parameter-some zero h = absurd (omega arith)
  parameter-some (suc parameter) h = omega arith

  pub counted_is : (parameter : ℕ) → parameter < row_count rows → 0 < length (parameter_list_at rows parameter) → ParameterAt rows parameter
  counted_is parameter inside h =
      by_cases (is_parameter rows parameter) (parameter-is parameter inside)
      (λ d. absurd (omega (arith, ap (λ words. length words) (list-ended s parameter d))))

-- ---- their rows

pub parameters-link : (words : List ℕ) (base : ℕ) → parameters_link words base ≡ pick (more_rows false (length words)) base 0
parameters-link [] base = refl
parameters-link (word ∷ words) base = refl

pub parameters-none : (words : List ℕ) (base : ℕ) (l : List ℤ) → length words ≡ 0 → l ≡ over (emit_parameters words base) l
unfolding emit_parameters over
parameters-none [] base l e = refl
parameters-none (word ∷ words) base l e = absurd (omega arith)

-- The row of the first, and then those behind it.
pub parameters-done : (rows : List ℤ) (parameter base rest : ℕ) (l : List ℤ) {next word after : ℕ} {l1 l2 : List ℤ} → ParameterAt rows parameter
    → word ≡ number_at rows parameter 1 → next ≡ number_at rows parameter 5 → rest + 1 ≡ length (parameter_list_at rows parameter) → after ≡ pick (more_rows false rest) (base + 1) 0
    → l1 ≡ over (row_of 58 (pos word) 0 0 0 after) l
    → l2 ≡ over (emit_parameters (parameter_list_at rows next) (base + 1)) (part 1 l1)
    → back_in 1 l1 l2 ≡ over (emit_parameters (parameter_list_at rows parameter) base) l
unfolding emit_parameters
parameters-done rows parameter base rest l {next} {word} {after} {l1} {l2} at ew en er ea t1 t2 =
    let others = parameter_list_at rows (number_at rows parameter 5) in
    let row : PutWords (row_of 58 (pos word) 0 0 0 after) 1 l l1 = record { table = t1; size = refl } in
    let same : l2 ≡ over (emit_parameters others (base + 1)) (part 1 l1) = t2 ∙ ap (λ (n : ℕ). over (emit_parameters (parameter_list_at rows n) (base + 1)) (part 1 l1)) en in
    let count : rest ≡ length others = omega (arith, er, ap (λ words. length words) at.is) in
    let link : after ≡ parameters_link others (base + 1) = ea ∙ ap (λ (n : ℕ). pick (more_rows false n) (base + 1) 0) count ∙ sym (parameters-link others (base + 1)) in
    over-words (emit_parameters others (base + 1)) row same ∙ ap (λ ws. over ws l) (ap₂ (λ (w a : ℕ). row_of 58 (pos w) 0 0 0 a ++ emit_parameters others (base + 1)) ew link) ∙ ap (λ words. over (emit_parameters words base) l) (sym at.is)
  where
    over-words : {u : List ℤ} (v : List ℤ) {m : List ℤ} {l1 l2 : List ℤ} → PutWords u 1 m l1 → l2 ≡ over v (part 1 l1) → back_in 1 l1 l2 ≡ over (u ++ v) m
    over-words {u} v p e = over-next u v _ _ _ 6 (sym p.size) p.table e
