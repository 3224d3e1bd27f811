-- Laws of the walk along the definitions at the front: it writes the definition of each number. Its state is the number that comes next and
-- the row at that place.
use Rattle.std.specs.Prelude.{◌≡◌, refl, true, false, List, ℕ, suc, ◌+◌, ◌-◌, ◌≤◌, ◌<◌, ℤ, length, get_or, set}
use Rattle.std.proofs.Common.{sym, ◌∙◌, length-set, get_or-set_same, get_or-set_other}
use Rattle.std.proofs.Math.Path.{ap}
use native.Mathlib.Omega.{arith}
use Rattle.std.proofs.Math.Decide.{ℕ_discrete, dec_lt}
use Rattle.words.specs.Table.{row_count}
use Rattle.words.specs.Links.{link}
use Rattle.check_structure.specs.LinkLaws.{part-inside}
use Rattle.check_structure.specs.Structured.{Tree}
use Rattle.check_structure.specs.Passes.{Notes}
use Rattle.check_function_causes.specs.Functions.{is_definition, definition_from, function_at}
use Rattle.check_function_causes.specs.Demands.{InFront, foremost, behind}
use Rattle.check_function_causes.proofs.FrontLaws.{definition-leads, front-function, front-later, front-inside, from-behind, from-other}
use Rattle.check_functions.specs.Passes.{Blank}

pub record Walking (rows : List ℤ) (start functions : List ℕ) (number row : ℕ) : Type 0 where
  pub same : length functions ≡ length start
  pub room : row_count rows ≤ length functions
  pub inside : row < row_count rows
  pub placed : is_definition rows row ≡ true → InFront rows row number
  pub rest : (places : ℕ) → function_at rows (number + places) ≡ definition_from places rows row
  pub written : (earlier : ℕ) → earlier < number → get_or functions earlier 0 ≡ function_at rows earlier
  pub blank : (later : ℕ) → number ≤ later → later < row_count rows → get_or functions later 0 ≡ 0

module _ {rows : List ℤ} (t : Tree rows) (root : is_definition rows 0 ≡ false) {start : List ℕ} where
  pub walking-begun : (row : ℕ) → Blank rows start → row ≡ link rows 0 1 → Walking rows start start 0 row
  unfolding function_at
  walking-begun row b e =
      rw e
      (record {
        same = refl;
        room = b.room;
        inside = part-inside rows t 0 1 (link rows 0 1) t.some_rows (omega arith) refl;
        placed = λ d. foremost (definition-leads rows t root 0 1 t.some_rows (omega arith) d) d;
        rest = λ places. let whole : 0 + places ≡ places = omega arith in ap (λ (n : ℕ). definition_from n rows (link rows 0 1)) whole;
        written = λ earlier l. absurd (omega arith);
        blank = λ later l n. b.is later n;
      })

  -- a number that has a definition is the number of a row
  pub walking-number : {functions : List ℕ} {number row : ℕ} → Walking rows start functions number row → is_definition rows row ≡ true → number < row_count rows
  walking-number w d = let f = w.placed d in let l = front-later rows f in let i = front-inside rows f in omega arith

  pub walking_on : {functions : List ℕ} {number row : ℕ} (following value : ℕ) → Walking rows start functions number row → is_definition rows row ≡ true → value ≡ row → following ≡ link rows row 5
      → Walking rows start (set functions number value) (number + 1) following
  walking_on {functions} {number} {row} following value w d v e =
      let front = w.placed d in
      let few = walking-number w d in
      let room = w.room in
      rw (e, v)
      (record {
        same = length-set functions number row ∙ w.same;
        room = rw (length-set functions number row) w.room;
        inside = part-inside rows t row 5 (link rows row 5) w.inside (omega arith) refl;
        placed = λ f. behind front (definition-leads rows t root row 5 w.inside (omega arith) f) f;
        rest = λ places. let on : number + 1 + places ≡ number + suc places = omega arith in ap (function_at rows) on ∙ w.rest (suc places) ∙ from-behind rows row places d;
        written = λ earlier l. before earlier l (ℕ_discrete earlier number) front (omega arith);
        blank = λ later l n. get_or-set_other functions number later row 0 (λ q. omega arith) ∙ w.blank later (omega arith) n;
      })
    where
      before : (earlier : ℕ) → earlier < number + 1 → Dec (earlier ≡ number) → InFront rows row number → number < length functions → get_or (set functions number row) earlier 0 ≡ function_at rows earlier
      before earlier l (yes q) front room = rw q (get_or-set_same functions number row 0 room ∙ sym (front-function rows front))
      before earlier l (no q) front room = get_or-set_other functions number earlier row 0 q ∙ w.written earlier (omega (arith, q))

  pub walking-ended : {functions : List ℕ} {number row : ℕ} → Walking rows start functions number row → is_definition rows row ≡ false → Notes rows (function_at rows) functions
  walking-ended {functions} {number} {row} w d = record { room = w.room; is = λ n l. go n l (dec_lt n number) }
    where
      go : (n : ℕ) → n < row_count rows → Dec (n < number) → get_or functions n 0 ≡ function_at rows n
      go n l (yes h) = w.written n h
      go n l (no h) =
          let far : number ≤ n = omega (arith, h) in
          let on : number + (n - number) ≡ n = omega arith in
          w.blank n far l ∙ sym (ap (function_at rows) (sym on) ∙ w.rest (n - number) ∙ from-other rows row (n - number) d)
