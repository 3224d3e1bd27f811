-- The causes 23 and 24 accept exactly the tables whose functions are as the request demands; so a table without functions.
use Rattle.std.specs.Prelude.{◌≡◌, refl, Bool, true, not, ◌&&◌, ◌||◌, List, ◌↔◌, ℕ, ◌<◌, eqb, ℤ, None, Ok}
use Rattle.std.proofs.Math.Path.{subst}
use Rattle.std.proofs.Common.{sym, ◌∙◌, arith}
use Rattle.std.proofs.Math.Bool.{false}
use Rattle.std.proofs.Math.Decide.{ℕ_discrete}
use Rattle.std.proofs.Math.Dec.{leb}
use borrow.Author.Tests.{eqb-true, eqb-false, eq-eqb, ne_eqb, leb-false, lt-leb, not-false}
use Rattle.words.specs.Table.{row_count, number_at}
use Rattle.words.specs.Laws.{by_cases, neither}
use Rattle.words.specs.Links.{link}
use Rattle.words.specs.Search.{lowest_row}
use Rattle.words.specs.SearchLaws.{some-all, lowest_row-all, all-lowest_row}
use Rattle.check_structure.specs.LinkLaws.{part-inside}
use Rattle.check_structure.specs.Refusal.{at, ◌next◌}
use Rattle.check_structure.specs.RefusalLaws.{next-accepts, accepts-next, at-accepts, accepts-at}
use Rattle.check_structure.specs.Structured.{Tree}
use Rattle.check_function_causes.specs.Functions.{is_definition, is_call, is_return, is_of_functions, has_functions, function_at, function_around, list_length}
use Rattle.check_function_causes.specs.Causes.{returns_outside, out_of_order, not_lower, wrong_count, wrong_call_of, wrong_call, function_refusal}
use Rattle.check_function_causes.specs.Demands.{Within, Listed, DefinedInOrder, Called, CalledRightly, WellCalled}
use Rattle.check_function_causes.proofs.FrontLaws.{front-function, front-later, front-inside, function-front, definition-some, ordered, in_order}
use Rattle.check_function_causes.proofs.AroundLaws.{within-is, within-defines, around-within}
use Rattle.check_function_causes.proofs.LengthLaws.{listed-length, length-listed}

-- Row 0 is a block, and no definition.
module _ (rows : List ℤ) (t : Tree rows) (root : is_definition rows 0 ≡ false) where
  -- ---- 24

  module _ (defined : (row : ℕ) → row < row_count rows → DefinedInOrder rows row) (row : ℕ) (n : row < row_count rows) where
    lower-around : not_lower rows (function_around rows row) (number_at rows row 1) ≡ false → (around : ℕ) → Within rows around row → number_at rows row 1 < number_at rows around 1
    unfolding not_lower
    lower-around e around w =
        let is = within-is rows t root defined w in
        let some = ne_eqb around 0 (definition-some rows t root around (within-defines rows t root w)) in
        leb-false (number_at rows around 1) (number_at rows row 1) (rw (is, some) at e)

    around-lower : ((around : ℕ) → Within rows around row → number_at rows row 1 < number_at rows around 1) → not_lower rows (function_around rows row) (number_at rows row 1) ≡ false
    unfolding not_lower
    around-lower below = go (ℕ_discrete (function_around rows row) 0)
      where
        go : Dec (function_around rows row ≡ 0) → (not (eqb (function_around rows row) 0) && leb (number_at rows (function_around rows row) 1) (number_at rows row 1)) ≡ false
        go (yes z) = rw (eq-eqb _ _ z)
        go (no z) = rw (ne_eqb _ _ z, lt-leb (number_at rows (function_around rows row) 1) (number_at rows row 1) (below (function_around rows row) (around-within rows t row n z)))

    rightly : wrong_call rows row ≡ false → CalledRightly rows row
    unfolding wrong_call wrong_call_of wrong_count
    rightly e c =
        let number = number_at rows row 1 in
        let definition = function_at rows (number_at rows row 1) in
        let known = neither (eqb (function_at rows (number_at rows row 1)) 0) _ (rw c at e) in
        let rest = neither (not_lower rows (function_around rows row) (number_at rows row 1)) _ known.1 in
        let function = function-front rows t root number (eqb-false _ _ known.0) in
        let same = eqb-true (list_length rows (link rows row 2)) (list_length rows (link rows definition 2)) (not-false _ rest.1) in
        record {
          definition = definition;
          function = function;
          lower = lower-around rest.0;
          count = list_length rows (link rows row 2);
          arguments = length-listed rows t (link rows row 2) (part-inside rows t row 2 (link rows row 2) n (omega arith) refl);
          parameters = subst (Listed rows (link rows (function_at rows (number_at rows row 1)) 2)) (sym same)
              (length-listed rows t (link rows definition 2) (part-inside rows t definition 2 (link rows definition 2) (front-inside rows function) (omega arith) refl));
        }

    called-rightly : CalledRightly rows row → wrong_call rows row ≡ false
    unfolding wrong_call wrong_call_of wrong_count
    called-rightly right = by_cases (is_call rows row) (λ c. rw c (call (right c))) (λ c. rw c)
      where
        call : Called rows row → wrong_call_of rows (function_at rows (number_at rows row 1)) (function_around rows row) row ≡ false
        call c =
            let is = front-function rows c.function in
            let some = ne_eqb c.definition 0 (λ z. let l = front-later rows c.function in omega arith) in
            let given = listed-length rows t c.arguments (part-inside rows t row 2 (link rows row 2) n (omega arith) refl) in
            let taken = listed-length rows t c.parameters (part-inside rows t c.definition 2 (link rows c.definition 2) (front-inside rows c.function) (omega arith) refl) in
            rw (is, some, around-lower c.lower, given, taken, eq-eqb c.count c.count refl)

  -- ---- both

  accepted-functions : function_refusal rows ≡ (Ok tt) → WellCalled rows
  unfolding function_refusal
  accepted-functions e =
      let c23 = next-accepts (at 23 _) _ e in
      let places = lowest_row-all rows (out_of_order rows) (at-accepts 23 _ c23.0) in
      let calls = lowest_row-all rows (wrong_call rows) (at-accepts 24 _ c23.1) in
      let defined : ((row : ℕ) → row < row_count rows → DefinedInOrder rows row) = λ row n. ordered rows t root row (places row n) in
      record { in_order = defined; called = λ row n. rightly defined row n (calls row n) }

  functions-accepted : WellCalled rows → function_refusal rows ≡ (Ok tt)
  unfolding function_refusal
  functions-accepted w =
      accepts-next (at 23 _) _ (accepts-at 23 _ (all-lowest_row rows (out_of_order rows) (λ row n. in_order rows t root row (w.in_order row n))))
      (accepts-at 24 _ (all-lowest_row rows (wrong_call rows) (λ row n. called-rightly w.in_order row n (w.called row n))))

  pub accepts-functions : function_refusal rows ≡ (Ok tt) ↔ WellCalled rows
  accepts-functions = (accepted-functions, functions-accepted)

-- ---- without functions

-- No row defines, calls or returns.
pub record NoFunctions (rows : List ℤ) : Type 0 where
  pub no_definition : (row : ℕ) → row < row_count rows → is_definition rows row ≡ false
  pub no_call : (row : ℕ) → row < row_count rows → is_call rows row ≡ false
  pub no_return : (row : ℕ) → row < row_count rows → is_return rows row ≡ false

pub without-functions : (rows : List ℤ) → has_functions rows ≡ false → NoFunctions rows
unfolding has_functions is_of_functions
without-functions rows e =
    let none : ((row : ℕ) → row < row_count rows → (is_definition rows row ≡ false) × ((is_call rows row || is_return rows row) ≡ false)) =
    λ row n. neither (is_definition rows row) _ (some-all (is_of_functions rows) (row_count rows) 0 e row (omega arith) (omega arith)) in
    record {
      no_definition = λ row n. (none row n).0;
      no_call = λ row n. (neither (is_call rows row) _ (none row n).1).0;
      no_return = λ row n. (neither (is_call rows row) _ (none row n).1).1;
    }

module _ (rows : List ℤ) (none : NoFunctions rows) where
  pub functionless-accepted : function_refusal rows ≡ (Ok tt)
  unfolding function_refusal out_of_order wrong_call
  functionless-accepted =
      accepts-next (at 23 _) _ (accepts-at 23 _ (all-lowest_row rows (out_of_order rows) (λ row n. rw (none.no_definition row n))))
      (accepts-at 24 _ (all-lowest_row rows (wrong_call rows) (λ row n. rw (none.no_call row n))))

  pub functionless-inside : lowest_row rows (returns_outside rows) ≡ None
  unfolding returns_outside
  functionless-inside = all-lowest_row rows (returns_outside rows) (λ row n. rw (none.no_return row n))
