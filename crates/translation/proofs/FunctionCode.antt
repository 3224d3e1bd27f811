-- The functions of a program and of its code: where the temporaries of each begin, that its code is the translation of its block, and that a function's
-- temporaries lie above those of all that may call it. By induction on the definitions at the front.
use Rattle.std.specs.Prelude.{◌≡◌, Bool, List, length}
use Rattle.std.proofs.Math.Path.{refl, ap}
use Rattle.std.proofs.Math.Bool.{true, false}
use Prim.Native.Nat.{ℕ, suc, ◌+◌, ◌≤◌, ◌<◌}
use native.Mathlib.Omega.{arith}
use Rattle.std.proofs.Math.Dec.{eqb}
use borrow.Author.Tests.{eqb-true, eqb-false}
use Rattle.words.specs.Word.{pick}
use Rattle.words.specs.Layout.{Layout}
use Rattle.language.specs.Trees.{Statement, Mark, Items, none, ◌then◌, ◌here◌, define}
use Rattle.language.specs.Meaning.{Context, Signal, items, perform}
use Rattle.language.specs.Functions.{Function, function_of, function_count}
use Rattle.language.specs.Calls.{ItemsCallBelow, Numbered}
use Rattle.language.specs.WellFormed.{NamedWords, NamedStatement, NamedItems, PlacedItems, PlacedProgram, SourceName}
use Rattle.translation.specs.Translate.{exits, items_labels, statement_code, items_code, items_levels, program_levels, program_code}
use Rattle.translation.specs.TranslateSize.{statement_size, items_size, program_size}
use Rattle.translation.proofs.PassedCode.{labelled-items, labelled-count}
use Rattle.translation.proofs.StatementPreserves.{ItemsInRange}

-- The items behind the definitions.
unfoldable pub main_of : Items → Items
main_of none = none
main_of (s then is) = s then is
main_of (m here is) = m here is
main_of (define f words body is) = main_of is

-- A list without definitions has no functions.
no-functions : (mayReturn inSwitch mayBreak mayContinue : Bool) (is : Items) → PlacedItems mayReturn inSwitch mayBreak mayContinue is → function_count is ≡ 0
unfolding function_count PlacedItems
no-functions r s b c none p = refl
no-functions r s b c (d then is) p = no-functions r s b c is p.1
no-functions r s b c (m here is) p = no-functions r s b c is p.1
no-functions r s b c (define f words body is) p = absurd p

-- The functions of a program without definitions at its front: none.
none-behind : (number f : ℕ) (is : Items) → function_count is ≡ 0 → number ≤ f → f < number + function_count is → ⊥
none-behind number f is e p q = omega arith

module _ (called : ℕ → ℕ → Bool) (first : ℕ) where
  -- The store word where the temporaries of function f begin.
  unfoldable pub place_of : Items → ℕ → ℕ
  place_of none f = first
  place_of (s then is) f = first
  place_of (m here is) f = first
  place_of (define g words body is) f = pick (eqb f g) (first + program_levels called is) (place_of is f)

  -- What is known of a function of the program `is`, whose code's labels begin at l: its code, its place, and what holds of its block.
  pub record FunctionAt (L : Layout) (is : Items) (l : ℕ) (function code : Function) (place : ℕ) : Type 0 where
    pub label : ℕ
    pub label-least : l ≤ label
    pub code_is : code ≡ record { parameters = function.parameters; body = items_code called place function.body (exits 0 0) label }
    pub named : ItemsInRange L first function.body
    pub words-named : NamedWords (SourceName L first) (length L.lengths) function.parameters
    pub placed : PlacedItems true false false false function.body
    pub small : items_size called function.body ≤ program_size called is
    pub inside : place + items_levels called function.body ≤ first + program_levels called is
    pub above : first + items_levels called (main_of is) ≤ place

  pub main-levels : (is : Items) → items_levels called (main_of is) ≤ program_levels called is
  unfolding main_of program_levels
  main-levels none = omega arith
  main-levels (s then is) = omega arith
  main-levels (m here is) = omega arith
  main-levels (define f words body is) = omega (arith, main-levels is)

  pub main-size : (is : Items) → items_size called (main_of is) ≤ program_size called is
  unfolding main_of program_size
  main-size none = omega arith
  main-size (s then is) = omega arith
  main-size (m here is) = omega arith
  main-size (define f words body is) = omega (arith, main-size is)

  pub function-at : (L : Layout) (is : Items) (l number f : ℕ) → Numbered number is → ItemsInRange L first is → PlacedProgram is → number ≤ f → f < number + function_count is
      → FunctionAt L is l (function_of f is) (function_of f (program_code called first is l)) (place_of is f)
  unfolding Numbered PlacedProgram function_count function_of program_code place_of program_size program_levels main_of NamedStatement
  function-at L none l number f n h p least most = absurd (omega arith)
  function-at L (s then is) l number f n h p least most = absurd (none-behind number f (s then is) (no-functions false false false false (s then is) p) least most)
  function-at L (m here is) l number f n h p least most = absurd (none-behind number f (m here is) (no-functions false false false false (m here is) p) least most)
  function-at L (define g words body is) l number f n h p least most = by (eqb f g) refl (λ next. function-at L is (l + items_labels body) (suc number) f n.1 h.2 p.1 next (omega arith))
    where
      by : (same : Bool) → eqb f g ≡ same → (suc number ≤ f → FunctionAt L is (l + items_labels body) (function_of f is) (function_of f (program_code called first is (l + items_labels body))) (place_of is f))
          → FunctionAt L (define g words body is) l (function_of f (define g words body is)) (function_of f (program_code called first (define g words body is) l)) (place_of (define g words body is) f)
      by true e rest = rw e (record {
        label = l;
        label-least = omega arith;
        code_is = refl;
        named = h.1;
        words-named = h.0;
        placed = p.0;
        small = omega arith;
        inside = omega arith;
        above = omega (arith, main-levels is);
      })
      by false e rest =
          let r = rest (omega (arith, n.0, eqb-false f g e)) in
          rw e (record {
            label = r.label;
            label-least = omega (arith, r.label-least);
            code_is = r.code_is;
            named = r.named;
            words-named = r.words-named;
            placed = r.placed;
            small = omega (arith, r.small);
            inside = omega (arith, r.inside);
            above = r.above;
          })

  -- A function's temporaries lie below those of each function with a lower number.
  pub places-in-order : (L : Layout) (is : Items) (number f g : ℕ) → Numbered number is → ItemsInRange L first is → PlacedProgram is → number ≤ g → g < f → f < number + function_count is
      → place_of is f + items_levels called (function_of f is).body ≤ place_of is g
  unfolding Numbered PlacedProgram function_count function_of place_of NamedStatement
  places-in-order L none number f g n h p least less most = absurd (omega arith)
  places-in-order L (s then is) number f g n h p least less most = absurd (none-behind number f (s then is) (no-functions false false false false (s then is) p) (omega arith) most)
  places-in-order L (m here is) number f g n h p least less most = absurd (none-behind number f (m here is) (no-functions false false false false (m here is) p) (omega arith) most)
  places-in-order L (define k words body is) number f g n h p least less most =
      by (eqb f k) refl (eqb g k) refl (function-at L is 0 (suc number) f n.1 h.2 p.1 (omega arith) (omega arith)).inside (λ next. places-in-order L is (suc number) f g n.1 h.2 p.1 next less (omega arith))
    where
      by : (same : Bool) → eqb f k ≡ same → (own : Bool) → eqb g k ≡ own → place_of is f + items_levels called (function_of f is).body ≤ first + program_levels called is
          → (suc number ≤ g → place_of is f + items_levels called (function_of f is).body ≤ place_of is g)
          → place_of (define k words body is) f + items_levels called (function_of f (define k words body is)).body ≤ place_of (define k words body is) g
      by true e own o i rest = absurd (omega (arith, eqb-true f k e, n.0))
      by false e true o i rest = rw (e, o) i
      by false e false o i rest = rw (e, o) (rest (omega (arith, n.0, eqb-false g k o)))

  -- ---- the main part

  -- Where the labels of the main part begin.
  unfoldable pub main_label : Items → ℕ → ℕ
  main_label none l = l
  main_label (s then is) l = l
  main_label (m here is) l = l
  main_label (define f words body is) l = main_label is (l + items_labels body)

  pub main-label-least : (is : Items) (l : ℕ) → l ≤ main_label is l
  unfolding main_label
  main-label-least none l = omega arith
  main-label-least (s then is) l = omega arith
  main-label-least (m here is) l = omega arith
  main-label-least (define f words body is) l = omega (arith, main-label-least is (l + items_labels body))

  pub main-named : (L : Layout) (is : Items) → ItemsInRange L first is → ItemsInRange L first (main_of is)
  unfolding main_of NamedStatement
  main-named L none h = h
  main-named L (s then is) h = h
  main-named L (m here is) h = h
  main-named L (define f words body is) h = main-named L is h.2

  pub main-placed : (is : Items) → PlacedProgram is → PlacedItems false false false false (main_of is)
  unfolding main_of PlacedProgram
  main-placed none p = p
  main-placed (s then is) p = p
  main-placed (m here is) p = p
  main-placed (define f words body is) p = main-placed is p.1

  pub main-calls : (arity : ℕ → ℕ) (limit : ℕ) (is : Items) → ItemsCallBelow arity limit is → ItemsCallBelow arity limit (main_of is)
  unfolding main_of ItemsCallBelow
  main-calls arity limit none h = h
  main-calls arity limit (s then is) h = h
  main-calls arity limit (m here is) h = h
  main-calls arity limit (define f words body is) h = main-calls arity limit is h

  -- A run passes over the definitions, in both programs.
  pub items-main : (C : Context) (is : Items) (signal : Signal) → items C is signal ≡ items C (main_of is) signal
  unfolding main_of perform
  items-main C none signal = refl
  items-main C (s then is) signal = refl
  items-main C (m here is) signal = refl
  items-main C (define f words body is) signal = items-main C is signal

  pub code-main : (C : Context) (is : Items) (l : ℕ) (signal : Signal) → items C (program_code called first is l) signal ≡ items C (items_code called first (main_of is) (exits 0 0) (main_label is l)) signal
  unfolding main_of main_label program_code statement_code perform
  code-main C none l signal = refl
  code-main C (s then is) l signal = refl
  code-main C (m here is) l signal = refl
  code-main C (define f words body is) l signal = code-main C is (l + items_labels body) signal

  -- As many functions in the code as in the program.
  pub code-count : (is : Items) (l : ℕ) → PlacedProgram is → function_count (program_code called first is l) ≡ function_count is
  unfolding program_code PlacedProgram function_count
  code-count none l p = refl
  code-count (s then is) l p = rw (no-functions false false false false (s then is) p) (labelled-count (labelled-items called first (s then is) (exits 0 0) l))
  code-count (m here is) l p = rw (no-functions false false false false (m here is) p) (labelled-count (labelled-items called first (m here is) (exits 0 0) l))
  code-count (define f words body is) l p = ap suc (code-count is (l + items_labels body) p.1)
