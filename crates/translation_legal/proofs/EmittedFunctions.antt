-- The functions of an emitted program: its definitions are the run at the front, each with its place as its number; its returns stand inside
-- functions; its calls go to lower functions, with as many arguments as these have parameters; no two parameters of a function name one word. By
-- induction over the definitions.
use Rattle.std.specs.Prelude.{◌≡◌, Bool, true, List, eqb, ℤ}
use Rattle.std.proofs.Math.Path.{refl, sym, subst}
use Rattle.std.proofs.Common.{ap, ◌∙◌, true≢false, add-one, arith, eq-eqb, ne_eqb}
use Rattle.std.proofs.Math.Bool.{false}
use Rattle.std.proofs.lemmas.Bool.{false≢true}
use Prim.Native.Nat.{ℕ, suc, ◌+◌, ◌≤◌, ◌<◌}
use Rattle.std.proofs.Math.Decide.{ℕ_discrete}
use Rattle.std.proofs.Math.Arith.{lt_of_le-ne}
use Rattle.std.proofs.Math.ListN.{length}
use Rattle.words.specs.Table.{row_count, number_at}
use Rattle.words.specs.Declarations.{is_declaration}
use Rattle.words.specs.Kinds.{sort_of, is_link, kind_of, kind_in, kinds, sort_in, kind_row, expression_fields, statement_fields, mark_fields, definition_fields, member_fields}
use Rattle.words.specs.Links.{link}
use Rattle.language.specs.Trees.{block, Items, define}
use Rattle.language.specs.Sizes.{statement_rows, items_rows}
use Rattle.language.specs.Functions.{function_of, function_count}
use Rattle.language.specs.Calls.{StatementCallsBelow, ItemsCallBelow, arity_in, Numbered, CallsInOrder}
use Rattle.translation.specs.KernelForm.{kernel-block, KernelItems, kernel-none, kernel-then, kernel-label, KernelProgram, kernel_main, kernel_define}
use Rattle.check_structure.specs.Structured.{Tree}
use Rattle.check_structure.specs.Lists.{before-later}
use Rattle.check_declaration_causes.specs.Demands.{NotTwice}
use Rattle.words_roles.specs.Roles.{is_definition}
use Rattle.check_function_causes.specs.Functions.{is_call, is_return, function_around}
use Rattle.check_function_causes.specs.Demands.{InFront, foremost, behind, Within, Listed, ReturnInside, WellCalled}
use Rattle.check_function_causes.proofs.FrontLaws.{block-undefined, definition-some}
use Rattle.check_function_causes.proofs.AroundLaws.{around-within, within-defines, within-is}
use Rattle.language_emission.specs.Emission.{list_link, parameters_link}
use Rattle.language_emission.specs.Emitted.{Row, EmittedParameters, no_parameter_at, parameter-at, EmittedStatement, block_at, EmittedItems, define-at}
use Rattle.language_emission.proofs.ReadBack.{link-forward}
use Rattle.translation_legal.specs.Ranges.{Each, none_of, join, first-and}
use Rattle.translation_legal.specs.Suits.{row-link}
use Rattle.translation_legal.specs.OwnWords.{Apart, OwnWords, FrontParameters}
use Rattle.translation_legal.proofs.Parameters.{ParameterAt, parameters-listed, parameters-differ}
use Rattle.translation_legal.proofs.EmittedRows.{not-kind, first-statement}
use Rattle.translation_legal.proofs.EmittedAhead.{leads-to, definition-next, list_inside}
use Rattle.translation_legal.proofs.EmittedInside.{CallAt, Inside, around-root, around-on, around-next, around-part, inside-statement, inside-items}

-- ---- one row

-- What the request demands of a row, with the function that it stands in.
record Ordered (rows : List ℤ) (arity : ℕ → ℕ) (functions row : ℕ) : Type 0 where
  in_front : is_definition rows row ≡ true → InFront rows row (number_at rows row 1)
  in-function : is_return rows row ≡ true → function_around rows row ≡ 0 → ⊥
  call : is_call rows row ≡ true → CallAt rows arity functions row
  lower : is_call rows row ≡ true → (function_around rows row ≡ 0 → ⊥) → number_at rows row 1 < number_at rows (function_around rows row) 1
  parameter : is_declaration rows row ≡ true → ParameterAt rows row

-- The row of the function with this number, which has so many parameters.
record FunctionRow (rows : List ℤ) (f count : ℕ) : Type 0 where
  definition : ℕ
  front : InFront rows definition f
  parameters : Listed rows (link rows definition 2) count

-- Items without definitions define no function.
pub plain-count : {mayReturn : Bool} {ahead is : Items} → KernelItems mayReturn ahead is → function_count is ≡ 0
unfolding function_count
plain-count kernel-none = refl
plain-count (kernel-then h k) = plain-count k
plain-count (kernel-label h k) = plain-count k

module _ (rows : List ℤ) (t : Tree rows) (arity : ℕ → ℕ) (functions : ℕ) where
  abbrev Ordereds : ℕ → ℕ → Type 0
  Ordereds low high = Each (Ordered rows arity functions) low high

  ordered-block : {row a next : ℕ} → Row rows row 42 a 0 0 0 next → Ordered rows arity functions row
  unfolding is_definition is_return is_call is_declaration
  ordered-block r =
      record {
        in_front = λ q. absurd (true≢false (sym q ∙ not-kind r 59 (λ k. omega arith)));
        in-function = λ q. absurd (true≢false (sym q ∙ not-kind r 60 (λ k. omega arith)));
        call = λ q. absurd (true≢false (sym q ∙ not-kind r 31 (λ k. omega arith)));
        lower = λ q. absurd (true≢false (sym q ∙ not-kind r 31 (λ k. omega arith)));
        parameter = λ q. absurd (true≢false (sym q ∙ not-kind r 58 (λ k. omega arith)));
      }

  -- A definition at the front, with its place as its number.
  ordered-definition : {row f b c next : ℕ} → Row rows row 59 f b c 0 next → InFront rows row f → Ordered rows arity functions row
  unfolding is_return is_call is_declaration
  ordered-definition r front =
      record {
        in_front = λ q. rw r.a_is front;
        in-function = λ q. absurd (true≢false (sym q ∙ not-kind r 60 (λ k. omega arith)));
        call = λ q. absurd (true≢false (sym q ∙ not-kind r 31 (λ k. omega arith)));
        lower = λ q. absurd (true≢false (sym q ∙ not-kind r 31 (λ k. omega arith)));
        parameter = λ q. absurd (true≢false (sym q ∙ not-kind r 58 (λ k. omega arith)));
      }

  ordered-parameters : {words : List ℕ} {base : ℕ} (end : ℕ) → base + length words ≡ end → EmittedParameters rows words base → Apart words → Ordereds base end
  unfolding is_definition is_return is_call Apart
  ordered-parameters end q (no_parameter_at {base}) apart = none_of _ base end (omega arith)
  ordered-parameters end q (parameter-at {word} {words} {base} r n) apart =
      first-and _ base end
      (record {
        in_front = λ q. absurd (true≢false (sym q ∙ not-kind r 59 (λ k. omega arith)));
        in-function = λ q. absurd (true≢false (sym q ∙ not-kind r 60 (λ k. omega arith)));
        call = λ q. absurd (true≢false (sym q ∙ not-kind r 31 (λ k. omega arith)));
        lower = λ q. absurd (true≢false (sym q ∙ not-kind r 31 (λ k. omega arith)));
        parameter = λ q. record { word = word; rest = words; stand = parameter-at r n; others = apart.0 };
      })
      (ordered-parameters end (omega arith) n apart.1)

  -- A row of the main part.
  ordered-main : (row : ℕ) → Inside rows arity false functions 0 row → Ordered rows arity functions row
  ordered-main row i =
      record {
        in_front = λ q. absurd (true≢false (sym q ∙ i.no_definition));
        in-function = λ q. absurd (false≢true (i.returns q));
        call = i.calls;
        lower = λ q some. absurd (some i.function);
        parameter = λ q. absurd (true≢false (sym q ∙ i.no_declaration));
      }

  -- A row in the function with this number.
  ordered-within : (definition number : ℕ) → 0 < definition → number_at rows definition 1 ≡ number → number < functions → (row : ℕ) → Inside rows arity true number definition row → Ordered rows arity functions row
  ordered-within definition number p e h row i =
      record {
        in_front = λ q. absurd (true≢false (sym q ∙ i.no_definition));
        in-function = λ q z. let is = i.function in omega arith;
        call = λ q. let c = i.calls q in record { lower = omega (arith, c.lower); arguments = c.arguments };
        lower = λ q some. rw (i.function, e) (i.calls q).lower;
        parameter = λ q. absurd (true≢false (sym q ∙ i.no_declaration));
      }

  -- ---- the definitions at the front

  -- The list that begins here is the rest of row 0's list from the place `number` on.
  record Front (is : Items) (base number : ℕ) : Type 0 where
    outside : 0 < list_link false is base → function_around rows (list_link false is base) ≡ 0
    place : 0 < list_link false is base → is_definition rows (list_link false is base) ≡ true → InFront rows (list_link false is base) number

  defines : {row f b c next : ℕ} → Row rows row 59 f b c 0 next → is_definition rows row ≡ true
  unfolding is_definition
  defines r = rw r.kind_is

  -- What stands behind a definition at the front.
  front-next : {f b c : ℕ} {is : Items} {row m number : ℕ} → Row rows row 59 f b c 0 (list_link false is m) → row < m → EmittedItems rows is m → function_around rows row ≡ 0 → InFront rows row number → Front is m (suc number)
  front-next {f} {b} {c} {is} {row} {m} {number} r h n outside place =
      let next = definition-next r in
      record {
        outside = λ p. around-next rows t row (list_link false is m) next (link-forward is row m h p) (list_inside n p) ∙ outside;
        place = λ p d. subst (InFront rows (list_link false is m)) (add-one number)
            (subst (λ (x : ℕ). InFront rows x (number + 1)) next (behind place (leads-to row 5 (list_link false is m) next (link-forward is row m h p) (list_inside n p)) (ap (is_definition rows) next ∙ d)));
      }

  ordered-program : (S D : ℕ) {is : Items} {base : ℕ} (number end : ℕ) → base + items_rows is ≡ end → EmittedItems rows is base → KernelProgram is → Numbered number is
      → FrontParameters (OwnWords S D) is → ((f : ℕ) → number ≤ f → f < functions → ItemsCallBelow arity f (function_of f is).body) → ItemsCallBelow arity functions is → number + function_count is ≡ functions → 0 < base → Front is base number
      → Ordereds base end
  unfolding items_rows statement_rows Numbered function_of function_count FrontParameters ItemsCallBelow StatementCallsBelow sort_of kind_of kind_in kinds sort_in kind_row expression_fields statement_fields mark_fields definition_fields member_fields is_link
  ordered-program S D number end q m (kernel_main k) numbered own-words bodies calls count positive front = λ row l h. ordered-main row (inside-items rows t arity functions 0 end q m k calls positive front.outside row l h)
  ordered-program S D {base = base} number end q (define-at {f} {words} {body} {is} r p m n) (kernel_define b k) numbered own-words bodies calls count positive front =
      let own = base + 1 + length words in
      let behind = own + 1 + items_rows body in
      let same = numbered.0 in
      let here : ItemsCallBelow arity number body = rw (eq-eqb number f (sym same)) at (bodies number (omega arith) (omega arith)) in
      let rest : (g : ℕ) → suc number ≤ g → g < functions → ItemsCallBelow arity g (function_of g is).body =
      λ g l h. rw (ne_eqb g f (λ e. omega arith)) at (bodies g (omega arith) h) in
      let in_front = front.place positive (defines r) in
      let block_inside = (first-statement m).0.inside in
      let within = around-part rows t base 3 own (omega arith) (defines r) (row-link r 3 own r.c_is) (omega arith) block_inside in
      first-and _ base end
      (ordered-definition r (rw same in_front))
      (join _ (base + 1) own end (ordered-parameters own refl p own-words.0.apart)
      (join _ own behind end
      (λ row l h. ordered-within base number positive (r.a_is ∙ same) (omega arith) row (inside-statement rows t arity number base behind (omega arith) m (kernel-block b) here within row l h))
      (ordered-program S D (suc number) end (omega arith) n k numbered.1 own-words.1 rest calls (omega arith) (omega arith) (front-next r (omega arith) n (front.outside positive) in_front))))

  function-row : {is : Items} {base : ℕ} (number : ℕ) → EmittedItems rows is base → KernelProgram is → Numbered number is → 0 < base → Front is base number → (f : ℕ) → number ≤ f → f < number + function_count is
      → FunctionRow rows f (length (function_of f is).parameters)
  unfolding Numbered function_of function_count sort_of kind_of kind_in kinds sort_in kind_row expression_fields statement_fields mark_fields definition_fields member_fields is_link
  function-row number m (kernel_main k) numbered positive front f l h = absurd (omega (arith, plain-count k))
  function-row {base = base} number (define-at {f = g} {words} {body} {is} r p m n) (kernel_define b k) numbered positive front f l h =
      let in_front = front.place positive (defines r) in
      go (ℕ_discrete f g) in_front
      (λ later. function-row (suc number) n k numbered.1 (omega arith) (front-next r (omega arith) n (front.outside positive) in_front) f later (omega arith))
    where
      go : Dec (f ≡ g) → InFront rows base number → (suc number ≤ f → FunctionRow rows f (length (function_of f is).parameters)) → FunctionRow rows f (length (function_of f (define g words body is)).parameters)
      go (yes e) in_front rest = rw (eq-eqb f g e) (record {
        definition = base;
        front = subst (InFront rows base) (sym numbered.0 ∙ sym e) in_front;
        parameters = rw (row-link r 2 (parameters_link words (base + 1)) r.b_is) (parameters-listed (omega arith) p);
      })
      go (no e) in_front rest = rw (ne_eqb f g e) (rest (lt_of_le-ne l (λ q. e (sym q ∙ sym numbered.0))))

-- ---- the whole table

module _ (rows : List ℤ) (t : Tree rows) {program : Items} (count : row_count rows ≡ statement_rows (block program)) (first : EmittedStatement rows (block program) 0 0) (form : KernelProgram program)
    (calls : CallsInOrder program) (S D : ℕ) (own : FrontParameters (OwnWords S D) program) where
  abbrev functions : ℕ
  functions = function_count program

  root-row : Row rows 0 42 (list_link false program 1) 0 0 0 0
  root-row = of first
    where
      of : EmittedStatement rows (block program) 0 0 → Row rows 0 42 (list_link false program 1) 0 0 0 0
      of (block_at r m) = r

  root-items : EmittedItems rows program 1
  root-items = of first
    where
      of : EmittedStatement rows (block program) 0 0 → EmittedItems rows program 1
      of (block_at r m) = m

  root : is_definition rows 0 ≡ false
  root = block-undefined rows 0 root-row.kind_is

  front : Front rows t (arity_in program) functions program 1 0
  unfolding sort_of kind_of kind_in kinds sort_in kind_row expression_fields statement_fields mark_fields definition_fields member_fields is_link
  front =
      let linked = row-link root-row 1 (list_link false program 1) root-row.a_is in
      record {
        outside = λ p. around-on rows t 0 1 (list_link false program 1) (omega arith) root linked p (list_inside root-items p) ∙ around-root rows;
        place = λ p d. subst (λ (x : ℕ). InFront rows x 0) linked (foremost (leads-to 0 1 (list_link false program 1) linked p (list_inside root-items p)) (ap (is_definition rows) linked ∙ d));
      }

  ordered : (row : ℕ) → row < row_count rows → Ordered rows (arity_in program) functions row
  unfolding statement_rows
  ordered row h =
      first-and (Ordered rows (arity_in program) functions) 0 (row_count rows) (ordered-block rows t (arity_in program) functions root-row)
      (ordered-program rows t (arity_in program) functions S D 0 (row_count rows) (omega arith) root-items form calls.numbered own (λ f l m. calls.lower f m) calls.main (omega arith) (omega arith) front) row (omega arith) h

  pub emitted-returns : (row : ℕ) → row < row_count rows → ReturnInside rows row
  emitted-returns row h r = record { definition = function_around rows row; within = around-within rows t row h ((ordered row h).in-function r) }

  -- A call in a function goes to a lower one.
  lower_call : (row : ℕ) → row < row_count rows → is_call rows row ≡ true → (around : ℕ) → Within rows around row → number_at rows row 1 < number_at rows around 1
  lower_call row h c around w =
      let is = within-is rows t root (λ row h d. (ordered row h).in_front d) w in
      subst (λ (x : ℕ). number_at rows row 1 < number_at rows x 1) is
      ((ordered row h).lower c (λ z. definition-some rows t root around (within-defines rows t root w) (sym is ∙ z)))

  pub emitted-called : WellCalled rows
  emitted-called =
      record {
        in_order = λ row h d. (ordered row h).in_front d;
        called = λ row h c.
            let call = (ordered row h).call c in
            let function = function-row rows t (arity_in program) functions 0 root-items form calls.numbered (omega arith) front (number_at rows row 1) (omega arith) (omega (arith, call.lower)) in
            record {
              definition = function.definition;
              function = function.front;
              lower = lower_call row h c;
              count = arity_in program (number_at rows row 1);
              arguments = call.arguments;
              parameters = function.parameters;
            };
      }

  pub emitted-apart : (row : ℕ) → row < row_count rows → NotTwice rows row
  emitted-apart row h d earlier b e same = parameters-differ ((ordered earlier (omega (arith, before-later b))).parameter e) b same
