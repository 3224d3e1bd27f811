-- Bindings: the arguments of a call in turn, told by the steps left: from the last to the first, and then the parameters.
use Rattle.std.specs.Prelude.{None, Option, Some}
use mathlib.Core.Path.{◌≡◌, refl, sym, ap, ◌∙◌}
use mathlib.Core.List.{List, [], ◌∷◌}
use Prim.Native.Nat.{ℕ, zero, suc, ◌*◌, ◌-◌, ◌^◌, ◌<◌, ◌≤◌}
use native.Mathlib.Omega.{arith}
use lib.IntN.{ℤ, pos}
use lib.ListN.{length, drop, set}
use lib.Signed.{mag}
use Rattle.words.specs.Table.{row_count, number_at}
use Rattle.words.specs.Kinds.{is_link, is_required, expression_fields, statement_fields, member_fields, definition_fields, kind_row, sort_in}
use Rattle.words.specs.declared.Kind.TheVariants.{OfExpression, Definition}
use Rattle.words.specs.declared.ExpressionKind.TheVariants.{Call}
use Rattle.computation.specs.Computation.{Computation, ret, ◌>>=◌}
use Rattle.computation.specs.Remaining.{Rest, gives, onward, spend}
use Rattle.language.specs.Trees.{Expression, call, Arguments, ◌also◌, Statement, block}
use Rattle.language.specs.Decode.{expression_at, statement_at, block_items, argument_list_at, parameter_list_at}
use Rattle.language.specs.DecodeLaws.{at_call, at_block}
use Rattle.language.specs.Meaning.{Context, enter, evaluate, value, given, exec}
use Rattle.language.specs.Functions.{Function, function_of, function_count, storing, returned, invoke}
use Rattle.language.proofs.FunctionLaws.{call-is}
use Rattle.language.specs.Calls.{argument_count}
use Rattle.language.specs.Program.{contents}
use Rattle.language.specs.Sound.{Link, OptionalLink}
use Rattle.language.specs.SoundLaws.{field_of, link-of, optional-link-of}
use Rattle.machine_operations.specs.Answers.{operand_of, answered}
use Rattle.machine_operations.specs.Bounds.{layout_in, function_row_in}
use Rattle.machine_operations.specs.Functions.{FunctionAt}
use Rattle.machine_operations.specs.Ready.{Setting, Ready, Entered}
use Rattle.machine_operations.specs.Rows.{context_at, value_at, evaluate_at}
use Rattle.machine_operations.proofs.Decoding.{handed, answered-spent, answered-word}
use Rattle.machine_operations.proofs.Enter.{entered, not_entered, onward-same, onward-onward}
use Rattle.machine_operations.proofs.Operands.{goes, hands-up}
use Rattle.machine_flows.specs.Calls.{ArgumentsAt, ParameterAt, row_behind}
use Rattle.machine_flows.specs.Lists.{InTable}
use Rattle.machine_flows.proofs.Items.{next-later}
use Rattle.machine_flows.proofs.Walks.{argument-tree, count-here, arguments-next, IsArgument, argument-at, IsParameter, parameter-at}
use Rattle.machine_executor.specs.Calls.{argument_at, bound_at, ReadyBind}
use Rattle.machine_executor.specs.Rows.{exec_at}
use Rattle.machine_executor.proofs.Rows.{in_table, table-row, optional-below}

-- ---- the arguments from the one at place k down to the first

module _ (rows : List ℤ) (bounds : List ℕ) where
  unfoldable pub given_down : ℕ → ℕ → List ℤ → Computation (List ℤ)
  given_down first zero values = ret values
  given_down first (suc k) values = do
    v ← argument_at rows bounds (row_behind rows first k)
    given_down first k (v ∷ values)

  -- the last of them is the one at the first row
  abbrev first_last : ℕ → List ℤ → ℕ → List ℤ → Rest (List ℤ)
  first_last first behind n s = onward (spend (argument_at rows bounds first) n s) (λ v n s. gives (v ∷ behind) n s)

  shifted : (first k : ℕ) (values : List ℤ) (n : ℕ) (s : List ℤ) → spend (given_down first (suc k) values) n s ≡ onward (spend (given_down (number_at rows first 5) k values) n s) (first_last first)
  unfolding spend given_down row_behind
  shifted first zero values n s = refl
  shifted first (suc k) values n s =
      onward-same (spend (argument_at rows bounds (row_behind rows (number_at rows first 5) k)) n s) _ _ (λ v n s. shifted first k (v ∷ values) n s)
      ∙ onward-onward (spend (argument_at rows bounds (row_behind rows (number_at rows first 5) k)) n s) (λ v n s. spend (given_down (number_at rows first 5) k (v ∷ values)) n s) (first_last first)

given-also : (C : Context) (e : Expression) (arguments : Arguments) (n : ℕ) (s : List ℤ)
    → spend (given C (e also arguments)) n s ≡ onward (spend (given C arguments) n s) (λ behind n s. onward (spend (enter (value C e)) n s) (λ v n s. gives (v ∷ behind) n s))
unfolding spend evaluate
given-also C e arguments n s = refl

module _ (rows : List ℤ) (bounds : List ℕ) where
  abbrev C : Context
  C = context_at rows bounds

  abbrev Down : ℕ → Type 0
  Down first = (n : ℕ) (s : List ℤ) → spend (given C (argument_list_at rows first)) n s ≡ spend (given_down rows bounds first (argument_count (argument_list_at rows first)) []) n s

  down-one-more : (links : ℕ) → ((l : ℕ) → ArgumentsAt rows l → row_count rows - l ≤ links → Down l) → (first : ℕ) → ArgumentsAt rows first → row_count rows - first ≤ suc links → Down first
  unfolding spend evaluate given_down argument_count
  down-one-more links behind-down zero arguments h n s = refl
  down-one-more links behind-down (suc first) arguments h n s =
      let z : suc first ≡ 0 → ⊥ = λ e. omega arith in
      let behind : ℕ = number_at rows (suc first) 5 in
      ap (λ (a : Arguments). spend (given C a) n s) (argument-tree arguments z) ∙ given-also C (expression_at rows (number_at rows (suc first) 1)) (argument_list_at rows behind) n s
      ∙ ap (λ (r : Rest (List ℤ)). onward r (first_last rows bounds (suc first))) (next behind refl n s)
      ∙ sym (ap (λ (k : ℕ). spend (given_down rows bounds (suc first) k []) n s) (count-here arguments z) ∙ shifted rows bounds (suc first) (argument_count (argument_list_at rows behind)) [] n s)
    where
      next : (behind : ℕ) → behind ≡ number_at rows (suc first) 5 → Down behind
      next zero e n s = refl
      next (suc l) e n s = behind-down (suc l) (arguments-next arguments (λ q. omega arith) e) (omega (arith, h, e, next-later arguments.table (omega (arith, e)))) n s

  down_by : (links first : ℕ) → ArgumentsAt rows first → row_count rows - first ≤ links → Down first
  down_by zero first arguments h n s = absurd (omega (arith, h, arguments.table.below))
  down_by (suc links) first arguments h n s = down-one-more links (λ l a g n s. down_by links l a g n s) first arguments h n s

  pub given-down : {first : ℕ} → ArgumentsAt rows first → {count : ℕ} → count ≡ argument_count (argument_list_at rows first) → (n : ℕ) (s : List ℤ)
      → spend (given C (argument_list_at rows first)) n s ≡ spend (given_down rows bounds first count []) n s
  given-down {first} arguments e n s = down_by (row_count rows) first arguments (omega arith) n s ∙ ap (λ (k : ℕ). spend (given_down rows bounds first k []) n s) (sym e)

-- ---- the parameters behind the arguments

-- these words get the values
abbrev stores : List ℕ → List ℤ → ℕ → List ℤ → Rest ℤ
stores words values n s = onward (spend (storing words values) n s) (λ _ n s. gives (pos 0) n s)

module _ (rows : List ℤ) (bounds : List ℕ) (first parameter : ℕ) (words : List ℕ) where
  -- the words of the first k parameters
  abbrev FirstWords : ℕ → Type 0
  FirstWords k = (j : ℕ) → j < k → drop j words ≡ number_at rows (row_behind rows parameter j) 1 ∷ drop (suc j) words

  -- behind the first k arguments and parameters the others are stored
  bound-first : (k : ℕ) → FirstWords k → (values : List ℤ) (n : ℕ) (s : List ℤ)
      → onward (spend (given_down rows bounds first k values) n s) (stores words) ≡ onward (spend (bound_at rows bounds first parameter k) n s) (λ _ n s. stores (drop k words) values n s)
  unfolding spend given_down bound_at storing
  bound-first zero named values n s = refl
  bound-first (suc k) named values n s =
      let others : ℤ → ℕ → List ℤ → Rest ℤ = λ _ n s. stores (drop (suc k) words) values n s in
      let argument : Rest ℤ = spend (argument_at rows bounds (row_behind rows first k)) n s in
      let stored : ℤ → ℤ → ℕ → List ℤ → Rest ℤ = λ v _ n s. stores (number_at rows (row_behind rows parameter k) 1 ∷ []) (v ∷ []) n s in
      sym (onward-onward argument (λ v n s. spend (given_down rows bounds first k (v ∷ values)) n s) (stores words))
      ∙ onward-same argument _ _ (λ v n s.
      bound-first k (λ j h. named j (omega arith)) (v ∷ values) n s
      ∙ onward-same (spend (bound_at rows bounds first parameter k) n s) _ _ (λ x n s. ap (λ (l : List ℕ). stores l (v ∷ values) n s) (named k (omega arith)))
      ∙ onward-onward (spend (bound_at rows bounds first parameter k) n s) (stored v) others)
      ∙ onward-onward argument (λ v n s. onward (spend (bound_at rows bounds first parameter k) n s) (stored v)) others

drop_all : (words : List ℕ) (k : ℕ) → length words ≤ k → drop k words ≡ []
drop_all [] zero h = refl
drop_all [] (suc k) h = refl
drop_all (word ∷ words) zero h = absurd (omega arith)
drop_all (word ∷ words) (suc k) h = drop_all words k (omega arith)

module _ {rows : List ℤ} {bounds : List ℕ} {words first parameter count : ℕ} (here : ReadyBind rows bounds words first parameter count) where
  pub arguments-here : ArgumentsAt rows first
  arguments-here = record { table = in_table here.ready; links = here.ready.setting.calls.arguments; argument_is = here.argument_is }

  pub parameters-here : InTable rows parameter
  parameters-here = in_table (table-row here.ready here.parameter_below refl)

  -- binding all of them is what the meaning says: all arguments, and then all parameters
  pub all-bound : count ≡ argument_count (argument_list_at rows first) → length (parameter_list_at rows parameter) ≤ count → (n : ℕ) (s : List ℤ)
      → onward (spend (given (context_at rows bounds) (argument_list_at rows first)) n s) (stores (parameter_list_at rows parameter)) ≡ onward (spend (bound_at rows bounds first parameter count) n s) (λ _ n s. gives (pos 0) n s)
  unfolding spend storing
  all-bound e few n s =
      ap (λ (r : Rest (List ℤ)). onward r (stores (parameter_list_at rows parameter))) (given-down rows bounds arguments-here e n s)
      ∙ bound-first rows bounds first parameter (parameter_list_at rows parameter) count (λ j h. (parameter-at rows j parameter parameters-here (omega (arith, here.enough_parameters))).words_are) [] n s
      ∙ onward-same (spend (bound_at rows bounds first parameter count) n s) _ _ (λ x n s. ap (λ (l : List ℕ). stores l [] n s) (drop_all (parameter_list_at rows parameter) count few))

  -- the argument at place k, and its parameter
  module _ {k : ℕ} (g : count ≡ suc k) where
    pub before-ready : {size : ℕ} → size ≡ words → ReadyBind rows bounds size first parameter k
    before-ready q = record {
      ready = table-row here.ready here.ready.below q;
      argument_is = here.argument_is;
      parameter_below = here.parameter_below;
      enough_arguments = omega (arith, here.enough_arguments);
      enough_parameters = omega (arith, here.enough_parameters);
    }

    pub argument-there : {at : ℕ} → at ≡ row_behind rows first k → IsArgument rows at
    argument-there q = rw q (argument-at rows k first arguments-here (omega (arith, here.enough_arguments)))

    parameter-there : {at : ℕ} → at ≡ row_behind rows parameter k → IsParameter rows parameter k at
    parameter-there q = rw q (parameter-at rows k parameter parameters-here (omega (arith, here.enough_parameters)))

    pub parameter-asks : {at size : ℕ} → at ≡ row_behind rows parameter k → size ≡ words → ParameterAt rows at size
    unfolding sort_in kind_row statement_fields
    parameter-asks q w =
        let there = parameter-there q in
        record {
          table = in_table (table-row here.ready there.below refl);
          few_words = omega (arith, w, here.ready.setting.few_words);
          inside = rw w ((field_of here.ready.setting.sound there.below there.kind_is 1 (omega arith) (omega arith) refl).declares-word refl);
        }

    -- what follows the argument
    after-argument : ℤ → ℕ → List ℤ → Rest ℤ
    after-argument v n s = onward (spend (bound_at rows bounds first parameter k) n s) (λ _ n s. gives (pos 0) n (set s (number_at rows (row_behind rows parameter k) 1) v))

    down-one : (n : ℕ) (s : List ℤ) → spend (bound_at rows bounds first parameter count) n s ≡ onward (spend (argument_at rows bounds (row_behind rows first k)) n s) after-argument
    unfolding spend bound_at storing after-argument
    down-one n s = ap (λ (i : ℕ). spend (bound_at rows bounds first parameter i) n s) g

    module _ (left : ℕ) (store : List ℤ) where
      -- no step is left for its row
      pub bind-spent : left ≡ 0 → answered (pos 2147483648) left store ≡ spend (bound_at rows bounds first parameter count) left store
      bind-spent z =
          answered-spent left store
          ∙ sym (down-one left store ∙ ap (λ (r : Rest ℤ). onward r after-argument) (not_entered (value_at rows bounds (number_at rows (row_behind rows first k) 1)) store left z))

      -- its answer, behind the step for its row
      pub argument-answered : (left ≡ 0 → ⊥) → {at l : ℕ} → at ≡ row_behind rows first k → l ≡ number_at rows at 1 → (r : ℤ) (i : ℕ) (t : List ℤ) → answered r i t ≡ spend (value_at rows bounds l) (left - 1) store
          → answered r i t ≡ spend (argument_at rows bounds (row_behind rows first k)) left store
      argument-answered z {at} {l} p q r i t h =
          h ∙ ap (λ (x : ℕ). spend (value_at rows bounds x) (left - 1) store) (q ∙ ap (λ (x : ℕ). number_at rows x 1) p)
          ∙ sym (entered (value_at rows bounds (number_at rows (row_behind rows first k) 1)) store left z)

      module _ (r : ℤ) (i : ℕ) (t : List ℤ) (fits : mag r < 2 ^ 63) (h : answered r i t ≡ spend (argument_at rows bounds (row_behind rows first k)) left store) (o : Option ℤ) (p : o ≡ operand_of (handed r)) where
        pub bind-stop : o ≡ None → answered (handed r) i t ≡ spend (bound_at rows bounds first parameter count) left store
        bind-stop q = hands-up r i t fits h o p q after-argument ∙ sym (down-one left store)

        module _ (v : ℤ) (q : o ≡ Some v) (b : ℤ) (j : ℕ) (u : List ℤ) (small : mag b < 2 ^ 63) (w : answered b j u ≡ spend (bound_at rows bounds first parameter k) i t) (x : Option ℤ) (y : x ≡ operand_of (handed b)) where
          abbrev stored_last : ℤ → ℕ → List ℤ → Rest ℤ
          stored_last _ n s = gives (pos 0) n (set s (number_at rows (row_behind rows parameter k) 1) v)

          goes_on : spend (bound_at rows bounds first parameter count) left store ≡ onward (spend (bound_at rows bounds first parameter k) i t) stored_last
          unfolding after-argument
          goes_on = down-one left store ∙ goes after-argument r i t fits h o p v q

          pub bind-earlier-stop : x ≡ None → answered (handed b) j u ≡ spend (bound_at rows bounds first parameter count) left store
          bind-earlier-stop e = hands-up b j u small w x y e stored_last ∙ sym goes_on

          pub bind-stored : (z : ℤ) → x ≡ Some z → {at : ℕ} → at ≡ row_behind rows parameter k → {stored : List ℤ} → stored ≡ set u (number_at rows at 1) v → answered (pos 0) j stored ≡ spend (bound_at rows bounds first parameter count) left store
          bind-stored z e a d =
              answered-word (pos 0) (omega arith) j _ ∙ ap (gives (pos 0) j) (d ∙ ap (λ (l : ℕ). set u (number_at rows l 1) v) a)
              ∙ sym (goes_on ∙ goes stored_last b j u small w x y z e)

  -- the argument at a row, and its expression
  module _ {r : ℕ} (argument : IsArgument rows r) where
    pub argument-ready : Ready rows bounds words r
    argument-ready = table-row here.ready argument.below refl

    pub value-link : Link rows (layout_in rows bounds) words r 1
    unfolding is_required sort_in kind_row member_fields
    value-link = link-of here.ready.setting.sound argument.below argument.argument_is 1 (omega arith) (omega arith) refl

-- no argument is left
pub bind-none : (rows : List ℤ) (bounds : List ℕ) (first parameter : ℕ) {count : ℕ} → count ≡ 0 → (n : ℕ) (s : List ℤ) → answered (pos 0) n s ≡ spend (bound_at rows bounds first parameter count) n s
unfolding spend bound_at
bind-none rows bounds first parameter e n s = answered-word (pos 0) (omega arith) n s ∙ rw e

-- ---- a call's row

module _ {rows : List ℤ} {bounds : List ℕ} {words row : ℕ} (here : Entered rows bounds words row (OfExpression Call)) where
  abbrev setting : Setting rows bounds words
  setting = here.ready.setting

  abbrev whole : length rows ≡ 6 * row_count rows
  whole = setting.sound.whole

  pub argument-link : OptionalLink rows (layout_in rows bounds) words row 2
  unfolding is_link sort_in kind_row expression_fields
  argument-link = optional-link-of setting.sound here.ready.below here.kind_is 2 (omega arith) (omega arith) refl

  function-defined : {f : ℕ} → f ≡ number_at rows row 1 → f < function_count (contents rows)
  function-defined e = rw e (setting.calls.defined row here.ready.below here.kind_is)

  -- its row is in the run's list
  pub function-listed : {f : ℕ} → f ≡ number_at rows row 1 → f < length bounds
  function-listed e = omega (arith, function-defined e, setting.functions.room)

  pub function-found : {f r : ℕ} → f ≡ number_at rows row 1 → r ≡ function_row_in bounds f → FunctionAt rows f r
  function-found {f} p e = rw e (setting.functions.rows_are f (function-defined p))

  module _ {f r : ℕ} (p : f ≡ number_at rows row 1) (function : FunctionAt rows f r) where
    definition : Entered rows bounds words r Definition
    definition = record { ready = table-row here.ready function.below refl; kind_is = function.kind_is }

    pub parameter-link : OptionalLink rows (layout_in rows bounds) words r 2
    unfolding is_link sort_in kind_row definition_fields
    parameter-link = optional-link-of setting.sound function.below function.kind_is 2 (omega arith) (omega arith) refl

    pub body-link : Link rows (layout_in rows bounds) words r 3
    unfolding is_required sort_in kind_row definition_fields
    body-link = link-of setting.sound function.below function.kind_is 3 (omega arith) (omega arith) refl

    pub definition-ready : Ready rows bounds words r
    definition-ready = definition.ready

    arity : length (parameter_list_at rows (number_at rows r 2)) ≡ argument_count (argument_list_at rows (number_at rows row 2))
    arity = sym (ap (λ (x : Function). length x.parameters) function.function_is) ∙ ap (λ (x : ℕ). length (function_of x (contents rows)).parameters) p ∙ sym (setting.calls.fitting row here.ready.below here.kind_is)

    pub count-asks : {first : ℕ} → first ≡ number_at rows row 2 → ArgumentsAt rows first
    count-asks a = rw a (record {
      table = in_table (table-row here.ready (optional-below here.ready argument-link) refl);
      links = setting.calls.arguments;
      argument_is = λ h. setting.calls.arguments.first_argument row here.ready.below here.kind_is h;
    })

    pub bind-ready : {first parameter count : ℕ} → first ≡ number_at rows row 2 → parameter ≡ number_at rows r 2 → count ≡ argument_count (argument_list_at rows first) → ReadyBind rows bounds words first parameter count
    bind-ready {first} {parameter} {count} a b e =
        let all : count ≡ argument_count (argument_list_at rows (number_at rows row 2)) = e ∙ ap (λ (x : ℕ). argument_count (argument_list_at rows x)) a in
        rw (a, b) (record {
          ready = table-row here.ready (optional-below here.ready argument-link) refl;
          argument_is = λ h. setting.calls.arguments.first_argument row here.ready.below here.kind_is h;
          parameter_below = optional-below definition-ready parameter-link;
          enough_arguments = omega (arith, all);
          enough_parameters = omega (arith, all, arity);
        })

    block-again : block (block_items (statement_at rows (number_at rows r 3))) ≡ statement_at rows (number_at rows r 3)
    unfolding is_link sort_in kind_row statement_fields
    block-again =
        let kind = setting.calls.body-block r function.below function.kind_is in
        let tree = at_block rows whole (number_at rows r 3) kind (λ h. (optional-link-of setting.sound body-link.inside kind 1 (omega arith) (omega arith) refl h).later) in
        ap (λ (x : Statement). block (block_items x)) tree ∙ sym tree

    abbrev C-here : Context
    C-here = context_at rows bounds

    -- what follows the parameters
    abbrev after_bound : ℕ → List ℤ → Rest ℤ
    after_bound n s = onward (spend (exec_at rows bounds (number_at rows r 3)) n s) (λ signal n s. gives (returned signal) n s)

    called : (values : List ℤ) (n : ℕ) (s : List ℤ) → spend (C-here.calling f values) n s ≡ onward (spend (storing (parameter_list_at rows (number_at rows r 2)) values) n s) (λ _ n s. after_bound n s)
    unfolding spend invoke
    called values n s =
        ap (λ (m : Computation ℤ). spend m n s) (call-is (layout_in rows bounds) (contents rows) setting.calls.order f (rw p (setting.calls.defined row here.ready.below here.kind_is)) values)
        ∙ ap (λ (x : Function). spend (invoke C-here x values) n s) function.function_is
        ∙ ap (λ (x : Statement). onward (spend (storing (parameter_list_at rows (number_at rows r 2)) values) n s) (λ _ n s. onward (spend (exec C-here x) n s) (λ signal n s. gives (returned signal) n s))) block-again

    pub call-row : {first parameter count body : ℕ} → first ≡ number_at rows row 2 → parameter ≡ number_at rows r 2 → count ≡ argument_count (argument_list_at rows first) → body ≡ number_at rows r 3 → (n : ℕ) (s : List ℤ)
        → spend (evaluate_at rows bounds row) n s
        ≡ onward (spend (bound_at rows bounds first parameter count) n s) (λ _ n s. onward (spend (exec_at rows bounds body) n s) (λ signal n s. gives (returned signal) n s))
    unfolding spend evaluate
    call-row {first} {parameter} {count} {body} a b e c n s =
        let ready = bind-ready a b e in
        let all : length (parameter_list_at rows parameter) ≤ count = omega (arith, arity, e, ap (λ (x : ℕ). argument_count (argument_list_at rows x)) a, ap (λ (x : ℕ). length (parameter_list_at rows x)) b) in
        ap (λ (x : Expression). spend (evaluate C-here x) n s) (at_call rows whole row here.kind_is (λ h. (argument-link h).later) ∙ ap (λ (x : ℕ). call x (argument_list_at rows (number_at rows row 2))) (sym p))
        ∙ onward-same (spend (given C-here (argument_list_at rows (number_at rows row 2))) n s) _ _ (λ values n s. called values n s ∙ onward-onward (spend (storing (parameter_list_at rows (number_at rows r 2)) values) n s) (λ _ n s. gives (pos 0) n s) (λ _ n s. after_bound n s))
        ∙ onward-onward (spend (given C-here (argument_list_at rows (number_at rows row 2))) n s) (stores (parameter_list_at rows (number_at rows r 2))) (λ _ n s. after_bound n s)
        ∙ ap (λ (x : ℕ). onward (onward (spend (given C-here (argument_list_at rows x)) n s) (stores (parameter_list_at rows (number_at rows r 2)))) (λ _ n s. after_bound n s)) (sym a)
        ∙ ap (λ (x : ℕ). onward (onward (spend (given C-here (argument_list_at rows first)) n s) (stores (parameter_list_at rows x))) (λ _ n s. after_bound n s)) (sym b)
        ∙ ap (λ (m : Rest ℤ). onward m (λ _ n s. after_bound n s)) (all-bound ready e all n s)
        ∙ sym (onward-onward (spend (bound_at rows bounds first parameter count) n s) (λ _ n s. gives (pos 0) n s) (λ _ n s. after_bound n s))
        ∙ ap (λ (x : ℕ). onward (spend (bound_at rows bounds first parameter count) n s) (λ _ n s. onward (spend (exec_at rows bounds x) n s) (λ signal n s. gives (returned signal) n s))) (sym c)
