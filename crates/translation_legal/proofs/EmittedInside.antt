-- What stands inside a function, or in the main part: each row of an emitted statement stands in the function that its first row stands in, it defines
-- nothing and declares nothing, and it returns and calls as the tree does. By induction over the emitted tree.
use Rattle.std.specs.Prelude.{◌≡◌, refl, Bool, true, false, List, ℕ, suc, ◌+◌, ◌≤◌, ◌<◌, eqb, ℤ}
use Rattle.std.proofs.Common.{sym, ap, subst, ◌∙◌, true≢false, add-one, arith, ne_eqb}
use Rattle.words.specs.Word.{pick}
use Rattle.words.specs.Table.{row_count, number_at}
use Rattle.words.specs.Declarations.{is_declaration}
use Rattle.words.specs.declared.Operator.{Operator}
use Rattle.words.specs.Kinds.{sort_of, is_link, kind_of, kind_in, kinds, sort_in, kind_row, expression_fields, statement_fields, mark_fields, definition_fields, member_fields}
use Rattle.words.specs.Links.{link}
use Rattle.language.specs.Trees.{Expression, Place, Arguments, Statement, Items}
use Rattle.language.specs.Sizes.{expression_rows, place_rows, arguments_rows, statement_rows, items_rows}
use Rattle.language.specs.TreeLaws.{statement-some}
use Rattle.language.specs.Calls.{argument_count, CallsBelow, PlaceCallsBelow, ArgumentsCallBelow, StatementCallsBelow, ItemsCallBelow}
use Rattle.translation.specs.KernelForm.{KernelStatement, kernel-block, kernel-if, kernel-while, kernel-return, KernelItems, kernel-then, kernel-label}
use Rattle.check_structure.specs.Structured.{Leads, Tree}
use Rattle.check_structure.specs.NoteLaws.{note-root, note-link}
use Rattle.words_roles.specs.Roles.{is_definition}
use Rattle.check_function_causes.specs.Functions.{is_call, is_return, around_of, function_around}
use Rattle.check_function_causes.specs.Demands.{Listed, ended, counted}
use Rattle.language_emission.specs.Emission.{operator_number, arguments_link, list_link}
use Rattle.language_emission.specs.Emitted.{define-at, Row, EmittedExpression, constant-at, read_at, minus-at, binary-at, assign-at, call_at, EmittedPlace, variable-at, element-at, EmittedArguments, no-more-at, argument-at, EmittedStatement, empty-at, express-at, block_at, if-at, while-at, goto-at, abort-at, return-at, EmittedItems, none-at, then_at, label_at}
use Rattle.language_emission.proofs.ReadBack.{link-forward, arguments-forward}
use Rattle.translation_legal.specs.Ranges.{Each, none_of, join, first-and}
use Rattle.translation_legal.specs.Suits.{row-link}
use Rattle.translation_legal.proofs.EmittedRows.{sort-binary, binary-most, not-kind, first-place, first-expression, first-statement}
use Rattle.translation_legal.proofs.EmittedAhead.{leads-to, statement-next, label-next, list_inside}

-- ---- arguments

argument-next : {rows : List ℤ} {row a next : ℕ} → Row rows row 32 a 0 0 0 next → link rows row 5 ≡ next
unfolding sort_of kind_of kind_in kinds sort_in kind_row expression_fields statement_fields mark_fields definition_fields member_fields is_link
argument-next {row} {a} {next} r = row-link r 5 next r.next_is

-- A call's list has as many rows as the call has arguments.
arguments-listed : {rows : List ℤ} {arguments : Arguments} {base : ℕ} → 0 < base → EmittedArguments rows arguments base → Listed rows (arguments_link arguments base) (argument_count arguments)
unfolding argument_count
arguments-listed h no-more-at = ended
arguments-listed {rows} h (argument-at {e} {arguments} {base} r m n) =
    subst (Listed rows base) (add-one (argument_count arguments)) (counted h (rw (argument-next r) (arguments-listed (omega arith) n)))

-- The link to arguments leads into the table.
arguments-inside : {rows : List ℤ} {arguments : Arguments} {base : ℕ} → EmittedArguments rows arguments base → 0 < arguments_link arguments base → arguments_link arguments base < row_count rows
arguments-inside no-more-at h = absurd (omega arith)
arguments-inside (argument-at r m n) h = r.inside

-- ---- one row

-- A call that goes below `limit`, with as many arguments as its function has parameters.
pub record CallAt (rows : List ℤ) (arity : ℕ → ℕ) (limit row : ℕ) : Type 0 where
  pub lower : number_at rows row 1 < limit
  pub arguments : Listed rows (link rows row 2) (arity (number_at rows row 1))

-- A row in the function that the row `around` defines, or in the main part, where `around` is 0.
pub record Inside (rows : List ℤ) (arity : ℕ → ℕ) (mayReturn : Bool) (limit around row : ℕ) : Type 0 where
  pub function : function_around rows row ≡ around
  pub no_definition : is_definition rows row ≡ false
  pub no_declaration : is_declaration rows row ≡ false
  pub returns : is_return rows row ≡ true → mayReturn ≡ true
  pub calls : is_call rows row ≡ true → CallAt rows arity limit row

-- A kind that neither calls nor returns, defines or declares.
record Plain (kind : ℕ) : Type 0 where
  no_call : kind ≡ 31 → ⊥
  below : kind < 58

low : {kind : ℕ} → kind < 31 → Plain kind
low h = record { no_call = λ q. omega arith; below = omega arith }

high : {kind : ℕ} → 31 < kind → kind < 58 → Plain kind
high h k = record { no_call = λ q. omega arith; below = k }

binary-plain : (o : Operator) → Plain (6 + operator_number o)
binary-plain o = let most = binary-most o in low (omega arith)

-- What a row hands along its links; a definition hands itself to its parts.
pub around-root : (rows : List ℤ) → function_around rows 0 ≡ 0
unfolding function_around
around-root rows = note-root (around_of rows) 0 rows

module _ (rows : List ℤ) (t : Tree rows) where
  around-link : (row field : ℕ) → field < 6 → Leads rows row field
      → function_around rows (link rows row field) ≡ pick (eqb field 5) (function_around rows row) (pick (is_definition rows row) row (function_around rows row))
  unfolding function_around around_of
  around-link row field h leads = note-link (around_of rows) 0 rows t row field h leads

  pub around-on : (row field n : ℕ) → field < 6 → is_definition rows row ≡ false → link rows row field ≡ n → row < n → n < row_count rows → function_around rows n ≡ function_around rows row
  around-on row field n f d e h k =
      subst (λ (x : ℕ). function_around rows x ≡ function_around rows row) e (around-link row field f (leads-to row field n e h k) ∙ rw d (same (eqb field 5)))
    where
      same : (b : Bool) → pick b (function_around rows row) (function_around rows row) ≡ function_around rows row
      same true = refl
      same false = refl

  pub around-next : (row n : ℕ) → link rows row 5 ≡ n → row < n → n < row_count rows → function_around rows n ≡ function_around rows row
  around-next row n e h k = subst (λ (x : ℕ). function_around rows x ≡ function_around rows row) e (around-link row 5 (omega arith) (leads-to row 5 n e h k))

  pub around-part : (row field n : ℕ) → field < 5 → is_definition rows row ≡ true → link rows row field ≡ n → row < n → n < row_count rows → function_around rows n ≡ row
  around-part row field n f d e h k =
      subst (λ (x : ℕ). function_around rows x ≡ row) e (around-link row field (omega arith) (leads-to row field n e h k) ∙ rw (ne_eqb field 5 (λ q. omega arith), d))

  -- ---- the induction

  module _ (arity : ℕ → ℕ) (limit around : ℕ) where
    abbrev Insides : Bool → ℕ → ℕ → Type 0
    Insides mayReturn low high = Each (Inside rows arity mayReturn limit around) low high

    plain_row : {mayReturn : Bool} {row kind a b c d next : ℕ} → Row rows row kind a b c d next → Plain kind → function_around rows row ≡ around → Inside rows arity mayReturn limit around row
    unfolding is_definition is_declaration is_return is_call
    plain_row r p f =
        record {
          function = f;
          no_definition = not-kind r 59 (λ q. omega (arith, p.below));
          no_declaration = not-kind r 58 (λ q. omega (arith, p.below));
          returns = λ q. absurd (true≢false (sym q ∙ not-kind r 60 (λ q. omega (arith, p.below))));
          calls = λ q. absurd (true≢false (sym q ∙ not-kind r 31 p.no_call));
        }

    call-row : {mayReturn : Bool} {f : ℕ} {arguments : Arguments} {row : ℕ} → Row rows row 31 f (arguments_link arguments (row + 1)) 0 0 0 → EmittedArguments rows arguments (row + 1)
        → f < limit → argument_count arguments ≡ arity f → function_around rows row ≡ around → Inside rows arity mayReturn limit around row
    unfolding is_definition is_declaration is_return is_call sort_of kind_of kind_in kinds sort_in kind_row expression_fields statement_fields mark_fields definition_fields member_fields is_link
    call-row {mayReturn} {f} {arguments} {row} r m h e g =
        record {
          function = g;
          no_definition = not-kind r 59 (λ q. omega arith);
          no_declaration = not-kind r 58 (λ q. omega arith);
          returns = λ q. absurd (true≢false (sym q ∙ not-kind r 60 (λ q. omega arith)));
          calls = λ q. record {
            lower = rw r.a_is h;
            arguments = rw (r.a_is, row-link r 2 (arguments_link arguments (row + 1)) r.b_is) (subst (Listed rows (arguments_link arguments (row + 1))) e (arguments-listed (omega arith) m));
          };
        }

    return-row : {row a next : ℕ} → Row rows row 60 a 0 0 0 next → function_around rows row ≡ around → Inside rows arity true limit around row
    unfolding is_definition is_declaration is_return is_call
    return-row r f =
        record {
          function = f;
          no_definition = not-kind r 59 (λ q. omega arith);
          no_declaration = not-kind r 58 (λ q. omega arith);
          returns = λ q. refl;
          calls = λ q. absurd (true≢false (sym q ∙ not-kind r 31 (λ q. omega arith)));
        }

    -- What a row hands to a part of it.
    handed : {row kind a b c d next : ℕ} → Row rows row kind a b c d next → (kind ≡ 59 → ⊥) → function_around rows row ≡ around → (field n : ℕ) → field < 6 → link rows row field ≡ n → row < n → n < row_count rows
        → function_around rows n ≡ around
    unfolding is_definition
    handed {row} r p f field n h e l m = around-on row field n h (not-kind r 59 p) e l m ∙ f

    mutual
      unfolding sort_of kind_of kind_in kinds sort_in kind_row expression_fields statement_fields mark_fields definition_fields member_fields is_link expression_rows CallsBelow

      inside-expression : {mayReturn : Bool} {e : Expression} {base : ℕ} (end : ℕ) → base + expression_rows e ≡ end → EmittedExpression rows e base → CallsBelow arity limit e → function_around rows base ≡ around
          → Insides mayReturn base end
      inside-expression end q (constant-at {v} {base} r w) c f = first-and _ base end (plain_row r (low (omega arith)) f) (none_of _ (base + 1) end (omega arith))
      inside-expression end q (read_at m) c f = inside-place end q m c f
      inside-expression end q (minus-at {e} {base} r m) c f =
          first-and _ base end (plain_row r (low (omega arith)) f)
          (inside-expression end (omega arith) m c (handed r (λ q. omega arith) f 1 (base + 1) (omega arith) (row-link r 1 (base + 1) r.a_is) (omega arith) (first-expression m).inside))
      inside-expression end q (binary-at {o} {a} {b} {base} r m n) c f =
          let second = base + 1 + expression_rows a in
          let p = binary-plain o in
          let here : (field number : ℕ) → number_at rows base field ≡ number → link rows base field ≡ pick (is_link (sort_of 6 field)) number 0 =
          λ field number e. row-link r field number e ∙ ap (λ (sort : ℕ). pick (is_link sort) number 0) (sort-binary o field) in
          first-and _ base end (plain_row r p f)
          (join _ (base + 1) second end
          (inside-expression _ refl m c.0 (handed r (λ q. omega (arith, p.below)) f 1 (base + 1) (omega arith) (here 1 (base + 1) r.a_is) (omega arith) (first-expression m).inside))
          (inside-expression end (omega arith) n c.1 (handed r (λ q. omega (arith, p.below)) f 2 second (omega arith) (here 2 second r.b_is) (omega arith) (first-expression n).inside)))
      inside-expression end q (assign-at {p} {e} {base} r m n) c f =
          let second = base + 1 + place_rows p in
          first-and _ base end (plain_row r (low (omega arith)) f)
          (join _ (base + 1) second end
          (inside-place _ refl m c.0 (handed r (λ q. omega arith) f 1 (base + 1) (omega arith) (row-link r 1 (base + 1) r.a_is) (omega arith) (first-place m).0.inside))
          (inside-expression end (omega arith) n c.1 (handed r (λ q. omega arith) f 2 second (omega arith) (row-link r 2 second r.b_is) (omega arith) (first-expression n).inside)))
      inside-expression end q (call_at {f = g} {arguments} {base} r m) c f =
          let first = arguments_link arguments (base + 1) in
          first-and _ base end (call-row r m c.0 c.1 f)
          (inside-arguments end (omega arith) m c.2 (omega arith)
          (λ some. handed r (λ q. omega arith) f 2 first (omega arith) (row-link r 2 first r.b_is) (arguments-forward arguments base (base + 1) (omega arith) some) (arguments-inside m some)))

      inside-place : {mayReturn : Bool} {p : Place} {base : ℕ} (end : ℕ) → base + place_rows p ≡ end → EmittedPlace rows p base → PlaceCallsBelow arity limit p → function_around rows base ≡ around → Insides mayReturn base end
      inside-place end q (variable-at {i} {base} r) c f = first-and _ base end (plain_row r (low (omega arith)) f) (none_of _ (base + 1) end (omega arith))
      inside-place end q (element-at {array} {e} {base} r m) c f =
          first-and _ base end (plain_row r (low (omega arith)) f)
          (inside-expression end (omega arith) m c (handed r (λ q. omega arith) f 2 (base + 1) (omega arith) (row-link r 2 (base + 1) r.b_is) (omega arith) (first-expression m).inside))

      inside-arguments : {mayReturn : Bool} {arguments : Arguments} {base : ℕ} (end : ℕ) → base + arguments_rows arguments ≡ end → EmittedArguments rows arguments base → ArgumentsCallBelow arity limit arguments → 0 < base
          → (0 < arguments_link arguments base → function_around rows (arguments_link arguments base) ≡ around) → Insides mayReturn base end
      inside-arguments end q (no-more-at {base}) c positive f = none_of _ base end (omega arith)
      inside-arguments end q (argument-at {e} {arguments} {base} r m n) c positive f =
          let second = base + 1 + expression_rows e in
          let own = f positive in
          first-and _ base end (plain_row r (high (omega arith) (omega arith)) own)
          (join _ (base + 1) second end
          (inside-expression _ refl m c.0 (handed r (λ q. omega arith) own 1 (base + 1) (omega arith) (row-link r 1 (base + 1) r.a_is) (omega arith) (first-expression m).inside))
          (inside-arguments end (omega arith) n c.1 (omega arith)
          (λ some. around-next base (arguments_link arguments second) (argument-next r) (arguments-forward arguments base second (omega arith) some) (arguments-inside n some) ∙ own)))

    mutual
      unfolding sort_of kind_of kind_in kinds sort_in kind_row expression_fields statement_fields mark_fields definition_fields member_fields is_link statement_rows StatementCallsBelow

      pub inside-statement : {mayReturn : Bool} {ahead : Items} {s : Statement} {base next : ℕ} (end : ℕ) → base + statement_rows s ≡ end → EmittedStatement rows s base next → KernelStatement mayReturn ahead s
          → StatementCallsBelow arity limit s → function_around rows base ≡ around → Insides mayReturn base end
      inside-statement end q (empty-at {base} r) k c f = first-and _ base end (plain_row r (high (omega arith) (omega arith)) f) (none_of _ (base + 1) end (omega arith))
      inside-statement end q (express-at {e} {base} r m) k c f =
          first-and _ base end (plain_row r (high (omega arith) (omega arith)) f)
          (inside-expression end (omega arith) m c (handed r (λ q. omega arith) f 1 (base + 1) (omega arith) (row-link r 1 (base + 1) r.a_is) (omega arith) (first-expression m).inside))
      inside-statement end q (block_at {is} {base} r m) (kernel-block k) c f =
          let first = list_link false is (base + 1) in
          first-and _ base end (plain_row r (high (omega arith) (omega arith)) f)
          (inside-items end (omega arith) m k c (omega arith)
          (λ some. handed r (λ q. omega arith) f 1 first (omega arith) (row-link r 1 first r.a_is) (link-forward is base (base + 1) (omega arith) some) (list_inside m some)))
      inside-statement end q (if-at {e} {on_true} {on_false} {base} r m n o) (kernel-if h j k) c f =
          let second = base + 1 + expression_rows e in
          let third = base + 1 + expression_rows e + statement_rows on_true in
          first-and _ base end (plain_row r (high (omega arith) (omega arith)) f)
          (join _ (base + 1) second end
          (inside-expression _ refl m c.0 (handed r (λ q. omega arith) f 1 (base + 1) (omega arith) (row-link r 1 (base + 1) r.a_is) (omega arith) (first-expression m).inside))
          (join _ second third end
          (inside-statement _ refl n (kernel-block j) c.1 (handed r (λ q. omega arith) f 2 second (omega arith) (row-link r 2 second r.b_is) (omega arith) (first-statement n).0.inside))
          (inside-statement end (omega arith) o (kernel-block k) c.2 (handed r (λ q. omega arith) f 3 third (omega arith) (row-link r 3 third r.c_is) (omega arith) (first-statement o).0.inside))))
      inside-statement end q (while-at {e} {body} {base} r m n) (kernel-while h k) c f =
          let second = base + 1 + expression_rows e in
          first-and _ base end (plain_row r (high (omega arith) (omega arith)) f)
          (join _ (base + 1) second end
          (inside-expression _ refl m c.0 (handed r (λ q. omega arith) f 1 (base + 1) (omega arith) (row-link r 1 (base + 1) r.a_is) (omega arith) (first-expression m).inside))
          (inside-statement end (omega arith) n (kernel-block k) c.1 (handed r (λ q. omega arith) f 2 second (omega arith) (row-link r 2 second r.b_is) (omega arith) (first-statement n).0.inside)))
      inside-statement end q (goto-at {l} {base} r) k c f = first-and _ base end (plain_row r (high (omega arith) (omega arith)) f) (none_of _ (base + 1) end (omega arith))
      inside-statement end q (abort-at {base} r) k c f = first-and _ base end (plain_row r (high (omega arith) (omega arith)) f) (none_of _ (base + 1) end (omega arith))
      inside-statement end q (return-at {e} {base} r m) (kernel-return h) c f =
          first-and _ base end (return-row r f)
          (inside-expression end (omega arith) m c (handed r (λ q. omega arith) f 1 (base + 1) (omega arith) (row-link r 1 (base + 1) r.a_is) (omega arith) (first-expression m).inside))

      pub inside-items : {mayReturn : Bool} {ahead is : Items} {base : ℕ} (end : ℕ) → base + items_rows is ≡ end → EmittedItems rows is base → KernelItems mayReturn ahead is → ItemsCallBelow arity limit is → 0 < base
          → (0 < list_link false is base → function_around rows (list_link false is base) ≡ around) → Insides mayReturn base end
      inside-items end q (none-at {base}) k c positive f = none_of _ base end (omega arith)
      inside-items end q (then_at {s} {is} {base} m n) (kernel-then h k) c positive f =
          let some = statement-some s in
          let middle = base + statement_rows s in
          let own = f positive in
          join _ base middle end (inside-statement _ refl m h c.0 own)
          (inside-items end (omega arith) n k c.1 (omega arith) (λ p. around-next base (list_link false is middle) (statement-next m) (link-forward is base middle (omega arith) p) (list_inside n p) ∙ own))
      inside-items end q (label_at {l} {is} {base} r n) (kernel-label h k) c positive f =
          let own = f positive in
          first-and _ base end (plain_row r (high (omega arith) (omega arith)) own)
          (inside-items end (omega arith) n k c (omega arith) (λ p. around-next base (list_link false is (base + 1)) (label-next r) (link-forward is base (base + 1) (omega arith) p) (list_inside n p) ∙ own))
      inside-items end q (define-at _ _ _ _) none_such c positive f = elim none_such [ ]
