-- Emitted rows: the fields of each row of an emitted table suit its kind and its role. By induction over the emitted tree.
use Rattle.std.specs.Prelude.{◌≡◌, Bool, true, false, List, [], ℕ, ◌+◌, ◌≤◌, ◌<◌, eqb, leb, ℤ, get_or}
use Rattle.std.proofs.Math.Path.{refl}
use Rattle.std.proofs.Common.{sym, ap, ◌∙◌, arith, ne_eqb, leb-true}
use Rattle.std.proofs.Math.Bool.{or-true}
use Rattle.std.proofs.Math.ListN.{length}
use Rattle.words.specs.Word.{natural}
use Rattle.words.specs.Table.{row_count, number_at}
use Rattle.words.specs.Laws.{both}
use Rattle.words.specs.Declarations.{is_declaration}
use Rattle.words.specs.declared.Operator.{Operator}
use Rattle.words.specs.declared.Operator.TheVariants.{Add, Subtract, Multiply, Divide, Remainder, Less, Greater, LessOrEqual, GreaterOrEqual, Equal, NotEqual}
use Rattle.language.specs.Trees.{Expression, Place, Arguments, Statement, block, Items}
use Rattle.language.specs.WellFormed.{NamedExpression, NamedPlace, NamedArguments, NamedWords, NamedStatement, NamedItems}
use Rattle.language.specs.Sizes.{expression_rows, place_rows, arguments_rows, statement_rows, items_rows}
use Rattle.language.specs.TreeLaws.{statement-some}
use Rattle.translation.specs.KernelForm.{is_label_number, KernelStatement, kernel-block, kernel-if, kernel-while, kernel-goto, KernelItems, kernel-then, kernel-label, KernelProgram, kernel_main, kernel_define}
use Rattle.words.specs.Kinds.{unused, variable, array, label, declared_number, expression, optional_expression, place, branch, optional_branch, optional_item, body_block, optional_argument, optional_parameter, absent_link, is_required, sort_of, sort_at, between, kind_of, kind_in, kinds, sort_in, kind_row, expression_fields, statement_fields, mark_fields, definition_fields, member_fields}
use Rattle.words.specs.Links.{is_expression, is_place, is_statement, is_block, is_argument, fits}
use Rattle.words_roles.specs.Roles.{is_definition}
use Rattle.words_roles.specs.Demands.{AsParameter, by_definition, by_parameter}
use Rattle.words_roles.proofs.RoleLaws.{parameter-is}
use Rattle.check_fields.specs.Fields.{number_fits}
use Rattle.check_fields.specs.declared.Bounds.{Bounds}
use Rattle.language_emission.specs.Emission.{operator_number, arguments_link, list_link, parameters_link}
use Rattle.language_emission.specs.Emitted.{Row, EmittedExpression, constant-at, read_at, minus-at, binary-at, assign-at, call_at, EmittedPlace, variable-at, element-at, EmittedArguments, no-more-at, argument-at, EmittedParameters, no_parameter_at, parameter-at, EmittedStatement, empty-at, express-at, block_at, if-at, while-at, goto-at, abort-at, return-at, EmittedItems, none-at, then_at, label_at, define-at}
use Rattle.language_emission.proofs.ReadBack.{kind-binary, parameters-forward}
use Rattle.translation_legal.specs.Ranges.{Each, none_of, join, first-and}
use Rattle.translation_legal.specs.Suits.{Suits, RowLegal, suits-unused, suits-value, suits-function, suits-name, suits-link-to, suits-none, suits-absent, row-legal, parameter-legal}
use Rattle.translation_legal.specs.OwnWords.{ParameterWord, OwnWords, FrontParameters}

-- ---- the table of kinds

-- Kinds 6 to 16 have one line.
pub sort-binary : (o : Operator) (field : ℕ) → sort_of (6 + operator_number o) field ≡ sort_of 6 field
unfolding sort_of kind_of kind_in kinds sort_in kind_row expression_fields
sort-binary o field = rw (kind-binary o)

pub between-binary : (o : Operator) → between 6 16 (6 + operator_number o) ≡ true
between-binary Add = refl
between-binary Subtract = refl
between-binary Multiply = refl
between-binary Divide = refl
between-binary Remainder = refl
between-binary Less = refl
between-binary Greater = refl
between-binary LessOrEqual = refl
between-binary GreaterOrEqual = refl
between-binary Equal = refl
between-binary NotEqual = refl

pub binary-most : (o : Operator) → 6 + operator_number o ≤ 16
binary-most o = leb-true _ _ (both (leb 6 (6 + operator_number o)) _ (between-binary o)).1

-- ---- the first row of a part

-- A row that a link may lead to, as a row of the sort.
pub record First (rows : List ℤ) (row sort : ℕ) : Type 0 where
  pub inside : row < row_count rows
  pub fitting : fits rows sort row ≡ true

-- What a row is, by its kind.
pub row-sort : {rows : List ℤ} {row kind a b c d next : ℕ} → Row rows row kind a b c d next → sort_at rows row 0 ≡ sort_of kind 0
unfolding sort_at
row-sort r = ap (λ k. sort_of k 0) r.kind_is

-- A row of another kind.
pub not-kind : {rows : List ℤ} {row kind a b c d next : ℕ} → Row rows row kind a b c d next → (number : ℕ) → (kind ≡ number → ⊥) → eqb (number_at rows row 0) number ≡ false
not-kind r number h = ne_eqb _ number (λ q. h (sym r.kind_is ∙ q))

module _ {rows : List ℤ} where
  pub first-place : {p : Place} {base : ℕ} → EmittedPlace rows p base → First rows base place × First rows base expression
  unfolding fits is_expression is_place sort_of kind_of kind_in kinds sort_in kind_row expression_fields statement_fields mark_fields definition_fields member_fields
  first-place (variable-at r) = (record { inside = r.inside; fitting = rw (row-sort r) }, record { inside = r.inside; fitting = rw (row-sort r) })
  first-place (element-at r m) = (record { inside = r.inside; fitting = rw (row-sort r) }, record { inside = r.inside; fitting = rw (row-sort r) })

  pub first-expression : {e : Expression} {base : ℕ} → EmittedExpression rows e base → First rows base expression
  unfolding fits is_expression sort_of kind_of kind_in kinds sort_in kind_row expression_fields statement_fields mark_fields definition_fields member_fields
  first-expression (constant-at r v) = record { inside = r.inside; fitting = rw (row-sort r) }
  first-expression (read_at m) = (first-place m).1
  first-expression (minus-at r m) = record { inside = r.inside; fitting = rw (row-sort r) }
  first-expression (binary-at {o} r m n) = record { inside = r.inside; fitting = rw (row-sort r, sort-binary o 0) }
  first-expression (assign-at r m n) = record { inside = r.inside; fitting = rw (row-sort r) }
  first-expression (call_at r m) = record { inside = r.inside; fitting = rw (row-sort r) }

  pub first-statement : {s : Statement} {base next : ℕ} → EmittedStatement rows s base next → First rows base optional_item × (number_at rows base 5 ≡ next)
  unfolding fits is_statement sort_of kind_of kind_in kinds sort_in kind_row expression_fields statement_fields mark_fields definition_fields member_fields
  first-statement (empty-at r) = (record { inside = r.inside; fitting = rw (row-sort r) }, r.next_is)
  first-statement (express-at r m) = (record { inside = r.inside; fitting = rw (row-sort r) }, r.next_is)
  first-statement (block_at r m) = (record { inside = r.inside; fitting = rw (row-sort r) }, r.next_is)
  first-statement (if-at r m n o) = (record { inside = r.inside; fitting = rw (row-sort r) }, r.next_is)
  first-statement (while-at r m n) = (record { inside = r.inside; fitting = rw (row-sort r) }, r.next_is)
  first-statement (goto-at r) = (record { inside = r.inside; fitting = rw (row-sort r) }, r.next_is)
  first-statement (abort-at r) = (record { inside = r.inside; fitting = rw (row-sort r) }, r.next_is)
  first-statement (return-at r m) = (record { inside = r.inside; fitting = rw (row-sort r) }, r.next_is)

  -- A branch or body has next 0.
  first-branch : {s : Statement} {base : ℕ} → EmittedStatement rows s base 0 → First rows base branch × First rows base optional_branch
  unfolding fits
  first-branch m =
      let f = first-statement m in
      let statement = f.0.fitting in
      (record { inside = f.0.inside; fitting = rw (statement, f.1) }, record { inside = f.0.inside; fitting = rw (statement, f.1) })

  pub first-label : {row a next : ℕ} → Row rows row 53 a 0 0 0 next → First rows row optional_item
  unfolding fits is_statement sort_of kind_of kind_in kinds sort_in kind_row expression_fields statement_fields mark_fields definition_fields member_fields
  first-label r = record { inside = r.inside; fitting = rw (row-sort r) }

  first_argument : {row a next : ℕ} → Row rows row 32 a 0 0 0 next → First rows row optional_argument
  unfolding fits is_argument sort_of kind_of kind_in kinds sort_in kind_row expression_fields statement_fields mark_fields definition_fields member_fields
  first_argument r = record { inside = r.inside; fitting = rw (row-sort r) }

  first-parameter : {row word next : ℕ} → Row rows row 58 word 0 0 0 next → First rows row optional_parameter
  unfolding fits is_declaration
  first-parameter r = record { inside = r.inside; fitting = rw r.kind_is }

  -- "c a block", which has next 0.
  first_block : {is : Items} {base : ℕ} → EmittedStatement rows (block is) base 0 → First rows base body_block
  unfolding fits is_block
  first_block (block_at r m) = record { inside = r.inside; fitting = rw (r.kind_is, r.next_is) }

  first-definition : {row f b c next : ℕ} → Row rows row 59 f b c 0 next → First rows row optional_item
  unfolding fits is_statement sort_of kind_of kind_in kinds sort_in kind_row expression_fields statement_fields mark_fields definition_fields member_fields
  first-definition r = record { inside = r.inside; fitting = rw (row-sort r) }

-- ---- parameters

parameter-declared : {rows : List ℤ} {words : List ℕ} {base : ℕ} → EmittedParameters rows words base → 0 < parameters_link words base → is_declaration rows (parameters_link words base) ≡ true
unfolding is_declaration
parameter-declared no_parameter_at h = absurd (omega arith)
parameter-declared (parameter-at r n) h = rw r.kind_is

definition-row : {rows : List ℤ} {row f b c next : ℕ} → Row rows row 59 f b c 0 next → is_definition rows row ≡ true
unfolding is_definition
definition-row r = rw r.kind_is

-- ---- the induction

module _ (bounds : Bounds) (rows : List ℤ) (Names : ℕ → Type 0) (arrays S D : ℕ)
    (names-fit : (i : ℕ) → Names i → number_fits bounds variable i ≡ true) (words-fit : (i : ℕ) → ParameterWord S D i → number_fits bounds declared_number i ≡ true)
    (arrays-fit : (i : ℕ) → i < arrays → number_fits bounds array i ≡ true) (labels-fit : (l : ℕ) → is_label_number l → number_fits bounds label l ≡ true) where
  abbrev Legals : ℕ → ℕ → Type 0
  Legals low high = Each (RowLegal bounds rows) low high

  nothing : (row : ℕ) → Suits bounds rows row unused 0
  nothing row = suits-unused bounds rows row

  -- A link to a later row, as a row of the sort.
  to-first : (sort n row : ℕ) → expression ≤ sort → sort ≤ absent_link → row < n → First rows n sort → Suits bounds rows row sort n
  to-first sort n row l m h f = suits-link-to bounds rows row sort n l m h f.inside f.fitting

  to-expression : {e : Expression} {n : ℕ} (row : ℕ) → row < n → EmittedExpression rows e n → Suits bounds rows row expression n
  to-expression {e} {n} row h m = to-first expression n row (omega arith) (omega arith) h (first-expression m)

  to-optional : {e : Expression} {n : ℕ} (row : ℕ) → row < n → EmittedExpression rows e n → Suits bounds rows row optional_expression n
  unfolding fits
  to-optional {e} {n} row h m = let f = first-expression m in to-first optional_expression n row (omega arith) (omega arith) h (record { inside = f.inside; fitting = f.fitting })

  to-place : {p : Place} {n : ℕ} (row : ℕ) → row < n → EmittedPlace rows p n → Suits bounds rows row place n
  to-place {p} {n} row h m = to-first place n row (omega arith) (omega arith) h (first-place m).0

  to-branch : {s : Statement} {n : ℕ} (row : ℕ) → row < n → EmittedStatement rows s n 0 → Suits bounds rows row branch n × Suits bounds rows row optional_branch n
  to-branch {s} {n} row h m =
      let f = first-branch m in
      (to-first branch n row (omega arith) (omega arith) h f.0, to-first optional_branch n row (omega arith) (omega arith) h f.1)

  to_block : {is : Items} {n : ℕ} (row : ℕ) → row < n → EmittedStatement rows (block is) n 0 → Suits bounds rows row body_block n
  to_block {is} {n} row h m = to-first body_block n row (omega arith) (omega arith) h (first_block m)

  to-list : {is : Items} {n : ℕ} (row : ℕ) → row < n → EmittedItems rows is n → Suits bounds rows row optional_item (list_link false is n)
  to-list row h none-at = suits-absent bounds rows row
  to-list row h (then_at {s} {is} {base} m k) = to-first optional_item base row (omega arith) (omega arith) h (first-statement m).0
  to-list row h (define-at {f} {words} {body} {is} {base} r p m k) = to-first optional_item base row (omega arith) (omega arith) h (first-definition r)
  to-list row h (label_at {l} {is} {base} r k) = to-first optional_item base row (omega arith) (omega arith) h (first-label r)

  to-arguments : {arguments : Arguments} {n : ℕ} (row : ℕ) → row < n → EmittedArguments rows arguments n → Suits bounds rows row optional_argument (arguments_link arguments n)
  unfolding is_required
  to-arguments row h no-more-at = suits-none bounds rows row optional_argument (omega arith) (omega arith) refl
  to-arguments row h (argument-at {e} {arguments} {base} r m k) = to-first optional_argument base row (omega arith) (omega arith) h (first_argument r)

  to-parameters : {words : List ℕ} {n : ℕ} (row : ℕ) → row < n → EmittedParameters rows words n → Suits bounds rows row optional_parameter (parameters_link words n)
  unfolding is_required
  to-parameters row h no_parameter_at = suits-none bounds rows row optional_parameter (omega arith) (omega arith) refl
  to-parameters row h (parameter-at {word} {words} {base} r k) = to-first optional_parameter base row (omega arith) (omega arith) h (first-parameter r)

  mutual
    unfolding sort_of kind_of kind_in kinds sort_in kind_row expression_fields statement_fields mark_fields definition_fields member_fields NamedExpression expression_rows

    legal-expression : {e : Expression} {base : ℕ} (end : ℕ) → base + expression_rows e ≡ end → EmittedExpression rows e base → NamedExpression Names arrays e → Legals base end
    legal-expression end q (constant-at {v} {base} r w) k =
        first-and _ base end (row-legal r (λ q. omega arith) (suits-value bounds rows base (natural v)) (nothing base) (nothing base) (nothing base) (nothing base)) (none_of _ (base + 1) end (omega arith))
    legal-expression end q (read_at m) k = legal-place end q m k
    legal-expression end q (minus-at {e} {base} r m) k =
        first-and _ base end (row-legal r (λ q. omega arith) (to-expression base (omega arith) m) (nothing base) (nothing base) (nothing base) (nothing base)) (legal-expression end (omega arith) m k)
    legal-expression end q (binary-at {o} {a} {b} {base} r m n) k =
        let sort = sort-binary o in
        let most = binary-most o in
        first-and _ base end
        (row-legal r (λ q. omega arith)
        (rw (sort 1) (to-expression base (omega arith) m)) (rw (sort 2) (to-expression base (omega arith) n))
        (rw (sort 3) (nothing base)) (rw (sort 4) (nothing base)) (rw (sort 5) (nothing base)))
        (join _ (base + 1) (base + 1 + expression_rows a) end (legal-expression _ refl m k.0) (legal-expression end (omega arith) n k.1))
    legal-expression end q (assign-at {p} {e} {base} r m n) k =
        first-and _ base end (row-legal r (λ q. omega arith) (to-place base (omega arith) m) (to-expression base (omega arith) n) (nothing base) (nothing base) (nothing base))
        (join _ (base + 1) (base + 1 + place_rows p) end (legal-place _ refl m k.0) (legal-expression end (omega arith) n k.1))
    legal-expression end q (call_at {f} {arguments} {base} r m) k =
        first-and _ base end (row-legal r (λ q. omega arith) (suits-function bounds rows base f) (to-arguments base (omega arith) m) (nothing base) (nothing base) (nothing base)) (legal-arguments end (omega arith) m k)

    legal-place : {p : Place} {base : ℕ} (end : ℕ) → base + place_rows p ≡ end → EmittedPlace rows p base → NamedPlace Names arrays p → Legals base end
    legal-place end q (variable-at {i} {base} r) k =
        first-and _ base end (row-legal r (λ q. omega arith) (suits-name bounds rows base variable i (omega arith) (omega arith) (names-fit i k)) (nothing base) (nothing base) (nothing base) (nothing base)) (none_of _ (base + 1) end (omega arith))
    legal-place end q (element-at {array = a} {e} {base} r m) k =
        first-and _ base end (row-legal r (λ q. omega arith) (suits-name bounds rows base array a (omega arith) (omega arith) (arrays-fit a k.0)) (to-expression base (omega arith) m) (nothing base) (nothing base) (nothing base))
        (legal-expression end (omega arith) m k.1)

    legal-arguments : {arguments : Arguments} {base : ℕ} (end : ℕ) → base + arguments_rows arguments ≡ end → EmittedArguments rows arguments base → NamedArguments Names arrays arguments → Legals base end
    legal-arguments end q (no-more-at {base}) k = none_of _ base end (omega arith)
    legal-arguments end q (argument-at {e} {arguments} {base} r m n) k =
        first-and _ base end (row-legal r (λ q. omega arith) (to-expression base (omega arith) m) (nothing base) (nothing base) (nothing base) (to-arguments base (omega arith) n))
        (join _ (base + 1) (base + 1 + expression_rows e) end (legal-expression _ refl m k.0) (legal-arguments end (omega arith) n k.1))

  mutual
    unfolding sort_of kind_of kind_in kinds sort_in kind_row expression_fields statement_fields mark_fields definition_fields member_fields NamedStatement statement_rows

    legal-statement : {mayReturn : Bool} {ahead : Items} {s : Statement} {base next : ℕ} (end : ℕ) → base + statement_rows s ≡ end → EmittedStatement rows s base next → Suits bounds rows base optional_item next
        → NamedStatement Names arrays s → KernelStatement mayReturn ahead s → Legals base end
    legal-statement end q (empty-at {base} r) next k f =
        first-and _ base end (row-legal r (λ q. omega arith) (nothing base) (nothing base) (nothing base) (nothing base) next) (none_of _ (base + 1) end (omega arith))
    legal-statement end q (express-at {e} {base} r m) next k f =
        first-and _ base end (row-legal r (λ q. omega arith) (to-expression base (omega arith) m) (nothing base) (nothing base) (nothing base) next) (legal-expression end (omega arith) m k)
    legal-statement end q (block_at {is} {base} r m) next k (kernel-block f) =
        first-and _ base end (row-legal r (λ q. omega arith) (to-list base (omega arith) m) (nothing base) (nothing base) (nothing base) next) (legal-items end (omega arith) m k f)
    legal-statement end q (if-at {e} {on_true} {on_false} {base} r m n o) next k (kernel-if t f g) =
        first-and _ base end (row-legal r (λ q. omega arith) (to-expression base (omega arith) m) (to-branch base (omega arith) n).0 (to-branch base (omega arith) o).1 (nothing base) next)
        (join _ (base + 1) (base + 1 + expression_rows e) end (legal-expression _ refl m k.0)
        (join _ (base + 1 + expression_rows e) (base + 1 + expression_rows e + statement_rows on_true) end
        (legal-statement _ refl n (suits-absent bounds rows _) k.1 (kernel-block f)) (legal-statement end (omega arith) o (suits-absent bounds rows _) k.2 (kernel-block g))))
    legal-statement end q (while-at {e} {body} {base} r m n) next k (kernel-while t f) =
        first-and _ base end (row-legal r (λ q. omega arith) (to-expression base (omega arith) m) (to-branch base (omega arith) n).0 (nothing base) (nothing base) next)
        (join _ (base + 1) (base + 1 + expression_rows e) end (legal-expression _ refl m k.0) (legal-statement end (omega arith) n (suits-absent bounds rows _) k.1 (kernel-block f)))
    legal-statement end q (goto-at {l} {base} r) next k (kernel-goto b f) =
        first-and _ base end (row-legal r (λ q. omega arith) (suits-name bounds rows base label l (omega arith) (omega arith) (labels-fit l b)) (nothing base) (nothing base) (nothing base) next) (none_of _ (base + 1) end (omega arith))
    legal-statement end q (abort-at {base} r) next k f =
        first-and _ base end (row-legal r (λ q. omega arith) (nothing base) (nothing base) (nothing base) (nothing base) next) (none_of _ (base + 1) end (omega arith))
    legal-statement end q (return-at {e} {base} r m) next k f =
        first-and _ base end (row-legal r (λ q. omega arith) (to-optional base (omega arith) m) (nothing base) (nothing base) (nothing base) next) (legal-expression end (omega arith) m k)

    legal-items : {mayReturn : Bool} {ahead is : Items} {base : ℕ} (end : ℕ) → base + items_rows is ≡ end → EmittedItems rows is base → NamedItems Names arrays is → KernelItems mayReturn ahead is → Legals base end
    legal-items end q (none-at {base}) k f = none_of _ base end (omega arith)
    legal-items end q (then_at {s} {is} {base} m n) k (kernel-then f g) =
        let some = statement-some s in
        join _ base (base + statement_rows s) end (legal-statement _ refl m (to-list base (omega arith) n) k.0 f) (legal-items end (omega arith) n k.1 g)
    legal-items end q (label_at {l} {is} {base} r n) k (kernel-label b g) =
        first-and _ base end (row-legal r (λ q. omega arith) (suits-name bounds rows base label l (omega arith) (omega arith) (labels-fit l b)) (nothing base) (nothing base) (nothing base) (to-list base (omega arith) n)) (legal-items end (omega arith) n k g)
    legal-items end q (define-at _ _ _ _) k none_such = elim none_such [ ]

  -- ---- a program: definitions, then its main part

  legal-parameters : {words : List ℕ} {base : ℕ} (end : ℕ) → base + length words ≡ end → EmittedParameters rows words base → NamedWords (ParameterWord S D) 0 words → (0 < parameters_link words base → AsParameter rows (parameters_link words base)) → 0 < base
      → Legals base end
  unfolding is_declaration
  legal-parameters end q (no_parameter_at {base}) k role positive = none_of _ base end (omega arith)
  legal-parameters end q (parameter-at {word} {words} {base} r n) k role positive =
      let own = role positive in
      first-and _ base end
      (parameter-legal r (parameter-is rows base own) (suits-name bounds rows base declared_number word (omega arith) (omega arith) (words-fit word k.0)) (to-parameters base (omega arith) n))
      (legal-parameters end (omega arith) n k.1
      (λ some. by_parameter (parameters-forward words base (base + 1) (omega arith) some) (parameter-declared n some) own r.next_is) (omega arith))

  legal-program : {is : Items} {base : ℕ} (end : ℕ) → base + items_rows is ≡ end → EmittedItems rows is base → NamedItems Names arrays is → FrontParameters (OwnWords S D) is → KernelProgram is → Legals base end
  unfolding items_rows statement_rows NamedItems NamedStatement FrontParameters sort_of kind_of kind_in kinds sort_in kind_row expression_fields statement_fields mark_fields definition_fields member_fields
  legal-program end q m k own (kernel_main f) = legal-items end q m k f
  legal-program end q (define-at {f} {words} {body} {is} {base} r p m n) k own (kernel_define b g) =
      let inner = base + 1 + length words in
      let behind = inner + 1 + items_rows body in
      first-and _ base end
      (row-legal r (λ q. omega arith) (suits-function bounds rows base f) (to-parameters base (omega arith) p) (to_block base (omega arith) m) (nothing base) (to-list base (omega arith) n))
      (join _ (base + 1) inner end
      (legal-parameters inner refl p own.0.declared (λ some. by_definition (parameters-forward words base (base + 1) (omega arith) some) (parameter-declared p some) (definition-row r) r.b_is) (omega arith))
      (join _ inner behind end (legal-statement behind (omega arith) m (suits-absent bounds rows inner) k.1 (kernel-block b)) (legal-program end (omega arith) n k.2 own.1 g)))

  pub emitted-rows : {program : Items} → row_count rows ≡ statement_rows (block program) → EmittedStatement rows (block program) 0 0 → NamedItems Names arrays program → FrontParameters (OwnWords S D) program → KernelProgram program → (row : ℕ) → row < row_count rows → RowLegal bounds rows row
  unfolding statement_rows sort_of kind_of kind_in kinds sort_in kind_row statement_fields
  emitted-rows count (block_at r m) k own form row h =
      first-and (RowLegal bounds rows) 0 (row_count rows) (row-legal r (λ q. omega arith) (to-list 0 (omega arith) m) (nothing 0) (nothing 0) (nothing 0) (suits-absent bounds rows 0))
      (legal-program (row_count rows) (omega arith) m k own form) row (omega arith) h
