-- What follows the entry of a row of a sound table, by its kind: where the links of the row lead, from the sorts of its fields, and what the tree
-- at the row does, told by the steps left. The links are given as the code has them.
use mathlib.Core.Path.{◌≡◌, refl, sym, ap, ap₂, ◌∙◌}
use mathlib.Core.Bool.{Bool, true, false}
use mathlib.Core.List.{List}
use Prim.Native.Nat.{ℕ, ◌+◌, ◌*◌, ◌≤◌, ◌<◌}
use native.Mathlib.Omega.{arith}
use lib.Dec.{eqb}
use lib.IntN.{ℤ, pos}
use lib.ListN.{length, get_or, set}
use Rattle.words.specs.Word.{pick}
use Rattle.words.specs.Table.{row_count, word_at, number_at}
use Rattle.words.specs.Kinds.{kind_of, is_expression_kind, place, is_required, expression_fields, kind_row, sort_in}
use Rattle.words.specs.KindLaws.{kind-numbered, no-expression}
use Rattle.words.specs.Layout.{array_base, array_length}
use Rattle.arithmetic.specs.Arithmetic.{is_true, truth, logical_not, apply, minus as minus_word, element as element_word}
use Rattle.words.specs.declared.Operator.{Operator}
use Rattle.words.specs.declared.Kind.{Kind}
use Rattle.words.specs.declared.Kind.TheVariants.{OfExpression}
use Rattle.words.specs.declared.ExpressionKind.TheVariants.{Constant, Variable, Element, Minus, Not, Binary, And, Or, Conditional, Comma, Assign, Compound, Prefix, Postfix}
use Rattle.computation.specs.Computation.{ret, ◌>>=◌, settle}
use Rattle.computation.specs.Remaining.{gives, onward, spend}
use Rattle.language.specs.Trees.{Expression, read, minus, not, binary, and, or, comma, conditional, assign, compound, prefix, postfix, variable, element}
use Rattle.language.specs.Decode.{place_of, expression_at}
use Rattle.language.specs.DecodeLaws.{at-no-expression, at_constant, at-variable, at-element, at-minus, at-not, at-binary, at-and, at-or, at-conditional, at-comma, at-assign, at-compound, at-prefix, at-postfix}
use Rattle.language.specs.Meaning.{evaluate, locate, update, old_value, new_value}
use Rattle.language.specs.Functions.{context_of}
use Rattle.language.specs.Sound.{Link, PlaceLink}
use Rattle.language.specs.SoundLaws.{always, field_of, link-of, place-link-of}
use Rattle.machine_operations.specs.Bounds.{layout_in}
use Rattle.machine_operations.specs.Ready.{Ready, Entered}
use Rattle.machine_operations.specs.Rows.{context_at, value_at, evaluate_at, locate_at, place_at}
use Rattle.machine_operations.proofs.Enter.{onward-same, forks}

-- the tree at the row is known
known : (rows : List ℤ) (bounds : List ℕ) (row : ℕ) (t : Expression) (n : ℕ) (s : List ℤ) → expression_at rows row ≡ t
    → spend (evaluate_at rows bounds row) n s ≡ spend (evaluate (context_at rows bounds) t) n s
known rows bounds row t n s e = ap (λ (x : Expression). spend (evaluate (context_at rows bounds) x) n s) e

module _ {rows : List ℤ} {bounds : List ℕ} {words row : ℕ} where
  -- the fields of a row are in the table
  pub field-inside : Ready rows bounds words row → (field : ℕ) → field < 6 → 6 * row + field < length rows
  field-inside here field h = omega (arith, here.setting.sound.whole, here.below)

  -- a row is of the kind with its number, or of a kind with this operator
  pub numbered : Ready rows bounds words row → {number : ℕ} → number ≡ number_at rows row 0 → (key : ℕ) → number ≡ key → Entered rows bounds words row (kind_of key)
  numbered here p key e = record { ready = here; kind_is = kind-numbered rows row p key e }

  pub operating : (kind : Operator → Kind) → Ready rows bounds words row → {number : ℕ} {o other : Operator} → number ≡ number_at rows row 0 → kind_of number ≡ kind other → o ≡ other → Entered rows bounds words row (kind o)
  operating kind here {number} p k e = record { ready = here; kind_is = kind-numbered rows row p number refl ∙ k ∙ ap kind (sym e) }

  module _ {kind : Kind} (here : Entered rows bounds words row kind) where
    abbrev whole : length rows ≡ 6 * row_count rows
    whole = here.ready.setting.sound.whole

    -- a field that links a row
    abbrev pub link : (field : ℕ) → 1 ≤ field → field < 6 → always is_required kind field ≡ true → Link rows (layout_in rows bounds) words row field
    link = link-of here.ready.setting.sound here.ready.below here.kind_is

  -- ---- kinds 1 to 3

  pub constant-row : Entered rows bounds words row (OfExpression Constant) → (n : ℕ) (s : List ℤ) → spend (evaluate_at rows bounds row) n s ≡ gives (word_at rows row 1) n s
  unfolding spend evaluate
  constant-row here n s = known rows bounds row _ n s (at_constant rows (whole here) row here.kind_is)

  pub variable-inside : Entered rows bounds words row (OfExpression Variable) → number_at rows row 1 < words
  unfolding sort_in kind_row expression_fields
  variable-inside here = (field_of here.ready.setting.sound here.ready.below here.kind_is 1 (omega arith) (omega arith) refl).names-word refl

  pub variable-row : Entered rows bounds words row (OfExpression Variable) → {i : ℕ} → i ≡ number_at rows row 1 → (n : ℕ) (s : List ℤ)
      → spend (evaluate_at rows bounds row) n s ≡ gives (get_or s i (pos 0)) n s
  unfolding spend evaluate
  variable-row here {i} p n s =
      known rows bounds row (read (variable i)) n s (at-variable rows (whole here) row here.kind_is ∙ ap (λ (k : ℕ). read (variable k)) (sym p))

  pub place-variable-row : Entered rows bounds words row (OfExpression Variable) → (n : ℕ) (s : List ℤ) → spend (locate_at rows bounds row) n s ≡ gives (number_at rows row 1) n s
  unfolding spend evaluate
  place-variable-row here n s =
      ap (λ (x : Expression). spend (locate (context_at rows bounds) (place_of x)) n s) (at-variable rows (whole here) row here.kind_is)

  pub element-array : Entered rows bounds words row (OfExpression Element) → number_at rows row 1 < length (layout_in rows bounds).lengths
  unfolding sort_in kind_row expression_fields
  element-array here = (field_of here.ready.setting.sound here.ready.below here.kind_is 1 (omega arith) (omega arith) refl).names-array refl

  pub element-index : Entered rows bounds words row (OfExpression Element) → Link rows (layout_in rows bounds) words row 2
  unfolding is_required sort_in kind_row expression_fields
  element-index here = link here 2 (omega arith) (omega arith) refl

  element-tree : Entered rows bounds words row (OfExpression Element) → {a b : ℕ} → a ≡ number_at rows row 1 → b ≡ number_at rows row 2 → expression_at rows row ≡ read (element a (expression_at rows b))
  element-tree here p q =
      at-element rows (whole here) row here.kind_is (element-index here).later ∙ ap₂ (λ (k l : ℕ). read (element k (expression_at rows l))) (sym p) (sym q)

  -- the word at an element's position
  pub element-row : Entered rows bounds words row (OfExpression Element) → (n : ℕ) (s : List ℤ)
      → spend (evaluate_at rows bounds row) n s ≡ onward (spend (locate_at rows bounds row) n s) (λ i n s. gives (get_or s i (pos 0)) n s)
  unfolding spend evaluate
  element-row here n s =
      let t = element-tree here refl refl in
      known rows bounds row _ n s t ∙ ap (λ (x : Expression). onward (spend (locate (context_at rows bounds) (place_of x)) n s) (λ i n s. gives (get_or s i (pos 0)) n s)) (sym t)

  pub locate-row : Entered rows bounds words row (OfExpression Element) → {a b : ℕ} → a ≡ number_at rows row 1 → b ≡ number_at rows row 2 → (n : ℕ) (s : List ℤ)
      → spend (locate_at rows bounds row) n s ≡ onward (spend (value_at rows bounds b) n s) (λ index n s. spend (settle (element_word (array_base (layout_in rows bounds) a) (array_length (layout_in rows bounds) a) index)) n s)
  unfolding spend evaluate context_of
  locate-row here p q n s = ap (λ (x : Expression). spend (locate (context_at rows bounds) (place_of x)) n s) (element-tree here p q)

  -- ---- kinds 4 and 5

  pub unary-link : (ofTruth : Bool) → Entered rows bounds words row (OfExpression (pick ofTruth Not Minus)) → Link rows (layout_in rows bounds) words row 1
  unfolding is_required sort_in kind_row expression_fields
  unary-link true here = link here 1 (omega arith) (omega arith) refl
  unary-link false here = link here 1 (omega arith) (omega arith) refl

  pub unary-row : (ofTruth : Bool) → Entered rows bounds words row (OfExpression (pick ofTruth Not Minus)) → {a : ℕ} → a ≡ number_at rows row 1 → (n : ℕ) (s : List ℤ)
      → spend (evaluate_at rows bounds row) n s ≡ onward (spend (value_at rows bounds a) n s) (λ v n s. pick ofTruth (gives (logical_not v) n s) (spend (settle (minus_word v)) n s))
  unfolding spend evaluate
  unary-row true here p n s = known rows bounds row _ n s (at-not rows (whole here) row here.kind_is (unary-link true here).later ∙ ap (λ (k : ℕ). not (expression_at rows k)) (sym p))
  unary-row false here p n s = known rows bounds row _ n s (at-minus rows (whole here) row here.kind_is (unary-link false here).later ∙ ap (λ (k : ℕ). minus (expression_at rows k)) (sym p))

  -- ---- kinds 6 to 20

  pub binary-links : {o : Operator} → Entered rows bounds words row (OfExpression (Binary o)) → Link rows (layout_in rows bounds) words row 1 × Link rows (layout_in rows bounds) words row 2
  unfolding is_required sort_in kind_row expression_fields
  binary-links here = (link here 1 (omega arith) (omega arith) refl, link here 2 (omega arith) (omega arith) refl)

  pub binary-row : {o : Operator} → Entered rows bounds words row (OfExpression (Binary o)) → {a b : ℕ} → a ≡ number_at rows row 1 → b ≡ number_at rows row 2 → (n : ℕ) (s : List ℤ)
      → spend (evaluate_at rows bounds row) n s
      ≡ onward (spend (value_at rows bounds b) n s) (λ right n s. onward (spend (value_at rows bounds a) n s) (λ left n s. spend (settle (apply o left right)) n s))
  unfolding spend evaluate
  binary-row {o} here p q n s =
      known rows bounds row _ n s (at-binary rows (whole here) row o here.kind_is (binary-links here).0.later (binary-links here).1.later ∙ ap₂ (λ (k l : ℕ). binary o (expression_at rows k) (expression_at rows l)) (sym p) (sym q))

  pub logical-links : (decided : Bool) → Entered rows bounds words row (OfExpression (pick decided Or And)) → Link rows (layout_in rows bounds) words row 1 × Link rows (layout_in rows bounds) words row 2
  unfolding is_required sort_in kind_row expression_fields
  logical-links true here = (link here 1 (omega arith) (omega arith) refl, link here 2 (omega arith) (omega arith) refl)
  logical-links false here = (link here 1 (omega arith) (omega arith) refl, link here 2 (omega arith) (omega arith) refl)

  -- and, or: the left operand decides where its truth is `decided`
  pub logical-row : (decided : Bool) → Entered rows bounds words row (OfExpression (pick decided Or And)) → {a b : ℕ} → a ≡ number_at rows row 1 → b ≡ number_at rows row 2 → (n : ℕ) (s : List ℤ)
      → spend (evaluate_at rows bounds row) n s
      ≡ onward (spend (value_at rows bounds a) n s) (λ left n s. pick decided
      (pick (is_true left) (gives (pos 1) n s) (onward (spend (value_at rows bounds b) n s) (λ right n s. gives (truth right) n s)))
      (pick (is_true left) (onward (spend (value_at rows bounds b) n s) (λ right n s. gives (truth right) n s)) (gives (pos 0) n s)))
  unfolding spend evaluate
  logical-row true here {a} {b} p q n s =
      known rows bounds row _ n s (at-or rows (whole here) row here.kind_is (logical-links true here).0.later (logical-links true here).1.later ∙ ap₂ (λ (k l : ℕ). or (expression_at rows k) (expression_at rows l)) (sym p) (sym q))
      ∙ onward-same (spend (value_at rows bounds a) n s) _ _ (λ left. forks (is_true left) (ret (pos 1)) (do right ← value_at rows bounds b; ret (truth right)))
  logical-row false here {a} {b} p q n s =
      known rows bounds row _ n s (at-and rows (whole here) row here.kind_is (logical-links false here).0.later (logical-links false here).1.later ∙ ap₂ (λ (k l : ℕ). and (expression_at rows k) (expression_at rows l)) (sym p) (sym q))
      ∙ onward-same (spend (value_at rows bounds a) n s) _ _ (λ left. forks (is_true left) (do right ← value_at rows bounds b; ret (truth right)) (ret (pos 0)))

  pub ternary-links : Entered rows bounds words row (OfExpression Conditional) → Link rows (layout_in rows bounds) words row 1 × Link rows (layout_in rows bounds) words row 2 × Link rows (layout_in rows bounds) words row 3
  unfolding is_required sort_in kind_row expression_fields
  ternary-links here = (link here 1 (omega arith) (omega arith) refl, link here 2 (omega arith) (omega arith) refl, link here 3 (omega arith) (omega arith) refl)

  pub ternary-row : Entered rows bounds words row (OfExpression Conditional) → {a b c : ℕ} → a ≡ number_at rows row 1 → b ≡ number_at rows row 2 → c ≡ number_at rows row 3 → (n : ℕ) (s : List ℤ)
      → spend (evaluate_at rows bounds row) n s
      ≡ onward (spend (value_at rows bounds a) n s) (λ test n s. pick (is_true test) (spend (value_at rows bounds b) n s) (spend (value_at rows bounds c) n s))
  unfolding spend evaluate
  ternary-row here {a} {b} {c} p q r n s =
      let t : expression_at rows row ≡ conditional (expression_at rows a) (expression_at rows b) (expression_at rows c) =
      at-conditional rows (whole here) row here.kind_is (ternary-links here).0.later (ternary-links here).1.later (ternary-links here).2.later ∙ rw (← p, ← q, ← r) in
      known rows bounds row _ n s t ∙ onward-same (spend (value_at rows bounds a) n s) _ _ (λ test. forks (is_true test) (value_at rows bounds b) (value_at rows bounds c))

  pub comma-links : Entered rows bounds words row (OfExpression Comma) → Link rows (layout_in rows bounds) words row 1 × Link rows (layout_in rows bounds) words row 2
  unfolding is_required sort_in kind_row expression_fields
  comma-links here = (link here 1 (omega arith) (omega arith) refl, link here 2 (omega arith) (omega arith) refl)

  pub comma-row : Entered rows bounds words row (OfExpression Comma) → {a b : ℕ} → a ≡ number_at rows row 1 → b ≡ number_at rows row 2 → (n : ℕ) (s : List ℤ)
      → spend (evaluate_at rows bounds row) n s ≡ onward (spend (value_at rows bounds a) n s) (λ _ n s. spend (value_at rows bounds b) n s)
  unfolding spend evaluate
  comma-row here p q n s =
      known rows bounds row _ n s (at-comma rows (whole here) row here.kind_is (comma-links here).0.later (comma-links here).1.later ∙ ap₂ (λ (k l : ℕ). comma (expression_at rows k) (expression_at rows l)) (sym p) (sym q))

  -- ---- kinds 21 to 30

  module _ {kind : Kind} (here : Entered rows bounds words row kind) where
    abbrev place_link : (field : ℕ) → 1 ≤ field → field < 6 → always (eqb place) kind field ≡ true → PlaceLink rows (layout_in rows bounds) words row field
    place_link = place-link-of here.ready.setting.sound here.ready.below here.kind_is

  pub assign-links : Entered rows bounds words row (OfExpression Assign) → PlaceLink rows (layout_in rows bounds) words row 1 × Link rows (layout_in rows bounds) words row 2
  unfolding is_required sort_in kind_row expression_fields
  assign-links here = (place_link here 1 (omega arith) (omega arith) refl, link here 2 (omega arith) (omega arith) refl)

  pub assign-row : Entered rows bounds words row (OfExpression Assign) → {a b : ℕ} → a ≡ number_at rows row 1 → b ≡ number_at rows row 2 → (n : ℕ) (s : List ℤ)
      → spend (evaluate_at rows bounds row) n s
      ≡ onward (spend (value_at rows bounds b) n s) (λ v n s. onward (spend (place_at rows bounds a) n s) (λ i n s. gives v n (set s i v)))
  unfolding spend evaluate
  assign-row here p q n s =
      known rows bounds row _ n s (at-assign rows (whole here) row here.kind_is (assign-links here).0.0.later (assign-links here).1.later ∙ ap₂ (λ (k l : ℕ). assign (place_of (expression_at rows k)) (expression_at rows l)) (sym p) (sym q))

  pub compound-links : {o : Operator} → Entered rows bounds words row (OfExpression (Compound o)) → PlaceLink rows (layout_in rows bounds) words row 1 × Link rows (layout_in rows bounds) words row 2
  unfolding is_required sort_in kind_row expression_fields
  compound-links here = (place_link here 1 (omega arith) (omega arith) refl, link here 2 (omega arith) (omega arith) refl)

  pub compound-row : {o : Operator} → Entered rows bounds words row (OfExpression (Compound o)) → {a b : ℕ} → a ≡ number_at rows row 1 → b ≡ number_at rows row 2 → (n : ℕ) (s : List ℤ)
      → spend (evaluate_at rows bounds row) n s
      ≡ onward (spend (value_at rows bounds b) n s) (λ right n s. onward (spend (place_at rows bounds a) n s) (λ i n s. spend (update o i right new_value) n s))
  unfolding spend evaluate
  compound-row {o} here p q n s =
      known rows bounds row _ n s (at-compound rows (whole here) row o here.kind_is (compound-links here).0.0.later (compound-links here).1.later ∙ ap₂ (λ (k l : ℕ). compound o (place_of (expression_at rows k)) (expression_at rows l)) (sym p) (sym q))

  pub increment-link : (old : Bool) (o : Operator) → Entered rows bounds words row (OfExpression (pick old (Postfix o) (Prefix o))) → PlaceLink rows (layout_in rows bounds) words row 1
  unfolding sort_in kind_row expression_fields
  increment-link true o here = place_link here 1 (omega arith) (omega arith) refl
  increment-link false o here = place_link here 1 (omega arith) (omega arith) refl

  -- ++e and e++ differ in the result
  pub increment-row : (old : Bool) (o : Operator) → Entered rows bounds words row (OfExpression (pick old (Postfix o) (Prefix o))) → {a : ℕ} → a ≡ number_at rows row 1 → (n : ℕ) (s : List ℤ)
      → spend (evaluate_at rows bounds row) n s ≡ onward (spend (place_at rows bounds a) n s) (λ i n s. spend (update o i (pos 1) (pick old old_value new_value)) n s)
  unfolding spend evaluate
  increment-row true o here p n s =
      known rows bounds row _ n s (at-postfix rows (whole here) row o here.kind_is (increment-link true o here).0.later ∙ ap (λ (k : ℕ). postfix o (place_of (expression_at rows k))) (sym p))
  increment-row false o here p n s =
      known rows bounds row _ n s (at-prefix rows (whole here) row o here.kind_is (increment-link false o here).0.later ∙ ap (λ (k : ℕ). prefix o (place_of (expression_at rows k))) (sym p))

  -- a row whose number no expression has
  pub other_row : Ready rows bounds words row → {number : ℕ} → number ≡ number_at rows row 0 → ((1 ≤ number) × (number ≤ 31) → ⊥) → (n : ℕ) (s : List ℤ) → spend (evaluate_at rows bounds row) n s ≡ gives (pos 0) n s
  unfolding spend evaluate
  other_row here {number} p beyond n s =
      known rows bounds row _ n s (at-no-expression rows here.setting.sound.whole row (ap is_expression_kind (kind-numbered rows row p number refl) ∙ no-expression number beyond))
