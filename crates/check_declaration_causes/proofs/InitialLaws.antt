-- Laws of initial expressions: the search for a number below a row, one row at a time; 18 is "an initial expression naming its own number".
use Rattle.std.specs.Prelude.{◌≡◌, Bool, ◌&&◌, List, eqb, ℤ}
use Rattle.std.proofs.Common.{subst, ◌∙◌, arith}
use Rattle.std.proofs.Math.Path.{refl, sym, ap}
use Rattle.std.proofs.Math.Bool.{true, false, true≢false, false≢true}
use Prim.Native.Nat.{ℕ, zero, suc, ◌+◌, ◌-◌, ◌≤◌, ◌<◌}
use Rattle.std.proofs.Math.Decide.{ℕ_discrete}
use borrow.Author.Tests.{eqb-true, eq-eqb, ne_eqb}
use Rattle.words.specs.Word.{pick}
use Rattle.words.specs.Table.{row_count, number_at}
use Rattle.words.specs.Laws.{by_cases, both}
use Rattle.words.specs.Links.{link}
use Rattle.words.specs.Search.{some, some_field}
use Rattle.words.specs.SearchLaws.{some_field-all}
use Rattle.check_structure.specs.NoteLaws.{above_zero}
use Rattle.check_structure.specs.Structured.{Leads, Tree}
use Rattle.words.specs.Declarations.{is_declaration}
use Rattle.names.specs.Names.{is_name}
use Rattle.check_declaration_causes.specs.Causes.{names_number, named_within, named_from, names_itself}
use Rattle.check_declaration_causes.specs.Demands.{InInitial, whole, below, NotOwn}

-- ---- fields

some_same : (p q : ℕ → Bool) (count from : ℕ) → ((i : ℕ) → i < from + count → p i ≡ q i) → some p from count ≡ some q from count
unfolding some
some_same p q zero from h = refl
some_same p q (suc count) from h = rw (h from (omega arith), some_same p q count (from + 1) (λ i k. h i (omega arith)))

field-same : (p q : ℕ → Bool) → ((field : ℕ) → field < 6 → p field ≡ q field) → some_field p ≡ some_field q
unfolding some_field
field-same p q h = some_same p q 6 0 (λ i k. h i k)

field-hit : (p : ℕ → Bool) (field : ℕ) → field < 6 → p field ≡ true → some_field p ≡ true
field-hit p field h e = by_cases (some_field p) (λ s. s) (λ s. absurd (true≢false (sym e ∙ some_field-all p s field h)))

record Hit (p : ℕ → Bool) : Type 0 where
  pub field : ℕ
  pub inside : field < 6
  pub has : p field ≡ true

some-hit : (p : ℕ → Bool) (count from : ℕ) → from + count ≤ 6 → some p from count ≡ true → Hit p
unfolding some
some-hit p zero from h e = absurd (false≢true e)
some-hit p (suc count) from h e = go (p from) refl (λ r. some-hit p count (from + 1) (omega arith) r)
  where
    go : (b : Bool) → p from ≡ b → (some p (from + 1) count ≡ true → Hit p) → Hit p
    go true b rest = record { field = from; inside = omega arith; has = b }
    go false b rest = rest (rw b at e)

hit-field : (p : ℕ → Bool) → some_field p ≡ true → Hit p
unfolding some_field
hit-field p e = some-hit p 6 0 (omega arith) e

-- ---- the search

module _ (rows : List ℤ) (t : Tree rows) (number : ℕ) where
  -- the row that a field links: none, or a later one
  data Linked (row field : ℕ) : Type 0 where
    absent : link rows row field ≡ 0 → Linked row field
    present : Leads rows row field → Linked row field

  linked : (row field : ℕ) → row < row_count rows → field < 6 → Linked row field
  linked row field n h = go (ℕ_discrete (link rows row field) 0)
    where
      go : Dec (link rows row field ≡ 0) → Linked row field
      go (yes q) = absent q
      go (no q) = present (t.forward row field n h (above_zero _ q))

  within-zero : (levels : ℕ) → named_within levels rows number 0 ≡ false
  unfolding named_within
  within-zero zero = refl
  within-zero (suc levels) = refl

  -- as many levels as there are rows from the row on are enough
  enough : (levels row : ℕ) → row < row_count rows → row_count rows ≤ levels + row → named_within levels rows number row ≡ named_within (suc levels) rows number row
  unfolding named_within
  enough zero row n h = absurd (omega arith)
  enough (suc levels) row n h =
      ap (λ (b : Bool). pick (eqb row 0) false (pick (names_number rows number row) true b))
      (field-same _ _ (λ field k. go field k (linked row field n k) (λ part m e. enough levels part m e)))
    where
      go : (field : ℕ) → field < 6 → Linked row field → ((part : ℕ) → part < row_count rows → row_count rows ≤ levels + part → named_within levels rows number part ≡ named_within (suc levels) rows number part)
          → named_within levels rows number (link rows row field) ≡ named_within (suc levels) rows number (link rows row field)
      go field k (absent z) rest = rw z (within-zero levels ∙ sym (within-zero (suc levels)))
      go field k (present leads) rest = let l = leads.later in rest (link rows row field) leads.inside (omega arith)

  -- ---- one row at a time

  pub named_none : (row : ℕ) → row ≡ 0 → named_from rows number row ≡ false
  unfolding named_from
  named_none row z = rw z (within-zero (row_count rows))

  pub named_step : (row : ℕ) → 0 < row → row < row_count rows → named_from rows number row ≡ pick (names_number rows number row) true (some_field (λ (field : ℕ). named_from rows number (link rows row field)))
  unfolding named_from named_within
  named_step row p n = go (row_count rows) refl
    where
      step : (levels : ℕ) → row_count rows ≡ suc levels → (field : ℕ) → Linked row field → named_within levels rows number (link rows row field) ≡ named_within (suc levels) rows number (link rows row field)
      step levels e field (absent z) = rw z (within-zero levels ∙ sym (within-zero (suc levels)))
      step levels e field (present leads) = let l = leads.later in enough levels (link rows row field) leads.inside (omega arith)

      go : (count : ℕ) → row_count rows ≡ count → named_within count rows number row ≡ pick (names_number rows number row) true (some_field (λ (field : ℕ). named_within count rows number (link rows row field)))
      go zero e = absurd (omega arith)
      go (suc levels) e =
          rw (ne_eqb row 0 (λ q. omega arith))
          (ap (λ (b : Bool). pick (names_number rows number row) true b) (field-same _ _ (λ field k. step levels e field (linked row field n k))))

  -- ---- what is found

  -- A row that is reached and names the number.
  record Named (Reached : ℕ → Type 0) : Type 0 where
    pub name : ℕ
    pub reached : Reached name
    pub names : names_number rows number name ≡ true

  module _ (Reached : ℕ → Type 0) (along : (row field : ℕ) → field < 6 → Leads rows row field → Reached row → Reached (link rows row field)) where
    named-found : (levels row : ℕ) → row < row_count rows → Reached row → named_within levels rows number row ≡ true → Named Reached
    unfolding named_within
    named-found zero row n r e = absurd (false≢true e)
    named-found (suc levels) row n r e = go (ℕ_discrete row 0) (λ part m s f. named-found levels part m s f)
      where
        deeper : ((part : ℕ) → part < row_count rows → Reached part → named_within levels rows number part ≡ true → Named Reached)
            → (hit : Hit (λ (field : ℕ). named_within levels rows number (link rows row field))) → Linked row hit.field → Named Reached
        deeper rest hit (absent z) = absurd (false≢true (sym (within-zero levels) ∙ ap (named_within levels rows number) (sym z) ∙ hit.has))
        deeper rest hit (present leads) = rest (link rows row hit.field) leads.inside (along row hit.field hit.inside leads r) hit.has

        go : Dec (row ≡ 0) → ((part : ℕ) → part < row_count rows → Reached part → named_within levels rows number part ≡ true → Named Reached) → Named Reached
        go (yes q) rest = absurd (false≢true (rw (eq-eqb _ _ q) at e))
        go (no q) rest =
            by_cases (names_number rows number row)
            (λ b. record { name = row; reached = r; names = b })
            (λ b. let hit = hit-field (λ (field : ℕ). named_within levels rows number (link rows row field)) (rw (ne_eqb _ _ q, b) at e) in
            deeper rest hit (linked row hit.field n hit.inside))

  initial-later : {declaration row : ℕ} → InInitial rows declaration row → (0 < row) × (row < row_count rows)
  initial-later (whole leads) = let l = leads.later in (omega arith, leads.inside)
  initial-later (below h leads i) = let l = leads.later in (omega arith, leads.inside)

  named_here : (row : ℕ) → 0 < row → row < row_count rows → names_number rows number row ≡ true → named_from rows number row ≡ true
  named_here row p n e = named_step row p n ∙ rw e

  named-above : (row field : ℕ) → 0 < row → row < row_count rows → field < 6 → named_from rows number (link rows row field) ≡ true → named_from rows number row ≡ true
  named-above row field p n h e =
      named_step row p n ∙ rw (field-hit (λ (f : ℕ). named_from rows number (link rows row f)) field h e) (either (names_number rows number row))
    where
      either : (b : Bool) → pick b true true ≡ true
      either true = refl
      either false = refl

  -- what is named in an initial expression is found from b on
  named-initial : {declaration row : ℕ} → InInitial rows declaration row → named_from rows number row ≡ true → named_from rows number (link rows declaration 2) ≡ true
  named-initial (whole leads) e = e
  named-initial (below {row} {field} h leads i) e = let l = initial-later i in named-initial i (named-above row field l.0 l.1 h e)

-- ---- 18

module _ (rows : List ℤ) (t : Tree rows) where
  pub not-named-itself : (row : ℕ) → names_itself rows row ≡ false → NotOwn rows row
  unfolding names_itself names_number
  not-named-itself row e d name i k same =
      let l = initial-later rows t (number_at rows row 1) i in
      true≢false (sym (named-initial rows t (number_at rows row 1) i (named_here rows t (number_at rows row 1) name l.0 l.1 (rw (k, eq-eqb _ _ same)))) ∙ (rw d at e))

  pub names-others : (row : ℕ) → row < row_count rows → NotOwn rows row → names_itself rows row ≡ false
  unfolding names_itself names_number named_from
  names-others row n others = by_cases (names_itself rows row) (λ e. absurd (never e)) (λ e. e)
    where
      found : (is_declaration rows row ≡ true) → named_from rows (number_at rows row 1) (link rows row 2) ≡ true → Linked rows t (number_at rows row 1) row 2 → ⊥
      found d e (absent z) = false≢true (sym (named_none rows t (number_at rows row 1) (link rows row 2) z) ∙ e)
      found d e (present leads) =
          let hit = named-found rows t (number_at rows row 1) (InInitial rows row) (λ r f h l i. below h l i) (row_count rows) (link rows row 2) leads.inside (whole leads) e in
          let parts = both (is_name rows hit.name) _ hit.names in
          others d hit.name hit.reached parts.0 (eqb-true _ _ parts.1)

      never : names_itself rows row ≡ true → ⊥
      never e =
          let parts = both (is_declaration rows row) _ e in
          found parts.0 parts.1 (linked rows t (number_at rows row 1) row 2 n (omega arith))
