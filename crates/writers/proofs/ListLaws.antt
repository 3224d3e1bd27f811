-- Lists: the items of a list one behind another. A loop that writes something of each item keeps `Progress`: what is written is the
-- code of the items passed, and the code of the list is that with the code of the items ahead.
use mathlib.Core.Path.{◌≡◌, refl, sym, ap, subst, ◌∙◌}
use mathlib.Core.Bool.{Bool, true}
use mathlib.Core.List.{List}
use Prim.Native.Nat.{ℕ, zero, suc, ◌+◌, ◌*◌, ◌-◌, ◌≤◌, ◌<◌}
use native.Mathlib.Omega.{arith}
use lib.IntN.{ℤ}
use lib.ListN.{length}
use Rattle.words.specs.Table.{row_count, number_at}
use Rattle.language.specs.Trees.{Expression, Mark, case, default, label, Statement, Items, none, ◌then◌, ◌here◌, define, ◌⧺◌}
use Rattle.language.specs.Sizes.{expression_rows, items_rows}
use Rattle.language.specs.TreeLaws.{append-none, append-append}
use Rattle.language.specs.Decode.{statement_at, items_at, list_at}
use Rattle.translation.specs.Translate.{items_labels, case_tests, Exits, items_code}
use Rattle.translation.specs.TranslateSize.{items_size, cases}
use Rattle.translation.proofs.TranslateRows.{rows-statement, rows-items}
use Rattle.language_emission.specs.Emission.{emit_items}
use Rattle.language_emission.specs.EmissionLaws.{or_more}
use Rattle.language_shapes.specs.Shapes.{item_tree, OptionalOnward, ItemAt}
use Rattle.language_shapes.specs.Source.{Source}
use Rattle.language_shapes.specs.ShapeLaws.{item-found}
use Rattle.language_shapes.specs.declared.Item.{Item}
use Rattle.language_shapes.specs.declared.Item.TheVariants.{Statement as StatementItem, Mark as MarkItem, Definition as DefinitionItem}
use Rattle.words.specs.Over.{over}
use Rattle.measures_table.specs.Parts.{called_in}
use Rattle.writers_rows.specs.Room.{Room, more_rows}
use Rattle.writers.specs.Items.{item_size, item_labels, item_cases, item_test, item_code}
use Rattle.writers_rows.specs.Chain.{part, back_in, Wrote}
use Rattle.writers.proofs.Sequence.{back-length, wrote-behind, wrote_none, room-behind, more-rows, more-append, more-true}

-- ---- the first item of a list, and the rest

pub data First : Items → Items → Type 0 where
  statement : {s : Statement} {rest : Items} → First (s then rest) rest
  mark : {m : Mark} {rest : Items} → First (m here rest) rest
  definition : {f : ℕ} {words : List ℕ} {body rest : Items} → First (define f words body rest) rest

tree_first : (rows : List ℤ) (item : Item) (s : Statement) (rest : Items) → First (item_tree rows item s rest) rest
tree_first rows StatementItem s rest = statement
tree_first rows (MarkItem m) s rest = mark
tree_first rows (DefinitionItem f parameters body) s rest = definition

pub some-list : (rows : List ℤ) (row : ℕ) → 0 < row → list_at rows row ≡ items_at rows row
some-list rows zero h = absurd (omega arith)
some-list rows (suc row) h = refl

item-at : (rows : List ℤ) (row : ℕ) → Source rows → row < row_count rows → (item : Item) × ItemAt rows row (number_at rows row 5) item
item-at rows row source inside = (_, item-found source.sound inside)

-- What an item that a match tells makes of the list.
pub item_is : {rows : List ℤ} {row next : ℕ} {item told : Item} → ItemAt rows row next item → item ≡ told → items_at rows row ≡ item_tree rows told (statement_at rows row) (list_at rows next)
item_is {rows} {row} {next} i e = i.is ∙ ap (λ (t : Item). item_tree rows t (statement_at rows row) (list_at rows next)) e

pub first_of : (rows : List ℤ) (row : ℕ) → Source rows → row < row_count rows → First (items_at rows row) (list_at rows (number_at rows row 5))
first_of rows row source inside =
    let i = item-at rows row source inside in
    subst (λ (is : Items). First is (list_at rows (number_at rows row 5))) (sym i.1.is) (tree_first rows i.0 (statement_at rows row) (list_at rows (number_at rows row 5)))

pub next-onward : (rows : List ℤ) (row : ℕ) → Source rows → row < row_count rows → OptionalOnward rows row (number_at rows row 5)
next-onward rows row source inside = (item-at rows row source inside).1.onward

pub first-size : (called : ℕ → ℕ → Bool) {is rest : Items} → First is rest → items_size called is ≡ item_size called is + items_size called rest
unfolding items_size
first-size called statement = refl
first-size called mark = refl
first-size called definition = omega arith

pub first-labels : {is rest : Items} → First is rest → items_labels is ≡ item_labels is + items_labels rest
unfolding items_labels
first-labels statement = refl
first-labels mark = refl
first-labels definition = omega arith

mark-cases : (m : Mark) (rest : Items) → cases (m here rest) ≡ item_cases (m here rest) + cases rest
mark-cases (case v) rest = refl
mark-cases default rest = omega arith
mark-cases (label l) rest = omega arith

pub first-cases : {is rest : Items} → First is rest → cases is ≡ item_cases is + cases rest
first-cases statement = omega arith
first-cases {rest = rest} (mark {m = m}) = mark-cases m rest
first-cases definition = omega arith

-- A definition has no labels where it stands.
no-more : (l : ℕ) → l ≡ l + 0
no-more l = omega arith

-- `called f i`: whether function f can write the variable i.
module _ (called : ℕ → ℕ → Bool) (S : ℕ) where
  pub first_code : {is rest : Items} → First is rest → (x : Exits) (l : ℕ) → items_code called S is x l ≡ item_code called S is x l ⧺ items_code called S rest x (l + item_labels is)
  unfolding items_code ◌⧺◌
  first_code statement x l = refl
  first_code mark x l = refl
  first_code (definition {rest = rest}) x l = ap (items_code called S rest x) (no-more l)

  pub item-rows : {is rest : Items} → First is rest → (x : Exits) (l : ℕ) → items_rows (item_code called S is x l) ≡ item_size called is
  unfolding items_rows
  item-rows (statement {s = s}) x l = rows-statement called S s x l
  item-rows mark x l = refl
  item-rows definition x l = refl

module _ (S : ℕ) where
  mark-tests : (x : Expression) (u : ℕ) (m : Mark) (rest : Items) (l : ℕ) → case_tests S x u (m here rest) l ≡ item_test S x u (m here rest) l ⧺ case_tests S x u rest (l + 1)
  unfolding case_tests ◌⧺◌
  mark-tests x u (case v) rest l = refl
  mark-tests x u default rest l = refl
  mark-tests x u (label k) rest l = refl

  pub first-tests : {is rest : Items} → First is rest → (x : Expression) (u l : ℕ) → case_tests S x u is l ≡ item_test S x u is l ⧺ case_tests S x u rest (l + item_labels is)
  unfolding case_tests ◌⧺◌
  first-tests statement x u l = refl
  first-tests {rest = rest} (mark {m = m}) x u l = mark-tests x u m rest l
  first-tests (definition {rest = rest}) x u l = ap (case_tests S x u rest) (no-more l)

  mark-test-rows : (x : Expression) → expression_rows x ≡ 1 → (u : ℕ) (m : Mark) (rest : Items) (l : ℕ) → items_rows (item_test S x u (m here rest) l) ≡ 11 * item_cases (m here rest)
  unfolding items_rows expression_rows
  mark-test-rows x h u (case v) rest l = rw h
  mark-test-rows x h u default rest l = refl
  mark-test-rows x h u (label k) rest l = refl

  pub test-rows : {is rest : Items} → First is rest → (x : Expression) → expression_rows x ≡ 1 → (u l : ℕ) → items_rows (item_test S x u is l) ≡ 11 * item_cases is
  unfolding items_rows
  test-rows statement x h u l = refl
  test-rows {rest = rest} (mark {m = m}) x h u l = mark-test-rows x h u m rest l
  test-rows definition x h u l = refl

-- ---- the rows from a link on

-- How many rows there are from a link on; none from an absent one.
abbrev pub above : List ℤ → ℕ → ℕ
above rows zero = 0
above rows (suc link) = row_count rows - suc link

pub above-some : (rows : List ℤ) (row : ℕ) → 0 < row → above rows row ≡ row_count rows - row
above-some rows zero h = absurd (omega arith)
above-some rows (suc row) h = refl

pub above-less : (rows : List ℤ) (row link : ℕ) → row < row_count rows → OptionalOnward rows row link → above rows link < row_count rows - row
above-less rows row zero inside o = omega arith
above-less rows row (suc link) inside o = omega (arith, (o (omega arith)).later, (o (omega arith)).inside)

pub optional-inside : (rows : List ℤ) (row link : ℕ) → row < row_count rows → OptionalOnward rows row link → link < row_count rows
optional-inside rows row zero inside o = omega arith
optional-inside rows row (suc link) inside o = (o (omega arith)).inside

-- The row behind an item is above it, or absent.
pub next-less : (rows : List ℤ) (row next : ℕ) → Source rows → row < row_count rows → (row ≡ 0 → ⊥) → next ≡ number_at rows row 5 → above rows next < above rows row
next-less rows row next source inside some e =
    let h : 0 < row = omega arith in
    rw (e, above-some rows row h) (above-less rows row (number_at rows row 5) inside (next-onward rows row source inside))

pub next_inside : (rows : List ℤ) (row : ℕ) → Source rows → row < row_count rows → number_at rows row 5 < row_count rows
next_inside rows row source inside = optional-inside rows row (number_at rows row 5) inside (next-onward rows row source inside)

pub le_of_lt : {m n : ℕ} → m < n → m ≤ n
le_of_lt h = omega arith

-- What an item takes of its list, where `next` is the row behind it.
module _ (rows : List ℤ) (item next : ℕ) (source : Source rows) (inside : item < row_count rows) (some : item ≡ 0 → ⊥) (e : next ≡ number_at rows item 5) where
  pub behind-inside : next < row_count rows
  behind-inside = rw e (next_inside rows item source inside)

  pub behind-size : items_size (called_in rows) (list_at rows item) ≡ item_size (called_in rows) (items_at rows item) + items_size (called_in rows) (list_at rows next)
  behind-size = rw e (ap (items_size (called_in rows)) (some-list rows item (omega arith)) ∙ first-size (called_in rows) (first_of rows item source inside))

  pub behind-labels : items_labels (list_at rows item) ≡ item_labels (items_at rows item) + items_labels (list_at rows next)
  behind-labels = rw e (ap items_labels (some-list rows item (omega arith)) ∙ first-labels (first_of rows item source inside))

-- ---- a loop over the members of a list, which are items or arms

-- `at` gives the list at a link, `marks` its labels, `code` its code where they begin at a number, `size` its rows.
module _ {X : Type 0} (at : ℕ → X) (marks : X → ℕ) (follows : Bool) (code : X → ℕ → Items) (size : X → ℕ) (rows : List ℤ) (list label base : ℕ) (out₀ : List ℤ) where
  -- What stands before `item` is passed; theirs are n rows and the labels before `from`.
  pub record Progress (out : List ℤ) (item from n : ℕ) : Type 0 where
    pub done : Items
    pub is : code (at list) label ≡ done ⧺ code (at item) from
    pub written : Wrote (or_more follows (code (at item) from)) done base n out₀ out
    pub inside : item < row_count rows
    pub labels_are : label + marks (at list) ≡ from + marks (at item)
    pub size_is : size (at list) ≡ n + size (at item)
    pub kept : length out ≡ length out₀
    pub onward : above rows item ≤ above rows list

  pub start : list < row_count rows → Progress out₀ list label 0
  unfolding ◌⧺◌
  start inside = record { done = none; is = refl; written = wrote_none _ base out₀; inside = inside; labels_are = refl; size_is = omega arith; kept = refl; onward = omega arith }

  pub step : {out : List ℤ} {item from n : ℕ} → Progress out item from n → (next k m : ℕ) (first : Items) (out2 : List ℤ)
      → next < row_count rows → above rows next ≤ above rows item
      → code (at item) from ≡ first ⧺ code (at next) (from + k)
      → marks (at item) ≡ k + marks (at next)
      → size (at item) ≡ m + size (at next)
      → Wrote (or_more follows (code (at next) (from + k))) first (base + n) m (part n out) out2
      → length out2 ≡ length (part n out)
      → Progress (back_in n out out2) next (from + k) (n + m)
  step {out} {item} {from} {n} p next k m first out2 inside less e l s w h =
      let more : or_more follows (code (at item) from) ≡ or_more (or_more follows (code (at next) (from + k))) first =
      ap (or_more follows) e ∙ more-append follows first (code (at next) (from + k)) in
      record {
        done = p.done ⧺ first;
        is = p.is ∙ ap (λ xs. p.done ⧺ xs) e ∙ sym (append-append p.done first (code (at next) (from + k)));
        written = wrote-behind (n + m) refl more refl p.written w;
        inside = inside;
        labels_are = p.labels_are ∙ omega (arith, l);
        size_is = p.size_is ∙ omega (arith, s);
        kept = back-length n out out2 h ∙ p.kept;
        onward = omega (arith, p.onward, less);
      }

  pub finish : {out : List ℤ} {item from n : ℕ} → Progress out item from n → code (at item) from ≡ none → out ≡ over (emit_items follows (code (at list) label) base) out₀
  finish {out} {item} {from} {n} p rest =
      let all : code (at list) label ≡ p.done = p.is ∙ ap (λ xs. p.done ⧺ xs) rest ∙ append-none p.done in
      let more : or_more follows (code (at item) from) ≡ follows = ap (or_more follows) rest in
      rw (all, ← more) p.written.table

-- The list at an absent link.
pub none-at : (rows : List ℤ) (item : ℕ) → item ≡ 0 → list_at rows item ≡ none
none-at rows zero h = refl
none-at rows (suc item) h = absurd (omega arith)

-- ---- the two loops: the tests of a switch, and the code of a list

module _ (S : ℕ) (rows : List ℤ) (list label base : ℕ) (out₀ : List ℤ) {out : List ℤ} {item from n : ℕ} (source : Source rows) (some : item ≡ 0 → ⊥) where
  pub tests-step : (x : Expression) (u : ℕ) → expression_rows x ≡ 1 → Progress (list_at rows) items_labels true (case_tests S x u) (λ is. 11 * cases is) rows list label base out₀ out item from n
      → (next k m : ℕ) (out2 : List ℤ) → next ≡ number_at rows item 5 → k ≡ item_labels (items_at rows item) → m ≡ 11 * item_cases (items_at rows item)
      → out2 ≡ over (emit_items true (item_test S x u (items_at rows item) from) (base + n)) (part n out) → length out2 ≡ length (part n out)
      → Progress (list_at rows) items_labels true (case_tests S x u) (λ is. 11 * cases is) rows list label base out₀ (back_in n out out2) next (from + k) (n + m)
  tests-step x u one p next k m out2 e ek em t h =
      let inside = p.inside in
      let first = first_of rows item source inside in
      let same : list_at rows item ≡ items_at rows item = some-list rows item (omega arith) in
      rw (e, ek, em) (
      step (list_at rows) items_labels true (case_tests S x u) (λ is. 11 * cases is) rows list label base out₀ p (number_at rows item 5) (item_labels (items_at rows item)) (11 * item_cases (items_at rows item))
      (item_test S x u (items_at rows item) from) out2
      (next_inside rows item source inside) (le_of_lt (next-less rows item (number_at rows item 5) source inside some refl))
      (ap (λ is. case_tests S x u is from) same ∙ first-tests S first x u from)
      (ap items_labels same ∙ first-labels first)
      (ap (λ is. 11 * cases is) same ∙ omega (arith, first-cases first))
      (record { table = rw (more-true (case_tests S x u (list_at rows (number_at rows item 5)) (from + item_labels (items_at rows item)))) t; size = test-rows S first x one u from })
      h
      )

  pub items-step : (follows : Bool) (x : Exits) → Progress (list_at rows) items_labels follows (λ is. items_code (called_in rows) S is x) (items_size (called_in rows)) rows list label base out₀ out item from n
      → (next k m : ℕ) (f : Bool) (out2 : List ℤ) → next ≡ number_at rows item 5 → k ≡ item_labels (items_at rows item) → m ≡ item_size (called_in rows) (items_at rows item)
      → f ≡ more_rows follows (items_size (called_in rows) (list_at rows next))
      → out2 ≡ over (emit_items f (item_code (called_in rows) S (items_at rows item) x from) (base + n)) (part n out) → length out2 ≡ length (part n out)
      → Progress (list_at rows) items_labels follows (λ is. items_code (called_in rows) S is x) (items_size (called_in rows)) rows list label base out₀ (back_in n out out2) next (from + k) (n + m)
  items-step follows x p next k m f out2 e ek em ef t h =
      let inside = p.inside in
      let first = first_of rows item source inside in
      let same : list_at rows item ≡ items_at rows item = some-list rows item (omega arith) in
      let rest = list_at rows (number_at rows item 5) in
      let more : f ≡ or_more follows (items_code (called_in rows) S rest x (from + item_labels (items_at rows item))) =
      ef ∙ ap (λ i. more_rows follows (items_size (called_in rows) (list_at rows i))) e ∙ more-rows follows (items_code (called_in rows) S rest x (from + item_labels (items_at rows item))) (items_size (called_in rows) rest) (rows-items (called_in rows) S rest x (from + item_labels (items_at rows item))) in
      rw (e, ek, em) (
      step (list_at rows) items_labels follows (λ is. items_code (called_in rows) S is x) (items_size (called_in rows)) rows list label base out₀ p (number_at rows item 5) (item_labels (items_at rows item)) (item_size (called_in rows) (items_at rows item))
      (item_code (called_in rows) S (items_at rows item) x from) out2
      (next_inside rows item source inside) (le_of_lt (next-less rows item (number_at rows item 5) source inside some refl))
      (ap (λ is. items_code (called_in rows) S is x from) same ∙ first_code (called_in rows) S first x from)
      (ap items_labels same ∙ first-labels first)
      (ap (items_size (called_in rows)) same ∙ first-size (called_in rows) first)
      (record { table = rw (← more) t; size = item-rows (called_in rows) S first x from })
      h
      )

-- The part of the room that an item takes.
pub room-item : (rows : List ℤ) (list item n : ℕ) {base words taken : ℕ} (size : Items → ℕ) (out : List ℤ) → Room (size (list_at rows list)) base words → length out ≡ words
    → size (list_at rows list) ≡ n + size (list_at rows item) → taken ≤ size (list_at rows item) → Room taken (base + n) (length (part n out))
room-item rows list item n {taken = taken} size out room kept e h = room-behind n taken out room kept (omega (arith, e))
