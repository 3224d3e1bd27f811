-- Fronts of moved programs: the list of a program's definitions at their new places, and its block, whose items are those behind them. By induction along
-- the front.
use Rattle.std.specs.Prelude.{◌≡◌, Bool, true, false, eqb, ℤ}
use Rattle.std.proofs.Math.Path.{refl, sym, ap}
use Rattle.std.proofs.Common.{◌∙◌, true≢false, eqb-true}
use mathlib.Core.List.{List, [], map}
use Prim.Native.Nat.{ℕ, zero, suc, ◌+◌, ◌≤◌, ◌<◌}
use native.Mathlib.Omega.{arith}
use Rattle.words.specs.Word.{pick}
use Rattle.words.specs.Laws.{by_cases}
use Rattle.words.specs.Table.{row_count, Whole, number_at}
use Rattle.words.specs.Kinds.{kinds, kind_in, kind_of, kind_at, is_link}
use Rattle.words.specs.KindLaws.{every_line, every-number}
use Rattle.words.specs.Links.{link}
use Rattle.words.specs.declared.Form.{Form}
use Rattle.words.specs.declared.Kind.{Kind}
use Rattle.words.specs.declared.Kind.TheVariants.{OfExpression, OfStatement, OfMark, OfMember, Definition, Other}
use Rattle.words.specs.declared.StatementKind.TheVariants.{Block}
use Rattle.words.specs.declared.MarkKind.TheVariants.{Case, Default, Label}
use Rattle.language.specs.Trees.{Statement, empty, block, Items, define}
use Rattle.language.specs.Decode.{later, block_items, items_of, statement_at, items_at, parameters_at, list_at}
use Rattle.language.specs.DecodeLaws.{items-at, at-items, at_block}
use Rattle.language.specs.Functions.{function_count}
use Rattle.language.specs.Program.{contents}
use Rattle.check_fields.specs.declared.Bounds.{Bounds}
use Rattle.check_structure.specs.Structured.{Structured}
use Rattle.check_structure.specs.LinkLaws.{part-inside}
use Rattle.language_renaming.specs.Renaming.{renamed_items}
use Rattle.check_function_causes.specs.Functions.{is_definition}
use Rattle.check_function_causes.specs.Demands.{InFront, foremost, behind}
use Rattle.check_function_causes.proofs.FrontLaws.{front-defines, front-inside, definition-leads}
use Rattle.join.specs.Join.{functions_from, item_from, functions_of, first_item}
use Rattle.join.proofs.Fronts.{kept-part, item-none, item-last}
use Rattle.join.specs.Moved.{InOrder, moved_link, HoldsRenamed}
use Rattle.join.proofs.Kept.{Ordered, ordered, definition-some, first_inside, first-undefined}
use Rattle.join.proofs.MovedLaws.{link-is}
use Rattle.join.proofs.MovedKinds.{block-moved}
use Rattle.join.proofs.MovedTrees.{moved-trees, moved-function}
use Rattle.join.proofs.MovedFunctions.{definition-numbers}
use Rattle.join.proofs.Placements.{block-first, definition-next}
use Rattle.join.specs.JoinedTrees.{front_then, behind_front}

-- ---- definitions and other rows

pub block-kind : (rows : List ℤ) (row : ℕ) → number_at rows row 0 ≡ 42 → kind_at rows row ≡ OfStatement Block
unfolding kind_at kind_of kind_in kinds
block-kind rows row e = rw e

definition-kind : (rows : List ℤ) (row : ℕ) → is_definition rows row ≡ true → kind_at rows row ≡ Definition
unfolding is_definition kind_at kind_of kind_in kinds
definition-kind rows row d = rw (eqb-true (number_at rows row 0) 59 d)

abbrev is_definition_kind : Kind → Bool
is_definition_kind (OfExpression kind) = false
is_definition_kind (OfStatement kind) = false
is_definition_kind (OfMark kind) = false
is_definition_kind (OfMember kind) = false
is_definition_kind Definition = true
is_definition_kind Other = false

other-kind : (rows : List ℤ) (row : ℕ) → is_definition rows row ≡ false → kind_at rows row ≡ Definition → ⊥
unfolding is_definition kind_at every_line kinds
other-kind rows row d k = true≢false (sym (rw k at (every-number (λ number kind. pick (is_definition_kind kind) (eqb number 59) true) refl (λ number. refl) (number_at rows row 0))) ∙ d)

pub list-some : (rows : List ℤ) (l : ℕ) → 0 < l → list_at rows l ≡ items_at rows l
list-some rows zero p = absurd (omega arith)
list-some rows (suc l) p = refl

module _ (π φ : ℕ → ℕ) where
  no_front : (kind : Kind) (word : ℕ → ℤ) (s : Statement) (words : List ℕ) (body : Statement) (is : Items) → (kind ≡ Definition → ⊥)
      → ((others : Items) → front_then (renamed_items π φ (items_of kind word s words body is)) others ≡ others) × (behind_front (items_of kind word s words body is) ≡ items_of kind word s words body is)
  unfolding items_of renamed_items front_then behind_front
  no_front (OfExpression kind) word s words body is n = ((λ others. refl), refl)
  no_front (OfStatement kind) word s words body is n = ((λ others. refl), refl)
  no_front (OfMark Case) word s words body is n = ((λ others. refl), refl)
  no_front (OfMark Default) word s words body is n = ((λ others. refl), refl)
  no_front (OfMark Label) word s words body is n = ((λ others. refl), refl)
  no_front (OfMember kind) word s words body is n = ((λ others. refl), refl)
  no_front Definition word s words body is n = absurd (n refl)
  no_front Other word s words body is n = ((λ others. refl), refl)

  -- from a row that is no definition, or from nowhere
  list-no-front : (rows : List ℤ) → Whole rows → (l : ℕ) → is_definition rows l ≡ false
      → ((others : Items) → front_then (renamed_items π φ (list_at rows l)) others ≡ others) × (behind_front (list_at rows l) ≡ list_at rows l)
  unfolding renamed_items front_then behind_front
  list-no-front rows whole zero d = ((λ others. refl), refl)
  list-no-front rows whole (suc l) d = rw (items-at rows whole (suc l)) (no_front (kind_at rows (suc l)) _ _ _ _ _ (other-kind rows (suc l) d))

-- ---- a program's own front

module _ {form : Form} {bounds : Bounds} {rows : List ℤ} (s : Structured form bounds rows) (i : InOrder rows) where
  o : Ordered rows
  o = ordered s i

  whole-rows : Whole rows
  whole-rows = sym o.tree.whole

  definition-link : (row : ℕ) → is_definition rows row ≡ true → number_at rows row 5 ≡ link rows row 5
  unfolding is_link
  definition-link row d = sym (link-is rows row 5 (rw (definition-next rows row d)))

  old-definition : (row : ℕ) → row < row_count rows → is_definition rows row ≡ true
      → items_at rows row ≡ define (number_at rows row 1) (later [] row (parameters_at rows) (number_at rows row 2)) (block_items (later empty row (statement_at rows) (number_at rows row 3))) (list_at rows (link rows row 5))
  unfolding items_of number_at
  old-definition row n d =
      at-items rows whole-rows row (λ p. rw (definition-link row d) (s.forward row n 5 (omega arith) (omega arith) (rw (definition-link row d) at p)).later)
      ∙ rw (definition-kind rows row d, definition-link row d)

  list-rest : (item : ℕ) → (is_definition rows item ≡ true → behind_front (items_at rows item) ≡ list_at rows (first_item rows)) → (is_definition rows item ≡ false → first_item rows ≡ item)
      → behind_front (list_at rows item) ≡ list_at rows (first_item rows)
  list-rest item step end =
      by_cases (is_definition rows item)
      (λ d. ap behind_front (list-some rows item (definition-some o item d)) ∙ step d)
      (λ d. (list-no-front (λ k. k) (λ k. k) rows whole-rows item d).1 ∙ ap (list_at rows) (sym (end d)))

  front_rest : (left : ℕ) {row place : ℕ} → InFront rows row place → row_count rows ≤ row + left → behind_front (items_at rows row) ≡ list_at rows (first_item rows)
  unfolding behind_front
  front_rest zero f enough = absurd (let n = front-inside rows f in omega arith)
  front_rest (suc left) {row} {place} f enough =
      let n = front-inside rows f in
      let d = front-defines rows f in
      ap behind_front (old-definition row n d)
      ∙ list-rest (link rows row 5)
      (λ c. let leads = definition-leads rows o.tree o.root row 5 n (omega arith) c in let up = leads.later in front_rest left (behind f leads c) (omega arith))
      (λ c. item-last rows f c)

  head-is : contents rows ≡ list_at rows (link rows 0 1)
  unfolding contents is_link
  head-is = ap (list_at rows) (sym (link-is rows 0 1 (rw (block-first rows 0 s.block))))

  -- its other items are those behind its definitions
  pub rest_is : behind_front (contents rows) ≡ list_at rows (first_item rows)
  rest_is =
      ap behind_front head-is
      ∙ list-rest (link rows 0 1)
      (λ d. let leads = definition-leads rows o.tree o.root 0 1 o.tree.some_rows (omega arith) d in front_rest (row_count rows) (foremost leads d) (omega arith))
      (λ d. item-none rows d)

  -- its functions are counted along its front
  counted-from : (most row : ℕ) → row < row_count rows → function_count (list_at rows row) ≡ functions_from most rows row + function_count (list_at rows (item_from most rows row))
  unfolding functions_from item_from function_count
  counted-from zero row n = omega arith
  counted-from (suc most) row n =
      by_cases (is_definition rows row)
      (λ d. let rest = counted-from most (link rows row 5) (part-inside rows o.tree row 5 (link rows row 5) n (omega arith) refl) in
      rw d (ap function_count (list-some rows row (definition-some o row d) ∙ old-definition row n d) ∙ (let e : suc (function_count (list_at rows (link rows row 5))) ≡ 1 + functions_from most rows (link rows row 5) + function_count (list_at rows (item_from most rows (link rows row 5))) = omega arith in e)))
      (λ d. rw d (omega arith))

  pub count_is : function_count (contents rows) ≡ functions_of rows + function_count (behind_front (contents rows))
  unfolding functions_of first_item
  count_is = ap function_count head-is ∙ counted-from (row_count rows) (link rows 0 1) (part-inside rows o.tree 0 1 (link rows 0 1) o.tree.some_rows (omega arith) refl) ∙ ap (λ (is : Items). functions_from (row_count rows) rows (link rows 0 1) + function_count is) (sym rest_is)

-- ---- a program in another table, where this row stands behind its definitions

module _ {form : Form} {bounds : Bounds} {π φ : ℕ → ℕ} {joined rows : List ℤ} {ρ : ℕ → ℕ} (s : Structured form bounds rows) (i : InOrder rows) (h : HoldsRenamed π φ joined rows ρ) (origin : π 0 ≡ 0) (last : ℕ)
    (goes : (row : ℕ) → row < row_count rows → is_definition rows row ≡ true → number_at joined (ρ row) 5 ≡ pick (is_definition rows (link rows row 5)) (ρ (link rows row 5)) last)
    (on : (row : ℕ) → row < row_count rows → is_definition rows row ≡ true → ρ row < number_at joined (ρ row) 5) (above : (row : ℕ) → row < row_count rows → 0 < ρ row) where
  own : Ordered rows
  own = ordered s i

  -- the list from an item of the front on
  abbrev front_from : ℕ → ℕ
  front_from item = pick (is_definition rows item) (ρ item) last

  new-definition : (row : ℕ) → row < row_count rows → is_definition rows row ≡ true
      → items_at joined (ρ row) ≡ define (φ (number_at rows row 1)) (map π (later [] row (parameters_at rows) (number_at rows row 2))) (renamed_items π φ (block_items (later empty row (statement_at rows) (number_at rows row 3)))) (list_at joined (front_from (link rows row 5)))
  unfolding items_of number_at kind_at
  new-definition row n d =
      let some = definition-some own row d in
      let same = moved-function s i h origin row some n (definition-kind rows row d) in
      let kind : kind_at joined (ρ row) ≡ Definition = ap kind_of (h.kind row n) ∙ definition-kind rows row d in
      let number = h.numbered row 1 n (omega arith) (kept-part rows row 1 some (omega arith)) (definition-numbers rows row d) in
      at-items joined h.whole (ρ row) (λ p. on row n d)
      ∙ rw (kind, number, same.parameters, same.body, block-moved π φ origin (later empty row (statement_at rows) (number_at rows row 3)), goes row n d)

  -- ---- along the front

  -- the list from an item of it on, where that is known of a definition
  list-then : (item : ℕ) → (is_definition rows item ≡ true → (0 < ρ item) × (items_at joined (ρ item) ≡ front_then (renamed_items π φ (items_at rows item)) (list_at joined last)))
      → list_at joined (front_from item) ≡ front_then (renamed_items π φ (list_at rows item)) (list_at joined last)
  list-then item step =
      by_cases (is_definition rows item)
      (λ d. rw d (list-some joined (ρ item) (step d).0 ∙ (step d).1 ∙ sym (ap (λ (is : Items). front_then (renamed_items π φ is) (list_at joined last)) (list-some rows item (definition-some own item d)))))
      (λ d. rw d (sym ((list-no-front π φ rows (whole-rows s i) item d).0 (list_at joined last))))

  front_items : (left : ℕ) {row place : ℕ} → InFront rows row place → row_count rows ≤ row + left → items_at joined (ρ row) ≡ front_then (renamed_items π φ (items_at rows row)) (list_at joined last)
  unfolding renamed_items front_then
  front_items zero f enough = absurd (let n = front-inside rows f in omega arith)
  front_items (suc left) {row} {place} f enough =
      let n = front-inside rows f in
      let d = front-defines rows f in
      new-definition row n d
      ∙ ap (define (φ (number_at rows row 1)) (map π (later [] row (parameters_at rows) (number_at rows row 2))) (renamed_items π φ (block_items (later empty row (statement_at rows) (number_at rows row 3)))))
      (list-then (link rows row 5)
      (λ c. let leads = definition-leads rows own.tree own.root row 5 n (omega arith) c in let up = leads.later in (above (link rows row 5) leads.inside, front_items left (behind f leads c) (omega arith))))
      ∙ sym (ap (λ (is : Items). front_then (renamed_items π φ is) (list_at joined last)) (old-definition s i row n d))

  -- ---- the program

  -- its definitions, and then what stands behind them
  pub head-items : list_at joined (front_from (link rows 0 1)) ≡ front_then (renamed_items π φ (contents rows)) (list_at joined last)
  head-items =
      list-then (link rows 0 1)
      (λ d. let leads = definition-leads rows own.tree own.root 0 1 own.tree.some_rows (omega arith) d in (above (link rows 0 1) leads.inside, front_items (row_count rows) (foremost leads d) (omega arith)))
      ∙ sym (ap (λ (is : Items). front_then (renamed_items π φ is) (list_at joined last)) (head-is s i))

  moved-list : (l : ℕ) → (0 < l → (l < row_count rows) × (0 < ρ l) × (is_definition rows l ≡ false)) → list_at joined (moved_link ρ l) ≡ renamed_items π φ (list_at rows l)
  unfolding renamed_items
  moved-list zero inner = refl
  moved-list (suc l) inner =
      let there = inner (omega arith) in
      list-some joined (ρ (suc l)) there.1 ∙ (moved-trees s i h origin (suc l) (omega arith, there.2) there.0).items

  -- its block, of the other items
  pub block-items : statement_at joined (ρ 0) ≡ block (renamed_items π φ (behind_front (contents rows)))
  block-items =
      let kind = h.kind 0 own.tree.some_rows ∙ s.block in
      at_block joined h.whole (ρ 0) (block-kind joined (ρ 0) kind) (λ p. forward (first_item rows) refl (rw h.begins at p))
      ∙ ap (λ (l : ℕ). block (list_at joined l)) h.begins
      ∙ ap block (moved-list (first_item rows) (λ p. (first_inside own p, above (first_item rows) (first_inside own p), first-undefined own)) ∙ ap (renamed_items π φ) (sym (rest_is s i)))
    where
      forward : (l : ℕ) → first_item rows ≡ l → 0 < moved_link ρ l → ρ 0 < number_at joined (ρ 0) 1
      forward zero e p = absurd (omega arith)
      forward (suc l) e p = rw (h.begins, e) (rw e at (h.begins_later (omega arith)))
