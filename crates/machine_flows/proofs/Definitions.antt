-- Definitions: the definitions of row 0's list in turn: how many there are, and the row of each.
use mathlib.Core.Path.{◌≡◌, refl, sym, ap, ◌∙◌, subst}
use mathlib.Core.Bool.{Bool, true, false, ◌&&◌, true≢false}
use mathlib.Core.List.{List}
use Prim.Native.Nat.{ℕ, zero, suc, ◌+◌, ◌-◌, ◌*◌, ◌<◌, ◌≤◌}
use native.Mathlib.Omega.{arith}
use native.Mathlib.Decide.{ℕ_discrete}
use borrow.Author.Tests.{lt-ltb, eqb-true, eq-eqb, ne_eqb}
use lib.Dec.{ltb, eqb}
use lib.IntN.{ℤ}
use lib.ListN.{length, get_or, set, length-set}
use lib.Seq.{get_or-set_same, get_or-set_other}
use Rattle.words.specs.Table.{row_count, number_at}
use Rattle.words.specs.Kinds.{kinds, kind_in, kind_of, kind_at, is_link, is_required, kind_row, statement_fields, definition_fields, sort_in}
use Rattle.words.specs.KindLaws.{kind-numbered}
use Rattle.words.specs.declared.Kind.TheVariants.{Definition}
use Rattle.language.specs.Trees.{define}
use Rattle.language.specs.Decode.{list_at, statement_at, block_items, parameter_list_at}
use Rattle.language.specs.DecodeLaws.{at-definition}
use Rattle.language.specs.Functions.{function_of, function_count}
use Rattle.language.specs.Calls.{Numbered, DefinitionsFirst}
use Rattle.language.specs.Program.{contents}
use Rattle.language.specs.Sound.{OptionalLink}
use Rattle.language.specs.SoundLaws.{link-of, optional-link-of}
use Rattle.machine_operations.specs.Bounds.{function_row_in}
use Rattle.machine_operations.specs.Functions.{FunctionAt}
use Rattle.machine_flows.specs.FunctionRows.{InOrder, is_defined, RowsOfFunctions}
use Rattle.machine_flows.specs.Lists.{InTable}
use Rattle.machine_flows.proofs.Items.{at_row, next-later, next-below, next_is, by-item, list-at, definition-test, ahead, ahead-falls}

-- ---- the first item

module _ {rows : List ℤ} (t : InTable rows 0) where
  first-link : OptionalLink rows t.layout t.words 0 1
  unfolding is_link sort_in kind_row statement_fields
  first-link = optional-link-of t.sound t.below t.sound.root 1 (omega arith) (omega arith) refl

  first_below : number_at rows 0 1 < row_count rows
  first_below = by (number_at rows 0 1) (λ h. (first-link h).inside)
    where
      by : (l : ℕ) → (0 < l → l < row_count rows) → l < row_count rows
      by zero f = t.below
      by (suc l) f = f (omega arith)

  -- as the code reads it
  pub first-asks : (6 * 0 + 1 < length rows) × (number_at rows 0 1 < 2147483648)
  first-asks = (omega (arith, t.sound.whole, t.below), omega (arith, first_below, t.few_rows))

-- ---- the tests of `is_definition`

module _ (rows : List ℤ) (row : ℕ) where
  pub defined-none : row ≡ 0 → false ≡ is_defined rows row
  unfolding is_defined
  defined-none e = rw e

  pub defined-test : (row ≡ 0 → ⊥) → {number : ℕ} → number ≡ number_at rows row 0 → eqb number 59 ≡ is_defined rows row
  unfolding is_defined
  defined-test z e = rw (lt-ltb 0 row (omega arith), e)

-- ---- a definition or none

definition-tree : {rows : List ℤ} {at : ℕ} → InTable rows at → (at ≡ 0 → ⊥) → kind_at rows at ≡ Definition
    → list_at rows at ≡ define (number_at rows at 1) (parameter_list_at rows (number_at rows at 2)) (block_items (statement_at rows (number_at rows at 3))) (list_at rows (number_at rows at 5))
unfolding is_link is_required sort_in kind_row definition_fields
definition-tree {rows} {at} here z kind =
    list-at rows at z
    ∙ at-definition rows here.sound.whole at kind (λ h. (optional-link-of here.sound here.below kind 2 (omega arith) (omega arith) refl h).later)
    (link-of here.sound here.below kind 3 (omega arith) (omega arith) refl).later (next-later here)

module _ {rows : List ℤ} {at : ℕ} (here : InTable rows at) where
  defined-some : is_defined rows at ≡ true → (at ≡ 0 → ⊥) × (eqb (number_at rows at 0) 59 ≡ true)
  unfolding is_defined
  defined-some t = by at (eqb (number_at rows at 0) 59) t
    where
      by : (l : ℕ) (b : Bool) → (ltb 0 l && b) ≡ true → (l ≡ 0 → ⊥) × (b ≡ true)
      by zero b t = absurd (let w : ◌≡◌ {A = ℕ} 0 1 = cc in omega arith)
      by (suc l) true t = ((λ e. omega arith), refl)
      by (suc l) false t = absurd (true≢false (sym (rw (lt-ltb 0 (suc l) (omega arith)) at t)))

  definition-kind : is_defined rows at ≡ true → kind_at rows at ≡ Definition
  unfolding kinds kind_in kind_of
  definition-kind t = kind-numbered rows at refl 59 (eqb-true (number_at rows at 0) 59 (defined-some t).1)

  -- one function more than behind it
  pub more-functions : is_defined rows at ≡ true → function_count (list_at rows at) ≡ suc (function_count (list_at rows (number_at rows at 5)))
  unfolding function_count
  more-functions t = ap function_count (definition-tree here (defined-some t).0 (definition-kind t))

  pub front-behind : is_defined rows at ≡ true → DefinitionsFirst (list_at rows at) → DefinitionsFirst (list_at rows (number_at rows at 5))
  unfolding DefinitionsFirst
  front-behind t f = subst (λ i. DefinitionsFirst i) (definition-tree here (defined-some t).0 (definition-kind t)) f

  pub defined-later : is_defined rows at ≡ true → {r : ℕ} → r ≡ number_at rows at 5 → ahead (row_count rows) r < ahead (row_count rows) at
  defined-later t {r} e = ahead-falls (row_count rows) at r (defined-some t).0 here.below (next_is here e).1

  -- no function
  pub no-functions : is_defined rows at ≡ false → DefinitionsFirst (list_at rows at) → function_count (list_at rows at) ≡ 0
  unfolding is_defined function_count DefinitionsFirst
  no-functions t f = by at refl t f
    where
      by : (l : ℕ) → l ≡ at → (ltb 0 l && eqb (number_at rows at 0) 59) ≡ false → DefinitionsFirst (list_at rows at) → function_count (list_at rows l) ≡ 0
      by zero e t f = refl
      by (suc l) e t f =
          let z : at ≡ 0 → ⊥ = λ q. omega arith in
          let other : eqb (number_at rows at 0) 59 ≡ false = rw (lt-ltb 0 (suc l) (omega arith)) at t in
          ap (λ (x : ℕ). function_count (list_at rows x)) e ∙ ap function_count (list-at rows at z)
          ∙ by-item here (λ i. DefinitionsFirst i → function_count i ≡ 0) (λ q p. p) (λ q p. p) (λ q p. p) (λ q p. p)
          (λ q p. absurd (true≢false (sym (definition-test rows at true (rw q)) ∙ other)))
          (subst (λ i. DefinitionsFirst i) (list-at rows at z) f)

-- ---- the number of functions

-- the count has come to the row `at`
pub record Counting (rows : List ℤ) (at k : ℕ) : Type 0 where
  pub below : at < row_count rows
  pub in_front : DefinitionsFirst (list_at rows at)
  pub total : function_count (contents rows) ≡ k + function_count (list_at rows at)
  pub few : k + ahead (row_count rows) at ≤ row_count rows

module _ {rows : List ℤ} (o : InOrder rows) where
  pub counting-first : {r : ℕ} → r ≡ number_at rows 0 1 → Counting rows r 0
  unfolding contents
  counting-first {r} e = rw e (record { below = first_below o.table; in_front = o.in_front; total = zero_more (function_count (contents rows)); few = by (number_at rows 0 1) })
    where
      zero_more : (n : ℕ) → n ≡ 0 + n
      zero_more n = omega arith

      by : (l : ℕ) → 0 + ahead (row_count rows) l ≤ row_count rows
      by zero = omega arith
      by (suc l) = omega arith

  module _ {at k : ℕ} (c : Counting rows at k) where
    pub here : InTable rows at
    here = at_row o.table c.below

    module _ (t : is_defined rows at ≡ true) {r : ℕ} (e : r ≡ number_at rows at 5) where
      pub counting-next : {j : ℕ} → j ≡ suc k → Counting rows r j
      counting-next g = record {
        below = (next_is here e).0;
        in_front = subst (λ l. DefinitionsFirst (list_at rows l)) (sym e) (front-behind here t c.in_front);
        total = c.total ∙ omega (arith, more-functions here t, ap (λ (l : ℕ). function_count (list_at rows l)) e);
        few = omega (arith, c.few, defined-later here t e);
      }

      pub counting-small : k + 1 < 65536
      counting-small = omega (arith, c.few, defined-later here t e, o.table.few_rows)

    pub counting-last : is_defined rows at ≡ false → (k ≡ function_count (contents rows)) × (k ≤ row_count rows)
    counting-last t = (sym (c.total ∙ omega (arith, no-functions here t c.in_front)), omega (arith, c.few))

-- ---- the row of a function

-- the walk to the function f has come to the row `at`, where the function k stands
pub record Walked (rows : List ℤ) (f at k : ℕ) : Type 0 where
  pub below : at < row_count rows
  pub reached : k ≤ f
  pub numbered : Numbered k (list_at rows at)
  pub in_front : DefinitionsFirst (list_at rows at)
  pub ahead_count : f < k + function_count (list_at rows at)
  pub same : function_of f (contents rows) ≡ function_of f (list_at rows at)

module _ {rows : List ℤ} (o : InOrder rows) {f : ℕ} (defined : f < function_count (contents rows)) where
  first-walked : Walked rows f (number_at rows 0 1) 0
  unfolding contents
  first-walked =
      let some : f < function_count (list_at rows (number_at rows 0 1)) = defined in
      record { below = first_below o.table; reached = omega arith; numbered = o.numbered; in_front = o.in_front; ahead_count = omega arith; same = refl }

  pub walked-first : {at : ℕ} → at ≡ number_at rows 0 1 → Walked rows f at 0
  walked-first e = rw e first-walked

  module _ {at k : ℕ} (w : Walked rows f at k) where
    pub walked_here : InTable rows at
    walked_here = at_row o.table w.below

    not_end : at ≡ 0 → ⊥
    unfolding function_count
    not_end e = by at e w.ahead_count
      where
        by : (l : ℕ) → l ≡ 0 → f < k + function_count (list_at rows l) → ⊥
        by zero e h = omega (arith, w.reached)
        by (suc l) e h = omega arith

    kind-here : kind_at rows at ≡ Definition
    unfolding DefinitionsFirst function_count
    kind-here =
        by-item walked_here (λ i. DefinitionsFirst i → f < k + function_count i → kind_at rows at ≡ Definition)
        (λ e p h. absurd (omega (arith, w.reached)))
        (λ e p h. absurd (omega (arith, w.reached)))
        (λ e p h. absurd (omega (arith, w.reached)))
        (λ e p h. absurd (omega (arith, w.reached)))
        (λ e p h. e)
        (subst (λ i. DefinitionsFirst i) (list-at rows at not_end) w.in_front)
        (subst (λ i. f < k + function_count i) (list-at rows at not_end) w.ahead_count)

    tree-here : list_at rows at ≡ define (number_at rows at 1) (parameter_list_at rows (number_at rows at 2)) (block_items (statement_at rows (number_at rows at 3))) (list_at rows (number_at rows at 5))
    tree-here = definition-tree walked_here not_end kind-here

    numbers : (number_at rows at 1 ≡ k) × Numbered (suc k) (list_at rows (number_at rows at 5))
    unfolding Numbered
    numbers = subst (λ i. Numbered k i) tree-here w.numbered

    more : f < k + suc (function_count (list_at rows (number_at rows at 5)))
    unfolding function_count
    more = subst (λ i. f < k + function_count i) tree-here w.ahead_count

    front-there : DefinitionsFirst (list_at rows (number_at rows at 5))
    unfolding DefinitionsFirst
    front-there = subst (λ i. DefinitionsFirst i) tree-here w.in_front

    passed-one : k < f → function_of f (list_at rows at) ≡ function_of f (list_at rows (number_at rows at 5))
    unfolding function_of
    passed-one h = ap (function_of f) tree-here ∙ rw (ne_eqb f (number_at rows at 1) (λ q. omega (arith, numbers.0)))

    behind-walked : k < f → Walked rows f (number_at rows at 5) (suc k)
    behind-walked h =
        record { below = next-below walked_here; reached = omega arith; numbered = numbers.1; in_front = front-there; ahead_count = omega (arith, more); same = w.same ∙ passed-one h }

    pub walked_next : k < f → {r j : ℕ} → r ≡ number_at rows at 5 → j ≡ suc k → Walked rows f r j
    walked_next h e g = rw (e, g) (behind-walked h)

    found_here : k ≡ f → function_of f (list_at rows at) ≡ record { parameters = parameter_list_at rows (number_at rows at 2); body = block_items (statement_at rows (number_at rows at 3)) }
    unfolding function_of
    found_here e = ap (function_of f) tree-here ∙ rw (eq-eqb f (number_at rows at 1) (sym (numbers.0 ∙ e)))

    pub walked-last : f ≤ k → FunctionAt rows f at
    walked-last h = record { below = w.below; kind_is = kind-here; function_is = w.same ∙ found_here (omega (arith, w.reached)) }

-- ---- the rows of the functions, from the end of the room

-- the functions before the one at the row `at` have their rows in the room, whose first k words are free
pub record Placing (rows : List ℤ) (room : List ℕ) (at k : ℕ) : Type 0 where
  pub most : k ≤ length room
  pub size : length room ≡ function_count (contents rows)
  pub placed : (f : ℕ) → f < length room - k → FunctionAt rows f (function_row_in room f)
  pub onward : (f : ℕ) → length room - k ≤ f → f < function_count (contents rows) → Walked rows f at (length room - k)

module _ {rows : List ℤ} (o : InOrder rows) where
  pub placing-first : {r k : ℕ} {room : List ℕ} → r ≡ number_at rows 0 1 → length room ≡ function_count (contents rows) → k ≡ length room → Placing rows room r k
  placing-first {r} {k} {room} e size q =
      let none : length room - k ≡ 0 = omega arith in
      record {
        most = omega arith;
        size = size;
        placed = λ f h. absurd (omega arith);
        onward = λ f h defined. subst (λ (i : ℕ). Walked rows f r i) (sym none) (walked-first o defined e);
      }

  module _ {room : List ℕ} {at k : ℕ} (p : Placing rows room at k) {j : ℕ} (some : 0 < k) (g : j ≡ k - 1) where
    -- the function at the row
    abbrev own : ℕ
    own = length room - k

    own-defined : own < function_count (contents rows)
    own-defined = omega (arith, p.size, p.most)

    own-walked : Walked rows own at own
    own-walked = p.onward own (omega arith) own-defined

    pub placing-here : InTable rows at
    placing-here = walked_here o own-defined own-walked

    pub placing-inside : j < length room
    placing-inside = omega (arith, p.most)

    pub placing-next : {r : ℕ} → r ≡ number_at rows at 5 → Placing rows (set room j at) r j
    unfolding function_row_in
    placing-next {r} e =
        let size : length (set room j at) ≡ length room = length-set room j at in
        let most = p.most in
        let one : length (set room j at) - j ≡ suc own = omega arith in
        record {
          most = omega arith;
          size = size ∙ p.size;
          placed = λ f h. there f (omega arith) size (ℕ_discrete f own);
          onward = λ f h defined. subst (λ (i : ℕ). Walked rows f r i) (sym one) (walked_next o defined (p.onward f (omega arith) defined) (omega arith) e refl);
        }
      where
        there : (f : ℕ) → f < suc own → length (set room j at) ≡ length room → Dec (f ≡ own) → FunctionAt rows f (function_row_in (set room j at) f)
        there f h size (yes q) =
            let most = p.most in
            let place : length (set room j at) - 1 - f ≡ j = omega arith in
            let word : function_row_in (set room j at) f ≡ at = ap (λ (i : ℕ). get_or (set room j at) i 0) place ∙ get_or-set_same room j at 0 placing-inside in
            subst (λ (x : ℕ). FunctionAt rows f x) (sym word) (subst (λ (i : ℕ). FunctionAt rows i at) (sym q) (walked-last o own-defined own-walked (omega arith)))
        there f h size (no q) =
            let most = p.most in
            let word : function_row_in (set room j at) f ≡ function_row_in room f =
            ap (λ (i : ℕ). get_or (set room j at) (i - 1 - f) 0) size ∙ get_or-set_other room j (length room - 1 - f) at 0 (λ z. q (omega arith)) in
            subst (λ (x : ℕ). FunctionAt rows f x) (sym word) (p.placed f (omega (arith, q)))

  pub placing-last : {room : List ℕ} {at k : ℕ} → Placing rows room at k → k ≡ 0 → RowsOfFunctions rows room
  placing-last p z f h = p.placed f (omega (arith, p.size))
