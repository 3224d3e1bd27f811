-- The joined rows: behind the new block stand the rows of both programs, each at its place.
use Rattle.std.specs.Prelude.{◌≡◌, true, false, ℕ, zero, suc, ◌+◌, ◌-◌, ◌*◌, ◌<◌, ℤ, pos, length}
use Rattle.std.proofs.Math.Path.{refl, ap}
use Rattle.std.proofs.Common.{sym, ◌∙◌, subst, length-append, get_or-append-add}
use mathlib.Core.List.{List, ◌++◌}
use native.Mathlib.Omega.{arith}
use Rattle.std.proofs.Math.Decide.{dec_lt}
use Rattle.std.proofs.Math.ListN.{get_or, get_or-append}
use Rattle.std.proofs.lemmas.Bool.{not-true}
use Rattle.words.specs.Word.{natural}
use Rattle.words.specs.Laws.{by_cases}
use Rattle.words.specs.Table.{row_count, Whole, word_at, number_at}
use Rattle.words.specs.Links.{link}
use Rattle.join.specs.Join.{is_of_definition, is_other, before, definition_rows, other_rows, functions_of, Placement, place_of, front_of, placed_word, placed_rows, first_placement, second_placement, outer_block, joined_rows}
use Rattle.join.proofs.Counting.{before-less, before-parts, counted, placed-length, placed-word}
use Rattle.join.proofs.Placements.{place-definition, place_other, other-is, definition-least, other-least, Stands}

-- ---- one list behind another

in_front : (xs ys : List ℤ) (k : ℕ) → k < length xs → get_or (xs ++ ys) k (pos 0) ≡ get_or xs k (pos 0)
in_front xs ys k h = get_or-append xs ys (pos 0) k h

in_rest : (xs ys : List ℤ) (n k : ℕ) → length xs ≡ n → get_or (xs ++ ys) (n + k) (pos 0) ≡ get_or ys k (pos 0)
in_rest xs ys n k e = ap (λ (m : ℕ). get_or (xs ++ ys) (m + k) (pos 0)) (sym e) ∙ get_or-append-add xs ys k (pos 0)

-- both parts of a table are the table
pub rows-parts : (rows : List ℤ) → definition_rows rows + other_rows rows ≡ row_count rows
unfolding is_other
rows-parts rows = before-parts (is_of_definition rows) (row_count rows)

other-back : (rows : List ℤ) (row : ℕ) → is_other rows row ≡ true → is_of_definition rows row ≡ false
unfolding is_other
other-back rows row e = not-true (is_of_definition rows row) e

module _ (first second : List ℤ) where
  abbrev pub of_first : Placement
  of_first = first_placement first second

  abbrev pub of_second : Placement
  of_second = second_placement first second

  -- The new number of a row.
  abbrev pub first_place : ℕ → ℕ
  first_place = place_of of_first first

  abbrev pub second_place : ℕ → ℕ
  second_place = place_of of_second second

  -- ---- where both begin

  pub first-definitions : of_first.definitions ≡ 1
  unfolding first_placement
  first-definitions = refl

  pub second-definitions : of_second.definitions ≡ 1 + definition_rows first
  unfolding second_placement
  second-definitions = refl

  pub first-others : of_first.others ≡ 1 + definition_rows first + definition_rows second
  unfolding first_placement second_placement
  first-others = refl

  pub second-others : of_second.others ≡ 1 + definition_rows first + definition_rows second + other_rows first
  unfolding second_placement
  second-others = refl

  pub second-behind : of_second.behind ≡ of_first.others
  unfolding first_placement
  second-behind = refl

  pub second-after : of_second.after ≡ 0
  unfolding second_placement
  second-after = refl

  pub first-behind : of_first.behind ≡ front_of of_second second (link second 0 1)
  unfolding first_placement
  first-behind = refl

  pub first-after : of_first.after ≡ of_second.others
  unfolding first_placement
  first-after = refl

  pub first-functions : of_first.functions ≡ 0
  unfolding first_placement
  first-functions = refl

  pub second-functions : of_second.functions ≡ functions_of first
  unfolding second_placement
  second-functions = refl

  -- ---- the joined table

  abbrev joined : List ℤ
  joined = joined_rows first second

  abbrev block : List ℤ
  block = outer_block (front_of of_first first (link first 0 1))

  abbrev definitions_of_first : List ℤ
  definitions_of_first = placed_rows of_first (is_of_definition first) first (row_count first)

  abbrev definitions_of_second : List ℤ
  definitions_of_second = placed_rows of_second (is_of_definition second) second (row_count second)

  abbrev others_of_first : List ℤ
  others_of_first = placed_rows of_first (is_other first) first (row_count first)

  abbrev others_of_second : List ℤ
  others_of_second = placed_rows of_second (is_other second) second (row_count second)

  -- from each part on
  abbrev from_others_of_first : List ℤ
  from_others_of_first = others_of_first ++ others_of_second

  abbrev from_definitions_of_second : List ℤ
  from_definitions_of_second = definitions_of_second ++ from_others_of_first

  abbrev from_definitions_of_first : List ℤ
  from_definitions_of_first = definitions_of_first ++ from_definitions_of_second

  joined_is : joined ≡ block ++ from_definitions_of_first
  unfolding joined_rows
  joined_is = refl

  block-long : length block ≡ 6
  unfolding outer_block
  block-long = refl

  pub length-joined : Whole first → Whole second → length joined ≡ 6 + length first + length second
  length-joined whole_first whole_second =
      let a = placed-length of_first (is_of_definition first) first (row_count first) in
      let b = placed-length of_second (is_of_definition second) second (row_count second) in
      let c = placed-length of_first (is_other first) first (row_count first) in
      let d = placed-length of_second (is_other second) second (row_count second) in
      let o = block-long in
      let p = length-append others_of_first others_of_second in
      let q = length-append definitions_of_second from_others_of_first in
      let r = length-append definitions_of_first from_definitions_of_second in
      let s = length-append block from_definitions_of_first in
      let one = rows-parts first in
      let two = rows-parts second in
      ap length joined_is ∙ (let e : length (block ++ from_definitions_of_first) ≡ 6 + length first + length second = omega arith in e)

  module _ (whole_first : Whole first) (whole_second : Whole second) where
    pub count-joined : row_count joined ≡ 1 + row_count first + row_count second
    count-joined = let e = length-joined whole_first whole_second in omega arith

    pub whole-joined : Whole joined
    whole-joined = let e = length-joined whole_first whole_second in omega arith

    -- ---- row 0

    pub outer-word : (field : ℕ) → field < 6 → word_at joined 0 field ≡ get_or block field (pos 0)
    unfolding word_at
    outer-word field f =
        ap (λ (k : ℕ). get_or joined k (pos 0)) (let e : 6 * 0 + field ≡ field = omega arith in e)
        ∙ ap (λ (l : List ℤ). get_or l field (pos 0)) joined_is
        ∙ in_front block from_definitions_of_first field (let l = block-long in omega arith)

    pub outer-number : (field : ℕ) → field < 6 → number_at joined 0 field ≡ natural (get_or block field (pos 0))
    unfolding number_at
    outer-number field f = ap natural (outer-word field f)

    -- ---- the four parts behind it

    long-first : length definitions_of_first ≡ 6 * definition_rows first
    long-first = placed-length of_first (is_of_definition first) first (row_count first)

    long-second : length definitions_of_second ≡ 6 * definition_rows second
    long-second = placed-length of_second (is_of_definition second) second (row_count second)

    long-others : length others_of_first ≡ 6 * other_rows first
    long-others = placed-length of_first (is_other first) first (row_count first)

    from_first : (k : ℕ) → get_or joined (6 + k) (pos 0) ≡ get_or from_definitions_of_first k (pos 0)
    from_first k = ap (λ (l : List ℤ). get_or l (6 + k) (pos 0)) joined_is ∙ in_rest block from_definitions_of_first 6 k block-long

    from_second : (k : ℕ) → get_or joined (6 + (6 * definition_rows first + k)) (pos 0) ≡ get_or from_definitions_of_second k (pos 0)
    from_second k = from_first (6 * definition_rows first + k) ∙ in_rest definitions_of_first from_definitions_of_second (6 * definition_rows first) k long-first

    from-others : (k : ℕ) → get_or joined (6 + (6 * definition_rows first + (6 * definition_rows second + k))) (pos 0) ≡ get_or from_others_of_first k (pos 0)
    from-others k = from_second (6 * definition_rows second + k) ∙ in_rest definitions_of_second from_others_of_first (6 * definition_rows second) k long-second

    from_last : (k : ℕ) → get_or joined (6 + (6 * definition_rows first + (6 * definition_rows second + (6 * other_rows first + k)))) (pos 0) ≡ get_or others_of_second k (pos 0)
    from_last k = from-others (6 * other_rows first + k) ∙ in_rest others_of_first others_of_second (6 * other_rows first) k long-others

    -- a word of the joined table, by its place
    at_place : (place field k : ℕ) → 6 * place + field ≡ k → word_at joined place field ≡ get_or joined k (pos 0)
    unfolding word_at
    at_place place field k e = ap (λ (m : ℕ). get_or joined m (pos 0)) e

    first-words : (row field : ℕ) → row < row_count first → field < 6 → word_at joined (first_place row) field ≡ placed_word of_first first row field
    first-words row field n f =
        by_cases (is_of_definition first row)
        (λ e. let less = before-less (is_of_definition first) row (row_count first) n e in let long = long-first in let p = place-definition of_first first row e in let b = first-definitions in
        at_place (first_place row) field (6 + (6 * before (is_of_definition first) row + field)) (omega arith)
        ∙ from_first (6 * before (is_of_definition first) row + field)
        ∙ in_front definitions_of_first from_definitions_of_second (6 * before (is_of_definition first) row + field) (omega arith)
        ∙ placed-word of_first (is_of_definition first) first (row_count first) row field n e f)
        (λ e. let o = other-is of_first first row e in let less = before-less (is_other first) row (row_count first) n o in let long = long-others in let p = place_other of_first first row e in let b = first-others in
        at_place (first_place row) field (6 + (6 * definition_rows first + (6 * definition_rows second + (6 * before (is_other first) row + field)))) (omega arith)
        ∙ from-others (6 * before (is_other first) row + field)
        ∙ in_front others_of_first others_of_second (6 * before (is_other first) row + field) (omega arith)
        ∙ placed-word of_first (is_other first) first (row_count first) row field n o f)

    second-words : (row field : ℕ) → row < row_count second → field < 6 → word_at joined (second_place row) field ≡ placed_word of_second second row field
    second-words row field n f =
        by_cases (is_of_definition second row)
        (λ e. let less = before-less (is_of_definition second) row (row_count second) n e in let long = long-second in let p = place-definition of_second second row e in let b = second-definitions in
        at_place (second_place row) field (6 + (6 * definition_rows first + (6 * before (is_of_definition second) row + field))) (omega arith)
        ∙ from_second (6 * before (is_of_definition second) row + field)
        ∙ in_front definitions_of_second from_others_of_first (6 * before (is_of_definition second) row + field) (omega arith)
        ∙ placed-word of_second (is_of_definition second) second (row_count second) row field n e f)
        (λ e. let o = other-is of_second second row e in let p = place_other of_second second row e in let b = second-others in
        at_place (second_place row) field (6 + (6 * definition_rows first + (6 * definition_rows second + (6 * other_rows first + (6 * before (is_other second) row + field))))) (omega arith)
        ∙ from_last (6 * before (is_other second) row + field)
        ∙ placed-word of_second (is_other second) second (row_count second) row field n o f)

    pub first-stands : Stands of_first first joined
    first-stands =
        let c = count-joined in
        let one = rows-parts first in
        let two = rows-parts second in
        let d = first-definitions in
        let o = first-others in
        record { whole = whole-joined; first = omega arith; above = omega arith; room = omega arith; words = first-words }

    pub second-stands : Stands of_second second joined
    second-stands =
        let c = count-joined in
        let one = rows-parts first in
        let two = rows-parts second in
        let d = second-definitions in
        let o = second-others in
        record { whole = whole-joined; first = omega arith; above = omega arith; room = omega arith; words = second-words }

    -- ---- every row is the new block, or a row of a program

    pub every-row : (P : ℕ → Type 0) → P 0 → ((r : ℕ) → r < row_count first → P (first_place r)) → ((r : ℕ) → r < row_count second → P (second_place r)) → (row : ℕ) → row < row_count joined → P row
    every-row P outer in_first in_second zero n = outer
    every-row P outer in_first in_second (suc row) n = by (dec_lt row (definition_rows first)) (dec_lt row (definition_rows first + definition_rows second)) (dec_lt row (definition_rows first + definition_rows second + other_rows first))
      where
        by : Dec (row < definition_rows first) → Dec (row < definition_rows first + definition_rows second) → Dec (row < definition_rows first + definition_rows second + other_rows first) → P (suc row)
        by (yes h) b c =
            let at = counted (is_of_definition first) (row_count first) row h in
            let p = place-definition of_first first at.number at.has in let d = first-definitions in let i = at.is in
            subst P (let q : first_place at.number ≡ suc row = omega arith in q) (in_first at.number at.below)
        by (no g) (yes h) c =
            let at = counted (is_of_definition second) (row_count second) (row - definition_rows first) (omega (arith, g)) in
            let p = place-definition of_second second at.number at.has in let d = second-definitions in let i = at.is in
            subst P (let q : second_place at.number ≡ suc row = omega (arith, g) in q) (in_second at.number at.below)
        by (no g) (no h) (yes c) =
            let at = counted (is_other first) (row_count first) (row - definition_rows first - definition_rows second) (omega (arith, h)) in
            let p = place_other of_first first at.number (other-back first at.number at.has) in let d = first-others in let i = at.is in
            subst P (let q : first_place at.number ≡ suc row = omega (arith, h) in q) (in_first at.number at.below)
        by (no g) (no h) (no c) =
            let many = count-joined in
            let one = rows-parts first in
            let two = rows-parts second in
            let at = counted (is_other second) (row_count second) (row - definition_rows first - definition_rows second - other_rows first) (omega (arith, c)) in
            let p = place_other of_second second at.number (other-back second at.number at.has) in let d = second-others in let i = at.is in
            subst P (let q : second_place at.number ≡ suc row = omega (arith, c) in q) (in_second at.number at.below)

    -- no row has two places
    pub programs-apart : (row other : ℕ) → row < row_count first → other < row_count second → first_place row ≡ second_place other → ⊥
    programs-apart row other n m e =
        let d = first-definitions in let f = second-definitions in let o = first-others in let q = second-others in
        by_cases (is_of_definition first row)
        (λ a. let x = (definition-least of_first first first-stands.above row n a).1 in
        by_cases (is_of_definition second other) (λ b. let y = (definition-least of_second second second-stands.above other m b).0 in omega arith) (λ b. let y = (other-least of_second second second-stands.above other m b).0 in omega arith))
        (λ a. let x = other-least of_first first first-stands.above row n a in let x0 = x.0 in let x1 = x.1 in
        by_cases (is_of_definition second other) (λ b. let y = (definition-least of_second second second-stands.above other m b).1 in omega arith) (λ b. let y = (other-least of_second second second-stands.above other m b).0 in omega arith))
