-- Words of a join: "in row order", so a program's declared word stands where its declaration's new row puts it.
use Rattle.std.specs.Prelude.{◌≡◌, refl, true, ◌&&◌, List, eqb, ltb, ℤ}
use Rattle.std.proofs.Common.{sym, ◌∙◌, ap}
use Prim.Native.Nat.{ℕ, zero, suc, ◌+◌, ◌-◌, ◌≤◌, ◌<◌}
use native.Mathlib.Omega.{arith}
use Rattle.std.proofs.Math.Decide.{ℕ_discrete, dec_lt}
use Rattle.std.proofs.Math.Arith.{lt_of_le-ne}
use borrow.Author.Tests.{ltb-true, ltb-false, lt-ltb, le-ltb, eq-eqb, ne_eqb}
use Rattle.words.specs.Word.{pick}
use Rattle.words.specs.Laws.{by_cases}
use Rattle.words.specs.Table.{row_count}
use Rattle.words.specs.Declarations.{is_declaration, declarations_before, declaration_count}
use Rattle.names.specs.Names.{word_of}
use Rattle.names.proofs.ScopeLaws.{before-later, word_after, word_below, word-later}
use Rattle.join.specs.Join.{before}
use Rattle.join.proofs.Counting.{counted}
use Rattle.join_names.specs.WordsOfJoin.{declaration_from, moved_name}

-- ---- laws

declarations-counted : (rows : List ℤ) (row : ℕ) → declarations_before rows row ≡ before (is_declaration rows) row
unfolding declarations_before before
declarations-counted rows zero = refl
declarations-counted rows (suc row) = rw (declarations-counted rows row)

declaration-found : (rows : List ℤ) (most declaration : ℕ) → declaration < most → is_declaration rows declaration ≡ true → declaration_from most rows (declarations_before rows declaration) ≡ declaration
unfolding declaration_from
declaration-found rows zero declaration n d = absurd (omega arith)
declaration-found rows (suc row) declaration n d = go (ℕ_discrete declaration row) (λ below. declaration-found rows row declaration below d)
  where
    go : Dec (declaration ≡ row) → (declaration < row → declaration_from row rows (declarations_before rows declaration) ≡ declaration)
        → pick (is_declaration rows row && eqb (declarations_before rows row) (declarations_before rows declaration)) row (declaration_from row rows (declarations_before rows declaration)) ≡ declaration
    go (yes q) rest =
        let here : is_declaration rows row ≡ true = (rw q at d) in
        rw (here, eq-eqb (declarations_before rows row) (declarations_before rows declaration) (ap (declarations_before rows) (sym q))) (sym q)
    go (no q) rest =
        let below : declaration < row = lt_of_le-ne (omega arith) q in
        let less = before-later rows declaration row d below in
        by_cases (is_declaration rows row)
        (λ e. rw (e, ne_eqb (declarations_before rows row) (declarations_before rows declaration) (λ z. omega arith)) (rest below))
        (λ e. rw e (rest below))

from-inside : (rows : List ℤ) (earlier most : ℕ) → 0 < most → declaration_from most rows earlier < most
unfolding declaration_from
from-inside rows earlier zero h = absurd (omega arith)
from-inside rows earlier (suc row) h =
    by_cases (is_declaration rows row && eqb (declarations_before rows row) earlier) (λ e. rw e (omega arith)) (λ e. rw e (rest row (from-inside rows earlier row)))
  where
    rest : (row : ℕ) → (0 < row → declaration_from row rows earlier < row) → declaration_from row rows earlier < suc row
    rest zero step = omega arith
    rest (suc row) step = let below = step (omega arith) in omega arith

-- The declaration of a word.
record Declared (S : ℕ) (rows : List ℤ) (word : ℕ) : Type 0 where
  row : ℕ
  inside : row < row_count rows
  declares : is_declaration rows row ≡ true
  is : word_of S rows row ≡ word

declared : (S : ℕ) (rows : List ℤ) (word : ℕ) → S ≤ word → word < S + declaration_count rows → Declared S rows word
unfolding declaration_count word_of
declared S rows word least most =
    let all = declarations-counted rows (row_count rows) in
    let c = counted (is_declaration rows) (row_count rows) (word - S) (omega arith) in
    let here = declarations-counted rows c.number in
    let place = c.is in
    record { row = c.number; inside = c.below; declares = c.has; is = omega arith }

word-apart : (S : ℕ) (rows : List ℤ) (row other : ℕ) → is_declaration rows row ≡ true → is_declaration rows other ≡ true → word_of S rows row ≡ word_of S rows other → row ≡ other
word-apart S rows row other d e same = go (dec_lt row other) (dec_lt other row)
  where
    go : Dec (row < other) → Dec (other < row) → row ≡ other
    go (yes h) k = absurd (let l = word-later rows S row other d h in omega arith)
    go (no h) (yes k) = absurd (let l = word-later rows S other row e k in omega arith)
    go (no h) (no k) = omega (arith, h, k)

module _ (S : ℕ) (joined rows : List ℤ) (ρ : ℕ → ℕ) where
  abbrev π : ℕ → ℕ
  π = moved_name S joined rows ρ

  pub moved-outer : (word : ℕ) → word < S → π word ≡ word
  unfolding moved_name
  moved-outer word h = rw (lt-ltb word S h)

  moved-after : (word : ℕ) → S ≤ word → S ≤ π word
  unfolding moved_name
  moved-after word h = rw (le-ltb word S h) (word_after joined S (ρ (declaration_from (row_count rows) rows (word - S))))

  -- a declared word goes with its declaration
  pub moved-declared : (declaration : ℕ) → declaration < row_count rows → is_declaration rows declaration ≡ true → word_of S joined (ρ declaration) ≡ π (word_of S rows declaration)
  unfolding moved_name word_of
  moved-declared declaration n d =
      let rest : S + declarations_before rows declaration - S ≡ declarations_before rows declaration = omega arith in
      rw (le-ltb (S + declarations_before rows declaration) S (omega arith), rest, declaration-found rows (row_count rows) declaration n d)

  module _ (inside : (row : ℕ) → row < row_count rows → ρ row < row_count joined) (declares : (row : ℕ) → row < row_count rows → is_declaration joined (ρ row) ≡ is_declaration rows row)
      (apart : (row other : ℕ) → row < row_count rows → other < row_count rows → ρ row ≡ ρ other → row ≡ other) where
    -- where nothing is declared
    pub moved_none : 0 < row_count rows → (S ≡ 0 → (row : ℕ) → row ≤ row_count joined → declarations_before joined row ≡ 0) → π 0 ≡ 0
    unfolding moved_name word_of
    moved_none some none =
        by_cases (ltb 0 S) (λ e. rw e)
        (λ e. let z = ltb-false 0 S e in
        let here = inside (declaration_from (row_count rows) rows (0 - S)) (from-inside rows (0 - S) (row_count rows) some) in
        let zero = none (omega arith) (ρ (declaration_from (row_count rows) rows (0 - S))) (omega arith) in
        rw e (omega arith))

    pub moved-below : (word : ℕ) → word < S + declaration_count rows → π word < S + declaration_count joined
    moved-below word h =
        by_cases (ltb word S)
        (λ e. let below = ltb-true word S e in let same = moved-outer word below in omega arith)
        (λ e. let d = declared S rows word (ltb-false word S e) h in
        let n = d.inside in
        let there = moved-declared d.row d.inside d.declares in
        let is = ap π d.is in
        let below = word_below joined S (ρ d.row) (declares d.row d.inside ∙ d.declares) (inside d.row d.inside) in
        omega arith)

    pub moved_apart : (word other : ℕ) → word < S + declaration_count rows → other < S + declaration_count rows → π word ≡ π other → word ≡ other
    moved_apart word other h k same =
        by_cases (ltb word S)
        (λ e. let a = ltb-true word S e in let x = moved-outer word a in
        by_cases (ltb other S) (λ f. let y = moved-outer other (ltb-true other S f) in omega arith) (λ f. absurd (let y = moved-after other (ltb-false other S f) in omega arith)))
        (λ e. let a = ltb-false word S e in
        by_cases (ltb other S) (λ f. absurd (let b = ltb-true other S f in let y = moved-outer other b in let x = moved-after word a in omega arith))
        (λ f. let d = declared S rows word a h in
        let c = declared S rows other (ltb-false other S f) k in
        let x = moved-declared d.row d.inside d.declares ∙ ap π d.is in
        let y = moved-declared c.row c.inside c.declares ∙ ap π c.is in
        let rows_same = apart d.row c.row d.inside c.inside (word-apart S joined (ρ d.row) (ρ c.row) (declares d.row d.inside ∙ d.declares) (declares c.row c.inside ∙ c.declares) (x ∙ same ∙ sym y)) in
        sym d.is ∙ ap (word_of S rows) rows_same ∙ c.is))
