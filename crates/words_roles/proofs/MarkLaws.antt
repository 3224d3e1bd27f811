-- Laws of the marks: one row after the other marks every parameter.
use Rattle.std.specs.Prelude.{◌≡◌, Bool, ◌&&◌, ◌||◌, List, ltb, ℤ, length, get_or, set}
use Rattle.std.proofs.Math.Path.{refl, sym, ap}
use Rattle.std.proofs.Common.{◌∙◌, true≢false, length-set, get_or-set_same, get_or-set_other}
use Rattle.std.proofs.Math.Bool.{true, false}
use Prim.Native.Nat.{ℕ, zero, suc, ◌+◌, ◌≤◌, ◌<◌, min}
use native.Mathlib.Omega.{arith}
use Rattle.std.proofs.Math.Numerals.{add-one}
use Rattle.std.proofs.Math.Decide.{dec_lt, ℕ_discrete}
use Rattle.std.proofs.Math.Dec.{eqb}
use borrow.Author.Tests.{eqb-true, eq-eqb, ne_eqb, lt-ltb, le-ltb, ltb-true}
use Rattle.words.specs.Word.{pick, one}
use Rattle.words.specs.Table.{row_count, number_at}
use Rattle.words.specs.Laws.{by_cases, both}
use Rattle.words.specs.Search.{some}
use Rattle.words.specs.Declarations.{is_declaration}
use Rattle.words_roles.specs.Roles.{is_definition, links_parameter, is_parameter_by, is_parameter}
use Rattle.words_roles.proofs.RoleLaws.{enough-links, parameter-declaration}
use Rattle.words_roles.specs.Passes.{parameter_link, marked_link, made_by, Marking, Parameters, Blank}

-- ---- searches

-- one number more at the end
some_more : (p : ℕ → Bool) (count from : ℕ) → some p from (suc count) ≡ (some p from count || p (from + count))
unfolding some
some_more p zero from = let z : from + 0 ≡ from = omega arith in rw z (last (p from))
  where
    last : (b : Bool) → pick b true false ≡ (false || b)
    last true = refl
    last false = refl
some_more p (suc count) from =
    let on : from + 1 + count ≡ from + suc count = omega arith in
    ap (λ (rest : Bool). pick (p from) true rest) (some_more p count (from + 1)) ∙ rw on (apart (p from) (some p (from + 1) count) (p (from + suc count)))
  where
    apart : (a b c : Bool) → pick a true (b || c) ≡ (pick a true b || c)
    apart true b c = refl
    apart false b c = refl

some_same : (p q : ℕ → Bool) (count from : ℕ) → ((i : ℕ) → i < from + count → p i ≡ q i) → some p from count ≡ some q from count
unfolding some
some_same p q zero from h = refl
some_same p q (suc count) from h = rw (h from (omega arith), some_same p q count (from + 1) (λ i k. h i (omega arith)))

told : (b : Bool) → eqb (one b) 1 ≡ b
told true = refl
told false = refl

-- ---- which row a row makes a parameter

module _ (rows : List ℤ) where
  -- a definition is of another kind than a parameter
  no-parameter : (row : ℕ) → is_definition rows row ≡ true → is_parameter rows row ≡ false
  unfolding is_definition is_declaration
  no-parameter row d =
      by_cases (is_parameter rows row)
      (λ p. absurd (let a = eqb-true (number_at rows row 0) 59 d in let b = eqb-true (number_at rows row 0) 58 (parameter-declaration rows row p) in omega arith))
      (λ p. p)

  links-one : (owner row : ℕ) → 0 < row → links_parameter (is_parameter rows owner) rows owner row ≡ eqb (parameter_link (is_parameter rows owner) rows owner) row
  unfolding links_parameter parameter_link
  links-one owner row h = go (is_definition rows owner) (is_parameter rows owner) (no-parameter owner)
    where
      go : (definition parameter : Bool) → (definition ≡ true → parameter ≡ false)
          → ((eqb (number_at rows owner 2) row && definition) || (eqb (number_at rows owner 5) row && parameter)) ≡ eqb (pick definition (number_at rows owner 2) (pick parameter (number_at rows owner 5) 0)) row
      go true true other = absurd (true≢false (other refl))
      go true false other = first (eqb (number_at rows owner 2) row) (eqb (number_at rows owner 5) row)
        where
          first : (a b : Bool) → ((a && true) || (b && false)) ≡ a
          first true b = refl
          first false true = refl
          first false false = refl
      go false true other = second (eqb (number_at rows owner 2) row) (eqb (number_at rows owner 5) row)
        where
          second : (a b : Bool) → ((a && false) || (b && true)) ≡ b
          second true true = refl
          second true false = refl
          second false true = refl
          second false false = refl
      go false false other = neither (eqb (number_at rows owner 2) row) (eqb (number_at rows owner 5) row) ∙ sym (ne_eqb 0 row (λ q. omega arith))
        where
          neither : (a b : Bool) → ((a && false) || (b && false)) ≡ false
          neither true true = refl
          neither true false = refl
          neither false true = refl
          neither false false = refl

  made_none : (row : ℕ) → made_by rows 0 row ≡ false
  unfolding made_by some
  made_none row = let z : min 0 row ≡ 0 = omega arith in rw z (none (is_declaration rows row))
    where
      none : (b : Bool) → (b && false) ≡ false
      none true = refl
      none false = refl

  -- a row is a parameter where some row before it makes it one
  pub parameter-made : (row : ℕ) → made_by rows row row ≡ is_parameter rows row
  unfolding made_by is_parameter is_parameter_by
  parameter-made zero = made_none 0
  parameter-made (suc row) =
      let whole : min (suc row) (suc row) ≡ suc row = omega arith in
      rw whole
      (ap (λ (found : Bool). is_declaration rows (suc row) && found)
      (some_same (λ (owner : ℕ). links_parameter (is_parameter rows owner) rows owner (suc row)) (λ (owner : ℕ). links_parameter (is_parameter_by row rows owner) rows owner (suc row)) (suc row) 0
      (λ owner h. ap (λ (parameter : Bool). links_parameter parameter rows owner (suc row)) (sym (enough-links rows row owner (omega arith))))))

  -- the turns of the row itself and of later ones do not matter
  made-early : (turns row : ℕ) → row ≤ turns → made_by rows turns row ≡ made_by rows row row
  unfolding made_by
  made-early turns row h = let a : min turns row ≡ min row row = omega arith in rw a

  -- one turn more, for a later row
  made-on : (turn row : ℕ) → turn < row → made_by rows (turn + 1) row ≡ (made_by rows turn row || (is_declaration rows row && eqb (parameter_link (is_parameter rows turn) rows turn) row))
  unfolding made_by
  made-on turn row h =
      let more : min (turn + 1) row ≡ suc turn = omega (arith, add-one turn) in
      let same : min turn row ≡ turn = omega arith in
      rw (more, same, some_more (λ (owner : ℕ). links_parameter (is_parameter rows owner) rows owner row) turn 0)
      (let z : 0 + turn ≡ turn = omega arith in rw (z, links-one turn row (omega arith)) (over (is_declaration rows row) _ _))
    where
      over : (a b c : Bool) → (a && (b || c)) ≡ ((a && b) || (a && c))
      over true b c = refl
      over false b c = refl

  -- ---- the pass

  pub marking-begun : {marks : List ℕ} → Blank rows marks → Marking rows 0 marks
  marking-begun b = record { room = b.room; is = λ row n. b.none row n ∙ sym (ap one (made_none row)) }

  -- a row's own mark, at its turn
  own-mark : {turn : ℕ} {marks : List ℕ} → Marking rows turn marks → turn < row_count rows → eqb (get_or marks turn 0) 1 ≡ is_parameter rows turn
  own-mark {turn} m n = ap (λ (mark : ℕ). eqb mark 1) (m.is turn n ∙ ap one (parameter-made turn)) ∙ told (is_parameter rows turn)

  module _ {turn linked : ℕ} {marks : List ℕ} (is : parameter_link (is_parameter rows turn) rows turn ≡ linked) (m : Marking rows turn marks) where
    made-later : (row : ℕ) → turn < row → made_by rows (turn + 1) row ≡ (made_by rows turn row || (is_declaration rows row && eqb linked row))
    made-later row l = rw (← is) (made-on turn row l)

    -- the mark of another row than the linked one stays
    mark-other : (row : ℕ) → row < row_count rows → (row ≡ linked → ⊥) → get_or marks row 0 ≡ one (made_by rows (turn + 1) row)
    mark-other row k q = m.is row k ∙ ap one (go (dec_lt turn row))
      where
        none : (a b : Bool) → (a || (b && false)) ≡ a
        none true b = refl
        none false true = refl
        none false false = refl

        go : Dec (turn < row) → made_by rows turn row ≡ made_by rows (turn + 1) row
        go (yes l) =
            let same : made_by rows (turn + 1) row ≡ made_by rows turn row = made-later row l ∙ rw (ne_eqb linked row (λ e. q (sym e))) (none (made_by rows turn row) (is_declaration rows row)) in
            sym same
        go (no l) = made-early turn row (omega (arith, l)) ∙ sym (made-early (turn + 1) row (omega (arith, l)))

    mark-hit : turn < linked → linked < row_count rows → is_declaration rows linked ≡ true → Marking rows (turn + 1) (set marks linked 1)
    mark-hit l i d = record { room = rw (length-set marks linked 1) m.room; is = λ row k. at row k (ℕ_discrete row linked) }
      where
        always : (a : Bool) → (a || true) ≡ true
        always true = refl
        always false = refl

        at : (row : ℕ) → row < row_count rows → Dec (row ≡ linked) → get_or (set marks linked 1) row 0 ≡ one (made_by rows (turn + 1) row)
        at row k (yes q) =
            let room = m.room in
            let made : made_by rows (turn + 1) linked ≡ true = made-later linked l ∙ rw (d, eq-eqb linked linked refl) (always (made_by rows turn linked)) in
            rw (q, made) (get_or-set_same marks linked 1 0 (omega arith))
        at row k (no q) = get_or-set_other marks linked row 1 0 q ∙ mark-other row k q

    mark-miss : (ltb turn linked && (ltb linked (row_count rows) && is_declaration rows linked)) ≡ false → Marking rows (turn + 1) marks
    mark-miss e = record { room = m.room; is = λ row k. at row k (ℕ_discrete row linked) (dec_lt turn row) }
      where
        none : (a : Bool) → (a || false) ≡ a
        none true = refl
        none false = refl

        at : (row : ℕ) → row < row_count rows → Dec (row ≡ linked) → Dec (turn < row) → get_or marks row 0 ≡ one (made_by rows (turn + 1) row)
        at row k (no q) l = mark-other row k q
        at row k (yes q) (no l) = m.is row k ∙ ap one (made-early turn row (omega (arith, l)) ∙ sym (made-early (turn + 1) row (omega (arith, l))))
        at row k (yes q) (yes l) =
            let d : is_declaration rows row ≡ false = rw (← q, lt-ltb turn row l, lt-ltb row (row_count rows) k) at e in
            let same : made_by rows (turn + 1) row ≡ made_by rows turn row = made-later row l ∙ rw d (none (made_by rows turn row)) in
            m.is row k ∙ ap one (sym same)

    turned : Marking rows (turn + 1) (marked_link rows turn linked marks)
    unfolding marked_link
    turned =
        by_cases (ltb turn linked && (ltb linked (row_count rows) && is_declaration rows linked))
        (λ e. let later = both (ltb turn linked) _ e in let inside = both (ltb linked (row_count rows)) _ later.1 in
        rw e (mark-hit (ltb-true _ _ later.0) (ltb-true _ _ inside.0) inside.1))
        (λ e. rw e (mark-miss e))

  -- a row's turn, with its own mark
  pub marking-on : {turn linked : ℕ} {marks next : List ℕ} → turn < row_count rows → Marking rows turn marks → linked ≡ parameter_link (eqb (get_or marks turn 0) 1) rows turn → next ≡ marked_link rows turn linked marks → Marking rows (turn + 1) next
  marking-on {turn} n m is e = rw e (turned (rw (← own-mark m n) (sym is)) m)

  pub marking-ended : {turns : ℕ} {marks : List ℕ} → row_count rows ≤ turns → Marking rows turns marks → Parameters rows marks
  marking-ended {turns} h m = record { room = m.room; is = λ row n. m.is row n ∙ ap one (made-early turns row (omega arith) ∙ parameter-made row) }

-- what the marks say of a row
pub marks-tell : (rows : List ℤ) (marks : List ℕ) (row : ℕ) → Parameters rows marks → row < row_count rows → is_parameter rows row ≡ eqb (get_or marks row 0) 1
marks-tell rows marks row p n = sym (ap (λ (mark : ℕ). eqb mark 1) (p.is row n) ∙ told (is_parameter rows row))

pub marked-length : (rows : List ℤ) (row linked : ℕ) (marks : List ℕ) → length (marked_link rows row linked marks) ≡ length marks
unfolding marked_link
marked-length rows row linked marks = go (ltb row linked && (ltb linked (row_count rows) && is_declaration rows linked))
  where
    go : (b : Bool) → length (pick b (set marks linked 1) marks) ≡ length marks
    go true = length-set marks linked 1
    go false = refl
