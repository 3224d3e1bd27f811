-- Emitted rows are linked exactly once, row 0 apart. The links of a part's rows, and that to its first row, lead to each row of the part
-- once and to no other: a count that adds up along the tree.
use Rattle.std.specs.Prelude.{◌≡◌, refl, false, List, [], ltb, eqb, ℤ, length}
use Rattle.std.proofs.Common.{◌∙◌, lt-ltb, le-ltb, eq-eqb, ne_eqb}
use Prim.Native.Nat.{ℕ, suc, ◌+◌, ◌*◌, ◌/◌, ◌%◌, ◌<◌}
use native.Mathlib.Omega.{arith}
use Rattle.std.proofs.Math.Decide.{ℕ_discrete, dec_lt}
use Rattle.std.proofs.Math.Arith.{lt_of_le-ne}
use Rattle.words.specs.Word.{one}
use Rattle.words.specs.Table.{row_count}
use Rattle.language.specs.Trees.{Expression, Place, Arguments, Statement, Items}
use Rattle.language.specs.Sizes.{expression_rows, place_rows, arguments_rows, statement_rows, items_rows}
use Rattle.words.specs.Kinds.{sort_of, is_link, kind_of, kind_in, kinds, sort_in, kind_row, expression_fields, statement_fields, mark_fields, definition_fields, member_fields}
use Rattle.words.specs.Links.{link, target}
use Rattle.check_structure.specs.Links.{links_among, link_count}
use Rattle.language_emission.specs.Emission.{arguments_link, list_link, parameters_link}
use Rattle.language_emission.specs.Emitted.{Row, EmittedExpression, constant-at, read_at, minus-at, binary-at, assign-at, call_at, EmittedPlace, variable-at, element-at, EmittedArguments, no-more-at, argument-at, EmittedParameters, no_parameter_at, parameter-at, EmittedStatement, empty-at, express-at, block_at, if-at, while-at, goto-at, abort-at, return-at, EmittedItems, none-at, then_at, label_at, define-at}
use Rattle.translation_legal.specs.Suits.{link_by, row-link}
use Rattle.translation_legal.proofs.EmittedRows.{sort-binary}

-- 1 where a link leads to row j.
abbrev hit : ℕ → ℕ → ℕ
hit l j = one (eqb l j)

-- 1 where row j stands before row c.
abbrev below : ℕ → ℕ → ℕ
below c j = one (ltb j c)

-- One row further.
step : (c j : ℕ) → hit c j + below c j ≡ below (c + 1) j
step c j = go (ℕ_discrete c j) (dec_lt j c)
  where
    go : Dec (c ≡ j) → Dec (j < c) → hit c j + below c j ≡ below (c + 1) j
    go (yes q) (yes r) = absurd (omega arith)
    go (yes q) (no r) = rw (eq-eqb c j q, le-ltb j c (omega arith), lt-ltb j (c + 1) (omega arith))
    go (no q) (yes r) = rw (ne_eqb c j q, lt-ltb j c r, lt-ltb j (c + 1) (omega arith))
    go (no q) (no r) = let k : c < j = lt_of_le-ne (omega arith) q in rw (ne_eqb c j q, le-ltb j c (omega arith), le-ltb j (c + 1) (omega arith))

module _ (rows : List ℤ) where
  target-of : (row field word : ℕ) → field < 6 → word ≡ 6 * row + field → target rows word ≡ link rows row field
  unfolding target
  target-of row field word h e =
      let quotient : word / 6 ≡ row = omega arith in
      let remainder : word % 6 ≡ field = omega arith in
      rw (quotient, remainder)

  module _ (j : ℕ) (positive : 0 < j) where
    -- How many links of the rows before `row` lead to row j.
    before : ℕ → ℕ
    before row = links_among rows (6 * row) j

    -- No link leads to row 0.
    miss : hit 0 j ≡ 0
    miss = rw (ne_eqb 0 j (λ e. omega arith))

    before-next : (row : ℕ)
        → before (row + 1) ≡ before row + hit (link rows row 0) j + hit (link rows row 1) j + hit (link rows row 2) j + hit (link rows row 3) j + hit (link rows row 4) j + hit (link rows row 5) j
    unfolding before links_among
    before-next row =
        let six : 6 * (row + 1) ≡ suc (suc (suc (suc (suc (suc (6 * row)))))) = omega arith in
        rw (
          six,
          target-of row 0 (6 * row) (omega arith) (omega arith),
          target-of row 1 (suc (6 * row)) (omega arith) (omega arith),
          target-of row 2 (suc (suc (6 * row))) (omega arith) (omega arith),
          target-of row 3 (suc (suc (suc (6 * row)))) (omega arith) (omega arith),
          target-of row 4 (suc (suc (suc (suc (6 * row))))) (omega arith) (omega arith),
          target-of row 5 (suc (suc (suc (suc (suc (6 * row)))))) (omega arith) (omega arith),
        )

    -- The links of a row, by its kind and its numbers.
    row-links : {row kind a b c d next : ℕ} → Row rows row kind a b c d next
        → before (row + 1) ≡ before row + hit (link_by kind 0 kind) j + hit (link_by kind 1 a) j + hit (link_by kind 2 b) j + hit (link_by kind 3 c) j + hit (link_by kind 4 d) j + hit (link_by kind 5 next) j
    row-links {row} {kind} {a} {b} {c} {d} {next} r =
        before-next row
        ∙ rw (row-link r 0 kind r.kind_is, row-link r 1 a r.a_is, row-link r 2 b r.b_is, row-link r 3 c r.c_is, row-link r 4 d r.d_is, row-link r 5 next r.next_is)

    mutual
      unfolding before sort_of kind_of kind_in kinds sort_in kind_row expression_fields statement_fields mark_fields definition_fields member_fields is_link expression_rows

      once-expression : {e : Expression} {base : ℕ} (end : ℕ) → base + expression_rows e ≡ end → EmittedExpression rows e base → before end + below (base + 1) j ≡ before base + below end j
      once-expression end q (constant-at {v} {base} r w) = let z : end ≡ base + 1 = omega arith in rw z (omega (arith, row-links r, miss))
      once-expression end q (read_at m) = once-place end q m
      once-expression end q (minus-at {e} {base} r m) = omega (arith, row-links r, miss, step (base + 1) j, once-expression end (omega arith) m)
      once-expression end q (binary-at {o} {a} {b} {base} r m n) =
          let sort = sort-binary o in
          let links = rw (sort 0, sort 1, sort 2, sort 3, sort 4, sort 5) at (row-links r) in
          let middle = base + 1 + expression_rows a in
          omega (arith, links, miss, step (base + 1) j, once-expression middle refl m, step middle j, once-expression end (omega arith) n)
      once-expression end q (assign-at {p} {e} {base} r m n) =
          let middle = base + 1 + place_rows p in
          omega (arith, row-links r, miss, step (base + 1) j, once-place middle refl m, step middle j, once-expression end (omega arith) n)
      once-expression end q (call_at {f} {arguments} {base} r m) = omega (arith, row-links r, miss, once-arguments end (omega arith) m)

      once-place : {p : Place} {base : ℕ} (end : ℕ) → base + place_rows p ≡ end → EmittedPlace rows p base → before end + below (base + 1) j ≡ before base + below end j
      once-place end q (variable-at {i} {base} r) = let z : end ≡ base + 1 = omega arith in rw z (omega (arith, row-links r, miss))
      once-place end q (element-at {array} {e} {base} r m) = omega (arith, row-links r, miss, step (base + 1) j, once-expression end (omega arith) m)

      once-arguments : {arguments : Arguments} {base : ℕ} (end : ℕ) → base + arguments_rows arguments ≡ end → EmittedArguments rows arguments base
          → before end + hit (arguments_link arguments base) j + below base j ≡ before base + below end j
      once-arguments end q (no-more-at {base}) = let z : end ≡ base = omega arith in rw z (omega (arith, miss))
      once-arguments end q (argument-at {e} {arguments} {base} r m n) =
          let middle = base + 1 + expression_rows e in
          omega (arith, step base j, row-links r, miss, step (base + 1) j, once-expression middle refl m, once-arguments end (omega arith) n)

    once-parameters : {words : List ℕ} {base : ℕ} (end : ℕ) → base + length words ≡ end → EmittedParameters rows words base → before end + hit (parameters_link words base) j + below base j ≡ before base + below end j
    unfolding before sort_of kind_of kind_in kinds sort_in kind_row expression_fields statement_fields mark_fields definition_fields member_fields is_link
    once-parameters end q (no_parameter_at {base}) = let z : end ≡ base = omega arith in rw z (omega (arith, miss))
    once-parameters end q (parameter-at {word} {words} {base} r n) = omega (arith, step base j, row-links r, miss, once-parameters end (omega arith) n)

    mutual
      unfolding before sort_of kind_of kind_in kinds sort_in kind_row expression_fields statement_fields mark_fields definition_fields member_fields is_link statement_rows

      once-statement : {s : Statement} {base next : ℕ} (end : ℕ) → base + statement_rows s ≡ end → EmittedStatement rows s base next
          → before end + below (base + 1) j ≡ before base + below end j + hit next j
      once-statement end q (empty-at {base} r) = let z : end ≡ base + 1 = omega arith in rw z (omega (arith, row-links r, miss))
      once-statement end q (express-at {e} {base} r m) = omega (arith, row-links r, miss, step (base + 1) j, once-expression end (omega arith) m)
      once-statement end q (block_at {is} {base} r m) = omega (arith, row-links r, miss, once-items end (omega arith) m)
      once-statement end q (if-at {e} {on_true} {on_false} {base} r m n o) =
          let second = base + 1 + expression_rows e in
          let third = base + 1 + expression_rows e + statement_rows on_true in
          omega (
            arith,
            row-links r,
            miss,
            step (base + 1) j,
            once-expression second refl m,
            step second j,
            once-statement third refl n,
            step third j,
            once-statement end (omega arith) o,
          )
      once-statement end q (while-at {e} {body} {base} r m n) =
          let second = base + 1 + expression_rows e in
          omega (arith, row-links r, miss, step (base + 1) j, once-expression second refl m, step second j, once-statement end (omega arith) n)
      once-statement end q (goto-at {l} {base} r) = let z : end ≡ base + 1 = omega arith in rw z (omega (arith, row-links r, miss))
      once-statement end q (abort-at {base} r) = let z : end ≡ base + 1 = omega arith in rw z (omega (arith, row-links r, miss))
      once-statement end q (return-at {e} {base} r m) = omega (arith, row-links r, miss, step (base + 1) j, once-expression end (omega arith) m)

      once-items : {is : Items} {base : ℕ} (end : ℕ) → base + items_rows is ≡ end → EmittedItems rows is base → before end + hit (list_link false is base) j + below base j ≡ before base + below end j
      once-items end q (none-at {base}) = let z : end ≡ base = omega arith in rw z (omega (arith, miss))
      once-items end q (then_at {s} {is} {base} m n) =
          let middle = base + statement_rows s in
          omega (arith, step base j, once-statement middle refl m, once-items end (omega arith) n)
      once-items end q (label_at {l} {is} {base} r n) = omega (arith, step base j, row-links r, miss, once-items end (omega arith) n)
      once-items end q (define-at {f} {words} {body} {is} {base} r p m n) =
          let own = base + 1 + length words in
          let behind = own + 1 + items_rows body in
          omega (arith, step base j, row-links r, miss, once-parameters own refl p, step own j, once-statement behind (omega arith) m, once-items end (omega arith) n)

    -- In a table that one statement fills, each row but row 0 is linked once.
    pub linked-once : {s : Statement} → row_count rows ≡ statement_rows s → EmittedStatement rows s 0 0 → j < row_count rows → link_count rows j ≡ 1
    unfolding before link_count links_among
    linked-once {s} size m h =
        let all = once-statement (row_count rows) (omega arith) m in
        let first : below 1 j ≡ 0 = rw (le-ltb j 1 (omega arith)) in
        let last : below (row_count rows) j ≡ 1 = rw (lt-ltb j (row_count rows) h) in
        omega (arith, all, first, last, miss)
