-- Each emitted goto has its label ahead. By induction over the emitted tree; the labels ahead of a statement are those behind it in its list, and those
-- ahead of the list's owner.
use Rattle.std.proofs.Math.Path.{◌≡◌, refl, sym}
use Rattle.std.proofs.Common.{subst, ◌∙◌, true≢false, inl, inr, ⊎_elim, arith}
use Rattle.std.specs.Prelude.{Bool, ◌||◌, List, ◌⊎◌, ℕ, ◌+◌, ◌<◌, ℤ}
use Rattle.std.proofs.Math.Bool.{true, false}
use Rattle.std.proofs.lemmas.Bool.{false≢true}
use Rattle.std.proofs.Math.Dec.{eqb}
use borrow.Author.Tests.{eqb-true}
use Rattle.words.specs.Table.{row_count, number_at}
use Rattle.std.proofs.Math.ListN.{length}
use Rattle.language.specs.Trees.{Expression, Place, Arguments, Mark, label, same_mark, has, Statement, block, Items, none, ◌then◌, ◌here◌, define, ◌⧺◌}
use Rattle.language.specs.Sizes.{expression_rows, place_rows, arguments_rows, statement_rows, items_rows}
use Rattle.language.specs.TreeLaws.{statement-some}
use Rattle.translation.specs.KernelForm.{KernelStatement, kernel-block, kernel-if, kernel-while, kernel-goto, KernelItems, kernel-then, kernel-label, KernelProgram, kernel_main, kernel_define}
use Rattle.words.specs.Kinds.{sort_of, sort_at, is_link, kind_of, kind_in, kinds, sort_in, kind_row, expression_fields, statement_fields, mark_fields, definition_fields, member_fields}
use Rattle.words.specs.Links.{is_statement, link}
use Rattle.check_structure.specs.Structured.{Leads}
use Rattle.check_structure.specs.Lists.{Before, adjacent, further}
use Rattle.words_roles.specs.Roles.{is_definition}
use Rattle.check_labels.specs.Ahead.{Owner, part, beside, Ahead, behind, outward}
use Rattle.language_emission.specs.Emission.{list_link}
use Rattle.language_emission.specs.Emitted.{Row, EmittedExpression, constant-at, read_at, minus-at, binary-at, assign-at, call_at, EmittedPlace, variable-at, element-at, EmittedArguments, no-more-at, argument-at, EmittedParameters, no_parameter_at, parameter-at, EmittedStatement, empty-at, express-at, block_at, if-at, while-at, goto-at, abort-at, return-at, EmittedItems, none-at, then_at, label_at, define-at}
use Rattle.language_emission.proofs.ReadBack.{link-forward}
use Rattle.translation_legal.specs.Ranges.{Each, none_of, join, first-and}
use Rattle.translation_legal.specs.Suits.{row-link}
use Rattle.translation_legal.proofs.EmittedRows.{sort-binary, row-sort, not-kind, first-statement}

-- ---- the rows of an expression are no statements

module _ {rows : List ℤ} where
  mutual
    unfolding is_statement sort_of kind_of kind_in kinds sort_in kind_row expression_fields statement_fields mark_fields definition_fields member_fields expression_rows

    pub plain-expression : {e : Expression} {base : ℕ} (end : ℕ) → base + expression_rows e ≡ end → EmittedExpression rows e base → Each (λ row. is_statement rows row ≡ false) base end
    plain-expression end q (constant-at {v} {base} r w) = first-and _ base end (rw (row-sort r)) (none_of _ (base + 1) end (omega arith))
    plain-expression end q (read_at m) = plain-place end q m
    plain-expression end q (minus-at {e} {base} r m) = first-and _ base end (rw (row-sort r)) (plain-expression end (omega arith) m)
    plain-expression end q (binary-at {o} {a} {b} {base} r m n) =
        first-and _ base end (rw (row-sort r, sort-binary o 0)) (join _ (base + 1) (base + 1 + expression_rows a) end (plain-expression _ refl m) (plain-expression end (omega arith) n))
    plain-expression end q (assign-at {p} {e} {base} r m n) =
        first-and _ base end (rw (row-sort r)) (join _ (base + 1) (base + 1 + place_rows p) end (plain-place _ refl m) (plain-expression end (omega arith) n))
    plain-expression end q (call_at {f} {arguments} {base} r m) = first-and _ base end (rw (row-sort r)) (plain-arguments end (omega arith) m)

    plain-place : {p : Place} {base : ℕ} (end : ℕ) → base + place_rows p ≡ end → EmittedPlace rows p base → Each (λ row. is_statement rows row ≡ false) base end
    plain-place end q (variable-at {i} {base} r) = first-and _ base end (rw (row-sort r)) (none_of _ (base + 1) end (omega arith))
    plain-place end q (element-at {array} {e} {base} r m) = first-and _ base end (rw (row-sort r)) (plain-expression end (omega arith) m)

    plain-arguments : {arguments : Arguments} {base : ℕ} (end : ℕ) → base + arguments_rows arguments ≡ end → EmittedArguments rows arguments base → Each (λ row. is_statement rows row ≡ false) base end
    plain-arguments end q (no-more-at {base}) = none_of _ base end (omega arith)
    plain-arguments end q (argument-at {e} {arguments} {base} r m n) =
        first-and _ base end (rw (row-sort r)) (join _ (base + 1) (base + 1 + expression_rows e) end (plain-expression _ refl m) (plain-arguments end (omega arith) n))

-- ---- links between items

module _ {rows : List ℤ} where
  -- The next field of an item links the row behind it.
  pub statement-next : {s : Statement} {base next : ℕ} → EmittedStatement rows s base next → link rows base 5 ≡ next
  unfolding sort_of kind_of kind_in kinds sort_in kind_row expression_fields statement_fields mark_fields definition_fields member_fields is_link
  statement-next (empty-at {base} {next} r) = row-link r 5 next r.next_is
  statement-next (express-at {base} {next} r m) = row-link r 5 next r.next_is
  statement-next (block_at {base} {next} r m) = row-link r 5 next r.next_is
  statement-next (if-at {base} {next} r m n o) = row-link r 5 next r.next_is
  statement-next (while-at {base} {next} r m n) = row-link r 5 next r.next_is
  statement-next (goto-at {base} {next} r) = row-link r 5 next r.next_is
  statement-next (abort-at {base} {next} r) = row-link r 5 next r.next_is
  statement-next (return-at {base} {next} r m) = row-link r 5 next r.next_is

  pub label-next : {row l next : ℕ} → Row rows row 53 l 0 0 0 next → link rows row 5 ≡ next
  unfolding sort_of kind_of kind_in kinds sort_in kind_row expression_fields statement_fields mark_fields definition_fields member_fields is_link
  label-next {row} {l} {next} r = row-link r 5 next r.next_is

  pub definition-next : {row f b c next : ℕ} → Row rows row 59 f b c 0 next → link rows row 5 ≡ next
  unfolding sort_of kind_of kind_in kinds sort_in kind_row expression_fields statement_fields mark_fields definition_fields member_fields is_link
  definition-next {row} {f} {b} {c} {next} r = row-link r 5 next r.next_is

  -- The link to a list leads into the table.
  pub list_inside : {is : Items} {base : ℕ} → EmittedItems rows is base → 0 < list_link false is base → list_link false is base < row_count rows
  list_inside none-at h = absurd (omega arith)
  list_inside (then_at m n) h = (first-statement m).0.inside
  list_inside (label_at r n) h = r.inside
  list_inside (define-at r p m n) h = r.inside

pub leads-to : {rows : List ℤ} (row field n : ℕ) → link rows row field ≡ n → row < n → n < row_count rows → Leads rows row field
leads-to row field n e h k = record { later = omega arith; inside = omega arith }

-- ---- labels of a list

has_either : (m : Mark) (xs ys : Items) → has m (xs ⧺ ys) ≡ true → (has m xs ≡ true) ⊎ (has m ys ≡ true)
unfolding has ◌⧺◌
has_either m none ys e = inr e
has_either m (s then xs) ys e = has_either m xs ys e
has_either m (define f words body xs) ys e = has_either m xs ys e
has_either m (n here xs) ys e = go (same_mark m n) (has_either m xs ys) e
  where
    go : (b : Bool) → (has m (xs ⧺ ys) ≡ true → (has m xs ≡ true) ⊎ (has m ys ≡ true)) → (b || has m (xs ⧺ ys)) ≡ true → ((b || has m xs) ≡ true) ⊎ (has m ys ≡ true)
    go true rest e = inl refl
    go false rest e = rest e

-- A list that has a mark begins where it should.
has_some : (m : Mark) (is : Items) (base : ℕ) → has m is ≡ true → list_link false is base ≡ base
unfolding has
has_some m none base e = absurd (let z : ◌≡◌ {A = ℕ} 0 1 = cc in omega arith)
has_some m (s then is) base e = refl
has_some m (n here is) base e = refl
has_some m (define f words body is) base e = refl

module _ {rows : List ℤ} (l : ℕ) where
  -- The item behind an item of a list, where the items behind have the label.
  next-item : {start row m : ℕ} {is : Items} → Before rows start row → link rows row 5 ≡ list_link false is m → row < m → EmittedItems rows is m → has (label l) is ≡ true → Before rows start m
  next-item {start} {row} {m} {is} before e h n some =
      let same : link rows row 5 ≡ m = e ∙ has_some (label l) is m some in
      let first : list_link false is m ≡ m = has_some (label l) is m some in
      let inside = list_inside n (omega arith) in
      subst (Before rows start) same (further before (leads-to row 5 m same h (omega arith)))

  -- A label among the items from an item on is ahead of the items before.
  ahead-in-list : {is : Items} {base : ℕ} (start : ℕ) → Before rows start base → EmittedItems rows is base → has (label l) is ≡ true → Ahead rows l start
  unfolding has same_mark
  ahead-in-list start before none-at e = absurd (let z : ◌≡◌ {A = ℕ} 0 1 = cc in omega arith)
  ahead-in-list start before (then_at {s} {is} {base} m n) e =
      let some = statement-some s in
      ahead-in-list start (next-item before (statement-next m) (omega arith) n e) n e
  ahead-in-list start before (define-at {f} {words} {body} {is} {base} r p m n) e = ahead-in-list start (next-item before (definition-next r) (omega arith) n e) n e
  ahead-in-list start before (label_at {l = k} {is} {base} r n) e =
      go (eqb l k) refl (λ some. ahead-in-list start (next-item before (label-next r) (omega arith) n some) n some) e
    where
      go : (b : Bool) → eqb l k ≡ b → (has (label l) is ≡ true → Ahead rows l start) → (b || has (label l) is) ≡ true → Ahead rows l start
      go true q rest e = let same = eqb-true l k q in behind before (record { label = r.kind_is; number_is = r.a_is ∙ sym same })
      go false q rest e = rest e

  -- The items behind an item.
  ahead-behind : {is : Items} {m : ℕ} (row : ℕ) → link rows row 5 ≡ list_link false is m → row < m → EmittedItems rows is m → has (label l) is ≡ true → Ahead rows l row
  ahead-behind {is} {m} row e h n some =
      let same : link rows row 5 ≡ m = e ∙ has_some (label l) is m some in
      let first : list_link false is m ≡ m = has_some (label l) is m some in
      let inside = list_inside n (omega arith) in
      ahead-in-list row (subst (Before rows row) same (adjacent (leads-to row 5 m same h (omega arith)))) n some

-- ---- the induction

-- "A goto's label is a later item of a list that encloses it", and "a goto stays inside its function".
abbrev pub GotoAhead : List ℤ → ℕ → Type 0
GotoAhead rows row = number_at rows row 0 ≡ 52 → Ahead rows (number_at rows row 1) row

module _ (rows : List ℤ) where
  abbrev Aheads : ℕ → ℕ → Type 0
  Aheads low high = Each (GotoAhead rows) low high

  -- A goto is a statement.
  goto-statement : (row : ℕ) → number_at rows row 0 ≡ 52 → is_statement rows row ≡ true
  unfolding is_statement sort_at sort_of kind_of kind_in kinds sort_in kind_row expression_fields statement_fields mark_fields definition_fields member_fields
  goto-statement row e = rw e

  ahead-expression : {e : Expression} {base : ℕ} (end : ℕ) → base + expression_rows e ≡ end → EmittedExpression rows e base → Aheads base end
  ahead-expression end q m row l h e = absurd (true≢false (sym (goto-statement row e) ∙ plain-expression end q m row l h))

  -- The labels ahead of a row.
  abbrev LabelsAhead : Items → ℕ → Type 0
  LabelsAhead items row = (l : ℕ) → has (label l) items ≡ true → Ahead rows l row

  no-labels : (row : ℕ) → LabelsAhead none row
  unfolding has
  no-labels row l e = absurd (false≢true e)

  no-goto : {row kind a b c d next : ℕ} → Row rows row kind a b c d next → (kind ≡ 52 → ⊥) → GotoAhead rows row
  no-goto r h e = absurd (h (sym r.kind_is ∙ e))

  not-definition : {row kind a b c d next : ℕ} → Row rows row kind a b c d next → (kind ≡ 59 → ⊥) → is_definition rows row ≡ false
  unfolding is_definition
  not-definition r h = not-kind r 59 h

  owner_of : (row field n : ℕ) → field < 5 → link rows row field ≡ n → row < n → n < row_count rows → Owner rows row n
  owner_of row field n f e h k = subst (Owner rows row) e (part f (leads-to row field n e h k))

  -- The item behind an item has its owner.
  own-next : (owner row : ℕ) (is : Items) (m : ℕ) → Owner rows owner row → link rows row 5 ≡ list_link false is m → row < m → EmittedItems rows is m → 0 < list_link false is m → Owner rows owner (list_link false is m)
  own-next owner row is m own e h n some =
      subst (Owner rows owner) e (beside own (leads-to row 5 (list_link false is m) e (link-forward is row m h some) (list_inside n some)))

  mutual
    unfolding statement_rows sort_of kind_of kind_in kinds sort_in kind_row expression_fields statement_fields mark_fields definition_fields member_fields is_link

    ahead-statement : {mayReturn : Bool} {ahead : Items} {s : Statement} {base next : ℕ} (end : ℕ) → base + statement_rows s ≡ end → EmittedStatement rows s base next → KernelStatement mayReturn ahead s
        → LabelsAhead ahead base → Aheads base end
    ahead-statement end q (empty-at {base} r) f labels = first-and _ base end (no-goto r (λ k. omega arith)) (none_of _ (base + 1) end (omega arith))
    ahead-statement end q (express-at {e} {base} r m) f labels = first-and _ base end (no-goto r (λ k. omega arith)) (ahead-expression end (omega arith) m)
    ahead-statement end q (block_at {is} {base} r m) (kernel-block f) labels =
        first-and _ base end (no-goto r (λ k. omega arith))
        (ahead-items base end (omega arith) m f (omega arith) (not-definition r (λ k. omega arith))
        (λ h. owner_of base 1 (list_link false is (base + 1)) (omega arith) (row-link r 1 (list_link false is (base + 1)) r.a_is) (link-forward is base (base + 1) (omega arith) h) (list_inside m h)) labels)
    ahead-statement end q (if-at {e} {on_true} {on_false} {base} r m n o) (kernel-if t f g) labels =
        let second = base + 1 + expression_rows e in
        let third = base + 1 + expression_rows e + statement_rows on_true in
        let own-second = owner_of base 2 second (omega arith) (row-link r 2 second r.b_is) (omega arith) (first-statement n).0.inside in
        let own-third = owner_of base 3 third (omega arith) (row-link r 3 third r.c_is) (omega arith) (first-statement o).0.inside in
        let plain = not-definition r (λ k. omega arith) in
        first-and _ base end (no-goto r (λ k. omega arith))
        (join _ (base + 1) second end (ahead-expression _ refl m)
        (join _ second third end (ahead-statement _ refl n (kernel-block f) (λ l h. outward own-second plain (labels l h))) (ahead-statement end (omega arith) o (kernel-block g) (λ l h. outward own-third plain (labels l h)))))
    ahead-statement end q (while-at {e} {body} {base} r m n) (kernel-while t f) labels =
        let second = base + 1 + expression_rows e in
        let own-second = owner_of base 2 second (omega arith) (row-link r 2 second r.b_is) (omega arith) (first-statement n).0.inside in
        first-and _ base end (no-goto r (λ k. omega arith))
        (join _ (base + 1) second end (ahead-expression _ refl m) (ahead-statement end (omega arith) n (kernel-block f) (λ l h. outward own-second (not-definition r (λ k. omega arith)) (labels l h))))
    ahead-statement end q (goto-at {l} {base} r) (kernel-goto b h) labels = first-and _ base end (λ k. rw r.a_is (labels l h)) (none_of _ (base + 1) end (omega arith))
    ahead-statement end q (abort-at {base} r) f labels = first-and _ base end (no-goto r (λ k. omega arith)) (none_of _ (base + 1) end (omega arith))
    ahead-statement end q (return-at {e} {base} r m) f labels = first-and _ base end (no-goto r (λ k. omega arith)) (ahead-expression end (omega arith) m)

    -- The items of a list, whose owner has labels ahead of it.
    ahead-items : {mayReturn : Bool} {ahead is : Items} {base : ℕ} (owner end : ℕ) → base + items_rows is ≡ end → EmittedItems rows is base → KernelItems mayReturn ahead is → 0 < base → is_definition rows owner ≡ false
        → (0 < list_link false is base → Owner rows owner (list_link false is base)) → LabelsAhead ahead owner → Aheads base end
    ahead-items owner end q (none-at {base}) f positive plain own labels = none_of _ base end (omega arith)
    ahead-items {ahead = ahead} owner end q (then_at {s} {is} {base} m n) (kernel-then f g) positive plain own labels =
        let some = statement-some s in
        let middle = base + statement_rows s in
        let next = statement-next m in
        join _ base middle end
        (ahead-statement _ refl m f (λ l h. ⊎_elim (ahead-behind l base next (omega arith) n) (λ k. outward (own positive) plain (labels l k)) (has_either (label l) is ahead h)))
        (ahead-items owner end (omega arith) n g (omega arith) plain (λ h. own-next owner base is middle (own positive) next (omega arith) n h) labels)
    ahead-items owner end q (label_at {l} {is} {base} r n) (kernel-label b g) positive plain own labels =
        let next = label-next r in
        first-and _ base end (no-goto r (λ k. omega arith))
        (ahead-items owner end (omega arith) n g (omega arith) plain (λ h. own-next owner base is (base + 1) (own positive) next (omega arith) n h) labels)
    ahead-items owner end q (define-at _ _ _ _) none_such positive plain own labels = elim none_such [ ]

  -- ---- a program: definitions, then its main part

  ahead-parameters : {words : List ℕ} {base : ℕ} (end : ℕ) → base + length words ≡ end → EmittedParameters rows words base → Aheads base end
  ahead-parameters end q (no_parameter_at {base}) = none_of _ base end (omega arith)
  ahead-parameters end q (parameter-at {word} {words} {base} r n) = first-and _ base end (no-goto r (λ k. omega arith)) (ahead-parameters end (omega arith) n)

  ahead-program : {is : Items} {base : ℕ} (owner end : ℕ) → base + items_rows is ≡ end → EmittedItems rows is base → KernelProgram is → 0 < base → is_definition rows owner ≡ false
      → (0 < list_link false is base → Owner rows owner (list_link false is base)) → Aheads base end
  unfolding items_rows statement_rows
  ahead-program owner end q m (kernel_main k) positive plain own = ahead-items owner end q m k positive plain own (no-labels owner)
  ahead-program owner end q (define-at {f} {words} {body} {is} {base} r p m n) (kernel_define b k) positive plain own =
      let inner = base + 1 + length words in
      let behind = inner + 1 + items_rows body in
      first-and _ base end (no-goto r (λ k. omega arith))
      (join _ (base + 1) inner end (ahead-parameters inner refl p)
      (join _ inner behind end (ahead-statement behind (omega arith) m (kernel-block b) (no-labels inner))
      (ahead-program owner end (omega arith) n k (omega arith) plain (λ h. own-next owner base is behind (own positive) (definition-next r) (omega arith) n h))))

  pub emitted-ahead : {program : Items} → row_count rows ≡ statement_rows (block program) → EmittedStatement rows (block program) 0 0 → KernelProgram program → (row : ℕ) → row < row_count rows → GotoAhead rows row
  unfolding statement_rows sort_of kind_of kind_in kinds sort_in kind_row expression_fields statement_fields mark_fields definition_fields member_fields is_link
  emitted-ahead {program} count (block_at r m) form row h =
      first-and (GotoAhead rows) 0 (row_count rows) (no-goto r (λ k. omega arith))
      (ahead-program 0 (row_count rows) (omega arith) m form (omega arith) (not-definition r (λ k. omega arith))
      (λ p. owner_of 0 1 (list_link false program 1) (omega arith) (row-link r 1 (list_link false program 1) r.a_is) p (list_inside m p))) row (omega arith) h
