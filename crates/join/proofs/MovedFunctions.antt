-- Functions of moved rows: what 23 and 24 ask of a definition and of a call holds at their new places, where a definition's place in the front is moved as
-- its number is.
use Rattle.std.specs.Prelude.{◌≡◌, refl, List, eqb, ℤ}
use Rattle.std.proofs.Common.{sym, ◌∙◌, ap, subst, true≢false}
use Rattle.std.proofs.Math.Bool.{true, false}
use Prim.Native.Nat.{ℕ, zero, suc, ◌+◌, ◌<◌}
use native.Mathlib.Omega.{arith}
use Rattle.std.proofs.Math.Decide.{ℕ_discrete}
use borrow.Author.Tests.{eqb-true}
use Rattle.words.specs.Word.{pick}
use Rattle.words.specs.Laws.{by_cases}
use Rattle.words.specs.Table.{row_count, number_at}
use Rattle.words.specs.Kinds.{kinds, kind_in, kind_of, kind_row, expression_fields, statement_fields, mark_fields, definition_fields, member_fields, sort_in, sort_of, sort_at}
use Rattle.words.specs.Links.{link, note}
use Rattle.words.specs.declared.Form.{Form}
use Rattle.check_fields.specs.declared.Bounds.{Bounds}
use Rattle.check_structure.specs.NoteLaws.{above_zero}
use Rattle.check_structure.specs.Structured.{Structured, Tree}
use Rattle.check_function_causes.specs.Functions.{is_definition, is_call, around_of, function_around}
use Rattle.check_function_causes.specs.Demands.{InFront, Within, Listed, ended, counted, DefinedInOrder, Called, CalledRightly, WellCalled}
use Rattle.check_function_causes.proofs.FrontLaws.{front-inside, front-defines}
use Rattle.check_function_causes.proofs.AroundLaws.{around-most, around-within, within-defines, within-is}
use Rattle.join.proofs.Fronts.{kept-part, kept_row}
use Rattle.join.specs.Moved.{InOrder, moved_link, numbers_function, Holds, AroundMoved}
use Rattle.join.proofs.Kept.{Ordered, ordered, definition-some, kept-undefined}
use Rattle.join.proofs.MovedLaws.{moved-some, number-held, definition-held, link-held}
use Rattle.join.proofs.MovedNotes.{Hands, HandsMoved, moved-note}

-- field a of a definition and of a call is a function's number
pub definition-numbers : (rows : List ℤ) (row : ℕ) → is_definition rows row ≡ true → numbers_function (sort_at rows row 1) ≡ true
unfolding is_definition sort_at sort_of sort_in kind_of kind_in kinds kind_row expression_fields statement_fields mark_fields definition_fields member_fields
definition-numbers rows row d = rw (eqb-true (number_at rows row 0) 59 d)

call-numbers : (rows : List ℤ) (row : ℕ) → is_call rows row ≡ true → numbers_function (sort_at rows row 1) ≡ true
unfolding is_call sort_at sort_of sort_in kind_of kind_in kinds kind_row expression_fields statement_fields mark_fields definition_fields member_fields
call-numbers rows row c = rw (eqb-true (number_at rows row 0) 31 c)

call-undefined : (rows : List ℤ) (row : ℕ) → is_call rows row ≡ true → is_definition rows row ≡ false
unfolding is_call is_definition
call-undefined rows row c = rw (eqb-true (number_at rows row 0) 31 c)

-- what stands in a function is noted along the links
pub around-hands : (rows : List ℤ) → Hands rows (around_of rows)
unfolding around_of
around-hands rows = record { root = by_cases (is_definition rows 0) (λ d. rw d) (λ d. rw d); along = λ row d. refl }

-- ---- the function that a row stands in

-- Nothing stands around row 0 of the old table and its definitions.
module _ {form : Form} {bounds : Bounds} {joined rows : List ℤ} {ρ φ : ℕ → ℕ} (s : Structured form bounds rows) (i : InOrder rows) (h : Holds joined rows ρ φ) (t : Tree joined)
    (top : note (around_of joined) 0 joined (ρ 0) ≡ 0) (fronts : (row place : ℕ) → InFront rows row place → note (around_of joined) 0 joined (ρ row) ≡ 0) where
  own : Ordered rows
  own = ordered s i

  around-held : HandsMoved joined rows ρ (around_of rows) (around_of joined)
  unfolding around_of
  around-held = record {
    kept = λ owner field n f k above. go owner field n above;
    block = rw (definition-held h 0 own.tree.some_rows ∙ own.root);
    top = top;
    front = λ {row} {place} f. fronts row place f;
  }
    where
      go : (owner field : ℕ) → owner < row_count rows → note (around_of joined) 0 joined (ρ owner) ≡ moved_link ρ (note (around_of rows) 0 rows owner)
          → pick (eqb field 5) (note (around_of joined) 0 joined (ρ owner)) (pick (is_definition joined (ρ owner)) (ρ owner) (note (around_of joined) 0 joined (ρ owner)))
          ≡ moved_link ρ (pick (eqb field 5) (note (around_of rows) 0 rows owner) (pick (is_definition rows owner) owner (note (around_of rows) 0 rows owner)))
      go owner field n above =
          by_cases (eqb field 5) (λ e. rw e above)
          (λ e. by_cases (is_definition rows owner)
          (λ d. let there : is_definition joined (ρ owner) ≡ true = definition-held h owner n ∙ d in rw (e, there, d) (sym (moved-some ρ owner (definition-some own owner d))))
          (λ d. let there : is_definition joined (ρ owner) ≡ false = definition-held h owner n ∙ d in rw (e, there, d) above))

  pub around-moved : AroundMoved joined rows ρ
  unfolding function_around
  around-moved = moved-note s i h t (around-hands rows) around-held

-- ---- 23 and 24

-- In the other table, the front of this program stands behind so many functions.
module _ {form : Form} {bounds : Bounds} {joined rows : List ℤ} {ρ : ℕ → ℕ} (functions : ℕ) (s : Structured form bounds rows) (w : WellCalled rows) (h : Holds joined rows ρ (λ f. functions + f)) (t : Tree joined)
    (above : (row : ℕ) → row < row_count rows → 0 < ρ row) (front : (row place : ℕ) → InFront rows row place → InFront joined (ρ row) (functions + place)) where
  i : InOrder rows
  i = w.in_order

  o : Ordered rows
  o = ordered s i

  number-defined : (row : ℕ) → row < row_count rows → is_definition rows row ≡ true → number_at joined (ρ row) 1 ≡ functions + number_at rows row 1
  number-defined row n d = h.numbered row 1 n (omega arith) (kept-part rows row 1 (definition-some o row d) (omega arith)) (definition-numbers rows row d)

  pub in-order-held : (row : ℕ) → row < row_count rows → DefinedInOrder joined (ρ row)
  in-order-held row n d =
      let here : is_definition rows row ≡ true = sym (definition-held h row n) ∙ d in
      subst (InFront joined (ρ row)) (sym (number-defined row n here)) (front row (number_at rows row 1) (i row n here))

  -- ---- 24

  module _ (around-moved : AroundMoved joined rows ρ) where
    listed-held : {l count : ℕ} → Listed rows l count → (0 < l → (l < row_count rows) × (is_definition rows l ≡ false)) → Listed joined (moved_link ρ l) count
    listed-held ended inner = ended
    listed-held (counted {row} {count} some rest) inner =
        let here = inner some in
        let own = kept_row rows row 5 some here.1 in
        let list : Listed joined (link joined (ρ row) 5) count =
        rw (link-held h row 5 here.0 (omega arith) own)
        (listed-held rest (λ p. let leads = o.tree.forward row 5 here.0 (omega arith) p in (leads.inside, kept-undefined o row 5 (omega arith) leads own))) in
        rw (moved-some ρ row some) (counted (above row here.0) list)

    -- the list of a part
    part-listed : (row field count : ℕ) → 0 < row → row < row_count rows → field < 5 → Listed rows (link rows row field) count → Listed joined (link joined (ρ row) field) count
    part-listed row field count some n f list =
        let own = kept-part rows row field some f in
        rw (link-held h row field n (omega arith) own)
        (listed-held list (λ p. let leads = o.tree.forward row field n (omega arith) p in (leads.inside, kept-undefined o row field (omega arith) leads own)))

    call-some : (row : ℕ) → is_call rows row ≡ true → 0 < row
    unfolding is_call
    call-some zero c = absurd (let call = eqb-true (number_at rows 0 0) 31 c in let block = s.block in omega arith)
    call-some (suc row) c = omega arith

    pub called-held : is_definition joined 0 ≡ false → InOrder joined → (row : ℕ) → row < row_count rows → CalledRightly joined (ρ row)
    unfolding is_call
    called-held root there row n c = go (w.called row n here)
      where
        here : is_call rows row ≡ true
        here = rw (number-held h row n) at c

        number : number_at joined (ρ row) 1 ≡ functions + number_at rows row 1
        number = h.numbered row 1 n (omega arith) (kept-part rows row 1 (call-some row here) (omega arith)) (call-numbers rows row here)

        lower : Called rows row → (around : ℕ) → Within joined around (ρ row) → number_at joined (ρ row) 1 < number_at joined around 1
        lower old around within = by (ℕ_discrete (function_around rows row) 0)
          where
            is : around ≡ moved_link ρ (function_around rows row)
            is = sym (within-is joined t root there within) ∙ around-moved row n

            by : Dec (function_around rows row ≡ 0) → number_at joined (ρ row) 1 < number_at joined around 1
            by (yes z) = absurd (true≢false (sym (within-defines joined t root within) ∙ ap (is_definition joined) (is ∙ ap (moved_link ρ) z) ∙ root))
            by (no z) =
                let inside = around-within rows o.tree row n z in
                let less = old.lower (function_around rows row) inside in
                let d = within-defines rows o.tree o.root inside in
                let e = is ∙ moved-some ρ (function_around rows row) (above_zero _ z) in
                let a = number in
                let b = number-defined (function_around rows row) (let most = around-most rows o.tree row n in omega arith) d in
                rw e (omega arith)

        go : Called rows row → Called joined (ρ row)
        go old =
            let inside = front-inside rows old.function in
            record {
              definition = ρ old.definition;
              function = subst (InFront joined (ρ old.definition)) (sym number) (front old.definition (number_at rows row 1) old.function);
              lower = lower old;
              count = old.count;
              arguments = part-listed row 2 old.count (call-some row here) n (omega arith) old.arguments;
              parameters = part-listed old.definition 2 old.count (definition-some o old.definition (front-defines rows old.function)) inside (omega arith) old.parameters;
            }
