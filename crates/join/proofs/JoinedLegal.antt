-- The join of two legal programs is legal: row by row, by the links of the joined rows, and by the front of the new block.
use Rattle.std.specs.Prelude.{◌≡◌, true, false, List, ℕ, ◌+◌, ◌≤◌, ◌<◌, ℤ, None}
use Rattle.std.proofs.Math.Path.{refl}
use Rattle.std.proofs.Common.{sym, ◌∙◌, ap, subst, true≢false, arith}
use Rattle.std.proofs.lemmas.Bool.{false≢true}
use Rattle.words.specs.Table.{row_count, number_at}
use Rattle.words.specs.Search.{lowest_row}
use Rattle.words.specs.declared.Form.TheVariants.{Source}
use Rattle.words.specs.Declarations.{is_declaration}
use Rattle.words.specs.Links.{note}
use Rattle.check_fields.specs.declared.Bounds.{Bounds}
use Rattle.check_structure.specs.Links.{too_deep}
use Rattle.check_structure.specs.DepthLaws.{none-deep-shallow}
use Rattle.check_structure.specs.Structured.{Structured, Tree}
use Rattle.check_structure.specs.StructuredLaws.{structured-tree}
use Rattle.check_places.specs.Places.{is_mark}
use Rattle.check_declaration_causes.specs.Causes.{one_too_many}
use Rattle.check_declaration_causes.proofs.DeclarationLaws.{block-undeclared, none-too-many}
use Rattle.check_declaration_causes.specs.Demands.{NotOwn, NotTwice}
use Rattle.check_parameter_causes.specs.Demands.{NotParameter}
use Rattle.check_function_causes.specs.Functions.{is_definition, is_call, around_of}
use Rattle.check_function_causes.specs.Demands.{InFront, DefinedInOrder, CalledRightly, WellCalled}
use Rattle.check_function_causes.proofs.FrontLaws.{block-undefined, block-no-return}
use Rattle.check_source.specs.Legal.{PlacedRow, Distinct, Legal}
use Rattle.join.specs.Join.{joined_rows}
use Rattle.join.specs.Moved.{InOrder, AroundMoved}
use Rattle.join.proofs.MovedLegal.{distinct-held}
use Rattle.join.proofs.MovedPlaces.{placed-held}
use Rattle.join.proofs.MovedDeclarations.{not-own-held, not-twice-held}
use Rattle.join.proofs.MovedNotes.{front-note, first-top, second-top}
use Rattle.join.proofs.MovedFunctions.{around-hands, around-moved, in-order-held, called-held}
use Rattle.join.proofs.MovedParameters.{not-parameter-held}
use Rattle.join.proofs.JoinedRows.{of_first, of_second, first_place, second_place, first-functions, second-functions}
use Rattle.join.proofs.JoinedSeams.{holds-first, holds-second, every-row, some-place, second-place, outer-block}
use Rattle.join.proofs.JoinedFront.{front-first, front-second}
use Rattle.join.proofs.JoinedLinks.{back-first, back-second}
use Rattle.join.proofs.JoinedStructured.{joined-structured}

-- ---- a block asks nothing of its place

module _ (rows : List ℤ) (row : ℕ) (block : number_at rows row 0 ≡ 42) where
  block-not-placed : PlacedRow rows row
  block-not-placed = record {
    break_inside = λ k. absurd (omega arith);
    continue_inside = λ k. absurd (omega arith);
    mark_inside = λ k. absurd (false≢true (sym (ap is_mark block) ∙ k));
    declaration_inside = λ d. absurd (true≢false (sym d ∙ block-undeclared rows row block));
    return_inside = λ r. absurd (true≢false (sym r ∙ block-no-return rows row block));
  }

  block-distinct : Distinct rows row
  block-distinct = record {
    no_equal_case = λ k mark before m v. omega arith;
    no_second_default = λ k mark before m. omega arith;
  }

  block-no-call : is_call rows row ≡ false
  unfolding is_call
  block-no-call = rw block

-- ---- 23 and 24

module _ {bounds : Bounds} (first second : List ℤ) (s : Structured Source bounds first) (z : Structured Source bounds second) (w : WellCalled first) (w' : WellCalled second) (t : Tree (joined_rows first second)) where
  abbrev joined : List ℤ
  joined = joined_rows first second

  abbrev ρ : ℕ → ℕ
  ρ = first_place first second

  abbrev ρ' : ℕ → ℕ
  ρ' = second_place first second

  p : InOrder first
  p = w.in_order

  q : InOrder second
  q = w'.in_order

  root : is_definition joined 0 ≡ false
  root = block-undefined joined 0 (outer-block first second s z p q)

  front-of-first : (row place : ℕ) → InFront first row place → InFront joined (ρ row) ((of_first first second).functions + place)
  front-of-first row place f = let e : (of_first first second).functions + place ≡ place = (let none = first-functions first second in omega arith) in rw e (front-first first second s z p q f)

  front-of-second : (row place : ℕ) → InFront second row place → InFront joined (ρ' row) ((of_second first second).functions + place)
  front-of-second row place f = subst (λ (k : ℕ). InFront joined (ρ' row) (k + place)) (sym (second-functions first second)) (front-second first second s z p q f)

  joined-in-order : InOrder joined
  joined-in-order =
      every-row first second s z p q (DefinedInOrder joined) (λ d. absurd (true≢false (sym d ∙ root)))
      (in-order-held (of_first first second).functions s w (holds-first first second s z p q) t (some-place first second s z p q) front-of-first)
      (in-order-held (of_second first second).functions z w' (holds-second first second s z p q) t (second-place first second s z p q) front-of-second)

  -- nothing stands around the items of the new block
  block-after : around_of joined (ρ 0) 5 0 ≡ 0
  unfolding around_of
  block-after = refl

  top : note (around_of joined) 0 joined (ρ 0) ≡ 0
  top = first-top first second s z p q t (around-hands joined) block-after

  top' : note (around_of joined) 0 joined (ρ' 0) ≡ 0
  top' = second-top first second s z p q t (around-hands joined) block-after

  pub around-first : AroundMoved joined first ρ
  around-first = around-moved s p (holds-first first second s z p q) t top (λ row place f. front-note t (around-hands joined) (front-of-first row place f))

  pub around-second : AroundMoved joined second ρ'
  around-second = around-moved z q (holds-second first second s z p q) t top' (λ row place f. front-note t (around-hands joined) (front-of-second row place f))

  pub joined-called : WellCalled joined
  joined-called = record {
    in_order = joined-in-order;
    called =
        every-row first second s z p q (CalledRightly joined) (λ c. absurd (true≢false (sym c ∙ block-no-call joined 0 (outer-block first second s z p q))))
        (called-held (of_first first second).functions s w (holds-first first second s z p q) t (some-place first second s z p q) front-of-first around-first root joined-in-order)
        (called-held (of_second first second).functions z w' (holds-second first second s z p q) t (second-place first second s z p q) front-of-second around-second root joined-in-order);
  }

  -- ---- 19 for parameters

  pub joined-not-parameter : ((row : ℕ) → row < row_count first → NotParameter first row) → ((row : ℕ) → row < row_count second → NotParameter second row) → (row : ℕ) → row < row_count joined → NotParameter joined row
  joined-not-parameter of-first of-second =
      every-row first second s z p q (NotParameter joined) (λ d. absurd (true≢false (sym d ∙ block-undeclared joined 0 (outer-block first second s z p q))))
      (not-parameter-held s p (holds-first first second s z p q) t root joined-in-order around-first of-first)
      (not-parameter-held z q (holds-second first second s z p q) t root joined-in-order around-second of-second)

-- "Join two legal source programs into a legal one": where their headers agree, its rows are not too many, none of them is too deep, and it has
-- no 65th declaration.
pub joined-legal : (header first second : List ℤ) → Legal header first → Legal header second → row_count (joined_rows first second) ≤ 2048
    → lowest_row (joined_rows first second) (too_deep Source (joined_rows first second)) ≡ None → lowest_row (joined_rows first second) (one_too_many (joined_rows first second)) ≡ None
    → Legal header (joined_rows first second)
joined-legal header first second l m few flat declarations =
    let s = l.structured in
    let z = m.structured in
    let p = l.well_called.in_order in
    let q = m.well_called.in_order in
    let structured = joined-structured first second s z p q few in
    let t = structured-tree Source _ (joined_rows first second) structured in
    let block-declares : (is_declaration (joined_rows first second) 0 ≡ true → ⊥) = (λ d. true≢false (sym d ∙ block-undeclared (joined_rows first second) 0 (outer-block first second s z p q))) in
    record {
      header-fits = l.header-fits;
      structured = structured;
      placed = every-row first second s z p q (PlacedRow (joined_rows first second)) (block-not-placed (joined_rows first second) 0 (outer-block first second s z p q))
          (λ r n. placed-held s p (holds-first first second s z p q) r n (l.placed r n)) (λ r n. placed-held z q (holds-second first second s z p q) r n (m.placed r n));
      distinct = every-row first second s z p q (Distinct (joined_rows first second)) (block-distinct (joined_rows first second) 0 (outer-block first second s z p q))
          (λ r n. distinct-held s p (holds-first first second s z p q) (back-first first second s z p q) r n (l.distinct r n))
          (λ r n. distinct-held z q (holds-second first second s z p q) (back-second first second s z p q) r n (m.distinct r n));
      shallow = none-deep-shallow (joined_rows first second) t Source flat;
      well_declared = record {
        not_own = every-row first second s z p q (NotOwn (joined_rows first second)) (λ d. absurd (block-declares d))
            (λ r n. not-own-held s p (holds-first first second s z p q) r n (l.well_declared.not_own r n))
            (λ r n. not-own-held z q (holds-second first second s z p q) r n (m.well_declared.not_own r n));
        not_twice = every-row first second s z p q (NotTwice (joined_rows first second)) (λ d. absurd (block-declares d))
            (λ r n. not-twice-held s p (holds-first first second s z p q) (back-first first second s z p q) r n (l.well_declared.not_twice r n))
            (λ r n. not-twice-held z q (holds-second first second s z p q) (back-second first second s z p q) r n (m.well_declared.not_twice r n));
        not_parameter = joined-not-parameter first second s z l.well_called m.well_called t l.well_declared.not_parameter m.well_declared.not_parameter;
        few_declarations = none-too-many (joined_rows first second) declarations;
      };
      well_called = joined-called first second s z l.well_called m.well_called t;
    }
