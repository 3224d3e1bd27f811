-- The check accepts the legal source programs and no others.
use Rattle.std.specs.Prelude.{◌≡◌, true, false, List, ◌↔◌, ℕ, ◌<◌, leb, ℤ, pos, Ok}
use Rattle.std.proofs.Common.{sym, ap, ◌∙◌, true≢false, arith, leb-true}
use Rattle.std.proofs.Math.Decide.{ℕ_discrete}
use Rattle.words.specs.Table.{row_count, word_at, number_at}
use Rattle.words.specs.Laws.{by_cases, both, natural-pos}
use Rattle.words.specs.declared.Form.TheVariants.{Source}
use Rattle.words.specs.Kinds.{sort_of, sort_at, sort_in, kind_of, kind_in, kinds, kind_row, expression_fields, statement_fields, mark_fields, member_fields}
use Rattle.words.specs.SearchLaws.{lowest_row-all, all-lowest_row}
use Rattle.check_structure.specs.DepthLaws.{none-deep-shallow, shallow-none-deep}
use Rattle.check_structure.specs.Refusal.{at, ◌next◌, structural_refusal}
use Rattle.check_structure.specs.RefusalLaws.{next-accepts, accepts-next, at-accepts, accepts-at}
use Rattle.check_fields.specs.declared.Bounds.{Bounds}
use Rattle.check_structure.specs.Structured.{Structured, Tree}
use Rattle.check_structure.specs.Lists.{before-later}
use Rattle.check_structure.specs.StructuredLaws.{accepted-structured, structured-accepted, structured-tree}
use Rattle.check_places.specs.Places.{is_mark}
use Rattle.check_marks.specs.Marks.{repeated}
use Rattle.check_declaration_causes.specs.Causes.{declaration_refusal}
use Rattle.check_declaration_causes.proofs.AcceptsDeclared.{accepts-declared}
use Rattle.check_function_causes.proofs.FrontLaws.{block-undefined}
use Rattle.check_function_causes.proofs.AcceptsFunctions.{accepts-functions}
use Rattle.check_source.specs.Refusal.{wrongly_placed, later_refusal, refusal}
use Rattle.check_source.specs.Legal.{Distinct, Legal}
use Rattle.check_source.proofs.PlaceLaws.{none-wrong-placed, placed-none-wrong}
use Rattle.check_marks.specs.DistinctLaws.{Repeats, repeated-by, repeats}

module _ (bounds : Bounds) (rows : List ℤ) (s : Structured Source bounds rows) where
  tree : Tree rows
  tree = structured-tree Source bounds rows s

  -- a default's field a is unused
  default-value : (row : ℕ) → row < row_count rows → number_at rows row 0 ≡ 49 → word_at rows row 1 ≡ pos 0
  unfolding number_at sort_at sort_of sort_in kind_of kind_in kinds kind_row expression_fields statement_fields mark_fields member_fields
  default-value row n k = natural-pos (word_at rows row 1) 0 (s.unused_zero row n 1 (omega arith) (omega arith) (rw k)) (omega arith)

  -- row 0 is a block, and no mark
  mark-not-root : (mark : ℕ) → is_mark (number_at rows mark 0) ≡ true → mark ≡ 0 → ⊥
  mark-not-root mark k q = true≢false (sym k ∙ ap (λ (x : ℕ). is_mark (number_at rows x 0)) q ∙ ap is_mark s.block)

  -- ---- cause 8

  once-distinct : (row : ℕ) → row < row_count rows → repeated rows row ≡ false → Distinct rows row
  once-distinct row n e =
      record {
        no_equal_case = λ k mark before m v. differ row n e mark (ap is_mark k) (record { before = before; kind = m ∙ sym k; value = v });
        no_second_default = λ k mark before m.
            let earlier = before-later before in
            differ row n e mark (ap is_mark k) (record { before = before; kind = m ∙ sym k; value = default-value mark (omega arith) m ∙ sym (default-value row n k) });
      }
    where
      differ : (row : ℕ) → row < row_count rows → repeated rows row ≡ false → (mark : ℕ) → is_mark (number_at rows row 0) ≡ true → Repeats rows tree row mark → ⊥
      differ row n e mark k r = true≢false (sym (repeated-by rows tree row mark k r (mark-not-root mark (ap is_mark r.kind ∙ k))) ∙ e)

  distinct-once : (row : ℕ) → row < row_count rows → Distinct rows row → repeated rows row ≡ false
  distinct-once row n d = by_cases (repeated rows row) (λ e. absurd (never e)) (λ e. e)
    where
      never : repeated rows row ≡ true → ⊥
      never e =
          let found = repeats rows tree row n e in
          let r = found.1.1 in
          by_kind (ℕ_discrete (number_at rows row 0) 48) (ℕ_discrete (number_at rows row 0) 49) found.0 found.1.0 r
        where
          by_kind : Dec (number_at rows row 0 ≡ 48) → Dec (number_at rows row 0 ≡ 49) → is_mark (number_at rows row 0) ≡ true → (mark : ℕ) → Repeats rows tree row mark → ⊥
          by_kind (yes q) b k mark r = d.no_equal_case q mark r.before (r.kind ∙ q) r.value
          by_kind (no p) (yes q) k mark r = d.no_second_default q mark r.before (r.kind ∙ q)
          by_kind (no p) (no q) k mark r =
              let range = both (leb 48 (number_at rows row 0)) (leb (number_at rows row 0) 49) k in
              let least = leb-true 48 (number_at rows row 0) range.0 in
              let most = leb-true (number_at rows row 0) 49 range.1 in
              omega (arith, p, q)

module _ (header rows : List ℤ) where
  accepted-legal : refusal header rows ≡ (Ok tt) → Legal header rows
  unfolding refusal later_refusal
  accepted-legal e =
      let parts = next-accepts (structural_refusal Source header rows) _ e in
      let sound = accepted-structured Source header rows parts.0 in
      let s = sound.1 in
      let t = structured-tree Source _ rows s in
      let c7 = next-accepts (at 7 _) _ parts.1 in
      let c8 = next-accepts (at 8 _) _ c7.1 in
      let c9 = next-accepts (at 9 _) _ c8.1 in
      let c20 = next-accepts (declaration_refusal rows) _ c9.1 in
      let places = lowest_row-all rows (wrongly_placed rows) (at-accepts 7 _ c7.0) in
      let marks = lowest_row-all rows (repeated rows) (at-accepts 8 _ c8.0) in
      record {
        header-fits = sound.0;
        structured = s;
        placed = λ row n. none-wrong-placed rows t (block-undefined rows 0 s.block) row n (places row n);
        distinct = λ row n. once-distinct _ rows s row n (marks row n);
        shallow = none-deep-shallow rows t Source (at-accepts 9 _ c9.0);
        well_declared = (accepts-declared rows t s.block).0 c20.0;
        well_called = (accepts-functions rows t (block-undefined rows 0 s.block)).0 c20.1;
      }

  legal_accepted : Legal header rows → refusal header rows ≡ (Ok tt)
  unfolding refusal later_refusal
  legal_accepted l =
      let t = structured-tree Source _ rows l.structured in
      accepts-next (structural_refusal Source header rows) _ (structured-accepted Source header rows l.header-fits l.structured)
      (accepts-next (at 7 _) _ (accepts-at 7 _ (all-lowest_row rows (wrongly_placed rows) (λ row n. placed-none-wrong rows t (block-undefined rows 0 l.structured.block) row (l.placed row n))))
      (accepts-next (at 8 _) _ (accepts-at 8 _ (all-lowest_row rows (repeated rows) (λ row n. distinct-once _ rows l.structured row n (l.distinct row n))))
      (accepts-next (at 9 _) _ (accepts-at 9 _ (shallow-none-deep rows t Source l.shallow))
      (accepts-next (declaration_refusal rows) _ ((accepts-declared rows t l.structured.block).1 l.well_declared)
      ((accepts-functions rows t (block-undefined rows 0 l.structured.block)).1 l.well_called)))))

  pub accepts-legal : refusal header rows ≡ (Ok tt) ↔ Legal header rows
  accepts-legal = (accepted-legal, legal_accepted)
