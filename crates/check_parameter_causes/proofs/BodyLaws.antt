-- Laws of blocks of functions: a row's note is the definition in whose block's own list it stands. Note and relation both go along the links:
-- each row by the row that links it.
use Rattle.std.specs.Prelude.{◌≡◌, refl, Bool, true, false, ◌&&◌, List, ℕ, ◌<◌, eqb, ℤ}
use Rattle.std.proofs.Common.{subst, sym, ap, ◌∙◌, true≢false, arith, eqb-true, eq-eqb, ne_eqb}
use Rattle.std.proofs.lemmas.Bool.{eqb-false}
use Rattle.words.specs.Word.{pick}
use Rattle.words.specs.Table.{row_count}
use Rattle.words.specs.Laws.{by_cases, both}
use Rattle.words.specs.Links.{link}
use Rattle.check_structure.specs.LinkLaws.{by-owner}
use Rattle.check_structure.specs.NoteLaws.{note-root, note-link}
use Rattle.check_structure.specs.Structured.{Leads, Tree}
use Rattle.check_function_causes.specs.Functions.{is_definition}
use Rattle.check_parameter_causes.specs.Parameters.{body_of, body_at}
use Rattle.check_parameter_causes.specs.Demands.{BodyItem, first_item, next_item}

module _ (rows : List ℤ) (t : Tree rows) where
  body-root : body_at rows 0 ≡ 0
  unfolding body_at
  body-root = note-root (body_of rows) 0 rows

  body-link : (row field : ℕ) → field < 6 → Leads rows row field
      → body_at rows (link rows row field) ≡ pick (is_definition rows row && eqb field 3) row (pick (eqb (link rows (body_at rows row) 3) row) (pick (eqb field 1) (body_at rows row) 0) (pick (eqb field 5) (body_at rows row) 0))
  unfolding body_at body_of
  body-link row field h leads = note-link (body_of rows) 0 rows t row field h leads

  -- items stand behind their block
  pub body-later : {definition row : ℕ} → BodyItem rows definition row → link rows definition 3 < row
  body-later (first_item d leads first) = first.later
  body-later (next_item i leads) = let l = leads.later in let r = body-later i in omega arith

  no_field : (b : Bool) (field other : ℕ) → (field ≡ other → ⊥) → (b && eqb field other) ≡ false
  no_field true field other n = ne_eqb field other n
  no_field false field other n = refl

  pub body-noted : {definition row : ℕ} → BodyItem rows definition row → body_at rows row ≡ definition
  body-noted {definition} (first_item d leads first) =
      let block : body_at rows (link rows definition 3) ≡ definition = body-link definition 3 (omega arith) leads ∙ rw d in
      body-link (link rows definition 3) 1 (omega arith) first
      ∙ rw (no_field (is_definition rows (link rows definition 3)) 1 3 (λ q. omega arith), block, eq-eqb (link rows definition 3) (link rows definition 3) refl)
  body-noted {definition} (next_item {row} i leads) =
      let is = body-noted i in
      let later = body-later i in
      body-link row 5 (omega arith) leads
      ∙ rw (no_field (is_definition rows row) 5 3 (λ q. omega arith), is, ne_eqb (link rows definition 3) row (λ q. omega arith))

  -- What a note says of a row: it is the block, or an item of it.
  pub data Body (row definition : ℕ) : Type 0 where
    as-block : is_definition rows definition ≡ true → Leads rows definition 3 → link rows definition 3 ≡ row → Body row definition
    as-item : BodyItem rows definition row → Body row definition

  noted-link : (owner field : ℕ) → field < 6 → Leads rows owner field → ((body_at rows owner ≡ 0 → ⊥) → Body owner (body_at rows owner)) → (body_at rows (link rows owner field) ≡ 0 → ⊥)
      → Body (link rows owner field) (body_at rows (link rows owner field))
  noted-link owner field h leads above some =
      by_cases (is_definition rows owner && eqb field 3)
      (λ b. let parts = both (is_definition rows owner) (eqb field 3) b in
      subst (Body (link rows owner field)) (sym (is ∙ rw b)) (block parts.0 (eqb-true field 3 parts.1)))
      (λ b. by_cases (eqb (link rows (body_at rows owner) 3) owner)
      (λ e. by_cases (eqb field 1)
      (λ f. subst (Body (link rows owner field)) (sym (is ∙ rw (b, e, f))) (from_block (eqb-true _ _ e) (eqb-true field 1 f) (above (λ z. some (is ∙ rw (b, e, f) z)))))
      (λ f. absurd (some (is ∙ rw (b, e, f)))))
      (λ e. by_cases (eqb field 5)
      (λ f. subst (Body (link rows owner field)) (sym (is ∙ rw (b, e, f))) (from-item (eqb-false _ _ e) (eqb-true field 5 f) (above (λ z. some (is ∙ rw (b, e, f) z)))))
      (λ f. absurd (some (is ∙ rw (b, e, f))))))
    where
      is : body_at rows (link rows owner field) ≡ pick (is_definition rows owner && eqb field 3) owner (pick (eqb (link rows (body_at rows owner) 3) owner) (pick (eqb field 1) (body_at rows owner) 0) (pick (eqb field 5) (body_at rows owner) 0))
      is = body-link owner field h leads

      block : is_definition rows owner ≡ true → field ≡ 3 → Body (link rows owner field) owner
      block d f = subst (λ (x : ℕ). Leads rows owner x → Body (link rows owner x) owner) (sym f) (λ l. as-block d l refl) leads

      from_block : link rows (body_at rows owner) 3 ≡ owner → field ≡ 1 → Body owner (body_at rows owner) → Body (link rows owner field) (body_at rows owner)
      from_block e f (as-block d l q) =
          as-item (subst (λ (x : ℕ). BodyItem rows (body_at rows owner) (link rows owner x)) (sym f)
          (subst (λ (x : ℕ). Leads rows x 1 → BodyItem rows (body_at rows owner) (link rows x 1)) e (λ k. first_item d l k) (subst (Leads rows owner) f leads)))
      from_block e f (as-item i) = absurd (let later = body-later i in omega arith)

      from-item : (link rows (body_at rows owner) 3 ≡ owner → ⊥) → field ≡ 5 → Body owner (body_at rows owner) → Body (link rows owner field) (body_at rows owner)
      from-item e f (as-block d l q) = absurd (e q)
      from-item e f (as-item i) = as-item (subst (λ (x : ℕ). BodyItem rows (body_at rows owner) (link rows owner x)) (sym f) (next_item i (subst (Leads rows owner) f leads)))

  pub noted-body : (row : ℕ) → row < row_count rows → (body_at rows row ≡ 0 → ⊥) → Body row (body_at rows row)
  noted-body =
      by-owner rows t (λ (row : ℕ). (body_at rows row ≡ 0 → ⊥) → Body row (body_at rows row)) (λ some. absurd (some body-root))
      (λ owner field h leads above some. noted-link owner field h leads above some)
