-- Declarations of moved rows: what legality asks of a declaration's number holds at its new place. Its initial expression is the old one, row
-- by row, and the items before it in its list are the old ones.
use Rattle.std.specs.Prelude.{◌≡◌, refl, true, false, List, ℤ}
use Rattle.std.proofs.Common.{sym, ◌∙◌, subst, true≢false}
use Rattle.std.proofs.Math.Path.{ap}
use Prim.Native.Nat.{ℕ, zero, suc, ◌≤◌, ◌<◌}
use native.Mathlib.Omega.{arith}
use borrow.Author.Tests.{eqb-true}
use Rattle.words.specs.Word.{natural}
use Rattle.words.specs.Table.{row_count, number_at}
use Rattle.words.specs.Kinds.{kinds, kind_in, kind_of, is_link, kind_row, expression_fields, statement_fields, mark_fields, definition_fields, member_fields, sort_in, sort_of, sort_at}
use Rattle.words.specs.Links.{link}
use Rattle.words.specs.declared.Form.{Form}
use Rattle.check_fields.specs.declared.Bounds.{Bounds}
use Rattle.check_grammar.specs.GrammarLaws.{kind-no-link}
use Rattle.check_structure.specs.Structured.{Leads, Structured}
use Rattle.check_structure.specs.Lists.{before-later}
use Rattle.names.specs.Names.{is_name}
use Rattle.words.specs.Declarations.{declaration_kind, is_declaration}
use Rattle.check_declaration_causes.specs.Demands.{InInitial, whole, below, NotOwn, NotTwice}
use Rattle.check_declaration_causes.proofs.DeclarationLaws.{block-undeclared}
use Rattle.check_function_causes.specs.Functions.{is_definition}
use Rattle.join.specs.Moved.{at_seam, InOrder, Holds}
use Rattle.join.proofs.Fronts.{kept-part, kept_row}
use Rattle.join.proofs.Kept.{Ordered, ordered, kept-undefined}
use Rattle.join.proofs.MovedLaws.{Earlier, number-held, declaration-held, link-leads, link-back}
use Rattle.join.proofs.MovedLegal.{before_back}

-- no row is linked by its kind
leads-part : (rows : List ℤ) (row field : ℕ) → Leads rows row field → 1 ≤ field
unfolding link sort_at
leads-part rows row zero leads = absurd (let later : row < 0 = (rw (kind-no-link (number_at rows row 0)) at leads.later) in omega arith)
leads-part rows row (suc field) leads = omega arith

module _ {form : Form} {bounds : Bounds} {joined rows : List ℤ} {ρ φ : ℕ → ℕ} (s : Structured form bounds rows) (i : InOrder rows) (h : Holds joined rows ρ φ) where
  o : Ordered rows
  o = ordered s i

  pub name-held : (row : ℕ) → row < row_count rows → is_name joined (ρ row) ≡ is_name rows row
  unfolding is_name
  name-held row n = rw (number-held h row n)

  -- a declaration or a name is neither row 0, which is a block, nor a definition
  pub not_root : (row : ℕ) → is_declaration rows row ≡ true → 0 < row
  not_root zero d = absurd (true≢false (sym d ∙ block-undeclared rows 0 s.block))
  not_root (suc row) d = omega arith

  pub declaration-undefined : (row : ℕ) → is_declaration rows row ≡ true → is_definition rows row ≡ false
  unfolding is_declaration is_definition
  declaration-undefined row d = rw (eqb-true (number_at rows row 0) declaration_kind d)

  name-not-root : (row : ℕ) → is_name rows row ≡ true → 0 < row
  unfolding is_name
  name-not-root zero d = absurd (let two = eqb-true (number_at rows 0 0) 2 d in let block = s.block in omega arith)
  name-not-root (suc row) d = omega arith

  -- the number that they have is no link and no function's, and stays
  pub declared-number : (row : ℕ) → row < row_count rows → is_declaration rows row ≡ true → number_at joined (ρ row) 1 ≡ number_at rows row 1
  unfolding is_declaration number_at sort_at sort_of sort_in kind_of kind_in kinds kind_row expression_fields statement_fields mark_fields definition_fields member_fields is_link
  declared-number row n d =
      ap natural (h.stays row 1 n (omega arith) (kept-part rows row 1 (not_root row d) (omega arith)) (rw (eqb-true (number_at rows row 0) declaration_kind d)) (rw (eqb-true (number_at rows row 0) declaration_kind d)))

  pub named-number : (row : ℕ) → row < row_count rows → is_name rows row ≡ true → number_at joined (ρ row) 1 ≡ number_at rows row 1
  unfolding is_name number_at sort_at sort_of sort_in kind_of kind_in kinds kind_row expression_fields statement_fields mark_fields definition_fields member_fields is_link
  named-number row n d = ap natural (h.stays row 1 n (omega arith) (kept-part rows row 1 (name-not-root row d) (omega arith)) (rw (eqb-true (number_at rows row 0) 2 d)) (rw (eqb-true (number_at rows row 0) 2 d)))

  -- ---- rows below a declaration or a definition

  -- Such a row, at its old place, with what is known of it there.
  pub record OldRow (P : ℕ → Type 0) (row : ℕ) : Type 0 where
    pub old : ℕ
    pub is : row ≡ ρ old
    pub has : P old
    pub later : 0 < old
    pub inside : old < row_count rows
    pub other : is_definition rows old ≡ false

  -- what a kept link of the other table leads to
  old-link : (P : ℕ → Type 0) (row field : ℕ) → row < row_count rows → 1 ≤ field → field < 6 → at_seam rows row field ≡ false → Leads joined (ρ row) field → (Leads rows row field → P (link rows row field)) → OldRow P (link joined (ρ row) field)
  old-link P row field n least f k there has =
      let leads = link-back s h row field n least f k (let l = there.later in omega arith) in
      record { old = link rows row field; is = link-leads h row field f leads k; has = has leads; later = (let l = leads.later in omega arith); inside = leads.inside; other = kept-undefined o row field f leads k }

  pub old-part : (P : ℕ → Type 0) (row field : ℕ) → 0 < row → row < row_count rows → 1 ≤ field → field < 5 → Leads joined (ρ row) field → (Leads rows row field → P (link rows row field)) → OldRow P (link joined (ρ row) field)
  old-part P row field some n least f there has = old-link P row field n least (omega arith) (kept-part rows row field some f) there has

  -- from such a row on
  pub old-along : {P : ℕ → Type 0} (Q : ℕ → Type 0) {here : ℕ} (w : OldRow P here) (field : ℕ) → field < 6 → Leads joined here field → (Leads rows w.old field → Q (link rows w.old field)) → OldRow Q (link joined here field)
  old-along Q {here} w field f leads has =
      subst (λ (x : ℕ). OldRow Q (link joined x field)) (sym w.is)
      (old-link Q w.old field w.inside (leads-part joined here field leads) f (kept_row rows w.old field w.later w.other) (subst (λ (x : ℕ). Leads joined x field) w.is leads) has)

  -- ---- cause 18

  initial-back : (row : ℕ) → row < row_count rows → 0 < row → {name : ℕ} → InInitial joined (ρ row) name → OldRow (InInitial rows row) name
  initial-back row n some (whole leads) = old-part (InInitial rows row) row 2 some n (omega arith) (omega arith) leads (λ l. whole l)
  initial-back row n some (below {row = here} {field = field} f leads initial) =
      let w = initial-back row n some initial in
      old-along (InInitial rows row) w field f leads (λ l. below f l w.has)

  pub not-own-held : (row : ℕ) → row < row_count rows → NotOwn rows row → NotOwn joined (ρ row)
  not-own-held row n own d name initial k same =
      let declared : is_declaration rows row ≡ true = sym (declaration-held h row n) ∙ d in
      let w = initial-back row n (not_root row declared) initial in
      let names : is_name rows w.old ≡ true = sym (name-held w.old w.inside) ∙ sym (ap (is_name joined) w.is) ∙ k in
      own declared w.old w.has names
      (sym (named-number w.old w.inside names) ∙ sym (ap (λ (x : ℕ). number_at joined x 1) w.is) ∙ same ∙ declared-number row n declared)

  -- ---- cause 19

  module _ (back : (row item : ℕ) → 0 < row → row < row_count rows → is_definition rows row ≡ false → Leads joined item 5 → link joined item 5 ≡ ρ row → Earlier rows ρ row item) where
    pub not-twice-held : (row : ℕ) → row < row_count rows → NotTwice rows row → NotTwice joined (ρ row)
    not-twice-held row n once d earlier before k same =
        let declared : is_declaration rows row ≡ true = sym (declaration-held h row n) ∙ d in
        let m = before_back s i h back before row (not_root row declared) n (declaration-undefined row declared) refl in
        let up = before-later m.before in
        let inside : m.old < row_count rows = omega arith in
        let also : is_declaration rows m.old ≡ true = sym (declaration-held h m.old inside) ∙ sym (ap (is_declaration joined) m.is) ∙ k in
        once declared m.old m.before also
        (sym (declared-number m.old inside also) ∙ sym (ap (λ (x : ℕ). number_at joined x 1) m.is) ∙ same ∙ declared-number row n declared)
