-- Laws of moved rows: over any map of row numbers that grows along the links that are kept; those at the seam of a join are spoken of by themselves.
use Rattle.std.specs.Prelude.{◌≡◌, Bool, List, ℕ, zero, suc, ◌≤◌, ◌<◌, eqb, ℤ}
use Rattle.std.proofs.Math.Path.{refl, ap}
use Rattle.std.proofs.Common.{◌∙◌, ⊎_elim, arith, eqb-true}
use Rattle.std.proofs.Math.Bool.{true, false}
use Rattle.words.specs.Word.{natural, pick}
use Rattle.words.specs.Table.{row_count, number_at}
use Rattle.words.specs.Laws.{either}
use Rattle.words.specs.Kinds.{kind_of, kind_at, sort_of, sort_at, variable, declared_number, is_link}
use Rattle.words.specs.Declarations.{is_declaration}
use Rattle.words.specs.Links.{link}
use Rattle.words.specs.declared.Form.{Form}
use Rattle.check_structure.specs.Structured.{Leads, Structured}
use Rattle.check_fields.specs.declared.Bounds.{Bounds}
use Rattle.check_function_causes.specs.Functions.{is_definition}
use Rattle.join.specs.Moved.{at_seam, Holds, HoldsRenamed, moved_link, names_word, numbers_function}

-- The item before a row, at its old place.
pub record Earlier (rows : List ℤ) (ρ : ℕ → ℕ) (row item : ℕ) : Type 0 where
  pub old : ℕ
  pub is : item ≡ ρ old
  pub leads : Leads rows old 5
  pub kept : at_seam rows old 5 ≡ false
  pub to : link rows old 5 ≡ row

pub moved-some : (ρ : ℕ → ℕ) (l : ℕ) → 0 < l → moved_link ρ l ≡ ρ l
moved-some ρ zero p = absurd (omega arith)
moved-some ρ (suc l) p = refl

pub moved_back : (ρ : ℕ → ℕ) (l : ℕ) → 0 < moved_link ρ l → 0 < l
moved_back ρ zero p = absurd (omega arith)
moved_back ρ (suc l) p = omega arith

pub link-is : (rows : List ℤ) (row field : ℕ) → is_link (sort_at rows row field) ≡ true → link rows row field ≡ number_at rows row field
unfolding link
link-is rows row field e = rw e

-- a word's number is no link and no function's
pub word-no-link : (sort : ℕ) → names_word sort ≡ true → is_link sort ≡ false
unfolding is_link
word-no-link sort e = ⊎_elim (λ q. rw (eqb-true sort variable q)) (λ q. rw (eqb-true sort declared_number q)) (either (eqb sort variable) (eqb sort declared_number) e)

pub word-no-function : (sort : ℕ) → names_word sort ≡ true → numbers_function sort ≡ false
word-no-function sort e = ⊎_elim (λ q. rw (eqb-true sort variable q)) (λ q. rw (eqb-true sort declared_number q)) (either (eqb sort variable) (eqb sort declared_number) e)

-- ---- rows and their links

module _ {joined rows : List ℤ} {ρ φ : ℕ → ℕ} (h : Holds joined rows ρ φ) where
  pub number-held : (row : ℕ) → row < row_count rows → number_at joined (ρ row) 0 ≡ number_at rows row 0
  unfolding number_at
  number-held row n = ap natural (h.kind row n)

  pub kind-held : (row : ℕ) → row < row_count rows → kind_at joined (ρ row) ≡ kind_at rows row
  unfolding kind_at
  kind-held row n = ap kind_of (number-held row n)

  pub sort-held : (row field : ℕ) → row < row_count rows → sort_at joined (ρ row) field ≡ sort_at rows row field
  unfolding sort_at
  sort-held row field n = ap (λ (number : ℕ). sort_of number field) (number-held row n)

  pub definition-held : (row : ℕ) → row < row_count rows → is_definition joined (ρ row) ≡ is_definition rows row
  unfolding is_definition
  definition-held row n = rw (number-held row n)

  pub declaration-held : (row : ℕ) → row < row_count rows → is_declaration joined (ρ row) ≡ is_declaration rows row
  unfolding is_declaration
  declaration-held row n = rw (number-held row n)

  pub link-held : (row field : ℕ) → row < row_count rows → field < 6 → at_seam rows row field ≡ false → link joined (ρ row) field ≡ moved_link ρ (link rows row field)
  unfolding link
  link-held row field n f own = rw (sort-held row field n) (by (is_link (sort_at rows row field)) refl)
    where
      by : (links : Bool) → is_link (sort_at rows row field) ≡ links → pick links (number_at joined (ρ row) field) 0 ≡ moved_link ρ (pick links (number_at rows row field) 0)
      by true e = h.follows row field n f own e
      by false e = refl

  pub link-leads : (row field : ℕ) → field < 6 → Leads rows row field → at_seam rows row field ≡ false → link joined (ρ row) field ≡ ρ (link rows row field)
  link-leads row field f leads own =
      let later = leads.later in
      let within = leads.inside in
      link-held row field (omega arith) f own ∙ moved-some ρ (link rows row field) (omega arith)

  pub leads-held : (row field : ℕ) → field < 6 → Leads rows row field → at_seam rows row field ≡ false → Leads joined (ρ row) field
  leads-held row field f leads own = record {
    later = rw (link-leads row field f leads own) (h.grows row field f leads own);
    inside = rw (link-leads row field f leads own) (h.inside (link rows row field) leads.inside);
  }

  -- in a table whose numbers stay
  pub holds-itself : HoldsRenamed (λ i. i) φ joined rows ρ
  unfolding number_at
  holds-itself = record {
    whole = h.whole;
    grows = h.grows;
    kind = number-held;
    stays = λ row field n f own e p k. h.stays row field n f own e p;
    numbered = h.numbered;
    named = λ row field n f own k. ap natural (h.stays row field n f own (word-no-link (sort_at rows row field) k) (word-no-function (sort_at rows row field) k));
    follows = h.follows;
    begins = h.begins;
    begins_later = h.begins_later;
  }

-- ---- of a structured table

module _ {form : Form} {bounds : Bounds} {joined rows : List ℤ} {ρ φ : ℕ → ℕ} (s : Structured form bounds rows) (h : Holds joined rows ρ φ) where
  -- a link there was a link here
  pub link-back : (row field : ℕ) → row < row_count rows → 1 ≤ field → field < 6 → at_seam rows row field ≡ false → 0 < link joined (ρ row) field → Leads rows row field
  link-back row field n least most own p = s.forward row n field least most (some (link rows row field) (link-held h row field n most own))
    where
      some : (l : ℕ) → link joined (ρ row) field ≡ moved_link ρ l → 0 < l
      some zero e = absurd (omega arith)
      some (suc l) e = omega arith
