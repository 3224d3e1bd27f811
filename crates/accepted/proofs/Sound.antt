-- Sound: a structured table is sound, in both forms: what a run asks of a table. Each field by its sort, in the row's role.
use Rattle.std.specs.Prelude.{◌≡◌, false, List, ℕ, ◌≤◌, ◌<◌, leb, ℤ, length}
use Rattle.std.proofs.Math.Path.{refl}
use Rattle.std.proofs.Common.{sym, ap, ◌∙◌, ⊎_elim}
use Rattle.std.proofs.Math.Bool.{true}
use native.Mathlib.Omega.{arith}
use borrow.Author.Tests.{ltb-true}
use Rattle.words.specs.Table.{row_count, number_at}
use Rattle.words.specs.Kinds.{kind_at, unused, variable, array, declared_number, place, optional_arm, is_link, is_required, sort_at, is_place_kind}
use Rattle.words.specs.KindLaws.{required-link}
use Rattle.words.specs.Laws.{both, either}
use Rattle.words.specs.Layout.{Layout, layout_of, store_size, header_store, store_words}
use Rattle.words.specs.StoreLaws.{store-least}
use Rattle.words.specs.declared.Form.{Form}
use Rattle.words.specs.declared.Kind.TheVariants.{OfMember}
use Rattle.words.specs.declared.MemberKind.TheVariants.{Arm}
use Rattle.language.specs.FieldRoles.{role-unlinked}
use Rattle.language.specs.Sound.{OptionalLink, SoundField, Sound}
use Rattle.words.specs.Links.{is_place, link, fits}
use Rattle.check_fields.specs.declared.NumberRange.{NumberRange}
use Rattle.check_fields.specs.Fields.{declared_range, bounds_in, bounds_of, variable_fits, number_fits}
use Rattle.check_fields.specs.FieldLaws.{declared-inside, range-in-store}
use Rattle.check_structure.specs.StructuredLaws.{structured-tree}
use Rattle.check_structure.specs.Structured.{Structured}
use Rattle.words_roles.specs.Roles.{role_sort}
use Rattle.words_roles.proofs.RoleLaws.{role-links}
use Rattle.accepted.specs.Sorts.{sort-is, arm_is, kind-known}
use Rattle.accepted.proofs.Statements.{root-kind}

module _ (form : Form) (L : Layout) (declared : NumberRange) (words : ℕ) (rows : List ℤ) (store_fits : store_size L ≤ words) (declared-fits : declared.past ≤ words) (s : Structured form (bounds_in L declared words) rows) where
  variables-fit : L.variables ≤ store_size L
  unfolding store_size
  variables-fit = omega arith

  module _ (row : ℕ) (inside : row < row_count rows) (field : ℕ) (first : 1 ≤ field) (last : field < 6) where
    -- a field of a link's sort links the row that its number names
    same : is_link (role_sort rows row field) ≡ true → link rows row field ≡ number_at rows row field
    unfolding link
    same t = rw (← role-links rows row field, t)

    required : is_required (role_sort rows row field) ≡ true → 0 < number_at rows row field
    required r = let l = s.present row inside field first last r in rw (same (required-link _ r)) at l

    onward : is_link (role_sort rows row field) ≡ true → OptionalLink rows L words row field
    onward t p =
        let leads = s.forward row inside field first last (rw (same t) p) in
        record { later = rw (same t) at leads.later; inside = rw (same t) at leads.inside }

    -- a field that is no link holds what the table of kinds says
    plain : (sort : ℕ) → is_link sort ≡ false → role_sort rows row field ≡ sort → sort_at rows row field ≡ sort
    plain sort none e = role-unlinked rows row field first last (ap is_link e ∙ none) ∙ e

    names : (sort : ℕ) → is_link sort ≡ false → role_sort rows row field ≡ sort → number_fits (bounds_in L declared words) sort (number_at rows row field) ≡ true
    names sort none e = rw (← plain sort none e) (s.named row inside field first last)

    fits-a-word : variable_fits (bounds_in L declared words) (number_at rows row field) ≡ true → number_at rows row field < words
    fits-a-word fits =
        ⊎_elim (λ h. let below : number_at rows row field < L.variables = ltb-true _ _ h in omega (arith, store_fits, variables-fit))
        (λ h. ltb-true _ _ (both (leb (store_size L) (number_at rows row field)) _ h).1) (either _ _ fits)

    names-a-word : role_sort rows row field ≡ variable → number_at rows row field < words
    unfolding number_fits is_link
    names-a-word e = fits-a-word (names variable refl e)

    declares-a-word : role_sort rows row field ≡ declared_number → number_at rows row field < words
    unfolding number_fits is_link
    declares-a-word e = let within = declared-inside (bounds_in L declared words) (number_at rows row field) (names declared_number refl e) in omega (arith, within.1, declared-fits)

    names-an-array : role_sort rows row field ≡ array → number_at rows row field < length L.lengths
    unfolding number_fits is_link
    names-an-array e = ltb-true _ _ (names array refl e)

    links-a-place : role_sort rows row field ≡ place → is_place_kind (kind_at rows (number_at rows row field)) ≡ true
    unfolding is_required fits is_place is_place_kind
    links-a-place e =
        let t : is_required (role_sort rows row field) ≡ true = rw e in
        let there = s.present row inside field first last t in
        let fit = rw e at (s.fitting row inside field first last there) in
        rw (← same (required-link _ t), ← sort-is rows (link rows row field) 0) fit

    links-an-arm : role_sort rows row field ≡ optional_arm → 0 < number_at rows row field → kind_at rows (number_at rows row field) ≡ OfMember Arm
    unfolding is_link fits
    links-an-arm e some =
        let t : is_link (role_sort rows row field) ≡ true = rw e in
        let fit = rw e at (s.fitting row inside field first last (rw (same t) some)) in
        rw (← same t) (arm_is rows (link rows row field) fit)

    unused-none : role_sort rows row field ≡ unused → number_at rows row field ≡ 0
    unfolding is_link
    unused-none e = s.unused_zero row inside field first last (plain unused refl e)

    pub role-field : SoundField rows L words row field (role_sort rows row field)
    role-field = record {
      unused_zero = unused-none;
      names-word = names-a-word;
      declares-word = declares-a-word;
      names-array = names-an-array;
      present = required;
      forward = onward;
      at_place = links-a-place;
      at-arm = links-an-arm;
    }

  -- What a run asks of a table, from what the checks of both forms share.
  pub structured-sound : Sound rows L words
  structured-sound =
      let tree = structured-tree form (bounds_in L declared words) rows s in
      record {
        whole = sym tree.whole;
        some_rows = tree.some_rows;
        root = root-kind form (bounds_in L declared words) rows s;
        known = λ row inside. kind-known form rows row (s.known row inside);
        fields = role-field;
        store_fits = store_fits;
      }

-- The same with the bounds that a header gives.
pub header-sound : (form : Form) (header rows : List ℤ) → Structured form (bounds_of form header) rows → Sound rows (layout_of form header) (header_store form header)
unfolding bounds_of header_store
header-sound form header rows s = structured-sound form (layout_of form header) (declared_range form header) (header_store form header) rows (omega arith) (range-in-store form header) s

-- A store may have more words than a table names.
module _ {rows : List ℤ} {L : Layout} {words more : ℕ} (most : words ≤ more) where
  wider-field : {row field sort : ℕ} → SoundField rows L words row field sort → SoundField rows L more row field sort
  wider-field f = record {
    unused_zero = f.unused_zero;
    names-word = λ e. let named = f.names-word e in omega arith;
    declares-word = λ e. let named = f.declares-word e in omega arith;
    names-array = f.names-array;
    present = f.present;
    forward = λ t p. let l = f.forward t p in record { later = l.later; inside = l.inside };
    at_place = f.at_place;
    at-arm = f.at-arm;
  }

  wider-sound : Sound rows L words → Sound rows L more
  wider-sound s = record {
    whole = s.whole;
    some_rows = s.some_rows;
    root = s.root;
    known = s.known;
    fields = λ row inside field first last. wider-field (s.fields row inside field first last);
    store_fits = let fits = s.store_fits in omega arith;
  }

-- The same with the words of a run's store.
pub store-sound : (form : Form) (header rows : List ℤ) → Structured form (bounds_of form header) rows → Sound rows (layout_of form header) (store_words form header rows)
store-sound form header rows s = wider-sound (store-least form header rows) (header-sound form header rows s)
