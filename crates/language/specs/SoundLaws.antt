-- Laws of sound tables: what a row's field holds, from the row's kind. Where the kind has two roles, only what holds in both is known.
use Rattle.std.specs.Prelude.{◌≡◌, Bool, true, false, ◌&&◌, List, ℕ, ◌≤◌, ◌<◌, eqb, ℤ}
use Rattle.std.proofs.Math.Path.{refl, sym, ap}
use Rattle.std.proofs.Common.{subst, ◌∙◌, arith, eqb-true}
use Rattle.std.proofs.Math.Bool.{true≢false}
use Rattle.words.specs.Table.{row_count, number_at}
use Rattle.words.specs.Kinds.{kind_at, is_expression_kind, unused, place, optional_arm, is_link, is_required, kind_row, definition_fields, member_fields, sort_in, sort_of, sort_at}
use Rattle.words.specs.KindLaws.{required-link}
use Rattle.words.specs.Laws.{both}
use Rattle.words.specs.Layout.{Layout}
use Rattle.words.specs.declared.Kind.{Kind}
use Rattle.words.specs.declared.Kind.TheVariants.{OfExpression, OfStatement, OfMark, OfMember, Definition, Other}
use Rattle.words.specs.declared.ExpressionKind.{ExpressionKind}
use Rattle.words.specs.declared.MemberKind.TheVariants.{Arm, Argument}
use Rattle.words_roles.specs.Roles.{role_sort}
use Rattle.words_roles.proofs.RoleLaws.{role-links}
use Rattle.language.specs.FieldRoles.{settled, role-settled, role-other}
use Rattle.language.specs.Sound.{Link, OptionalLink, PlaceLink, ArmLink, SoundField, Sound}

-- The field of a kind has a sort that passes the test, in each of the kind's roles.
abbrev pub always : (ℕ → Bool) → Kind → ℕ → Bool
always test kind field = settled kind field && test (sort_in kind field)

module _ {rows : List ℤ} {L : Layout} {words : ℕ} (sound : Sound rows L words) where
  -- Row 0 is a block.
  pub root_none : is_expression_kind (kind_at rows 0) ≡ false
  root_none = ap is_expression_kind sound.root

  module _ {row : ℕ} (inside : row < row_count rows) where
    sound-field : (field sort : ℕ) → 1 ≤ field → field < 6 → role_sort rows row field ≡ sort → SoundField rows L words row field sort
    sound-field field sort p q e = subst (λ (s : ℕ). SoundField rows L words row field s) e (sound.fields row inside field p q)

    module _ {kind : Kind} (k : kind_at rows row ≡ kind) where
      kind-sort : (field : ℕ) → sort_at rows row field ≡ sort_in kind field
      unfolding sort_at sort_of kind_at
      kind-sort field = ap (λ (kind : Kind). sort_in kind field) k

      pub field_of : (field : ℕ) → 1 ≤ field → field < 6 → settled kind field ≡ true → SoundField rows L words row field (sort_in kind field)
      field_of field p q t = sound-field field (sort_in kind field) p q (role-settled rows row k field p q t ∙ kind-sort field)

      -- A link that must be there, and one that may be absent.
      pub link-of : (field : ℕ) → 1 ≤ field → field < 6 → always is_required kind field ≡ true → Link rows L words row field
      link-of field p q r =
          let parts = both (settled kind field) (is_required (sort_in kind field)) r in
          let f = field_of field p q parts.0 in
          f.forward (required-link _ parts.1) (f.present parts.1)

      pub optional-link-of : (field : ℕ) → 1 ≤ field → field < 6 → is_link (sort_in kind field) ≡ true → OptionalLink rows L words row field
      optional-link-of field p q r = (sound.fields row inside field p q).forward (role-links rows row field ∙ ap is_link (kind-sort field) ∙ r)

      pub place-link-of : (field : ℕ) → 1 ≤ field → field < 6 → always (eqb place) kind field ≡ true → PlaceLink rows L words row field
      unfolding is_link is_required
      place-link-of field p q r =
          let parts = both (settled kind field) (eqb place (sort_in kind field)) r in
          let f = field_of field p q parts.0 in
          let is : sort_in kind field ≡ place = sym (eqb-true place (sort_in kind field) parts.1) in
          (f.forward (ap is_link is) (f.present (ap is_required is)), f.at_place is)

      pub arm-link-of : (field : ℕ) → 1 ≤ field → field < 6 → always (eqb optional_arm) kind field ≡ true → ArmLink rows L words row field
      unfolding is_link
      arm-link-of field p q r some =
          let parts = both (settled kind field) (eqb optional_arm (sort_in kind field)) r in
          let f = field_of field p q parts.0 in
          let is : sort_in kind field ≡ optional_arm = sym (eqb-true optional_arm (sort_in kind field) parts.1) in
          (f.forward (ap is_link is) some, f.at-arm is some)

    -- Next leads to a later row of the table, or is 0.
    pub behind : OptionalLink rows L words row 5
    unfolding sort_in kind_row definition_fields member_fields is_link
    behind = go (kind_at rows row) refl
      where
        operand-next : {kind : ExpressionKind} → kind_at rows row ≡ OfExpression kind → role_sort rows row 5 ≡ unused
        operand-next k = role-other rows row (λ d. true≢false (ap is_expression_kind (sym k ∙ d))) 5 ∙ kind-sort k 5

        none : number_at rows row 5 ≡ 0 → OptionalLink rows L words row 5
        none e p = absurd (omega arith)

        go : (kind : Kind) → kind_at rows row ≡ kind → OptionalLink rows L words row 5
        go (OfExpression kind) k = none ((sound-field 5 unused (omega arith) (omega arith) (operand-next k)).unused_zero refl)
        go (OfStatement kind) k = optional-link-of k 5 (omega arith) (omega arith) refl
        go (OfMark kind) k = optional-link-of k 5 (omega arith) (omega arith) refl
        go (OfMember Arm) k = optional-link-of k 5 (omega arith) (omega arith) refl
        go (OfMember Argument) k = optional-link-of k 5 (omega arith) (omega arith) refl
        go Definition k = optional-link-of k 5 (omega arith) (omega arith) refl
        go Other k = absurd (sound.known row inside k)
