-- Places of moved rows: what legality says of a row's place, cause 7, holds at its new one. It goes along the links that are kept; a row that the seam
-- links stands in row 0's own list, and so inside nothing.
use Rattle.std.specs.Prelude.{◌≡◌, Bool, false, List, ℕ, zero, suc, ◌<◌, ℤ}
use Rattle.std.proofs.Math.Path.{refl, sym}
use Rattle.std.proofs.Common.{◌∙◌, ap, subst, true≢false, arith, eqb-true}
use Rattle.std.proofs.Math.Bool.{true}
use Rattle.words.specs.Laws.{by_cases}
use Rattle.words.specs.Table.{row_count, number_at}
use Rattle.words.specs.Kinds.{kinds, kind_in, kind_of, is_link, kind_row, expression_fields, statement_fields, mark_fields, definition_fields, member_fields, sort_in, sort_of, sort_at}
use Rattle.words.specs.Declarations.{declaration_kind, is_declaration}
use Rattle.words.specs.declared.Form.{Form}
use Rattle.check_fields.specs.declared.Bounds.{Bounds}
use Rattle.check_structure.specs.Structured.{Leads, Structured}
use Rattle.check_items.specs.Items.{ListItem, first, next}
use Rattle.check_places.specs.Places.{is_loop, is_loop_or_switch}
use Rattle.check_function_causes.specs.Functions.{is_definition, is_return}
use Rattle.check_function_causes.specs.Demands.{InFront, foremost, behind, Within, function_part, function_along}
use Rattle.check_source.specs.Legal.{Inside, part, along, PlacedRow}
use Rattle.join.specs.Join.{first_item}
use Rattle.join.specs.Moved.{at_seam, InOrder, moved_link, Holds}
use Rattle.join.proofs.Fronts.{Seam, first-of-root, next-of-root, next-of-definition, seam-is, kept-part, kept_next}
use Rattle.join.proofs.Kept.{Ordered, ordered, one_word, definition-some, seam-links}
use Rattle.join.proofs.MovedLaws.{number-held, definition-held, declaration-held, link-leads, leads-held}
use Rattle.join.proofs.MovedDeclarations.{not_root, declaration-undefined}
use Rattle.join.proofs.MovedRoles.{block-there, begins-is, begins-leads}

-- a declaration's b is a link
initial-links : (rows : List ℤ) (row : ℕ) → is_declaration rows row ≡ true → is_link (sort_at rows row 2) ≡ true
unfolding is_declaration sort_at sort_of sort_in kind_of kind_in kinds kind_row expression_fields statement_fields mark_fields definition_fields member_fields is_link
initial-links rows row d = rw (eqb-true (number_at rows row 0) declaration_kind d)

module _ {form : Form} {bounds : Bounds} {rows : List ℤ} (s : Structured form bounds rows) (i : InOrder rows) where
  o : Ordered rows
  o = ordered s i

  -- ---- a definition stands in row 0's list, inside nothing

  inside-some : {kinds : ℕ → Bool} {row : ℕ} → Inside rows kinds row → 0 < row
  inside-some (part f leads k) = let l = leads.later in omega arith
  inside-some (along f leads i) = let l = leads.later in omega arith

  within-some : {definition row : ℕ} → Within rows definition row → 0 < row
  within-some (function_part f d leads) = let l = leads.later in omega arith
  within-some (function_along f leads w) = let l = leads.later in omega arith

  item-some : {kind start row : ℕ} → ListItem rows kind start row → 0 < row
  item-some (first k leads) = let l = leads.later in omega arith
  item-some (next leads i) = let l = leads.later in omega arith

  front-inside : (kinds : ℕ → Bool) → kinds 42 ≡ false → {row place : ℕ} → InFront rows row place → Inside rows kinds row → ⊥
  front-inside kinds none f inside = go f inside refl
    where
      go : {row other place : ℕ} → InFront rows row place → Inside rows kinds other → row ≡ other → ⊥
      go (foremost leads d) (part {row} {field} h l k) e =
          let w = one_word rows o.tree 0 1 row field (omega arith) (omega arith) leads l e in
          true≢false (sym k ∙ ap (λ (x : ℕ). kinds (number_at rows x 0)) (sym w.0) ∙ ap kinds s.block ∙ none)
      go (foremost leads d) (along {row} {field} h l i) e =
          let w = one_word rows o.tree 0 1 row field (omega arith) h leads l e in
          let some = inside-some i in let zero = w.0 in omega arith
      go (behind {row = earlier} f leads d) (part {row} {field} h l k) e =
          let w = one_word rows o.tree earlier 5 row field (omega arith) (omega arith) leads l e in
          let five = w.1 in omega arith
      go (behind {row = earlier} f leads d) (along {row} {field} h l i) e =
          let w = one_word rows o.tree earlier 5 row field (omega arith) h leads l e in
          go f i w.0

  front-within : {definition row place : ℕ} → InFront rows row place → Within rows definition row → ⊥
  front-within f within = go f within refl
    where
      go : {definition row other place : ℕ} → InFront rows row place → Within rows definition other → row ≡ other → ⊥
      go {definition = definition} (foremost leads d) (function_part {field} h c l) e =
          let w = one_word rows o.tree 0 1 definition field (omega arith) (omega arith) leads l e in
          let some = definition-some o definition c in let zero = w.0 in omega arith
      go (foremost leads d) (function_along {row} {field} h l i) e =
          let w = one_word rows o.tree 0 1 row field (omega arith) h leads l e in
          let some = within-some i in let zero = w.0 in omega arith
      go {definition = definition} (behind {row = earlier} f leads d) (function_part {field} h c l) e =
          let w = one_word rows o.tree earlier 5 definition field (omega arith) (omega arith) leads l e in
          let five = w.1 in omega arith
      go (behind {row = earlier} f leads d) (function_along {row} {field} h l i) e =
          let w = one_word rows o.tree earlier 5 row field (omega arith) h leads l e in
          go f i w.0

  front-item : (kind start : ℕ) → start < 5 → (kind ≡ 42 → ⊥) → {row place : ℕ} → InFront rows row place → ListItem rows kind start row → ⊥
  front-item kind start small none f item = go f item refl
    where
      go : {row other place : ℕ} → InFront rows row place → ListItem rows kind start other → row ≡ other → ⊥
      go (foremost leads d) (first {row} k l) e =
          let w = one_word rows o.tree 0 1 row start (omega arith) (omega arith) leads l e in
          none (sym k ∙ ap (λ (x : ℕ). number_at rows x 0) (sym w.0) ∙ s.block)
      go (foremost leads d) (next {row} l i) e = let w = one_word rows o.tree 0 1 row 5 (omega arith) (omega arith) leads l e in let five = w.1 in omega arith
      go (behind {row = earlier} f leads d) (first {row} k l) e = let w = one_word rows o.tree earlier 5 row start (omega arith) (omega arith) leads l e in let five = w.1 in omega arith
      go (behind {row = earlier} f leads d) (next {row} l i) e = let w = one_word rows o.tree earlier 5 row 5 (omega arith) (omega arith) leads l e in go f i w.0

  -- a link at the seam comes from row 0 or from such a row
  seam-owner : (P : ℕ → Type 0) → (P 0 → ⊥) → ((row place : ℕ) → InFront rows row place → P row → ⊥) → (row field : ℕ) → Leads rows row field → at_seam rows row field ≡ true → P row → ⊥
  seam-owner P root front row field leads e inside = go (seam-is rows row field e)
    where
      go : Seam rows row field → ⊥
      go (first-of-root a b) = root (subst P a inside)
      go (next-of-root a b) = root (subst P a inside)
      go (next-of-definition d b) = front row _ (o.in_order (let l = leads.later in let below = leads.inside in omega arith) d) inside

  module _ {joined : List ℤ} {ρ φ : ℕ → ℕ} (h : Holds joined rows ρ φ) where
    inside-held : (kinds : ℕ → Bool) → kinds 42 ≡ false → {row : ℕ} → Inside rows kinds row → Inside joined kinds (ρ row)
    inside-held kinds none (part {row} {field} f leads k) =
        let later = leads.later in
        let below = leads.inside in
        let some = kind-some row k in
        let own = kept-part rows row field some f in
        subst (Inside joined kinds) (link-leads h row field (omega arith) leads own) (part f (leads-held h row field (omega arith) leads own) (rw (number-held h row (omega arith)) k))
      where
        kind-some : (row : ℕ) → kinds (number_at rows row 0) ≡ true → 0 < row
        kind-some zero k = absurd (true≢false (sym k ∙ ap kinds s.block ∙ none))
        kind-some (suc row) k = omega arith
    inside-held kinds none (along {row} {field} f leads inside) =
        by_cases (at_seam rows row field)
        (λ e. absurd (seam-owner (Inside rows kinds) (λ x. let p = inside-some x in omega arith) (λ row place f x. front-inside kinds none f x) row field leads e inside))
        (λ own. subst (Inside joined kinds) (link-leads h row field f leads own) (along f (leads-held h row field f leads own) (inside-held kinds none inside)))

    within_held : {definition row : ℕ} → Within rows definition row → Within joined (ρ definition) (ρ row)
    within_held {definition} (function_part {field} f d leads) =
        let later = leads.later in
        let below = leads.inside in
        let own = kept-part rows definition field (definition-some o definition d) f in
        subst (Within joined (ρ definition)) (link-leads h definition field (omega arith) leads own) (function_part f (definition-held h definition (omega arith) ∙ d) (leads-held h definition field (omega arith) leads own))
    within_held {definition} (function_along {row} {field} f leads w) =
        by_cases (at_seam rows row field)
        (λ e. absurd (seam-owner (Within rows definition) (λ x. let p = within-some x in omega arith) (λ row place f x. front-within f x) row field leads e w))
        (λ own. subst (Within joined (ρ definition)) (link-leads h row field f leads own) (function_along f (leads-held h row field f leads own) (within_held w)))

    -- marks are items of switches
    switch-item : {row : ℕ} → ListItem rows 47 2 row → ListItem joined 47 2 (ρ row)
    switch-item (first {row} k leads) =
        let later = leads.later in
        let below = leads.inside in
        let own = kept-part rows row 2 (some row k) (omega arith) in
        subst (ListItem joined 47 2) (link-leads h row 2 (omega arith) leads own) (first (number-held h row (omega arith) ∙ k) (leads-held h row 2 (omega arith) leads own))
      where
        some : (row : ℕ) → number_at rows row 0 ≡ 47 → 0 < row
        some zero k = absurd (let b = s.block in omega arith)
        some (suc row) k = omega arith
    switch-item (next {row} leads item) =
        by_cases (at_seam rows row 5)
        (λ e. absurd (seam-owner (ListItem rows 47 2) (λ x. let p = item-some x in omega arith) (λ row place f x. front-item 47 2 (omega arith) (λ q. omega arith) f x) row 5 leads e item))
        (λ own. subst (ListItem joined 47 2) (link-leads h row 5 (omega arith) leads own) (next (leads-held h row 5 (omega arith) leads own) (switch-item item)))

    -- the item behind the definitions is the first of the old block
    begins : 0 < first_item rows → ListItem joined 42 1 (ρ (first_item rows))
    begins p = subst (ListItem joined 42 1) (begins-is s i h p) (first (block-there s i h) (begins-leads s i h p))

    -- other items of blocks
    block-item : {row : ℕ} → ListItem rows 42 1 row → is_definition rows row ≡ false → ListItem joined 42 1 (ρ row)
    block-item (first {row} k leads) d =
        let later = leads.later in
        let below = leads.inside in
        by_cases (at_seam rows row 1)
        (λ e. let is = seam-links o row 1 leads e d in subst (λ (x : ℕ). ListItem joined 42 1 (ρ x)) (sym is) (begins (omega arith)))
        (λ own. subst (ListItem joined 42 1) (link-leads h row 1 (omega arith) leads own) (first (number-held h row (omega arith) ∙ k) (leads-held h row 1 (omega arith) leads own)))
    block-item (next {row} leads item) d =
        let later = leads.later in
        by_cases (at_seam rows row 5)
        (λ e. let is = seam-links o row 5 leads e d in subst (λ (x : ℕ). ListItem joined 42 1 (ρ x)) (sym is) (begins (omega arith)))
        (λ own. subst (ListItem joined 42 1) (link-leads h row 5 (omega arith) leads own) (next (leads-held h row 5 (omega arith) leads own) (block-item item (kept_next rows row own).1)))

    -- a declaration without an initial expression has none at its new place
    no-initial : (row : ℕ) → row < row_count rows → is_declaration rows row ≡ true → number_at rows row 2 ≡ 0 → number_at joined (ρ row) 2 ≡ 0
    no-initial row n d z =
        h.follows row 2 n (omega arith) (kept-part rows row 2 (not_root s i h row d) (omega arith)) (initial-links rows row d) ∙ ap (moved_link ρ) z

    pub placed-held : (row : ℕ) → row < row_count rows → PlacedRow rows row → PlacedRow joined (ρ row)
    unfolding is_return
    placed-held row n p = record {
      break_inside = λ k. inside-held is_loop_or_switch refl (p.break_inside (sym (number-held h row n) ∙ k));
      continue_inside = λ k. inside-held is_loop refl (p.continue_inside (sym (number-held h row n) ∙ k));
      mark_inside = λ k. switch-item (p.mark_inside (rw (number-held h row n) at k));
      declaration_inside = λ d some.
          let here : is_declaration rows row ≡ true = sym (declaration-held h row n) ∙ d in
          block-item (p.declaration_inside here (λ z. some (no-initial row n here z))) (declaration-undefined s i h row here);
      return_inside = λ r. let inside = p.return_inside (rw (number-held h row n) at r) in record { definition = ρ inside.definition; within = within_held inside.within };
    }
