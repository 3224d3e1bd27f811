-- Laws of two tables with the same links: what is said along the links of one holds of the other; so do the roles of rows.
use Rattle.std.specs.Prelude.{◌≡◌, List, ℤ, eqb, length}
use Rattle.std.proofs.Math.Path.{refl}
use Rattle.std.proofs.Common.{sym, ap, subst, ◌∙◌, true≢false, arith}
use Prim.Native.Nat.{ℕ, zero, suc, ◌+◌, ◌*◌, ◌/◌, ◌%◌, ◌<◌}
use Rattle.words.specs.Table.{row_count, number_at}
use Rattle.words.specs.Laws.{by_cases}
use Rattle.words.specs.Links.{link, target}
use Rattle.words.specs.Kinds.{sort_at}
use Rattle.words.specs.Declarations.{is_declaration}
use Rattle.words_roles.specs.Roles.{is_definition, is_parameter, role_sort}
use Rattle.words_roles.specs.Demands.{AsParameter, by_definition, by_parameter}
use Rattle.words_roles.proofs.RoleLaws.{is-parameter, parameter-is}
use Rattle.check_structure.specs.Links.{links_among, link_count}
use Rattle.check_structure.specs.Structured.{Leads, Depth, root, owned, beside, Tree}
use Rattle.check_structure.specs.Lists.{Before, adjacent, further}

module _ (rows other : List ℤ) (same_length : length other ≡ length rows) (same-links : (row field : ℕ) → field < 6 → link other row field ≡ link rows row field) where
  pub same_count : row_count other ≡ row_count rows
  same_count = ap (λ (n : ℕ). n / 6) same_length

  same-among : (words row : ℕ) → links_among other words row ≡ links_among rows words row
  unfolding links_among target
  same-among zero row = refl
  same-among (suc word) row = rw (same-among word row, same-links (word / 6) (word % 6) (omega arith))

  pub same-link-count : (row : ℕ) → link_count other row ≡ link_count rows row
  unfolding link_count
  same-link-count row = rw (same_count) (same-among (6 * row_count rows) row)

  pub same-leads : {row field : ℕ} → field < 6 → Leads rows row field → Leads other row field
  same-leads {row} {field} h leads = record { later = rw (same-links row field h) leads.later; inside = rw (same-links row field h, same_count) leads.inside }

  pub same_tree : Tree rows → Tree other
  same_tree t =
      record {
        whole = rw (same_length) t.whole;
        few = rw (same_length) t.few;
        some_rows = rw (same_length) t.some_rows;
        once = λ row p n. same-link-count row ∙ t.once row p (rw (same_count) at n);
        forward = λ row field n h l. same-leads h (t.forward row field (rw (same_count) at n) h (rw (same-links row field h) at l));
      }

  pub same-depth : {row depth : ℕ} → Depth rows row depth → Depth other row depth
  same-depth root = root
  same-depth (owned {row} {field} {depth} h leads d) = subst (λ r. Depth other r (depth + 1)) (same-links row field (omega arith)) (owned h (same-leads (omega arith) leads) (same-depth d))
  same-depth (beside {row} {depth} leads d) = subst (λ r. Depth other r depth) (same-links row 5 (omega arith)) (beside (same-leads (omega arith) leads) (same-depth d))

  pub same-before : {item row : ℕ} → Before rows item row → Before other item row
  same-before (adjacent {item} leads) = subst (Before other item) (same-links item 5 (omega arith)) (adjacent (same-leads (omega arith) leads))
  same-before (further {item} {row} b leads) = subst (Before other item) (same-links row 5 (omega arith)) (further (same-before b) (same-leads (omega arith) leads))

-- ---- roles: of tables with the same kinds, the same b and the same next

as-parameter : (rows other : List ℤ) → ((row : ℕ) → number_at other row 0 ≡ number_at rows row 0) → ((row : ℕ) → number_at other row 2 ≡ number_at rows row 2) → ((row : ℕ) → number_at other row 5 ≡ number_at rows row 5)
    → {row : ℕ} → AsParameter rows row → AsParameter other row
unfolding is_declaration is_definition
as-parameter rows other kinds second next (by_definition {owner} {row} l d f e) =
    by_definition l (ap (λ (k : ℕ). eqb k 58) (kinds row) ∙ d) (ap (λ (k : ℕ). eqb k 59) (kinds owner) ∙ f) (second owner ∙ e)
as-parameter rows other kinds second next (by_parameter {owner} {row} l d p e) =
    by_parameter l (ap (λ (k : ℕ). eqb k 58) (kinds row) ∙ d) (as-parameter rows other kinds second next p) (next owner ∙ e)

module _ (rows other : List ℤ) (kinds : (row : ℕ) → number_at other row 0 ≡ number_at rows row 0) (second : (row : ℕ) → number_at other row 2 ≡ number_at rows row 2) (next : (row : ℕ) → number_at other row 5 ≡ number_at rows row 5) where
  pub same-parameter : (row : ℕ) → is_parameter other row ≡ is_parameter rows row
  same-parameter row =
      by_cases (is_parameter rows row)
      (λ p. parameter-is other row (as-parameter rows other kinds second next (is-parameter rows row p)) ∙ sym p)
      (λ p. by_cases (is_parameter other row)
      (λ q. absurd (true≢false (sym (parameter-is rows row (as-parameter other rows (λ r. sym (kinds r)) (λ r. sym (second r)) (λ r. sym (next r)) (is-parameter other row q))) ∙ p)))
      (λ q. q ∙ sym p))

  pub same-role : (row field : ℕ) → role_sort other row field ≡ role_sort rows row field
  unfolding role_sort sort_at
  same-role row field = rw (same-parameter row, kinds row)
