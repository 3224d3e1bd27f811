-- Carried places: where another table holds the rows of a table, each at its place, with their kinds and links, what legality says of a
-- row's place holds there. So of the resolved table, in which every row has its own place.
use Rattle.std.specs.Prelude.{◌≡◌, Bool, true, List, ℕ, ◌<◌, ℤ}
use Rattle.std.proofs.Common.{sym, ◌∙◌, arith}
use Rattle.std.proofs.Math.Path.{subst}
use Rattle.words.specs.Table.{row_count, number_at}
use Rattle.words.specs.Links.{link}
use Rattle.check_structure.specs.Structured.{Leads}
use Rattle.words.specs.Declarations.{is_declaration}
use Rattle.names.specs.Names.{resolved}
use Rattle.names.proofs.ResolvedLaws.{resolved-kept, resolved-kind, resolved-link, resolved-count, resolved-leads}
use Rattle.check_items.specs.Items.{ListItem, first, next}
use Rattle.check_function_causes.specs.Functions.{is_definition, is_return}
use Rattle.check_function_causes.specs.Demands.{Within, function_part, function_along}
use Rattle.check_source.specs.Legal.{Inside, part, along, PlacedRow}

-- Row r of the table `rows` is row ρ r of the table `other`, and so are the rows that it links.
pub record Carries (other rows : List ℤ) (ρ : ℕ → ℕ) : Type 0 where
  pub kind : (row : ℕ) → row < row_count rows → number_at other (ρ row) 0 ≡ number_at rows row 0
  pub leads : (row field : ℕ) → field < 6 → Leads rows row field → Leads other (ρ row) field
  pub to : (row field : ℕ) → field < 6 → Leads rows row field → link other (ρ row) field ≡ ρ (link rows row field)
  pub initial : (row : ℕ) → row < row_count rows → is_declaration rows row ≡ true → number_at rows row 2 ≡ 0 → number_at other (ρ row) 2 ≡ 0

module _ {other rows : List ℤ} {ρ : ℕ → ℕ} (c : Carries other rows ρ) where
  inside-carried : (kinds : ℕ → Bool) {row : ℕ} → Inside rows kinds row → Inside other kinds (ρ row)
  inside-carried kinds (part {row} {field} f leads k) =
      let later = leads.later in
      let below = leads.inside in
      subst (Inside other kinds) (c.to row field (omega arith) leads) (part f (c.leads row field (omega arith) leads) (rw (c.kind row (omega arith)) k))
  inside-carried kinds (along {row} {field} f leads i) = subst (Inside other kinds) (c.to row field f leads) (along f (c.leads row field f leads) (inside-carried kinds i))

  item-carried : (kind start : ℕ) → start < 6 → {row : ℕ} → ListItem rows kind start row → ListItem other kind start (ρ row)
  item-carried kind start f (first {row} k leads) =
      let later = leads.later in
      let below = leads.inside in
      subst (ListItem other kind start) (c.to row start f leads) (first (c.kind row (omega arith) ∙ k) (c.leads row start f leads))
  item-carried kind start f (next {row} leads i) =
      subst (ListItem other kind start) (c.to row 5 (omega arith) leads) (next (c.leads row 5 (omega arith) leads) (item-carried kind start f i))

  within-carried : {definition : ℕ} {row : ℕ} → Within rows definition row → Within other (ρ definition) (ρ row)
  unfolding is_definition
  within-carried {definition} (function_part {field} f d leads) =
      let later = leads.later in
      let below = leads.inside in
      subst (Within other (ρ definition)) (c.to definition field (omega arith) leads) (function_part f (rw (c.kind definition (omega arith)) d) (c.leads definition field (omega arith) leads))
  within-carried {definition} (function_along {row} {field} f leads w) = subst (Within other (ρ definition)) (c.to row field f leads) (function_along f (c.leads row field f leads) (within-carried w))

  pub placed-carried : (row : ℕ) → row < row_count rows → PlacedRow rows row → PlacedRow other (ρ row)
  unfolding is_declaration is_return
  placed-carried row n p = record {
    break_inside = λ k. inside-carried _ (p.break_inside (sym (c.kind row n) ∙ k));
    continue_inside = λ k. inside-carried _ (p.continue_inside (sym (c.kind row n) ∙ k));
    mark_inside = λ k. item-carried 47 2 (omega arith) (p.mark_inside (rw (c.kind row n) at k));
    declaration_inside = λ d initial. item-carried 42 1 (omega arith) (p.declaration_inside (rw (c.kind row n) at d) (λ z. initial (c.initial row n (rw (c.kind row n) at d) z)));
    return_inside = λ r. let inside = p.return_inside (rw (c.kind row n) at r) in record { definition = ρ inside.definition; within = within-carried inside.within };
  }

-- ---- the resolved table

resolved-second : (S : ℕ) (rows : List ℤ) (row : ℕ) → number_at (resolved S rows) row 2 ≡ number_at rows row 2
unfolding number_at
resolved-second S rows row = rw (resolved-kept S rows row 2 (omega arith) (λ q. omega arith))

module _ (S : ℕ) (rows : List ℤ) where
  resolved-carries : Carries (resolved S rows) rows (λ row. row)
  resolved-carries = record {
    kind = λ row n. resolved-kind S rows row;
    leads = λ row field f leads. (resolved-leads S rows f).0 leads;
    to = λ row field f leads. resolved-link S rows row field f;
    initial = λ row n d z. resolved-second S rows row ∙ z;
  }

  pub resolved-placed : ((row : ℕ) → row < row_count rows → PlacedRow rows row) → (row : ℕ) → row < row_count (resolved S rows) → PlacedRow (resolved S rows) row
  resolved-placed placed row n = let inside = rw (resolved-count S rows) at n in placed-carried resolved-carries row inside (placed row inside)
