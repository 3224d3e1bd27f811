-- Few parameters: no function has more than 64. In the source parameters count with the declarations; in the kernel each names a word of its
-- own among those of the declarations.
use Rattle.std.specs.Prelude.{◌≡◌, refl, true, List, ℕ, ◌+◌, ◌≤◌, ◌<◌, ℤ}
use Rattle.std.proofs.Common.{sym}
use native.Mathlib.Omega.{arith}
use Rattle.std.proofs.Math.Decide.{ℕ_discrete}
use Rattle.words.specs.Table.{row_count, number_at}
use Rattle.words.specs.Links.{link}
use Rattle.words.specs.Declarations.{declarations_before, declaration_count}
use Rattle.check_structure.specs.NoteLaws.{above_zero}
use Rattle.check_structure.specs.Structured.{Leads}
use Rattle.check_structure.specs.Lists.{Before, adjacent, further}
use Rattle.names.proofs.ScopeLaws.{before-later}
use Rattle.check_declaration_causes.specs.Demands.{NotTwice}
use Rattle.check_function_causes.specs.Functions.{is_definition}
use Rattle.check_function_causes.specs.Demands.{Listed, ended, counted}
use Rattle.check_parameter_causes.specs.Demands.{Parameter, first_parameter, next_parameter}
use Rattle.language.specs.Decode.{parameter_list_at}
use Rattle.accepted_calls.specs.Tables.{FunctionTable, FewParameters}
use Rattle.accepted_calls.proofs.Counts.{parameter-inside, parameter-list, parameters-counted}
use Rattle.accepted_calls.specs.Distinct.{Each, Distinct, few-distinct}

module _ (rows : List ℤ) (table : FunctionTable rows) where
  none-listed : {row count : ℕ} → Listed rows row count → row ≡ 0 → count ≡ 0
  none-listed ended z = refl
  none-listed (counted p rest) z = absurd (omega arith)

  first_of : (definition : ℕ) → definition < row_count rows → is_definition rows definition ≡ true → 0 < link rows definition 2 → Parameter rows definition (link rows definition 2)
  first_of definition n d p = first_parameter d (table.tree.forward definition 2 n (omega arith) p)

  next-leads : {definition row : ℕ} → Parameter rows definition row → 0 < link rows row 5 → Leads rows row 5
  next-leads {definition} {row} own p = table.tree.forward row 5 (parameter-inside rows table definition own) (omega arith) p

  -- ---- in the source: each is a declaration, later than the one before

  declared : {definition row count : ℕ} → Listed rows row count → 0 < row → Parameter rows definition row → declarations_before rows row + count ≤ declaration_count rows
  unfolding declaration_count
  declared ended p own = absurd (omega arith)
  declared {definition} (counted {row} {count} q rest) p own =
      let d = table.links.parameter definition row own in
      go (ℕ_discrete (link rows row 5) 0)
      (before-later rows row (row_count rows) d (parameter-inside rows table definition own))
      (λ s. let leads = next-leads own s in (before-later rows row (link rows row 5) d leads.later, declared rest s (next_parameter own leads)))
    where
      go : Dec (link rows row 5 ≡ 0) → declarations_before rows row < declarations_before rows (row_count rows)
          → (0 < link rows row 5 → (declarations_before rows row < declarations_before rows (link rows row 5)) × (declarations_before rows (link rows row 5) + count ≤ declarations_before rows (row_count rows)))
          → declarations_before rows row + (count + 1) ≤ declarations_before rows (row_count rows)
      go (yes z) last onward = let none = none-listed rest z in omega arith
      go (no z) last onward = let both = onward (above_zero _ z) in omega (arith, both.0, both.1)

  -- "at most 64"
  pub few_declared : declaration_count rows ≤ 64 → FewParameters rows
  few_declared most definition count n d listed = go (ℕ_discrete (link rows definition 2) 0)
    where
      go : Dec (link rows definition 2 ≡ 0) → count ≤ 64
      go (yes z) = let none = none-listed listed z in omega arith
      go (no z) = let p = above_zero _ z in omega (arith, declared listed p (first_of definition n d p))

  -- ---- in the kernel: each names a word of its own

  module _ (from words : ℕ) (not_twice : (row : ℕ) → row < row_count rows → NotTwice rows row)
      (within : (definition row : ℕ) → Parameter rows definition row → (from ≤ number_at rows row 1) × (number_at rows row 1 < from + words)) where
    -- the words behind a parameter are others
    others : {definition earlier row count : ℕ} → Parameter rows definition earlier → Listed rows row count → (0 < row → Parameter rows definition row × Before rows earlier row) → Each (λ y. y ≡ number_at rows earlier 1 → ⊥) (parameter_list_at rows row)
    others before ended own = tt
    others {definition} {earlier} before (counted {row} {count} p rest) own =
        let here = (own p).0 in
        rw (parameter-list rows table definition row p here) (
          λ e. not_twice row (parameter-inside rows table definition here) (table.links.parameter definition row here) earlier (own p).1 (table.links.parameter definition earlier before) (sym e),
          others before rest (λ s. let leads = next-leads here s in (next_parameter here leads, further (own p).1 leads)),
        )

    record Worded (row : ℕ) : Type 0 where
      least : Each (λ x. from ≤ x) (parameter_list_at rows row)
      most : Each (λ x. x < from + words) (parameter_list_at rows row)
      apart : Distinct (parameter_list_at rows row)

    worded : {definition row count : ℕ} → Listed rows row count → (0 < row → Parameter rows definition row) → Worded row
    worded ended own = record { least = tt; most = tt; apart = tt }
    worded {definition} (counted {row} {count} p rest) own =
        let here = own p in
        let onward = worded rest (λ s. next_parameter here (next-leads here s)) in
        let list = parameter-list rows table definition row p here in
        record {
          least = rw list ((within definition row here).0, onward.least);
          most = rw list ((within definition row here).1, onward.most);
          apart = rw list (others here rest (λ s. let leads = next-leads here s in (next_parameter here leads, adjacent leads)), onward.apart);
        }

    pub few-worded : words ≤ 64 → FewParameters rows
    few-worded most definition count n d listed =
        let own = first_of definition n d in
        let w = worded listed own in
        let few = few-distinct from words (parameter_list_at rows (link rows definition 2)) w.least w.most w.apart in
        let all = parameters-counted rows table definition listed own in
        omega arith
