-- Behind: a call stands at a later row than the number of its function. Every row is the root, a definition at the front, a row of a function, or
-- one behind all the definitions: so the call is behind the definition of its function, or of a higher one.
use Rattle.std.specs.Prelude.{◌≡◌, refl, true, false, List, ℤ}
use Rattle.std.proofs.Common.{sym, ap, subst, ◌∙◌, true≢false, arith, eqb-true}
use Prim.Native.Nat.{ℕ, zero, suc, ◌+◌, ◌≤◌, ◌<◌}
use Rattle.std.proofs.Math.Decide.{ℕ_discrete, dec_lt}
use Rattle.words.specs.Table.{row_count, number_at}
use Rattle.words.specs.Kinds.{kinds, kind_in, kind_of, kind_at, sort_at, sort_of, sort_in, is_link, kind_row, statement_fields}
use Rattle.words.specs.Laws.{by_cases}
use Rattle.words.specs.Links.{link}
use Rattle.words.specs.declared.Kind.TheVariants.{OfExpression}
use Rattle.words.specs.declared.ExpressionKind.TheVariants.{Call}
use Rattle.check_structure.specs.Structured.{Leads}
use Rattle.check_structure.specs.LinkLaws.{by-owner}
use Rattle.check_function_causes.specs.Functions.{is_definition, is_call, function_at}
use Rattle.check_function_causes.specs.Demands.{InFront, foremost, behind, Within, function_part, function_along, Called}
use Rattle.check_function_causes.proofs.FrontLaws.{front-defines, front-later, front-function}
use Rattle.check_function_causes.proofs.AroundLaws.{within-defines}
use Rattle.accepted_calls.specs.Tables.{FunctionTable}
use Rattle.accepted_calls.specs.Kinds.{kind-call}
use Rattle.accepted_calls.proofs.Front.{root}

module _ (rows : List ℤ) where
  first-defines : {row place : ℕ} → InFront rows row place → is_definition rows (link rows 0 1) ≡ true
  first-defines (foremost leads d) = d
  first-defines (behind f leads d) = first-defines f

  same_place : {row other place there : ℕ} → InFront rows row place → InFront rows other there → there ≡ place → other ≡ row
  same_place f g e = sym (front-function rows g) ∙ ap (function_at rows) e ∙ front-function rows f

  -- a lower place is at an earlier row
  front_ordered : {row other place there : ℕ} → InFront rows row place → InFront rows other there → there ≤ place → other ≤ row
  front_ordered (foremost leads d) g h = let same = same_place (foremost leads d) g (omega arith) in omega arith
  front_ordered {other = other} {there = there} (behind {row} {place} f leads d) g h = go (ℕ_discrete there (place + 1)) (λ least. front_ordered f g least)
    where
      go : Dec (there ≡ place + 1) → (there ≤ place → other ≤ row) → other ≤ link rows row 5
      go (yes e) before = let same = same_place (behind f leads d) g e in omega arith
      go (no e) before = let earlier = before (omega (arith, e)) in let l = leads.later in omega arith

  -- none stands behind the last
  none-later : {row other place there : ℕ} → InFront rows row place → is_definition rows (link rows row 5) ≡ false → InFront rows other there → place < there → ⊥
  none-later f last (foremost leads d) h = absurd (omega arith)
  none-later {row} {place = place} f last (behind {row = before} {place = there} g leads d) h = go (ℕ_discrete there place) (λ more. none-later f last g more)
    where
      go : Dec (there ≡ place) → (place < there → ⊥) → ⊥
      go (yes e) earlier = true≢false (sym d ∙ ap (λ (x : ℕ). is_definition rows (link rows x 5)) (same_place f g e) ∙ last)
      go (no e) earlier = earlier (omega (arith, e))

  within-later : {definition row : ℕ} → Within rows definition row → definition < row
  within-later (function_part h d leads) = leads.later
  within-later (function_along h leads w) = let earlier = within-later w in let l = leads.later in omega arith

  -- How a row stands to the definitions at the front.
  data Stands (row : ℕ) : Type 0 where
    at-root : row ≡ 0 → Stands row
    at_front : (place : ℕ) → InFront rows row place → Stands row
    inside : (definition : ℕ) → Within rows definition row → Stands row
    past : ((definition place : ℕ) → InFront rows definition place → definition < row) → Stands row

module _ (rows : List ℤ) (table : FunctionTable rows) (lone : number_at rows 0 5 ≡ 0) where
  -- "Row 0 is a block with next 0": it links its first item alone.
  root-links : (field : ℕ) → (field ≡ 1 → ⊥) → field < 6 → link rows 0 field ≡ 0
  unfolding link sort_at sort_of sort_in kind_of kind_in kinds kind_row statement_fields is_link
  root-links zero apart last = rw table.block
  root-links (suc zero) apart last = absurd (apart refl)
  root-links (suc (suc zero)) apart last = rw table.block
  root-links (suc (suc (suc zero))) apart last = rw table.block
  root-links (suc (suc (suc (suc zero)))) apart last = rw table.block
  root-links (suc (suc (suc (suc (suc zero))))) apart last = rw table.block lone
  root-links (suc (suc (suc (suc (suc (suc field)))))) apart last = absurd (omega arith)

  from-root : (field : ℕ) → field < 6 → Leads rows 0 field → Stands rows (link rows 0 field)
  from-root field last leads = go (ℕ_discrete field 1)
    where
      first : Leads rows 0 1 → Stands rows (link rows 0 1)
      first l =
          by_cases (is_definition rows (link rows 0 1))
          (λ d. at_front 0 (foremost l d))
          (λ d. past (λ definition place f. absurd (true≢false (sym (first-defines rows f) ∙ d))))

      go : Dec (field ≡ 1) → Stands rows (link rows 0 field)
      go (yes e) = subst (λ (x : ℕ). Stands rows (link rows 0 x)) (sym e) (first (subst (λ (x : ℕ). Leads rows 0 x) e leads))
      go (no e) = absurd (let l = leads.later in let none = root-links field e last in omega arith)

  along : (owner field : ℕ) → field < 6 → Leads rows owner field → Stands rows owner → Stands rows (link rows owner field)
  along owner field last leads (at-root z) = subst (λ (x : ℕ). Stands rows (link rows x field)) (sym z) (from-root field last (subst (λ (x : ℕ). Leads rows x field) z leads))
  along owner field last leads (at_front place f) = go (ℕ_discrete field 5)
    where
      next : Leads rows owner 5 → Stands rows (link rows owner 5)
      next l =
          by_cases (is_definition rows (link rows owner 5))
          (λ d. at_front (place + 1) (behind f l d))
          (λ d. past (λ definition there g.
          let up_to : there ≤ place = by_most there g d in
          let earlier = front_ordered rows f g up_to in
          let onward = l.later in
          omega arith))
        where
          by_most : (there : ℕ) → {definition : ℕ} → InFront rows definition there → is_definition rows (link rows owner 5) ≡ false → there ≤ place
          by_most there g d = le-or (dec_lt place there)
            where
              le-or : Dec (place < there) → there ≤ place
              le-or (yes h) = absurd (none-later rows f d g h)
              le-or (no h) = omega (arith, h)

      go : Dec (field ≡ 5) → Stands rows (link rows owner field)
      go (yes e) = subst (λ (x : ℕ). Stands rows (link rows owner x)) (sym e) (next (subst (λ (x : ℕ). Leads rows owner x) e leads))
      go (no e) = inside owner (function_part {field = field} (omega (arith, e)) (front-defines rows f) leads)
  along owner field last leads (inside definition w) = inside definition (function_along last leads w)
  along owner field last leads (past before) = past (λ definition place f. let earlier = before definition place f in let onward = leads.later in omega arith)

  pub call-behind : (row : ℕ) → row < row_count rows → kind_at rows row ≡ OfExpression Call → number_at rows row 1 < row
  unfolding is_call is_definition
  call-behind row n k = go (by-owner rows table.tree (Stands rows) (at-root refl) along row n)
    where
      called : Called rows row
      called = table.well_called.called row n (kind-call rows row k)

      number : number_at rows row 0 ≡ 31
      number = eqb-true (number_at rows row 0) 31 (kind-call rows row k)

      before : number_at rows row 1 < called.definition
      before = front-later rows called.function

      go : Stands rows row → number_at rows row 1 < row
      go (at-root z) = absurd (let block = table.block in let same : number_at rows row 0 ≡ number_at rows 0 0 = ap (λ (x : ℕ). number_at rows x 0) z in omega (arith, number))
      go (at_front place f) = absurd (let defines = eqb-true (number_at rows row 0) 59 (front-defines rows f) in omega (arith, number))
      go (inside definition w) =
          let later = within-later rows w in
          let own = table.well_called.in_order definition (omega arith) (within-defines rows table.tree (root rows table) w) in
          let lower = called.lower definition w in
          let place = front-later rows own in
          omega arith
      go (past b) = let later = b called.definition _ called.function in omega (arith, before)
