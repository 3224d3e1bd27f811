-- The seams of a join: the list of the new block, which are the definitions of both programs and their blocks; and where these begin.
use Rattle.std.specs.Prelude.{◌≡◌, true, List, ℤ, pos, get_or}
use Rattle.std.proofs.Math.Path.{refl, sym}
use Rattle.std.proofs.Common.{◌∙◌}
use Prim.Native.Nat.{ℕ, zero, suc, ◌+◌, ◌≤◌, ◌<◌}
use native.Mathlib.Omega.{arith}
use Rattle.words.specs.Word.{natural}
use Rattle.words.specs.Table.{row_count, Whole, number_at}
use Rattle.words.specs.Kinds.{is_link}
use Rattle.words.specs.Links.{link}
use Rattle.words.specs.declared.Form.{Form}
use Rattle.check_grammar.specs.GrammarLaws.{zero-links-none}
use Rattle.check_structure.specs.Structured.{Structured}
use Rattle.check_fields.specs.declared.Bounds.{Bounds}
use Rattle.check_function_causes.specs.Functions.{is_definition}
use Rattle.check_function_causes.specs.Demands.{behind}
use Rattle.join.specs.Join.{before, first_item, front_of, outer_block, joined_rows}
use Rattle.join.specs.Moved.{InOrder, moved_link, Holds}
use Rattle.join.proofs.Kept.{Ordered, ordered, root-other}
use Rattle.join.proofs.MovedLaws.{link-is, number-held}
use Rattle.join.proofs.Placements.{block-next, block-first, definition-next, place_other, placed-definition, placed-after, place-some, placed-number, holds, Stands}
use Rattle.join.proofs.JoinedRows.{of_first, of_second, first_place, second_place, first-behind, second-behind, first-after, second-after, count-joined, outer-number, first-stands, second-stands, every-row as every-place}

module _ {form : Form} {bounds : Bounds} (first second : List ℤ) (s : Structured form bounds first) (z : Structured form bounds second) (p : InOrder first) (q : InOrder second) where
  abbrev joined : List ℤ
  joined = joined_rows first second

  -- The new number of a row.
  abbrev ρ : ℕ → ℕ
  ρ = first_place first second

  abbrev ρ' : ℕ → ℕ
  ρ' = second_place first second

  pub ordered-first : Ordered first
  ordered-first = ordered s p

  pub ordered-second : Ordered second
  ordered-second = ordered z q

  pub whole_first : Whole first
  whole_first = sym ordered-first.tree.whole

  pub whole_second : Whole second
  whole_second = sym ordered-second.tree.whole

  pub some_first : 0 < row_count first
  some_first = ordered-first.tree.some_rows

  pub some-second : 0 < row_count second
  some-second = ordered-second.tree.some_rows

  pub count : row_count joined ≡ 1 + row_count first + row_count second
  count = count-joined first second whole_first whole_second

  pub stands-first : Stands (of_first first second) first joined
  stands-first = first-stands first second whole_first whole_second

  pub stands-second : Stands (of_second first second) second joined
  stands-second = second-stands first second whole_first whole_second

  pub holds-first : Holds joined first ρ (λ f. (of_first first second).functions + f)
  holds-first = holds (of_first first second) first ordered-first s.block stands-first

  pub holds-second : Holds joined second ρ' (λ f. (of_second first second).functions + f)
  holds-second = holds (of_second first second) second ordered-second z.block stands-second

  pub every-row : (P : ℕ → Type 0) → P 0 → ((r : ℕ) → r < row_count first → P (ρ r)) → ((r : ℕ) → r < row_count second → P (ρ' r)) → (row : ℕ) → row < row_count joined → P row
  every-row = every-place first second whole_first whole_second

  pub some-place : (row : ℕ) → row < row_count first → 0 < ρ row
  some-place = place-some (of_first first second) first ordered-first s.block stands-first

  pub second-place : (row : ℕ) → row < row_count second → 0 < ρ' row
  second-place = place-some (of_second first second) second ordered-second z.block stands-second

  -- ---- the new block

  pub outer-block : number_at joined 0 0 ≡ 42
  unfolding natural outer_block
  outer-block = outer-number first second whole_first whole_second 0 (omega arith)

  pub outer-first : link joined 0 1 ≡ front_of (of_first first second) first (link first 0 1)
  unfolding natural outer_block is_link
  outer-first = link-is joined 0 1 (rw (block-first joined 0 outer-block)) ∙ outer-number first second whole_first whole_second 1 (omega arith)

  pub outer-rest : (field : ℕ) → 2 ≤ field → field < 6 → number_at joined 0 field ≡ 0
  unfolding natural outer_block
  outer-rest field least most = outer-number first second whole_first whole_second field most ∙ go field least most
    where
      go : (field : ℕ) → 2 ≤ field → field < 6 → natural (get_or (outer_block (front_of (of_first first second) first (link first 0 1))) field (pos 0)) ≡ 0
      go zero least most = absurd (omega arith)
      go (suc zero) least most = absurd (omega arith)
      go (suc (suc zero)) least most = refl
      go (suc (suc (suc zero))) least most = refl
      go (suc (suc (suc (suc zero)))) least most = refl
      go (suc (suc (suc (suc (suc zero))))) least most = refl
      go (suc (suc (suc (suc (suc (suc field)))))) least most = absurd (omega arith)

  -- ---- the seams

  pub block-of-first : number_at joined (ρ 0) 0 ≡ 42
  block-of-first = number-held holds-first 0 some_first ∙ s.block

  pub block-of-second : number_at joined (ρ' 0) 0 ≡ 42
  block-of-second = number-held holds-second 0 some-second ∙ z.block

  -- row 0 is the first of the other rows
  pub root-of-first : ρ 0 ≡ (of_first first second).others
  unfolding before
  root-of-first = place_other (of_first first second) first 0 (root-other ordered-first) ∙ (let e : (of_first first second).others + 0 ≡ (of_first first second).others = omega arith in e)

  pub root-of-second : ρ' 0 ≡ (of_second first second).others
  unfolding before
  root-of-second = place_other (of_second first second) second 0 (root-other ordered-second) ∙ (let e : (of_second first second).others + 0 ≡ (of_second first second).others = omega arith in e)

  -- the first's block is followed by the second's, which is the last
  pub block-seam : link joined (ρ 0) 5 ≡ ρ' 0
  unfolding is_link
  block-seam =
      link-is joined (ρ 0) 5 (rw (block-next joined (ρ 0) block-of-first))
      ∙ placed-number (of_first first second) first ordered-first s.block stands-first 0 5 some_first (omega arith) (rw (block-next first 0 s.block))
      ∙ placed-after (of_first first second) first ordered-first.root ∙ first-after first second ∙ sym root-of-second

  pub last-number : number_at joined (ρ' 0) 5 ≡ 0
  unfolding is_link
  last-number =
      placed-number (of_second first second) second ordered-second z.block stands-second 0 5 some-second (omega arith) (rw (block-next second 0 z.block))
      ∙ placed-after (of_second first second) second ordered-second.root ∙ second-after first second

  pub no-seam : link joined (ρ' 0) 5 ≡ 0
  no-seam = zero-links-none joined (ρ' 0) 5 last-number

  -- the blocks begin behind the definitions
  pub items-of-first : link joined (ρ 0) 1 ≡ moved_link ρ (first_item first)
  unfolding is_link
  items-of-first = link-is joined (ρ 0) 1 (rw (block-first joined (ρ 0) block-of-first)) ∙ holds-first.begins

  pub items-of-second : link joined (ρ' 0) 1 ≡ moved_link ρ' (first_item second)
  unfolding is_link
  items-of-second = link-is joined (ρ' 0) 1 (rw (block-first joined (ρ' 0) block-of-second)) ∙ holds-second.begins

  -- a definition is followed by the next, or by what stands behind the program's definitions
  pub next-of-first : (row : ℕ) → row < row_count first → is_definition first row ≡ true → link joined (ρ row) 5 ≡ front_of (of_first first second) first (link first row 5)
  unfolding is_link is_definition
  next-of-first row n d =
      link-is joined (ρ row) 5 (rw (definition-next joined (ρ row) (rw (number-held holds-first row n) d)))
      ∙ placed-number (of_first first second) first ordered-first s.block stands-first row 5 n (omega arith) (rw (definition-next first row d))
      ∙ placed-definition (of_first first second) first row d

  pub next-of-second : (row : ℕ) → row < row_count second → is_definition second row ≡ true → link joined (ρ' row) 5 ≡ front_of (of_second first second) second (link second row 5)
  unfolding is_link is_definition
  next-of-second row n d =
      link-is joined (ρ' row) 5 (rw (definition-next joined (ρ' row) (rw (number-held holds-second row n) d)))
      ∙ placed-number (of_second first second) second ordered-second z.block stands-second row 5 n (omega arith) (rw (definition-next second row d))
      ∙ placed-definition (of_second first second) second row d

  -- behind the first's definitions stand the second's, and behind these the first's block
  pub behind-first : (of_first first second).behind ≡ front_of (of_second first second) second (link second 0 1)
  behind-first = first-behind first second

  pub behind-second : (of_second first second).behind ≡ ρ 0
  behind-second = second-behind first second ∙ sym root-of-first
