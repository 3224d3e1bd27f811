-- The joined program: the tree of a table that holds two programs as a join does, whatever its names are resolved to.
use Rattle.std.specs.Prelude.{◌≡◌, refl, true, List, ℕ, ◌<◌, ℤ}
use Rattle.std.proofs.Math.Path.{sym, ap}
use Rattle.std.proofs.Common.{◌∙◌, arith}
use Rattle.words.specs.Word.{pick}
use Rattle.words.specs.Table.{row_count, Whole, number_at}
use Rattle.words.specs.Kinds.{is_link, is_statement_kind}
use Rattle.words.specs.Links.{link}
use Rattle.words.specs.declared.Form.{Form}
use Rattle.language.specs.Trees.{block, Items, none, ◌then◌, ◌here◌, define}
use Rattle.language.specs.Decode.{list_at, decode}
use Rattle.language.specs.DecodeLaws.{at_block, at_item}
use Rattle.language.specs.Program.{contents}
use Rattle.language_renaming.specs.Renaming.{renamed_items}
use Rattle.check_fields.specs.declared.Bounds.{Bounds}
use Rattle.check_structure.specs.Structured.{Structured}
use Rattle.check_function_causes.specs.Functions.{is_definition}
use Rattle.join.specs.Join.{front_of, joined_rows}
use Rattle.join.specs.Moved.{InOrder, HoldsRenamed}
use Rattle.join.proofs.MovedLaws.{link-is, definition-held}
use Rattle.join.proofs.MovedFronts.{block-kind, list-some, head-items, block-items}
use Rattle.join.proofs.Placements.{block-next, block-first, definition-next}
use Rattle.join.proofs.JoinedRows.{of_first, first_place, second_place}
use Rattle.join.proofs.JoinedSeams.{holds-first, holds-second, some-place, second-place, outer-block, outer-first, block-of-first, block-of-second, block-seam, last-number, next-of-first, next-of-second, behind-first, behind-second}
use Rattle.join.proofs.JoinedFront.{outer-leads, blocks-later, next-first-leads, next-second-leads}
use Rattle.join.specs.JoinedTrees.{front_then, behind_front, joined_items}

-- The words of a program's front in another table: definitions follow each other, and the last one is followed by this row.
pub record Follows (table rows : List ℤ) (ρ : ℕ → ℕ) (last : ℕ) : Type 0 where
  pub above : (row : ℕ) → row < row_count rows → 0 < ρ row
  pub goes : (row : ℕ) → row < row_count rows → is_definition rows row ≡ true → number_at table (ρ row) 5 ≡ pick (is_definition rows (link rows row 5)) (ρ (link rows row 5)) last
  pub on : (row : ℕ) → row < row_count rows → is_definition rows row ≡ true → ρ row < number_at table (ρ row) 5

-- The words at the seams of a join: the list of row 0.
pub record Seams (table first second : List ℤ) (ρ ρ' : ℕ → ℕ) : Type 0 where
  pub whole : Whole table
  pub outer : number_at table 0 0 ≡ 42
  -- the definitions of both
  pub behind : ℕ
  pub head : number_at table 0 1 ≡ pick (is_definition first (link first 0 1)) (ρ (link first 0 1)) behind
  pub head_later : 0 < number_at table 0 1
  pub behind_is : behind ≡ pick (is_definition second (link second 0 1)) (ρ' (link second 0 1)) (ρ 0)
  pub of-first : Follows table first ρ behind
  pub of-second : Follows table second ρ' (ρ 0)
  -- then their blocks
  pub first_block : number_at table (ρ 0) 0 ≡ 42
  pub next_block : number_at table (ρ 0) 5 ≡ ρ' 0
  pub later : ρ 0 < ρ' 0
  pub second_block : number_at table (ρ' 0) 0 ≡ 42
  pub last : number_at table (ρ' 0) 5 ≡ 0

behind-renamed : (π φ : ℕ → ℕ) (is : Items) → behind_front (renamed_items π φ is) ≡ renamed_items π φ (behind_front is)
unfolding renamed_items behind_front
behind-renamed π φ none = refl
behind-renamed π φ (s then is) = refl
behind-renamed π φ (m here is) = refl
behind-renamed π φ (define f words body is) = behind-renamed π φ is

module _ {form : Form} {bounds bounds' : Bounds} {π φ π' φ' : ℕ → ℕ} {table first second : List ℤ} {ρ ρ' : ℕ → ℕ} (s : Structured form bounds first) (z : Structured form bounds' second) (p : InOrder first) (q : InOrder second)
    (h : HoldsRenamed π φ table first ρ) (h' : HoldsRenamed π' φ' table second ρ') (origin : π 0 ≡ 0) (origin' : π' 0 ≡ 0) (t : Seams table first second ρ ρ') (some : 0 < row_count first) (some' : 0 < row_count second) where
  abbrev program_of_first : Items
  program_of_first = renamed_items π φ (contents first)

  abbrev program_of_second : Items
  program_of_second = renamed_items π' φ' (contents second)

  blocks : list_at table (ρ 0) ≡ block (behind_front program_of_first) then block (behind_front program_of_second) then none
  blocks =
      let later = t.later in
      let above = t.of-first.above 0 some in
      let above' = t.of-second.above 0 some' in
      let next = t.next_block in
      let last = t.last in
      list-some table (ρ 0) above
      ∙ at_item table t.whole (ρ 0) (ap is_statement_kind (block-kind table (ρ 0) t.first_block)) (λ _. omega arith)
      ∙ ap (λ s. s then list_at table (number_at table (ρ 0) 5)) (block-items s p h origin t.behind t.of-first.goes t.of-first.on t.of-first.above ∙ ap block (sym (behind-renamed π φ (contents first))))
      ∙ ap (λ (l : ℕ). block (behind_front program_of_first) then list_at table l) next
      ∙ ap (λ is. block (behind_front program_of_first) then is) (list-some table (ρ' 0) above'
      ∙ at_item table t.whole (ρ' 0) (ap is_statement_kind (block-kind table (ρ' 0) t.second_block)) (λ p. omega arith)
      ∙ ap (λ s. s then list_at table (number_at table (ρ' 0) 5)) (block-items z q h' origin' (ρ 0) t.of-second.goes t.of-second.on t.of-second.above ∙ ap block (sym (behind-renamed π' φ' (contents second))))
      ∙ ap (λ (l : ℕ). block (behind_front program_of_second) then list_at table l) last)

  pub contents-joined : contents table ≡ joined_items program_of_first program_of_second
  unfolding contents joined_items
  contents-joined =
      ap (list_at table) t.head
      ∙ head-items s p h origin t.behind t.of-first.goes t.of-first.on t.of-first.above
      ∙ ap (front_then program_of_first) (ap (list_at table) t.behind_is
      ∙ head-items z q h' origin' (ρ 0) t.of-second.goes t.of-second.on t.of-second.above
      ∙ ap (front_then program_of_second) blocks)

  pub decode-joined : decode table ≡ block (joined_items program_of_first program_of_second)
  unfolding decode contents
  decode-joined = at_block table t.whole 0 (block-kind table 0 t.outer) (λ _. t.head_later) ∙ ap block contents-joined

-- ---- the joined rows

module _ {form : Form} {bounds : Bounds} (first second : List ℤ) (s : Structured form bounds first) (z : Structured form bounds second) (p : InOrder first) (q : InOrder second) where
  abbrev joined : List ℤ
  joined = joined_rows first second

  abbrev ρ : ℕ → ℕ
  ρ = first_place first second

  abbrev ρ' : ℕ → ℕ
  ρ' = second_place first second

  number-first : (row : ℕ) → row < row_count first → is_definition first row ≡ true → number_at joined (ρ row) 5 ≡ link joined (ρ row) 5
  unfolding is_link
  number-first row n d = sym (link-is joined (ρ row) 5 (rw (definition-next joined (ρ row) (definition-held (holds-first first second s z p q) row n ∙ d))))

  number-second : (row : ℕ) → row < row_count second → is_definition second row ≡ true → number_at joined (ρ' row) 5 ≡ link joined (ρ' row) 5
  unfolding is_link
  number-second row n d = sym (link-is joined (ρ' row) 5 (rw (definition-next joined (ρ' row) (definition-held (holds-second first second s z p q) row n ∙ d))))

  head-number : number_at joined 0 1 ≡ link joined 0 1
  unfolding is_link
  head-number = sym (link-is joined 0 1 (rw (block-first joined 0 (outer-block first second s z p q))))

  block-number : number_at joined (ρ 0) 5 ≡ link joined (ρ 0) 5
  unfolding is_link
  block-number = sym (link-is joined (ρ 0) 5 (rw (block-next joined (ρ 0) (block-of-first first second s z p q))))

  pub joined-seams : Seams joined first second ρ ρ'
  unfolding front_of
  joined-seams = record {
    whole = (holds-first first second s z p q).whole;
    outer = outer-block first second s z p q;
    behind = (of_first first second).behind;
    head = head-number ∙ outer-first first second s z p q;
    head_later = rw head-number (outer-leads first second s z p q).later;
    behind_is = behind-first first second s z p q ∙ ap (pick (is_definition second (link second 0 1)) (ρ' (link second 0 1))) (behind-second first second s z p q);
    of-first = record {
      above = some-place first second s z p q;
      goes = λ row n d. number-first row n d ∙ next-of-first first second s z p q row n d;
      on = λ row n d. rw (number-first row n d) (next-first-leads first second s z p q row n d).later;
    };
    of-second = record {
      above = second-place first second s z p q;
      goes = λ row n d. number-second row n d ∙ next-of-second first second s z p q row n d ∙ ap (pick (is_definition second (link second row 5)) (ρ' (link second row 5))) (behind-second first second s z p q);
      on = λ row n d. rw (number-second row n d) (next-second-leads first second s z p q row n d).later;
    };
    first_block = block-of-first first second s z p q;
    next_block = block-number ∙ block-seam first second s z p q;
    later = blocks-later first second s z p q;
    second_block = block-of-second first second s z p q;
    last = last-number first second s z p q;
  }
