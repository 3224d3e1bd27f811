-- Laws of placements: the new rows of a program, and what its words become. A table that has these words holds the program's rows.
use Rattle.std.specs.Prelude.{◌≡◌, refl, true, false, ◌&&◌, ◌||◌, List, ℕ, zero, suc, ◌+◌, ◌≤◌, ◌<◌, ℤ}
use Rattle.std.proofs.Math.Path.{sym, ap}
use Rattle.std.proofs.Common.{◌∙◌, arith, ne_eqb, eqb-true}
use Rattle.std.proofs.Math.Dec.{eqb}
use Rattle.words.specs.Word.{natural, pick}
use Rattle.words.specs.Laws.{by_cases, neither}
use Rattle.words.specs.Table.{row_count, Whole, word_at, number_at}
use Rattle.words.specs.Kinds.{kinds, kind_in, kind_of, function_number, optional_item, is_link, kind_row, expression_fields, statement_fields, mark_fields, definition_fields, member_fields, sort_in, sort_of, sort_at}
use Rattle.words.specs.KindLaws.{every_line}
use Rattle.words.specs.Links.{link}
use Rattle.check_grammar.specs.GrammarLaws.{kind-no-link, no-kind-has}
use Rattle.check_function_causes.specs.Functions.{is_definition}
use Rattle.join.specs.Join.{is_of_definition, is_other, before, definition_rows, other_rows, first_item, Placement, place_of, front_of, placed_link, placed_word}
use Rattle.join.proofs.Counting.{before-less, before-apart}
use Rattle.join.specs.Moved.{at_seam, moved_link, numbers_function, Holds}
use Rattle.join.proofs.Kept.{Ordered, root-other, same-part, first-other}
use Rattle.join.proofs.MovedLaws.{link-is}

pub block-next : (rows : List ℤ) (row : ℕ) → number_at rows row 0 ≡ 42 → sort_at rows row 5 ≡ optional_item
unfolding sort_at sort_of sort_in kind_of kind_in kinds kind_row expression_fields statement_fields mark_fields definition_fields member_fields
block-next rows row e = rw e

pub block-first : (rows : List ℤ) (row : ℕ) → number_at rows row 0 ≡ 42 → sort_at rows row 1 ≡ optional_item
unfolding sort_at sort_of sort_in kind_of kind_in kinds kind_row expression_fields statement_fields mark_fields definition_fields member_fields
block-first rows row e = rw e

pub definition-next : (rows : List ℤ) (row : ℕ) → is_definition rows row ≡ true → sort_at rows row 5 ≡ optional_item
unfolding is_definition sort_at sort_of sort_in kind_of kind_in kinds kind_row expression_fields statement_fields mark_fields definition_fields member_fields
definition-next rows row d = rw (eqb-true (number_at rows row 0) 59 d)

-- what a row is, is no function's number
kind-no-function : (number : ℕ) → numbers_function (sort_of number 0) ≡ false
unfolding every_line kinds sort_in kind_row expression_fields statement_fields mark_fields definition_fields member_fields
kind-no-function number = no-kind-has numbers_function 0 refl refl number

function-no-link : (sort : ℕ) → numbers_function sort ≡ true → is_link sort ≡ false
unfolding is_link
function-no-link sort e = rw (eqb-true sort function_number e)

module _ (placement : Placement) (rows : List ℤ) where
  -- ---- places

  pub place-definition : (row : ℕ) → is_of_definition rows row ≡ true → place_of placement rows row ≡ placement.definitions + before (is_of_definition rows) row
  unfolding place_of
  place-definition row e = rw e

  pub other-is : (row : ℕ) → is_of_definition rows row ≡ false → is_other rows row ≡ true
  unfolding is_other
  other-is row e = rw e

  pub place_other : (row : ℕ) → is_of_definition rows row ≡ false → place_of placement rows row ≡ placement.others + before (is_other rows) row
  unfolding place_of
  place_other row e = rw e

  pub place-grows : (row other : ℕ) → is_of_definition rows other ≡ is_of_definition rows row → row < other → place_of placement rows row < place_of placement rows other
  place-grows row other same h =
      by_cases (is_of_definition rows row)
      (λ e. let less = before-less (is_of_definition rows) row other h e in let a = place-definition row e in let b = place-definition other (same ∙ e) in omega arith)
      (λ e. let less = before-less (is_other rows) row other h (other-is row e) in let a = place_other row e in let b = place_other other (same ∙ e) in omega arith)

  -- the parts stand one behind the other
  module _ (above : placement.definitions + definition_rows rows ≤ placement.others) where
    pub definition-least : (row : ℕ) → row < row_count rows → is_of_definition rows row ≡ true → (placement.definitions ≤ place_of placement rows row) × (place_of placement rows row < placement.definitions + definition_rows rows)
    definition-least row n e = let less = before-less (is_of_definition rows) row (row_count rows) n e in let a = place-definition row e in (omega arith, omega arith)

    pub other-least : (row : ℕ) → row < row_count rows → is_of_definition rows row ≡ false → (placement.others ≤ place_of placement rows row) × (place_of placement rows row < placement.others + other_rows rows)
    other-least row n e = let less = before-less (is_other rows) row (row_count rows) n (other-is row e) in let a = place_other row e in (omega arith, omega arith)

    pub place-apart : (row other : ℕ) → row < row_count rows → other < row_count rows → place_of placement rows row ≡ place_of placement rows other → row ≡ other
    place-apart row other n m same =
        by_cases (is_of_definition rows row)
        (λ e. by_cases (is_of_definition rows other)
        (λ f. let a = place-definition row e in let b = place-definition other f in before-apart (is_of_definition rows) row other e f (omega arith))
        (λ f. absurd (let a = (definition-least row n e).1 in let b = (other-least other m f).0 in omega arith)))
        (λ e. by_cases (is_of_definition rows other)
        (λ f. absurd (let a = (other-least row n e).0 in let b = (definition-least other m f).1 in omega arith))
        (λ f. let a = place_other row e in let b = place_other other f in before-apart (is_other rows) row other (other-is row e) (other-is other f) (omega arith)))

  -- ---- links

  led : (to : ℕ) → pick (eqb to 0) 0 (place_of placement rows to) ≡ moved_link (place_of placement rows) to
  led zero = refl
  led (suc to) = rw (ne_eqb (suc to) 0 (λ q. omega arith))

  pub placed-kept : (row field : ℕ) → at_seam rows row field ≡ false → placed_link placement rows row field ≡ moved_link (place_of placement rows) (link rows row field)
  unfolding placed_link at_seam
  placed-kept row field k =
      let parts = neither (eqb row 0 && (eqb field 1 || eqb field 5)) (is_definition rows row && eqb field 5) k in
      by_cases (eqb row 0)
      (λ e. let fields = neither (eqb field 1) (eqb field 5) (rw e at parts.0) in rw (parts.1, e, fields.0, fields.1) (led (link rows row field)))
      (λ e. rw (parts.1, e) (led (link rows row field)))

  pub placed-definition : (row : ℕ) → is_definition rows row ≡ true → placed_link placement rows row 5 ≡ front_of placement rows (link rows row 5)
  unfolding placed_link
  placed-definition row d = rw d

  module _ (root : is_definition rows 0 ≡ false) where
    pub placed_first : placed_link placement rows 0 1 ≡ moved_link (place_of placement rows) (first_item rows)
    unfolding placed_link
    placed_first = rw root (led (first_item rows))

    pub placed-after : placed_link placement rows 0 5 ≡ placement.after
    unfolding placed_link
    placed-after = rw root

  pub front-definition : (item : ℕ) → is_definition rows item ≡ true → front_of placement rows item ≡ place_of placement rows item
  unfolding front_of
  front-definition item d = rw d

  pub front-behind : (item : ℕ) → is_definition rows item ≡ false → front_of placement rows item ≡ placement.behind
  unfolding front_of
  front-behind item d = rw d

  -- ---- words

  pub word-link : (row field : ℕ) → is_link (sort_at rows row field) ≡ true → natural (placed_word placement rows row field) ≡ placed_link placement rows row field
  unfolding placed_word natural
  word-link row field e = rw e

  word_number : (row field : ℕ) → numbers_function (sort_at rows row field) ≡ true → natural (placed_word placement rows row field) ≡ placement.functions + number_at rows row field
  unfolding placed_word natural
  word_number row field e = rw (function-no-link (sort_at rows row field) e, e)

  word-stays : (row field : ℕ) → is_link (sort_at rows row field) ≡ false → numbers_function (sort_at rows row field) ≡ false → placed_word placement rows row field ≡ word_at rows row field
  unfolding placed_word
  word-stays row field e p = rw (e, p)

  -- Where a program stands.
  pub record Stands (joined : List ℤ) : Type 0 where
    pub whole : Whole joined
    pub first : 0 < placement.definitions
    pub above : placement.definitions + definition_rows rows ≤ placement.others
    pub room : placement.others + other_rows rows ≤ row_count joined
    pub words : (row field : ℕ) → row < row_count rows → field < 6 → word_at joined (place_of placement rows row) field ≡ placed_word placement rows row field

  module _ {joined : List ℤ} (o : Ordered rows) (block : number_at rows 0 0 ≡ 42) (s : Stands joined) where
    pub place_inside : (row : ℕ) → row < row_count rows → place_of placement rows row < row_count joined
    place_inside row n =
        let above = s.above in
        let room = s.room in
        by_cases (is_of_definition rows row) (λ e. let l = (definition-least above row n e).1 in omega arith) (λ e. let l = (other-least above row n e).1 in omega arith)

    pub place-some : (row : ℕ) → row < row_count rows → 0 < place_of placement rows row
    place-some row n =
        let above = s.above in
        let first = s.first in
        by_cases (is_of_definition rows row) (λ e. let l = (definition-least above row n e).0 in omega arith) (λ e. let l = (other-least above row n e).0 in omega arith)

    pub placed-number : (row field : ℕ) → row < row_count rows → field < 6 → is_link (sort_at rows row field) ≡ true → number_at joined (place_of placement rows row) field ≡ placed_link placement rows row field
    unfolding number_at
    placed-number row field n f e = ap natural (s.words row field n f) ∙ word-link row field e

    pub holds : Holds joined rows (place_of placement rows) (λ f. placement.functions + f)
    unfolding number_at sort_at is_link
    holds = record {
      whole = s.whole;
      inside = place_inside;
      grows = λ row field f leads k. place-grows row (link rows row field) (same-part o row field f leads k) leads.later;
      kind = λ row n. s.words row 0 n (omega arith) ∙ word-stays row 0 (kind-no-link (number_at rows row 0)) (kind-no-function (number_at rows row 0));
      stays = λ row field n f k e p. s.words row field n f ∙ word-stays row field e p;
      numbered = λ row field n f k p. ap natural (s.words row field n f) ∙ word_number row field p;
      follows = λ row field n f k e. placed-number row field n f e ∙ placed-kept row field k ∙ ap (moved_link (place_of placement rows)) (link-is rows row field e);
      begins = placed-number 0 1 o.tree.some_rows (omega arith) (ap is_link (block-first rows 0 block)) ∙ placed_first o.root;
      begins_later = λ p. place-grows 0 (first_item rows) (first-other o ∙ sym (root-other o)) p;
    }
