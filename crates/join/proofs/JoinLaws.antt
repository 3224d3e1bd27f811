-- Laws of joins: a join worked by hand; the order of a join's own causes; what is not refused is legal, and so is its join.
use Rattle.std.specs.Prelude.{◌≡◌, refl, true, false, ℕ, leb, ℤ, pos, Err, None, Ok, Some}
use Rattle.std.proofs.Common.{sym, ap₂}
use Rattle.std.proofs.Math.Path.{subst}
use Rattle.std.proofs.lemmas.Bool.{false≢true}
use mathlib.Core.List.{List, [], ◌∷◌}
use borrow.Author.Tests.{leb-true}
use Rattle.words.specs.Word.{natural, same_word}
use Rattle.words.specs.Laws.{both, same_word-equal}
use Rattle.words.specs.Table.{row_count, word_at, number_at}
use Rattle.words.specs.Layout.{row_limit}
use Rattle.words.specs.Kinds.{kinds, kind_in, kind_of, is_link, kind_row, expression_fields, statement_fields, mark_fields, definition_fields, member_fields, sort_in, sort_of, sort_at}
use Rattle.words.specs.Links.{link, target, linker, received, note_by, note}
use Rattle.words.specs.Search.{lowest, lowest_row}
use Rattle.words.specs.declared.Form.TheVariants.{Source}
use Rattle.check_structure.specs.Links.{too_deep}
use Rattle.check_structure.specs.Refusal.{at, unless, ◌next◌}
use Rattle.check_structure.specs.RefusalLaws.{next-accepts, at-accepts, unless-accepts}
use Rattle.check_declaration_causes.specs.Causes.{one_too_many}
use Rattle.check_source.specs.Refusal.{refusal}
use Rattle.check_source.specs.Legal.{Legal}
use Rattle.check_source.proofs.AcceptsLegal.{accepts-legal}
use Rattle.check_function_causes.specs.Functions.{is_definition, around_of, function_around}
use Rattle.join.specs.Join.{is_of_definition, is_other, before, functions_from, item_from, functions_of, first_item, place_of, front_of, placed_link, placed_word, placed_rows, first_placement, second_placement, outer_block, joined_rows, same_header, rows_refusal, own_refusal, join_refusal}
use Rattle.join.proofs.JoinedLegal.{joined-legal}

-- ---- a join worked by hand: v0 = 7, and a switch on v0 whose case 7 breaks

assigns : List ℤ
assigns =
    pos 42 ∷ pos 1 ∷ pos 0 ∷ pos 0 ∷ pos 0 ∷ pos 0 ∷  -- 0 block
    pos 41 ∷ pos 2 ∷ pos 0 ∷ pos 0 ∷ pos 0 ∷ pos 0 ∷  -- 1 expression statement
    pos 21 ∷ pos 3 ∷ pos 4 ∷ pos 0 ∷ pos 0 ∷ pos 0 ∷  -- 2 assign
    pos 2 ∷ pos 0 ∷ pos 0 ∷ pos 0 ∷ pos 0 ∷ pos 0 ∷  -- 3 variable 0
    pos 1 ∷ pos 7 ∷ pos 0 ∷ pos 0 ∷ pos 0 ∷ pos 0 ∷  -- 4 constant 7
    []

switches : List ℤ
switches =
    pos 42 ∷ pos 1 ∷ pos 0 ∷ pos 0 ∷ pos 0 ∷ pos 0 ∷  -- 0 block
    pos 47 ∷ pos 2 ∷ pos 3 ∷ pos 0 ∷ pos 0 ∷ pos 0 ∷  -- 1 switch
    pos 2 ∷ pos 0 ∷ pos 0 ∷ pos 0 ∷ pos 0 ∷ pos 0 ∷  -- 2 variable 0
    pos 48 ∷ pos 7 ∷ pos 0 ∷ pos 0 ∷ pos 0 ∷ pos 4 ∷  -- 3 case 7, next 4
    pos 50 ∷ pos 0 ∷ pos 0 ∷ pos 0 ∷ pos 0 ∷ pos 0 ∷  -- 4 break
    []

by_hand : joined_rows assigns switches
    ≡ (pos 42 ∷ pos 1 ∷ pos 0 ∷ pos 0 ∷ pos 0 ∷ pos 0 ∷  -- 0 the new block
    pos 42 ∷ pos 2 ∷ pos 0 ∷ pos 0 ∷ pos 0 ∷ pos 6 ∷  -- 1 block, next 6
    pos 41 ∷ pos 3 ∷ pos 0 ∷ pos 0 ∷ pos 0 ∷ pos 0 ∷
    pos 21 ∷ pos 4 ∷ pos 5 ∷ pos 0 ∷ pos 0 ∷ pos 0 ∷
    pos 2 ∷ pos 0 ∷ pos 0 ∷ pos 0 ∷ pos 0 ∷ pos 0 ∷
    pos 1 ∷ pos 7 ∷ pos 0 ∷ pos 0 ∷ pos 0 ∷ pos 0 ∷
    pos 42 ∷ pos 7 ∷ pos 0 ∷ pos 0 ∷ pos 0 ∷ pos 0 ∷  -- 6 block
    pos 47 ∷ pos 8 ∷ pos 9 ∷ pos 0 ∷ pos 0 ∷ pos 0 ∷
    pos 2 ∷ pos 0 ∷ pos 0 ∷ pos 0 ∷ pos 0 ∷ pos 0 ∷
    pos 48 ∷ pos 7 ∷ pos 0 ∷ pos 0 ∷ pos 0 ∷ pos 10 ∷  -- 9 case 7, next 10
    pos 50 ∷ pos 0 ∷ pos 0 ∷ pos 0 ∷ pos 0 ∷ pos 0 ∷ [])
unfolding assigns switches joined_rows outer_block first_placement second_placement placed_rows placed_word placed_link front_of place_of first_item functions_of functions_from item_from before is_other is_of_definition is_definition function_around around_of note note_by received linker lowest target link sort_at sort_of sort_in kind_of kind_in kinds kind_row expression_fields statement_fields mark_fields definition_fields member_fields is_link number_at word_at natural
by_hand = refl

-- ---- functions worked by hand: a row and the rows behind it

abbrev row : ℕ → ℕ → ℕ → ℕ → ℕ → ℕ → List ℤ → List ℤ
row kind a b c d behind rest = pos kind ∷ pos a ∷ pos b ∷ pos c ∷ pos d ∷ pos behind ∷ rest

-- f0(v0) { return v0; } f0(7); with the row of the call before those of the function
calls : List ℤ
calls =
    row 42 1 0 0 0 0 ( -- 0 block
    row 59 0 4 5 0 2 ( -- 1 function 0, next 2
    row 41 3 0 0 0 0 ( -- 2 expression statement
    row 31 0 8 0 0 0 ( -- 3 call of function 0
    row 58 0 0 0 0 0 ( -- 4 parameter v0
    row 42 6 0 0 0 0 ( -- 5 its block
    row 60 7 0 0 0 0 ( -- 6 return
    row 2 0 0 0 0 0 ( -- 7 v0
    row 32 9 0 0 0 0 ( -- 8 argument
    row 1 7 0 0 0 0 [])))))))))  -- 9 constant 7

-- both functions come first, the second's with the next number, and then both blocks
functions-by-hand : joined_rows calls calls
    ≡ (row 42 1 0 0 0 0 ( -- 0 the new block
    row 59 0 2 3 0 6 (row 58 0 0 0 0 0 (row 42 4 0 0 0 0 (row 60 5 0 0 0 0 (row 2 0 0 0 0 0 ( -- 1 the first's function, next 6
    row 59 1 7 8 0 11 (row 58 0 0 0 0 0 (row 42 9 0 0 0 0 (row 60 10 0 0 0 0 (row 2 0 0 0 0 0 ( -- 6 the second's, next 11
    row 42 12 0 0 0 16 (row 41 13 0 0 0 0 (row 31 0 14 0 0 0 (row 32 15 0 0 0 0 (row 1 7 0 0 0 0 ( -- 11 the first's block, next 16
    row 42 17 0 0 0 0 (row 41 18 0 0 0 0 (row 31 1 19 0 0 0 (row 32 20 0 0 0 0 (row 1 7 0 0 0 0 []  -- 16 the second's
    )))))))))))))))))))))
unfolding calls joined_rows outer_block first_placement second_placement placed_rows placed_word placed_link front_of place_of first_item functions_of functions_from item_from before is_other is_of_definition is_definition function_around around_of note note_by received linker lowest target link sort_at sort_of sort_in kind_of kind_in kinds kind_row expression_fields statement_fields mark_fields definition_fields member_fields is_link number_at word_at natural
functions-by-hand = refl

-- ---- refusals

pub same-header : (header other : List ℤ) → same_header header other ≡ true → header ≡ other
unfolding same_header
same-header [] [] e = refl
same-header [] (v ∷ vs) e = absurd (false≢true e)
same-header (w ∷ ws) [] e = absurd (false≢true e)
same-header (w ∷ ws) (v ∷ vs) e = let parts = both (same_word w v) (same_header ws vs) e in ap₂ ◌∷◌ (same_word-equal w v parts.0) (same-header ws vs parts.1)

module _ (header first secondHeader second : List ℤ) where
  abbrev joined : List ℤ
  joined = joined_rows first second

  -- "unequal headers get 16, joined rows over 2,048 get 17 (both place 0), and a join too deep 9 with its joined row"
  pub unequal-headers : same_header header secondHeader ≡ false → own_refusal header first secondHeader second ≡ Err (record { number = 16; place = 0 })
  unfolding own_refusal unless ◌next◌
  unequal-headers e = rw e

  pub too_many_rows : same_header header secondHeader ≡ true → leb (row_count joined) 2048 ≡ false → own_refusal header first secondHeader second ≡ Err (record { number = 17; place = 0 })
  unfolding own_refusal unless ◌next◌
  too_many_rows e n = rw (e, n)

  pub too-deep : (row : ℕ) → same_header header secondHeader ≡ true → leb (row_count joined) 2048 ≡ true → lowest_row joined (too_deep Source joined) ≡ Some row
      → own_refusal header first secondHeader second ≡ Err (record { number = 9; place = row })
  unfolding own_refusal rows_refusal unless at ◌next◌
  too-deep row e n d = rw (e, n, d)

  -- "a 65th declaration, in a join too, 20 .. with the declaration's row, after 9"
  pub too-many-declarations : (row : ℕ) → same_header header secondHeader ≡ true → leb (row_count joined) 2048 ≡ true → lowest_row joined (too_deep Source joined) ≡ None
      → lowest_row joined (one_too_many joined) ≡ Some row → own_refusal header first secondHeader second ≡ Err (record { number = 20; place = row })
  unfolding own_refusal rows_refusal unless at ◌next◌
  too-many-declarations row e n d m = rw (e, n, d, m)

  -- The programs and their join, of what is not refused.
  pub record AllLegal : Type 0 where
    pub of-first : Legal header first
    pub of-second : Legal header second
    pub of_join : Legal header joined

  pub accepted-legal : (room : ℕ) → join_refusal header first secondHeader second room ≡ Ok tt → AllLegal
  unfolding join_refusal own_refusal rows_refusal
  accepted-legal room e =
      let of_first = next-accepts (refusal header first) _ e in
      let of_second = next-accepts (refusal secondHeader second) _ of_first.1 in
      let ofJoin = next-accepts (own_refusal header first secondHeader second) _ of_second.1 in
      let headers = next-accepts (unless (same_header header secondHeader) 16) _ ofJoin.0 in
      let counts = next-accepts (unless (leb (row_count joined) (row_limit Source)) 17) _ headers.1 in
      let same = same-header header secondHeader (unless-accepts _ 16 headers.0) in
      let few = leb-true (row_count joined) (row_limit Source) (unless-accepts _ 17 counts.0) in
      let depths = next-accepts (at 9 (lowest_row joined (too_deep Source joined))) _ counts.1 in
      let flat = at-accepts 9 _ depths.0 in
      let declarations = at-accepts 20 _ depths.1 in
      let legal-first = (accepts-legal header first).0 of_first.0 in
      let legal-second : Legal header second = subst (λ (h : List ℤ). Legal h second) (sym same) ((accepts-legal secondHeader second).0 of_second.0) in
      record { of-first = legal-first; of-second = legal-second; of_join = joined-legal header first second legal-first legal-second few flat declarations }
