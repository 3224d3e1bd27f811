-- Names of a join: in each of its parts the resolved table holds the rows of the resolved program, with its words and its functions renamed. So the tree
-- of the resolved join is that of both programs, renamed.
use Rattle.std.specs.Prelude.{◌≡◌, Bool, true, false, not, ◌||◌, List, ltb, leb, ℤ}
use Rattle.std.proofs.Math.Path.{refl}
use Rattle.std.proofs.Common.{sym, ◌∙◌, ap, ap₂, true≢false}
use Rattle.std.proofs.Math.Logic.{⊎_elim}
use Prim.Native.Nat.{ℕ, zero, suc, ◌+◌, ◌≤◌, ◌<◌}
use native.Mathlib.Omega.{arith}
use Rattle.std.proofs.Math.Dec.{eqb}
use borrow.Author.Tests.{ltb-true, eqb-true}
use Rattle.words.specs.Word.{pick}
use Rattle.words.specs.Laws.{by_cases, both, either}
use Rattle.words.specs.Table.{row_count, number_at}
use Rattle.words.specs.Layout.{Layout, store_size}
use Rattle.words.specs.Declarations.{is_declaration, declarations_before, declaration_count}
use Rattle.words.specs.Kinds.{variable, declared_number, kinds, kind_row, expression_fields, statement_fields, mark_fields, definition_fields, member_fields, sort_in, sort_of, sort_at}
use Rattle.words.specs.KindLaws.{every_line, every-number}
use Rattle.words.specs.Links.{link}
use Rattle.words.specs.declared.Form.TheVariants.{Source}
use Rattle.language.specs.Decode.{decode}
use Rattle.language.specs.Functions.{function_count}
use Rattle.language.specs.Program.{contents}
use Rattle.language.specs.Trees.{block}
use Rattle.language_renaming.specs.Renaming.{renamed_items}
use Rattle.check_fields.specs.Fields.{source_bounds, resolved_bounds, number_fits}
use Rattle.check_fields.specs.FieldLaws.{declared-inside}
use Rattle.check_grammar.specs.GrammarLaws.{no-kind-has}
use Rattle.check_structure.specs.Structured.{Structured, Tree}
use Rattle.check_structure.specs.StructuredLaws.{structured-tree}
use Rattle.check_declaration_causes.proofs.DeclarationLaws.{block-undeclared}
use Rattle.check_function_causes.specs.Functions.{is_definition, is_call}
use Rattle.check_function_causes.specs.Demands.{InFront, WellCalled}
use Rattle.names.specs.Names.{is_name, in_scope, scope_at, resolved}
use Rattle.names.proofs.ResolvedLaws.{resolved-length, resolved-other, resolved-kind, resolved-link, resolved-count}
use Rattle.names.proofs.ResolvedStructured.{resolved-structured}
use Rattle.join.specs.Join.{functions_of, joined_rows}
use Rattle.join.proofs.Fronts.{functions-behind}
use Rattle.join.specs.Moved.{InOrder, numbers_function, names_word, Holds, HoldsRenamed}
use Rattle.join.proofs.MovedLaws.{definition-held, declaration-held}
use Rattle.join.proofs.MovedFronts.{count_is}
use Rattle.join.proofs.MovedNotes.{front-note, first-top, second-top}
use Rattle.join.proofs.Placements.{place-apart}
use Rattle.join.proofs.JoinedFront.{front-first, front-second}
use Rattle.join.proofs.JoinedLegal.{around-first, around-second}
use Rattle.join.proofs.JoinedProgram.{Follows, Seams, joined-seams, contents-joined, decode-joined}
use Rattle.join.proofs.JoinedRows.{of_first, of_second, first_place, second_place, first-functions, second-functions}
use Rattle.join.proofs.JoinedSeams.{some_first, some-second, stands-first, stands-second, holds-first, holds-second, some-place, second-place, block-of-first}
use Rattle.join.proofs.JoinedStructured.{joined-structured}
use Rattle.join.specs.JoinedTrees.{behind_front, joined_items}
use Rattle.join_names.specs.JoinedCalls.{first_number, second_number, first-number}
use Rattle.join_names.specs.WordsOfJoin.{moved_name}
use Rattle.join_names.proofs.JoinedWords.{moved-outer, moved-declared, moved_none, moved-below, moved_apart}
use Rattle.join_names.specs.MovedNames.{declaration-names, name-names, resolved-holds}
use Rattle.join_names.specs.MovedScope.{Outside, scope-hands}
use Rattle.join_names.specs.ResolvedFronts.{resolved-definition, resolved-functions, definition-number, resolved-in-order}

-- ---- numbers of names and declarations

module _ (L : Layout) (rows : List ℤ) (s : Structured Source (source_bounds L) rows) where
  -- a variable's number is below V, and so is a declared one
  number-below : (row : ℕ) → row < row_count rows → names_word (sort_at rows row 1) ≡ true → number_at rows row 1 < store_size L
  unfolding number_fits store_size
  number-below row n k =
      let named = s.named row n 1 (omega arith) (omega arith) in
      ⊎_elim
      (λ (e : eqb (sort_at rows row 1) variable ≡ true).
      ⊎_elim (λ v. let below = ltb-true (number_at rows row 1) L.variables v in omega arith) (λ v. ltb-true (number_at rows row 1) (store_size L) (both (leb (store_size L) (number_at rows row 1)) (ltb (number_at rows row 1) (store_size L)) v).1)
      (either _ _ (rw e at named)))
      (λ (e : eqb (sort_at rows row 1) declared_number ≡ true).
      let below = (declared-inside (source_bounds L) (number_at rows row 1) (rw (eqb-true (sort_at rows row 1) declared_number e) at named)).1 in omega arith)
      (either (eqb (sort_at rows row 1) variable) (eqb (sort_at rows row 1) declared_number) k)

  -- where there are no words to hide, nothing is declared
  none_before : store_size L ≡ 0 → (row : ℕ) → row ≤ row_count rows → declarations_before rows row ≡ 0
  unfolding declarations_before
  none_before z zero n = refl
  none_before z (suc row) n =
      let earlier = none_before z row (omega arith) in
      by_cases (is_declaration rows row) (λ d. absurd (let below = number-below row (omega arith) (declaration-names rows row d) in omega arith)) (λ d. rw d (omega arith))

-- ---- numbers of functions

-- kinds 31 and 59 alone have one, in field a
function-field : (number field : ℕ) → field < 6 → numbers_function (sort_of number field) ≡ true → field ≡ 1
unfolding every_line kinds sort_in kind_row expression_fields statement_fields mark_fields definition_fields member_fields
function-field number zero f e = absurd (true≢false (sym e ∙ no-kind-has numbers_function 0 refl refl number))
function-field number (suc zero) f e = refl
function-field number (suc (suc zero)) f e = absurd (true≢false (sym e ∙ no-kind-has numbers_function 2 refl refl number))
function-field number (suc (suc (suc zero))) f e = absurd (true≢false (sym e ∙ no-kind-has numbers_function 3 refl refl number))
function-field number (suc (suc (suc (suc zero)))) f e = absurd (true≢false (sym e ∙ no-kind-has numbers_function 4 refl refl number))
function-field number (suc (suc (suc (suc (suc zero))))) f e = absurd (true≢false (sym e ∙ no-kind-has numbers_function 5 refl refl number))
function-field number (suc (suc (suc (suc (suc (suc field)))))) f e = absurd (omega arith)

calls-or-defines : (number : ℕ) → numbers_function (sort_of number 1) ≡ true → (eqb number 59 || eqb number 31) ≡ true
unfolding every_line kinds sort_of sort_in kind_row expression_fields statement_fields mark_fields definition_fields member_fields
calls-or-defines number e =
    by (numbers_function (sort_of number 1)) e (every-number (λ number kind. not (numbers_function (sort_in kind 1)) || (eqb number 59 || eqb number 31)) refl (λ number. refl) number)
  where
    by : (b : Bool) → b ≡ true → (not b || (eqb number 59 || eqb number 31)) ≡ true → (eqb number 59 || eqb number 31) ≡ true
    by true e t = t
    by false e t = absurd (true≢false (sym e))

-- a definition has its place, and a call is of a definition
pub function-below : (rows : List ℤ) → WellCalled rows → (row field : ℕ) → row < row_count rows → field < 6 → numbers_function (sort_at rows row field) ≡ true → number_at rows row field < functions_of rows
unfolding sort_at is_definition is_call
function-below rows w row field n f e =
    let a : field ≡ 1 = function-field (number_at rows row 0) field f e in
    rw a (⊎_elim (λ d. functions-behind rows (w.in_order row n d)) (λ c. functions-behind rows (w.called row n c).function) (either (eqb (number_at rows row 0) 59) (eqb (number_at rows row 0) 31) (calls-or-defines (number_at rows row 0) (rw a at e))))

-- ---- the join

module _ (L : Layout) (first second : List ℤ) (s : Structured Source (source_bounds L) first) (z : Structured Source (source_bounds L) second) (w : WellCalled first) (w' : WellCalled second)
    (few : row_count (joined_rows first second) ≤ 2048) where
  abbrev S : ℕ
  S = store_size L

  abbrev joined : List ℤ
  joined = joined_rows first second

  abbrev ρ : ℕ → ℕ
  ρ = first_place first second

  abbrev ρ' : ℕ → ℕ
  ρ' = second_place first second

  -- The words that stand for those of both programs.
  abbrev pub first_name : ℕ → ℕ
  first_name = moved_name S joined first ρ

  abbrev pub second_name : ℕ → ℕ
  second_name = moved_name S joined second ρ'

  p : InOrder first
  p = w.in_order

  q : InOrder second
  q = w'.in_order

  h : Holds joined first ρ (λ f. (of_first first second).functions + f)
  h = holds-first first second s z p q

  h' : Holds joined second ρ' (λ f. (of_second first second).functions + f)
  h' = holds-second first second s z p q

  structured : Structured Source (source_bounds L) joined
  structured = joined-structured first second s z p q few

  t : Tree joined
  t = structured-tree Source _ joined structured

  -- ---- words

  apart : (row other : ℕ) → row < row_count first → other < row_count first → ρ row ≡ ρ other → row ≡ other
  apart = place-apart (of_first first second) first (stands-first first second s z p q).above

  apart' : (row other : ℕ) → row < row_count second → other < row_count second → ρ' row ≡ ρ' other → row ≡ other
  apart' = place-apart (of_second first second) second (stands-second first second s z p q).above

  pub first-apart : (i j : ℕ) → i < S + declaration_count first → j < S + declaration_count first → first_name i ≡ first_name j → i ≡ j
  first-apart = moved_apart S joined first ρ h.inside (declaration-held h) apart

  pub second-apart : (i j : ℕ) → i < S + declaration_count second → j < S + declaration_count second → second_name i ≡ second_name j → i ≡ j
  second-apart = moved_apart S joined second ρ' h'.inside (declaration-held h') apart'

  pub first_below : (i : ℕ) → i < S + declaration_count first → first_name i < S + declaration_count joined
  first_below = moved-below S joined first ρ h.inside (declaration-held h) apart

  pub second_below : (i : ℕ) → i < S + declaration_count second → second_name i < S + declaration_count joined
  second_below = moved-below S joined second ρ' h'.inside (declaration-held h') apart'

  first-origin : first_name 0 ≡ 0
  first-origin = moved_none S joined first ρ h.inside (declaration-held h) apart (some_first first second s z p q) (λ e. none_before L joined structured e)

  second-origin : second_name 0 ≡ 0
  second-origin = moved_none S joined second ρ' h'.inside (declaration-held h') apart' (some-second first second s z p q) (λ e. none_before L joined structured e)

  -- ---- the items of the new block stand in no scope

  outer : is_declaration joined 0 ≡ false
  outer = block-undeclared joined 0 structured.block

  block-after : in_scope joined (ρ 0) 5 0 ≡ 0
  unfolding in_scope
  block-after = rw (block-undeclared joined (ρ 0) (block-of-first first second s z p q))

  top : scope_at joined (ρ 0) ≡ 0
  unfolding scope_at
  top = first-top first second s z p q t (scope-hands joined) block-after

  top' : scope_at joined (ρ' 0) ≡ 0
  unfolding scope_at
  top' = second-top first second s z p q t (scope-hands joined) block-after

  fronts : (row place : ℕ) → InFront first row place → scope_at joined (ρ row) ≡ 0
  unfolding scope_at
  fronts row place f = front-note t (scope-hands joined) (front-first first second s z p q f)

  fronts' : (row place : ℕ) → InFront second row place → scope_at joined (ρ' row) ≡ 0
  unfolding scope_at
  fronts' row place f = front-note t (scope-hands joined) (front-second first second s z p q f)

  outside : Outside joined first ρ
  outside = record { outer = outer; root = top; front = fronts; around = around-first first second s z w w' t }

  outside' : Outside joined second ρ'
  outside' = record { outer = outer; root = top'; front = fronts'; around = around-second first second s z w w' t }

  -- ---- both parts of the resolved table

  abbrev J : List ℤ
  J = resolved S joined

  abbrev R : List ℤ
  R = resolved S first

  abbrev R' : List ℤ
  R' = resolved S second

  resolved-first : Structured Source (resolved_bounds L (declaration_count first)) R
  resolved-first = resolved-structured Source L first s

  resolved-second : Structured Source (resolved_bounds L (declaration_count second)) R'
  resolved-second = resolved-structured Source L second z

  -- Definitions stand at the front of both.
  module _ (front : function_count (behind_front (contents R)) ≡ 0) (front' : function_count (behind_front (contents R')) ≡ 0) where
    count-first : function_count (contents R) ≡ functions_of first
    count-first = let c = count_is resolved-first (resolved-in-order S first p) in let e = resolved-functions S first in omega arith

    count-second : function_count (contents R') ≡ functions_of second
    count-second = let c = count_is resolved-second (resolved-in-order S second q) in let e = resolved-functions S second in omega arith

    abbrev φ : ℕ → ℕ
    φ = first_number (function_count (contents R)) (function_count (contents R'))

    abbrev φ' : ℕ → ℕ
    φ' = second_number (function_count (contents R))

    first_part : HoldsRenamed first_name φ J R ρ
    first_part =
        resolved-holds s p h t (some-place first second s z p q) outside S first_name (moved-outer S joined first ρ) (moved-declared S joined first ρ)
        (λ row n name. number-below L first s row n (name-names first row name)) φ
        (λ row field n f e. let below = function-below first w row field n f e in let c = count-first in
        (let k : (of_first first second).functions + number_at first row field ≡ number_at first row field = (let none = first-functions first second in omega arith) in k)
        ∙ sym (first-number (function_count (contents R)) (function_count (contents R')) (number_at first row field) (omega arith)))

    second-part : HoldsRenamed second_name φ' J R' ρ'
    unfolding second_number
    second-part =
        resolved-holds z q h' t (second-place first second s z p q) outside' S second_name (moved-outer S joined second ρ') (moved-declared S joined second ρ')
        (λ row n name. number-below L second z row n (name-names second row name)) φ'
        (λ row field n f e. let c = count-first in let k = second-functions first second in (let same : (of_second first second).functions + number_at second row field ≡ function_count (contents R) + number_at second row field = omega arith in same))

    -- ---- the tree

    -- a block's words are not resolved
    block-kept : (row field : ℕ) → field < 6 → number_at joined row 0 ≡ 42 → number_at J row field ≡ number_at joined row field
    unfolding number_at is_name
    block-kept row field f e = rw (resolved-other S joined row field f (block-undeclared joined row e) (rw e))

    follows : {rows : List ℤ} {π : ℕ → ℕ} {last : ℕ} → ((row : ℕ) → row < row_count rows → is_definition joined (π row) ≡ is_definition rows row) → Follows joined rows π last → Follows J (resolved S rows) π last
    follows {rows} {π} {last} held f = record {
      above = λ row n. f.above row (rw (resolved-count S rows) at n);
      goes = λ row n d.
          let m : row < row_count rows = rw (resolved-count S rows) at n in
          let here : is_definition rows row ≡ true = sym (resolved-definition S rows row) ∙ d in
          definition-number S joined (π row) 5 (omega arith) (held row m ∙ here) ∙ f.goes row m here
          ∙ sym (ap₂ (λ (b : Bool) (l : ℕ). pick b (π l) last) (resolved-definition S rows (link (resolved S rows) row 5) ∙ ap (is_definition rows) (resolved-link S rows row 5 (omega arith))) (resolved-link S rows row 5 (omega arith)));
      on = λ row n d.
          let m : row < row_count rows = rw (resolved-count S rows) at n in
          let here : is_definition rows row ≡ true = sym (resolved-definition S rows row) ∙ d in
          rw (definition-number S joined (π row) 5 (omega arith) (held row m ∙ here)) (f.on row m here);
    }

    head-kept : (rows : List ℤ) (π : ℕ → ℕ) (last : ℕ) → pick (is_definition rows (link rows 0 1)) (π (link rows 0 1)) last ≡ pick (is_definition (resolved S rows) (link (resolved S rows) 0 1)) (π (link (resolved S rows) 0 1)) last
    head-kept rows π last =
        sym (ap₂ (λ (b : Bool) (l : ℕ). pick b (π l) last) (resolved-definition S rows (link (resolved S rows) 0 1) ∙ ap (is_definition rows) (resolved-link S rows 0 1 (omega arith))) (resolved-link S rows 0 1 (omega arith)))

    resolved-seams : Seams J R R' ρ ρ'
    resolved-seams =
        let b = joined-seams first second s z p q in
        record {
          whole = rw (resolved-length S joined) b.whole;
          outer = resolved-kind S joined 0 ∙ b.outer;
          behind = b.behind;
          head = block-kept 0 1 (omega arith) b.outer ∙ b.head ∙ head-kept first ρ b.behind;
          head_later = rw (block-kept 0 1 (omega arith) b.outer) b.head_later;
          behind_is = b.behind_is ∙ head-kept second ρ' (ρ 0);
          of-first = follows (definition-held h) b.of-first;
          of-second = follows (definition-held h') b.of-second;
          first_block = resolved-kind S joined (ρ 0) ∙ b.first_block;
          next_block = block-kept (ρ 0) 5 (omega arith) b.first_block ∙ b.next_block;
          later = b.later;
          second_block = resolved-kind S joined (ρ' 0) ∙ b.second_block;
          last = block-kept (ρ' 0) 5 (omega arith) b.second_block ∙ b.last;
        }

    some : 0 < row_count R
    some = (structured-tree Source _ R resolved-first).some_rows

    some' : 0 < row_count R'
    some' = (structured-tree Source _ R' resolved-second).some_rows

    pub contents-resolved : contents J ≡ joined_items (renamed_items first_name φ (contents R)) (renamed_items second_name φ' (contents R'))
    contents-resolved =
        contents-joined resolved-first resolved-second (resolved-in-order S first p) (resolved-in-order S second q) first_part second-part first-origin second-origin resolved-seams some some'

    pub decode-resolved : decode J ≡ block (joined_items (renamed_items first_name φ (contents R)) (renamed_items second_name φ' (contents R')))
    decode-resolved =
        decode-joined resolved-first resolved-second (resolved-in-order S first p) (resolved-in-order S second q) first_part second-part first-origin second-origin resolved-seams some some'
