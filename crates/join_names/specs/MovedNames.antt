-- Names of moved rows: the resolved joined table holds the rows of the resolved old one, and names the word `π i` where that named the word i.
use Rattle.std.specs.Prelude.{◌≡◌, refl, Bool, not, ◌||◌, ◌⊎◌, List, ℕ, zero, suc, ◌<◌, ℤ}
use Rattle.std.proofs.Math.Path.{sym, ap}
use Rattle.std.proofs.Common.{◌∙◌, true≢false, inl, inr, arith, eqb-true}
use Rattle.std.proofs.Math.Bool.{true, false}
use Rattle.std.proofs.Math.Decide.{ℕ_discrete}
use Rattle.std.proofs.Math.Arith.{lt_of_le-ne}
use Rattle.std.proofs.Math.Dec.{eqb}
use Rattle.words.specs.Word.{natural}
use Rattle.words.specs.Laws.{by_cases}
use Rattle.words.specs.Table.{row_count, word_at, number_at}
use Rattle.words.specs.Declarations.{is_declaration}
use Rattle.words.specs.Kinds.{kinds, kind_in, kind_of, is_link, kind_row, expression_fields, statement_fields, mark_fields, definition_fields, member_fields, sort_in, sort_of, sort_at}
use Rattle.words.specs.KindLaws.{every_line, every-number}
use Rattle.words.specs.declared.Form.{Form}
use Rattle.check_fields.specs.declared.Bounds.{Bounds}
use Rattle.check_grammar.specs.GrammarLaws.{no-kind-has}
use Rattle.check_structure.specs.Structured.{Structured, Tree}
use Rattle.check_structure.specs.StructuredLaws.{structured-tree}
use Rattle.names.specs.Names.{is_name, word_of, meant_at, resolved}
use Rattle.names.proofs.ScopeLaws.{meant-declared, meant-inside}
use Rattle.names.proofs.ResolvedLaws.{resolved-length, resolved-kept, resolved-other, resolved-kind, resolved-sort, resolved-link, resolved-leads}
use Rattle.names.proofs.ResolvedNames.{declaration-resolved, variable-resolved, name-resolved}
use Rattle.check_declaration_causes.proofs.DeclarationLaws.{block-undeclared}
use Rattle.join.specs.Join.{first_item}
use Rattle.join.specs.Moved.{at_seam, InOrder, moved_link, numbers_function, names_word, Holds, HoldsRenamed}
use Rattle.join.proofs.MovedLaws.{moved-some, word-no-link, word-no-function, number-held, sort-held, declaration-held}
use Rattle.join.proofs.MovedDeclarations.{name-held, named-number}
use Rattle.join_names.specs.MovedScope.{Outside, moved-meant}
use Rattle.join_names.specs.ResolvedFronts.{resolved-seam, resolved-first}

-- ---- which fields name a word: field a of a declaration and of a name

-- kinds 2 and 58 alone have such a field, and it is a
first_alone : (number field : ℕ) → field < 6 → names_word (sort_of number field) ≡ true → field ≡ 1
unfolding every_line kinds sort_in kind_row expression_fields statement_fields mark_fields definition_fields member_fields
first_alone number zero f e = absurd (true≢false (sym e ∙ no-kind-has names_word 0 refl refl number))
first_alone number (suc zero) f e = refl
first_alone number (suc (suc zero)) f e = absurd (true≢false (sym e ∙ no-kind-has names_word 2 refl refl number))
first_alone number (suc (suc (suc zero))) f e = absurd (true≢false (sym e ∙ no-kind-has names_word 3 refl refl number))
first_alone number (suc (suc (suc (suc zero)))) f e = absurd (true≢false (sym e ∙ no-kind-has names_word 4 refl refl number))
first_alone number (suc (suc (suc (suc (suc zero))))) f e = absurd (true≢false (sym e ∙ no-kind-has names_word 5 refl refl number))
first_alone number (suc (suc (suc (suc (suc (suc field)))))) f e = absurd (omega arith)

names-or-declares : (number : ℕ) → names_word (sort_of number 1) ≡ true → (eqb number 58 || eqb number 2) ≡ true
unfolding every_line kinds sort_of sort_in kind_row expression_fields statement_fields mark_fields definition_fields member_fields
names-or-declares number e =
    by (names_word (sort_of number 1)) e (every-number (λ number kind. not (names_word (sort_in kind 1)) || (eqb number 58 || eqb number 2)) refl (λ number. refl) number)
  where
    by : (b : Bool) → b ≡ true → (not b || (eqb number 58 || eqb number 2)) ≡ true → (eqb number 58 || eqb number 2) ≡ true
    by true e t = t
    by false e t = absurd (true≢false (sym e))

module _ (rows : List ℤ) (row : ℕ) where
  pub declaration-names : is_declaration rows row ≡ true → names_word (sort_at rows row 1) ≡ true
  unfolding is_declaration sort_at sort_of sort_in kind_of kind_in kinds kind_row expression_fields statement_fields
  declaration-names d = rw (eqb-true (number_at rows row 0) 58 d)

  pub name-names : is_name rows row ≡ true → names_word (sort_at rows row 1) ≡ true
  unfolding is_name sort_at sort_of sort_in kind_of kind_in kinds kind_row expression_fields statement_fields
  name-names n = rw (eqb-true (number_at rows row 0) 2 n)

  -- other words are not resolved
  pub word_kept : (S field : ℕ) → field < 6 → names_word (sort_at rows row field) ≡ false → word_at (resolved S rows) row field ≡ word_at rows row field
  word_kept S field f k = go (ℕ_discrete field 1)
    where
      go : Dec (field ≡ 1) → word_at (resolved S rows) row field ≡ word_at rows row field
      go (no q) = resolved-kept S rows row field f q
      go (yes q) =
          let here : names_word (sort_at rows row 1) ≡ false = rw q at k in
          by_cases (is_declaration rows row) (λ d. absurd (true≢false (sym (declaration-names d) ∙ here)))
          (λ d. by_cases (is_name rows row) (λ n. absurd (true≢false (sym (name-names n) ∙ here))) (λ n. resolved-other S rows row field f d n))

-- ---- the resolved tables

-- Words of the header stay, and the word of a declaration is renamed as its row is moved. The names' own numbers are below S. `number` is φ on the numbers
-- of functions that the table has.
module _ {form : Form} {bounds : Bounds} {joined rows : List ℤ} {ρ φ : ℕ → ℕ} (s : Structured form bounds rows) (i : InOrder rows) (h : Holds joined rows ρ φ) (t : Tree joined) (above : (row : ℕ) → row < row_count rows → 0 < ρ row)
    (out : Outside joined rows ρ) (S : ℕ) (π : ℕ → ℕ)
    (outer : (i : ℕ) → i < S → π i ≡ i) (moves : (declaration : ℕ) → declaration < row_count rows → is_declaration rows declaration ≡ true → word_of S joined (ρ declaration) ≡ π (word_of S rows declaration))
    (below : (row : ℕ) → row < row_count rows → is_name rows row ≡ true → number_at rows row 1 < S)
    (number : ℕ → ℕ) (same : (row field : ℕ) → row < row_count rows → field < 6 → numbers_function (sort_at rows row field) ≡ true → φ (number_at rows row field) ≡ number (number_at rows row field)) where
  old : Tree rows
  old = structured-tree form bounds rows s

  abbrev J : List ℤ
  J = resolved S joined

  abbrev R : List ℤ
  R = resolved S rows

  -- a declaration
  declared-renamed : (row : ℕ) → row < row_count rows → is_declaration rows row ≡ true → number_at J (ρ row) 1 ≡ π (number_at R row 1)
  declared-renamed row n d =
      declaration-resolved S joined t (ρ row) (h.inside row n) (declaration-held h row n ∙ d) ∙ moves row n d ∙ sym (ap π (declaration-resolved S rows old row n d))

  -- a name
  module _ (row : ℕ) (n : row < row_count rows) (other : is_declaration rows row ≡ false) (name : is_name rows row ≡ true) where
    other-there : is_declaration joined (ρ row) ≡ false
    other-there = declaration-held h row n ∙ other

    name-there : is_name joined (ρ row) ≡ true
    name-there = name-held s i h row n ∙ name

    meant-there : meant_at joined (ρ row) (number_at joined (ρ row) 1) ≡ moved_link ρ (meant_at rows row (number_at rows row 1))
    meant-there = ap (meant_at joined (ρ row)) (named-number s i h row n name) ∙ moved-meant s i h t above out row (number_at rows row 1) n

    of_header : meant_at rows row (number_at rows row 1) ≡ 0 → number_at J (ρ row) 1 ≡ π (number_at R row 1)
    of_header z =
        variable-resolved S joined t (ρ row) (h.inside row n) other-there name-there (meant-there ∙ ap (moved_link ρ) z)
        ∙ named-number s i h row n name
        ∙ sym (outer (number_at rows row 1) (below row n name))
        ∙ sym (ap π (variable-resolved S rows old row n other name z))

    of_declaration : (meant_at rows row (number_at rows row 1) ≡ 0 → ⊥) → is_declaration rows (meant_at rows row (number_at rows row 1)) ≡ true → number_at J (ρ row) 1 ≡ π (number_at R row 1)
    of_declaration some d =
        let inside = meant-inside rows old row (number_at rows row 1) n in
        let some-row : 0 < meant_at rows row (number_at rows row 1) = lt_of_le-ne (omega arith) (λ (q : 0 ≡ meant_at rows row (number_at rows row 1)). some (sym q)) in
        let there : meant_at joined (ρ row) (number_at joined (ρ row) 1) ≡ ρ (meant_at rows row (number_at rows row 1)) = meant-there ∙ moved-some ρ (meant_at rows row (number_at rows row 1)) some-row in
        name-resolved S joined t (ρ row) (h.inside row n) other-there name-there (λ z. let up = above (meant_at rows row (number_at rows row 1)) inside in let e : ρ (meant_at rows row (number_at rows row 1)) ≡ 0 = sym there ∙ z in omega arith)
        ∙ ap (word_of S joined) there
        ∙ moves (meant_at rows row (number_at rows row 1)) inside d
        ∙ sym (ap π (name-resolved S rows old row n other name some))

    named-renamed : number_at J (ρ row) 1 ≡ π (number_at R row 1)
    named-renamed = go (ℕ_discrete (meant_at rows row (number_at rows row 1)) 0) (meant-declared rows row (number_at rows row 1))
      where
        go : Dec (meant_at rows row (number_at rows row 1) ≡ 0) → (meant_at rows row (number_at rows row 1) ≡ 0) ⊎ ((is_declaration rows (meant_at rows row (number_at rows row 1)) ≡ true) × (number_at rows (meant_at rows row (number_at rows row 1)) 1 ≡ number_at rows row 1))
            → number_at J (ρ row) 1 ≡ π (number_at R row 1)
        go (yes z) meant = of_header z
        go (no some) (inl z) = absurd (some z)
        go (no some) (inr d) = of_declaration some d.0

  word-renamed : (row field : ℕ) → row < row_count rows → field < 6 → names_word (sort_at rows row field) ≡ true → number_at J (ρ row) field ≡ π (number_at R row field)
  unfolding sort_at is_declaration is_name
  word-renamed row field n f k =
      let a : field ≡ 1 = first_alone (number_at rows row 0) field f k in
      rw a (by_cases (is_declaration rows row) (λ d. declared-renamed row n d)
      (λ d. named-renamed row n d (names d (names-or-declares (number_at rows row 0) (rw a at k)))))
    where
      names : is_declaration rows row ≡ false → (eqb (number_at rows row 0) 58 || eqb (number_at rows row 0) 2) ≡ true → is_name rows row ≡ true
      names d e = rw d at e

  module _ (row field : ℕ) (n : row < row_count rows) (f : field < 6) (own : at_seam rows row field ≡ false) where
    kept_there : names_word (sort_at rows row field) ≡ false → word_at J (ρ row) field ≡ word_at joined (ρ row) field
    kept_there k = word_kept joined (ρ row) S field f (ap names_word (sort-held h row field n) ∙ k)

    stays : is_link (sort_at rows row field) ≡ false → numbers_function (sort_at rows row field) ≡ false → names_word (sort_at rows row field) ≡ false → word_at J (ρ row) field ≡ word_at R row field
    stays e p k = kept_there k ∙ h.stays row field n f own e p ∙ sym (word_kept rows row S field f k)

    -- a field that names no word
    other_word : (test : ℕ → Bool) → ((sort : ℕ) → names_word sort ≡ true → test sort ≡ false) → test (sort_at rows row field) ≡ true → names_word (sort_at rows row field) ≡ false
    other_word test apart e = by_cases (names_word (sort_at rows row field)) (λ y. absurd (true≢false (sym e ∙ apart (sort_at rows row field) y))) (λ y. y)

    numbered : numbers_function (sort_at rows row field) ≡ true → number_at J (ρ row) field ≡ number (number_at R row field)
    unfolding number_at
    numbered e =
        let k = other_word numbers_function word-no-function e in
        ap natural (kept_there k) ∙ h.numbered row field n f own e ∙ same row field n f e ∙ sym (ap (λ w. number (natural w)) (word_kept rows row S field f k))

    follows : is_link (sort_at rows row field) ≡ true → number_at J (ρ row) field ≡ moved_link ρ (number_at R row field)
    unfolding number_at
    follows e =
        let k = other_word is_link word-no-link e in
        ap natural (kept_there k) ∙ h.follows row field n f own e ∙ sym (ap (λ w. moved_link ρ (natural w)) (word_kept rows row S field f k))

  -- the old block's first item
  begins : number_at J (ρ 0) 1 ≡ moved_link ρ (first_item R)
  unfolding number_at is_name
  begins =
      let block : number_at joined (ρ 0) 0 ≡ 42 = number-held h 0 old.some_rows ∙ s.block in
      ap natural (resolved-other S joined (ρ 0) 1 (omega arith) (block-undeclared joined (ρ 0) block) (rw block)) ∙ h.begins ∙ ap (moved_link ρ) (sym (resolved-first S rows))

  pub resolved-holds : HoldsRenamed π number J R ρ
  unfolding number_at
  resolved-holds = record {
    whole = rw (resolved-length S joined) h.whole;
    grows = λ row field f leads k. rw (resolved-link S rows row field f) (h.grows row field f ((resolved-leads S rows f).1 leads) (rw (resolved-seam S rows row field) at k));
    kind = λ row n. resolved-kind S joined (ρ row) ∙ number-held h row (rw (resolved-length S rows) at n) ∙ sym (resolved-kind S rows row);
    stays = λ row field n f own e p k. stays row field (rw (resolved-length S rows) at n) f (rw (resolved-seam S rows row field) at own) (rw (resolved-sort S rows row field) at e) (rw (resolved-sort S rows row field) at p) (rw (resolved-sort S rows row field) at k);
    numbered = λ row field n f own p. numbered row field (rw (resolved-length S rows) at n) f (rw (resolved-seam S rows row field) at own) (rw (resolved-sort S rows row field) at p);
    named = λ row field n f own k. word-renamed row field (rw (resolved-length S rows) at n) f (rw (resolved-sort S rows row field) at k);
    follows = λ row field n f own e. follows row field (rw (resolved-length S rows) at n) f (rw (resolved-seam S rows row field) at own) (rw (resolved-sort S rows row field) at e);
    begins = begins;
    begins_later = λ p. rw (resolved-first S rows) (h.begins_later (rw (resolved-first S rows) at p));
  }
