-- Trees of moved rows: the trees at a row's new place are those at its old one, with each word and each function renamed; row 0 and the lists from
-- definitions on apart, which a join makes anew. A row by its kind (MovedKinds), over the table of kinds; then by induction on the rows left.
use Rattle.std.specs.Prelude.{◌≡◌, ◌↔◌, Bool, true, false, not, ◌&&◌, ℕ, zero, suc, ◌+◌, ◌≤◌, ◌<◌, eqb, ℤ, pos}
use Rattle.std.proofs.Math.Path.{refl, sym, ap}
use Rattle.std.proofs.Common.{◌∙◌, true≢false, lt-ltb, le-ltb, eqb-true}
use mathlib.Core.List.{List, [], ◌∷◌, map}
use native.Mathlib.Omega.{arith}
use Rattle.words.specs.Word.{natural, pick}
use Rattle.words.specs.Laws.{by_cases}
use Rattle.words.specs.Table.{row_count, Whole, word_at, number_at}
use Rattle.words.specs.Kinds.{kinds, kind_in, kind_of, kind_at, unused, is_link, kind_row, expression_fields, statement_fields, mark_fields, definition_fields, member_fields, sort_in, sort_of, sort_at}
use Rattle.words.specs.KindLaws.{every_line}
use Rattle.words.specs.Declarations.{is_declaration}
use Rattle.words.specs.Links.{link}
use Rattle.words.specs.declared.Form.{Form}
use Rattle.words.specs.declared.Kind.{Kind}
use Rattle.words.specs.declared.Kind.TheVariants.{Definition}
use Rattle.language.specs.Trees.{constant, no_more, empty, no_arm, none}
use Rattle.language.specs.Decode.{later, expression_of, expression_at, arguments_of, arguments_at, parameters_at, statement_of, items_of, arms_of, statement_at, items_at, arms_at}
use Rattle.language.specs.DecodeLaws.{expression-at, arguments-at, parameters-at, statement-at, items-at, arms-at}
use Rattle.check_grammar.specs.GrammarLaws.{no-kind-has}
use Rattle.check_structure.specs.Structured.{Structured}
use Rattle.check_structure.specs.StructuredLaws.{structured-tree}
use Rattle.check_fields.specs.declared.Bounds.{Bounds}
use Rattle.language_renaming.specs.Renaming.{renamed, renamed_arguments, renamed_statement, renamed_arms, renamed_items}
use Rattle.check_function_causes.specs.Functions.{is_definition}
use Rattle.join.specs.Moved.{at_seam, InOrder, numbers_function, names_word, moved_link, HoldsRenamed}
use Rattle.join.proofs.Fronts.{kept-part, kept_row}
use Rattle.join.proofs.Kept.{ordered, kept-undefined}
use Rattle.join.proofs.MovedLaws.{link-is}
use Rattle.join.proofs.MovedKinds.{SameWords, SameAbsence, SameTrees, expression-moved, arguments-moved, statement-moved, items-moved, arms-moved}

-- ---- the trees of a table

-- a next that is no link is unused
next-unused : (number : ℕ) → is_link (sort_of number 5) ≡ false → sort_of number 5 ≡ unused
unfolding every_line kinds sort_in kind_row expression_fields statement_fields mark_fields definition_fields member_fields is_link
next-unused number e = by (is_link (sort_of number 5)) (eqb (sort_of number 5) unused) refl e (no-kind-has (λ (sort : ℕ). not (is_link sort) && not (eqb sort unused)) 5 refl refl number)
  where
    by : (links free : Bool) → eqb (sort_of number 5) unused ≡ free → links ≡ false → (not links && not free) ≡ false → sort_of number 5 ≡ unused
    by true free q p t = absurd (true≢false p)
    by false true q p t = eqb-true _ _ q
    by false false q p t = absurd (true≢false t)

module _ {form : Form} {bounds : Bounds} {π φ : ℕ → ℕ} {joined rows : List ℤ} {ρ : ℕ → ℕ} (s : Structured form bounds rows) (i : InOrder rows) (h : HoldsRenamed π φ joined rows ρ) where
  whole-rows : Whole rows
  whole-rows = sym (structured-tree form bounds rows s).whole

  -- A field whose link leads along, to a later row or nowhere.
  record Led (row field : ℕ) : Type 0 where
    leads : number_at joined (ρ row) field ≡ moved_link ρ (number_at rows row field)
    forward : 0 < number_at rows row field → (row < number_at rows row field) × (ρ row < ρ (number_at rows row field)) × (number_at rows row field < row_count rows) × (is_definition rows (number_at rows row field) ≡ false)

  led : (row field : ℕ) → row < row_count rows → 1 ≤ field → field < 6 → at_seam rows row field ≡ false → is_link (sort_at rows row field) ≡ true → Led row field
  led row field n least most own e = record { leads = h.follows row field n most own e; forward = by (number_at rows row field) (link-is rows row field e) }
    where
      by : (l : ℕ) → link rows row field ≡ l → 0 < l → (row < l) × (ρ row < ρ l) × (l < row_count rows) × (is_definition rows l ≡ false)
      by l q p =
          let leads = s.forward row n field least most (rw q p) in
          (rw q at leads.later, rw q at (h.grows row field most leads own), rw q at leads.inside, rw q at (kept-undefined (ordered s i) row field most leads own))

  -- A row that is neither row 0 nor a definition.
  abbrev pub Inner : ℕ → Type 0
  Inner row = (0 < row) × (is_definition rows row ≡ false)

  next-absent : (row : ℕ) → Inner row → row < row_count rows → is_link (sort_at rows row 5) ≡ false → numbers_function (sort_at rows row 5) ≡ false → names_word (sort_at rows row 5) ≡ false → number_at rows row 5 ≡ 0 → Led row 5
  unfolding number_at
  next-absent row p n e f k z = record {
    leads = ap natural (h.stays row 5 n (omega arith) (kept_row rows row 5 p.0 p.1) e f k) ∙ z ∙ sym (ap (moved_link ρ) z);
    forward = λ some. absurd (omega arith);
  }

  next-led : (row : ℕ) → Inner row → row < row_count rows → Led row 5
  unfolding sort_at
  next-led row p n = by_cases (is_link (sort_at rows row 5)) (λ e. led row 5 n (omega arith) (omega arith) (kept_row rows row 5 p.0 p.1) e)
      (λ e. next-absent row p n e (ap numbers_function (next-unused (number_at rows row 0) e)) (ap names_word (next-unused (number_at rows row 0) e)) (s.unused_zero row n 5 (omega arith) (omega arith) (next-unused (number_at rows row 0) e)))

  -- the tree at a link, from those at later rows
  at-link : {A : Type 0} (rename : A → A) (other : A) → rename other ≡ other → (f g : ℕ → A) (row field : ℕ) → Led row field → ((l : ℕ) → row < l → l < row_count rows → is_definition rows l ≡ false → f (ρ l) ≡ rename (g l))
      → later other (ρ row) f (number_at joined (ρ row) field) ≡ rename (later other row g (number_at rows row field))
  at-link {A} rename other fixed f g row field d rec = go (number_at joined (ρ row) field) (number_at rows row field) d.leads d.forward
    where
      go : (m l : ℕ) → m ≡ moved_link ρ l → (0 < l → (row < l) × (ρ row < ρ l) × (l < row_count rows) × (is_definition rows l ≡ false)) → later other (ρ row) f m ≡ rename (later other row g l)
      go m zero e d = rw (e, le-ltb (ρ row) 0 (omega arith), le-ltb row 0 (omega arith)) (sym fixed)
      go m (suc l) e d = let w = d (omega arith) in rw (e, lt-ltb (ρ row) (ρ (suc l)) w.1, lt-ltb row (suc l) w.0) (rec (suc l) w.0 w.2 w.3)

  -- a link is absent there where it is absent here
  absent-alike : (row field : ℕ) → Led row field → (number_at joined (ρ row) field ≡ 0) ↔ (number_at rows row field ≡ 0)
  absent-alike row field d = go (number_at joined (ρ row) field) (number_at rows row field) d.leads d.forward
    where
      go : (m l : ℕ) → m ≡ moved_link ρ l → (0 < l → (row < l) × (ρ row < ρ l) × (l < row_count rows) × (is_definition rows l ≡ false)) → (m ≡ 0) ↔ (l ≡ 0)
      go m zero e d = ((λ _. refl), (λ _. e))
      go m (suc l) e d = let up = (d (omega arith)).1 in ((λ z. absurd (omega arith)), (λ z. absurd (omega arith)))

  -- so is the next of a row
  pub next-alike : (row : ℕ) → Inner row → row < row_count rows → (number_at joined (ρ row) 5 ≡ 0) ↔ (number_at rows row 5 ≡ 0)
  next-alike row p n = absent-alike row 5 (next-led row p n)

  same_words : (row : ℕ) → 0 < row → row < row_count rows → SameWords (kind_at rows row) (word_at joined (ρ row)) (word_at rows row)
  unfolding kind_at sort_at sort_of
  same_words row p n field least e f k = h.stays row field n (omega arith) (kept-part rows row field p least) e f k

  renumbered-words : (row : ℕ) → 0 < row → row < row_count rows → (field : ℕ) → field < 5 → numbers_function (sort_in (kind_at rows row) field) ≡ true → natural (word_at joined (ρ row) field) ≡ φ (natural (word_at rows row field))
  unfolding kind_at sort_at sort_of number_at
  renumbered-words row p n field least e = h.numbered row field n (omega arith) (kept-part rows row field p least) e

  renamed-words : (row : ℕ) → 0 < row → row < row_count rows → (field : ℕ) → field < 5 → names_word (sort_in (kind_at rows row) field) ≡ true → natural (word_at joined (ρ row) field) ≡ π (natural (word_at rows row field))
  unfolding kind_at sort_at sort_of number_at
  renamed-words row p n field least e = h.named row field n (omega arith) (kept-part rows row field p least) e

  field-led : (row : ℕ) → 0 < row → row < row_count rows → (field : ℕ) → 1 ≤ field → field < 5 → is_link (sort_in (kind_at rows row) field) ≡ true → Led row field
  unfolding kind_at sort_at sort_of
  field-led row p n field least most e = led row field n least (omega arith) (kept-part rows row field p most) e

  same-trees : {A : Type 0} (rename : A → A) (other : A) → rename other ≡ other → (f g : ℕ → A) (row : ℕ) → 0 < row → row < row_count rows → ((l : ℕ) → row < l → l < row_count rows → is_definition rows l ≡ false → f (ρ l) ≡ rename (g l))
      → SameTrees rename (kind_at rows row) (word_at joined (ρ row)) (word_at rows row) (later other (ρ row) f) (later other row g)
  unfolding number_at
  same-trees rename other fixed f g row p n rec field least most e = at-link rename other fixed f g row field (field-led row p n field least most e) rec

  same-absence : (row : ℕ) → 0 < row → row < row_count rows → SameAbsence (kind_at rows row) (word_at joined (ρ row)) (word_at rows row)
  unfolding number_at
  same-absence row p n field least most e = absent-alike row field (field-led row p n field least most e)

  same_kind : (row : ℕ) → row < row_count rows → kind_at joined (ρ row) ≡ kind_at rows row
  unfolding kind_at
  same_kind row n = ap kind_of (h.kind row n)

  -- a declaration's number is a word's
  declared-word : (row : ℕ) → is_declaration rows row ≡ true → names_word (sort_at rows row 1) ≡ true
  unfolding is_declaration sort_at sort_of kind_of kind_in kinds sort_in kind_row statement_fields
  declared-word row d = rw (eqb-true (number_at rows row 0) 58 d)

  parameters-link : is_link (sort_in Definition 2) ≡ true
  unfolding is_link sort_in kind_row definition_fields
  parameters-link = refl

  block-link : is_link (sort_in Definition 3) ≡ true
  unfolding is_link sort_in kind_row definition_fields
  block-link = refl

  -- the links of a definition
  definition-led : (row : ℕ) → 0 < row → row < row_count rows → kind_at rows row ≡ Definition → (field : ℕ) → is_link (sort_in Definition field) ≡ true → 1 ≤ field → field < 5 → Led row field
  definition-led row p n k field e least most = field-led row p n field least most (rw k e)

  -- what stands where no link leads has no names
  constant-stays : renamed π φ (constant (pos 0)) ≡ constant (pos 0)
  unfolding renamed
  constant-stays = refl

  empty-stays : renamed_statement π φ empty ≡ empty
  unfolding renamed_statement
  empty-stays = refl

  none_stays : renamed_items π φ none ≡ none
  unfolding renamed_items
  none_stays = refl

  no_arm-stays : renamed_arms π φ no_arm ≡ no_arm
  unfolding renamed_arms
  no_arm-stays = refl

  no_more-stays : renamed_arguments π φ no_more ≡ no_more
  unfolding renamed
  no_more-stays = refl

  same-role : (row : ℕ) → row < row_count rows → is_declaration joined (ρ row) ≡ is_declaration rows row
  unfolding is_declaration
  same-role row n = rw (h.kind row n)

  -- the words of the parameters from a row on
  parameters-by : (left row : ℕ) → row_count rows ≤ row + left → Inner row → row < row_count rows → parameters_at joined (ρ row) ≡ map π (parameters_at rows row)
  parameters-by zero row enough some n = absurd (omega arith)
  parameters-by (suc left) row enough some n =
      parameters-at joined h.whole (ρ row)
      ∙ ap (λ (declares : Bool). pick declares (number_at joined (ρ row) 1 ∷ later [] (ρ row) (parameters_at joined) (number_at joined (ρ row) 5)) []) (same-role row n)
      ∙ go (is_declaration rows row) refl (λ l up below other. parameters-by left l (omega arith) (omega arith, other) below)
      ∙ sym (ap (map π) (parameters-at rows whole-rows row))
    where
      go : (declares : Bool) → is_declaration rows row ≡ declares → ((l : ℕ) → row < l → l < row_count rows → is_definition rows l ≡ false → parameters_at joined (ρ l) ≡ map π (parameters_at rows l))
          → pick declares (number_at joined (ρ row) 1 ∷ later [] (ρ row) (parameters_at joined) (number_at joined (ρ row) 5)) [] ≡ map π (pick declares (number_at rows row 1 ∷ later [] row (parameters_at rows) (number_at rows row 5)) [])
      go true d rec =
          let word : number_at joined (ρ row) 1 ≡ π (number_at rows row 1) = h.named row 1 n (omega arith) (kept-part rows row 1 some.0 (omega arith)) (declared-word row d) in
          rw (word, at-link (map π) [] refl (parameters_at joined) (parameters_at rows) row 5 (next-led row some n) rec)
      go false d rec = refl

  module _ (origin : π 0 ≡ 0) where
    -- The expression at a row, and the arguments from it on.
    pub record SameValues (row : ℕ) : Type 0 where
      pub expression : expression_at joined (ρ row) ≡ renamed π φ (expression_at rows row)
      pub arguments : arguments_at joined (ρ row) ≡ renamed_arguments π φ (arguments_at rows row)

    -- from what stands at later rows
    values_same : (row : ℕ) → Inner row → row < row_count rows → ((l : ℕ) → row < l → l < row_count rows → is_definition rows l ≡ false → SameValues l) → SameValues row
    unfolding number_at
    values_same row p n rec = record {
      expression = expression-at joined h.whole (ρ row)
          ∙ ap (λ (k : Kind). expression_of k (word_at joined (ρ row)) (later (constant (pos 0)) (ρ row) (expression_at joined)) (later no_more (ρ row) (arguments_at joined))) (same_kind row n)
          ∙ expression-moved π φ origin (word_at joined (ρ row)) (word_at rows row) _ _ _ _ (kind_at rows row) (same_words row p.0 n) (renumbered-words row p.0 n) (renamed-words row p.0 n) e
          (same-trees (renamed_arguments π φ) no_more no_more-stays (arguments_at joined) (arguments_at rows) row p.0 n (λ l up below other. (rec l up below other).arguments))
          ∙ sym (ap (renamed π φ) (expression-at rows whole-rows row));
      arguments = arguments-at joined h.whole (ρ row)
          ∙ ap (λ (k : Kind). arguments_of k (later (constant (pos 0)) (ρ row) (expression_at joined) (number_at joined (ρ row) 1)) (later no_more (ρ row) (arguments_at joined) (number_at joined (ρ row) 5))) (same_kind row n)
          ∙ arguments-moved π φ origin (kind_at rows row) (word_at joined (ρ row)) (word_at rows row) (later (constant (pos 0)) (ρ row) (expression_at joined)) (later (constant (pos 0)) row (expression_at rows)) _ (later no_more row (arguments_at rows) (number_at rows row 5)) e
          (at-link (renamed_arguments π φ) no_more no_more-stays (arguments_at joined) (arguments_at rows) row 5 (next-led row p n) (λ l up below other. (rec l up below other).arguments))
          ∙ sym (ap (renamed_arguments π φ) (arguments-at rows whole-rows row));
    }
      where
        e : SameTrees (renamed π φ) (kind_at rows row) (word_at joined (ρ row)) (word_at rows row) (later (constant (pos 0)) (ρ row) (expression_at joined)) (later (constant (pos 0)) row (expression_at rows))
        e = same-trees (renamed π φ) (constant (pos 0)) constant-stays (expression_at joined) (expression_at rows) row p.0 n (λ l up below other. (rec l up below other).expression)

    values-by : (left row : ℕ) → row_count rows ≤ row + left → Inner row → row < row_count rows → SameValues row
    values-by zero row enough p n = absurd (omega arith)
    values-by (suc left) row enough p n = values_same row p n (λ l up below other. values-by left l (omega arith) (omega arith, other) below)

    pub moved-expression : (row : ℕ) → Inner row → row < row_count rows → expression_at joined (ρ row) ≡ renamed π φ (expression_at rows row)
    moved-expression row p n = (values-by (row_count rows) row (omega arith) p n).expression

    -- What stands at a row.
    pub record SameAt (row : ℕ) : Type 0 where
      pub statement : statement_at joined (ρ row) ≡ renamed_statement π φ (statement_at rows row)
      pub items : items_at joined (ρ row) ≡ renamed_items π φ (items_at rows row)
      pub arms : arms_at joined (ρ row) ≡ renamed_arms π φ (arms_at rows row)

    -- The words of the parameters of a definition, and what stands at its block.
    pub record SameFunction (row : ℕ) : Type 0 where
      pub parameters : later [] (ρ row) (parameters_at joined) (number_at joined (ρ row) 2) ≡ map π (later [] row (parameters_at rows) (number_at rows row 2))
      pub body : later empty (ρ row) (statement_at joined) (number_at joined (ρ row) 3) ≡ renamed_statement π φ (later empty row (statement_at rows) (number_at rows row 3))

    function-same : (row : ℕ) → 0 < row → row < row_count rows → ((l : ℕ) → row < l → l < row_count rows → is_definition rows l ≡ false → SameAt l) → kind_at rows row ≡ Definition → SameFunction row
    function-same row p n rec k = record {
      parameters = at-link (map π) [] refl (parameters_at joined) (parameters_at rows) row 2 (definition-led row p n k 2 parameters-link (omega arith) (omega arith)) (λ l up below other. parameters-by (row_count rows) l (omega arith) (omega arith, other) below);
      body = at-link (renamed_statement π φ) empty empty-stays (statement_at joined) (statement_at rows) row 3 (definition-led row p n k 3 block-link (omega arith) (omega arith)) (λ l up below other. (rec l up below other).statement);
    }

    -- from what stands at later rows
    row_same : (row : ℕ) → Inner row → row < row_count rows → ((l : ℕ) → row < l → l < row_count rows → is_definition rows l ≡ false → SameAt l) → SameAt row
    unfolding number_at
    row_same row p n rec = record {
      statement = own;
      items = items-at joined h.whole (ρ row)
          ∙ ap (λ (k : Kind). items_of k (word_at joined (ρ row)) (statement_at joined (ρ row)) (later [] (ρ row) (parameters_at joined) (number_at joined (ρ row) 2)) (later empty (ρ row) (statement_at joined) (number_at joined (ρ row) 3)) (later none (ρ row) (items_at joined) (number_at joined (ρ row) 5))) (same_kind row n)
          ∙ items-moved π φ origin (kind_at rows row) (word_at joined (ρ row)) (word_at rows row) _ (statement_at rows row) _ (later none row (items_at rows) (number_at rows row 5)) _ (later [] row (parameters_at rows) (number_at rows row 2)) _ (later empty row (statement_at rows) (number_at rows row 3)) (same_words row p.0 n) (renumbered-words row p.0 n) own
          (at-link (renamed_items π φ) none none_stays (items_at joined) (items_at rows) row 5 (next-led row p n) (λ l up below other. (rec l up below other).items))
          (λ k. let f = function-same row p.0 n rec k in (f.parameters, f.body))
          ∙ sym (ap (renamed_items π φ) (items-at rows whole-rows row));
      arms = arms-at joined h.whole (ρ row)
          ∙ ap (λ (k : Kind). arms_of k (later (constant (pos 0)) (ρ row) (expression_at joined) (number_at joined (ρ row) 1)) (later empty (ρ row) (statement_at joined) (number_at joined (ρ row) 2)) (later no_arm (ρ row) (arms_at joined) (number_at joined (ρ row) 5))) (same_kind row n)
          ∙ arms-moved π φ origin (kind_at rows row) (word_at joined (ρ row)) (word_at rows row) (later (constant (pos 0)) (ρ row) (expression_at joined)) (later (constant (pos 0)) row (expression_at rows)) (later empty (ρ row) (statement_at joined)) (later empty row (statement_at rows)) _ (later no_arm row (arms_at rows) (number_at rows row 5)) e st
          (at-link (renamed_arms π φ) no_arm no_arm-stays (arms_at joined) (arms_at rows) row 5 (next-led row p n) (λ l up below other. (rec l up below other).arms))
          ∙ sym (ap (renamed_arms π φ) (arms-at rows whole-rows row));
    }
      where
        e : SameTrees (renamed π φ) (kind_at rows row) (word_at joined (ρ row)) (word_at rows row) (later (constant (pos 0)) (ρ row) (expression_at joined)) (later (constant (pos 0)) row (expression_at rows))
        e = same-trees (renamed π φ) (constant (pos 0)) constant-stays (expression_at joined) (expression_at rows) row p.0 n (λ l up below other. moved-expression l (omega arith, other) below)

        st : SameTrees (renamed_statement π φ) (kind_at rows row) (word_at joined (ρ row)) (word_at rows row) (later empty (ρ row) (statement_at joined)) (later empty row (statement_at rows))
        st = same-trees (renamed_statement π φ) empty empty-stays (statement_at joined) (statement_at rows) row p.0 n (λ l up below other. (rec l up below other).statement)

        own : statement_at joined (ρ row) ≡ renamed_statement π φ (statement_at rows row)
        own =
            statement-at joined h.whole (ρ row)
            ∙ ap (λ (k : Kind). statement_of k (word_at joined (ρ row)) (later (constant (pos 0)) (ρ row) (expression_at joined)) (later empty (ρ row) (statement_at joined)) (later none (ρ row) (items_at joined)) (later no_arm (ρ row) (arms_at joined))) (same_kind row n)
            ∙ statement-moved π φ origin (word_at joined (ρ row)) (word_at rows row) _ _ _ _ _ _ _ _ (kind_at rows row) (same_words row p.0 n) (renamed-words row p.0 n) (same-absence row p.0 n) e st
            (same-trees (renamed_items π φ) none none_stays (items_at joined) (items_at rows) row p.0 n (λ l up below other. (rec l up below other).items))
            (same-trees (renamed_arms π φ) no_arm no_arm-stays (arms_at joined) (arms_at rows) row p.0 n (λ l up below other. (rec l up below other).arms))
            ∙ sym (ap (renamed_statement π φ) (statement-at rows whole-rows row))

    same_by : (left row : ℕ) → row_count rows ≤ row + left → Inner row → row < row_count rows → SameAt row
    same_by zero row enough p n = absurd (omega arith)
    same_by (suc left) row enough p n = row_same row p n (λ l up below other. same_by left l (omega arith) (omega arith, other) below)

    -- The trees at a row.
    pub moved-trees : (row : ℕ) → Inner row → row < row_count rows → SameAt row
    moved-trees row p n = same_by (row_count rows) row (omega arith) p n

    pub moved-function : (row : ℕ) → 0 < row → row < row_count rows → kind_at rows row ≡ Definition → SameFunction row
    moved-function row p n k = function-same row p n (λ l up below other. moved-trees l (omega arith, other) below) k
