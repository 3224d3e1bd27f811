-- The resolved table is structured as the table is: its declarations and names name words of a store with D words behind the first S.
use Rattle.std.specs.Prelude.{◌≡◌, Bool, false, List, ltb, leb, eqb, ℤ}
use Rattle.std.proofs.Math.Path.{refl}
use Rattle.std.proofs.Common.{sym, ◌∙◌, true≢false, arith}
use Rattle.std.proofs.Math.Bool.{true}
use Rattle.std.proofs.Math.Logic.{⊎_elim}
use Prim.Native.Nat.{ℕ, zero, suc, ◌+◌, ◌≤◌, ◌<◌}
use Rattle.std.proofs.Math.Decide.{ℕ_discrete}
use borrow.Author.Tests.{eqb-true, eq-eqb, ne_eqb, ltb-true, lt-ltb, le-leb}
use Rattle.words.specs.Word.{pick}
use Rattle.words.specs.Table.{row_count, number_at}
use Rattle.words.specs.Laws.{by_cases, both}
use Rattle.words.specs.Layout.{Layout, store_size}
use Rattle.words.specs.declared.Form.{Form}
use Rattle.words.specs.Kinds.{kinds, kind_in, kind_of, variable, declared_number, unused, sort_at, sort_of, sort_in, kind_row, expression_fields, statement_fields, mark_fields, definition_fields, member_fields}
use Rattle.words.specs.KindLaws.{every_line, every-number}
use Rattle.words.specs.declared.Kind.{Kind}
use Rattle.words.specs.Links.{is_expression, is_place, is_statement, is_block, is_arm, is_argument, fits}
use Rattle.check_grammar.specs.GrammarLaws.{no-kind-has}
use Rattle.check_fields.specs.Fields.{source_bounds, resolved_bounds, variable_fits, declared_fits, number_fits}
use Rattle.check_fields.specs.declared.Bounds.{Bounds}
use Rattle.check_structure.specs.Structured.{Tree, Structured}
use Rattle.check_structure.specs.StructuredLaws.{structured-tree}
use Rattle.words_roles.specs.Roles.{role_sort}
use Rattle.names.specs.Names.{is_name, resolved}
use Rattle.names.specs.SameLinks.{same-role}
use Rattle.words.specs.Declarations.{is_declaration, declaration_count}
use Rattle.names.proofs.ResolvedLaws.{resolved-length, resolved-kept, resolved-other, resolved-kind, resolved-sort, resolved-link, resolved-count, resolved-leads, resolved-tree}
use Rattle.names.proofs.ResolvedNames.{declaration-word, name-word}

-- ---- what field a of a declaration and of a name holds

-- kind 58 alone declares a number, in field a
abbrev is_declared : ℕ → Bool
is_declared sort = eqb sort declared_number

abbrev own_declared : ℕ → Kind → Bool
own_declared number kind = pick (is_declared (sort_in kind 1)) (eqb number 58) true

module _ (number : ℕ) where
  none-declares : (field : ℕ) → is_declared (sort_of number field) ≡ false → sort_of number field ≡ declared_number → ⊥
  none-declares field e q = true≢false (sym (eq-eqb _ _ q) ∙ e)

  declares-alone : (field : ℕ) → field < 6 → sort_of number field ≡ declared_number → (number ≡ 58) × (field ≡ 1)
  unfolding every_line kinds sort_of sort_in kind_row expression_fields statement_fields mark_fields definition_fields member_fields
  declares-alone zero f q = absurd (none-declares 0 (no-kind-has is_declared 0 refl refl number) q)
  declares-alone (suc zero) f q = (eqb-true number 58 (rw (eq-eqb (sort_in (kind_of number) 1) declared_number q) at (every-number own_declared refl (λ n. refl) number)), refl)
  declares-alone (suc (suc zero)) f q = absurd (none-declares 2 (no-kind-has is_declared 2 refl refl number) q)
  declares-alone (suc (suc (suc zero))) f q = absurd (none-declares 3 (no-kind-has is_declared 3 refl refl number) q)
  declares-alone (suc (suc (suc (suc zero)))) f q = absurd (none-declares 4 (no-kind-has is_declared 4 refl refl number) q)
  declares-alone (suc (suc (suc (suc (suc zero))))) f q = absurd (none-declares 5 (no-kind-has is_declared 5 refl refl number) q)
  declares-alone (suc (suc (suc (suc (suc (suc field)))))) f q = absurd (omega arith)

module _ (rows : List ℤ) (row : ℕ) where
  declaration-sort : is_declaration rows row ≡ true → sort_at rows row 1 ≡ declared_number
  unfolding is_declaration sort_at sort_of sort_in kind_of kind_in kinds kind_row expression_fields statement_fields
  declaration-sort d = rw (eqb-true (number_at rows row 0) 58 d)

  sort-declaration : (field : ℕ) → field < 6 → sort_at rows row field ≡ declared_number → (is_declaration rows row ≡ true) × (field ≡ 1)
  unfolding is_declaration sort_at
  sort-declaration field h e = let own = declares-alone (number_at rows row 0) field h e in (eq-eqb _ _ own.0, own.1)

  name-sort : is_name rows row ≡ true → sort_at rows row 1 ≡ variable
  unfolding is_name sort_at sort_of sort_in kind_of kind_in kinds kind_row expression_fields statement_fields
  name-sort n = rw (eqb-true (number_at rows row 0) 2 n)

-- ---- more words to name

module _ (L : Layout) (more : ℕ) where
  abbrev wide : Bounds
  wide = resolved_bounds L more

  variable-wider : (number : ℕ) → variable_fits (source_bounds L) number ≡ true → variable_fits wide number ≡ true
  variable-wider number f =
      by_cases (ltb number L.variables) (λ e. rw e)
      (λ e.
      let parts = both (leb (store_size L) number) (ltb number (store_size L)) (rw e at f) in
      let below : number < store_size L = ltb-true _ _ parts.1 in
      rw (e, parts.0, lt-ltb number (store_size L + more) (omega arith)))

  -- of every number but a declaration's
  number-wider : (sort number : ℕ) → (sort ≡ declared_number → ⊥) → number_fits (source_bounds L) sort number ≡ true → number_fits wide sort number ≡ true
  unfolding number_fits
  number-wider sort number other f =
      let apart = ne_eqb sort declared_number other in
      by_cases (eqb sort variable) (λ e. rw e (variable-wider number (rw e at f))) (λ e. rw (e, apart) (rw (e, apart) at f))

  -- one of the words behind is named, and declared
  behind-fits : (number : ℕ) → store_size L ≤ number → number < store_size L + more → variable_fits wide number ≡ true
  behind-fits number least most = by_cases (ltb number L.variables) (λ e. rw e) (λ e. rw (e, le-leb _ _ least, lt-ltb _ _ most))

  word_fits : (number : ℕ) → store_size L ≤ number → number < store_size L + more → declared_fits wide number ≡ true
  word_fits number least most = rw (le-leb _ _ least, lt-ltb _ _ most)

-- ---- the resolved table

module _ (form : Form) (L : Layout) (rows : List ℤ) (s : Structured form (source_bounds L) rows) where
  abbrev S : ℕ
  S = store_size L

  abbrev table : List ℤ
  table = resolved S rows

  abbrev bounds : Bounds
  bounds = resolved_bounds L (declaration_count rows)

  t : Tree rows
  t = structured-tree form (source_bounds L) rows s

  -- a field that is no declaration's or variable's number stays
  kept : (row field : ℕ) → field < 6 → (sort_at rows row field ≡ variable → ⊥) → (sort_at rows row field ≡ declared_number → ⊥) → number_at table row field ≡ number_at rows row field
  unfolding number_at
  kept row field h v d = go (ℕ_discrete field 1)
    where
      go : Dec (field ≡ 1) → number_at table row field ≡ number_at rows row field
      go (yes q) =
          by_cases (is_declaration rows row) (λ e. absurd (d (rw q (declaration-sort rows row e))))
          (λ e. by_cases (is_name rows row) (λ n. absurd (v (rw q (name-sort rows row n)))) (λ n. rw (resolved-other S rows row field h e n)))
      go (no q) = rw (resolved-kept S rows row field h q)

  next-kept : (row : ℕ) → number_at table row 5 ≡ number_at rows row 5
  unfolding number_at
  next-kept row = rw (resolved-kept S rows row 5 (omega arith) (λ q. omega arith))

  second-kept : (row : ℕ) → number_at table row 2 ≡ number_at rows row 2
  unfolding number_at
  second-kept row = rw (resolved-kept S rows row 2 (omega arith) (λ q. omega arith))

  role_kept : (row field : ℕ) → role_sort table row field ≡ role_sort rows row field
  role_kept row field = same-role rows table (resolved-kind S rows) second-kept next-kept row field

  fits-same : (sort row : ℕ) → fits table sort row ≡ fits rows sort row
  unfolding fits is_expression is_place is_statement is_block is_arm is_argument is_declaration
  fits-same sort row = rw (resolved-sort S rows row 0, resolved-kind S rows row, next-kept row)

  -- numbers
  declared-number : (row : ℕ) → row < row_count rows → is_declaration rows row ≡ true → number_fits bounds declared_number (number_at table row 1) ≡ true
  unfolding number_fits
  declared-number row n d = let w = declaration-word S rows t row n d in word_fits L (declaration_count rows) _ w.least w.most

  variable-number : (row : ℕ) → row < row_count rows → is_declaration rows row ≡ false → is_name rows row ≡ true → number_fits bounds variable (number_at table row 1) ≡ true
  unfolding number_fits
  variable-number row n e name =
      ⊎_elim (λ q. rw q (variable-wider L (declaration_count rows) _ (rw (name-sort rows row name) at (s.named row n 1 (omega arith) (omega arith)))))
      (λ w. behind-fits L (declaration_count rows) _ w.least w.most) (name-word S rows t row n e name)

  names : (row : ℕ) → row < row_count rows → (field : ℕ) → 1 ≤ field → field < 6 → number_fits bounds (sort_at rows row field) (number_at table row field) ≡ true
  unfolding number_at
  names row n field first last = go (ℕ_discrete field 1)
    where
      wider : (sort_at rows row field ≡ declared_number → ⊥) → number_at table row field ≡ number_at rows row field → number_fits bounds (sort_at rows row field) (number_at table row field) ≡ true
      wider other e = rw e (number-wider L (declaration_count rows) _ _ other (s.named row n field first last))

      go : Dec (field ≡ 1) → number_fits bounds (sort_at rows row field) (number_at table row field) ≡ true
      go (yes q) =
          by_cases (is_declaration rows row) (λ e. rw (q, declaration-sort rows row e) (declared-number row n e))
          (λ e. by_cases (is_name rows row) (λ name. rw (q, name-sort rows row name) (variable-number row n e name))
          (λ name. wider (λ d. true≢false (sym (sort-declaration rows row field last d).0 ∙ e)) (rw (resolved-other S rows row field last e name))))
      go (no q) = wider (λ d. q (sort-declaration rows row field last d).1) (rw (resolved-kept S rows row field last q))

  pub resolved-structured : Structured form bounds table
  resolved-structured =
      record {
        count-fits = rw (resolved-length S rows) s.count-fits;
        known = λ row n. rw (resolved-kind S rows row) (s.known row (rw (resolved-count S rows) at n));
        unused_zero = λ row n field first last e.
            let own : sort_at rows row field ≡ unused = rw (resolved-sort S rows row field) at e in
            kept row field last (λ q. omega arith) (λ q. omega arith) ∙ s.unused_zero row (rw (resolved-count S rows) at n) field first last own;
        present = λ row n field first last e. rw (resolved-link S rows row field last) (s.present row (rw (resolved-count S rows) at n) field first last (rw (role_kept row field) at e));
        forward = λ row n field first last p. (resolved-leads S rows last).0 (s.forward row (rw (resolved-count S rows) at n) field first last (rw (resolved-link S rows row field last) at p));
        fitting = λ row n field first last p.
            rw (resolved-link S rows row field last, role_kept row field, fits-same) (s.fitting row (rw (resolved-count S rows) at n) field first last (rw (resolved-link S rows row field last) at p));
        block = rw (resolved-kind S rows 0) s.block;
        lone = rw (next-kept 0) s.lone;
        once = λ row p n. (resolved-tree S rows t).once row p n;
        named = λ row n field first last. rw (resolved-sort S rows row field) (names row (rw (resolved-count S rows) at n) field first last);
      }
