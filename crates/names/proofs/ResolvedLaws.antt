-- Laws of the resolved table: its length, kinds, sorts, links, depths and lists are the table's; only the names change; a table without
-- declarations is its own resolved table.
use Rattle.std.proofs.Math.Path.{◌≡◌, refl}
use Rattle.std.proofs.Common.{sym, ap, ◌∙◌, arith, eqb-true, ne_eqb}
use Rattle.std.specs.Prelude.{Bool, ◌↔◌, List, ℕ, ◌+◌, ◌*◌, ◌<◌, eqb, ℤ, length}
use Rattle.std.proofs.Math.Bool.{true, false}
use Rattle.std.proofs.Math.Decide.{ℕ_discrete}
use Rattle.words.specs.Word.{pick, natural}
use Rattle.words.specs.Table.{row_count, word_at, number_at}
use Rattle.words.specs.Laws.{by_cases}
use Rattle.words.specs.declared.Form.{Form}
use Rattle.words.specs.Kinds.{kinds, kind_in, kind_of, is_link, sort_at, sort_of, sort_in, kind_row, expression_fields, statement_fields}
use Rattle.words.specs.Links.{link}
use Rattle.check_structure.specs.Structured.{Leads, Tree, Depth, Shallow}
use Rattle.check_structure.specs.Lists.{Before}
use Rattle.names.specs.Names.{NoDeclaration, is_name, variable_word, resolved_name, resolved_word, resolved}
use Rattle.words.specs.Declarations.{declaration_kind, is_declaration}
use Rattle.names.specs.SameLinks.{same_count, same-leads, same_tree, same-depth, same-before}
use Rattle.names.proofs.TableLaws.{table-length, table-word, table-all, word-beyond, made-of-itself}
use Rattle.names.proofs.ScopeLaws.{meant-none}

-- ---- the resolved table

module _ (S : ℕ) (rows : List ℤ) where
  pub resolved-length : length (resolved S rows) ≡ length rows
  unfolding resolved
  resolved-length = table-length (resolved_word S rows) (length rows)

  pub resolved-word : (row field : ℕ) → field < 6 → 6 * row + field < length rows → word_at (resolved S rows) row field ≡ resolved_word S rows row field
  unfolding resolved
  resolved-word row field h b = table-word (resolved_word S rows) (length rows) row field h b

  -- kind, b, c, d and next stay
  pub resolved-kept : (row field : ℕ) → field < 6 → (field ≡ 1 → ⊥) → word_at (resolved S rows) row field ≡ word_at rows row field
  unfolding resolved resolved_word
  resolved-kept row field h other =
      table-all rows (resolved_word S rows) row field h (λ b. rw (ne_eqb field 1 other) (word-beyond rows row field b)) ∙ rw (ne_eqb field 1 other)

  -- every word of a row that is neither a declaration nor a name stays
  pub resolved-other : (row field : ℕ) → field < 6 → is_declaration rows row ≡ false → is_name rows row ≡ false → word_at (resolved S rows) row field ≡ word_at rows row field
  unfolding resolved resolved_word resolved_name
  resolved-other row field h d n =
      let same : resolved_word S rows row field ≡ word_at rows row field = by_cases (eqb field 1) (λ e. rw (e, d, n) (ap (word_at rows row) (sym (eqb-true _ _ e)))) (λ e. rw e) in
      table-all rows (resolved_word S rows) row field h (λ b. same ∙ word-beyond rows row field b) ∙ same

  pub resolved-kind : (row : ℕ) → number_at (resolved S rows) row 0 ≡ number_at rows row 0
  unfolding number_at
  resolved-kind row = rw (resolved-kept row 0 (omega arith) (λ q. omega arith))

  pub resolved-sort : (row field : ℕ) → sort_at (resolved S rows) row field ≡ sort_at rows row field
  unfolding sort_at
  resolved-sort row field = rw (resolved-kind row)

  -- field a of a declaration or a name is no link
  no-link : (kind field : ℕ) → field ≡ 1 → (kind ≡ declaration_kind → is_link (sort_of kind field) ≡ false) × (kind ≡ 2 → is_link (sort_of kind field) ≡ false)
  unfolding sort_of sort_in kind_of kind_in kinds kind_row expression_fields statement_fields is_link
  no-link kind field e = (λ k. rw (k, e), λ k. rw (k, e))

  pub resolved-link : (row field : ℕ) → field < 6 → link (resolved S rows) row field ≡ link rows row field
  unfolding link number_at is_declaration is_name sort_at
  resolved-link row field h = rw (resolved-kind row) (go (ℕ_discrete field 1))
    where
      go : Dec (field ≡ 1)
          → ◌≡◌ {A = ℕ} (pick (is_link (sort_of (number_at rows row 0) field)) (natural (word_at (resolved S rows) row field)) 0)
          (pick (is_link (sort_of (number_at rows row 0) field)) (natural (word_at rows row field)) 0)
      go (yes q) =
          by_cases (is_declaration rows row)
          (λ d. rw ((no-link (number_at rows row 0) field q).0 (eqb-true _ _ d)))
          (λ d. by_cases (is_name rows row)
          (λ n. rw ((no-link (number_at rows row 0) field q).1 (eqb-true _ _ n)))
          (λ n. rw (resolved-other row field h d n)))
      go (no q) = rw (resolved-kept row field h q)

  pub resolved-declaration : (row : ℕ) → is_declaration (resolved S rows) row ≡ is_declaration rows row
  unfolding is_declaration
  resolved-declaration row = rw (resolved-kind row)

  -- as many rows, and their links lead to the same rows
  pub resolved-count : row_count (resolved S rows) ≡ row_count rows
  resolved-count = same_count rows (resolved S rows) resolved-length resolved-link

  pub resolved-leads : {row field : ℕ} → field < 6 → Leads rows row field ↔ Leads (resolved S rows) row field
  resolved-leads h = (same-leads rows (resolved S rows) resolved-length resolved-link h, same-leads (resolved S rows) rows (sym resolved-length) (λ row field k. sym (resolved-link row field k)) h)

  -- the rows form the same tree
  pub resolved-tree : Tree rows → Tree (resolved S rows)
  resolved-tree t = same_tree rows (resolved S rows) resolved-length resolved-link t

  -- it is as deep, and items stand in the same order
  pub resolved-depth : {row depth : ℕ} → Depth rows row depth ↔ Depth (resolved S rows) row depth
  resolved-depth = (same-depth rows (resolved S rows) resolved-length resolved-link, same-depth (resolved S rows) rows (sym resolved-length) (λ row field h. sym (resolved-link row field h)))

  pub resolved-shallow : (form : Form) → Shallow form rows → Shallow form (resolved S rows)
  resolved-shallow form shallow row depth d = shallow row depth (resolved-depth.1 d)

  pub resolved-before : {item row : ℕ} → Before rows item row ↔ Before (resolved S rows) item row
  resolved-before = (same-before rows (resolved S rows) resolved-length resolved-link, same-before (resolved S rows) rows (sym resolved-length) (λ row field h. sym (resolved-link row field h)))

  pub resolved-none : NoDeclaration rows → resolved S rows ≡ rows
  unfolding resolved resolved_word resolved_name variable_word
  resolved-none none = made-of-itself rows (resolved_word S rows) same
    where
      either : (b : Bool) (w : ℤ) → pick b w w ≡ w
      either true w = refl
      either false w = refl

      same : (row field : ℕ) → resolved_word S rows row field ≡ word_at rows row field
      same row field =
          by_cases (eqb field 1)
          (λ e. rw (e, none row, meant-none rows none row (number_at rows row 1)) (either (is_name rows row) _ ∙ ap (word_at rows row) (sym (eqb-true _ _ e))))
          (λ e. rw e)
