-- Renumbering: two structured kernel tables with the same tree are each other's rows under other numbers. The map follows the links: row 0
-- is row 0, and the row that a field links is the row that the same field of the other table's row links.
use Rattle.std.specs.Prelude.{◌≡◌, true, List, ◌⊎◌, ℕ, zero, suc, ◌≤◌, ◌<◌, ℤ}
use Rattle.std.proofs.Common.{sym, ap, ◌∙◌, ⊎_elim, arith}
use Rattle.words.specs.Table.{row_count, number_at}
use Rattle.words.specs.Kinds.{kinds, kind_in, kind_of, kind_at}
use Rattle.words.specs.Links.{is_statement, link, note}
use Rattle.words.specs.declared.Form.TheVariants.{Kernel}
use Rattle.words.specs.declared.Kind.TheVariants.{OfExpression}
use Rattle.words.specs.declared.ExpressionKind.TheVariants.{Constant}
use Rattle.language.specs.Decode.{decode}
use Rattle.check_fields.specs.declared.Bounds.{Bounds}
use Rattle.check_grammar.specs.GrammarLaws.{kind-links-none}
use Rattle.check_structure.specs.LinkLaws.{by-owner}
use Rattle.check_structure.specs.NoteLaws.{note-root, note-link}
use Rattle.check_structure.specs.Structured.{Leads, Tree, Structured}
use Rattle.check_structure.specs.StructuredLaws.{structured-tree}
use Rattle.check_kernel_statements.specs.Statements.{is_kernel_statement}
use Rattle.accepted.specs.Sorts.{kind-known}
use Rattle.accepted.proofs.Statements.{root-kind, root-inside, root-statement, root-other}
use Rattle.page_tables.specs.TreeKinds.{kind-number}
use Rattle.page_tables.specs.Items.{IsItem}
use Rattle.page_tables.specs.Alike.{Alike, items, Same, branch-items, same}
use Rattle.page.specs.Tables.{Renumbered}

module _ (bounds : Bounds) (rows other : List ℤ) (s : Structured Kernel bounds rows) (t : Structured Kernel bounds other)
    (formed : (row : ℕ) → row < row_count rows → is_statement rows row ≡ true → is_kernel_statement rows row ≡ true) (tree : decode rows ≡ decode other) where
  abbrev handed : ℕ → ℕ → ℕ → ℕ
  handed owner field that = link other that field

  abbrev handed_back : ℕ → ℕ → ℕ → ℕ
  handed_back owner field that = link rows that field

  abbrev to : ℕ → ℕ
  to row = note handed 0 rows row

  abbrev from : ℕ → ℕ
  from row = note handed_back 0 other row

  here : Tree rows
  here = structured-tree Kernel bounds rows s

  there : Tree other
  there = structured-tree Kernel bounds other t

  -- ---- every row meets its like

  record Met (row : ℕ) : Type 0 where
    inside : to row < row_count other
    alike : Alike bounds rows other s t formed row (to row)

  met-root : Met 0
  unfolding decode
  met-root =
      let z = note-root handed 0 rows in
      let one : IsItem rows 0 = record { statement = root-statement Kernel bounds rows s; other_role = root-other Kernel bounds rows s } in
      let two : IsItem other 0 = record { statement = root-statement Kernel bounds other t; other_role = root-other Kernel bounds other t } in
      record {
        inside = rw z (root-inside Kernel bounds other t);
        alike = rw z (items one two
            (branch-items bounds rows other s t formed 0 0 (root-inside Kernel bounds rows s) (root-inside Kernel bounds other t) one two (root-kind Kernel bounds rows s) s.lone t.lone tree));
      }

  not-kind : (owner field : ℕ) → Leads rows owner field → 1 ≤ field
  not-kind owner zero leads = absurd (omega (arith, kind-links-none rows owner, leads.later))
  not-kind owner (suc field) leads = omega arith

  same_at : (row : ℕ) → row < row_count rows → Met row → Same bounds rows other s t formed row (to row)
  same_at row n met = same bounds rows other s t formed row (to row) n met.inside met.alike

  owner-inside : (owner field : ℕ) → Leads rows owner field → owner < row_count rows
  owner-inside owner field leads = omega (arith, leads.later, leads.inside)

  -- the same field links there too
  record Linked (owner field : ℕ) : Type 0 where
    some : 0 < link other (to owner) field
    like : Alike bounds rows other s t formed (link rows owner field) (link other (to owner) field)

  linked-there : (owner field : ℕ) → field < 6 → Leads rows owner field → Met owner → Linked owner field
  linked-there owner field h leads met =
      ⊎_elim (λ z. absurd (omega (arith, z.0, leads.later))) (λ p. record { some = p.1; like = p.2 })
      ((same_at owner (owner-inside owner field leads) met).child field (not-kind owner field leads) h)

  to-link : (owner field : ℕ) → field < 6 → Leads rows owner field → to (link rows owner field) ≡ link other (to owner) field
  to-link owner field h leads = note-link handed 0 rows here owner field h leads

  met : (row : ℕ) → row < row_count rows → Met row
  met = by-owner rows here Met met-root (λ owner field h leads m.
      let l = linked-there owner field h leads m in
      record {
        inside = rw (to-link owner field h leads) (there.forward (to owner) field m.inside h l.some).inside;
        alike = rw (to-link owner field h leads) l.like;
      })

  -- ---- and back

  returns : (row : ℕ) → row < row_count rows → from (to row) ≡ row
  returns = by-owner rows here (λ row. from (to row) ≡ row) (ap from (note-root handed 0 rows) ∙ note-root handed_back 0 other) (λ owner field h leads e.
      let m = met owner (owner-inside owner field leads) in
      let l = linked-there owner field h leads m in
      ap from (to-link owner field h leads) ∙ note-link handed_back 0 other there (to owner) field h (there.forward (to owner) field m.inside h l.some) ∙ ap (λ row. link rows row field) e)

  record Reached (that : ℕ) : Type 0 where
    row : ℕ
    inside : row < row_count rows
    is : to row ≡ that

  reached : (that : ℕ) → that < row_count other → Reached that
  reached = by-owner other there Reached (record { row = 0; inside = root-inside Kernel bounds rows s; is = note-root handed 0 rows }) (λ owner field h leads r.
      let one = r.row in
      let f = first_field owner field leads in
      let led : 0 < link other (to one) field = rw r.is (omega (arith, leads.later)) in
      let p : 0 < link rows one field = ⊎_elim (λ z. absurd (omega (arith, z.1))) (λ p. p.0) ((same_at one r.inside (met one r.inside)).child field f h) in
      let on = here.forward one field r.inside h p in
      record { row = link rows one field; inside = on.inside; is = to-link one field h on ∙ ap (λ that. link other that field) r.is })
    where
      first_field : (owner field : ℕ) → Leads other owner field → 1 ≤ field
      first_field owner zero leads = absurd (omega (arith, kind-links-none other owner, leads.later))
      first_field owner (suc field) leads = omega arith

  constant-kind : (row : ℕ) → number_at rows row 0 ≡ 1 → kind_at rows row ≡ OfExpression Constant
  unfolding kind_at kind_of kind_in kinds
  constant-kind row e = rw e

  pub renumbered : Renumbered rows other
  renumbered = record {
    to = to;
    from = from;
    first = note-root handed 0 rows;
    inside = λ row n. (met row n).inside;
    inside_back = λ that m. (let r = reached that m in rw (← r.is, returns r.row r.inside) r.inside);
    back = returns;
    forth = λ that m. (let r = reached that m in ap (λ x. to (from x)) (sym r.is) ∙ ap to (returns r.row r.inside) ∙ r.is);
    kinds_kept = λ row n. kind-number rows other row (to row) (kind-known Kernel rows row (s.known row n)) (same_at row n (met row n)).kind;
    links_mapped = λ row n field l h.
        ⊎_elim (λ z. z.1 ∙ sym (ap to z.0 ∙ note-root handed 0 rows)) (λ p. sym (to-link row field h (here.forward row field n h p.0))) ((same_at row n (met row n)).child field l h);
    numbers_kept = λ row n field l h. (same_at row n (met row n)).number field l h;
    constants_kept = λ row n e. (same_at row n (met row n)).word (constant-kind row e);
  }
