-- Places: lines handed along the links, in row order: what a step stores is right, and what was right stays so.
use Rattle.std.specs.Prelude.{◌≡◌, refl, Bool, true, false, List, ℕ, zero, suc, ◌+◌, ◌-◌, ◌≤◌, ◌<◌, eqb, ℤ, length, get_or, set}
use Rattle.std.proofs.Math.Path.{sym}
use Rattle.std.proofs.Common.{ap, subst, ◌∙◌, arith, length-set, get_or-set_same, get_or-set_other, ne_eqb}
use Rattle.std.proofs.Math.Decide.{ℕ_discrete}
use Rattle.std.proofs.Math.Arith.{lt_of_le-ne}
use Rattle.words.specs.Word.{pick}
use Rattle.words.specs.SearchLaws.{from_on}
use Rattle.words.specs.Table.{row_count, number_at}
use Rattle.words.specs.Links.{is_statement, link}
use Rattle.words.specs.declared.Form.TheVariants.{Kernel}
use Rattle.language.specs.Decode.{expression_at, statement_at}
use Rattle.language.specs.Program.{contents}
use Rattle.check_fields.specs.Fields.{bounds_of}
use Rattle.check_structure.specs.Structured.{Leads, Tree}
use Rattle.check_structure.specs.StructuredLaws.{structured-tree}
use Rattle.check_grammar.specs.GrammarLaws.{kind-links-none}
use Rattle.check_structure.specs.LinkLaws.{owner_of}
use Rattle.check_structure.specs.NoteLaws.{above_zero}
use Rattle.check_kernel.specs.Accepts.{structured-labels}
use Rattle.flat_kernel_rows.specs.StatementLinks.{StatementLink, next-item, first-item, true_branch, false_branch, loop_body}
use Rattle.flat_kernel_rows.specs.KernelTable.{KernelTable}
use Rattle.flat_kernel_rows.proofs.Rows.{Lone, Listed, BlockRow, statement-link, next-at, block_at, if-of, while-of, linking-statement, statement-number, may_link, none-linked}
use Rattle.flat_fate.specs.Code.{operand_of, always, statement_lines}
use Rattle.flat_fate.specs.Branches.{first_at, second_at, body_at}
use Rattle.flat_fate.specs.Addresses.{address_in}
use Rattle.flat_rows.specs.Places.{list_lines, test_of, handed, line_of}
use Rattle.flat_rows.proofs.Standing.{line-root, line-link, label-address}
use Rattle.flat_sizes.specs.Tables.{slot, Sized, Right, Handed, LinesPlaced, Keeps, PartsPlaced, NextPlaced, Labelled, stored}
use Rattle.flat_sizes.specs.Sizes.{block_room, next-room, true-room, false-room, body-room, true-answer, false-answer, line-few, sized-later}

module _ {rows : List ℤ} (table : KernelTable rows) where
  tree : Tree rows
  tree = structured-tree Kernel (bounds_of Kernel table.header) rows table.plain.legal.structured

  -- ---- one store

  pub keeps_same : (lines : List ℕ) → Keeps rows lines lines
  keeps_same lines = record { same_length = refl; kept = λ row r. r }

  pub keeps-two : {a b c : List ℕ} → Keeps rows a b → Keeps rows b c → Keeps rows a c
  keeps-two p q = record { same_length = q.same_length ∙ p.same_length; kept = λ row r. q.kept row (p.kept row r) }

  -- a line stored that is right
  pub stored-keeps : (lines : List ℕ) (l line : ℕ) → l < length lines → (0 < l → line ≡ line_of rows l) → Keeps rows lines (stored lines l line)
  stored-keeps lines zero line h e = keeps_same lines
  stored-keeps lines (suc l) line h e =
      rw (ne_eqb (suc l) 0 (λ (q : suc l ≡ 0). omega arith))
      (record {
        same_length = length-set lines (suc l) line;
        kept = λ row r. by row r (ℕ_discrete row (suc l));
      })
    where
      by : (row : ℕ) → Right rows lines row → Dec (row ≡ suc l) → Right rows (set lines (suc l) line) row
      by row r (yes q) = rw q (get_or-set_same lines (suc l) line 0 h ∙ e (omega arith))
      by row r (no q) = get_or-set_other lines (suc l) row line 0 q ∙ r

  pub stored-right : (lines : List ℕ) (l line : ℕ) → l < length lines → 0 < l → line ≡ line_of rows l → Right rows (stored lines l line) l
  stored-right lines zero line h p e = absurd (omega arith)
  stored-right lines (suc l) line h p e = rw (ne_eqb (suc l) 0 (λ (q : suc l ≡ 0). omega arith)) (get_or-set_same lines (suc l) line 0 h ∙ e)

  module _ {row : ℕ} (n : row < row_count rows) where
    -- ---- what a row hands on

    by-same : (lines : List ℕ) (field : ℕ) → link rows row field ≡ number_at rows row field → Right rows lines (number_at rows row field) → Handed rows lines row field
    by-same lines field same r leads t = rw same r

    pub listed-line : (field : ℕ) → field < 6 → Listed rows row field → 0 < number_at rows row field → line_of rows (number_at rows row field) ≡ handed rows row field (line_of rows row)
    listed-line field h l p = ap (line_of rows) (sym l.same) ∙ line-link table.header rows table.plain row field h (l.leads p)

    pub lone-line : (field : ℕ) → field < 6 → Lone rows row field → line_of rows (number_at rows row field) ≡ handed rows row field (line_of rows row)
    lone-line field h l = ap (line_of rows) (sym l.same) ∙ line-link table.header rows table.plain row field h l.leads

    -- a field that links no statement hands nothing on
    pub none-handed : (lines : List ℕ) (field : ℕ) → field < 6 → (StatementLink rows row field → ⊥) → Handed rows lines row field
    none-handed lines field h none leads t =
        let some : 0 < link rows row field = (let later = leads.later in omega arith) in
        absurd (none (statement-link table.header rows table.plain row n field (first_field field some) h some t))
      where
        first_field : (field : ℕ) → 0 < link rows row field → 1 ≤ field
        first_field zero p = absurd (let none-there = kind-links-none rows row in omega arith)
        first_field (suc field) p = omega arith

    pub kind-handed : (lines : List ℕ) (number field : ℕ) → number_at rows row 0 ≡ number → may_link number field ≡ false → field < 5 → Handed rows lines row field
    kind-handed lines number field k m h = none-handed lines field (omega arith) (none-linked rows row number field k m h)

    -- the first item of a block
    pub block-line : number_at rows row 0 ≡ 42 → 0 < number_at rows row 1 → line_of rows row ≡ line_of rows (number_at rows row 1)
    unfolding handed
    block-line k p = sym (listed-line 1 (omega arith) (block_at table.header rows table.plain row n k).listed p ∙ (rw k))

    pub true-line : number_at rows row 0 ≡ 43 → first_at (list_lines rows (number_at rows row 2)) (list_lines rows (number_at rows row 3)) (line_of rows row) ≡ line_of rows (number_at rows row 2)
    unfolding handed
    true-line k = sym (lone-line 2 (omega arith) (if-of table.header rows table.plain row n k).on_true ∙ (rw k))

    pub false-line : number_at rows row 0 ≡ 43 → second_at (list_lines rows (number_at rows row 2)) (list_lines rows (number_at rows row 3)) (line_of rows row) ≡ line_of rows (number_at rows row 3)
    unfolding handed
    false-line k = sym (lone-line 3 (omega arith) (if-of table.header rows table.plain row n k).on_false ∙ (rw k))

    pub body-line : number_at rows row 0 ≡ 44 → body_at (always (test_of rows row)) (line_of rows row) ≡ line_of rows (number_at rows row 2)
    unfolding handed
    body-line k = sym (lone-line 2 (omega arith) (while-of table.header rows table.plain row n k).body ∙ (rw k))

    pub next-line : is_statement rows row ≡ true → 0 < number_at rows row 5 → line_of rows row + statement_lines (statement_at rows row) ≡ line_of rows (number_at rows row 5)
    unfolding handed
    next-line t p = sym (listed-line 5 (omega arith) (next-at table.header rows table.plain row n t) p)

    -- ---- the row's own line

    pub placed-here : {lines : List ℕ} → LinesPlaced rows row lines → is_statement rows row ≡ true → Right rows lines row
    placed-here {lines} p t = by (ℕ_discrete row 0)
      where
        by : Dec (row ≡ 0) → Right rows lines row
        by (yes q) = rw q p.root
        by (no q) =
            let o = owner_of rows tree row (above_zero row q) n in
            let there : is_statement rows (link rows o.owner o.field) ≡ true = rw o.is t in
            rw o.is at (p.linked o.owner o.field o.earlier o.last o.leads there)

    -- ---- one row more

    pub placed_row : {lines after : List ℕ} → LinesPlaced rows row lines → Keeps rows lines after → ((field : ℕ) → field < 6 → Handed rows after row field) → LinesPlaced rows (row + 1) after
    placed_row {lines} {after} p k h =
        let room = p.room in
        let long = k.same_length in
        record { room = omega arith; root = k.kept 0 p.root; linked = λ other field l m. by other field l m (ℕ_discrete other row) }
      where
        by : (other field : ℕ) → other < row + 1 → field < 6 → Dec (other ≡ row) → Handed rows after other field
        by other field l m (yes q) leads t = (rw (sym q) at (h field m)) leads t
        by other field l m (no q) leads t = k.kept (link rows other field) (p.linked other field (lt_of_le-ne (omega arith) q) m leads t)

    pub placed-other : {lines : List ℕ} → LinesPlaced rows row lines → number_at rows row 0 < 40 → LinesPlaced rows (row + 1) lines
    placed-other {lines} p h =
        placed_row p (keeps_same lines) (λ field m. none-handed lines field m (λ x. (let l = statement-number rows row (linking-statement rows row x) in omega arith)))

    -- ---- what the code stores

    five : (P : ℕ → Type 0) → P 0 → P 1 → P 2 → P 3 → P 4 → (field : ℕ) → field < 5 → P field
    five P a b c d e field h = from_on P field 0 (omega arith) a (λ l. from_on P field 1 l b (λ l. from_on P field 2 l c (λ l. from_on P field 3 l d (λ l. from_on P field 4 l e (λ l. absurd (omega arith))))))

    module _ {before after : List ℕ} (room : row_count rows ≤ length before) where
      pub block-parts : number_at rows row 0 ≡ 42 → (link line : ℕ) → link ≡ number_at rows row 1 → line ≡ line_of rows row → after ≡ stored before link line → PartsPlaced rows row before after
      block-parts k link line e f g =
          let r = block_at table.header rows table.plain row n k in
          let few : number_at rows row 1 < length before = block_room table n room k in
          rw (g, e)
          (record {
            keeps = stored-keeps before (number_at rows row 1) line few (λ p. f ∙ block-line k p);
            parts = five (Handed rows (stored before (number_at rows row 1) line) row) (kind-handed (stored before (number_at rows row 1) line) 42 0 k refl (omega arith)) (first-handed r few) (kind-handed (stored before (number_at rows row 1) line) 42 2 k refl (omega arith)) (kind-handed (stored before (number_at rows row 1) line) 42 3 k refl (omega arith)) (kind-handed (stored before (number_at rows row 1) line) 42 4 k refl (omega arith));
          })
        where
          first-handed : BlockRow rows row → number_at rows row 1 < length before → Handed rows (stored before (number_at rows row 1) line) row 1
          first-handed r few leads t =
              let some : 0 < number_at rows row 1 = (let later = leads.later in let same = r.listed.same in omega arith) in
              by-same (stored before (number_at rows row 1) line) 1 r.listed.same (stored-right before (number_at rows row 1) line few some (f ∙ block-line k some)) leads t

      pub while-parts : number_at rows row 0 ≡ 44 → (link line : ℕ) → link ≡ number_at rows row 2 → line ≡ body_at (always (test_of rows row)) (line_of rows row) → after ≡ stored before link line → PartsPlaced rows row before after
      while-parts k link line e f g =
          let r = while-of table.header rows table.plain row n k in
          let few : number_at rows row 2 < length before = body-room table n room k in
          let some : 0 < number_at rows row 2 = (let later = r.body.later in omega arith) in
          rw (g, e)
          (record {
            keeps = stored-keeps before (number_at rows row 2) line few (λ p. f ∙ body-line k);
            parts = five (Handed rows (stored before (number_at rows row 2) line) row) (kind-handed (stored before (number_at rows row 2) line) 44 0 k refl (omega arith)) (kind-handed (stored before (number_at rows row 2) line) 44 1 k refl (omega arith))
                (by-same (stored before (number_at rows row 2) line) 2 r.body.same (stored-right before (number_at rows row 2) line few some (f ∙ body-line k))) (kind-handed (stored before (number_at rows row 2) line) 44 3 k refl (omega arith)) (kind-handed (stored before (number_at rows row 2) line) 44 4 k refl (omega arith));
          })

      pub if-parts : number_at rows row 0 ≡ 43 → (yes-link no-link : ℕ) (middle : List ℕ) (y z : ℕ) → yes-link ≡ number_at rows row 2 → no-link ≡ number_at rows row 3
          → y ≡ first_at (list_lines rows (number_at rows row 2)) (list_lines rows (number_at rows row 3)) (line_of rows row) → z ≡ second_at (list_lines rows (number_at rows row 2)) (list_lines rows (number_at rows row 3)) (line_of rows row)
          → middle ≡ stored before yes-link y → after ≡ stored middle no-link z → PartsPlaced rows row before after
      if-parts k yes-link no-link middle y z e f g h i j =
          let r = if-of table.header rows table.plain row n k in
          let few : number_at rows row 2 < length before = true-room table n room k in
          let some : 0 < number_at rows row 2 = (let later = r.on_true.later in omega arith) in
          let first-keeps = stored-keeps before (number_at rows row 2) y few (λ p. g ∙ true-line k) in
          let long = first-keeps.same_length in
          let few-two : number_at rows row 3 < length (stored before (number_at rows row 2) y) = (let q = false-room table n room k in omega arith) in
          let some-two : 0 < number_at rows row 3 = (let later = r.on_false.later in omega arith) in
          let second-keeps = stored-keeps (stored before (number_at rows row 2) y) (number_at rows row 3) z few-two (λ p. h ∙ false-line k) in
          rw (j, i, e, f)
          (record {
            keeps = keeps-two first-keeps second-keeps;
            parts = five (Handed rows (stored (stored before (number_at rows row 2) y) (number_at rows row 3) z) row) (kind-handed (stored (stored before (number_at rows row 2) y) (number_at rows row 3) z) 43 0 k refl (omega arith)) (kind-handed (stored (stored before (number_at rows row 2) y) (number_at rows row 3) z) 43 1 k refl (omega arith))
                (by-same (stored (stored before (number_at rows row 2) y) (number_at rows row 3) z) 2 r.on_true.same (second-keeps.kept (number_at rows row 2) (stored-right before (number_at rows row 2) y few some (g ∙ true-line k))))
                (by-same (stored (stored before (number_at rows row 2) y) (number_at rows row 3) z) 3 r.on_false.same (stored-right (stored before (number_at rows row 2) y) (number_at rows row 3) z few-two some-two (h ∙ false-line k)))
                (kind-handed (stored (stored before (number_at rows row 2) y) (number_at rows row 3) z) 43 4 k refl (omega arith));
          })

      pub next-parts : is_statement rows row ≡ true → (link line : ℕ) → link ≡ number_at rows row 5 → line ≡ line_of rows row + statement_lines (statement_at rows row) → after ≡ stored before link line → NextPlaced rows row before after
      next-parts t link line e f g =
          let l = next-at table.header rows table.plain row n t in
          let few : number_at rows row 5 < length before = next-room table n room t in
          rw (g, e) (record { keeps = stored-keeps before (number_at rows row 5) line few (λ p. f ∙ next-line t p); behind = λ leads u. next-handed l few leads u })
        where
          next-handed : Listed rows row 5 → number_at rows row 5 < length before → Handed rows (stored before (number_at rows row 5) line) row 5
          next-handed l few leads u =
              let some : 0 < number_at rows row 5 = (let later = leads.later in let same = l.same in omega arith) in
              by-same (stored before (number_at rows row 5) line) 5 l.same (stored-right before (number_at rows row 5) line few some (f ∙ next-line t some)) leads u

    pub other-parts : (lines : List ℕ) (k : ℕ) → k ≡ number_at rows row 0 → (k ≡ 42 → ⊥) → (k ≡ 43 → ⊥) → (k ≡ 44 → ⊥) → PartsPlaced rows row lines lines
    other-parts lines k e a b c = record { keeps = keeps_same lines; parts = λ field h. none-handed lines field (omega arith) (λ x. none_of field h x) }
      where
        none_of : (field : ℕ) → field < 5 → StatementLink rows row field → ⊥
        none_of field h (next-item q t) = omega arith
        none_of field h (first-item q t) = a (e ∙ t)
        none_of field h (true_branch q t) = b (e ∙ t)
        none_of field h (false_branch q t) = b (e ∙ t)
        none_of field h (loop_body q t) = c (e ∙ t)

    pub placed-both : {lines middle after : List ℕ} → LinesPlaced rows row lines → PartsPlaced rows row lines middle → NextPlaced rows row middle after → LinesPlaced rows (row + 1) after
    placed-both {lines} {middle} {after} p q r =
        placed_row p (keeps-two q.keeps r.keeps) (λ field h. from-five field h)
      where
        from-five : (field : ℕ) → field < 6 → Handed rows after row field
        from-five field h leads t = by (ℕ_discrete field 5)
          where
            by : Dec (field ≡ 5) → Right rows after (link rows row field)
            by (yes e) = (rw (sym e) at r.behind) leads t
            by (no e) = r.keeps.kept (link rows row field) (q.parts field (lt_of_le-ne (omega arith) e) leads t)

    -- ---- labels

    pub label-few : number_at rows row 0 ≡ 53 → number_at rows row 1 < 40980
    label-few k = structured-labels (bounds_of Kernel table.header) rows table.plain.legal.structured row n (rw k)

    pub labelled-row : {labels : List ℕ} (line : ℕ) → Labelled rows row labels → number_at rows row 0 ≡ 53 → line ≡ line_of rows row → Labelled rows (row + 1) (set labels (number_at rows row 1) line)
    labelled-row {labels} line s k e =
        let room = s.room in
        let few = label-few k in
        record { room = omega (arith, length-set labels (number_at rows row 1) line); labelled = λ other l inside q. by other l inside q (ℕ_discrete (number_at rows other 1) (number_at rows row 1)) }
      where
        here_is : line ≡ address_in (contents rows) (number_at rows row 1)
        here_is = e ∙ sym (label-address table.header rows table.plain row n k)

        by : (other : ℕ) → other < row + 1 → other < row_count rows → number_at rows other 0 ≡ 53 → Dec (number_at rows other 1 ≡ number_at rows row 1)
            → get_or (set labels (number_at rows row 1) line) (number_at rows other 1) 0 ≡ address_in (contents rows) (number_at rows other 1)
        by other l inside q (yes same) =
            let room = s.room in
            let few = label-few k in
            rw same (get_or-set_same labels (number_at rows row 1) line 0 (omega arith) ∙ here_is)
        by other l inside q (no same) = get_or-set_other labels (number_at rows row 1) (number_at rows other 1) line 0 same ∙ s.labelled other (earlier other l q same) inside q
          where
            earlier : (other : ℕ) → other < row + 1 → number_at rows other 0 ≡ 53 → (number_at rows other 1 ≡ number_at rows row 1 → ⊥) → other < row
            earlier other l q same = lt_of_le-ne (omega arith) (λ (z : other ≡ row). same (ap (λ (r : ℕ). number_at rows r 1) z))

    pub labelled-set : {labels : List ℕ} (index line : ℕ) → Labelled rows row labels → number_at rows row 0 ≡ 53 → index ≡ number_at rows row 1 → line ≡ line_of rows row → Labelled rows (row + 1) (set labels index line)
    labelled-set index line s k e f = rw e (labelled-row line s k f)

    pub labelled-other : {labels : List ℕ} → Labelled rows row labels → (number_at rows row 0 ≡ 53 → ⊥) → Labelled rows (row + 1) labels
    labelled-other {labels} s h =
        record { room = s.room; labelled = λ other l inside q. s.labelled other (lt_of_le-ne (omega arith) (λ (z : other ≡ row). h (sym (ap (λ (r : ℕ). number_at rows r 0) z) ∙ q))) inside q }

  -- ---- the tables, before the first row

  pub placed-start : (lines : List ℕ) → row_count rows ≤ length lines → get_or lines 0 0 ≡ 0 → LinesPlaced rows 0 lines
  placed-start lines room root = record { room = room; root = root ∙ sym (line-root table.header rows table.plain); linked = λ row field l. absurd (omega arith) }

  pub labelled-start : (labels : List ℕ) → 40980 ≤ length labels → Labelled rows 0 labels
  labelled-start labels room = record { room = room; labelled = λ row l. absurd (omega arith) }

  pub placed_at : {k l : ℕ} {lines : List ℕ} → k ≡ l → LinesPlaced rows k lines → LinesPlaced rows l lines
  placed_at {lines = lines} e s = subst (λ (k : ℕ). LinesPlaced rows k lines) e s

  pub labelled-at : {k l : ℕ} {labels : List ℕ} → k ≡ l → Labelled rows k labels → Labelled rows l labels
  labelled-at {labels = labels} e s = subst (λ (k : ℕ). Labelled rows k labels) e s

  -- ---- a line that the code works out, and that it is small

  pub record Worked (result line : ℕ) : Type 0 where
    pub is : result ≡ line
    pub small : result < 65536

  -- a linked row's line is small
  lone-small : {row field : ℕ} → Lone rows row field → line_of rows (number_at rows row field) < 65536
  lone-small l = let few = line-few table l.inside l.statement in omega arith

  module _ {row : ℕ} {sizes : List ℕ} (n : row < row_count rows) (s : Sized rows 0 sizes) (t : is_statement rows row ≡ true) (k : number_at rows row 0 ≡ 43) (y z yes-link no-link line result : ℕ)
      (e : yes-link ≡ number_at rows row 2) (f : no-link ≡ number_at rows row 3) (g : y ≡ slot sizes yes-link) (h : z ≡ slot sizes no-link) (i : line ≡ line_of rows row) where
    first-lines : y ≡ list_lines rows (number_at rows row 2)
    first-lines = g ∙ true-answer table n (sized-later table s) k yes-link e

    second-lines : z ≡ list_lines rows (number_at rows row 3)
    second-lines = h ∙ false-answer table n (sized-later table s) k no-link f

    pub if-first-at : result ≡ first_at y z line → Worked result (first_at (list_lines rows (number_at rows row 2)) (list_lines rows (number_at rows row 3)) (line_of rows row))
    if-first-at r =
        let whole : result ≡ first_at (list_lines rows (number_at rows row 2)) (list_lines rows (number_at rows row 3)) (line_of rows row) = r ∙ (rw (first-lines, second-lines, i)) in
        record { is = whole; small = omega (arith, true-line n k, lone-small (if-of table.header rows table.plain row n k).on_true) }

    pub if-second-at : result ≡ second_at y z line → Worked result (second_at (list_lines rows (number_at rows row 2)) (list_lines rows (number_at rows row 3)) (line_of rows row))
    if-second-at r =
        let whole : result ≡ second_at (list_lines rows (number_at rows row 2)) (list_lines rows (number_at rows row 3)) (line_of rows row) = r ∙ (rw (first-lines, second-lines, i)) in
        record { is = whole; small = omega (arith, false-line n k, lone-small (if-of table.header rows table.plain row n k).on_false) }

  pub while-body-at : {row : ℕ} (n : row < row_count rows) → is_statement rows row ≡ true → (k : number_at rows row 0 ≡ 44) (atom : ℕ) (endless : Bool) (line result : ℕ) → atom ≡ number_at rows row 1
      → endless ≡ always (operand_of (expression_at rows atom)) → line ≡ line_of rows row → result ≡ body_at endless line → Worked result (body_at (always (test_of rows row)) (line_of rows row))
  while-body-at {row} n t k atom endless line result e f g r =
      let whole : result ≡ body_at (always (test_of rows row)) (line_of rows row) = r ∙ (rw (f, e, g)) in
      record { is = whole; small = omega (arith, body-line n k, lone-small (while-of table.header rows table.plain row n k).body) }
