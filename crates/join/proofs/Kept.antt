-- Laws of the words that a join keeps: they link no definition, and both rows stand in one part of the table. What the others link.
use Rattle.std.specs.Prelude.{◌≡◌, refl, true, ◌||◌, ◌⊎◌, List, ℕ, zero, suc, ◌+◌, ◌≤◌, ◌<◌, eqb, ℤ, Some}
use Rattle.std.proofs.Common.{sym, ◌∙◌, true≢false, inl, inr, arith}
use Rattle.std.proofs.Math.Path.{ap}
use Rattle.std.proofs.Math.Bool.{false, not}
use Rattle.std.proofs.Math.Decide.{ℕ_discrete}
use Rattle.std.proofs.Math.Arith.{lt_of_le-ne}
use borrow.Author.Tests.{ne_eqb, eq-eqb}
use Rattle.words.specs.Word.{pick}
use Rattle.words.specs.Laws.{by_cases}
use Rattle.words.specs.Table.{row_count}
use Rattle.words.specs.Links.{link, linker}
use Rattle.words.specs.declared.Form.{Form}
use Rattle.check_grammar.specs.GrammarLaws.{zero-links-none}
use Rattle.check_structure.specs.LinkLaws.{linker-of}
use Rattle.check_structure.specs.NoteLaws.{note-root, note-link}
use Rattle.check_structure.specs.Structured.{Leads, Tree, Structured}
use Rattle.check_structure.specs.StructuredLaws.{structured-tree}
use Rattle.check_fields.specs.declared.Bounds.{Bounds}
use Rattle.check_function_causes.specs.Functions.{is_definition, around_of, function_around}
use Rattle.check_function_causes.specs.Demands.{InFront, foremost, behind, DefinedInOrder}
use Rattle.check_function_causes.proofs.FrontLaws.{block-undefined, front-defines, front-inside, definition-leads}
use Rattle.join.specs.Join.{is_of_definition, first_item}
use Rattle.join.specs.Moved.{at_seam, InOrder}
use Rattle.join.proofs.Fronts.{Seam, first-of-root, next-of-root, next-of-definition, seam-is, seam-first, seam-definition, kept_next, item-last, item-none, Front, empty, ending}

-- in a tree of rows one word links a row
pub one_word : (rows : List ℤ) → Tree rows → (row field other place : ℕ) → field < 6 → place < 6 → Leads rows row field → Leads rows other place → link rows row field ≡ link rows other place
    → (row ≡ other) × (field ≡ place)
one_word rows t row field other place f g a b e =
    let la = a.later in let ia = a.inside in let lb = b.later in let ib = b.inside in
    let same = found (sym (linker-of rows t row field f a (omega arith)) ∙ ap (linker rows) e ∙ linker-of rows t other place g b (omega arith)) in
    (omega arith, omega arith)
  where
    found : {m n : ℕ} → Some m ≡ Some n → m ≡ n
    found q = cc

-- Of a program: its rows are a tree, row 0 defines nothing and has no next, and the definitions come first, in order.
pub record Ordered (rows : List ℤ) : Type 0 where
  pub tree : Tree rows
  pub root : is_definition rows 0 ≡ false
  pub lone : link rows 0 5 ≡ 0
  pub in_order : {row : ℕ} → row < row_count rows → DefinedInOrder rows row

pub ordered : {form : Form} {bounds : Bounds} {rows : List ℤ} → Structured form bounds rows → InOrder rows → Ordered rows
ordered {form} {bounds} {rows} s i = record { tree = structured-tree form bounds rows s; root = block-undefined rows 0 s.block; lone = zero-links-none rows 0 5 s.lone; in_order = λ {row} n. i row n }

module _ {rows : List ℤ} (o : Ordered rows) where
  -- a word that links a definition is written anew
  linked-definition : (row field : ℕ) → field < 6 → Leads rows row field → {place : ℕ} → InFront rows (link rows row field) place → at_seam rows row field ≡ true
  linked-definition row field h leads f = go f refl
    where
      go : {definition place : ℕ} → InFront rows definition place → definition ≡ link rows row field → at_seam rows row field ≡ true
      go (foremost l d) e = let w = one_word rows o.tree 0 1 row field (omega arith) h l leads e in rw (sym w.0, sym w.1) (seam-first rows)
      go (behind {row = front} f l d) e = let w = one_word rows o.tree front 5 row field (omega arith) h l leads e in rw (sym w.0, sym w.1) (seam-definition rows front (front-defines rows f))

  pub kept-undefined : (row field : ℕ) → field < 6 → Leads rows row field → at_seam rows row field ≡ false → is_definition rows (link rows row field) ≡ false
  kept-undefined row field h leads k =
      by_cases (is_definition rows (link rows row field))
      (λ d. absurd (true≢false (sym (linked-definition row field h leads (o.in_order leads.inside d)) ∙ k))) (λ d. d)

  -- ---- both parts of a table

  around-root : function_around rows 0 ≡ 0
  unfolding function_around
  around-root = note-root (around_of rows) 0 rows

  around-link : (row field : ℕ) → field < 6 → Leads rows row field
      → function_around rows (link rows row field) ≡ pick (eqb field 5) (function_around rows row) (pick (is_definition rows row) row (function_around rows row))
  unfolding function_around around_of
  around-link row field h leads = note-link (around_of rows) 0 rows o.tree row field h leads

  pub root-other : is_of_definition rows 0 ≡ false
  unfolding is_of_definition
  root-other = rw (o.root, around-root)

  pub definition-of : (row : ℕ) → is_definition rows row ≡ true → is_of_definition rows row ≡ true
  unfolding is_of_definition
  definition-of row d = rw d

  pub definition-some : (row : ℕ) → is_definition rows row ≡ true → 0 < row
  definition-some zero d = absurd (true≢false (sym d ∙ o.root))
  definition-some (suc row) d = omega arith

  pub same-part : (row field : ℕ) → field < 6 → Leads rows row field → at_seam rows row field ≡ false → is_of_definition rows (link rows row field) ≡ is_of_definition rows row
  unfolding is_of_definition
  same-part row field h leads k = rw (kept-undefined row field h leads k, around-link row field h leads) (go (ℕ_discrete field 5))
    where
      go : Dec (field ≡ 5) → not (eqb (pick (eqb field 5) (function_around rows row) (pick (is_definition rows row) row (function_around rows row))) 0) ≡ (is_definition rows row || not (eqb (function_around rows row) 0))
      go (yes q) = let d = (kept_next rows row (rw q at k)).1 in rw (eq-eqb field 5 q, d)
      go (no q) =
          by_cases (is_definition rows row)
          (λ d. rw (ne_eqb field 5 q, d, ne_eqb row 0 (λ z. let p = definition-some row d in omega arith)))
          (λ d. rw (ne_eqb field 5 q, d))

  -- ---- along the front

  front-around : {row place : ℕ} → InFront rows row place → function_around rows row ≡ 0
  front-around (foremost leads d) = around-link 0 1 (omega arith) leads ∙ rw (o.root, around-root)
  front-around (behind {row} f leads d) = around-link row 5 (omega arith) leads ∙ front-around f

  pub end_of_front : Front rows
  end_of_front = by_cases (is_definition rows (link rows 0 1))
      (λ d. let leads = definition-leads rows o.tree o.root 0 1 o.tree.some_rows (omega arith) d in walk (row_count rows) (foremost leads d) (omega arith)) (λ d. empty d)
    where
      walk : (left : ℕ) {row place : ℕ} → InFront rows row place → row_count rows ≤ row + left → Front rows
      walk zero f enough = absurd (let i = front-inside rows f in omega arith)
      walk (suc left) {row} f enough =
          by_cases (is_definition rows (link rows row 5))
          (λ d. let leads = definition-leads rows o.tree o.root row 5 (front-inside rows f) (omega arith) d in let up = leads.later in walk left (behind f leads d) (omega arith))
          (λ d. ending f d)

  -- What a word at the seam links: a definition at the front, or the item behind them.
  pub first-links : is_definition rows (link rows 0 1) ≡ false → link rows 0 1 ≡ first_item rows
  first-links d = sym (item-none rows d)

  pub definition-links : (row : ℕ) → row < row_count rows → is_definition rows row ≡ true → is_definition rows (link rows row 5) ≡ false → link rows row 5 ≡ first_item rows
  definition-links row n d last = sym (item-last rows (o.in_order n d) last)

  -- so a word at the seam that leads to no definition leads to that item
  pub seam-links : (row field : ℕ) → Leads rows row field → at_seam rows row field ≡ true → is_definition rows (link rows row field) ≡ false → link rows row field ≡ first_item rows
  seam-links row field leads e d = go (seam-is rows row field e)
    where
      go : Seam rows row field → link rows row field ≡ first_item rows
      go (first-of-root a b) = rw (a, b) (first-links (rw (a, b) at d))
      go (next-of-root a b) = absurd (let l = leads.later in let there : 0 < link rows 0 5 = (rw (a, b) at l) in let none = o.lone in omega arith)
      go (next-of-definition c b) = rw b (definition-links row (let l = leads.later in let i = leads.inside in omega arith) c (rw b at d))

  -- the word that links that item
  pub record FirstLinked : Type 0 where
    pub owner : ℕ
    pub field : ℕ
    pub most : field < 6
    pub leads : Leads rows owner field
    pub is : link rows owner field ≡ first_item rows
    pub seam : at_seam rows owner field ≡ true
    pub around : function_around rows owner ≡ 0
    pub hands : (is_definition rows owner ≡ false) ⊎ (field ≡ 5)
    pub earlier : owner < first_item rows

  pub first-linked : 0 < first_item rows → FirstLinked
  first-linked p = go end_of_front
    where
      go : Front rows → FirstLinked
      go (empty d) =
          let is = sym (item-none rows d) in
          let leads = o.tree.forward 0 1 o.tree.some_rows (omega arith) (rw is p) in
          record { owner = 0; field = 1; most = omega arith; leads = leads; is = is; seam = seam-first rows; around = around-root; hands = inl o.root; earlier = p }
      go (ending {row} f last) =
          let is = sym (item-last rows f last) in
          let leads = o.tree.forward row 5 (front-inside rows f) (omega arith) (rw is p) in
          record { owner = row; field = 5; most = omega arith; leads = leads; is = is; seam = seam-definition rows row (front-defines rows f); around = front-around f; hands = inr refl; earlier = (rw is at leads.later) }

  pub first_inside : 0 < first_item rows → first_item rows < row_count rows
  first_inside p = let l = first-linked p in rw l.is at l.leads.inside

  pub first-undefined : is_definition rows (first_item rows) ≡ false
  first-undefined = go end_of_front
    where
      go : Front rows → is_definition rows (first_item rows) ≡ false
      go (empty d) = rw (item-none rows d) d
      go (ending f last) = rw (item-last rows f last) last

  pub first-other : is_of_definition rows (first_item rows) ≡ false
  unfolding is_of_definition
  first-other = go (ℕ_discrete (first_item rows) 0)
    where
      go : Dec (first_item rows ≡ 0) → (is_definition rows (first_item rows) || not (eqb (function_around rows (first_item rows)) 0)) ≡ false
      go (yes z) = rw (z, o.root, around-root)
      go (no z) =
          let l = first-linked (lt_of_le-ne (omega arith) (λ (q : 0 ≡ first_item rows). z (sym q))) in
          let none : function_around rows (first_item rows) ≡ 0 = ap (function_around rows) (sym l.is) ∙ around-link l.owner l.field l.most l.leads ∙ hands l.owner l.field l.hands l.around in
          rw (first-undefined, none)
        where
          hands : (owner field : ℕ) → (is_definition rows owner ≡ false) ⊎ (field ≡ 5) → function_around rows owner ≡ 0 → pick (eqb field 5) (function_around rows owner) (pick (is_definition rows owner) owner (function_around rows owner)) ≡ 0
          hands owner field (inl d) a = by_cases (eqb field 5) (λ e. rw (e, a)) (λ e. rw (e, d, a))
          hands owner field (inr e) a = rw (eq-eqb field 5 e, a)
