-- Laws of links: in a tree of rows each row but row 0 has one owner, the row that links it, and `linker` finds it; marks before the first link.
use Rattle.std.specs.Prelude.{◌≡◌, List, ℤ, replicate, Some}
use Rattle.std.proofs.Common.{subst, sym}
use Prim.Native.Nat.{ℕ, zero, suc, ◌+◌, ◌*◌, ◌-◌, ◌/◌, ◌%◌, ◌≤◌, ◌<◌}
use Rattle.std.proofs.Math.Nat.{add-zero, add-suc}
use native.Mathlib.Omega.{arith}
use Rattle.std.proofs.Math.Decide.{ℕ_discrete}
use Rattle.std.proofs.Math.Arith.{lt_of_le-ne}
use Rattle.std.proofs.Math.Dec.{eqb}
use borrow.Author.Tests.{eq-eqb, ne_eqb}
use Rattle.std.proofs.lemmas.List.{length-replicate, get_or-replicate}
use Rattle.words.specs.Table.{row_count}
use Rattle.words.specs.Layout.{row_limit}
use Rattle.words.specs.declared.Form.{Form}
use Rattle.words.specs.Links.{link, target, linker}
use Rattle.check_grammar.specs.GrammarLaws.{kind-links-none}
use Rattle.words.specs.SearchLaws.{lowest-at}
use Rattle.check_structure.specs.Links.{links_among, link_count}
use Rattle.check_structure.specs.Structured.{Leads, Tree}
use Rattle.check_structure.specs.Passes.{Unmarked}

-- the word that is a field of a row
pub word-of : (row field : ℕ) → field < 6 → ((6 * row + field) / 6 ≡ row) × ((6 * row + field) % 6 ≡ field)
word-of row field h = (omega arith, omega arith)

-- ---- counting links

module _ (rows : List ℤ) where
  pub links-grow : (words more row : ℕ) → links_among rows words row ≤ links_among rows (words + more) row
  unfolding links_among
  links-grow words zero row = rw add-zero (omega arith)
  links-grow words (suc more) row = rw add-suc (omega (arith, links-grow words more row))

  links-up-to : (words most row : ℕ) → words ≤ most → links_among rows words row ≤ links_among rows most row
  links-up-to words most row h =
      let z : words + (most - words) ≡ most = omega arith in
      rw z at (links-grow words (most - words) row)

  pub links-hit : (word row : ℕ) → target rows word ≡ row → links_among rows (suc word) row ≡ links_among rows word row + 1
  unfolding links_among
  links-hit word row e = rw (eq-eqb _ _ e)

  pub links-miss : (word row : ℕ) → (target rows word ≡ row → ⊥) → links_among rows (suc word) row ≡ links_among rows word row
  unfolding links_among
  links-miss word row n = rw (ne_eqb _ _ n, add-zero)

  -- a row that a word links is linked by the words up to that one
  pub links-since : (word words row : ℕ) → target rows word ≡ row → word < words → 0 < links_among rows words row
  links-since word words row e h =
      let hit = links-hit word row e in
      let up = links-up-to (suc word) words row (omega arith) in
      omega arith

  twice : (word later words row : ℕ) → word < later → later < words → target rows word ≡ row → target rows later ≡ row → 2 ≤ links_among rows words row
  twice word later words row h k e f =
      let first = links-since word later row e h in
      let second = links-hit later row f in
      let up = links-up-to (suc later) words row (omega arith) in
      omega arith

  -- the word that links a row
  pub record Linker (words row : ℕ) : Type 0 where
    pub word : ℕ
    pub below : word < words
    pub is : target rows word ≡ row

  pub linked-by : (words row : ℕ) → 0 < links_among rows words row → Linker words row
  unfolding links_among
  linked-by zero row h = absurd (omega arith)
  linked-by (suc words) row h = go (ℕ_discrete (target rows words) row) (linked-by words row)
    where
      go : Dec (target rows words ≡ row) → (0 < links_among rows words row → Linker words row) → Linker (suc words) row
      go (yes q) r = record { word = words; below = omega arith; is = q }
      go (no q) r =
          let z = r (let n = links-miss words row q in omega arith) in
          record { word = z.word; below = (let b = z.below in omega arith); is = z.is }

-- ---- a tree of rows

module _ (rows : List ℤ) (t : Tree rows) where
  pub linker-is : (word row : ℕ) → word < 6 * row_count rows → target rows word ≡ row → word / 6 < row → row < row_count rows → linker rows row ≡ Some word
  unfolding linker link_count
  linker-is word row b e l n =
      lowest-at (λ (w : ℕ). eqb (target rows w) row) word (6 * row) 0 (omega arith) (omega arith) (eq-eqb _ _ e)
      (λ k a h. ne_eqb _ _ (λ q. let two = twice rows k word (6 * row_count rows) row h b q e in let once = t.once row (omega arith) n in omega arith))

  -- the owner of a row, or the item before it: the row that links it, and the field
  pub record Owner (row : ℕ) : Type 0 where
    pub owner : ℕ
    pub field : ℕ
    pub first : 1 ≤ field
    pub last : field < 6
    pub leads : Leads rows owner field
    pub is : link rows owner field ≡ row
    pub earlier : owner < row

  pub owner_of : (row : ℕ) → 0 < row → row < row_count rows → Owner row
  unfolding target link_count
  owner_of row p n =
      let by = linked-by rows (6 * row_count rows) row (let once = t.once row p n in omega arith) in
      let w : ℕ = by.word in
      let below : w < 6 * row_count rows = by.below in
      let is : link rows (w / 6) (w % 6) ≡ row = by.is in
      let leads = t.forward (w / 6) (w % 6) (omega arith) (omega arith) (rw is p) in
      let later : w / 6 < link rows (w / 6) (w % 6) = leads.later in
      record {
        owner = w / 6;
        field = w % 6;
        first = field-first (w / 6) (w % 6) row is p;
        last = omega arith;
        leads = leads;
        is = is;
        earlier = omega arith;
      }
    where
      field-first : (owner field row : ℕ) → link rows owner field ≡ row → 0 < row → 1 ≤ field
      field-first owner zero row e p = absurd (let none = kind-links-none rows owner in omega arith)
      field-first owner (suc field) row e p = omega arith

  -- what holds of row 0, and goes along the links, holds of every row
  pub by-owner : (P : ℕ → Type 0) → P 0 → ((owner field : ℕ) → field < 6 → Leads rows owner field → P owner → P (link rows owner field)) → (row : ℕ) → row < row_count rows → P row
  by-owner P root along row n = go (suc row) row (omega arith) n
    where
      step : (row : ℕ) → Dec (row ≡ 0) → row < row_count rows → ((owner : ℕ) → owner < row → P owner) → P row
      step row (yes q) n earlier = subst P (sym q) root
      step row (no q) n earlier =
          let o = owner_of row (lt_of_le-ne (omega arith) (λ (z : 0 ≡ row). q (sym z))) n in
          subst P o.is (along o.owner o.field o.last o.leads (earlier o.owner o.earlier))

      go : (most row : ℕ) → row < most → row < row_count rows → P row
      go zero row h n = absurd (omega arith)
      go (suc most) row h n = step row (ℕ_discrete row 0) n (λ owner l. go most owner (omega arith) (omega arith))

  -- what a field links, or 0, is in the table
  pub part-inside : (row field part : ℕ) → row < row_count rows → field < 6 → part ≡ link rows row field → part < row_count rows
  part-inside row field part n h e = go (ℕ_discrete part 0)
    where
      go : Dec (part ≡ 0) → part < row_count rows
      go (yes z) = omega arith
      go (no z) = rw e (t.forward row field n h (rw (← e) (lt_of_le-ne (omega arith) (λ (q : 0 ≡ part). z (sym q))))).inside

  pub linker-of : (row field : ℕ) → field < 6 → Leads rows row field → row < row_count rows → linker rows (link rows row field) ≡ Some (6 * row + field)
  unfolding target
  linker-of row field h leads n =
      let w = word-of row field h in
      let later : row < link rows row field = leads.later in
      linker-is (6 * row + field) (link rows row field) (omega arith) (rw (w.0, w.1)) (omega arith) leads.inside

-- ---- marks before the first link

pub unmarked-zeros : (form : Form) (room : ℕ) → row_limit form ≤ room → Unmarked form (replicate room 0)
unmarked-zeros form room h =
    record { room = rw length-replicate h; none = λ row n. get_or-replicate room row 0 0 (rw length-replicate at n) }
