-- Laws of notes: in a tree of rows a row's note is what the row that links it hands on; and what a pass over the words has written.
use Rattle.std.specs.Prelude.{◌≡◌, List, eqb, ℤ, length, set, None, Option, Some}
use Rattle.std.proofs.Math.Path.{refl, sym, ap}
use Rattle.std.proofs.Common.{◌∙◌, get_or-set_same}
use Prim.Native.Nat.{ℕ, zero, suc, ◌+◌, ◌*◌, ◌-◌, ◌/◌, ◌%◌, ◌≤◌, ◌<◌}
use native.Mathlib.Omega.{arith}
use Rattle.std.proofs.Math.Numerals.{add-one}
use Rattle.std.proofs.Math.Decide.{ℕ_discrete}
use Rattle.std.proofs.Math.Arith.{lt_of_le-ne}
use Rattle.std.proofs.Math.ListN.{get_or, length-set}
use Rattle.std.proofs.Math.Seq.{get_or-set_other}
use Rattle.words.specs.Table.{row_count}
use Rattle.words.specs.Links.{link, target, linker, received, note_by, note}
use Rattle.words.specs.Search.{lowest}
use Rattle.words.specs.SearchLaws.{lowest-below}
use Rattle.check_structure.specs.Links.{links_among}
use Rattle.check_structure.specs.LinkLaws.{links-since, links-miss, word-of, linker-of, owner_of}
use Rattle.check_structure.specs.Structured.{Leads, Tree}

pub above_zero : (n : ℕ) → (n ≡ 0 → ⊥) → 0 < n
above_zero n h = lt_of_le-ne (omega arith) (λ (q : 0 ≡ n). h (sym q))

linker-none : (rows : List ℤ) → linker rows 0 ≡ None
unfolding linker lowest
linker-none rows = refl

linker-before : (rows : List ℤ) (row word : ℕ) → linker rows row ≡ Some word → word / 6 < row
unfolding linker
linker-before rows row word e = let b = lowest-below (λ (w : ℕ). eqb (target rows w) row) word (6 * row) 0 e in omega arith

module _ (hand : ℕ → ℕ → ℕ → ℕ) (first : ℕ) (rows : List ℤ) where
  same_received : (f g : ℕ → ℕ) (found : Option ℕ) → ((word : ℕ) → found ≡ Some word → f (word / 6) ≡ g (word / 6)) → received hand first f found ≡ received hand first g found
  unfolding received
  same_received f g (Some word) h = rw (h word refl)
  same_received f g None h = refl

  -- row 0 has the first note, with any number of links
  note_by-zero : (links : ℕ) → note_by links hand first rows 0 ≡ first
  unfolding note_by received
  note_by-zero zero = refl
  note_by-zero (suc links) = rw linker-none

  -- as many links as the row's number are enough
  enough : (links more row : ℕ) → row ≤ links → row ≤ more → note_by links hand first rows row ≡ note_by more hand first rows row
  unfolding note_by
  enough zero more row h k = let z : row ≡ 0 = omega arith in rw z (note_by-zero zero ∙ sym (note_by-zero more))
  enough (suc links) zero row h k = let z : row ≡ 0 = omega arith in rw z (note_by-zero (suc links) ∙ sym (note_by-zero zero))
  enough (suc links) (suc more) row h k =
      same_received (note_by links hand first rows) (note_by more hand first rows) (linker rows row)
      (λ word e. let b = linker-before rows row word e in enough links more (word / 6) (omega arith) (omega arith))

  pub note-root : note hand first rows 0 ≡ first
  unfolding note
  note-root = note_by-zero 0

  linked-note : (word row : ℕ) → linker rows row ≡ Some word → note hand first rows row ≡ hand (word / 6) (word % 6) (note hand first rows (word / 6))
  unfolding note note_by received
  linked-note word zero e = absurd (let b = linker-before rows 0 word e in omega arith)
  linked-note word (suc row) e =
      let b = linker-before rows (suc row) word e in
      rw e (ap (hand (word / 6) (word % 6)) (enough row (word / 6) (word / 6) (omega arith) (omega arith)))

  module _ (t : Tree rows) where
    -- a row's note is what the row that links it hands on
    pub note-link : (row field : ℕ) → field < 6 → Leads rows row field → note hand first rows (link rows row field) ≡ hand row field (note hand first rows row)
    note-link row field h leads =
        let n : row < row_count rows = (let l = leads.later in let i = leads.inside in omega arith) in
        let w = word-of row field h in
        rw (w.0, w.1) at (linked-note (6 * row + field) (link rows row field) (linker-of rows t row field h leads n))

    -- ---- a pass over the words, in order

    -- The notes of row 0 and of the rows that the first `words` words link are written.
    pub record Noted (words : ℕ) (notes : List ℕ) : Type 0 where
      pub room : row_count rows ≤ length notes
      pub root : get_or notes 0 0 ≡ first
      pub linked : (row : ℕ) → 0 < row → row < row_count rows → 0 < links_among rows words row → get_or notes row 0 ≡ note hand first rows row

    pub noted-start : (notes : List ℕ) → row_count rows ≤ length notes → get_or notes 0 0 ≡ first → Noted 0 notes
    unfolding links_among
    noted-start notes room root = record { room = room; root = root; linked = λ row p n l. absurd (omega arith) }

    -- the row whose word comes next has its note
    noted_here : (word : ℕ) (notes : List ℕ) → Noted word notes → word / 6 < row_count rows → get_or notes (word / 6) 0 ≡ note hand first rows (word / 6)
    unfolding target
    noted_here word notes d n = go (ℕ_discrete (word / 6) 0)
      where
        go : Dec (word / 6 ≡ 0) → get_or notes (word / 6) 0 ≡ note hand first rows (word / 6)
        go (yes q) = rw q (d.root ∙ sym note-root)
        go (no q) =
            let o = owner_of rows t (word / 6) (above_zero _ q) n in
            let w = word-of o.owner o.field o.last in
            let e = o.earlier in let l = o.last in
            d.linked (word / 6) (above_zero _ q) n
            (links-since rows (6 * o.owner + o.field) word (word / 6) (rw (w.0, w.1) o.is) (omega arith))

    -- a word without a link leaves the notes
    pub noted-none : (word : ℕ) (notes : List ℕ) → Noted word notes → target rows word ≡ 0 → Noted (word + 1) notes
    noted-none word notes d e =
        record {
          room = d.room;
          root = d.root;
          linked = λ row p n l. d.linked row p n (let m = links-miss rows word row (λ q. omega arith) in let z = rw add-one at l in omega arith);
        }

    -- a word with a link writes what its row hands on
    pub noted-link : (word : ℕ) (notes : List ℕ) → Noted word notes → word < 6 * row_count rows → 0 < target rows word
        → Noted (word + 1) (set notes (target rows word) (hand (word / 6) (word % 6) (get_or notes (word / 6) 0)))
    unfolding target
    noted-link word notes d b p =
        let leads = t.forward (word / 6) (word % 6) (omega arith) (omega arith) p in
        let inside : target rows word < row_count rows = leads.inside in
        let room = d.room in
        let value : ℕ = hand (word / 6) (word % 6) (get_or notes (word / 6) 0) in
        let handed : value ≡ note hand first rows (target rows word) =
        ap (hand (word / 6) (word % 6)) (noted_here word notes d (omega arith)) ∙ sym (note-link (word / 6) (word % 6) (omega arith) leads) in
        record {
          room = rw length-set d.room;
          root = get_or-set_other notes (target rows word) 0 value 0 (λ q. omega arith) ∙ d.root;
          linked = λ row q n l. go value handed inside row q n l (ℕ_discrete row (target rows word));
        }
      where
        go : (value : ℕ) → value ≡ note hand first rows (target rows word) → target rows word < row_count rows → (row : ℕ) → 0 < row → row < row_count rows → 0 < links_among rows (word + 1) row
            → Dec (row ≡ target rows word) → get_or (set notes (target rows word) value) row 0 ≡ note hand first rows row
        go value e inside row p n l (yes q) = rw q (get_or-set_same notes (target rows word) value 0 (let room = d.room in omega arith) ∙ e)
        go value e inside row p n l (no q) =
            get_or-set_other notes (target rows word) row value 0 q
            ∙ d.linked row p n (let m = links-miss rows word row (λ (x : target rows word ≡ row). q (sym x)) in let z = rw add-one at l in omega arith)

    -- after all words every row has its note
    pub noted-all : (words : ℕ) (notes : List ℕ) → 6 * row_count rows ≤ words → Noted words notes → (row : ℕ) → row < row_count rows → get_or notes row 0 ≡ note hand first rows row
    unfolding target
    noted-all words notes h d row n = go (ℕ_discrete row 0)
      where
        go : Dec (row ≡ 0) → get_or notes row 0 ≡ note hand first rows row
        go (yes q) = rw q (d.root ∙ sym note-root)
        go (no q) =
            let o = owner_of rows t row (above_zero _ q) n in
            let w = word-of o.owner o.field o.last in
            let e = o.earlier in let l = o.last in
            d.linked row (above_zero _ q) n (links-since rows (6 * o.owner + o.field) words row (rw (w.0, w.1) o.is) (omega arith))
