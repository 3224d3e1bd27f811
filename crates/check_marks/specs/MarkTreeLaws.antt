-- Laws of trees of marks: a mark that finds a free place repeats none before it and is in its tree afterwards; another repeats one.
-- A child that was absent is on no way down, so writing it leaves all ways; equal marks of a list have equal keys and one root; the nodes of
-- a way stand before the row in its list.
use Rattle.std.specs.Prelude.{◌≡◌, List, ltb, eqb, ℤ, length, set, replicate}
use Rattle.std.proofs.Common.{subst, ap, ◌∙◌, true≢false, length-set, get_or-set_same, get_or-set_other, ltb-true, ltb-false, eqb-true, eq-eqb, ne_eqb}
use Rattle.std.proofs.Math.Path.{refl, sym}
use Rattle.std.proofs.Math.Bool.{true, false}
use Prim.Native.Nat.{ℕ, zero, suc, ◌+◌, ◌*◌, ◌/◌, ◌%◌, ◌<◌, ◌≤◌}
use native.Mathlib.Omega.{arith}
use Rattle.std.proofs.Math.Decide.{ℕ_discrete}
use Rattle.std.proofs.Math.Arith.{lt_of_le-ne}
use Rattle.std.proofs.Math.ListN.{get_or}
use Rattle.std.proofs.lemmas.List.{length-replicate}
use Rattle.std.specs.Int.Signed.{mag}
use Rattle.std.proofs.lemmas.Bool.{eqb-false}
use Rattle.words.specs.Word.{pick}
use Rattle.words.specs.Table.{row_count, word_at, number_at}
use Rattle.words.specs.Laws.{by_cases, both, same_word-equal}
use Rattle.words.specs.Links.{link}
use Rattle.check_structure.specs.Structured.{Tree}
use Rattle.check_items.specs.Items.{some_from, some_earlier}
use Rattle.check_items.proofs.EarlierLaws.{nearest}
use Rattle.check_places.specs.Places.{is_mark, mark_at}
use Rattle.check_marks.specs.Marks.{same_mark, mark_before, repeated}
use Rattle.check_structure.specs.Lists.{Before, adjacent, further, before-later, before-before}
use Rattle.check_marks.specs.MarkTree.{root_by, Begins, itself, earlier, Roots, NodeBefore, key_at, child, Leading, stay, down, Reached, Children, InTree, HoldsMarks, Free, Taken}
use Rattle.check_marks.specs.DistinctLaws.{repeated-by}

-- what holds of each number below n, and of n, holds below n + 1
below_next : (P : ℕ → Type 0) (n : ℕ) → ((m : ℕ) → m < n → P m) → P n → (m : ℕ) → m < n + 1 → P m
below_next P n below here m h = go (ℕ_discrete m n)
  where
    go : Dec (m ≡ n) → P m
    go (yes q) = subst P (sym q) here
    go (no q) = below m (lt_of_le-ne (omega arith) q)

-- what holds of each element, and of one at its place, holds after that is written
each_set : (P : ℕ → ℕ → Type 0) (l : List ℕ) (place value : ℕ) → place < length l → P place value → ((i : ℕ) → P i (get_or l i 0)) → (i : ℕ) → P i (get_or (set l place value) i 0)
each_set P l place value h here each i = go (ℕ_discrete i place)
  where
    go : Dec (i ≡ place) → P i (get_or (set l place value) i 0)
    go (yes q) = rw (q, get_or-set_same l place value 0 h) here
    go (no q) = rw (get_or-set_other l place i value 0 q) (each i)

-- ---- the order of a list

module _ (rows : List ℤ) (t : Tree rows) where
  next-least : {item row : ℕ} → Before rows item row → link rows item 5 ≤ row
  next-least (adjacent leads) = omega arith
  next-least (further b leads) = let l = leads.later in let n = next-least b in omega arith

  -- of two rows behind an item the lower stands before the other
  in_order : (most : ℕ) {item first last : ℕ} → Before rows item first → Before rows item last → first < last → last ≤ most → Before rows first last
  in_order zero a b h k = absurd (omega arith)
  in_order (suc most) a (adjacent leads) h k = absurd (let n = next-least a in omega arith)
  in_order (suc most) {first} a (further {row} b leads) h k =
      let later = leads.later in
      by_cases (ltb first row)
      (λ e. further (in_order most a b (ltb-true _ _ e) (omega arith)) leads)
      (λ e. by_cases (eqb first row)
      (λ q. subst (λ (x : ℕ). Before rows x (link rows row 5)) (sym (eqb-true _ _ q)) (adjacent leads))
      (λ q.
      let n = next-least (in_order most b a (lt_of_le-ne (ltb-false _ _ e) (λ (x : row ≡ first). eqb-false _ _ q (sym x))) (omega arith)) in
      absurd (omega arith)))

-- ---- roots

module _ (rows : List ℤ) (t : Tree rows) where
  pub roots-start : (roots : List ℕ) → row_count rows ≤ length roots → Roots rows 0 roots
  roots-start roots room = record { room = room; begins = λ row h. absurd (omega arith); shared = λ row h. absurd (omega arith) }

  -- the mark before a row stands at a lower one
  noted-lower : (row : ℕ) → row < row_count rows → (mark_before rows row ≡ 0 → ⊥) → mark_before rows row < row
  noted-lower row n p = before-later (nearest rows t (mark_at rows) row n p).before

  begins-lower : {root row : ℕ} → Begins rows root row → root ≤ row
  begins-lower itself = omega arith
  begins-lower (earlier b) = let l = before-later b.before in omega arith

  -- a list that begins with the root of a mark before the row
  begins-on : {root mark row : ℕ} → Begins rows root mark → (mark ≡ 0 → ⊥) → Before rows mark row → Begins rows root row
  begins-on itself p b = earlier (record { present = p; before = b })
  begins-on (earlier a) p b = earlier (record { present = a.present; before = before-before a.before b })

  module _ (row : ℕ) (roots : List ℕ) (r : Roots rows row roots) (n : row < row_count rows) where
    root-begins : Begins rows (root_by (mark_before rows row) roots row) row
    root-begins = go (ℕ_discrete (mark_before rows row) 0)
      where
        go : Dec (mark_before rows row ≡ 0) → Begins rows (root_by (mark_before rows row) roots row) row
        go (yes q) = rw (eq-eqb _ _ q) itself
        go (no q) = rw (ne_eqb _ _ q) (begins-on (r.begins _ (noted-lower row n q)) q (nearest rows t (mark_at rows) row n q).before)

    pub roots-next : (root : ℕ) → root ≡ root_by (mark_before rows row) roots row → Roots rows (row + 1) (set roots row root)
    roots-next root e =
        let room = r.room in
        let here : get_or (set roots row root) row 0 ≡ root = get_or-set_same roots row root 0 (omega arith) in
        let other : ((m : ℕ) → m < row → get_or (set roots row root) m 0 ≡ get_or roots m 0) = (λ m h. get_or-set_other roots row m root 0 (λ q. omega arith)) in
        record {
          room = rw length-set r.room;
          begins = below_next (λ (m : ℕ). Begins rows (get_or (set roots row root) m 0) m) row
              (λ m h. rw (other m h) (r.begins m h))
              (rw (here, e) root-begins);
          shared = below_next (λ (m : ℕ). (mark_before rows m ≡ 0 → ⊥) → get_or (set roots row root) m 0 ≡ get_or (set roots row root) (mark_before rows m) 0) row
              (λ m h p. other m h ∙ r.shared m h p ∙ sym (other _ (let l = noted-lower m (omega arith) p in omega arith)))
              (λ p. here ∙ e ∙ rw (ne_eqb _ _ p) (sym (other _ (noted-lower row n p))));
        }

-- ---- ways down

module _ {children : List ℕ} where
  -- a way goes on to a child
  leading-on : {node key last rest : ℕ} → Leading children node key last rest → (child children last rest ≡ 0 → ⊥) → Leading children node key (child children last rest) (rest / 2)
  leading-on stay p = down p stay
  leading-on (down q way) p = down q (leading-on way p)

  -- a way to another node goes through a child
  leading-past : {node key last rest : ℕ} → Leading children node key last rest → (last ≡ node → ⊥) → (child children node key ≡ 0 → ⊥) × Leading children (child children node key) (key / 2) last rest
  leading-past stay q = absurd (q refl)
  leading-past (down p way) q = (p, way)

  -- what is written where a child was absent leaves every way
  leading-set : {node key last rest : ℕ} (place value : ℕ) → get_or children place 0 ≡ 0 → Leading children node key last rest → Leading (set children place value) node key last rest
  leading-set place value absent stay = stay
  leading-set place value absent (down {node} {key} {last} {rest} p way) =
      let kept : child (set children place value) node key ≡ child children node key = get_or-set_other children place (2 * node + key % 2) value 0 (λ q. p (ap (λ (i : ℕ). get_or children i 0) q ∙ absent)) in
      down (λ z. p (sym kept ∙ z)) (subst (λ (x : ℕ). Leading (set children place value) x (key / 2) last rest) (sym kept) (leading-set place value absent way))

-- ---- the marks before a row

same-mark-parts : (rows : List ℤ) (mark row : ℕ) → same_mark rows mark row ≡ true → (number_at rows mark 0 ≡ number_at rows row 0) × (word_at rows mark 1 ≡ word_at rows row 1)
unfolding same_mark
same-mark-parts rows mark row e =
    let parts = both (eqb (number_at rows mark 0) (number_at rows row 0)) _ e in
    (eqb-true _ _ parts.0, same_word-equal _ _ parts.1)

same_key : (rows : List ℤ) (mark row : ℕ) → word_at rows mark 1 ≡ word_at rows row 1 → key_at rows mark ≡ key_at rows row
unfolding key_at
same_key rows mark row e = ap mag e

module _ (rows : List ℤ) (t : Tree rows) (roots : List ℕ) (r : Roots rows (row_count rows) roots) (row : ℕ) (n : row < row_count rows) where
  -- a search back through the marks before a row finds none that is equal, if no mark with the row's root is
  module _ (differ : (mark : ℕ) → mark < row → get_or roots mark 0 ≡ get_or roots row 0 → same_mark rows mark row ≡ false) where
    none_equal : (marks mark : ℕ) → ((mark ≡ 0 → ⊥) → (mark < row) × (get_or roots mark 0 ≡ get_or roots row 0)) → some_from marks (mark_at rows) (λ (m : ℕ). same_mark rows m row) rows mark ≡ false
    unfolding some_from
    none_equal zero mark h = refl
    none_equal (suc marks) mark h = go (ℕ_discrete mark 0) (none_equal marks (mark_before rows mark))
      where
        go : Dec (mark ≡ 0) → (((mark_before rows mark ≡ 0 → ⊥) → (mark_before rows mark < row) × (get_or roots (mark_before rows mark) 0 ≡ get_or roots row 0)) → some_from marks (mark_at rows) (λ (m : ℕ). same_mark rows m row) rows (mark_before rows mark) ≡ false)
            → pick (eqb mark 0) false (pick (same_mark rows mark row) true (some_from marks (mark_at rows) (λ (m : ℕ). same_mark rows m row) rows (mark_before rows mark))) ≡ false
        go (yes q) rest = rw (eq-eqb _ _ q)
        go (no q) rest =
            let here = h q in
            let inside : mark < row_count rows = (let l = here.0 in omega arith) in
            rw (ne_eqb _ _ q, differ mark here.0 here.1)
            (rest (λ p. (let l = noted-lower rows t mark inside p in let k = here.0 in omega arith, sym (r.shared mark inside p) ∙ here.1)))

    none-repeated : repeated rows row ≡ false
    unfolding repeated some_earlier
    none-repeated =
        let search = none_equal (mark_before rows row) (mark_before rows row) (λ p. (noted-lower rows t row n p, sym (r.shared row n p))) in
        by_cases (is_mark (number_at rows row 0)) (λ k. rw k search) (λ k. rw k)

-- ---- trees

zeros : (n i : ℕ) → ◌≡◌ {A = ℕ} (get_or (replicate n 0) i 0) 0
zeros zero i = refl
zeros (suc n) zero = refl
zeros (suc n) (suc i) = zeros n i

pub holds-marks-start : (rows : List ℤ) (roots : List ℕ) (n : ℕ) → 2 * row_count rows ≤ n → HoldsMarks rows roots 0 (replicate n 0)
holds-marks-start rows roots n room =
    record {
      nodes = record {
        room = rw length-replicate room;
        behind = λ place p. absurd (p (zeros n place));
        lower = λ place p. absurd (p (zeros n place));
      };
      reached = λ mark h. absurd (omega arith);
    }

module _ (rows : List ℤ) (t : Tree rows) (roots : List ℕ) (r : Roots rows (row_count rows) roots) (row : ℕ) (n : row < row_count rows) (children : List ℕ) (p : HoldsMarks rows roots row children) where
  later : Children rows (row + 1) children
  later = record { room = p.nodes.room; behind = p.nodes.behind; lower = λ place q. let b = p.nodes.lower place q in omega arith }

  -- no mark
  pub taken-other : is_mark (number_at rows row 0) ≡ false → Taken rows roots row children
  unfolding repeated
  taken-other k =
      record {
        holds_marks = record {
          nodes = later;
          reached = below_next (InTree rows roots children) row p.reached (λ m. absurd (true≢false (sym m ∙ k)));
        };
        new = rw k;
      }

  -- the first mark of its list
  pub taken-root : get_or roots row 0 ≡ row → Taken rows roots row children
  taken-root e =
      record {
        holds_marks = record {
          nodes = later;
          reached = below_next (InTree rows roots children) row p.reached
              (λ m. rw e (record { rest = key_at rows row; leads = stay }));
        };
        new = none-repeated rows t roots r row n (λ mark h same. absurd (let l = begins-lower rows t (r.begins mark (omega arith)) in omega arith));
      }

  module _ (place : ℕ) (k : is_mark (number_at rows row 0) ≡ true) (free : Free rows children (get_or roots row 0) row place) where
    all-differ : (mark : ℕ) → mark < row → get_or roots mark 0 ≡ get_or roots row 0 → same_mark rows mark row ≡ false
    all-differ mark h root =
        by_cases (same_mark rows mark row)
        (λ e.
        let same = same-mark-parts rows mark row e in
        free.differ mark (rw (root, same_key rows mark row same.1) at (p.reached mark h (ap is_mark same.0 ∙ k))))
        (λ e. e)

    nodes : Children rows (row + 1) (set children place row)
    nodes =
        let room = p.nodes.room in let b = before-later free.behind in
        let inside : place < length children = omega arith in
        record {
          room = rw length-set room;
          behind = each_set (λ (i child : ℕ). (child ≡ 0 → ⊥) → Before rows (i / 2) child) children place row inside (λ q. free.behind) p.nodes.behind;
          lower = each_set (λ (i child : ℕ). (child ≡ 0 → ⊥) → child < row + 1) children place row inside (λ q. omega arith) later.lower;
        }

    -- a mark that finds a free place
    pub taken_free : Taken rows roots row (set children place row)
    taken_free =
        record {
          holds_marks = record {
            nodes = nodes;
            reached = below_next (InTree rows roots (set children place row)) row
                (λ mark h m. let w = p.reached mark h m in record { rest = w.rest; leads = leading-set place row free.absent w.leads })
                (λ m. free.reaches);
          };
          new = none-repeated rows t roots r row n all-differ;
        }

-- ---- the way of a row's key

-- a root that is not the row itself stands before it in its list
pub root_before : (rows : List ℤ) {root row : ℕ} → Begins rows root row → (root ≡ row → ⊥) → NodeBefore rows root row
root_before rows itself q = absurd (q refl)
root_before rows (earlier b) q = b

-- A key leads the search for a row's place from the root to a node, and all marks that the row repeats stand below that.
pub record Searched (rows : List ℤ) (children : List ℕ) (root row node key : ℕ) : Type 0 where
  pub node_before : NodeBefore rows node row
  pub way : Leading children root (key_at rows row) node key
  pub below : (mark rest : ℕ) → Leading children root (key_at rows row) mark rest → same_mark rows mark row ≡ true → Leading children node key mark rest

pub searched-start : (rows : List ℤ) (children : List ℕ) (root row key : ℕ) → NodeBefore rows root row → key ≡ key_at rows row → Searched rows children root row root key
searched-start rows children root row key b e = rw e (record { node_before = b; way = stay; below = λ mark rest way same. way })

module _ {rows : List ℤ} (t : Tree rows) {children : List ℕ} {root row node key : ℕ} (s : Searched rows children root row node key) where
  pub node-lower : node < row
  node-lower = before-later s.node_before.before

  pub searched-equal : is_mark (number_at rows row 0) ≡ true → same_mark rows node row ≡ true → repeated rows row ≡ true
  searched-equal k e =
      let same = same-mark-parts rows node row e in
      repeated-by rows t row node k (record { before = s.node_before.before; kind = same.0; value = same.1 }) s.node_before.present

  module _ (other : same_mark rows node row ≡ false) where
    past : (mark rest : ℕ) → Leading children root (key_at rows row) mark rest → same_mark rows mark row ≡ true → (child children node key ≡ 0 → ⊥) × Leading children (child children node key) (key / 2) mark rest
    past mark rest way same = leading-past (s.below mark rest way same) (λ q. true≢false (sym same ∙ ap (λ (x : ℕ). same_mark rows x row) q ∙ other))

    -- where the child is absent, the row may take its place
    pub searched-free : child children node key ≡ 0 → 2 * node + key % 2 < length children → Free rows children root row (2 * node + key % 2)
    searched-free z inside =
        let half : (2 * node + key % 2) / 2 ≡ node = omega arith in
        let l = node-lower in
        let here : child (set children (2 * node + key % 2) row) node key ≡ row = get_or-set_same children (2 * node + key % 2) row 0 inside in
        let way = leading-set (2 * node + key % 2) row z s.way in
        record {
          behind = rw half s.node_before.before;
          absent = z;
          reaches = record { rest = key / 2; leads = rw here at (leading-on way (λ q. omega arith)) };
          differ = λ mark reached.
              by_cases (same_mark rows mark row) (λ same. absurd ((past mark reached.rest reached.leads same).0 z)) (λ e. e);
        }

    module _ (nodes : Children rows row children) (below : ℕ) (is : below ≡ child children node key) (present : below ≡ 0 → ⊥) where
      child-behind : Before rows node below
      child-behind =
          let half : (2 * node + key % 2) / 2 ≡ node = omega arith in
          rw is (rw half at (nodes.behind (2 * node + key % 2) (λ q. present (is ∙ q))))

      child-lower : below < row
      child-lower = rw is (nodes.lower (2 * node + key % 2) (λ q. present (is ∙ q)))

      pub child-nearer : (node < below) × (below < row)
      child-nearer = (before-later child-behind, child-lower)

      -- else the search goes on
      pub searched-on : Searched rows children root row below (key / 2)
      searched-on =
          record {
            node_before = record { before = in_order rows t row child-behind s.node_before.before child-lower (omega arith); present = present };
            way = rw (← is) at (leading-on s.way (λ q. present (is ∙ q)));
            below = λ mark rest way same. rw (← is) at (past mark rest way same).1;
          }
