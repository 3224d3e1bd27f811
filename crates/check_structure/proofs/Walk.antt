-- The walk for depth: what a part gives goes into what the whole gives. A row is below another by links; in a tree of rows every row is
-- below row 0, and rows below a row have higher numbers.
use Rattle.std.specs.Prelude.{None, Some}
use mathlib.Core.Path.{◌≡◌, subst, sym}
use mathlib.Core.Bool.{false}
use mathlib.Core.List.{List}
use Prim.Native.Nat.{ℕ, ◌+◌, ◌≤◌, ◌<◌, min}
use native.Mathlib.Omega.{arith}
use native.Mathlib.Decide.{ℕ_discrete, dec_lt}
use lib.Arith.{lt_of_le-ne}
use lib.IntN.{ℤ}
use borrow.Author.Tests.{lt-ltb, le-ltb}
use Rattle.words.specs.Table.{row_count}
use Rattle.words.specs.Layout.{depth_limit}
use Rattle.words.specs.declared.Form.{Form}
use Rattle.words.specs.declared.Form.TheVariants.{Source, Kernel}
use Rattle.words.specs.Links.{link}
use Rattle.words.specs.Search.{lowest_row}
use Rattle.words.specs.SearchLaws.{lowest-at, all-lowest_row}
use Rattle.check_structure.specs.Links.{depth_at, too_deep}
use Rattle.check_structure.specs.LinkLaws.{by-owner}
use Rattle.check_structure.specs.NoteLaws.{above_zero}
use Rattle.check_structure.specs.Structured.{Leads, Tree}
use Rattle.check_structure.specs.Passes.{Under, here, down, Through, LowestDeep}

module _ (rows : List ℤ) where
  -- ---- rows below a row

  under-later : {row below : ℕ} → Under rows row below → row ≤ below
  under-later here = omega arith
  under-later (down h leads u) = let l = leads.later in let r = under-later u in omega arith

  under-link : {row below : ℕ} → Under rows row below → (field : ℕ) → field < 6 → Leads rows below field → Under rows row (link rows below field)
  under-link here field h leads = down h leads here
  under-link (down k l u) field h leads = down k l (under-link u field h leads)

  -- a row below another is that row, below one of its own links, or below the item after it
  below_by : {row below : ℕ} (P : ℕ → Type 0) → Under rows row below → P row → (Through rows row 5 below → P below) → (Leads rows row 5 → Under rows (link rows row 5) below → P below) → P below
  below_by P here own through next = own
  below_by P (down {row} {field} {below} h leads u) own through next = go (ℕ_discrete field 5)
    where
      go : Dec (field ≡ 5) → P below
      go (yes q) = subst (λ (f : ℕ). Leads rows row f → Under rows (link rows row f) below → P below) (sym q) next leads u
      go (no q) = through (record { field = field; before = lt_of_le-ne (omega arith) q; leads = leads; under = u })

module _ (limit : ℕ) (rows : List ℤ) where
  abbrev pub Lowest : (ℕ → Type 0) → ℕ → Type 0
  Lowest Reached found = LowestDeep limit rows Reached found

  -- the rows below a row over the limit have higher numbers
  pub over : (first depth : ℕ) → first < row_count rows → depth_at rows first ≡ depth → limit < depth → Lowest (Under rows first) first
  over first depth n e h = record { most = omega arith; least = λ row u d. under-later rows u; deep = λ l. rw e h }

  -- ---- the fields of a row, one after the other

  pub through-start : (row : ℕ) → Lowest (Through rows row 0) (row_count rows)
  through-start row = record { most = omega arith; least = λ below u d. absurd (let b = u.before in omega arith); deep = λ l. absurd (omega arith) }

  last-field : (row field below : ℕ) (P : Type 0) → Through rows row (field + 1) below → (Through rows row field below → P) → (Leads rows row field → Under rows (link rows row field) below → P) → P
  last-field row field below P u earlier last = go (ℕ_discrete u.field field)
    where
      go : Dec (u.field ≡ field) → P
      go (yes q) = subst (λ (f : ℕ). Leads rows row f → Under rows (link rows row f) below → P) (sym q) last u.leads u.under
      go (no q) = earlier (record { field = u.field; before = (let b = u.before in lt_of_le-ne (omega arith) q); leads = u.leads; under = u.under })

  pub through-none : (row field found : ℕ) → Lowest (Through rows row field) found → link rows row field ≡ 0 → Lowest (Through rows row (field + 1)) found
  through-none row field found w e =
      record {
        most = w.most;
        least = λ below u d. last-field row field below (found ≤ below) u (λ v. w.least below v d) (λ leads v. absurd (let l = leads.later in omega arith));
        deep = w.deep;
      }

  both-deep : (found part : ℕ) → (found < row_count rows → limit < depth_at rows found) → (part < row_count rows → limit < depth_at rows part) → min found part < row_count rows → limit < depth_at rows (min found part)
  both-deep found part f p h = go (dec_lt found part)
    where
      go : Dec (found < part) → limit < depth_at rows (min found part)
      go (yes l) = let e : min found part ≡ found = omega arith in rw e (f (omega arith))
      go (no l) = let e : min found part ≡ part = omega (arith, l) in rw e (p (omega arith))

  pub through-more : (row field to found part r : ℕ) → Lowest (Through rows row field) found → to ≡ link rows row field → Lowest (Under rows to) part → r ≡ min found part
      → Lowest (Through rows row (field + 1)) r
  through-more row field to found part r w l part-found e =
      let v : Lowest (Under rows (link rows row field)) part = subst (λ (x : ℕ). Lowest (Under rows x) part) l part-found in
      rw e
      (record {
        most = (let m = w.most in omega arith);
        least = λ below u d.
            last-field row field below (min found part ≤ below) u
            (λ x. let m = w.least below x d in omega arith) (λ leads x. let m = v.least below x d in omega arith);
        deep = both-deep found part w.deep v.deep;
      })

  -- ---- the items of a list, one after the other

  pub list-end : (row part : ℕ) → depth_at rows row ≤ limit → Lowest (Through rows row 5) part → link rows row 5 ≡ 0 → Lowest (Under rows row) part
  list-end row part h w e =
      record {
        most = w.most;
        least = λ below u. below_by rows (λ (x : ℕ). limit < depth_at rows x → part ≤ x) u
            (λ d. absurd (omega arith)) (λ v d. w.least below v d) (λ leads v d. absurd (let l = leads.later in omega arith));
        deep = w.deep;
      }

  pub list-next : (row part rest : ℕ) → depth_at rows row ≤ limit → Lowest (Through rows row 5) part → Lowest (Under rows (link rows row 5)) rest → Lowest (Under rows row) (min part rest)
  list-next row part rest h w v =
      record {
        most = (let m = w.most in omega arith);
        least = λ below u. below_by rows (λ (x : ℕ). limit < depth_at rows x → min part rest ≤ x) u
            (λ d. absurd (omega arith)) (λ x d. let m = w.least below x d in omega arith) (λ leads x d. let m = v.least below x d in omega arith);
        deep = both-deep part rest w.deep v.deep;
      }

  -- What a loop along the list from `first` has found before `row`: with what is found from `row` on, it gives what is found from `first` on.
  abbrev pub Along : ℕ → ℕ → ℕ → Type 0
  Along first row found = (rest : ℕ) → Lowest (Under rows row) rest → Lowest (Under rows first) (min found rest)

  pub along-start : (first : ℕ) → Along first first (row_count rows)
  along-start first rest w = let e : min (row_count rows) rest ≡ rest = (let m = w.most in omega arith) in rw e w

  along-next : (first row found part r : ℕ) → depth_at rows row ≤ limit → Along first row found → Lowest (Through rows row 5) part → r ≡ min found part → Along first (link rows row 5) r
  along-next first row found part r h a w e rest v =
      let same : min r rest ≡ min found (min part rest) = omega arith in
      rw same (a (min part rest) (list-next row part rest h w v))

  pub along-to : (first row to found part r : ℕ) → depth_at rows row ≤ limit → Along first row found → Lowest (Through rows row 5) part → r ≡ min found part → to ≡ link rows row 5 → Along first to r
  along-to first row to found part r h a w e l = subst (λ (x : ℕ). Along first x r) (sym l) (along-next first row found part r h a w e)

  pub along-end : (first row found part r : ℕ) → depth_at rows row ≤ limit → Along first row found → Lowest (Through rows row 5) part → r ≡ min found part → link rows row 5 ≡ 0
      → Lowest (Under rows first) r
  along-end first row found part r h a w e l = rw e (a part (list-end row part h w l))

pub limit-most : (form : Form) (limit : ℕ) → limit ≡ depth_limit form → limit ≤ 512
limit-most Source limit e = omega arith
limit-most Kernel limit e = omega arith

-- ---- in a tree of rows

module _ (rows : List ℤ) (t : Tree rows) where
  -- a link that the code follows, as the row `to`
  pub record Follows (row field to : ℕ) : Type 0 where
    pub leads : Leads rows row field
    pub is : to ≡ link rows row field
    pub later : row < to
    pub inside : to < row_count rows

  pub follows : (row field to : ℕ) → row < row_count rows → field < 6 → to ≡ link rows row field → (to ≡ 0 → ⊥) → Follows row field to
  follows row field to n h e p =
      let leads = t.forward row field n h (rw (← e) (above_zero to p)) in
      record { leads = leads; is = e; later = rw e leads.later; inside = rw e leads.inside }

  -- every row is below row 0
  reached : (row : ℕ) → row < row_count rows → Under rows 0 row
  reached = by-owner rows t (Under rows 0) here (λ owner field h leads u. under-link rows u field h leads)

  module _ (form : Form) (found : ℕ) (w : LowestDeep (depth_limit form) rows (Under rows 0) found) where
    shallow-before : (row : ℕ) → row < row_count rows → row < found → too_deep form rows row ≡ false
    unfolding too_deep
    shallow-before row n h = go (dec_lt (depth_limit form) (depth_at rows row))
      where
        go : Dec (depth_limit form < depth_at rows row) → too_deep form rows row ≡ false
        go (yes d) = absurd (let l = w.least row (reached row n) d in omega arith)
        go (no d) = let l : depth_at rows row ≤ depth_limit form = omega (arith, d) in le-ltb _ _ l

    pub deep-found : found < row_count rows → Some found ≡ lowest_row rows (too_deep form rows)
    unfolding lowest_row too_deep
    deep-found h =
        sym (lowest-at (too_deep form rows) found (row_count rows) 0 (omega arith) (omega arith) (lt-ltb _ _ (w.deep h)) (λ row a b. shallow-before row (omega arith) b))

    pub deep_none : row_count rows ≤ found → None ≡ lowest_row rows (too_deep form rows)
    deep_none h = sym (all-lowest_row rows (too_deep form rows) (λ row n. shallow-before row n (omega arith)))
