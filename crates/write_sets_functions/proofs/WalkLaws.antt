-- The sets of walks: of an expression, of arguments and of a statement, from those of their links; and sets that are joined along a list.
use Rattle.std.specs.Prelude.{None, Some}
use mathlib.Core.Path.{◌≡◌, refl, sym, ap, ap₂, subst, ◌∙◌}
use mathlib.Core.Bool.{Bool, true, false, ◌&&◌, ◌||◌}
use mathlib.Core.List.{List}
use Prim.Native.Nat.{ℕ, zero, suc, ◌+◌, ◌≤◌, ◌<◌}
use native.Mathlib.Decide.{dec_lt}
use native.Mathlib.Omega.{arith}
use lib.Dec.{ltb}
use lib.IntN.{ℤ}
use borrow.Author.Tests.{lt-ltb, le-ltb}
use Rattle.words.specs.Table.{row_count, number_at}
use Rattle.language.specs.Trees.{Arguments, Items, Arms}
use Rattle.language.specs.Writes.{writes, arguments_write}
use Rattle.language.specs.FunctionWrites.{statement_writes, items_write, arms_write}
use Rattle.language.specs.Decode.{expression_at, part_at, argument_list_at, statement_at, items_at, list_at, arms_at, arm_list_at}
use Rattle.language_shapes.specs.Shapes.{OptionalOnward, ArgumentAt}
use Rattle.language_shapes.specs.Source.{Source}
use Rattle.write_sets.specs.Sets.{nothing, join}
use Rattle.write_sets.specs.declared.WriteSet.{WriteSet}
use Rattle.measures_table.specs.Parts.{called_in}
use Rattle.write_sets_rows.specs.WriteSets.{SetIs, part_writes, function_set}
use Rattle.write_sets_rows.specs.Reaches.{ReachAt, ReachedWith}
use Rattle.write_sets_rows.specs.declared.Reach.{Reach}
use Rattle.write_sets_rows.proofs.WriteLaws.{or_assoc, or-none, set-as, set-nothing, set-join, function-known, function-unknown}
use Rattle.write_sets_rows.proofs.ArgumentLaws.{list-some, rows_left}
use Rattle.write_sets_functions.specs.Walks.{lower_called, Walks}
use Rattle.write_sets_functions.specs.Steps.{body_writes, StepAt, StatementItem, ArmLinksAt}
use Rattle.write_sets_functions.specs.declared.Step.{Step}
use Rattle.write_sets_functions.specs.declared.ArmLinks.{ArmLinks}

-- a link that is absent or leads on is inside the table
pub link-inside : {rows : List ℤ} {row : ℕ} (link : ℕ) → Source rows → OptionalOnward rows row link → link < row_count rows
link-inside zero s o = s.sound.some_rows
link-inside (suc link) s o = (o (omega arith)).inside

-- ---- the functions below a number

lower-held : {S : ℕ} {rows : List ℤ} {sets : List WriteSet} {known : ℕ} → Walks S rows sets known → (f : ℕ) → SetIs S (function_set sets known f) (lower_called rows known f)
lower-held {S} {rows} {sets} {known} w f = by (dec_lt f known)
  where
    by : Dec (f < known) → SetIs S (function_set sets known f) (lower_called rows known f)
    by (yes h) = subst (λ (z : WriteSet). SetIs S z (lower_called rows known f)) (function-known sets known f h refl)
        (set-as (called_in rows f) _ (w.functions.function-set f h (omega (arith, h, w.few))) (λ i. sym (ap (λ (b : Bool). b && called_in rows f i) (lt-ltb f known h))))
    by (no h) = let above : known ≤ f = omega (arith, h) in subst (λ (z : WriteSet). SetIs S z (lower_called rows known f)) (function-unknown sets known f above refl)
        (set-as (λ i. false) _ (set-nothing refl) (λ i. sym (ap (λ (b : Bool). b && called_in rows f i) (le-ltb f known above))))

pub walk-reach : {S : ℕ} {rows : List ℤ} {sets : List WriteSet} {known link : ℕ} {r : Reach} → Walks S rows sets known → ReachedWith S rows sets known link r → ReachAt S rows (lower_called rows known) link r
walk-reach {rows = rows} {known = known} w reached = reached (lower_called rows known) (λ f arguments e. lower-held w f)

-- ---- expressions and arguments

-- the row behind an argument, as the code reads it
pub read_next : {rows : List ℤ} {link next read e : ℕ} → read ≡ next → ArgumentAt rows link next (Some e) → ArgumentAt rows link read (Some e)
read_next {rows} {link} {e = e} h f = subst (λ (n : ℕ). ArgumentAt rows link n (Some e)) (sym h) f

module _ {S : ℕ} (rows : List ℤ) (called : ℕ → ℕ → Bool) where
  pub none-walked : (link : ℕ) {s : WriteSet} → link ≡ 0 → s ≡ nothing → SetIs S s (part_writes called (part_at rows link))
  none-walked zero e es = set-nothing es
  none-walked (suc link) e es = absurd (omega arith)

  pub some-walked : (link : ℕ) {s : WriteSet} → 0 < link → SetIs S s (writes called (expression_at rows link)) → SetIs S s (part_writes called (part_at rows link))
  some-walked zero h x = absurd (omega arith)
  some-walked (suc link) h x = x

  walked-some : (link : ℕ) {s : WriteSet} → 0 < link → SetIs S s (part_writes called (part_at rows link)) → SetIs S s (writes called (expression_at rows link))
  walked-some zero h x = absurd (omega arith)
  walked-some (suc link) h x = x

  pub none_passed : (link : ℕ) {s : WriteSet} → link ≡ 0 → s ≡ nothing → SetIs S s (arguments_write called (argument_list_at rows link))
  unfolding arguments_write
  none_passed zero e es = set-nothing es
  none_passed (suc link) e es = absurd (omega arith)

  pub ended-passed : (link : ℕ) {next : ℕ} {s : WriteSet} → 0 < link → ArgumentAt rows link next None → s ≡ nothing → SetIs S s (arguments_write called (argument_list_at rows link))
  unfolding arguments_write
  ended-passed link {s = s} h f es = subst (λ (a : Arguments). SetIs S s (arguments_write called a)) (sym (list-some rows link h ∙ f.is)) (set-nothing es)

  pub argument-passed : (link : ℕ) {next e : ℕ} {a b s : WriteSet} → 0 < link → ArgumentAt rows link next (Some e) → SetIs S a (part_writes called (part_at rows e)) → SetIs S b (arguments_write called (argument_list_at rows next)) → s ≡ join a b → SetIs S s (arguments_write called (argument_list_at rows link))
  unfolding arguments_write
  argument-passed link {next} {e} {a} {b} {s} h f x y es =
      subst (λ (l : Arguments). SetIs S s (arguments_write called l)) (sym (list-some rows link h ∙ f.is)) (set-join a b _ _ (walked-some e (omega (arith, f.onward.later)) x) y es)

  -- ---- statements

  pub none-stepped : (link : ℕ) {s : WriteSet} → link ≡ 0 → s ≡ nothing → SetIs S s (body_writes called rows link)
  none-stepped zero e es = set-nothing es
  none-stepped (suc link) e es = absurd (omega arith)

  some-stepped : (link : ℕ) {s : WriteSet} → 0 < link → SetIs S s (statement_writes called (statement_at rows link)) → SetIs S s (body_writes called rows link)
  some-stepped zero h x = absurd (omega arith)
  some-stepped (suc link) h x = x

  pub step_set : (link : ℕ) {r : Step} {a b c d e g h u1 u2 u3 u4 u5 u6 s : WriteSet} → 0 < link → StepAt S rows called link r
      → SetIs S a (part_writes called (part_at rows r.first)) → SetIs S b (part_writes called (part_at rows r.second)) → SetIs S c (part_writes called (part_at rows r.third))
      → SetIs S d (body_writes called rows r.body) → SetIs S e (body_writes called rows r.other) → SetIs S g (items_write called (list_at rows r.list)) → SetIs S h (arms_write called (arm_list_at rows r.arms))
      → u1 ≡ join g h → u2 ≡ join e u1 → u3 ≡ join d u2 → u4 ≡ join c u3 → u5 ≡ join b u4 → u6 ≡ join a u5 → s ≡ join r.own u6 → SetIs S s (body_writes called rows link)
  step_set link {r} {a} {b} {c} {d} {e} {g} {h} {u1} {u2} {u3} {u4} {u5} {u6} there step xa xb xc xd xe xg xh e1 e2 e3 e4 e5 e6 es =
      some-stepped link there (set-as _ _ (set-join _ u6 _ _ step.own (set-join a u5 _ _ xa (set-join b u4 _ _ xb (set-join c u3 _ _ xc (set-join d u2 _ _ xd (set-join e u1 _ _ xe (set-join g h _ _ xg xh e1) e2) e3) e4) e5) e6) es) (λ i. sym (step.all i)))

-- ---- along a list

-- The set has what was met so far; with the rest it is the whole.
pub record Joined (S : ℕ) (s : WriteSet) (rest whole : ℕ → Bool) : Type 0 where
  pub before : ℕ → Bool
  pub is : SetIs S s before
  pub all : (i : ℕ) → (before i || rest i) ≡ whole i

pub joined-none : {S : ℕ} {s : WriteSet} (whole : ℕ → Bool) → s ≡ nothing → Joined S s whole whole
joined-none whole e = record { before = λ i. false; is = set-nothing e; all = λ i. refl }

pub joined-next : {S : ℕ} {s t u : WriteSet} {whole : ℕ → Bool} (rest own later : ℕ → Bool) → Joined S s rest whole → SetIs S t own → u ≡ join s t → ((i : ℕ) → rest i ≡ (own i || later i)) → Joined S u later whole
joined-next {S} {s} {t} rest own later j x e w = record {
  before = λ i. j.before i || own i;
  is = set-join s t j.before own j.is x e;
  all = λ i. or_assoc (j.before i) (own i) (later i) ∙ ap (λ (b : Bool). j.before i || b) (sym (w i)) ∙ j.all i;
}

pub joined-all : {S : ℕ} {s : WriteSet} {whole : ℕ → Bool} (rest : ℕ → Bool) → Joined S s rest whole → ((i : ℕ) → rest i ≡ false) → SetIs S s whole
joined-all {S} {s} {whole} rest j w = set-as j.before whole j.is (λ i. sym (or-none (j.before i)) ∙ ap (λ (b : Bool). j.before i || b) (sym (w i)) ∙ j.all i)

module _ (rows : List ℤ) (called : ℕ → ℕ → Bool) where
  abbrev pub items_from : ℕ → ℕ → Bool
  items_from row i = items_write called (list_at rows row) i

  abbrev pub arms_from : ℕ → ℕ → Bool
  arms_from row i = arms_write called (arm_list_at rows row) i

  list-at : (row i : ℕ) → 0 < row → items_from row i ≡ items_write called (items_at rows row) i
  list-at zero i h = absurd (omega arith)
  list-at (suc row) i h = refl

  arms-at : (row i : ℕ) → 0 < row → arms_from row i ≡ arms_write called (arms_at rows row) i
  arms-at zero i h = absurd (omega arith)
  arms-at (suc row) i h = refl

  pub items-next : {S row r next : ℕ} {s t u : WriteSet} {whole : ℕ → Bool} → 0 < row → Joined S s (items_from row) whole → StatementItem rows row r → SetIs S t (body_writes called rows r) → u ≡ join s t → next ≡ number_at rows row 5 → Joined S u (items_from next) whole
  items-next {row = row} {r} {next} there j item x e en =
      joined-next (items_from row) (body_writes called rows r) (items_from next) j x e (λ i. list-at row i there ∙ item.all called i ∙ ap (λ (n : ℕ). body_writes called rows r i || items_from n i) (sym en))

  pub items-all : (row : ℕ) {S : ℕ} {s : WriteSet} {whole : ℕ → Bool} → Joined S s (items_from row) whole → row ≡ 0 → SetIs S s whole
  unfolding items_write
  items-all row j e = joined-all (items_from row) j (λ i. ap (λ (n : ℕ). items_from n i) e)

  pub arms_next : {S row : ℕ} {r : ArmLinks} {s a b t u : WriteSet} {whole : ℕ → Bool} → 0 < row → Joined S s (arms_from row) whole → ArmLinksAt rows row r → SetIs S a (part_writes called (part_at rows r.guard)) → SetIs S b (body_writes called rows r.body) → t ≡ join a b → u ≡ join s t → Joined S u (arms_from r.next) whole
  arms_next {row = row} {r} {s} {a} {b} {t} there j links x y et e =
      joined-next (arms_from row) (λ i. part_writes called (part_at rows r.guard) i || body_writes called rows r.body i) (arms_from r.next) j (set-join a b _ _ x y et) e (λ i. arms-at row i there ∙ links.all called i)

  pub arms-all : (row : ℕ) {S : ℕ} {s : WriteSet} {whole : ℕ → Bool} → Joined S s (arms_from row) whole → row ≡ 0 → SetIs S s whole
  unfolding arms_write
  arms-all row j e = joined-all (arms_from row) j (λ i. ap (λ (n : ℕ). arms_from n i) e)

-- ---- rows left

pub item-left : {rows : List ℤ} {row : ℕ} (r : ℕ) → StatementItem rows row r → rows_left (row_count rows) r ≤ rows_left (row_count rows) row
item-left zero item = omega arith
item-left {rows} {row} (suc r) item = omega (arith, ap (rows_left (row_count rows)) (item.own (omega arith)))

pub item_inside : {rows : List ℤ} {row : ℕ} (r : ℕ) → StatementItem rows row r → row < row_count rows → r < row_count rows
item_inside zero item h = omega (arith, h)
item_inside (suc r) item h = let e = item.own (omega arith) in omega (arith, e, h)
