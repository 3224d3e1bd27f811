-- The measures of a program, along its definitions; and the number of parameters.
use mathlib.Core.Path.{◌≡◌, refl, sym, ap, subst, ◌∙◌}
use mathlib.Core.Bool.{Bool, true, false, true≢false}
use mathlib.Core.List.{List, [], ◌∷◌}
use Prim.Native.Nat.{ℕ, zero, suc, ◌+◌, ◌*◌, ◌≤◌, ◌<◌}
use native.Mathlib.Numerals.{add-one}
use native.Mathlib.Omega.{arith}
use lib.IntN.{ℤ}
use lib.ListN.{length}
use Rattle.words.specs.Table.{row_count, number_at}
use Rattle.words.specs.Kinds.{is_link, statement_fields, kind_row, sort_in}
use Rattle.language.specs.Trees.{Statement, Items, none, ◌then◌, ◌here◌, define, block}
use Rattle.language.specs.Functions.{Function}
use Rattle.language.specs.Program.{contents}
use Rattle.language.specs.SoundLaws.{optional-link-of}
use Rattle.language.specs.Decode.{block_items, statement_at, items_at, list_at, parameter_list_at}
use Rattle.translation.specs.Translate.{labels, items_labels, statement_levels, items_levels, program_levels, program_labels}
use Rattle.translation.specs.TranslateSize.{statement_size, items_size, program_size}
use Rattle.language_shapes.specs.Source.{Source}
use Rattle.measures_table.specs.Parts.{called_in}
use Rattle.measures_table.specs.Measures.{limited, statement_rows_slot, statement_levels_slot, statement_labels_slot, list_rows_slot, list_levels_slot, list_labels_slot, slot_at, LinkMeasured, Measured, ProgramMeasured}
use Rattle.measures_table.specs.MeasureLaws.{at_some, limited-most, whole_row, whole-slot}
use Rattle.measures_table.specs.declared.StatementMeasures.{StatementMeasures}
use Rattle.write_sets_functions.specs.Definitions.{defines, is_parameter, defined_at}
use Rattle.write_sets_functions.proofs.DefinitionLaws.{there, defined-kind, next_inside, next-later, list-is, body-block, list-parameter, list-ended, list-defines, is_define}
use Rattle.measures.specs.Programs.{CountIs, SmallMeasures, added, list_measures, DefinitionMeasured}

-- ---- sums that are cut off

sum_more : (f m n rest : ℕ) → m ≡ limited n → limited (limited (f + m) + rest) ≡ limited (f + (n + rest))
unfolding limited
sum_more f m n rest e = omega arith

sum-last : (f m n : ℕ) → m ≡ limited n → limited (f + m) ≡ limited (f + n)
unfolding limited
sum-last f m n e = omega arith

block-sum : (n x size : ℕ) → x ≡ limited (1 + size) → limited (1 + n + x) ≡ limited (2 + n + size)
unfolding limited
block-sum n x size e = omega arith

none_more : (n : ℕ) → 0 + n ≡ n
none_more n = omega arith

-- ---- parameters

pub record Counting (rows : List ℤ) (first count row : ℕ) : Type 0 where
  pub all : count + length (parameter_list_at rows row) ≡ length (parameter_list_at rows first)
  pub inside : row < row_count rows
  pub low : 0 < row → count < row
  pub few : count ≤ 2048

pub counting-none : {rows : List ℤ} {first : ℕ} → first < row_count rows → Counting rows first 0 first
counting-none h = record { all = none_more _; inside = h; low = λ p. p; few = omega arith }

parameter-link : (rows : List ℤ) (link : ℕ) → is_parameter rows link ≡ true → 0 < link
parameter-link rows zero h = absurd (true≢false (sym h))
parameter-link rows (suc link) h = omega arith

module _ {rows : List ℤ} {first count row : ℕ} (s : Source rows) (c : Counting rows first count row) where
  pub counting-low : is_parameter rows row ≡ true → count < 2048
  counting-low h = let l = c.low (parameter-link rows row h) in omega (arith, l, c.inside, s.few_rows)

  pub counting-next : {next : ℕ} → is_parameter rows row ≡ true → next ≡ number_at rows row 5 → Counting rows first (count + 1) next
  counting-next {next} h e = record {
    all = ap (λ (n : ℕ). count + 1 + length (parameter_list_at rows n)) e ∙ (let x = ap length (list-parameter s row c.inside h) in omega (arith, x, c.all));
    inside = next_inside s c.inside next e;
    low = λ p. let l = next-later s c.inside next e p in let k = c.low (parameter-link rows row h) in omega (arith, l, k);
    few = let l = counting-low h in omega (arith, l);
  }

  pub counting-all : is_parameter rows row ≡ false → CountIs (parameter_list_at rows first) count
  counting-all h = record { is = (let x = ap length (list-ended s row h) in omega (arith, x, c.all)); few = c.few }

-- from the link that the code reads
pub read_count : (rows : List ℤ) {p q n : ℕ} → p ≡ q → CountIs (parameter_list_at rows p) n → CountIs (parameter_list_at rows q) n
read_count rows e c = record { is = c.is ∙ ap (λ (l : ℕ). length (parameter_list_at rows l)) e; few = c.few }

-- ---- a definition

module _ {rows : List ℤ} {table : List ℕ} {row body : ℕ} (m : Measured rows table) (inside : row < row_count rows) (d : defines rows row ≡ true) (e : body ≡ number_at rows row 3) where
  body-later : row < body
  body-later = (body-block m.source inside (defined-kind rows row d) e).later

  body_inside : body < row_count rows
  body_inside = (body-block m.source inside (defined-kind rows row d) e).within

  pub body-measured : LinkMeasured table body
  body-measured = whole-slot m body body_inside

  is-block : statement_at rows body ≡ block (defined_at rows row).body
  is-block = (body-block m.source inside (defined-kind rows row d) e).is

  pub definition-measured : {n x l k q : ℕ} → CountIs (parameter_list_at rows (number_at rows row 2)) n → x ≡ slot_at table body statement_rows_slot → l ≡ slot_at table body statement_levels_slot → k ≡ slot_at table body statement_labels_slot
      → q ≡ limited (1 + n + x) → DefinitionMeasured (called_in rows) (defined_at rows row) (record { rows = q; levels = l; labels = k })
  unfolding statement_size statement_levels labels
  definition-measured {n} {x} {l} {k} count ex el ek er =
      let w = (whole_row m body_inside).statement in
      let some : 0 < body = omega (arith, body-later) in
      record {
        rows_are = er ∙ block-sum n x (items_size (called_in rows) (defined_at rows row).body) (ex ∙ at_some table body statement_rows_slot some ∙ w.rows_are ∙ ap (λ (t : Statement). limited (statement_size (called_in rows) t)) is-block) ∙ ap (λ (c : ℕ). limited (2 + c + items_size (called_in rows) (defined_at rows row).body)) count.is;
        levels_are = el ∙ at_some table body statement_levels_slot some ∙ w.levels_are ∙ ap (λ (t : Statement). limited (statement_levels (called_in rows) t)) is-block;
        labels_are = ek ∙ at_some table body statement_labels_slot some ∙ w.labels_are ∙ ap (λ (t : Statement). limited (labels t)) is-block;
      }

definition-small : {called : ℕ → ℕ → Bool} {function : Function} {m : StatementMeasures} → DefinitionMeasured called function m → SmallMeasures m
definition-small d = record { rows_small = rw d.rows_are (limited-most _); levels_small = rw d.levels_are (limited-most _); labels_small = rw d.labels_are (limited-most _) }

-- ---- the program

-- What was found so far, and what the list from the row on brings.
pub record Summing (rows : List ℤ) (first : ℕ) (found : StatementMeasures) (row : ℕ) : Type 0 where
  pub inside : row < row_count rows
  pub small : SmallMeasures found
  pub rows_all : limited (found.rows + program_size (called_in rows) (list_at rows row)) ≡ limited (program_size (called_in rows) (list_at rows first))
  pub levels_all : limited (found.levels + program_levels (called_in rows) (list_at rows row)) ≡ limited (program_levels (called_in rows) (list_at rows first))
  pub labels_all : limited (found.labels + program_labels (list_at rows row)) ≡ limited (program_labels (list_at rows first))

pub summing-none : {rows : List ℤ} {first : ℕ} → first < row_count rows → Summing rows first (record { rows = 0; levels = 0; labels = 0 }) first
summing-none h = record { inside = h; small = record { rows_small = omega arith; levels_small = omega arith; labels_small = omega arith }; rows_all = ap limited (none_more _); levels_all = ap limited (none_more _); labels_all = ap limited (none_more _) }

pub summing-small : {called : ℕ → ℕ → Bool} {function : Function} {m : StatementMeasures} → DefinitionMeasured called function m → SmallMeasures m
summing-small d = definition-small d

pub summing-next : {rows : List ℤ} {table : List ℕ} {first row next : ℕ} {found more sum : StatementMeasures} → Measured rows table → Summing rows first found row → defines rows row ≡ true → DefinitionMeasured (called_in rows) (defined_at rows row) more → sum ≡ added found more → next ≡ number_at rows row 5 → Summing rows first sum next
unfolding program_size program_levels program_labels
summing-next {rows} {first = first} {row} {next} {found} {more} m s d x es en =
    let at = list-is m.source s.inside d in
    let called = called_in rows in
    subst (λ (t : StatementMeasures). Summing rows first t next) (sym es) (subst (λ (n : ℕ). Summing rows first (added found more) n) (sym en) (record {
      inside = next_inside m.source s.inside (number_at rows row 5) refl;
      small = record { rows_small = limited-most _; levels_small = limited-most _; labels_small = limited-most _ };
      rows_all = sum_more found.rows more.rows _ _ x.rows_are ∙ sym (ap (λ (is : Items). limited (found.rows + program_size called is)) at) ∙ s.rows_all;
      levels_all = sum_more found.levels more.levels _ _ x.levels_are ∙ sym (ap (λ (is : Items). limited (found.levels + program_levels called is)) at) ∙ s.levels_all;
      labels_all = sum_more found.labels more.labels _ _ x.labels_are ∙ sym (ap (λ (is : Items). limited (found.labels + program_labels is)) at) ∙ s.labels_all;
    }))

-- the main part, which begins with no definition
pub main-size : (called : ℕ → ℕ → Bool) (is : Items) → is_define is ≡ false → program_size called is ≡ items_size called is
unfolding program_size
main-size called none h = refl
main-size called (s then is) h = refl
main-size called (m here is) h = refl
main-size called (define f words body is) h = absurd (true≢false h)

main-levels : (called : ℕ → ℕ → Bool) (is : Items) → is_define is ≡ false → program_levels called is ≡ items_levels called is
unfolding program_levels
main-levels called none h = refl
main-levels called (s then is) h = refl
main-levels called (m here is) h = refl
main-levels called (define f words body is) h = absurd (true≢false h)

pub main-labels : (is : Items) → is_define is ≡ false → program_labels is ≡ items_labels is
unfolding program_labels
main-labels none h = refl
main-labels (s then is) h = refl
main-labels (m here is) h = refl
main-labels (define f words body is) h = absurd (true≢false h)

module _ {rows : List ℤ} {table : List ℕ} (m : Measured rows table) where
  list-rows : (link : ℕ) → link < row_count rows → slot_at table link list_rows_slot ≡ limited (items_size (called_in rows) (list_at rows link))
  unfolding limited items_size
  list-rows zero h = refl
  list-rows (suc link) h = (whole_row m h).list.rows_are

  list-levels : (link : ℕ) → link < row_count rows → slot_at table link list_levels_slot ≡ limited (items_levels (called_in rows) (list_at rows link))
  unfolding limited items_levels
  list-levels zero h = refl
  list-levels (suc link) h = (whole_row m h).list.levels_are

  list-labels : (link : ℕ) → link < row_count rows → slot_at table link list_labels_slot ≡ limited (items_labels (list_at rows link))
  unfolding limited items_labels
  list-labels zero h = refl
  list-labels (suc link) h = (whole_row m h).list.labels_are

  pub list-small : (link : ℕ) {r : StatementMeasures} → link < row_count rows → r ≡ list_measures table link → SmallMeasures r
  list-small link h e = let x = whole-slot m link h in rw e (record { rows_small = (x list_rows_slot (omega arith)).small; levels_small = (x list_levels_slot (omega arith)).small; labels_small = (x list_labels_slot (omega arith)).small })

  pub summing-all : {first row : ℕ} {found main r : StatementMeasures} → Summing rows first found row → defines rows row ≡ false → main ≡ list_measures table row → r ≡ added found main → ProgramMeasured (called_in rows) (list_at rows first) r
  summing-all {first} {row} {found} {main} s d em er =
      let called = called_in rows in
      let ended = list-defines m.source row ∙ d in
      let is = list_at rows row in
      subst (λ (t : StatementMeasures). ProgramMeasured called (list_at rows first) t) (sym (er ∙ ap (added found) em)) (record {
        rows_are = sum-last found.rows _ _ (list-rows row s.inside) ∙ sym (ap (λ (n : ℕ). limited (found.rows + n)) (main-size called is ended)) ∙ s.rows_all;
        levels_are = sum-last found.levels _ _ (list-levels row s.inside) ∙ sym (ap (λ (n : ℕ). limited (found.levels + n)) (main-levels called is ended)) ∙ s.levels_all;
        labels_are = sum-last found.labels _ _ (list-labels row s.inside) ∙ sym (ap (λ (n : ℕ). limited (found.labels + n)) (main-labels is ended)) ∙ s.labels_all;
      })

-- ---- the list of row 0

pub contents-at : (rows : List ℤ) {list : ℕ} → list ≡ number_at rows 0 1 → list_at rows list ≡ contents rows
unfolding contents
contents-at rows e = ap (list_at rows) e

pub program-inside : {rows : List ℤ} → Source rows → (list : ℕ) → list ≡ number_at rows 0 1 → list < row_count rows
unfolding sort_in kind_row statement_fields is_link
program-inside s zero e = s.sound.some_rows
program-inside s (suc list) e =
    let link = optional-link-of s.sound s.sound.some_rows s.functions.root 1 (omega arith) (omega arith) refl in
    rw e (link (rw (← e) (omega arith))).inside
