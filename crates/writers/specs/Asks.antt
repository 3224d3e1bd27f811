-- Asks: what the writers of statements ask of their caller.
use Rattle.std.specs.Prelude.{◌≡◌, List, ℕ, zero, suc, ◌+◌, ◌*◌, ◌≤◌, ◌<◌, max, ℤ, pos}
use Rattle.words.specs.Table.{row_count}
use Rattle.language.specs.Decode.{expression_at, statement_at, items_at, arms_at, list_at, arm_list_at, part_at}
use Rattle.language.specs.Trees.{constant, variable}
use Rattle.translation.specs.Uses.{direct}
use Rattle.translation.specs.declared.Use.TheVariants.{Dropped as dropped, Wanted as wanted, Stored as stored}
use Rattle.translation.specs.Translate.{rounds_labels, labels, arms_labels, items_labels}
use Rattle.translation.specs.TranslateSize.{store_rows, expression_size, operand_size, part_size, test_size, rounds_rows, statement_size, arms_size, items_size, cases}
use Rattle.language_shapes.specs.Source.{most_words, Source}
use Rattle.measures_table.specs.Parts.{called_in}
use Rattle.writers_rows.specs.Room.{Room}
use Rattle.writers_rows.specs.Atoms.{AtomFits}
use Rattle.writers_rows.specs.declared.KernelAtom.{KernelAtom}
use Rattle.writers.specs.Items.{item_size, item_labels, item_cases, first_only}
use Rattle.writers.specs.declared.Exits.{Exits}
use Rattle.writers.specs.declared.Loop.{Loop}

-- ---- statements and lists

abbrev pub ExitsLow : Exits → Type 0
ExitsLow x = (x.breaking < 65536) × (x.continuing < 65536)

-- A branch or body, which may be absent.
abbrev pub body_size : List ℤ → ℕ → ℕ
body_size rows zero = 0
body_size rows (suc row) = statement_size (called_in rows) (statement_at rows (suc row))

abbrev pub body_labels : List ℤ → ℕ → ℕ
body_labels rows zero = 0
body_labels rows (suc row) = labels (statement_at rows (suc row))

-- The statement at a row, its labels from `label` on, and the labels of the loops around it.
pub record StatementAsks (rows : List ℤ) (row : ℕ) (x : Exits) (label base words : ℕ) : Type 0 where
  pub inside : row < row_count rows
  pub room : Room (statement_size (called_in rows) (statement_at rows row)) base words
  pub labels_low : label + labels (statement_at rows row) ≤ 65535
  pub exits_low : ExitsLow x

-- The same of a list at a link.
pub record ListAsks (rows : List ℤ) (list : ℕ) (x : Exits) (label base words : ℕ) : Type 0 where
  pub inside : list < row_count rows
  pub room : Room (items_size (called_in rows) (list_at rows list)) base words
  pub labels_low : label + items_labels (list_at rows list) ≤ 65535
  pub exits_low : ExitsLow x

-- The same of a branch or body, which may be absent.
pub record BodyAsks (rows : List ℤ) (row : ℕ) (x : Exits) (label base words : ℕ) : Type 0 where
  pub inside : row < row_count rows
  pub room : Room (1 + body_size rows row) base words
  pub labels_low : label + body_labels rows row ≤ 65535
  pub exits_low : ExitsLow x

-- A loop's test, with the label behind the loop.
pub record TestAsks (rows : List ℤ) (test label base words : ℕ) : Type 0 where
  pub inside : test < row_count rows
  pub label_low : label < 65535
  pub room : Room (test_size (called_in rows) (part_at rows test)) base words

pub record RoundEndAsks (rows : List ℤ) (action after label base words : ℕ) : Type 0 where
  pub action_inside : action < row_count rows
  pub after_inside : after < row_count rows
  pub label_low : label < 65535
  pub room : Room (1 + part_size (called_in rows) (part_at rows action) + test_size (called_in rows) (part_at rows after)) base words

abbrev pub round_size : List ℤ → Loop → ℕ
round_size rows parts =
    test_size (called_in rows) (part_at rows parts.before) + statement_size (called_in rows) (statement_at rows parts.body) + (1 + part_size (called_in rows) (part_at rows parts.action) + test_size (called_in rows) (part_at rows parts.after))

pub record LoopFits (rows : List ℤ) (parts : Loop) (label : ℕ) : Type 0 where
  pub first_inside : parts.first < row_count rows
  pub before_inside : parts.before < row_count rows
  pub body_inside : parts.body < row_count rows
  pub action_inside : parts.action < row_count rows
  pub after_inside : parts.after < row_count rows
  pub labels_low : label + 2 + labels (statement_at rows parts.body) ≤ 65535

abbrev pub loop_size : List ℤ → Loop → ℕ
loop_size rows parts = part_size (called_in rows) (part_at rows parts.first) + (3 + round_size rows parts + 1)

-- A list, its labels from `label` on.
pub record ListInside (rows : List ℤ) (list label : ℕ) : Type 0 where
  pub inside : list < row_count rows
  pub labels_low : label + items_labels (list_at rows list) ≤ 65535

-- The test of an item.
pub record CaseAsks (rows : List ℤ) (row : ℕ) (x : KernelAtom) (S level target base words : ℕ) : Type 0 where
  pub source : Source rows
  pub inside : row < row_count rows
  pub atom_fits : AtomFits x
  pub number_low : S + level < 65536
  pub target_low : target < 65536
  pub room : Room (11 * item_cases (items_at rows row)) base words

-- The tests of a list.
pub record CasesAsk (rows : List ℤ) (list : ℕ) (x : KernelAtom) (S level label base words : ℕ) : Type 0 where
  pub inside : list < row_count rows
  pub atom_fits : AtomFits x
  pub number_low : S + level < 65536
  pub labels_low : label + items_labels (list_at rows list) ≤ 65535
  pub room : Room (11 * cases (list_at rows list)) base words

pub record BlockAsks (rows : List ℤ) (list : ℕ) (x : Exits) (label base words : ℕ) : Type 0 where
  pub inside : list < row_count rows
  pub room : Room (1 + items_size (called_in rows) (list_at rows list)) base words
  pub labels_low : label + items_labels (list_at rows list) ≤ 65535
  pub exits_low : ExitsLow x

pub record ItemAsks (rows : List ℤ) (row : ℕ) (x : Exits) (label base words : ℕ) : Type 0 where
  pub inside : row < row_count rows
  pub room : Room (item_size (called_in rows) (items_at rows row)) base words
  pub labels_low : label + item_labels (items_at rows row) ≤ 65535
  pub exits_low : ExitsLow x

pub record ExpressAsks (rows : List ℤ) (row base words : ℕ) : Type 0 where
  pub some : 0 < row
  pub inside : row < row_count rows
  pub room : Room (max 1 (expression_size (called_in rows) (expression_at rows row) dropped)) base words

-- A declaration: the word of its object, and its value; an absent one is 0.
pub record DeclareAsks (rows : List ℤ) (number value base words : ℕ) : Type 0 where
  pub low : number < most_words
  pub absent : value ≡ 0 → expression_at rows value ≡ constant (pos 0)
  pub inside : value < row_count rows
  pub room : Room (operand_size (called_in rows) (part_at rows value) (stored number) + store_rows (variable number) (direct (expression_at rows value))) base words

-- A return: its value, which may be absent.
pub record ReturnAsks (rows : List ℤ) (value base words : ℕ) : Type 0 where
  pub inside : value < row_count rows
  pub room : Room (2 + operand_size (called_in rows) (part_at rows value) wanted) base words

pub record IfAsks (rows : List ℤ) (test on_true on_false : ℕ) (x : Exits) (label base words : ℕ) : Type 0 where
  pub test_some : 0 < test
  pub test_inside : test < row_count rows
  pub true_some : 0 < on_true
  pub true_inside : on_true < row_count rows
  pub false_inside : on_false < row_count rows
  pub room : Room (4 + expression_size (called_in rows) (expression_at rows test) wanted + statement_size (called_in rows) (statement_at rows on_true) + body_size rows on_false) base words
  pub labels_low : label + labels (statement_at rows on_true) + body_labels rows on_false ≤ 65535
  pub exits_low : ExitsLow x

pub record SwitchAsks (rows : List ℤ) (selector list : ℕ) (x : Exits) (label base words : ℕ) : Type 0 where
  pub selector_some : 0 < selector
  pub selector_inside : selector < row_count rows
  pub inside : list < row_count rows
  pub room : Room (2 + expression_size (called_in rows) (expression_at rows selector) wanted + 11 * cases (list_at rows list) + items_size (called_in rows) (list_at rows list)) base words
  pub labels_low : label + (1 + items_labels (list_at rows list)) ≤ 65535
  pub exits_low : ExitsLow x

-- ---- guarded forms

-- The arms at a link, their labels from `label` on; each goes to the label `target`.
pub record ArmsAsk (rows : List ℤ) (arms : ℕ) (x : Exits) (target label base words : ℕ) : Type 0 where
  pub inside : arms < row_count rows
  pub room : Room (arms_size (called_in rows) (arm_list_at rows arms)) base words
  pub labels_low : label + arms_labels (arm_list_at rows arms) ≤ 65535
  pub target_low : target < 65536
  pub exits_low : ExitsLow x

-- The same of the arm at a row.
pub record ArmAsks (rows : List ℤ) (row : ℕ) (x : Exits) (target label base words : ℕ) : Type 0 where
  pub inside : row < row_count rows
  pub room : Room (arms_size (called_in rows) (first_only (arms_at rows row))) base words
  pub labels_low : label + arms_labels (first_only (arms_at rows row)) ≤ 65535
  pub target_low : target < 65536
  pub exits_low : ExitsLow x

-- The same of an arm by its links.
pub record GuardedAsks (rows : List ℤ) (guard body : ℕ) (x : Exits) (target label base words : ℕ) : Type 0 where
  pub guard_some : 0 < guard
  pub guard_inside : guard < row_count rows
  pub body_inside : body < row_count rows
  pub room : Room (5 + expression_size (called_in rows) (expression_at rows guard) wanted + statement_size (called_in rows) (statement_at rows body)) base words
  pub labels_low : label + labels (statement_at rows body) ≤ 65535
  pub target_low : target < 65536
  pub exits_low : ExitsLow x

pub record ChoiceAsks (rows : List ℤ) (arms : ℕ) (x : Exits) (label base words : ℕ) : Type 0 where
  pub inside : arms < row_count rows
  pub room : Room (2 + arms_size (called_in rows) (arm_list_at rows arms)) base words
  pub labels_low : label + (1 + arms_labels (arm_list_at rows arms)) ≤ 65535
  pub exits_low : ExitsLow x

pub record RoundsAsk (rows : List ℤ) (arms : ℕ) (x : Exits) (label base words : ℕ) : Type 0 where
  pub inside : arms < row_count rows
  pub room : Room (rounds_rows (arm_list_at rows arms) + arms_size (called_in rows) (arm_list_at rows arms)) base words
  pub labels_low : label + (rounds_labels (arm_list_at rows arms) + arms_labels (arm_list_at rows arms)) ≤ 65535
  pub exits_low : ExitsLow x
