-- Asks: what the writers of a program ask of their caller, and what they write.
use Rattle.std.specs.Prelude.{◌≡◌, List, ℕ, ◌+◌, ◌≤◌, ◌<◌, ℤ, length}
use Rattle.words.specs.Table.{row_count, number_at}
use Rattle.language.specs.Trees.{Statement, block, Items, define}
use Rattle.language.specs.Calls.{Numbered}
use Rattle.language.specs.Decode.{block_items, statement_at, list_at, parameter_list_at}
use Rattle.language.specs.Program.{contents}
use Rattle.translation.specs.Translate.{program_levels, program_labels, translate}
use Rattle.translation.specs.TranslateSize.{program_size}
use Rattle.language_shapes.specs.Source.{Source}
use Rattle.measures_table.specs.Parts.{called_in}
use Rattle.writers_rows.specs.Room.{Room}
use Rattle.writers_steps.specs.Asks.{Writing}

-- ---- parameters

pub record ParametersAsk (rows : List ℤ) (parameter count base words : ℕ) : Type 0 where
  pub source : Source rows
  pub inside : parameter < row_count rows
  pub count_is : count ≡ length (parameter_list_at rows parameter)
  pub room : Room count base words

-- ---- definitions

-- The list of the block at a row.
pub record BlockList (rows : List ℤ) (row list : ℕ) : Type 0 where
  pub is : list_at rows list ≡ block_items (statement_at rows row)
  pub inside : list < row_count rows

-- "Numbered from 0 in order": the definitions from an item on, from a number that is below the item's row.
pub record NumberedFrom (rows : List ℤ) (item : ℕ) : Type 0 where
  pub number : ℕ
  pub numbered : Numbered number (list_at rows item)
  pub low : 0 < item → number < item

-- What a program's list from an item on takes: `size` kernel rows and `levels` temporaries above the store word S. The labels begin at `label`.
pub record ListTakes (rows : List ℤ) (is : Items) (S size levels label base words : ℕ) : Type 0 where
  pub size_is : size ≡ program_size (called_in rows) is
  pub levels_are : levels ≡ program_levels (called_in rows) is
  pub store_low : S + levels ≤ 10304
  pub labels_low : label + program_labels is ≤ 65535
  pub room : Room size base words

pub record FrontAsks (rows : List ℤ) (S item size levels label base words : ℕ) : Type 0 where
  pub inside : item < row_count rows
  pub numbers : NumberedFrom rows item
  pub takes : ListTakes rows (list_at rows item) S size levels label base words

pub record FunctionAsks (rows : List ℤ) (S number parameters body next size levels label base words : ℕ) : Type 0 where
  pub number_low : number < 65536
  pub parameters_inside : parameters < row_count rows
  pub body_inside : body < row_count rows
  pub block-list : {list : ℕ} → list ≡ number_at rows body 1 → BlockList rows body list
  pub next_inside : next < row_count rows
  pub numbers_behind : NumberedFrom rows next
  pub takes : ListTakes rows (define number (parameter_list_at rows parameters) (block_items (statement_at rows body)) (list_at rows next)) S size levels label base words

-- ---- programs

-- The block of the translation, its temporaries from the store word `first` on.
abbrev pub kernel_program : ℕ → Items → Statement
kernel_program first program = block (translate first program)

pub record ProgramAsks (rows : List ℤ) (table : List ℕ) (S size levels words : ℕ) : Type 0 where
  pub writing : Writing rows table S
  pub size_is : size ≡ program_size (called_in rows) (contents rows)
  pub levels_are : levels ≡ program_levels (called_in rows) (contents rows)
  pub store_low : S + levels ≤ 10304
  pub room : Room (1 + size) 0 words
