-- The sizes and levels of a translation in which every result goes through a temporary, and e++ always keeps its old value: a clause a kind.
use Rattle.std.specs.Prelude.{Bool, ℕ, ◌+◌, ◌*◌, max, length}
use Rattle.language.specs.Trees.{Expression, constant, read, minus, not, binary, and, or, comma, conditional, assign, compound, prefix, postfix, call, Place, variable, element, Arguments, no_more, ◌also◌, Part, absent, present, Statement, empty, express, block, if_then, if_else, while, do_while, for, switch, break, continue, goto, guarded_if, guarded_do, abort, declare, give_back, Arms, no_arm, arm, Items, none, ◌then◌, ◌here◌, define}
use Rattle.language.specs.Writes.{writes, index_writes}
use Rattle.language.specs.Calls.{argument_count}
use Rattle.translation.specs.Translate.{Atom, number, word, top, held, together, nothing, taken}
use Rattle.translation.specs.TranslateSize.{index_rows, copy_rows, hold_rows, cases, rounds_rows}

abbrev pub through_part : (Expression → ℕ) → Part → ℕ
through_part of absent = 0
through_part of (present e) = of e

-- `called f i`: whether function f can write the variable i.
module _ (called : ℕ → ℕ → Bool) where
  unfoldable pub through_atom : Expression → Atom
  through_atom (constant v) = number v
  through_atom (read (variable i)) = word i
  through_atom (read (element array e)) = top
  through_atom (minus e) = top
  through_atom (not e) = top
  through_atom (binary operator a b) = top
  through_atom (and a b) = top
  through_atom (or a b) = top
  through_atom (comma a b) = through_atom b
  through_atom (conditional c a b) = top
  through_atom (assign p e) = held (through_atom e) (index_writes called p)
  through_atom (compound operator p e) = top
  through_atom (prefix operator p) = top
  through_atom (postfix operator p) = top
  through_atom (call f arguments) = top

  -- How many temporaries arguments take.
  unfoldable pub through_taken : Arguments → (ℕ → Bool) → ℕ
  through_taken no_more W = 0
  through_taken (e also arguments) W = through_taken arguments (together (writes called e) W) + taken (held (through_atom e) W)

  unfoldable mutual
    pub through_size : Expression → ℕ
    through_size (constant v) = 0
    through_size (read p) = 5 * index_rows p + through_index p
    through_size (minus e) = 5 + through_size e
    through_size (not e) = 6 + through_size e
    through_size (binary operator a b) = 6 + hold_rows (through_atom b) (writes called a) + through_size a + through_size b
    through_size (and a b) = 14 + through_size a + through_size b
    through_size (or a b) = 14 + through_size a + through_size b
    through_size (comma a b) = through_size a + through_size b
    through_size (conditional c a b) = 4 + copy_rows (through_atom a) + copy_rows (through_atom b) + through_size c + through_size a + through_size b
    through_size (assign p e) = 4 + index_rows p + hold_rows (through_atom e) (index_writes called p) + through_index p + through_size e
    through_size (compound operator p e) = 10 + 6 * index_rows p + hold_rows (through_atom e) (index_writes called p) + through_index p + through_size e
    through_size (prefix operator p) = 10 + 6 * index_rows p + through_index p
    through_size (postfix operator p) = 10 + 6 * index_rows p + through_index p
    through_size (call f arguments) = 4 + 2 * argument_count arguments + through_arguments arguments nothing

    pub through_index : Place → ℕ
    through_index (variable i) = 0
    through_index (element array e) = through_size e

    pub through_arguments : Arguments → (ℕ → Bool) → ℕ
    through_arguments no_more W = 0
    through_arguments (e also arguments) W = hold_rows (through_atom e) W + through_size e + through_arguments arguments (together (writes called e) W)

  unfoldable mutual
    pub through_levels : Expression → ℕ
    through_levels (constant v) = 0
    through_levels (read p) = max (taken (through_atom (read p))) (through_index_levels p)
    through_levels (minus e) = max 1 (through_levels e)
    through_levels (not e) = max 1 (through_levels e)
    through_levels (binary operator a b) = max 1 (max (through_levels b) (taken (held (through_atom b) (writes called a)) + through_levels a))
    through_levels (and a b) = max 1 (max (through_levels a) (through_levels b))
    through_levels (or a b) = max 1 (max (through_levels a) (through_levels b))
    through_levels (comma a b) = max (through_levels a) (through_levels b)
    through_levels (conditional c a b) = max 1 (max (through_levels c) (max (through_levels a) (through_levels b)))
    through_levels (assign p e) = max (through_levels e) (taken (held (through_atom e) (index_writes called p)) + through_index_levels p)
    through_levels (compound operator p e) = max (through_levels e) (1 + through_update_levels p)
    through_levels (prefix operator p) = 1 + through_update_levels p
    through_levels (postfix operator p) = 1 + through_update_levels p
    through_levels (call f arguments) = max 1 (through_arguments_levels arguments nothing)

    pub through_index_levels : Place → ℕ
    through_index_levels (variable i) = 0
    through_index_levels (element array e) = through_levels e

    pub through_update_levels : Place → ℕ
    through_update_levels (variable i) = 0
    through_update_levels (element array e) = max (through_levels e) (taken (through_atom e) + 1)

    pub through_arguments_levels : Arguments → (ℕ → Bool) → ℕ
    through_arguments_levels no_more W = 0
    through_arguments_levels (e also arguments) W =
        max (through_arguments_levels arguments (together (writes called e) W)) (through_taken arguments (together (writes called e) W) + max (through_levels e) (taken (held (through_atom e) W)))

  unfoldable mutual
    pub through_statement : Statement → ℕ
    through_statement empty = 1
    through_statement (express e) = max 1 (through_size e)
    through_statement (block is) = 1 + through_items is
    through_statement (if_then e on_true) = 4 + through_size e + through_statement on_true
    through_statement (if_else e on_true on_false) = 4 + through_size e + through_statement on_true + through_statement on_false
    through_statement (while e body) = 10 + through_size e + through_statement body
    through_statement (do_while body e) = 10 + through_size e + through_statement body
    through_statement (for first test action body) = 5 + through_part through_size first + through_part (λ e. through_size e + 5) test + through_part through_size action + through_statement body
    through_statement (switch e is) = 2 + through_size e + 11 * cases is + through_items is
    through_statement break = 1
    through_statement continue = 1
    through_statement (goto l) = 1
    through_statement (guarded_if arms) = 2 + through_arms arms
    through_statement (guarded_do arms) = rounds_rows arms + through_arms arms
    through_statement abort = 1
    through_statement (declare i e) = 4 + through_size e
    through_statement (give_back value) = 2 + through_part through_size value

    pub through_arms : Arms → ℕ
    through_arms no_arm = 0
    through_arms (arm e s arms) = 5 + through_size e + through_statement s + through_arms arms

    pub through_items : Items → ℕ
    through_items none = 0
    through_items (s then is) = through_statement s + through_items is
    through_items (m here is) = 1 + through_items is
    through_items (define f words body is) = through_items is

  unfoldable pub through_program : Items → ℕ
  through_program none = through_items none
  through_program (s then is) = through_items (s then is)
  through_program (m here is) = through_items (m here is)
  through_program (define f words body is) = 2 + length words + through_items body + through_program is

  unfoldable mutual
    pub through_statement_levels : Statement → ℕ
    through_statement_levels empty = 0
    through_statement_levels (express e) = through_levels e
    through_statement_levels (block is) = through_items_levels is
    through_statement_levels (if_then e on_true) = max (through_levels e) (through_statement_levels on_true)
    through_statement_levels (if_else e on_true on_false) = max (through_levels e) (max (through_statement_levels on_true) (through_statement_levels on_false))
    through_statement_levels (while e body) = max (through_levels e) (through_statement_levels body)
    through_statement_levels (do_while body e) = max (through_levels e) (through_statement_levels body)
    through_statement_levels (for first test action body) = max (max (through_part through_levels first) (through_part through_levels test)) (max (through_part through_levels action) (through_statement_levels body))
    through_statement_levels (switch e is) = max (taken (through_atom e) + 1) (max (through_levels e) (through_items_levels is))
    through_statement_levels break = 0
    through_statement_levels continue = 0
    through_statement_levels (goto l) = 0
    through_statement_levels (guarded_if arms) = through_arms_levels arms
    through_statement_levels (guarded_do arms) = through_arms_levels arms
    through_statement_levels abort = 0
    through_statement_levels (declare i e) = through_levels e
    through_statement_levels (give_back value) = through_part through_levels value

    pub through_arms_levels : Arms → ℕ
    through_arms_levels no_arm = 0
    through_arms_levels (arm e s arms) = max (through_levels e) (max (through_statement_levels s) (through_arms_levels arms))

    pub through_items_levels : Items → ℕ
    through_items_levels none = 0
    through_items_levels (s then is) = max (through_statement_levels s) (through_items_levels is)
    through_items_levels (m here is) = through_items_levels is
    through_items_levels (define f words body is) = through_items_levels is

  unfoldable pub through_program_levels : Items → ℕ
  through_program_levels none = through_items_levels none
  through_program_levels (s then is) = through_items_levels (s then is)
  through_program_levels (m here is) = through_items_levels (m here is)
  through_program_levels (define f words body is) = through_items_levels body + through_program_levels is
