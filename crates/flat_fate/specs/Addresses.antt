-- Addresses: the line that each label of a kernel tree stands before, and the flat list of a tree.
use Rattle.std.specs.Prelude.{List, ℕ, ◌+◌, eqb}
use Rattle.words.specs.Word.{pick}
use Rattle.language.specs.Trees.{label, case, default, Statement, empty, express, block, if_then, if_else, while, do_while, for, switch, break, continue, goto, guarded_if, guarded_do, abort, declare, Items, none, ◌then◌, ◌here◌, give_back, define}
use Rattle.flat.specs.Lines.{FlatLine}
use Rattle.flat_fate.specs.Code.{operand_of, always, statement_lines, items_code}
use Rattle.flat_fate.specs.Branches.{first_at, second_at, body_at}

-- The address of the label l in a tree whose lines begin at line i; `other` where the tree does not have it. A later label wins, as in a
-- table that is written in the order of the lines.
unfoldable mutual
  pub statement_address : ℕ → Statement → ℕ → ℕ → ℕ
  statement_address l empty i other = other
  statement_address l (express e) i other = other
  statement_address l (block is) i other = items_address l is i other
  statement_address l (if_then e on_true) i other = other
  statement_address l (if_else e on_true on_false) i other =
      statement_address l on_false (second_at (statement_lines on_true) (statement_lines on_false) i) (statement_address l on_true (first_at (statement_lines on_true) (statement_lines on_false) i) other)
  statement_address l (while e body) i other = statement_address l body (body_at (always (operand_of e)) i) other
  statement_address l (do_while body e) i other = other
  statement_address l (for first test action body) i other = other
  statement_address l (switch e is) i other = other
  statement_address l break i other = other
  statement_address l continue i other = other
  statement_address l (goto k) i other = other
  statement_address l (guarded_if arms) i other = other
  statement_address l (guarded_do arms) i other = other
  statement_address l abort i other = other
  statement_address l (declare word e) i other = other
  statement_address l (give_back value) i other = other

  pub items_address : ℕ → Items → ℕ → ℕ → ℕ
  items_address l none i other = other
  items_address l (s then is) i other = items_address l is (i + statement_lines s) (statement_address l s i other)
  items_address l (case v here is) i other = items_address l is i other
  items_address l (default here is) i other = items_address l is i other
  items_address l (label k here is) i other = items_address l is i (pick (eqb l k) i other)
  items_address l (define f words body is) i other = items_address l is i other

abbrev pub address_in : Items → ℕ → ℕ
address_in contents l = items_address l contents 0 0

unfoldable pub flat_of : Items → List FlatLine
flat_of contents = items_code (address_in contents) contents 0
