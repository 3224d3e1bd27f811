-- Rows: what is done at a row of a table, with the arrays at these bounds.
use Rattle.std.specs.Prelude.{List, ℕ, ℤ}
use Rattle.words.specs.Layout.{Layout}
use Rattle.computation.specs.Computation.{Computation}
use Rattle.language.specs.Decode.{place_of, expression_at}
use Rattle.language.specs.Meaning.{enter, Context, evaluate, locate, value}
use Rattle.language.specs.Functions.{context_of}
use Rattle.language.specs.Program.{contents}
use Rattle.machine_operations.specs.Bounds.{layout_in}

-- What the trees of a table are read in: a call's number is one of the functions that the table defines.
abbrev pub context_in : Layout → List ℤ → Context
context_in L rows = context_of L (contents rows)

abbrev pub context_at : List ℤ → List ℕ → Context
context_at rows bounds = context_in (layout_in rows bounds) rows

module _ (rows : List ℤ) (bounds : List ℕ) (row : ℕ) where
  -- The expression at the row: its value; and what follows the entry of the row.
  abbrev pub value_at : Computation ℤ
  value_at = value (context_at rows bounds) (expression_at rows row)

  abbrev pub evaluate_at : Computation ℤ
  evaluate_at = evaluate (context_at rows bounds) (expression_at rows row)

  -- The place at the row: its store position; and what follows the entry of the row.
  abbrev pub locate_at : Computation ℕ
  locate_at = locate (context_at rows bounds) (place_of (expression_at rows row))

  abbrev pub place_at : Computation ℕ
  place_at = enter locate_at
