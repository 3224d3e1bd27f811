-- `lay_value`: by what stands at the row.
use mathlib.Core.Path.{sym, ap}
use lib.IntN.{ℤ}
use Rattle.words.specs.Laws.{back}
use mathlib.Core.Path.{◌∙◌}
use mathlib.Core.List.{List, ◌∷◌}
use Prim.Native.Nat.{ℕ}
use Rattle.text_numbers.specs.Number.{number_bytes}
use Rattle.language.specs.Trees.{Expression}
use Rattle.language.specs.Decode.{argument_list_at}
use Rattle.page.specs.Page.{blank, semicolon, ended_by, ended, value_words, parted}
use Rattle.page_line.specs.Contents.{led}
use Rattle.page_line.specs.LaidLaws.{laid_as, laid_of, laid-nothing}
use Rattle.page_line.specs.ReadsLaws.{read_as}
use Rattle.page_line.specs.ContentLaws.{called-bytes, no-value-chosen}
use Rattle.page_line.proofs.expressions.lay_value.Goals as goal
use Rattle.page_line.proofs.expressions.lay_value.Goals.{Start}

abbrev bytes : Start → Expression → List ℕ
bytes c e = led (ended (value_words c.args.sizes e))

pub lay_constant_value-requires : goal.lay_constant_value-requires
unfolding ended parted
lay_constant_value-requires c =
    let f = read_as c.expression_at-shape.ensures.0 c.in-Number.is in
    rw (back c.in-Number.value c.in-Number.known_told-1-own.given.0.1) (rw f.is at c.requires.row_in_bounds)

pub lay_read_value-requires : goal.lay_read_value-requires
unfolding ended parted
lay_read_value-requires c =
    let f = read_as c.expression_at-shape.ensures.0 c.in-Read.is in
    record { readable = (c.requires.readable.0, f.inside); place_in_bounds = rw f.is at c.requires.row_in_bounds }

pub lay_operation-requires : goal.lay_operation-requires
lay_operation-requires c =
    let f = read_as c.expression_at-shape.ensures.0 c.in-Operation.is in
    record { readable = (c.requires.readable.0, f.inside); operation_in_bounds = rw f.is at c.requires.row_in_bounds }

pub lay_called-requires : goal.lay_called-requires
lay_called-requires c =
    let f = read_as c.expression_at-shape.ensures.0 c.in-Call.is in
    record { readable = (c.requires.readable.0, f.inside); arguments_in_bounds = rw (f.is, ← called-bytes c.args.sizes c.in-Call.number (argument_list_at c.args.rows.now c.in-Call.arguments)) at c.requires.row_in_bounds }

pub returns-in-Number : goal.returns-in-Number
unfolding ended parted
returns-in-Number c =
    let f = read_as c.expression_at-shape.ensures.0 c.in-Number.is in
    laid_of (bytes (goal.at.returns-in-Number c).Start) f.is (laid_of (λ (z : ℤ). blank ∷ ended_by semicolon (number_bytes z)) (sym (back c.in-Number.value c.in-Number.known_told-1-own.given.0.1)) c.lay_constant_value.ensures)

pub returns-in-Read : goal.returns-in-Read
unfolding ended parted
returns-in-Read c =
    let f = read_as c.expression_at-shape.ensures.0 c.in-Read.is in
    laid_of (bytes (goal.at.returns-in-Read c).Start) f.is c.lay_read_value.ensures

pub returns-in-Operation : goal.returns-in-Operation
returns-in-Operation c =
    let f = read_as c.expression_at-shape.ensures.0 c.in-Operation.is in
    laid_of (bytes (goal.at.returns-in-Operation c).Start) f.is c.lay_operation.ensures

pub returns-in-Choice : goal.returns-in-Choice
returns-in-Choice c =
    let f = read_as c.expression_at-shape.ensures.0 c.in-Choice.is in
    laid-nothing _ _ _ (ap (bytes (goal.at.returns-in-Choice c).Start) f.is ∙ no-value-chosen c.args.sizes c.args.rows.now c.in-Choice.field-0) c.requires.row_in_bounds

pub returns-in-Call : goal.returns-in-Call
returns-in-Call c =
    let f = read_as c.expression_at-shape.ensures.0 c.in-Call.is in
    laid_of (bytes (goal.at.returns-in-Call c).Start) f.is (laid_as (called-bytes c.args.sizes c.in-Call.number (argument_list_at c.args.rows.now c.in-Call.arguments)) c.lay_called.ensures)
