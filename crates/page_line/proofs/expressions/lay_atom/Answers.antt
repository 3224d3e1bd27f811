-- `lay_atom`: by what stands at the row; what is no atom has no bytes.
use mathlib.Core.Path.{sym, ap}
use Rattle.words.specs.Laws.{back}
use mathlib.Core.Path.{◌∙◌}
use Rattle.text_numbers.specs.Number.{number_bytes}
use Rattle.page.specs.Page.{atom_word}
use Rattle.language_shapes.specs.declared.ExpressionShape.TheVariants.{Read}
use Rattle.page_line.specs.LaidLaws.{laid_of, laid-nothing}
use Rattle.page_line.specs.ReadsLaws.{read_as}
use Rattle.page_line.specs.ContentLaws.{no-atom, no-atom-chosen}
use Rattle.page_line.proofs.expressions.lay_atom.Goals as goal

pub lay_constant-requires : goal.lay_constant-requires
lay_constant-requires c =
    let f = read_as c.expression_at-shape.ensures.0 c.in-Number.is in
    rw (back c.in-Number.value c.in-Number.known_told-1-own.given.0.1) (rw f.is at c.requires.row_in_bounds)

pub lay_name-requires : goal.lay_name-requires
lay_name-requires c =
    let f = read_as c.expression_at-shape.ensures.0 (c.in-Read.is ∙ ap Read c.in-Variable.is) in
    rw f.is at c.requires.row_in_bounds

pub returns-in-Number : goal.returns-in-Number
returns-in-Number c =
    let f = read_as c.expression_at-shape.ensures.0 c.in-Number.is in
    laid_of (atom_word c.args.sizes) f.is (laid_of number_bytes (sym (back c.in-Number.value c.in-Number.known_told-1-own.given.0.1)) c.lay_constant.ensures)

pub returns-in-Variable : goal.returns-in-Variable
returns-in-Variable c =
    let f = read_as c.expression_at-shape.ensures.0 (c.in-Read.is ∙ ap Read c.in-Variable.is) in
    laid_of (atom_word c.args.sizes) f.is c.lay_name.ensures

pub returns-in-Element : goal.returns-in-Element
returns-in-Element c =
    let f = read_as c.expression_at-shape.ensures.0 (c.in-Read.is ∙ ap Read c.in-Element.is) in
    laid-nothing _ _ _ (ap (atom_word c.args.sizes) f.is) c.requires.row_in_bounds

pub returns-in-Operation : goal.returns-in-Operation
returns-in-Operation c =
    let f = read_as c.expression_at-shape.ensures.0 c.in-Operation.is in
    laid-nothing _ _ _ (ap (atom_word c.args.sizes) f.is ∙ no-atom c.args.sizes c.args.rows.now c.in-Operation.field-0) c.requires.row_in_bounds

pub returns-in-Choice : goal.returns-in-Choice
returns-in-Choice c =
    let f = read_as c.expression_at-shape.ensures.0 c.in-Choice.is in
    laid-nothing _ _ _ (ap (atom_word c.args.sizes) f.is ∙ no-atom-chosen c.args.sizes c.args.rows.now c.in-Choice.field-0) c.requires.row_in_bounds

pub returns-in-Call : goal.returns-in-Call
returns-in-Call c =
    let f = read_as c.expression_at-shape.ensures.0 c.in-Call.is in
    laid-nothing _ _ _ (ap (atom_word c.args.sizes) f.is) c.requires.row_in_bounds
