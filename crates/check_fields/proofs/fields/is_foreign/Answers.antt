-- `is_foreign` makes its definition's tests, the word before its sort.
use mathlib.Core.Bool.{not, and-false, and-true}
use mathlib.Core.Path.{sym, ap, ◌∙◌}
use lib.Dec.{eqb}
use borrow.Author.Tests.{eq-eqb, ne_eqb}
use Rattle.words.specs.Table.{number_at}
use Rattle.words.specs.Kinds.{unused, sort_at, in_language}
use Rattle.check_fields.specs.Fields.{foreign}
use borrow.Author.Rules.{rules}
use Rattle.check_fields.proofs.fields.is_foreign.Goals as goal

pub returns-then-field-eq0 : goal.returns-then-field-eq0
unfolding foreign
returns-then-field-eq0 c =
    let start = c.before.before.before in
    let first = c.if-field-eq0.true in
    let kind = c.number_at-number.ensures ∙ ap (number_at start.args.rows.now start.args.row) first in
    rw (eq-eqb _ _ first) (ap not (c.in_language.ensures ∙ ap (in_language start.args.form) kind))

pub returns-then-number-eq0 : goal.returns-then-number-eq0
unfolding foreign
returns-then-number-eq0 c =
    let start = c.before.before.before in
    rw (ne_eqb _ _ c.if-field-eq0.false, ← c.number_at-number.ensures, eq-eqb _ _ c.if-number-eq0.true) (sym (and-false (eqb (sort_at start.args.rows.now start.args.row start.args.field) unused)))

pub returns : goal.returns
unfolding foreign
returns c =
    rw (ne_eqb _ _ c.if-field-eq0.false, ← c.number_at-number.ensures, ne_eqb _ _ c.if-number-eq0.false, ← c.sort_at.ensures) (sym (and-true _))
