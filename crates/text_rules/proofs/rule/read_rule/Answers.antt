-- `read_rule`: the length, then cause 14 by the shape, the rest by `lines_rule`.
use Rattle.std.specs.Prelude.{◌≡◌, Ok}
use Rattle.std.proofs.Common.{◌∙◌}
use borrow.Author.Rules.{rules}
use Rattle.text_form.proofs.ReaderLaws.{err-is, mapped-ok, mapped-malformed}
use Rattle.text_rules.proofs.Within.{long-rule, short-rule, malformed-rule}
use Rattle.text_rules.proofs.rule.read_rule.Goals as goal

pub returns-then-text-gt16384 : goal.returns-then-text-gt16384
returns-then-text-gt16384 c = long-rule c.args.text.now c.if-text-gt16384.true

pub lines_rule-requires : goal.lines_rule-requires
lines_rule-requires c =
    let shape : c.shape_of.result ≡ Ok (c.in_ok-end.end, c.in_ok-end.numbers, c.in_ok-end.row_words) = mapped-ok c.shape_of.result _ _ _ c.map_err.ensures.cases c.in_ok-end.was in
    record { has_lines = rw shape at c.shape_of.ensures; header_len = c.requires.header_len; rows_len = c.requires.rows_len }

pub returns-in_err-end : goal.returns-in_err-end
returns-in_err-end c =
    let bad = mapped-malformed c.shape_of.result c.map_err.result _ c.in_err-end.field-0.0 c.map_err.ensures.cases c.in_err-end.was (λ e d k. search rules) in
    rw (err-is _ _ c.from_residual.ensures.1, bad.2) (short-rule c.args.text.now c.if-text-gt16384.false ∙ malformed-rule c.args.text.now _ (rw bad.1 at c.shape_of.ensures))

pub returns : goal.returns
returns c = rw (short-rule c.args.text.now c.if-text-gt16384.false) c.lines_rule.ensures
