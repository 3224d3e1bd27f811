-- `placed_word`: a link, a function's number, or a word that stays.
use mathlib.Core.Path.{sym, ◌∙◌, ap}
use Prim.Native.Nat.{ℕ, ◌+◌}
use native.Mathlib.Omega.{arith}
use lib.IntN.{pos}
use mir.Syntax.{w32}
use mir.Facts.{to_z_pos}
use borrow.Author.Tests.{eq-eqb}
use Rattle.words.specs.Laws.{back}
use Rattle.words.specs.Kinds.{is_link}
use Rattle.join_rows.specs.RowLaws.{word-linked, word-numbered, word_kept}
use Rattle.join_rows.specs.Standings.{placement_of}
use Rattle.join_rows.proofs.placed.Placed.placed_word.Goals as goal

pub returns-then-is_link : goal.returns-then-is_link
returns-then-is_link c =
    to_z_pos w32 (omega (arith, c.placed_link.ensures.1)) ∙ ap pos c.placed_link.ensures.0 ∙ word-linked (placement_of c.args.self.now.standing) c.args.self.now.rows.now c.args.row c.args.field (ap is_link (sym c.sort_at-sort.ensures) ∙ sym c.is_link.ensures ∙ c.if-is_link.true)

pub overflow_add-result : goal.overflow_add-result
overflow_add-result c =
    omega (arith, c.number_at.ensures, c.args.self.now.ready.numbers c.args.row c.args.field c.requires.0 c.requires.1 (eq-eqb _ _ (sym c.sort_at-sort.ensures ∙ c.if-sort-eq-FUNCTION.true)), c.args.self.now.ready.small.2)

pub overflow_cast-result-then-sort-eq-FUNCTION : goal.overflow_cast-result-then-sort-eq-FUNCTION
overflow_cast-result-then-sort-eq-FUNCTION c =
    record { sfits = omega (arith, c.number_at.ensures, c.args.self.now.ready.numbers c.args.row c.args.field c.requires.0 c.requires.1 (eq-eqb _ _ (sym c.sort_at-sort.ensures ∙ c.if-sort-eq-FUNCTION.true)), c.args.self.now.ready.small.2) }

pub returns-then-sort-eq-FUNCTION : goal.returns-then-sort-eq-FUNCTION
returns-then-sort-eq-FUNCTION c =
    to_z_pos w32 (omega (arith, c.number_at.ensures, c.args.self.now.ready.numbers c.args.row c.args.field c.requires.0 c.requires.1 (eq-eqb _ _ (sym c.sort_at-sort.ensures ∙ c.if-sort-eq-FUNCTION.true)), c.args.self.now.ready.small.2)) ∙ ap (λ (n : ℕ). pos (c.args.self.now.standing.functions + n)) c.number_at.ensures ∙ word-numbered (placement_of c.args.self.now.standing) c.args.self.now.rows.now c.args.row c.args.field (ap is_link (sym c.sort_at-sort.ensures) ∙ sym c.is_link.ensures ∙ c.if-is_link.false) (sym c.sort_at-sort.ensures ∙ c.if-sort-eq-FUNCTION.true)

pub returns : goal.returns
returns c =
    back _ c.word_at.type_inv ∙ c.word_at.ensures ∙ word_kept (placement_of c.args.self.now.standing) c.args.self.now.rows.now c.args.row c.args.field (ap is_link (sym c.sort_at-sort.ensures) ∙ sym c.is_link.ensures ∙ c.if-is_link.false) (λ q. c.if-sort-eq-FUNCTION.false (c.sort_at-sort.ensures ∙ q))
