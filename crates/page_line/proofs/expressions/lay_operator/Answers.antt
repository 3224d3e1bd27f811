-- `lay_operator`: one byte or two.
use native.Mathlib.Omega.{arith}
use mathlib.Core.Path.{sym, ap, ◌∙◌}
use mathlib.Core.List.{◌∷◌, []}
use Prim.Native.Nat.{ℕ}
use lib.ListN.{length}
use Rattle.page_line.specs.LaidLaws.{laid_as, laid_next, laid-length}
use Rattle.page_line.specs.ContentLaws.{two_bytes, one_byte, operator-some}
use Rattle.page_line.proofs.expressions.lay_operator.Goals as goal

pub lay_byte-first-requires : goal.lay_byte-first-requires
lay_byte-first-requires c =
    omega (arith, c.requires, operator-some c.args.operator)

pub lay_byte-requires : goal.lay_byte-requires
lay_byte-requires c =
    omega (arith, ap length (two_bytes c.args.operator (sym c.is_two_bytes-two.ensures ∙ c.if-two.true)), c.lay_byte-first.ensures.reached, laid-length c.lay_byte-first.ensures, c.requires)

pub returns-then-two : goal.returns-then-two
returns-then-two c =
    laid_as (two_bytes c.args.operator (sym c.is_two_bytes-two.ensures ∙ c.if-two.true)) (laid_next (laid_as (ap (λ (b : ℕ). b ∷ []) c.operator_byte.ensures) c.lay_byte-first.ensures) c.lay_byte.ensures)

pub returns : goal.returns
returns c =
    laid_as (ap (λ (b : ℕ). b ∷ []) c.operator_byte.ensures ∙ one_byte c.args.operator (sym c.is_two_bytes-two.ensures ∙ c.if-two.false)) c.lay_byte-first.ensures
