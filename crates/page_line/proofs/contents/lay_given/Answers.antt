-- `lay_given`: a return without an expression has no bytes.
use mathlib.Core.Path.{ap}
use mathlib.Core.List.{List}
use Prim.Native.Nat.{ℕ}
use Rattle.language.specs.Trees.{give_back}
use Rattle.language.specs.Decode.{part_at}
use Rattle.page.specs.Page.{single_words, parted}
use Rattle.page_line.specs.LaidLaws.{laid_as, laid-nothing}
use Rattle.page_line.specs.ContentLaws.{given-bytes}
use Rattle.page_line.proofs.contents.lay_given.Goals as goal
use Rattle.page_line.proofs.contents.lay_given.Goals.{Start}

abbrev bytes : Start → ℕ → List ℕ
bytes c value = parted (single_words c.args.sizes (give_back (part_at c.args.rows.now value)))

pub returns-then-value-eq0 : goal.returns-then-value-eq0
unfolding parted
returns-then-value-eq0 c =
    laid-nothing _ _ _ (ap (bytes (goal.at.returns-then-value-eq0 c).Start) c.if-value-eq0.true) c.requires.value_in_bounds

pub lay_return-requires : goal.lay_return-requires
lay_return-requires c =
    record { readable = c.requires.readable; row_in_bounds = rw (← given-bytes c.args.sizes c.args.rows.now c.args.value c.if-value-eq0.false) at c.requires.value_in_bounds }

pub returns : goal.returns
returns c =
    laid_as (given-bytes c.args.sizes c.args.rows.now c.args.value c.if-value-eq0.false) c.lay_return.ensures
