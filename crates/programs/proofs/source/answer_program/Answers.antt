-- `answer_program`: the check accepted the program.
use mathlib.Core.Path.{sym, ◌∙◌}
use borrow.Author.Rules.{rules}
use Rattle.programs.proofs.source.answer_program.Goals as goal

pub answer_accepted-requires : goal.answer_accepted-requires
answer_accepted-requires g c = sym c.check-verdict.ensures.value ∙ c.in-Ok.is
