-- `in_language` asks whether the form is among the forms of the kind.
use mathlib.Core.Path.{ap, ◌∙◌}
use Prim.Native.Nat.{ℕ}
use lib.Dec.{leb}
use borrow.Author.Rules.{rules}
use Rattle.words.specs.Kinds.{between}
use Rattle.check_grammar.specs.GrammarLaws.{source-forms, kernel-forms}
use Rattle.check_grammar.proofs.kinds.KindTable.in_language.Goals as goal

pub returns-in-Source : goal.returns-in-Source
returns-in-Source c =
    rw c.in-Source.is (c.source_has.ensures ∙ ap (λ (forms : ℕ). between 1 2 forms) c.forms_of-forms.ensures ∙ source-forms _)

pub returns-in-Kernel : goal.returns-in-Kernel
returns-in-Kernel c =
    rw c.in-Kernel.is (ap (λ (forms : ℕ). leb 2 forms) c.forms_of-forms.ensures ∙ kernel-forms _)
