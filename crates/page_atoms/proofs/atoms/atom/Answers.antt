-- `atom`: by its first byte: a variable, a declared word, a temporary, or else a constant.
use mathlib.Core.Path.{ap, ◌∙◌}
use Rattle.words.specs.OverLaws.{rest_of}
use Rattle.std.specs.Option.{option_map}
use Rattle.page_words.specs.declared.PageAtom.TheVariants.{Constant, Variable, Declared, Temporary}
use Rattle.page_words.specs.Reads.{number_read}
use Rattle.page_atoms.proofs.Mapped.{mapped}
use Rattle.page_words.proofs.FirstBytes.{atom-none, atom-variable, atom-declared, atom-temporary, atom-constant}
use borrow.Author.Rules.{rules}
use Rattle.page_atoms.proofs.atoms.atom.Goals as goal

pub returns-then-word-eq0 : goal.returns-then-word-eq0
returns-then-word-eq0 c =
    atom-none _ _ c.if-word-eq0.true

pub returns-then-first-eq118 : goal.returns-then-first-eq118
returns-then-first-eq118 c =
    mapped Variable c.number_below.result c.map.result _ c.map.ensures.cases (λ x y k. search rules) ∙ ap (option_map Variable) (c.number_below.ensures ∙ ap (number_read _) (rest_of c.args.word.now 1)) ∙ atom-variable _ _ c.if-word-eq0.false c.if-first-eq118.true

pub returns-then-first-eq108 : goal.returns-then-first-eq108
returns-then-first-eq108 c =
    mapped Declared c.number_below-then-first-eq108.result c.map-then-first-eq108.result _ c.map-then-first-eq108.ensures.cases (λ x y k. search rules) ∙ ap (option_map Declared) (c.number_below-then-first-eq108.ensures ∙ ap (number_read _) (rest_of c.args.word.now 1)) ∙ atom-declared _ _ c.if-word-eq0.false c.if-first-eq108.true

pub returns-then-first-eq116 : goal.returns-then-first-eq116
returns-then-first-eq116 c =
    mapped Temporary c.number_below-then-first-eq116.result c.map-then-first-eq116.result _ c.map-then-first-eq116.ensures.cases (λ x y k. search rules) ∙ ap (option_map Temporary) (c.number_below-then-first-eq116.ensures ∙ ap (number_read _) (rest_of c.args.word.now 1)) ∙ atom-temporary _ _ c.if-word-eq0.false c.if-first-eq116.true

pub returns : goal.returns
returns c =
    mapped Constant c.number.result c.map-2.result _ c.map-2.ensures.cases (λ x y k. search rules) ∙ ap (option_map Constant) c.number.ensures ∙ atom-constant _ _ c.if-word-eq0.false c.if-first-eq118.false c.if-first-eq108.false c.if-first-eq116.false
