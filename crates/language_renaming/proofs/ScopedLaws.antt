-- Laws of scope: what is in scope stays so where more words are known. By induction on the tree.
use Rattle.std.proofs.Common.{inl, inr}
use Rattle.std.specs.Prelude.{ℕ, None, Option, Some}
use Rattle.computation.specs.Agreement.{Words, ◌within◌}
use Rattle.language.specs.Trees.{Expression, constant, read, minus, not, binary, and, or, comma, conditional, assign, compound, prefix, postfix, call, Place, variable, element, Arguments, no_more, ◌also◌, Part, absent, present, Statement, empty, express, block, if_then, if_else, while, do_while, for, switch, break, continue, goto, guarded_if, guarded_do, abort, declare, give_back, Arms, no_arm, arm, Items, none, ◌then◌, ◌here◌, define}
use Rattle.language.specs.WellFormed.{NamedExpression, NamedPlace, NamedArguments, NamedPart}
use Rattle.language_renaming.specs.Scoped.{declared, behind, Scoped, ScopedArms, ScopedItems}

behind_more : {P Q : Words} → P within Q → (own : Option ℕ) → behind P own within behind Q own
unfolding behind
behind_more h None i p = h i p
behind_more h (Some word) i (inl p) = inl (h i p)
behind_more h (Some word) i (inr e) = inr e

module _ (arrays : ℕ) where
  mutual
    unfolding NamedExpression

    named_more : {P Q : Words} → P within Q → (e : Expression) → NamedExpression P arrays e → NamedExpression Q arrays e
    named_more h (constant v) n = tt
    named_more h (read p) n = place-more h p n
    named_more h (minus e) n = named_more h e n
    named_more h (not e) n = named_more h e n
    named_more h (binary o a b) n = (named_more h a n.0, named_more h b n.1)
    named_more h (and a b) n = (named_more h a n.0, named_more h b n.1)
    named_more h (or a b) n = (named_more h a n.0, named_more h b n.1)
    named_more h (comma a b) n = (named_more h a n.0, named_more h b n.1)
    named_more h (conditional c a b) n = (named_more h c n.0, named_more h a n.1, named_more h b n.2)
    named_more h (assign p e) n = (place-more h p n.0, named_more h e n.1)
    named_more h (compound o p e) n = (place-more h p n.0, named_more h e n.1)
    named_more h (prefix o p) n = place-more h p n
    named_more h (postfix o p) n = place-more h p n
    named_more h (call f arguments) n = arguments-more h arguments n

    place-more : {P Q : Words} → P within Q → (p : Place) → NamedPlace P arrays p → NamedPlace Q arrays p
    place-more h (variable i) n = h i n
    place-more h (element array e) n = (n.0, named_more h e n.1)

    arguments-more : {P Q : Words} → P within Q → (arguments : Arguments) → NamedArguments P arrays arguments → NamedArguments Q arrays arguments
    arguments-more h no_more n = tt
    arguments-more h (e also arguments) n = (named_more h e n.0, arguments-more h arguments n.1)

  part-more : {P Q : Words} → P within Q → (p : Part) → NamedPart P arrays p → NamedPart Q arrays p
  part-more h absent n = tt
  part-more h (present e) n = named_more h e n

  module _ (All : Words) where
    mutual
      unfolding Scoped

      scoped_more : {P Q : Words} → P within Q → (s : Statement) → Scoped All arrays P s → Scoped All arrays Q s
      scoped_more h empty n = tt
      scoped_more h (express e) n = named_more h e n
      scoped_more h (block is) n = items_more h is n
      scoped_more h (if_then e on_true) n = (named_more h e n.0, scoped_more h on_true n.1)
      scoped_more h (if_else e on_true on_false) n = (named_more h e n.0, scoped_more h on_true n.1, scoped_more h on_false n.2)
      scoped_more h (while e body) n = (named_more h e n.0, scoped_more h body n.1)
      scoped_more h (do_while body e) n = (scoped_more h body n.0, named_more h e n.1)
      scoped_more h (for first test action body) n = (part-more h first n.0, part-more h test n.1, part-more h action n.2, scoped_more h body n.3)
      scoped_more h (switch e is) n = (named_more h e n.0, items_more h is n.1)
      scoped_more h break n = tt
      scoped_more h continue n = tt
      scoped_more h (goto l) n = tt
      scoped_more h (guarded_if arms) n = arms_more h arms n
      scoped_more h (guarded_do arms) n = arms_more h arms n
      scoped_more h abort n = tt
      scoped_more h (declare word e) n = (n.0, named_more h e n.1)
      scoped_more h (give_back value) n = part-more h value n

      arms_more : {P Q : Words} → P within Q → (arms : Arms) → ScopedArms All arrays P arms → ScopedArms All arrays Q arms
      arms_more h no_arm n = tt
      arms_more h (arm guard body arms) n = (named_more h guard n.0, scoped_more h body n.1, arms_more h arms n.2)

      pub items_more : {P Q : Words} → P within Q → (is : Items) → ScopedItems All arrays P is → ScopedItems All arrays Q is
      items_more h none n = tt
      items_more h (s then is) n = (scoped_more h s n.0, n.1, items_more (behind_more h (declared s)) is n.2)
      items_more h (m here is) n = items_more h is n
      items_more h (define f words body is) n = items_more h is n
