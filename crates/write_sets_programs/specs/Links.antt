-- Links: the links of an expression, by its shape: up to three expressions, the place that it stores to, and the first argument of a call. 0 is
-- absent.
use Rattle.std.specs.Prelude.{ℕ}
use Rattle.language_shapes.specs.declared.PlaceShape.{PlaceShape}
use Rattle.language_shapes.specs.declared.PlaceShape.TheVariants.{Variable, Element}
use Rattle.language_shapes.specs.declared.OperationShape.{OperationShape}
use Rattle.language_shapes.specs.declared.OperationShape.TheVariants.{Minus, Not, Binary, Comma, Assign, Compound, Prefix, Postfix}
use Rattle.language_shapes.specs.declared.ChoiceShape.{ChoiceShape}
use Rattle.language_shapes.specs.declared.ChoiceShape.TheVariants.{And, Or, Conditional}
use Rattle.language_shapes.specs.declared.ExpressionShape.{ExpressionShape}
use Rattle.language_shapes.specs.declared.ExpressionShape.TheVariants.{Number, Read, Operation, Choice, Call}
use Rattle.write_sets_programs.specs.declared.Links.{Links}

abbrev pub links_to : ℕ → ℕ → ℕ → ℕ → Links
links_to first second third place = record { first = first; second = second; third = third; place = place; arguments = 0 }

abbrev pub read_links : PlaceShape → Links
read_links (Variable i) = links_to 0 0 0 0
read_links (Element array index) = links_to index 0 0 0

abbrev pub operation_links : OperationShape → Links
operation_links (Minus a) = links_to a 0 0 0
operation_links (Not a) = links_to a 0 0 0
operation_links (Binary operator a b) = links_to a b 0 0
operation_links (Comma a b) = links_to a b 0 0
operation_links (Assign p e) = links_to e 0 0 p
operation_links (Compound operator p e) = links_to e 0 0 p
operation_links (Prefix operator p) = links_to 0 0 0 p
operation_links (Postfix operator p) = links_to 0 0 0 p

abbrev pub choice_links : ChoiceShape → Links
choice_links (And a b) = links_to a b 0 0
choice_links (Or a b) = links_to a b 0 0
choice_links (Conditional c a b) = links_to c a b 0

abbrev pub links_of : ExpressionShape → Links
links_of (Number v) = links_to 0 0 0 0
links_of (Read p) = read_links p
links_of (Operation o) = operation_links o
links_of (Choice c) = choice_links c
links_of (Call f arguments) = record { first = 0; second = 0; third = 0; place = 0; arguments = arguments }
