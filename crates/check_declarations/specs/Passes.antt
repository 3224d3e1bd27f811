-- Passes: which test each cause makes, and what it looks up of a row.
use Rattle.std.specs.Prelude.{Bool, List, ℕ, ℤ}
use Rattle.words.specs.Declarations.{is_declaration, declarations_before}
use Rattle.check_items.specs.Items.{item_at, earlier_at}
use Rattle.check_parameter_causes.specs.Parameters.{body_at, declared_as_parameter}
use Rattle.check_declaration_causes.specs.Causes.{outside_block, names_itself, declared_before, one_too_many}
use Rattle.check_declarations.specs.declared.DeclarationFault.{DeclarationFault}
use Rattle.check_declarations.specs.declared.DeclarationFault.TheVariants.{OutsideBlock, NamesItself, DeclaredBefore, DeclaredAsParameter, OneTooMany}

unfoldable pub breaks : DeclarationFault → List ℤ → ℕ → Bool
breaks OutsideBlock rows row = outside_block rows row
breaks NamesItself rows row = names_itself rows row
breaks DeclaredBefore rows row = declared_before rows row
breaks DeclaredAsParameter rows row = declared_as_parameter rows row
breaks OneTooMany rows row = one_too_many rows row

-- Of a row; a cause that looks up nothing takes the counts too.
unfoldable pub looked_up : DeclarationFault → List ℤ → ℕ → ℕ
looked_up OutsideBlock rows row = item_at rows 42 1 row
looked_up NamesItself rows row = declarations_before rows row
looked_up DeclaredBefore rows row = earlier_at (is_declaration rows) rows row
looked_up DeclaredAsParameter rows row = body_at rows row
looked_up OneTooMany rows row = declarations_before rows row
