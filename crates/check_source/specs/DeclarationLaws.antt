-- Laws of declarations: a legal source program has at most 64.
use Rattle.std.specs.Prelude.{List, ◌≤◌, ℤ}
use Rattle.words.specs.Declarations.{declaration_count, declaration_limit}
use Rattle.check_source.specs.Legal.{Legal}

-- "There are D of them, at most 64."
pub legal-declarations : (header rows : List ℤ) → Legal header rows → declaration_count rows ≤ declaration_limit
legal-declarations header rows legal = legal.well_declared.few_declarations
