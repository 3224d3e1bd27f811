-- `counted` makes one test.
use native.Mathlib.Omega.{arith}
use Rattle.words.proofs.declarations.counted.Goals as goal

pub returns-then-is_declaration : goal.returns-then-is_declaration
returns-then-is_declaration c =
    rw (← c.is_declaration.ensures, c.if-is_declaration.true)

pub returns : goal.returns
returns c =
    rw (← c.is_declaration.ensures, c.if-is_declaration.false) (omega arith)
