-- Uses: what becomes of the value of an expression, by the text around it.
use Rattle.std.specs.Prelude.{Bool, true, false}
use Rattle.language.specs.Trees.{Expression, constant, read, minus, not, binary, and, or, comma, conditional, assign, compound, prefix, postfix, call, Place, variable, element}
use Rattle.translation.specs.declared.Use.{Use}
use Rattle.translation.specs.declared.Use.TheVariants.{Dropped as dropped, Wanted as wanted, Stored as stored}

-- The use of an assignment's right side, by its place: what is stored in an element waits for the index.
abbrev pub use_for : Place → Use
use_for (variable i) = stored i
use_for (element array e) = wanted

-- The use of a comma's right side is the comma's; but a comma is no operation, so what it gives is not stored at once.
abbrev pub passed_on : Use → Use
passed_on dropped = dropped
passed_on wanted = wanted
passed_on (stored i) = wanted

abbrev pub is_element : Place → Bool
is_element (variable i) = false
is_element (element array e) = true

-- Whether the value of an expression is an element or the result of an operation, kinds 3 to 16, or of a call. The kernel assigns these to any variable, so
-- one that is stored in a variable goes straight there.
unfoldable pub direct : Expression → Bool
direct (constant v) = false
direct (read p) = is_element p
direct (minus e) = true
direct (not e) = true
direct (binary operator a b) = true
direct (and a b) = false
direct (or a b) = false
direct (comma a b) = false
direct (conditional c a b) = false
direct (assign p e) = false
direct (compound operator p e) = false
direct (prefix operator p) = false
direct (postfix operator p) = false
direct (call f arguments) = true
