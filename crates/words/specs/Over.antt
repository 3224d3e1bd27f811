-- Over: what stands in a table or a buffer after values were written from its start.
use Rattle.std.specs.Prelude.{List, ◌++◌, length, drop}

-- "Rows of an output table, or bytes of a text buffer, beyond the result keep their content."
unfoldable pub over : {A : Type 0} → List A → List A → List A
over values buffer = values ++ drop (length values) buffer
