-- Text: the text form of flat lists: line 1 as the kernel's, V, D, T and the array lengths; each further line is a line's five words.
use Rattle.std.specs.Prelude.{List, ℕ, ℤ}
use Rattle.words.specs.declared.Form.TheVariants.{Kernel}
use Rattle.flat.specs.Words.{line_count}
use Rattle.text_form.specs.Text.{table_bytes, Parsed, Program, parse_table}

-- The text of a header and a list.
abbrev pub flat_bytes : List ℤ → List ℤ → List ℕ
flat_bytes header list = table_bytes 5 (line_count list) header list

-- The header and the list that a text gives, or its first malformed line.
abbrev pub parse_flat : List ℕ → Parsed Program
parse_flat text = parse_table 5 Kernel text
