-- Examples: the shortest texts.
use Rattle.std.specs.Prelude.{◌≡◌, refl, [], ◌∷◌, pos}
use Rattle.words.specs.Word.{is_word}
use Rattle.words.specs.declared.Form.TheVariants.{Source, Kernel}
use Rattle.text_numbers.specs.Number.{is_digit, decimal, natural_of, word, positive, number_of}
use Rattle.text_lines.specs.Line.{fields_of, lines_of, together, numbers_of, line_numbers}
use Rattle.text_form.specs.Text.{keep, header_line, row_line, parsed, malformed, with_row, rows_from, with_header, program_of, parse_table, parse}

-- "1 for an empty text"
empty-text : parse Source [] ≡ malformed 1
unfolding parse_table program_of lines_of
empty-text = refl

-- a first line and nothing else is well formed: V = 0
header-alone : parse Source (48 ∷ 10 ∷ []) ≡ parsed (record { header = pos 0 ∷ []; rows = [] })
unfolding parse_table program_of lines_of with_header header_line keep line_numbers fields_of numbers_of together number_of natural_of decimal is_digit positive word is_word rows_from
header-alone = refl

-- in a kernel text D and T are missing
header-too-short : parse Kernel (48 ∷ 10 ∷ []) ≡ malformed 1
unfolding parse_table program_of lines_of with_header header_line keep line_numbers fields_of numbers_of together number_of natural_of decimal is_digit positive word is_word
header-too-short = refl

-- V and another number: a kernel text from before its header had D
header-of-two : parse Kernel (48 ∷ 9 ∷ 48 ∷ 10 ∷ []) ≡ malformed 1
unfolding parse_table program_of lines_of with_header header_line keep line_numbers fields_of numbers_of together number_of natural_of decimal is_digit positive word is_word
header-of-two = refl

-- the last line lacks its newline
newline-missing : parse Source (48 ∷ 10 ∷ 48 ∷ []) ≡ malformed 2
unfolding parse_table program_of lines_of with_header header_line keep line_numbers fields_of numbers_of together number_of natural_of decimal is_digit positive word is_word rows_from row_line with_row
newline-missing = refl
