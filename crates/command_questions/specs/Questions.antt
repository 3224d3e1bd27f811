-- Questions: what is printed for a question about one text: the checks, `writes`, `page`, `flatten` and `flat-check`.
use Rattle.std.specs.Prelude.{List, ℕ, ℤ}
use Rattle.words.specs.declared.Form.{Form}
use Rattle.words.specs.declared.Form.TheVariants.{Source, Kernel}
use Rattle.command_request.specs.declared.request.Question.{Question}
use Rattle.command_request.specs.declared.request.Question.TheVariants.{Check, Writes, Page, Flatten, FlatCheck}
use Rattle.command_text.specs.Texts.{text_output}
use Rattle.command_flat.specs.Flattenings.{list_text}
use Rattle.command_flat.specs.Lists.{list_output, list_check_line}
use Rattle.command_questions.specs.Checks.{check_line}
use Rattle.command_questions.specs.Writes.{writes_lines}
use Rattle.command_questions.specs.Pages.{kernel_page}

-- What a source program can write; the page and the flat list of a kernel program; a flat list has the kernel's header.
abbrev pub question_form : Question → Form
question_form (Check form) = form
question_form Writes = Source
question_form Page = Kernel
question_form Flatten = Kernel
question_form FlatCheck = Kernel

-- What is printed for the text, by what is printed for its words.
abbrev pub question_text : Question → List ℕ → (List ℤ → List ℤ → List ℕ) → List ℕ
question_text (Check form) text = text_output form text
question_text Writes text = text_output Source text
question_text Page text = text_output Kernel text
question_text Flatten text = text_output Kernel text
question_text FlatCheck text = list_output text

-- What is printed for a header and rows.
abbrev pub question_lines : Question → (header rows : List ℤ) → List ℕ
question_lines (Check form) = check_line form
question_lines Writes = writes_lines
question_lines Page = kernel_page
question_lines Flatten = list_text
question_lines FlatCheck = list_check_line

unfoldable pub question_output : Question → List ℕ → List ℕ
question_output question text = question_text question text (question_lines question)
