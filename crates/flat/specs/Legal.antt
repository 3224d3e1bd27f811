-- Legal: the flat lists that the machine takes: words of lines that name what there is, and jump inside the list or just past it.
use Rattle.std.specs.Prelude.{◌≡◌, true, List, ℕ, ◌%◌, ◌<◌, ◌≤◌, ℤ, length}
use Rattle.words.specs.Kinds.{variable, array}
use Rattle.words.specs.Layout.{header_fits}
use Rattle.words.specs.declared.Form.TheVariants.{Kernel}
use Rattle.check_fields.specs.Fields.{bounds_of, number_fits}
use Rattle.check_fields.specs.declared.Bounds.{Bounds}
use Rattle.flat.specs.Lines.{Operand, number, word, Operation, copy, minus, operate, fetch, put, FlatLine, does, jump, jump_zero, jump_other, abort}
use Rattle.flat.specs.Words.{line_count, line_parts, Written}

module _ (bounds : Bounds) where
  -- "T temporaries .., which are variable numbers S to S+T−1; numbers V to S−1 name nothing." Change 11: S to S+D+T−1.
  abbrev pub NamesVariable : ℕ → Type 0
  NamesVariable i = number_fits bounds variable i ≡ true

  abbrev pub NamesArray : ℕ → Type 0
  NamesArray i = number_fits bounds array i ≡ true

  abbrev pub WithinOperand : Operand → Type 0
  WithinOperand (number v) = Unit {0}
  WithinOperand (word i) = NamesVariable i

  abbrev pub WithinOperation : Operation → Type 0
  WithinOperation (copy i a) = NamesVariable i × WithinOperand a
  WithinOperation (minus i a) = NamesVariable i × WithinOperand a
  WithinOperation (operate o i a b) = NamesVariable i × WithinOperand a × WithinOperand b
  WithinOperation (fetch i array a) = NamesVariable i × NamesArray array × WithinOperand a
  WithinOperation (put array a b) = NamesArray array × WithinOperand a × WithinOperand b

  -- A line of a list of so many.
  abbrev pub Within : ℕ → FlatLine → Type 0
  Within lines (does o) = WithinOperation o
  Within lines (jump j) = j ≤ lines
  Within lines (jump_zero a j) = WithinOperand a × (j ≤ lines)
  Within lines (jump_other a j) = WithinOperand a × (j ≤ lines)
  Within lines abort = Unit {0}

  -- The five words from line i on are those of a line.
  pub record LegalLine (list : List ℤ) (i : ℕ) : Type 0 where
    pub line : FlatLine
    pub written : Written list i (line_parts i line)
    pub within : Within (line_count list) line

pub record LegalFlat (header list : List ℤ) : Type 0 where
  pub header-fits : header_fits Kernel header ≡ true
  pub whole : length list % 5 ≡ 0
  pub lines : (i : ℕ) → i < line_count list → LegalLine (bounds_of Kernel header) list i
