-- Passing: a header and rows that no limit turns away.
use Rattle.std.specs.Prelude.{◌≡◌, true, List, ℕ, ℤ}
use Rattle.words.specs.Layout.{header_fits, count_fits}
use Rattle.words.specs.declared.Form.{Form}

-- Nothing turns a header and so many row words away.
pub record Passes (form : Form) (header : List ℤ) (row_words : ℕ) : Type 0 where
  pub header-fits : header_fits form header ≡ true
  pub count-fits : count_fits form row_words ≡ true
