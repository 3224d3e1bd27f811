-- Writer: what its inner functions ask of a buffer, in terms of the definition of texts.
use Rattle.std.specs.Prelude.{◌≡◌, List, ℕ, ◌*◌, ◌≤◌, ◌<◌, ℤ, length}
use Rattle.text_form.specs.Text.{table_bytes}

-- A buffer has room for the text of a header and so many whole rows.
pub record Fills (width count : ℕ) (header rows : List ℤ) (buffer : List ℕ) : Type 0 where
  pub filled : 0 < length header
  pub wide : 0 < width
  pub whole : length rows ≡ width * count
  pub room : length (table_bytes width count header rows) ≤ length buffer
