-- Kernel tables: the rows of a plain kernel program.
use Rattle.std.specs.Prelude.{List, ℤ}
use Rattle.check_plain.specs.Plain.{Plain}

-- A table of rows that is plain with some header.
pub record KernelTable (rows : List ℤ) : Type 0 where
  pub header : List ℤ
  pub plain : Plain header rows
