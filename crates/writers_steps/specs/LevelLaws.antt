-- Laws of levels: the levels of the expression at a link, which may be absent, are few.
use Rattle.std.specs.Prelude.{List, ℕ, zero, suc, ◌≤◌, ◌<◌, ℤ}
use Rattle.std.proofs.Common.{arith}
use Rattle.words.specs.Table.{row_count}
use Rattle.language.specs.Decode.{part_at}
use Rattle.translation.specs.declared.Use.{Use}
use Rattle.translation.specs.Translate.{operand_levels}
use Rattle.measures_table.specs.Parts.{called_in}
use Rattle.writers_steps.specs.Asks.{Writing}

pub part_low : {rows : List ℤ} {table : List ℕ} {S : ℕ} → Writing rows table S → (row : ℕ) → row < row_count rows → (u : Use) → operand_levels (called_in rows) (part_at rows row) u ≤ 2048
part_low w zero inside u = omega arith
part_low w (suc row) inside u = w.few_levels (suc row) inside u
