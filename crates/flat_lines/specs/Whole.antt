-- Whole: where the own lines of all rows are written, the list is the flat list.
use Rattle.std.specs.Prelude.{◌≡◌, List, ℕ, ◌+◌, ◌<◌, ℤ}
use Rattle.std.proofs.Common.{◌∙◌, arith}
use Rattle.std.proofs.Math.Decide.{ℕ_discrete}
use Rattle.std.proofs.Math.Arith.{lt_of_le-ne}
use Rattle.words.specs.Table.{row_count}
use Rattle.language.specs.Program.{contents}
use Rattle.flat_kernel_rows.specs.KernelTable.{KernelTable}
use Rattle.flat_fate.specs.Addresses.{flat_of}
use Rattle.flat_fate.specs.FlatWords.{flattened}
use Rattle.flat_rows.specs.Places.{own_lines, Each}
use Rattle.flat_rows.proofs.Standing.{own-there}
use Rattle.flat_rows.specs.LinesPut.{There, Holds, put_all}
use Rattle.flat_rows.proofs.Written.{puts-length, puts-hold, each-kept}
use Rattle.flat_rows.proofs.Filled.{filled-whole}
use Rattle.flat_lines.specs.Lent.{Exact, Wrote}

module _ {rows : List ℤ} (table : KernelTable rows) where
  pub wrote_none : (out : List ℤ) → Exact rows out → Wrote rows 0 out
  wrote_none out e = record { exact = e; written = λ row l. absurd (omega arith) }

  pub wrote-row : {out after : List ℤ} {row : ℕ} → Wrote rows row out → row < row_count rows → after ≡ put_all (own_lines rows row) out → Wrote rows (row + 1) after
  wrote-row {out} {after} {row} w n e =
      rw e (record { exact = puts-length (own_lines rows row) out ∙ w.exact; written = λ other l inside. by other l inside (ℕ_discrete other row) })
    where
      here-are : (other : ℕ) → other < row_count rows → Each (There (flat_of (contents rows))) (own_lines rows other)
      here-are other inside = own-there table.header rows table.plain other inside

      by : (other : ℕ) → other < row + 1 → other < row_count rows → Dec (other ≡ row) → Each (Holds (put_all (own_lines rows row) out)) (own_lines rows other)
      by other l inside (yes q) = rw q (puts-hold (flat_of (contents rows)) (own_lines rows row) out w.exact (here-are row n))
      by other l inside (no q) =
          each-kept (flat_of (contents rows)) (own_lines rows other) (own_lines rows row) out w.exact (here-are row n) (here-are other inside) (w.written other (lt_of_le-ne (omega arith) q) inside)

  pub wrote-whole : (out : List ℤ) (k : ℕ) → k ≡ row_count rows → Wrote rows k out → out ≡ flattened rows
  wrote-whole out k e w = filled-whole table.header rows table.plain out (λ row n. w.written row (omega arith) n) w.exact
