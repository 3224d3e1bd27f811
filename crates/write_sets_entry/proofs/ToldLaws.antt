-- What is told, by the check's answer.
use Rattle.std.specs.Prelude.{Err, Ok, Result}
use mathlib.Core.Path.{◌≡◌, refl, sym, ap, subst, ◌∙◌}
use mathlib.Core.List.{List}
use Prim.Native.Nat.{ℕ, ◌-◌}
use lib.IntN.{ℤ}
use lib.ListN.{length, take}
use Rattle.words.specs.Over.{over}
use Rattle.words.specs.Refusals.{NumberedRefusal}
use Rattle.check_source.specs.Refusal.{refusal}
use Rattle.words.specs.declared.Form.TheVariants.{Source as SourceForm}
use Rattle.language_shapes.specs.Source.{NamesFrom, Source}
use Rattle.language_programs.specs.Program.{source_size, resolved_rows}
use Rattle.accepted_rows.specs.ResolvedPrograms.{lent-table}
use Rattle.translator.specs.AcceptedLaws.{accepted-source, names-from}
use Rattle.write_sets_programs.specs.ProgramWrites.{written, WritesAre}
use Rattle.write_sets_programs.specs.declared.Writes.{Writes}
use Rattle.write_sets_entry.specs.Told.{Told, sets, refusal as told-refusal, count_of}

module _ (header rows : List ℤ) {v : (Result (Unit {0}) NumberedRefusal)} (is : v ≡ refusal header rows) where
  pub accepted-of : v ≡ (Ok tt) → refusal header rows ≡ (Ok tt)
  accepted-of e = sym is ∙ e

  pub told-sets : {w : Writes} → v ≡ (Ok tt) → WritesAre (source_size header) w (resolved_rows SourceForm header rows) → Told header rows (refusal header rows) (Ok w)
  told-sets {w = w} e x = subst (λ (u : Result (Unit {0}) NumberedRefusal). Told header rows u (Ok w)) (sym (accepted-of e)) (sets x)

  pub told-refused : (r : NumberedRefusal) → v ≡ Err r → Told header rows (refusal header rows) (Err r)
  told-refused r e = subst (λ (u : Result (Unit {0}) NumberedRefusal). Told header rows u (Err r)) (sym (sym is ∙ e)) told-refusal

  pub count-accepted : {n : ℕ} → v ≡ (Ok tt) → n ≡ written (source_size header) (resolved_rows SourceForm header rows) → n ≡ count_of (refusal header rows) header rows
  count-accepted e x = x ∙ sym (ap (λ (u : Result (Unit {0}) NumberedRefusal). count_of u header rows) (accepted-of e))

  pub count-refused : (r : NumberedRefusal) → v ≡ Err r → 0 ≡ count_of (refusal header rows) header rows
  count-refused r e = sym (ap (λ (u : Result (Unit {0}) NumberedRefusal). count_of u header rows) (sym is ∙ e))

-- The resolved table as it was written at the start of another and is lent.
module _ (header rows table left : List ℤ) (accepted : refusal header rows ≡ (Ok tt)) {size : ℕ} (is : size ≡ source_size header) (stands : left ≡ over (resolved_rows SourceForm header rows) table) where
  lent : take (length rows - 0) left ≡ resolved_rows SourceForm header rows
  lent = lent-table header rows table left (length rows) refl stands

  pub lent-source : Source (take (length rows - 0) left) × NamesFrom size (take (length rows - 0) left)
  lent-source = (
    subst (λ (l : List ℤ). Source l) (sym lent) (accepted-source header rows accepted),
    subst (λ (l : List ℤ). NamesFrom size l) (sym lent) (names-from header rows accepted is),
  )

  pub lent-writes : {w : Writes} → WritesAre size w (take (length rows - 0) left) → WritesAre (source_size header) w (resolved_rows SourceForm header rows)
  lent-writes {w} x = subst (λ (S : ℕ). WritesAre S w (resolved_rows SourceForm header rows)) is (subst (λ (l : List ℤ). WritesAre size w l) lent x)
