-- Runs that start from zeros, of both forms: what an answer says of the run.
use mathlib.Core.Path.{◌≡◌, ap, ◌∙◌}
use mathlib.Core.List.{List, ◌++◌}
use Prim.Native.Nat.{ℕ, ◌-◌, ◌≤◌}
use native.Mathlib.Omega.{arith}
use lib.IntN.{ℤ, pos}
use lib.ListN.{length, take, length-replicate}
use lib.Seq.{length-take-le}
use Rattle.words.specs.Layout.{layout_of, store_size, store_words, zeros}
use Rattle.words.specs.StoreLaws.{size-least}
use Rattle.words.specs.declared.Form.{Form}
use Rattle.words.specs.declared.Form.TheVariants.{Source, Kernel}
use Rattle.words.specs.declared.RunAnswer.{RunAnswer}
use Rattle.language.specs.Program.{Finished}
use Rattle.language_programs.specs.Program.{resolved_rows, run_program}
use Rattle.text_numbers.specs.Writer.{Put}
use Rattle.words.specs.OverLaws.{part, first_of}
use Rattle.text_report.specs.Lines.{line_room, source_line, kernel_line}
use Rattle.text_report.proofs.Spacing.{SoFar, far-space}
use Rattle.write_sets_programs.specs.ProgramWrites.{written}
use Rattle.translation_fate.specs.KernelForms.{kernel_header_of, kernel_rows_of}
use Rattle.machine.specs.Whole.{finished_of}
use Rattle.text_rules.specs.Rules.{most_words, budget}
use Rattle.trial.specs.Output.{source_output, kernel_output, runs_output}
use Rattle.trial.specs.Conditions.{FromZeros, Translates}

module _ (form : Form) (header rows store : List ℤ) (starts : store ≡ zeros (store_words form header rows)) where
  abbrev run : Finished
  run = run_program form header rows budget (zeros (store_words form header rows))

  pub started-length : length store ≡ store_words form header rows
  started-length = ap length starts ∙ length-replicate (store_words form header rows) (pos 0)

  -- the run was made
  pub record RunMade (answer : RunAnswer) (left : List ℤ) : Type 0 where
    pub ending : answer.ending ≡ run.ending
    pub count : answer.count ≡ run.count
    pub store-left : left ≡ run.store

  pub run-made : (answer : RunAnswer) (left : List ℤ) → finished_of answer left ≡ run_program form header rows budget store → RunMade answer left
  run-made answer left e =
      let same = e ∙ ap (run_program form header rows budget) starts in
      record { ending = ap (λ (f : Finished). f.ending) same; count = ap (λ (f : Finished). f.count) same; store-left = ap (λ (f : Finished). f.store) same }

-- ---- the lines

module _ {header rows store : List ℤ} {starts : store ≡ zeros (store_words Source header rows)} {answer : RunAnswer} {left : List ℤ} (m : RunMade Source header rows store starts answer left) where
  pub both_lines : {words n : ℕ} → words ≡ store_size (layout_of Source header) → n ≡ written (store_size (layout_of Source header)) (resolved_rows Source header rows)
      → source_line answer.ending answer.count (take (words - 0) left) n ++ kernel_output (store_size (layout_of Source header)) (kernel_header_of header rows) (kernel_rows_of header rows)
      ≡ runs_output header rows
  unfolding runs_output source_output
  both_lines {words} w e = rw (first_of left words, m.ending, m.count, m.store-left, e, w)

module _ {header rows store : List ℤ} {starts : store ≡ zeros (store_words Kernel header rows)} {answer : RunAnswer} {left : List ℤ} (m : RunMade Kernel header rows store starts answer left) where
  pub second-line : (words : ℕ) → kernel_line answer.ending (take (words - 0) left) ≡ kernel_output words header rows
  unfolding kernel_output
  second-line words = rw (first_of left words, m.ending, m.store-left)

-- the source's line is put, and there is room behind it for the kernel's
module _ {header rows store : List ℤ} {room words : ℕ} (z : FromZeros header rows store room) (left : List ℤ) (kept : length left ≡ length store) (size : words ≡ store_size (layout_of Source header)) where
  pub first_inside : words ≤ length left
  first_inside = omega (arith, kept, started-length Source header rows store z.starts, size-least Source header rows, size)

  few : length (take (words - 0) left) ≤ most_words
  few = rw (first_of left words) (omega (arith, length-take-le words left first_inside, size, z.fits.few_words))

  pub first-room : line_room (length (take (words - 0) left)) ≤ room
  first-room = omega (arith, few, z.fits.both_lines)

  module _ {bytes output : List ℕ} {end : ℕ} {after : List ℕ} (p : Put bytes output end after) (within : end ≤ line_room (length (take (words - 0) left))) (whole : room ≡ length output) where
    pub first-put : SoFar (line_room most_words) bytes output end after
    first-put = record { put = p; few = omega (arith, p.size, few); room = omega (arith, z.fits.both_lines) }

    pub first-translates : Translates header rows (length (part end after))
    first-translates = record {
      accepted = z.accepted;
      few_words = z.fits.few_words;
      few_rows = z.fits.few_rows;
      line = far-space first-put (line_room (store_size (layout_of Source header))) (omega (arith, z.fits.few_words, z.fits.both_lines));
    }
