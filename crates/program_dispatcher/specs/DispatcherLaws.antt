-- Laws of the dispatcher's run: a store made of its words and of zeros, and the words taken back.
use Rattle.std.specs.Prelude.{◌≡◌, ℕ, ◌-◌, ◌≤◌, ℤ, pos, length, take}
use Rattle.std.proofs.Math.Path.{sym, ap}
use Rattle.std.proofs.Common.{◌∙◌, arith, length-append, length-take-le, drop_at}
use mathlib.Core.List.{List, ◌++◌}
use Rattle.std.proofs.Math.ListN.{drop}
use Rattle.std.proofs.lemmas.List.{length-replicate, replicate-append-replicate}
use Rattle.words.specs.Over.{over}
use Rattle.words.specs.OverLaws.{first_of}
use Rattle.words.specs.Layout.{layout_of, store_size, header_store, store_words, behind_of, zeros}
use Rattle.words.specs.StoreLaws.{kernel-store}
use Rattle.words.specs.declared.Form.TheVariants.{Kernel}
use Rattle.words.specs.declared.RunAnswer.{RunAnswer}
use Rattle.language.specs.Program.{Finished}
use Rattle.language_programs.specs.Program.{run_program}
use Rattle.language_programs.specs.ProgramLaws.{store_length}
use Rattle.machine.specs.Whole.{finished_of}
use Rattle.translation_fate.specs.Views.{DispatcherView, dispatcher_view}
use Rattle.words_copying.specs.OverLaws.{over-whole}
use Rattle.program_dispatcher.specs.DispatcherRuns.{view_of_run}

module _ (header rows : List ℤ) (budget : ℕ) (words : List ℤ) (size : length words ≡ store_size (layout_of Kernel header)) where
  abbrev S : ℕ
  S = store_size (layout_of Kernel header)

  -- the declared words and the temporaries
  abbrev behind : ℕ
  behind = behind_of Kernel header

  -- a store of zeros has its words, and room for the dispatcher's
  pub zeros-long : (store : List ℤ) → store ≡ zeros (header_store Kernel header) → length store ≡ store_words Kernel header rows
  zeros-long store zero = ap length zero ∙ length-replicate (header_store Kernel header) (pos 0) ∙ sym (kernel-store header rows)

  pub words-fit : (store : List ℤ) → store ≡ zeros (header_store Kernel header) → length words ≤ length store
  unfolding header_store
  words-fit store zero = omega (arith, zeros-long store zero, kernel-store header rows, size)

  -- the words over a store of zeros: zeros remain behind them
  pub started : (store copied : List ℤ) → store ≡ zeros (header_store Kernel header) → copied ≡ over words store → copied ≡ words ++ zeros behind
  unfolding over header_store
  started store copied zero put =
      put ∙ ap (λ (l : List ℤ). words ++ drop (length words) l) (zero ∙ sym (replicate-append-replicate S behind (pos 0)))
      ∙ ap (λ (l : List ℤ). words ++ l) (drop_at (zeros S) (zeros behind) (length words) (length-replicate S (pos 0) ∙ sym size))

  -- the first words of what a run left, over the words: the dispatcher's view
  pub taken_back : (answer : RunAnswer) (copied left back : List ℤ) (k : ℕ) → copied ≡ words ++ zeros behind → finished_of answer left ≡ run_program Kernel header rows budget copied → k ≡ length words
      → back ≡ over (take (k - 0) left) words → ◌≡◌ {A = DispatcherView} (record { ending = answer.ending; words = back }) (view_of_run header rows budget words)
  taken_back answer copied left back k start ran same put =
      let run = run_program Kernel header rows budget (words ++ zeros behind) in
      let told : finished_of answer left ≡ run = ran ∙ ap (run_program Kernel header rows budget) start in
      let long : length left ≡ length (words ++ zeros behind) = ap (λ (f : Finished). length f.store) told ∙ store_length Kernel header rows (words ++ zeros behind) budget in
      let part : take (k - 0) left ≡ take S left = first_of left k ∙ ap (λ (n : ℕ). take n left) (same ∙ size) in
      let whole : length (take S left) ≡ length words = length-take-le S left (omega (arith, long, length-append words (zeros behind), size)) ∙ sym size in
      let view : back ≡ take S left = put ∙ ap (λ (l : List ℤ). over l words) part ∙ over-whole (take S left) words whole in
      ap (λ (l : List ℤ). record { ending = answer.ending; words = l }) view ∙ ap (dispatcher_view S) told
