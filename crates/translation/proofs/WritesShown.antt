-- What it is for a source program and its translation to make the same writes, also where they never end.
use Rattle.std.specs.Prelude.{◌≡◌, ℕ, suc, ◌+◌, ◌*◌, ◌≤◌, ltb, ℤ, length}
use Rattle.std.proofs.Math.Path.{refl, ap}
use Rattle.std.proofs.Common.{sym, ◌∙◌, arith, le_refl, le-ltb}
use mathlib.Core.List.{List, [], ◌∷◌, ◌++◌, append-nil}
use Rattle.std.proofs.Math.Nat.{mul-le-mul_left}
use Rattle.words.specs.Word.{pick}
use Rattle.words.specs.Layout.{Layout, store_size}
use Rattle.computation.specs.Run.{Write, State, start, steps, rounds, final}
use Rattle.computation.proofs.RunLaws.{Timed, timed_none, timed_more, timed-wider, Added, count-never-passes, writes-in-time, writes_later, writes-wider, enough-rounds, wider-rounds}
use Rattle.computation.specs.WritesMade.{visible, made, FirstOf}
use Rattle.computation.proofs.WritesMadeLaws.{visible-append, first-trans}
use Rattle.language.specs.Trees.{block, Items}
use Rattle.language.specs.Sizes.{statement_rows}
use Rattle.language.specs.WellFormed.{SourceTree}
use Rattle.translation.specs.Translate.{translate, temporaries}
use Rattle.translation.specs.Related.{Measure, Logs, logs_none, logs_both, logs_kernel}
use Rattle.translation.proofs.TranslatePreserves.{source_program, kernel_program, source_run, kernel_run, runs-logged}

-- "kernel rows × N steps"
abbrev pub kernel_steps : ℕ → Items → ℕ → ℕ
kernel_steps first program N = statement_rows (block (translate first program)) * N

-- Change 14 on trees, for a program, a store and temporaries.
pub record SameWrites (L : Layout) (first : ℕ) (program : Items) (store temporaryWords : List ℤ) : Type 0 where
  pub kernel_follows : (N : ℕ) → FirstOf (made (store_size L) (source_run L program store (steps N))) (made (store_size L) (kernel_run L first program store temporaryWords (steps (kernel_steps first program N))))
  -- how many steps of the source are enough
  pub source_steps : ℕ → ℕ
  pub source_follows : (N : ℕ) → FirstOf (made (store_size L) (kernel_run L first program store temporaryWords (steps N))) (made (store_size L) (source_run L program store (steps (source_steps N))))
