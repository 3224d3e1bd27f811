-- Views: what the dispatcher and the maintainer are shown of a kernel run. Change 9.
use Rattle.std.specs.Prelude.{◌≡◌, List, ◌++◌, ℕ, ◌+◌, ℤ, length, take}
use Rattle.words.specs.Layout.{layout_of, store_size, declared_of, temporaries_of}
use Rattle.words.specs.declared.Form.TheVariants.{Kernel}
use Rattle.words.specs.declared.Ending.{Ending}
use Rattle.language.specs.Program.{Finished}
use Rattle.language_programs.specs.Program.{run_program}

-- "The dispatcher gets the ending and the first S words,"
pub record DispatcherView : Type 0 where
  pub ending : Ending
  pub words : List ℤ

-- "the maintainer the whole store and the count."
pub record MaintainerView : Type 0 where
  pub store : List ℤ
  pub count : ℕ

abbrev pub dispatcher_view : ℕ → Finished → DispatcherView
dispatcher_view S finished = record { ending = finished.ending; words = take S finished.store }

abbrev pub maintainer_view : Finished → MaintainerView
maintainer_view finished = record { store = finished.store; count = finished.count }

-- "two runs with equal budget that start alike but for the temporaries show the dispatcher the same, spent runs included": for every budget, a
-- natural number.
abbrev pub HidesTemporaries : List ℤ → List ℤ → Type 0
HidesTemporaries header rows =
    (store temporaries others : List ℤ) → length store ≡ store_size (layout_of Kernel header) + declared_of Kernel header
    → length temporaries ≡ temporaries_of Kernel header → length others ≡ temporaries_of Kernel header → (budget : ℕ)
    → dispatcher_view (store_size (layout_of Kernel header)) (run_program Kernel header rows budget (store ++ temporaries))
    ≡ dispatcher_view (store_size (layout_of Kernel header)) (run_program Kernel header rows budget (store ++ others))
