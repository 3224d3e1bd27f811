-- The theorem: runs of a translation that start alike but for the temporaries show the same, under every limit.
use Rattle.std.specs.Prelude.{◌≡◌, ℤ, length}
use mathlib.Core.List.{List, ◌++◌}
use Prim.Native.Nat.{ℕ, ◌≤◌}
use Rattle.words.specs.Layout.{Layout, store_size}
use Rattle.computation.specs.Run.{Limit, run, start}
use Rattle.language.specs.Trees.{block, Items}
use Rattle.language.specs.Meaning.{exec}
use Rattle.language.specs.Functions.{context_of}
use Rattle.language.specs.WellFormed.{SourceTree}
use Rattle.translation.specs.Translate.{translate}
use Rattle.translation_form.proofs.TemporariesHidden.{Shown, translated-blind, start-agree, shown}

module _ (L : Layout) (S : ℕ) (inside : store_size L ≤ S) (program : Items) (tree : SourceTree L S program) (store : List ℤ) (all_words : length store ≡ S) where
  -- Under every limit, runs that are cut off included.
  pub temporaries-hidden : (limit : Limit) (temporaries others : List ℤ) → length temporaries ≡ length others
      → Shown S (run limit (exec (context_of L (translate S program)) (block (translate S program))) (start (store ++ temporaries)))
      (run limit (exec (context_of L (translate S program)) (block (translate S program))) (start (store ++ others)))
  temporaries-hidden limit temporaries others e = shown L S inside program tree store all_words ((translated-blind L S inside program tree).same limit _ _ (start-agree L S inside program tree store all_words temporaries others e))
