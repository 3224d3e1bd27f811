-- What a row hands on: as the code goes, and that it is small.
use mathlib.Core.Path.{◌≡◌}
use mathlib.Core.Bool.{Bool, true, false}
use mathlib.Core.List.{List}
use Prim.Native.Nat.{ℕ, ◌<◌}
use lib.Dec.{eqb}
use lib.IntN.{ℤ}
use borrow.Author.Tests.{eq-eqb, ne_eqb}
use Rattle.words.specs.Word.{pick}
use Rattle.words.specs.Links.{link}
use Rattle.check_labels.specs.Labels.{owning}
use Rattle.check_labels.specs.Passes.{handed}
use Rattle.check_labels.specs.declared.LabelNote.{LabelNote}
use Rattle.check_labels.specs.declared.LabelNote.TheVariants.{First, Owner}

pub handed-next : (which : LabelNote) (rows : List ℤ) (row field own : ℕ) → field ≡ 5 → own ≡ handed which rows row field own
unfolding handed owning
handed-next First rows row field own e = rw (eq-eqb _ _ e)
handed-next Owner rows row field own e = rw (eq-eqb _ _ e)

pub handed-first : (which : LabelNote) (rows : List ℤ) (row field own : ℕ) → which ≡ First → (field ≡ 5 → ⊥) → link rows row field ≡ handed which rows row field own
unfolding handed
handed-first which rows row field own w n = rw (w, ne_eqb _ _ n)

pub handed-owner : (which : LabelNote) (rows : List ℤ) (row field own : ℕ) → which ≡ Owner → (field ≡ 5 → ⊥) → row ≡ handed which rows row field own
unfolding handed owning
handed-owner which rows row field own w n = rw (w, ne_eqb _ _ n)

pub handed-small : (which : LabelNote) (rows : List ℤ) (row field own : ℕ) → row < 65536 → link rows row field < 65536 → own < 65536 → handed which rows row field own < 65536
unfolding handed owning
handed-small First rows row field own r l o = go (eqb field 5)
  where
    go : (b : Bool) → pick b own (link rows row field) < 65536
    go true = o
    go false = l
handed-small Owner rows row field own r l o = go (eqb field 5)
  where
    go : (b : Bool) → pick b own row < 65536
    go true = o
    go false = r
