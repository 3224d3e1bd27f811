-- Row notes: what a row hands to the rows that it links, and the note that each row so gets.
use Rattle.std.specs.Prelude.{◌&&◌, List, ℕ, eqb, ℤ}
use Rattle.words.specs.Word.{pick}
use Rattle.words.specs.Table.{number_at}
use Rattle.words.specs.Kinds.{between}
use Rattle.words.specs.Links.{note}
use Rattle.check_items.specs.Items.{item_of, earlier_of}
use Rattle.check_notes.specs.declared.Note.{Note}
use Rattle.check_notes.specs.declared.Note.TheVariants.{Inside, Around, ItemOf, Before, Behind, BodyOf}

-- What a row hands to the row that its field links. Next hands on to the next item of the same list; a row of the kinds has its parts inside
-- it, and is before all that follow it in its list; behind it stand those and their parts. A row whose field c is a block hands itself to it,
-- the block to its first item, at a.
unfoldable pub handed : Note → List ℤ → ℕ → ℕ → ℕ → ℕ
handed (Inside first last) rows owner field own = pick (eqb field 5) own (pick (between first last (number_at rows owner 0)) 1 own)
handed (Around kind) rows owner field own = pick (eqb field 5) own (pick (eqb (number_at rows owner 0) kind) owner own)
handed (ItemOf kind part) rows owner field own = item_of rows kind part owner field own
handed (Before first last) rows owner field own = earlier_of (λ row. between first last (number_at rows row 0)) owner field own
handed (Behind kind) rows owner field own = pick (eqb field 5 && eqb (number_at rows owner 0) kind) owner own
handed (BodyOf kind) rows owner field own =
    pick (eqb (number_at rows owner 0) kind && eqb field 3) owner
    (pick (eqb (number_at rows own 3) owner) (pick (eqb field 1) own 0) (pick (eqb field 5) own 0))

unfoldable pub note_at : Note → List ℤ → ℕ → ℕ
note_at which rows row = note (handed which rows) 0 rows row
