-- `flatten_accepted`: the size at row 0 is the list's, so 10 is told before anything is written; else the list stands in the part it takes.
use mathlib.Core.Path.{◌≡◌, sym, ap}
use Prim.Native.Nat.{ℕ, ◌*◌}
use native.Mathlib.Omega.{arith}
use lib.Seq.{length-take-le}
use Rattle.flattener.proofs.FlatteningLaws.{rows_few, zeros-room, root-size, lines-few, too-short, exact-part, list_put}
use borrow.Author.Rules.{rules}
use Rattle.flattener.proofs.flatten_accepted.Reads as reads
use Rattle.flattener.proofs.flatten_accepted.Lts as lts
use Rattle.flat_sizes.proofs.sizes.size_rows.Reads as size-rows-reads
use Rattle.flattener.proofs.write_sized.Reads as write-sized-reads
use Rattle.check_structure.proofs.row_number.wide.Reads as wide-reads
use Rattle.flattener.proofs.flatten_accepted.Goals as goal

pub size_rows-requires : goal.size_rows-requires
size_rows-requires c =
    (c.requires, zeros-room 40980 _ (rows_few c.requires))

pub overflow_mul-words : goal.overflow_mul-words
overflow_mul-words c =
    omega (arith, lines-few c.requires, root-size c.requires c.size_rows.ensures _ (ap (λ (n : ℕ). 5 * n) c.wide-words.ensures))

pub returns-then-words-out : goal.returns-then-words-out
returns-then-words-out c =
    too-short c.requires c.args.out.now _ (root-size c.requires c.size_rows.ensures _ (ap (λ (n : ℕ). 5 * n) c.wide-words.ensures)) c.if-words-out.true

pub slice_bounds-write_sized-end-3 : goal.slice_bounds-write_sized-end-3
slice_bounds-write_sized-end-3 c =
    sym (length-take-le _ _ c.if-words-out.false)

pub write_sized-requires : goal.write_sized-requires
write_sized-requires c =
    (c.requires, c.size_rows.ensures, exact-part c.requires _ _ (root-size c.requires c.size_rows.ensures _ (ap (λ (n : ℕ). 5 * n) c.wide-words.ensures)) c.if-words-out.false)

pub returns : goal.returns
returns c =
    list_put c.requires c.args.out.now _ _ (root-size c.requires c.size_rows.ensures _ (ap (λ (n : ℕ). 5 * n) c.wide-words.ensures)) c.if-words-out.false c.write_sized.ensures
