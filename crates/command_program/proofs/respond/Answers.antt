-- `respond`: everything that `respond_in` put at the start of `out` is in it.
use mathlib.Core.Path.{◌≡◌, sym}
use mathlib.Core.List.{List}
use Prim.Native.Nat.{ℕ, ◌≤◌}
use native.Mathlib.Omega.{arith}
use lib.ListN.{length}
use lib.Seq.{length-take-le}
use Rattle.text_numbers.specs.Writer.{Put}
use Rattle.text_numbers.specs.PutLaws.{put-fits}
use Rattle.command_program.proofs.respond.Goals as goal

inside : {bytes before after : List ℕ} {n : ℕ} → Put bytes before n after → length after ≡ length before → n ≤ length after
inside p e = omega (arith, p.size, put-fits p e, e)

pub slice_bounds-write_all-end : goal.slice_bounds-write_all-end
slice_bounds-write_all-end g c = sym (length-take-le _ _ (inside c.respond_in-response.ensures.printed c.respond_in-response.auto.out))

pub slice_bounds-out-end : goal.slice_bounds-out-end
slice_bounds-out-end g c = inside c.respond_in-response.ensures.printed c.respond_in-response.auto.out
