-- `lowest_wrongly_placed` takes the lowest of what its three searches found.
use Rattle.std.specs.Prelude.{Option}
use mathlib.Core.Path.{◌≡◌, sym, ◌∙◌}
use mathlib.Core.Bool.{◌||◌}
use mathlib.Core.List.{List}
use Prim.Native.Nat.{ℕ}
use lib.IntN.{ℤ}
use Rattle.words.specs.Search.{lowest_row}
use Rattle.check_places.specs.Places.{misplaced}
use Rattle.check_declaration_causes.specs.Causes.{outside_block}
use Rattle.check_function_causes.specs.Causes.{returns_outside}
use Rattle.check_source.specs.Refusal.{wrongly_placed}
use Rattle.check_declarations.specs.Lower.{lower}
use Rattle.check_declarations.specs.LowerLaws.{lowest_row-either}
use borrow.Author.Rules.{rules}
use Rattle.check_source.proofs.lowest_wrongly_placed.Goals as goal

lower-found : (rows : List ℤ) (one two three later found : Option ℕ) → one ≡ lowest_row rows (misplaced rows) → two ≡ lowest_row rows (outside_block rows) → three ≡ lowest_row rows (returns_outside rows)
    → later ≡ lower two three → found ≡ lower one later → found ≡ lowest_row rows (wrongly_placed rows)
unfolding wrongly_placed
lower-found rows one two three later found e f g h k =
    k ∙ rw (h, e, f, g, ← lowest_row-either rows (outside_block rows) (returns_outside rows)) (sym (lowest_row-either rows (misplaced rows) (λ (row : ℕ). outside_block rows row || returns_outside rows row)))

pub returns : goal.returns
returns c =
    lower-found _ _ _ _ _ _ c.lowest_misplaced-misplaced.ensures c.lowest_outside_block-outside.ensures
    c.lowest_return_outside-returned.ensures c.lower_of.ensures c.lower_of-2.ensures
