-- Laws of blocks: lines whose blocks close are the lines of a program, at their levels. Each law follows the lines from the last to the
-- first, as page/Lines reads them: the lists that wait there are the blocks that are open here.
use Rattle.std.specs.Prelude.{◌≡◌, refl, true, false, List, [], ◌∷◌, ℕ, None, Option, Some}
use Rattle.std.proofs.Common.{sym, ◌∙◌, append-nil, arith}
use Rattle.text_numbers.specs.NumberLaws.{not_some}
use Rattle.language.specs.Trees.{Items, none as no_item}
use Rattle.page.specs.declared.Sizes.{Sizes}
use Rattle.page.specs.Lines.{Indented, statement_lines, items_lines, outermost, closed, Reading, reading, passing, taking, malformed, read_before, whole, read_lines}
use Rattle.page.specs.Lines.{turned as else_waiting}
use Rattle.page_words.specs.declared.LineContent.{LineContent}
use Rattle.page_blocks.specs.Blocks.{Open, outside, in_arguments, in_parameters, behind, onward, balanced, trees, levels}
use Rattle.page_blocks.proofs.Waits.{matches, fits, fits_after, waiting_lines, Lined, LinedAfter}
use Rattle.page_blocks.proofs.StepLaws.{line_step}

never : {G : Type 0} → false ≡ true → G
never e = absurd (let z : ◌≡◌ {A = ℕ} 0 1 = cc in omega arith)

abbrev start : Reading
start = reading no_item outermost

-- Lines are balanced where what they are read as fits.
balanced-fits : (sizes : Sizes) (lines : List LineContent) (around : Open) → balanced lines around ≡ fits around (read_before (trees sizes lines) start)
unfolding balanced fits fits_after matches read_before
balanced-fits sizes [] (outside []) = refl
balanced-fits sizes [] (outside (false ∷ blocks)) = refl
balanced-fits sizes [] (outside (true ∷ blocks)) = refl
balanced-fits sizes [] (in_arguments blocks) = refl
balanced-fits sizes [] (in_parameters blocks) = refl
balanced-fits sizes (line ∷ lines) around = after (λ a. balanced-fits sizes lines a) (behind line around) ∙ (line_step sizes [] line around (read_before (trees sizes lines) start)).0
  where
    after : ((a : Open) → balanced lines a ≡ fits a (read_before (trees sizes lines) start)) → (b : Option Open)
        → onward false (λ a. balanced lines a) b ≡ fits_after b (read_before (trees sizes lines) start)
    after ih None = refl
    after ih (Some a) = ih a

levels-lined : (sizes : Sizes) (lines : List LineContent) (around : Open) → Lined around (read_before (trees sizes lines) start) (levels sizes lines around)
unfolding Lined LinedAfter matches waiting_lines statement_lines read_before levels
levels-lined sizes [] (outside []) = λ m. refl
levels-lined sizes [] (outside (false ∷ blocks)) = λ m. never m
levels-lined sizes [] (outside (true ∷ blocks)) = λ m. never m
levels-lined sizes [] (in_arguments blocks) = tt
levels-lined sizes [] (in_parameters blocks) = tt
levels-lined sizes (line ∷ lines) around =
    (line_step sizes (onward [] (λ a. levels sizes lines a) (behind line around)) line around (read_before (trees sizes lines) start)).1 (after (λ a. levels-lined sizes lines a) (behind line around))
  where
    after : ((a : Open) → Lined a (read_before (trees sizes lines) start) (levels sizes lines a)) → (b : Option Open) → LinedAfter b (read_before (trees sizes lines) start) (onward [] (λ a. levels sizes lines a) b)
    after ih None = tt
    after ih (Some a) = ih a

-- ---- the program

-- What balanced lines are: items, read from them by page/Lines, whose lines they are.
pub record IsProgram (sizes : Sizes) (lines : List LineContent) : Type 0 where
  pub items : Items
  pub read : read_lines (trees sizes lines) ≡ Some items
  pub printed : levels sizes lines (outside []) ≡ items_lines 0 items

pub balanced-program : (sizes : Sizes) (lines : List LineContent) → balanced lines (outside []) ≡ true → IsProgram sizes lines
unfolding read_lines fits Lined matches waiting_lines
balanced-program sizes lines e =
    from (read_before (trees sizes lines) start) (levels sizes lines (outside [])) (sym (balanced-fits sizes lines (outside [])) ∙ e) (levels-lined sizes lines (outside [])) refl refl
  where
    from : (r : Reading) (all : List Indented) → fits (outside []) r ≡ true → Lined (outside []) r all → read_before (trees sizes lines) start ≡ r → levels sizes lines (outside []) ≡ all → IsProgram sizes lines
    from malformed all f l q p = never f
    from (passing e arguments is waiting) all f l q p = never f
    from (taking word words body later waiting) all f l q p = never f
    from (reading is outermost) all f l q p = record { items = is; read = rw q; printed = p ∙ l f ∙ append-nil (items_lines 0 is) }
    from (reading is (closed later waiting)) all f l q p = never f
    from (reading is (else_waiting on_false waiting)) all f l q p = never f

-- Lines that are read are balanced.
pub read-balanced : (sizes : Sizes) (lines : List LineContent) (items : Items) → read_lines (trees sizes lines) ≡ Some items → balanced lines (outside []) ≡ true
unfolding read_lines fits matches
read-balanced sizes lines items e = balanced-fits sizes lines (outside []) ∙ from (read_before (trees sizes lines) start) e
  where
    from : (r : Reading) → whole r ≡ Some items → fits (outside []) r ≡ true
    from malformed q = not_some q
    from (passing e arguments is waiting) q = not_some q
    from (taking word words body later waiting) q = not_some q
    from (reading is outermost) q = refl
    from (reading is (closed later waiting)) q = not_some q
    from (reading is (else_waiting on_false waiting)) q = not_some q
