-- Stacks: the numbers that an array holds from its start on, the innermost last; the open blocks that they are; and what is open, as the code holds it.
use Rattle.std.specs.Prelude.{Bool, true, false, List, [], ◌∷◌, map, ℕ, zero, suc, eqb, get_or, Err, None, Ok, Result, Some, Option}
use Rattle.words.specs.Word.{pick}
use Rattle.page_blocks.specs.Blocks.{Blocks, Open, outside, in_arguments, in_parameters}
use Rattle.page_scan.specs.declared.blocks.Among.{Among}
use Rattle.page_scan.specs.declared.blocks.Among.TheVariants.{Items, Arguments, Parameters}

-- So many numbers, the innermost first.
unfoldable pub stack_of : ℕ → List ℕ → List ℕ
stack_of zero numbers = []
stack_of (suc depth) numbers = get_or numbers depth 0 ∷ stack_of depth numbers

abbrev pub is_first : ℕ → Bool
is_first flag = eqb flag 1

unfoldable pub blocks_of : ℕ → List ℕ → Blocks
blocks_of depth flags = map is_first (stack_of depth flags)

abbrev pub open_by : Among → Blocks → Open
open_by Items blocks = outside blocks
open_by Arguments blocks = in_arguments blocks
open_by Parameters blocks = in_parameters blocks

abbrev pub open_of : Among → ℕ → List ℕ → Open
open_of among depth flags = open_by among (blocks_of depth flags)

abbrev pub moved_says : Option (Among × ℕ) → List ℕ → Option Open
moved_says (Some (among, depth)) flags = Some (open_of among depth flags)
moved_says None flags = None

abbrev pub depth_in : Option (Among × ℕ) → ℕ
depth_in (Some (among, depth)) = depth
depth_in None = 0

-- ---- lines that open and close no block, by what they stand among

abbrev pub after_item : (among next : Among) → ℕ → Option (Among × ℕ)
after_item Items next depth = Some (next, depth)
after_item Arguments next depth = None
after_item Parameters next depth = None

abbrev pub after_argument : (among next : Among) → ℕ → Option (Among × ℕ)
after_argument Items next depth = None
after_argument Arguments next depth = Some (next, depth)
after_argument Parameters next depth = None

abbrev pub after_parameter : Among → ℕ → Option (Among × ℕ)
after_parameter Items depth = None
after_parameter Arguments depth = None
after_parameter Parameters depth = Some (Parameters, depth)

-- ---- the end

abbrev pub is_among_items : Among → Bool
is_among_items Items = true
is_among_items Arguments = false
is_among_items Parameters = false

unfoldable pub end_of : Bool → Among → (depth rows next : ℕ) → Result ℕ ℕ
end_of whole among depth rows next =
    pick whole (pick (is_among_items among) (pick (eqb depth 0) (Ok rows) (Err next)) (Err next)) (Err next)
