-- Laws of stacks: numbers put on and taken off; blocks opened, turned and closed.
use Rattle.std.specs.Prelude.{◌≡◌, refl, Bool, true, false, List, [], ◌∷◌, map, ℕ, zero, suc, ◌+◌, ◌-◌, ◌≤◌, ◌<◌, eqb, length, get_or, set, drop, None, Option, Some}
use Rattle.std.proofs.Common.{sym, ap, ap₂, ◌∙◌, arith, add-one, get_or-set_same, get_or-set_other, eq-eqb, ne_eqb}
use Rattle.page_blocks.specs.Blocks.{Open, outside as among_items, turned, shut, where_items, where_arguments, where_parameters, level_in}
use Rattle.page_blocks.specs.Scans.{ended}
use Rattle.page_scan.specs.Stacks.{stack_of, is_first, blocks_of, open_by, open_of, moved_says, depth_in, after_item, after_argument, after_parameter, end_of}
use Rattle.page_scan.specs.declared.blocks.Among.{Among}
use Rattle.page_scan.specs.declared.blocks.Among.TheVariants.{Items, Arguments, Parameters}

-- ---- numbers

-- A number further in changes nothing.
above : (depth i v : ℕ) (numbers : List ℕ) → depth ≤ i → stack_of depth (set numbers i v) ≡ stack_of depth numbers
unfolding stack_of
above zero i v numbers h = refl
above (suc depth) i v numbers h = ap₂ (λ (n : ℕ) (rest : List ℕ). n ∷ rest) (get_or-set_other numbers i depth v 0 (λ e. omega arith)) (above depth i v numbers (omega arith))

pub pushed : (depth v : ℕ) (numbers : List ℕ) → depth < length numbers → stack_of (depth + 1) (set numbers depth v) ≡ v ∷ stack_of depth numbers
unfolding stack_of
pushed depth v numbers h =
    rw (add-one depth, get_or-set_same numbers depth v 0 h) (ap (λ (rest : List ℕ). v ∷ rest) (above depth depth v numbers (omega arith)))

-- Some of the innermost taken away.
pub popped : (n depth : ℕ) (numbers : List ℕ) → drop n (stack_of depth numbers) ≡ stack_of (depth - n) numbers
unfolding stack_of
popped zero depth numbers = let all : depth - 0 ≡ depth = omega arith in rw all
popped (suc n) zero numbers = let none_left : 0 - suc n ≡ 0 = omega arith in rw none_left
popped (suc n) (suc depth) numbers = let less : suc depth - suc n ≡ depth - n = omega arith in rw less (popped n depth numbers)

-- The i-th from the innermost; 0 where there is none.
pub inside : (i depth : ℕ) (numbers : List ℕ) → i < depth → get_or (stack_of depth numbers) i 0 ≡ get_or numbers (depth - 1 - i) 0
unfolding stack_of
inside i zero numbers h = absurd (omega arith)
inside zero (suc depth) numbers h = let last : suc depth - 1 - 0 ≡ depth = omega arith in rw last
inside (suc i) (suc depth) numbers h = let less : suc depth - 1 - suc i ≡ depth - 1 - i = omega arith in rw less (inside i depth numbers (omega arith))

pub outside : (i depth : ℕ) (numbers : List ℕ) → depth ≤ i → get_or (stack_of depth numbers) i 0 ≡ 0
unfolding stack_of
outside i zero numbers h = refl
outside zero (suc depth) numbers h = absurd (omega arith)
outside (suc i) (suc depth) numbers h = outside i depth numbers (omega arith)

-- ---- blocks

pub length-blocks : (depth : ℕ) (flags : List ℕ) → length (blocks_of depth flags) ≡ depth
unfolding blocks_of stack_of
length-blocks zero flags = refl
length-blocks (suc depth) flags = ap suc (length-blocks depth flags)

pub block-pushed : (depth v : ℕ) (flags : List ℕ) → depth < length flags → blocks_of (depth + 1) (set flags depth v) ≡ eqb v 1 ∷ blocks_of depth flags
unfolding blocks_of
block-pushed depth v flags h = ap (map is_first) (pushed depth v flags h)

block-above : (depth i v : ℕ) (flags : List ℕ) → depth ≤ i → blocks_of depth (set flags i v) ≡ blocks_of depth flags
unfolding blocks_of
block-above depth i v flags h = ap (map is_first) (above depth i v flags h)

-- The innermost block.
top : (depth : ℕ) (flags : List ℕ) → 0 < depth → blocks_of depth flags ≡ eqb (get_or flags (depth - 1) 0) 1 ∷ blocks_of (depth - 1) flags
unfolding blocks_of stack_of
top zero flags h = absurd (omega arith)
top (suc depth) flags h = let less : suc depth - 1 ≡ depth = omega arith in rw less

none_open : (depth : ℕ) (flags : List ℕ) → depth ≡ 0 → blocks_of depth flags ≡ []
unfolding blocks_of stack_of
none_open depth flags e = ap (λ (n : ℕ). blocks_of n flags) e

module _ (depth : ℕ) (flags : List ℕ) where
  pub turn-none : depth ≡ 0 → None ≡ turned (blocks_of depth flags)
  turn-none e = rw (none_open depth flags e)

  pub shut_none : depth ≡ 0 → None ≡ shut (blocks_of depth flags)
  shut_none e = rw (none_open depth flags e)

  module _ (some-open : depth ≡ 0 → ⊥) where
    more : 0 < depth
    more = from depth some-open
      where
        from : (n : ℕ) → (n ≡ 0 → ⊥) → 0 < n
        from zero f = absurd (f refl)
        from (suc n) f = omega arith

    pub turn-wrong : (get_or flags (depth - 1) 0 ≡ 1 → ⊥) → None ≡ turned (blocks_of depth flags)
    turn-wrong f = rw (top depth flags more, ne_eqb (get_or flags (depth - 1) 0) 1 f)

    pub turn-right : depth ≤ length flags → get_or flags (depth - 1) 0 ≡ 1 → Some (among_items (blocks_of depth (set flags (depth - 1) 0))) ≡ turned (blocks_of depth flags)
    turn-right h e =
        let inside : 0 < depth = more in
        rw (top depth flags more, top depth (set flags (depth - 1) 0) more, eq-eqb (get_or flags (depth - 1) 0) 1 e, get_or-set_same flags (depth - 1) 0 0 (omega arith), block-above (depth - 1) (depth - 1) 0 flags (omega arith))

    pub shut-wrong : get_or flags (depth - 1) 0 ≡ 1 → None ≡ shut (blocks_of depth flags)
    shut-wrong e = rw (top depth flags more, eq-eqb (get_or flags (depth - 1) 0) 1 e)

    pub shut-right : (get_or flags (depth - 1) 0 ≡ 1 → ⊥) → Some (among_items (blocks_of (depth - 1) flags)) ≡ shut (blocks_of depth flags)
    shut-right f = rw (top depth flags more, ne_eqb (get_or flags (depth - 1) 0) 1 f)

-- ---- what is open

pub level-is : (among : Among) (depth : ℕ) (flags : List ℕ) → level_in (open_of among depth flags) ≡ depth
level-is Items depth flags = length-blocks depth flags
level-is Arguments depth flags = length-blocks depth flags
level-is Parameters depth flags = length-blocks depth flags

-- Lines that open and close no block.
abbrev Moves : Option (Among × ℕ) → List ℕ → ℕ → Option Open → Type 0
Moves moved flags depth around = (moved_says moved flags ≡ around) × ((depth_in moved ≤ depth + 1) × (length flags ≡ 81958))

pub item-moves : (among next : Among) (depth : ℕ) (flags : List ℕ) → length flags ≡ 81958
    → Moves (after_item among next depth) flags depth (where_items (λ blocks. Some (open_by next blocks)) (open_of among depth flags))
item-moves Items next depth flags l = (refl, (omega arith, l))
item-moves Arguments next depth flags l = (refl, (omega arith, l))
item-moves Parameters next depth flags l = (refl, (omega arith, l))

pub argument-moves : (among next : Among) (depth : ℕ) (flags : List ℕ) → length flags ≡ 81958
    → Moves (after_argument among next depth) flags depth (where_arguments (λ blocks. Some (open_by next blocks)) (open_of among depth flags))
argument-moves Items next depth flags l = (refl, (omega arith, l))
argument-moves Arguments next depth flags l = (refl, (omega arith, l))
argument-moves Parameters next depth flags l = (refl, (omega arith, l))

pub parameter-moves : (among : Among) (depth : ℕ) (flags : List ℕ) → length flags ≡ 81958
    → Moves (after_parameter among depth) flags depth (where_parameters (λ blocks. Some (open_by Parameters blocks)) (open_of among depth flags))
parameter-moves Items depth flags l = (refl, (omega arith, l))
parameter-moves Arguments depth flags l = (refl, (omega arith, l))
parameter-moves Parameters depth flags l = (refl, (omega arith, l))

pub end_is : (whole : Bool) (among : Among) (depth rows next : ℕ) (flags : List ℕ) → end_of whole among depth rows next ≡ ended whole (open_of among depth flags) rows next
unfolding end_of blocks_of stack_of
end_is true Items zero rows next flags = refl
end_is true Items (suc depth) rows next flags = rw (ne_eqb (suc depth) 0 (λ e. omega arith))
end_is true Arguments depth rows next flags = refl
end_is true Parameters depth rows next flags = refl
end_is false Items depth rows next flags = refl
end_is false Arguments depth rows next flags = refl
end_is false Parameters depth rows next flags = refl
