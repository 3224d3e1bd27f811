-- Laws of the kernel header: V, D, T, and the source header's array lengths.
use Rattle.std.specs.Prelude.{◌≡◌, refl, true, List, [], ◌∷◌, ◌++◌, map, ℕ, suc, ◌+◌, ◌-◌, ◌≤◌, ◌<◌, ℤ, pos, length, get_or, take, drop}
use Rattle.std.proofs.Common.{sym, ap, ap₂, ◌∙◌, arith}
use Rattle.std.proofs.lemmas.List.{length-map}
use borrow.Rule.Slice.PartMut.{mid_of, put_mid}
use Rattle.words.specs.Word.{natural}
use Rattle.words.specs.Layout.{array_length, header_fits, layout_of}
use Rattle.words.specs.Laws.{natural-pos, header_fits-facts, number-of-arrays}
use Rattle.words.specs.declared.Form.TheVariants.{Source}
use Rattle.translation.specs.Translate.{kernel_header}
use Rattle.words.specs.Over.{over}
use Rattle.words.specs.OverLaws.{rest_of, over-next}

-- Words that name small numbers are those numbers.
numbers-back : (ws : List ℤ) → ((i : ℕ) → i < length (map natural ws) → get_or (map natural ws) i 0 ≤ 4096) → map pos (map natural ws) ≡ ws
numbers-back [] small = refl
numbers-back (w ∷ ws) small =
    ap₂ ◌∷◌ (sym (natural-pos w (natural w) refl (omega (arith, small 0 (omega arith))))) (numbers-back ws (λ i h. small (suc i) (omega arith)))

lengths-back : (header : List ℤ) → header_fits Source header ≡ true → map pos (layout_of Source header).lengths ≡ drop 1 header
unfolding layout_of array_length
lengths-back header fits = numbers-back (drop 1 header) (λ i h. ((header_fits-facts Source header fits).each_length i h).1)

variables-back : (header : List ℤ) → header_fits Source header ≡ true → pos (layout_of Source header).variables ≡ get_or header 0 (pos 0)
unfolding layout_of
variables-back header fits =
    sym (natural-pos (get_or header 0 (pos 0)) (natural (get_or header 0 (pos 0))) refl (omega (arith, (header_fits-facts Source header fits).few_variables)))

kernel-header-words : (header : List ℤ) (D T : ℕ) → header_fits Source header ≡ true → (get_or header 0 (pos 0) ∷ pos D ∷ pos T ∷ []) ++ drop 1 header ≡ kernel_header (layout_of Source header) D T
unfolding kernel_header
kernel-header-words header D T fits = ap₂ (λ (v : ℤ) (ls : List ℤ). v ∷ pos D ∷ pos T ∷ ls) (sym (variables-back header fits)) (sym (lengths-back header fits))

pub kernel-header-length : (header : List ℤ) (D T : ℕ) → header_fits Source header ≡ true → length (kernel_header (layout_of Source header) D T) ≡ length header + 2
unfolding kernel_header
kernel-header-length header D T fits =
    let lengths = length-map (layout_of Source header).lengths pos in
    omega (arith, lengths, number-of-arrays Source header, (header_fits-facts Source header fits).least)

-- V, D and T written first, then the array lengths behind them.
pub header-over : (header : List ℤ) (D T : ℕ) (out l1 l2 : List ℤ) (v d t : ℤ) → header_fits Source header ≡ true → v ≡ get_or header 0 (pos 0) → d ≡ pos D → t ≡ pos T
    → l1 ≡ over (v ∷ d ∷ t ∷ []) out → l2 ≡ over (take (length header - 1) (drop 1 header)) (mid_of 3 (length l1 - 3) l1)
    → put_mid 3 (length l1 - 3) l1 l2 ≡ over (kernel_header (layout_of Source header) D T) out
header-over header D T out l1 l2 v d t fits ve de te e1 e2 =
    let words : (v ∷ d ∷ t ∷ []) ++ drop 1 header ≡ kernel_header (layout_of Source header) D T = rw (ve, de, te) (kernel-header-words header D T fits) in
    over-next (v ∷ d ∷ t ∷ []) (drop 1 header) out l1 l2 3 refl e1 (rw (rest_of header 1) at e2) ∙ ap (λ (ws : List ℤ). over ws out) words
