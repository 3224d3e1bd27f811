-- Texts by where a separator parts them, or by what stands around them.
use Rattle.std.specs.Prelude.{◌≡◌, refl, Bool, true, false, ℕ, ◌+◌, ◌-◌, ◌≤◌, ◌<◌, eqb, ltb, take, drop, None}
use Rattle.std.proofs.Common.{sym, ap, ◌∙◌, arith}
use Rattle.std.proofs.Math.Path.{ap₂}
use mathlib.Core.List.{List, [], ◌∷◌}
use Rattle.std.proofs.Math.ListN.{length}
use borrow.Author.Tests.{eq-eqb, ne_eqb, lt-ltb, le-ltb}
use Rattle.words.specs.Laws.{by_cases}
use Rattle.words.specs.OverLaws.{rest_of}
use Rattle.text_lines.specs.Reader.{piece_end}
use Rattle.page_words.specs.Compare.{is_prefix, is_word, is_framed, middle}
use Rattle.page_words.specs.Reads.{number_read, atom_read, name_of, element_of, element_in, element_read, operator_read, binary_of, binary_read, several_read, single_read, value_read, assignment_of, argument_read, assignment_read}
use Rattle.page_words.specs.declared.Names.{Names}

-- ---- whole words, and frames

pub other_word : (word text : List ℕ) → (length text ≡ length word → ⊥) → false ≡ is_word word text
unfolding is_word
other_word word text f = rw (ne_eqb (length text) (length word) f)

pub as-long-word : (word text : List ℕ) → length text ≡ length word → is_prefix word (drop 0 text) ≡ is_word word text
unfolding is_word
as-long-word word text e = rw (eq-eqb (length text) (length word) e)

module _ (before behind text : List ℕ) where
  pub framed-short : length text < length before + length behind → false ≡ is_framed before behind text
  unfolding is_framed
  framed-short h = rw (lt-ltb (length text) (length before + length behind) h)

  pub framed-begins : length before + length behind ≤ length text → is_prefix before (drop 0 text) ≡ false → false ≡ is_framed before behind text
  unfolding is_framed
  framed-begins h e = rw (le-ltb (length text) (length before + length behind) h, e)

  pub framed-ends : length before + length behind ≤ length text → is_prefix before (drop 0 text) ≡ true → is_prefix behind (drop (length text - length behind) text) ≡ is_framed before behind text
  unfolding is_framed
  framed-ends h e = rw (le-ltb (length text) (length before + length behind) h, e)

-- ---- separators

within : (separator : ℕ) (bytes : List ℕ) → piece_end separator bytes ≤ length bytes
unfolding piece_end
within separator [] = omega arith
within separator (byte ∷ bytes) = by_cases (eqb byte separator) (λ t. rw t (omega arith)) (λ t. rw t (omega (arith, within separator bytes)))

-- `piece_end` from the start of a text.
module _ (separator : ℕ) (bytes : List ℕ) (end : ℕ) (e : end ≡ 0 + piece_end separator bytes) where
  pub piece-within : end ≤ length bytes
  piece-within = omega (arith, within separator bytes)

  pub piece_is : end ≡ piece_end separator bytes
  piece_is = omega arith

-- A part from the start.
front : (end : ℕ) (bytes : List ℕ) → take (end - 0) (drop 0 bytes) ≡ take end bytes
front end bytes = let z : end - 0 ≡ end = omega arith in ap (λ (n : ℕ). take n bytes) z

module _ (names : Names) where
  module _ (inner : List ℕ) (end : ℕ) (e : end ≡ 0 + piece_end 91 inner) where
    is : end ≡ piece_end 91 inner
    is = piece_is 91 inner end e

    pub element-unparted : end ≡ length inner → None ≡ element_in names inner
    unfolding element_in
    element-unparted h = rw (eq-eqb (piece_end 91 inner) (length inner) (sym is ∙ h))

    pub element-parted : (end ≡ length inner → ⊥)
        → element_of (number_read names.arrays (take (end - 0) (drop 0 inner))) (atom_read names (take (length inner - (end + 1)) (drop (end + 1) inner))) ≡ element_in names inner
    unfolding element_in
    element-parted f =
        ap₂ (λ (l m : List ℕ). element_of (number_read names.arrays l) (atom_read names m)) (front end inner) (rest_of inner (end + 1))
        ∙ rw (is, ne_eqb (piece_end 91 inner) (length inner) (λ h. f (is ∙ h)))

  module _ (first rest : List ℕ) (end : ℕ) (e : end ≡ 0 + piece_end 32 rest) where
    at : end ≡ piece_end 32 rest
    at = piece_is 32 rest end e

    pub binary-unparted : end ≡ length rest → None ≡ binary_read names first rest
    unfolding binary_read
    binary-unparted h = rw (eq-eqb (piece_end 32 rest) (length rest) (sym at ∙ h))

    pub binary-parted : (end ≡ length rest → ⊥)
        → binary_of (operator_read (take (end - 0) (drop 0 rest))) (atom_read names first) (atom_read names (take (length rest - (end + 1)) (drop (end + 1) rest))) ≡ binary_read names first rest
    unfolding binary_read
    binary-parted f =
        ap₂ (λ (l m : List ℕ). binary_of (operator_read l) (atom_read names first) (atom_read names m)) (front end rest) (rest_of rest (end + 1))
        ∙ rw (at, ne_eqb (piece_end 32 rest) (length rest) (λ h. f (at ∙ h)))

  module _ (text : List ℕ) (end : ℕ) (e : end ≡ 0 + piece_end 32 text) where
    here : end ≡ piece_end 32 text
    here = piece_is 32 text end e

    pub value-unparted : end ≡ length text → single_read names text ≡ value_read names text
    unfolding value_read
    value-unparted h = rw (eq-eqb (piece_end 32 text) (length text) (sym here ∙ h))

    pub value-parted : (end ≡ length text → ⊥) → several_read names (take (end - 0) (drop 0 text)) (take (length text - (end + 1)) (drop (end + 1) text)) ≡ value_read names text
    unfolding value_read
    value-parted f =
        ap₂ (λ (l m : List ℕ). several_read names l m) (front end text) (rest_of text (end + 1)) ∙ rw (here, ne_eqb (piece_end 32 text) (length text) (λ h. f (here ∙ h)))

    -- the target of an assignment, and the rest of it
    target_is : take (end - 0) (drop 0 text) ≡ take (piece_end 32 text) text
    target_is = front end text ∙ ap (λ (n : ℕ). take n text) here

    rest_is : take (length text - end) (drop end text) ≡ drop (piece_end 32 text) text
    rest_is = rest_of text end ∙ ap (λ (n : ℕ). drop n text) here

    pub assignment-unparted : end ≡ length text → argument_read names text ≡ assignment_read names text
    unfolding assignment_read
    assignment-unparted h = rw (eq-eqb (piece_end 32 text) (length text) (sym here ∙ h))

    pub assignment-parted : (end ≡ length text → ⊥) → assignment_of names (take (end - 0) (drop 0 text)) (take (length text - end) (drop end text)) ≡ assignment_read names text
    unfolding assignment_read
    assignment-parted f = ap₂ (λ (l m : List ℕ). assignment_of names l m) target_is rest_is ∙ rw (ne_eqb (piece_end 32 text) (length text) (λ h. f (here ∙ h)))
