-- Sound: bytes that are read as an atom, an element or a value are its bytes, and it fits.
use Rattle.std.proofs.Math.Path.{◌≡◌, refl, ap, ap₂}
use Rattle.std.proofs.Common.{sym, ◌∙◌, arith, eqb-true, ltb-true}
use Rattle.std.specs.Prelude.{true, false, ℕ, ◌+◌, ◌^◌, ◌≤◌, ◌<◌, eqb, ltb, ℤ, pos, length, None, Some, Option}
use mathlib.Core.List.{List, [], ◌∷◌, ◌++◌}
use Rattle.std.specs.Int.Signed.{mag}
use Rattle.std.proofs.Math.ListN.{take, drop}
use Rattle.std.proofs.lemmas.Bool.{eqb-false}
use Rattle.words.specs.Laws.{by_cases}
use Rattle.words.specs.declared.Operator.{Operator}
use Rattle.words.specs.declared.Operator.TheVariants.{Add, Subtract, Multiply, Divide, Remainder, Less, Greater, LessOrEqual, GreaterOrEqual, Equal, NotEqual}
use Rattle.text_numbers.specs.Number.{digits, number_bytes, natural_of, decimal, is_digit, positive, number_of}
use Rattle.text_numbers.specs.NumberLaws.{not_some, word-is, IsNumber, number-reads}
use Rattle.text_lines.specs.Reader.{piece_end}
use Rattle.page.specs.Page.{operator_word}
use Rattle.page_words.specs.Compare.{is_word, is_framed, middle}
use Rattle.page_words.specs.CompareLaws.{never, word_sound, framed-sound, piece-splits}
use Rattle.page_words.specs.Texts.{atom_text, element_text, value_text, AtomFits, ElementFits, ValueFits}
use Rattle.page_words.specs.Reads.{below_of, number_read, variable_of, declared_word_of, temporary_of, constant_of, atom_read, element_of, element_in, element_read, operator_of_one, operator_of_two, operator_read, single_of, called_of, minus_of, binary_of, binary_read, several_read, single_read, value_read}
use Rattle.page_words.specs.declared.Names.{Names}
use Rattle.page_words.specs.declared.PageAtom.{PageAtom}
use Rattle.page_words.specs.declared.PageAtom.TheVariants.{Constant, Variable, Declared, Temporary}
use Rattle.page_words.specs.declared.Value.{Value}
use Rattle.page_words.specs.declared.Value.TheVariants.{Single, Element, Minus, Binary, Call}

-- ---- numbers

natural-minus : (others : List ℕ) → natural_of (45 ∷ others) ≡ None
unfolding natural_of decimal is_digit
natural-minus [] = refl
natural-minus (second ∷ others) = refl

natural-plain : (bytes : List ℕ) (n : ℕ) → natural_of bytes ≡ Some n → number_of bytes ≡ positive (Some n)
unfolding number_of natural_of
natural-plain [] n e = not_some e
natural-plain (first ∷ others) n e =
    by_cases (eqb first 45)
    (λ t. not_some (sym (natural-minus others) ∙ ap (λ (byte : ℕ). natural_of (byte ∷ others)) (sym (eqb-true first 45 t)) ∙ e))
    (λ t. rw t (ap positive e))

natural-sound : (bytes : List ℕ) (n : ℕ) → n < 2147483648 → natural_of bytes ≡ Some n → bytes ≡ digits n
unfolding number_bytes positive
natural-sound bytes n h e = (number-reads bytes (pos n) (natural-plain bytes n e ∙ word-is (pos n) (omega arith))).written

-- what a word is that is read as a number, with its bound
pub below-sound : (bound : ℕ) (word : List ℕ) (n : ℕ) → bound ≤ 2147483648 → number_read bound word ≡ Some n → (word ≡ digits n) × (n < bound)
unfolding number_read
below-sound bound word n h = from (natural_of word) refl
  where
    from : (value : Option ℕ) → natural_of word ≡ value → below_of bound value ≡ Some n → (word ≡ digits n) × (n < bound)
    from None q e = absurd (let z : ◌≡◌ {A = ℕ} 0 1 = cc in omega arith)
    from (Some m) q e =
        by_cases (ltb m bound)
        (λ t.
        let less : m < bound = ltb-true m bound t in
        let found : Some m ≡ Some n = rw t at e in
        let equal : m ≡ n = cc in
        (natural-sound word m (omega arith) q ∙ ap digits equal, omega arith))
        (λ t. absurd (let found : None ≡ Some n = rw t at e in let z : ◌≡◌ {A = ℕ} 0 1 = cc in omega arith))

-- ---- operators

no-operator : {G : Type 0} (o : Operator) → None ≡ Some o → G
no-operator o e = absurd (let z : ◌≡◌ {A = ℕ} 0 1 = cc in omega arith)

module _ (word : ℕ → List ℕ) where
  spelt : (byte code : ℕ) (found o : Operator) → eqb byte code ≡ true → word code ≡ operator_word found → Some found ≡ Some o → word byte ≡ operator_word o
  spelt byte code found o t w e = let same : found ≡ o = cc in rw (← same, eqb-true byte code t) w

one-sound : (byte : ℕ) (o : Operator) → operator_of_one byte ≡ Some o → byte ∷ [] ≡ operator_word o
unfolding operator_of_one
one-sound byte o e =
    by_cases (eqb byte 43)
    (λ t0. spelt (λ b. b ∷ []) byte 43 Add o t0 refl (rw t0 at e))
    (λ t0. by_cases (eqb byte 45)
    (λ t1. spelt (λ b. b ∷ []) byte 45 Subtract o t1 refl (rw (t0, t1) at e))
    (λ t1. by_cases (eqb byte 42)
    (λ t2. spelt (λ b. b ∷ []) byte 42 Multiply o t2 refl (rw (t0, t1, t2) at e))
    (λ t2. by_cases (eqb byte 47)
    (λ t3. spelt (λ b. b ∷ []) byte 47 Divide o t3 refl (rw (t0, t1, t2, t3) at e))
    (λ t3. by_cases (eqb byte 37)
    (λ t4. spelt (λ b. b ∷ []) byte 37 Remainder o t4 refl (rw (t0, t1, t2, t3, t4) at e))
    (λ t4. by_cases (eqb byte 60)
    (λ t5. spelt (λ b. b ∷ []) byte 60 Less o t5 refl (rw (t0, t1, t2, t3, t4, t5) at e))
    (λ t5. by_cases (eqb byte 62)
    (λ t6. spelt (λ b. b ∷ []) byte 62 Greater o t6 refl (rw (t0, t1, t2, t3, t4, t5, t6) at e))
    (λ t6. no-operator o (rw (t0, t1, t2, t3, t4, t5, t6) at e))))))))

two-sound : (byte : ℕ) (o : Operator) → operator_of_two byte ≡ Some o → byte ∷ (61 ∷ []) ≡ operator_word o
unfolding operator_of_two
two-sound byte o e =
    by_cases (eqb byte 60)
    (λ t0. spelt (λ b. b ∷ (61 ∷ [])) byte 60 LessOrEqual o t0 refl (rw t0 at e))
    (λ t0. by_cases (eqb byte 62)
    (λ t1. spelt (λ b. b ∷ (61 ∷ [])) byte 62 GreaterOrEqual o t1 refl (rw (t0, t1) at e))
    (λ t1. by_cases (eqb byte 61)
    (λ t2. spelt (λ b. b ∷ (61 ∷ [])) byte 61 Equal o t2 refl (rw (t0, t1, t2) at e))
    (λ t2. by_cases (eqb byte 33)
    (λ t3. spelt (λ b. b ∷ (61 ∷ [])) byte 33 NotEqual o t3 refl (rw (t0, t1, t2, t3) at e))
    (λ t3. no-operator o (rw (t0, t1, t2, t3) at e)))))

operator-sound : (word : List ℕ) (o : Operator) → operator_read word ≡ Some o → word ≡ operator_word o
unfolding operator_read
operator-sound [] o e = no-operator o e
operator-sound (first ∷ []) o e = one-sound first o e
operator-sound (first ∷ (second ∷ [])) o e =
    by_cases (eqb second 61) (λ t. rw (eqb-true second 61 t) (two-sound first o (rw t at e))) (λ t. no-operator o (rw t at e))
operator-sound (first ∷ (second ∷ (third ∷ others))) o e = no-operator o e

module _ (names : Names) (few_variables : names.variables ≤ 256) (few_behind : names.declared + names.temporaries ≤ 8256) (few_arrays : names.arrays ≤ 32) where
  -- ---- atoms

  variable-sound : (others : List ℕ) (r : Option ℕ) (a : PageAtom) → number_read names.variables others ≡ r → variable_of r ≡ Some a → (118 ∷ others ≡ atom_text a) × AtomFits names a
  variable-sound others None a q e = absurd (let z : ◌≡◌ {A = ℕ} 0 1 = cc in omega arith)
  variable-sound others (Some n) a q e =
      let f = below-sound names.variables others n (omega arith) q in
      let same : Variable n ≡ a = cc in
      rw (← same) (ap (λ (l : List ℕ). 118 ∷ l) f.0, f.1)

  declared-sound : (others : List ℕ) (r : Option ℕ) (a : PageAtom) → number_read names.declared others ≡ r → declared_word_of r ≡ Some a → (108 ∷ others ≡ atom_text a) × AtomFits names a
  declared-sound others None a q e = absurd (let z : ◌≡◌ {A = ℕ} 0 1 = cc in omega arith)
  declared-sound others (Some n) a q e =
      let f = below-sound names.declared others n (omega arith) q in
      let same : Declared n ≡ a = cc in
      rw (← same) (ap (λ (l : List ℕ). 108 ∷ l) f.0, f.1)

  temporary-sound : (others : List ℕ) (r : Option ℕ) (a : PageAtom) → number_read names.temporaries others ≡ r → temporary_of r ≡ Some a → (116 ∷ others ≡ atom_text a) × AtomFits names a
  temporary-sound others None a q e = absurd (let z : ◌≡◌ {A = ℕ} 0 1 = cc in omega arith)
  temporary-sound others (Some n) a q e =
      let f = below-sound names.temporaries others n (omega arith) q in
      let same : Temporary n ≡ a = cc in
      rw (← same) (ap (λ (l : List ℕ). 116 ∷ l) f.0, f.1)

  constant-sound : (word : List ℕ) (r : Option ℤ) (a : PageAtom) → number_of word ≡ r → constant_of r ≡ Some a → (word ≡ atom_text a) × AtomFits names a
  constant-sound word None a q e = absurd (let z : ◌≡◌ {A = ℕ} 0 1 = cc in omega arith)
  constant-sound word (Some v) a q e =
      let f = number-reads word v q in
      let same : Constant v ≡ a = cc in
      rw (← same) (f.written, f.fits)

  pub atom-sound : (word : List ℕ) (a : PageAtom) → atom_read names word ≡ Some a → (word ≡ atom_text a) × AtomFits names a
  unfolding atom_read
  atom-sound [] a e = absurd (let z : ◌≡◌ {A = ℕ} 0 1 = cc in omega arith)
  atom-sound (first ∷ others) a e =
      by_cases (eqb first 118)
      (λ t. rw (eqb-true first 118 t) (variable-sound others (number_read names.variables others) a refl (rw t at e)))
      (λ t. by_cases (eqb first 108)
      (λ u. rw (eqb-true first 108 u) (declared-sound others (number_read names.declared others) a refl (rw (t, u) at e)))
      (λ u. by_cases (eqb first 116)
      (λ w. rw (eqb-true first 116 w) (temporary-sound others (number_read names.temporaries others) a refl (rw (t, u, w) at e)))
      (λ w. constant-sound (first ∷ others) (number_of (first ∷ others)) a refl (rw (t, u, w) at e))))

  -- ---- elements

  element-of-sound : (number index : List ℕ) (r : Option ℕ) (s : Option PageAtom) (array : ℕ) (a : PageAtom) → number_read names.arrays number ≡ r → atom_read names index ≡ s
      → element_of r s ≡ Some (array, a) → (number ≡ digits array) × (index ≡ atom_text a) × ElementFits names array a
  element-of-sound number index None s array a q p e = absurd (let z : ◌≡◌ {A = ℕ} 0 1 = cc in omega arith)
  element-of-sound number index (Some n) None array a q p e = absurd (let z : ◌≡◌ {A = ℕ} 0 1 = cc in omega arith)
  element-of-sound number index (Some n) (Some b) array a q p e =
      let f = below-sound names.arrays number n (omega arith) q in
      let g = atom-sound index b p in
      let pair : ◌≡◌ {A = ℕ × PageAtom} (n, b) (array, a) = cc in
      let same-array : n ≡ array = ap (λ (x : ℕ × PageAtom). x.0) pair in
      let same_index : b ≡ a = ap (λ (x : ℕ × PageAtom). x.1) pair in
      rw (← same-array, ← same_index) (f.0, g.0, (f.1, g.1))

  element-in-sound : (inner : List ℕ) (array : ℕ) (a : PageAtom) → element_in names inner ≡ Some (array, a) → (inner ≡ digits array ++ (91 ∷ atom_text a)) × ElementFits names array a
  unfolding element_in
  element-in-sound inner array a e =
      by_cases (eqb (piece_end 91 inner) (length inner))
      (λ t. absurd (let found : None ≡ Some (array, a) = rw t at e in let z : ◌≡◌ {A = ℕ} 0 1 = cc in omega arith))
      (λ t.
      let number = take (piece_end 91 inner) inner in
      let index = drop (piece_end 91 inner + 1) inner in
      let f = element-of-sound number index (number_read names.arrays number) (atom_read names index) array a refl refl (rw t at e) in
      (piece-splits 91 inner (eqb-false _ _ t) ∙ ap₂ (λ (l m : List ℕ). l ++ (91 ∷ m)) f.0 f.1, f.2))

  pub element-sound : (word : List ℕ) (array : ℕ) (a : PageAtom) → element_read names word ≡ Some (array, a) → (word ≡ element_text array a) × ElementFits names array a
  unfolding element_read
  element-sound word array a e =
      by_cases (is_framed (97 ∷ []) (93 ∷ []) word)
      (λ t.
      let f = element-in-sound (middle 1 1 word) array a (rw t at e) in
      (framed-sound (97 ∷ []) (93 ∷ []) word t ∙ ap (λ (l : List ℕ). (97 ∷ []) ++ (l ++ (93 ∷ []))) f.0, f.1))
      (λ t. absurd (let found : None ≡ Some (array, a) = rw t at e in let z : ◌≡◌ {A = ℕ} 0 1 = cc in omega arith))

  -- ---- values

  single-sound : (word : List ℕ) (r : Option (ℕ × PageAtom)) (s : Option PageAtom) (v : Value) → element_read names word ≡ r → atom_read names word ≡ s → single_of r s ≡ Some v
      → (word ≡ value_text v) × ValueFits names v
  single-sound word (Some (array, a)) s v q p e = let same : Element array a ≡ v = cc in rw (← same) (element-sound word array a q)
  single-sound word None (Some a) v q p e = let same : Single a ≡ v = cc in rw (← same) (atom-sound word a p)
  single-sound word None None v q p e = absurd (let z : ◌≡◌ {A = ℕ} 0 1 = cc in omega arith)

  minus-sound : (rest : List ℕ) (r : Option PageAtom) (v : Value) → atom_read names rest ≡ r → minus_of r ≡ Some v → ((45 ∷ []) ++ (32 ∷ rest) ≡ value_text v) × ValueFits names v
  minus-sound rest None v q e = absurd (let z : ◌≡◌ {A = ℕ} 0 1 = cc in omega arith)
  minus-sound rest (Some a) v q e =
      let f = atom-sound rest a q in
      let same : Minus a ≡ v = cc in
      rw (← same) (ap (λ (l : List ℕ). 45 ∷ (32 ∷ l)) f.0, f.1)

  binary-of-sound : (left operator right : List ℕ) (o : Option Operator) (r s : Option PageAtom) (v : Value) → operator_read operator ≡ o → atom_read names left ≡ r → atom_read names right ≡ s
      → binary_of o r s ≡ Some v → (left ++ (32 ∷ (operator ++ (32 ∷ right))) ≡ value_text v) × ValueFits names v
  binary-of-sound left operator right None r s v h q p e = absurd (let z : ◌≡◌ {A = ℕ} 0 1 = cc in omega arith)
  binary-of-sound left operator right (Some o) None s v h q p e = absurd (let z : ◌≡◌ {A = ℕ} 0 1 = cc in omega arith)
  binary-of-sound left operator right (Some o) (Some a) None v h q p e = absurd (let z : ◌≡◌ {A = ℕ} 0 1 = cc in omega arith)
  binary-of-sound left operator right (Some o) (Some a) (Some b) v h q p e =
      let f = atom-sound left a q in
      let g = atom-sound right b p in
      let same : Binary o a b ≡ v = cc in
      rw (← same) (rw (f.0, g.0, operator-sound operator o h), (f.1, g.1))

  binary-sound : (first rest : List ℕ) (v : Value) → binary_read names first rest ≡ Some v → (first ++ (32 ∷ rest) ≡ value_text v) × ValueFits names v
  unfolding binary_read
  binary-sound first rest v e =
      by_cases (eqb (piece_end 32 rest) (length rest))
      (λ t. absurd (let found : None ≡ Some v = rw t at e in let z : ◌≡◌ {A = ℕ} 0 1 = cc in omega arith))
      (λ t.
      let operator = take (piece_end 32 rest) rest in
      let right = drop (piece_end 32 rest + 1) rest in
      let f = binary-of-sound first operator right (operator_read operator) (atom_read names first) (atom_read names right) v refl refl refl (rw t at e) in
      (ap (λ (l : List ℕ). first ++ (32 ∷ l)) (piece-splits 32 rest (eqb-false _ _ t)) ∙ f.0, f.1))

  several-sound : (first rest : List ℕ) (v : Value) → several_read names first rest ≡ Some v → (first ++ (32 ∷ rest) ≡ value_text v) × ValueFits names v
  unfolding several_read
  several-sound first rest v e =
      by_cases (is_word (45 ∷ []) first)
      (λ t. rw (word_sound (45 ∷ []) first t) (minus-sound rest (atom_read names rest) v refl (rw t at e)))
      (λ t. binary-sound first rest v (rw t at e))

  called-sound : (word : List ℕ) (r : Option ℕ) (v : Value) → number_read 40980 word ≡ r → called_of r ≡ Some v → ((102 ∷ []) ++ (word ++ (40 ∷ 41 ∷ [])) ≡ value_text v) × ValueFits names v
  called-sound word None v q e = absurd (let z : ◌≡◌ {A = ℕ} 0 1 = cc in omega arith)
  called-sound word (Some f) v q e = let g = below-sound 40980 word f (omega arith) q in let same : Call f ≡ v = cc in rw (← same) (rw g.0, g.1)

  single-read-sound : (text : List ℕ) (v : Value) → single_read names text ≡ Some v → (text ≡ value_text v) × ValueFits names v
  unfolding single_read
  single-read-sound text v e =
      by_cases (is_framed (102 ∷ []) (40 ∷ 41 ∷ []) text)
      (λ t.
      let f = called-sound (middle 1 2 text) (number_read 40980 (middle 1 2 text)) v refl (rw t at e) in
      (framed-sound (102 ∷ []) (40 ∷ 41 ∷ []) text t ∙ f.0, f.1))
      (λ t. single-sound text (element_read names text) (atom_read names text) v refl refl (rw t at e))

  pub value-sound : (text : List ℕ) (v : Value) → value_read names text ≡ Some v → (text ≡ value_text v) × ValueFits names v
  unfolding value_read
  value-sound text v e =
      by_cases (eqb (piece_end 32 text) (length text))
      (λ t. single-read-sound text v (rw t at e))
      (λ t.
      let f = several-sound (take (piece_end 32 text) text) (drop (piece_end 32 text + 1) text) v (rw t at e) in
      (piece-splits 32 text (eqb-false _ _ t) ∙ f.0, f.1))
