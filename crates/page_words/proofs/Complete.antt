-- Complete: the bytes of each atom, element or value that fits are read as it.
use Rattle.std.specs.Prelude.{◌≡◌, true, false, ◌⊎◌, ℕ, suc, ◌+◌, ◌≤◌, ◌<◌, eqb, ltb, ℤ, pos, negsuc, length, take, drop, None, Some}
use Rattle.std.proofs.Math.Path.{refl, ap, ap₂}
use Rattle.std.proofs.Common.{sym, ◌∙◌, inl, inr, length-append, eq-eqb, ne_eqb, lt-ltb}
use mathlib.Core.List.{List, [], ◌∷◌, ◌++◌, append_assoc, append-nil}
use native.Mathlib.Omega.{arith}
use Rattle.words.specs.Laws.{by_cases}
use Rattle.words.specs.declared.Operator.{Operator}
use Rattle.words.specs.declared.Operator.TheVariants.{Add, Subtract, Multiply, Divide, Remainder, Less, Greater, LessOrEqual, GreaterOrEqual, Equal, NotEqual}
use Rattle.text_numbers.specs.Number.{digits, number_bytes, number_of}
use Rattle.text_numbers.specs.NumberLaws.{Free, free-append, natural-shows, number-shows, length_some}
use Rattle.text_lines.specs.Reader.{piece_end}
use Rattle.page.specs.Page.{operator_word}
use Rattle.page.proofs.WordLaws.{Between, between-free, wider, digits_between, number-between, IsWord, number_word, operator-word}
use Rattle.page_words.specs.Compare.{is_prefix, is_word, is_framed, middle}
use Rattle.page_words.specs.CompareLaws.{framed-complete, middle-complete, piece-all, piece-first, piece-behind, piece_inside}
use Rattle.page_words.specs.Texts.{atom_text, element_text, value_text, AtomFits, NameFits, ElementFits, ValueFits}
use Rattle.page_words.specs.Reads.{below_of, number_read, variable_of, declared_word_of, temporary_of, constant_of, atom_read, name_of, element_of, element_in, element_read, operator_of_one, operator_of_two, operator_read, single_of, called_of, minus_of, binary_of, binary_read, several_read, single_read, value_read}
use Rattle.page_words.specs.declared.Names.{Names}
use Rattle.page_words.specs.declared.PageAtom.{PageAtom}
use Rattle.page_words.specs.declared.PageAtom.TheVariants.{Constant, Variable, Declared, Temporary}
use Rattle.page_words.specs.declared.Value.{Value}
use Rattle.page_words.specs.declared.Value.TheVariants.{Single, Element, Minus, Binary, Call}

-- ---- what a text is not

pub not-word : (word text : List ℕ) → is_prefix word text ≡ false → is_word word text ≡ false
unfolding is_word
not-word word text e = by_cases (eqb (length text) (length word)) (λ t. rw (t, e)) (λ t. rw t)

pub not-framed : (before behind text : List ℕ) → is_prefix before text ≡ false → is_framed before behind text ≡ false
unfolding is_framed
not-framed before behind text e = by_cases (ltb (length text) (length before + length behind)) (λ t. rw t) (λ t. rw (t, e))

-- bytes of a range do not begin with one outside it
pub first-other : (byte least most : ℕ) (more xs ys : List ℕ) → 1 ≤ length xs → Between least most xs → (byte < least) ⊎ (most < byte) → is_prefix (byte ∷ more) (xs ++ ys) ≡ false
unfolding is_prefix Between
first-other byte least most more [] ys h b o = absurd (omega arith)
first-other byte least most more (x ∷ xs) ys h b o = rw (ne_eqb x byte (λ e. out o e))
  where
    out : (byte < least) ⊎ (most < byte) → x ≡ byte → ⊥
    out (inl a) e = omega (arith, b.0)
    out (inr a) e = omega (arith, b.1)

-- ---- numbers and operators

pub number-complete : (bound n : ℕ) → n < bound → number_read bound (digits n) ≡ Some n
unfolding number_read
number-complete bound n h = rw (natural-shows n, lt-ltb n bound h)

operator-complete : (o : Operator) → operator_read (operator_word o) ≡ Some o
unfolding operator_read operator_of_one operator_of_two
operator-complete Add = refl
operator-complete Subtract = refl
operator-complete Multiply = refl
operator-complete Divide = refl
operator-complete Remainder = refl
operator-complete Less = refl
operator-complete Greater = refl
operator-complete LessOrEqual = refl
operator-complete GreaterOrEqual = refl
operator-complete Equal = refl
operator-complete NotEqual = refl

-- ---- atoms

digits-free : (separator n : ℕ) → (separator < 48) ⊎ (57 < separator) → Free separator (digits n)
digits-free separator n o = between-free 48 57 separator (digits n) o (digits_between n)

-- An atom has neither blanks nor brackets.
atom-free : (separator : ℕ) (a : PageAtom) → (separator < 45) ⊎ ((57 < separator) × (separator < 108)) → Free separator (atom_text a)
unfolding Free
atom-free separator (Constant v) (inl h) = between-free 45 57 separator (number_bytes v) (inl h) (number-between v)
atom-free separator (Constant v) (inr h) = between-free 45 57 separator (number_bytes v) (inr h.0) (number-between v)
atom-free separator (Variable n) (inl h) = (λ e. omega arith, digits-free separator n (inl (omega arith)))
atom-free separator (Variable n) (inr h) = (λ e. omega (arith, h.1), digits-free separator n (inr h.0))
atom-free separator (Declared n) (inl h) = (λ e. omega arith, digits-free separator n (inl (omega arith)))
atom-free separator (Declared n) (inr h) = (λ e. omega (arith, h.1), digits-free separator n (inr h.0))
atom-free separator (Temporary n) (inl h) = (λ e. omega arith, digits-free separator n (inl (omega arith)))
atom-free separator (Temporary n) (inr h) = (λ e. omega (arith, h.1), digits-free separator n (inr h.0))

pub no_blank : (a : PageAtom) → Free 32 (atom_text a)
no_blank a = atom-free 32 a (inl (omega arith))

-- It does not begin with a byte behind the digits but v, l and t.
pub not-begun : (byte : ℕ) (more : List ℕ) (a : PageAtom) (ys : List ℕ) → (118 ≡ byte → ⊥) → (108 ≡ byte → ⊥) → (116 ≡ byte → ⊥) → 57 < byte → is_prefix (byte ∷ more) (atom_text a ++ ys) ≡ false
unfolding is_prefix
not-begun byte more (Constant v) ys f g h b = first-other byte 45 57 more (number_bytes v) ys (number_word v).some_byte (number-between v) (inr b)
not-begun byte more (Variable n) ys f g h b = rw (ne_eqb 118 byte f)
not-begun byte more (Declared n) ys f g h b = rw (ne_eqb 108 byte g)
not-begun byte more (Temporary n) ys f g h b = rw (ne_eqb 116 byte h)

constant-read : (names : Names) (word : List ℕ) → 1 ≤ length word → Between 45 57 word → atom_read names word ≡ constant_of (number_of word)
unfolding atom_read Between
constant-read names [] h b = absurd (omega arith)
constant-read names (first ∷ others) h b = rw (ne_eqb first 118 (λ e. omega (arith, b.1)), ne_eqb first 108 (λ e. omega (arith, b.1)), ne_eqb first 116 (λ e. omega (arith, b.1)))

-- No atom is a sign alone.
no_sign : (a : PageAtom) → is_word (45 ∷ []) (atom_text a) ≡ false
unfolding is_word is_prefix number_bytes
no_sign (Constant (pos n)) =
    not-word (45 ∷ []) (digits n) (ap (is_prefix (45 ∷ [])) (sym (append-nil (digits n))) ∙ first-other 45 48 57 [] (digits n) [] (length_some n) (digits_between n) (inl (omega arith)))
no_sign (Constant (negsuc n)) = rw (ne_eqb (length (45 ∷ digits (suc n))) 1 (λ e. omega (arith, length_some (suc n))))
no_sign (Variable n) = not-word (45 ∷ []) (118 ∷ digits n) refl
no_sign (Declared n) = not-word (45 ∷ []) (108 ∷ digits n) refl
no_sign (Temporary n) = not-word (45 ∷ []) (116 ∷ digits n) refl

module _ (names : Names) where
  pub atom-complete : (a : PageAtom) → AtomFits names a → atom_read names (atom_text a) ≡ Some a
  unfolding atom_read
  atom-complete (Constant v) h = constant-read names (number_bytes v) (number_word v).some_byte (number-between v) ∙ ap constant_of (number-shows v h)
  atom-complete (Variable n) h = ap variable_of (number-complete names.variables n h)
  atom-complete (Declared n) h = ap declared_word_of (number-complete names.declared n h)
  atom-complete (Temporary n) h = ap temporary_of (number-complete names.temporaries n h)

  pub name-complete : (a : PageAtom) → NameFits names a → name_of (atom_read names (atom_text a)) ≡ Some a
  name-complete (Constant v) h = absurd h
  name-complete (Variable n) h = ap name_of (atom-complete (Variable n) h)
  name-complete (Declared n) h = ap name_of (atom-complete (Declared n) h)
  name-complete (Temporary n) h = ap name_of (atom-complete (Temporary n) h)

  -- ---- elements

  element-in-complete : (array : ℕ) (a : PageAtom) → ElementFits names array a → element_in names (digits array ++ (91 ∷ atom_text a)) ≡ Some (array, a)
  unfolding element_in
  element-in-complete array a h =
      let free : Free 91 (digits array) = digits-free 91 array (inr (omega arith)) in
      rw (
        piece_inside 91 (digits array) (atom_text a) free,
        piece-first 91 (digits array) (atom_text a) free,
        piece-behind 91 (digits array) (atom_text a) free,
        number-complete names.arrays array h.0,
        atom-complete a h.1,
      )

  pub element-complete : (array : ℕ) (a : PageAtom) → ElementFits names array a → element_read names (element_text array a) ≡ Some (array, a)
  unfolding element_read
  element-complete array a h =
      let inner = digits array ++ (91 ∷ atom_text a) in
      rw (framed-complete (97 ∷ []) inner (93 ∷ []), middle-complete (97 ∷ []) inner (93 ∷ [])) (element-in-complete array a h)

  pub no-element : (a : PageAtom) → element_read names (atom_text a) ≡ None
  unfolding element_read
  no-element a = rw (not-framed (97 ∷ []) (93 ∷ []) (atom_text a) (ap (is_prefix (97 ∷ [])) (sym (append-nil (atom_text a))) ∙ not-begun 97 [] a [] (λ e. omega arith) (λ e. omega arith) (λ e. omega arith) (omega arith)))

  pub element-free : (array : ℕ) (a : PageAtom) → Free 32 (element_text array a)
  unfolding Free
  element-free array a = (
    λ e. omega arith,
    free-append 32 (digits array ++ (91 ∷ atom_text a)) (93 ∷ []) (free-append 32 (digits array) (91 ∷ atom_text a) (digits-free 32 array (inl (omega arith))) (λ e. omega arith, no_blank a))
        (λ e. omega arith, tt),
  )

  -- ---- values

  several-complete : (first rest : List ℕ) → Free 32 first → value_read names (first ++ (32 ∷ rest)) ≡ several_read names first rest
  unfolding value_read
  several-complete first rest free = rw (piece_inside 32 first rest free, piece-first 32 first rest free, piece-behind 32 first rest free)

  binary-complete : (first operator right : List ℕ) → Free 32 operator → binary_read names first (operator ++ (32 ∷ right)) ≡ binary_of (operator_read operator) (atom_read names first) (atom_read names right)
  unfolding binary_read
  binary-complete first operator right free = rw (piece_inside 32 operator right free, piece-first 32 operator right free, piece-behind 32 operator right free)

  minus-complete : (a : PageAtom) → AtomFits names a → several_read names (45 ∷ []) (atom_text a) ≡ Some (Minus a)
  unfolding several_read is_word is_prefix
  minus-complete a h = ap minus_of (atom-complete a h)

  operation-complete : (o : Operator) (a b : PageAtom) → AtomFits names a → AtomFits names b → several_read names (atom_text a) (operator_word o ++ (32 ∷ atom_text b)) ≡ Some (Binary o a b)
  unfolding several_read
  operation-complete o a b h k =
      rw (no_sign a) (binary-complete (atom_text a) (operator_word o) (atom_text b) (operator-word o).no_blank ∙ rw (operator-complete o, atom-complete a h, atom-complete b k))

  single-complete : (word : List ℕ) → Free 32 word → value_read names word ≡ single_read names word
  unfolding value_read
  single-complete word free = rw (eq-eqb (piece_end 32 word) (length word) (piece-all 32 word free))

  -- An atom or an element is no call.
  single-uncalled : (text : List ℕ) → is_prefix (102 ∷ []) text ≡ false → single_read names text ≡ single_of (element_read names text) (atom_read names text)
  unfolding single_read
  single-uncalled text e = rw (not-framed (102 ∷ []) (40 ∷ 41 ∷ []) text e)

  called-complete : (f : ℕ) → f < 40980 → single_read names (value_text (Call f)) ≡ Some (Call f)
  unfolding single_read
  called-complete f h = rw (framed-complete (102 ∷ []) (digits f) (40 ∷ 41 ∷ []), middle-complete (102 ∷ []) (digits f) (40 ∷ 41 ∷ []), number-complete 40980 f h)

  called-free : (f : ℕ) → Free 32 (value_text (Call f))
  unfolding Free
  called-free f = (λ e. omega arith, free-append 32 (digits f) (40 ∷ 41 ∷ []) (digits-free 32 f (inl (omega arith))) (λ e. omega arith, (λ e. omega arith, tt)))

  pub value-complete : (v : Value) → ValueFits names v → value_read names (value_text v) ≡ Some v
  unfolding Free is_prefix
  value-complete (Single a) h =
      single-complete (atom_text a) (no_blank a) ∙ single-uncalled (atom_text a) (ap (is_prefix (102 ∷ [])) (sym (append-nil (atom_text a))) ∙ not-begun 102 [] a [] (λ e. omega arith) (λ e. omega arith) (λ e. omega arith) (omega arith))
      ∙ ap₂ single_of (no-element a) (atom-complete a h)
  value-complete (Element array a) h =
      single-complete (element_text array a) (element-free array a) ∙ single-uncalled (element_text array a) refl ∙ ap (λ r. single_of r (atom_read names (element_text array a))) (element-complete array a h)
  value-complete (Call f) h = single-complete (value_text (Call f)) (called-free f) ∙ called-complete f h
  value-complete (Minus a) h = several-complete (45 ∷ []) (atom_text a) (λ e. omega arith, tt) ∙ minus-complete a h
  value-complete (Binary o a b) h = several-complete (atom_text a) (operator_word o ++ (32 ∷ atom_text b)) (no_blank a) ∙ operation-complete o a b h.0 h.1
