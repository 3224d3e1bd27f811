-- Laws of contents: the bytes of each form of line, piece by piece, and what has none.
use Rattle.std.specs.Prelude.{◌≡◌, true, false, ℕ, zero, suc, ◌-◌, ◌≤◌, ◌<◌, length, ℤ}
use Rattle.std.proofs.Math.Path.{refl, sym, ap}
use Rattle.std.proofs.Common.{◌∙◌, true≢false, arith, lt-ltb, le-ltb}
use mathlib.Core.List.{List, [], ◌∷◌, ◌++◌, append_assoc, append-nil}
use Rattle.words.specs.declared.Operator.{Operator}
use Rattle.words.specs.declared.Operator.TheVariants.{Add, Subtract, Multiply, Divide, Remainder, Less, Greater, LessOrEqual, GreaterOrEqual, Equal, NotEqual}
use Rattle.text_numbers.specs.Number.{digits}
use Rattle.language.specs.Trees.{Expression, Place, minus, binary, assign, call, Arguments, no_more, ◌also◌, present, label, goto, give_back}
use Rattle.language.specs.Decode.{expression_at, part_at}
use Rattle.language_shapes.specs.Shapes.{operation_tree, choice_tree}
use Rattle.language_shapes.specs.declared.OperationShape.{OperationShape}
use Rattle.language_shapes.specs.declared.OperationShape.TheVariants as operation
use Rattle.language_shapes.specs.declared.ChoiceShape.{ChoiceShape}
use Rattle.language_shapes.specs.declared.ChoiceShape.TheVariants as choice
use Rattle.page.specs.declared.Sizes.{Sizes}
use Rattle.page.specs.Lines.{opens_while, opens_if, single, opens_call, argument, last_argument, opens_function, opens_parameters, parameter, last_parameter}
use Rattle.page.specs.Page.{blank, equals_word, operator_word, ended_by, label_word, function_word, opened_word, first_temporary, name, atom_word, place_word, ended, value_words, assignment_words, line_words, single_words, mark_words, parted}
use Rattle.page_line.specs.Contents.{led, operator_byte, is_two_bytes, goto_bytes, label_bytes, test_bytes, called_bytes, return_bytes, call_bytes, function_bytes, parameter_bytes}

-- ---- names

pub name_variable : (sizes : Sizes) (i : ℕ) → i < sizes.store → name sizes i ≡ 118 ∷ digits i
unfolding name
name_variable sizes i h = rw (lt-ltb i sizes.store h)

pub name-declared : (sizes : Sizes) (i : ℕ) → sizes.store ≤ i → i - sizes.store < sizes.declared → name sizes i ≡ 108 ∷ digits (i - sizes.store)
unfolding name
name-declared sizes i h k = rw (le-ltb i sizes.store h, lt-ltb i (first_temporary sizes) (omega arith))

pub name_temporary : (sizes : Sizes) (i : ℕ) → sizes.store ≤ i → sizes.declared ≤ i - sizes.store → name sizes i ≡ 116 ∷ digits (i - sizes.store - sizes.declared)
unfolding name
name_temporary sizes i h k =
    let behind : i - first_temporary sizes ≡ i - sizes.store - sizes.declared = omega arith in
    rw (le-ltb i sizes.store h, le-ltb i (first_temporary sizes) (omega arith), behind)

-- ---- piece by piece

pub parted-led : (word : List ℕ) (words : List (List ℕ)) → parted (word ∷ words) ≡ word ++ led words
unfolding parted
parted-led word [] = sym (append-nil word)
parted-led word (second ∷ words) = refl

module _ (sizes : Sizes) where
  pub stored_bytes : (p : Place) (e : Expression) → place_word sizes p ++ ((32 ∷ 61 ∷ []) ++ led (ended (value_words sizes e))) ≡ parted (assignment_words sizes (assign p e))
  unfolding parted
  stored_bytes p e = ap (λ (l : List ℕ). place_word sizes p ++ (blank ∷ l)) (sym (parted-led equals_word (ended (value_words sizes e))))

  pub binary-bytes : (o : Operator) (a b : Expression)
      → (32 ∷ []) ++ (atom_word sizes a ++ ((32 ∷ []) ++ (operator_word o ++ ((32 ∷ []) ++ (atom_word sizes b ++ (59 ∷ [])))))) ≡ led (ended (value_words sizes (binary o a b)))
  unfolding parted ended
  binary-bytes o a b = refl

  pub minus-bytes : (e : Expression) → (32 ∷ 45 ∷ 32 ∷ []) ++ (atom_word sizes e ++ (59 ∷ [])) ≡ led (ended (value_words sizes (minus e)))
  unfolding parted ended
  minus-bytes e = refl

  pub word_bytes : (word : List ℕ) → blank ∷ ended_by 59 word ≡ led (ended (word ∷ []))
  unfolding parted ended
  word_bytes word = refl

  pub while-bytes : (e : Expression) → (119 ∷ 104 ∷ 105 ∷ 108 ∷ 101 ∷ 32 ∷ 40 ∷ []) ++ test_bytes sizes e ≡ parted (line_words sizes (opens_while e))
  unfolding parted
  while-bytes e = ap (λ (l : List ℕ). 119 ∷ 104 ∷ 105 ∷ 108 ∷ 101 ∷ 32 ∷ 40 ∷ l) (sym (append_assoc (atom_word sizes e) (41 ∷ []) (32 ∷ 123 ∷ [])))

  pub if-bytes : (e : Expression) → (105 ∷ 102 ∷ 32 ∷ 40 ∷ []) ++ test_bytes sizes e ≡ parted (line_words sizes (opens_if e))
  unfolding parted
  if-bytes e = ap (λ (l : List ℕ). 105 ∷ 102 ∷ 32 ∷ 40 ∷ l) (sym (append_assoc (atom_word sizes e) (41 ∷ []) (32 ∷ 123 ∷ [])))

  pub goto-bytes : (l : ℕ) → goto_bytes l ≡ parted (line_words sizes (single (goto l)))
  unfolding parted
  goto-bytes l = refl

  pub label-bytes : (l : ℕ) → label_bytes l ≡ parted (mark_words sizes (label l))
  unfolding parted
  label-bytes l = sym (append_assoc (label_word l) (58 ∷ []) (59 ∷ []))

-- ---- calls, definitions and returns

module _ (sizes : Sizes) where
  pub called-bytes : (f : ℕ) (arguments : Arguments) → called_bytes f arguments ≡ led (ended (value_words sizes (call f arguments)))
  unfolding parted ended
  called-bytes f no_more = ap (λ (l : List ℕ). 32 ∷ l) (sym (append_assoc (opened_word f) (41 ∷ []) (59 ∷ []) ∙ append_assoc (function_word f) (40 ∷ []) (41 ∷ 59 ∷ [])))
  called-bytes f (e also arguments) = refl

  return-bytes : (e : Expression) → return_bytes sizes e ≡ parted (single_words sizes (give_back (present e)))
  unfolding parted
  return-bytes e = refl

  pub given-bytes : (rows : List ℤ) (value : ℕ) → (value ≡ 0 → ⊥) → return_bytes sizes (expression_at rows value) ≡ parted (single_words sizes (give_back (part_at rows value)))
  given-bytes rows zero some = absurd (some refl)
  given-bytes rows (suc value) some = return-bytes (expression_at rows (suc value))

  pub call-bytes : (p : Place) (f : ℕ) → call_bytes sizes p f ≡ parted (line_words sizes (opens_call p f))
  unfolding parted
  call-bytes p f = refl

  pub argument-bytes : (e : Expression) → atom_word sizes e ++ (44 ∷ []) ≡ parted (line_words sizes (argument e))
  unfolding parted
  argument-bytes e = refl

  pub last-argument-bytes : (e : Expression) → atom_word sizes e ++ (41 ∷ 59 ∷ []) ≡ parted (line_words sizes (last_argument e))
  unfolding parted
  last-argument-bytes e = sym (append_assoc (atom_word sizes e) (41 ∷ []) (59 ∷ []))

  pub function-bytes : (f : ℕ) → function_bytes f (40 ∷ 41 ∷ 32 ∷ 123 ∷ []) ≡ parted (line_words sizes (opens_function f))
  unfolding parted
  function-bytes f =
      ap (λ (l : List ℕ). 105 ∷ 110 ∷ 116 ∷ 32 ∷ l) (sym (append_assoc (opened_word f) (41 ∷ []) (32 ∷ 123 ∷ []) ∙ append_assoc (function_word f) (40 ∷ []) (41 ∷ 32 ∷ 123 ∷ [])))

  pub parameters-bytes : (f : ℕ) → function_bytes f (40 ∷ []) ≡ parted (line_words sizes (opens_parameters f))
  unfolding parted
  parameters-bytes f = refl

  pub parameter-bytes : (word : ℕ) → parameter_bytes sizes word (44 ∷ []) ≡ parted (line_words sizes (parameter word))
  unfolding parted
  parameter-bytes word = refl

  pub last-parameter-bytes : (word : ℕ) → parameter_bytes sizes word (41 ∷ 32 ∷ 123 ∷ []) ≡ parted (line_words sizes (last_parameter word))
  unfolding parted
  last-parameter-bytes word = ap (λ (l : List ℕ). 105 ∷ 110 ∷ 116 ∷ 32 ∷ l) (sym (append_assoc (name sizes word) (41 ∷ []) (32 ∷ 123 ∷ [])))

pub two_bytes : (o : Operator) → is_two_bytes o ≡ true → (operator_byte o ∷ []) ++ (61 ∷ []) ≡ operator_word o
two_bytes LessOrEqual e = refl
two_bytes GreaterOrEqual e = refl
two_bytes Equal e = refl
two_bytes NotEqual e = refl
two_bytes Add e = absurd (true≢false (sym e))
two_bytes Subtract e = absurd (true≢false (sym e))
two_bytes Multiply e = absurd (true≢false (sym e))
two_bytes Divide e = absurd (true≢false (sym e))
two_bytes Remainder e = absurd (true≢false (sym e))
two_bytes Less e = absurd (true≢false (sym e))
two_bytes Greater e = absurd (true≢false (sym e))

pub one_byte : (o : Operator) → is_two_bytes o ≡ false → operator_byte o ∷ [] ≡ operator_word o
one_byte Add e = refl
one_byte Subtract e = refl
one_byte Multiply e = refl
one_byte Divide e = refl
one_byte Remainder e = refl
one_byte Less e = refl
one_byte Greater e = refl
one_byte LessOrEqual e = absurd (true≢false e)
one_byte GreaterOrEqual e = absurd (true≢false e)
one_byte Equal e = absurd (true≢false e)
one_byte NotEqual e = absurd (true≢false e)

pub operator-some : (o : Operator) → 1 ≤ length (operator_word o)
operator-some Add = omega arith
operator-some Subtract = omega arith
operator-some Multiply = omega arith
operator-some Divide = omega arith
operator-some Remainder = omega arith
operator-some Less = omega arith
operator-some Greater = omega arith
operator-some LessOrEqual = omega arith
operator-some GreaterOrEqual = omega arith
operator-some Equal = omega arith
operator-some NotEqual = omega arith

-- ---- what the kernel does not have

module _ (sizes : Sizes) (rows : List ℤ) where
  pub no-atom : (o : OperationShape) → atom_word sizes (operation_tree rows o) ≡ []
  no-atom (operation.Minus a) = refl
  no-atom (operation.Not a) = refl
  no-atom (operation.Binary o a b) = refl
  no-atom (operation.Comma a b) = refl
  no-atom (operation.Assign p e) = refl
  no-atom (operation.Compound o p e) = refl
  no-atom (operation.Prefix o p) = refl
  no-atom (operation.Postfix o p) = refl

  pub no-atom-chosen : (c : ChoiceShape) → atom_word sizes (choice_tree rows c) ≡ []
  no-atom-chosen (choice.And a b) = refl
  no-atom-chosen (choice.Or a b) = refl
  no-atom-chosen (choice.Conditional c a b) = refl

  pub no-value-chosen : (c : ChoiceShape) → led (ended (value_words sizes (choice_tree rows c))) ≡ []
  unfolding ended
  no-value-chosen (choice.And a b) = refl
  no-value-chosen (choice.Or a b) = refl
  no-value-chosen (choice.Conditional c a b) = refl

  pub no-assignment-chosen : (c : ChoiceShape) → parted (assignment_words sizes (choice_tree rows c)) ≡ []
  unfolding parted
  no-assignment-chosen (choice.And a b) = refl
  no-assignment-chosen (choice.Or a b) = refl
  no-assignment-chosen (choice.Conditional c a b) = refl
