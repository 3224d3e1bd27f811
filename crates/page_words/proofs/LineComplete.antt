-- Complete lines: the bytes of each line that fits are read as it.
use Rattle.std.proofs.Math.Path.{◌≡◌, refl, ap}
use Rattle.std.proofs.Common.{sym, ◌∙◌, inr, eq-eqb}
use Rattle.std.proofs.Math.Bool.{true, false}
use mathlib.Core.List.{List, [], ◌∷◌, ◌++◌, append_assoc}
use Prim.Native.Nat.{ℕ, ◌<◌}
use native.Mathlib.Omega.{arith}
use Rattle.std.specs.Prelude.{eqb, length, Some, None}
use Rattle.words.specs.Laws.{by_cases}
use Rattle.text_numbers.specs.Number.{digits}
use Rattle.text_numbers.specs.NumberLaws.{Free, free-append, not_some, length_some}
use Rattle.text_lines.specs.Reader.{piece_end}
use Rattle.page.specs.Page.{ended_by}
use Rattle.page.specs.Reading.{without}
use Rattle.page.proofs.WordLaws.{digits_between, without-last}
use Rattle.page.proofs.FunctionWords.{without_other}
use Rattle.page_words.specs.Compare.{is_prefix, is_word, is_framed, middle}
use Rattle.page_words.specs.CompareLaws.{framed-sound, framed-complete, middle-complete, piece-all, piece-first, piece-rest, piece_inside}
use Rattle.page_words.specs.Texts.{atom_text, element_text, value_text, assignment_text, line_text, AtomFits, NameFits, ElementFits, ValueFits, LineFits}
use Rattle.page_words.specs.Reads.{number_read, atom_read, name_of, element_read, value_read, assigned_of, assignment_of, argument_read, assignment_read, test_read, parameter_read, function_read, jump_read, line_read}
use Rattle.page_words.proofs.Complete.{not-word, not-framed, first-other, number-complete, no_blank, not-begun, atom-complete, name-complete, element-complete, no-element, element-free, value-complete}
use Rattle.page_words.specs.declared.Names.{Names}
use Rattle.page_words.specs.declared.PageAtom.{PageAtom}
use Rattle.page_words.specs.declared.PageAtom.TheVariants.{Constant, Variable, Declared, Temporary}
use Rattle.page_words.specs.declared.Value.{Value}
use Rattle.page_words.specs.declared.Value.TheVariants.{Single}
use Rattle.page_words.specs.declared.LineContent.{LineContent}
use Rattle.page_words.specs.declared.LineContent.TheVariants.{Empty, Abort, Goto, Label, Store, Put, Opens, While, If, Turns, Closes, Return, OpensCall, Argument, LastArgument, OpensFunction, OpensParameters, Parameter, LastParameter}

-- A text that ends in another byte than a frame has no such frame.
not-ended : (before ends : List ℕ) (end : ℕ) (text start : List ℕ) (last : ℕ) → text ≡ ended_by last start → (last ≡ end → ⊥) → is_framed before (ends ++ (end ∷ [])) text ≡ false
not-ended before ends end text start last e f =
    by_cases (is_framed before (ends ++ (end ∷ [])) text)
    (λ t.
    let inner = middle (length before) (length (ends ++ (end ∷ []))) text in
    let whole : text ≡ ended_by end (before ++ (inner ++ ends)) =
    framed-sound before (ends ++ (end ∷ [])) text t ∙ ap (λ (l : List ℕ). before ++ l) (sym (append_assoc inner ends (end ∷ []))) ∙ sym (append_assoc before (inner ++ ends) (end ∷ [])) in
    not_some (sym (without_other end last start f) ∙ ap (without end) (sym e ∙ whole) ∙ without-last end (before ++ (inner ++ ends))))
    (λ t. t)

module _ (names : Names) where
  -- ---- the rest of an assignment

  -- A text with a blank is no argument.
  parted-complete : (target rest : List ℕ) → Free 32 target → assignment_read names (target ++ (32 ∷ rest)) ≡ assignment_of names target (32 ∷ rest)
  unfolding assignment_read
  parted-complete target rest free = rw (piece_inside 32 target rest free, piece-first 32 target rest free, piece-rest 32 target rest free)

  assignment-complete : (target value : List ℕ) → Free 32 target
      → assignment_read names (assignment_text target value) ≡ assigned_of (element_read names target) (name_of (atom_read names target)) (value_read names value)
  unfolding assignment_of
  assignment-complete target value free =
      let equals : List ℕ = 32 ∷ 61 ∷ 32 ∷ [] in
      parted-complete target (61 ∷ (32 ∷ (value ++ (59 ∷ [])))) free
      ∙ rw (
        not-ended (32 ∷ 61 ∷ 32 ∷ 102 ∷ []) [] 40 (equals ++ (value ++ (59 ∷ []))) (equals ++ value) 59 (sym (append_assoc equals value (59 ∷ []))) (λ e. omega arith),
        framed-complete equals value (59 ∷ []),
        middle-complete equals value (59 ∷ []),
      )

  call-complete : (a : PageAtom) (f : ℕ) → NameFits names a → f < 40980 → assignment_read names (line_text (OpensCall a f)) ≡ Some (OpensCall a f)
  unfolding assignment_of
  call-complete a f h k =
      let start : List ℕ = 32 ∷ 61 ∷ 32 ∷ 102 ∷ [] in
      parted-complete (atom_text a) (61 ∷ (32 ∷ (102 ∷ (digits f ++ (40 ∷ []))))) (no_blank a)
      ∙ rw (framed-complete start (digits f) (40 ∷ []), middle-complete start (digits f) (40 ∷ []), name-complete names a h, number-complete 40980 f k)

  -- ---- arguments

  alone-complete : (text : List ℕ) → Free 32 text → assignment_read names text ≡ argument_read names text
  unfolding assignment_read
  alone-complete text free = rw (eq-eqb (piece_end 32 text) (length text) (piece-all 32 text free))

  argument-complete : (a : PageAtom) → AtomFits names a → argument_read names (line_text (Argument a)) ≡ Some (Argument a)
  unfolding argument_read
  argument-complete a h = rw (framed-complete [] (atom_text a) (44 ∷ []), middle-complete [] (atom_text a) (44 ∷ []), atom-complete names a h)

  last-argument-complete : (a : PageAtom) → AtomFits names a → argument_read names (line_text (LastArgument a)) ≡ Some (LastArgument a)
  unfolding argument_read
  last-argument-complete a h =
      rw (
        not-ended [] [] 44 (atom_text a ++ (41 ∷ 59 ∷ [])) (atom_text a ++ (41 ∷ [])) 59 (sym (append_assoc (atom_text a) (41 ∷ []) (59 ∷ []))) (λ e. omega arith),
        framed-complete [] (atom_text a) (41 ∷ 59 ∷ []),
        middle-complete [] (atom_text a) (41 ∷ 59 ∷ []),
        atom-complete names a h,
      )

  -- A text that no fixed word, no jump and no test begins as.
  module _ (text : List ℕ) where
    plain-line : is_prefix (59 ∷ []) text ≡ false → is_prefix (123 ∷ []) text ≡ false → is_prefix (125 ∷ []) text ≡ false
        → is_prefix (97 ∷ 98 ∷ 111 ∷ 114 ∷ 116 ∷ 40 ∷ 41 ∷ 59 ∷ []) text ≡ false → line_read names text ≡ jump_read names text
    unfolding line_read is_prefix
    plain-line e f g h =
        rw (
          not-word (59 ∷ []) text e,
          not-word (123 ∷ []) text f,
          not-word (125 ∷ []) text g,
          not-word (125 ∷ 32 ∷ 101 ∷ 108 ∷ 115 ∷ 101 ∷ 32 ∷ 123 ∷ []) text (longer text g),
          not-word (97 ∷ 98 ∷ 111 ∷ 114 ∷ 116 ∷ 40 ∷ 41 ∷ 59 ∷ []) text h,
        )
      where
        longer : (text : List ℕ) → is_prefix (125 ∷ []) text ≡ false → is_prefix (125 ∷ 32 ∷ 101 ∷ 108 ∷ 115 ∷ 101 ∷ 32 ∷ 123 ∷ []) text ≡ false
        longer [] q = refl
        longer (x ∷ xs) q = by_cases (eqb x 125) (λ t. absurd (let z : true ≡ false = rw t at q in let n : ◌≡◌ {A = ℕ} 0 1 = cc in omega arith)) (λ t. rw t)

    no_jump : is_prefix (103 ∷ 111 ∷ 116 ∷ 111 ∷ 32 ∷ 76 ∷ []) text ≡ false → is_prefix (76 ∷ []) text ≡ false → jump_read names text ≡ function_read names text
    unfolding jump_read
    no_jump e f = rw (not-framed (103 ∷ 111 ∷ 116 ∷ 111 ∷ 32 ∷ 76 ∷ []) (59 ∷ []) text e, not-framed (76 ∷ []) (58 ∷ 59 ∷ []) text f)

    no-function : is_prefix (114 ∷ 101 ∷ 116 ∷ 117 ∷ 114 ∷ 110 ∷ 32 ∷ []) text ≡ false → is_prefix (105 ∷ 110 ∷ 116 ∷ 32 ∷ 102 ∷ []) text ≡ false → function_read names text ≡ parameter_read names text
    unfolding function_read
    no-function e f =
        rw (
          not-framed (114 ∷ 101 ∷ 116 ∷ 117 ∷ 114 ∷ 110 ∷ 32 ∷ []) (59 ∷ []) text e,
          not-framed (105 ∷ 110 ∷ 116 ∷ 32 ∷ 102 ∷ []) (40 ∷ 41 ∷ 32 ∷ 123 ∷ []) text f,
          not-framed (105 ∷ 110 ∷ 116 ∷ 32 ∷ 102 ∷ []) (40 ∷ []) text f,
        )

    no-parameter : is_prefix (105 ∷ 110 ∷ 116 ∷ 32 ∷ 108 ∷ []) text ≡ false → parameter_read names text ≡ test_read names text
    unfolding parameter_read
    no-parameter e = rw (not-framed (105 ∷ 110 ∷ 116 ∷ 32 ∷ 108 ∷ []) (41 ∷ 32 ∷ 123 ∷ []) text e, not-framed (105 ∷ 110 ∷ 116 ∷ 32 ∷ 108 ∷ []) (44 ∷ []) text e)

    no_test : is_prefix (105 ∷ 102 ∷ 32 ∷ 40 ∷ []) text ≡ false → is_prefix (119 ∷ 104 ∷ 105 ∷ 108 ∷ 101 ∷ 32 ∷ 40 ∷ []) text ≡ false → test_read names text ≡ assignment_read names text
    unfolding test_read
    no_test e f = rw (not-framed (105 ∷ 102 ∷ 32 ∷ 40 ∷ []) (41 ∷ 32 ∷ 123 ∷ []) text e, not-framed (119 ∷ 104 ∷ 105 ∷ 108 ∷ 101 ∷ 32 ∷ 40 ∷ []) (41 ∷ 32 ∷ 123 ∷ []) text f)

  goto-complete : (l : ℕ) → l < 40980 → jump_read names (line_text (Goto l)) ≡ Some (Goto l)
  unfolding jump_read
  goto-complete l h =
      let start : List ℕ = 103 ∷ 111 ∷ 116 ∷ 111 ∷ 32 ∷ 76 ∷ [] in
      rw (framed-complete start (digits l) (59 ∷ []), middle-complete start (digits l) (59 ∷ []), number-complete 40980 l h)

  label-complete : (l : ℕ) → l < 40980 → jump_read names (line_text (Label l)) ≡ Some (Label l)
  unfolding jump_read is_prefix
  label-complete l h =
      rw (
        not-framed (103 ∷ 111 ∷ 116 ∷ 111 ∷ 32 ∷ 76 ∷ []) (59 ∷ []) (line_text (Label l)) refl,
        framed-complete (76 ∷ []) (digits l) (58 ∷ 59 ∷ []),
        middle-complete (76 ∷ []) (digits l) (58 ∷ 59 ∷ []),
        number-complete 40980 l h,
      )

  return-complete : (a : PageAtom) → AtomFits names a → function_read names (line_text (Return a)) ≡ Some (Return a)
  unfolding function_read
  return-complete a h =
      let start : List ℕ = 114 ∷ 101 ∷ 116 ∷ 117 ∷ 114 ∷ 110 ∷ 32 ∷ [] in
      rw (framed-complete start (atom_text a) (59 ∷ []), middle-complete start (atom_text a) (59 ∷ []), atom-complete names a h)

  function-complete : (f : ℕ) → f < 40980 → function_read names (line_text (OpensFunction f)) ≡ Some (OpensFunction f)
  unfolding function_read is_prefix
  function-complete f h =
      let start : List ℕ = 105 ∷ 110 ∷ 116 ∷ 32 ∷ 102 ∷ [] in
      let end : List ℕ = 40 ∷ 41 ∷ 32 ∷ 123 ∷ [] in
      rw (
        not-framed (114 ∷ 101 ∷ 116 ∷ 117 ∷ 114 ∷ 110 ∷ 32 ∷ []) (59 ∷ []) (line_text (OpensFunction f)) refl,
        framed-complete start (digits f) end,
        middle-complete start (digits f) end,
        number-complete 40980 f h,
      )

  parameters-complete : (f : ℕ) → f < 40980 → function_read names (line_text (OpensParameters f)) ≡ Some (OpensParameters f)
  unfolding function_read is_prefix
  parameters-complete f h =
      let start : List ℕ = 105 ∷ 110 ∷ 116 ∷ 32 ∷ 102 ∷ [] in
      rw (
        not-framed (114 ∷ 101 ∷ 116 ∷ 117 ∷ 114 ∷ 110 ∷ 32 ∷ []) (59 ∷ []) (line_text (OpensParameters f)) refl,
        not-ended start (40 ∷ 41 ∷ 32 ∷ []) 123 (line_text (OpensParameters f)) (start ++ digits f) 40 (sym (append_assoc start (digits f) (40 ∷ []))) (λ e. omega arith),
        framed-complete start (digits f) (40 ∷ []),
        middle-complete start (digits f) (40 ∷ []),
        number-complete 40980 f h,
      )

  parameter-complete : (n : ℕ) → n < names.declared → parameter_read names (line_text (Parameter n)) ≡ Some (Parameter n)
  unfolding parameter_read
  parameter-complete n h =
      let start : List ℕ = 105 ∷ 110 ∷ 116 ∷ 32 ∷ 108 ∷ [] in
      rw (
        not-ended start (41 ∷ 32 ∷ []) 123 (line_text (Parameter n)) (start ++ digits n) 44 (sym (append_assoc start (digits n) (44 ∷ []))) (λ e. omega arith),
        framed-complete start (digits n) (44 ∷ []),
        middle-complete start (digits n) (44 ∷ []),
        number-complete names.declared n h,
      )

  last-parameter-complete : (n : ℕ) → n < names.declared → parameter_read names (line_text (LastParameter n)) ≡ Some (LastParameter n)
  unfolding parameter_read
  last-parameter-complete n h =
      let start : List ℕ = 105 ∷ 110 ∷ 116 ∷ 32 ∷ 108 ∷ [] in
      let end : List ℕ = 41 ∷ 32 ∷ 123 ∷ [] in
      rw (framed-complete start (digits n) end, middle-complete start (digits n) end, number-complete names.declared n h)

  if-complete : (a : PageAtom) → AtomFits names a → test_read names (line_text (If a)) ≡ Some (If a)
  unfolding test_read
  if-complete a h =
      let start : List ℕ = 105 ∷ 102 ∷ 32 ∷ 40 ∷ [] in
      let end : List ℕ = 41 ∷ 32 ∷ 123 ∷ [] in
      rw (framed-complete start (atom_text a) end, middle-complete start (atom_text a) end, atom-complete names a h)

  while-complete : (a : PageAtom) → AtomFits names a → test_read names (line_text (While a)) ≡ Some (While a)
  unfolding test_read is_prefix
  while-complete a h =
      let start : List ℕ = 119 ∷ 104 ∷ 105 ∷ 108 ∷ 101 ∷ 32 ∷ 40 ∷ [] in
      let end : List ℕ = 41 ∷ 32 ∷ 123 ∷ [] in
      rw (not-framed (105 ∷ 102 ∷ 32 ∷ 40 ∷ []) end (line_text (While a)) refl, framed-complete start (atom_text a) end, middle-complete start (atom_text a) end, atom-complete names a h)

  store-complete : (a : PageAtom) (v : Value) → NameFits names a → ValueFits names v → assignment_read names (line_text (Store a v)) ≡ Some (Store a v)
  store-complete a v h k = assignment-complete (atom_text a) (value_text v) (no_blank a) ∙ rw (no-element names a, name-complete names a h, value-complete names v k)

  put-complete : (array : ℕ) (index a : PageAtom) → ElementFits names array index → AtomFits names a → assignment_read names (line_text (Put array index a)) ≡ Some (Put array index a)
  put-complete array index a h k =
      assignment-complete (element_text array index) (atom_text a) (element-free names array index) ∙ rw (element-complete names array index h, value-complete names (Single a) k)

  not-aborting : (array : ℕ) (index a : PageAtom) → is_prefix (97 ∷ 98 ∷ 111 ∷ 114 ∷ 116 ∷ 40 ∷ 41 ∷ 59 ∷ []) (line_text (Put array index a)) ≡ false
  unfolding is_prefix
  not-aborting array index a =
      let others : List ℕ = 111 ∷ 114 ∷ 116 ∷ 40 ∷ 41 ∷ 59 ∷ [] in
      let behind : List ℕ = 91 ∷ atom_text index in
      let rest : List ℕ = 32 ∷ (61 ∷ (32 ∷ (atom_text a ++ (59 ∷ [])))) in
      ap (is_prefix (98 ∷ others)) (append_assoc (digits array ++ behind) (93 ∷ []) rest ∙ append_assoc (digits array) behind ((93 ∷ []) ++ rest))
      ∙ first-other 98 48 57 others (digits array) (behind ++ ((93 ∷ []) ++ rest)) (length_some array) (digits_between array) (inr (omega arith))

  -- A text that begins with an atom: no fixed word, no jump, no function, no parameter and no test.
  begun-line : (a : PageAtom) (ys : List ℕ) → line_read names (atom_text a ++ ys) ≡ assignment_read names (atom_text a ++ ys)
  begun-line a ys =
      let text = atom_text a ++ ys in
      plain-line text (not-begun 59 [] a ys (λ e. omega arith) (λ e. omega arith) (λ e. omega arith) (omega arith)) (not-begun 123 [] a ys (λ e. omega arith) (λ e. omega arith) (λ e. omega arith) (omega arith)) (not-begun 125 [] a ys (λ e. omega arith) (λ e. omega arith) (λ e. omega arith) (omega arith)) (not-begun 97 _ a ys (λ e. omega arith) (λ e. omega arith) (λ e. omega arith) (omega arith))
      ∙ no_jump text (not-begun 103 _ a ys (λ e. omega arith) (λ e. omega arith) (λ e. omega arith) (omega arith)) (not-begun 76 [] a ys (λ e. omega arith) (λ e. omega arith) (λ e. omega arith) (omega arith))
      ∙ no-function text (not-begun 114 _ a ys (λ e. omega arith) (λ e. omega arith) (λ e. omega arith) (omega arith)) (not-begun 105 _ a ys (λ e. omega arith) (λ e. omega arith) (λ e. omega arith) (omega arith))
      ∙ no-parameter text (not-begun 105 _ a ys (λ e. omega arith) (λ e. omega arith) (λ e. omega arith) (omega arith))
      ∙ no_test text (not-begun 105 _ a ys (λ e. omega arith) (λ e. omega arith) (λ e. omega arith) (omega arith)) (not-begun 119 _ a ys (λ e. omega arith) (λ e. omega arith) (λ e. omega arith) (omega arith))

  ended-free : (a : PageAtom) (ys : List ℕ) → Free 32 ys → Free 32 (atom_text a ++ ys)
  ended-free a ys free = free-append 32 (atom_text a) ys (no_blank a) free

  -- What is printed is read.
  pub line-complete : (line : LineContent) → LineFits names line → line_read names (line_text line) ≡ Some line
  unfolding is_prefix Free
  line-complete Empty h = unfold line_read is_word in refl
  line-complete Opens h = unfold line_read is_word in refl
  line-complete Closes h = unfold line_read is_word in refl
  line-complete Turns h = unfold line_read is_word in refl
  line-complete Abort h = unfold line_read is_word in refl
  line-complete (Goto l) h = plain-line (line_text (Goto l)) refl refl refl refl ∙ goto-complete l h
  line-complete (Label l) h = plain-line (line_text (Label l)) refl refl refl refl ∙ label-complete l h
  line-complete (If a) h = plain-line (line_text (If a)) refl refl refl refl ∙ no_jump (line_text (If a)) refl refl ∙ no-function (line_text (If a)) refl refl ∙ no-parameter (line_text (If a)) refl ∙ if-complete a h
  line-complete (While a) h = plain-line (line_text (While a)) refl refl refl refl ∙ no_jump (line_text (While a)) refl refl ∙ no-function (line_text (While a)) refl refl ∙ no-parameter (line_text (While a)) refl ∙ while-complete a h
  line-complete (Store (Constant v) value) h = absurd h.0
  line-complete (Store (Variable n) v) h =
      let text = line_text (Store (Variable n) v) in
      plain-line text refl refl refl refl ∙ no_jump text refl refl ∙ no-function text refl refl ∙ no-parameter text refl ∙ no_test text refl refl ∙ store-complete (Variable n) v h.0 h.1
  line-complete (Store (Declared n) v) h =
      let text = line_text (Store (Declared n) v) in
      plain-line text refl refl refl refl ∙ no_jump text refl refl ∙ no-function text refl refl ∙ no-parameter text refl ∙ no_test text refl refl ∙ store-complete (Declared n) v h.0 h.1
  line-complete (Store (Temporary n) v) h =
      let text = line_text (Store (Temporary n) v) in
      plain-line text refl refl refl refl ∙ no_jump text refl refl ∙ no-function text refl refl ∙ no-parameter text refl ∙ no_test text refl refl ∙ store-complete (Temporary n) v h.0 h.1
  line-complete (Put array index a) h =
      let text = line_text (Put array index a) in
      plain-line text refl refl refl (not-aborting array index a) ∙ no_jump text refl refl ∙ no-function text refl refl ∙ no-parameter text refl ∙ no_test text refl refl ∙ put-complete array index a h.0 h.1
  line-complete (Return a) h = plain-line (line_text (Return a)) refl refl refl refl ∙ no_jump (line_text (Return a)) refl refl ∙ return-complete a h
  line-complete (OpensFunction f) h = plain-line (line_text (OpensFunction f)) refl refl refl refl ∙ no_jump (line_text (OpensFunction f)) refl refl ∙ function-complete f h
  line-complete (OpensParameters f) h = plain-line (line_text (OpensParameters f)) refl refl refl refl ∙ no_jump (line_text (OpensParameters f)) refl refl ∙ parameters-complete f h
  line-complete (Parameter n) h =
      let text = line_text (Parameter n) in
      plain-line text refl refl refl refl ∙ no_jump text refl refl ∙ no-function text refl refl ∙ parameter-complete n h
  line-complete (LastParameter n) h =
      let text = line_text (LastParameter n) in
      plain-line text refl refl refl refl ∙ no_jump text refl refl ∙ no-function text refl refl ∙ last-parameter-complete n h
  line-complete (OpensCall a f) h = begun-line a ((32 ∷ 61 ∷ 32 ∷ 102 ∷ []) ++ (digits f ++ (40 ∷ []))) ∙ call-complete a f h.0 h.1
  line-complete (Argument a) h = begun-line a (44 ∷ []) ∙ alone-complete (line_text (Argument a)) (ended-free a (44 ∷ []) (λ e. omega arith, tt)) ∙ argument-complete a h
  line-complete (LastArgument a) h =
      begun-line a (41 ∷ 59 ∷ []) ∙ alone-complete (line_text (LastArgument a)) (ended-free a (41 ∷ 59 ∷ []) (λ e. omega arith, (λ e. omega arith, tt))) ∙ last-argument-complete a h
