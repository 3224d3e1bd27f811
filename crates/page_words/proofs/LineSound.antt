-- Sound lines: bytes that are read as a line are that line's, and it fits.
use Rattle.std.proofs.Math.Path.{◌≡◌, refl}
use Rattle.std.proofs.Common.{sym, ap, ap₂, ◌∙◌, arith}
use Rattle.std.specs.Prelude.{true, false, eqb, length, take, drop, None, Option, Some}
use Rattle.page_words.specs.declared.Value.{Value}
use mathlib.Core.List.{List, [], ◌∷◌, ◌++◌}
use Prim.Native.Nat.{ℕ, ◌+◌, ◌≤◌, ◌<◌}
use Rattle.words.specs.Word.{pick}
use Rattle.words.specs.Laws.{by_cases}
use Rattle.text_numbers.specs.Number.{digits}
use Rattle.text_lines.specs.Reader.{piece_end}
use Rattle.page_words.specs.Compare.{is_word, is_framed, middle}
use Rattle.page_words.specs.CompareLaws.{word_sound, framed-sound, piece-halves}
use Rattle.page_words.specs.Texts.{atom_text, assignment_text, line_text, AtomFits, NameFits, LineFits}
use Rattle.page_words.specs.Reads.{number_read, atom_read, name_of, element_read, value_read, goto_of, label_of, if_of, while_of, return_of, call_of, argument_of, last_argument_of, function_of, parameters_of, parameter_of, last_parameter_of, store_of, put_of, assigned_of, assignment_of, argument_read, assignment_read, test_read, parameter_read, function_read, jump_read, line_read}
use Rattle.page_words.proofs.Sound.{below-sound, atom-sound, element-sound, value-sound}
use Rattle.page_words.specs.declared.Names.{Names}
use Rattle.page_words.specs.declared.PageAtom.{PageAtom}
use Rattle.page_words.specs.declared.PageAtom.TheVariants.{Constant, Variable, Declared, Temporary}
use Rattle.page_words.specs.declared.Value.TheVariants.{Single, Element, Minus, Binary, Call}
use Rattle.page_words.specs.declared.LineContent.{LineContent}
use Rattle.page_words.specs.declared.LineContent.TheVariants.{Empty, Abort, Goto, Label, Store, Put, Opens, While, If, Turns, Closes, Return, OpensCall, Argument, LastArgument, OpensFunction, OpensParameters, Parameter, LastParameter}

module _ (names : Names) (few_variables : names.variables ≤ 256) (few_behind : names.declared + names.temporaries ≤ 8256) (few_arrays : names.arrays ≤ 32) where
  -- ---- names and assignments

  name-sound : (word : List ℕ) (r : Option PageAtom) (a : PageAtom) → atom_read names word ≡ r → name_of r ≡ Some a → (word ≡ atom_text a) × NameFits names a
  name-sound word None a q e = absurd (let z : ◌≡◌ {A = ℕ} 0 1 = cc in omega arith)
  name-sound word (Some (Constant v)) a q e = absurd (let z : ◌≡◌ {A = ℕ} 0 1 = cc in omega arith)
  name-sound word (Some (Variable n)) a q e = let same : Variable n ≡ a = cc in rw (← same) (atom-sound names few_variables few_behind few_arrays word (Variable n) q)
  name-sound word (Some (Declared n)) a q e = let same : Declared n ≡ a = cc in rw (← same) (atom-sound names few_variables few_behind few_arrays word (Declared n) q)
  name-sound word (Some (Temporary n)) a q e = let same : Temporary n ≡ a = cc in rw (← same) (atom-sound names few_variables few_behind few_arrays word (Temporary n) q)

  store-sound : (target value : List ℕ) (r : Option PageAtom) (s : Option Value) (line : LineContent) → name_of (atom_read names target) ≡ r → value_read names value ≡ s → store_of r s ≡ Some line
      → (assignment_text target value ≡ line_text line) × LineFits names line
  store-sound target value None s line q p e = absurd (let z : ◌≡◌ {A = ℕ} 0 1 = cc in omega arith)
  store-sound target value (Some a) None line q p e = absurd (let z : ◌≡◌ {A = ℕ} 0 1 = cc in omega arith)
  store-sound target value (Some a) (Some v) line q p e =
      let f = name-sound target (atom_read names target) a refl q in
      let g = value-sound names few_variables few_behind few_arrays value v p in
      let same : Store a v ≡ line = cc in
      rw (← same) (ap₂ assignment_text f.0 g.0, (f.1, g.1))

  put-sound : (target value : List ℕ) (array : ℕ) (index : PageAtom) (s : Option Value) (line : LineContent) → element_read names target ≡ Some (array, index) → value_read names value ≡ s
      → put_of array index s ≡ Some line → (assignment_text target value ≡ line_text line) × LineFits names line
  put-sound target value array index None line q p e = absurd (let z : ◌≡◌ {A = ℕ} 0 1 = cc in omega arith)
  put-sound target value array index (Some (Element other at)) line q p e = absurd (let z : ◌≡◌ {A = ℕ} 0 1 = cc in omega arith)
  put-sound target value array index (Some (Minus a)) line q p e = absurd (let z : ◌≡◌ {A = ℕ} 0 1 = cc in omega arith)
  put-sound target value array index (Some (Binary o a b)) line q p e = absurd (let z : ◌≡◌ {A = ℕ} 0 1 = cc in omega arith)
  put-sound target value array index (Some (Call f)) line q p e = absurd (let z : ◌≡◌ {A = ℕ} 0 1 = cc in omega arith)
  put-sound target value array index (Some (Single a)) line q p e =
      let f = element-sound names few_variables few_behind few_arrays target array index q in
      let g = value-sound names few_variables few_behind few_arrays value (Single a) p in
      let same : Put array index a ≡ line = cc in
      rw (← same) (ap₂ assignment_text f.0 g.0, (f.1, g.1))

  assigned-sound : (target value : List ℕ) (r : Option (ℕ × PageAtom)) (line : LineContent) → element_read names target ≡ r → assigned_of r (name_of (atom_read names target)) (value_read names value) ≡ Some line
      → (assignment_text target value ≡ line_text line) × LineFits names line
  assigned-sound target value (Some (array, index)) line q e = put-sound target value array index (value_read names value) line q refl e
  assigned-sound target value None line q e = store-sound target value (name_of (atom_read names target)) (value_read names value) line refl refl e

  -- What is read by what stands around an atom, or a number below a bound, and its line.
  by-atom : (before behind : List ℕ) (of : Option PageAtom → Option LineContent) (make : PageAtom → LineContent) → of None ≡ None → ((a : PageAtom) → of (Some a) ≡ Some (make a))
      → ((a : PageAtom) → before ++ (atom_text a ++ behind) ≡ line_text (make a)) → ((a : PageAtom) → AtomFits names a → LineFits names (make a)) → (word : List ℕ) (line : LineContent)
      → of (atom_read names word) ≡ Some line → (before ++ (word ++ behind) ≡ line_text line) × LineFits names line
  by-atom before behind of make none some written fits word line e = from (atom_read names word) refl e
    where
      from : (r : Option PageAtom) → atom_read names word ≡ r → of r ≡ Some line → (before ++ (word ++ behind) ≡ line_text line) × LineFits names line
      from None q e = absurd (let found : None ≡ Some line = sym none ∙ e in let z : ◌≡◌ {A = ℕ} 0 1 = cc in omega arith)
      from (Some a) q e =
          let f = atom-sound names few_variables few_behind few_arrays word a q in
          let found : Some (make a) ≡ Some line = sym (some a) ∙ e in
          let same : make a ≡ line = cc in
          rw (← same) (ap (λ (l : List ℕ). before ++ (l ++ behind)) f.0 ∙ written a, fits a f.1)

  by_number : (bound : ℕ) → bound ≤ 2147483648 → (before behind : List ℕ) (of : Option ℕ → Option LineContent) (make : ℕ → LineContent) → of None ≡ None
      → ((n : ℕ) → of (Some n) ≡ Some (make n)) → ((n : ℕ) → before ++ (digits n ++ behind) ≡ line_text (make n)) → ((n : ℕ) → n < bound → LineFits names (make n)) → (word : List ℕ) (line : LineContent)
      → of (number_read bound word) ≡ Some line → (before ++ (word ++ behind) ≡ line_text line) × LineFits names line
  by_number bound small before behind of make none some written fits word line e = from (number_read bound word) refl e
    where
      from : (r : Option ℕ) → number_read bound word ≡ r → of r ≡ Some line → (before ++ (word ++ behind) ≡ line_text line) × LineFits names line
      from None q e = absurd (let found : None ≡ Some line = sym none ∙ e in let z : ◌≡◌ {A = ℕ} 0 1 = cc in omega arith)
      from (Some n) q e =
          let f = below-sound bound word n small q in
          let found : Some (make n) ≡ Some line = sym (some n) ∙ e in
          let same : make n ≡ line = cc in
          rw (← same) (ap (λ (l : List ℕ). before ++ (l ++ behind)) f.0 ∙ written n, fits n f.1)

  -- A text with a frame around what is read, or else another.
  framed-line : (before behind text : List ℕ) (one other : Option LineContent) (line : LineContent) → (one ≡ Some line → (before ++ (middle (length before) (length behind) text ++ behind) ≡ line_text line) × LineFits names line)
      → (other ≡ Some line → (text ≡ line_text line) × LineFits names line) → pick (is_framed before behind text) one other ≡ Some line → (text ≡ line_text line) × LineFits names line
  framed-line before behind text one other line f g e =
      by_cases (is_framed before behind text)
      (λ t. let h = f (rw t at e) in (framed-sound before behind text t ∙ h.0, h.1))
      (λ t. g (rw t at e))

  -- `P = fN(`
  call-sound : (target word : List ℕ) (r : Option PageAtom) (s : Option ℕ) (line : LineContent) → name_of (atom_read names target) ≡ r → number_read 40980 word ≡ s → call_of r s ≡ Some line
      → (target ++ ((32 ∷ 61 ∷ 32 ∷ 102 ∷ []) ++ (word ++ (40 ∷ []))) ≡ line_text line) × LineFits names line
  call-sound target word None s line q p e = absurd (let z : ◌≡◌ {A = ℕ} 0 1 = cc in omega arith)
  call-sound target word (Some a) None line q p e = absurd (let z : ◌≡◌ {A = ℕ} 0 1 = cc in omega arith)
  call-sound target word (Some a) (Some f) line q p e =
      let g = name-sound target (atom_read names target) a refl q in
      let h = below-sound 40980 word f (omega arith) p in
      let same : OpensCall a f ≡ line = cc in
      rw (← same) (rw (g.0, h.0), (g.1, h.1))

  assignment-of-sound : (target rest : List ℕ) (line : LineContent) → assignment_of names target rest ≡ Some line → (target ++ rest ≡ line_text line) × LineFits names line
  unfolding assignment_of
  assignment-of-sound target rest line e =
      let start : List ℕ = 32 ∷ 61 ∷ 32 ∷ 102 ∷ [] in
      let equals : List ℕ = 32 ∷ 61 ∷ 32 ∷ [] in
      by_cases (is_framed start (40 ∷ []) rest)
      (λ t.
      let word = middle 4 1 rest in
      let f = call-sound target word (name_of (atom_read names target)) (number_read 40980 word) line refl refl (rw t at e) in
      (ap (λ (l : List ℕ). target ++ l) (framed-sound start (40 ∷ []) rest t) ∙ f.0, f.1))
      (λ t. by_cases (is_framed equals (59 ∷ []) rest)
      (λ u.
      let f = assigned-sound target (middle 3 1 rest) (element_read names target) line refl (rw (t, u) at e) in
      (ap (λ (l : List ℕ). target ++ l) (framed-sound equals (59 ∷ []) rest u) ∙ f.0, f.1))
      (λ u. absurd (let found : None ≡ Some line = rw (t, u) at e in let z : ◌≡◌ {A = ℕ} 0 1 = cc in omega arith)))

  no_line : (text : List ℕ) (line : LineContent) → None ≡ Some line → (text ≡ line_text line) × LineFits names line
  no_line text line e = absurd (let z : ◌≡◌ {A = ℕ} 0 1 = cc in omega arith)

  argument-sound : (text : List ℕ) (line : LineContent) → argument_read names text ≡ Some line → (text ≡ line_text line) × LineFits names line
  unfolding argument_read
  argument-sound text line e =
      framed-line [] (44 ∷ []) text _ _ line (by-atom [] (44 ∷ []) argument_of Argument refl (λ a. refl) (λ a. refl) (λ a h. h) (middle 0 1 text) line)
      (framed-line [] (41 ∷ 59 ∷ []) text _ _ line (by-atom [] (41 ∷ 59 ∷ []) last_argument_of LastArgument refl (λ a. refl) (λ a. refl) (λ a h. h) (middle 0 2 text) line) (no_line text line)) e

  assignment-sound : (text : List ℕ) (line : LineContent) → assignment_read names text ≡ Some line → (text ≡ line_text line) × LineFits names line
  unfolding assignment_read
  assignment-sound text line e =
      by_cases (eqb (piece_end 32 text) (length text))
      (λ t. argument-sound text line (rw t at e))
      (λ t.
      let f = assignment-of-sound (take (piece_end 32 text) text) (drop (piece_end 32 text) text) line (rw t at e) in
      (piece-halves 32 text ∙ f.0, f.1))

  test-sound : (text : List ℕ) (line : LineContent) → test_read names text ≡ Some line → (text ≡ line_text line) × LineFits names line
  unfolding test_read
  test-sound text line e =
      let end : List ℕ = 41 ∷ 32 ∷ 123 ∷ [] in
      let if-start : List ℕ = 105 ∷ 102 ∷ 32 ∷ 40 ∷ [] in
      let while-start : List ℕ = 119 ∷ 104 ∷ 105 ∷ 108 ∷ 101 ∷ 32 ∷ 40 ∷ [] in
      framed-line if-start end text _ _ line (by-atom if-start end if_of If refl (λ a. refl) (λ a. refl) (λ a h. h) (middle 4 3 text) line)
      (framed-line while-start end text _ _ line (by-atom while-start end while_of While refl (λ a. refl) (λ a. refl) (λ a h. h) (middle 7 3 text) line) (assignment-sound text line)) e

  parameter-sound : (text : List ℕ) (line : LineContent) → parameter_read names text ≡ Some line → (text ≡ line_text line) × LineFits names line
  unfolding parameter_read
  parameter-sound text line e =
      let start : List ℕ = 105 ∷ 110 ∷ 116 ∷ 32 ∷ 108 ∷ [] in
      let end : List ℕ = 41 ∷ 32 ∷ 123 ∷ [] in
      framed-line start end text _ _ line (by_number names.declared (omega (arith, few_behind)) start end last_parameter_of LastParameter refl (λ n. refl) (λ n. refl) (λ n h. h) (middle 5 3 text) line)
      (framed-line start (44 ∷ []) text _ _ line (by_number names.declared (omega (arith, few_behind)) start (44 ∷ []) parameter_of Parameter refl (λ n. refl) (λ n. refl) (λ n h. h) (middle 5 1 text) line) (test-sound text line)) e

  function-sound : (text : List ℕ) (line : LineContent) → function_read names text ≡ Some line → (text ≡ line_text line) × LineFits names line
  unfolding function_read
  function-sound text line e =
      let returning : List ℕ = 114 ∷ 101 ∷ 116 ∷ 117 ∷ 114 ∷ 110 ∷ 32 ∷ [] in
      let start : List ℕ = 105 ∷ 110 ∷ 116 ∷ 32 ∷ 102 ∷ [] in
      let end : List ℕ = 40 ∷ 41 ∷ 32 ∷ 123 ∷ [] in
      framed-line returning (59 ∷ []) text _ _ line (by-atom returning (59 ∷ []) return_of Return refl (λ a. refl) (λ a. refl) (λ a h. h) (middle 7 1 text) line)
      (framed-line start end text _ _ line (by_number 40980 (omega arith) start end function_of OpensFunction refl (λ n. refl) (λ n. refl) (λ n h. h) (middle 5 4 text) line)
      (framed-line start (40 ∷ []) text _ _ line (by_number 40980 (omega arith) start (40 ∷ []) parameters_of OpensParameters refl (λ n. refl) (λ n. refl) (λ n h. h) (middle 5 1 text) line)
      (parameter-sound text line))) e

  jump-sound : (text : List ℕ) (line : LineContent) → jump_read names text ≡ Some line → (text ≡ line_text line) × LineFits names line
  unfolding jump_read
  jump-sound text line e =
      let start : List ℕ = 103 ∷ 111 ∷ 116 ∷ 111 ∷ 32 ∷ 76 ∷ [] in
      framed-line start (59 ∷ []) text _ _ line (by_number 40980 (omega arith) start (59 ∷ []) goto_of Goto refl (λ n. refl) (λ n. refl) (λ n h. h) (middle 6 1 text) line)
      (framed-line (76 ∷ []) (58 ∷ 59 ∷ []) text _ _ line (by_number 40980 (omega arith) (76 ∷ []) (58 ∷ 59 ∷ []) label_of Label refl (λ n. refl) (λ n. refl) (λ n h. h) (middle 1 2 text) line) (function-sound text line)) e

  fixed-sound : (text word : List ℕ) (found line : LineContent) → is_word word text ≡ true → word ≡ line_text found → LineFits names found → Some found ≡ Some line
      → (text ≡ line_text line) × LineFits names line
  fixed-sound text word found line t w h e = let same : found ≡ line = cc in rw (← same) (word_sound word text t ∙ w, h)

  -- What is read is the bytes of what it is read as.
  pub line-sound : (text : List ℕ) (line : LineContent) → line_read names text ≡ Some line → (text ≡ line_text line) × LineFits names line
  unfolding line_read
  line-sound text line e =
      let turning : List ℕ = 125 ∷ 32 ∷ 101 ∷ 108 ∷ 115 ∷ 101 ∷ 32 ∷ 123 ∷ [] in
      let aborting : List ℕ = 97 ∷ 98 ∷ 111 ∷ 114 ∷ 116 ∷ 40 ∷ 41 ∷ 59 ∷ [] in
      by_cases (is_word (59 ∷ []) text) (λ t. fixed-sound text (59 ∷ []) Empty line t refl tt (rw t at e))
      (λ t. by_cases (is_word (123 ∷ []) text) (λ u. fixed-sound text (123 ∷ []) Opens line u refl tt (rw (t, u) at e))
      (λ u. by_cases (is_word (125 ∷ []) text) (λ v. fixed-sound text (125 ∷ []) Closes line v refl tt (rw (t, u, v) at e))
      (λ v. by_cases (is_word turning text) (λ w. fixed-sound text turning Turns line w refl tt (rw (t, u, v, w) at e))
      (λ w. by_cases (is_word aborting text) (λ x. fixed-sound text aborting Abort line x refl tt (rw (t, u, v, w, x) at e))
      (λ x. jump-sound text line (rw (t, u, v, w, x) at e))))))
