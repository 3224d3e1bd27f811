-- A printed line is read: its bytes, in their frame, are read as the line.
use Rattle.std.specs.Prelude.{◌≡◌, refl, true, false, ℕ, zero, suc, ◌+◌, ◌-◌, ◌≤◌, ◌<◌, Some}
use Rattle.std.proofs.Math.Path.{sym, ap}
use Rattle.std.proofs.Common.{ap₂, ◌∙◌, drop_at, drop-drop}
use mathlib.Core.List.{List, [], ◌∷◌, ◌++◌, append_assoc, append-nil}
use native.Mathlib.Omega.{arith}
use Rattle.std.proofs.Math.ListN.{length, get_or, take, drop, length-append}
use Rattle.std.proofs.Math.Seq.{take_at, get_or_at}
use borrow.Author.Tests.{eq-eqb, le-ltb}
use Rattle.text_numbers.specs.Number.{digits, number_bytes}
use Rattle.text_numbers.specs.NumberLaws.{length_some}
use Rattle.text_numbers.specs.PutLaws.{digits-within}
use Rattle.page.specs.declared.Sizes.{Sizes}
use Rattle.page.specs.Page.{blanks, right_set, indent}
use Rattle.page.proofs.WordLaws.{Between, digits_between, number-between, number_word}
use Rattle.page.proofs.Widths.{length-blanks, length-set}
use Rattle.page_words.specs.Trees.{Within}
use Rattle.page_words.specs.Texts.{atom_text, value_text, element_text, line_text, LineFits}
use Rattle.page_words.specs.Reads.{number_read, line_read}
use Rattle.page_words.proofs.Complete.{number-complete}
use Rattle.page_words.proofs.LineComplete.{line-complete}
use Rattle.page_words.specs.declared.Names.{Names}
use Rattle.page_words.specs.declared.PageAtom.{PageAtom}
use Rattle.page_words.specs.declared.PageAtom.TheVariants.{Constant, Variable, Declared, Temporary}
use Rattle.page_words.specs.declared.LineContent.{LineContent}
use Rattle.page_words.specs.declared.LineContent.TheVariants.{Empty, Abort, Goto, Label, Store, Put, Opens, While, If, Turns, Closes, Return, OpensCall, Argument, LastArgument, OpensFunction, OpensParameters, Parameter, LastParameter}
use Rattle.page_frame.specs.Frames.{leading_blanks, filled_size, level_of, is_number, is_numbered, levelled, statement_read, body_read, line_in}
use Rattle.page_frame.proofs.BlankLaws.{Begins, leading-is, Ends, filled_is}
use Rattle.page_frame.proofs.FrameLaws.{framed, printed, printed-is, width}

-- ---- a statement begins and ends with bytes that are no blanks

ends-append : (xs ys : List ℕ) → Ends ys → Ends (xs ++ ys)
unfolding Ends
ends-append [] ys h = h
ends-append (x ∷ []) [] h = absurd h
ends-append (x ∷ []) (y ∷ ys) h = h
ends-append (x ∷ (z ∷ xs)) ys h = ends-append (z ∷ xs) ys h

begins-number : (bytes ys : List ℕ) → 1 ≤ length bytes → Between 45 57 bytes → Begins (bytes ++ ys)
unfolding Begins Between
begins-number [] ys h b = absurd (omega arith)
begins-number (byte ∷ bytes) ys h b = λ e. omega (arith, b.0)

begins-atom : (a : PageAtom) (ys : List ℕ) → Begins (atom_text a ++ ys)
unfolding Begins
begins-atom (Constant v) ys = begins-number (number_bytes v) ys (number_word v).some_byte (number-between v)
begins-atom (Variable n) ys = λ e. omega arith
begins-atom (Declared n) ys = λ e. omega arith
begins-atom (Temporary n) ys = λ e. omega arith

begins-line : (names : Names) (line : LineContent) → LineFits names line → Begins (line_text line)
unfolding Begins
begins-line names Empty h = λ e. omega arith
begins-line names Abort h = λ e. omega arith
begins-line names (Goto l) h = λ e. omega arith
begins-line names (Label l) h = λ e. omega arith
begins-line names (Store (Constant v) value) h = absurd h.0
begins-line names (Store (Variable n) v) h = λ e. omega arith
begins-line names (Store (Declared n) v) h = λ e. omega arith
begins-line names (Store (Temporary n) v) h = λ e. omega arith
begins-line names (Put array index a) h = λ e. omega arith
begins-line names Opens h = λ e. omega arith
begins-line names (While a) h = λ e. omega arith
begins-line names (If a) h = λ e. omega arith
begins-line names Turns h = λ e. omega arith
begins-line names Closes h = λ e. omega arith
begins-line names (Return a) h = λ e. omega arith
begins-line names (OpensCall a f) h = begins-atom a ((32 ∷ 61 ∷ 32 ∷ 102 ∷ []) ++ (digits f ++ (40 ∷ [])))
begins-line names (Argument a) h = begins-atom a (44 ∷ [])
begins-line names (LastArgument a) h = begins-atom a (41 ∷ 59 ∷ [])
begins-line names (OpensFunction f) h = λ e. omega arith
begins-line names (OpensParameters f) h = λ e. omega arith
begins-line names (Parameter n) h = λ e. omega arith
begins-line names (LastParameter n) h = λ e. omega arith

ends-line : (line : LineContent) → Ends (line_text line)
unfolding Ends
ends-line Empty = λ e. omega arith
ends-line Abort = λ e. omega arith
ends-line (Goto l) = ends-append (103 ∷ 111 ∷ 116 ∷ 111 ∷ 32 ∷ 76 ∷ []) (digits l ++ (59 ∷ [])) (ends-append (digits l) (59 ∷ []) (λ e. omega arith))
ends-line (Label l) = ends-append (76 ∷ []) (digits l ++ (58 ∷ 59 ∷ [])) (ends-append (digits l) (58 ∷ 59 ∷ []) (λ e. omega arith))
ends-line (Store a v) =
    ends-append (atom_text a) ((32 ∷ 61 ∷ 32 ∷ []) ++ (value_text v ++ (59 ∷ [])))
    (ends-append (32 ∷ 61 ∷ 32 ∷ []) (value_text v ++ (59 ∷ [])) (ends-append (value_text v) (59 ∷ []) (λ e. omega arith)))
ends-line (Put array index a) =
    ends-append (element_text array index) ((32 ∷ 61 ∷ 32 ∷ []) ++ (atom_text a ++ (59 ∷ [])))
    (ends-append (32 ∷ 61 ∷ 32 ∷ []) (atom_text a ++ (59 ∷ [])) (ends-append (atom_text a) (59 ∷ []) (λ e. omega arith)))
ends-line Opens = λ e. omega arith
ends-line (While a) =
    ends-append (119 ∷ 104 ∷ 105 ∷ 108 ∷ 101 ∷ 32 ∷ 40 ∷ []) (atom_text a ++ (41 ∷ 32 ∷ 123 ∷ [])) (ends-append (atom_text a) (41 ∷ 32 ∷ 123 ∷ []) (λ e. omega arith))
ends-line (If a) = ends-append (105 ∷ 102 ∷ 32 ∷ 40 ∷ []) (atom_text a ++ (41 ∷ 32 ∷ 123 ∷ [])) (ends-append (atom_text a) (41 ∷ 32 ∷ 123 ∷ []) (λ e. omega arith))
ends-line Turns = λ e. omega arith
ends-line Closes = λ e. omega arith
ends-line (Return a) = ends-append (114 ∷ 101 ∷ 116 ∷ 117 ∷ 114 ∷ 110 ∷ 32 ∷ []) (atom_text a ++ (59 ∷ [])) (ends-append (atom_text a) (59 ∷ []) (λ e. omega arith))
ends-line (OpensCall a f) =
    ends-append (atom_text a) ((32 ∷ 61 ∷ 32 ∷ 102 ∷ []) ++ (digits f ++ (40 ∷ [])))
    (ends-append (32 ∷ 61 ∷ 32 ∷ 102 ∷ []) (digits f ++ (40 ∷ [])) (ends-append (digits f) (40 ∷ []) (λ e. omega arith)))
ends-line (Argument a) = ends-append (atom_text a) (44 ∷ []) (λ e. omega arith)
ends-line (LastArgument a) = ends-append (atom_text a) (41 ∷ 59 ∷ []) (λ e. omega arith)
ends-line (OpensFunction f) = ends-append (105 ∷ 110 ∷ 116 ∷ 32 ∷ 102 ∷ []) (digits f ++ (40 ∷ 41 ∷ 32 ∷ 123 ∷ [])) (ends-append (digits f) (40 ∷ 41 ∷ 32 ∷ 123 ∷ []) (λ e. omega arith))
ends-line (OpensParameters f) = ends-append (105 ∷ 110 ∷ 116 ∷ 32 ∷ 102 ∷ []) (digits f ++ (40 ∷ [])) (ends-append (digits f) (40 ∷ []) (λ e. omega arith))
ends-line (Parameter n) = ends-append (105 ∷ 110 ∷ 116 ∷ 32 ∷ 108 ∷ []) (digits n ++ (44 ∷ [])) (ends-append (digits n) (44 ∷ []) (λ e. omega arith))
ends-line (LastParameter n) = ends-append (105 ∷ 110 ∷ 116 ∷ 32 ∷ 108 ∷ []) (digits n ++ (41 ∷ 32 ∷ 123 ∷ [])) (ends-append (digits n) (41 ∷ 32 ∷ 123 ∷ []) (λ e. omega arith))

digits-begin : (bytes : List ℕ) → 1 ≤ length bytes → Between 48 57 bytes → Begins bytes
unfolding Begins Between
digits-begin [] h b = absurd (omega arith)
digits-begin (byte ∷ bytes) h b = λ e. omega (arith, b.0)

numbered-complete : (number : ℕ) → number < 100000 → is_numbered number (right_set 5 (digits number)) ≡ true
unfolding is_numbered right_set
numbered-complete number h =
    let n = 5 - length (digits number) in
    let columns = blanks n ++ digits number in
    let lead : leading_blanks columns ≡ n =
    ap (λ (l : List ℕ). leading_blanks (blanks n ++ l)) (sym (append-nil (digits number))) ∙ leading-is n (digits number) [] (digits-begin (digits number) (length_some number) (digits_between number)) in
    let rest : drop (leading_blanks columns) columns ≡ digits number = ap (λ (m : ℕ). drop m columns) lead ∙ drop_at (blanks n) (digits number) n (length-blanks n) in
    ap (λ (l : List ℕ). is_number number (number_read 100000 l)) rest ∙ ap (is_number number) (number-complete 100000 number h) ∙ eq-eqb number number refl

module _ (names : Names) (few_variables : names.variables ≤ 256) (few_behind : names.declared + names.temporaries ≤ 8256) (few_arrays : names.arrays ≤ 32) where
  body-complete : (depth : ℕ) (line : LineContent) (tail : ℕ) → LineFits names line → body_read names depth (blanks (indent (level_of depth line)) ++ (line_text line ++ blanks tail)) ≡ Some line
  unfolding body_read statement_read levelled
  body-complete depth line tail h =
      let n = indent (level_of depth line) in
      let text = line_text line in
      let body = blanks n ++ (text ++ blanks tail) in
      let lead : leading_blanks body ≡ n = leading-is n text (blanks tail) (begins-line names line h) in
      let size : length (blanks n ++ text) ≡ n + length text = length-append (blanks n) text ∙ ap (λ (m : ℕ). m + length text) (length-blanks n) in
      let full : filled_size body ≡ n + length text =
      ap filled_size (sym (append_assoc (blanks n) text (blanks tail))) ∙ filled_is (blanks n ++ text) tail (ends-append (blanks n) text (ends-line line)) ∙ size in
      let between : length text ≡ n + length text - n = omega arith in
      let said : take (n + length text - n) (drop n body) ≡ text =
      ap (take (n + length text - n)) (drop_at (blanks n) (text ++ blanks tail) n (length-blanks n)) ∙ take_at text (blanks tail) (n + length text - n) between in
      rw (lead, full, le-ltb (n + length text) n (omega arith), said, line-complete names line h, eq-eqb n n refl)

  module _ (sizes : Sizes) (within : Within sizes names) where
    line-parts : (number depth : ℕ) (line : LineContent) (columns body : List ℕ) → length columns ≡ 5 → length body ≡ 74 → is_numbered number columns ≡ true
        → body_read names depth body ≡ Some line → line_in names number depth (framed columns body) ≡ Some line
    unfolding line_in framed
    line-parts number depth line columns body five long numbered read =
        let whole = columns ++ (32 ∷ (body ++ (10 ∷ []))) in
        let first : take 5 whole ≡ columns = take_at columns (32 ∷ (body ++ (10 ∷ []))) 5 five in
        let parting : get_or whole 5 0 ≡ 32 = get_or_at columns 32 (body ++ (10 ∷ [])) 0 5 five in
        let rest : drop 6 whole ≡ body ++ (10 ∷ []) = sym (drop-drop 1 5 whole) ∙ ap (drop 1) (drop_at columns (32 ∷ (body ++ (10 ∷ []))) 5 five) in
        let middle : take 74 (drop 6 whole) ≡ body = ap (take 74) rest ∙ take_at body (10 ∷ []) 74 long in
        let front : length (columns ++ (32 ∷ body)) ≡ 80 = omega (arith, length-append columns (32 ∷ body)) in
        let last : get_or whole 80 0 ≡ 10 = ap (λ (l : List ℕ). get_or l 80 0) (sym (append_assoc columns (32 ∷ body) (10 ∷ []))) ∙ get_or_at (columns ++ (32 ∷ body)) 10 [] 0 80 front in
        rw (first, numbered, parting, last, middle) read

    -- The bytes of a line are read as it.
    pub line-in-complete : (number depth : ℕ) (line : LineContent) → number < 100000 → LineFits names line
        → line_in names number depth (printed names few_variables few_behind few_arrays sizes within number (level_of depth line) line) ≡ Some line
    line-in-complete number depth line few h =
        let n = indent (level_of depth line) in
        let text = line_text line in
        let tail = 74 - n - length text in
        let body = blanks n ++ (text ++ blanks tail) in
        let columns = right_set 5 (digits number) in
        let five : length columns ≡ 5 = length-set 5 (digits number) (digits-within 4 number (omega arith)) in
        let wide : length text ≤ 35 = width names few_variables few_behind few_arrays sizes within line h in
        let long : length body ≡ 74 =
        length-append (blanks n) (text ++ blanks tail) ∙ omega (arith, length-append text (blanks tail), length-blanks n, length-blanks tail) in
        ap (line_in names number depth) (printed-is names few_variables few_behind few_arrays sizes within number (level_of depth line) line h few)
        ∙ line-parts number depth line columns body five long (numbered-complete number few) (body-complete depth line tail h)
