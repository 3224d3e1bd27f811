-- Read-back: what is printed is read back, word by word, line by line, then the page.
use Rattle.std.specs.Prelude.{◌≡◌, true, false, ℕ, zero, suc, ◌+◌, ◌-◌, length, eqb, None, Option, Some}
use Rattle.std.proofs.Math.Path.{refl, ap, ap₂}
use Rattle.std.proofs.Common.{sym, subst, ◌∙◌, inr, eq-eqb, ne_eqb, eqb-true}
use mathlib.Core.List.{List, [], ◌∷◌, ◌++◌, append_assoc}
use native.Mathlib.Omega.{arith}
use Rattle.words.specs.Laws.{by_cases}
use Rattle.text_numbers.specs.Number.{digits, number_bytes}
use Rattle.text_numbers.specs.NumberLaws.{Free, free-append, not_some, natural-shows, number-shows}
use Rattle.text_lines.specs.Line.{newline, together, lines_of}
use Rattle.text_lines.specs.LineLaws.{lines-ended}
use Rattle.language.specs.Trees.{Expression, constant, read, minus, binary, assign, call, Place, variable, element, no_more, present, label, empty, express, goto, abort, give_back, Items, absent, and, block, break, case, comma, compound, conditional, continue, declare, default, do_while, for, guarded_do, guarded_if, if_else, if_then, not, or, postfix, prefix, switch, while}
use Rattle.translation.specs.KernelForm.{KernelProgram}
use Rattle.page.specs.declared.Sizes.{Sizes}
use Rattle.page.specs.Lines.{PageLine, single, mark, opens, opens_while, opens_if, turns, closes, opens_call, argument, last_argument, opens_function, opens_parameters, parameter, last_parameter, Indented, indented, items_lines, plain, read_lines}
use Rattle.page.proofs.LinesLaws.{lines-read-back}
use Rattle.page.specs.Page.{blank, equals_word, minus_word, if_word, else_word, while_word, goto_word, abort_word, int_word, return_word, empty_word, opening_word, closing_word, ended_by, ended, label_word, function_word, opened_word, called_word, name, atom_word, place_word, value_words, line_words, blanks, parted, right_set, padded, indent, line_bytes, lines_bytes, page_bytes}
use Rattle.page.specs.Reading.{same, words_of, bind, or_else, read_name, read_atom, read_place, read_value, read_mark, read_argument, read_last_parameter, line_of, numbered, page_lines, printed_again, read_page}
use Rattle.page.proofs.Fits.{AtomFits, fits-constant, fits-variable, ValueFits, value-atom, value-element, value-minus, value-binary, value-call, LineFits, fits-empty, fits-abort, fits-goto, fits-label, fits-store, fits-put, fits-return, fits-opens, fits-while, fits-if, fits-turns, fits-closes, fits-call, fits-argument, fits-last-argument, fits-function, fits-parameters, fits-parameter, fits-last-parameter, AllFit, all_none, all_more}
use Rattle.page.proofs.WordLaws.{between-free, digits_between, number-between, name_free, pieces_more, pieces-last, IsWord, AreWords, digits-word, number_word, name-word, inside, spelt, operator-word, led-word, joined_word, ended-word, label-word, line-words, without-last, number-no-name, number-no-place, name-shows, variable-shows, operator-shows}
use Rattle.page.proofs.FunctionWords.{opened-word, called-word, without_other, no_number, Begins, begins-ended, number-begins, name-begins}

assigned : (sizes : Sizes) (w : List ℕ) (words : List (List ℕ)) {p : Place} {e : Expression} → read_place sizes w ≡ Some p → read_value sizes words ≡ Some e → line_of sizes (w ∷ (equals_word ∷ words)) ≡ Some (single (express (assign p e)))
unfolding same
assigned sizes w [] q r = not_some r
assigned sizes w (y ∷ ys) q r = rw (q, r)

-- A line of one word that begins as no fixed word does.
one_word : (sizes : Sizes) (word : List ℕ) (line : PageLine) → Begins word → or_else (read_mark sizes word) (read_argument sizes word) ≡ Some line → line_of sizes (word ∷ []) ≡ Some line
unfolding same
one_word sizes word line b e =
    subst (λ (w : List ℕ). line_of sizes (w ∷ []) ≡ Some line) (sym b.is)
    (go b.first b.rest b.no_semicolon b.no_a b.no_opening b.no_closing (subst (λ (w : List ℕ). or_else (read_mark sizes w) (read_argument sizes w) ≡ Some line) b.is e))
  where
    go : (first : ℕ) (rest : List ℕ) → (first ≡ 59 → ⊥) → (first ≡ 97 → ⊥) → (first ≡ 123 → ⊥) → (first ≡ 125 → ⊥)
        → or_else (read_mark sizes (first ∷ rest)) (read_argument sizes (first ∷ rest)) ≡ Some line → line_of sizes ((first ∷ rest) ∷ []) ≡ Some line
    go first rest a b c d e = rw (ne_eqb first 59 a, ne_eqb first 123 c, ne_eqb first 125 d, ne_eqb first 97 b) e

-- A line of three words, the first of which is `int`, the second no equals sign.
three-words : (sizes : Sizes) (word : List ℕ) (line : PageLine) → Begins word → read_last_parameter sizes word ≡ Some line → line_of sizes (int_word ∷ (word ∷ (opening_word ∷ []))) ≡ Some line
unfolding same
three-words sizes word line b e =
    subst (λ (w : List ℕ). line_of sizes (int_word ∷ (w ∷ (opening_word ∷ []))) ≡ Some line) (sym b.is)
    (go b.first b.rest b.no_equals (subst (λ (w : List ℕ). read_last_parameter sizes w ≡ Some line) b.is e))
  where
    go : (first : ℕ) (rest : List ℕ) → (first ≡ 61 → ⊥) → read_last_parameter sizes (first ∷ rest) ≡ Some line → line_of sizes (int_word ∷ ((first ∷ rest) ∷ (opening_word ∷ []))) ≡ Some line
    go first rest a e = rw (ne_eqb first 61 a) e

blanks-free : (n : ℕ) → Free 10 (blanks n)
unfolding blanks Free
blanks-free zero = tt
blanks-free (suc n) = (λ e. omega arith, blanks-free n)

parted-free : (words : List (List ℕ)) → AreWords words → Free 10 (parted words)
unfolding AreWords parted Free
parted-free [] h = tt
parted-free (word ∷ []) h = h.0.no_newline
parted-free (word ∷ (second ∷ words)) h = free-append 10 word (blank ∷ parted (second ∷ words)) h.0.no_newline (λ e. omega arith, parted-free (second ∷ words) h.1)

padded-free : (columns : ℕ) (xs : List ℕ) → Free 10 xs → Free 10 (padded columns xs)
unfolding padded
padded-free columns xs h = free-append 10 xs (blanks (columns - length xs)) h (blanks-free (columns - length xs))

set_free : (columns : ℕ) (xs : List ℕ) → Free 10 xs → Free 10 (right_set columns xs)
unfolding right_set
set_free columns xs h = free-append 10 (blanks (columns - length xs)) xs (blanks-free (columns - length xs)) h

same-all : (xs : List ℕ) → same xs xs ≡ true
unfolding same
same-all [] = refl
same-all (x ∷ xs) = rw (eq-eqb x x refl) (same-all xs)

same-equal : (xs ys : List ℕ) → same xs ys ≡ true → xs ≡ ys
unfolding same
same-equal [] [] e = refl
same-equal [] (y ∷ ys) e = absurd (let z : ◌≡◌ {A = ℕ} 0 1 = cc in omega arith)
same-equal (x ∷ xs) [] e = absurd (let z : ◌≡◌ {A = ℕ} 0 1 = cc in omega arith)
same-equal (x ∷ xs) (y ∷ ys) e =
    by_cases (eqb x y) (λ t. ap₂ (λ z zs. z ∷ zs) (eqb-true x y t) (same-equal xs ys (rw t at e))) (λ f. absurd (let g : false ≡ true = rw f at e in let z : ◌≡◌ {A = ℕ} 0 1 = cc in omega arith))

-- Only pages are read: what a page was read as, printed again, gives the same bytes.
pub read-prints : (sizes : Sizes) (page : List ℕ) (contents : Items) → read_page sizes page ≡ Some contents → page_bytes sizes contents ≡ page
unfolding read_page
read-prints sizes page contents = from-lines (page_lines sizes (lines_of page))
  where
    from-items : (items : Option Items) → bind items (printed_again sizes page) ≡ Some contents → page_bytes sizes contents ≡ page
    from-items None e = not_some e
    from-items (Some is) e =
        by_cases (same (page_bytes sizes is) page)
        (λ t. let found : Some is ≡ Some contents = rw t at e in let equal : is ≡ contents = cc in rw (← equal) (same-equal (page_bytes sizes is) page t))
        (λ f. not_some (rw f at e))

    from-lines : (lines : Option (List PageLine)) → bind lines (λ found. bind (read_lines found) (printed_again sizes page)) ≡ Some contents → page_bytes sizes contents ≡ page
    from-lines None e = not_some e
    from-lines (Some lines) e = from-items (read_lines lines) e

-- A line without its newline.
abbrev body : Sizes → ℕ → ℕ → PageLine → List ℕ
body sizes number level line = padded 80 (right_set 5 (digits number) ++ (blank ∷ (blanks (indent level) ++ parted (line_words sizes line))))

module _ (sizes : Sizes) where
  called-shows : (f : ℕ) → read_value sizes (ended_by 59 (called_word f) ∷ []) ≡ Some (call f no_more)
  unfolding read_atom read_name read_place
  called-shows f =
      rw (without-last 59 (called_word f), no_number ((digits f ++ (40 ∷ [])) ++ (41 ∷ [])), without-last 41 (opened_word f), without-last 40 (function_word f), natural-shows f)

  function-shows : (f : ℕ) → line_of sizes (int_word ∷ (called_word f ∷ (opening_word ∷ []))) ≡ Some (opens_function f)
  unfolding same read_name
  function-shows f = rw (without-last 41 (opened_word f), without-last 40 (function_word f), natural-shows f)

  call-shows : (i f : ℕ) → line_of sizes (name sizes i ∷ (equals_word ∷ (opened_word f ∷ []))) ≡ Some (opens_call (variable i) f)
  unfolding same
  call-shows i f = rw (variable-shows sizes i, without_other 59 40 (function_word f) (λ q. omega arith), without-last 40 (function_word f), natural-shows f)

module _ {Names : ℕ → Type 0} {arrays : ℕ} (sizes : Sizes) where
  -- ---- atoms, elements, values

  atom-shows : (e : Expression) → AtomFits Names arrays e → read_atom sizes (atom_word sizes e) ≡ Some e
  unfolding read_atom
  atom-shows (constant v) (fits-constant h) = rw (number-no-name sizes (number_bytes v) (number-between v), number-shows v h)
  atom-shows (read (variable i)) (fits-variable n) = rw (name-shows sizes i)
  atom-shows (read (element _ _)) x5 = elim x5 [ ]
  atom-shows (minus _) x3 = elim x3 [ ]
  atom-shows (not _) x4 = elim x4 [ ]
  atom-shows (binary _ _ _) x7 = elim x7 [ ]
  atom-shows (and _ _) x7 = elim x7 [ ]
  atom-shows (or _ _) x8 = elim x8 [ ]
  atom-shows (comma _ _) x9 = elim x9 [ ]
  atom-shows (conditional _ _ _) x11 = elim x11 [ ]
  atom-shows (assign _ _) x11 = elim x11 [ ]
  atom-shows (compound _ _ _) x13 = elim x13 [ ]
  atom-shows (prefix _ _) x13 = elim x13 [ ]
  atom-shows (postfix _ _) x14 = elim x14 [ ]
  atom-shows (call _ _) x15 = elim x15 [ ]

  atom-word : (e : Expression) → AtomFits Names arrays e → IsWord (atom_word sizes e)
  atom-word (constant v) (fits-constant h) = number_word v
  atom-word (read (variable i)) (fits-variable n) = name-word sizes i
  atom-word (read (element _ _)) x5 = elim x5 [ ]
  atom-word (minus _) x3 = elim x3 [ ]
  atom-word (not _) x4 = elim x4 [ ]
  atom-word (binary _ _ _) x7 = elim x7 [ ]
  atom-word (and _ _) x7 = elim x7 [ ]
  atom-word (or _ _) x8 = elim x8 [ ]
  atom-word (comma _ _) x9 = elim x9 [ ]
  atom-word (conditional _ _ _) x11 = elim x11 [ ]
  atom-word (assign _ _) x11 = elim x11 [ ]
  atom-word (compound _ _ _) x13 = elim x13 [ ]
  atom-word (prefix _ _) x13 = elim x13 [ ]
  atom-word (postfix _ _) x14 = elim x14 [ ]
  atom-word (call _ _) x15 = elim x15 [ ]

  atom-free : (e : Expression) → AtomFits Names arrays e → Free 91 (atom_word sizes e)
  atom-free (constant v) (fits-constant h) = between-free 45 57 91 (number_bytes v) (inr (omega arith)) (number-between v)
  atom-free (read (variable i)) (fits-variable n) = name_free sizes i
  atom-free (read (element _ _)) x5 = elim x5 [ ]
  atom-free (minus _) x3 = elim x3 [ ]
  atom-free (not _) x4 = elim x4 [ ]
  atom-free (binary _ _ _) x7 = elim x7 [ ]
  atom-free (and _ _) x7 = elim x7 [ ]
  atom-free (or _ _) x8 = elim x8 [ ]
  atom-free (comma _ _) x9 = elim x9 [ ]
  atom-free (conditional _ _ _) x11 = elim x11 [ ]
  atom-free (assign _ _) x11 = elim x11 [ ]
  atom-free (compound _ _ _) x13 = elim x13 [ ]
  atom-free (prefix _ _) x13 = elim x13 [ ]
  atom-free (postfix _ _) x14 = elim x14 [ ]
  atom-free (call _ _) x15 = elim x15 [ ]

  element-shows : (array : ℕ) (e : Expression) → AtomFits Names arrays e → read_place sizes (place_word sizes (element array e)) ≡ Some (element array e)
  unfolding read_place Free
  element-shows array e h =
      rw (
        pieces_more 91 (digits array) (ended_by 93 (atom_word sizes e)) (between-free 48 57 91 (digits array) (inr (omega arith)) (digits_between array)),
        pieces-last 91 (ended_by 93 (atom_word sizes e)) (free-append 91 (atom_word sizes e) (93 ∷ []) (atom-free e h) (λ q. omega arith, tt)),
        natural-shows array,
        without-last 93 (atom_word sizes e),
        atom-shows e h,
      )

  element-word : (array : ℕ) (e : Expression) → AtomFits Names arrays e → IsWord (place_word sizes (element array e))
  element-word array e h =
      led-word 97 (digits array ++ (91 ∷ ended_by 93 (atom_word sizes e))) (omega arith)
      (joined_word (digits array) (91 ∷ ended_by 93 (atom_word sizes e)) (digits-word array) (led-word 91 (ended_by 93 (atom_word sizes e)) (omega arith) (ended-word 93 (atom_word sizes e) (omega arith) (atom-word e h))))

  ended-shows : (e : Expression) → AtomFits Names arrays e → read_value sizes (ended (value_words sizes e)) ≡ Some e
  unfolding ended read_atom
  ended-shows (constant v) (fits-constant h) =
      rw (without-last 59 (number_bytes v), number-no-place sizes (number_bytes v) (number-between v), number-no-name sizes (number_bytes v) (number-between v), number-shows v h)
  ended-shows (read (variable i)) (fits-variable n) = rw (without-last 59 (name sizes i), variable-shows sizes i)
  ended-shows (read (element _ _)) x5 = elim x5 [ ]
  ended-shows (minus _) x3 = elim x3 [ ]
  ended-shows (not _) x4 = elim x4 [ ]
  ended-shows (binary _ _ _) x7 = elim x7 [ ]
  ended-shows (and _ _) x7 = elim x7 [ ]
  ended-shows (or _ _) x8 = elim x8 [ ]
  ended-shows (comma _ _) x9 = elim x9 [ ]
  ended-shows (conditional _ _ _) x11 = elim x11 [ ]
  ended-shows (assign _ _) x11 = elim x11 [ ]
  ended-shows (compound _ _ _) x13 = elim x13 [ ]
  ended-shows (prefix _ _) x13 = elim x13 [ ]
  ended-shows (postfix _ _) x14 = elim x14 [ ]
  ended-shows (call _ _) x15 = elim x15 [ ]

  value-shows : (e : Expression) → ValueFits Names arrays e → read_value sizes (ended (value_words sizes e)) ≡ Some e
  unfolding ended same
  value-shows e (value-atom h) = ended-shows e h
  value-shows (read (element array e)) (value-element b h) = rw (without-last 59 (place_word sizes (element array e)), element-shows array e h)
  value-shows (minus e) (value-minus h) = rw (without-last 59 (atom_word sizes e), atom-shows e h)
  value-shows (binary o a b) (value-binary h k) = rw (atom-shows a h, operator-shows o, without-last 59 (atom_word sizes b), atom-shows b k)
  value-shows (call f no_more) (value-call b) = called-shows sizes f

  ended-words : (e : Expression) → AtomFits Names arrays e → AreWords (ended (value_words sizes e))
  unfolding AreWords ended
  ended-words (constant v) (fits-constant h) = (ended-word 59 (number_bytes v) (omega arith) (number_word v), tt)
  ended-words (read (variable i)) (fits-variable n) = (ended-word 59 (name sizes i) (omega arith) (name-word sizes i), tt)
  ended-words (read (element _ _)) x5 = elim x5 [ ]
  ended-words (minus _) x3 = elim x3 [ ]
  ended-words (not _) x4 = elim x4 [ ]
  ended-words (binary _ _ _) x7 = elim x7 [ ]
  ended-words (and _ _) x7 = elim x7 [ ]
  ended-words (or _ _) x8 = elim x8 [ ]
  ended-words (comma _ _) x9 = elim x9 [ ]
  ended-words (conditional _ _ _) x11 = elim x11 [ ]
  ended-words (assign _ _) x11 = elim x11 [ ]
  ended-words (compound _ _ _) x13 = elim x13 [ ]
  ended-words (prefix _ _) x13 = elim x13 [ ]
  ended-words (postfix _ _) x14 = elim x14 [ ]
  ended-words (call _ _) x15 = elim x15 [ ]

  value-words : (e : Expression) → ValueFits Names arrays e → AreWords (ended (value_words sizes e))
  unfolding AreWords ended inside
  value-words e (value-atom h) = ended-words e h
  value-words (read (element array e)) (value-element b h) = (ended-word 59 (place_word sizes (element array e)) (omega arith) (element-word array e h), tt)
  value-words (minus e) (value-minus h) = (spelt minus_word (omega arith) refl, (ended-word 59 (atom_word sizes e) (omega arith) (atom-word e h), tt))
  value-words (binary o a b) (value-binary h k) = (atom-word a h, (operator-word o, (ended-word 59 (atom_word sizes b) (omega arith) (atom-word b k), tt)))
  value-words (call f no_more) (value-call b) = (ended-word 59 (called_word f) (omega arith) (called-word f), tt)

  -- ---- words that stand alone on a line

  atom-begins : (e : Expression) → AtomFits Names arrays e → Begins (atom_word sizes e)
  atom-begins (constant v) (fits-constant h) = number-begins v
  atom-begins (read (variable i)) (fits-variable n) = name-begins sizes i
  atom-begins (read (element _ _)) x5 = elim x5 [ ]
  atom-begins (minus _) x3 = elim x3 [ ]
  atom-begins (not _) x4 = elim x4 [ ]
  atom-begins (binary _ _ _) x7 = elim x7 [ ]
  atom-begins (and _ _) x7 = elim x7 [ ]
  atom-begins (or _ _) x8 = elim x8 [ ]
  atom-begins (comma _ _) x9 = elim x9 [ ]
  atom-begins (conditional _ _ _) x11 = elim x11 [ ]
  atom-begins (assign _ _) x11 = elim x11 [ ]
  atom-begins (compound _ _ _) x13 = elim x13 [ ]
  atom-begins (prefix _ _) x13 = elim x13 [ ]
  atom-begins (postfix _ _) x14 = elim x14 [ ]
  atom-begins (call _ _) x15 = elim x15 [ ]

  argument-shows : (e : Expression) → AtomFits Names arrays e → line_of sizes (ended_by 44 (atom_word sizes e) ∷ []) ≡ Some (argument e)
  argument-shows e h =
      let word = atom_word sizes e in
      one_word sizes (ended_by 44 word) (argument e) (begins-ended 44 word (atom-begins e h))
      (rw (without_other 59 44 word (λ q. omega arith), without-last 44 word, atom-shows e h))

  last-argument-shows : (e : Expression) → AtomFits Names arrays e → line_of sizes (ended_by 59 (ended_by 41 (atom_word sizes e)) ∷ []) ≡ Some (last_argument e)
  last-argument-shows e h =
      let word = atom_word sizes e in
      one_word sizes (ended_by 59 (ended_by 41 word)) (last_argument e) (begins-ended 59 (ended_by 41 word) (begins-ended 41 word (atom-begins e h)))
      (rw (without-last 59 (ended_by 41 word), without_other 58 41 word (λ q. omega arith), without_other 44 59 (ended_by 41 word) (λ q. omega arith), without-last 41 word, atom-shows e h))

  test-word : (e : Expression) → AtomFits Names arrays e → IsWord (40 ∷ ended_by 41 (atom_word sizes e))
  test-word e h = led-word 40 (ended_by 41 (atom_word sizes e)) (omega arith) (ended-word 41 (atom_word sizes e) (omega arith) (atom-word e h))

  module _ {Parameters : ℕ → Type 0} where
    -- ---- lines

    line-shows : (line : PageLine) → LineFits Names arrays Parameters line → line_of sizes (line_words sizes line) ≡ Some line
    unfolding same
    line-shows (single empty) fits-empty = refl
    line-shows (single abort) fits-abort = refl
    line-shows (single (goto l)) (fits-goto b) = rw (without-last 59 (label_word l), natural-shows l)
    line-shows (mark (label l)) (fits-label b) = rw (without-last 59 (ended_by 58 (label_word l)), without-last 58 (label_word l), natural-shows l)
    line-shows (single (express (assign (variable i) e))) (fits-store n h) = assigned sizes (name sizes i) (ended (value_words sizes e)) (variable-shows sizes i) (value-shows e h)
    line-shows (single (express (assign (element array index) e))) (fits-put b h k) =
        assigned sizes (place_word sizes (element array index)) (ended (value_words sizes e)) (element-shows array index h) (value-shows e (value-atom k))
    line-shows opens fits-opens = refl
    line-shows (opens_while e) (fits-while h) = rw (without-last 41 (atom_word sizes e), atom-shows e h)
    line-shows (opens_if e) (fits-if h) = rw (without-last 41 (atom_word sizes e), atom-shows e h)
    line-shows turns fits-turns = refl
    line-shows closes fits-closes = refl
    line-shows (single (give_back (present e))) (fits-return h) = rw (without-last 59 (atom_word sizes e), atom-shows e h)
    line-shows (opens_call (variable i) f) (fits-call n b) = call-shows sizes i f
    line-shows (argument e) (fits-argument h) = argument-shows e h
    line-shows (last_argument e) (fits-last-argument h) = last-argument-shows e h
    line-shows (opens_function f) (fits-function b) = function-shows sizes f
    line-shows (opens_parameters f) (fits-parameters b) = rw (without_other 44 40 (function_word f) (λ q. omega arith), without-last 40 (function_word f), natural-shows f)
    line-shows (parameter word) (fits-parameter p) = rw (without-last 44 (name sizes word), name-shows sizes word)
    line-shows (last_parameter word) (fits-last-parameter p) =
        three-words sizes (ended_by 41 (name sizes word)) (last_parameter word) (begins-ended 41 (name sizes word) (name-begins sizes word)) (rw (without-last 41 (name sizes word), name-shows sizes word))
    line-shows (single (express (constant _))) x6 = elim x6 [ ]
    line-shows (single (express (read _))) x7 = elim x7 [ ]
    line-shows (single (express (minus _))) x8 = elim x8 [ ]
    line-shows (single (express (not _))) x9 = elim x9 [ ]
    line-shows (single (express (binary _ _ _))) x12 = elim x12 [ ]
    line-shows (single (express (and _ _))) x12 = elim x12 [ ]
    line-shows (single (express (or _ _))) x13 = elim x13 [ ]
    line-shows (single (express (comma _ _))) x14 = elim x14 [ ]
    line-shows (single (express (conditional _ _ _))) x16 = elim x16 [ ]
    line-shows (single (express (compound _ _ _))) x17 = elim x17 [ ]
    line-shows (single (express (prefix _ _))) x17 = elim x17 [ ]
    line-shows (single (express (postfix _ _))) x18 = elim x18 [ ]
    line-shows (single (express (call _ _))) x19 = elim x19 [ ]
    line-shows (single (block _)) x5 = elim x5 [ ]
    line-shows (single (if_then _ _)) x7 = elim x7 [ ]
    line-shows (single (if_else _ _ _)) x9 = elim x9 [ ]
    line-shows (single (while _ _)) x9 = elim x9 [ ]
    line-shows (single (do_while _ _)) x10 = elim x10 [ ]
    line-shows (single (for _ _ _ _)) x13 = elim x13 [ ]
    line-shows (single (switch _ _)) x12 = elim x12 [ ]
    line-shows (single break) x11 = elim x11 [ ]
    line-shows (single continue) x12 = elim x12 [ ]
    line-shows (single (guarded_if _)) x14 = elim x14 [ ]
    line-shows (single (guarded_do _)) x15 = elim x15 [ ]
    line-shows (single (declare _ _)) x17 = elim x17 [ ]
    line-shows (single (give_back absent)) x18 = elim x18 [ ]
    line-shows (mark (case _)) x5 = elim x5 [ ]
    line-shows (mark default) x5 = elim x5 [ ]
    line-shows (opens_call (element _ _) f) x7 = elim x7 [ ]

    line-has-words : (line : PageLine) → LineFits Names arrays Parameters line → AreWords (line_words sizes line)
    unfolding AreWords inside
    line-has-words (single empty) fits-empty = (spelt empty_word (omega arith) refl, tt)
    line-has-words (single abort) fits-abort = (spelt abort_word (omega arith) refl, tt)
    line-has-words (single (goto l)) (fits-goto b) = (spelt goto_word (omega arith) refl, (ended-word 59 (label_word l) (omega arith) (label-word l), tt))
    line-has-words (mark (label l)) (fits-label b) = (ended-word 59 (ended_by 58 (label_word l)) (omega arith) (ended-word 58 (label_word l) (omega arith) (label-word l)), tt)
    line-has-words (single (express (assign (variable i) e))) (fits-store n h) = (name-word sizes i, (spelt equals_word (omega arith) refl, value-words e h))
    line-has-words (single (express (assign (element array index) e))) (fits-put b h k) = (element-word array index h, (spelt equals_word (omega arith) refl, value-words e (value-atom k)))
    line-has-words opens fits-opens = (spelt opening_word (omega arith) refl, tt)
    line-has-words (opens_while e) (fits-while h) = (spelt while_word (omega arith) refl, (test-word e h, (spelt opening_word (omega arith) refl, tt)))
    line-has-words (opens_if e) (fits-if h) = (spelt if_word (omega arith) refl, (test-word e h, (spelt opening_word (omega arith) refl, tt)))
    line-has-words turns fits-turns = (spelt closing_word (omega arith) refl, (spelt else_word (omega arith) refl, (spelt opening_word (omega arith) refl, tt)))
    line-has-words closes fits-closes = (spelt closing_word (omega arith) refl, tt)
    line-has-words (single (give_back (present e))) (fits-return h) = (spelt return_word (omega arith) refl, (ended-word 59 (atom_word sizes e) (omega arith) (atom-word e h), tt))
    line-has-words (opens_call (variable i) f) (fits-call n b) = (name-word sizes i, (spelt equals_word (omega arith) refl, (opened-word f, tt)))
    line-has-words (argument e) (fits-argument h) = (ended-word 44 (atom_word sizes e) (omega arith) (atom-word e h), tt)
    line-has-words (last_argument e) (fits-last-argument h) = (ended-word 59 (ended_by 41 (atom_word sizes e)) (omega arith) (ended-word 41 (atom_word sizes e) (omega arith) (atom-word e h)), tt)
    line-has-words (opens_function f) (fits-function b) = (spelt int_word (omega arith) refl, (called-word f, (spelt opening_word (omega arith) refl, tt)))
    line-has-words (opens_parameters f) (fits-parameters b) = (spelt int_word (omega arith) refl, (opened-word f, tt))
    line-has-words (parameter word) (fits-parameter p) = (spelt int_word (omega arith) refl, (ended-word 44 (name sizes word) (omega arith) (name-word sizes word), tt))
    line-has-words (last_parameter word) (fits-last-parameter p) =
        (spelt int_word (omega arith) refl, (ended-word 41 (name sizes word) (omega arith) (name-word sizes word), (spelt opening_word (omega arith) refl, tt)))
    line-has-words (single (express (constant _))) x6 = elim x6 [ ]
    line-has-words (single (express (read _))) x7 = elim x7 [ ]
    line-has-words (single (express (minus _))) x8 = elim x8 [ ]
    line-has-words (single (express (not _))) x9 = elim x9 [ ]
    line-has-words (single (express (binary _ _ _))) x12 = elim x12 [ ]
    line-has-words (single (express (and _ _))) x12 = elim x12 [ ]
    line-has-words (single (express (or _ _))) x13 = elim x13 [ ]
    line-has-words (single (express (comma _ _))) x14 = elim x14 [ ]
    line-has-words (single (express (conditional _ _ _))) x16 = elim x16 [ ]
    line-has-words (single (express (compound _ _ _))) x17 = elim x17 [ ]
    line-has-words (single (express (prefix _ _))) x17 = elim x17 [ ]
    line-has-words (single (express (postfix _ _))) x18 = elim x18 [ ]
    line-has-words (single (express (call _ _))) x19 = elim x19 [ ]
    line-has-words (single (block _)) x5 = elim x5 [ ]
    line-has-words (single (if_then _ _)) x7 = elim x7 [ ]
    line-has-words (single (if_else _ _ _)) x9 = elim x9 [ ]
    line-has-words (single (while _ _)) x9 = elim x9 [ ]
    line-has-words (single (do_while _ _)) x10 = elim x10 [ ]
    line-has-words (single (for _ _ _ _)) x13 = elim x13 [ ]
    line-has-words (single (switch _ _)) x12 = elim x12 [ ]
    line-has-words (single break) x11 = elim x11 [ ]
    line-has-words (single continue) x12 = elim x12 [ ]
    line-has-words (single (guarded_if _)) x14 = elim x14 [ ]
    line-has-words (single (guarded_do _)) x15 = elim x15 [ ]
    line-has-words (single (declare _ _)) x17 = elim x17 [ ]
    line-has-words (single (give_back absent)) x18 = elim x18 [ ]
    line-has-words (mark (case _)) x5 = elim x5 [ ]
    line-has-words (mark default) x5 = elim x5 [ ]
    line-has-words (opens_call (element _ _) f) x7 = elim x7 [ ]

    -- ---- pages

    body-free : (number level : ℕ) (line : PageLine) → LineFits Names arrays Parameters line → Free 10 (body sizes number level line)
    unfolding Free
    body-free number level line h =
        padded-free 80 (right_set 5 (digits number) ++ (blank ∷ (blanks (indent level) ++ parted (line_words sizes line))))
        (free-append 10 (right_set 5 (digits number)) (blank ∷ (blanks (indent level) ++ parted (line_words sizes line))) (set_free 5 (digits number) (digits-word number).no_newline)
        (λ e. omega arith, free-append 10 (blanks (indent level)) (parted (line_words sizes line)) (blanks-free (indent level)) (parted-free (line_words sizes line) (line-has-words line h))))

    body-shows : (number level : ℕ) (line : PageLine) → LineFits Names arrays Parameters line → numbered sizes (words_of (body sizes number level line)) ≡ Some line
    unfolding padded right_set
    body-shows number level line h = ap (numbered sizes) (line-words _ _ _ number (line_words sizes line) (line-has-words line h)) ∙ line-shows line h

    lines-shown : (number : ℕ) (lines : List Indented) → AllFit Names arrays Parameters lines → page_lines sizes (lines_of (lines_bytes sizes number lines)) ≡ Some (plain lines)
    unfolding lines_bytes line_bytes plain lines_of page_lines together
    lines-shown number [] all_none = refl
    lines-shown number (indented level line ∷ lines) (all_more f h) =
        ap (λ bytes. page_lines sizes (lines_of bytes)) (append_assoc (body sizes number level line) (newline ∷ []) (lines_bytes sizes (number + 1) lines))
        ∙ ap (page_lines sizes) (lines-ended (body sizes number level line) (lines_bytes sizes (number + 1) lines) (body-free number level line f))
        ∙ ap₂ together (body-shows number level line f) (lines-shown (number + 1) lines h)

    -- The bytes of lines that fit are read as the program whose page they are.
    pub lines-read-page : (lines : List Indented) (contents : Items) → AllFit Names arrays Parameters lines → read_lines (plain lines) ≡ Some contents → page_bytes sizes contents ≡ lines_bytes sizes 1 lines
        → read_page sizes (lines_bytes sizes 1 lines) ≡ Some contents
    unfolding read_page
    lines-read-page lines contents h r p = rw (lines-shown 1 lines h, r, p, same-all (lines_bytes sizes 1 lines))

    -- "Read with the header by docs/, the lines give back" the program, of which the names and constants are within any bounds.
    pub page-read-back : {contents : Items} → KernelProgram contents → AllFit Names arrays Parameters (items_lines 0 contents) → read_page sizes (page_bytes sizes contents) ≡ Some contents
    unfolding page_bytes
    page-read-back {contents} k h = lines-read-page (items_lines 0 contents) contents h (lines-read-back k 0) refl
