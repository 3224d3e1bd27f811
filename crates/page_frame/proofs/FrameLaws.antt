-- Laws of frames: what is read as a line are the bytes of that line, and the other way round.
use Rattle.std.proofs.Math.Path.{◌≡◌, sym, ap, ap₂}
use Rattle.std.specs.Prelude.{refl, Bool, true, false, ◌⊎◌, ℕ, suc, ◌+◌, ◌-◌, ◌*◌, ◌≤◌, ◌<◌, min, eqb, ltb, get_or, None, Option, Some}
use Rattle.std.proofs.Common.{◌∙◌, inl, inr, ⊎_elim, length-take, length-drop, take-append-drop, drop_of_length-le, take_at, drop_at, drop-cons}
use mathlib.Core.List.{List, [], ◌∷◌, ◌++◌, append_assoc, append-nil}
use native.Mathlib.Omega.{arith}
use Rattle.std.proofs.Math.ListN.{length, take, drop, length-append}
use Rattle.std.proofs.lemmas.List.{get_or_at}
use Rattle.std.proofs.Math.Seq.{drop-drop}
use borrow.Author.Tests.{eqb-true, eq-eqb, ltb-false, le-ltb}
use Rattle.words.specs.Laws.{by_cases}
use Rattle.text_numbers.specs.Number.{digits}
use Rattle.text_numbers.specs.NumberLaws.{length_some}
use Rattle.text_numbers.specs.PutLaws.{digits-within}
use Rattle.page.specs.declared.Sizes.{Sizes}
use Rattle.page.specs.Lines.{indented}
use Rattle.page.specs.Page.{blanks, right_set, padded, parted, line_words, indent, name, line_bytes}
use Rattle.page.proofs.WordLaws.{Between, digits_between}
use Rattle.page.proofs.Widths.{length-blanks, length-set, variable-width, behind-width, line-width}
use Rattle.page_words.specs.Texts.{line_text, LineFits}
use Rattle.page_words.specs.Reads.{number_read, line_read}
use Rattle.page_words.proofs.Sound.{below-sound}
use Rattle.page_words.proofs.LineSound.{line-sound}
use Rattle.page_words.proofs.Complete.{number-complete}
use Rattle.page_words.proofs.LineComplete.{line-complete}
use Rattle.page_words.specs.CompareLaws.{never}
use Rattle.page_words.specs.Trees.{Within, line_tree, line-words, Named, Declares, line-fits}
use Rattle.page_words.specs.declared.Names.{Names}
use Rattle.page_words.specs.declared.PageAtom.TheVariants.{Constant, Variable, Declared, Temporary}
use Rattle.page_words.specs.declared.LineContent.{LineContent}
use Rattle.page_words.specs.declared.LineContent.TheVariants.{Empty, Abort, Goto, Label, Store, Put, Opens, While, If, Turns, Closes}
use Rattle.page_frame.specs.Frames.{leading_blanks, filled_size, level_of, is_number, is_numbered, levelled, statement_read, body_read, line_in, statement_in}
use Rattle.page_frame.proofs.BlankLaws.{leading-splits, leading-within, Begins, leading-is, filled_within, filled-splits, Ends, filled_is}

-- The columns, a blank, the body and a newline.
unfoldable pub framed : (columns body : List ℕ) → List ℕ
framed columns body = columns ++ (32 ∷ (body ++ (10 ∷ [])))

-- Parts put together in two ways.
regrouped : (columns before text behind : List ℕ) → ((columns ++ (32 ∷ (before ++ text))) ++ behind) ++ (10 ∷ []) ≡ columns ++ (32 ∷ ((before ++ (text ++ behind)) ++ (10 ∷ [])))
regrouped columns before text behind = simp append_assoc

-- ---- what is read

numbered-sound : (number : ℕ) (columns : List ℕ) → length columns ≡ 5 → is_numbered number columns ≡ true → columns ≡ right_set 5 (digits number)
unfolding is_numbered right_set
numbered-sound number columns five e = from (number_read 100000 rest) refl e
  where
    rest : List ℕ
    rest = drop (leading_blanks columns) columns

    from : (r : Option ℕ) → number_read 100000 rest ≡ r → is_number number r ≡ true → columns ≡ blanks (5 - length (digits number)) ++ digits number
    from None q t = never t
    from (Some n) q t =
        let same : n ≡ number = eqb-true n number t in
        let f : rest ≡ digits number = (below-sound 100000 rest n (omega arith) q).0 ∙ ap digits same in
        let size : length (digits number) ≡ 5 - leading_blanks columns = ap length (sym f) ∙ length-drop (leading_blanks columns) columns ∙ ap (λ (m : ℕ). m - leading_blanks columns) five in
        let lead : leading_blanks columns ≡ 5 - length (digits number) = omega (arith, leading-within columns) in
        leading-splits columns ∙ ap₂ (λ (m : ℕ) (l : List ℕ). blanks m ++ l) lead f

level-sound : (depth start : ℕ) (r : Option LineContent) (line : LineContent) → levelled depth start r ≡ Some line → (r ≡ Some line) × (start ≡ indent (level_of depth line))
unfolding levelled
level-sound depth start None line e = absurd (let z : ◌≡◌ {A = ℕ} 0 1 = cc in omega arith)
level-sound depth start (Some found) line e =
    by_cases (eqb start (indent (level_of depth found)))
    (λ t.
    let same : Some found ≡ Some line = rw t at e in
    let equal : found ≡ line = cc in
    (same, eqb-true start (indent (level_of depth found)) t ∙ ap (λ l. indent (level_of depth l)) equal))
    (λ t. absurd (let none : None ≡ Some line = rw t at e in let z : ◌≡◌ {A = ℕ} 0 1 = cc in omega arith))

-- Bytes that are read as a line: the line's number, a blank, its body, and a newline.
record InFrame (names : Names) (number depth : ℕ) (bytes : List ℕ) (line : LineContent) : Type 0 where
  numbered : is_numbered number (take 5 bytes) ≡ true
  parted : get_or bytes 5 0 ≡ 32
  ended : get_or bytes 80 0 ≡ 10
  body : body_read names depth (take 74 (drop 6 bytes)) ≡ Some line

in_frame : (names : Names) (number depth : ℕ) (bytes : List ℕ) (line : LineContent) → line_in names number depth bytes ≡ Some line → InFrame names number depth bytes line
unfolding line_in
in_frame names number depth bytes line e =
    by_cases (is_numbered number (take 5 bytes))
    (λ t. by_cases (eqb (get_or bytes 5 0) 32)
    (λ u. by_cases (eqb (get_or bytes 80 0) 10)
    (λ v. record { numbered = t; parted = eqb-true _ _ u; ended = eqb-true _ _ v; body = rw (t, u, v) at e })
    (λ v. no (rw (t, u, v) at e)))
    (λ u. no (rw (t, u) at e)))
    (λ t. no (rw t at e))
  where
    no : {G : Type 0} → None ≡ Some line → G
    no q = absurd (let z : ◌≡◌ {A = ℕ} 0 1 = cc in omega arith)

-- The statement of a line is read without its number and its level.
pub statement-in : (names : Names) (number depth : ℕ) (bytes : List ℕ) (line : LineContent) → line_in names number depth bytes ≡ Some line → statement_in names bytes ≡ Some line
unfolding statement_in body_read
statement-in names number depth bytes line e =
    let body = take 74 (drop 6 bytes) in
    (level-sound depth (leading_blanks body) (statement_read names body) line (in_frame names number depth bytes line e).body).0

module _ (names : Names) (few_variables : names.variables ≤ 256) (few_behind : names.declared + names.temporaries ≤ 8256) (few_arrays : names.arrays ≤ 32) where
  -- what a body that is read as a line is: indent, statement, blanks
  pub record IsBody (depth : ℕ) (body : List ℕ) (line : LineContent) : Type 0 where
    pub fits : LineFits names line
    pub tail : ℕ
    pub written : body ≡ blanks (indent (level_of depth line)) ++ (line_text line ++ blanks tail)

  body-sound : (depth : ℕ) (body : List ℕ) (line : LineContent) → body_read names depth body ≡ Some line → IsBody depth body line
  unfolding body_read statement_read
  body-sound depth body line e =
      let lead = leading_blanks body in
      let l = level-sound depth lead (statement_read names body) line e in
      by_cases (ltb (filled_size body) lead)
      (λ t. absurd (let none : None ≡ Some line = rw t at l.0 in let z : ◌≡◌ {A = ℕ} 0 1 = cc in omega arith))
      (λ t.
      let full = filled_size body in
      let order : lead ≤ full = ltb-false full lead t in
      let text = take (full - lead) (drop lead body) in
      let s = line-sound names few_variables few_behind few_arrays text line (rw t at l.0) in
      let behind : drop (full - lead) (drop lead body) ≡ blanks (length body - full) =
      drop-drop (full - lead) lead body ∙ ap (λ (n : ℕ). drop n body) (sum lead full order) ∙ filled-splits body in
      record {
        fits = s.1;
        tail = length body - full;
        written = leading-splits body ∙ ap₂ (λ (n : ℕ) (l : List ℕ). blanks n ++ l) l.1 (sym (take-append-drop (full - lead) (drop lead body)) ∙ ap₂ (λ (l m : List ℕ). l ++ m) s.0 behind);
      })
    where
      sum : (lead full : ℕ) → lead ≤ full → lead + (full - lead) ≡ full
      sum lead full h = omega arith

  -- the parts of 81 bytes
  parts : (line : List ℕ) → length line ≡ 81 → line ≡ take 5 line ++ (get_or line 5 0 ∷ (take 74 (drop 6 line) ++ (get_or line 80 0 ∷ [])))
  parts line long =
      let none : drop 81 line ≡ [] = drop_of_length-le line {i = 81} (omega arith) in
      let last : drop 74 (drop 6 line) ≡ get_or line 80 0 ∷ [] = drop-drop 74 6 line ∙ drop-cons line 80 0 (omega arith) ∙ ap (λ (l : List ℕ). get_or line 80 0 ∷ l) none in
      sym (take-append-drop 5 line)
      ∙ ap (λ (l : List ℕ). take 5 line ++ l)
      (drop-cons line 5 0 (omega arith) ∙ ap (λ (l : List ℕ). get_or line 5 0 ∷ l) (sym (take-append-drop 74 (drop 6 line)) ∙ ap (λ (l : List ℕ). take 74 (drop 6 line) ++ l) last))

  module _ (sizes : Sizes) (within : Within sizes names) where
    abbrev pub printed : ℕ → ℕ → LineContent → List ℕ
    printed number level line = line_bytes sizes number (indented level (line_tree sizes line))

    name-width : (i : ℕ) → Named sizes names within i → length (name sizes i) ≤ 5
    name-width i = ⊎_elim (λ v. variable-width sizes i (omega arith)) (λ t. behind-width sizes i t.0 (omega (arith, t.1)))

    declared-width : (i : ℕ) → Declares sizes names within i → length (name sizes i) ≤ 5
    declared-width i d = behind-width sizes i d.0 (omega (arith, d.1, within.same_declared))

    pub width : (line : LineContent) → LineFits names line → length (line_text line) ≤ 35
    width line h =
        let f = line-width {Names = Named sizes names within} {Parameters = Declares sizes names within} {arrays = names.arrays} sizes name-width declared-width few_arrays (line_tree sizes line) (line-fits sizes names within line h) in
        rw (line-words sizes names within line h) at f

    -- A printed line by its parts.
    pub printed-is : (number level : ℕ) (line : LineContent) → LineFits names line → number < 100000
        → printed number level line ≡ framed (right_set 5 (digits number)) (blanks (indent level) ++ (line_text line ++ blanks (74 - indent level - length (line_text line))))
    unfolding line_bytes padded framed
    printed-is number level line h b =
        let columns = right_set 5 (digits number) in
        let before = blanks (indent level) in
        let text = line_text line in
        let five : length columns ≡ 5 = length-set 5 (digits number) (digits-within 4 number (omega arith)) in
        let size : length (columns ++ (32 ∷ (before ++ text))) ≡ 6 + indent level + length text =
        omega (arith, length-append columns (32 ∷ (before ++ text)), length-append before text, length-blanks (indent level)) in
        let spare : 80 - length (columns ++ (32 ∷ (before ++ text))) ≡ 74 - indent level - length text = omega (arith, size) in
        ap (λ (said : List ℕ). ((columns ++ (32 ∷ (before ++ said))) ++ blanks (80 - length (columns ++ (32 ∷ (before ++ said))))) ++ (10 ∷ [])) (line-words sizes names within line h)
        ∙ ap (λ (n : ℕ). ((columns ++ (32 ∷ (before ++ text))) ++ blanks n) ++ (10 ∷ [])) spare
        ∙ regrouped columns before text (blanks (74 - indent level - length text))

    -- What is read as a line are its bytes.
    pub line-in-sound : (number depth : ℕ) (bytes : List ℕ) (line : LineContent) → number < 100000 → length bytes ≡ 81 → line_in names number depth bytes ≡ Some line
        → (bytes ≡ printed number (level_of depth line) line) × LineFits names line
    line-in-sound number depth bytes line few long e =
        let f = in_frame names number depth bytes line e in
        whole f.numbered f.parted f.ended (body-sound depth (take 74 (drop 6 bytes)) line f.body)
      where
        body-long : length (take 74 (drop 6 bytes)) ≡ 74
        body-long = length-take 74 (drop 6 bytes) ∙ omega (arith, length-drop 6 bytes)

        columns-long : length (take 5 bytes) ≡ 5
        columns-long = length-take 5 bytes ∙ omega arith

        whole : is_numbered number (take 5 bytes) ≡ true → get_or bytes 5 0 ≡ 32 → get_or bytes 80 0 ≡ 10 → IsBody depth (take 74 (drop 6 bytes)) line
            → (bytes ≡ printed number (level_of depth line) line) × LineFits names line
        whole t u v b =
            let lead = indent (level_of depth line) in
            let text = line_text line in
            let size : 74 ≡ lead + (length text + b.tail) =
            sym body-long ∙ ap length b.written ∙ length-append (blanks lead) (text ++ blanks b.tail) ∙ ap₂ (λ (m n : ℕ). m + n) (length-blanks lead) (length-append text (blanks b.tail) ∙ ap (λ (n : ℕ). length text + n) (length-blanks b.tail)) in
            let tail : b.tail ≡ 74 - lead - length text = omega arith in (
              parts bytes long
                  ∙ ap₂ (λ (l m : List ℕ). l ++ m) (numbered-sound number (take 5 bytes) columns-long t)
                  (ap₂ (λ (x : ℕ) (l : List ℕ). x ∷ l) u (ap₂ (λ (l : List ℕ) (x : ℕ). l ++ (x ∷ [])) (b.written ∙ ap (λ (n : ℕ). blanks lead ++ (text ++ blanks n)) tail) v))
                  ∙ (unfold framed in sym (printed-is number (level_of depth line) line b.fits few)),
              b.fits,
            )
