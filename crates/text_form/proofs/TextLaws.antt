-- Laws of texts: a text is read as the header and rows that it is written for, and no others. TextLine by line.
use Rattle.std.specs.Prelude.{◌≡◌, refl, Bool, true, false, List, [], ◌∷◌, ◌++◌, map, ℕ, zero, suc, ◌+◌, ◌*◌, ◌<◌, leb, ℤ, length, take, drop, None, Option, Some}
use Rattle.std.proofs.Common.{sym, ap, ◌∙◌, mul-zero, mul-suc, add-one, arith, length-append, length-drop, take-append-drop, take_at, drop_at, length-take-le, eq-eqb, eqb-true, leb-true}
use Rattle.words.specs.Layout.{leading}
use Rattle.words.specs.Laws.{by_cases, leading-limits}
use Rattle.words.specs.Table.{row_count}
use Rattle.words.specs.declared.Form.{Form}
use Rattle.text_numbers.specs.Number.{number_bytes}
use Rattle.text_lines.specs.Line.{parted, line_bytes, TextLine, ended, lines_of, line_numbers}
use Rattle.text_form.specs.Text.{rows_bytes, table_bytes, text_bytes, keep, header_sized, header_line, row_sized, row_line, Parsed, parsed, malformed, with_row, rows_from, Program, with_header, program_of, parse_table, parse}
use Rattle.text_numbers.specs.NumberLaws.{not_some}
use Rattle.text_lines.specs.LineLaws.{joined, none-joined, lines-joined, Words, line_reads, line-shows, lines-shows}

pub not-parsed : {A G : Type 0} {a : A} {line : ℕ} → malformed line ≡ parsed a → G
not-parsed {a = a} {line = line} e = absurd (let z : ◌≡◌ {A = ℕ} 0 1 = cc in omega arith)

-- ---- words

words_append : (xs ys : List ℤ) → Words xs → Words ys → Words (xs ++ ys)
unfolding Words
words_append [] ys a b = b
words_append (x ∷ xs) ys a b = (a.0, words_append xs ys a.1 b)

words_take : (n : ℕ) (xs : List ℤ) → Words xs → Words (take n xs)
unfolding Words
words_take zero xs a = tt
words_take (suc n) [] a = tt
words_take (suc n) (x ∷ xs) a = (a.0, words_take n xs a.1)

words-drop : (n : ℕ) (xs : List ℤ) → Words xs → Words (drop n xs)
unfolding Words
words-drop zero xs a = a
words-drop (suc n) [] a = tt
words-drop (suc n) (x ∷ xs) a = words-drop n xs a.1

-- ---- numbers that a test lets through

pub keep-is : (test : List ℤ → Bool) (numbers : List ℤ) → test numbers ≡ true → keep test (Some numbers) ≡ Some numbers
unfolding keep
keep-is test numbers t = rw t

pub keep-not : (test : List ℤ → Bool) (numbers : List ℤ) → test numbers ≡ false → keep test (Some numbers) ≡ None
unfolding keep
keep-not test numbers t = rw t

pub keep-none : (test : List ℤ → Bool) → keep test None ≡ None
unfolding keep
keep-none test = refl

-- what numbers that a test let through are
pub record Kept (test : List ℤ → Bool) (read : Option (List ℤ)) (numbers : List ℤ) : Type 0 where
  pub same : read ≡ Some numbers
  pub passes : test numbers ≡ true

pub keep-reads : (test : List ℤ → Bool) (read : Option (List ℤ)) (numbers : List ℤ) → keep test read ≡ Some numbers → Kept test read numbers
unfolding keep
keep-reads test None numbers d = not_some d
keep-reads test (Some kept) numbers d =
    by_cases (test kept)
    (λ t.
    let e : Some kept ≡ Some numbers = rw t at d in
    let same : kept ≡ numbers = cc in
    record { same = e; passes = rw (← same) t })
    (λ t. not_some (rw t at d))

-- ---- the words of rows

-- a row more has `width` words more
pub row_more : (width count : ℕ) → width * (count + 1) ≡ width * count + width
row_more width count = ap (λ (n : ℕ). width * n) (add-one count) ∙ mul-suc width count

-- ---- rows that were written are read back

row_shows : (width : ℕ) (row : List ℤ) → 0 < width → length row ≡ width → Words row → row_line width (ended (parted (map number_bytes row))) ≡ Some row
unfolding row_line
row_shows width row p h w = rw (line-shows row (omega arith) w) (keep-is (row_sized width) row (eq-eqb (length row) width h))

pub with_none : (number : ℕ) (others : Parsed (List ℤ)) → with_row number None others ≡ malformed number
unfolding with_row
with_none number others = refl

with-parsed : (number : ℕ) (row rows : List ℤ) → with_row number (Some row) (parsed rows) ≡ parsed (row ++ rows)
unfolding with_row
with-parsed number row rows = refl

pub rows_next : (width number : ℕ) (line : TextLine) (lines : List TextLine) → rows_from width number (line ∷ lines) ≡ with_row number (row_line width line) (rows_from width (number + 1) lines)
unfolding rows_from
rows_next width number line lines = refl

rows-nil : (width number : ℕ) → rows_from width number (lines_of []) ≡ parsed []
unfolding rows_from lines_of
rows-nil width number = refl

pub rows-shows : (width count number : ℕ) (rows : List ℤ) → 0 < width → length rows ≡ width * count → Words rows → rows_from width number (lines_of (rows_bytes width count rows)) ≡ parsed rows
unfolding rows_bytes
rows-shows width zero number [] p h w = rows-nil width number
rows-shows width zero number (z ∷ rows) p h w = absurd (omega arith)
rows-shows width (suc count) number rows p h w =
    let one : length (take width rows) ≡ width = length-take-le width rows (omega (arith, mul-suc width count)) in
    let others : length (drop width rows) ≡ width * count = rw length-drop (omega (arith, mul-suc width count)) in
    ap (rows_from width number) (lines-shows (take width rows) (rows_bytes width count (drop width rows)))
    ∙ rows_next width number _ _
    ∙ rw (row_shows width (take width rows) p one (words_take width rows w), rows-shows width count (number + 1) (drop width rows) p others (words-drop width rows w))
    (with-parsed number (take width rows) (drop width rows) ∙ ap parsed (take-append-drop width rows))

-- ---- rows that were read are written alike

-- what the lines of rows are
pub record AreRows (width : ℕ) (lines : List TextLine) (rows : List ℤ) : Type 0 where
  pub count : ℕ
  pub size : length rows ≡ width * count
  pub written : joined lines ≡ rows_bytes width count rows
  pub fits : Words rows

rows_none : (width : ℕ) → AreRows width [] []
unfolding rows_bytes Words
rows_none width = record { count = 0; size = sym (mul-zero width); written = none-joined; fits = tt }

bytes-more : (width count : ℕ) (row rows : List ℤ) → length row ≡ width → rows_bytes width (suc count) (row ++ rows) ≡ line_bytes row ++ rows_bytes width count rows
unfolding rows_bytes
bytes-more width count row rows h = rw (take_at row rows width h, drop_at row rows width h)

rows_more : (width : ℕ) (line : TextLine) (lines : List TextLine) (row rows : List ℤ) → row_line width line ≡ Some row → AreRows width lines rows → AreRows width (line ∷ lines) (row ++ rows)
unfolding row_line
rows_more width line lines row rows d a =
    let k = keep-reads (row_sized width) (line_numbers line) row d in
    let i = line_reads line row k.same in
    let one : length row ≡ width = eqb-true (length row) width k.passes in
    record {
      count = suc a.count;
      size = length-append row rows ∙ omega (arith, a.size, mul-suc width a.count);
      written = i.written lines ∙ rw a.written (sym (bytes-more width a.count row rows one));
      fits = words_append row rows i.fits a.fits;
    }

with-reads : (width number : ℕ) (line : TextLine) (lines : List TextLine) (read : Option (List ℤ)) (others : Parsed (List ℤ)) (rows : List ℤ) → row_line width line ≡ read
    → ((more : List ℤ) → others ≡ parsed more → AreRows width lines more) → with_row number read others ≡ parsed rows → AreRows width (line ∷ lines) rows
unfolding with_row
with-reads width number line lines None others rows e ih d = not-parsed (sym (with_none number others) ∙ d)
with-reads width number line lines (Some row) (malformed later) rows e ih d = not-parsed d
with-reads width number line lines (Some row) (parsed more) rows e ih d =
    let same : row ++ more ≡ rows = cc in
    rw (← same) (rows_more width line lines row more e (ih more refl))

pub rows-reads : (width number : ℕ) (lines : List TextLine) (rows : List ℤ) → rows_from width number lines ≡ parsed rows → AreRows width lines rows
unfolding rows_from
rows-reads width number [] rows d = let same : [] ≡ rows = cc in rw (← same) (rows_none width)
rows-reads width number (line ∷ lines) rows d =
    with-reads width number line lines (row_line width line) (rows_from width (number + 1) lines) rows refl (rows-reads width (number + 1) lines) d

-- ---- whole texts

-- what a text of rows of `width` words that was read is
pub record IsTable (width : ℕ) (form : Form) (text : List ℕ) (program : Program) : Type 0 where
  pub count : ℕ
  pub size : length program.rows ≡ width * count
  pub written : table_bytes width count program.header program.rows ≡ text
  pub sized : header_sized form program.header ≡ true
  pub header-fits : Words program.header
  pub rows_fit : Words program.rows

-- what a text that was read is
pub record IsText (form : Form) (text : List ℕ) (program : Program) : Type 0 where
  pub written : text_bytes program.header program.rows ≡ text
  pub sized : header_sized form program.header ≡ true
  pub whole : 6 * row_count program.rows ≡ length program.rows
  pub header-fits : Words program.header
  pub rows_fit : Words program.rows

sized-some : (form : Form) (header : List ℤ) → header_sized form header ≡ true → 0 < length header
sized-some form header t =
    by_cases (leb (leading form) (length header))
    (λ e. omega (arith, leb-true (leading form) (length header) e, (leading-limits form).0))
    (λ e. absurd (let f : false ≡ true = rw e at t in let z : ◌≡◌ {A = ℕ} 0 1 = cc in omega arith))

header-shows : (form : Form) (header : List ℤ) → header_sized form header ≡ true → Words header → header_line form (ended (parted (map number_bytes header))) ≡ Some header
unfolding header_line
header-shows form header t w = rw (line-shows header (sized-some form header t) w) (keep-is (header_sized form) header t)

with-header : (header rows : List ℤ) → with_header (Some header) (parsed rows) ≡ parsed (record { header = header; rows = rows })
unfolding with_header
with-header header rows = refl

pub program-first : (width : ℕ) (form : Form) (line : TextLine) (lines : List TextLine) → program_of width form (line ∷ lines) ≡ with_header (header_line form line) (rows_from width 2 lines)
unfolding program_of
program-first width form line lines = refl

-- a text that was written is read back
pub table-shows : (width count : ℕ) (form : Form) (header rows : List ℤ) → 0 < width → header_sized form header ≡ true → length rows ≡ width * count → Words header → Words rows
    → parse_table width form (table_bytes width count header rows) ≡ parsed (record { header = header; rows = rows })
unfolding parse_table table_bytes
table-shows width count form header rows p t e w v =
    ap (program_of width form) (lines-shows header (rows_bytes width count rows))
    ∙ program-first width form _ _
    ∙ rw (header-shows form header t w, rows-shows width count 2 rows p e v) (with-header header rows)

pub text-shows : (form : Form) (header rows : List ℤ) → header_sized form header ≡ true → 6 * row_count rows ≡ length rows → Words header → Words rows
    → parse form (text_bytes header rows) ≡ parsed (record { header = header; rows = rows })
text-shows form header rows t e w v = table-shows 6 (row_count rows) form header rows (omega arith) t (sym e) w v

table-of : (width : ℕ) (form : Form) (text : List ℕ) (line : TextLine) (lines : List TextLine) (header rows : List ℤ) → lines_of text ≡ line ∷ lines → header_line form line ≡ Some header
    → rows_from width 2 lines ≡ parsed rows → IsTable width form text (record { header = header; rows = rows })
unfolding header_line table_bytes
table-of width form text line lines header rows e h r =
    let k = keep-reads (header_sized form) (line_numbers line) header h in
    let i = line_reads line header k.same in
    let a = rows-reads width 2 lines rows r in
    record {
      count = a.count;
      size = a.size;
      written = sym (sym (lines-joined text) ∙ ap joined e ∙ i.written lines ∙ rw a.written);
      sized = k.passes;
      header-fits = i.fits;
      rows_fit = a.fits;
    }

header-reads : (width : ℕ) (form : Form) (text : List ℕ) (line : TextLine) (lines : List TextLine) (read : Option (List ℤ)) (others : Parsed (List ℤ)) (program : Program)
    → lines_of text ≡ line ∷ lines → header_line form line ≡ read → rows_from width 2 lines ≡ others → with_header read others ≡ parsed program → IsTable width form text program
unfolding with_header
header-reads width form text line lines None others program e h r d = not-parsed d
header-reads width form text line lines (Some header) (malformed later) program e h r d = not-parsed d
header-reads width form text line lines (Some header) (parsed rows) program e h r d =
    let same : ◌≡◌ {A = Program} (record { header = header; rows = rows }) program = cc in
    rw (← same) (table-of width form text line lines header rows e h r)

program-reads : (width : ℕ) (form : Form) (text : List ℕ) (lines : List TextLine) (program : Program) → lines_of text ≡ lines → program_of width form lines ≡ parsed program → IsTable width form text program
unfolding program_of
program-reads width form text [] program e d = not-parsed d
program-reads width form text (line ∷ lines) program e d =
    header-reads width form text line lines (header_line form line) (rows_from width 2 lines) program e refl refl d

-- a text that was read is written alike
pub table-reads : (width : ℕ) (form : Form) (text : List ℕ) (program : Program) → parse_table width form text ≡ parsed program → IsTable width form text program
unfolding parse_table
table-reads width form text program d = program-reads width form text (lines_of text) program refl d

pub text-reads : (form : Form) (text : List ℕ) (program : Program) → parse form text ≡ parsed program → IsText form text program
text-reads form text program d =
    let a = table-reads 6 form text program d in
    let n : row_count program.rows ≡ a.count = omega (arith, a.size) in
    record {
      written = rw n a.written;
      sized = a.sized;
      whole = omega (arith, a.size);
      header-fits = a.header-fits;
      rows_fit = a.rows_fit;
    }
