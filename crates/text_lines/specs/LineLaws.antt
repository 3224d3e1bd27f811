-- Laws of lines: the fields of a line and the lines of a text are what its separators part; a line of numbers is read back,
-- and one that was read is written alike.
use Rattle.std.specs.Prelude.{◌≡◌, refl, List, [], ◌∷◌, ◌++◌, map, ℕ, ◌+◌, ◌^◌, ◌≤◌, ◌<◌, eqb, ℤ, length, None, Option, Some}
use Rattle.std.proofs.Common.{sym, ap, ◌∙◌, append_assoc, arith, ne_eqb, eqb-true}
use Rattle.std.specs.Int.Signed.{mag}
use Rattle.std.proofs.lemmas.List.{length-map}
use Rattle.words.specs.Laws.{by_cases}
use Rattle.text_numbers.specs.Number.{number_bytes, number_of}
use Rattle.text_lines.specs.Line.{parted, line_bytes, longer_field, fields_of, TextLine, ended, unended, longer_line, lines_of, together, numbers_of, line_numbers}
use Rattle.text_numbers.specs.NumberLaws.{not_some, Free, free-append, number-free, IsNumber, number-reads, number-shows}

-- ---- what the separators part

pub fields-last : (bytes : List ℕ) → Free 9 bytes → fields_of bytes ≡ bytes ∷ []
unfolding fields_of Free
fields-last [] f = refl
fields-last (byte ∷ bytes) f = rw (ne_eqb byte 9 f.0, fields-last bytes f.1)

pub fields-more : (field rest : List ℕ) → Free 9 field → fields_of (field ++ (9 ∷ rest)) ≡ field ∷ fields_of rest
unfolding fields_of Free
fields-more [] rest f = refl
fields-more (byte ∷ field) rest f = rw (ne_eqb byte 9 f.0, fields-more field rest f.1)

pub lines-ended : (line rest : List ℕ) → Free 10 line → lines_of (line ++ (10 ∷ rest)) ≡ ended line ∷ lines_of rest
unfolding lines_of Free
lines-ended [] rest f = refl
lines-ended (byte ∷ line) rest f = rw (ne_eqb byte 10 f.0, lines-ended line rest f.1)

lines-unended-at : (byte : ℕ) (line : List ℕ) → Free 10 (byte ∷ line) → lines_of (byte ∷ line) ≡ unended (byte ∷ line) ∷ []
unfolding lines_of Free
lines-unended-at byte [] f = rw (ne_eqb byte 10 f.0)
lines-unended-at byte (next ∷ line) f = rw (ne_eqb byte 10 f.0, lines-unended-at next line f.1)

pub lines-unended : (line : List ℕ) → 0 < length line → Free 10 line → lines_of line ≡ unended line ∷ []
lines-unended [] h f = absurd (omega arith)
lines-unended (byte ∷ line) h f = lines-unended-at byte line f

pub lines_none : (text : List ℕ) → length text ≡ 0 → lines_of text ≡ []
unfolding lines_of
lines_none [] h = refl
lines_none (byte ∷ text) h = absurd (omega arith)

-- ---- parting and putting together

pub parted-more : (field : List ℕ) (fields : List (List ℕ)) → 0 < length fields → parted (field ∷ fields) ≡ field ++ (9 ∷ parted fields)
unfolding parted
parted-more field [] h = absurd (omega arith)
parted-more field (next ∷ fields) h = refl

pub fields-some : (bytes : List ℕ) → 0 < length (fields_of bytes)
unfolding fields_of
fields-some [] = omega arith
fields-some (byte ∷ bytes) =
    by_cases (eqb byte 9) (λ e. rw e (omega arith)) (λ e. rw e (longer (fields_of bytes)))
  where
    longer : (fields : List (List ℕ)) → 0 < length (longer_field byte fields)
    longer [] = omega arith
    longer (field ∷ fields) = omega arith

parted-one : (field : List ℕ) → parted (field ∷ []) ≡ field
unfolding parted
parted-one field = refl

longer-parted : (byte : ℕ) (fields : List (List ℕ)) → parted (longer_field byte fields) ≡ byte ∷ parted fields
unfolding parted
longer-parted byte [] = refl
longer-parted byte (field ∷ []) = refl
longer-parted byte (field ∷ (next ∷ fields)) = refl

-- the fields put together again are the line
pub fields-parted : (bytes : List ℕ) → parted (fields_of bytes) ≡ bytes
unfolding fields_of
fields-parted [] = parted-one []
fields-parted (byte ∷ bytes) =
    by_cases (eqb byte 9)
    (λ e. rw e (parted-more [] (fields_of bytes) (fields-some bytes) ∙ rw (fields-parted bytes, eqb-true byte 9 e)))
    (λ e. rw e (longer-parted byte (fields_of bytes) ∙ ap (λ (l : List ℕ). byte ∷ l) (fields-parted bytes)))

pub fields-few : (bytes : List ℕ) → length (fields_of bytes) ≤ length bytes + 1
unfolding fields_of
fields-few [] = omega arith
fields-few (byte ∷ bytes) =
    by_cases (eqb byte 9) (λ e. rw e (omega (arith, fields-few bytes)))
    (λ e. rw e (longer (fields_of bytes) (fields-some bytes) (fields-few bytes)))
  where
    longer : (fields : List (List ℕ)) → 0 < length fields → length fields ≤ length bytes + 1 → length (longer_field byte fields) ≤ length (byte ∷ bytes) + 1
    longer [] h l = omega arith
    longer (field ∷ fields) h l = omega arith

-- lines put together again
unfoldable pub joined : List TextLine → List ℕ
joined [] = []
joined (ended line ∷ lines) = line ++ (10 ∷ joined lines)
joined (unended line ∷ lines) = line ++ joined lines

longer-joined : (byte : ℕ) (lines : List TextLine) → joined (longer_line byte lines) ≡ byte ∷ joined lines
unfolding joined
longer-joined byte [] = refl
longer-joined byte (ended line ∷ lines) = refl
longer-joined byte (unended line ∷ lines) = refl

empty-joined : (lines : List TextLine) → joined (ended [] ∷ lines) ≡ 10 ∷ joined lines
unfolding joined
empty-joined lines = refl

pub none-joined : joined [] ≡ []
unfolding joined
none-joined = refl

pub lines-joined : (text : List ℕ) → joined (lines_of text) ≡ text
unfolding lines_of
lines-joined [] = none-joined
lines-joined (byte ∷ text) =
    by_cases (eqb byte 10)
    (λ e. rw e (empty-joined (lines_of text) ∙ rw (lines-joined text, eqb-true byte 10 e)))
    (λ e. rw e (longer-joined byte (lines_of text) ∙ ap (λ (l : List ℕ). byte ∷ l) (lines-joined text)))

-- ---- numbers that fields are

-- words of 32 bits
unfoldable pub Words : List ℤ → Type 0
Words [] = Unit
Words (z ∷ zs) = (mag z < 2 ^ 31) × Words zs

-- what fields that are numbers are
pub record AreNumbers (fields : List (List ℕ)) (numbers : List ℤ) : Type 0 where
  pub written : fields ≡ map number_bytes numbers
  pub fits : Words numbers

numbers-none : AreNumbers [] []
unfolding Words
numbers-none = record { written = refl; fits = tt }

numbers_more : {field : List ℕ} {fields : List (List ℕ)} {z : ℤ} {zs : List ℤ} → IsNumber field z → AreNumbers fields zs → AreNumbers (field ∷ fields) (z ∷ zs)
unfolding Words
numbers_more n r = record { written = rw (n.written, r.written); fits = (n.fits, r.fits) }

together-reads : (field : List ℕ) (fields : List (List ℕ)) (first : Option ℤ) (others : Option (List ℤ)) (numbers : List ℤ) → number_of field ≡ first → ((zs : List ℤ) → others ≡ Some zs → AreNumbers fields zs)
    → together first others ≡ Some numbers → AreNumbers (field ∷ fields) numbers
unfolding together
together-reads field fields None others numbers e ih d = not_some d
together-reads field fields (Some z) None numbers e ih d = not_some d
together-reads field fields (Some z) (Some zs) numbers e ih d =
    let same : z ∷ zs ≡ numbers = cc in
    rw (← same) (numbers_more (number-reads field z e) (ih zs refl))

pub numbers-reads : (fields : List (List ℕ)) (numbers : List ℤ) → numbers_of fields ≡ Some numbers → AreNumbers fields numbers
unfolding numbers_of
numbers-reads [] numbers d = let same : [] ≡ numbers = cc in rw (← same) numbers-none
numbers-reads (field ∷ fields) numbers d =
    together-reads field fields (number_of field) (numbers_of fields) numbers refl (numbers-reads fields) d

pub numbers-shows : (numbers : List ℤ) → Words numbers → numbers_of (map number_bytes numbers) ≡ Some numbers
unfolding numbers_of Words together
numbers-shows [] w = refl
numbers-shows (z ∷ zs) w = rw (number-shows z w.0, numbers-shows zs w.1)

-- ---- a line that was written is read back

fields-shows : (numbers : List ℤ) → 0 < length numbers → fields_of (parted (map number_bytes numbers)) ≡ map number_bytes numbers
unfolding parted
fields-shows [] h = absurd (omega arith)
fields-shows (z ∷ []) h = fields-last (number_bytes z) (number-free 9 z (omega arith))
fields-shows (z ∷ (y ∷ zs)) h =
    fields-more (number_bytes z) (parted (map number_bytes (y ∷ zs))) (number-free 9 z (omega arith))
    ∙ ap (λ (l : List (List ℕ)). number_bytes z ∷ l) (fields-shows (y ∷ zs) (omega arith))

parted-free : (numbers : List ℤ) → Free 10 (parted (map number_bytes numbers))
unfolding parted Free
parted-free [] = tt
parted-free (z ∷ []) = number-free 10 z (omega arith)
parted-free (z ∷ (y ∷ zs)) = free-append 10 (number_bytes z) _ (number-free 10 z (omega arith)) (λ e. omega arith, parted-free (y ∷ zs))

pub line-shows : (numbers : List ℤ) → 0 < length numbers → Words numbers → line_numbers (ended (parted (map number_bytes numbers))) ≡ Some numbers
unfolding line_numbers
line-shows numbers h w = ap numbers_of (fields-shows numbers h) ∙ numbers-shows numbers w

pub lines-shows : (numbers : List ℤ) (rest : List ℕ) → lines_of (line_bytes numbers ++ rest) ≡ ended (parted (map number_bytes numbers)) ∷ lines_of rest
unfolding line_bytes
lines-shows numbers rest =
    ap lines_of (append_assoc (parted (map number_bytes numbers)) (10 ∷ []) rest)
    ∙ lines-ended (parted (map number_bytes numbers)) rest (parted-free numbers)

-- ---- a line that was read is written alike

-- what a line of numbers is
pub record IsLine (line : TextLine) (numbers : List ℤ) : Type 0 where
  pub written : (lines : List TextLine) → joined (line ∷ lines) ≡ line_bytes numbers ++ joined lines
  pub filled : 0 < length numbers
  pub fits : Words numbers

numbers-many : (fields : List (List ℕ)) (numbers : List ℤ) → AreNumbers fields numbers → length fields ≡ length numbers
numbers-many fields numbers a = ap length a.written ∙ length-map numbers number_bytes

pub line_reads : (line : TextLine) (numbers : List ℤ) → line_numbers line ≡ Some numbers → IsLine line numbers
unfolding line_numbers joined line_bytes
line_reads (ended line) numbers d =
    let a = numbers-reads (fields_of line) numbers d in
    let same : line ≡ parted (map number_bytes numbers) = sym (fields-parted line) ∙ ap parted a.written in
    record {
      written = λ lines. rw (append_assoc, ← same);
      filled = omega (arith, numbers-many (fields_of line) numbers a, fields-some line);
      fits = a.fits;
    }
line_reads (unended line) numbers d = not_some d

-- a line has as many bytes as numbers, its newline counted
pub line-few : (line : List ℕ) (numbers : List ℤ) → numbers_of (fields_of line) ≡ Some numbers → length numbers ≤ length line + 1
line-few line numbers d = omega (arith, fields-few line, numbers-many (fields_of line) numbers (numbers-reads (fields_of line) numbers d))
