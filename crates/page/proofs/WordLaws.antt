-- Laws of words: printed bytes fall into the words that were printed, and numbers, names and operators are read back.
use Rattle.std.specs.Prelude.{◌≡◌, refl, Bool, true, false, ◌&&◌, List, [], ◌∷◌, ◌++◌, ◌⊎◌, ℕ, zero, suc, ◌+◌, ◌-◌, ◌/◌, ◌≤◌, ◌<◌, ltb, leb, ℤ, pos, negsuc, length, None, Some}
use Rattle.std.proofs.Common.{ap, ◌∙◌, append_assoc, append-nil, inl, inr, arith, length-append, eq-eqb, ne_eqb, ltb-false, ltb-true, leb-true}
use Rattle.words.specs.Word.{pick}
use Rattle.words.specs.Laws.{by_cases}
use Rattle.words.specs.declared.Operator.{Operator}
use Rattle.words.specs.declared.Operator.TheVariants.{Add, Subtract, Multiply, Divide, Remainder, Less, Greater, LessOrEqual, GreaterOrEqual, Equal, NotEqual}
use Rattle.text_numbers.specs.Number.{digits, digits_within, number_bytes}
use Rattle.text_numbers.specs.NumberLaws.{Free, free-append, natural-shows, length_some}
use Rattle.language.specs.Trees.{variable}
use Rattle.page.specs.declared.Sizes.{Sizes}
use Rattle.page.specs.Page.{blank, operator_word, ended_by, label_word, first_temporary, name, blanks, parted}
use Rattle.page.specs.Reading.{same, pieces, filled, words_of, without, read_name, read_place, read_operator}

-- ---- bytes in a range

unfoldable pub Between : ℕ → ℕ → List ℕ → Type 0
Between least most [] = Unit
Between least most (byte ∷ bytes) = (least ≤ byte) × (byte ≤ most) × Between least most bytes

pub between-append : (least most : ℕ) (xs ys : List ℕ) → Between least most xs → Between least most ys → Between least most (xs ++ ys)
unfolding Between
between-append least most [] ys f g = g
between-append least most (x ∷ xs) ys f g = (f.0, f.1, between-append least most xs ys f.2 g)

pub wider : (least most lower upper : ℕ) (xs : List ℕ) → lower ≤ least → most ≤ upper → Between least most xs → Between lower upper xs
unfolding Between
wider least most lower upper [] a b h = tt
wider least most lower upper (x ∷ xs) a b h = (omega (arith, h.0), omega (arith, h.1), wider least most lower upper xs a b h.2)

pub between-free : (least most separator : ℕ) (xs : List ℕ) → (separator < least) ⊎ (most < separator) → Between least most xs → Free separator xs
unfolding Between Free
between-free least most separator [] o f = tt
between-free least most separator (x ∷ xs) o f = (λ e. out o e, between-free least most separator xs o f.2)
  where
    out : (separator < least) ⊎ (most < separator) → x ≡ separator → ⊥
    out (inl a) e = omega arith
    out (inr a) e = omega arith

within-between : (k n : ℕ) → n ≤ k → Between 48 57 (digits_within k n)
unfolding digits_within Between
within-between zero n h = (omega arith, omega arith, tt)
within-between (suc k) n h = by_cases (ltb n 10) (λ e. let b : n < 10 = ltb-true n 10 e in rw e (omega arith, omega arith, tt))
    (λ e. let b : 10 ≤ n = ltb-false n 10 e in rw e (between-append 48 57 (digits_within k (n / 10)) _ (within-between k (n / 10) (omega arith)) (omega arith, omega arith, tt)))

pub digits_between : (n : ℕ) → Between 48 57 (digits n)
unfolding digits
digits_between n = within-between n n (omega arith)

-- Digits and the sign.
pub number-between : (z : ℤ) → Between 45 57 (number_bytes z)
unfolding number_bytes Between
number-between (pos n) = wider 48 57 45 57 (digits n) (omega arith) (omega arith) (digits_between n)
number-between (negsuc n) = (omega arith, omega arith, wider 48 57 45 57 (digits (suc n)) (omega arith) (omega arith) (digits_between (suc n)))

-- What holds of the names of each sort holds of every name.
pub each-name : (P : List ℕ → Type 0) (sizes : Sizes) (i : ℕ) → (i < sizes.store → P (118 ∷ digits i)) → (sizes.store ≤ i → P (108 ∷ digits (i - sizes.store)))
    → (first_temporary sizes ≤ i → P (116 ∷ digits (i - first_temporary sizes))) → P (name sizes i)
unfolding name
each-name P sizes i v l t = by_cases (ltb i sizes.store)
    (λ e. rw e (v (ltb-true i sizes.store e)))
    (λ e. by_cases (ltb i (first_temporary sizes))
    (λ d. rw (e, d) (l (ltb-false i sizes.store e)))
    (λ d. rw (e, d) (t (ltb-false i (first_temporary sizes) d))))

-- Digits and the letters l, t and v.
pub name-between : (sizes : Sizes) (i : ℕ) → Between 45 118 (name sizes i)
unfolding Between
name-between sizes i = each-name (Between 45 118) sizes i (λ h. (omega arith, omega arith, digited i)) (λ h. (omega arith, omega arith, digited _)) (λ h. (omega arith, omega arith, digited _))
  where
    digited : (n : ℕ) → Between 45 118 (digits n)
    digited n = wider 48 57 45 118 (digits n) (omega arith) (omega arith) (digits_between n)

-- No name has a bracket.
pub name_free : (sizes : Sizes) (i : ℕ) → Free 91 (name sizes i)
unfolding Free
name_free sizes i = each-name (Free 91) sizes i (λ h. (λ q. omega arith, digited i)) (λ h. (λ q. omega arith, digited _)) (λ h. (λ q. omega arith, digited _))
  where
    digited : (n : ℕ) → Free 91 (digits n)
    digited n = between-free 48 57 91 (digits n) (inr (omega arith)) (digits_between n)

-- ---- pieces

pub pieces_more : (separator : ℕ) (xs ys : List ℕ) → Free separator xs → pieces separator (xs ++ (separator ∷ ys)) ≡ xs ∷ pieces separator ys
unfolding pieces Free
pieces_more separator [] ys f = rw (eq-eqb separator separator refl)
pieces_more separator (x ∷ xs) ys f = rw (ne_eqb x separator f.0, pieces_more separator xs ys f.1)

pub pieces-last : (separator : ℕ) (xs : List ℕ) → Free separator xs → pieces separator xs ≡ xs ∷ []
unfolding pieces Free
pieces-last separator [] f = refl
pieces-last separator (x ∷ xs) f = rw (ne_eqb x separator f.0, pieces-last separator xs f.1)

-- ---- words

-- A word has a byte, and neither blank nor newline.
pub record IsWord (word : List ℕ) : Type 0 where
  pub some_byte : 1 ≤ length word
  pub no_blank : Free 32 word
  pub no_newline : Free 10 word

unfoldable pub AreWords : List (List ℕ) → Type 0
AreWords [] = Unit
AreWords (word ∷ words) = IsWord word × AreWords words

pub word-of : (xs : List ℕ) → 1 ≤ length xs → Between 33 125 xs → IsWord xs
word-of xs b h = record { some_byte = b; no_blank = between-free 33 125 32 xs (inl (omega arith)) h; no_newline = between-free 33 125 10 xs (inl (omega arith)) h }

pub digits-wide : (n : ℕ) → Between 33 125 (digits n)
digits-wide n = wider 48 57 33 125 (digits n) (omega arith) (omega arith) (digits_between n)

pub digits-word : (n : ℕ) → IsWord (digits n)
digits-word n = word-of (digits n) (length_some n) (digits-wide n)

number-some : (z : ℤ) → 1 ≤ length (number_bytes z)
unfolding number_bytes
number-some (pos n) = length_some n
number-some (negsuc n) = omega arith

pub number_word : (z : ℤ) → IsWord (number_bytes z)
number_word z = word-of (number_bytes z) (number-some z) (wider 45 57 33 125 (number_bytes z) (omega arith) (omega arith) (number-between z))

name-some : (sizes : Sizes) (i : ℕ) → 1 ≤ length (name sizes i)
name-some sizes i = each-name (λ word. 1 ≤ length word) sizes i (λ h. omega arith) (λ h. omega arith) (λ h. omega arith)

pub name-word : (sizes : Sizes) (i : ℕ) → IsWord (name sizes i)
name-word sizes i = word-of (name sizes i) (name-some sizes i) (wider 45 118 33 125 (name sizes i) (omega arith) (omega arith) (name-between sizes i))

-- A word that is written out.
unfoldable pub inside : List ℕ → Bool
inside [] = true
inside (byte ∷ bytes) = pick (leb 33 byte && leb byte 125) (inside bytes) false

both_true : (a b : Bool) (rest : Bool) → pick (a && b) rest false ≡ true → (a ≡ true) × (b ≡ true) × (rest ≡ true)
both_true true true rest e = (refl, refl, e)
both_true true false rest e = absurd (let z : ◌≡◌ {A = ℕ} 0 1 = cc in omega arith)
both_true false b rest e = absurd (let z : ◌≡◌ {A = ℕ} 0 1 = cc in omega arith)

inside-between : (xs : List ℕ) → inside xs ≡ true → Between 33 125 xs
unfolding inside Between
inside-between [] e = tt
inside-between (x ∷ xs) e = let t = both_true (leb 33 x) (leb x 125) (inside xs) e in (leb-true 33 x t.0, leb-true x 125 t.1, inside-between xs t.2)

pub spelt : (xs : List ℕ) → 1 ≤ length xs → inside xs ≡ true → IsWord xs
spelt xs b e = word-of xs b (inside-between xs e)

pub operator-word : (o : Operator) → IsWord (operator_word o)
unfolding inside
operator-word Add = spelt (operator_word Add) (omega arith) refl
operator-word Subtract = spelt (operator_word Subtract) (omega arith) refl
operator-word Multiply = spelt (operator_word Multiply) (omega arith) refl
operator-word Divide = spelt (operator_word Divide) (omega arith) refl
operator-word Remainder = spelt (operator_word Remainder) (omega arith) refl
operator-word Less = spelt (operator_word Less) (omega arith) refl
operator-word Greater = spelt (operator_word Greater) (omega arith) refl
operator-word LessOrEqual = spelt (operator_word LessOrEqual) (omega arith) refl
operator-word GreaterOrEqual = spelt (operator_word GreaterOrEqual) (omega arith) refl
operator-word Equal = spelt (operator_word Equal) (omega arith) refl
operator-word NotEqual = spelt (operator_word NotEqual) (omega arith) refl

-- With a byte before it, or behind it.
pub led-word : (byte : ℕ) (xs : List ℕ) → 33 ≤ byte → IsWord xs → IsWord (byte ∷ xs)
unfolding Free
led-word byte xs a h = record { some_byte = omega arith; no_blank = (λ e. omega arith, h.no_blank); no_newline = (λ e. omega arith, h.no_newline) }

pub joined_word : (xs ys : List ℕ) → IsWord xs → IsWord ys → IsWord (xs ++ ys)
joined_word xs ys h k = record {
  some_byte = omega (arith, length-append xs ys, h.some_byte);
  no_blank = free-append 32 xs ys h.no_blank k.no_blank;
  no_newline = free-append 10 xs ys h.no_newline k.no_newline;
}

pub ended-word : (byte : ℕ) (xs : List ℕ) → 33 ≤ byte → IsWord xs → IsWord (ended_by byte xs)
unfolding Free
ended-word byte xs a h = joined_word xs (byte ∷ []) h (record { some_byte = omega arith; no_blank = (λ e. omega arith, tt); no_newline = (λ e. omega arith, tt) })

pub label-word : (l : ℕ) → IsWord (label_word l)
label-word l = led-word 76 (digits l) (omega arith) (digits-word l)

-- ---- words between blanks

words-blanks : (n : ℕ) (xs : List ℕ) → words_of (blanks n ++ xs) ≡ words_of xs
unfolding pieces filled blanks
words-blanks zero xs = refl
words-blanks (suc n) xs = words-blanks n xs

words-none : (n : ℕ) → words_of (blanks n) ≡ []
unfolding pieces filled blanks
words-none zero = refl
words-none (suc n) = words-none n

filled-word : (word : List ℕ) (words : List (List ℕ)) → 1 ≤ length word → filled (word ∷ words) ≡ word ∷ filled words
unfolding filled
filled-word [] words h = absurd (omega arith)
filled-word (byte ∷ bytes) words h = refl

words-word : (word xs : List ℕ) → IsWord word → words_of (word ++ (blank ∷ xs)) ≡ word ∷ words_of xs
words-word word xs h = ap filled (pieces_more 32 word xs h.no_blank) ∙ filled-word word _ h.some_byte

words-end : (word : List ℕ) (n : ℕ) → IsWord word → words_of (word ++ blanks n) ≡ word ∷ []
unfolding blanks filled
words-end word zero h = ap words_of (append-nil word) ∙ ap filled (pieces-last 32 word h.no_blank) ∙ filled-word word [] h.some_byte
words-end word (suc n) h = words-word word (blanks n) h ∙ ap (λ ws. word ∷ ws) (words-none n)

words-parted : (words : List (List ℕ)) (n : ℕ) → AreWords words → words_of (parted words ++ blanks n) ≡ words
unfolding AreWords parted
words-parted [] n h = words-none n
words-parted (word ∷ []) n h = words-end word n h.0
words-parted (word ∷ (second ∷ words)) n h =
    ap words_of (append_assoc word (blank ∷ parted (second ∷ words)) (blanks n)) ∙ words-word word (parted (second ∷ words) ++ blanks n) h.0 ∙ ap (λ ws. word ∷ ws) (words-parted (second ∷ words) n h.1)

-- The words of a printed line: its number, and those of the statement.
pub line-words : (a i c n : ℕ) (words : List (List ℕ)) → AreWords words → words_of ((((blanks a ++ digits n) ++ (blank ∷ (blanks i ++ parted words)))) ++ blanks c) ≡ digits n ∷ words
line-words a i c n words h =
    ap words_of (append_assoc (blanks a ++ digits n) _ (blanks c) ∙ append_assoc (blanks a) (digits n) _)
    ∙ words-blanks a _
    ∙ words-word (digits n) _ (digits-word n)
    ∙ ap (λ ws. digits n ∷ ws) (ap words_of (append_assoc (blanks i) (parted words) (blanks c)) ∙ words-blanks i _ ∙ words-parted words c h)

-- ---- what one word says

pub without-last : (last : ℕ) (bytes : List ℕ) → without last (ended_by last bytes) ≡ Some bytes
unfolding without
without-last last [] = rw (eq-eqb last last refl)
without-last last (byte ∷ []) = rw (eq-eqb last last refl)
without-last last (byte ∷ (second ∷ bytes)) = rw (without-last last (second ∷ bytes))

not-name : (sizes : Sizes) (first : ℕ) (bytes : List ℕ) → first ≤ 57 → read_name sizes (first ∷ bytes) ≡ None
unfolding read_name
not-name sizes first bytes h = rw (ne_eqb first 118 (λ e. omega arith), ne_eqb first 108 (λ e. omega arith), ne_eqb first 116 (λ e. omega arith))

pub number-no-name : (sizes : Sizes) (bytes : List ℕ) → Between 45 57 bytes → read_name sizes bytes ≡ None
unfolding Between read_name
number-no-name sizes [] h = refl
number-no-name sizes (byte ∷ bytes) h = not-name sizes byte bytes h.1

pub number-no-place : (sizes : Sizes) (bytes : List ℕ) → Between 45 57 bytes → read_place sizes bytes ≡ None
unfolding Between read_place
number-no-place sizes [] h = refl
number-no-place sizes (byte ∷ bytes) h = rw (ne_eqb byte 97 (λ e. omega (arith, h.1)), not-name sizes byte bytes h.1)

pub name-shows : (sizes : Sizes) (i : ℕ) → read_name sizes (name sizes i) ≡ Some i
unfolding read_name
name-shows sizes i = each-name (λ word. read_name sizes word ≡ Some i) sizes i
    (λ h. natural-shows i)
    (λ h. let back : sizes.store + (i - sizes.store) ≡ i = omega arith in rw (natural-shows (i - sizes.store), back))
    (λ h. let back : first_temporary sizes + (i - first_temporary sizes) ≡ i = omega arith in rw (natural-shows (i - first_temporary sizes), back))

-- A name is no element.
pub variable-shows : (sizes : Sizes) (i : ℕ) → read_place sizes (name sizes i) ≡ Some (variable i)
unfolding read_name read_place
variable-shows sizes i = each-name (λ word. read_place sizes word ≡ Some (variable i)) sizes i
    (λ h. rw (natural-shows i))
    (λ h. let back : sizes.store + (i - sizes.store) ≡ i = omega arith in rw (natural-shows (i - sizes.store), back))
    (λ h. let back : first_temporary sizes + (i - first_temporary sizes) ≡ i = omega arith in rw (natural-shows (i - first_temporary sizes), back))

pub operator-shows : (o : Operator) → read_operator (operator_word o) ≡ Some o
unfolding read_operator same
operator-shows Add = refl
operator-shows Subtract = refl
operator-shows Multiply = refl
operator-shows Divide = refl
operator-shows Remainder = refl
operator-shows Less = refl
operator-shows Greater = refl
operator-shows LessOrEqual = refl
operator-shows GreaterOrEqual = refl
operator-shows Equal = refl
operator-shows NotEqual = refl
