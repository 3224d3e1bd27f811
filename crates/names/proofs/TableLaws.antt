-- Laws of tables made word by word.
use Rattle.std.specs.Prelude.{◌≡◌, refl, List, [], ◌∷◌, ◌++◌, ℕ, zero, suc, ◌+◌, ◌*◌, ◌/◌, ◌%◌, ◌≤◌, ◌<◌, ℤ, pos, length, get_or}
use Rattle.std.proofs.Common.{sym, ap, ◌∙◌, arith, ext_get_or}
use Rattle.std.proofs.Math.Decide.{dec_lt}
use Rattle.std.proofs.Math.ListN.{get_or-eq_default}
use Rattle.words.specs.Table.{word_at}
use Rattle.check_grammar.specs.Grammar.{tabulate}
use Rattle.check_grammar.specs.GrammarLaws.{tabulated}
use Rattle.check_structure.specs.LinkLaws.{word-of}
use Rattle.names.specs.Names.{table_of}

pub tabulate-length : {A : Type 0} (entry : ℕ → A) (from count : ℕ) → length (tabulate entry from count) ≡ count
tabulate-length entry from zero = refl
tabulate-length entry from (suc count) = ap suc (tabulate-length entry (suc from) count)

-- one entry more
pub tabulate-more : {A : Type 0} (entry : ℕ → A) (from count : ℕ) → tabulate entry from (suc count) ≡ tabulate entry from count ++ (entry (from + count) ∷ [])
tabulate-more entry from zero = let e : from ≡ from + 0 = omega arith in ap (λ (i : ℕ). entry i ∷ []) e
tabulate-more {A} entry from (suc count) =
    let e : suc from + count ≡ from + suc count = omega arith in
    ap (λ (l : List A). entry from ∷ l) (tabulate-more entry (suc from) count ∙ ap (λ (i : ℕ). tabulate entry (suc from) count ++ (entry i ∷ [])) e)

module _ (word : ℕ → ℕ → ℤ) (words : ℕ) where
  pub table-length : length (table_of word words) ≡ words
  table-length = tabulate-length _ 0 words

  pub table-word : (row field : ℕ) → field < 6 → 6 * row + field < words → word_at (table_of word words) row field ≡ word row field
  unfolding word_at
  table-word row field h b =
      let w = word-of row field h in
      tabulated (pos 0) (λ (w : ℕ). word (w / 6) (w % 6)) words (6 * row + field) b ∙ rw (w.0, w.1)

  pub table-beyond : (row field : ℕ) → words ≤ 6 * row + field → word_at (table_of word words) row field ≡ pos 0
  unfolding word_at
  table-beyond row field b = get_or-eq_default (table_of word words) (pos 0) {n = 6 * row + field} (rw table-length b)

pub word-beyond : (rows : List ℤ) (row field : ℕ) → length rows ≤ 6 * row + field → word_at rows row field ≡ pos 0
unfolding word_at
word-beyond rows row field b = get_or-eq_default rows (pos 0) {n = 6 * row + field} b

-- a table as long as another, whose words agree with it where that one ends
pub table-all : (rows : List ℤ) (word : ℕ → ℕ → ℤ) (row field : ℕ) → field < 6 → (length rows ≤ 6 * row + field → word row field ≡ pos 0)
    → word_at (table_of word (length rows)) row field ≡ word row field
table-all rows word row field h beyond = go (dec_lt (6 * row + field) (length rows))
  where
    go : Dec (6 * row + field < length rows) → word_at (table_of word (length rows)) row field ≡ word row field
    go (yes b) = table-word word (length rows) row field h b
    go (no b) = let past : length rows ≤ 6 * row + field = omega (arith, b) in table-beyond word (length rows) row field past ∙ sym (beyond past)

-- a table made of a table's own words
pub made-of-itself : (rows : List ℤ) (word : ℕ → ℕ → ℤ) → ((row field : ℕ) → word row field ≡ word_at rows row field) → table_of word (length rows) ≡ rows
unfolding word_at
made-of-itself rows word same =
    ext_get_or (pos 0) (table_of word (length rows)) rows (table-length word (length rows))
    (λ i b. tabulated (pos 0) (λ (w : ℕ). word (w / 6) (w % 6)) (length rows) i (rw table-length at b) ∙ same (i / 6) (i % 6)
    ∙ ap (λ (n : ℕ). get_or rows n (pos 0)) (let e : 6 * (i / 6) + i % 6 ≡ i = omega arith in e))
