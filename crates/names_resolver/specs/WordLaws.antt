-- Laws of the resolved words, a case each; and a table filled word by word.
use Rattle.std.specs.Prelude.{◌≡◌, true, false, List, [], ◌∷◌, ◌++◌, ℕ, suc, ◌+◌, ◌/◌, ◌%◌, ◌<◌, ℤ, length, get_or, set}
use Rattle.std.proofs.Common.{sym, ◌∙◌, arith}
use Rattle.std.proofs.Math.Path.{ap}
use Rattle.std.proofs.Math.IntN.{pos}
use borrow.Author.Tests.{eq-eqb, ne_eqb}
use Rattle.words.specs.Table.{row_count, word_at, number_at}
use Rattle.words.specs.Over.{over}
use Rattle.words.specs.OverLaws.{over-set}
use Rattle.words.specs.Declarations.{is_declaration}
use Rattle.names.specs.Names.{table_of, is_name, word_of, meant_at, variable_word, resolved_name, resolved_word}
use Rattle.names.proofs.TableLaws.{tabulate-more, table-length}
use Rattle.names_resolver.specs.Passes.{Scanned}
use Rattle.names_resolver.specs.ScanLaws.{count_is}

module _ (S : ℕ) (rows : List ℤ) (row : ℕ) where
  pub variable-outer : (declaration : ℕ) → declaration ≡ meant_at rows row (number_at rows row 1) → declaration ≡ 0 → variable_word S rows row ≡ word_at rows row 1
  unfolding variable_word
  variable-outer declaration e z = rw (← e, eq-eqb declaration 0 z)

  pub variable-declared : (declaration : ℕ) → declaration ≡ meant_at rows row (number_at rows row 1) → (declaration ≡ 0 → ⊥) → variable_word S rows row ≡ pos (word_of S rows declaration)
  unfolding variable_word
  variable-declared declaration e n = rw (← e, ne_eqb declaration 0 n)

  pub name-declared : is_declaration rows row ≡ true → resolved_name S rows row ≡ pos (word_of S rows row)
  unfolding resolved_name
  name-declared d = rw d

  pub name_variable : is_declaration rows row ≡ false → number_at rows row 0 ≡ 2 → resolved_name S rows row ≡ variable_word S rows row
  unfolding resolved_name is_name
  name_variable d n = rw (d, eq-eqb _ _ n)

  pub name-other : is_declaration rows row ≡ false → (number_at rows row 0 ≡ 2 → ⊥) → resolved_name S rows row ≡ word_at rows row 1
  unfolding resolved_name is_name
  name-other d n = rw (d, ne_eqb _ _ n)

  pub word-named : (field : ℕ) → field ≡ 1 → resolved_word S rows row field ≡ resolved_name S rows row
  unfolding resolved_word
  word-named field e = rw (eq-eqb field 1 e)

  pub word_kept : (field : ℕ) → (field ≡ 1 → ⊥) → resolved_word S rows row field ≡ word_at rows row field
  unfolding resolved_word
  word_kept field n = rw (ne_eqb field 1 n)

  -- the word of a declaration, by its count
  pub declared-word : {scopes around counts : List ℕ} → Scanned rows scopes around counts → row < row_count rows → pos (S + get_or counts row 0) ≡ pos (word_of S rows row)
  unfolding word_of
  declared-word s n = ap (λ (k : ℕ). pos (S + k)) (count_is s row n)

-- one word more of a table that is written over another
pub fill_more : (word : ℕ → ℕ → ℤ) (start out : List ℤ) (n : ℕ) (v : ℤ) → out ≡ over (table_of word n) start → n < length start → v ≡ word (n / 6) (n % 6) → set out n v ≡ over (table_of word (n + 1)) start
fill_more word start out n v e h f =
    let whole = table-length word n in
    let from : 0 + n ≡ n = omega arith in
    let entry : v ≡ word ((0 + n) / 6) ((0 + n) % 6) = rw from f in
    over-set (table_of word n) start out n v e (sym whole) (omega arith)
    ∙ ap (λ (l : List ℤ). over l start) (ap (λ (x : ℤ). table_of word n ++ (x ∷ [])) entry ∙ sym (tabulate-more (λ (w : ℕ). word (w / 6) (w % 6)) 0 n))
    ∙ ap (λ (k : ℕ). over (table_of word k) start) (let e : suc n ≡ n + 1 = omega arith in e)
