-- Laws of the table that a program's rows stand for: it asks as large a store, and without declarations it is the rows themselves.
use Rattle.std.specs.Prelude.{◌≡◌, refl, true, List, ℕ, zero, suc, ◌+◌, ◌/◌, ◌<◌, ℤ}
use Rattle.std.proofs.Common.{sym, ap, ◌∙◌, true≢false, arith}
use Rattle.std.proofs.Math.Decide.{dec_lt}
use Rattle.words.specs.Table.{row_count}
use Rattle.words.specs.Declarations.{is_declaration, declarations_before, declaration_count}
use Rattle.words.specs.Layout.{header_store, store_words}
use Rattle.words.specs.Laws.{by_cases}
use Rattle.words.specs.declared.Form.TheVariants.{Source}
use Rattle.check_structure.specs.Structured.{Tree}
use Rattle.names.specs.Names.{NoDeclaration}
use Rattle.names.proofs.ScopeLaws.{before-later, declaration-beyond}
use Rattle.names.proofs.ResolvedLaws.{resolved-length, resolved-declaration, resolved-none}
use Rattle.language_programs.specs.Program.{resolved_rows}

-- ---- the store

same-before : (rows other : List ℤ) → ((row : ℕ) → is_declaration other row ≡ is_declaration rows row) → (row : ℕ) → declarations_before other row ≡ declarations_before rows row
unfolding declarations_before
same-before rows other same zero = refl
same-before rows other same (suc row) = rw (same-before rows other same row, same row)

-- it has as many declarations
pub resolved-store : (header rows : List ℤ) → store_words Source header (resolved_rows Source header rows) ≡ store_words Source header rows
unfolding store_words declaration_count
resolved-store header rows =
    ap (λ (declared : ℕ). header_store Source header + declared)
    (same-before rows (resolved_rows Source header rows) (resolved-declaration _ rows) (row_count (resolved_rows Source header rows)) ∙ ap (λ (words : ℕ). declarations_before rows (words / 6)) (resolved-length _ rows))

-- ---- without declarations

-- a table that counts none has none
counted_none : (rows : List ℤ) → Tree rows → declaration_count rows ≡ 0 → NoDeclaration rows
unfolding declaration_count
counted_none rows t none row = by_cases (is_declaration rows row) (λ e. absurd (within e (dec_lt row (row_count rows)))) (λ e. e)
  where
    within : is_declaration rows row ≡ true → Dec (row < row_count rows) → ⊥
    within e (yes b) = omega (arith, before-later rows row (row_count rows) e b, none)
    within e (no b) = true≢false (sym e ∙ declaration-beyond rows row (let whole = t.whole in omega (arith, b)))

-- D is 0
pub undeclared-rows : (header rows : List ℤ) → Tree rows → declaration_count rows ≡ 0 → resolved_rows Source header rows ≡ rows
undeclared-rows header rows t none = resolved-none _ rows (counted_none rows t none)
