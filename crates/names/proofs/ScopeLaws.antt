-- Laws of scope: what a row's scope and a number's meaning are; a declaration's word is its own.
use Rattle.std.proofs.Math.Path.{◌≡◌, refl, sym}
use Rattle.std.proofs.Common.{◌∙◌}
use Rattle.std.specs.Prelude.{Bool, ◌&&◌, ◌||◌, ◌⊎◌, List, ℤ, length, None, Option, Some}
use Rattle.std.proofs.Math.Bool.{true, false}
use Rattle.std.proofs.Math.Logic.{inl, inr}
use Prim.Native.Nat.{ℕ, zero, suc, ◌+◌, ◌*◌, ◌-◌, ◌≤◌, ◌<◌}
use Rattle.std.proofs.Math.Nat.{add-zero, add-suc}
use native.Mathlib.Omega.{arith}
use Rattle.std.proofs.Math.Dec.{eqb}
use borrow.Author.Tests.{eqb-true}
use Rattle.words.specs.Word.{pick, natural}
use Rattle.words.specs.Table.{row_count, number_at}
use Rattle.words.specs.Laws.{by_cases, both}
use Rattle.words.specs.Links.{link, linker, received, note_by, note}
use Rattle.check_structure.specs.Structured.{Tree}
use Rattle.check_structure.specs.LinkLaws.{by-owner, part-inside}
use Rattle.check_structure.specs.NoteLaws.{note-root, note-link}
use Rattle.check_function_causes.specs.Functions.{function_around}
use Rattle.check_function_causes.proofs.AroundLaws.{around-most}
use Rattle.names.specs.Names.{NoDeclaration, in_scope, scope_at, word_of, meant_from, parameter_from, parameter_at, meant_at}
use Rattle.names.proofs.TableLaws.{word-beyond}
use Rattle.words.specs.Declarations.{is_declaration, declarations_before, declaration_count}

-- ---- notes of any table

-- what holds of the first note, and of what is handed on, holds of every note
noted : (P : ℕ → Type 0) (hand : ℕ → ℕ → ℕ → ℕ) (first : ℕ) (rows : List ℤ) → P first → ((owner field own : ℕ) → P own → P (hand owner field own)) → (row : ℕ) → P (note hand first rows row)
unfolding note note_by received
noted P hand first rows start on row = go row row
  where
    handed : (note_of : ℕ → ℕ) → ((row : ℕ) → P (note_of row)) → (found : Option ℕ) → P (received hand first note_of found)
    handed note_of h None = start
    handed note_of h (Some word) = on _ _ _ (h _)

    go : (links row : ℕ) → P (note_by links hand first rows row)
    go zero row = start
    go (suc links) row = handed (note_by links hand first rows) (go links) (linker rows row)

pub declaration-beyond : (rows : List ℤ) (row : ℕ) → length rows ≤ 6 * row → is_declaration rows row ≡ false
unfolding is_declaration number_at natural
declaration-beyond rows row b = rw (word-beyond rows row 0 (omega arith))

module _ (rows : List ℤ) where
  -- No declaration, or one.
  abbrev pub NoneOrDeclared : ℕ → Type 0
  NoneOrDeclared row = (row ≡ 0) ⊎ (is_declaration rows row ≡ true)

  pub scope-declared : (row : ℕ) → NoneOrDeclared (scope_at rows row)
  unfolding scope_at in_scope
  scope-declared row = noted NoneOrDeclared (in_scope rows) 0 rows (inl refl) (λ owner field own h. by_cases (eqb field 5 && is_declaration rows owner) (λ e. rw e (inr (both (eqb field 5) (is_declaration rows owner) e).1)) (λ e. rw e h)) row

  -- None, or a declaration with the number.
  abbrev pub NoneOrNumbered : ℕ → ℕ → Type 0
  NoneOrNumbered number row = (row ≡ 0) ⊎ ((is_declaration rows row ≡ true) × (number_at rows row 1 ≡ number))

  -- the declaration that a number means has that number
  pub meant-from : (outward declaration number : ℕ) → NoneOrDeclared declaration → NoneOrNumbered number (meant_from outward rows declaration number)
  unfolding meant_from
  meant-from zero declaration number h = inl refl
  meant-from (suc outward) declaration number (inl z) = inl (rw z refl)
  meant-from (suc outward) declaration number (inr d) =
      by_cases (eqb declaration 0 || eqb (number_at rows declaration 1) number)
      (λ e. rw e (by_cases (eqb declaration 0) (λ z. inl (eqb-true _ _ z)) (λ z. inr (d, eqb-true _ _ (rw z at e)))))
      (λ e. rw e (meant-from outward (scope_at rows declaration) number (scope-declared declaration)))

  -- so has the parameter
  parameter-from : (most parameter number : ℕ) → NoneOrNumbered number (parameter_from most rows parameter number)
  unfolding parameter_from
  parameter-from zero parameter number = inl refl
  parameter-from (suc most) parameter number =
      by_cases (is_declaration rows parameter)
      (λ d. by_cases (eqb (number_at rows parameter 1) number) (λ e. rw (d, e) (inr (d, eqb-true _ _ e))) (λ e. rw (d, e) (parameter-from most (link rows parameter 5) number)))
      (λ d. rw d (inl refl))

  pub parameter-numbered : (definition number : ℕ) → NoneOrNumbered number (parameter_at rows definition number)
  unfolding parameter_at
  parameter-numbered definition number =
      by_cases (eqb definition 0) (λ e. rw e (inl refl)) (λ e. rw e (parameter-from 64 (link rows definition 2) number))

  pub parameter-outside : (definition number : ℕ) → definition ≡ 0 → parameter_at rows definition number ≡ 0
  unfolding parameter_at
  parameter-outside definition number e = rw e

  pub meant-declared : (row number : ℕ) → NoneOrNumbered number (meant_at rows row number)
  unfolding meant_at
  meant-declared row number =
      by_cases (eqb (meant_from 64 rows (scope_at rows row) number) 0)
      (λ e. rw e (parameter-numbered (function_around rows row) number))
      (λ e. rw e (meant-from 64 (scope_at rows row) number (scope-declared row)))

  -- outside every function a number means what is declared around the row
  pub meant-outside : (row number : ℕ) → function_around rows row ≡ 0 → meant_at rows row number ≡ meant_from 64 rows (scope_at rows row) number
  unfolding meant_at
  meant-outside row number e =
      by_cases (eqb (meant_from 64 rows (scope_at rows row) number) 0)
      (λ z. rw z (parameter-outside (function_around rows row) number e ∙ sym (eqb-true _ _ z)))
      (λ z. rw z)

  -- ---- words of declarations

  before-grow : (row more : ℕ) → declarations_before rows row ≤ declarations_before rows (row + more)
  unfolding declarations_before
  before-grow row zero = rw add-zero (omega arith)
  before-grow row (suc more) = rw add-suc (omega (arith, before-grow row more))

  -- a declaration has fewer before it than any later row
  pub before-later : (declaration row : ℕ) → is_declaration rows declaration ≡ true → declaration < row → declarations_before rows declaration < declarations_before rows row
  unfolding declarations_before
  before-later declaration row e h =
      let z : suc declaration + (row - suc declaration) ≡ row = omega arith in
      let grown = rw (z, e) at (before-grow (suc declaration) (row - suc declaration)) in
      omega arith

  pub word_after : (S declaration : ℕ) → S ≤ word_of S rows declaration
  unfolding word_of
  word_after S declaration = omega arith

  -- "there are D of them"
  pub word_below : (S declaration : ℕ) → is_declaration rows declaration ≡ true → declaration < row_count rows → word_of S rows declaration < S + declaration_count rows
  unfolding word_of declaration_count
  word_below S declaration e h = omega (arith, before-later declaration (row_count rows) e h)

  -- "its own store word", "in row order"
  pub word-later : (S declaration later : ℕ) → is_declaration rows declaration ≡ true → declaration < later → word_of S rows declaration < word_of S rows later
  unfolding word_of
  word-later S declaration later e h = omega (arith, before-later declaration later e h)

  -- ---- without declarations

  module _ (none : NoDeclaration rows) where
    pub scope-none : (row : ℕ) → scope_at rows row ≡ 0
    unfolding scope_at in_scope
    scope-none row = noted (λ (n : ℕ). n ≡ 0) (in_scope rows) 0 rows refl (λ owner field own h. rw (none owner) (own-kept (eqb field 5) own owner h)) row
      where
        own-kept : (b : Bool) (own owner : ℕ) → own ≡ 0 → pick (b && false) owner own ≡ 0
        own-kept true own owner h = h
        own-kept false own owner h = h

    pub meant-none : (row number : ℕ) → meant_at rows row number ≡ 0
    unfolding meant_at meant_from parameter_at parameter_from
    meant-none row number = rw (scope-none row, none (link rows (function_around rows row) 2)) (either (eqb (function_around rows row) 0))
      where
        either : (b : Bool) → ◌≡◌ {A = ℕ} (pick b 0 0) 0
        either true = refl
        either false = refl

-- ---- in a tree of rows

module _ (rows : List ℤ) (t : Tree rows) where
  -- a row stands in no scope, or in that of an earlier row, which is inside the table
  pub scope-before : (row : ℕ) → row < row_count rows → scope_at rows row ≤ row
  unfolding scope_at in_scope
  scope-before row n =
      by-owner rows t (λ (row : ℕ). note (in_scope rows) 0 rows row ≤ row)
      (let z = note-root (in_scope rows) 0 rows in omega arith)
      (λ owner field h leads below. let e = note-link (in_scope rows) 0 rows t owner field h leads in let l = leads.later in omega (arith, e, l, handed owner field _ below))
      row n
    where
      handed : (owner field own : ℕ) → own ≤ owner → in_scope rows owner field own ≤ owner
      handed owner field own h = by_cases (eqb field 5 && is_declaration rows owner) (λ e. rw e (omega arith)) (λ e. rw e h)

  -- so is the declaration that a number means
  meant-from-inside : (outward declaration number : ℕ) → declaration < row_count rows → meant_from outward rows declaration number < row_count rows
  unfolding meant_from
  meant-from-inside zero declaration number n = omega arith
  meant-from-inside (suc outward) declaration number n =
      by_cases (eqb declaration 0 || eqb (number_at rows declaration 1) number) (λ e. rw e n)
      (λ e. rw e (meant-from-inside outward (scope_at rows declaration) number (omega (arith, scope-before declaration n, n))))

  parameter-inside : (most parameter number : ℕ) → parameter < row_count rows → parameter_from most rows parameter number < row_count rows
  unfolding parameter_from
  parameter-inside zero parameter number n = omega arith
  parameter-inside (suc most) parameter number n =
      by_cases (is_declaration rows parameter)
      (λ d. by_cases (eqb (number_at rows parameter 1) number) (λ e. rw (d, e) n)
      (λ e. rw (d, e) (parameter-inside most (link rows parameter 5) number (part-inside rows t parameter 5 (link rows parameter 5) n (omega arith) refl))))
      (λ d. rw d (omega arith))

  pub meant-inside : (row number : ℕ) → row < row_count rows → meant_at rows row number < row_count rows
  unfolding meant_at parameter_at
  meant-inside row number n =
      by_cases (eqb (meant_from 64 rows (scope_at rows row) number) 0)
      (λ e. by_cases (eqb (function_around rows row) 0) (λ z. rw (e, z) (omega arith))
      (λ z. let inside : function_around rows row < row_count rows = omega (arith, around-most rows t row n) in
      rw (e, z) (parameter-inside 64 (link rows (function_around rows row) 2) number (part-inside rows t (function_around rows row) 2 (link rows (function_around rows row) 2) inside (omega arith) refl))))
      (λ e. rw e (meant-from-inside 64 (scope_at rows row) number (omega (arith, scope-before row n, n))))
