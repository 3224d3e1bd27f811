-- Laws of declarations and of the sizes of stores.
use Rattle.std.specs.Prelude.{◌≡◌, refl, Bool, true, false, List, ℕ, zero, suc, ◌+◌, ◌≤◌, ℤ}
use Rattle.std.proofs.Common.{arith}
use Rattle.words.specs.Word.{one}
use Rattle.words.specs.Table.{row_count}
use Rattle.words.specs.Declarations.{is_declaration, declarations_before, declaration_count}
use Rattle.words.specs.Layout.{layout_of, store_size, header_store, store_words, header_fits}
use Rattle.words.specs.Laws.{header_fits-facts}
use Rattle.words.specs.declared.Form.{Form}
use Rattle.words.specs.declared.Form.TheVariants.{Source, Kernel}

-- ---- declarations

pub at_most_one : (test : Bool) → one test ≤ 1
at_most_one true = omega arith
at_most_one false = omega arith

-- a row is at most one declaration
pub before-few : (rows : List ℤ) (row : ℕ) → declarations_before rows row ≤ row
unfolding declarations_before
before-few rows zero = omega arith
before-few rows (suc row) = omega (arith, before-few rows row, at_most_one (is_declaration rows row))

pub declarations-few : (rows : List ℤ) → declaration_count rows ≤ row_count rows
unfolding declaration_count
declarations-few rows = before-few rows (row_count rows)

-- ---- stores

-- S+D
pub source-store : (header rows : List ℤ) → store_words Source header rows ≡ store_size (layout_of Source header) + declaration_count rows
unfolding header_store store_words
source-store header rows = omega arith

-- the header says it all
pub kernel-store : (header rows : List ℤ) → store_words Kernel header rows ≡ header_store Kernel header
unfolding store_words
kernel-store header rows = refl

-- a source header gives S
pub source-header-store : (header : List ℤ) → header_store Source header ≡ store_size (layout_of Source header)
unfolding header_store
source-header-store header = omega arith

-- a store has the words that its header gives, the first S among them
pub store-least : (form : Form) (header rows : List ℤ) → header_store form header ≤ store_words form header rows
unfolding store_words
store-least Source header rows = omega arith
store-least Kernel header rows = omega arith

pub size-least : (form : Form) (header rows : List ℤ) → store_size (layout_of form header) ≤ store_words form header rows
unfolding header_store
size-least form header rows = omega (arith, store-least form header rows)

pub store-most : (form : Form) (header rows : List ℤ) → store_words form header rows ≤ header_store form header + row_count rows
unfolding header_store store_words
store-most Source header rows = omega (arith, declarations-few rows)
store-most Kernel header rows = omega arith

-- S is at most 8,192, and so is T; D is at most 64
pub source-small : (header rows : List ℤ) → header_fits Source header ≡ true → store_words Source header rows ≤ 8192 + declaration_count rows
source-small header rows h = omega (arith, source-store header rows, (header_fits-facts Source header h).small_store)

pub header-store-most : (form : Form) (header : List ℤ) → header_fits form header ≡ true → header_store form header ≤ 16448
unfolding header_store
header-store-most form header h = let f = header_fits-facts form header h in omega (arith, f.small_store, f.few_declared, f.few_temporaries)

pub kernel-small : (header : List ℤ) → header_fits Kernel header ≡ true → header_store Kernel header ≤ 16448
kernel-small header h = header-store-most Kernel header h
