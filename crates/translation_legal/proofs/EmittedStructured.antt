-- Emitted tables are structured: what document 01 demands of the rows of both forms.
use Rattle.std.specs.Prelude.{◌≡◌, true, false, List, ℕ, ◌+◌, ◌≤◌, ◌<◌, ltb, ℤ, length}
use Rattle.std.proofs.Math.Bool.{or-true}
use Rattle.std.proofs.Common.{arith, lt-ltb, le-leb}
use Rattle.words.specs.Table.{row_count}
use Rattle.words.specs.Layout.{behind_of, declared_of, layout_of, store_size, header_store}
use Rattle.words.specs.Laws.{facts-count_fits}
use Rattle.words.specs.declared.Form.TheVariants.{Kernel}
use Rattle.language.specs.Trees.{block, Items}
use Rattle.language.specs.WellFormed.{NamedItems}
use Rattle.language.specs.Sizes.{statement_rows}
use Rattle.language.specs.TreeLaws.{statement-some}
use Rattle.translation.specs.KernelForm.{is_label_number, KernelName, name_variable, name_temporary, KernelProgram}
use Rattle.words.specs.Kinds.{variable, array, label, declared_number}
use Rattle.check_fields.specs.Fields.{bounds_of, number_fits}
use Rattle.check_structure.specs.Structured.{Structured}
use Rattle.language_emission.specs.Emission.{list_link, emit}
use Rattle.language_emission.specs.EmissionLaws.{length-emit}
use Rattle.language_emission.specs.Emitted.{Row, EmittedStatement, block_at}
use Rattle.language_emission.proofs.EmittedLaws.{emitted}
use Rattle.language_emission.specs.KernelKinds.{a_block}
use Rattle.translation_legal.specs.FormKinds.{program-kinds}
use Rattle.translation_legal.specs.Suits.{RowLegal}
use Rattle.translation_legal.specs.OwnWords.{ParameterWord, OwnWords, FrontParameters}
use Rattle.translation_legal.proofs.EmittedRows.{emitted-rows}
use Rattle.translation_legal.specs.EmittedKinds.{known-statement}
use Rattle.translation_legal.proofs.EmittedOnce.{linked-once}

block-row : {rows : List ℤ} {contents : Items} {base next : ℕ} → EmittedStatement rows (block contents) base next → Row rows base 42 (list_link false contents (base + 1)) 0 0 0 next
block-row (block_at r m) = r

name-fits : (header : List ℤ) (i : ℕ) → KernelName (layout_of Kernel header) (behind_of Kernel header) i → number_fits (bounds_of Kernel header) variable i ≡ true
unfolding number_fits bounds_of header_store
name-fits header i (name_variable h) = rw (lt-ltb _ _ h)
name-fits header i (name_temporary {t} h) =
    let L = layout_of Kernel header in
    let least : store_size L ≤ store_size L + t = omega arith in
    let most : store_size L + t < store_size L + behind_of Kernel header = omega arith in
    rw (le-leb _ _ least, lt-ltb _ _ most) (or-true (ltb (store_size L + t) L.variables))

-- "In the kernel they name their words, S to S+D−1".
word_fits : (header : List ℤ) (i : ℕ) → ParameterWord (store_size (layout_of Kernel header)) (declared_of Kernel header) i → number_fits (bounds_of Kernel header) declared_number i ≡ true
unfolding number_fits bounds_of
word_fits header i h = rw (le-leb _ _ h.least, lt-ltb _ _ h.most)

array-fits : (header : List ℤ) (i : ℕ) → i < length (layout_of Kernel header).lengths → number_fits (bounds_of Kernel header) array i ≡ true
unfolding number_fits bounds_of
array-fits header i h = rw (lt-ltb _ _ h)

label-fits : (header : List ℤ) (l : ℕ) → is_label_number l → number_fits (bounds_of Kernel header) label l ≡ true
unfolding number_fits
label-fits header l h = rw (lt-ltb _ _ h)

-- The table of a kernel program, whose numbers are in range.
module _ (header : List ℤ) {program : Items} (few : statement_rows (block program) ≤ 40980) (form : KernelProgram program)
    (named : NamedItems (KernelName (layout_of Kernel header) (behind_of Kernel header)) (length (layout_of Kernel header).lengths) program)
    (own : FrontParameters (OwnWords (store_size (layout_of Kernel header)) (declared_of Kernel header)) program) where
  pub emitted-structured : Structured Kernel (bounds_of Kernel header) (emit (block program))
  emitted-structured =
      let rows = emit (block program) in
      let size = length-emit (block program) in
      let count : row_count rows ≡ statement_rows (block program) = omega arith in
      let some = statement-some (block program) in
      let first = emitted (a_block (program-kinds form)) in
      let bounds = bounds_of Kernel header in
      let row-legal : (row : ℕ) → row < row_count rows → RowLegal bounds rows row =
      emitted-rows bounds rows (KernelName (layout_of Kernel header) (behind_of Kernel header)) (length (layout_of Kernel header).lengths) (store_size (layout_of Kernel header)) (declared_of Kernel header)
      (name-fits header) (word_fits header) (array-fits header) (label-fits header) count first named own form in
      let root = block-row first in
      record {
        count-fits = facts-count_fits Kernel (length rows) (record { least = omega arith; most = omega arith; multiple = omega arith; whole = omega arith });
        known = λ row h. known-statement rows (row_count rows) (omega arith) first row (omega arith) h;
        unused_zero = λ row h field l m. (row-legal row h field l m).unused_zero;
        present = λ row h field l m. (row-legal row h field l m).present;
        forward = λ row h field l m. (row-legal row h field l m).forward;
        fitting = λ row h field l m. (row-legal row h field l m).fitting;
        block = root.kind_is;
        lone = root.next_is;
        once = λ row p h. linked-once rows row p count first h;
        named = λ row h field l m. (row-legal row h field l m).named;
      }
