-- The theorems: the table of a kernel program's tree is a legal kernel program, and decode gives the tree back. (Demand 2: "The
-- translation of an accepted program is itself a legal kernel program.")
use Rattle.std.specs.Prelude.{◌≡◌, true, List, ℕ, ◌+◌, ◌*◌, ◌≤◌, ℤ, length}
use Rattle.std.proofs.Common.{arith}
use Rattle.words.specs.Table.{row_count}
use Rattle.words.specs.Layout.{Layout, behind_of, declared_of, layout_of, store_size, header_fits}
use Rattle.words.specs.declared.Form.TheVariants.{Source, Kernel}
use Rattle.language.specs.Trees.{block, Items}
use Rattle.language.specs.Decode.{decode}
use Rattle.language.specs.Program.{contents}
use Rattle.language.specs.Sizes.{statement_rows, statement_depth}
use Rattle.language.specs.WellFormed.{SourceTree}
use Rattle.translation.specs.Translate.{translate, temporaries, kernel_header}
use Rattle.translation.specs.KernelForm.{statement_times, KernelTree}
use Rattle.translation.proofs.TranslateBounds.{temporaries-bound}
use Rattle.translation_form.proofs.TranslateKernel.{translation-is-kernel, header-layout, header-declared, header-behind, header-fits}
use Rattle.check_structure.specs.StructuredLaws.{structured-tree}
use Rattle.check_kernel.specs.Legal.{Legal}
use Rattle.language_emission.specs.Emission.{emit}
use Rattle.language_emission.specs.EmissionLaws.{length-emit}
use Rattle.language_emission.specs.KernelKinds.{a_block}
use Rattle.language_emission.proofs.EmittedLaws.{emitted}
use Rattle.language_emission.proofs.ReadBack.{decode-emit, contents-emit}
use Rattle.translation_legal.specs.FormKinds.{program-kinds}
use Rattle.translation_legal.proofs.EmittedStructured.{emitted-structured}
use Rattle.translation_legal.proofs.EmittedDepth.{emitted-depth}
use Rattle.translation_legal.proofs.EmittedForms.{emitted-formed}
use Rattle.translation_legal.proofs.EmittedAhead.{emitted-ahead}
use Rattle.translation_legal.proofs.EmittedLabels.{labels-alone}
use Rattle.translation_legal.specs.OwnWords.{OwnParameters}
use Rattle.translation_legal.proofs.Parameters.{own-front, translated-own}
use Rattle.translation_legal.proofs.EmittedFunctions.{emitted-returns, emitted-called, emitted-apart}

-- ---- read-back

-- Decode reads back the table of a kernel program.
pub kernel-decodes : {L : Layout} {T : ℕ} {program : Items} → KernelTree L T program → decode (emit (block program)) ≡ block program
kernel-decodes k = decode-emit (a_block (program-kinds k.form))

pub kernel-contents : {L : Layout} {T : ℕ} {program : Items} → KernelTree L T program → contents (emit (block program)) ≡ program
kernel-contents k = contents-emit (program-kinds k.form)

-- ---- legality

-- The table of a kernel program's tree is a legal kernel program.
pub kernel-legal : (header : List ℤ) {program : Items} → header_fits Kernel header ≡ true → KernelTree (layout_of Kernel header) (behind_of Kernel header) program
    → OwnParameters (store_size (layout_of Kernel header)) (declared_of Kernel header) program → Legal header (emit (block program))
unfolding statement_times
kernel-legal header {program} fit k own =
    let rows = emit (block program) in
    let S = store_size (layout_of Kernel header) in
    let D = declared_of Kernel header in
    let size = length-emit (block program) in
    let count : row_count rows ≡ statement_rows (block program) = omega arith in
    let whole : length rows ≡ 6 * row_count rows = omega arith in
    let first = emitted (a_block (program-kinds k.form)) in
    let front = own-front S D program k.calls.numbered own in
    let structured = emitted-structured header k.few_rows k.form k.named front in
    let tree = structured-tree Kernel _ rows structured in
    record {
      header-fits = fit;
      structured = structured;
      shallow = emitted-depth rows 512 first k.shallow;
      formed = emitted-formed rows count first k.form;
      labels_once = λ l row other a b. labels-alone rows l whole count first (k.labels_once l) row other a b;
      gotos_ahead = emitted-ahead rows count first k.form;
      returns_inside = emitted-returns rows tree count first k.form k.calls S D front;
      not_twice = emitted-apart rows tree count first k.form k.calls S D front;
      well_called = emitted-called rows tree count first k.form k.calls S D front;
    }

-- ---- translations

-- "The translation of an accepted program is itself a legal kernel program": its header and its table, where the check has found the
-- program's limits and its tree well formed.
module _ (header : List ℤ) (program : Items) (fit : header_fits Source header ≡ true) (few : statement_rows (block program) ≤ 2048) (shallow : statement_depth (block program) ≤ 64)
    (D : ℕ) (declared : D ≤ 64) (source : SourceTree (layout_of Source header) (store_size (layout_of Source header) + D) program) where
  abbrev layout : Layout
  layout = layout_of Source header

  kernel-tree : KernelTree layout (D + temporaries program) (translate (store_size layout + D) program)
  kernel-tree = translation-is-kernel layout D declared program source few shallow

  pub translated-legal : OwnParameters (store_size layout) D program → Legal (kernel_header layout D (temporaries program)) (emit (block (translate (store_size layout + D) program)))
  translated-legal own =
      let T = temporaries program in
      kernel-legal (kernel_header layout D T) (header-fits header fit D T declared (omega (arith, temporaries-bound program))) (rw (header-layout layout D T, header-behind layout D T) kernel-tree)
      (rw (header-layout layout D T, header-declared layout D T) (translated-own (store_size layout) D layout (store_size layout + D) program source own))

  pub translated-decodes : decode (emit (block (translate (store_size layout + D) program))) ≡ block (translate (store_size layout + D) program)
  translated-decodes = kernel-decodes kernel-tree

  pub translated-contents : contents (emit (block (translate (store_size layout + D) program))) ≡ translate (store_size layout + D) program
  translated-contents = kernel-contents kernel-tree
