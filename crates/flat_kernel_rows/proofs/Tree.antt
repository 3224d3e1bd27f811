-- Tree: the tree of a plain kernel program is a kernel tree: form, labels, names and limits; the list at row 0 is its one block.
use Rattle.std.specs.Prelude.{◌≡◌, List, ℕ, ◌+◌, ◌-◌, ◌≤◌, ◌<◌, ℤ}
use Rattle.std.proofs.Math.Path.{subst}
use Rattle.std.proofs.Common.{◌∙◌}
use Rattle.std.proofs.Math.Logic.{⊎_elim}
use native.Mathlib.Omega.{arith}
use Rattle.words.specs.Layout.{layout_of, store_size, header_store, behind_of}
use Rattle.words.specs.Laws.{header_fits-facts}
use Rattle.words.specs.declared.Form.TheVariants.{Kernel}
use Rattle.words.specs.Table.{number_at}
use Rattle.language.specs.Trees.{block, none, ◌then◌}
use Rattle.language.specs.Decode.{items_at}
use Rattle.language.specs.Program.{contents}
use Rattle.check_fields.specs.Fields.{bounds_of, bounds_in}
use Rattle.check_structure.specs.StructuredLaws.{structured-tree}
use Rattle.translation.specs.KernelForm.{KernelName, name_variable, name_temporary, KernelTree}
use Rattle.check_plain.specs.Plain.{Plain}
use Rattle.accepted.specs.NamedWords.{NamesVariable}
use Rattle.accepted.proofs.Fields.{header-declared}
use Rattle.accepted.proofs.Names.{named-contents}
use Rattle.accepted.proofs.Statements.{root-inside, root-statement, program-contents}
use Rattle.accepted_kernel.proofs.Kernel.{legal-form, legal-calls, legal-rows, legal-depth}
use Rattle.flat_kernel_rows.proofs.Rows.{block_at, statement-list}
use Rattle.flat_kernel_rows.proofs.Labels.{plain-once}

module _ (header rows : List ℤ) (plain : Plain header rows) where
  -- "T temporaries, which are variable numbers S to S+T−1; numbers V to S−1 name nothing." Change 11: S to S+D+T−1.
  named : (number : ℕ) → NamesVariable (bounds_of Kernel header) number → KernelName (layout_of Kernel header) (behind_of Kernel header) number
  unfolding bounds_of header_store
  named number =
      ⊎_elim (λ h. name_variable h)
      (λ h.
      let S = store_size (layout_of Kernel header) in
      let least = h.0 in
      let most = h.1 in
      let there : S + (number - S) ≡ number = omega arith in
      subst (KernelName (layout_of Kernel header) (behind_of Kernel header)) there (name_temporary {t = number - S} (omega arith)))

  -- A plain kernel program is a kernel tree.
  pub plain-tree : KernelTree (layout_of Kernel header) (behind_of Kernel header) (contents rows)
  unfolding bounds_of
  plain-tree =
      record {
        form = legal-form header rows plain.legal;
        labels_once = λ l. plain-once header rows plain l;
        named = named-contents Kernel (bounds_of Kernel header) rows plain.legal.structured (header-declared Kernel header) (KernelName (layout_of Kernel header) (behind_of Kernel header)) named;
        calls = legal-calls header rows plain.legal;
        few_temporaries = let f = header_fits-facts Kernel header plain.legal.header-fits in omega (arith, f.few_declared, f.few_temporaries);
        few_rows = omega (arith, legal-rows header rows plain.legal, (structured-tree Kernel (bounds_of Kernel header) rows plain.legal.structured).few);
        shallow = legal-depth header rows plain.legal;
      }

  -- "Row 0 is a block with next 0".
  pub root-items : items_at rows 0 ≡ block (contents rows) then none
  root-items =
      let s = plain.legal.structured in
      let bounds = bounds_of Kernel header in
      let some = root-inside Kernel bounds rows s in
      let r = block_at header rows plain 0 some s.block in
      statement-list header rows plain 0 some (λ (q : number_at rows 0 0 ≡ 53). let k = s.block in omega arith) (root-statement Kernel bounds rows s)
      ∙ (rw (s.lone, r.is, program-contents Kernel bounds rows s, r.listed.same))
