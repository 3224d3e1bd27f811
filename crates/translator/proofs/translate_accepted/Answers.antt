-- `translate_accepted` takes rows without declarations as they stand, others by their resolved table.
use Rattle.std.specs.Prelude.{Ok, Result, ℕ}
use Rattle.words.specs.Refusals.{NumberedRefusal}
use mathlib.Core.Path.{◌≡◌, sym}
use mathlib.Core.List.{List}
use native.Mathlib.Omega.{arith}
use lib.IntN.{ℤ}
use borrow.Author.Rules.{rules}
use Rattle.check_source.specs.Refusal.{refusal as source_refusal}
use Rattle.accepted_rows.specs.ResolvedPrograms.{undeclared-table}
use Rattle.translation_fate.specs.KernelForms.{HasKernelForm}
use Rattle.translation_fate.proofs.HasKernelForm.{has-kernel-form}
use Rattle.translator.specs.Translation.{answer_and_tables, translate_after, translate_result, WritesKernelForm}
use Rattle.translator.proofs.TranslationLaws.{accepted-result, writes-kernel-form}
use Rattle.translator.proofs.translate_accepted.Goals as goal

-- the three promises, from what the writers leave
promises : (header rows outHeader outRows headerLeft rows_left : List ℤ) (answer : Result (ℕ × ℕ) NumberedRefusal) → source_refusal header rows ≡ (Ok tt)
    → answer_and_tables answer headerLeft rows_left ≡ translate_after (Ok tt) header rows outHeader outRows
    → (answer_and_tables answer headerLeft rows_left ≡ translate_result header rows outHeader outRows) × (HasKernelForm header rows × WritesKernelForm header rows answer headerLeft rows_left)
promises header rows outHeader outRows headerLeft rows_left answer accepted e =
    let has = has-kernel-form header rows in
    let result = accepted-result header rows outHeader outRows headerLeft rows_left answer accepted e in
    (result, (has, writes-kernel-form header rows outHeader outRows headerLeft rows_left answer has result))

pub translate_table-requires : goal.translate_table-requires
translate_table-requires c =
    (c.requires, sym (undeclared-table c.args.header.now c.args.rows.now c.requires (omega (arith, c.if-declaration_count-eq0.true, c.declaration_count.ensures))))

pub returns-then-declaration_count-eq0 : goal.returns-then-declaration_count-eq0
returns-then-declaration_count-eq0 c =
    let (result, (has, writes)) = promises c.args.header.now c.args.rows.now _ _ _ _ _ c.requires c.translate_table.ensures in
    record { kernel_rows_after = result; has_kernel_form = has; writes_kernel_form = writes }

pub returns : goal.returns
returns c =
    let (result, (has, writes)) = promises c.args.header.now c.args.rows.now _ _ _ _ _ c.requires c.translate_resolved.ensures in
    record { kernel_rows_after = result; has_kernel_form = has; writes_kernel_form = writes }
