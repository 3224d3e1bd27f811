-- `run_accepted`: a source program by `run_source`, a kernel program by `run_kernel`.
use Rattle.std.specs.Prelude.{Ok}
use mathlib.Core.Path.{◌≡◌, sym, ap, subst, ◌∙◌}
use borrow.Author.Rules.{rules}
use mathlib.Core.List.{List}
use Prim.Native.Nat.{ℕ}
use lib.IntN.{ℤ}
use lib.ListN.{length}
use Rattle.words.specs.Layout.{store_words}
use Rattle.words.specs.declared.Form.{Form}
use Rattle.language_programs.specs.Program.{run_program}
use Rattle.program_runs.specs.Runs.{refusal_of}
use Rattle.program_runs.proofs.run_accepted.Goals as goal

-- what the run of either form asks and promises, once its form is known
asks_at : {form same : Form} (header rows store : List ℤ) → (refusal_of form header rows ≡ (Ok tt)) × (length store ≡ store_words form header rows) → form ≡ same
    → (refusal_of same header rows ≡ (Ok tt)) × (length store ≡ store_words same header rows)
asks_at header rows store asked e = subst (λ (form : Form). (refusal_of form header rows ≡ (Ok tt)) × (length store ≡ store_words form header rows)) e asked

run_at : {form same : Form} (header rows store : List ℤ) (budget : ℕ) → form ≡ same → run_program form header rows budget store ≡ run_program same header rows budget store
run_at header rows store budget e = ap (λ (form : Form). run_program form header rows budget store) e

pub run_source-requires : goal.run_source-requires
run_source-requires c =
    let asked = asks_at c.args.header.now c.args.rows.now c.args.store.now (c.requires.rows_value, c.requires.store_len) c.in-Source.is in record { rows_value = asked.0; store_len = asked.1 }

pub run_kernel-requires : goal.run_kernel-requires
run_kernel-requires c =
    let asked = asks_at c.args.header.now c.args.rows.now c.args.store.now (c.requires.rows_value, c.requires.store_len) c.in-Kernel.is in record { rows_value = asked.0; store_len = asked.1 }

pub returns-in-Source : goal.returns-in-Source
returns-in-Source c =
    c.run_source.ensures ∙ sym (run_at c.args.header.now c.args.rows.now c.args.store.now c.args.budget c.in-Source.is)

pub returns-in-Kernel : goal.returns-in-Kernel
returns-in-Kernel c =
    c.run_kernel.ensures ∙ sym (run_at c.args.header.now c.args.rows.now c.args.store.now c.args.budget c.in-Kernel.is)
