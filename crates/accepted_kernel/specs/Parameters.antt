-- Parameters of a legal kernel table: "in the kernel they name their words, S to S+D−1".
use Rattle.std.specs.Prelude.{refl, List, ℕ, ◌+◌, ◌≤◌, ◌<◌, ℤ}
use Rattle.words.specs.Table.{number_at}
use Rattle.words.specs.Kinds.{sort_in, kind_row, statement_fields}
use Rattle.words.specs.Layout.{layout_of, store_size, declared_of}
use Rattle.words.specs.declared.Form.TheVariants.{Kernel}
use Rattle.check_fields.specs.Fields.{bounds_of}
use Rattle.check_parameter_causes.specs.Demands.{Parameter}
use Rattle.accepted_calls.specs.Tables.{FunctionTable}
use Rattle.accepted_calls.specs.Kinds.{declaration-kind}
use Rattle.accepted_calls.proofs.Counts.{parameter-inside}
use Rattle.accepted.proofs.Fields.{names-declared}
use Rattle.check_kernel.specs.Legal.{Legal}

pub parameter-words : (header rows : List ℤ) → Legal header rows → FunctionTable rows → (definition row : ℕ) → Parameter rows definition row
    → (store_size (layout_of Kernel header) ≤ number_at rows row 1) × (number_at rows row 1 < store_size (layout_of Kernel header) + declared_of Kernel header)
unfolding bounds_of sort_in kind_row statement_fields
parameter-words header rows legal table definition row p =
    names-declared Kernel (bounds_of Kernel header) rows legal.structured row (parameter-inside rows table definition p)
    (declaration-kind rows row (table.links.parameter definition row p)) 1 refl
