-- Legal source programs: their names are known where they stand, and their runs do not hang on what their declared words held at the start.
use Rattle.std.specs.Prelude.{◌≡◌, refl, true, false, List, ◌++◌, ℕ, ◌≤◌, ◌<◌, ℤ, length}
use Rattle.std.proofs.Common.{arith}
use Rattle.words.specs.Table.{row_count, number_at}
use Rattle.words.specs.Kinds.{is_link, sort_in, kind_row, statement_fields}
use Rattle.words.specs.Declarations.{is_declaration, declaration_count}
use Rattle.words.specs.Layout.{layout_of, store_size}
use Rattle.words.specs.StoreLaws.{source-header-store}
use Rattle.words.specs.declared.Form.TheVariants.{Source}
use Rattle.computation.specs.Agreement.{Words, ◌within◌}
use Rattle.computation.specs.Run.{Limit, final, ending_of}
use Rattle.language.specs.Decode.{decode}
use Rattle.language_renaming.proofs.RenamingLaws.{itself}
use Rattle.language_renaming.specs.Twin.{Twin}
use Rattle.language_renaming.specs.Scoped.{Scoped}
use Rattle.words_roles.specs.Roles.{is_parameter}
use Rattle.check_fields.specs.Fields.{bounds_of}
use Rattle.check_fields.specs.declared.Bounds.{Bounds}
use Rattle.check_structure.specs.Structured.{Structured}
use Rattle.check_structure.specs.StructuredLaws.{structured-tree}
use Rattle.check_structure.specs.RoleLaws.{initial-there}
use Rattle.accepted_calls.specs.Kinds.{declaration-kind}
use Rattle.accepted_calls.specs.CallsAlong.{link-same}
use Rattle.check_source.specs.Legal.{Legal}
use Rattle.names.specs.Names.{resolved}
use Rattle.names.proofs.ResolvedNames.{DeclaredWord}
use Rattle.accepted_scopes.specs.Sources.{SourceRows}
use Rattle.accepted_scopes.proofs.Scoped.{program-scoped}
use Rattle.accepted_scopes.proofs.Independent.{Outer, Stored, run_from, independent-start}

-- a declaration that is no parameter has an initial expression
has-initial : (bounds : Bounds) (rows : List ℤ) → Structured Source bounds rows → (row : ℕ) → row < row_count rows → is_declaration rows row ≡ true → is_parameter rows row ≡ false → number_at rows row 2 ≡ 0 → ⊥
unfolding sort_in kind_row statement_fields is_link
has-initial bounds rows s row n d a z =
    let some = initial-there Source bounds rows s row n d a in
    let same = link-same rows (structured-tree Source bounds rows s) row n (declaration-kind rows row d) 2 refl in
    omega arith

-- what the check gives
pub legal-source : (header rows : List ℤ) → Legal header rows → SourceRows (layout_of Source header) rows
unfolding bounds_of
legal-source header rows legal =
    record {
      structured = rw (source-header-store header) at legal.structured;
      marks = λ row n m. (legal.placed row n).mark_inside m;
      declarations = λ row n d a. (legal.placed row n).declaration_inside d (has-initial _ rows legal.structured row n d a);
      called = legal.well_called;
    }

module _ (header rows : List ℤ) (legal : Legal header rows) where
  pub legal-scoped : (All : Words) → DeclaredWord (store_size (layout_of Source header)) rows within All → (P : Words) → (λ word. word < (layout_of Source header).variables) within P
      → Scoped All (length (layout_of Source header).lengths) P (decode (resolved (store_size (layout_of Source header)) rows))
  legal-scoped = program-scoped (layout_of Source header) rows (legal-source header rows legal)

  -- "whatever the D words held at the start": the same ending; the same count, the same writes and the same first S words
  pub legal-independent : (limit : Limit) (store first second : List ℤ) → length store ≡ store_size (layout_of Source header) → declaration_count rows ≤ length first → declaration_count rows ≤ length second
      → (ending_of (run_from (layout_of Source header) rows limit (store ++ second)) ≡ ending_of (run_from (layout_of Source header) rows limit (store ++ first)))
      × Twin (Stored (layout_of Source header) rows) itself (Outer (layout_of Source header) rows) (final (run_from (layout_of Source header) rows limit (store ++ first))) (final (run_from (layout_of Source header) rows limit (store ++ second)))
  legal-independent = independent-start (layout_of Source header) rows (legal-source header rows legal)
