-- Examples of the writes that runs make: document 01's program; a kernel program with temporaries; a rule that never ends and stores one
-- value again and again. By computing the run of the rows.
use Rattle.std.specs.Prelude.{◌≡◌, refl, List, [], ◌∷◌, ◌++◌, ℕ, ℤ, pos}
use Rattle.words.specs.Word.{is_word, same_word, natural}
use Rattle.words.specs.Table.{word_at, number_at}
use Rattle.words.specs.Kinds.{kinds, kind_in, kind_of, kind_at}
use Rattle.words.specs.Layout.{layout_of, sum, array_length, array_base}
use Rattle.arithmetic.specs.Arithmetic.{in_word, is_true, apply, element}
use Rattle.words.specs.declared.Form.{Form}
use Rattle.words.specs.declared.Form.TheVariants.{Source, Kernel}
use Rattle.computation.specs.Run.{steps, run}
use Rattle.computation.specs.WritesMade.{Stored, visible, made}
use Rattle.language.specs.Decode.{expression_of, arguments_of, values_of, values_by, expression_at, statement_of, items_of, trees_of, trees_by, statement_at, items_at, decode}
use Rattle.language.specs.Meaning.{evaluate, perform}
use Rattle.language.specs.Functions.{context_of}
use Rattle.language.specs.Program.{table_program, run_table_under}
use Rattle.language.specs.Rule.{Rule, row, constant}
use Rattle.language.specs.StarredRules.{worked_ends}
use Rattle.language.specs.KernelRules.{temporaries}

-- The writes to the first S words that a rule's run makes within N steps.
abbrev writes_of : Form → Rule → ℕ → ℕ → List Stored
writes_of form rule S N = made S (run_table_under (steps N) form rule.header rule.rows rule.store)

abbrev write : ℕ → ℕ → Stored
write place value = record { place = place; value = pos value }

-- while (1) v0 = 0; with v0 = 0
abbrev endless : List ℤ
endless = row 42 1 0 0 0 0 ++ row 44 2 3 0 0 0 ++ constant (pos 1) ++ row 41 4 0 0 0 0 ++ row 21 5 6 0 0 0 ++ row 2 0 0 0 0 0 ++ constant (pos 0)

abbrev endless_writes : ℕ → List Stored
endless_writes N = made 1 (run_table_under (steps N) Source (pos 1 ∷ []) endless (pos 0 ∷ []))

pub record WriteExamples : Type 0 where
  -- v0 = 2; a[v0 -= 1] = v0++; the step that fell due at 12 comes before the last two
  pub worked_at_12 : writes_of Source worked_ends 4 12 ≡ write 0 2 ∷ write 0 3 ∷ []
  pub worked_at_13 : writes_of Source worked_ends 4 13 ≡ write 0 2 ∷ write 0 3 ∷ write 0 2 ∷ write 3 2 ∷ []
  -- v4 = 5; v5 = v4 + 2; a[2] = v5; v0 = a[2]; where v4 and v5 are temporaries
  pub temporaries_left_out : writes_of Kernel temporaries 4 100 ≡ write 3 7 ∷ write 0 7 ∷ []
  -- the word holds 0 all along: a write a round
  pub equal_value_is_written : endless_writes 17 ≡ write 0 0 ∷ write 0 0 ∷ write 0 0 ∷ []
  pub no_write_yet : endless_writes 6 ≡ []

pub write-examples : WriteExamples
unfolding is_word same_word natural word_at number_at kinds kind_in kind_of kind_at layout_of sum array_length array_base in_word is_true apply element run visible expression_of arguments_of values_of values_by expression_at statement_of items_of trees_of trees_by statement_at items_at decode evaluate perform context_of table_program run_table_under
write-examples = record { worked_at_12 = refl; worked_at_13 = refl; temporaries_left_out = refl; equal_value_is_written = refl; no_write_yet = refl }
