-- Programs: the block at row 0 with its list, and the labels of a program's code.
use mathlib.Core.Path.{◌≡◌, sym, ap, subst, ◌∙◌}
use mathlib.Core.Bool.{Bool, false}
use mathlib.Core.List.{List}
use Prim.Native.Nat.{ℕ, ◌≤◌}
use native.Mathlib.Omega.{arith}
use lib.IntN.{ℤ, pos}
use Rattle.words.specs.Word.{pick}
use Rattle.words.specs.Table.{number_at}
use Rattle.language.specs.Trees.{Items, none, ◌then◌, ◌here◌, define}
use Rattle.language.specs.Calls.{Numbered}
use Rattle.language.specs.Decode.{list_at}
use Rattle.language.specs.Program.{contents}
use Rattle.translation.specs.Translate.{labels, program_labels, program_code, translate}
use Rattle.translation.specs.TranslateSize.{statement_size, program_size}
use Rattle.translation.proofs.TranslateRows.{rows-program}
use Rattle.language_emission.specs.Emission.{row_of, emit_items, emit}
use Rattle.language_shapes.specs.Source.{Source}
use Rattle.measures_table.specs.Parts.{called_in}
use Rattle.words.specs.Over.{over}
use Rattle.measures.proofs.ProgramLaws.{contents-at}
use Rattle.writers_rows.specs.Room.{more_rows}
use Rattle.writers_rows.specs.Chain.{part, back_in}
use Rattle.writers.proofs.StatementLaws.{block-put}
use Rattle.writers.proofs.LabelLaws.{list-labels-small}
use Rattle.writers_programs.specs.Asks.{NumberedFrom, kernel_program}

-- Every label of a program has a row.
pub program-labels-small : (called : ℕ → ℕ → Bool) (is : Items) → program_labels is ≤ program_size called is
unfolding program_labels program_size labels statement_size
program-labels-small called none = omega arith
program-labels-small called (s then is) = list-labels-small called (s then is)
program-labels-small called (m here is) = list-labels-small called (m here is)
program-labels-small called (define f words body is) = omega (arith, list-labels-small called body, program-labels-small called is)

-- The program's list begins with function 0.
pub program-numbered : {rows : List ℤ} {list : ℕ} → Source rows → list ≡ number_at rows 0 1 → NumberedFrom rows list
program-numbered {rows} s e = record { number = 0; numbered = subst (λ (is : Items). Numbered 0 is) (sym (contents-at rows e)) s.functions.order.numbered; low = λ h. h }

-- The row of the block, and then the program's list.
pub program-done : (S : ℕ) (rows l : List ℤ) {list size first : ℕ} {l1 l2 : List ℤ} → list ≡ number_at rows 0 1 → size ≡ program_size (called_in rows) (contents rows)
    → first ≡ pick (more_rows false size) 1 0
    → l1 ≡ over (row_of 42 (pos first) 0 0 0 0) l
    → l2 ≡ over (emit_items false (program_code (called_in rows) S (list_at rows list) 1) 1) (part 1 l1)
    → back_in 1 l1 l2 ≡ over (emit (kernel_program S (contents rows))) l
unfolding emit translate
program-done S rows l {list} {size} {first} {l1} e es ef t1 t2 =
    let code = program_code (called_in rows) S (contents rows) 1 in
    (block-put code 0 0 l (rows-program (called_in rows) S (contents rows) 1 ∙ sym es) ef t1 (t2 ∙ ap (λ (is : Items). over (emit_items false (program_code (called_in rows) S is 1) 1) (part 1 l1)) (contents-at rows e))).table
