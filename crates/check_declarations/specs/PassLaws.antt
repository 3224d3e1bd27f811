-- Laws of the passes: the nearest row of kind 58 is the nearest declaration; a row that is no declaration breaks no cause.
use Rattle.std.specs.Prelude.{◌≡◌, Bool, false, List, ℕ, leb, eqb, ℤ}
use Rattle.std.proofs.Common.{ap, ◌∙◌, arith, eqb-true, leb-true}
use Rattle.std.proofs.Math.Path.{fun_ext}
use Rattle.std.proofs.lemmas.Bool.{eqb-false}
use Rattle.words.specs.Table.{number_at}
use Rattle.words.specs.Kinds.{between}
use Rattle.words.specs.Laws.{by_cases}
use Rattle.words.specs.Declarations.{is_declaration}
use Rattle.check_structure.specs.Passes.{Notes}
use Rattle.check_items.specs.Items.{earlier_at}
use Rattle.check_notes.specs.RowNotes.{note_at}
use Rattle.check_notes.specs.RowNoteLaws.{before-note, same-notes}
use Rattle.check_notes.specs.declared.Note.TheVariants.{Before}
use Rattle.check_parameter_causes.specs.Parameters.{declared_as_parameter}
use Rattle.check_declaration_causes.specs.Causes.{outside_block, names_itself, declared_before, one_too_many}
use Rattle.check_declarations.specs.Passes.{breaks}
use Rattle.check_declarations.specs.declared.DeclarationFault.{DeclarationFault}
use Rattle.check_declarations.specs.declared.DeclarationFault.TheVariants.{OutsideBlock, NamesItself, DeclaredBefore, DeclaredAsParameter, OneTooMany}

lone-kind : (kind : ℕ) → between 58 58 kind ≡ eqb kind 58
lone-kind kind =
    by_cases (eqb kind 58) (λ e. rw (eqb-true kind 58 e))
    (λ e. by_cases (leb 58 kind)
    (λ least. by_cases (leb kind 58)
    (λ most. absurd (eqb-false kind 58 e (omega (arith, leb-true 58 kind least, leb-true kind 58 most))))
    (λ most. rw (e, least, most)))
    (λ least. rw (e, least)))

pub declaration-notes : {rows : List ℤ} {notes : List ℕ} → Notes rows (note_at (Before 58 58) rows) notes → Notes rows (earlier_at (is_declaration rows) rows) notes
unfolding is_declaration
declaration-notes {rows} n = same-notes (λ row. before-note 58 58 rows row ∙ ap (λ (sort : ℕ → Bool). earlier_at sort rows row) (fun_ext (λ other. lone-kind (number_at rows other 0)))) n

pub none-breaks : (cause : DeclarationFault) (rows : List ℤ) (row : ℕ) → is_declaration rows row ≡ false → breaks cause rows row ≡ false
unfolding breaks outside_block names_itself declared_before declared_as_parameter one_too_many
none-breaks OutsideBlock rows row d = rw d
none-breaks NamesItself rows row d = rw d
none-breaks DeclaredBefore rows row d = rw d
none-breaks DeclaredAsParameter rows row d = rw d
none-breaks OneTooMany rows row d = rw d
