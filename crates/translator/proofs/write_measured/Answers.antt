-- `write_measured` tests the room that the program's measures ask for, and writes both tables: they are the kernel form's.
use Rattle.std.specs.Prelude.{Ok}
use mathlib.Core.Path.{◌≡◌, sym, ap, subst, ◌∙◌}
use mathlib.Core.List.{List}
use Prim.Native.Nat.{ℕ, ◌+◌, ◌≤◌}
use native.Mathlib.Omega.{arith}
use lib.IntN.{ℤ}
use lib.ListN.{length}
use borrow.Author.Rules.{rules}
use Rattle.words.specs.Layout.{store_words}
use Rattle.words.specs.Over.{over}
use Rattle.words.specs.declared.Form.TheVariants.{Source}
use Rattle.language.specs.Program.{contents}
use Rattle.language_programs.specs.Program.{resolved_rows}
use Rattle.language_emission.specs.Emission.{emit}
use Rattle.measures_table.specs.Parts.{called_in}
use Rattle.measures_table.specs.Measures.{Measured, ProgramMeasured}
use Rattle.writers_programs.specs.Asks.{ProgramAsks, kernel_program}
use Rattle.translation_fate.specs.KernelForms.{kernel_header_of, kernel_rows_of}
use Rattle.translator.specs.Translation.{answer_and_tables, translate_after}
use Rattle.translator.proofs.TranslationLaws.{header-short, rows_short, both-written}
use Rattle.translator.specs.AcceptedLaws.{accepted-header, few_declarations, first_is, first-low, accepted-asks, temporaries-low, header-words, row-words, row-words-low, header_is, rows_are}
use Rattle.translator.proofs.write_measured.Goals as goal
use Rattle.translator.proofs.write_measured.Goals.{After-measured_program-program, After-store_size, Start}

-- what the measures are of
measured : (start : Start) → Measured (resolved_rows Source start.args.header.now start.args.rows.now) start.args.table.now
measured start = subst (λ (l : List ℤ). Measured l start.args.table.now) start.requires.1 start.requires.2

-- what stands in both tables, where they have room
all-written : (header rows outHeader outRows : List ℤ) {n k : ℕ} {headerLeft rows_left : List ℤ} → n ≡ length (kernel_header_of header rows) → k ≡ length (kernel_rows_of header rows)
    → headerLeft ≡ over (kernel_header_of header rows) outHeader → rows_left ≡ over (kernel_rows_of header rows) outRows → n ≤ length outHeader → k ≤ length outRows
    → answer_and_tables (Ok (n, k)) headerLeft rows_left ≡ translate_after (Ok tt) header rows outHeader outRows
all-written header rows outHeader outRows en ek eh er hn hk =
    rw (en, ek, eh, er) (both-written (kernel_header_of header rows) (kernel_rows_of header rows) outHeader outRows (omega (arith, en, hn)) (omega (arith, ek, hk)))

pub measured_program-program-requires : goal.measured_program-program-requires
measured_program-program-requires c = c.requires.2

-- the measures of the program
counted : (c : After-measured_program-program) →
    let resolved = resolved_rows Source c.args.header.now c.args.rows.now in
    ProgramMeasured (called_in resolved) (contents resolved) c.measured_program-program.result
counted c = subst (λ (l : List ℤ). ProgramMeasured (called_in l) (contents l) c.measured_program-program.result) c.requires.1 c.measured_program-program.ensures

pub returns-then-header_words-kernel_header : goal.returns-then-header_words-kernel_header
returns-then-header_words-kernel_header c =
    let header = c.args.header.now in
    let rows = c.args.rows.now in
    header-short (kernel_header_of header rows) (kernel_rows_of header rows) c.args.kernel_header.now c.args.kernel_rows.now
    (omega (arith, header-words header rows c.requires.0, c.if-header_words-kernel_header.true))

pub overflow_add-row_words : goal.overflow_add-row_words
overflow_add-row_words c =
    omega (arith, row-words-low c.args.header.now c.args.rows.now c.requires.0 (counted (goal.at.overflow_add-row_words c).After-measured_program-program))

pub overflow_mul-row_words : goal.overflow_mul-row_words
overflow_mul-row_words c =
    omega (arith, row-words-low c.args.header.now c.args.rows.now c.requires.0 (counted (goal.at.overflow_mul-row_words c).After-measured_program-program))

pub returns-then-row_words-kernel_rows : goal.returns-then-row_words-kernel_rows
returns-then-row_words-kernel_rows c =
    let header = c.args.header.now in
    let rows = c.args.rows.now in
    rows_short (kernel_header_of header rows) (kernel_rows_of header rows) c.args.kernel_header.now c.args.kernel_rows.now
    (omega (arith, row-words header rows c.requires.0 (counted (goal.at.returns-then-row_words-kernel_rows c).After-measured_program-program), c.if-row_words-kernel_rows.true))

pub write_header-requires : goal.write_header-requires
write_header-requires c =
    let header = c.args.header.now in
    let rows = c.args.rows.now in (
      accepted-header header rows c.requires.0,
      omega (arith, c.declaration_count-declared.ensures, few_declarations header rows c.requires.0),
      temporaries-low header rows c.requires.0 (counted (goal.at.write_header-requires c).After-measured_program-program),
      omega (arith, c.if-header_words-kernel_header.false),
    )

pub store_size-requires : goal.store_size-requires
store_size-requires c =
    accepted-header c.args.header.now c.args.rows.now c.requires.0

-- the store word where the temporaries begin
first_counted : (c : After-store_size)
    → c.store_size.result + c.declaration_count-declared.result
    ≡ store_words Source c.args.header.now c.args.rows.now
first_counted c =
    first_is c.args.header.now c.args.rows.now c.requires.0 _ _ c.store_size.ensures c.declaration_count-declared.ensures

pub overflow_add-first : goal.overflow_add-first
overflow_add-first c =
    omega (arith, first_counted c, first-low c.args.header.now c.args.rows.now c.requires.0)

pub write_program-requires : goal.write_program-requires
write_program-requires c =
    let header = c.args.header.now in
    let rows = c.args.rows.now in
    let table = c.args.table.now in
    let program = c.measured_program-program.result in
    let room = length c.args.kernel_rows.now in
    let first = c.store_size.result + c.declaration_count-declared.result in
    let asks = accepted-asks header rows c.requires.0 (counted (goal.at.write_program-requires c).After-measured_program-program) (measured (goal.at.write_program-requires c).Start) room (omega (arith, c.if-row_words-kernel_rows.false)) in
    subst (λ (l : List ℤ). ProgramAsks l table first program.rows program.levels room) (sym c.requires.1)
    (subst (λ (S : ℕ). ProgramAsks (resolved_rows Source header rows) table S program.rows program.levels room) (sym (first_counted (goal.at.write_program-requires c).After-store_size)) asks)

pub returns : goal.returns
returns c =
    let header = c.args.header.now in
    let rows = c.args.rows.now in
    let outHeader = c.args.kernel_header.now in
    let outRows = c.args.kernel_rows.now in
    let accepted = c.requires.0 in
    let counts = counted (goal.at.returns c).After-measured_program-program in
    let declared = c.declaration_count-declared in
    let first = c.store_size.result + declared.result in
    let headerLeft = c.write_header.ensures ∙ ap (λ (ws : List ℤ). over ws outHeader) (header_is header rows accepted counts _ declared.ensures) in
    let rows_left = c.write_program.ensures ∙ ap (λ (ws : List ℤ). over ws outRows) (ap (λ (l : List ℤ). emit (kernel_program first (contents l))) c.requires.1 ∙ rows_are header rows accepted _ (first_counted (goal.at.returns c).After-store_size)) in
    all-written header rows outHeader outRows (header-words header rows accepted) (row-words header rows accepted counts) headerLeft rows_left (omega (arith, c.if-header_words-kernel_header.false)) (omega (arith, c.if-row_words-kernel_rows.false))
