-- Laws of arguments: the code by the copies is the translation's, where the copies are those of arguments before which others can write the
-- variables W; how many rows it has; and the arguments at a row.
use Rattle.std.specs.Prelude.{◌≡◌, Bool, false, List, [], ◌++◌, ℤ, pos, None, Some}
use Rattle.std.proofs.Math.Path.{refl, ap, ap₂}
use Rattle.std.proofs.Common.{sym, ◌∙◌, append_assoc, append-nil, arith, eq-eqb, ne_eqb}
use Prim.Native.Nat.{ℕ, zero, suc, ◌+◌, ◌*◌, ◌-◌, ◌/◌, ◌%◌, ◌≤◌, ◌<◌}
use Rattle.words.specs.Word.{pick}
use Rattle.words.specs.Over.{over}
use Rattle.words.specs.OverLaws.{over-next}
use Rattle.words.specs.Table.{row_count, number_at}
use Rattle.language.specs.Trees.{Expression, assign, call, variable, Arguments, no_more, ◌also◌, express, Items, none, ◌then◌, ◌⧺◌}
use Rattle.language.specs.Calls.{argument_count}
use Rattle.language.specs.Decode.{expression_at, argument_list_at}
use Rattle.language.specs.Sizes.{expression_rows, arguments_rows, statement_rows}
use Rattle.language.specs.Writes.{writes}
use Rattle.translation.specs.declared.Use.TheVariants.{Wanted as wanted}
use Rattle.translation.specs.Translate.{Atom, together, atom_of, taken, atom, arguments_taken, expression_code, argument_atoms, arguments_code}
use Rattle.translation.specs.TranslateSize.{copied}
use Rattle.translation.proofs.TranslateBounds.{taken_most}
use Rattle.translation.proofs.TranslateRows.{rows-atom}
use Rattle.translation.specs.Holding.{held_by, hold_by}
use Rattle.translation.proofs.HeldCode.{copied-most, held-by, hold-by}
use Rattle.language_emission.specs.Emission.{row_of, arguments_link, emit_expression, emit_arguments, emit_items}
use Rattle.language_emission.specs.EmissionLaws.{length-expression, length-arguments}
use Rattle.language_shapes.specs.Shapes.{OptionalOnward, ArgumentAt}
use Rattle.measures_table.specs.Arguments.{argument_copies}
use Rattle.measures_table.specs.Parts.{called_in}
use Rattle.writers_rows.specs.Room.{more_rows}
use Rattle.writers_rows.specs.Atoms.{atom_tree}
use Rattle.writers_rows.specs.Straight.{target_rows}
use Rattle.writers_rows.specs.Chain.{part, back_in, PutWords, put_next, reworded, more-some}
use Rattle.writers_rows.specs.declared.KernelAtom.{KernelAtom}
use Rattle.writers_steps.specs.Asks.{HeldAt}
use Rattle.writers_steps.specs.AtomLaws.{atom-rows}
use Rattle.writers_calls.specs.Arguments.{taken_by, atoms_by, code_by}
use Rattle.writers_calls.specs.Asks.{Passing, CountIs, TakenIs}
use Rattle.writers_calls.specs.Ranks.{rank, rank_falls}

-- ---- digits

digit : (b c : ℕ) → b ≤ 1 → (b + 2 * c) % 2 ≡ b
digit b c h = omega arith

others : (b c : ℕ) → b ≤ 1 → (b + 2 * c) / 2 ≡ c
others b c h = omega arith

-- ---- the code by the copies

-- `called f i`: whether function f can write the variable i.
module _ (called : ℕ → ℕ → Bool) where
  pub first-digit : (e : Expression) (arguments : Arguments) (W : ℕ → Bool) → argument_copies called (e also arguments) W % 2 ≡ copied (atom_of called e) W
  unfolding argument_copies
  first-digit e arguments W = digit (copied (atom_of called e) W) (argument_copies called arguments (together (writes called e) W)) (copied-most (atom_of called e) W)

  pub other-digits : (e : Expression) (arguments : Arguments) (W : ℕ → Bool) → argument_copies called (e also arguments) W / 2 ≡ argument_copies called arguments (together (writes called e) W)
  unfolding argument_copies
  other-digits e arguments W = others (copied (atom_of called e) W) (argument_copies called arguments (together (writes called e) W)) (copied-most (atom_of called e) W)

  pub taken-by : (arguments : Arguments) (W : ℕ → Bool) → taken_by called arguments (argument_copies called arguments W) ≡ arguments_taken called arguments W
  unfolding taken_by arguments_taken
  taken-by no_more W = refl
  taken-by (e also arguments) W =
      ap₂ (λ (c d : ℕ). taken_by called arguments c + taken (held_by d (atom_of called e))) (other-digits e arguments W) (first-digit e arguments W)
      ∙ ap₂ ◌+◌ (taken-by arguments (together (writes called e) W)) (ap taken (sym (held-by (atom_of called e) W)))

  module _ (S : ℕ) where
    pub atoms-by : (arguments : Arguments) (W : ℕ → Bool) (t : ℕ) → atoms_by called S arguments (argument_copies called arguments W) t ≡ argument_atoms called S arguments W t
    unfolding atoms_by argument_atoms
    atoms-by no_more W t = refl
    atoms-by (e also arguments) W t =
        let after = together (writes called e) W in
        ap₂ (λ (c d : ℕ). atom S (t + taken_by called arguments c) (held_by d (atom_of called e)) also atoms_by called S arguments c t) (other-digits e arguments W) (first-digit e arguments W)
        ∙ ap₂ (λ (n : ℕ) (rest : Arguments). atom S (t + n) (held_by (copied (atom_of called e) W) (atom_of called e)) also rest) (taken-by arguments after) (atoms-by arguments after t)
        ∙ ap (λ h. atom S (t + arguments_taken called arguments after) h also argument_atoms called S arguments after t) (sym (held-by (atom_of called e) W))

    pub code-by : (arguments : Arguments) (W : ℕ → Bool) (t : ℕ) → code_by called S arguments (argument_copies called arguments W) t ≡ arguments_code called S arguments W t
    unfolding code_by arguments_code
    code-by no_more W t = refl
    code-by (e also arguments) W t =
        let after = together (writes called e) W in
        let h = atom_of called e in
        ap₂ (λ (c d : ℕ). code_by called S arguments c t ⧺ expression_code called S e wanted (t + taken_by called arguments c) ⧺ hold_by S (t + taken_by called arguments c) d h) (other-digits e arguments W) (first-digit e arguments W)
        ∙ ap₂ (λ (n : ℕ) (rest : Items). rest ⧺ expression_code called S e wanted (t + n) ⧺ hold_by S (t + n) (copied h W) h) (taken-by arguments after) (code-by arguments after t)
        ∙ ap (λ (hold : Items). arguments_code called S arguments after t ⧺ expression_code called S e wanted (t + arguments_taken called arguments after) ⧺ hold) (sym (hold-by S (t + arguments_taken called arguments after) h W))

-- ---- the arguments at a row

pub passing : {rows : List ℤ} (argument : ℕ) {e : ℕ} → 0 < argument → ArgumentAt rows argument (number_at rows argument 5) (Some e) → Passing rows argument e
passing zero some at = absurd (omega arith)
passing (suc argument) some at = record { some = some; is = at.is; onward = at.onward; behind = at.behind }

pub argument-some : (rows : List ℤ) (argument : ℕ) → 0 < argument_count (argument_list_at rows argument) → 0 < argument
unfolding argument_count
argument-some rows zero h = absurd (omega arith)
argument-some rows (suc argument) h = omega arith

pub passes_none : {rows : List ℤ} (argument : ℕ) → ArgumentAt rows argument (number_at rows argument 5) None → argument_list_at rows argument ≡ no_more
passes_none zero at = refl
passes_none (suc argument) at = at.is

pub link-inside : {rows : List ℤ} {row : ℕ} (link : ℕ) → row < row_count rows → OptionalOnward rows row link → link < row_count rows
link-inside zero inside o = omega arith
link-inside (suc link) inside o = (o (omega arith)).inside

pub passing-count : {rows : List ℤ} {argument e : ℕ} → Passing rows argument e → argument_count (argument_list_at rows argument) ≡ 1 + argument_count (argument_list_at rows (number_at rows argument 5))
unfolding argument_count
passing-count at = omega (arith, ap argument_count at.is)

pub count_none : (rows : List ℤ) (argument : ℕ) → argument_list_at rows argument ≡ no_more → CountIs rows argument 0
unfolding argument_count
count_none rows argument e = record { is = sym (ap argument_count e); low = omega arith }

pub count-more : (rows : List ℤ) (argument : ℕ) {e next r : ℕ} → Passing rows argument e → argument < row_count rows → next ≡ number_at rows argument 5 → CountIs rows next r → CountIs rows argument (r + 1)
count-more rows argument {e} {next} {r} at inside en behind =
    let falls = rank_falls rows argument (number_at rows argument 5) at.some inside (λ h. (at.behind h).later) in
    record {
      is = omega (arith, behind.is, ap (λ (n : ℕ). argument_count (argument_list_at rows n)) en, passing-count at);
      low = omega (arith, behind.low, ap (rank rows) en, falls);
    }

-- ---- the temporaries that they take

pub passing-taken : {rows : List ℤ} {argument e : ℕ} (copies : ℕ) → Passing rows argument e → taken_by (called_in rows) (argument_list_at rows (number_at rows argument 5)) (copies / 2) ≤ taken_by (called_in rows) (argument_list_at rows argument) copies
unfolding taken_by
passing-taken {rows} copies at = omega (arith, ap (λ (arguments : Arguments). taken_by (called_in rows) arguments copies) at.is)

pub copy-taken : (k : ℕ) (h : Atom) → k ≡ 1 → 1 ≡ taken (held_by k h)
copy-taken k h e = rw (eq-eqb k 1 e)

pub own-taken : (k : ℕ) (h : Atom) {r : ℕ} → (k ≡ 1 → ⊥) → r ≡ taken h → r ≡ taken (held_by k h)
own-taken k h n e = rw (ne_eqb k 1 n) e

pub taken_none : (rows : List ℤ) (argument copies : ℕ) → argument_list_at rows argument ≡ no_more → TakenIs rows argument copies 0
unfolding taken_by
taken_none rows argument copies e = record { is = sym (ap (λ (arguments : Arguments). taken_by (called_in rows) arguments copies) e); low = omega arith }

pub taken_more : (rows : List ℤ) (argument copies : ℕ) {e next r k : ℕ} → Passing rows argument e → argument < row_count rows → next ≡ number_at rows argument 5 → TakenIs rows next (copies / 2) r
    → k ≡ taken (held_by (copies % 2) (atom_of (called_in rows) (expression_at rows e))) → TakenIs rows argument copies (r + k)
unfolding taken_by
taken_more rows argument copies {e} {next} {r} {k} at inside en behind ek =
    let others = argument_list_at rows (number_at rows argument 5) in
    let same : r ≡ taken_by (called_in rows) others (copies / 2) = behind.is ∙ ap (λ (n : ℕ). taken_by (called_in rows) (argument_list_at rows n) (copies / 2)) en in
    let falls = rank_falls rows argument (number_at rows argument 5) at.some inside (λ h. (at.behind h).later) in
    record {
      is = ap₂ ◌+◌ same ek ∙ sym (ap (λ (arguments : Arguments). taken_by (called_in rows) arguments copies) at.is);
      low = omega (arith, behind.low, ap (rank rows) en, falls, ek, taken_most (held_by (copies % 2) (atom_of (called_in rows) (expression_at rows e))));
    }

-- ---- what holds them

pub atoms-none : (called : ℕ → ℕ → Bool) (S : ℕ) (arguments : Arguments) (copies t base : ℕ) (l : List ℤ) → argument_count arguments ≡ 0 → l ≡ over (emit_arguments (atoms_by called S arguments copies t) base) l
unfolding argument_count atoms_by emit_arguments over
atoms-none called S no_more copies t base l e = refl
atoms-none called S (e also arguments) copies t base l h = absurd (omega arith)

atoms-rows : (called : ℕ → ℕ → Bool) (S : ℕ) (arguments : Arguments) (copies t base : ℕ) → arguments_link (atoms_by called S arguments copies t) base ≡ pick (more_rows false (2 * argument_count arguments)) base 0
unfolding atoms_by argument_count
atoms-rows called S no_more copies t base = refl
atoms-rows called S (e also arguments) copies t base = sym (ap (λ (b : Bool). pick b base 0) (more-some false (2 * suc (argument_count arguments)) (omega arith)))

pub first-put : (base next : ℕ) (x : KernelAtom) (l l1 : List ℤ) → l1 ≡ over (row_of 32 (pos (base + 1)) 0 0 0 next ++ emit_expression (atom_tree x) (base + 1)) l
    → PutWords (row_of 32 (pos (base + 1)) 0 0 0 next ++ emit_expression (atom_tree x) (base + 1)) 2 l l1
first-put base next x l l1 t1 = record { table = t1; size = omega (arith, length-expression (atom_tree x) (base + 1), atom-rows x) }

-- The first argument's rows, and then those behind it.
pub atoms-done : (S : ℕ) (rows : List ℤ) (argument copies level base : ℕ) (l : List ℤ) {e next above rest : ℕ} {x : KernelAtom} {follows : Bool} {l1 l2 : List ℤ} → Passing rows argument e → next ≡ number_at rows argument 5
    → rest ≡ 2 * argument_count (argument_list_at rows next) → above ≡ level + taken_by (called_in rows) (argument_list_at rows next) (copies / 2) → HeldAt S rows e (copies % 2) above x → follows ≡ more_rows false rest
    → l1 ≡ over (row_of 32 (pos (base + 1)) 0 0 0 (pick follows (base + 2) 0) ++ emit_expression (atom_tree x) (base + 1)) l
    → l2 ≡ over (emit_arguments (atoms_by (called_in rows) S (argument_list_at rows next) (copies / 2) level) (base + 2)) (part 2 l1)
    → back_in 2 l1 l2 ≡ over (emit_arguments (atoms_by (called_in rows) S (argument_list_at rows argument) copies level) base) l
unfolding atoms_by emit_arguments
atoms-done S rows argument copies level base l {e} {next} {above} {rest} {x} {follows} {l1} {l2} at en er ea held ef t1 t2 =
    let called = called_in rows in
    let h = held_by (copies % 2) (atom_of called (expression_at rows e)) in
    let args = argument_list_at rows (number_at rows argument 5) in
    let others = atoms_by called S args (copies / 2) level in
    let first = first-put base (pick follows (base + 2) 0) x l l1 t1 in
    let behind : l2 ≡ over (emit_arguments others (base + 2)) (part 2 l1) =
    t2 ∙ ap (λ (n : ℕ). over (emit_arguments (atoms_by called S (argument_list_at rows n) (copies / 2) level) (base + 2)) (part 2 l1)) en in
    let level-is : above ≡ level + taken_by called args (copies / 2) = ea ∙ ap (λ (n : ℕ). level + taken_by called (argument_list_at rows n) (copies / 2)) en in
    let value : atom_tree x ≡ atom S (level + taken_by called args (copies / 2)) h = held.is ∙ ap (λ (t : ℕ). atom S t h) level-is in
    let two : base + 1 + expression_rows (atom_tree x) ≡ base + 2 = omega (arith, atom-rows x) in
    let link : pick follows (base + 2) 0 ≡ arguments_link others (base + 2) =
    ap (λ (b : Bool). pick b (base + 2) 0) (ef ∙ ap (more_rows false) (er ∙ ap (λ (n : ℕ). 2 * argument_count (argument_list_at rows n)) en)) ∙ sym (atoms-rows called S args (copies / 2) level (base + 2)) in
    let whole : Expression → ℕ → ℕ → List ℤ = λ y next from. row_of 32 (pos (base + 1)) 0 0 0 next ++ emit_expression y (base + 1) ++ emit_arguments others from in
    over-next (row_of 32 (pos (base + 1)) 0 0 0 (pick follows (base + 2) 0) ++ emit_expression (atom_tree x) (base + 1)) (emit_arguments others (base + 2)) _ _ _ 12 (sym first.size) t1 behind
    ∙ ap (λ ws. over ws l) (
    append_assoc (row_of 32 (pos (base + 1)) 0 0 0 (pick follows (base + 2) 0)) (emit_expression (atom_tree x) (base + 1)) (emit_arguments others (base + 2))
    ∙ ap₂ (λ (n from : ℕ). whole (atom_tree x) n from) (link ∙ ap (arguments_link others) (sym two)) (sym two)
    ∙ ap (λ (y : Expression). whole y (arguments_link others (base + 1 + expression_rows y)) (base + 1 + expression_rows y)) value
    )
    ∙ ap (λ (arguments : Arguments). over (emit_arguments (atoms_by called S arguments copies level) base) l) (sym at.is)

-- ---- the call

-- The rows that head it, the call's row, and then what holds its arguments.
pub call-words : (number f size base link : ℕ) (follows : Bool) (atoms : Arguments) → 4 + arguments_rows atoms ≡ size → link ≡ arguments_link atoms (base + 4)
    → (target_rows 2 number 0 (base + 3) size base follows ++ row_of 31 (pos f) link 0 0 0) ++ emit_arguments atoms (base + 4) ≡ emit_items follows (express (assign (variable number) (call f atoms)) then none) base
unfolding emit_items emit_expression statement_rows expression_rows
call-words number f size base link follows atoms es el =
    let two : base + 1 + 1 ≡ base + 2 = omega arith in
    let three : base + 2 + 1 ≡ base + 3 = omega arith in
    let four : base + 3 + 1 ≡ base + 4 = omega arith in
    let all : base + (1 + (1 + 1 + (1 + arguments_rows atoms))) ≡ base + size = omega (arith, es) in
    let nil : emit_arguments atoms (base + 4) ++ [] ≡ emit_arguments atoms (base + 4) = append-nil (emit_arguments atoms (base + 4)) in
    cc

pub atoms-size : (called : ℕ → ℕ → Bool) (S : ℕ) (arguments : Arguments) (copies t : ℕ) → arguments_rows (atoms_by called S arguments copies t) ≡ 2 * argument_count arguments
unfolding atoms_by argument_count arguments_rows
atoms-size called S no_more copies t = refl
atoms-size called S (e also arguments) copies t = omega (arith, rows-atom called S (t + taken_by called arguments (copies / 2)) (held_by (copies % 2) (atom_of called e)), atoms-size called S arguments (copies / 2) t)

pub call-done : (called : ℕ → ℕ → Bool) (S : ℕ) (arguments : Arguments) (copies level number f base : ℕ) (follows : Bool) (l : List ℤ) {size rest link : ℕ} {l1 l2 l3 : List ℤ}
    → size ≡ 4 + 2 * argument_count arguments → rest ≡ size - 4 → link ≡ pick (more_rows false rest) (base + 4) 0
    → l1 ≡ over (target_rows 2 number 0 (base + 3) size base follows) l
    → l2 ≡ over (row_of 31 (pos f) link 0 0 0) (part 3 l1)
    → l3 ≡ over (emit_arguments (atoms_by called S arguments copies level) (base + 4)) (part 4 (back_in 3 l1 l2))
    → back_in 4 (back_in 3 l1 l2) l3 ≡ over (emit_items follows (express (assign (variable number) (call f (atoms_by called S arguments copies level))) then none) base) l
call-done called S arguments copies level number f base follows l {size} {rest} {link} es er el t1 t2 t3 =
    let atoms = atoms_by called S arguments copies level in
    let rows : arguments_rows atoms ≡ 2 * argument_count arguments = atoms-size called S arguments copies level in
    let head : PutWords (target_rows 2 number 0 (base + 3) size base follows) 3 _ _ = record { table = t1; size = refl } in
    let own : PutWords (row_of 31 (pos f) link 0 0 0) 1 _ _ = record { table = t2; size = refl } in
    let behind : PutWords (emit_arguments atoms (base + 4)) (arguments_rows atoms) _ _ = record { table = t3; size = length-arguments atoms (base + 4) } in
    let count : rest ≡ 2 * argument_count arguments = omega (arith, er, es) in
    let same : link ≡ arguments_link atoms (base + 4) = el ∙ ap (λ (n : ℕ). pick (more_rows false n) (base + 4) 0) count ∙ sym (atoms-rows called S arguments copies level (base + 4)) in
    reworded _ (put_next (put_next head own) behind) (call-words number f size base link follows atoms (omega (arith, rows, es)) same)
