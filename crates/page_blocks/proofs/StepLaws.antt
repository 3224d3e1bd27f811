-- Steps: each line of a page before the others, read from the last to the first: it fits what is open before it where those behind it fit what is
-- open behind it, and it is printed at its level.
use Rattle.std.specs.Prelude.{◌≡◌, true, false, Option, Some}
use Rattle.std.proofs.Math.Path.{refl, sym, ap}
use Rattle.std.proofs.Common.{◌∙◌}
use mathlib.Core.List.{List, [], ◌∷◌, ◌++◌, append_assoc}
use Prim.Native.Nat.{ℕ, suc, ◌+◌, ◌-◌}
use native.Mathlib.Omega.{arith}
use Rattle.std.proofs.Math.Numerals.{add-one}
use Rattle.std.proofs.Math.ListN.{length}
use Rattle.language.specs.Trees.{assign, Place, element, present, label, empty, express, goto, abort, give_back, Items, ◌then◌, ◌here◌, define, block, while}
use Rattle.page.specs.declared.Sizes.{Sizes}
use Rattle.page.specs.Lines.{PageLine, Indented, indented, turns, closes, argument_lines, expressed_lines, assigned_lines, parameter_lines, statement_lines, items_lines, outermost, closed, Reading, reading, passing, taking, malformed, takes_back, before_items, read_line}
use Rattle.page.specs.Lines.{turned as else_waiting}
use Rattle.page_words.specs.Trees.{place_tree, atom_tree, value_tree, line_tree}
use Rattle.page_words.specs.declared.PageAtom.{PageAtom}
use Rattle.page_words.specs.declared.PageAtom.TheVariants.{Constant, Variable, Declared, Temporary}
use Rattle.page_words.specs.declared.Value.{Value}
use Rattle.page_words.specs.declared.Value.TheVariants.{Single, Element, Minus, Binary, Call}
use Rattle.page_words.specs.declared.LineContent.{LineContent}
use Rattle.page_words.specs.declared.LineContent.TheVariants.{Empty, Abort, Goto, Label, Store, Put, Opens, While, If, Turns, Closes, Return, OpensCall, Argument, LastArgument, OpensFunction, OpensParameters, Parameter, LastParameter}
use Rattle.page_frame.specs.Frames.{level_of}
use Rattle.page_blocks.specs.Blocks.{Open, outside, in_arguments, in_parameters, level_in, where_items, behind}
use Rattle.page_blocks.proofs.Waits.{matches, fits, fits_after, waiting_lines, Lined, LinedAfter}

never : {G : Type 0} → false ≡ true → G
never e = absurd (let z : ◌≡◌ {A = ℕ} 0 1 = cc in omega arith)

-- The parts of a block, grouped as its lines and as the lines behind its first.
closing : (is : List Indented) (close : Indented) (later rest : List Indented) → is ++ (close ∷ (later ++ rest)) ≡ ((is ++ (close ∷ [])) ++ later) ++ rest
closing is close later rest = sym (append_assoc (is ++ (close ∷ [])) later rest ∙ append_assoc is (close ∷ []) (later ++ rest))

turning : (is : List Indented) (turn : Indented) (others : List Indented) (close : Indented) (later rest : List Indented)
    → is ++ (turn ∷ (others ++ (close ∷ (later ++ rest)))) ≡ ((is ++ (turn ∷ (others ++ (close ∷ [])))) ++ later) ++ rest
turning is turn others close later rest =
    ap (λ l. is ++ (turn ∷ l)) (closing others close later rest ∙ append_assoc (others ++ (close ∷ [])) later rest)
    ∙ sym (append_assoc (is ++ (turn ∷ (others ++ (close ∷ [])))) later rest ∙ append_assoc is (turn ∷ (others ++ (close ∷ []))) (later ++ rest))

defining : (words body : List Indented) (close : Indented) (later rest : List Indented) → words ++ (body ++ (close ∷ (later ++ rest))) ≡ (words ++ (body ++ (close ∷ later))) ++ rest
defining words body close later rest =
    sym (append_assoc words (body ++ (close ∷ later)) rest ∙ ap (λ l. words ++ l) (append_assoc body (close ∷ later) rest))

-- A value that a line stores is no call with arguments.
atom-line : (sizes : Sizes) (level : ℕ) (p : Place) (a : PageAtom) → assigned_lines level p (atom_tree sizes a) ≡ expressed_lines level (assign p (atom_tree sizes a))
atom-line sizes level p (Constant v) = refl
atom-line sizes level p (Variable n) = refl
atom-line sizes level p (Declared n) = refl
atom-line sizes level p (Temporary n) = refl

stored-line : (sizes : Sizes) (level : ℕ) (p : Place) (v : Value) → assigned_lines level p (value_tree sizes v) ≡ expressed_lines level (assign p (value_tree sizes v))
stored-line sizes level p (Single a) = atom-line sizes level p a
stored-line sizes level p (Element array index) = refl
stored-line sizes level p (Minus a) = refl
stored-line sizes level p (Binary o a b) = refl
stored-line sizes level p (Call f) = refl

-- ---- one line before others

module _ (sizes : Sizes) (rest : List Indented) where
  -- It fits where those behind it do, and if these are the lines of what they are read as, it is their first.
  abbrev pub Step : Open → Option Open → Reading → Reading → ℕ → PageLine → Type 0
  Step around after r read level line = (fits_after after r ≡ fits around read) × (LinedAfter after r rest → Lined around read (indented level line ∷ rest))

  -- An item's line, before those of its list.
  single_step : (line : PageLine) (item : Items → Items) → ((level : ℕ) (is : Items) → items_lines level (item is) ≡ indented level line ∷ items_lines level is) → (around : Open) (r : Reading)
      → Step around (where_items (λ blocks. Some (outside blocks)) around) r (before_items (λ is waiting. reading (item is) waiting) r) (level_in around) line
  unfolding fits fits_after Lined LinedAfter
  single_step line item own (outside blocks) (reading is waiting) =
      (refl, λ h m. ap (λ l. indented (length blocks) line ∷ l) (h m) ∙ ap (λ (l : List Indented). l ++ waiting_lines blocks waiting) (sym (own (length blocks) is)))
  single_step line item own (outside blocks) (passing e arguments is waiting) = (refl, λ h. tt)
  single_step line item own (outside blocks) (taking word words body later waiting) = (refl, λ h. tt)
  single_step line item own (outside blocks) malformed = (refl, λ h. tt)
  single_step line item own (in_arguments blocks) (reading is waiting) = (refl, λ h. tt)
  single_step line item own (in_arguments blocks) (passing e arguments is waiting) = (refl, λ h. tt)
  single_step line item own (in_arguments blocks) (taking word words body later waiting) = (refl, λ h. tt)
  single_step line item own (in_arguments blocks) malformed = (refl, λ h. tt)
  single_step line item own (in_parameters blocks) (reading is waiting) = (refl, λ h. tt)
  single_step line item own (in_parameters blocks) (passing e arguments is waiting) = (refl, λ h. tt)
  single_step line item own (in_parameters blocks) (taking word words body later waiting) = (refl, λ h. tt)
  single_step line item own (in_parameters blocks) malformed = (refl, λ h. tt)

  -- The line that opens a block, before the lines of the block, its end, and those of its list.
  open_step : (line : PageLine) (make : Items → Items → Items)
      → ((level : ℕ) (is later : Items) (others : List Indented) → indented level line ∷ (items_lines (level + 1) is ++ (indented level closes ∷ (items_lines level later ++ others))) ≡ items_lines level (make is later) ++ others)
      → (around : Open) (r : Reading)
      → Step around (where_items (λ blocks. Some (outside (false ∷ blocks))) around) r (before_items (takes_back (λ is later waiting. reading (make is later) waiting)) r) (level_in around) line
  unfolding fits fits_after matches Lined LinedAfter waiting_lines
  open_step line make own (outside blocks) (reading is (closed later waiting)) = (
    refl,
    λ h m.
        ap (λ l. indented (length blocks) line ∷ l)
        (h m ∙ ap (λ n. items_lines n is ++ (indented (length blocks) closes ∷ (items_lines (length blocks) later ++ waiting_lines blocks waiting))) (sym (add-one (length blocks))))
        ∙ own (length blocks) is later (waiting_lines blocks waiting),
  )
  open_step line make own (outside blocks) (reading is outermost) = (refl, λ h. tt)
  open_step line make own (outside blocks) (reading is (else_waiting on_false waiting)) = (refl, λ h. tt)
  open_step line make own (outside blocks) (passing e arguments is waiting) = (refl, λ h. tt)
  open_step line make own (outside blocks) (taking word words body later waiting) = (refl, λ h. tt)
  open_step line make own (outside blocks) malformed = (refl, λ h. tt)
  open_step line make own (in_arguments blocks) (reading is outermost) = (refl, λ h. tt)
  open_step line make own (in_arguments blocks) (reading is (closed later waiting)) = (refl, λ h. tt)
  open_step line make own (in_arguments blocks) (reading is (else_waiting on_false waiting)) = (refl, λ h. tt)
  open_step line make own (in_arguments blocks) (passing e arguments is waiting) = (refl, λ h. tt)
  open_step line make own (in_arguments blocks) (taking word words body later waiting) = (refl, λ h. tt)
  open_step line make own (in_arguments blocks) malformed = (refl, λ h. tt)
  open_step line make own (in_parameters blocks) (reading is outermost) = (refl, λ h. tt)
  open_step line make own (in_parameters blocks) (reading is (closed later waiting)) = (refl, λ h. tt)
  open_step line make own (in_parameters blocks) (reading is (else_waiting on_false waiting)) = (refl, λ h. tt)
  open_step line make own (in_parameters blocks) (passing e arguments is waiting) = (refl, λ h. tt)
  open_step line make own (in_parameters blocks) (taking word words body later waiting) = (refl, λ h. tt)
  open_step line make own (in_parameters blocks) malformed = (refl, λ h. tt)

  pub line_step : (line : LineContent) (around : Open) (r : Reading) → Step around (behind line around) r (read_line (line_tree sizes line) r) (level_of (level_in around) line) (line_tree sizes line)
  unfolding fits fits_after matches Lined LinedAfter waiting_lines argument_lines parameter_lines statement_lines
  line_step Empty around r = single_step (line_tree sizes Empty) (λ is. empty then is) (λ level is. refl) around r
  line_step Abort around r = single_step (line_tree sizes Abort) (λ is. abort then is) (λ level is. refl) around r
  line_step (Goto n) around r = single_step (line_tree sizes (Goto n)) (λ is. goto n then is) (λ level is. refl) around r
  line_step (Label n) around r = single_step (line_tree sizes (Label n)) (λ is. label n here is) (λ level is. refl) around r
  line_step (Store a v) around r =
      single_step (line_tree sizes (Store a v)) (λ is. express (assign (place_tree sizes a) (value_tree sizes v)) then is)
      (λ level is. ap (λ (l : List Indented). l ++ items_lines level is) (stored-line sizes level (place_tree sizes a) v)) around r
  line_step (Put array index a) around r =
      single_step (line_tree sizes (Put array index a)) (λ is. express (assign (element array (atom_tree sizes index)) (atom_tree sizes a)) then is)
      (λ level is. ap (λ (l : List Indented). l ++ items_lines level is) (atom-line sizes level (element array (atom_tree sizes index)) a)) around r
  line_step (Return a) around r = single_step (line_tree sizes (Return a)) (λ is. give_back (present (atom_tree sizes a)) then is) (λ level is. refl) around r
  line_step Opens around r =
      open_step (line_tree sizes Opens) (λ is later. block is then later) (λ level is later others. ap (λ l. indented level (line_tree sizes Opens) ∷ l) (closing (items_lines (level + 1) is) (indented level closes) (items_lines level later) others)) around r
  line_step (While a) around r =
      open_step (line_tree sizes (While a)) (λ is later. while (atom_tree sizes a) (block is) then later) (λ level is later others. ap (λ l. indented level (line_tree sizes (While a)) ∷ l) (closing (items_lines (level + 1) is) (indented level closes) (items_lines level later) others)) around r
  line_step (OpensFunction f) around r =
      open_step (line_tree sizes (OpensFunction f)) (λ is later. define f [] is later) (λ level is later others. ap (λ l. indented level (line_tree sizes (OpensFunction f)) ∷ l) (sym (append_assoc (items_lines (level + 1) is) (indented level closes ∷ items_lines level later) others))) around r
  line_step (If a) (outside blocks) (reading is outermost) = (refl, λ h. tt)
  line_step (If a) (outside blocks) (reading is (closed later waiting)) = (refl, λ h. tt)
  line_step (If a) (outside blocks) (reading is (else_waiting on_false outermost)) = (refl, λ h. tt)
  line_step (If a) (outside blocks) (reading is (else_waiting on_false (closed later waiting))) = (
    refl,
    λ h m.
        ap (λ l. indented (length blocks) (line_tree sizes (If a)) ∷ l)
        (h m
        ∙ ap
        (λ n. items_lines n is ++ (indented (length blocks) turns ∷ (items_lines (length blocks + 1) on_false ++ (indented (length blocks) closes ∷ (items_lines (length blocks) later ++ waiting_lines blocks waiting)))))
        (sym (add-one (length blocks)))
        ∙ turning (items_lines (length blocks + 1) is) (indented (length blocks) turns) (items_lines (length blocks + 1) on_false) (indented (length blocks) closes) (items_lines (length blocks) later) (waiting_lines blocks waiting)),
  )
  line_step (If a) (outside blocks) (reading is (else_waiting on_false (else_waiting other waiting))) = (refl, λ h. tt)
  line_step (If a) (outside blocks) (passing e arguments is waiting) = (refl, λ h. tt)
  line_step (If a) (outside blocks) (taking word words body later waiting) = (refl, λ h. tt)
  line_step (If a) (outside blocks) malformed = (refl, λ h. tt)
  line_step (If a) (in_arguments blocks) (reading is outermost) = (refl, λ h. tt)
  line_step (If a) (in_arguments blocks) (reading is (closed later waiting)) = (refl, λ h. tt)
  line_step (If a) (in_arguments blocks) (reading is (else_waiting on_false outermost)) = (refl, λ h. tt)
  line_step (If a) (in_arguments blocks) (reading is (else_waiting on_false (closed later waiting))) = (refl, λ h. tt)
  line_step (If a) (in_arguments blocks) (reading is (else_waiting on_false (else_waiting other waiting))) = (refl, λ h. tt)
  line_step (If a) (in_arguments blocks) (passing e arguments is waiting) = (refl, λ h. tt)
  line_step (If a) (in_arguments blocks) (taking word words body later waiting) = (refl, λ h. tt)
  line_step (If a) (in_arguments blocks) malformed = (refl, λ h. tt)
  line_step (If a) (in_parameters blocks) (reading is outermost) = (refl, λ h. tt)
  line_step (If a) (in_parameters blocks) (reading is (closed later waiting)) = (refl, λ h. tt)
  line_step (If a) (in_parameters blocks) (reading is (else_waiting on_false outermost)) = (refl, λ h. tt)
  line_step (If a) (in_parameters blocks) (reading is (else_waiting on_false (closed later waiting))) = (refl, λ h. tt)
  line_step (If a) (in_parameters blocks) (reading is (else_waiting on_false (else_waiting other waiting))) = (refl, λ h. tt)
  line_step (If a) (in_parameters blocks) (passing e arguments is waiting) = (refl, λ h. tt)
  line_step (If a) (in_parameters blocks) (taking word words body later waiting) = (refl, λ h. tt)
  line_step (If a) (in_parameters blocks) malformed = (refl, λ h. tt)
  line_step Turns (outside []) (reading is waiting) = (refl, λ h m. never m)
  line_step Turns (outside []) (passing e arguments is waiting) = (refl, λ h. tt)
  line_step Turns (outside []) (taking word words body later waiting) = (refl, λ h. tt)
  line_step Turns (outside []) malformed = (refl, λ h. tt)
  line_step Turns (outside (false ∷ blocks)) (reading is waiting) = (refl, λ h m. never m)
  line_step Turns (outside (false ∷ blocks)) (passing e arguments is waiting) = (refl, λ h. tt)
  line_step Turns (outside (false ∷ blocks)) (taking word words body later waiting) = (refl, λ h. tt)
  line_step Turns (outside (false ∷ blocks)) malformed = (refl, λ h. tt)
  line_step Turns (outside (true ∷ blocks)) (reading is outermost) = (refl, λ h m. never m)
  line_step Turns (outside (true ∷ blocks)) (reading is (closed later waiting)) = (
    refl,
    λ h m.
        let level : suc (length blocks) - 1 ≡ length blocks = omega arith in
        rw (level, h m, add-one (length blocks)),
  )
  line_step Turns (outside (true ∷ blocks)) (reading is (else_waiting on_false waiting)) = (refl, λ h m. never m)
  line_step Turns (outside (true ∷ blocks)) (passing e arguments is waiting) = (refl, λ h. tt)
  line_step Turns (outside (true ∷ blocks)) (taking word words body later waiting) = (refl, λ h. tt)
  line_step Turns (outside (true ∷ blocks)) malformed = (refl, λ h. tt)
  line_step Turns (in_arguments blocks) (reading is waiting) = (refl, λ h. tt)
  line_step Turns (in_arguments blocks) (passing e arguments is waiting) = (refl, λ h. tt)
  line_step Turns (in_arguments blocks) (taking word words body later waiting) = (refl, λ h. tt)
  line_step Turns (in_arguments blocks) malformed = (refl, λ h. tt)
  line_step Turns (in_parameters blocks) (reading is waiting) = (refl, λ h. tt)
  line_step Turns (in_parameters blocks) (passing e arguments is waiting) = (refl, λ h. tt)
  line_step Turns (in_parameters blocks) (taking word words body later waiting) = (refl, λ h. tt)
  line_step Turns (in_parameters blocks) malformed = (refl, λ h. tt)
  line_step Closes (outside []) (reading is waiting) = (refl, λ h m. never m)
  line_step Closes (outside []) (passing e arguments is waiting) = (refl, λ h. tt)
  line_step Closes (outside []) (taking word words body later waiting) = (refl, λ h. tt)
  line_step Closes (outside []) malformed = (refl, λ h. tt)
  line_step Closes (outside (false ∷ blocks)) (reading is waiting) = (
    refl,
    λ h m.
        let level : suc (length blocks) - 1 ≡ length blocks = omega arith in
        rw (level, h m),
  )
  line_step Closes (outside (false ∷ blocks)) (passing e arguments is waiting) = (refl, λ h. tt)
  line_step Closes (outside (false ∷ blocks)) (taking word words body later waiting) = (refl, λ h. tt)
  line_step Closes (outside (false ∷ blocks)) malformed = (refl, λ h. tt)
  line_step Closes (outside (true ∷ blocks)) (reading is waiting) = (refl, λ h m. never m)
  line_step Closes (outside (true ∷ blocks)) (passing e arguments is waiting) = (refl, λ h. tt)
  line_step Closes (outside (true ∷ blocks)) (taking word words body later waiting) = (refl, λ h. tt)
  line_step Closes (outside (true ∷ blocks)) malformed = (refl, λ h. tt)
  line_step Closes (in_arguments blocks) (reading is waiting) = (refl, λ h. tt)
  line_step Closes (in_arguments blocks) (passing e arguments is waiting) = (refl, λ h. tt)
  line_step Closes (in_arguments blocks) (taking word words body later waiting) = (refl, λ h. tt)
  line_step Closes (in_arguments blocks) malformed = (refl, λ h. tt)
  line_step Closes (in_parameters blocks) (reading is waiting) = (refl, λ h. tt)
  line_step Closes (in_parameters blocks) (passing e arguments is waiting) = (refl, λ h. tt)
  line_step Closes (in_parameters blocks) (taking word words body later waiting) = (refl, λ h. tt)
  line_step Closes (in_parameters blocks) malformed = (refl, λ h. tt)
  line_step (OpensCall a f) (outside blocks) (reading is waiting) = (refl, λ h. tt)
  line_step (OpensCall a f) (outside blocks) (passing e arguments is waiting) = (
    refl,
    λ h m.
        ap (λ l. indented (length blocks) (line_tree sizes (OpensCall a f)) ∷ l)
        (h m ∙ sym (append_assoc (argument_lines (length blocks) e arguments) (items_lines (length blocks) is) (waiting_lines blocks waiting))),
  )
  line_step (OpensCall a f) (outside blocks) (taking word words body later waiting) = (refl, λ h. tt)
  line_step (OpensCall a f) (outside blocks) malformed = (refl, λ h. tt)
  line_step (OpensCall a f) (in_arguments blocks) (reading is waiting) = (refl, λ h. tt)
  line_step (OpensCall a f) (in_arguments blocks) (passing e arguments is waiting) = (refl, λ h. tt)
  line_step (OpensCall a f) (in_arguments blocks) (taking word words body later waiting) = (refl, λ h. tt)
  line_step (OpensCall a f) (in_arguments blocks) malformed = (refl, λ h. tt)
  line_step (OpensCall a f) (in_parameters blocks) (reading is waiting) = (refl, λ h. tt)
  line_step (OpensCall a f) (in_parameters blocks) (passing e arguments is waiting) = (refl, λ h. tt)
  line_step (OpensCall a f) (in_parameters blocks) (taking word words body later waiting) = (refl, λ h. tt)
  line_step (OpensCall a f) (in_parameters blocks) malformed = (refl, λ h. tt)
  line_step (Argument a) (outside blocks) (reading is waiting) = (refl, λ h. tt)
  line_step (Argument a) (outside blocks) (passing e arguments is waiting) = (refl, λ h. tt)
  line_step (Argument a) (outside blocks) (taking word words body later waiting) = (refl, λ h. tt)
  line_step (Argument a) (outside blocks) malformed = (refl, λ h. tt)
  line_step (Argument a) (in_arguments blocks) (reading is waiting) = (refl, λ h. tt)
  line_step (Argument a) (in_arguments blocks) (passing e arguments is waiting) = (refl, λ h m. ap (λ l. indented (length blocks) (line_tree sizes (Argument a)) ∷ l) (h m))
  line_step (Argument a) (in_arguments blocks) (taking word words body later waiting) = (refl, λ h. tt)
  line_step (Argument a) (in_arguments blocks) malformed = (refl, λ h. tt)
  line_step (Argument a) (in_parameters blocks) (reading is waiting) = (refl, λ h. tt)
  line_step (Argument a) (in_parameters blocks) (passing e arguments is waiting) = (refl, λ h. tt)
  line_step (Argument a) (in_parameters blocks) (taking word words body later waiting) = (refl, λ h. tt)
  line_step (Argument a) (in_parameters blocks) malformed = (refl, λ h. tt)
  line_step (LastArgument a) (outside blocks) (reading is waiting) = (refl, λ h. tt)
  line_step (LastArgument a) (outside blocks) (passing e arguments is waiting) = (refl, λ h. tt)
  line_step (LastArgument a) (outside blocks) (taking word words body later waiting) = (refl, λ h. tt)
  line_step (LastArgument a) (outside blocks) malformed = (refl, λ h. tt)
  line_step (LastArgument a) (in_arguments blocks) (reading is waiting) = (refl, λ h m. ap (λ l. indented (length blocks) (line_tree sizes (LastArgument a)) ∷ l) (h m))
  line_step (LastArgument a) (in_arguments blocks) (passing e arguments is waiting) = (refl, λ h. tt)
  line_step (LastArgument a) (in_arguments blocks) (taking word words body later waiting) = (refl, λ h. tt)
  line_step (LastArgument a) (in_arguments blocks) malformed = (refl, λ h. tt)
  line_step (LastArgument a) (in_parameters blocks) (reading is waiting) = (refl, λ h. tt)
  line_step (LastArgument a) (in_parameters blocks) (passing e arguments is waiting) = (refl, λ h. tt)
  line_step (LastArgument a) (in_parameters blocks) (taking word words body later waiting) = (refl, λ h. tt)
  line_step (LastArgument a) (in_parameters blocks) malformed = (refl, λ h. tt)
  line_step (OpensParameters f) (outside blocks) (reading is waiting) = (refl, λ h. tt)
  line_step (OpensParameters f) (outside blocks) (passing e arguments is waiting) = (refl, λ h. tt)
  line_step (OpensParameters f) (outside blocks) (taking word words body later waiting) = (
    refl,
    λ h m.
        ap (λ l. indented (length blocks) (line_tree sizes (OpensParameters f)) ∷ l)
        (h m ∙ defining (parameter_lines (length blocks) word words) (items_lines (length blocks + 1) body) (indented (length blocks) closes) (items_lines (length blocks) later) (waiting_lines blocks waiting)),
  )
  line_step (OpensParameters f) (outside blocks) malformed = (refl, λ h. tt)
  line_step (OpensParameters f) (in_arguments blocks) (reading is waiting) = (refl, λ h. tt)
  line_step (OpensParameters f) (in_arguments blocks) (passing e arguments is waiting) = (refl, λ h. tt)
  line_step (OpensParameters f) (in_arguments blocks) (taking word words body later waiting) = (refl, λ h. tt)
  line_step (OpensParameters f) (in_arguments blocks) malformed = (refl, λ h. tt)
  line_step (OpensParameters f) (in_parameters blocks) (reading is waiting) = (refl, λ h. tt)
  line_step (OpensParameters f) (in_parameters blocks) (passing e arguments is waiting) = (refl, λ h. tt)
  line_step (OpensParameters f) (in_parameters blocks) (taking word words body later waiting) = (refl, λ h. tt)
  line_step (OpensParameters f) (in_parameters blocks) malformed = (refl, λ h. tt)
  line_step (Parameter n) (outside blocks) (reading is waiting) = (refl, λ h. tt)
  line_step (Parameter n) (outside blocks) (passing e arguments is waiting) = (refl, λ h. tt)
  line_step (Parameter n) (outside blocks) (taking word words body later waiting) = (refl, λ h. tt)
  line_step (Parameter n) (outside blocks) malformed = (refl, λ h. tt)
  line_step (Parameter n) (in_arguments blocks) (reading is waiting) = (refl, λ h. tt)
  line_step (Parameter n) (in_arguments blocks) (passing e arguments is waiting) = (refl, λ h. tt)
  line_step (Parameter n) (in_arguments blocks) (taking word words body later waiting) = (refl, λ h. tt)
  line_step (Parameter n) (in_arguments blocks) malformed = (refl, λ h. tt)
  line_step (Parameter n) (in_parameters blocks) (reading is waiting) = (refl, λ h. tt)
  line_step (Parameter n) (in_parameters blocks) (passing e arguments is waiting) = (refl, λ h. tt)
  line_step (Parameter n) (in_parameters blocks) (taking word words body later waiting) = (refl, λ h m. ap (λ l. indented (length blocks) (line_tree sizes (Parameter n)) ∷ l) (h m))
  line_step (Parameter n) (in_parameters blocks) malformed = (refl, λ h. tt)
  line_step (LastParameter n) (outside blocks) (reading is outermost) = (refl, λ h. tt)
  line_step (LastParameter n) (outside blocks) (reading is (closed later waiting)) = (refl, λ h. tt)
  line_step (LastParameter n) (outside blocks) (reading is (else_waiting on_false waiting)) = (refl, λ h. tt)
  line_step (LastParameter n) (outside blocks) (passing e arguments is waiting) = (refl, λ h. tt)
  line_step (LastParameter n) (outside blocks) (taking word words body later waiting) = (refl, λ h. tt)
  line_step (LastParameter n) (outside blocks) malformed = (refl, λ h. tt)
  line_step (LastParameter n) (in_arguments blocks) (reading is outermost) = (refl, λ h. tt)
  line_step (LastParameter n) (in_arguments blocks) (reading is (closed later waiting)) = (refl, λ h. tt)
  line_step (LastParameter n) (in_arguments blocks) (reading is (else_waiting on_false waiting)) = (refl, λ h. tt)
  line_step (LastParameter n) (in_arguments blocks) (passing e arguments is waiting) = (refl, λ h. tt)
  line_step (LastParameter n) (in_arguments blocks) (taking word words body later waiting) = (refl, λ h. tt)
  line_step (LastParameter n) (in_arguments blocks) malformed = (refl, λ h. tt)
  line_step (LastParameter n) (in_parameters blocks) (reading is outermost) = (refl, λ h. tt)
  line_step (LastParameter n) (in_parameters blocks) (reading is (closed later waiting)) = (
    refl,
    λ h m.
        ap (λ l. indented (length blocks) (line_tree sizes (LastParameter n)) ∷ l)
        (h m ∙ ap (λ n. items_lines n is ++ (indented (length blocks) closes ∷ (items_lines (length blocks) later ++ waiting_lines blocks waiting))) (sym (add-one (length blocks)))),
  )
  line_step (LastParameter n) (in_parameters blocks) (reading is (else_waiting on_false waiting)) = (refl, λ h. tt)
  line_step (LastParameter n) (in_parameters blocks) (passing e arguments is waiting) = (refl, λ h. tt)
  line_step (LastParameter n) (in_parameters blocks) (taking word words body later waiting) = (refl, λ h. tt)
  line_step (LastParameter n) (in_parameters blocks) malformed = (refl, λ h. tt)
