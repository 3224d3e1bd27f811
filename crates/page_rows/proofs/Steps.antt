-- What each part of a line comes to: atoms and names of a page as the kernel's, and rows put one behind the other.
use mathlib.Core.Path.{◌≡◌, refl, sym, ap, ◌∙◌}
use mathlib.Core.Bool.{Bool, true, false}
use mathlib.Core.List.{List, [], ◌∷◌, ◌++◌}
use Prim.Native.Nat.{ℕ, ◌+◌, ◌*◌, ◌≤◌, ◌<◌}
use native.Mathlib.Omega.{arith}
use lib.IntN.{ℤ, pos}
use lib.ListN.{length}
use Rattle.words.specs.Word.{pick}
use Rattle.words.specs.Over.{over}
use Rattle.language.specs.Trees.{read, assign, call, variable, no_more, present, express, give_back, none, ◌then◌}
use Rattle.language.specs.Sizes.{expression_rows, statement_rows}
use Rattle.language_emission.specs.Emission.{row_of, emit_expression, emit_items}
use Rattle.writers_rows.specs.Atoms.{atom_tree as kernel_tree, atom_row}
use Rattle.writers_rows.specs.Room.{Room}
use Rattle.writers_rows.specs.Straight.{target_rows}
use Rattle.writers_rows.specs.Chain.{PutWords}
use Rattle.writers_rows.specs.declared.KernelAtom.{KernelAtom}
use Rattle.writers_rows.specs.declared.KernelAtom.TheVariants as kernel-cases
use Rattle.page.specs.declared.Sizes.{Sizes}
use Rattle.page.specs.Page.{first_temporary}
use Rattle.page_words.specs.Texts.{AtomFits, NameFits, ElementFits, ValueFits, LineFits}
use Rattle.page_words.specs.Trees.{place_tree, atom_tree}
use Rattle.page_words.specs.declared.PageAtom.{PageAtom}
use Rattle.page_words.specs.declared.PageAtom.TheVariants.{Variable, Declared, Temporary}
use Rattle.page_words.specs.declared.Value.{Value}
use Rattle.page_words.specs.declared.LineContent.{LineContent}
use Rattle.page_words.specs.declared.LineContent.TheVariants.{While, If, Return, OpensCall, Argument, LastArgument}
use Rattle.page_blocks.specs.Scans.{value_rows, line_rows}
use Rattle.page_rows.specs.Rows.{block_row, line_table}
use Rattle.page_rows.specs.Fits.{most_names, SmallSizes}

pub pick-most : (b : Bool) (n : ℕ) → pick b n 0 ≤ n
pick-most true n = omega arith
pick-most false n = omega arith

-- ---- numbers

module _ (sizes : Sizes) (few : SmallSizes sizes) (a : PageAtom) (n : ℕ) where
  pub variable_atom : a ≡ Variable n → AtomFits most_names a → (read (variable n) ≡ atom_tree sizes a) × (n < 65536)
  variable_atom e h = let small : n < 256 = rw e at h in (ap (atom_tree sizes) (sym e), omega arith)

  pub declared-atom : a ≡ Declared n → AtomFits most_names a → (read (variable (sizes.store + n)) ≡ atom_tree sizes a) × (sizes.store + n < 65536)
  declared-atom e h = let small : n < 8256 = rw e at h in (ap (atom_tree sizes) (sym e), omega (arith, few.small_store))

  pub temporary-atom : a ≡ Temporary n → AtomFits most_names a → (read (variable (first_temporary sizes + n)) ≡ atom_tree sizes a) × (first_temporary sizes + n < 65536)
  temporary-atom e h = let small : n < 8256 = rw e at h in (ap (atom_tree sizes) (sym e), omega (arith, few.small_store, few.few_declared))

  pub variable-name : a ≡ Variable n → NameFits most_names a → (place_tree sizes a ≡ variable n) × (n < 65536)
  variable-name e h = let small : n < 256 = rw e at h in (ap (place_tree sizes) e, omega arith)

  pub declared-name : a ≡ Declared n → NameFits most_names a → (place_tree sizes a ≡ variable (sizes.store + n)) × (sizes.store + n < 65536)
  declared-name e h = let small : n < 8256 = rw e at h in (ap (place_tree sizes) e, omega (arith, few.small_store))

  pub temporary-name : a ≡ Temporary n → NameFits most_names a → (place_tree sizes a ≡ variable (first_temporary sizes + n)) × (first_temporary sizes + n < 65536)
  temporary-name e h = let small : n < 8256 = rw e at h in (ap (place_tree sizes) e, omega (arith, few.small_store, few.few_declared))

-- ---- what is known of a value and of a line, by its sort

module _ (v w : Value) (e : v ≡ w) where
  pub value_room : (base words : ℕ) → Room (3 + value_rows v) base words → Room (3 + value_rows w) base words
  value_room base words r = rw e at r

  pub value-fit : ValueFits most_names v → ValueFits most_names w
  value-fit h = rw e at h

module _ (line l : LineContent) (e : line ≡ l) where
  pub line-room : (base words : ℕ) → Room (line_rows line) base words → Room (line_rows l) base words
  line-room base words r = rw e at r

  pub line-fit : LineFits most_names line → LineFits most_names l
  line-fit h = rw e at h

-- ---- rows

module _ (l m : List ℤ) where
  pub block_written : (base first next : ℕ) (follows : Bool) → m ≡ over (row_of 42 (pos first) 0 0 0 next) l → first ≡ pick follows (base + 1) 0 → m ≡ over (block_row base follows next) l
  block_written base first next follows h e = rw e at h

  -- rows, and one row
  pub rows_written : (n : ℕ) (u : List ℤ) → m ≡ over u l → length u ≡ 6 * n → PutWords u n l m
  rows_written n u e h = record { table = e; size = h }

  pub row_written : (u : List ℤ) → m ≡ over u l → length u ≡ 6 → PutWords u 1 l m
  row_written u e h = rows_written 1 u e h

  pub atom-written : (x : KernelAtom) (base : ℕ) → m ≡ over (atom_row x) l → PutWords (emit_expression (kernel_tree x) base) 1 l m
  unfolding emit_expression
  atom-written (kernel-cases.Constant v) base e = record { table = e; size = refl }
  atom-written (kernel-cases.Variable n) base e = record { table = e; size = refl }

  pub if-written : (x : KernelAtom) (base second next : ℕ) → m ≡ over (row_of 43 (pos (base + 1)) (base + 2) second 0 next ++ emit_expression (kernel_tree x) (base + 1)) l
      → PutWords (row_of 43 (pos (base + 1)) (base + 2) second 0 next ++ emit_expression (kernel_tree x) (base + 1)) 2 l m
  unfolding emit_expression
  if-written (kernel-cases.Constant v) base second next e = record { table = e; size = refl }
  if-written (kernel-cases.Variable n) base second next e = record { table = e; size = refl }

  -- A line that opens a block, by the kernel's atom of its test.
  module _ (sizes : Sizes) (base : ℕ) (follows : Bool) (first second : ℕ) (line : LineContent) (a : PageAtom) (x : KernelAtom) (t : kernel_tree x ≡ atom_tree sizes a) where
    pub while-line : line ≡ While a → m ≡ over ((row_of 44 (pos (base + 1)) (base + 2) 0 0 first ++ emit_expression (kernel_tree x) (base + 1)) ++ block_row (base + 2) follows 0) l
        → m ≡ over (line_table sizes line base (record { follows = follows; waiting = first ∷ second ∷ [] })) l
    while-line e h =
        h ∙ ap (λ z. over ((row_of 44 (pos (base + 1)) (base + 2) 0 0 first ++ emit_expression z (base + 1)) ++ block_row (base + 2) follows 0) l) t
        ∙ ap (λ n. over (line_table sizes n base (record { follows = follows; waiting = first ∷ second ∷ [] })) l) (sym e)

    pub if-line : line ≡ If a → m ≡ over ((row_of 43 (pos (base + 1)) (base + 2) first 0 second ++ emit_expression (kernel_tree x) (base + 1)) ++ block_row (base + 2) follows 0) l
        → m ≡ over (line_table sizes line base (record { follows = follows; waiting = first ∷ second ∷ [] })) l
    if-line e h =
        h ∙ ap (λ z. over ((row_of 43 (pos (base + 1)) (base + 2) first 0 second ++ emit_expression z (base + 1)) ++ block_row (base + 2) follows 0) l) t
        ∙ ap (λ n. over (line_table sizes n base (record { follows = follows; waiting = first ∷ second ∷ [] })) l) (sym e)

    -- A line that has its atom.
    pub return-line : line ≡ Return a → m ≡ over (emit_items follows (give_back (present (kernel_tree x)) then none) base) l
        → m ≡ over (line_table sizes line base (record { follows = follows; waiting = first ∷ second ∷ [] })) l
    return-line e h =
        h ∙ ap (λ z. over (emit_items follows (give_back (present z) then none) base) l) t ∙ ap (λ n. over (line_table sizes n base (record { follows = follows; waiting = first ∷ second ∷ [] })) l) (sym e)

    pub argument-line : line ≡ Argument a → m ≡ over (row_of 32 (pos (base + 1)) 0 0 0 (base + 2) ++ emit_expression (kernel_tree x) (base + 1)) l
        → m ≡ over (line_table sizes line base (record { follows = follows; waiting = first ∷ second ∷ [] })) l
    argument-line e h =
        h ∙ ap (λ z. over (row_of 32 (pos (base + 1)) 0 0 0 (base + 2) ++ emit_expression z (base + 1)) l) t ∙ ap (λ n. over (line_table sizes n base (record { follows = follows; waiting = first ∷ second ∷ [] })) l) (sym e)

    pub last-argument-line : line ≡ LastArgument a → m ≡ over (row_of 32 (pos (base + 1)) 0 0 0 0 ++ emit_expression (kernel_tree x) (base + 1)) l
        → m ≡ over (line_table sizes line base (record { follows = follows; waiting = first ∷ second ∷ [] })) l
    last-argument-line e h =
        h ∙ ap (λ z. over (row_of 32 (pos (base + 1)) 0 0 0 0 ++ emit_expression z (base + 1)) l) t ∙ ap (λ n. over (line_table sizes n base (record { follows = follows; waiting = first ∷ second ∷ [] })) l) (sym e)

  -- The line of a call, by the number of its variable.
  pub call_line : (sizes : Sizes) (base : ℕ) (follows : Bool) (first second : ℕ) (line : LineContent) (a : PageAtom) (number f : ℕ) → line ≡ OpensCall a f → place_tree sizes a ≡ variable number
      → m ≡ over (((row_of 41 (pos (base + 1)) 0 0 0 first ++ row_of 21 (pos (base + 2)) (base + 3) 0 0 0) ++ row_of 2 (pos number) 0 0 0 0) ++ row_of 31 (pos f) (base + 4) 0 0 0) l
      → m ≡ over (line_table sizes line base (record { follows = follows; waiting = first ∷ second ∷ [] })) l
  unfolding emit_expression
  call_line sizes base follows first second line a number f e p h = rw (e, p) h

-- The words of a call without arguments.
pub called-words : (base : ℕ) (follows : Bool) (number f : ℕ)
    → target_rows 2 number 0 (base + 3) 4 base follows ++ row_of 31 (pos f) 0 0 0 0 ≡ emit_items follows (express (assign (variable number) (call f no_more)) then none) base
unfolding emit_items emit_expression statement_rows expression_rows
called-words base follows number f =
    let two : base + 1 + 1 ≡ base + 2 = omega arith in
    let three : base + 2 + 1 ≡ base + 3 = omega arith in
    cc
