-- Functions: the code of a definition, its row, its parameters, its block and then the code behind it; and of a program's main part.
use mathlib.Core.Path.{◌≡◌, refl, sym, ap, ap₂, subst, ◌∙◌}
use mathlib.Core.Bool.{Bool, true, false, true≢false}
use mathlib.Core.List.{List, ◌++◌, append_assoc}
use Prim.Native.Nat.{ℕ, zero, suc, ◌+◌, ◌-◌, ◌≤◌, ◌<◌}
use native.Mathlib.Omega.{arith}
use lib.IntN.{ℤ, pos}
use lib.ListN.{length}
use Rattle.words.specs.Word.{pick}
use Rattle.words.specs.Over.{over}
use Rattle.words.specs.Table.{row_count, number_at}
use Rattle.language.specs.Trees.{block, Items, none, ◌then◌, ◌here◌, define}
use Rattle.language.specs.Calls.{Numbered}
use Rattle.language.specs.Decode.{block_items, statement_at, list_at, parameter_list_at}
use Rattle.language.specs.Sizes.{statement_rows, items_rows}
use Rattle.translation.specs.Translate.{items_labels, Exits, exits, items_code, items_levels, program_levels, program_labels, program_code}
use Rattle.translation.specs.TranslateSize.{statement_size, items_size, program_size}
use Rattle.translation.proofs.TranslateRows.{rows-items, rows-program}
use Rattle.language_emission.specs.Emission.{row_of, list_link, parameters_link, emit_parameters, emit_statement, emit_items}
use Rattle.language_emission.specs.EmissionLaws.{length-parameters, length-statement, length-items}
use Rattle.language_shapes.specs.Source.{Source}
use Rattle.measures_table.specs.Parts.{called_in}
use Rattle.writers_rows.specs.Room.{more_rows}
use Rattle.writers_rows.specs.Chain.{part, back_in, PutWords, reworded, link-is, one-item}
use Rattle.write_sets_functions.specs.Definitions.{defines}
use Rattle.write_sets_functions.proofs.DefinitionLaws.{there, defined-kind, next-later, list-is, items-inside, body-items, is_define}
use Rattle.writers.proofs.Sequence.{put-behind}
use Rattle.writers_programs.specs.Asks.{BlockList, NumberedFrom, ListTakes, FunctionAsks}
use Rattle.writers_programs.proofs.ParameterLaws.{parameters-link}

-- ---- the main part

module _ (called : ℕ → ℕ → Bool) where
  -- a list that no definition begins
  main-code : (first : ℕ) (is : Items) → is_define is ≡ false → (l : ℕ) → items_code called first is (exits 0 0) l ≡ program_code called first is l
  unfolding items_code program_code
  main-code first none d l = refl
  main-code first (s then is) d l = refl
  main-code first (m here is) d l = refl
  main-code first (define f words body is) d l = absurd (true≢false d)

  -- ---- what a definition takes

  pub function-size : (f : ℕ) (words : List ℕ) (body is : Items) → program_size called (define f words body is) ≡ 2 + length words + items_size called body + program_size called is
  unfolding program_size
  function-size f words body is = refl

  pub function-levels : (f : ℕ) (words : List ℕ) (body is : Items) → program_levels called (define f words body is) ≡ items_levels called body + program_levels called is
  unfolding program_levels
  function-levels f words body is = refl

  pub function-labels : (f : ℕ) (words : List ℕ) (body is : Items) → program_labels (define f words body is) ≡ items_labels body + program_labels is
  unfolding program_labels
  function-labels f words body is = refl

-- ---- a definition

append-three : (a b c d : List ℤ) → ((a ++ b) ++ c) ++ d ≡ a ++ b ++ c ++ d
append-three a b c d = simp append_assoc

-- The words of a definition: its row, its parameters, its block, and the items behind it.
define-words : (f : ℕ) (words : List ℕ) (body is : Items) (base : ℕ)
    → emit_items false (define f words body is) base
    ≡ row_of 59 (pos f) (parameters_link words (base + 1)) (base + 1 + length words) 0 (list_link false is (base + 1 + length words + 1 + items_rows body))
    ++ emit_parameters words (base + 1) ++ emit_statement (block body) (base + 1 + length words) 0 ++ emit_items false is (base + 1 + length words + 1 + items_rows body)
unfolding emit_items emit_statement
define-words f words body is base = refl

pub define-done : (f : ℕ) (words : List ℕ) (body is : Items) (base : ℕ) (l : List ℤ) {count inner rest link after : ℕ} {l1 l2 l3 l4 : List ℤ}
    → count ≡ length words → items_rows body ≡ inner → items_rows is ≡ rest
    → link ≡ pick (more_rows false count) (base + 1) 0 → after ≡ pick (more_rows false rest) (base + (1 + count + 1 + inner)) 0
    → l1 ≡ over (row_of 59 (pos f) link (base + (1 + count)) 0 after) l
    → l2 ≡ over (emit_parameters words (base + 1)) (part 1 l1)
    → l3 ≡ over (emit_items false (block body then none) (base + (1 + count))) (part (1 + count) (back_in 1 l1 l2))
    → l4 ≡ over (emit_items false is (base + (1 + count + 1 + inner))) (part (1 + count + 1 + inner) (back_in (1 + count) (back_in 1 l1 l2) l3))
    → back_in (1 + count + 1 + inner) (back_in (1 + count) (back_in 1 l1 l2) l3) l4 ≡ over (emit_items false (define f words body is) base) l
unfolding statement_rows
define-done f words body is base l {count} {inner} {rest} {link} {after} {l1} {l2} {l3} ec ei er el ea t1 t2 t3 t4 =
    let own : PutWords (row_of 59 (pos f) link (base + (1 + count)) 0 after) 1 _ _ = record { table = t1; size = refl } in
    let parameters : PutWords (emit_parameters words (base + 1)) count _ _ = record { table = t2; size = length-parameters words (base + 1) ∙ omega (arith, ec) } in
    let blocked = t3 ∙ ap (λ ws. over ws (part (1 + count) (back_in 1 l1 l2))) (one-item false (block body) (base + (1 + count))) in
    let inside : PutWords (emit_statement (block body) (base + (1 + count)) 0) (1 + inner) _ _ = record { table = blocked; size = length-statement (block body) (base + (1 + count)) 0 ∙ omega (arith, ei) } in
    let behind : PutWords (emit_items false is (base + (1 + count + 1 + inner))) rest _ _ = record { table = t4; size = length-items false is (base + (1 + count + 1 + inner)) ∙ omega (arith, er) } in
    let put = put-behind (1 + count + 1 + inner + rest) refl (put-behind (1 + count + 1 + inner) (omega arith) (put-behind (1 + count) refl own parameters) inside) behind in
    let at_block : base + (1 + count) ≡ base + 1 + length words = omega (arith, ec) in
    let at-behind : base + (1 + count + 1 + inner) ≡ base + 1 + length words + 1 + items_rows body = omega (arith, ec, ei) in
    let first : link ≡ parameters_link words (base + 1) = el ∙ ap (λ (n : ℕ). pick (more_rows false n) (base + 1) 0) ec ∙ sym (parameters-link words (base + 1)) in
    let next : after ≡ list_link false is (base + 1 + length words + 1 + items_rows body) =
    ea ∙ ap₂ (λ (n b : ℕ). pick (more_rows false n) b 0) (sym er) at-behind ∙ sym (link-is false is (base + 1 + length words + 1 + items_rows body)) in
    let words-at : ℕ → ℕ → ℕ → ℕ → List ℤ = λ a b c d. row_of 59 (pos f) a b 0 c ++ emit_parameters words (base + 1) ++ emit_statement (block body) b 0 ++ emit_items false is d in
    reworded _ put (
    append-three (row_of 59 (pos f) link (base + (1 + count)) 0 after) (emit_parameters words (base + 1)) (emit_statement (block body) (base + (1 + count)) 0) (emit_items false is (base + (1 + count + 1 + inner)))
    ∙ ap₂ (λ (b d : ℕ). words-at link b after d) at_block at-behind
    ∙ ap₂ (λ (a c : ℕ). words-at a (base + 1 + length words) c (base + 1 + length words + 1 + items_rows body)) first next
    ∙ sym (define-words f words body is base)
    )

-- The same of a definition in the source, with the code of its block and of the items behind it.
module _ (S : ℕ) (rows : List ℤ) where
  pub function-done : (f parameters body next label base : ℕ) (l : List ℤ) {list count inner size above from link after : ℕ} {l1 l2 l3 l4 : List ℤ}
      → BlockList rows body list → count ≡ length (parameter_list_at rows parameters) → inner ≡ items_size (called_in rows) (list_at rows list)
      → size ≡ program_size (called_in rows) (define f (parameter_list_at rows parameters) (block_items (statement_at rows body)) (list_at rows next))
      → above ≡ program_levels (called_in rows) (list_at rows next) → from ≡ label + items_labels (list_at rows list)
      → link ≡ pick (more_rows false count) (base + 1) 0 → after ≡ pick (more_rows false (size - (1 + count + 1 + inner))) (base + (1 + count + 1 + inner)) 0
      → l1 ≡ over (row_of 59 (pos f) link (base + (1 + count)) 0 after) l
      → l2 ≡ over (emit_parameters (parameter_list_at rows parameters) (base + 1)) (part 1 l1)
      → l3 ≡ over (emit_items false (block (items_code (called_in rows) (S + above) (list_at rows list) (exits 0 0) label) then none) (base + (1 + count))) (part (1 + count) (back_in 1 l1 l2))
      → l4 ≡ over (emit_items false (program_code (called_in rows) S (list_at rows next) from) (base + (1 + count + 1 + inner))) (part (1 + count + 1 + inner) (back_in (1 + count) (back_in 1 l1 l2) l3))
      → back_in (1 + count + 1 + inner) (back_in (1 + count) (back_in 1 l1 l2) l3) l4
      ≡ over (emit_items false (program_code (called_in rows) S (define f (parameter_list_at rows parameters) (block_items (statement_at rows body)) (list_at rows next)) label) base) l
  unfolding program_code
  function-done f parameters body next label base l {list} {count} {inner} {size} {above} {from} at ec ei es ea ef el en t1 t2 t3 t4 =
      let words = parameter_list_at rows parameters in
      let B = items_code (called_in rows) (S + above) (list_at rows list) (exits 0 0) label in
      let R = program_code (called_in rows) S (list_at rows next) from in
      let inside : items_rows B ≡ inner = rows-items (called_in rows) (S + above) (list_at rows list) (exits 0 0) label ∙ sym ei in
      let block_size : items_size (called_in rows) (list_at rows list) ≡ items_size (called_in rows) (block_items (statement_at rows body)) = ap (items_size (called_in rows)) at.is in
      let behind : items_rows R ≡ size - (1 + count + 1 + inner) =
      rows-program (called_in rows) S (list_at rows next) from ∙ omega (arith, es, ec, ei, block_size, function-size (called_in rows) f words (block_items (statement_at rows body)) (list_at rows next)) in
      define-done f words B R base l ec inside behind el en t1 t2 t3 t4
      ∙ ap₂ (λ (n : ℕ) (is : Items). over (emit_items false (define f words (items_code (called_in rows) (S + n) is (exits 0 0) label) R) base) l) ea at.is
      ∙ ap (λ (n : ℕ). over (emit_items false (define f words (items_code (called_in rows) (S + program_levels (called_in rows) (list_at rows next)) (block_items (statement_at rows body)) (exits 0 0) label) (program_code (called_in rows) S (list_at rows next) n)) base) l)
      (ef ∙ ap (λ (is : Items). label + items_labels is) at.is)

-- ---- what the parts of a definition take

pub record FunctionTakes (rows : List ℤ) (next size levels label count inner bodyLevels body_labels : ℕ) : Type 0 where
  pub total : size ≡ 1 + count + 1 + inner + program_size (called_in rows) (list_at rows next)
  pub levels_are : levels ≡ bodyLevels + program_levels (called_in rows) (list_at rows next)
  pub labels_low : label + body_labels + program_labels (list_at rows next) ≤ 65535

pub function-takes : (rows : List ℤ) (f parameters body next list : ℕ) {S size levels label base words count : ℕ}
    → ListTakes rows (define f (parameter_list_at rows parameters) (block_items (statement_at rows body)) (list_at rows next)) S size levels label base words → BlockList rows body list → count ≡ length (parameter_list_at rows parameters)
    → FunctionTakes rows next size levels label count (items_size (called_in rows) (list_at rows list)) (items_levels (called_in rows) (list_at rows list)) (items_labels (list_at rows list))
function-takes rows f parameters body next list takes at ec =
    let called = called_in rows in
    let words = parameter_list_at rows parameters in
    let inside = block_items (statement_at rows body) in
    let rest = list_at rows next in
    record {
      total = omega (arith, takes.size_is, function-size called f words inside rest, ap (items_size called) at.is, ec);
      levels_are = omega (arith, takes.levels_are, function-levels called f words inside rest, ap (items_levels called) at.is);
      labels_low = omega (arith, takes.labels_low, function-labels called f words inside rest, ap items_labels at.is);
    }

-- What a definition takes, from what is asked and the list of its block.
pub function-asked : {rows : List ℤ} {S f parameters body next size levels label base words list count : ℕ} → FunctionAsks rows S f parameters body next size levels label base words → list ≡ number_at rows body 1 → count ≡ length (parameter_list_at rows parameters)
    → FunctionTakes rows next size levels label count (items_size (called_in rows) (list_at rows list)) (items_levels (called_in rows) (list_at rows list)) (items_labels (list_at rows list))
function-asked {rows} {S} {f} {parameters} {body} {next} {size} {levels} {label} {base} {words} {list} asks at counted = function-takes rows f parameters body next list asks.takes (asks.block-list at) counted

-- ---- the code of a program from an item on

pub front-main : (S : ℕ) (rows : List ℤ) (item label base : ℕ) (l : List ℤ) {m : List ℤ} → is_define (list_at rows item) ≡ false → m ≡ over (emit_items false (items_code (called_in rows) S (list_at rows item) (exits 0 0) label) base) l
    → m ≡ over (emit_items false (program_code (called_in rows) S (list_at rows item) label) base) l
front-main S rows item label base l d e = e ∙ ap (λ (is : Items). over (emit_items false is base) l) (main-code (called_in rows) S (list_at rows item) d label)

-- ---- a definition at a row, as the code reads it

numbered-define : {number f : ℕ} {words : List ℕ} {body rest is : Items} → Numbered number is → is ≡ define f words body rest → (f ≡ number) × Numbered (suc number) rest
unfolding Numbered
numbered-define {number} h e = subst (λ (x : Items). Numbered number x) e h

module _ {rows : List ℤ} (s : Source rows) {item : ℕ} (inside : item < row_count rows) (d : defines rows item ≡ true) where
  pub defined-at : {f parameters body next : ℕ} → f ≡ number_at rows item 1 → parameters ≡ number_at rows item 2 → body ≡ number_at rows item 3 → next ≡ number_at rows item 5
      → list_at rows item ≡ define f (parameter_list_at rows parameters) (block_items (statement_at rows body)) (list_at rows next)
  defined-at ef ep eb en = list-is s inside d ∙ (rw (ef, ep, eb, en))

  pub block_of : {body list : ℕ} → body ≡ number_at rows item 3 → list ≡ number_at rows body 1 → BlockList rows body list
  block_of {body} {list} eb el =
      let kind = defined-kind rows item d in
      record { is = sym (body-items s inside kind eb el) ∙ ap (λ (n : ℕ). block_items (statement_at rows n)) (sym eb); inside = items-inside s inside kind eb el }

  -- its number is below its row, and those behind are numbered from the next on
  pub number_low : {f : ℕ} → f ≡ number_at rows item 1 → NumberedFrom rows item → f < 65536
  number_low ef from = omega (arith, ef, (numbered-define from.numbered (list-is s inside d)).0, from.low (there rows item d), inside, s.few_rows)

  pub numbers_behind : {next : ℕ} → next ≡ number_at rows item 5 → NumberedFrom rows item → NumberedFrom rows next
  numbers_behind {next} en from = record {
    number = suc from.number;
    numbered = subst (λ (n : ℕ). Numbered (suc from.number) (list_at rows n)) (sym en) (numbered-define from.numbered (list-is s inside d)).1;
    low = λ h. omega (arith, next-later s inside next en h, from.low (there rows item d));
  }
