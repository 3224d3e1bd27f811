-- The definitions at the front of a program's list, one after the other: the functions before a definition have their sets, and those from it on are
-- the functions of the list from there on. And the parameters of a definition.
use mathlib.Core.Path.{◌≡◌, refl, sym, ap, subst, ◌∙◌}
use mathlib.Core.Bool.{Bool, true, false, ◌&&◌, ◌||◌, false≢true, true≢false}
use mathlib.Core.List.{List, [], ◌∷◌}
use Prim.Native.Nat.{ℕ, zero, suc, ◌+◌, ◌*◌, ◌≤◌, ◌<◌}
use native.Mathlib.Numerals.{add-one}
use native.Mathlib.Omega.{arith}
use lib.Dec.{eqb}
use lib.IntN.{ℤ}
use lib.ListN.{length}
use borrow.Author.Tests.{eqb-true, eq-eqb, ne_eqb}
use Rattle.words.specs.Word.{pick}
use Rattle.words.specs.Table.{row_count, number_at, word_at}
use Rattle.words.specs.Declarations.{is_declaration}
use Rattle.words.specs.Kinds.{kind_at, kind_of, kind_in, kinds, is_link, is_required, statement_fields, definition_fields, kind_row, sort_in}
use Rattle.words.specs.declared.Kind.{Kind}
use Rattle.words.specs.declared.Kind.TheVariants.{OfExpression, OfStatement, OfMark, OfMember, Definition, Other}
use Rattle.words.specs.declared.StatementKind.TheVariants.{Block, Declare}
use Rattle.words.specs.declared.MarkKind.TheVariants.{Case, Default, Label}
use Rattle.language.specs.Trees.{Statement, block, Items, none, ◌then◌, ◌here◌, define}
use Rattle.language.specs.Functions.{Function, function_of, function_count}
use Rattle.language.specs.Calls.{Numbered, DefinitionsFirst}
use Rattle.language.specs.Program.{contents}
use Rattle.language.specs.FunctionWrites.{is_among, items_write}
use Rattle.language.specs.Decode.{later, block_items, items_of, statement_at, items_at, list_at, parameters_at, parameter_list_at}
use Rattle.language.specs.DecodeLaws.{items-at, parameters-at, at_block, at-definition, at-parameter}
use Rattle.language.specs.SoundLaws.{link-of, optional-link-of, behind}
use Rattle.language_shapes.specs.Shapes.{OptionalOnward}
use Rattle.language_shapes.specs.Source.{NamesFrom, Source}
use Rattle.write_sets.specs.Sets.{join, single}
use Rattle.write_sets.specs.declared.WriteSet.{WriteSet}
use Rattle.measures_table.specs.Parts.{called_in}
use Rattle.write_sets_rows.specs.WriteSets.{SetIs, FunctionSets}
use Rattle.write_sets_rows.proofs.WriteLaws.{set-as, set_single, set-join}
use Rattle.write_sets_rows.proofs.ArgumentLaws.{rows_left, left_less}
use Rattle.write_sets_functions.specs.Definitions.{is_definition, defines, is_parameter, defined_at, FunctionHere}
use Rattle.write_sets_functions.specs.Walks.{lower_called, Walks}
use Rattle.write_sets_functions.proofs.LowerLaws.{function-lower}
use Rattle.write_sets_functions.proofs.WalkLaws.{Joined, joined-next, joined-all}

-- ---- what stands at a link

pub there : (rows : List ℤ) (link : ℕ) → defines rows link ≡ true → 0 < link
there rows zero h = absurd (false≢true h)
there rows (suc link) h = omega arith

definition-kind : (kind : Kind) → is_definition kind ≡ true → kind ≡ Definition
definition-kind (OfExpression kind) h = absurd (false≢true h)
definition-kind (OfStatement kind) h = absurd (false≢true h)
definition-kind (OfMark kind) h = absurd (false≢true h)
definition-kind (OfMember kind) h = absurd (false≢true h)
definition-kind Definition h = refl
definition-kind Other h = absurd (false≢true h)

pub defined-kind : (rows : List ℤ) (link : ℕ) → defines rows link ≡ true → kind_at rows link ≡ Definition
defined-kind rows zero h = absurd (false≢true h)
defined-kind rows (suc link) h = definition-kind (kind_at rows (suc link)) h

-- as the code reads it
pub defines-some : (rows : List ℤ) (link : ℕ) {b : Bool} → 0 < link → b ≡ is_definition (kind_at rows link) → b ≡ defines rows link
defines-some rows zero h e = absurd (omega arith)
defines-some rows (suc link) h e = e

pub defines-none : (rows : List ℤ) (link : ℕ) → link ≡ 0 → false ≡ defines rows link
defines-none rows zero e = refl
defines-none rows (suc link) e = absurd (omega arith)

pub parameter-some : (rows : List ℤ) (link : ℕ) {b : Bool} → 0 < link → b ≡ is_declaration rows link → b ≡ is_parameter rows link
parameter-some rows zero h e = absurd (omega arith)
parameter-some rows (suc link) h e = e

pub parameter-none : (rows : List ℤ) (link : ℕ) → link ≡ 0 → false ≡ is_parameter rows link
parameter-none rows zero e = refl
parameter-none rows (suc link) e = absurd (omega arith)

list-some : (rows : List ℤ) (link : ℕ) → 0 < link → list_at rows link ≡ items_at rows link
list-some rows zero h = absurd (omega arith)
list-some rows (suc link) h = refl

-- ---- the list at a definition, and at another item

module _ {rows : List ℤ} (s : Source rows) {link : ℕ} (inside : link < row_count rows) where
  -- the row behind
  pub next_inside : (next : ℕ) → next ≡ number_at rows link 5 → next < row_count rows
  next_inside zero e = s.sound.some_rows
  next_inside (suc next) e = let b = behind s.sound inside (omega (arith, e)) in omega (arith, e, b.inside)

  pub next-later : (next : ℕ) → next ≡ number_at rows link 5 → 0 < next → link < next
  next-later next e h = let b = behind s.sound inside (omega (arith, e)) in omega (arith, e, b.later)

  -- fewer rows are left
  pub next-falls : {next : ℕ} → 0 < link → next ≡ number_at rows link 5 → rows_left (row_count rows) next < rows_left (row_count rows) link
  next-falls {next} there e = left_less {rows = rows} link next inside (λ h. record { later = next-later next e h; inside = next_inside next e }) there

  module _ (d : defines rows link ≡ true) where
    kind : kind_at rows link ≡ Definition
    kind = defined-kind rows link d

    pub list-is : list_at rows link ≡ define (number_at rows link 1) (parameter_list_at rows (number_at rows link 2)) (block_items (statement_at rows (number_at rows link 3))) (list_at rows (number_at rows link 5))
    unfolding sort_in kind_row definition_fields is_required is_link
    list-is =
        list-some rows link (there rows link d)
        ∙ at-definition rows s.sound.whole link kind (λ h. (optional-link-of s.sound inside kind 2 (omega arith) (omega arith) refl h).later) (link-of s.sound inside kind 3 (omega arith) (omega arith) refl).later (λ h. (behind s.sound inside h).later)

-- the block of a definition
module _ {rows : List ℤ} (s : Source rows) {row : ℕ} (inside : row < row_count rows) (kind : kind_at rows row ≡ Definition) where
  body-kind : kind_at rows (number_at rows row 3) ≡ OfStatement Block
  body-kind = s.functions.body-block row inside kind

  body_inside : number_at rows row 3 < row_count rows
  unfolding sort_in kind_row definition_fields is_required is_link
  body_inside = (link-of s.sound inside kind 3 (omega arith) (omega arith) refl).inside

  -- its row, which is a later one
  pub record BodyAt (c : ℕ) : Type 0 where
    pub later : row < c
    pub within : c < row_count rows
    pub is : statement_at rows c ≡ block (defined_at rows row).body

  pub items-inside : {c list : ℕ} → c ≡ number_at rows row 3 → list ≡ number_at rows c 1 → list < row_count rows
  unfolding sort_in kind_row statement_fields is_link
  items-inside {c} {list} ec el = by (number_at rows (number_at rows row 3) 1) refl
    where
      same : list ≡ number_at rows (number_at rows row 3) 1
      same = el ∙ ap (λ (n : ℕ). number_at rows n 1) ec

      by : (n : ℕ) → number_at rows (number_at rows row 3) 1 ≡ n → list < row_count rows
      by zero z = let some = s.sound.some_rows in omega (arith, some, same, z)
      by (suc n) z = let l = optional-link-of s.sound body_inside body-kind 1 (omega arith) (omega arith) refl (omega (arith, z)) in omega (arith, same, l.inside)

  pub body-items : {c list : ℕ} → c ≡ number_at rows row 3 → list ≡ number_at rows c 1 → block_items (statement_at rows (number_at rows row 3)) ≡ list_at rows list
  unfolding sort_in kind_row statement_fields is_link
  body-items {c} {list} ec el =
      ap block_items (at_block rows s.sound.whole (number_at rows row 3) body-kind (λ h. (optional-link-of s.sound body_inside body-kind 1 (omega arith) (omega arith) refl h).later))
      ∙ ap (list_at rows) (sym (el ∙ ap (λ (n : ℕ). number_at rows n 1) ec))

  pub parameters_inside : {p : ℕ} → p ≡ number_at rows row 2 → p < row_count rows
  unfolding sort_in kind_row definition_fields is_link
  parameters_inside {p} e = by (number_at rows row 2) refl
    where
      by : (n : ℕ) → number_at rows row 2 ≡ n → p < row_count rows
      by zero z = let some = s.sound.some_rows in omega (arith, some, e, z)
      by (suc n) z = let l = optional-link-of s.sound inside kind 2 (omega arith) (omega arith) refl (omega (arith, z)) in omega (arith, e, l.inside)

  pub body-block : {c : ℕ} → c ≡ number_at rows row 3 → BodyAt c
  unfolding sort_in kind_row definition_fields statement_fields is_required is_link
  body-block {c} ec =
      let at = at_block rows s.sound.whole (number_at rows row 3) body-kind (λ h. (optional-link-of s.sound body_inside body-kind 1 (omega arith) (omega arith) refl h).later) in
      let l = link-of s.sound inside kind 3 (omega arith) (omega arith) refl in
      record { later = omega (arith, l.later, ec); within = omega (arith, l.inside, ec); is = ap (statement_at rows) ec ∙ at ∙ ap block (sym (ap block_items at)) }

abbrev pub is_define : Items → Bool
is_define none = false
is_define (s then is) = false
is_define (m here is) = false
is_define (define f words body is) = true

define-of : (kind : Kind) (word : ℕ → ℤ) (s : Statement) (words : List ℕ) (body : Statement) (is : Items) → is_define (items_of kind word s words body is) ≡ is_definition kind
unfolding items_of
define-of (OfExpression kind) word s words body is = refl
define-of (OfStatement kind) word s words body is = refl
define-of (OfMark Case) word s words body is = refl
define-of (OfMark Default) word s words body is = refl
define-of (OfMark Label) word s words body is = refl
define-of (OfMember kind) word s words body is = refl
define-of Definition word s words body is = refl
define-of Other word s words body is = refl

front-none : (is : Items) → DefinitionsFirst is → is_define is ≡ false → function_count is ≡ 0
unfolding DefinitionsFirst function_count
front-none none h d = refl
front-none (s then is) h d = h
front-none (m here is) h d = h
front-none (define f words body is) h d = absurd (true≢false d)

pub list-defines : {rows : List ℤ} → Source rows → (link : ℕ) → is_define (list_at rows link) ≡ defines rows link
list-defines s zero = refl
list-defines {rows} s (suc link) = ap is_define (items-at rows s.sound.whole (suc link)) ∙ define-of (kind_at rows (suc link)) _ _ _ _ _

-- ---- the pass

-- The functions below `known` have their sets, and those from it on are defined from the row on.
pub record Filling (S : ℕ) (rows : List ℤ) (sets : List WriteSet) (known row : ℕ) : Type 0 where
  pub inside : row < row_count rows
  pub low : 0 < row → known < row
  pub count_is : known + function_count (list_at rows row) ≡ function_count (contents rows)
  pub numbered : Numbered known (list_at rows row)
  pub in_front : DefinitionsFirst (list_at rows row)
  pub rest : (f : ℕ) → known ≤ f → function_of f (contents rows) ≡ function_of f (list_at rows row)
  pub functions : FunctionSets S rows sets known

none_filled : {S : ℕ} {rows : List ℤ} {sets : List WriteSet} → FunctionSets S rows sets 0
none_filled = record { function-set = λ f h b. absurd (omega arith) }

contents-are : (rows : List ℤ) → contents rows ≡ list_at rows (number_at rows 0 1)
unfolding contents
contents-are rows = refl

pub filling-none : {S : ℕ} {rows : List ℤ} {sets : List WriteSet} {row : ℕ} → Source rows → row ≡ number_at rows 0 1 → Filling S rows sets 0 row
unfolding sort_in kind_row statement_fields is_link
filling-none {S} {rows} {sets} {row} s e = subst (λ (r : ℕ). Filling S rows sets 0 r) (sym e) (record {
  inside = by (number_at rows 0 1) refl;
  low = λ h. h;
  count_is = omega (arith, ap function_count (contents-are rows));
  numbered = subst (λ (is : Items). Numbered 0 is) (contents-are rows) s.functions.order.numbered;
  in_front = subst (λ (is : Items). DefinitionsFirst is) (contents-are rows) s.functions.in_front;
  rest = λ f h. ap (function_of f) (contents-are rows);
  functions = none_filled;
})
  where
    by : (n : ℕ) → number_at rows 0 1 ≡ n → number_at rows 0 1 < row_count rows
    by zero z = let some = s.sound.some_rows in omega (arith, some, z)
    by (suc n) z = (optional-link-of s.sound s.sound.some_rows s.functions.root 1 (omega arith) (omega arith) refl (omega (arith, z))).inside

module _ {S : ℕ} {rows : List ℤ} {sets : List WriteSet} {known row : ℕ} (s : Source rows) (m : Filling S rows sets known row) (d : defines rows row ≡ true) where
  at : list_at rows row ≡ define (number_at rows row 1) (parameter_list_at rows (number_at rows row 2)) (block_items (statement_at rows (number_at rows row 3))) (list_at rows (number_at rows row 5))
  at = list-is s m.inside d

  number : number_at rows row 1 ≡ known
  unfolding Numbered
  number = (subst (λ (is : Items). Numbered known is) at m.numbered).0

  counted : known + suc (function_count (list_at rows (number_at rows row 5))) ≡ function_count (contents rows)
  unfolding function_count
  counted = ap (λ (is : Items). known + function_count is) (sym at) ∙ m.count_is

  pub function-here : FunctionHere rows known row
  unfolding function_of
  function-here = record {
    inside = m.inside;
    definition = defined-kind rows row d;
    counted = omega (arith, counted);
    is = m.rest known (omega arith) ∙ ap (function_of known) at ∙ ap (λ (b : Bool). pick b (defined_at rows row) (function_of known (list_at rows (number_at rows row 5)))) (eq-eqb known (number_at rows row 1) (sym number));
  }

  pub filling-next : {next : ℕ} {after : List WriteSet} → next ≡ number_at rows row 5 → FunctionSets S rows after (known + 1) → Filling S rows after (known + 1) next
  unfolding function_count function_of Numbered DefinitionsFirst
  filling-next {next} {after} e x = record {
    inside = next_inside s m.inside next e;
    low = λ h. let l = next-later s m.inside next e h in let k = m.low (there rows row d) in omega (arith, l, k);
    count_is = ap (λ (n : ℕ). known + 1 + function_count (list_at rows n)) e ∙ omega (arith, counted);
    numbered = subst (λ (n : ℕ). Numbered n (list_at rows next)) (sym (add-one known)) (subst (λ (n : ℕ). Numbered (suc known) (list_at rows n)) (sym e) (subst (λ (is : Items). Numbered known is) at m.numbered).1);
    in_front = subst (λ (n : ℕ). DefinitionsFirst (list_at rows n)) (sym e) (subst (λ (is : Items). DefinitionsFirst is) at m.in_front);
    rest = λ f h.
        m.rest f (omega (arith, h)) ∙ ap (function_of f) at ∙ ap (λ (b : Bool). pick b (defined_at rows row) (function_of f (list_at rows (number_at rows row 5)))) (ne_eqb f (number_at rows row 1) (λ q. absurd (omega (arith, q, number, h)))) ∙ ap (λ (n : ℕ). function_of f (list_at rows n)) (sym e);
    functions = x;
  }

  -- what a walk of its block asks
  pub filling-walks : NamesFrom S rows → row_count rows ≤ length sets → Walks S rows sets known
  filling-walks names room = record { source = s; names = names; room = (let k = m.low (there rows row d) in omega (arith, k, m.inside, room)); few = omega (arith, counted); functions = m.functions }

pub filling-all : {S : ℕ} {rows : List ℤ} {sets : List WriteSet} {known row : ℕ} → Source rows → Filling S rows sets known row → defines rows row ≡ false → FunctionSets S rows sets (row_count rows)
filling-all {rows = rows} {row = row} s m d =
    let over = front-none (list_at rows row) m.in_front (list-defines s row ∙ d) in
    record { function-set = λ f h b. m.functions.function-set f (omega (arith, b, m.count_is, over)) b }

-- ---- what a function writes

pub function-written : {S : ℕ} {rows : List ℤ} {known row p c list : ℕ} {a b s : WriteSet} → Source rows → FunctionHere rows known row → p ≡ number_at rows row 2 → c ≡ number_at rows row 3 → list ≡ number_at rows c 1
    → SetIs S a (λ i. is_among i (parameter_list_at rows p)) → SetIs S b (items_write (lower_called rows known) (list_at rows list)) → s ≡ join a b → SetIs S s (called_in rows known)
function-written {S} {rows} {known} {row} {p} {c} {list} {a} {b} source at ep ec el x y es = set-as _ _ (set-join a b _ _ x y es) (λ i.
    ap (λ (n : ℕ). is_among i (parameter_list_at rows n) || items_write (lower_called rows known) (list_at rows list) i) ep ∙
    ap (λ (is : Items). is_among i (parameter_list_at rows (number_at rows row 2)) || items_write (lower_called rows known) is i) (sym (body-items source at.inside at.definition ec el))
    ∙ sym (ap (λ (f : Function). is_among i f.parameters || items_write (lower_called rows known) f.body i) at.is)
    ∙ sym (function-lower (contents rows) source.functions.order i known at.counted))

-- ---- parameters

pub declared-kind : (rows : List ℤ) (row : ℕ) → is_declaration rows row ≡ true → kind_at rows row ≡ OfStatement Declare
unfolding is_declaration kind_at kind_of kind_in kinds
declared-kind rows row e = rw (eqb-true (number_at rows row 0) 58 e)

parameter-there : (rows : List ℤ) (link : ℕ) → is_parameter rows link ≡ true → (0 < link) × (is_declaration rows link ≡ true)
parameter-there rows zero h = absurd (false≢true h)
parameter-there rows (suc link) h = (omega arith, h)

pub parameter-first : (rows : List ℤ) (link : ℕ) → is_parameter rows link ≡ true → 0 < link
parameter-first rows link h = (parameter-there rows link h).0

parameters-some : (rows : List ℤ) (link : ℕ) → 0 < link → parameter_list_at rows link ≡ parameters_at rows link
parameters-some rows zero h = absurd (omega arith)
parameters-some rows (suc link) h = refl

pub list-parameter : {rows : List ℤ} → Source rows → (link : ℕ) → link < row_count rows → is_parameter rows link ≡ true → parameter_list_at rows link ≡ number_at rows link 1 ∷ parameter_list_at rows (number_at rows link 5)
list-parameter {rows} s link inside h =
    let p = parameter-there rows link h in
    parameters-some rows link p.0 ∙ at-parameter rows s.sound.whole link p.1 (λ q. (behind s.sound inside q).later)

pub list-ended : {rows : List ℤ} → Source rows → (link : ℕ) → is_parameter rows link ≡ false → parameter_list_at rows link ≡ []
list-ended s zero h = refl
list-ended {rows} s (suc link) h = parameters-at rows s.sound.whole (suc link) ∙ ap (λ (b : Bool). pick b (number_at rows (suc link) 1 ∷ later [] (suc link) (parameters_at rows) (number_at rows (suc link) 5)) []) h

abbrev pub words_from : List ℤ → ℕ → ℕ → Bool
words_from rows row i = is_among i (parameter_list_at rows row)

pub words-next : {S : ℕ} {rows : List ℤ} {row next i : ℕ} {s t u : WriteSet} {whole : ℕ → Bool} → Source rows → NamesFrom S rows → row < row_count rows → is_parameter rows row ≡ true → Joined S s (words_from rows row) whole → i ≡ number_at rows row 1 → t ≡ single S i → u ≡ join s t → next ≡ number_at rows row 5 → Joined S u (words_from rows next) whole
unfolding is_among
words-next {S} {rows} {row} {next} source names inside h j ei et e en =
    joined-next (words_from rows row) (eqb (number_at rows row 1)) (words_from rows next) j
    (set_single (number_at rows row 1) (names.declared row inside (declared-kind rows row (parameter-there rows row h).1)) (et ∙ ap (single S) ei)) e
    (λ k. ap (is_among k) (list-parameter source row inside h) ∙ ap (λ (n : ℕ). eqb (number_at rows row 1) k || is_among k (parameter_list_at rows n)) (sym en))

-- The same of the sets themselves.
pub words-joined : {S : ℕ} {rows : List ℤ} {row next : ℕ} {s u : WriteSet} {whole : ℕ → Bool} → Source rows → NamesFrom S rows → row < row_count rows → is_parameter rows row ≡ true
    → Joined S s (words_from rows row) whole → u ≡ join s (single S (number_at rows row 1)) → next ≡ number_at rows row 5 → Joined S u (words_from rows next) whole
words-joined source names inside h j joined next = words-next source names inside h j refl refl joined next

pub words-all : {S : ℕ} (rows : List ℤ) (row : ℕ) {s : WriteSet} {whole : ℕ → Bool} → Source rows → Joined S s (words_from rows row) whole → is_parameter rows row ≡ false → SetIs S s whole
unfolding is_among
words-all rows row source j h = joined-all (words_from rows row) j (λ i. ap (is_among i) (list-ended source row h))
