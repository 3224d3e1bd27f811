-- The front: the definitions of a table are those of its program, in order: the items of a program by the rows of its definitions, its functions
-- by their places.
use Rattle.std.specs.Prelude.{◌≡◌, true, false, List, [], ltb, ℤ}
use Rattle.std.proofs.Math.Path.{refl}
use Rattle.std.proofs.Common.{sym, ap, ◌∙◌, true≢false, arith, add-one}
use Prim.Native.Nat.{ℕ, zero, suc, ◌+◌, ◌≤◌, ◌<◌}
use borrow.Author.Tests.{eq-eqb, ne_eqb, ltb-true, le-ltb}
use Rattle.words.specs.Table.{row_count, Whole, number_at}
use Rattle.words.specs.Laws.{by_cases}
use Rattle.words.specs.Kinds.{kind_at, is_link, sort_in, kind_row, expression_fields, statement_fields, mark_fields, definition_fields, member_fields}
use Rattle.words.specs.Links.{link}
use Rattle.words.specs.declared.Kind.{Kind}
use Rattle.words.specs.declared.Kind.TheVariants.{OfExpression, OfStatement, OfMark, OfMember, Definition, Other}
use Rattle.words.specs.declared.MarkKind.TheVariants.{Case, Default, Label}
use Rattle.words.specs.declared.MemberKind.TheVariants.{Arm, Argument}
use Rattle.check_structure.specs.LinkLaws.{part-inside}
use Rattle.language.specs.Trees.{Items, none, ◌then◌, ◌here◌, define}
use Rattle.language.specs.Decode.{later, block_items, items_of, statement_at, items_at, list_at, Forward, parameter_list_at}
use Rattle.language.specs.DecodeLaws.{items-at, at-definition}
use Rattle.language.specs.Functions.{function_of, function_count}
use Rattle.language.specs.Calls.{Numbered, DefinitionsFirst}
use Rattle.language.specs.Program.{contents}
use Rattle.check_function_causes.specs.Functions.{is_definition}
use Rattle.check_function_causes.specs.Demands.{InFront, foremost, behind}
use Rattle.check_function_causes.proofs.FrontLaws.{block-undefined, front-defines, front-later, front-inside, definition-leads}
use Rattle.accepted_calls.specs.Tables.{FunctionTable}
use Rattle.accepted_calls.specs.Kinds.{definition-kind, kind-definition, block-kind}
use Rattle.accepted_calls.specs.Owners.{front-number, next-other}
use Rattle.accepted_calls.specs.CallsAlong.{followed, link-same}

-- ---- lists without definitions

pub none-numbered : (number : ℕ) (is : Items) → function_count is ≡ 0 → Numbered number is
unfolding Numbered function_count
none-numbered number none e = tt
none-numbered number (s then is) e = tt
none-numbered number (m here is) e = tt
none-numbered number (define f words body is) e = absurd (omega arith)

pub none_first : (is : Items) → function_count is ≡ 0 → DefinitionsFirst is
unfolding DefinitionsFirst function_count
none_first none e = tt
none_first (s then is) e = e
none_first (m here is) e = e
none_first (define f words body is) e = absurd (omega arith)

none_found : (number : ℕ) (is : Items) → function_count is ≡ 0 → function_of number is ≡ record { parameters = []; body = none }
unfolding function_of function_count
none_found number none e = refl
none_found number (s then is) e = none_found number is e
none_found number (m here is) e = none_found number is e
none_found number (define f words body is) e = absurd (omega arith)

-- nor is there a function with a higher number than the definitions of a list have
pub none-beyond : (number from : ℕ) (is : Items) → Numbered from is → DefinitionsFirst is → from + function_count is ≤ number → function_of number is ≡ record { parameters = []; body = none }
unfolding function_of function_count Numbered DefinitionsFirst
none-beyond number from none n d h = refl
none-beyond number from (s then is) n d h = none_found number is d
none-beyond number from (m here is) n d h = none_found number is d
none-beyond number from (define f words body is) n d h =
    let own = n.0 in
    rw (ne_eqb number f (λ e. omega arith)) (none-beyond number (suc from) is n.1 d (omega arith))

module _ (rows : List ℤ) (table : FunctionTable rows) where
  whole : Whole rows
  whole = sym table.tree.whole

  pub root : is_definition rows 0 ≡ false
  root = block-undefined rows 0 table.block

  list-some : (l : ℕ) → 0 < l → list_at rows l ≡ items_at rows l
  list-some zero p = absurd (omega arith)
  list-some (suc l) p = refl

  linked-inside : (row field : ℕ) → row < row_count rows → field < 6 → link rows row field < row_count rows
  linked-inside row field n h = part-inside rows table.tree row field (link rows row field) n h refl

  -- ---- behind a row that is no definition stands none

  module _ (row : ℕ) (n : row < row_count rows) (other : is_definition rows row ≡ false)
      (rest : (l : ℕ) → row < l → l < row_count rows → is_definition rows l ≡ false → function_count (items_at rows l) ≡ 0) where
    following : {kind : Kind} → kind_at rows row ≡ kind → is_link (sort_in kind 5) ≡ true → function_count (later none row (items_at rows) (number_at rows row 5)) ≡ 0
    unfolding function_count
    following k e =
        by_cases (ltb row (number_at rows row 5))
        (λ l. let later = ltb-true row (number_at rows row 5) l in
        let f = followed rows table.tree row n k 5 (rw e) (omega arith) in
        rw l (rest (number_at rows row 5) later (rw (← f.same) f.leads.inside)
        (rw (← f.same) (next-other rows table.tree root table.well_called.in_order row n other))))
        (λ l. rw l)

    none-by : (kind : Kind) → kind_at rows row ≡ kind → function_count (items_at rows row) ≡ 0
    unfolding items_of function_count sort_in kind_row expression_fields statement_fields mark_fields definition_fields member_fields is_link
    none-by (OfExpression kind) k = rw (items-at rows whole row, k, table.links.lone row n (rw k), le-ltb row 0 (omega arith))
    none-by (OfStatement kind) k = rw (items-at rows whole row, k) (following k refl)
    none-by (OfMark Case) k = rw (items-at rows whole row, k) (following k refl)
    none-by (OfMark Default) k = rw (items-at rows whole row, k) (following k refl)
    none-by (OfMark Label) k = rw (items-at rows whole row, k) (following k refl)
    none-by (OfMember Arm) k = rw (items-at rows whole row, k) (following k refl)
    none-by (OfMember Argument) k = rw (items-at rows whole row, k) (following k refl)
    none-by Definition k = absurd (true≢false (sym (kind-definition rows row k) ∙ other))
    none-by Other k = rw (items-at rows whole row, k)

  none_from : (links row : ℕ) → row_count rows ≤ row + links → row < row_count rows → is_definition rows row ≡ false → function_count (items_at rows row) ≡ 0
  none_from zero row h n other = absurd (omega arith)
  none_from (suc links) row h n other = none-by row n other (λ l b m o. none_from links l (omega arith) m o) (kind_at rows row) refl

  none-listed : (l : ℕ) → l < row_count rows → is_definition rows l ≡ false → function_count (list_at rows l) ≡ 0
  unfolding function_count
  none-listed zero n other = refl
  none-listed (suc l) n other = none_from (row_count rows) (suc l) (omega arith) n other

  -- ---- a definition at the front

  module _ {row place : ℕ} (f : InFront rows row place) where
    own-kind : kind_at rows row ≡ Definition
    own-kind = definition-kind rows row (front-defines rows f)

    pub front-links : (field : ℕ) → is_link (sort_in Definition field) ≡ true → link rows row field ≡ number_at rows row field
    front-links field e = link-same rows table.tree row (front-inside rows f) own-kind field e

    forward : (field : ℕ) → field < 6 → is_link (sort_in Definition field) ≡ true → Forward row (number_at rows row field)
    forward field h e p = rw (← front-links field e) (table.tree.forward row field (front-inside rows f) h (rw (front-links field e) p)).later

    pub front-list : list_at rows row ≡ define place (parameter_list_at rows (link rows row 2)) (block_items (statement_at rows (link rows row 3))) (list_at rows (link rows row 5))
    unfolding sort_in kind_row definition_fields is_link
    front-list =
        let later = front-later rows f in
        let there = table.links.body_there row (front-inside rows f) own-kind in
        rw (← front-number rows table.tree root table.well_called.in_order f, front-links 2 refl, front-links 3 refl, front-links 5 refl)
        (list-some row (omega arith)
        ∙ at-definition rows whole row own-kind (forward 2 (omega arith) refl) (forward 3 (omega arith) refl there) (forward 5 (omega arith) refl))

    pub front-count : function_count (list_at rows row) ≡ suc (function_count (list_at rows (link rows row 5)))
    unfolding function_count
    front-count = rw front-list

    pub front-own : function_of place (list_at rows row) ≡ record { parameters = parameter_list_at rows (link rows row 2); body = block_items (statement_at rows (link rows row 3)) }
    unfolding function_of
    front-own = rw (front-list, eq-eqb place place refl)

    pub front-other : (number : ℕ) → (number ≡ place → ⊥) → function_of number (list_at rows row) ≡ function_of number (list_at rows (link rows row 5))
    unfolding function_of
    front-other number other = rw (front-list, ne_eqb number place other)

  -- ---- the list of the program

  pub program-list : contents rows ≡ list_at rows (link rows 0 1)
  unfolding contents sort_in kind_row statement_fields is_link
  program-list = rw (link-same rows table.tree 0 table.tree.some_rows (block-kind rows 0 table.block) 1 refl)

  -- What is shown of the list from a place on.
  record Ordered (place row : ℕ) : Type 0 where
    numbered : Numbered place (list_at rows row)
    first : DefinitionsFirst (list_at rows row)

  plain-order : (place row : ℕ) → row < row_count rows → is_definition rows row ≡ false → Ordered place row
  plain-order place row n other =
      let empty = none-listed row n other in
      record { numbered = none-numbered place (list_at rows row) empty; first = none_first (list_at rows row) empty }

  front-order : (links : ℕ) {row place : ℕ} → row_count rows ≤ row + links → InFront rows row place → Ordered place row
  unfolding Numbered DefinitionsFirst
  front-order zero h f = let n = front-inside rows f in absurd (omega arith)
  front-order (suc links) {row} {place} h f =
      let rest : Ordered (suc place) (link rows row 5) =
      by_cases (is_definition rows (link rows row 5))
      (λ d. let leads = definition-leads rows table.tree root row 5 (front-inside rows f) (omega arith) d in
      let l = leads.later in
      rw (add-one place) at (front-order links (omega arith) (behind f leads d)))
      (plain-order (suc place) (link rows row 5) (linked-inside row 5 (front-inside rows f) (omega arith))) in
      record { numbered = rw (front-list f) (refl, rest.numbered); first = rw (front-list f) rest.first }

  program-order : Ordered 0 (link rows 0 1)
  program-order =
      by_cases (is_definition rows (link rows 0 1))
      (λ d. front-order (row_count rows) (omega arith) (foremost (definition-leads rows table.tree root 0 1 table.tree.some_rows (omega arith) d) d))
      (plain-order 0 (link rows 0 1) (linked-inside 0 1 table.tree.some_rows (omega arith)))

  pub program-numbered : Numbered 0 (contents rows)
  program-numbered = rw program-list program-order.numbered

  pub program-first : DefinitionsFirst (contents rows)
  program-first = rw program-list program-order.first

  -- ---- functions by their places

  front_same : {row place : ℕ} → InFront rows row place → (number : ℕ) → place ≤ number → function_of number (contents rows) ≡ function_of number (list_at rows row)
  front_same (foremost leads d) number h = ap (function_of number) program-list
  front_same (behind {row} {place} f leads d) number h = front_same f number (omega arith) ∙ front-other f number (λ e. omega arith)

  count_same : {row place : ℕ} → InFront rows row place → function_count (contents rows) ≡ place + function_count (list_at rows row)
  count_same (foremost leads d) = let all = ap function_count program-list in omega arith
  count_same (behind {row} {place} f leads d) = let before = count_same f in let own = front-count f in omega arith

  pub function-own : {row place : ℕ} → InFront rows row place
      → function_of place (contents rows) ≡ record { parameters = parameter_list_at rows (link rows row 2); body = block_items (statement_at rows (link rows row 3)) }
  function-own {row} {place} f = front_same f place (omega arith) ∙ front-own f

  pub function-below : {row place : ℕ} → InFront rows row place → place < function_count (contents rows)
  function-below f = let all = count_same f in let own = front-count f in omega arith

  -- The definition of a function of the program.
  pub record Defined (number : ℕ) : Type 0 where
    pub definition : ℕ
    pub front : InFront rows definition number

  defined-from : (more : ℕ) {row place : ℕ} → InFront rows row place → more < function_count (list_at rows row) → Defined (place + more)
  defined-from zero {row} {place} f h = let z : place + 0 ≡ place = omega arith in rw z (record { definition = row; front = f })
  defined-from (suc more) {row} {place} f h =
      by_cases (is_definition rows (link rows row 5))
      (λ d. let leads = definition-leads rows table.tree root row 5 (front-inside rows f) (omega arith) d in
      let on : place + 1 + more ≡ place + suc more = omega arith in
      let own = front-count f in
      rw on at (defined-from more (behind f leads d) (omega arith)))
      (λ d. absurd (let own = front-count f in let empty = none-listed (link rows row 5) (linked-inside row 5 (front-inside rows f) (omega arith)) d in omega arith))

  pub function-defined : (number : ℕ) → number < function_count (contents rows) → Defined number
  function-defined number h =
      by_cases (is_definition rows (link rows 0 1))
      (λ d. let leads = definition-leads rows table.tree root 0 1 table.tree.some_rows (omega arith) d in
      let z : 0 + number ≡ number = omega arith in
      rw z at (defined-from number (foremost leads d) (rw program-list at h)))
      (λ d. absurd (let empty = none-listed (link rows 0 1) (linked-inside 0 1 table.tree.some_rows (omega arith)) d in let all = ap function_count program-list in omega arith))
