-- Places: in the tree of a legal source program break, continue, case, default and return stand where they may, and definitions at the front. A row
-- has one owner, so what a row stands inside of is what its owner is or stands inside of. By recursion on the rows.
use Rattle.std.specs.Prelude.{◌≡◌, Bool, List, ◌⊎◌, ℕ, ◌+◌, ◌*◌, ◌<◌, eqb, ℤ}
use Rattle.std.proofs.Math.Path.{refl}
use Rattle.std.proofs.Common.{sym, ap, ◌∙◌, subst, true≢false, inl, inr, arith}
use Rattle.std.proofs.Math.Bool.{true, false}
use Rattle.std.proofs.Math.Logic.{⊎_elim}
use Rattle.words.specs.Table.{row_count, number_at}
use Rattle.words.specs.Kinds.{kind_at, statement_row, arm_row, between, stands_in, in_language, sort_in, kind_row, expression_fields, statement_fields, mark_fields, definition_fields, member_fields}
use Rattle.words.specs.declared.Form.TheVariants.{Source}
use Rattle.words.specs.declared.Kind.{Kind}
use Rattle.words.specs.declared.Kind.TheVariants.{OfStatement, Definition}
use Rattle.words.specs.declared.StatementKind.TheVariants.{Block, Switch, Return}
use Rattle.language.specs.Trees.{Items, none, ◌then◌, ◌here◌, define}
use Rattle.language.specs.Decode.{statement_at, decode, list_at, arm_list_at}
use Rattle.language.specs.Program.{contents}
use Rattle.language.specs.WellFormed.{Placed, PlacedArms, PlacedItems, PlacedProgram}
use Rattle.words.specs.Links.{link}
use Rattle.check_structure.specs.StructuredLaws.{structured-tree}
use Rattle.check_fields.specs.declared.Bounds.{Bounds}
use Rattle.check_structure.specs.Structured.{Leads, Structured, Tree}
use Rattle.words_roles.specs.Roles.{is_definition}
use Rattle.check_function_causes.specs.Functions.{is_return}
use Rattle.check_function_causes.specs.Demands.{Within, function_part, function_along, DefinedInOrder}
use Rattle.check_function_causes.proofs.FrontLaws.{block-undefined}
use Rattle.accepted_calls.specs.Kinds.{kind-definition}
use Rattle.accepted_calls.specs.Owners.{same-owner, part-other, next-other}
use Rattle.check_items.specs.Items.{ListItem, first, next}
use Rattle.check_places.specs.Places.{is_loop, is_loop_or_switch, is_mark}
use Rattle.check_source.specs.Legal.{Inside, part, along, SwitchItem, PlacedRow}
use Rattle.accepted.specs.Sorts.{between-true, statement_number, number_is, in-language}
use Rattle.accepted.proofs.Fields.{leads-on}
use Rattle.accepted.proofs.DefinitionLists.{by-definitions}
use Rattle.accepted.proofs.Statements.{StatementRow, empty-row, express-row, block-row, if_then-row, if_else-row, while-row, do_while-row, for-row, switch-row, case_row, default_row, break-row, continue-row, goto-row, label-row, guarded_if-row, guarded_do-row, abort-row, declare-row, return-row, definition-row, ArmsRow, no-arms, arm-row, ListRow, no_items, item, case-item, default-item, label-item, definition-item, root-inside, program-list, program-contents}

-- A program without definitions.
without-definitions : (program : Items) → PlacedItems false false false false program → PlacedProgram program
unfolding PlacedItems PlacedProgram
without-definitions none h = h
without-definitions (s then is) h = h
without-definitions (m here is) h = h
without-definitions (define f words body is) h = absurd h

-- ---- what stands around a row, by its one owner

module _ (rows : List ℤ) (t : Tree rows) where
  -- what a linked row stands inside of: its owner, or what that stands inside of
  inside-from : (kinds : ℕ → Bool) (l row field : ℕ) → Inside rows kinds l → l ≡ link rows row field → field < 6 → Leads rows row field
      → ((field < 5) × (kinds (number_at rows row 0) ≡ true)) ⊎ Inside rows kinds row
  inside-from kinds _ row field (part {row = other} {field = there} h m k) e f l =
      let same = same-owner rows t other there row field (omega arith) f m l e in
      inl (omega arith, subst (λ r. kinds (number_at rows r 0) ≡ true) same.0 k)
  inside-from kinds _ row field (along {row = other} {field = there} h m i) e f l = inr (subst (Inside rows kinds) (same-owner rows t other there row field h f m l e).0 i)

  -- row 0 stands inside nothing
  outermost : (kinds : ℕ → Bool) (l : ℕ) → Inside rows kinds l → l ≡ 0 → ⊥
  outermost kinds _ (part h m k) e = let later = m.later in omega arith
  outermost kinds _ (along h m i) e = let later = m.later in omega arith

  -- an item of a switch's list hangs at the switch's field b, or behind one
  switch-item-from : (l row field : ℕ) → SwitchItem rows l → l ≡ link rows row field → field < 6 → Leads rows row field → (field ≡ 2) ⊎ ((field ≡ 5) × SwitchItem rows row)
  switch-item-from _ row field (first {row = other} k m) e f l = inl (sym (same-owner rows t other 2 row field (omega arith) f m l e).1)
  switch-item-from _ row field (next {row = other} m i) e f l =
      let same = same-owner rows t other 5 row field (omega arith) f m l e in
      inr (sym same.1, subst (ListItem rows 47 2) same.0 i)

-- A row inside a function stands inside a definition.
abbrev is_definition_number : ℕ → Bool
is_definition_number number = eqb number 59

within-inside : {rows : List ℤ} {definition row : ℕ} → Within rows definition row → Inside rows is_definition_number row
unfolding is_definition
within-inside (function_part h d leads) = part h leads d
within-inside (function_along h leads w) = along h leads (within-inside w)

-- `placed` is what legality says of each row's place; `ordered`, that definitions come first.
module _ (bounds : Bounds) (rows : List ℤ) (s : Structured Source bounds rows) (placed : (row : ℕ) → row < row_count rows → PlacedRow rows row)
    (ordered : (row : ℕ) → row < row_count rows → DefinedInOrder rows row) where
  t : Tree rows
  t = structured-tree Source bounds rows s

  root : is_definition rows 0 ≡ false
  root = block-undefined rows 0 s.block

  -- What the flags of `Placed` say of a row: where it stands inside such a row, the flag is set.
  abbrev Flag : (ℕ → Bool) → Bool → ℕ → Type 0
  Flag kinds flag row = Inside rows kinds row → flag ≡ true

  -- a row hands its flag on to the row that a field links, unless it is such a row itself; next hands on whatever the row is
  handed : (kinds : ℕ → Bool) (flag : Bool) (row field : ℕ) → field < 6 → (field < 5 → kinds (number_at rows row 0) ≡ false) → Flag kinds flag row
      → Leads rows row field → Flag kinds flag (link rows row field)
  handed kinds flag row field k other f l i = ⊎_elim (λ own. absurd (true≢false (sym own.1 ∙ other own.0))) f (inside-from rows t kinds (link rows row field) row field i refl k l)

  -- "52 goto, 53 label (kernel only)"; "the kernel's new kind 57 (abort, no fields)".
  not-in-source : {row : ℕ} {kind : Kind} → row < row_count rows → kind_at rows row ≡ kind → stands_in (kind_row kind).forms Source ≡ false → ⊥
  not-in-source {row} inside k f = true≢false (sym (in-language Source rows row (s.known row inside) k) ∙ f)

  module _ (mayReturn : Bool) where
    -- What stands around a row below row 0.
    record Around (mayBreak mayContinue : Bool) (row : ℕ) : Type 0 where
      below : 0 < row
      inside : row < row_count rows
      returns : Flag is_definition_number mayReturn row
      breaks : Flag is_loop_or_switch mayBreak row
      continues : Flag is_loop mayContinue row

    -- What stands around an item that is no definition, and whether its list is a switch's own.
    record AroundItem (inSwitch mayBreak mayContinue : Bool) (row : ℕ) : Type 0 where
      around : Around mayBreak mayContinue row
      plain : is_definition rows row ≡ false
      own : SwitchItem rows row → inSwitch ≡ true

    -- what a row that is no definition hands on
    returns-on : {row : ℕ} {kind : Kind} {mayBreak mayContinue : Bool} → kind_at rows row ≡ kind → between statement_row arm_row (sort_in kind 0) ≡ true
        → is_definition_number (statement_number kind) ≡ false → Around mayBreak mayContinue row → (field : ℕ) → field < 6 → Leads rows row field → Flag is_definition_number mayReturn (link rows row field)
    returns-on {row} k e w around field h l = handed is_definition_number mayReturn row field h (λ f. rw (number_is rows row k e) w) around.returns l

    -- the parts of a row that is no loop, no switch and no definition
    through : {row : ℕ} {kind : Kind} {mayBreak mayContinue : Bool} → kind_at rows row ≡ kind → between statement_row arm_row (sort_in kind 0) ≡ true
        → is_loop_or_switch (statement_number kind) ≡ false → is_loop (statement_number kind) ≡ false → is_definition_number (statement_number kind) ≡ false
        → Around mayBreak mayContinue row → (field : ℕ) → field < 6 → Leads rows row field → Around mayBreak mayContinue (link rows row field)
    through {row} k e u v w around field h l =
        let number = number_is rows row k e in
        let later = l.later in
        record {
          below = omega arith;
          inside = l.inside;
          returns = returns-on k e w around field h l;
          breaks = handed is_loop_or_switch _ row field h (λ f. rw number u) around.breaks l;
          continues = handed is_loop _ row field h (λ f. rw number v) around.continues l;
        }

    -- the body of a loop
    looping : {row : ℕ} {kind : Kind} {mayBreak mayContinue : Bool} → kind_at rows row ≡ kind → between statement_row arm_row (sort_in kind 0) ≡ true → is_definition_number (statement_number kind) ≡ false
        → Around mayBreak mayContinue row → (field : ℕ) → field < 6 → Leads rows row field → Around true true (link rows row field)
    looping k e w around field h l =
        let later = l.later in
        record { below = omega arith; inside = l.inside; returns = returns-on k e w around field h l; breaks = λ i. refl; continues = λ i. refl }

    -- the first item of a block
    first-item : {row : ℕ} {mayBreak mayContinue : Bool} → kind_at rows row ≡ OfStatement Block → Around mayBreak mayContinue row → 0 < link rows row 1 → AroundItem false mayBreak mayContinue (link rows row 1)
    unfolding sort_in kind_row expression_fields statement_fields mark_fields definition_fields member_fields statement_number
    first-item {row} k around p =
        let l = leads-on Source bounds rows s _ around.inside 1 refl p in
        record {
          around = through k refl refl refl refl around 1 (omega arith) l;
          plain = part-other rows t root ordered row 1 (omega arith) (λ z. let some = around.below in omega (arith, some, z.0)) l;
          own = λ i. ⊎_elim (λ e. absurd (omega arith)) (λ e. absurd (omega (arith, e.0))) (switch-item-from rows t (link rows row 1) row 1 i refl (omega arith) l);
        }

    -- the first item of a switch
    first-in-switch : {row : ℕ} {mayBreak mayContinue : Bool} → kind_at rows row ≡ OfStatement Switch → Around mayBreak mayContinue row → 0 < link rows row 2 → AroundItem true true mayContinue (link rows row 2)
    unfolding sort_in kind_row expression_fields statement_fields mark_fields definition_fields member_fields statement_number
    first-in-switch {row} k around p =
        let l = leads-on Source bounds rows s _ around.inside 2 refl p in
        record {
          around = record {
            below = (let later = l.later in omega arith);
            inside = l.inside;
            returns = returns-on k refl refl around 2 (omega arith) l;
            breaks = λ i. refl;
            continues = handed is_loop _ row 2 (omega arith) (λ f. rw (number_is rows row k refl)) around.continues l;
          };
          plain = part-other rows t root ordered row 2 (omega arith) (λ z. omega (arith, z.1)) l;
          own = λ i. refl;
        }

    -- the next row of a list
    next-around : {row : ℕ} {mayBreak mayContinue : Bool} → Around mayBreak mayContinue row → Leads rows row 5 → Around mayBreak mayContinue (link rows row 5)
    next-around {row} around l = record {
      below = (let later = l.later in omega arith);
      inside = l.inside;
      returns = handed is_definition_number mayReturn row 5 (omega arith) (λ f. absurd (omega arith)) around.returns l;
      breaks = handed is_loop_or_switch _ row 5 (omega arith) (λ f. absurd (omega arith)) around.breaks l;
      continues = handed is_loop _ row 5 (omega arith) (λ f. absurd (omega arith)) around.continues l;
    }

    -- the next item
    next-item : {row : ℕ} {inSwitch mayBreak mayContinue : Bool} → AroundItem inSwitch mayBreak mayContinue row → 0 < link rows row 5 → AroundItem inSwitch mayBreak mayContinue (link rows row 5)
    next-item {row} a p =
        let around = a.around in
        let l = leads-on Source bounds rows s _ around.inside 5 refl p in
        record {
          around = next-around around l;
          plain = next-other rows t root ordered row around.inside a.plain;
          own = λ i. ⊎_elim (λ e. absurd (omega arith)) (λ e. a.own e.1) (switch-item-from rows t (link rows row 5) row 5 i refl (omega arith) l);
        }

    -- a case or default
    mark-allowed : {row : ℕ} {kind : Kind} {inSwitch mayBreak mayContinue : Bool} → AroundItem inSwitch mayBreak mayContinue row → kind_at rows row ≡ kind → between statement_row arm_row (sort_in kind 0) ≡ true → is_mark (statement_number kind) ≡ true → inSwitch ≡ true
    mark-allowed {row} a k e m = let inside = a.around.inside in a.own ((placed row inside).mark_inside (rw (number_is rows row k e) m))

    -- the same of a link that may be absent
    through-any : {row : ℕ} {kind : Kind} {mayBreak mayContinue : Bool} → kind_at rows row ≡ kind → between statement_row arm_row (sort_in kind 0) ≡ true
        → is_loop_or_switch (statement_number kind) ≡ false → is_loop (statement_number kind) ≡ false → is_definition_number (statement_number kind) ≡ false
        → Around mayBreak mayContinue row → (field : ℕ) → between 1 5 field ≡ true → 0 < link rows row field → Around mayBreak mayContinue (link rows row field)
    through-any {row} k e u v w around field t p =
        let range = between-true 1 5 field t in
        through k e u v w around field (omega arith) (leads-on Source bounds rows s row around.inside field t p)

    -- a return
    return-allowed : {row : ℕ} {mayBreak mayContinue : Bool} → Around mayBreak mayContinue row → kind_at rows row ≡ OfStatement Return → mayReturn ≡ true
    unfolding is_return sort_in kind_row expression_fields statement_fields mark_fields definition_fields member_fields statement_number
    return-allowed {row} a k = a.returns (within-inside ((placed row a.inside).return_inside (rw (number_is rows row k refl))).within)

    mutual
      unfolding Placed PlacedArms PlacedItems sort_in kind_row expression_fields statement_fields mark_fields definition_fields member_fields statement_number in_language

      placed-statement : {row : ℕ} → StatementRow rows row → (mayBreak mayContinue : Bool) → Around mayBreak mayContinue row → Placed mayReturn mayBreak mayContinue (statement_at rows row)
      placed-statement (empty-row k e) b c a = rw e tt
      placed-statement (express-row k p e x) b c a = rw e tt
      placed-statement (block-row k e x) b c a = rw e (placed-list x false b c (first-item k a))
      placed-statement (if_then-row k p q z e x y) b c a = rw e (placed-statement y b c (through k refl refl refl refl a 2 (omega arith) q))
      placed-statement (if_else-row k p q r e x y z) b c a =
          rw e (placed-statement y b c (through k refl refl refl refl a 2 (omega arith) q), placed-statement z b c (through k refl refl refl refl a 3 (omega arith) r))
      placed-statement (while-row k p q e x y) b c a = rw e (placed-statement y true true (looping k refl refl a 2 (omega arith) q))
      placed-statement (do_while-row k p q e x y) b c a = rw e (placed-statement x true true (looping k refl refl a 1 (omega arith) p))
      placed-statement (for-row k p e x y z w) b c a = rw e (placed-statement w true true (looping k refl refl a 4 (omega arith) p))
      placed-statement (switch-row k p e x y) b c a = rw e (placed-list y true true c (first-in-switch k a))
      placed-statement (case_row k e) b c a = rw e tt
      placed-statement (default_row k e) b c a = rw e tt
      placed-statement {row} (break-row k e) b c a = rw e (a.breaks ((placed row a.inside).break_inside (number_is rows row k refl)))
      placed-statement {row} (continue-row k e) b c a = rw e (a.continues ((placed row a.inside).continue_inside (number_is rows row k refl)))
      placed-statement (goto-row k e) b c a = absurd (not-in-source a.inside k refl)
      placed-statement (label-row k e) b c a = rw e tt
      placed-statement (guarded_if-row k e x) b c a = rw e (placed-arms x b c (through-any k refl refl refl refl a 1 refl))
      placed-statement (guarded_do-row k e x) b c a = rw e (placed-arms x b c (through-any k refl refl refl refl a 1 refl))
      placed-statement (abort-row k e) b c a = absurd (not-in-source a.inside k refl)
      placed-statement (declare-row k p e x) b c a = rw e tt
      placed-statement (return-row k e x) b c a = rw e (return-allowed a k)
      placed-statement (definition-row k e) b c a = rw e tt

      -- what stands around a guarded statement stands around its arms' blocks
      placed-arms : {l : ℕ} → ArmsRow rows l → (mayBreak mayContinue : Bool) → (0 < l → Around mayBreak mayContinue l) → PlacedArms mayReturn mayBreak mayContinue (arm_list_at rows l)
      placed-arms (no-arms z e) b c a = rw e tt
      placed-arms (arm-row p k q r e x y z) b c a =
          rw e (placed-statement y b c (through k refl refl refl refl (a p) 2 (omega arith) r), placed-arms z b c (through-any k refl refl refl refl (a p) 5 refl))

      placed-list : {l : ℕ} → ListRow rows l → (inSwitch mayBreak mayContinue : Bool) → (0 < l → AroundItem inSwitch mayBreak mayContinue l) → PlacedItems mayReturn inSwitch mayBreak mayContinue (list_at rows l)
      placed-list (no_items z e) w b c a = rw e tt
      placed-list (item p e x y) w b c a = rw e (placed-statement x b c (a p).around, placed-list y w b c (next-item (a p)))
      placed-list (case-item p k e x y) w b c a = rw e (mark-allowed (a p) k refl refl, placed-list y w b c (next-item (a p)))
      placed-list (default-item p k e x y) w b c a = rw e (mark-allowed (a p) k refl refl, placed-list y w b c (next-item (a p)))
      placed-list (label-item p k e x y) w b c a = absurd (not-in-source (a p).around.inside k refl)
      placed-list {l} (definition-item p k q r i e x y z) w b c a = absurd (true≢false (sym (kind-definition rows l k) ∙ (a p).plain))

  -- ---- the program

  -- A row of row 0's list: nothing stands around it.
  record Outer (l : ℕ) : Type 0 where
    around : Around false false false l
    free : SwitchItem rows l → ⊥

  outer-next : {l : ℕ} → Outer l → 0 < link rows l 5 → Outer (link rows l 5)
  outer-next {l} o p =
      let leads = leads-on Source bounds rows s l o.around.inside 5 refl p in
      record {
        around = next-around false o.around leads;
        free = λ i. ⊎_elim (λ e. omega arith) (λ e. o.free e.1) (switch-item-from rows t (link rows l 5) l 5 i refl (omega arith) leads);
      }

  outer-first : 0 < link rows 0 1 → Outer (link rows 0 1)
  outer-first p =
      let leads = leads-on Source bounds rows s 0 (root-inside Source bounds rows s) 1 refl p in
      record {
        around = record {
          below = p;
          inside = leads.inside;
          returns = handed is_definition_number false 0 1 (omega arith) (λ f. rw s.block) (λ i. absurd (outermost rows t is_definition_number 0 i refl)) leads;
          breaks = handed is_loop_or_switch false 0 1 (omega arith) (λ f. rw s.block) (λ i. absurd (outermost rows t is_loop_or_switch 0 i refl)) leads;
          continues = handed is_loop false 0 1 (omega arith) (λ f. rw s.block) (λ i. absurd (outermost rows t is_loop 0 i refl)) leads;
        };
        free = λ i. ⊎_elim (λ e. omega arith) (λ e. omega (arith, e.0)) (switch-item-from rows t (link rows 0 1) 0 1 i refl (omega arith) leads);
      }

  -- the items of a function's block: nothing stands around them but the definition, so that a return may stand there
  placed-body : {l : ℕ} → kind_at rows l ≡ Definition → Leads rows l 3 → kind_at rows (link rows l 3) ≡ OfStatement Block → Around false false false l → ListRow rows (link rows (link rows l 3) 1)
      → PlacedItems true false false false (list_at rows (link rows (link rows l 3) 1))
  unfolding sort_in kind_row expression_fields statement_fields mark_fields definition_fields member_fields statement_number
  placed-body {l} k q b a x =
      placed-list true x false false false
      (first-item true b
      (record {
        below = (let later = q.later in omega arith);
        inside = q.inside;
        returns = λ i. refl;
        breaks = handed is_loop_or_switch false l 3 (omega arith) (λ f. rw (number_is rows l k refl)) a.breaks q;
        continues = handed is_loop false l 3 (omega arith) (λ f. rw (number_is rows l k refl)) a.continues q;
      }))

  -- the items behind the definitions
  placed-rest : {l : ℕ} → ListRow rows l → (0 < l → Outer l) → (0 < l → is_definition rows l ≡ false) → PlacedProgram (list_at rows l)
  placed-rest {l} x o other =
      without-definitions (list_at rows l)
      (placed-list false x false false false (λ p. record { around = (o p).around; plain = other p; own = λ i. absurd ((o p).free i) }))

  placed-program : {l : ℕ} → ListRow rows l → (0 < l → Outer l) → PlacedProgram (list_at rows l)
  unfolding PlacedProgram
  placed-program x o =
      by-definitions Source bounds rows s (λ (l : ℕ). (0 < l → Outer l) → PlacedProgram (list_at rows l))
      (λ l p k q r y e rest o. rw e (placed-body k q r (o p).around y, rest (outer-next (o p))))
      (λ l x other o. placed-rest x o other) x (λ p. (o p).around.inside) o

  -- nothing stands around the program
  pub placed-contents : PlacedProgram (contents rows)
  placed-contents = rw (program-contents Source bounds rows s) (placed-program (program-list Source bounds rows s) outer-first)
