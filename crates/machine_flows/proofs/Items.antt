-- Items: the items of a list by the rows that hold them: the item at a row, the list behind it, and the search for a mark.
use Rattle.std.proofs.Common.{◌⊎◌, inl, inr}
use mathlib.Core.Path.{◌≡◌, refl, sym, ap, ◌∙◌}
use mathlib.Core.Bool.{Bool, true, false, ◌||◌}
use mathlib.Core.List.{List, []}
use Prim.Native.Nat.{ℕ, zero, suc, ◌+◌, ◌*◌, ◌-◌, ◌^◌, ◌<◌, ◌≤◌}
use native.Mathlib.Omega.{arith}
use borrow.Author.Tests.{lt-ltb, le-ltb, eqb-true, eqb-false}
use lib.Dec.{eqb}
use lib.IntN.{ℤ}
use lib.Signed.{mag}
use lib.ListN.{length}
use Rattle.words.specs.Word.{natural, pick}
use Rattle.words.specs.Table.{row_count, word_at, number_at}
use Rattle.words.specs.Kinds.{kinds, kind_in, kind_of, kind_at}
use Rattle.words.specs.KindLaws.{every_line, every-number, kind-numbered, mark_number, mark-number}
use Rattle.words.specs.Layout.{Layout}
use Rattle.words.specs.declared.Kind.{Kind}
use Rattle.words.specs.declared.Kind.TheVariants.{OfExpression, OfStatement, OfMark, OfMember, Definition, Other}
use Rattle.words.specs.declared.MarkKind.{MarkKind}
use Rattle.words.specs.declared.MarkKind.TheVariants.{Case, Default, Label}
use Rattle.computation.specs.Remaining.{Rest, onward, spend}
use Rattle.language.specs.Trees.{Mark, case, default, label, Statement, empty, Items, none, ◌then◌, ◌here◌, define, same_mark, has}
use Rattle.language.specs.Decode.{later, parameters_at, block_items, items_of, statement_at, items_at, Forward, list_at}
use Rattle.language.specs.DecodeLaws.{at-no-statement, at-items}
use Rattle.language.specs.SoundLaws.{behind as next-link}
use Rattle.language.specs.Meaning.{Context, Signal, next, seeking, items, exec}
use Rattle.machine_operations.specs.Rows.{context_in}
use Rattle.machine_operations.proofs.Decoding.{handed}
use Rattle.machine_flows.specs.Flows.{flow_of, return_value, ran}
use Rattle.machine_flows.specs.Lists.{marks, from, start_of, InTable, Finds, Starts, Resumes, item_of, continued}
use Rattle.machine_flows.specs.declared.Flow.{Flow}
use Rattle.machine_flows.specs.declared.Flow.TheVariants.{Next as FlowNext, Break as FlowBreak, Continue as FlowContinue, Goto as FlowGoto, Return as FlowReturn, Halted}
use Rattle.machine_flows.proofs.Answers.{ran-handed}
use Rattle.machine_flows.proofs.Enter.{list-none, list-then, list-here, list-define, past-breaking, past-continuing, past-returning, search-list}

-- whether a kind is that of definitions
abbrev pub is_definition : Kind → Bool
is_definition (OfExpression kind) = false
is_definition (OfStatement kind) = false
is_definition (OfMark kind) = false
is_definition (OfMember kind) = false
is_definition Definition = true
is_definition Other = false

-- an item is a statement, a mark or a definition
item-cases : (k : Kind) (word : ℕ → ℤ) (s : Statement) (words : List ℕ) (body : Statement) (is : Items) (P : Items → Type 0) → (k ≡ Other → P none) → (is_definition k ≡ false → P (s then is))
    → (k ≡ OfMark Case → P (case (word 1) here is)) → (k ≡ OfMark Default → P (default here is)) → (k ≡ OfMark Label → P (label (natural (word 1)) here is))
    → (k ≡ Definition → P (define (natural (word 1)) words (block_items body) is)) → P (items_of k word s words body is)
unfolding items_of
item-cases (OfExpression kind) word s words body is P o t c d l f = t refl
item-cases (OfStatement kind) word s words body is P o t c d l f = t refl
item-cases (OfMark Case) word s words body is P o t c d l f = c refl
item-cases (OfMark Default) word s words body is P o t c d l f = d refl
item-cases (OfMark Label) word s words body is P o t c d l f = l refl
item-cases (OfMember kind) word s words body is P o t c d l f = t refl
item-cases Definition word s words body is P o t c d l f = f refl
item-cases Other word s words body is P o t c d l f = o refl

-- a definition's number is 59, and no other kind's
own_definition : ℕ → Kind → Bool
own_definition number kind = pick (is_definition kind) (eqb number 59) true

pub definition-test : (rows : List ℤ) (row : ℕ) (t : Bool) → is_definition (kind_at rows row) ≡ t → eqb (number_at rows row 0) 59 ≡ t
unfolding every_line kinds kind_in kind_of kind_at own_definition
definition-test rows row true e = rw e at (every-number own_definition refl (λ n. refl) (number_at rows row 0))
definition-test rows row false e = by (eqb (number_at rows row 0) 59) refl
  where
    by : (t : Bool) → eqb (number_at rows row 0) 59 ≡ t → t ≡ false
    by true q = sym (ap is_definition (kind-numbered rows row refl 59 (eqb-true (number_at rows row 0) 59 q))) ∙ e
    by false q = refl

module _ {rows : List ℤ} {row : ℕ} (item : InTable rows row) where
  abbrev whole : length rows ≡ 6 * row_count rows
  whole = item.sound.whole

  abbrev behind : ℕ
  behind = number_at rows row 5

  -- the link to the next item
  pub next-later : Forward row behind
  next-later h = (next-link item.sound item.below h).later

  pub next-below : behind < row_count rows
  next-below = by behind (λ h. (next-link item.sound item.below h).inside)
    where
      by : (l : ℕ) → (0 < l → l < row_count rows) → l < row_count rows
      by zero f = item.sound.some_rows
      by (suc l) f = f (omega arith)

  pub next-asks : (6 * row + 5 < length rows) × (behind < 2147483648)
  next-asks = (omega (arith, item.sound.whole, item.below), omega (arith, next-below, item.few_rows))

  -- as the code has it
  pub next_is : {r : ℕ} → r ≡ behind → (r < row_count rows) × (0 < r → row < r)
  next_is e = rw e (next-below, next-later)

  pub known-kind : kind_at rows row ≡ Other → ⊥
  known-kind e = item.sound.known row item.below e

  pub at_row : {r : ℕ} → r < row_count rows → InTable rows r
  at_row h = record { layout = item.layout; words = item.words; sound = item.sound; few_rows = item.few_rows; below = h }

  abbrev words_here : List ℕ
  words_here = later [] row (parameters_at rows) (number_at rows row 2)

  abbrev block_here : Statement
  block_here = later empty row (statement_at rows) (number_at rows row 3)

  items-here : items_at rows row ≡ items_of (kind_at rows row) (word_at rows row) (statement_at rows row) words_here block_here (list_at rows behind)
  items-here = at-items rows whole row next-later

  pub by-item : (P : Items → Type 0) → (is_definition (kind_at rows row) ≡ false → P (statement_at rows row then list_at rows behind))
      → (kind_at rows row ≡ OfMark Case → P (case (word_at rows row 1) here list_at rows behind)) → (kind_at rows row ≡ OfMark Default → P (default here list_at rows behind))
      → (kind_at rows row ≡ OfMark Label → P (label (natural (word_at rows row 1)) here list_at rows behind))
      → (kind_at rows row ≡ Definition → P (define (natural (word_at rows row 1)) words_here (block_items block_here) (list_at rows behind))) → P (items_at rows row)
  by-item P t c d l f =
      rw items-here (item-cases (kind_at rows row) (word_at rows row) (statement_at rows row) words_here block_here (list_at rows behind) P (λ e. absurd (known-kind e)) t c d l f)

  -- ---- the item at the row is run, and then the list behind it

  pub run-item : (C : Context) (n : ℕ) (s : List ℤ)
      → spend (items C (items_at rows row) next) n s ≡ onward (spend (item_of C rows row) n s) (λ signal n s. spend (items C (list_at rows behind) signal) n s)
  unfolding spend
  run-item C n s =
      by-item (λ i. spend (items C i next) n s ≡ onward (spend (item_of C rows row) n s) (λ signal n s. spend (items C (list_at rows behind) signal) n s))
      (λ e. list-then C _ _ n s ∙ sym (stated (definition-test rows row false e)))
      (λ e. marked _ (at-no-statement rows whole row (rw e)) (definition-test rows row false (rw e)))
      (λ e. marked _ (at-no-statement rows whole row (rw e)) (definition-test rows row false (rw e)))
      (λ e. marked _ (at-no-statement rows whole row (rw e)) (definition-test rows row false (rw e)))
      (λ e. list-define C _ _ _ (list_at rows behind) n s ∙ sym (defined (definition-test rows row true (rw e))))
    where
      stated : eqb (number_at rows row 0) 59 ≡ false
          → onward (spend (item_of C rows row) n s) (λ signal n s. spend (items C (list_at rows behind) signal) n s) ≡ onward (spend (exec C (statement_at rows row)) n s) (λ signal n s. spend (items C (list_at rows behind) signal) n s)
      stated t = rw t

      defined : eqb (number_at rows row 0) 59 ≡ true → onward (spend (item_of C rows row) n s) (λ signal n s. spend (items C (list_at rows behind) signal) n s) ≡ spend (items C (list_at rows behind) next) n s
      defined t = rw t

      marked : (m : Mark) → statement_at rows row ≡ empty → eqb (number_at rows row 0) 59 ≡ false
          → spend (items C (m here list_at rows behind) next) n s ≡ onward (spend (item_of C rows row) n s) (λ signal n s. spend (items C (list_at rows behind) signal) n s)
      marked m e t = list-here C m (list_at rows behind) n s ∙ sym (stated t ∙ rw e)

  -- ---- the search for a mark

  module _ (m : Mark) where
    from-item : from m (items_at rows row) ≡ pick (marks m (items_at rows row)) (items_at rows row) (from m (list_at rows behind))
    unfolding from
    from-item = by-item (λ i. from m i ≡ pick (marks m i) i (from m (list_at rows behind))) (λ e. refl) (λ e. refl) (λ e. refl) (λ e. refl) (λ e. refl)

    has-item : has m (items_at rows row) ≡ (marks m (items_at rows row) || has m (list_at rows behind))
    unfolding has
    has-item = by-item (λ i. has m i ≡ (marks m i || has m (list_at rows behind))) (λ e. refl) (λ e. refl) (λ e. refl) (λ e. refl) (λ e. refl)

    pub from_found : marks m (items_at rows row) ≡ true → from m (items_at rows row) ≡ items_at rows row
    from_found e = from-item ∙ rw e

    pub from-passed : marks m (items_at rows row) ≡ false → from m (items_at rows row) ≡ from m (list_at rows behind)
    from-passed e = from-item ∙ rw e

    pub has-found : marks m (items_at rows row) ≡ true → has m (items_at rows row) ≡ true
    has-found e = has-item ∙ rw e

    pub has-passed : marks m (items_at rows row) ≡ false → has m (items_at rows row) ≡ has m (list_at rows behind)
    has-passed e = has-item ∙ rw e

  -- which mark the item is, by its kind
  module _ (v : ℤ) where
    pub case-is : kind_at rows row ≡ OfMark Case → marks (case v) (items_at rows row) ≡ same_mark (case v) (case (word_at rows row 1))
    unfolding items_of
    case-is e = ap (marks (case v)) items-here ∙ rw e

    pub case-not : (kind_at rows row ≡ OfMark Case → ⊥) → marks (case v) (items_at rows row) ≡ false
    unfolding same_mark
    case-not q = by-item (λ i. marks (case v) i ≡ false) (λ e. refl) (λ e. absurd (q e)) (λ e. refl) (λ e. refl) (λ e. refl)

  pub default_is : kind_at rows row ≡ OfMark Default → marks default (items_at rows row) ≡ true
  unfolding items_of same_mark
  default_is e = ap (marks default) items-here ∙ rw e

  pub default-not : (kind_at rows row ≡ OfMark Default → ⊥) → marks default (items_at rows row) ≡ false
  unfolding same_mark
  default-not q = by-item (λ i. marks default i ≡ false) (λ e. refl) (λ e. refl) (λ e. absurd (q e)) (λ e. refl) (λ e. refl)

  module _ (l : ℕ) where
    pub label_is : kind_at rows row ≡ OfMark Label → marks (label l) (items_at rows row) ≡ same_mark (label l) (label (number_at rows row 1))
    unfolding items_of number_at
    label_is e = ap (marks (label l)) items-here ∙ rw e

    pub label-not : (kind_at rows row ≡ OfMark Label → ⊥) → marks (label l) (items_at rows row) ≡ false
    unfolding same_mark
    label-not q = by-item (λ i. marks (label l) i ≡ false) (λ e. refl) (λ e. refl) (λ e. refl) (λ e. absurd (q e)) (λ e. refl)

-- ---- where a list goes on

module _ (rows : List ℤ) (C : Context) (answer : ℤ) (n : ℕ) (s : List ℤ) where
  -- the list at a row, after an item that ended with next
  pub continued-next : (r : ℕ) → flow_of answer ≡ FlowNext → spend (items C (list_at rows r) next) n s ≡ continued C rows r answer n s
  continued-next zero e = list-none C next n s ∙ rw e
  continued-next (suc r) e = refl

  module _ (is : Items) where
    abbrev after : Rest Signal
    after = onward (ran answer n s) (λ signal n s. spend (items C is signal) n s)

    pub after_next : flow_of answer ≡ FlowNext → after ≡ spend (items C is next) n s
    after_next e = rw e

    pub after-break : flow_of answer ≡ FlowBreak → after ≡ ran answer n s
    after-break e = rw e (past-breaking C is n s)

    pub after-continue : flow_of answer ≡ FlowContinue → after ≡ ran answer n s
    after-continue e = rw e (past-continuing C is n s)

    pub after-return : flow_of answer ≡ FlowReturn → after ≡ ran answer n s
    after-return e = rw e (past-returning C (return_value answer) is n s)

    pub after-halted : flow_of answer ≡ Halted → after ≡ ran answer n s
    after-halted e = rw e

  -- a goto looks for its label in the list behind
  pub after-goto : (first l r : ℕ) → flow_of answer ≡ FlowGoto l → Finds rows first (label l) r
      → onward (ran answer n s) (λ signal n s. spend (items C (list_at rows first) signal) n s) ≡ continued C rows r answer n s
  after-goto first l zero e f = rw e (search-list C (label l) (list_at rows first) n s ∙ rw (f.found, ← f.list, list-none C (seeking (label l)) n s))
  after-goto first l (suc r) e f = rw e (search-list C (label l) (list_at rows first) n s ∙ rw (f.found, lt-ltb 0 (suc r) (omega arith), ← f.list))

-- ---- the rows ahead in a list, none at its end

abbrev pub ahead : ℕ → ℕ → ℕ
ahead count zero = 0
ahead count (suc row) = count - row

pub ahead-falls : (count row r : ℕ) → (row ≡ 0 → ⊥) → row < count → (0 < r → row < r) → ahead count r < ahead count row
ahead-falls count zero r z h g = absurd (z refl)
ahead-falls count (suc row) zero z h g = omega arith
ahead-falls count (suc row) (suc r) z h g = let q = g (omega arith) in omega arith

-- ---- marks by their numbers

module _ (rows : List ℤ) (row : ℕ) {n : ℕ} (p : n ≡ number_at rows row 0) where
  pub number-case : n ≡ 48 → kind_at rows row ≡ OfMark Case
  unfolding kinds kind_in kind_of
  number-case e = kind-numbered rows row p 48 e

  pub number-default : n ≡ 49 → kind_at rows row ≡ OfMark Default
  unfolding kinds kind_in kind_of
  number-default e = kind-numbered rows row p 49 e

  pub number-label : n ≡ 53 → kind_at rows row ≡ OfMark Label
  unfolding kinds kind_in kind_of
  number-label e = kind-numbered rows row p 53 e

  -- another number is of another mark
  pub other-mark : (kind : MarkKind) → (n ≡ mark_number kind → ⊥) → kind_at rows row ≡ OfMark kind → ⊥
  other-mark kind other k = other (mark-number n (sym (kind-numbered rows row p n refl) ∙ k))

-- the test for a default
module _ {rows : List ℤ} {row : ℕ} (item : InTable rows row) {n : ℕ} (p : n ≡ number_at rows row 0) where
  pub default-test : eqb n 49 ≡ marks default (items_at rows row)
  default-test = by (eqb n 49) refl
    where
      by : (b : Bool) → eqb n 49 ≡ b → b ≡ marks default (items_at rows row)
      by true e = sym (default_is item (number-default rows row p (eqb-true n 49 e)))
      by false e = sym (default-not item (other-mark rows row p Default (eqb-false n 49 e)))

-- ---- what the searches give

pub list-at : (rows : List ℤ) (at : ℕ) → (at ≡ 0 → ⊥) → list_at rows at ≡ items_at rows at
list-at rows zero z = absurd (z refl)
list-at rows (suc at) z = refl

-- a search from `first` on has come to the row `at`
pub record Sought (rows : List ℤ) (first : ℕ) (m : Mark) (at : ℕ) : Type 0 where
  pub below : at < row_count rows
  pub ahead_of : 0 < at → first ≤ at
  pub from_same : from m (list_at rows first) ≡ from m (list_at rows at)
  pub has_same : has m (list_at rows first) ≡ has m (list_at rows at)

module _ {rows : List ℤ} {first : ℕ} {m : Mark} where
  pub sought-first : InTable rows first → Sought rows first m first
  sought-first item = record { below = item.below; ahead_of = λ h. omega arith; from_same = refl; has_same = refl }

  module _ {at : ℕ} (sought : Sought rows first m at) where
    module _ (item : InTable rows at) (z : at ≡ 0 → ⊥) where
      pub sought-next : marks m (items_at rows at) ≡ false → {r : ℕ} → r ≡ number_at rows at 5 → Sought rows first m r
      sought-next e {r} q = record {
        below = (next_is item q).0;
        ahead_of = λ h. omega (arith, sought.ahead_of (omega arith), (next_is item q).1 h);
        from_same = sought.from_same ∙ ap (from m) (list-at rows at z) ∙ from-passed item m e ∙ ap (λ (l : ℕ). from m (list_at rows l)) (sym q);
        has_same = sought.has_same ∙ ap (has m) (list-at rows at z) ∙ has-passed item m e ∙ ap (λ (l : ℕ). has m (list_at rows l)) (sym q);
      }

      pub finds-here : marks m (items_at rows at) ≡ true → Finds rows first m at
      finds-here e = record {
        list = list-at rows at z ∙ sym (sought.from_same ∙ ap (from m) (list-at rows at z) ∙ from_found item m e);
        found = sought.has_same ∙ ap (has m) (list-at rows at z) ∙ has-found item m e ∙ sym (lt-ltb 0 at (omega arith));
        below = sought.below;
        ahead = sought.ahead_of;
      }

    pub finds-none : at ≡ 0 → Finds rows first m at
    unfolding from has
    finds-none e = record {
      list = rw e (sym (sought.from_same ∙ rw e));
      found = sought.has_same ∙ rw e;
      below = sought.below;
      ahead = sought.ahead_of;
    }

module _ {rows : List ℤ} {first : ℕ} {v : ℤ} {r : ℕ} where
  pub starts-case : Finds rows first (case v) r → (r ≡ 0 → ⊥) → Starts rows first v r
  unfolding start_of
  starts-case f z = record { list = f.list ∙ rw (f.found, lt-ltb 0 r (omega arith)); below = f.below }

  pub starts-default : {q : ℕ} → Finds rows first (case v) q → q ≡ 0 → Finds rows first default r → Starts rows first v r
  unfolding start_of
  starts-default {q} f z g = record { list = g.list ∙ rw (f.found, le-ltb 0 q (omega arith)); below = g.below }

module _ {rows : List ℤ} {row : ℕ} (item : InTable rows row) (answer : ℤ) where
  pub resumes-next : {r : ℕ} → r ≡ number_at rows row 5 → flow_of answer ≡ FlowNext → Resumes rows row answer r
  resumes-next {r} e f = record {
    goes_on = λ L n s. let C = context_in L rows in after_next rows C answer n s _ f ∙ ap (λ (l : ℕ). spend (items C (list_at rows l) next) n s) (sym e) ∙ continued-next rows C answer n s r f;
    below = (next_is item e).0;
    ahead = (next_is item e).1;
  }

  goto-ahead : (first l r : ℕ) → first ≡ number_at rows row 5 → Finds rows first (label l) r → 0 < r → row < r
  unfolding has
  goto-ahead zero l r e g h =
      let z : false ≡ true = g.found ∙ lt-ltb 0 r h in
      let w : ◌≡◌ {A = ℕ} 0 1 = cc in
      omega arith
  goto-ahead (suc k) l r e g h = omega (arith, (next_is item e).1 (omega arith), g.ahead h)

  pub resumes-goto : {first l r : ℕ} → first ≡ number_at rows row 5 → flow_of answer ≡ FlowGoto l → Finds rows first (label l) r → Resumes rows row answer r
  resumes-goto {first} {l} {r} e f g = record {
    goes_on = λ L n s. let C = context_in L rows in ap (λ (k : ℕ). onward (ran answer n s) (λ signal n s. spend (items C (list_at rows k) signal) n s)) (sym e) ∙ after-goto rows C answer n s first l r f g;
    below = g.below;
    ahead = goto-ahead first l r e g;
  }

  resumes-none : ((L : Layout) (n : ℕ) (s : List ℤ) → onward (ran answer n s) (λ signal n s. spend (items (context_in L rows) (list_at rows (number_at rows row 5)) signal) n s) ≡ ran answer n s) → Resumes rows row answer 0
  resumes-none f = record { goes_on = f; below = item.sound.some_rows; ahead = λ h. absurd (omega arith) }

  -- a break, a continue, a return and a stop leave the list
  pub resumes-left : {f : Flow} → flow_of answer ≡ f → (f ≡ FlowBreak) ⊎ ((f ≡ FlowContinue) ⊎ ((f ≡ FlowReturn) ⊎ (f ≡ Halted))) → Resumes rows row answer 0
  resumes-left e (inl q) = resumes-none (λ L n s. after-break rows (context_in L rows) answer n s _ (e ∙ q))
  resumes-left e (inr (inl q)) = resumes-none (λ L n s. after-continue rows (context_in L rows) answer n s _ (e ∙ q))
  resumes-left e (inr (inr (inl q))) = resumes-none (λ L n s. after-return rows (context_in L rows) answer n s _ (e ∙ q))
  resumes-left e (inr (inr (inr q))) = resumes-none (λ L n s. after-halted rows (context_in L rows) answer n s _ (e ∙ q))

-- ---- the steps of a list's run

module _ (L : Layout) (rows : List ℤ) where
  abbrev C : Context
  C = context_in L rows

  pub continued-end : (at : ℕ) (answer : ℤ) (n : ℕ) (s : List ℤ) → at ≡ 0 → continued C rows at answer n s ≡ ran answer n s
  continued-end at answer n s e = rw e

  continued-at : (at : ℕ) (answer : ℤ) (n : ℕ) (s : List ℤ) → (at ≡ 0 → ⊥) → continued C rows at answer n s ≡ spend (items C (items_at rows at) next) n s
  continued-at zero answer n s z = absurd (z refl)
  continued-at (suc at) answer n s z = refl

  -- the item at the row is run, and the list goes on
  module _ {at : ℕ} (item : InTable rows at) (z : at ≡ 0 → ⊥) (answer : ℤ) (n : ℕ) (s : List ℤ) where
    pub list-step : (q : ℤ) (k : ℕ) (t : List ℤ) → mag q < 2 ^ 63 → ran q k t ≡ spend (item_of C rows at) n s → (r : ℕ) → Resumes rows at (handed q) r
        → continued C rows at answer n s ≡ continued C rows r (handed q) k t
    list-step q k t fits h r e =
        continued-at at answer n s z ∙ run-item item C n s
        ∙ ap (λ (x : Rest Signal). onward x (λ signal n s. spend (items C (list_at rows (number_at rows at 5)) signal) n s)) (sym h ∙ sym (ran-handed q k t fits)) ∙ e.goes_on L k t
