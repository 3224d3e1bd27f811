-- Labels: a label that is ahead of a row stands among the items ahead of its tree.
use Rattle.std.specs.Prelude.{◌≡◌, Bool, true, false, ◌||◌, List, ℕ, ◌<◌, ℤ}
use Rattle.std.proofs.Common.{subst, sym, ◌∙◌, true≢false, arith, eq-eqb}
use Rattle.std.proofs.Math.Path.{refl}
use Rattle.words.specs.Table.{row_count, number_at}
use Rattle.words.specs.Kinds.{kinds, kind_in, kind_of, kind_at, optional_item, is_link, sort_in, kind_row, mark_fields}
use Rattle.words.specs.declared.Form.TheVariants.{Kernel}
use Rattle.words.specs.declared.Kind.{Kind}
use Rattle.words.specs.declared.Kind.TheVariants.{OfExpression, OfStatement, OfMark, OfMember, Definition, Other}
use Rattle.words.specs.declared.MarkKind.TheVariants.{Case, Default, Label}
use Rattle.language.specs.Trees.{Mark, label, same_mark, has, Statement, Items, none, ◌⧺◌}
use Rattle.language.specs.TreeLaws.{has-next, has_left, has_right}
use Rattle.language.specs.Decode.{items_of, list_at}
use Rattle.language.specs.DecodeLaws.{at-items, at_label}
use Rattle.words.specs.Links.{is_statement, link, fits}
use Rattle.words_roles.specs.Roles.{is_parameter}
use Rattle.check_fields.specs.declared.Bounds.{Bounds}
use Rattle.check_structure.specs.Structured.{Leads, Structured}
use Rattle.check_structure.specs.Lists.{Before, adjacent, further}
use Rattle.check_structure.specs.StructuredLaws.{structured-tree}
use Rattle.check_function_causes.specs.Functions.{is_definition}
use Rattle.check_labels.specs.Ahead.{Owner, Ahead, behind, outward}
use Rattle.check_labels.specs.Ahead as legal
use Rattle.check_labels.proofs.LabelLaws.{label_inside}
use Rattle.check_labels.proofs.ListLaws.{owner-is}
use Rattle.accepted.specs.Sorts.{kind-known}
use Rattle.accepted.proofs.Fields.{may-link, item-link}
use Rattle.accepted.proofs.Expressions.{whole-rows}
use Rattle.accepted.proofs.Statements.{list-some}

-- ---- marks in a list

or_left : (a b : Bool) → a ≡ true → (a || b) ≡ true
or_left a b e = rw e

-- what stands behind a row of a known kind stands in the list from it on
has-items : (m : Mark) (kind : Kind) (word : ℕ → ℤ) (s : Statement) (words : List ℕ) (body : Statement) (is : Items) → (kind ≡ Other → ⊥) → has m is ≡ true
    → has m (items_of kind word s words body is) ≡ true
unfolding items_of has
has-items m (OfExpression kind) word s words body is known h = h
has-items m (OfStatement kind) word s words body is known h = h
has-items m (OfMark Case) word s words body is known h = has-next m _ is h
has-items m (OfMark Default) word s words body is known h = has-next m _ is h
has-items m (OfMark Label) word s words body is known h = has-next m _ is h
has-items m (OfMember kind) word s words body is known h = h
has-items m Definition word s words body is known h = h
has-items m Other word s words body is known h = absurd (known refl)

module _ (bounds : Bounds) (rows : List ℤ) (s : Structured Kernel bounds rows) where
  -- A statement that is no parameter.
  pub record Item (row : ℕ) : Type 0 where
    pub statement : is_statement rows row ≡ true
    pub other : is_parameter rows row ≡ false

  leads-inside : {row field : ℕ} → Leads rows row field → row < row_count rows
  leads-inside leads = let l = leads.later in let i = leads.inside in omega arith

  -- behind an item stand items
  next-item : (row : ℕ) → Item row → Leads rows row 5 → Item (link rows row 5)
  unfolding fits
  next-item row t leads =
      let next = item-link Kernel bounds rows s row (leads-inside leads) t.other t.statement in
      let p : 0 < link rows row 5 = (let l = leads.later in omega arith) in
      record { statement = next.fit p; other = next.other p }

  later-item : {item row : ℕ} → Item item → Before rows item row → Item row
  later-item t (adjacent {item} leads) = next-item item t leads
  later-item t (further {item} {row} b leads) = next-item row (later-item t b) leads

  -- what stands behind an item stands in the list from it on
  from-item : (m : Mark) (l : ℕ) → l < row_count rows → 0 < l → Item l → has m (list_at rows (link rows l 5)) ≡ true → has m (list_at rows l) ≡ true
  from-item m l n p t h =
      let next = item-link Kernel bounds rows s l n t.other t.statement in
      rw (list-some rows l p, at-items rows (whole-rows Kernel bounds rows s) l next.later)
      (has-items m (kind_at rows l) _ _ _ _ (list_at rows (number_at rows l 5)) (kind-known Kernel rows l (s.known l n)) (rw next.same at h))

  from-earlier : (m : Mark) {item row : ℕ} → Item item → Before rows item row → has m (list_at rows (link rows row 5)) ≡ true → has m (list_at rows (link rows item 5)) ≡ true
  from-earlier m t (adjacent {item} leads) h = from-item m (link rows item 5) leads.inside (let l = leads.later in omega arith) (next-item item t leads) h
  from-earlier m t (further {item} {row} b leads) h =
      from-earlier m t b (from-item m (link rows row 5) leads.inside (let l = leads.later in omega arith) (next-item row (later-item t b) leads) h)

  -- a label stands in the list that begins with it
  label-first : (number row : ℕ) → 0 < row → legal.Label rows number row → has (label number) (list_at rows row) ≡ true
  unfolding has same_mark kind_at kind_of kind_in kinds is_link sort_in kind_row mark_fields
  label-first number row p l =
      let inside = label_inside rows number row (structured-tree Kernel bounds rows s) l in
      let kind : kind_at rows row ≡ OfMark Label = rw l.label in
      let next = may-link Kernel bounds rows s row inside kind optional_item 5 refl refl in
      rw (list-some rows row p, at_label rows (whole-rows Kernel bounds rows s) row kind next.later) (or_left _ _ (eq-eqb _ _ (sym l.number_is)))

  behind-has : (number : ℕ) {row item : ℕ} → Item row → Before rows row item → legal.Label rows number item → has (label number) (list_at rows (link rows row 5)) ≡ true
  behind-has number t (adjacent {item} leads) l = label-first number (link rows item 5) (let later = leads.later in omega arith) l
  behind-has number t (further {item} {row} b leads) l = from-earlier (label number) t b (label-first number (link rows row 5) (let later = leads.later in omega arith) l)

  -- ---- the items ahead of a row's tree have every label that is ahead of the row

  abbrev pub Covers : Items → ℕ → Type 0
  Covers ahead row = (number : ℕ) → Ahead rows number row → has (label number) ahead ≡ true

  -- for an item of a list: those behind it, and those ahead of the list's owner
  pub covers-item : (ahead : Items) (owner row : ℕ) → Item row → Owner rows owner row → Covers ahead owner → Covers (list_at rows (link rows row 5) ⧺ ahead) row
  covers-item ahead owner row t o c number (behind b l) = has_left (label number) (list_at rows (link rows row 5)) ahead (behind-has number t b l)
  covers-item ahead owner row t o c number (outward p d a) =
      let t = structured-tree Kernel bounds rows s in
      has_right (label number) (list_at rows (link rows row 5)) ahead (c number (subst (Ahead rows number) (sym (owner-is rows t p) ∙ owner-is rows t o) a))

  -- nothing stands behind a row without a next
  none-behind : {row item : ℕ} → link rows row 5 ≡ 0 → Before rows row item → ⊥
  none-behind lone (adjacent leads) = let l = leads.later in omega arith
  none-behind lone (further b leads) = none-behind lone b

  -- for a branch or body, which has nothing behind it: those ahead of its owner
  pub covers-branch : (ahead : Items) (owner row : ℕ) → Owner rows owner row → link rows row 5 ≡ 0 → Covers ahead owner → Covers ahead row
  covers-branch ahead owner row o lone c number (behind b l) = absurd (none-behind lone b)
  covers-branch ahead owner row o lone c number (outward p d a) =
      let t = structured-tree Kernel bounds rows s in
      c number (subst (Ahead rows number) (sym (owner-is rows t p) ∙ owner-is rows t o) a)

  -- for the block of a function, which a goto does not leave: nothing
  pub covers-body : (definition row : ℕ) → Owner rows definition row → is_definition rows definition ≡ true → link rows row 5 ≡ 0 → Covers none row
  covers-body definition row o d lone number (behind b l) = absurd (none-behind lone b)
  covers-body definition row o d lone number (outward p outside a) =
      let t = structured-tree Kernel bounds rows s in
      absurd (true≢false (sym d ∙ subst (λ owner. is_definition rows owner ≡ false) (sym (owner-is rows t p) ∙ owner-is rows t o) outside))
