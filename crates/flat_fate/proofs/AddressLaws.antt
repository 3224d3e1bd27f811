-- Laws of addresses: where a label stands once, its address is found; so the code of every kernel program stands in its own list, and
-- shares its fate.
use Rattle.std.specs.Prelude.{◌≡◌, Bool, true, false, List, [], ◌∷◌, ℕ, suc, ◌+◌, ◌≤◌, ℤ, eqb}
use Rattle.std.proofs.Math.Path.{refl, subst}
use Rattle.std.proofs.Common.{sym, ◌∙◌, ap, arith, eq-eqb}
use Rattle.std.proofs.Math.ListN.{length}
use Rattle.words.specs.Word.{pick}
use Rattle.words.specs.Layout.{Layout}
use Rattle.language.specs.Trees.{label, Statement, Items, none}
use Rattle.language.specs.Calls.{ItemsCallBelow}
use Rattle.translation.specs.KernelForm.{mark_times, statement_times, items_times, KernelStatement, kernel-empty, kernel-assign, kernel-block, kernel-if, kernel-while, kernel-goto, kernel-abort, kernel-return, KernelItems, kernel-none, kernel-then, kernel-label}
use Rattle.flat.specs.Lines.{FlatLine, next_at}
use Rattle.flat_fate.specs.Stands.{StandsItems}
use Rattle.flat_fate.specs.Code.{operand_of, always, statement_lines, items_lines}
use Rattle.flat_fate.specs.Branches.{first_at, second_at, body_at}
use Rattle.flat_fate.proofs.CodeStands.{Has, items-length, Addressed, AddressedItems, items-stands}
use Rattle.flat_fate.specs.FlatFate.{FlatFate, flat-fate}
use Rattle.flat_fate.specs.Addresses.{address_in, flat_of, items_address, statement_address}

label-absent : (l k i other : ℕ) → mark_times l (label k) ≡ 0 → pick (eqb l k) i other ≡ other
label-absent l k i other h = go (eqb l k) h
  where
    go : (b : Bool) → ◌≡◌ {A = ℕ} (pick b 1 0) 0 → pick b i other ≡ other
    go true h = absurd (omega arith)
    go false h = refl

mutual
  unfolding statement_address statement_times statement_lines

  statement-absent : {mayReturn : Bool} {ahead : Items} {s : Statement} → KernelStatement mayReturn ahead s → (l i other : ℕ) → statement_times l s ≡ 0 → statement_address l s i other ≡ other
  statement-absent kernel-empty l i other h = refl
  statement-absent (kernel-assign a) l i other h = refl
  statement-absent (kernel-block k) l i other h = items-absent k l i other h
  statement-absent (kernel-if {on_true = on_true} {on_false} a y n) l i other h =
      items-absent n l (second_at (items_lines on_true) (items_lines on_false) i) _ (omega arith) ∙ items-absent y l (first_at (items_lines on_true) (items_lines on_false) i) other (omega arith)
  statement-absent (kernel-while {e = e} a k) l i other h = items-absent k l (body_at (always (operand_of e)) i) other h
  statement-absent (kernel-goto b c) l i other h = refl
  statement-absent kernel-abort l i other h = refl
  statement-absent (kernel-return a) l i other h = refl

  items-absent : {mayReturn : Bool} {ahead is : Items} → KernelItems mayReturn ahead is → (l i other : ℕ) → items_times l is ≡ 0 → items_address l is i other ≡ other
  items-absent kernel-none l i other h = refl
  items-absent (kernel-then {is = is} {s = s} k ks) l i other h = items-absent ks l (i + statement_lines s) _ (omega arith) ∙ statement-absent k l i other (omega arith)
  items-absent (kernel-label {is = is} {l = k} b ks) l i other h =
      items-absent ks l i _ (omega arith) ∙ label-absent l k i other (let e : mark_times l (label k) ≡ 0 = omega arith in e)

same-number : (k : ℕ) → eqb k k ≡ true
same-number k = eq-eqb k k refl

once-there : (k : ℕ) → mark_times k (label k) ≡ 1
once-there k = rw (same-number k)

found : (k i rest : ℕ) → pick (eqb k k) i rest ≡ i
found k i rest = rw (same-number k)

module _ (L : Layout) (lines : List FlatLine) (address : ℕ → ℕ) where
  mutual
    unfolding statement_address statement_times Addressed statement_lines

    statement-addressed : {mayReturn : Bool} {ahead : Items} {s : Statement} → KernelStatement mayReturn ahead s → (i : ℕ) (other : ℕ → ℕ) → ((l : ℕ) → statement_times l s ≤ 1) → ((l : ℕ) → 1 ≤ statement_times l s → address l ≡ statement_address l s i (other l))
        → Addressed L lines address s i
    statement-addressed kernel-empty i other once f = tt
    statement-addressed (kernel-assign a) i other once f = tt
    statement-addressed (kernel-block k) i other once f = items-addressed k i other once f
    statement-addressed (kernel-if {on_true = on_true} {on_false} a y n) i other once f =
        let p = first_at (items_lines on_true) (items_lines on_false) i in
        let q = second_at (items_lines on_true) (items_lines on_false) i in (
          items-addressed y p other (λ l. omega (arith, once l)) (λ l h. f l (omega arith) ∙ items-absent n l q _ (omega (arith, once l))),
          items-addressed n q (λ l. items_address l on_true p (other l)) (λ l. omega (arith, once l)) (λ l h. f l (omega arith)),
        )
    statement-addressed (kernel-while {e = e} a k) i other once f = items-addressed k (body_at (always (operand_of e)) i) other once f
    statement-addressed (kernel-goto b c) i other once f = tt
    statement-addressed kernel-abort i other once f = tt
    statement-addressed (kernel-return a) i other once f = tt

    pub items-addressed : {mayReturn : Bool} {ahead is : Items} → KernelItems mayReturn ahead is → (i : ℕ) (other : ℕ → ℕ) → ((l : ℕ) → items_times l is ≤ 1) → ((l : ℕ) → 1 ≤ items_times l is → address l ≡ items_address l is i (other l))
        → AddressedItems L lines address is i
    items-addressed kernel-none i other once f = tt
    items-addressed (kernel-then {is = is} {s = s} k ks) i other once f = (
      statement-addressed k i other (λ l. omega (arith, once l)) (λ l h. f l (omega arith) ∙ items-absent ks l (i + statement_lines s) _ (omega (arith, once l))),
      items-addressed ks (i + statement_lines s) (λ l. statement_address l s i (other l)) (λ l. omega (arith, once l)) (λ l h. f l (omega arith)),
    )
    items-addressed (kernel-label {is = is} {l = k} b ks) i other once f = (
      f k (let t : mark_times k (label k) ≡ 1 = once-there k in omega arith) ∙ items-absent ks k i _ (let t : mark_times k (label k) ≡ 1 = once-there k in omega (arith, once k)) ∙ found k i (other k),
      items-addressed ks i (λ l. pick (eqb l k) i (other l)) (λ l. omega (arith, once l)) (λ l h. f l (omega arith)),
    )

  -- A list has its own lines.
  has-lines : (i : ℕ) (xs : List FlatLine) → ((j k : ℕ) (s : List ℤ) → next_at L lines (i + j) k s ≡ next_at L xs j k s) → Has L lines address i xs
  has-lines i [] h = tt
  has-lines i (x ∷ xs) h =
      let here_is : i + 0 ≡ i = omega arith in (
        (λ s. ap (λ (n : ℕ). next_at L lines n i s) (sym here_is) ∙ h 0 i s),
        has-lines (i + 1) xs (λ j k s. let e : (i + 1) + j ≡ i + suc j = omega arith in ap (λ (n : ℕ). next_at L lines n k s) e ∙ h (suc j) k s),
      )

-- ---- the flat list of a program

module _ (L : Layout) (contents : Items) (form : KernelItems false none contents) (arity : ℕ → ℕ) (calls : ItemsCallBelow arity 0 contents) (once : (l : ℕ) → items_times l contents ≤ 1) where
  own-lines : Has L (flat_of contents) (address_in contents) 0 (flat_of contents)
  own-lines = has-lines L (flat_of contents) (address_in contents) 0 (flat_of contents) (λ j k s. let e : 0 + j ≡ j = omega arith in ap (λ (n : ℕ). next_at L (flat_of contents) n k s) e)

  -- The exact size of the list.
  pub flat-size : length (flat_of contents) ≡ items_lines contents
  unfolding flat_of
  flat-size = items-length L (flat_of contents) (address_in contents) contents 0

  pub flat-stands : StandsItems L (flat_of contents) (address_in contents) 0 contents (length (flat_of contents))
  unfolding flat_of
  flat-stands =
      let e : 0 + items_lines contents ≡ length (flat_of contents) = omega (arith, flat-size) in
      subst (λ (j : ℕ). StandsItems L (flat_of contents) (address_in contents) 0 contents j) e
      (items-stands L (flat_of contents) (address_in contents) arity form refl calls 0 (items-addressed L (flat_of contents) (address_in contents) form 0 (λ l. 0) once (λ l h. refl)) own-lines)

  -- Every kernel program shares its fate with its flat list, whatever the store holds.
  pub flat-shares-fate : (store : List ℤ) → FlatFate L (flat_of contents) (address_in contents) contents flat-stands form store
  flat-shares-fate store = flat-fate L (flat_of contents) (address_in contents) contents flat-stands form store
