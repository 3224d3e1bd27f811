-- Laws of atoms and places: the kernel's atom of an expression at a row, and the kernel's place.
use Rattle.std.specs.Prelude.{◌≡◌, Bool, true, false, List, ℕ, zero, suc, ◌+◌, ◌*◌, ◌≤◌, ◌<◌, ℤ}
use Rattle.std.proofs.Math.Path.{refl}
use Rattle.std.proofs.Common.{sym, ap, subst, ◌∙◌, arith, eq-eqb, ne_eqb}
use Rattle.words.specs.Table.{row_count}
use Rattle.language.specs.Trees.{Expression, constant, assign, Place, variable, element, none}
use Rattle.language.specs.Sizes.{expression_rows, items_rows}
use Rattle.language.specs.Decode.{expression_at}
use Rattle.language.specs.Writes.{index_writes}
use Rattle.translation.specs.Uses.{direct}
use Rattle.translation.specs.declared.Use.{Use}
use Rattle.translation.specs.declared.Use.TheVariants.{Dropped as dropped, Wanted as wanted, Stored as stored}
use Rattle.translation.specs.Translate.{Atom as Held, number, word, top, held, atom_of, taken, temporary, atom, assigning, target_word, kernel_place}
use Rattle.translation.specs.TranslateSize.{update_rows, postfix_rows, copied}
use Rattle.translation.specs.Holding.{held_by, hold_by}
use Rattle.translation.proofs.HeldCode.{taken-held, held-variable as held-no-index, held-by}
use Rattle.language_shapes.specs.Shapes.{choice_tree, expression_tree, PlaceOnward}
use Rattle.language_shapes.specs.Source.{Name, most_arrays, ExpressionAt, PlaceAt as ShapePlaceAt}
use Rattle.measures_table.specs.Parts.{called_in, UseFits, Holding}
use Rattle.measures_table.specs.declared.Holder.TheVariants.{Number as NumberHolder, Variable as VariableHolder, Temporary}
use Rattle.language_shapes.specs.declared.PlaceShape.{PlaceShape}
use Rattle.language_shapes.specs.declared.PlaceShape.TheVariants.{Variable as VariableShape, Element as ElementShape}
use Rattle.language_shapes.specs.declared.ChoiceShape.{ChoiceShape}
use Rattle.language_shapes.specs.declared.ChoiceShape.TheVariants.{And, Or, Conditional}
use Rattle.language_shapes.specs.declared.ExpressionShape.{ExpressionShape}
use Rattle.language_shapes.specs.declared.ExpressionShape.TheVariants.{Choice}
use Rattle.writers_rows.specs.Room.{Room}
use Rattle.writers_rows.specs.Straight.{straight_code}
use Rattle.writers_rows.specs.Atoms.{atom_tree}
use Rattle.writers_steps.specs.Asks.{straight_size, AtomAt, TargetIs, HeldAt, PlaceInside, HeldPlace, PlaceAt}
use Rattle.writers_rows.specs.declared.KernelAtom.{KernelAtom}
use Rattle.writers_rows.specs.declared.KernelAtom.TheVariants.{Constant, Variable}
use Rattle.writers_rows.specs.declared.KernelPlace.{KernelPlace}
use Rattle.writers_rows.specs.declared.KernelPlace.TheVariants.{Variable as VariablePlace, Element}

-- The atom of a value, by what holds it.
module _ {S t : ℕ} {rows : List ℤ} {row : ℕ} where
  pub atom-number : {z v : ℤ} → Holding rows (atom_of (called_in rows) (expression_at rows row)) (NumberHolder v) → z ≡ v → AtomAt S rows row t (Constant z)
  atom-number a e = record { is = ap constant e ∙ ap (atom S t) a.is; fits = tt }

  pub atom-variable : {i : ℕ} → Holding rows (atom_of (called_in rows) (expression_at rows row)) (VariableHolder i) → AtomAt S rows row t (Variable i)
  atom-variable a = record { is = ap (atom S t) a.is; fits = omega (arith, a.fits.low) }

  pub atom-temporary : Holding rows (atom_of (called_in rows) (expression_at rows row)) Temporary → S + t < 65536 → AtomAt S rows row t (Variable (S + t))
  atom-temporary a h = record { is = ap (atom S t) a.is; fits = h }

-- The word where a value goes, by its use.
target_fits : (S t : ℕ) (u : Use) → S + t < 65536 → UseFits u → target_word S u t < 65536
target_fits S t dropped h f = h
target_fits S t wanted h f = h
target_fits S t (stored i) h f = omega arith

pub target-by : (S t : ℕ) {u w : Use} {r : ℕ} → u ≡ w → r ≡ target_word S w t → S + t < 65536 → UseFits u → TargetIs S u t r
target-by S t {u} {w} {r} e is h f =
    let same = is ∙ ap (λ (x : Use). target_word S x t) (sym e) in
    record { is = same; fits = omega (arith, same, target_fits S t u h f) }

-- A value that waits: the temporary where it was copied, else its own atom.
pub held-copy : {rows : List ℤ} (row : ℕ) (S t : ℕ) {k : ℕ} → k ≡ 1 → S + t < 65536 → HeldAt S rows row k t (Variable (S + t))
held-copy {rows} row S t {k} e h = record { is = rw (eq-eqb k 1 e); fits = h }

pub held-own : {rows : List ℤ} {row : ℕ} {S t k : ℕ} {x : KernelAtom} → (k ≡ 1 → ⊥) → AtomAt S rows row t x → HeldAt S rows row k t x
held-own {k = k} n a = record { is = rw (ne_eqb k 1 n) a.is; fits = a.fits }

-- what holds a value that waits while W may be written
pub held-is : {S : ℕ} {rows : List ℤ} {row k t : ℕ} {x : KernelAtom} (W : ℕ → Bool) → k ≡ copied (atom_of (called_in rows) (expression_at rows row)) W → HeldAt S rows row k t x → atom_tree x ≡ atom S t (held (atom_of (called_in rows) (expression_at rows row)) W)
held-is {S} {rows} {row} {k} {t} W e a =
    let h = atom_of (called_in rows) (expression_at rows row) in
    a.is ∙ ap (λ (n : ℕ). atom S t (held_by n h)) e ∙ ap (atom S t) (sym (held-by h W))

-- what is worked out meanwhile stands above it
pub above-held : {n k : ℕ} (t : ℕ) (h : Held) (W : ℕ → Bool) → n ≡ taken h → k ≡ copied h W → t + n + k ≡ t + taken (held h W)
above-held t h W e f = omega (arith, taken-held h W)

-- the copy of a value that waits, or nothing
pub hold-copied : (S t k : ℕ) {rows : List ℤ} {row : ℕ} {x : KernelAtom} → k ≡ 1 → AtomAt S rows row t x → assigning S (temporary S t) (atom_tree x) none ≡ hold_by S t k (atom_of (called_in rows) (expression_at rows row))
hold-copied S t k e a = rw (eq-eqb k 1 e, a.is)

pub hold-nothing : (S t k : ℕ) (h : Held) → (k ≡ 1 → ⊥) → none ≡ hold_by S t k h
hold-nothing S t k h n = rw (ne_eqb k 1 n)

-- its rows
pub rows-hold : (S t k : ℕ) (h : Held) → k ≤ 1 → items_rows (hold_by S t k h) ≡ 4 * k
unfolding items_rows expression_rows
rows-hold S t zero h l = refl
rows-hold S t (suc zero) (number v) l = refl
rows-hold S t (suc zero) (word i) l = refl
rows-hold S t (suc zero) top l = refl
rows-hold S t (suc (suc k)) h l = absurd (omega arith)

-- an atom is one row
pub atom-rows : (x : KernelAtom) → expression_rows (atom_tree x) ≡ 1
unfolding expression_rows
atom-rows (Constant v) = refl
atom-rows (Variable n) = refl

-- ---- places

pub onward-inside : (rows : List ℤ) (row : ℕ) (p : PlaceShape) → PlaceOnward rows row (Name rows) most_arrays p → PlaceInside rows p
onward-inside rows row (VariableShape i) f = f.low
onward-inside rows row (ElementShape array index) f = (f.0, f.1.inside)

pub place_inside : {rows : List ℤ} {row : ℕ} (p : PlaceShape) → ShapePlaceAt rows row p → PlaceInside rows p
place_inside {rows} {row} p f = onward-inside rows row p f.onward

pub held-variable : (S : ℕ) (rows : List ℤ) (t : ℕ) {place : PlaceShape} {i : ℕ} → PlaceInside rows place → place ≡ VariableShape i → HeldPlace S rows place t (VariablePlace i)
unfolding kernel_place
held-variable S rows t {place} {i} f e =
    let low : PlaceInside rows (VariableShape i) = subst (λ (p : PlaceShape). PlaceInside rows p) e f in
    rw e (record { is = refl; fits = omega arith })

pub held-element : (S : ℕ) (rows : List ℤ) (t : ℕ) {place : PlaceShape} {array index : ℕ} {x : KernelAtom} → PlaceInside rows place → place ≡ ElementShape array index → AtomAt S rows index t x → HeldPlace S rows place t (Element array x)
unfolding kernel_place
held-element S rows t {place} {array} {index} {x} f e a =
    let low : PlaceInside rows (ElementShape array index) = subst (λ (p : PlaceShape). PlaceInside rows p) e f in
    rw e (record { is = ap (element array) a.is; fits = (omega (arith, low.0), a.fits) })

pub place_found : {S : ℕ} {rows : List ℤ} {row t : ℕ} {place : PlaceShape} {p : KernelPlace} → ShapePlaceAt rows row place → HeldPlace S rows place t p → PlaceAt S rows row t p
place_found {S} {rows} {row} {t} f h =
    record { is = h.is ∙ ap (λ (q : Place). kernel_place (called_in rows) S q t) (sym f.is); fits = h.fits }

pub place-index : (rows : List ℤ) {place : PlaceShape} {array index : ℕ} → PlaceInside rows place → place ≡ ElementShape array index → index < row_count rows
place-index rows f e = (subst (λ (p : PlaceShape). PlaceInside rows p) e f).1

-- `called f i`: whether function f can write the variable i.
module _ (called : ℕ → ℕ → Bool) where
  -- the rows of an operation on a kernel place are those of one on the source's
  pub update-rows : (S : ℕ) (p : Place) (t : ℕ) → update_rows (kernel_place called S p t) ≡ update_rows p
  unfolding kernel_place
  update-rows S (variable i) t = refl
  update-rows S (element array e) t = refl

  pub postfix-rows : (S : ℕ) (p : Place) (u : Use) (t : ℕ) → postfix_rows (kernel_place called S p t) u ≡ postfix_rows p u
  unfolding kernel_place
  postfix-rows S (variable i) u t = refl
  postfix-rows S (element array e) u t = refl

  -- ---- an assignment, by its place and by whether the value went straight there

  pub stored-straight : (S i : ℕ) (e : Expression) (u : Use) (t : ℕ) → direct e ≡ true → none ≡ straight_code called S (assign (variable i) e) u t
  unfolding kernel_place
  stored-straight S i e u t d = rw d

  pub stored-copy : (S i : ℕ) (e : Expression) (u : Use) (t : ℕ) {x : Expression} → direct e ≡ false → x ≡ atom S t (atom_of called e) → assigning S (variable i) x none ≡ straight_code called S (assign (variable i) e) u t
  unfolding kernel_place
  stored-copy S i e u t d h = rw (h, d, held-no-index called (atom_of called e) i)

  pub stored-element : (S array : ℕ) (index e : Expression) (u : Use) (t above : ℕ) {x y : Expression} → above ≡ t + taken (held (atom_of called e) (index_writes called (element array index))) → x ≡ atom S above (atom_of called index) → y ≡ atom S t (held (atom_of called e) (index_writes called (element array index)))
      → assigning S (element array x) y none ≡ straight_code called S (assign (element array index) e) u t
  unfolding kernel_place
  stored-element S array index e u t above a h k = rw (h, k, a)

-- ---- room, by the shape

pub room-by-shape : {rows : List ℤ} {row base words : ℕ} {s : ExpressionShape} (u : Use) → ExpressionAt rows row s → Room (straight_size (called_in rows) (expression_at rows row) u) base words → Room (straight_size (called_in rows) (expression_tree rows s) u) base words
room-by-shape {rows} {row} {base} {words} u f r = subst (λ (e : Expression). Room (straight_size (called_in rows) e u) base words) f.is r

-- ---- a choice does nothing with values by itself

no_code : (S : ℕ) (rows : List ℤ) (c : ChoiceShape) (u : Use) (t : ℕ) → straight_code (called_in rows) S (choice_tree rows c) u t ≡ none
no_code S rows (And a b) u t = refl
no_code S rows (Or a b) u t = refl
no_code S rows (Conditional c a b) u t = refl

pub choice_none : {rows : List ℤ} {row : ℕ} {c : ChoiceShape} (S : ℕ) (u : Use) (t : ℕ) → ExpressionAt rows row (Choice c) → none ≡ straight_code (called_in rows) S (expression_at rows row) u t
choice_none {rows} {row} {c} S u t f = sym (no_code S rows c u t) ∙ ap (λ (e : Expression). straight_code (called_in rows) S e u t) (sym f.is)
