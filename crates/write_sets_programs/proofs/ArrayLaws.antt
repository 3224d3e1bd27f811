-- The arrays that a row's expression writes are those of its links and of the place that it stores to; a row's word put into the table.
use Rattle.std.specs.Prelude.{None, Some}
use mathlib.Core.Path.{◌≡◌, refl, sym, ap, ap₂, subst, ◌∙◌}
use mathlib.Core.Bool.{Bool, true, false, ◌||◌}
use mathlib.Core.List.{List}
use Prim.Native.Nat.{ℕ, zero, suc, ◌+◌, ◌≤◌, ◌<◌, ◌^◌}
use native.Mathlib.Decide.{ℕ_discrete}
use native.Mathlib.Omega.{arith}
use lib.Arith.{lt_of_le-ne}
use lib.Bits.{bit_or}
use lib.IntN.{ℤ}
use lib.ListN.{length, set, get_or, length-set}
use lib.Seq.{get_or-set_same, get_or-set_other}
use Rattle.words.specs.Table.{row_count}
use Rattle.language.specs.Trees.{Expression, Place, Arguments}
use Rattle.language.specs.Decode.{place_of, expression_at, argument_list_at}
use Rattle.language_shapes.specs.Shapes.{place_tree, expression_tree, Onward, OptionalOnward, ExpressionOnward, ArgumentAt}
use Rattle.language_shapes.specs.Source.{Name, most_arrays, Source, PlaceAt, ExpressionAt}
use Rattle.language_shapes.specs.declared.PlaceShape.TheVariants.{Variable, Element}
use Rattle.language_shapes.specs.declared.OperationShape.TheVariants.{Minus, Not, Binary, Comma, Assign, Compound, Prefix, Postfix}
use Rattle.language_shapes.specs.declared.ChoiceShape.TheVariants.{And, Or, Conditional}
use Rattle.language_shapes.specs.declared.ExpressionShape.{ExpressionShape}
use Rattle.language_shapes.specs.declared.ExpressionShape.TheVariants.{Number, Read, Operation, Choice, Call}
use Rattle.write_sets_rows.proofs.ArgumentLaws.{list-some}
use Rattle.write_sets.specs.Sets.{member_array}
use Rattle.write_sets.specs.SetLaws.{array-none, array-join, array-alone}
use Rattle.write_sets_programs.specs.ArrayWrites.{is_element, writes_array, index_writes_array, arguments_write_array, place_writes_array}
use Rattle.write_sets_programs.specs.Links.{links_of}
use Rattle.write_sets_programs.specs.Arrays.{ArraysAre, link_writes, stored_arrays, arrays_at, linked_arrays, LinkHeld, LinksHeld, ArraysFrom}
use Rattle.write_sets_programs.specs.declared.Links.{Links}

-- ---- words of arrays

arrays-as : {w : ℕ} (A B : ℕ → Bool) → ArraysAre w A → ((n : ℕ) → A n ≡ B n) → ArraysAre w B
arrays-as A B x e = record { are = λ n. x.are n ∙ e n }

pub arrays-none : ArraysAre 0 (λ n. false)
arrays-none = record { are = λ n. array-none n }

pub arrays-join : {w : ℕ} (a b : ℕ) (A B : ℕ → Bool) → ArraysAre a A → ArraysAre b B → w ≡ bit_or a b → ArraysAre w (λ n. A n || B n)
arrays-join a b A B x y e = record { are = λ n. ap (λ (w : ℕ). member_array w n) e ∙ array-join a b n ∙ ap₂ ◌||◌ (x.are n) (y.are n) }

or-none : (a : Bool) → (a || false) ≡ a
or-none true = refl
or-none false = refl

or_assoc : (a b c : Bool) → ((a || b) || c) ≡ (a || (b || c))
or_assoc true b c = refl
or_assoc false b c = refl

-- ---- links

link-some : (rows : List ℤ) (link n : ℕ) → 0 < link → link_writes rows link n ≡ writes_array (expression_at rows link) n
link-some rows zero n h = absurd (omega arith)
link-some rows (suc link) n h = refl

pub stored_some : (rows : List ℤ) (link : ℕ) {w : ℕ} → 0 < link → ArraysAre w (place_writes_array (place_of (expression_at rows link))) → ArraysAre w (stored_arrays rows link)
stored_some rows zero h x = absurd (omega arith)
stored_some rows (suc link) h x = x

stored_is : (rows : List ℤ) (link n : ℕ) → 0 < link → stored_arrays rows link n ≡ place_writes_array (place_of (expression_at rows link)) n
stored_is rows zero n h = absurd (omega arith)
stored_is rows (suc link) n h = refl

pub stored-none : (rows : List ℤ) (link : ℕ) → link ≡ 0 → ArraysAre 0 (stored_arrays rows link)
stored-none rows zero e = arrays-none
stored-none rows (suc link) e = absurd (omega arith)

pub at_some : (arrays : List ℕ) (link : ℕ) → 0 < link → get_or arrays link 0 ≡ arrays_at arrays link
at_some arrays zero h = absurd (omega arith)
at_some arrays (suc link) h = refl

-- All links lead on.
pub record LinksOnward (rows : List ℤ) (row : ℕ) (links : Links) : Type 0 where
  pub first : OptionalOnward rows row links.first
  pub second : OptionalOnward rows row links.second
  pub third : OptionalOnward rows row links.third
  pub place : OptionalOnward rows row links.place
  pub arguments : OptionalOnward rows row links.arguments

-- what the links write, in the order of the code
abbrev links_write : List ℤ → Links → ℕ → Bool
links_write rows links n =
    stored_arrays rows links.place n || ((link_writes rows links.first n || (link_writes rows links.second n || link_writes rows links.third n)) || arguments_write_array (argument_list_at rows links.arguments) n)

module _ {rows : List ℤ} {row : ℕ} where
  absent : OptionalOnward rows row 0
  absent h = absurd (omega arith)

  here : {link : ℕ} → Onward rows row link → OptionalOnward rows row link
  here o h = o

  links-onward : (sh : ExpressionShape) → ExpressionOnward rows row (Name rows) most_arrays sh → LinksOnward rows row (links_of sh)
  links-onward (Number v) o = record { first = absent; second = absent; third = absent; place = absent; arguments = absent }
  links-onward (Read (Variable i)) o = record { first = absent; second = absent; third = absent; place = absent; arguments = absent }
  links-onward (Read (Element array index)) o = record { first = here o.1; second = absent; third = absent; place = absent; arguments = absent }
  links-onward (Operation (Minus a)) o = record { first = here o; second = absent; third = absent; place = absent; arguments = absent }
  links-onward (Operation (Not a)) o = record { first = here o; second = absent; third = absent; place = absent; arguments = absent }
  links-onward (Operation (Binary operator a b)) o = record { first = here o.0; second = here o.1; third = absent; place = absent; arguments = absent }
  links-onward (Operation (Comma a b)) o = record { first = here o.0; second = here o.1; third = absent; place = absent; arguments = absent }
  links-onward (Operation (Assign p e)) o = record { first = here o.1; second = absent; third = absent; place = here o.0; arguments = absent }
  links-onward (Operation (Compound operator p e)) o = record { first = here o.1; second = absent; third = absent; place = here o.0; arguments = absent }
  links-onward (Operation (Prefix operator p)) o = record { first = absent; second = absent; third = absent; place = here o; arguments = absent }
  links-onward (Operation (Postfix operator p)) o = record { first = absent; second = absent; third = absent; place = here o; arguments = absent }
  links-onward (Choice (And a b)) o = record { first = here o.0; second = here o.1; third = absent; place = absent; arguments = absent }
  links-onward (Choice (Or a b)) o = record { first = here o.0; second = here o.1; third = absent; place = absent; arguments = absent }
  links-onward (Choice (Conditional c a b)) o = record { first = here o.0; second = here o.1; third = here o.2; place = absent; arguments = absent }
  links-onward (Call f arguments) o = record { first = absent; second = absent; third = absent; place = absent; arguments = o }

  one : (n : ℕ) {a : ℕ} → Onward rows row a → (link_writes rows a n || false) ≡ writes_array (expression_at rows a) n
  one n {a} o = or-none _ ∙ link-some rows a n (omega (arith, o.later))

  two : (n : ℕ) {a b : ℕ} → Onward rows row a → Onward rows row b → (link_writes rows a n || (link_writes rows b n || false)) ≡ (writes_array (expression_at rows a) n || writes_array (expression_at rows b) n)
  two n {a} {b} oa ob = ap₂ ◌||◌ (link-some rows a n (omega (arith, oa.later))) (one n ob)

  -- an update of a place by a value
  valued : (n : ℕ) {p e : ℕ} → Onward rows row p → Onward rows row e → (stored_arrays rows p n || (link_writes rows e n || false)) ≡ (is_element (place_of (expression_at rows p)) n || (index_writes_array (place_of (expression_at rows p)) n || writes_array (expression_at rows e) n))
  valued n {p} {e} op oe = ap₂ ◌||◌ (stored_is rows p n (omega (arith, op.later))) (one n oe) ∙ or_assoc (is_element (place_of (expression_at rows p)) n) (index_writes_array (place_of (expression_at rows p)) n) (writes_array (expression_at rows e) n)

  -- by one
  stepped : (n : ℕ) {p : ℕ} → Onward rows row p → (stored_arrays rows p n || false) ≡ place_writes_array (place_of (expression_at rows p)) n
  stepped n {p} o = or-none _ ∙ stored_is rows p n (omega (arith, o.later))

links-write : (rows : List ℤ) (row n : ℕ) (sh : ExpressionShape) → ExpressionOnward rows row (Name rows) most_arrays sh → links_write rows (links_of sh) n ≡ writes_array (expression_tree rows sh) n
unfolding writes_array index_writes_array arguments_write_array
links-write rows row n (Number v) o = refl
links-write rows row n (Read (Variable i)) o = refl
links-write rows row n (Read (Element array index)) o = or-none _ ∙ one n o.1
links-write rows row n (Operation (Minus a)) o = or-none _ ∙ one n o
links-write rows row n (Operation (Not a)) o = or-none _ ∙ one n o
links-write rows row n (Operation (Binary operator a b)) o = or-none _ ∙ two n o.0 o.1
links-write rows row n (Operation (Comma a b)) o = or-none _ ∙ two n o.0 o.1
links-write rows row n (Operation (Assign p e)) o = ap (λ (b : Bool). stored_arrays rows p n || b) (or-none (link_writes rows e n || false)) ∙ valued n o.0 o.1
links-write rows row n (Operation (Compound operator p e)) o = ap (λ (b : Bool). stored_arrays rows p n || b) (or-none (link_writes rows e n || false)) ∙ valued n o.0 o.1
links-write rows row n (Operation (Prefix operator p)) o = stepped n o
links-write rows row n (Operation (Postfix operator p)) o = stepped n o
links-write rows row n (Choice (And a b)) o = or-none _ ∙ two n o.0 o.1
links-write rows row n (Choice (Or a b)) o = or-none _ ∙ two n o.0 o.1
links-write rows row n (Choice (Conditional test a b)) o =
    or-none _ ∙ ap₂ ◌||◌ (link-some rows test n (omega (arith, o.0.later))) (ap₂ ◌||◌ (link-some rows a n (omega (arith, o.1.later))) (link-some rows b n (omega (arith, o.2.later))))
links-write rows row n (Call f arguments) o = refl

-- the links that were found lead on
pub found-onward : {rows : List ℤ} {row : ℕ} {sh : ExpressionShape} {links : Links} → ExpressionAt rows row sh → links ≡ links_of sh → LinksOnward rows row links
found-onward {rows} {row} {sh} f e = subst (λ (l : Links). LinksOnward rows row l) (sym e) (links-onward sh f.onward)

pub from_less : {rows : List ℤ} {arrays : List ℕ} {k : ℕ} (j : ℕ) → ArraysFrom rows arrays k → k ≤ j → ArraysFrom rows arrays j
from_less j m h = record { source = m.source; room = m.room; row_arrays = λ row l. m.row_arrays row (omega arith) }

module _ {rows : List ℤ} {arrays : List ℕ} {row : ℕ} (m : ArraysFrom rows arrays (row + 1)) where
  pub link-held : {link : ℕ} → OptionalOnward rows row link → LinkHeld arrays link
  link-held o h = let x = o h in omega (arith, m.room, x.inside)

  pub links-held : {links : Links} → LinksOnward rows row links → LinksHeld arrays links
  links-held o = record { first = link-held o.first; second = link-held o.second; third = link-held o.third }

  pub linked-are : (link : ℕ) → OptionalOnward rows row link → ArraysAre (arrays_at arrays link) (link_writes rows link)
  linked-are zero o = arrays-none
  linked-are (suc link) o = let x = o (omega arith) in m.row_arrays (suc link) (omega (arith, x.later)) x.inside

  -- ---- a place

  pub element-arrays : {array index bit word w : ℕ} → PlaceAt rows row (Element array index) → bit ≡ 2 ^ array → word ≡ arrays_at arrays index → w ≡ bit_or bit word → ArraysAre w (place_writes_array (place_of (expression_at rows row)))
  unfolding index_writes_array
  element-arrays {array} {index} {bit} {word} f eb ew e =
      rw f.is
      (arrays-as _ _ (arrays-join bit word (λ n. is_element (place_tree rows (Element array index)) n) (link_writes rows index)
      (record { are = λ n. ap (λ (b : ℕ). member_array b n) eb ∙ array-alone array n })
      (subst (λ (x : ℕ). ArraysAre x (link_writes rows index)) (sym ew) (linked-are index (λ h. f.onward.1))) e)
      (λ n. ap (λ (b : Bool). is_element (place_tree rows (Element array index)) n || b) (link-some rows index n (omega (arith, f.onward.1.later)))))

  -- ---- an expression

  pub row-arrays-are : {sh : ExpressionShape} {links : Links} {own operands passed all w : ℕ} → ExpressionAt rows row sh → links ≡ links_of sh → ArraysAre own (stored_arrays rows links.place) → operands ≡ linked_arrays arrays links → ArraysAre passed (arguments_write_array (argument_list_at rows links.arguments)) → all ≡ bit_or operands passed → w ≡ bit_or own all → ArraysAre w (writes_array (expression_at rows row))
  row-arrays-are {sh} {links} {own} {operands} {passed} {all} f el x eo y ea e =
      let on = found-onward f el in
      arrays-as _ _ (arrays-join own all _ _ x (arrays-join operands passed _ _
      (arrays-join _ _ _ _ (linked-are links.first on.first) (arrays-join _ _ _ _ (linked-are links.second on.second) (linked-are links.third on.third) refl) eo) y ea) e)
      (λ n. ap (λ (l : Links). links_write rows l n) el ∙ links-write rows row n sh f.onward ∙ sym (ap (λ (t : Expression). writes_array t n) f.is))

pub variable-arrays : {rows : List ℤ} {row i : ℕ} → PlaceAt rows row (Variable i) → ArraysAre 0 (place_writes_array (place_of (expression_at rows row)))
unfolding index_writes_array
variable-arrays f = rw f.is (arrays-as _ _ arrays-none (λ n. refl))

-- ---- the table

pub from-none : {rows : List ℤ} {arrays : List ℕ} → Source rows → row_count rows ≤ length arrays → ArraysFrom rows arrays (row_count rows)
from-none s h = record { source = s; room = h; row_arrays = λ row l b. absurd (omega arith) }

-- with the row's word in, one more row has its word
pub one-row-more : {rows : List ℤ} {arrays : List ℕ} {row w : ℕ} → row < row_count rows → ArraysAre w (writes_array (expression_at rows row)) → ArraysFrom rows arrays (row + 1) → ArraysFrom rows (set arrays row w) row
one-row-more {rows} {arrays} {row} {w} inside x m = record {
  source = m.source;
  room = omega (arith, m.room, length-set arrays row w);
  row_arrays = λ r h b. by r h b (ℕ_discrete r row);
}
  where
    by : (r : ℕ) → row ≤ r → r < row_count rows → Dec (r ≡ row) → ArraysAre (get_or (set arrays row w) r 0) (writes_array (expression_at rows r))
    by r h b (yes q) = subst (λ (r : ℕ). ArraysAre (get_or (set arrays row w) r 0) (writes_array (expression_at rows r))) (sym q) (subst (λ (v : ℕ). ArraysAre v (writes_array (expression_at rows row))) (sym (get_or-set_same arrays row w 0 (omega (arith, m.room)))) x)
    by r h b (no q) = subst (λ (v : ℕ). ArraysAre v (writes_array (expression_at rows r))) (sym (get_or-set_other arrays row r w 0 q)) (m.row_arrays r (let k = lt_of_le-ne h (λ e. q (sym e)) in omega arith) b)

-- ---- arguments

pub none_passed : (rows : List ℤ) (link : ℕ) → link ≡ 0 → ArraysAre 0 (arguments_write_array (argument_list_at rows link))
unfolding arguments_write_array
none_passed rows zero e = arrays-none
none_passed rows (suc link) e = absurd (omega arith)

pub ended-passed : (rows : List ℤ) (link : ℕ) {next : ℕ} → 0 < link → ArgumentAt rows link next None → ArraysAre 0 (arguments_write_array (argument_list_at rows link))
unfolding arguments_write_array
ended-passed rows link h f = subst (λ (a : Arguments). ArraysAre 0 (arguments_write_array a)) (sym (list-some rows link h ∙ f.is)) arrays-none

pub argument-passed : {rows : List ℤ} {arrays : List ℕ} (link : ℕ) {next e a b w : ℕ} → ArraysFrom rows arrays (link + 1) → 0 < link → ArgumentAt rows link next (Some e) → a ≡ arrays_at arrays e → ArraysAre b (arguments_write_array (argument_list_at rows next)) → w ≡ bit_or a b → ArraysAre w (arguments_write_array (argument_list_at rows link))
unfolding arguments_write_array
argument-passed {rows} {arrays} link {next} {e} {a} {b} {w} m h f ea y ew =
    subst (λ (l : Arguments). ArraysAre w (arguments_write_array l)) (sym (list-some rows link h ∙ f.is))
    (arrays-as _ _ (arrays-join a b (link_writes rows e) _ (subst (λ (x : ℕ). ArraysAre x (link_writes rows e)) (sym ea) (linked-are m e (λ p. f.onward))) y ew) (λ n. ap (λ (x : Bool). x || arguments_write_array (argument_list_at rows next) n) (link-some rows e n (omega (arith, f.onward.later)))))
