-- Sets and the words that they hold; a row's set or a function's put into the table; and which values are copied by them.
use mathlib.Core.Path.{◌≡◌, refl, sym, ap, ap₂, subst, ◌∙◌}
use mathlib.Core.Bool.{Bool, true, false, ◌&&◌, ◌||◌, and-false}
use mathlib.Core.List.{List}
use Prim.Native.Nat.{ℕ, zero, suc, ◌+◌, ◌-◌, ◌≤◌, ◌<◌}
use native.Mathlib.Decide.{ℕ_discrete}
use native.Mathlib.Omega.{arith}
use borrow.Author.Tests.{ltb-true, ltb-false, lt-ltb, le-ltb}
use lib.Dec.{eqb, ltb}
use Rattle.std.proofs.lemmas.List.{get_or-set_same, get_or-set_other}
use lib.IntN.{ℤ}
use lib.ListN.{length, set, length-set}
use Rattle.words.specs.Word.{pick}
use Rattle.words.specs.Laws.{by_cases}
use Rattle.words.specs.Table.{row_count}
use Rattle.words.specs.declared.Operator.{Operator}
use Rattle.language.specs.Trees.{Expression, Place, variable, element, Part, absent, present}
use Rattle.language.specs.Writes.{writes, index_writes}
use Rattle.language.specs.Functions.{function_count}
use Rattle.language.specs.Program.{contents}
use Rattle.language.specs.Decode.{place_of, expression_at, part_at}
use Rattle.language.specs.DecodeLaws.{part-some}
use Rattle.translation.specs.Translate.{Atom, number, word, top, atom_of}
use Rattle.translation.specs.TranslateSize.{copied}
use Rattle.language_shapes.specs.Shapes.{choice_tree, expression_tree, Onward, OptionalOnward}
use Rattle.language_shapes.specs.Source.{NamesFrom, Source, Name, PlaceAt, ExpressionAt}
use Rattle.language_shapes.specs.declared.PlaceShape.TheVariants.{Variable, Element}
use Rattle.language_shapes.specs.declared.OperationShape.TheVariants.{Minus, Not, Binary, Comma, Assign, Compound, Prefix, Postfix}
use Rattle.language_shapes.specs.declared.ChoiceShape.{ChoiceShape}
use Rattle.language_shapes.specs.declared.ChoiceShape.TheVariants.{And, Or, Conditional}
use Rattle.language_shapes.specs.declared.ExpressionShape.{ExpressionShape}
use Rattle.language_shapes.specs.declared.ExpressionShape.TheVariants.{Number, Read, Operation, Choice, Call}
use Rattle.write_sets.specs.Named.{Named}
use Rattle.write_sets.specs.Sets.{member, variable_bit, declared_bit, nothing, join, single}
use Rattle.write_sets.specs.SetLaws.{member-variable, member-declared, variable-join, declared-join, variable-nothing, declared-nothing, variable-single, declared-single}
use Rattle.write_sets.specs.declared.WriteSet.{WriteSet}
use Rattle.measures_table.specs.Parts.{called_in, index_of, first_copied, Operand}
use Rattle.write_sets_rows.specs.WriteSets.{SetIs, part_writes, set_of, set_at, function_set, SetHeld, FunctionSets, SetsFrom, Sets}

-- ---- sets

pub or_assoc : (a b c : Bool) → ((a || b) || c) ≡ (a || (b || c))
or_assoc true b c = refl
or_assoc false b c = refl

pub or-none : (a : Bool) → (a || false) ≡ a
or-none true = refl
or-none false = refl

or-and : (a b c : Bool) → ((a && b) || (a && c)) ≡ (a && (b || c))
or-and true b c = refl
or-and false b c = refl

pub set-as : {S : ℕ} {s : WriteSet} (X W : ℕ → Bool) → SetIs S s X → ((i : ℕ) → X i ≡ W i) → SetIs S s W
set-as {S} X W x e = record { variables = λ i h. x.variables i h ∙ ap (λ (b : Bool). ltb i S && b) (e i); declared = λ i h. x.declared i h ∙ e (S + i) }

pub set-nothing : {S : ℕ} {s : WriteSet} → s ≡ nothing → SetIs S s (λ i. false)
set-nothing {S} e = record {
  variables = λ i h. ap (λ (z : WriteSet). variable_bit z i) e ∙ variable-nothing i ∙ sym (and-false (ltb i S));
  declared = λ i h. ap (λ (z : WriteSet). declared_bit z i) e ∙ declared-nothing i;
}

pub set_single : {S : ℕ} (j : ℕ) {s : WriteSet} → Named S j → s ≡ single S j → SetIs S s (λ i. eqb j i)
set_single {S} j n e = record {
  variables = λ i h. ap (λ (z : WriteSet). variable_bit z i) e ∙ variable-single S j i n h;
  declared = λ i h. ap (λ (z : WriteSet). declared_bit z i) e ∙ declared-single S j i n h;
}

pub set-join : {S : ℕ} {s : WriteSet} (a b : WriteSet) (X W : ℕ → Bool) → SetIs S a X → SetIs S b W → s ≡ join a b → SetIs S s (λ i. X i || W i)
set-join {S} a b X W x y e = record {
  variables = λ i h. ap (λ (z : WriteSet). variable_bit z i) e ∙ variable-join a b i ∙ ap₂ ◌||◌ (x.variables i h) (y.variables i h) ∙ or-and (ltb i S) (X i) (W i);
  declared = λ i h. ap (λ (z : WriteSet). declared_bit z i) e ∙ declared-join a b i ∙ ap₂ ◌||◌ (x.declared i h) (y.declared i h);
}

-- what a name means is in the set, or not
pub set-member : {S : ℕ} {s : WriteSet} (W : ℕ → Bool) (i : ℕ) → SetIs S s W → Named S i → member S s i ≡ W i
set-member {S} {s} W i x n = by_cases (ltb i S)
    (λ e. let below = ltb-true i S e in member-variable S s i below ∙ x.variables i (n.variable below) ∙ ap (λ (b : Bool). b && W i) e)
    (λ e.
    let behind = ltb-false i S e in
    let place : i - S < 64 = omega (arith, n.within) in
    let same : i ≡ S + (i - S) = omega arith in
    ap (member S s) same ∙ member-declared S s (i - S) place ∙ x.declared (i - S) place ∙ sym (ap W same))

-- ---- the sets of a row's operands

pub set-some : (sets : List WriteSet) (link : ℕ) → 0 < link → set_at sets link ≡ set_of sets link
set-some sets zero h = absurd (omega arith)
set-some sets (suc link) h = refl

-- the set of a function, where it is known and where not
pub function-known : (sets : List WriteSet) (known f : ℕ) {s : WriteSet} → f < known → s ≡ set_of sets f → s ≡ function_set sets known f
function-known sets known f h e = e ∙ sym (ap (λ (b : Bool). pick b (set_of sets f) nothing) (lt-ltb f known h))

pub function-unknown : (sets : List WriteSet) (known f : ℕ) {s : WriteSet} → known ≤ f → s ≡ nothing → s ≡ function_set sets known f
function-unknown sets known f h e = e ∙ sym (ap (λ (b : Bool). pick b (set_of sets f) nothing) (le-ltb f known h))

pub sets-less : {S : ℕ} {rows : List ℤ} {sets : List WriteSet} {k : ℕ} (j : ℕ) → SetsFrom S rows sets k → k ≤ j → SetsFrom S rows sets j
sets-less j m h = record { source = m.source; names = m.names; room = m.room; row_set = λ row l. m.row_set row (omega arith) }

module _ {S : ℕ} {rows : List ℤ} {sets : List WriteSet} {row : ℕ} (m : SetsFrom S rows sets (row + 1)) where
  pub link-held : {link : ℕ} → OptionalOnward rows row link → SetHeld sets link
  link-held o h = omega (arith, m.room, (o h).inside)

  pub link_set : {link : ℕ} {s : WriteSet} → Onward rows row link → s ≡ set_at sets link → SetIs S s (writes (called_in rows) (expression_at rows link))
  link_set {link} {s} o e =
      subst (λ (z : WriteSet). SetIs S z (writes (called_in rows) (expression_at rows link))) (sym (e ∙ set-some sets link (omega (arith, o.later)))) (m.row_set link (omega (arith, o.later)) o.inside)

  -- of a link that may be absent
  pub part-link : (link : ℕ) {s : WriteSet} → OptionalOnward rows row link → s ≡ set_at sets link → SetIs S s (part_writes (called_in rows) (part_at rows link))
  part-link zero o e = set-nothing e
  part-link (suc link) o e = link_set (o (omega arith)) e

-- ---- the table

module _ (rows : List ℤ) (t u : List WriteSet) (row : ℕ) (s : WriteSet) (fits : row < length t) (is : u ≡ set t row s) where
  own-set : set_of u row ≡ s
  own-set = rw is (get_or-set_same t row s nothing fits)

  other-set : (other : ℕ) → (other ≡ row → ⊥) → set_of u other ≡ set_of t other
  other-set other h = rw is (get_or-set_other t row other s nothing h)

  -- the functions below it keep their sets
  pub functions-kept : {S : ℕ} → FunctionSets S rows t row → FunctionSets S rows u row
  functions-kept {S} m = record { function-set = λ f h b. subst (λ (z : WriteSet). SetIs S z (called_in rows f)) (sym (other-set f (λ q. omega arith))) (m.function-set f h b) }

  -- with the function's words in, one more function has its set
  pub one-function-more : {S : ℕ} → SetIs S s (called_in rows row) → FunctionSets S rows t row → FunctionSets S rows u (row + 1)
  one-function-more {S} x m = record { function-set = λ f h b. by f h b (ℕ_discrete f row) }
    where
      by : (f : ℕ) → f < row + 1 → f < function_count (contents rows) → Dec (f ≡ row) → SetIs S (set_of u f) (called_in rows f)
      by f h b (yes q) = subst (λ (f : ℕ). SetIs S (set_of u f) (called_in rows f)) (sym q) (subst (λ (z : WriteSet). SetIs S z (called_in rows row)) (sym own-set) x)
      by f h b (no q) = (functions-kept m).function-set f (omega (arith, q)) b

  -- with the row's words in, one more row has its set
  pub one-set-more : {S : ℕ} → SetIs S s (writes (called_in rows) (expression_at rows row)) → SetsFrom S rows t (row + 1) → SetsFrom S rows u row
  one-set-more {S} x m = record {
    source = m.source;
    names = m.names;
    room = rw (is, length-set t row s) m.room;
    row_set = λ r h b. by r h b (ℕ_discrete r row);
  }
    where
      by : (r : ℕ) → row ≤ r → r < row_count rows → Dec (r ≡ row) → SetIs S (set_of u r) (writes (called_in rows) (expression_at rows r))
      by r h b (yes q) = subst (λ (r : ℕ). SetIs S (set_of u r) (writes (called_in rows) (expression_at rows r))) (sym q) (subst (λ (z : WriteSet). SetIs S z (writes (called_in rows) (expression_at rows row))) (sym own-set) x)
      by r h b (no q) =
          subst (λ (z : WriteSet). SetIs S z (writes (called_in rows) (expression_at rows r))) (sym (other-set r q)) (m.row_set r (omega (arith, q)) b)

pub functions-less : {S : ℕ} {rows : List ℤ} {sets : List WriteSet} {k : ℕ} (j : ℕ) → FunctionSets S rows sets k → j ≤ k → FunctionSets S rows sets j
functions-less j m h = record { function-set = λ f l. m.function-set f (omega arith) }

pub sets-none : {S : ℕ} {rows : List ℤ} {sets : List WriteSet} → Source rows → NamesFrom S rows → row_count rows ≤ length sets → SetsFrom S rows sets (row_count rows)
sets-none s n h = record { source = s; names = n; room = h; row_set = λ row l b. absurd (omega arith) }

-- ---- which values are copied

copied-same : (h : Atom) (X W : ℕ → Bool) → ((i : ℕ) → X i ≡ W i) → copied h X ≡ copied h W
copied-same (number v) X W e = refl
copied-same (word i) X W e = rw (e i)
copied-same top X W e = refl

-- by what holds the value
pub copied-number : {h : Atom} {v : ℤ} (W : ℕ → Bool) → number v ≡ h → 0 ≡ copied h W
copied-number W e = ap (λ (x : Atom). copied x W) e

pub copied-temporary : {h : Atom} (W : ℕ → Bool) → top ≡ h → 0 ≡ copied h W
copied-temporary W e = ap (λ (x : Atom). copied x W) e

copied-word : (i : ℕ) (W : ℕ → Bool) → pick (W i) 1 0 ≡ copied (word i) W
copied-word i W = by_cases (W i) (λ e. rw e) (λ e. rw e)

-- the set at a link, as what the expression there writes
pub part-set : {S : ℕ} {rows : List ℤ} {sets : List WriteSet} (link : ℕ) {s : WriteSet} → Sets S rows sets → link < row_count rows → s ≡ set_at sets link → SetIs S s (part_writes (called_in rows) (part_at rows link))
part-set zero m h e = set-nothing e
part-set {S} {rows} (suc link) m h e = subst (λ (z : WriteSet). SetIs S z (writes (called_in rows) (expression_at rows (suc link)))) (sym e) (m.row_set (suc link) (omega arith) h)

pub copied-variable : {S : ℕ} {rows : List ℤ} {s : WriteSet} {i r : ℕ} {h : Atom} (W : ℕ → Bool) → NamesFrom S rows → SetIs S s W → Name rows i → word i ≡ h → r ≡ pick (member S s i) 1 0 → r ≡ copied h W
copied-variable {S} {i = i} W names x n e w = w ∙ ap (λ (b : Bool). pick b 1 0) (set-member W i x (n.named S names)) ∙ copied-word i W ∙ ap (λ (x : Atom). copied x W) e

index-writes : (called : ℕ → ℕ → Bool) (p : Place) (i : ℕ) → part_writes called (index_of p) i ≡ index_writes called p i
unfolding index_writes
index-writes called (variable j) i = refl
index-writes called (element array e) i = refl

choice-copies : (rows : List ℤ) (c : ChoiceShape) → 0 ≡ first_copied (called_in rows) (choice_tree rows c)
choice-copies rows (And a b) = refl
choice-copies rows (Or a b) = refl
choice-copies rows (Conditional c a b) = refl

over-index : {rows : List ℤ} (place v : ℕ) {index r : ℕ} → Operand rows place index (index_of (place_of (expression_at rows place))) → r ≡ copied (atom_of (called_in rows) (expression_at rows v)) (part_writes (called_in rows) (part_at rows index)) → r ≡ copied (atom_of (called_in rows) (expression_at rows v)) (index_writes (called_in rows) (place_of (expression_at rows place)))
over-index {rows} place v o e =
    e ∙ copied-same (atom_of (called_in rows) (expression_at rows v)) _ (index_writes (called_in rows) (place_of (expression_at rows place))) (λ i. ap (λ (p : Part). part_writes (called_in rows) p i) o.is ∙ index-writes (called_in rows) (place_of (expression_at rows place)) i)

module _ {rows : List ℤ} {row : ℕ} where
  shaped-copies : {sh : ExpressionShape} {r : ℕ} → ExpressionAt rows row sh → r ≡ first_copied (called_in rows) (expression_tree rows sh) → r ≡ first_copied (called_in rows) (expression_at rows row)
  shaped-copies f e = e ∙ sym (ap (first_copied (called_in rows)) f.is)

  pub copied_none : {sh : ExpressionShape} → ExpressionAt rows row sh → 0 ≡ first_copied (called_in rows) (expression_tree rows sh) → 0 ≡ first_copied (called_in rows) (expression_at rows row)
  copied_none f e = shaped-copies f e

  pub copied-choice : {c : ChoiceShape} → ExpressionAt rows row (Choice c) → 0 ≡ first_copied (called_in rows) (expression_at rows row)
  copied-choice {c} f = shaped-copies f (choice-copies rows c)

  pub copied-binary : {operator : Operator} {a b r : ℕ} → ExpressionAt rows row (Operation (Binary operator a b)) → r ≡ copied (atom_of (called_in rows) (expression_at rows b)) (part_writes (called_in rows) (part_at rows a)) → r ≡ first_copied (called_in rows) (expression_at rows row)
  copied-binary {operator} {a} {b} f e =
      shaped-copies f (e ∙ copied-same (atom_of (called_in rows) (expression_at rows b)) _ (writes (called_in rows) (expression_at rows a)) (λ i. ap (λ (p : Part). part_writes (called_in rows) p i) (part-some rows a (omega (arith, f.onward.0.later)))))

  pub copied-assign : {place v index r : ℕ} → ExpressionAt rows row (Operation (Assign place v)) → Operand rows place index (index_of (place_of (expression_at rows place))) → r ≡ copied (atom_of (called_in rows) (expression_at rows v)) (part_writes (called_in rows) (part_at rows index)) → r ≡ first_copied (called_in rows) (expression_at rows row)
  copied-assign {place} {v} f o e = shaped-copies f (over-index place v o e)

  pub copied-compound : {operator : Operator} {place v index r : ℕ} → ExpressionAt rows row (Operation (Compound operator place v)) → Operand rows place index (index_of (place_of (expression_at rows place))) → r ≡ copied (atom_of (called_in rows) (expression_at rows v)) (part_writes (called_in rows) (part_at rows index)) → r ≡ first_copied (called_in rows) (expression_at rows row)
  copied-compound {operator} {place} {v} f o e = shaped-copies f (over-index place v o e)

-- a link that is absent or leads on is inside the table
link-inside : {rows : List ℤ} {row : ℕ} (link : ℕ) → Source rows → OptionalOnward rows row link → link < row_count rows
link-inside zero s o = s.sound.some_rows
link-inside (suc link) s o = (o (omega arith)).inside

pub index_inside : {rows : List ℤ} {place index : ℕ} {part : Part} → Source rows → Operand rows place index part → index < row_count rows
index_inside {rows} {place} {index} s o = link-inside index s o.onward

-- the index of the place at a row
pub index-variable : {rows : List ℤ} {row i : ℕ} → PlaceAt rows row (Variable i) → Operand rows row 0 (index_of (place_of (expression_at rows row)))
index-variable f = record { is = sym (ap index_of f.is); onward = λ h. absurd (omega arith) }

pub index-element : {rows : List ℤ} {row array index : ℕ} → PlaceAt rows row (Element array index) → Operand rows row index (index_of (place_of (expression_at rows row)))
index-element {rows} {row} {array} {index} f = record { is = part-some rows index (omega (arith, f.onward.1.later)) ∙ sym (ap index_of f.is); onward = λ h. f.onward.1 }
