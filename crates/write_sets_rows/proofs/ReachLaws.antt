-- The reach of an expression, by its shape, a clause of `writes` each; and its set, from those of its links.
use mathlib.Core.Path.{◌≡◌, refl, sym, ap, ap₂, subst, ◌∙◌}
use mathlib.Core.Bool.{Bool, true, false, ◌||◌}
use mathlib.Core.List.{List}
use Prim.Native.Nat.{ℕ, zero, suc, ◌+◌, ◌<◌}
use native.Mathlib.Omega.{arith}
use lib.Dec.{eqb}
use lib.IntN.{ℤ}
use Rattle.words.specs.Table.{row_count}
use Rattle.words.specs.declared.Operator.{Operator}
use Rattle.language.specs.Trees.{Expression, Arguments, call}
use Rattle.language.specs.Functions.{function_count}
use Rattle.language.specs.Program.{contents}
use Rattle.language.specs.Writes.{is_variable, writes, index_writes, arguments_write}
use Rattle.language.specs.Decode.{place_of, expression_at, part_at, argument_list_at}
use Rattle.language_shapes.specs.Shapes.{expression_tree, Onward, OptionalOnward}
use Rattle.language_shapes.specs.Source.{NamesFrom, Source, PlaceAt, ExpressionAt}
use Rattle.language_shapes.specs.CallLaws.{call-defined, call-behind}
use Rattle.language_shapes.specs.declared.PlaceShape.TheVariants.{Variable, Element}
use Rattle.language_shapes.specs.declared.OperationShape.TheVariants.{Minus, Not, Binary, Comma, Assign, Compound, Prefix, Postfix}
use Rattle.language_shapes.specs.declared.ChoiceShape.TheVariants.{And, Or, Conditional}
use Rattle.language_shapes.specs.declared.ExpressionShape.{ExpressionShape}
use Rattle.language_shapes.specs.declared.ExpressionShape.TheVariants.{Number, Read, Operation, Choice, Call}
use Rattle.write_sets.specs.Sets.{nothing, join, single}
use Rattle.write_sets.specs.declared.WriteSet.{WriteSet}
use Rattle.measures_table.specs.Parts.{called_in}
use Rattle.write_sets_rows.specs.WriteSets.{SetIs, place_writes, part_writes, set_of, set_at, function_set, FunctionSets, SetsFrom}
use Rattle.write_sets_rows.specs.Reaches.{reach_of, links_write, UpdateAt, ReachAt, Reached, ReachedWith}
use Rattle.write_sets_rows.specs.declared.Reach.{Reach}
use Rattle.write_sets_rows.proofs.WriteLaws.{or_assoc, or-none, set-as, set-nothing, set_single, set-join, function-known}

-- ---- links

absent : {rows : List ℤ} {row : ℕ} → OptionalOnward rows row 0
absent h = absurd (omega arith)

here : {rows : List ℤ} {row link : ℕ} → Onward rows row link → OptionalOnward rows row link
here o h = o

some : (called : ℕ → ℕ → Bool) (rows : List ℤ) (link i : ℕ) → 0 < link → part_writes called (part_at rows link) i ≡ writes called (expression_at rows link) i
some called rows zero i h = absurd (omega arith)
some called rows (suc link) i h = refl

module _ {rows : List ℤ} {row : ℕ} (called : ℕ → ℕ → Bool) where
  at : {a : ℕ} → Onward rows row a → (i : ℕ) → writes called (expression_at rows a) i ≡ part_writes called (part_at rows a) i
  at {a} o i = sym (some called rows a i (omega (arith, o.later)))

module _ {S : ℕ} {rows : List ℤ} {row : ℕ} (called : ℕ → ℕ → Bool) where
  -- a row that writes nothing itself, and has this many operands
  unwritten : {sh : ExpressionShape} {own : WriteSet} {r : Reach} {first second third : ℕ} → ExpressionAt rows row sh → own ≡ nothing → r ≡ reach_of own first second third 0
      → OptionalOnward rows row first → OptionalOnward rows row second → OptionalOnward rows row third
      → ((i : ℕ) → writes called (expression_tree rows sh) i ≡ (part_writes called (part_at rows first) i || (part_writes called (part_at rows second) i || part_writes called (part_at rows third) i)))
      → ReachAt S rows called row r
  unfolding arguments_write
  unwritten {sh} {own} {r} {first} {second} {third} f e er a b c w = rw er (record {
    written = λ i. false;
    own = set-nothing e;
    first = a;
    second = b;
    third = c;
    arguments = absent;
    all = λ i. ap (λ (t : Expression). writes called t i) f.is ∙ w i ∙ ends (part_writes called (part_at rows first) i) (part_writes called (part_at rows second) i) (part_writes called (part_at rows third) i);
  })
    where
      ends : (a b c : Bool) → (a || (b || c)) ≡ (a || (b || (c || false)))
      ends true b c = refl
      ends false true c = refl
      ends false false true = refl
      ends false false false = refl

  none-linked : {sh : ExpressionShape} {own : WriteSet} {r : Reach} → ExpressionAt rows row sh → own ≡ nothing → r ≡ reach_of own 0 0 0 0 → ((i : ℕ) → writes called (expression_tree rows sh) i ≡ false) → ReachAt S rows called row r
  none-linked f e er w = unwritten f e er absent absent absent w

  one-linked : {sh : ExpressionShape} {own : WriteSet} {r : Reach} {a : ℕ} → ExpressionAt rows row sh → own ≡ nothing → r ≡ reach_of own a 0 0 0 → Onward rows row a → ((i : ℕ) → writes called (expression_tree rows sh) i ≡ writes called (expression_at rows a) i) → ReachAt S rows called row r
  one-linked f e er o w = unwritten f e er (here o) absent absent (λ i. w i ∙ at called o i ∙ sym (or-none _))

  two_linked : {sh : ExpressionShape} {own : WriteSet} {r : Reach} {a b : ℕ} → ExpressionAt rows row sh → own ≡ nothing → r ≡ reach_of own a b 0 0 → Onward rows row a → Onward rows row b
      → ((i : ℕ) → writes called (expression_tree rows sh) i ≡ (writes called (expression_at rows a) i || writes called (expression_at rows b) i)) → ReachAt S rows called row r
  two_linked f e er oa ob w = unwritten f e er (here oa) (here ob) absent (λ i. w i ∙ ap₂ ◌||◌ (at called oa i) (at called ob i ∙ sym (or-none _)))

  -- ---- a clause each

  pub number-reach : {v : ℤ} {own : WriteSet} {r : Reach} → ExpressionAt rows row (Number v) → own ≡ nothing → r ≡ reach_of own 0 0 0 0 → ReachAt S rows called row r
  unfolding writes
  number-reach f e er = none-linked f e er (λ i. refl)

  pub variable-reach : {j : ℕ} {own : WriteSet} {r : Reach} → ExpressionAt rows row (Read (Variable j)) → own ≡ nothing → r ≡ reach_of own 0 0 0 0 → ReachAt S rows called row r
  unfolding writes index_writes
  variable-reach f e er = none-linked f e er (λ i. refl)

  pub element-reach : {array index : ℕ} {own : WriteSet} {r : Reach} → ExpressionAt rows row (Read (Element array index)) → own ≡ nothing → r ≡ reach_of own index 0 0 0 → ReachAt S rows called row r
  unfolding writes index_writes
  element-reach f e er = one-linked f e er f.onward.1 (λ i. refl)

  pub minus-reach : {a : ℕ} {own : WriteSet} {r : Reach} → ExpressionAt rows row (Operation (Minus a)) → own ≡ nothing → r ≡ reach_of own a 0 0 0 → ReachAt S rows called row r
  unfolding writes
  minus-reach f e er = one-linked f e er f.onward (λ i. refl)

  pub not-reach : {a : ℕ} {own : WriteSet} {r : Reach} → ExpressionAt rows row (Operation (Not a)) → own ≡ nothing → r ≡ reach_of own a 0 0 0 → ReachAt S rows called row r
  unfolding writes
  not-reach f e er = one-linked f e er f.onward (λ i. refl)

  pub binary-reach : {operator : Operator} {a b : ℕ} {own : WriteSet} {r : Reach} → ExpressionAt rows row (Operation (Binary operator a b)) → own ≡ nothing → r ≡ reach_of own a b 0 0 → ReachAt S rows called row r
  unfolding writes
  binary-reach f e er = two_linked f e er f.onward.0 f.onward.1 (λ i. refl)

  pub comma-reach : {a b : ℕ} {own : WriteSet} {r : Reach} → ExpressionAt rows row (Operation (Comma a b)) → own ≡ nothing → r ≡ reach_of own a b 0 0 → ReachAt S rows called row r
  unfolding writes
  comma-reach f e er = two_linked f e er f.onward.0 f.onward.1 (λ i. refl)

  pub and-reach : {a b : ℕ} {own : WriteSet} {r : Reach} → ExpressionAt rows row (Choice (And a b)) → own ≡ nothing → r ≡ reach_of own a b 0 0 → ReachAt S rows called row r
  unfolding writes
  and-reach f e er = two_linked f e er f.onward.0 f.onward.1 (λ i. refl)

  pub or-reach : {a b : ℕ} {own : WriteSet} {r : Reach} → ExpressionAt rows row (Choice (Or a b)) → own ≡ nothing → r ≡ reach_of own a b 0 0 → ReachAt S rows called row r
  unfolding writes
  or-reach f e er = two_linked f e er f.onward.0 f.onward.1 (λ i. refl)

  pub conditional-reach : {c a b : ℕ} {own : WriteSet} {r : Reach} → ExpressionAt rows row (Choice (Conditional c a b)) → own ≡ nothing → r ≡ reach_of own c a b 0 → ReachAt S rows called row r
  unfolding writes
  conditional-reach f e er = unwritten f e er (here f.onward.0) (here f.onward.1) (here f.onward.2) (λ i. ap₂ ◌||◌ (at called f.onward.0 i) (ap₂ ◌||◌ (at called f.onward.1 i) (at called f.onward.2 i)))

  -- ---- updates

  -- of a place with a value
  valued : {sh : ExpressionShape} {place v : ℕ} {r : Reach} → ExpressionAt rows row sh → UpdateAt S rows place v r → Onward rows row place → Onward rows row v
      → ((i : ℕ) → writes called (expression_tree rows sh) i ≡ (is_variable (place_of (expression_at rows place)) i || (index_writes called (place_of (expression_at rows place)) i || writes called (expression_at rows v) i)))
      → ReachAt S rows called row r
  unfolding arguments_write
  valued {place = place} {v} {r} f u op ov w = record {
    written = u.written;
    own = u.own;
    first = rw u.first_is (here ov);
    second = λ h. let x = u.second h in record { later = omega (arith, op.later, x.later); inside = x.inside };
    third = rw u.third-is absent;
    arguments = rw u.arguments-are absent;
    all = λ i.
        ap (λ (t : Expression). writes called t i) f.is ∙ w i
        ∙ sym (or_assoc (is_variable (place_of (expression_at rows place)) i) _ _)
        ∙ ap (λ (x : Bool). x || writes called (expression_at rows v) i) (u.all called i)
        ∙ turned (u.written i) (part_writes called (part_at rows r.second) i) (writes called (expression_at rows v) i)
        ∙ ap (λ (x : Bool). u.written i || (x || part_writes called (part_at rows r.second) i)) (at called ov i ∙ ap (λ (l : ℕ). part_writes called (part_at rows l) i) (sym u.first_is))
        ∙ ap (λ (x : Bool). u.written i || (part_writes called (part_at rows r.first) i || x)) (ends i);
  }
    where
      turned : (a b c : Bool) → ((a || b) || c) ≡ (a || (c || b))
      turned true b c = refl
      turned false true true = refl
      turned false true false = refl
      turned false false true = refl
      turned false false false = refl

      ends : (i : ℕ) → part_writes called (part_at rows r.second) i ≡ (part_writes called (part_at rows r.second) i || (part_writes called (part_at rows r.third) i || arguments_write called (argument_list_at rows r.arguments) i))
      ends i = rw (u.third-is, u.arguments-are) (sym (or-none _))

  pub assign-reach : {place v : ℕ} {r : Reach} → ExpressionAt rows row (Operation (Assign place v)) → UpdateAt S rows place v r → ReachAt S rows called row r
  unfolding writes
  assign-reach f u = valued f u f.onward.0 f.onward.1 (λ i. refl)

  pub compound-reach : {operator : Operator} {place v : ℕ} {r : Reach} → ExpressionAt rows row (Operation (Compound operator place v)) → UpdateAt S rows place v r → ReachAt S rows called row r
  unfolding writes
  compound-reach f u = valued f u f.onward.0 f.onward.1 (λ i. refl)

  -- by one
  stepped : {sh : ExpressionShape} {place : ℕ} {r : Reach} → ExpressionAt rows row sh → UpdateAt S rows place 0 r → Onward rows row place
      → ((i : ℕ) → writes called (expression_tree rows sh) i ≡ place_writes called (place_of (expression_at rows place)) i) → ReachAt S rows called row r
  unfolding arguments_write
  stepped {place = place} {r} f u op w = record {
    written = u.written;
    own = u.own;
    first = rw u.first_is absent;
    second = λ h. let x = u.second h in record { later = omega (arith, op.later, x.later); inside = x.inside };
    third = rw u.third-is absent;
    arguments = rw u.arguments-are absent;
    all = λ i. ap (λ (t : Expression). writes called t i) f.is ∙ w i ∙ u.all called i ∙ rw (u.first_is, u.third-is, u.arguments-are) (ap (λ (x : Bool). u.written i || x) (sym (or-none _)));
  }

  pub prefix-reach : {operator : Operator} {place : ℕ} {r : Reach} → ExpressionAt rows row (Operation (Prefix operator place)) → UpdateAt S rows place 0 r → ReachAt S rows called row r
  unfolding writes
  prefix-reach f u = stepped f u f.onward (λ i. refl)

  pub postfix-reach : {operator : Operator} {place : ℕ} {r : Reach} → ExpressionAt rows row (Operation (Postfix operator place)) → UpdateAt S rows place 0 r → ReachAt S rows called row r
  unfolding writes
  postfix-reach f u = stepped f u f.onward (λ i. refl)

  -- ---- a call

  pub call-reach : {f first : ℕ} {own : WriteSet} {r : Reach} → ExpressionAt rows row (Call f first) → SetIs S own (called f) → r ≡ reach_of own 0 0 0 first → ReachAt S rows called row r
  unfolding writes
  call-reach {f} g x er = rw er (record {
    written = called f;
    own = x;
    first = absent;
    second = absent;
    third = absent;
    arguments = g.onward;
    all = λ i. ap (λ (t : Expression). writes called t i) g.is;
  })

-- by the set in the table
pub called-reach : {S : ℕ} {rows : List ℤ} {row f first : ℕ} (sets : List WriteSet) (known : ℕ) {own : WriteSet} {r : Reach} → ExpressionAt rows row (Call f first) → own ≡ function_set sets known f → r ≡ reach_of own 0 0 0 first → ReachedWith S rows sets known row r
called-reach {S} {f = f} sets known g e er called held = call-reach called g (subst (λ (z : WriteSet). SetIs S z (called f)) (sym e) (held f _ g.is)) er

module _ {S : ℕ} {rows : List ℤ} {place : ℕ} (names : NamesFrom S rows) where
  pub variable-update : {i value : ℕ} {own : WriteSet} {r : Reach} → PlaceAt rows place (Variable i) → own ≡ single S i → r ≡ reach_of own value 0 0 0 → UpdateAt S rows place value r
  unfolding index_writes
  variable-update {i} f e er = rw er (record {
    written = eqb i;
    own = set_single i (f.onward.named S names) e;
    first_is = refl;
    second = absent;
    third-is = refl;
    arguments-are = refl;
    all = λ called j. rw f.is;
  })

pub element-update : {S : ℕ} {rows : List ℤ} {place array index value : ℕ} {own : WriteSet} {r : Reach} → PlaceAt rows place (Element array index) → own ≡ nothing → r ≡ reach_of own value index 0 0 → UpdateAt S rows place value r
unfolding index_writes
element-update {rows = rows} {index = index} f e er = rw er (record {
  written = λ i. false;
  own = set-nothing e;
  first_is = refl;
  second = here f.onward.1;
  third-is = refl;
  arguments-are = refl;
  all = λ called j. rw f.is (sym (some called rows index j (omega (arith, f.onward.1.later))));
})

-- ---- the set of a row

-- from those of its own and of its links
pub reach-set : {S : ℕ} {rows : List ℤ} {called : ℕ → ℕ → Bool} {row : ℕ} {r : Reach} {a b c d t u v s : WriteSet} → ReachAt S rows called row r
    → SetIs S a (part_writes called (part_at rows r.first)) → SetIs S b (part_writes called (part_at rows r.second)) → SetIs S c (part_writes called (part_at rows r.third)) → SetIs S d (arguments_write called (argument_list_at rows r.arguments))
    → t ≡ join c d → u ≡ join b t → v ≡ join a u → s ≡ join r.own v → SetIs S s (writes called (expression_at rows row))
reach-set {a = a} {b} {c} {d} {t} {u} {v} reach xa xb xc xd et eu ev es =
    set-as _ _ (set-join _ v _ _ reach.own (set-join a u _ _ xa (set-join b t _ _ xb (set-join c d _ _ xc xd et) eu) ev) es) (λ i. sym (reach.all i))

-- the function that a row calls has its set while its own row has not
pub call-held : {S : ℕ} {rows : List ℤ} {sets : List WriteSet} {row : ℕ} → Source rows → row < row_count rows → FunctionSets S rows sets row → (f : ℕ) (arguments : Arguments) → expression_at rows row ≡ call f arguments → SetIs S (function_set sets row f) (called_in rows f)
call-held {S} {rows} {sets} {row} s inside m f arguments e =
    let below = call-behind s inside e in
    subst (λ (z : WriteSet). SetIs S z (called_in rows f)) (function-known sets row f below refl) (m.function-set f below (call-defined s inside e))

pub row-reach : {S : ℕ} {rows : List ℤ} {sets : List WriteSet} {row : ℕ} {r : Reach} → SetsFrom S rows sets (row + 1) → FunctionSets S rows sets row → row < row_count rows → ReachedWith S rows sets row row r → ReachAt S rows (called_in rows) row r
row-reach {rows = rows} m functions inside reached = reached (called_in rows) (call-held m.source inside functions)
