-- Accepts: the flat list's check accepts the legal lists and no others.
use Rattle.std.specs.Prelude.{◌≡◌, Bool, not, ◌&&◌, ◌||◌, List, ℕ, suc, ◌+◌, ◌-◌, ◌%◌, ◌^◌, ◌≤◌, ◌<◌, eqb, leb, ℤ, negsuc, length, None, Some, Ok}
use Rattle.std.proofs.Math.Path.{refl, ap}
use Rattle.std.proofs.Common.{sym, ◌∙◌}
use Rattle.std.proofs.Math.Bool.{true, false}
use Rattle.std.proofs.lemmas.Bool.{false≢true}
use native.Mathlib.Omega.{arith}
use Rattle.std.proofs.Math.Dec.{ltb}
use Rattle.std.proofs.Math.IntN.{pos}
use borrow.Author.Tests.{ltb-true, lt-ltb, leb-true, le-leb, eqb-true, eqb-false, eq-eqb, ne_eqb, not-true, not-false}
use Rattle.words.specs.Word.{natural, pick}
use Rattle.words.specs.Kinds.{variable, array, between, operator_of, operators}
use Rattle.words.specs.Laws.{by_cases, both, natural-pos, header_fits-facts}
use Rattle.words.specs.Layout.{header_fits, store_size, header_store}
use Rattle.words.specs.Search.{some, lowest}
use Rattle.words.specs.SearchLaws.{lowest-all, all-lowest, some-all}
use Rattle.words.specs.declared.Form.TheVariants.{Kernel}
use Rattle.words.specs.declared.Operator.{Operator}
use Rattle.check_fields.specs.Fields.{bounds_of, number_fits}
use Rattle.check_structure.specs.Refusal.{at, unless}
use Rattle.check_structure.specs.RefusalLaws.{next-accepts, accepts-next, at-accepts, accepts-at, unless-accepts, accepts-unless}
use Rattle.check_fields.specs.declared.Bounds.{Bounds}
use Rattle.language_emission.specs.Emission.{operator_number}
use Rattle.flat.specs.Lines.{Operand, number, word, copy, minus, operate, fetch, put, FlatLine, does, jump, jump_zero, jump_other, abort}
use Rattle.flat.specs.Words.{distance, target_of, Parts, parts, unused, line_parts, sort_of, word_of, operation_of, line_count, field_at, operation_at, kind_of, left_constant, right_constant, operand_of, Written}
use Rattle.flat.proofs.WordsLaws.{distance-onward, distance_back, operator-few, kind-small, is_number, one, kind-back, left_back, right-back, operation-small, operation-whole, operation-back}
use Rattle.flat.specs.Refusal.{shape, shape_of, is_kind, or_unused, constant_fits, known_operation, unknown_operation, lands_inside, jump_outside, holds_right, number_outside, line_causes, refusal}
use Rattle.flat.specs.Legal.{WithinOperand, Within, LegalLine, LegalFlat}
use Rattle.flat.specs.declared.Holds.TheVariants.{Atom, Variable}
use Rattle.flat.specs.declared.LineShape.{LineShape}
use Rattle.flat.specs.LineKinds.{LineKind, aborts, copies, fetches, jumps, jumps_at_zero, jumps_otherwise, negates, operates, puts}

-- ---- the kinds of lines

pub operator-shape : (k : ℕ) → 6 ≤ k → k ≤ 16 → shape_of k ≡ Some (shape Variable Atom Atom false)
unfolding shape_of
operator-shape k p q = rw (ne_eqb k 1 (λ e. omega arith), ne_eqb k 3 (λ e. omega arith), ne_eqb k 4 (λ e. omega arith), le-leb 6 k p, le-leb k 16 q)

pub operate-shape : (o : Operator) → shape_of (6 + operator_number o) ≡ Some (shape Variable Atom Atom false)
operate-shape o = operator-shape (6 + operator_number o) (omega arith) (omega (arith, operator-few o))

-- the operator of a kind
operator-number : (n : ℕ) → n ≤ 10 → operator_number (operator_of n) ≡ n
unfolding some operator_of operators
operator-number n h = eqb-true _ _ (not-false _ (some-all (λ k. not (eqb (operator_number (operator_of k)) k)) 11 0 refl n (omega arith) (omega arith)))

-- A kind with a shape is one of the table.
pub line-kind : (k : ℕ) → is_kind (shape_of k) ≡ true → LineKind k
unfolding shape_of
line-kind k e =
    by_cases (eqb k 1) (λ t. rw (eqb-true k 1 t) copies)
    (λ n1. by_cases (eqb k 3) (λ t. rw (eqb-true k 3 t) fetches)
    (λ n3. by_cases (eqb k 4) (λ t. rw (eqb-true k 4 t) negates)
    (λ n4. by_cases (between 6 16 k) (λ t. operator (leb-true 6 k (both (leb 6 k) (leb k 16) t).0) (leb-true k 16 (both (leb 6 k) (leb k 16) t).1))
    (λ n6. by_cases (eqb k 21) (λ t. rw (eqb-true k 21 t) puts)
    (λ n21. by_cases (between 43 44 k) (λ t. test (leb-true 43 k (both (leb 43 k) (leb k 44) t).0) (leb-true k 44 (both (leb 43 k) (leb k 44) t).1))
    (λ n43. by_cases (eqb k 52) (λ t. rw (eqb-true k 52 t) jumps)
    (λ n52. by_cases (eqb k 57) (λ t. rw (eqb-true k 57 t) aborts)
    (λ n57. absurd (false≢true (rw (n1, n3, n4, n6, n21, n43, n52, n57) at e))))))))))
  where
    operator : 6 ≤ k → k ≤ 16 → LineKind k
    operator p q = let same : 6 + operator_number (operator_of (k - 6)) ≡ k = omega (arith, operator-number (k - 6) (omega arith)) in operates (operator_of (k - 6)) (sym same)

    test : 43 ≤ k → k ≤ 44 → LineKind k
    test p q = by_cases (eqb k 43) (λ t. rw (eqb-true k 43 t) jumps_at_zero) (λ t. let same : k ≡ 44 = omega (arith, eqb-false k 43 t) in rw same jumps_otherwise)

-- ---- from the tests to a line

-- a word that is a small number
named-word : (z : ℤ) → natural z < 2 ^ 31 → z ≡ pos (natural z)
named-word z h = natural-pos z (natural z) refl h

zero_word : (z : ℤ) → eqb (natural z) 0 ≡ true → z ≡ pos 0
zero_word z e = natural-pos z 0 (eqb-true (natural z) 0 e) (omega arith)

-- numbers that fit are small
pub record Small (bounds : Bounds) : Type 0 where
  pub few_variables : bounds.variables ≤ bounds.words
  pub few_words : bounds.words ≤ 16448
  pub few_arrays : bounds.arrays ≤ 32

module _ (bounds : Bounds) (small : Small bounds) (n : ℕ) where
  pub variable-below : number_fits bounds variable n ≡ true → n < bounds.words
  unfolding number_fits
  variable-below e = go (ltb n bounds.variables) refl e
    where
      go : (t : Bool) → ltb n bounds.variables ≡ t → (t || (leb bounds.store n && ltb n bounds.words)) ≡ true → n < bounds.words
      go true t e = omega (arith, ltb-true n bounds.variables t)
      go false t e = ltb-true n bounds.words (both (leb bounds.store n) (ltb n bounds.words) e).1

  pub array-below : number_fits bounds array n ≡ true → n < bounds.arrays
  unfolding number_fits
  array-below e = ltb-true n bounds.arrays e

module _ (bounds : Bounds) (small : Small bounds) (constant : Bool) (z : ℤ) where
  -- what a word of each sort is, where it holds what it should
  record Unused-is : Type 0 where
    operand-is : operand_of constant z ≡ unused
    word-is : z ≡ word_of (operand_of constant z)

  unused-is : not constant ≡ true → eqb (natural z) 0 ≡ true → Unused-is
  unfolding natural
  unused-is c e = rw (not-true constant c, zero_word z e) (record { operand-is = refl; word-is = refl })

  record Array-is : Type 0 where
    operand-is : operand_of constant z ≡ word (natural z)
    word-is : z ≡ word_of (operand_of constant z)

  array-is : not constant ≡ true → number_fits bounds array (natural z) ≡ true → Array-is
  array-is c e =
      let below = array-below bounds small (natural z) e in
      record { operand-is = ap (λ (b : Bool). operand_of b z) (not-true constant c); word-is = rw (not-true constant c) (named-word z (omega arith)) }

  record Atom-is : Type 0 where
    word-is : z ≡ word_of (operand_of constant z)
    within : WithinOperand bounds (operand_of constant z)

  atom-is : (constant || number_fits bounds variable (natural z)) ≡ true → Atom-is
  atom-is e = let found = go constant e in record { word-is = found.0; within = found.1 }
    where
      go : (c : Bool) → (c || number_fits bounds variable (natural z)) ≡ true → (z ≡ word_of (operand_of c z)) × WithinOperand bounds (operand_of c z)
      go true e = (refl, tt)
      go false e = let below = variable-below bounds small (natural z) e in (named-word z (omega arith), e)

-- The words of a line of kind k: the line, its parts, and that it names what there is.
module _ (bounds : Bounds) (i lines : ℕ) (k : ℕ) (leftIs rightIs : Bool) (t l r d : ℤ) where
  record Made : Type 0 where
    line : FlatLine
    same_parts : line_parts i line ≡ parts k (natural t) (operand_of leftIs l) (operand_of rightIs r) d
    target-word : t ≡ pos (natural t)
    left_word : l ≡ word_of (operand_of leftIs l)
    right_word : r ≡ word_of (operand_of rightIs r)
    within : Within bounds lines line

-- The tests of the three causes, as they come out for one shape.
record Passes (bounds : Bounds) (i lines : ℕ) (s : LineShape) (leftIs rightIs : Bool) (t l r d : ℤ) : Type 0 where
  left_fits : constant_fits leftIs s.left ≡ true
  right_fits : constant_fits rightIs s.right ≡ true
  lands : pick s.jumps (lands_inside i lines d) (eqb (natural d) 0) ≡ true
  target_holds : holds_right bounds s.target false t ≡ true
  left_holds : holds_right bounds s.left leftIs l ≡ true
  right_holds : holds_right bounds s.right rightIs r ≡ true

-- where a jump that lands goes, and back
target-back : (i lines : ℕ) (d : ℤ) → lands_inside i lines d ≡ true → distance i (target_of i d) ≡ d
target-back i lines (pos d) e = distance-onward i d
target-back i lines (negsuc d) e = distance_back i d (leb-true d i e)

target-inside : (i lines : ℕ) (d : ℤ) → i < lines → lands_inside i lines d ≡ true → target_of i d ≤ lines
target-inside i lines (pos d) h e = leb-true (suc i + d) lines e
target-inside i lines (negsuc d) h e = omega arith

module _ (bounds : Bounds) (small : Small bounds) (i lines : ℕ) (inside : i < lines) (leftIs rightIs : Bool) (t l r d : ℤ) where
  variable-word : number_fits bounds variable (natural t) ≡ true → t ≡ pos (natural t)
  variable-word e = let below = variable-below bounds small (natural t) e in named-word t (omega (arith, small.few_words))

  array-word : number_fits bounds array (natural t) ≡ true → t ≡ pos (natural t)
  array-word e = let below = array-below bounds small (natural t) e in named-word t (omega (arith, small.few_arrays))

  operated : {k : ℕ} (o : Operator) → k ≡ 6 + operator_number o → Passes bounds i lines (shape Variable Atom Atom false) leftIs rightIs t l r d → Made bounds i lines k leftIs rightIs t l r d
  operated o e p =
      let a = atom-is bounds small leftIs l p.left_holds in
      let b = atom-is bounds small rightIs r p.right_holds in
      record {
        line = does (operate o (natural t) (operand_of leftIs l) (operand_of rightIs r));
        same_parts = rw (e, zero_word d p.lands);
        target-word = variable-word p.target_holds;
        left_word = a.word-is;
        right_word = b.word-is;
        within = (p.target_holds, a.within, b.within);
      }

  made : {k : ℕ} → LineKind k → Passes bounds i lines (or_unused (shape_of k)) leftIs rightIs t l r d → Made bounds i lines k leftIs rightIs t l r d
  unfolding shape_of natural
  made copies p =
      let a = atom-is bounds small leftIs l p.left_holds in
      let b = unused-is bounds small rightIs r p.right_fits p.right_holds in
      record {
        line = does (copy (natural t) (operand_of leftIs l));
        same_parts = rw (b.operand-is, zero_word d p.lands);
        target-word = variable-word p.target_holds;
        left_word = a.word-is;
        right_word = b.word-is;
        within = (p.target_holds, a.within);
      }
  made fetches p =
      let a = array-is bounds small leftIs l p.left_fits p.left_holds in
      let b = atom-is bounds small rightIs r p.right_holds in
      record {
        line = does (fetch (natural t) (natural l) (operand_of rightIs r));
        same_parts = rw (a.operand-is, zero_word d p.lands);
        target-word = variable-word p.target_holds;
        left_word = a.word-is;
        right_word = b.word-is;
        within = (p.target_holds, p.left_holds, b.within);
      }
  made negates p =
      let a = atom-is bounds small leftIs l p.left_holds in
      let b = unused-is bounds small rightIs r p.right_fits p.right_holds in
      record {
        line = does (minus (natural t) (operand_of leftIs l));
        same_parts = rw (b.operand-is, zero_word d p.lands);
        target-word = variable-word p.target_holds;
        left_word = a.word-is;
        right_word = b.word-is;
        within = (p.target_holds, a.within);
      }
  made (operates o e) p = operated o e (rw (ap shape_of e ∙ operate-shape o) at p)
  made puts p =
      let a = atom-is bounds small leftIs l p.left_holds in
      let b = atom-is bounds small rightIs r p.right_holds in
      record {
        line = does (put (natural t) (operand_of leftIs l) (operand_of rightIs r));
        same_parts = rw (zero_word d p.lands);
        target-word = array-word p.target_holds;
        left_word = a.word-is;
        right_word = b.word-is;
        within = (p.target_holds, a.within, b.within);
      }
  made jumps_at_zero p =
      let a = atom-is bounds small leftIs l p.left_holds in
      let b = unused-is bounds small rightIs r p.right_fits p.right_holds in
      record {
        line = jump_zero (operand_of leftIs l) (target_of i d);
        same_parts = rw (b.operand-is, zero_word t p.target_holds, target-back i lines d p.lands);
        target-word = rw (zero_word t p.target_holds);
        left_word = a.word-is;
        right_word = b.word-is;
        within = (a.within, target-inside i lines d inside p.lands);
      }
  made jumps_otherwise p =
      let a = atom-is bounds small leftIs l p.left_holds in
      let b = unused-is bounds small rightIs r p.right_fits p.right_holds in
      record {
        line = jump_other (operand_of leftIs l) (target_of i d);
        same_parts = rw (b.operand-is, zero_word t p.target_holds, target-back i lines d p.lands);
        target-word = rw (zero_word t p.target_holds);
        left_word = a.word-is;
        right_word = b.word-is;
        within = (a.within, target-inside i lines d inside p.lands);
      }
  made jumps p =
      let a = unused-is bounds small leftIs l p.left_fits p.left_holds in
      let b = unused-is bounds small rightIs r p.right_fits p.right_holds in
      record {
        line = jump (target_of i d);
        same_parts = rw (a.operand-is, b.operand-is, zero_word t p.target_holds, target-back i lines d p.lands);
        target-word = rw (zero_word t p.target_holds);
        left_word = a.word-is;
        right_word = b.word-is;
        within = target-inside i lines d inside p.lands;
      }
  made aborts p =
      let a = unused-is bounds small leftIs l p.left_fits p.left_holds in
      let b = unused-is bounds small rightIs r p.right_fits p.right_holds in
      record {
        line = abort;
        same_parts = rw (a.operand-is, b.operand-is, zero_word t p.target_holds, zero_word d p.lands);
        target-word = rw (zero_word t p.target_holds);
        left_word = a.word-is;
        right_word = b.word-is;
        within = tt;
      }

-- ---- a line that breaks no cause is legal

sort-is : (constant : Bool) (z : ℤ) → sort_of (operand_of constant z) ≡ one constant
sort-is true z = refl
sort-is false z = refl

module _ (bounds : Bounds) (small : Small bounds) (list : List ℤ) (i : ℕ) (inside : i < line_count list) where
  abbrev operation : ℕ
  operation = operation_at list i

  abbrev kind : ℕ
  kind = kind_of operation

  -- what the three tests say
  record Tested : Type 0 where
    below : operation < 256
    known : is_kind (shape_of kind) ≡ true
    passes : Passes bounds i (line_count list) (or_unused (shape_of kind)) (left_constant operation) (right_constant operation) (field_at list i 1) (field_at list i 2) (field_at list i 3) (field_at list i 4)

  tested : unknown_operation list i ≡ false → jump_outside list i ≡ false → number_outside bounds list i ≡ false → Tested
  unfolding unknown_operation known_operation jump_outside number_outside
  tested e f g =
      let s = or_unused (shape_of kind) in
      let third = both (ltb operation 256) _ (not-false _ e) in
      let fourth = both (is_kind (shape_of kind)) _ third.1 in
      let sorts = both (constant_fits (left_constant operation) s.left) (constant_fits (right_constant operation) s.right) fourth.1 in
      let sixth = both (holds_right bounds s.target false (field_at list i 1)) _ (not-false _ g) in
      let operands = both (holds_right bounds s.left (left_constant operation) (field_at list i 2)) (holds_right bounds s.right (right_constant operation) (field_at list i 3)) sixth.1 in
      record {
        below = ltb-true operation 256 third.0;
        known = fourth.0;
        passes = record { left_fits = sorts.0; right_fits = sorts.1; lands = not-false _ f; target_holds = sixth.0; left_holds = operands.0; right_holds = operands.1 };
      }

  legal-line : Tested → LegalLine bounds list i
  unfolding operation_at operation_of
  legal-line q =
      let m = made bounds small i (line_count list) inside (left_constant operation) (right_constant operation) (field_at list i 1) (field_at list i 2) (field_at list i 3) (field_at list i 4) (line-kind kind q.known) q.passes in
      record {
        line = m.line;
        written = rw m.same_parts (record {
          operation_word =
              named-word (field_at list i 0) (omega (arith, q.below))
              ∙ ap pos (operation-whole operation q.below ∙ rw (sort-is (left_constant operation) (field_at list i 2), sort-is (right_constant operation) (field_at list i 3)));
          target-word = m.target-word;
          left_word = m.left_word;
          right_word = m.right_word;
          distance_word = refl;
        });
        within = m.within;
      }

-- ---- a legal line breaks no cause

pub lands-distance : (i j lines : ℕ) → i < lines → j ≤ lines → lands_inside i lines (distance i j) ≡ true
lands-distance i j lines h k = by (ltb i j) refl
  where
    by : (b : Bool) → ltb i j ≡ b → lands_inside i lines (pick b (pos (j - suc i)) (negsuc (i - j))) ≡ true
    by true e = le-leb (suc i + (j - suc i)) lines (let below = ltb-true i j e in omega arith)
    by false e = le-leb (i - j) i (omega arith)

module _ (bounds : Bounds) (i lines : ℕ) (inside : i < lines) where
  atom-holds : (a : Operand) → WithinOperand bounds a → (is_number a || number_fits bounds variable (natural (word_of a))) ≡ true
  unfolding natural
  atom-holds (number v) w = refl
  atom-holds (word k) w = w

  abbrev PassesLine : FlatLine → Type 0
  PassesLine x = let p = line_parts i x in Passes bounds i lines (or_unused (shape_of p.kind)) (is_number p.left) (is_number p.right) (pos p.target) (word_of p.left) (word_of p.right) p.distance_is

  line_known : (x : FlatLine) → is_kind (shape_of (line_parts i x).kind) ≡ true
  unfolding shape_of
  line_known (does (copy x a)) = refl
  line_known (does (minus x a)) = refl
  line_known (does (operate o x a b)) = ap is_kind (operate-shape o)
  line_known (does (fetch x k a)) = refl
  line_known (does (put k a b)) = refl
  line_known (jump j) = refl
  line_known (jump_zero a j) = refl
  line_known (jump_other a j) = refl
  line_known abort = refl

  line-passes : (x : FlatLine) → Within bounds lines x → PassesLine x
  unfolding shape_of natural
  line-passes (does (copy x a)) w = record { left_fits = refl; right_fits = refl; lands = refl; target_holds = w.0; left_holds = atom-holds a w.1; right_holds = refl }
  line-passes (does (minus x a)) w = record { left_fits = refl; right_fits = refl; lands = refl; target_holds = w.0; left_holds = atom-holds a w.1; right_holds = refl }
  line-passes (does (operate o x a b)) w =
      rw (operate-shape o) (record { left_fits = refl; right_fits = refl; lands = refl; target_holds = w.0; left_holds = atom-holds a w.1; right_holds = atom-holds b w.2 })
  line-passes (does (fetch x k a)) w = record { left_fits = refl; right_fits = refl; lands = refl; target_holds = w.0; left_holds = w.1; right_holds = atom-holds a w.2 }
  line-passes (does (put k a b)) w = record { left_fits = refl; right_fits = refl; lands = refl; target_holds = w.0; left_holds = atom-holds a w.1; right_holds = atom-holds b w.2 }
  line-passes (jump j) w = record { left_fits = refl; right_fits = refl; lands = lands-distance i j lines inside w; target_holds = refl; left_holds = refl; right_holds = refl }
  line-passes (jump_zero a j) w = record { left_fits = refl; right_fits = refl; lands = lands-distance i j lines inside w.1; target_holds = refl; left_holds = atom-holds a w.0; right_holds = refl }
  line-passes (jump_other a j) w = record { left_fits = refl; right_fits = refl; lands = lands-distance i j lines inside w.1; target_holds = refl; left_holds = atom-holds a w.0; right_holds = refl }
  line-passes abort w = record { left_fits = refl; right_fits = refl; lands = refl; target_holds = refl; left_holds = refl; right_holds = refl }

module _ (bounds : Bounds) (list : List ℤ) (i : ℕ) (inside : i < line_count list) (x : FlatLine) (w : Written list i (line_parts i x)) (h : Within bounds (line_count list) x) where
  abbrev p : Parts
  p = line_parts i x

  abbrev passed : PassesLine bounds i (line_count list) inside x
  passed = line-passes bounds i (line_count list) inside x h

  no-unknown : unknown_operation list i ≡ false
  unfolding unknown_operation known_operation
  no-unknown =
      let k = kind-small i x in
      rw (operation-back w, lt-ltb (operation_of p) 256 (operation-small p k), kind-back p k, left_back p k, right-back p k, line_known bounds i (line_count list) inside x, passed.left_fits, passed.right_fits)

  no-jump-outside : jump_outside list i ≡ false
  unfolding jump_outside
  no-jump-outside = rw (operation-back w, kind-back p (kind-small i x), w.distance_word, passed.lands)

  no-number-outside : number_outside bounds list i ≡ false
  unfolding number_outside
  no-number-outside =
      let k = kind-small i x in
      rw (operation-back w, kind-back p k, left_back p k, right-back p k, w.target-word, w.left_word, w.right_word, passed.target_holds, passed.left_holds, passed.right_holds)

-- ---- the theorem

-- The bounds of a header within its limits are small.
pub small-bounds : (header : List ℤ) → header_fits Kernel header ≡ true → Small (bounds_of Kernel header)
unfolding bounds_of header_store store_size
small-bounds header e =
    let f = header_fits-facts Kernel header e in
    record { few_variables = omega arith; few_words = omega (arith, f.small_store, f.few_declared, f.few_temporaries); few_arrays = f.few_arrays }

-- a cause that no line breaks
none : (list : List ℤ) (p : ℕ → Bool) → lowest p 0 (line_count list) ≡ None → (i : ℕ) → i < line_count list → p i ≡ false
none list p found i h = lowest-all p (line_count list) 0 found i (omega arith) (omega arith)

module _ (header list : List ℤ) where
  pub accepted-legal : refusal header list ≡ (Ok tt) → LegalFlat header list
  unfolding refusal line_causes
  accepted-legal e =
      let c1 = next-accepts (unless (header_fits Kernel header) 1) _ e in
      let c2 = next-accepts (unless (eqb (length list % 5) 0) 2) _ c1.1 in
      let c3 = next-accepts (at 3 _) _ c2.1 in
      let c4 = next-accepts (at 4 _) (at 6 _) c3.1 in
      let fits = unless-accepts (header_fits Kernel header) 1 c1.0 in
      record {
        header-fits = fits;
        whole = eqb-true (length list % 5) 0 (unless-accepts (eqb (length list % 5) 0) 2 c2.0);
        lines = λ i h.
            legal-line (bounds_of Kernel header) (small-bounds header fits) list i h
            (tested (bounds_of Kernel header) (small-bounds header fits) list i h (none list (unknown_operation list) (at-accepts 3 _ c3.0) i h) (none list (jump_outside list) (at-accepts 4 _ c4.0) i h) (none list (number_outside (bounds_of Kernel header) list) (at-accepts 6 _ c4.1) i h));
      }

  pub legal_accepted : LegalFlat header list → refusal header list ≡ (Ok tt)
  unfolding refusal line_causes
  legal_accepted l =
      accepts-next (unless (header_fits Kernel header) 1) _ (accepts-unless (header_fits Kernel header) 1 l.header-fits)
      (accepts-next (unless (eqb (length list % 5) 0) 2) _ (accepts-unless (eqb (length list % 5) 0) 2 (eq-eqb (length list % 5) 0 l.whole))
      (accepts-next (at 3 _) _ (accepts-at 3 _ (all-lowest (unknown_operation list) (line_count list) 0 (λ i a b. let h : i < line_count list = omega arith in let x = l.lines i h in no-unknown (bounds_of Kernel header) list i h x.line x.written x.within)))
      (accepts-next (at 4 _) (at 6 _) (accepts-at 4 _ (all-lowest (jump_outside list) (line_count list) 0 (λ i a b. let h : i < line_count list = omega arith in let x = l.lines i h in no-jump-outside (bounds_of Kernel header) list i h x.line x.written x.within)))
      (accepts-at 6 _ (all-lowest (number_outside (bounds_of Kernel header) list) (line_count list) 0 (λ i a b. let h : i < line_count list = omega arith in let x = l.lines i h in no-number-outside (bounds_of Kernel header) list i h x.line x.written x.within))))))

  -- The check accepts the legal flat lists and no others.
  pub accepts-legal : (refusal header list ≡ (Ok tt) → LegalFlat header list) × (LegalFlat header list → refusal header list ≡ (Ok tt))
  accepts-legal = (accepted-legal, legal_accepted)
