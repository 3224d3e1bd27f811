-- Laws of what the code writes and tests: equal headers, rows written word by word, the order of causes, what the checks leave to the join.
use Rattle.std.specs.Prelude.{◌≡◌, Bool, true, false, not, List, [], ◌∷◌, ℕ, zero, suc, ◌+◌, ◌≤◌, ◌<◌, leb, ℤ, pos, length, get_or, take, drop, Err, Ok, Result}
use Rattle.std.proofs.Math.Path.{refl, ap}
use Rattle.std.proofs.Common.{sym, ◌∙◌, subst, arith, add-one, length-append, take_all, le-leb}
use Rattle.std.proofs.Math.ListN.{drop_of_length-le}
use Rattle.std.proofs.Math.Seq.{drop-cons}
use Rattle.std.proofs.lemmas.Bool.{lt-leb}
use Rattle.std.specs.Bool.{Decides}
use Rattle.std.specs.Cmp.Lexicographic.{pointwise}
use Rattle.std.specs.Result.{IsErrAnd}
use Rattle.std.proofs.lemmas.Result.{err_from_is_err_and}
use Rattle.std.specs.Ordering.{int_eq}
use Rattle.std.proofs.lemmas.Bool.Decides.{same_from_decides, Decides-int_eq}
use Rattle.std.proofs.lemmas.Slice.Eq.{slice_eq-Decides}
use Rattle.words.specs.Word.{same_word}
use Rattle.words.specs.Laws.{by_cases, count_fits-facts, same_word-refl}
use Rattle.words.specs.Over.{over}
use Rattle.words.specs.OverLaws.{length_over, take-over}
use Rattle.words.specs.Table.{row_count}
use Rattle.words.specs.Links.{link}
use Rattle.words.specs.declared.Form.TheVariants.{Source}
use Rattle.words.specs.Refusals.{NumberedRefusal}
use Rattle.check_fields.specs.Fields.{bounds_of}
use Rattle.check_structure.specs.Refusal.{unless, ◌next◌}
use Rattle.check_structure.specs.RefusalLaws.{next-accepts}
use Rattle.check_fields.specs.declared.Bounds.{Bounds}
use Rattle.check_structure.specs.Structured.{Structured}
use Rattle.check_structure.specs.StructuredLaws.{structured-tree}
use Rattle.check_source.specs.Refusal.{refusal}
use Rattle.check_source.proofs.AcceptsLegal.{accepts-legal}
use Rattle.check_source.specs.Legal.{Legal}
use Rattle.check_function_causes.specs.Functions.{is_definition}
use Rattle.check_function_causes.specs.Demands.{WellCalled}
use Rattle.check_function_causes.proofs.FrontLaws.{block-undefined}
use Rattle.join.specs.Join.{functions_from, functions_of, joined_rows, same_header, rows_refusal, own_refusal, join_refusal}
use Rattle.join.proofs.JoinLaws.{same-header}
use Rattle.join_names.proofs.JoinedFateLaws.{accepted-joins}
use Rattle.join_names.proofs.JoinedNames.{function-below}
use Rattle.join.proofs.JoinedRows.{length-joined, count-joined}
use Rattle.join.proofs.JoinedStructured.{joined-structured}
use Rattle.join_rows.specs.Parts.{FunctionNumbers, Parts}
use Rattle.joiner.specs.Joinable.{Joinable}
use Rattle.joiner.specs.Joining.{JoinResult, answer_and_rows, join_after, join_result, WritesJoin}

-- ---- equal headers

module _ (header other : List ℤ) where
  pub headers-unlike : (length header ≡ length other → ⊥) → same_header header other ≡ false
  headers-unlike d = by_cases (same_header header other) (λ e. absurd (d (ap length (same-header header other e)))) (λ e. e)

  module _ (i : ℕ) (inside : i < length header) (within : i < length other) where
    pub headers-differ : same_word (get_or header i (pos 0)) (get_or other i (pos 0)) ≡ false → same_header (drop i header) (drop i other) ≡ false
    unfolding same_header
    headers-differ e = rw (drop-cons header i (pos 0) inside, drop-cons other i (pos 0) within, e)

    pub headers-agree : same_word (get_or header i (pos 0)) (get_or other i (pos 0)) ≡ true → same_header (drop i header) (drop i other) ≡ same_header (drop (i + 1) header) (drop (i + 1) other)
    unfolding same_header
    headers-agree e = rw (add-one i, drop-cons header i (pos 0) inside, drop-cons other i (pos 0) within, e)

  pub headers-end : (i : ℕ) → length header ≤ i → length other ≤ i → same_header (drop i header) (drop i other) ≡ true
  unfolding same_header
  headers-end i h o = rw (drop_of_length-le header {i = i} h, drop_of_length-le other {i = i} o)

same-itself : (words : List ℤ) → same_header words words ≡ true
unfolding same_header
same-itself [] = refl
same-itself (w ∷ ws) = rw (same_word-refl w, same-itself ws)

same-decides : (header other : List ℤ) → Decides (same_header header other) (header ≡ other)
same-decides header other = (same-header header other, λ e. rw e (same-itself other))

-- as the library's test says
pub headers-tested : (header other : List ℤ) (differ : Bool) → differ ≡ not (pointwise int_eq header other) → same_header header other ≡ not differ
headers-tested header other differ e =
    let same = slice_eq-Decides Decides-int_eq header other (pointwise int_eq header other) refl in
    same_from_decides _ _ (same-decides header other) same ∙ sym (ap not e ∙ twice (pointwise int_eq header other))
  where
    twice : (b : Bool) → not (not b) ≡ b
    twice true = refl
    twice false = refl

-- ---- rows

-- what fills a table is all that it holds
pub filled : (u l m : List ℤ) → m ≡ over u l → length l ≡ length u → m ≡ u
filled u l m e h = sym (take_all (length u) m (let long = length_over u l m e (omega arith) in omega arith)) ∙ ap (take (length u)) e ∙ take-over u l

-- ---- what the checks leave to the join

functions-most : (most : ℕ) (rows : List ℤ) (row : ℕ) → functions_from most rows row ≤ most
unfolding functions_from
functions-most zero rows row = omega arith
functions-most (suc most) rows row = let rest = functions-most most rows (link rows row 5) in by_cases (is_definition rows row) (λ d. rw d (omega arith)) (λ d. rw d (omega arith))

-- a number of a function is one of as many as there are rows at most
numbers-small : (rows : List ℤ) → row_count rows ≤ 2048 → WellCalled rows → FunctionNumbers rows
unfolding functions_of
numbers-small rows few w row field n f e = let below = function-below rows w row field n f e in let most = functions-most (row_count rows) rows (link rows 0 1) in omega arith

module _ (first second : List ℤ) (parts : Parts first second) where
  pub parts-length : length (joined_rows first second) ≡ 6 + length first + length second
  parts-length = length-joined first second (sym parts.tree_first.whole) (sym parts.tree_second.whole)

  pub parts-count : row_count (joined_rows first second) ≡ 1 + row_count first + row_count second
  parts-count = count-joined first second (sym parts.tree_first.whole) (sym parts.tree_second.whole)

module _ (header first secondHeader second : List ℤ) (accepted : refusal header first ≡ Ok tt) (second-accepted : refusal secondHeader second ≡ Ok tt) where
  legal-first : Legal header first
  legal-first = (accepts-legal header first).0 accepted

  legal-second : Legal secondHeader second
  legal-second = (accepts-legal secondHeader second).0 second-accepted

  of-first : Structured Source (bounds_of Source header) first
  of-first = legal-first.structured

  of-second : Structured Source (bounds_of Source secondHeader) second
  of-second = legal-second.structured

  few_rows : {bounds : Bounds} {rows : List ℤ} → Structured Source bounds rows → row_count rows ≤ 2048
  few_rows {bounds} {rows} s = let facts = count_fits-facts Source (length rows) s.count-fits in let most = facts.most in omega arith

  pub accepted-parts : Parts first second
  accepted-parts = record {
    tree_first = structured-tree Source _ first of-first;
    tree_second = structured-tree Source _ second of-second;
    few_first = few_rows of-first;
    few_second = few_rows of-second;
    root_first = block-undefined first 0 of-first.block;
    root_second = block-undefined second 0 of-second.block;
    numbers_first = numbers-small first (few_rows of-first) legal-first.well_called;
    numbers_second = numbers-small second (few_rows of-second) legal-second.well_called;
  }

  pub accepted-joinable : same_header header secondHeader ≡ true → 1 + row_count first + row_count second ≤ 2048 → Joinable first second
  accepted-joinable same few =
      let alike : Structured Source (bounds_of Source header) second = subst (λ (h : List ℤ). Structured Source (bounds_of Source h) second) (sym (same-header header secondHeader same)) of-second in
      record {
        parts = accepted-parts;
        few = few;
        tree = structured-tree Source _ (joined_rows first second) (joined-structured first second of-first alike legal-first.well_called.in_order legal-second.well_called.in_order (let c = parts-count first second accepted-parts in omega arith));
      }

-- ---- causes in order

-- a join with equal headers and few rows
pub own-rows : (header first secondHeader second : List ℤ) → same_header header secondHeader ≡ true → leb (row_count (joined_rows first second)) 2048 ≡ true
    → own_refusal header first secondHeader second ≡ rows_refusal (joined_rows first second)
unfolding own_refusal unless ◌next◌
own-rows header first secondHeader second e n = rw (e, n)

-- one cause behind a chain of three
chain : (a b c d : Result (Unit {0}) NumberedRefusal) → (a next b next c next d) ≡ ((a next b next c) next d)
unfolding ◌next◌
chain (Ok _) (Ok _) c d = refl
chain (Ok _) (Err r) c d = refl
chain (Err r) b c d = refl

over-long : (u l : List ℤ) → length u ≤ length (over u l)
unfolding over
over-long u l = omega (arith, length-append u (drop (length u) l))

module _ (header first secondHeader second out : List ℤ) where
  abbrev joined : List ℤ
  joined = joined_rows first second

  -- every cause but 10
  abbrev pub before_ten : Result (Unit {0}) NumberedRefusal
  before_ten = refusal header first next refusal secondHeader second next own_refusal header first secondHeader second

  refusal-chain : join_refusal header first secondHeader second (length out) ≡ (before_ten next unless (leb (length joined) (length out)) 10)
  unfolding join_refusal
  refusal-chain = chain (refusal header first) (refusal secondHeader second) (own_refusal header first secondHeader second) (unless (leb (length joined) (length out)) 10)

  pub before-ten-parts : before_ten ≡ Ok tt → Parts first second
  before-ten-parts e =
      let of_first = next-accepts (refusal header first) _ e in
      let of_second = next-accepts (refusal secondHeader second) _ of_first.1 in
      accepted-parts header first secondHeader second of_first.0 of_second.0

  join-refused : (r : NumberedRefusal) → before_ten ≡ Err r → answer_and_rows (Err r) out ≡ join_result header first secondHeader second out
  unfolding join_result ◌next◌
  join-refused r e = rw (refusal-chain, e)

  -- as `?` hands a refusal on
  pub join-handed : (answer : Result ℕ NumberedRefusal) (r : NumberedRefusal) → IsErrAnd answer (λ x. x ≡ r) → before_ten ≡ Err r → answer_and_rows answer out ≡ join_result header first secondHeader second out
  join-handed answer r h e = let p = err_from_is_err_and answer h in rw (p.1, p.2) (join-refused r e)

  pub join_written : (answer : Result ℕ NumberedRefusal) (left : List ℤ) → before_ten ≡ Ok tt → answer_and_rows answer left ≡ join_after (unless (leb (length joined) (length out)) 10) joined out
      → answer_and_rows answer left ≡ join_result header first secondHeader second out
  unfolding join_result ◌next◌
  join_written answer left e w = rw (refusal-chain, e) w

  -- ---- the words written

  pub writes-join : (answer : Result ℕ NumberedRefusal) (left : List ℤ) → answer_and_rows answer left ≡ join_result header first secondHeader second out → WritesJoin header first second answer left
  unfolding join_result
  writes-join answer left e = go (join_refusal header first secondHeader second (length out)) refl e
    where
      go : (verdict : Result (Unit {0}) NumberedRefusal) → join_refusal header first secondHeader second (length out) ≡ verdict → answer_and_rows answer left ≡ join_after verdict joined out → WritesJoin header first second answer left
      go (Err r) p e = rw (ap (λ (j : JoinResult). j.answer) e) tt
      go (Ok tt) p e =
          let stands : left ≡ over joined out = ap (λ (j : JoinResult). j.rows) e in
          rw (ap (λ (j : JoinResult). j.answer) e) (record {
            inside = rw stands (over-long joined out);
            joins = rw (stands, take-over joined out) (accepted-joins header first secondHeader second (length out) p);
          })

-- ---- cause 10

module _ (joined out : List ℤ) where
  pub no_room : length out < length joined → answer_and_rows (Err (record { number = 10; place = 0 })) out ≡ join_after (unless (leb (length joined) (length out)) 10) joined out
  unfolding unless
  no_room h = rw (lt-leb (length joined) (length out) h)

  pub with-room : (words : ℕ) (left : List ℤ) → words ≡ length joined → left ≡ over joined out → length joined ≤ length out
      → answer_and_rows (Ok words) left ≡ join_after (unless (leb (length joined) (length out)) 10) joined out
  unfolding unless
  with-room words left e w h = rw (le-leb (length joined) (length out) h, e, w)
