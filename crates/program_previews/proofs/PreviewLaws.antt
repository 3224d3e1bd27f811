-- Laws of previews: the tally is 0 exactly where none of the first S words differs; a run gives what was previewed.
use Rattle.std.specs.Prelude.{◌≡◌, refl, Bool, true, false, ℕ, zero, suc, ◌+◌, ◌≤◌, ◌<◌, ltb, leb, eqb, ℤ, pos, get_or, take, Err, Ok, Result}
use Rattle.words.specs.Refusals.{NumberedRefusal}
use Rattle.std.proofs.Math.Path.{sym, ap}
use Rattle.std.proofs.Common.{ap₂, ◌∙◌, subst, arith, add-one, length-append, ext_get_or, take_at, get_or-take, length-take-le, ltb-true, ltb-false, eqb-true, eq-eqb, ne_eqb, le-leb}
use Rattle.std.proofs.lemmas.Bool.{false≢true, lt-leb}
use mathlib.Core.List.{List, ◌++◌}
use Rattle.std.proofs.Math.ListN.{length, drop}
use Rattle.words.specs.Word.{same_word, pick}
use Rattle.words.specs.Laws.{by_cases, same_word-refl, same_word-equal}
use Rattle.words.specs.Over.{over}
use Rattle.words_copying.specs.OverLaws.{over-whole}
use Rattle.words.specs.Layout.{store_words}
use Rattle.words.specs.StoreLaws.{size-least}
use Rattle.words.specs.declared.Form.TheVariants.{Source}
use Rattle.words.specs.declared.Ending.TheVariants.{Spent}
use Rattle.words.specs.declared.RunAnswer.{RunAnswer}
use Rattle.language.specs.Program.{Finished}
use Rattle.language_programs.specs.Program.{source_size, run_program}
use Rattle.language_programs.specs.ProgramLaws.{store_length, budget-zero}
use Rattle.machine.specs.Whole.{finished_of}
use Rattle.program_runs.specs.Runs.{ran, run_refused, run_after, run_result, refusal_of}
use Rattle.program_previews.specs.Previews.{one_unless, difference, differences, told_run, tally_of, answer_and_words, preview_refused, preview_of, preview_if, preview_after, preview_of_run, preview_result, accepted_preview, Foretells, NoneIfEqual, RunAsPreviewed}
use Rattle.program_previews.specs.declared.PreviewAnswer.{PreviewAnswer}

-- ---- the tally

difference-most : (v w : ℤ) → difference v w ≤ 1
unfolding difference
difference-most v w = by (same_word v w)
  where
    by : (same : Bool) → one_unless same ≤ 1
    by true = omega arith
    by false = omega arith

difference-same : (v : ℤ) → difference v v ≡ 0
unfolding difference
difference-same v = ap one_unless (same_word-refl v)

difference-none : (v w : ℤ) → difference v w ≡ 0 → v ≡ w
unfolding difference
difference-none v w = by (same_word v w) (same_word-equal v w)
  where
    by : (same : Bool) → (same ≡ true → v ≡ w) → one_unless same ≡ 0 → v ≡ w
    by true equal e = equal refl
    by false equal e = absurd (omega (arith, e))

pub differences-next : (n : ℕ) (before after : List ℤ) → differences (n + 1) before after ≡ differences n before after + difference (get_or before n (pos 0)) (get_or after n (pos 0))
unfolding differences
differences-next n before after = ap (λ (k : ℕ). differences k before after) (add-one n)

pub differences-most : (n : ℕ) (before after : List ℤ) → differences n before after ≤ n
unfolding differences
differences-most zero before after = omega arith
differences-most (suc n) before after = omega (arith, differences-most n before after, difference-most (get_or before n (pos 0)) (get_or after n (pos 0)))

differences-same : (n : ℕ) (words : List ℤ) → differences n words words ≡ 0
unfolding differences
differences-same zero words = refl
differences-same (suc n) words = omega (arith, differences-same n words, difference-same (get_or words n (pos 0)))

-- where none differs, each place holds equal words
differences-none : (n : ℕ) (before after : List ℤ) → differences n before after ≡ 0 → (i : ℕ) → i < n → get_or before i (pos 0) ≡ get_or after i (pos 0)
unfolding differences
differences-none zero before after e i h = absurd (omega (arith, h))
differences-none (suc n) before after e i h =
    let sum : differences n before after + difference (get_or before n (pos 0)) (get_or after n (pos 0)) ≡ 0 = e in
    let last = difference-none (get_or before n (pos 0)) (get_or after n (pos 0)) (omega (arith, sum)) in
    by_cases (ltb i n) (λ below. differences-none n before after (omega (arith, sum)) i (ltb-true i n below))
    (λ above. let same : n ≡ i = omega (arith, ltb-false i n above, h) in
    ap (λ (k : ℕ). get_or before k (pos 0)) (sym same) ∙ last ∙ ap (λ (k : ℕ). get_or after k (pos 0)) same)

-- only the words among which they are counted matter
differences-taken : (n m : ℕ) (before after : List ℤ) → n ≤ m → differences n (take m before) (take m after) ≡ differences n before after
unfolding differences
differences-taken zero m before after h = refl
differences-taken (suc n) m before after h =
    ap₂ ◌+◌ (differences-taken n m before after (omega arith)) (ap₂ difference (get_or-take m before n (pos 0) (omega arith)) (get_or-take m after n (pos 0) (omega arith)))

pub none-if-equal : (n : ℕ) (before after : List ℤ) → n ≤ length before → n ≤ length after → NoneIfEqual (take n before) (take n after) (differences n before after)
none-if-equal n before after first second = record {
  none_equal = λ none.
      ext_get_or (pos 0) (take n before) (take n after) (length-take-le n before first ∙ sym (length-take-le n after second))
      (λ i h.
      let low : i < n = omega (arith, h, length-take-le n before first) in
      get_or-take n before i (pos 0) low ∙ differences-none n before after none i low ∙ sym (get_or-take n after i (pos 0) low));
  equal_none = λ same.
      sym (differences-taken n n before after (omega arith)) ∙ ap (differences n (take n before)) (sym same) ∙ differences-same n (take n before);
}

-- ---- the run on a copy

pub foretold : (program : List ℤ → Finished) (run : RunAnswer) (store copy copied left : List ℤ) (size tally : ℕ) → length store ≡ length copy → copied ≡ over store copy
    → finished_of run left ≡ program copied → tally ≡ differences size store left → Foretells size (program store) store (preview_of run tally) left
foretold program run store copy copied left size tally long put told counted =
    let e : finished_of run left ≡ program store = told ∙ ap program (put ∙ over-whole store copy long) in
    record {
      told = ap (preview_of run) counted ∙ ap (λ (f : Finished). preview_of (record { ending = f.ending; count = f.count }) (differences size store f.store)) e;
      holds = ap (λ (f : Finished). f.store) e;
    }

-- ---- an accepted program: 11, then 15, then the run

abbrev answer_of : Finished → RunAnswer
answer_of finished = record { ending = finished.ending; count = finished.count }

module _ (header rows : List ℤ) (budget : ℕ) (store scratch : List ℤ) where
  pub store-refused : (length store ≡ store_words Source header rows → ⊥) → preview_refused (record { number = 11; place = 0 }) store scratch ≡ accepted_preview header rows budget store scratch
  store-refused other =
      sym (ap (λ (same : Bool). preview_of_run (pick same (ran (run_program Source header rows budget store)) (run_refused (record { number = 11; place = 0 }) store)) (source_size header) (store_words Source header rows) store scratch)
      (ne_eqb (length store) (store_words Source header rows) other))

  -- a store of the right size is run
  run-previewed : length store ≡ store_words Source header rows → accepted_preview header rows budget store scratch ≡ preview_of_run (ran (run_program Source header rows budget store)) (source_size header) (store_words Source header rows) store scratch
  run-previewed same =
      ap (λ (same : Bool). preview_of_run (pick same (ran (run_program Source header rows budget store)) (run_refused (record { number = 11; place = 0 }) store)) (source_size header) (store_words Source header rows) store scratch)
      (eq-eqb (length store) (store_words Source header rows) same)

  pub scratch-refused : length store ≡ store_words Source header rows → length scratch < store_words Source header rows → preview_refused (record { number = 15; place = 0 }) store scratch ≡ accepted_preview header rows budget store scratch
  scratch-refused same short =
      let left = run_program Source header rows budget store in
      sym (run-previewed same ∙ ap (λ (room : Bool). preview_if room (answer_of left) (source_size header) left.store store scratch) (lt-leb (store_words Source header rows) (length scratch) short))

  -- the copy stands in the scratch, with what stood behind
  pub run-told : length store ≡ store_words Source header rows → store_words Source header rows ≤ length scratch → (preview : PreviewAnswer) (copy : List ℤ)
      → Foretells (source_size header) (run_program Source header rows budget store) store preview copy → answer_and_words (Ok preview) store (copy ++ drop (store_words Source header rows) scratch) ≡ accepted_preview header rows budget store scratch
  unfolding over
  run-told same room preview copy f =
      let left = run_program Source header rows budget store in
      let run = answer_of left in
      let long : length left.store ≡ store_words Source header rows = store_length Source header rows store budget ∙ same in
      let words : copy ++ drop (store_words Source header rows) scratch ≡ over left.store scratch =
      ap (λ (l : List ℤ). l ++ drop (store_words Source header rows) scratch) f.holds ∙ ap (λ (n : ℕ). left.store ++ drop n scratch) (sym long) in
      ap (λ (p : PreviewAnswer). answer_and_words (Ok p) store (copy ++ drop (store_words Source header rows) scratch)) f.told
      ∙ ap (λ (l : List ℤ). answer_and_words (Ok (preview_of run (differences (source_size header) store left.store))) store l) words
      ∙ sym (run-previewed same ∙ ap (λ (b : Bool). preview_if b run (source_size header) left.store store scratch) (le-leb (store_words Source header rows) (length scratch) room))

-- ---- a run gives what was previewed

abbrev has_run : Result RunAnswer NumberedRefusal → Bool
has_run (Ok run) = true
has_run (Err refusal) = false

abbrev is_told : Result PreviewAnswer NumberedRefusal → Bool
is_told (Ok preview) = true
is_told (Err refusal) = false

-- a run that was made had a store of the right size, and left one
record Sized (words : ℕ) (store left : List ℤ) : Type 0 where
  store_long : length store ≡ words
  left_long : length left ≡ words

sized : (header rows : List ℤ) (budget : ℕ) (store : List ℤ) (verdict : Result (Unit {0}) NumberedRefusal) (run : RunAnswer) → (run_after verdict Source header rows budget store).answer ≡ Ok run
    → Sized (store_words Source header rows) store (run_after verdict Source header rows budget store).store
sized header rows budget store (Err refusal) run e = absurd (false≢true (ap has_run e))
sized header rows budget store (Ok tt) run e = by (eqb (length store) (store_words Source header rows)) (eqb-true (length store) (store_words Source header rows)) e
  where
    by : (same : Bool) → (same ≡ true → length store ≡ store_words Source header rows)
        → (pick same (ran (run_program Source header rows budget store)) (run_refused (record { number = 11; place = 0 }) store)).answer ≡ Ok run
        → Sized (store_words Source header rows) store (pick same (ran (run_program Source header rows budget store)) (run_refused (record { number = 11; place = 0 }) store)).store
    by true equal e = record { store_long = equal refl; left_long = store_length Source header rows store budget ∙ equal refl }
    by false equal e = absurd (false≢true (ap has_run e))

-- the answer, the words and the tally of a run that was previewed
record Told (answer : Result RunAnswer NumberedRefusal) (size words : ℕ) (left store : List ℤ) (preview : PreviewAnswer) (scratch : List ℤ) : Type 0 where
  told_size : length store ≡ words
  told_room : words ≤ length scratch
  told_answer : answer ≡ Ok (record { ending = preview.ending; count = preview.count })
  told_words : left ≡ take words scratch
  told_tally : NoneIfEqual (take size store) (take size left) preview.differing

told-if : (room : Bool) (run : RunAnswer) (size words : ℕ) (left store scratch : List ℤ) (preview : PreviewAnswer) → size ≤ words → Sized words store left
    → (preview_if room run size left store scratch).answer ≡ Ok preview → Told (Ok run) size words left store preview (preview_if room run size left store scratch).scratch
unfolding over
told-if true run size words left store scratch preview inside s e = record {
  told_size = s.store_long;
  told_room = omega (arith, s.left_long, length-append left (drop (length left) scratch));
  told_answer = ap told_run e;
  told_words = sym (take_at left (drop (length left) scratch) words s.left_long);
  told_tally = subst (λ (n : ℕ). NoneIfEqual (take size store) (take size left) n) (ap tally_of e) (none-if-equal size store left (omega (arith, inside, s.store_long)) (omega (arith, inside, s.left_long)));
}
told-if false run size words left store scratch preview inside s e = absurd (false≢true (ap is_told e))

told-after : (answer : Result RunAnswer NumberedRefusal) (size words : ℕ) (left store scratch : List ℤ) (preview : PreviewAnswer) → size ≤ words → ((run : RunAnswer) → answer ≡ Ok run → Sized words store left)
    → (preview_after answer size words left store scratch).answer ≡ Ok preview → Told answer size words left store preview (preview_after answer size words left store scratch).scratch
told-after (Ok run) size words left store scratch preview inside s e = told-if (leb words (length scratch)) run size words left store scratch preview inside (s run refl) e
told-after (Err refusal) size words left store scratch preview inside s e = absurd (false≢true (ap is_told e))

-- A preview that is not refused, then a run of the same program on the same store.
pub run-as-previewed : (header rows : List ℤ) (budget : ℕ) (store scratch : List ℤ) (preview : PreviewAnswer) → (preview_result header rows budget store scratch).answer ≡ Ok preview
    → RunAsPreviewed (run_result Source header rows budget store) (source_size header) (store_words Source header rows) store preview (preview_result header rows budget store scratch).scratch
unfolding preview_result run_result
run-as-previewed header rows budget store scratch preview e =
    let run = run_after (refusal_of Source header rows) Source header rows budget store in
    let t = told-after run.answer (source_size header) (store_words Source header rows) run.store store scratch preview (size-least Source header rows) (sized header rows budget store (refusal_of Source header rows)) e in
    record { store-size = t.told_size; scratch_room = t.told_room; same_answer = t.told_answer; same_words = t.told_words; tally_right = t.told_tally }

-- "0 gives spent with count 0": with that budget the scratch gets the store as it is, and no word differs.
pub zero-previewed : (header rows store scratch : List ℤ) → refusal_of Source header rows ≡ (Ok tt) → length store ≡ store_words Source header rows → store_words Source header rows ≤ length scratch
    → preview_result header rows 0 store scratch ≡ answer_and_words (Ok (record { ending = Spent; count = 0; differing = 0 })) store (over store scratch)
unfolding preview_result run_result
zero-previewed header rows store scratch accepted same room =
    ap (λ (v : Result (Unit {0}) NumberedRefusal). preview_of_run (run_after v Source header rows 0 store) (source_size header) (store_words Source header rows) store scratch) accepted
    ∙ run-previewed header rows 0 store scratch same
    ∙ ap (λ (f : Finished). preview_of_run (ran f) (source_size header) (store_words Source header rows) store scratch) (budget-zero Source header rows store)
    ∙ ap (λ (b : Bool). preview_if b (record { ending = Spent; count = 0 }) (source_size header) store store scratch) (le-leb (store_words Source header rows) (length scratch) room)
    ∙ ap (λ (n : ℕ). answer_and_words (Ok (record { ending = Spent; count = 0; differing = n })) store (over store scratch)) (differences-same (source_size header) store)
