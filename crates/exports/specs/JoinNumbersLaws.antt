-- JoinNumbersLaws: a join whose answer has no cause was made, since every cause of a join has a number but 0.
use Rattle.std.proofs.Math.Path.{◌≡◌, refl, ap}
use Rattle.std.proofs.Common.{sym, ◌∙◌}
use Rattle.std.specs.Prelude.{Bool, true, false, List, ℕ, ℤ, length, Err, None, Ok, Option, Result, Some}
use native.Mathlib.Omega.{arith}
use Rattle.words.specs.declared.Form.TheVariants.{Source}
use Rattle.words.specs.Refusals.{NumberedRefusal}
use Rattle.check_structure.specs.Refusal.{at, unless, ◌next◌}
use Rattle.check_source.specs.Refusal.{refusal}
use Rattle.join.specs.Join.{joined_rows, rows_refusal, own_refusal, join_refusal}
use Rattle.joiner.specs.Joining.{JoinResult, answer_and_rows, join_after, join_result, WritesJoin}
use Rattle.exports.specs.declared.Answer.{Answer}
use Rattle.exports.specs.Numbers.{join_answer, JoinsIfDone}
use Rattle.exports.specs.NumbersLaws.{check-caused}

-- A verdict whose refusal has a number.
abbrev Caused : Result (Unit {0}) NumberedRefusal → Type 0
Caused verdict = (refusal : NumberedRefusal) → verdict ≡ Err refusal → refusal.number ≡ 0 → ⊥

next-caused : (verdict rest : Result (Unit {0}) NumberedRefusal) → Caused verdict → Caused rest → Caused (verdict next rest)
unfolding ◌next◌
next-caused (Ok tt) rest here there = there
next-caused (Err refusal) rest here there = here

same-number : (number place : ℕ) (r : NumberedRefusal) → ◌≡◌ {A = Result (Unit {0}) NumberedRefusal} (Err (record { number = number; place = place })) (Err r) → number ≡ r.number
same-number number place r e = let same : record { number = number; place = place } ≡ r = cc in ap (λ (x : NumberedRefusal). x.number) same

accepted-caused : Caused (Ok tt)
accepted-caused r e none = let z : ◌≡◌ {A = ℕ} 0 1 = cc in omega arith

unless-caused : (test : Bool) (cause : ℕ) → (cause ≡ 0 → ⊥) → Caused (unless test cause)
unfolding unless
unless-caused true cause some = accepted-caused
unless-caused false cause some = λ r e none. some (same-number cause 0 r e ∙ none)

at-caused : (cause : ℕ) (found : Option ℕ) → (cause ≡ 0 → ⊥) → Caused (at cause found)
unfolding at
at-caused cause (Some row) some = λ r e none. some (same-number cause row r e ∙ none)
at-caused cause None some = accepted-caused

module _ (header first secondHeader second out left : List ℤ) where
  caused : Caused (join_refusal header first secondHeader second (length out))
  unfolding join_refusal own_refusal rows_refusal
  caused =
      next-caused _ _ (check-caused Source header first)
      (next-caused _ _ (check-caused Source secondHeader second)
      (next-caused _ _
      (next-caused _ _ (unless-caused _ 16 (λ e. omega arith)) (next-caused _ _ (unless-caused _ 17 (λ e. omega arith))
      (next-caused _ _ (at-caused 9 _ (λ e. omega arith)) (at-caused 20 _ (λ e. omega arith)))))
      (unless-caused _ 10 (λ e. omega arith))))

  join-caused : (r : NumberedRefusal) → answer_and_rows (Err r) left ≡ join_result header first secondHeader second out → r.number ≡ 0 → ⊥
  unfolding join_result
  join-caused r e none = go (join_refusal header first secondHeader second (length out)) refl e
    where
      go : (verdict : Result (Unit {0}) NumberedRefusal) → join_refusal header first secondHeader second (length out) ≡ verdict → answer_and_rows (Err r) left ≡ join_after verdict (joined_rows first second) out → ⊥
      go (Err other) told e =
          let answers : ◌≡◌ {A = Result ℕ NumberedRefusal} (Err r) (Err other) = ap (λ (j : JoinResult). j.answer) e in
          let same : r ≡ other = cc in
          caused other told (ap (λ (x : NumberedRefusal). x.number) (sym same) ∙ none)
      go (Ok tt) told e =
          let answers : Err r ≡ Ok (length (joined_rows first second)) = ap (λ (j : JoinResult). j.answer) e in
          let z : ◌≡◌ {A = ℕ} 0 1 = cc in
          omega arith

  pub joins-if-done : (answer : Result ℕ NumberedRefusal) (given : Answer) → given ≡ join_answer answer → answer_and_rows answer left ≡ join_result header first secondHeader second out
      → WritesJoin header first second answer left → JoinsIfDone header first second given left
  joins-if-done (Ok words) given told e writes none = rw (ap (λ (a : Answer). a.first) told) writes
  joins-if-done (Err r) given told e writes none = absurd (join-caused r e (sym (ap (λ (a : Answer). a.cause) told) ∙ none))
