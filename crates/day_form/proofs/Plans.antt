-- The setting and the day lines: the first ground on which they are turned away, or that there is none.
use Rattle.std.specs.Prelude.{Err, None, Ok, Option, Result, Some}
use mathlib.Core.Path.{◌≡◌, refl, sym, ap, ◌∙◌}
use mathlib.Core.Bool.{true, false}
use mathlib.Core.List.{List, [], ◌∷◌}
use Prim.Native.Nat.{ℕ, zero, suc, ◌+◌, ◌-◌, ◌≤◌, ◌<◌}
use native.Mathlib.Omega.{arith}
use lib.Dec.{ltb}
use lib.IntN.{ℤ}
use lib.ListN.{length, take, drop, length-drop}
use lib.Seq.{drop-drop, length-take-le}
use borrow.Author.Tests.{lt-ltb, le-ltb, ltb-false}
use Rattle.words.specs.Laws.{by_cases}
use Rattle.words.specs.OverLaws.{first_of, rest_of}
use Rattle.words.specs.SearchLaws.{not_found}
use Rattle.words.specs.Refusals.{NumberedRefusal}
use Rattle.text_lines.specs.Line.{TextLine, lines_of}
use Rattle.day_form.specs.Input.{rule_size, first_number, lines_behind, Behind}
use Rattle.day_form.specs.Lines.{most_days, line_words, turns_away, first_line, NextRead}
use Rattle.day_form.specs.Settings.{setting_of}
use Rattle.day_form.specs.Plans.{planned, refused, refused_at, outside_line, days_verdict, checked_plan, setting_plan, lines_plan, plan_of, IsPlanned}
use Rattle.day_form.specs.declared.lines.LineTest.TheVariants.{Pairs, Names}
use Rattle.day_form.specs.declared.lines.NextLine.{NextLine}
use Rattle.day_form.specs.declared.setting.Setting.{Setting}
use Rattle.day_form.proofs.Bounds.{lines-few}
use Rattle.day_form.proofs.Values.{setting-sets}

-- ---- the day lines

late_turned : (last number : ℕ) (numbers : List ℤ) → turns_away (Pairs last) number numbers ≡ false → number ≤ last
unfolding turns_away
late_turned last number numbers e =
    by_cases (ltb last number)
    (λ t. absurd (let w : true ≡ false = sym (rw t) ∙ e in let z : ◌≡◌ {A = ℕ} 0 1 = cc in omega arith))
    (λ t. ltb-false _ _ t)

-- where none is turned away, none is past the last
few-lines : (last number : ℕ) (lines : List TextLine) → number ≤ last + 1 → first_line (Pairs last) number lines ≡ None → number + length lines ≤ last + 1
unfolding first_line
few-lines last number [] h e = omega arith
few-lines last number (line ∷ lines) h e =
    by_cases (turns_away (Pairs last) number (line_words line))
    (λ t. not_found number (sym (rw t) ∙ e))
    (λ t. let inside = late_turned last number (line_words line) t in let rest = few-lines last (number + 1) lines (omega arith) (rw t at e) in omega arith)

none-turned : (number : ℕ) (found : Option ℕ) (others : Result (Unit {0}) NumberedRefusal) → (Ok tt) ≡ refused_at number found others → found ≡ None
none-turned number (Some line) others e = absurd (let z : ◌≡◌ {A = ℕ} 0 1 = cc in omega arith)
none-turned number None others e = refl

-- as `?` goes: a line that is turned away ends the chain, and else the rest decides
pub handed-on : (number : ℕ) (found by : Option ℕ) (others : Result (Unit {0}) NumberedRefusal) (refusal : NumberedRefusal)
    → ◌≡◌ {A = Result (Unit {0}) NumberedRefusal} (Err refusal) (refused_at number found (Ok tt)) → found ≡ by → ◌≡◌ {A = Result (Unit {0}) NumberedRefusal} (Err refusal) (refused_at number by others)
handed-on number (Some line) by others refusal e f = rw (← f) e
handed-on number None by others refusal e f = absurd (let z : ◌≡◌ {A = ℕ} 0 1 = cc in omega arith)

pub passed-on : (number : ℕ) (found by : Option ℕ) (others : Result (Unit {0}) NumberedRefusal)
    → ◌≡◌ {A = Result (Unit {0}) NumberedRefusal} (Ok tt) (refused_at number found (Ok tt)) → found ≡ by → refused_at number by others ≡ others
passed-on number found by others e f = rw (← f, none-turned number found (Ok tt) e)

module _ (variables first variable : ℕ) (days : List TextLine) where
  pub setting-outside : variables ≤ variable → Some first ≡ outside_line variables first variable days
  unfolding outside_line
  setting-outside h = rw (le-ltb _ _ h)

  pub setting-inside : variable < variables → first_line (Names variables) (first + 1) days ≡ outside_line variables first variable days
  unfolding outside_line
  setting-inside h = rw (lt-ltb _ _ h)

  few_days : (Ok tt) ≡ days_verdict variables first variable days → length days ≤ most_days
  unfolding days_verdict
  few_days e = let few = few-lines (first + most_days) (first + 1) days (omega arith) (none-turned 21 _ _ e) in omega arith

-- ---- the setting's line and the day's

pub setting-missing : (variables first : ℕ) (text : List ℕ) → lines_of text ≡ [] → lines_plan variables first (lines_of text) ≡ refused 21 first
unfolding lines_plan
setting-missing variables first text e = rw e

module _ (variables first : ℕ) {text : List ℕ} {next : NextLine} {table left : List ℤ} (r : NextRead text 0 next table left) (lent : List ℤ) (is : lent ≡ line_words r.line) where
  by-setting : lines_plan variables first (lines_of text) ≡ setting_plan variables first (setting_of lent) (lines_of (drop next.at text))
  unfolding lines_plan
  by-setting = rw (r.is-first, ← is)

  pub setting-malformed : None ≡ setting_of lent → lines_plan variables first (lines_of text) ≡ refused 21 first
  unfolding setting_plan
  setting-malformed e = by-setting ∙ rw (← e)

  module _ (setting : Setting) (e : Some setting ≡ setting_of lent) where
    by-verdict : lines_plan variables first (lines_of text)
        ≡ checked_plan (days_verdict variables first setting.variable (lines_of (drop next.at text))) setting (lines_of (drop next.at text))
    unfolding setting_plan
    by-verdict = by-setting ∙ rw (← e)

    rest : lines_of (take (length text - next.at) (drop next.at text)) ≡ lines_of (drop next.at text)
    rest = ap lines_of (rest_of text next.at)

    pub days-refused : (cause : NumberedRefusal) → Err cause ≡ days_verdict variables first setting.variable (lines_of (take (length text - next.at) (drop next.at text)))
        → lines_plan variables first (lines_of text) ≡ refused cause.number cause.place
    unfolding checked_plan
    days-refused cause v = by-verdict ∙ rw (← rest, ← v)

    pub days-planned : (Ok tt) ≡ days_verdict variables first setting.variable (lines_of (take (length text - next.at) (drop next.at text)))
        → IsPlanned (lines_plan variables first (lines_of text)) setting next.at text
    unfolding checked_plan
    days-planned v =
        let verdict : (Ok tt) ≡ days_verdict variables first setting.variable (lines_of (drop next.at text)) = v ∙ ap (days_verdict variables first setting.variable) rest in
        record {
          is = by-verdict ∙ rw (← verdict);
          inside = r.inside;
          sets = setting-sets r.line setting (e ∙ ap setting_of is);
          few_days = few_days variables first setting.variable (lines_of (drop next.at text)) verdict;
        }

-- ---- the whole input

module _ (input : List ℕ) {size start : ℕ} (s : size ≡ rule_size input) (b : Behind input size start) where
  part-size : length (take (length input - start) (drop start input)) ≡ length input - start
  part-size = ap length (rest_of input start) ∙ length-drop start input

  module _ (count : ℕ) (e : count ≡ length (lines_of (take (start - 0) input))) where
    -- the lines are fewer than the bytes
    pub lines-within : count + 1 + length (take (length input - start) (drop start input)) ≤ length input + 1
    lines-within =
        let few = lines-few (take (start - 0) input) in
        let before : length (take (start - 0) input) ≡ start = ap length (first_of input start) ∙ length-take-le start input b.inside in
        omega (arith, part-size, b.inside)

    module _ (variables : ℕ) where
      plan-is : lines_plan variables (count + 1) (lines_of (take (length input - start) (drop start input))) ≡ plan_of variables input
      unfolding plan_of first_number lines_behind
      plan-is = rw (e, first_of input start, rest_of input start, b.before, b.behind, s)

      pub plan-refused : (number line : ℕ) → lines_plan variables (count + 1) (lines_of (take (length input - start) (drop start input))) ≡ refused number line → plan_of variables input ≡ refused number line
      plan-refused number line p = sym plan-is ∙ p

      -- the day lines begin so far behind the start
      pub plan-planned : (setting : Setting) (at : ℕ) → IsPlanned (lines_plan variables (count + 1) (lines_of (take (length input - start) (drop start input)))) setting at (take (length input - start) (drop start input))
          → IsPlanned (plan_of variables input) setting (start + at) input
      plan-planned setting at p =
          let moved : drop at (take (length input - start) (drop start input)) ≡ drop (start + at) input = ap (drop at) (rest_of input start) ∙ drop-drop at start input in
          record {
            is = sym plan-is ∙ p.is ∙ ap (λ (l : List ℕ). planned setting (lines_of l)) moved;
            inside = omega (arith, p.inside, part-size, b.inside);
            sets = p.sets;
            few_days = rw (← moved) p.few_days;
          }
