-- Plans: the setting and the day lines behind a rule, or why they are turned away: "21 .., then 22 ..; both with their line of the whole input".
use Rattle.std.specs.Prelude.{◌≡◌, List, [], ◌∷◌, ℕ, ◌+◌, ◌^◌, ◌≤◌, ◌<◌, ltb, ℤ, pos, ◌+ℤ◌, length, drop, Err, None, Ok, Result, Some, Option}
use Rattle.words.specs.Refusals.{NumberedRefusal}
use Rattle.std.specs.Int.Signed.{mag}
use Rattle.words.specs.Word.{pick}
use Rattle.text_lines.specs.Line.{TextLine, lines_of}
use Rattle.day_form.specs.Input.{first_number, lines_behind}
use Rattle.day_form.specs.Lines.{most_days, line_words, first_line}
use Rattle.day_form.specs.Settings.{most_values, setting_of}
use Rattle.day_form.specs.declared.lines.LineTest.TheVariants.{Pairs, Names}
use Rattle.day_form.specs.declared.setting.Setting.{Setting}

-- A setting with its day lines, or the refusal: the number of the cause, and the line of the whole input.
pub data Plan : Type 0 where
  planned : Setting → List TextLine → Plan
  refused : (number line : ℕ) → Plan

abbrev pub refused_at : ℕ → Option ℕ → Result (Unit {0}) NumberedRefusal → Result (Unit {0}) NumberedRefusal
refused_at number (Some line) others = Err (record { number = number; place = line })
refused_at number None others = others

-- "22 for a variable number outside 0 to V−1": the setting's, or a day line's. The setting's line has the number `first`.
unfoldable pub outside_line : ℕ → ℕ → ℕ → List TextLine → Option ℕ
outside_line variables first variable days = pick (ltb variable variables) (first_line (Names variables) (first + 1) days) (Some first)

-- "21 for a .. day line malformed, .. or a .. day line or pair too many; then 22".
unfoldable pub days_verdict : ℕ → ℕ → ℕ → List TextLine → Result (Unit {0}) NumberedRefusal
days_verdict variables first variable days =
    refused_at 21 (first_line (Pairs (first + most_days)) (first + 1) days)
    (refused_at 22 (outside_line variables first variable days)
    (Ok tt))

unfoldable pub checked_plan : Result (Unit {0}) NumberedRefusal → Setting → List TextLine → Plan
checked_plan (Err cause) setting days = refused cause.number cause.place
checked_plan (Ok tt) setting days = planned setting days

-- "21 for a setting .. malformed, .. lowest above highest, or a value .. too many".
unfoldable pub setting_plan : ℕ → ℕ → Option Setting → List TextLine → Plan
setting_plan variables first None days = refused 21 first
setting_plan variables first (Some setting) days = checked_plan (days_verdict variables first setting.variable days) setting days

-- The setting's line and the day's, the first of which has this number; "a missing setting (the line after the last)".
unfoldable pub lines_plan : ℕ → ℕ → List TextLine → Plan
lines_plan variables first [] = refused 21 first
lines_plan variables first (line ∷ days) = setting_plan variables first (setting_of (line_words line)) days

-- What stands behind the rule of an input; the rule has so many variables.
unfoldable pub plan_of : ℕ → List ℕ → Plan
plan_of variables input = lines_plan variables (first_number input) (lines_behind input)

-- ---- what the reader of a plan is lent and leaves

-- So many values from here on are words.
pub record InWords (value : ℤ) (values : ℕ) : Type 0 where
  pub each : (k : ℕ) → k < values → mag (value +ℤ pos k) < 2 ^ 31

-- A setting has 1 to 100 values, all of them words.
pub record Sets (setting : Setting) : Type 0 where
  pub some_value : 0 < setting.values
  pub few : setting.values ≤ most_values
  pub words : InWords setting.lowest setting.values

-- The plan has this setting, and its day lines, at most 200, begin here.
pub record IsPlanned (plan : Plan) (setting : Setting) (at : ℕ) (text : List ℕ) : Type 0 where
  pub is : plan ≡ planned setting (lines_of (drop at text))
  pub inside : at ≤ length text
  pub sets : Sets setting
  pub few_days : length (lines_of (drop at text)) ≤ most_days

abbrev pub PlanRead : Plan → Result (Setting × ℕ) NumberedRefusal → List ℕ → Type 0
PlanRead plan (Ok (setting, at)) text = IsPlanned plan setting at text
PlanRead plan (Err cause) text = plan ≡ refused cause.number cause.place
