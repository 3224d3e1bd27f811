-- One line on a copy of the store, and the walk over the lines of a day.
use mathlib.Core.Path.{◌≡◌, refl, sym, ap, ◌∙◌}
use mathlib.Core.List.{List, [], ◌∷◌}
use Prim.Native.Nat.{ℕ, ◌+◌, ◌-◌, ◌≤◌, ◌<◌}
use native.Mathlib.Omega.{arith}
use lib.IntN.{ℤ}
use lib.ListN.{length, drop, drop_of_length-le}
use Rattle.words.specs.declared.Form.TheVariants.{Source}
use Rattle.words.specs.declared.Ending.{Ending}
use Rattle.words.specs.declared.Ending.TheVariants.{Plain, Spent, Fault}
use Rattle.words.specs.declared.FaultSort.{FaultSort}
use Rattle.words.specs.declared.RunAnswer.{RunAnswer}
use Rattle.language.specs.Program.{run_table}
use Rattle.machine.specs.Whole.{finished_of, Runnable}
use Rattle.text_lines.specs.Line.{TextLine, lines_of}
use Rattle.text_lines.specs.LineLaws.{lines_none}
use Rattle.text_rules.specs.Rules.{budget}
use Rattle.day_form.specs.Lines.{line_words, NextRead}
use Rattle.day_form.specs.declared.lines.NextLine.{NextLine}
use Rattle.day_run.specs.Days.{Day, new_day, store_pairs, after_run, do_line, do_lines, pairs_of}
use Rattle.day_run.specs.Conditions.{LineDone}

abbrev day_with : List ℤ → ℕ → ℕ → Day
day_with store plain other = record { store = store; plain = plain; other = other }

-- ---- the run

-- what a run asks of the store is how many words it has
pub runnable-on : {header rows store other : List ℤ} → Runnable Source header rows store → length other ≡ length store → Runnable Source header rows other
runnable-on r e = record { fits = r.fits; sound = rw e r.sound; calls = r.calls; words = e ∙ r.words; few_rows = r.few_rows }

-- ---- one line

module _ (header rows pairs store : List ℤ) where
  -- the run of the line, on whatever it starts from
  pub record Ran (ending : Ending) (left : List ℤ) : Type 0 where
    pub count : ℕ
    pub is : run_table Source header rows budget (store_pairs pairs store) ≡ record { ending = ending; count = count; store = left }

  pub ran_on : (start : List ℤ) (answer : RunAnswer) (left : List ℤ) → start ≡ store_pairs pairs store → finished_of answer left ≡ run_table Source header rows budget start → Ran answer.ending left
  ran_on start answer left e r = record { count = answer.count; is = sym (r ∙ ap (run_table Source header rows budget) e) }

  ended : (ending : Ending) (left : List ℤ) → Ran ending left → (p o : ℕ)
      → do_line header rows pairs (record { store = store; plain = p; other = o }) ≡ after_run ending left (record { store = store; plain = p; other = o })
  unfolding do_line
  ended ending left r p o = rw r.is

  pub plain_done : (left kept : List ℤ) → Ran Plain left → kept ≡ left → LineDone header rows pairs store 1 kept
  plain_done left kept r e = record { one = omega arith; does = λ p o. ended Plain left r p o ∙ ap (λ (l : List ℤ). day_with l (p + 1) o) (sym e) ∙ ap (day_with kept (p + 1)) (add_none o) }
    where
      add_none : (o : ℕ) → o ≡ o + (1 - 1)
      add_none o = omega arith

  not_done : (ending : Ending) (left : List ℤ) → Ran ending left
      → ((p o : ℕ) → after_run ending left (day_with store p o) ≡ day_with store p (o + 1))
      → LineDone header rows pairs store 0 store
  not_done ending left r undone =
      record { one = omega arith; does = λ p o. ended ending left r p o ∙ undone p o ∙ ap (λ (n : ℕ). day_with store n (o + 1)) (add_nothing p) ∙ ap (day_with store (p + 0)) (add-other o) }
    where
      add_nothing : (p : ℕ) → p ≡ p + 0
      add_nothing p = omega arith

      add-other : (o : ℕ) → o + 1 ≡ o + (1 - 0)
      add-other o = omega arith

  pub spent-done : (left : List ℤ) → Ran Spent left → LineDone header rows pairs store 0 store
  spent-done left r = not_done Spent left r (λ p o. refl)

  pub fault-done : (sort : FaultSort) (left : List ℤ) → Ran (Fault sort) left → LineDone header rows pairs store 0 store
  fault-done sort left r = not_done (Fault sort) left r (λ p o. refl)

-- ---- the lines

pub record Done (header rows : List ℤ) (text : List ℕ) (start : List ℤ) (at plain other : ℕ) (store : List ℤ) : Type 0 where
  pub inside : at ≤ length text
  pub fewer : plain + other ≤ at
  pub kept : length store ≡ length start
  pub same : do_lines header rows (pairs_of (lines_of text)) (new_day start) ≡ do_lines header rows (pairs_of (lines_of (drop at text))) (record { store = store; plain = plain; other = other })

pub done-start : (header rows : List ℤ) (text : List ℕ) (start : List ℤ) → Done header rows text start 0 0 0 start
done-start header rows text start = record { inside = omega arith; fewer = omega arith; kept = refl; same = refl }

no_lines : (header rows : List ℤ) (day : Day) → do_lines header rows [] day ≡ day
unfolding do_lines
no_lines header rows day = refl

next-lines : (header rows pairs : List ℤ) (lines : List (List ℤ)) (day : Day) → do_lines header rows (pairs ∷ lines) day ≡ do_lines header rows lines (do_line header rows pairs day)
unfolding do_lines
next-lines header rows pairs lines day = refl

module _ {header rows : List ℤ} {text : List ℕ} {start : List ℤ} {at plain other : ℕ} {store : List ℤ} (d : Done header rows text start at plain other store) where
  pub done_end : length text ≤ at → record { store = store; plain = plain; other = other } ≡ do_lines header rows (pairs_of (lines_of text)) (new_day start)
  done_end h =
      sym (
      d.same
      ∙ ap (λ (lines : List TextLine). do_lines header rows (pairs_of lines) (record { store = store; plain = plain; other = other })) (lines_none (drop at text) (ap length (drop_of_length-le text {i = at} h)))
      ∙ no_lines header rows _
      )

  pub done_next : {next : NextLine} {table written : List ℤ} (r : NextRead text at next table written) (lent : List ℤ) → lent ≡ line_words r.line
      → (done : ℕ) (left : List ℤ) → LineDone header rows lent store done left → length left ≡ length store
      → Done header rows text start next.at (plain + done) (other + (1 - done)) left
  done_next {next = next} r lent is done left l k = record {
    inside = r.inside;
    fewer = omega (arith, d.fewer, r.further, l.one);
    kept = k ∙ d.kept;
    same =
        d.same
        ∙ ap (λ (lines : List TextLine). do_lines header rows (pairs_of lines) (record { store = store; plain = plain; other = other })) r.is-first
        ∙ next-lines header rows (line_words r.line) (pairs_of (lines_of (drop next.at text))) _
        ∙ ap (do_lines header rows (pairs_of (lines_of (drop next.at text)))) (ap (λ (pairs : List ℤ). do_line header rows pairs (record { store = store; plain = plain; other = other })) (sym is) ∙ l.does plain other);
  }
