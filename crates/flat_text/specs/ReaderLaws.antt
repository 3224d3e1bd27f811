-- ReaderLaws: what a reader of flat lists gives, by whether the first line is within its limits.
use Rattle.std.specs.Prelude.{◌≡◌, refl, Bool, true, false, List, ℕ, ◌-◌, ℤ, take, Err, None, Option, Some}
use Rattle.std.proofs.Common.{sym, ◌∙◌}
use Rattle.std.proofs.Math.Path.{ap}
use Rattle.words.specs.Layout.{header_fits}
use Rattle.words.specs.Laws.{by_cases}
use Rattle.words.specs.declared.Form.TheVariants.{Kernel}
use Rattle.text_lines.specs.Line.{fields_of, numbers_of}
use Rattle.text_lines.specs.Reader.{numbers_in}
use Rattle.text_form.specs.Text.{malformed}
use Rattle.text_form.specs.Answers.{cause_unless, read_refused, read_program, tables_hold, Reads}
use Rattle.text_form.specs.Reader.{HasLines, or_short, read_by}
use Rattle.text_form.proofs.ReaderLaws.{lent-line}
use Rattle.flat_text.specs.Text.{parse_flat}
use Rattle.flat_text.specs.Answers.{flat_cause, flat_parsed, flat_read_result}

pub cause-fits : (header : List ℤ) → header_fits Kernel header ≡ true → flat_cause header true ≡ None
unfolding flat_cause cause_unless
cause-fits header e = rw e

pub cause-unfit : (header : List ℤ) → header_fits Kernel header ≡ false → flat_cause header true ≡ Some 1
unfolding flat_cause cause_unless
cause-unfit header e = rw e

-- 10 comes after 1
cause-by : (header : List ℤ) (room : Bool) → flat_cause header room ≡ or_short (flat_cause header true) room
unfolding flat_cause cause_unless or_short
cause-by header room = by_cases (header_fits Kernel header) (λ t. rw t) (λ t. rw t)

pub reads-malformed : (text : List ℕ) (header list : List ℤ) (line : ℕ) → parse_flat text ≡ malformed line
    → Reads (flat_read_result text header list) (Err (record { number = 14; place = line })) header list
unfolding flat_read_result flat_parsed read_refused
reads-malformed text header list line e = rw e (record { outcome = refl; header_left = refl; rows-left = refl })

module _ {text : List ℕ} {end numbers words : ℕ} (l : HasLines 5 Kernel text end numbers words) where
  -- the cause of the first line is that of the header
  pub line-cause : (said : Option ℕ) → said ≡ flat_cause (numbers_in (numbers_of (fields_of (take (end - 0) text)))) true → flat_cause l.program.header true ≡ said
  line-cause said e = sym (rw (lent-line l) at e)

  pub reads-by : (header list : List ℤ) (before : Option ℕ) → flat_cause l.program.header true ≡ before → flat_read_result text header list ≡ read_by before (parse_flat text) header list
  unfolding flat_read_result flat_parsed read_by
  reads-by header list before e =
      rw l.parses
      (ap (λ (cause : Option ℕ). read_program cause l.program header list)
      (cause-by l.program.header (tables_hold l.program header list) ∙ ap (λ (cause : Option ℕ). or_short cause (tables_hold l.program header list)) e))
