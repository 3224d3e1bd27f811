-- What each step of reading a framed line comes to.
use Rattle.std.specs.Prelude.{None, Option, Some}
use mathlib.Core.Path.{◌≡◌, refl, sym, ap, ap₂, ◌∙◌}
use mathlib.Core.List.{List}
use Prim.Native.Nat.{ℕ, ◌-◌, ◌≤◌, ◌<◌}
use lib.ListN.{length, take, drop}
use borrow.Author.Tests.{eq-eqb, ne_eqb, lt-ltb, le-ltb}
use Rattle.words.specs.OverLaws.{rest_of}
use Rattle.page.specs.Page.{indent}
use Rattle.page_words.specs.Reads.{number_read, line_read}
use Rattle.page_words.specs.declared.Names.{Names}
use Rattle.page_words.specs.declared.LineContent.{LineContent}
use Rattle.page_frame.specs.Frames.{leading_blanks, filled_size, level_of, is_number, is_numbered, levelled, statement_read}

pub numbered-by : (number : ℕ) (columns : List ℕ) (start : ℕ) (r : Option ℕ) → start ≡ leading_blanks columns → r ≡ number_read 100000 (take (length columns - start) (drop start columns))
    → is_number number r ≡ is_numbered number columns
unfolding is_numbered
numbered-by number columns start r e q = ap (is_number number) (q ∙ ap (number_read 100000) (rest_of columns start ∙ ap (λ (n : ℕ). drop n columns) e))

module _ (depth start : ℕ) (r : Option LineContent) where
  pub level-none : r ≡ None → None ≡ levelled depth start r
  unfolding levelled
  level-none e = rw e

  pub level-is : (line : LineContent) → r ≡ Some line → start ≡ indent (level_of depth line) → Some line ≡ levelled depth start r
  unfolding levelled
  level-is line e h = rw (e, eq-eqb start (indent (level_of depth line)) h)

  pub level-not : (line : LineContent) → r ≡ Some line → (start ≡ indent (level_of depth line) → ⊥) → None ≡ levelled depth start r
  unfolding levelled
  level-not line e h = rw (e, ne_eqb start (indent (level_of depth line)) h)

module _ (names : Names) (body : List ℕ) (start end : ℕ) (s : start ≡ leading_blanks body) (e : end ≡ filled_size body) where
  pub statement-short : end < start → None ≡ statement_read names body
  unfolding statement_read
  statement-short h = rw (← e, ← s, lt-ltb end start h)

  pub statement-long : start ≤ end → line_read names (take (end - start) (drop start body)) ≡ statement_read names body
  unfolding statement_read
  statement-long h = rw (← e, ← s, le-ltb end start h)
