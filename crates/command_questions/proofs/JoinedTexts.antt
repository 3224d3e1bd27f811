-- Joins: what was written into a table of 2,048 rows is a source program whose text has room; and the first program's causes come first.
use Rattle.std.specs.Prelude.{Err, Ok, Result}
use mathlib.Core.Path.{◌≡◌, refl, sym, ap, ◌∙◌}
use mathlib.Core.List.{List}
use Prim.Native.Nat.{ℕ, ◌-◌, ◌≤◌}
use native.Mathlib.Omega.{arith}
use lib.IntN.{ℤ}
use lib.ListN.{length, take}
use Rattle.words.specs.Over.{over}
use Rattle.words.specs.OverLaws.{first_of, written-part}
use Rattle.words.specs.declared.Form.TheVariants.{Source}
use Rattle.words.specs.Refusals.{NumberedRefusal}
use Rattle.check_structure.specs.Refusal.{◌next◌}
use Rattle.check_source.specs.Legal.{Legal}
use Rattle.text_form.specs.Text.{text_bytes}
use Rattle.text_report.specs.Lines.{refused_line}
use Rattle.program_runs.specs.Runs.{refusal_of}
use Rattle.join.specs.Join.{joined_rows, join_refusal}
use Rattle.joiner.specs.Joining.{JoinResult, answer_and_rows, join_after, join_result, WroteJoin}
use Rattle.command_text.specs.Texts.{Printable}
use Rattle.command_questions.specs.Joins.{after_check, join_text}

-- two programs that were joined: the table as it stands after it
pub record JoinedTable (header rows secondHeader secondRows left : List ℤ) (words : ℕ) : Type 0 where
  pub rows_inside : words ≤ length left
  pub printable : Printable header (take (words - 0) left)
  pub is : text_bytes header (take (words - 0) left) ≡ join_text header rows secondHeader secondRows

module _ (header rows secondHeader secondRows : List ℤ) where
  abbrev joined : List ℤ
  joined = joined_rows rows secondRows

  module _ (table : List ℤ) (size : length table ≡ 12288) where
    -- the verdict of a join in that table
    room_is : join_refusal header rows secondHeader secondRows (length table) ≡ join_refusal header rows secondHeader secondRows 12288
    room_is = ap (join_refusal header rows secondHeader secondRows) size

    -- the line of a refusal
    pub refused-join : (r : NumberedRefusal) (left : List ℤ) → answer_and_rows (Err r) left ≡ join_result header rows secondHeader secondRows table
        → refused_line r.number r.place ≡ join_text header rows secondHeader secondRows
    unfolding join_result
    refused-join r left e = go (join_refusal header rows secondHeader secondRows (length table)) room_is e
      where
        go : (v : Result (Unit {0}) NumberedRefusal) → v ≡ join_refusal header rows secondHeader secondRows 12288 → answer_and_rows (Err r) left ≡ join_after v joined table
            → refused_line r.number r.place ≡ join_text header rows secondHeader secondRows
        go (Err other) told e =
            let answers : ◌≡◌ {A = Result ℕ NumberedRefusal} (Err r) (Err other) = ap (λ (j : JoinResult). j.answer) e in
            let same : r ≡ other = cc in
            ap (λ (x : NumberedRefusal). refused_line x.number x.place) same ∙ ap (λ (v : Result (Unit {0}) NumberedRefusal). after_check v (text_bytes header joined)) told
        go (Ok tt) told e =
            let answers : ◌≡◌ {A = Result ℕ NumberedRefusal} (Err r) (Ok (length joined)) = ap (λ (j : JoinResult). j.answer) e in
            let z : ◌≡◌ {A = ℕ} 0 1 = cc in
            absurd (omega arith)

    pub joined_made : (words : ℕ) (left : List ℤ) → answer_and_rows (Ok words) left ≡ join_result header rows secondHeader secondRows table → WroteJoin header rows secondRows words left
        → JoinedTable header rows secondHeader secondRows left words
    unfolding join_result
    joined_made words left e wrote = go (join_refusal header rows secondHeader secondRows (length table)) room_is e
      where
        legal : Legal header (take words left)
        legal = wrote.joins.legal

        go : (v : Result (Unit {0}) NumberedRefusal) → v ≡ join_refusal header rows secondHeader secondRows 12288 → answer_and_rows (Ok words) left ≡ join_after v joined table
            → JoinedTable header rows secondHeader secondRows left words
        go (Err other) told e =
            let answers : ◌≡◌ {A = Result ℕ NumberedRefusal} (Ok words) (Err other) = ap (λ (j : JoinResult). j.answer) e in
            let z : ◌≡◌ {A = ℕ} 0 1 = cc in
            absurd (omega arith)
        go (Ok tt) told e =
            let answers : ◌≡◌ {A = Result ℕ NumberedRefusal} (Ok words) (Ok (length joined)) = ap (λ (j : JoinResult). j.answer) e in
            let long : words ≡ length joined = cc in
            let stands : take (words - 0) left ≡ joined = written-part joined table left words long (ap (λ (j : JoinResult). j.rows) e) in
            record {
              rows_inside = wrote.inside;
              printable = record {
                form = Source;
                passes = rw (first_of left words) (record { header-fits = legal.header-fits; count-fits = legal.structured.count-fits });
              };
              is = ap (text_bytes header) stands ∙ ap (λ (v : Result (Unit {0}) NumberedRefusal). after_check v (text_bytes header joined)) told;
            }

  -- the first's own causes are among those of the join
  pub after-check : join_text header rows secondHeader secondRows ≡ after_check (refusal_of Source header rows) (join_text header rows secondHeader secondRows)
  unfolding join_refusal ◌next◌
  after-check = go (refusal_of Source header rows) refl
    where
      go : (v : Result (Unit {0}) NumberedRefusal) → refusal_of Source header rows ≡ v → join_text header rows secondHeader secondRows ≡ after_check v (join_text header rows secondHeader secondRows)
      go (Err r) told = rw told
      go (Ok tt) told = refl
