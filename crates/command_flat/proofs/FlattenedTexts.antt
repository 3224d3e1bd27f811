-- A program that was flattened into a table of so much room: the text of its list has room, and a refusal is the check's, or 10.
use Rattle.std.specs.Prelude.{Err, Ok, Result}
use mathlib.Core.Path.{◌≡◌, refl, sym, ap, ◌∙◌}
use mathlib.Core.Bool.{Bool, true, false}
use mathlib.Core.List.{List}
use Prim.Native.Nat.{ℕ, ◌-◌, ◌*◌, ◌/◌, ◌≤◌}
use native.Mathlib.Omega.{arith}
use lib.Dec.{leb}
use lib.IntN.{ℤ}
use lib.ListN.{length, take}
use borrow.Author.Tests.{leb-true}
use Rattle.words.specs.Word.{pick}
use Rattle.words.specs.Over.{over}
use Rattle.words.specs.OverLaws.{length_over, written-part}
use Rattle.words.specs.Laws.{header_fits-facts, leading-limits}
use Rattle.words.specs.declared.Form.TheVariants.{Kernel}
use Rattle.words.specs.Refusals.{NumberedRefusal}
use Rattle.text_form.specs.Text.{table_bytes}
use Rattle.text_report.specs.Lines.{refused_line}
use Rattle.check_plain.specs.Refusal.{plain_refusal}
use Rattle.check_plain.specs.Accepts.{accepted-plain}
use Rattle.flat_fate.specs.FlatWords.{flattened}
use Rattle.flat_text.specs.Text.{flat_bytes}
use Rattle.flattener.specs.Flattening.{FlattenResult, answer_and_list, flatten_after, flatten_result}
use Rattle.flattener.proofs.FlatteningLaws.{list-size}
use Rattle.command_text.specs.Texts.{Tabled}
use Rattle.command_flat.specs.Flattenings.{flatten_room, accepted_list, verdict_list, list_text}

-- the table as it stands after it: the list is its first words
pub record ListTable (header rows left : List ℤ) (words : ℕ) : Type 0 where
  pub inside : words ≤ length left
  pub printable : Tabled 5 (words / 5) header (take (words - 0) left)
  pub is : table_bytes 5 (words / 5) header (take (words - 0) left) ≡ list_text header rows

-- an answer is of one sort
other-answer : {Claim : Type 0} {words : ℕ} {refusal : NumberedRefusal} → ◌≡◌ {A = Result ℕ NumberedRefusal} (Ok words) (Err refusal) → Claim
other-answer e = absurd (let z : ◌≡◌ {A = ℕ} 0 1 = cc in omega arith)

same-refusal : {refusal other : NumberedRefusal} → ◌≡◌ {A = Result ℕ NumberedRefusal} (Err refusal) (Err other) → refusal ≡ other
same-refusal e = cc

-- the list, or 10, by whether there is room
abbrev written_if : Bool → (rows out : List ℤ) → FlattenResult
written_if test rows out =
    pick test (answer_and_list (Ok (length (flattened rows))) (over (flattened rows) out)) (answer_and_list (Err (record { number = 10; place = 0 })) out)

module _ (header rows out : List ℤ) (room : length out ≡ flatten_room) where
  module _ (a : plain_refusal header rows ≡ (Ok tt)) where
    five : length (flattened rows) ≡ 5 * (length (flattened rows) / 5)
    five = omega (arith, list-size (record { header = header; plain = accepted-plain header rows a }))

    list-table : leb (length (flattened rows)) flatten_room ≡ true → (words : ℕ) (left : List ℤ) → words ≡ length (flattened rows) → left ≡ over (flattened rows) out → ListTable header rows left words
    list-table t words left w o =
        let h = header_fits-facts Kernel header (accepted-plain header rows a).legal.header-fits in
        let few = leb-true (length (flattened rows)) flatten_room t in
        let fits : length (flattened rows) ≤ length out = omega (arith, few, room) in
        let list = written-part (flattened rows) out left words w o in
        record {
          inside = omega (arith, w, fits, length_over (flattened rows) out left o fits);
          printable = record {
            filled = omega (arith, h.least, leading-limits Kernel);
            header_few = omega (arith, h.most, leading-limits Kernel);
            wide = omega arith;
            whole = ap length list ∙ omega (arith, w, five);
            rows_few = omega (arith, ap length list, few);
          };
          is = rw (list, w) (rw (a, t));
        }

    flattened-if : (test : Bool) → leb (length (flattened rows)) flatten_room ≡ test → (words : ℕ) (left : List ℤ) → answer_and_list (Ok words) left ≡ written_if test rows out → ListTable header rows left words
    flattened-if true t words left e =
        let told : ◌≡◌ {A = Result ℕ NumberedRefusal} (Ok words) (Ok (length (flattened rows))) = ap (λ (r : FlattenResult). r.answer) e in
        let same : words ≡ length (flattened rows) = cc in
        list-table t words left same (ap (λ (r : FlattenResult). r.list) e)
    flattened-if false t words left e = other-answer (ap (λ (r : FlattenResult). r.answer) e)

    refused-if : (test : Bool) → leb (length (flattened rows)) flatten_room ≡ test → (refusal : NumberedRefusal) (left : List ℤ) → answer_and_list (Err refusal) left ≡ written_if test rows out
        → refused_line refusal.number refusal.place ≡ accepted_list header rows
    refused-if true t refusal left e = other-answer (sym (ap (λ (r : FlattenResult). r.answer) e))
    refused-if false t refusal left e = rw (same-refusal (ap (λ (r : FlattenResult). r.answer) e), t)

  flattened-by : (verdict : Result (Unit {0}) NumberedRefusal) → plain_refusal header rows ≡ verdict → (words : ℕ) (left : List ℤ) → answer_and_list (Ok words) left ≡ flatten_after verdict rows out → ListTable header rows left words
  flattened-by (Err refusal) a words left e = other-answer (ap (λ (r : FlattenResult). r.answer) e)
  flattened-by (Ok tt) a words left e = flattened-if a (leb (length (flattened rows)) flatten_room) refl words left (rw room at e)

  refused-by : (verdict : Result (Unit {0}) NumberedRefusal) → plain_refusal header rows ≡ verdict → (refusal : NumberedRefusal) (left : List ℤ) → answer_and_list (Err refusal) left ≡ flatten_after verdict rows out
      → refused_line refusal.number refusal.place ≡ verdict_list verdict header rows
  refused-by (Err other) a refusal left e = rw (same-refusal (ap (λ (r : FlattenResult). r.answer) e))
  refused-by (Ok tt) a refusal left e = refused-if a (leb (length (flattened rows)) flatten_room) refl refusal left (rw room at e)

  pub list-made : {words : ℕ} {left : List ℤ} → answer_and_list (Ok words) left ≡ flatten_result header rows out → ListTable header rows left words
  unfolding flatten_result
  list-made {words} {left} e = flattened-by (plain_refusal header rows) refl words left e

  -- the line of a refusal
  pub list-refused : (refusal : NumberedRefusal) (left : List ℤ) → answer_and_list (Err refusal) left ≡ flatten_result header rows out → refused_line refusal.number refusal.place ≡ list_text header rows
  unfolding flatten_result
  list-refused refusal left e = refused-by (plain_refusal header rows) refl refusal left e
