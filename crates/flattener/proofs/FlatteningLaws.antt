-- Laws of flattening: every kernel program without functions has its flat list; the list's exact size, from the table of sizes; what the
-- code leaves is what the definition says.
use Rattle.std.specs.Prelude.{◌≡◌, refl, Bool, true, false, List, ◌++◌, ℕ, ◌+◌, ◌*◌, ◌≤◌, ◌<◌, ℤ, leb, length, get_or, take, drop, replicate, Err, Ok, Result}
use Rattle.std.proofs.Common.{sym, ◌∙◌, arith, length-take-le, leb-true, le-leb}
use Rattle.std.proofs.Math.Path.{ap}
use Rattle.std.proofs.lemmas.List.{length-replicate, get_or-replicate}
use Rattle.std.proofs.lemmas.Bool.{lt-leb}
use Rattle.words.specs.Layout.{layout_of}
use Rattle.words.specs.Word.{pick}
use Rattle.words.specs.Over.{over}
use Rattle.words.specs.OverLaws.{length_over, take-over}
use Rattle.words.specs.Table.{row_count}
use Rattle.words.specs.declared.Form.TheVariants.{Kernel}
use Rattle.words.specs.Refusals.{NumberedRefusal}
use Rattle.language.specs.Decode.{items_at}
use Rattle.language.specs.Program.{contents}
use Rattle.language.specs.Calls.{arity_in}
use Rattle.check_fields.specs.Fields.{bounds_of}
use Rattle.check_structure.specs.StructuredLaws.{structured-tree}
use Rattle.check_plain.specs.Refusal.{plain_refusal}
use Rattle.check_plain.specs.Plain.{Plain}
use Rattle.check_plain.specs.Accepts.{accepted-plain}
use Rattle.accepted.proofs.Statements.{root-inside, root-statement}
use Rattle.accepted_kernel.proofs.Kernel.{plain-functionless, plain-program}
use Rattle.flat_kernel_rows.specs.KernelTable.{KernelTable}
use Rattle.flat_kernel_rows.proofs.Labels.{plain-once}
use Rattle.flat_kernel_rows.proofs.Tree.{plain-tree, root-items}
use Rattle.flat.proofs.Accepts.{legal_accepted as flat-accepts}
use Rattle.flat_fate.specs.Code.{statement_lines, items_lines}
use Rattle.flat_fate.specs.Addresses.{flat_of}
use Rattle.flat_fate.proofs.AddressLaws.{flat-size}
use Rattle.flat_fate.specs.FlatWords.{words_from, flattened}
use Rattle.flat_fate.proofs.FlatWordsLaws.{flattened-size, shares_fate}
use Rattle.flat_fate.proofs.CodeLegal.{flattened-legal}
use Rattle.flat_rows.proofs.Standing.{list-few}
use Rattle.flat_sizes.specs.Tables.{Sized}
use Rattle.flat_lines.specs.Lent.{Exact}
use Rattle.flattener.specs.Flattening.{FlattenResult, answer_and_list, written, flatten_result, FlatFormOf, WroteList, WritesList}

-- Every plain kernel program, foreign ones too, has its flat list.
pub has-flat-form : (header rows : List ℤ) → plain_refusal header rows ≡ (Ok tt) → FlatFormOf header rows (flattened rows)
unfolding flattened
has-flat-form header rows e =
    let plain = accepted-plain header rows e in
    record {
      size = flattened-size header rows plain (λ l. plain-once header rows plain l);
      accepted = flat-accepts header (words_from 0 (flat_of (contents rows))) (flattened-legal header (contents rows) plain.legal.header-fits (plain-tree header rows plain) (plain-functionless header rows plain));
      shares_fate = λ store. shares_fate header rows plain (λ l. plain-once header rows plain l) store;
    }

module _ {rows : List ℤ} (table : KernelTable rows) where
  abbrev plain : Plain table.header rows
  plain = table.plain

  -- the size of row 0 is the list's
  pub root-size : {sizes : List ℕ} → Sized rows 0 sizes → (words : ℕ) → words ≡ 5 * get_or sizes 0 0 → words ≡ length (flattened rows)
  unfolding items_lines statement_lines
  root-size s words e =
      let t = plain.legal.structured in
      let bounds = bounds_of Kernel table.header in
      let some = root-inside Kernel bounds rows t in
      let lines : items_lines (items_at rows 0) ≡ items_lines (contents rows) + 0 = ap items_lines (root-items table.header rows plain) in
      omega (arith, s.sized 0 (omega arith) some (root-statement Kernel bounds rows t), flattened-size table.header rows plain (λ l. plain-once table.header rows plain l))

  pub list-size : length (flattened rows) ≡ 5 * length (flat_of (contents rows))
  list-size =
      let own = plain-program table.header rows plain in
      omega (arith, flattened-size table.header rows plain (λ l. plain-once table.header rows plain l), flat-size (layout_of Kernel table.header) (contents rows) own.items (arity_in (contents rows)) own.calls (λ l. plain-once table.header rows plain l))

  -- the tables have a place for each row
  pub rows_few : row_count rows ≤ 40980
  rows_few = (structured-tree Kernel (bounds_of Kernel table.header) rows plain.legal.structured).few

  pub lines-few : length (flattened rows) < 204900
  lines-few = omega (arith, list-size, list-few table.header rows plain)

  -- where the list is too short nothing is written
  pub too-short : (out : List ℤ) (words : ℕ) → words ≡ length (flattened rows) → length out < words → answer_and_list (Err (record { number = 10; place = 0 })) out ≡ written (flattened rows) out
  too-short out words e h = rw (lt-leb (length (flattened rows)) (length out) (omega arith))

  -- else it stands in the part that it takes
  pub exact-part : (out : List ℤ) (words : ℕ) → words ≡ length (flattened rows) → words ≤ length out → Exact rows (take words out)
  exact-part out words e h = length-take-le words out h ∙ e ∙ list-size

  pub list_put : (out part : List ℤ) (words : ℕ) → words ≡ length (flattened rows) → words ≤ length out → part ≡ flattened rows → answer_and_list (Ok words) (part ++ drop words out) ≡ written (flattened rows) out
  unfolding over
  list_put out part words e h f = rw (le-leb (length (flattened rows)) (length out) (omega arith), e, f)

-- ---- tables of zeros

pub zeros-room : (room n : ℕ) → n ≤ room → n ≤ length (replicate {A = ℕ} room 0)
zeros-room room n h = rw length-replicate h

pub zeros-first : (room : ℕ) → 0 < room → get_or (replicate {A = ℕ} room 0) 0 0 ≡ 0
zeros-first room h = get_or-replicate room 0 0 0 h

-- ---- the check's answer comes first

module _ (header rows out : List ℤ) where
  pub refused-first : (refusal : NumberedRefusal) → plain_refusal header rows ≡ Err refusal → answer_and_list (Err refusal) out ≡ flatten_result header rows out
  unfolding flatten_result
  refused-first refusal e = rw e

  pub accepted-next : (result : FlattenResult) → plain_refusal header rows ≡ (Ok tt) → result ≡ written (flattened rows) out → result ≡ flatten_result header rows out
  unfolding flatten_result
  accepted-next result e f = rw e f

  -- ---- what is written has the flat form

  module _ (e : plain_refusal header rows ≡ (Ok tt)) (left : List ℤ) where
    wrote : (words : ℕ) → ◌≡◌ {A = Result ℕ NumberedRefusal} (Ok words) (Ok (length (flattened rows))) → left ≡ over (flattened rows) out → length (flattened rows) ≤ length out → WroteList header rows words left
    wrote words f g h =
        let same : words ≡ length (flattened rows) = cc in
        record { inside = omega (arith, length_over (flattened rows) out left g h); form = rw (same, g, take-over (flattened rows) out) (has-flat-form header rows e) }

    writes : (answer : Result ℕ NumberedRefusal) (test : Bool) → leb (length (flattened rows)) (length out) ≡ test → answer_and_list answer left ≡ pick test (answer_and_list (Ok (length (flattened rows))) (over (flattened rows) out)) (answer_and_list (Err (record { number = 10; place = 0 })) out) → WritesList header rows answer left
    writes (Ok words) true t f = wrote words (ap (λ (r : FlattenResult). r.answer) f) (ap (λ (r : FlattenResult). r.list) f) (leb-true (length (flattened rows)) (length out) t)
    writes (Ok words) false t f = absurd (let told : ◌≡◌ {A = Result ℕ NumberedRefusal} (Ok words) (Err (record { number = 10; place = 0 })) = ap (λ (r : FlattenResult). r.answer) f in let z : ◌≡◌ {A = ℕ} 0 1 = cc in omega arith)
    writes (Err refusal) test t f = tt

    pub written-form : (answer : Result ℕ NumberedRefusal) → answer_and_list answer left ≡ written (flattened rows) out → WritesList header rows answer left
    written-form answer f = writes answer (leb (length (flattened rows)) (length out)) refl f
