-- Laws of flat words: the list's exact size, its lines read back, and equal fate about rows and words.
use Rattle.std.specs.Prelude.{◌≡◌, refl, false, List, [], ◌∷◌, ◌++◌, ℕ, suc, ◌+◌, ◌*◌, ◌/◌, ◌≤◌, ℤ, pos, length}
use Rattle.std.proofs.Common.{sym, ◌∙◌, append_assoc, arith, length-append}
use Rattle.std.proofs.Math.Path.{ap}
use Rattle.std.proofs.Math.ListN.{get_or}
use Rattle.std.proofs.Math.Seq.{get_or-append-add}
use Rattle.words.specs.Layout.{Layout, layout_of}
use Rattle.words.specs.declared.Form.TheVariants.{Kernel}
use Rattle.words.specs.declared.Ending.TheVariants.{Spent}
use Rattle.computation.specs.Run.{Result, ok, stopped, spent, fault, steps, run, start, ending_of, Settled}
use Rattle.language.specs.Trees.{block, Items, none}
use Rattle.language.specs.Functions.{plain}
use Rattle.language.proofs.FunctionLaws.{context-plain}
use Rattle.language.specs.Calls.{arity_in}
use Rattle.language.specs.Meaning.{Signal, exec}
use Rattle.language.specs.Program.{contents, finished, table_program, run_table_under, run_table}
use Rattle.translation.specs.PlainKernel.{PlainKernel}
use Rattle.translation.specs.KernelForm.{items_times, KernelItems}
use Rattle.check_plain.specs.Plain.{Plain}
use Rattle.accepted_kernel.proofs.Kernel.{legal-block, plain-functionless, plain-program}
use Rattle.flat.specs.Lines.{FlatLine, run_from}
use Rattle.flat.specs.Words.{Parts, line_parts, five_words, field_at, lines_from, lines_of, Written}
use Rattle.flat.proofs.WordsLaws.{written-line}
use Rattle.flat.specs.Results.{run_list}
use Rattle.flat_fate.specs.Code.{items_lines}
use Rattle.flat_fate.specs.FlatFate.{FlatFate}
use Rattle.flat_fate.specs.Addresses.{address_in, flat_of}
use Rattle.flat_fate.proofs.AddressLaws.{flat-size, flat-stands, flat-shares-fate}
use Rattle.flat_fate.specs.FlatWords.{words_from, flattened, kernel_run, flat_run, KernelEnds, FlatEnds, SharedFate}

-- ---- words and lines

pub words-length : (i : ℕ) (xs : List FlatLine) → length (words_from i xs) ≡ 5 * length xs
unfolding words_from
words-length i [] = refl
words-length i (x ∷ xs) = omega (arith, words-length (suc i) xs)

-- five words behind the lines before
module _ (before rest : List ℤ) (i : ℕ) (e : length before ≡ 5 * i) (p : Parts) where
  field_is : (k : ℕ) → field_at (before ++ (five_words p ++ rest)) i k ≡ get_or (five_words p ++ rest) k (pos 0)
  unfolding field_at
  field_is k = ap (λ (n : ℕ). get_or (before ++ (five_words p ++ rest)) (n + k) (pos 0)) (sym e) ∙ get_or-append-add before (five_words p ++ rest) k (pos 0)

  pub five-written : Written (before ++ (five_words p ++ rest)) i p
  five-written = record { operation_word = field_is 0; target-word = field_is 1; left_word = field_is 2; right_word = field_is 3; distance_word = field_is 4 }

lines-back : (before : List ℤ) (i : ℕ) (xs : List FlatLine) → length before ≡ 5 * i → lines_from (before ++ words_from i xs) i (length xs) ≡ xs
unfolding words_from lines_from
lines-back before i [] e = refl
lines-back before i (x ∷ xs) e =
    let five = five_words (line_parts i x) in
    let longer : length (before ++ five) ≡ 5 * suc i = omega (arith, length-append before five) in
    let rest : lines_from (before ++ (five ++ words_from (suc i) xs)) (suc i) (length xs) ≡ xs = ap (λ l. lines_from l (suc i) (length xs)) (sym (append_assoc before five (words_from (suc i) xs))) ∙ lines-back (before ++ five) (suc i) xs longer in
    rw (written-line (before ++ (five ++ words_from (suc i) xs)) i x (five-written before (words_from (suc i) xs) i e (line_parts i x)), rest)

-- The lines of a list of words are those it was written from.
pub lines-again : (xs : List FlatLine) → lines_of (words_from 0 xs) ≡ xs
unfolding lines_of
lines-again xs =
    let count : length (words_from 0 xs) / 5 ≡ length xs = omega (arith, words-length 0 xs) in
    ap (λ (n : ℕ). lines_from (words_from 0 xs) 0 n) count ∙ lines-back [] 0 xs refl

-- ---- ended is settled

settled-ends : {A : Type 0} (r : Result A) → Settled r → ending_of r ≡ Spent → ⊥
settled-ends (ok a σ) s e = let z : ◌≡◌ {A = ℕ} 0 1 = cc in omega arith
settled-ends (stopped spent σ) s e = s
settled-ends (stopped (fault sort) σ) s e = let z : ◌≡◌ {A = ℕ} 0 1 = cc in omega arith

ends-settled : {A : Type 0} (r : Result A) → (ending_of r ≡ Spent → ⊥) → Settled r
ends-settled (ok a σ) e = tt
ends-settled (stopped spent σ) e = e refl
ends-settled (stopped (fault sort) σ) e = tt

-- ---- a plain kernel program whose labels stand once in its tree

module _ (header rows : List ℤ) (given : Plain header rows) (once : (l : ℕ) → items_times l (contents rows) ≤ 1) where
  abbrev L : Layout
  L = layout_of Kernel header

  abbrev program : Items
  program = contents rows

  own : PlainKernel program
  own = plain-program header rows given

  form : KernelItems false none program
  form = own.items

  -- "the list's exact size": five words for each line
  pub flattened-size : length (flattened rows) ≡ 5 * items_lines program
  unfolding flattened
  flattened-size = words-length 0 (flat_of program) ∙ ap (λ (n : ℕ). 5 * n) (flat-size L program form (arity_in program) own.calls once)

  module _ (store : List ℤ) where
    abbrev trees : FlatFate L (flat_of program) (address_in program) program (flat-stands L program form (arity_in program) own.calls once) form store
    trees = flat-shares-fate L program form (arity_in program) own.calls once store

    abbrev kernel : ℕ → Result Signal
    kernel b = run (steps b) (exec (plain L) (block program)) (start store)

    kernel-run : (b : ℕ) → kernel_run header rows (flattened rows) store b ≡ finished (kernel b)
    unfolding run_table run_table_under table_program
    kernel-run b = rw (legal-block header rows given.legal, context-plain (layout_of Kernel header) (contents rows) (plain-functionless header rows given))

    flat-run : (d : ℕ) → flat_run header rows (flattened rows) store d ≡ run_from L (flat_of program) d 0 0 store
    unfolding run_list flattened
    flat-run d = ap (λ xs. run_from L xs d 0 0 store) (lines-again (flat_of program))

    settled : (b : ℕ) → ((kernel_run header rows (flattened rows) store b).ending ≡ Spent → ⊥) → Settled (kernel b)
    settled b e = ends-settled (kernel b) (rw (kernel-run b) at e)

    -- Every such program and its flat list share their fate, whatever the store holds.
    pub shares_fate : SharedFate header rows (flattened rows) store
    shares_fate = record {
      end-together = (forth, back);
      same_ending = λ b d s t. rw (kernel-run b, flat-run d) (trees.same_ending b d (settled b s) (rw (flat-run d) at t));
      same_store = λ b d s t. rw (kernel-run b, flat-run d) (trees.same_store b d (settled b s) (rw (flat-run d) at t));
    }
      where
        forth : KernelEnds header rows (flattened rows) store → FlatEnds header rows (flattened rows) store
        forth e =
            let f = trees.end-together.0 (record { budget = e.budget; settled = settled e.budget e.ends }) in
            record { budget = f.budget; ends = rw (flat-run f.budget) f.ends }

        back : FlatEnds header rows (flattened rows) store → KernelEnds header rows (flattened rows) store
        back f =
            let e = trees.end-together.1 (record { budget = f.budget; ends = rw (flat-run f.budget) at f.ends }) in
            record { budget = e.budget; ends = rw (kernel-run e.budget) (settled-ends (kernel e.budget) e.settled) }
