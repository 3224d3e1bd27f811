-- The fate of a join, from its run at every budget: a step for the new block, the first, and then the second; each shows what it shows by itself.
use Rattle.std.specs.Prelude.{◌≡◌, List, [], ◌∷◌, ◌++◌, ℕ, suc, ◌+◌, ◌-◌, ◌≤◌, ℤ, length, take, Ok}
use Rattle.std.proofs.Math.Path.{refl}
use Rattle.std.proofs.Common.{sym, ◌∙◌, ap, arith, length-append}
use Rattle.words.specs.Declarations.{declaration_count}
use Rattle.words.specs.Laws.{count_fits-facts}
use Rattle.words.specs.Layout.{Layout, layout_of, store_size}
use Rattle.words.specs.Table.{row_count}
use Rattle.words.specs.declared.Ending.{Ending}
use Rattle.words.specs.declared.Ending.TheVariants.{Plain, Spent, Fault}
use Rattle.words.specs.declared.Form.TheVariants.{Source}
use Rattle.computation.specs.Run.{start, steps, run}
use Rattle.computation.proofs.RunLaws.{store-keeps-length}
use Rattle.language.specs.Calls.{CallsInOrder}
use Rattle.language.specs.Decode.{decode}
use Rattle.language.specs.Functions.{function_count, context_of}
use Rattle.language.specs.Meaning.{next, exec}
use Rattle.language.specs.Program.{Finished, finished, contents, table_program, run_table_under, run_table}
use Rattle.language.specs.Trees.{Statement, block, Items}
use Rattle.language_renaming.specs.Renaming.{renamed_items}
use Rattle.language_programs.specs.Program.{run_program}
use Rattle.accepted.specs.Gives.{Gives}
use Rattle.accepted.proofs.Resolved.{table-tree, table-block, table-ends-normally}
use Rattle.names.specs.Names.{resolved}
use Rattle.check_source.specs.Legal.{Legal}
use Rattle.accepted_scopes.specs.Sources.{SourceRows}
use Rattle.accepted_scopes.proofs.Accepted.{legal-source}
use Rattle.join.specs.Followed.{raised, followed}
use Rattle.join.specs.Join.{joined_rows, join_refusal}
use Rattle.join.specs.JoinFate.{Fate}
use Rattle.join.proofs.JoinFateLaws.{Steady, run-steady, fate}
use Rattle.join.proofs.JoinLaws.{accepted-legal}
use Rattle.join.proofs.JoinedRun.{items-run}
use Rattle.join.specs.JoinedTrees.{behind_front, joined_items}
use Rattle.join_names.specs.JoinedFate.{shown, Declared, Joins}
use Rattle.join_names.specs.JoinedCalls.{placed-front, first_number, second_number, first-same, second-same, joined-count}
use Rattle.join_names.proofs.JoinedNames.{first_name, second_name, first-apart, second-apart, first_below, second_below, contents-resolved, decode-resolved}
use Rattle.join_names.proofs.JoinedWords.{moved-outer}
use Rattle.join_names.proofs.MovedRun.{moved-shown, moved-gives}

-- ---- what is shown of runs

take-front : (xs ys : List ℤ) → take (length xs) (xs ++ ys) ≡ xs
take-front [] ys = refl
take-front (x ∷ xs) ys = ap (λ (l : List ℤ). x ∷ l) (take-front xs ys)

shown-steady : (S : ℕ) (runs : ℕ → Finished) → Steady runs → Steady (λ budget. shown S (runs budget))
shown-steady S runs s = record { from_count = λ b d n most. ap (shown S) (s.from_count b d n most); same_end = λ b d n k. ap (shown S) (s.same_end b d n k) }

-- one run behind another, where the second shows the same from the words shown of the first
shown-followed : (S : ℕ) (second other : ℕ → List ℤ → Finished) (budget : ℕ) (first : Finished) → ((rest : ℕ) → shown S (second rest first.store) ≡ other rest (take S first.store))
    → shown S (followed second budget first) ≡ followed other budget (shown S first)
unfolding followed
shown-followed S second other budget first same = go first.ending refl
  where
    go : (ending : Ending) → first.ending ≡ ending → shown S (followed second budget first) ≡ followed other budget (shown S first)
    go Plain e = rw e (ap (raised (suc first.count)) (same (budget - first.count)))
    go Spent e = rw e
    go (Fault sort) e = rw e

-- ---- the join

module _ (header first second : List ℤ) (legal-first : Legal header first) (legal-second : Legal header second) (legal : Legal header (joined_rows first second)) where
  abbrev L : Layout
  L = layout_of Source header

  abbrev S : ℕ
  S = store_size L

  abbrev joined : List ℤ
  joined = joined_rows first second

  source : SourceRows L first
  source = legal-source header first legal-first

  source' : SourceRows L second
  source' = legal-source header second legal-second

  few : row_count joined ≤ 2048
  few = let most = (count_fits-facts Source (length joined) legal.structured.count-fits).most in omega arith

  -- the items of both, and those of the join
  abbrev items : Items
  items = contents (resolved S first)

  abbrev items' : Items
  items' = contents (resolved S second)

  abbrev program : Items
  program = contents (resolved S joined)

  front : function_count (behind_front items) ≡ 0
  front = placed-front items (table-tree header first legal-first).placed

  front' : function_count (behind_front items') ≡ 0
  front' = placed-front items' (table-tree header second legal-second).placed

  order : CallsInOrder items
  order = (table-tree header first legal-first).calls

  order' : CallsInOrder items'
  order' = (table-tree header second legal-second).calls

  abbrev π : ℕ → ℕ
  π = first_name L first second source.structured source'.structured legal-first.well_called legal-second.well_called few

  abbrev π' : ℕ → ℕ
  π' = second_name L first second source.structured source'.structured legal-first.well_called legal-second.well_called few

  abbrev φ : ℕ → ℕ
  φ = first_number (function_count items) (function_count items')

  abbrev φ' : ℕ → ℕ
  φ' = second_number (function_count items)

  program-is : program ≡ joined_items (renamed_items π φ items) (renamed_items π' φ' items')
  program-is = contents-resolved L first second source.structured source'.structured legal-first.well_called legal-second.well_called few front front'

  count_is : function_count program ≡ function_count items + function_count items'
  count_is = ap function_count program-is ∙ joined-count π π' items items' order order' front front'

  -- runs by themselves, and in the join
  abbrev runs : List ℤ → ℕ → List ℤ → Finished
  runs rows budget store = finished (run (steps budget) (exec (context_of L (contents (resolved S rows))) (decode (resolved S rows))) (start store))

  abbrev in_join : Items → ℕ → List ℤ → Finished
  in_join part budget store = finished (run (steps budget) (exec (context_of L program) (block part)) (start store))

  module _ (left : List ℤ) (room : S + declaration_count joined ≤ length left) where
    first-shown : (own : List ℤ) → declaration_count first ≤ length own → (budget : ℕ) → shown S (in_join (renamed_items π φ items) budget left) ≡ shown S (runs first budget (take S left ++ own))
    first-shown own h budget =
        moved-shown L first source π φ (declaration_count joined) program (moved-outer S joined first _) (first-apart L first second source.structured source'.structured legal-first.well_called legal-second.well_called few)
        (first_below L first second source.structured source'.structured legal-first.well_called legal-second.well_called few) (table-block header first legal-first) order
        (λ f. rw program-is (first-same π π' items items' order order' front front' f)) (let c = count_is in omega arith) left own room h (steps budget)
        ∙ ap (λ (s : Statement). shown S (finished (run (steps budget) (exec (context_of L items) s) (start (take S left ++ own))))) (sym (table-block header first legal-first))

    second-shown : (other : List ℤ) → declaration_count second ≤ length other → (budget : ℕ) → shown S (in_join (renamed_items π' φ' items') budget left) ≡ shown S (runs second budget (take S left ++ other))
    second-shown other h budget =
        moved-shown L second source' π' φ' (declaration_count joined) program (moved-outer S joined second _) (second-apart L first second source.structured source'.structured legal-first.well_called legal-second.well_called few)
        (second_below L first second source.structured source'.structured legal-first.well_called legal-second.well_called few) (table-block header second legal-second) order'
        (λ f. rw program-is (second-same π π' items items' order order' front front' f)) (let c = count_is in omega arith) left other room h (steps budget)
        ∙ ap (λ (s : Statement). shown S (finished (run (steps budget) (exec (context_of L items') s) (start (take S left ++ other))))) (sym (table-block header second legal-second))

    -- the first leaves nothing under way
    first_ends : (own : List ℤ) → declaration_count first ≤ length own → (budget : ℕ) → Gives (λ signal. signal ≡ next) (run (steps budget) (exec (context_of L program) (block (renamed_items π φ items))) (start left))
    unfolding run_table_under table_program
    first_ends own h budget =
        moved-gives L first source π φ (declaration_count joined) program (moved-outer S joined first _) (first-apart L first second source.structured source'.structured legal-first.well_called legal-second.well_called few)
        (first_below L first second source.structured source'.structured legal-first.well_called legal-second.well_called few) (table-block header first legal-first) order
        (λ f. rw program-is (first-same π π' items items' order order' front front' f)) (let c = count_is in omega arith) left own room h (λ signal. signal ≡ next) (steps budget)
        (rw (table-block header first legal-first) at (table-ends-normally header first legal-first (steps budget) (take S left ++ own)))

  module _ (store own other all : List ℤ) (words : length store ≡ S) (d : Declared first second joined own other all) where
    room : S + declaration_count joined ≤ length (store ++ all)
    room = let e = length-append store all in let a = d.of_join in omega arith

    kept : take S (store ++ all) ≡ store
    kept = ap (λ (n : ℕ). take n (store ++ all)) (sym words) ∙ take-front store all

    pub at-budget : (budget : ℕ) → shown S (runs joined (suc budget) (store ++ all)) ≡ followed (λ rest left. shown S (runs second rest (left ++ other))) budget (shown S (runs first budget (store ++ own)))
    at-budget budget =
        let mine = d.of-first in let others = d.of-second in
        ap (λ (tree : Statement). shown S (finished (run (steps (suc budget)) (exec (context_of L program) tree) (start (store ++ all)))))
        (decode-resolved L first second source.structured source'.structured legal-first.well_called legal-second.well_called few front front')
        ∙ ap (shown S) (items-run (context_of L program) (renamed_items π φ items) (renamed_items π' φ' items') budget (store ++ all) (first_ends (store ++ all) room own (omega arith) budget))
        ∙ shown-followed S (in_join (renamed_items π' φ' items')) (λ rest left. shown S (runs second rest (left ++ other))) budget (in_join (renamed_items π φ items) budget (store ++ all))
        (λ rest. second-shown (in_join (renamed_items π φ items) budget (store ++ all)).store (let same = store-keeps-length (steps budget) (exec (context_of L program) (block (renamed_items π φ items))) (start (store ++ all)) in let r = room in omega arith) other (omega arith) rest)
        ∙ ap (followed (λ rest left. shown S (runs second rest (left ++ other))) budget) (first-shown (store ++ all) room own (omega arith) budget ∙ ap (λ (s : List ℤ). shown S (runs first budget (s ++ own))) kept)

    at_zero : (shown S (runs joined 0 (store ++ all))).ending ≡ Spent
    unfolding run
    at_zero = refl

    pub fate-declared : Fate (λ budget. shown S (runs first budget (store ++ own))) (λ left budget. shown S (runs second budget (left ++ other))) (λ budget. shown S (runs joined budget (store ++ all)))
    fate-declared =
        fate (λ budget. shown S (runs first budget (store ++ own))) (λ left budget. shown S (runs second budget (left ++ other))) (λ budget. shown S (runs joined budget (store ++ all)))
        (shown-steady S (λ budget. runs first budget (store ++ own)) (run-steady (exec (context_of L items) (decode (resolved S first))) (store ++ own))) at_zero at-budget

  pub legal-joins : Joins header first second joined
  unfolding run_program run_table run_table_under table_program
  legal-joins = record { legal = legal; runs = at-budget; fate = fate-declared }

-- What is not refused is joined as promised.
pub accepted-joins : (header first secondHeader second : List ℤ) (room : ℕ) → join_refusal header first secondHeader second room ≡ Ok tt → Joins header first second (joined_rows first second)
accepted-joins header first secondHeader second room e =
    let legal = accepted-legal header first secondHeader second room e in legal-joins header first second legal.of-first legal.of-second legal.of_join
