-- Scoped functions: every name in a function's block is known where it stands: the block sees the function's parameters, its own declarations and the
-- header's variables.
use Rattle.std.specs.Prelude.{◌≡◌, refl, true, false, List, [], ◌∷◌, ◌⊎◌, ℕ, zero, suc, ◌<◌, ℤ, length}
use Rattle.std.proofs.Common.{sym, subst, ap, ◌∙◌, inl, inr, ⊎_elim, arith}
use Rattle.std.proofs.Math.Decide.{dec_lt}
use Rattle.words.specs.Table.{row_count, number_at}
use Rattle.words.specs.Declarations.{is_declaration}
use Rattle.words.specs.Layout.{Layout, store_size}
use Rattle.words.specs.Links.{link}
use Rattle.words.specs.declared.Form.TheVariants.{Source}
use Rattle.computation.specs.Agreement.{Words, ◌within◌}
use Rattle.language.specs.Trees.{none}
use Rattle.language.specs.Decode.{list_at, parameter_list_at}
use Rattle.language.specs.Functions.{Function, function_of, function_count}
use Rattle.language.specs.Program.{contents}
use Rattle.language_renaming.specs.Twin.{◌with◌}
use Rattle.language_renaming.specs.Scoped.{ScopedItems}
use Rattle.language_renaming.proofs.RenamedFunctions.{with_all, AllOf, ScopedFunction}
use Rattle.words_roles.specs.Roles.{is_definition}
use Rattle.check_structure.specs.Structured.{Leads}
use Rattle.check_structure.specs.RoleLaws.{first-parameter}
use Rattle.check_function_causes.specs.Demands.{InFront}
use Rattle.check_function_causes.proofs.FrontLaws.{front-defines, front-inside}
use Rattle.check_parameter_causes.specs.Demands.{Parameter, first_parameter, next_parameter}
use Rattle.names.specs.Names.{word_of, resolved}
use Rattle.names.proofs.ResolvedLaws.{resolved-count, resolved-link, resolved-leads, resolved-declaration}
use Rattle.names.proofs.ResolvedNames.{DeclaredWord, declaration-resolved, declaration-word}
use Rattle.accepted_calls.specs.Tables.{FunctionTable}
use Rattle.accepted_calls.proofs.Structured.{function-table}
use Rattle.accepted_calls.proofs.Counts.{parameter-inside, parameter-list}
use Rattle.accepted_calls.specs.Kinds.{definition-kind, kind-declaration}
use Rattle.accepted_calls.specs.Resolved.{Alike, same-definition, same-leads, same-front, swapped, resolved-alike, resolved-called}
use Rattle.accepted_calls.proofs.Front.{function-own, function-defined, none-beyond, program-numbered, program-first}
use Rattle.accepted_calls.proofs.Calls.{body-list}
use Rattle.accepted_calls.specs.Owners.{part-other}
use Rattle.accepted.proofs.Statements.{ParametersRow, no-parameters, parameter-row, body-row, parameters-row}
use Rattle.accepted.proofs.Definitions.{Defines, defines}
use Rattle.accepted_scopes.specs.Sources.{SourceRows}
use Rattle.accepted_scopes.specs.Known.{Known}
use Rattle.accepted_scopes.specs.KnownLaws.{Handed, by-declaration, by_definition, known_from, known-part, known-front}
use Rattle.accepted_scopes.proofs.Scoped.{t, own, bounds, root, Here, scoped-list}

-- A word of a list.
abbrev Among : ℕ → List ℕ → Type 0
Among word [] = ⊥
Among word (other ∷ words) = (word ≡ other) ⊎ Among word words

-- where the words of a list become known, they are known, and so is what was known before
known-with : (P : Words) (words : List ℕ) (word : ℕ) → P word ⊎ Among word words → with_all P words word
unfolding with_all
known-with P [] word (inl p) = p
known-with P [] word (inr nothing) = absurd nothing
known-with P (first ∷ words) word (inl p) = known-with (P with first) words word (inl (inl p))
known-with P (first ∷ words) word (inr (inl e)) = known-with (P with first) words word (inl (inr e))
known-with P (first ∷ words) word (inr (inr rest)) = known-with (P with first) words word (inr rest)

module _ (L : Layout) (rows : List ℤ) (source : SourceRows L rows) where
  abbrev S : ℕ
  S = store_size L

  abbrev table : List ℤ
  table = resolved S rows

  alike : Alike rows table
  alike = resolved-alike S rows

  pub functions : FunctionTable table
  functions = function-table Source (bounds L rows source) table (own L rows source) (resolved-called S rows source.called)

  -- ---- parameters

  parameter-resolved : {definition row : ℕ} → Parameter rows definition row → Parameter table definition row
  parameter-resolved {definition} (first_parameter d leads) =
      subst (Parameter table definition) (resolved-link S rows definition 2 (omega arith)) (first_parameter (same-definition alike definition ∙ d) (same-leads alike (omega arith) leads))
  parameter-resolved {definition} (next_parameter {row} q leads) =
      subst (Parameter table definition) (resolved-link S rows row 5 (omega arith)) (next_parameter (parameter-resolved q) (same-leads alike (omega arith) leads))

  parameter-some : {definition row : ℕ} → Parameter table definition row → 0 < row
  parameter-some (first_parameter d leads) = let later = leads.later in omega arith
  parameter-some (next_parameter q leads) = let later = leads.later in omega arith

  -- the words from a parameter on are among those of its function
  among-all : {definition row : ℕ} (word : ℕ) → Parameter table definition row → Among word (parameter_list_at table row) → Among word (parameter_list_at table (link table definition 2))
  among-all word (first_parameter d leads) a = a
  among-all {definition} word (next_parameter {row} q leads) a = among-all word q (rw (parameter-list table functions definition row (parameter-some q) q) (inr a))

  parameter-among : {definition row : ℕ} → Parameter rows definition row → Among (number_at table row 1) (parameter_list_at table (link table definition 2))
  parameter-among {definition} {row} q =
      let own-one = parameter-resolved q in
      among-all (number_at table row 1) own-one (rw (parameter-list table functions definition row (parameter-some own-one) own-one) (inl refl))

  parameter-word : {definition row : ℕ} → Parameter rows definition row → number_at table row 1 ≡ word_of S rows row
  parameter-word {definition} {row} q =
      let own-one = parameter-resolved q in
      let n : row < row_count rows = rw (resolved-count S rows) at (parameter-inside table functions definition own-one) in
      declaration-resolved S rows (t L rows source) row n (sym (resolved-declaration S rows row) ∙ functions.links.parameter definition row own-one)

  module _ (All : Words) (all : DeclaredWord S rows within All) where
    words-all : {l : ℕ} → ParametersRow table l → (0 < l → l < row_count table) → AllOf All (parameter_list_at table l)
    words-all (no-parameters z e) inside = rw e tt
    words-all {l} (parameter-row p k z e x) inside =
        let n : l < row_count rows = rw (resolved-count S rows) at (inside p) in
        rw e (
          all _ (declaration-word S rows (t L rows source) l n (sym (resolved-declaration S rows l) ∙ kind-declaration table l k)),
          words-all x (λ q. ((own L rows source).forward l (inside p) 5 (omega arith) (omega arith) q).inside),
        )

    -- ---- a function at the front

    module _ (Visible : Words) (sees : (λ word. word < L.variables) within Visible) where
      -- what is known in the block: the header's variables and the parameters
      block-known : {definition number : ℕ} → InFront rows definition number → Leads rows definition 3 → (word : ℕ) → Known L.variables S rows (link rows definition 3) word
          → with_all Visible (parameter_list_at table (link table definition 2)) word
      block-known {definition} f leads word k =
          ⊎_elim (λ before. known-with Visible _ word (inl (sees word (known-front rows (t L rows source) L.variables S (root L rows source) f word before)))) handed
          (known_from rows (t L rows source) L.variables S definition 3 (omega arith) leads word k)
        where
          handed : Handed rows (t L rows source) L.variables S definition 3 word → with_all Visible (parameter_list_at table (link table definition 2)) word
          handed (by-declaration e d w) = absurd (omega arith)
          handed (by_definition {parameter} h d q w) =
              known-with Visible _ word (inr (subst (λ (x : ℕ). Among x (parameter_list_at table (link table definition 2))) (parameter-word q ∙ sym w) (parameter-among q)))

      -- the first item of the block
      body-here : {definition number : ℕ} → InFront rows definition number → Leads table definition 3 → Leads table (link table definition 3) 1
          → Here L rows source (with_all Visible (parameter_list_at table (link table definition 2))) (link table (link table definition 3) 1)
      body-here {definition} front leads first =
          let same = resolved-link S rows definition 3 (omega arith) in
          let own-leads = (resolved-leads S rows {row = definition} {field = 3} (omega arith)).1 leads in
          let own_IsFirst = (resolved-leads S rows {row = link table definition 3} {field = 1} (omega arith)).1 first in
          let later = own-leads.later in
          let further = own_IsFirst.later in
          let plain : is_definition rows (link table definition 3) ≡ false = rw same (part-other rows (t L rows source) (root L rows source) source.called.in_order definition 3 (omega arith) (λ z. omega (arith, z.1)) own-leads) in
          rw (resolved-link S rows (link table definition 3) 1 (omega arith))
          (record {
            below = omega arith;
            plain = part-other rows (t L rows source) (root L rows source) source.called.in_order (link table definition 3) 1 (omega arith) (λ z. omega (arith, z.0, same, later)) own_IsFirst;
            known = λ word q. block-known front own-leads word (rw same at (known-part rows (t L rows source) L.variables S (link table definition 3) 1 (omega arith) plain own_IsFirst word q));
          })

      first-row : (definition : ℕ) → definition < row_count table → is_definition table definition ≡ true → ParametersRow table (link table definition 2)
      first-row definition n d = go (link table definition 2) refl
        where
          go : (l : ℕ) → link table definition 2 ≡ l → ParametersRow table (link table definition 2)
          go zero z = no-parameters z (rw z)
          go (suc l) z =
              let p : 0 < link table definition 2 = omega arith in
              let leads = (own L rows source).forward definition n 2 (omega arith) (omega arith) p in
              parameters-row Source (bounds L rows source) table (own L rows source) (link table definition 2) leads.inside (first-parameter Source (bounds L rows source) table (own L rows source) definition n d p) p

      front-scoped : {definition number : ℕ} → InFront table definition number → ScopedFunction All (length L.lengths) Visible (function_of number (contents table))
      front-scoped {definition} {number} f =
          let n = front-inside table f in
          let d = front-defines table f in
          let own-table = own L rows source in
          let here = defines Source (bounds L rows source) table own-table definition n (definition-kind table definition d) in
          let words = ap (λ (function : Function). function.parameters) (function-own table functions f) in
          record {
            named = rw words (words-all (first-row definition n d) (λ p. (own-table.forward definition n 2 (omega arith) (omega arith) p).inside));
            scoped = rw (words, body-list table functions f)
                (scoped-list L rows source All all (body-row Source (bounds L rows source) table own-table definition here) (with_all Visible (parameter_list_at table (link table definition 2)))
                (λ p. let first = here.first.leads p in (first.inside, body-here (same-front (swapped alike) f) here.leads first)));
          }

      pub function-scoped : (number : ℕ) → ScopedFunction All (length L.lengths) Visible (function_of number (contents table))
      unfolding ScopedItems with_all
      function-scoped number = go (dec_lt number (function_count (contents table)))
        where
          none-scoped : ScopedItems All (length L.lengths) (with_all Visible []) none
          none-scoped = tt

          go : Dec (number < function_count (contents table)) → ScopedFunction All (length L.lengths) Visible (function_of number (contents table))
          go (yes h) = front-scoped (function-defined table functions number h).front
          go (no h) =
              rw (none-beyond number 0 (contents table) (program-numbered table functions) (program-first table functions) (omega (arith, h))) (record { named = tt; scoped = none-scoped })
