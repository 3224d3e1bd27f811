-- Laws of own words; the rows of a list of parameters, and that no two of them name one word then.
use Rattle.std.specs.Prelude.{◌≡◌, List, ◌∷◌, ℕ, suc, ◌+◌, ◌≤◌, ◌<◌, ℤ, length}
use Rattle.std.proofs.Math.Path.{sym}
use Rattle.std.proofs.Common.{ap, subst, ◌∙◌, add-one, arith, eq-eqb, ne_eqb}
use Rattle.words.specs.Table.{number_at}
use Rattle.words.specs.Layout.{Layout}
use Rattle.words.specs.Kinds.{sort_of, is_link, kind_of, kind_in, kinds, sort_in, kind_row, expression_fields, statement_fields, mark_fields, definition_fields, member_fields}
use Rattle.words.specs.Links.{link}
use Rattle.language.specs.Trees.{Items, none, ◌then◌, ◌here◌, define}
use Rattle.language.specs.Functions.{Function, function_of, function_count}
use Rattle.language.specs.FunctionWrites.{functions_write}
use Rattle.language.specs.Calls.{Numbered}
use Rattle.language.specs.WellFormed.{SourceTree}
use Rattle.translation.specs.Translate.{translate}
use Rattle.translation.proofs.FunctionCode.{function-at, code-count}
use Rattle.check_structure.specs.Structured.{Leads}
use Rattle.check_structure.specs.Lists.{Before, adjacent, further}
use Rattle.check_function_causes.specs.Demands.{Listed, ended, counted}
use Rattle.language_emission.specs.Emission.{parameters_link}
use Rattle.language_emission.specs.Emitted.{Row, EmittedParameters, no_parameter_at, parameter-at}
use Rattle.translation_legal.specs.Suits.{row-link}
use Rattle.translation_legal.specs.OwnWords.{FrontParameters, NotAmong, OwnParameters, OwnWords}

-- ---- of programs

front-parameters : (P : List ℕ → Type 0) (number : ℕ) (is : Items) → Numbered number is → ((f : ℕ) → number ≤ f → f < number + function_count is → P (function_of f is).parameters) → FrontParameters P is
unfolding FrontParameters Numbered function_of function_count
front-parameters P number none n own = tt
front-parameters P number (s then is) n own = tt
front-parameters P number (m here is) n own = tt
front-parameters P number (define f words body is) n own =
    let same = n.0 in (
      rw (eq-eqb number f (sym same)) at (own number (omega arith) (omega arith)),
      front-parameters P (suc number) is n.1 (λ g l h. rw (ne_eqb g f (λ e. omega arith)) at (own g (omega arith) (omega arith))),
    )

pub own-front : (S D : ℕ) (program : Items) → Numbered 0 program → OwnParameters S D program → FrontParameters (OwnWords S D) program
own-front S D program n own = front-parameters (OwnWords S D) 0 program n (λ f l h. own f (omega arith))

-- A translation's functions have the parameters of its source.
pub translated-own : (S D : ℕ) (L : Layout) (first : ℕ) (program : Items) → SourceTree L first program → OwnParameters S D program → OwnParameters S D (translate first program)
unfolding translate
translated-own S D L first program source own f h =
    let called = functions_write program in
    let inside : f < function_count program = omega (arith, code-count called first program 1 source.placed) in
    let same = (function-at called first L program 1 0 f source.calls.numbered source.named source.placed (omega arith) (omega arith)).code_is in
    subst (OwnWords S D) (ap (λ (function : Function). function.parameters) (sym same)) (own f inside)

-- ---- the rows of a list

parameter-next : {rows : List ℤ} {row a next : ℕ} → Row rows row 58 a 0 0 0 next → link rows row 5 ≡ next
unfolding sort_of kind_of kind_in kinds sort_in kind_row expression_fields statement_fields mark_fields definition_fields member_fields is_link
parameter-next {row} {a} {next} r = row-link r 5 next r.next_is

-- A definition's list has as many rows as the function has parameters.
pub parameters-listed : {rows : List ℤ} {words : List ℕ} {base : ℕ} → 0 < base → EmittedParameters rows words base → Listed rows (parameters_link words base) (length words)
parameters-listed h no_parameter_at = ended
parameters-listed {rows} h (parameter-at {word} {words} {base} r n) =
    subst (Listed rows base) (add-one (length words)) (counted h (rw (parameter-next r) (parameters-listed (omega arith) n)))

-- ---- apart

-- The parameters from a row on, none of which has this word.
record Following (rows : List ℤ) (word row : ℕ) : Type 0 where
  first : ℕ
  rest : List ℕ
  stand : EmittedParameters rows (first ∷ rest) row
  others : NotAmong word (first ∷ rest)

-- A parameter, behind which no parameter has its word.
pub record ParameterAt (rows : List ℤ) (row : ℕ) : Type 0 where
  pub word : ℕ
  pub rest : List ℕ
  pub stand : EmittedParameters rows (word ∷ rest) row
  pub others : NotAmong word rest

module _ {rows : List ℤ} where
  parameter-word : {word row : ℕ} {rest : List ℕ} → EmittedParameters rows (word ∷ rest) row → number_at rows row 1 ≡ word
  parameter-word (parameter-at r n) = r.a_is

  following-next : (word : ℕ) {first row : ℕ} {rest : List ℕ} → EmittedParameters rows (first ∷ rest) row → NotAmong word rest → Leads rows row 5 → Following rows word (link rows row 5)
  following-next word {first} {row} (parameter-at r n) others leads = go n (parameter-next r) others
    where
      go : {words : List ℕ} {base : ℕ} → EmittedParameters rows words base → link rows row 5 ≡ parameters_link words base → NotAmong word words → Following rows word (link rows row 5)
      go no_parameter_at e others = absurd (let l = leads.later in omega arith)
      go (parameter-at r n) e others = rw e (record { first = _; rest = _; stand = parameter-at r n; others = others })

  following : (word : ℕ) {first row later : ℕ} {rest : List ℕ} → EmittedParameters rows (first ∷ rest) row → NotAmong word rest → Before rows row later → Following rows word later
  unfolding NotAmong
  following word p others (adjacent leads) = following-next word p others leads
  following word p others (further b leads) = let f = following word p others b in following-next word f.stand f.others.1 leads

  -- No two parameters of one list name one word.
  pub parameters-differ : {earlier row : ℕ} → ParameterAt rows earlier → Before rows earlier row → number_at rows earlier 1 ≡ number_at rows row 1 → ⊥
  unfolding NotAmong
  parameters-differ p b e =
      let f = following p.word p.stand p.others b in
      f.others.0 (sym (parameter-word f.stand) ∙ sym e ∙ parameter-word p.stand)
