-- Parameter words: in the resolved table of a legal source program each parameter has the word of its declaration, so that the parameters of a function
-- have words of their own among those of the declarations.
use Rattle.std.specs.Prelude.{◌≡◌, true, List, ℕ, ◌<◌, ℤ}
use Rattle.std.proofs.Common.{sym, ◌∙◌, arith}
use Rattle.words.specs.Table.{row_count, number_at}
use Rattle.words.specs.Declarations.{is_declaration, declaration_count}
use Rattle.language.specs.Program.{contents}
use Rattle.check_structure.specs.Structured.{Tree}
use Rattle.check_structure.specs.Lists.{Before, before-later}
use Rattle.names.specs.Names.{resolved}
use Rattle.names.proofs.ScopeLaws.{word-later}
use Rattle.names.proofs.ResolvedLaws.{resolved-count, resolved-declaration}
use Rattle.names.proofs.ResolvedNames.{declaration-resolved, declaration-word}
use Rattle.check_parameter_causes.specs.Demands.{Parameter}
use Rattle.accepted_calls.specs.Tables.{FunctionTable}
use Rattle.accepted_calls.proofs.Counts.{parameter-inside}
use Rattle.translation_legal.specs.OwnWords.{OwnParameters}
use Rattle.translation_legal.proofs.ParameterLists.{own-lists}

module _ (S : ℕ) (rows : List ℤ) (t : Tree rows) (functions : FunctionTable (resolved S rows)) where
  abbrev table : List ℤ
  table = resolved S rows

  -- A parameter is a declaration of the program.
  declared : {definition row : ℕ} → Parameter table definition row → is_declaration rows row ≡ true
  declared {definition} {row} own = sym (resolved-declaration S rows row) ∙ functions.links.parameter definition row own

  inside : {definition row : ℕ} → Parameter table definition row → row < row_count rows
  inside {definition} own = rw (resolved-count S rows) at (parameter-inside table functions definition own)

  -- "Each declaration has its own store word".
  words-differ : (definition earlier row : ℕ) → Parameter table definition earlier → Parameter table definition row → Before table earlier row → number_at table row 1 ≡ number_at table earlier 1 → ⊥
  words-differ definition earlier row before own b e =
      let one = declaration-resolved S rows t earlier (inside before) (declared before) in
      let other = declaration-resolved S rows t row (inside own) (declared own) in
      let less = word-later rows S earlier row (declared before) (before-later b) in
      omega arith

  pub own-parameters : OwnParameters S (declaration_count rows) (contents table)
  own-parameters =
      own-lists S (declaration_count rows) table functions
      (λ definition row own. let word = declaration-word S rows t row (inside own) (declared own) in record { least = word.least; most = word.most })
      words-differ
