-- What it is for every rule of the four tables to hold: the run of its rows comes to what the table says.
use Rattle.std.specs.Prelude.{◌≡◌, map}
use Rattle.words.specs.declared.Form.{Form}
use Rattle.words.specs.declared.Form.TheVariants.{Source, Kernel}
use Rattle.language.specs.Program.{Finished, run_table}
use Rattle.language.specs.Rule.{Rule}
use Rattle.language.specs.KernelRules.{kernel_table}
use Rattle.language.specs.DeclarationRules.{declaration_table}
use Rattle.language.specs.FunctionRules.{function_table}
use Rattle.language.specs.Rules.{table}

-- What the run of a rule's rows comes to, by the definitions.
abbrev pub runs : Form → Rule → Finished
runs form rule = run_table form rule.header rule.rows rule.budget rule.store

abbrev pub expected : Rule → Finished
expected rule = rule.comes_to

pub record RulesHold : Type 0 where
  pub source : map (runs Source) table ≡ map expected table
  pub kernel : map (runs Kernel) kernel_table ≡ map expected kernel_table
  pub declarations : map (runs Source) declaration_table ≡ map expected declaration_table
  pub functions : map (runs Source) function_table ≡ map expected function_table
