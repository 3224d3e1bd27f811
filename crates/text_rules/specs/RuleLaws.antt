-- Laws of rules: the store of an accepted rule has room.
use Rattle.std.specs.Prelude.{List, ◌≤◌, ℤ}
use Rattle.std.proofs.Common.{arith}
use Rattle.words.specs.Layout.{store_words}
use Rattle.words.specs.StoreLaws.{source-store}
use Rattle.words.specs.declared.Form.TheVariants.{Source}
use Rattle.check_source.proofs.AcceptsLegal.{accepts-legal}
use Rattle.check_source.specs.DeclarationLaws.{legal-declarations}
use Rattle.text_rules.specs.Rules.{store_room, IsAccepted}

pub rule-store : {header rows : List ℤ} → IsAccepted header rows → store_words Source header rows ≤ store_room
rule-store {header} {rows} a =
    omega (arith, source-store header rows, a.few_words, legal-declarations header rows ((accepts-legal header rows).0 a.checked))
