-- `store_word` fits a word: there are few declarations.
use Rattle.std.proofs.Common.{ℕ, ◌+◌, ◌^◌, ◌<◌, ap, ◌∙◌, pos, arith}
use mir.Syntax.{w32}
use mir.Facts.{to_z_pos}
use Rattle.names_resolver.specs.ScanLaws.{count-few}
use Rattle.names_resolver.specs.WordLaws.{declared-word}
use Rattle.names_resolver.proofs.store_words.ScannedRows.store_word.Goals as goal

pub returns : goal.returns
returns c =
    let less = c.args.self.now.small in
    let small : c.args.self.now.store + c.wide.result < 2 ^ 31 = omega (arith, c.wide.ensures, less, count-few c.args.self.now.scanned c.args.declaration c.requires) in
    to_z_pos w32 small ∙ ap (λ (n : ℕ). pos (c.args.self.now.store + n)) c.wide.ensures ∙ declared-word _ _ _ c.args.self.now.scanned c.requires
