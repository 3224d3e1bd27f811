-- Whether a value is copied, by what holds it.
use native.Mathlib.Omega.{arith}
use Rattle.measures_expressions.proofs.HolderLaws.{held-as}
use Rattle.write_sets_rows.proofs.WriteLaws.{copied-number, copied-variable, copied-temporary}
use Rattle.measures_expressions.proofs.copies.copied_against.Goals as goal

pub returns-in-Number : goal.returns-in-Number
returns-in-Number c = record { is = λ W x. copied-number W (held-as c.holder_at-holder.ensures c.in-Number.is).is; most = omega arith }

pub returns-in-Variable : goal.returns-in-Variable
returns-in-Variable c =
    let a = held-as c.holder_at-holder.ensures c.in-Variable.is in
    record { is = λ W x. copied-variable W c.requires.1 x a.fits a.is c.written.ensures.0; most = c.written.ensures.1 }

pub returns-in-Temporary : goal.returns-in-Temporary
returns-in-Temporary c = record { is = λ W x. copied-temporary W (held-as c.holder_at-holder.ensures c.in-Temporary.is).is; most = omega arith }
