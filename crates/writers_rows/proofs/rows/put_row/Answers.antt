-- A row's words, each the number that was cast to it.
use native.Mathlib.Omega.{arith}
use mir.Syntax.{w32}
use mir.Facts.{to_z_pos}
use Rattle.writers_rows.proofs.Words.{worded}
use Rattle.writers_rows.proofs.rows.put_row.Goals as goal

pub returns : goal.returns
returns c =
    let kind = to_z_pos w32 {n = c.args.kind} (omega (arith, c.requires)) in
    let a = to_z_pos w32 {n = c.args.a} (omega (arith, c.requires)) in
    let b = to_z_pos w32 {n = c.args.b} (omega (arith, c.requires)) in
    let d = to_z_pos w32 {n = c.args.c} (omega (arith, c.requires)) in
    let next = to_z_pos w32 {n = c.args.next} (omega (arith, c.requires)) in
    worded _ _ _ _ c.put.ensures (cc)
