-- `put_values` walks the values; the invariant is `Made`.
use Prim.Native.Nat.{◌-◌}
use native.Mathlib.Omega.{arith}
use mir.Syntax.{w32}
use mir.Val.{to_z}
use Rattle.text_numbers.specs.PutLaws.{put_as}
use Rattle.text_lines.specs.Line.{lines_of}
use Rattle.day_values.proofs.Walk.{made-space, made_inside, made-length, value-word, value_is, setting-lines, Made, made-start, made-end, made-next}
use Rattle.day_run.specs.Days.{pairs_of}
use Rattle.day_values.specs.Values.{day_line}
use borrow.Author.Rules.{rules}
use Rattle.day_values.proofs.values.put_values.Given as goal

abbrev pub invariant-loop-done : goal.invariant-loop-done
invariant-loop-done l =
    Made (day_line l.header l.rows l.variable (pairs_of (lines_of l.text))) l.lowest l.values l.initial.output l.done l.end l.output
