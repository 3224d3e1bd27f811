-- `put_resolved` lends the first words of a table into which the rule's resolved one was written.
use native.Mathlib.Omega.{arith}
use Rattle.text_numbers.specs.PutLaws.{put_as}
use Rattle.day.proofs.Printed.{lent_fits, lent-output}
use Rattle.day.proofs.output.put_resolved.Goals as goal

pub resolve_accepted-requires : goal.resolve_accepted-requires
resolve_accepted-requires c = (c.requires.accepted.checked, omega (arith, c.requires.accepted.few_rows))

pub slice_bounds-put_values-end : goal.slice_bounds-put_values-end
slice_bounds-put_values-end c = omega (arith, c.resolve_accepted.auto.out, c.requires.accepted.few_rows)

pub put_values-requires : goal.put_values-requires
put_values-requires c = record { fits = lent_fits c.requires.accepted _ _ c.resolve_accepted.ensures c.requires.days_len_bound; sets = c.requires.sets; day_room_in_bounds = c.requires.day_room_in_bounds }

pub returns : goal.returns
returns c = put_as (lent-output c.requires.accepted _ _ c.resolve_accepted.ensures _ _) c.put_values.ensures
