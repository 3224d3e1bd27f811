-- The writers of statements, lists and arms meet their contracts: what stands in the table is the emission of the code of the tree at the
-- row. Each need is a law of the construct and what the calls left.
use mathlib.Core.Bool.{true}
use Prim.Native.Nat.{◌+◌, ◌-◌, ◌*◌, max}
use Rattle.translation.specs.Translate.{arms_labels, arms_code, items_labels, items_code}
use Rattle.translation.specs.TranslateSize.{arms_size, items_size}
use Rattle.measures_table.specs.Parts.{called_in}
use Rattle.writers.specs.Code.{exits_of}
use Rattle.language.specs.Decode.{arm_list_at, list_at}
use Rattle.writers.proofs.ListLaws.{Progress, above}
use Rattle.words.specs.Table.{row_count}
use Rattle.writers.proofs.+write_statements.Given as goal

abbrev pub invariant-guarded::write_arms-loop-n : goal.invariant-guarded::write_arms-loop-n
invariant-guarded::write_arms-loop-n l =
    Progress (arm_list_at l.source.rows.now) arms_labels true (λ a. arms_code (called_in l.source.rows.now) l.source.store a (exits_of l.at.exits) l.target) (arms_size (called_in l.source.rows.now)) l.source.rows.now l.arms l.at.label l.at.base l.initial.out l.out l.arm l.from l.n

abbrev pub decreases-guarded::write_arms-loop-n : goal.decreases-guarded::write_arms-loop-n
decreases-guarded::write_arms-loop-n l = arms_size (called_in l.source.rows.now) (arm_list_at l.source.rows.now l.arm)

abbrev pub decreases-guarded::write_arm : goal.decreases-guarded::write_arm
decreases-guarded::write_arm l = 4 * (row_count l.source.now.rows.now - l.row) + 1

abbrev pub decreases-guarded::write_arms : goal.decreases-guarded::write_arms
decreases-guarded::write_arms l = 4 * above l.source.now.rows.now l.arms + 2

abbrev pub decreases-guarded::write_choice : goal.decreases-guarded::write_choice
decreases-guarded::write_choice l = 4 * above l.source.now.rows.now l.arms + 3

abbrev pub decreases-guarded::write_guarded : goal.decreases-guarded::write_guarded
decreases-guarded::write_guarded l = 4 * (row_count l.source.now.rows.now - l.body) + 1

abbrev pub decreases-guarded::write_rounds : goal.decreases-guarded::write_rounds
decreases-guarded::write_rounds l = 4 * above l.source.now.rows.now l.arms + 3

abbrev pub decreases-blocks::write_block : goal.decreases-blocks::write_block
decreases-blocks::write_block l = 4 * above l.source.now.rows.now l.list + 3

abbrev pub decreases-statements::write_body : goal.decreases-statements::write_body
decreases-statements::write_body l = 4 * above l.source.now.rows.now l.row + 1

abbrev pub decreases-statements::write_if : goal.decreases-statements::write_if
decreases-statements::write_if l = 4 * max (above l.source.now.rows.now l.yes) (above l.source.now.rows.now l.no) + 2

abbrev pub decreases-blocks::write_item : goal.decreases-blocks::write_item
decreases-blocks::write_item l = 4 * (row_count l.source.now.rows.now - l.row) + 1

abbrev pub decreases-blocks::write_list : goal.decreases-blocks::write_list
decreases-blocks::write_list l = 4 * above l.source.now.rows.now l.list + 2

abbrev pub decreases-loops::write_loop : goal.decreases-loops::write_loop
decreases-loops::write_loop l = 4 * (row_count l.source.now.rows.now - l.parts.body) + 2

abbrev pub decreases-loops::write_round : goal.decreases-loops::write_round
decreases-loops::write_round l = 4 * (row_count l.source.now.rows.now - l.parts.body) + 1

abbrev pub decreases-statements::write_statement : goal.decreases-statements::write_statement
decreases-statements::write_statement l = 4 * (row_count l.source.now.rows.now - l.row)

abbrev pub decreases-switches::write_switch : goal.decreases-switches::write_switch
decreases-switches::write_switch l = 4 * above l.source.now.rows.now l.list + 3

abbrev pub invariant-blocks::write_list-loop-item : goal.invariant-blocks::write_list-loop-item
invariant-blocks::write_list-loop-item l =
    Progress (list_at l.source.rows.now) items_labels l.follows (λ is. items_code (called_in l.source.rows.now) l.source.store is (exits_of l.at.exits)) (items_size (called_in l.source.rows.now)) l.source.rows.now l.list l.at.label l.at.base l.initial.out l.out l.item l.from l.n

abbrev pub decreases-blocks::write_list-loop-item : goal.decreases-blocks::write_list-loop-item
decreases-blocks::write_list-loop-item l = above l.source.rows.now l.item
