-- The writers of definitions and of a program's list meet their contracts. A file for each member.
use Prim.Native.Nat.{ℕ, ◌+◌, ◌-◌, ◌≤◌}
use Rattle.writers_calls.specs.Ranks.{rank_falls}
use borrow.Author.Rules.{rules}
use mathlib.Core.Path.{◌≡◌, sym, ap, subst, ◌∙◌}
use mathlib.Core.Bool.{true, false, Bool}
use native.Mathlib.Omega.{arith}
use lib.ListN.{length}
use Rattle.words.specs.Over.{over}
use Rattle.language.specs.Trees.{Items}
use Rattle.language.specs.Decode.{list_at}
use Rattle.translation.specs.Translate.{program_code, items_labels, items_levels, program_levels}
use Rattle.language_emission.specs.Emission.{emit_items}
use Rattle.measures_table.specs.Parts.{called_in}
use Rattle.write_sets_functions.specs.Definitions.{defines}
use Rattle.write_sets_functions.proofs.DefinitionLaws.{there, defined-kind, next_inside, next-later, parameters_inside, body-block, list-defines, is_define}
use Rattle.measures.proofs.ProgramLaws.{main-size, main-labels}
use Rattle.writers_rows.specs.Chain.{room-less, back_in}
use Rattle.writers_programs.specs.Asks.{ListTakes, BlockList}
use Rattle.writers_programs.proofs.FunctionLaws.{front-main, defined-at, block_of, number_low, numbers_behind, FunctionTakes, function-asked, function-done}
use mathlib.Core.List.{List}
use lib.IntN.{ℤ}
use Rattle.translation.specs.TranslateSize.{items_size, program_size}
use Rattle.words.specs.Word.{pick}
use Rattle.writers_rows.proofs.Words.{pick-most}
use Rattle.writers.proofs.Sequence.{back-length, room-behind}
use Rattle.writers_programs.proofs.definitions.+write_functions.Goals as goal

-- The code of a program from an item on: a definition and what stands behind it, or the main part.

-- ---- a definition
pub write_front-write_function-requires : goal.write_front-write_function-requires
write_front-write_function-requires t c =
    let d = (sym c.is_definition.ensures ∙ c.if-is_definition.true) in
    let kind = defined-kind c.args.source.now.rows.now c.args.item d in (
      omega (arith, c.decreases, rank_falls c.args.source.now.rows.now c.args.item c.number_at-next.result (there c.args.source.now.rows.now c.args.item d) c.requires.1.inside (next-later c.requires.0.measured.source c.requires.1.inside c.number_at-next.result c.number_at-next.ensures)),
      (
        c.requires.0,
        record {
          number_low = number_low c.requires.0.measured.source c.requires.1.inside d c.number_at-number.ensures c.requires.1.numbers;
          parameters_inside = parameters_inside c.requires.0.measured.source c.requires.1.inside kind c.number_at-parameters.ensures;
          body_inside = (body-block c.requires.0.measured.source c.requires.1.inside kind c.number_at-body.ensures).within;
          block-list = λ e. block_of c.requires.0.measured.source c.requires.1.inside d c.number_at-body.ensures e;
          next_inside = next_inside c.requires.0.measured.source c.requires.1.inside c.number_at-next.result c.number_at-next.ensures;
          numbers_behind = numbers_behind c.requires.0.measured.source c.requires.1.inside d c.number_at-next.ensures c.requires.1.numbers;
          takes = subst (λ (is : Items). ListTakes c.args.source.now.rows.now is c.args.source.now.store c.args.size c.args.levels c.args.label c.args.base (length c.args.out.now)) (defined-at c.requires.0.measured.source c.requires.1.inside d c.number_at-number.ensures c.number_at-parameters.ensures c.number_at-body.ensures c.number_at-next.ensures) c.requires.1.takes;
        },
      ),
    )

pub write_front-returns-then-is_definition : goal.write_front-returns-then-is_definition
write_front-returns-then-is_definition t c =
    let is = defined-at c.requires.0.measured.source c.requires.1.inside (sym c.is_definition.ensures ∙ c.if-is_definition.true) c.number_at-number.ensures c.number_at-parameters.ensures c.number_at-body.ensures c.number_at-next.ensures in
    c.write_function.ensures ∙ ap (λ (is : Items). over (emit_items false (program_code (called_in c.args.source.now.rows.now) c.args.source.now.store is c.args.label) c.args.base) c.args.out.now) (sym is)

-- ---- the main part
pub write_front-write_list-requires : goal.write_front-write_list-requires
write_front-write_list-requires t c =
    let main : is_define (list_at c.args.source.now.rows.now c.args.item) ≡ false = list-defines c.requires.0.measured.source c.args.item ∙ sym c.is_definition.ensures ∙ c.if-is_definition.false in (
      c.requires.0,
      record {
        inside = c.requires.1.inside;
        room = room-less _ c.requires.1.takes.room (omega (arith, c.requires.1.takes.size_is, main-size (called_in c.args.source.now.rows.now) (list_at c.args.source.now.rows.now c.args.item) main));
        labels_low = omega (arith, c.requires.1.takes.labels_low, main-labels (list_at c.args.source.now.rows.now c.args.item) main);
        exits_low = (omega arith, omega arith);
      },
    )

pub write_front-returns : goal.write_front-returns
write_front-returns t c =
    front-main c.args.source.now.store c.args.source.now.rows.now c.args.item c.args.label c.args.base c.args.out.now (list-defines c.requires.0.measured.source c.args.item ∙ sym c.is_definition.ensures ∙ c.if-is_definition.false) c.write_list.ensures

-- A definition: its row, its parameters, its block, and then the code behind it.

pub write_function-overflow_add-own : goal.write_function-overflow_add-own
write_function-overflow_add-own t c = omega (arith, (function-asked c.requires.1 c.number_at-list.ensures c.parameter_count-count.ensures.is).total, c.requires.1.takes.room.low)

pub write_function-overflow_add-n : goal.write_function-overflow_add-n
write_function-overflow_add-n t c = omega (arith, (function-asked c.requires.1 c.number_at-list.ensures c.parameter_count-count.ensures.is).total, c.requires.1.takes.room.low)

pub write_function-list_size-requires : goal.write_function-list_size-requires
write_function-list_size-requires t c = (c.requires.0.measured, (c.requires.1.block-list c.number_at-list.ensures).inside, omega (arith, (function-asked c.requires.1 c.number_at-list.ensures c.parameter_count-count.ensures.is).total, c.requires.1.takes.room.low))

pub write_function-overflow_add-n-2 : goal.write_function-overflow_add-n-2
write_function-overflow_add-n-2 t c = omega (arith, (function-asked c.requires.1 c.number_at-list.ensures c.parameter_count-count.ensures.is).total, c.requires.1.takes.room.low, c.list_size.ensures)

pub write_function-overflow_sub-rest : goal.write_function-overflow_sub-rest
write_function-overflow_sub-rest t c = omega (arith, (function-asked c.requires.1 c.number_at-list.ensures c.parameter_count-count.ensures.is).total, c.list_size.ensures)

pub write_function-list_levels-requires : goal.write_function-list_levels-requires
write_function-list_levels-requires t c =
    (c.requires.0.measured, (c.requires.1.block-list c.number_at-list.ensures).inside, omega (arith, (function-asked c.requires.1 c.number_at-list.ensures c.parameter_count-count.ensures.is).levels_are, c.requires.1.takes.store_low))

pub write_function-overflow_sub-above : goal.write_function-overflow_sub-above
write_function-overflow_sub-above t c = omega (arith, (function-asked c.requires.1 c.number_at-list.ensures c.parameter_count-count.ensures.is).levels_are, c.list_levels.ensures)

pub write_function-list_labels-requires : goal.write_function-list_labels-requires
write_function-list_labels-requires t c =
    (c.requires.0.measured, (c.requires.1.block-list c.number_at-list.ensures).inside, omega (arith, (function-asked c.requires.1 c.number_at-list.ensures c.parameter_count-count.ensures.is).labels_low))

pub write_function-overflow_add-from : goal.write_function-overflow_add-from
write_function-overflow_add-from t c = omega (arith, (function-asked c.requires.1 c.number_at-list.ensures c.parameter_count-count.ensures.is).labels_low, c.list_labels.ensures)

pub write_function-overflow_add-base : goal.write_function-overflow_add-base
write_function-overflow_add-base t c = omega (arith, (function-asked c.requires.1 c.number_at-list.ensures c.parameter_count-count.ensures.is).total, c.list_size.ensures, c.requires.1.takes.room.low)

pub write_function-overflow_add-base-2 : goal.write_function-overflow_add-base-2
write_function-overflow_add-base-2 t c = omega (arith, (function-asked c.requires.1 c.number_at-list.ensures c.parameter_count-count.ensures.is).total, c.list_size.ensures, c.requires.1.takes.room.low)

pub write_function-overflow_add-base-3 : goal.write_function-overflow_add-base-3
write_function-overflow_add-base-3 t c = omega (arith, (function-asked c.requires.1 c.number_at-list.ensures c.parameter_count-count.ensures.is).total, c.list_size.ensures, c.requires.1.takes.room.low)

pub write_function-put_row-requires : goal.write_function-put_row-requires
write_function-put_row-requires t c = (
  omega (arith, c.requires.1.takes.room.inside, (function-asked c.requires.1 c.number_at-list.ensures c.parameter_count-count.ensures.is).total, c.list_size.ensures),
  omega arith,
  omega (arith, c.requires.1.number_low),
  omega (arith, c.behind.ensures, pick-most c.more.result (c.args.base + 1), c.requires.1.takes.room.low, (function-asked c.requires.1 c.number_at-list.ensures c.parameter_count-count.ensures.is).total, c.list_size.ensures),
  omega (arith, c.requires.1.takes.room.low, (function-asked c.requires.1 c.number_at-list.ensures c.parameter_count-count.ensures.is).total, c.list_size.ensures),
  omega (arith, c.behind-2.ensures, pick-most c.more-2.result (c.args.base + (1 + c.parameter_count-count.result + 1 + c.list_size.result)), c.requires.1.takes.room.low, (function-asked c.requires.1 c.number_at-list.ensures c.parameter_count-count.ensures.is).total, c.list_size.ensures),
)

pub write_function-overflow_add-base-4 : goal.write_function-overflow_add-base-4
write_function-overflow_add-base-4 t c = omega (arith, (function-asked c.requires.1 c.number_at-list.ensures c.parameter_count-count.ensures.is).total, c.list_size.ensures, c.requires.1.takes.room.low, c.requires.1.takes.room.inside, c.put_row.auto.out)

pub write_function-slice_bounds-put_parameters-count : goal.write_function-slice_bounds-put_parameters-count
write_function-slice_bounds-put_parameters-count t c = omega (arith, (function-asked c.requires.1 c.number_at-list.ensures c.parameter_count-count.ensures.is).total, c.list_size.ensures, c.requires.1.takes.room.low, c.requires.1.takes.room.inside, c.put_row.auto.out)

pub write_function-slice_bounds-put_parameters-start : goal.write_function-slice_bounds-put_parameters-start
write_function-slice_bounds-put_parameters-start t c = omega (arith, (function-asked c.requires.1 c.number_at-list.ensures c.parameter_count-count.ensures.is).total, c.list_size.ensures, c.requires.1.takes.room.low, c.requires.1.takes.room.inside, c.put_row.auto.out)

pub write_function-put_parameters-requires : goal.write_function-put_parameters-requires
write_function-put_parameters-requires t c =
    record {
      source = c.requires.0.measured.source;
      inside = c.requires.1.parameters_inside;
      count_is = c.parameter_count-count.ensures.is;
      room = room-behind 1 _ c.put_row.new.out c.requires.1.takes.room c.put_row.auto.out (omega (arith, (function-asked c.requires.1 c.number_at-list.ensures c.parameter_count-count.ensures.is).total, c.list_size.ensures));
    }

pub write_function-overflow_add-inside : goal.write_function-overflow_add-inside
write_function-overflow_add-inside t c = omega (arith, (function-asked c.requires.1 c.number_at-list.ensures c.parameter_count-count.ensures.is).total, c.list_size.ensures, c.requires.1.takes.room.low, (function-asked c.requires.1 c.number_at-list.ensures c.parameter_count-count.ensures.is).levels_are, c.list_levels.ensures, c.requires.1.takes.room.inside, c.requires.1.takes.store_low, c.requires.1.takes.levels_are, (back-length 1 c.put_row.new.out c.put_parameters.new.out c.put_parameters.auto.out ∙ c.put_row.auto.out))

pub write_function-overflow_add-base-5 : goal.write_function-overflow_add-base-5
write_function-overflow_add-base-5 t c = omega (arith, (function-asked c.requires.1 c.number_at-list.ensures c.parameter_count-count.ensures.is).total, c.list_size.ensures, c.requires.1.takes.room.low, (function-asked c.requires.1 c.number_at-list.ensures c.parameter_count-count.ensures.is).levels_are, c.list_levels.ensures, c.requires.1.takes.room.inside, c.requires.1.takes.store_low, c.requires.1.takes.levels_are, (back-length 1 c.put_row.new.out c.put_parameters.new.out c.put_parameters.auto.out ∙ c.put_row.auto.out))

pub write_function-overflow_mul-own : goal.write_function-overflow_mul-own
write_function-overflow_mul-own t c = omega (arith, (function-asked c.requires.1 c.number_at-list.ensures c.parameter_count-count.ensures.is).total, c.list_size.ensures, c.requires.1.takes.room.low, (function-asked c.requires.1 c.number_at-list.ensures c.parameter_count-count.ensures.is).levels_are, c.list_levels.ensures, c.requires.1.takes.room.inside, c.requires.1.takes.store_low, c.requires.1.takes.levels_are, (back-length 1 c.put_row.new.out c.put_parameters.new.out c.put_parameters.auto.out ∙ c.put_row.auto.out))

pub write_function-offset_bounds-out-own : goal.write_function-offset_bounds-out-own
write_function-offset_bounds-out-own t c = omega (arith, (function-asked c.requires.1 c.number_at-list.ensures c.parameter_count-count.ensures.is).total, c.list_size.ensures, c.requires.1.takes.room.low, (function-asked c.requires.1 c.number_at-list.ensures c.parameter_count-count.ensures.is).levels_are, c.list_levels.ensures, c.requires.1.takes.room.inside, c.requires.1.takes.store_low, c.requires.1.takes.levels_are, (back-length 1 c.put_row.new.out c.put_parameters.new.out c.put_parameters.auto.out ∙ c.put_row.auto.out))

pub write_function-slice_bounds-write_block-count : goal.write_function-slice_bounds-write_block-count
write_function-slice_bounds-write_block-count t c = omega (arith, (function-asked c.requires.1 c.number_at-list.ensures c.parameter_count-count.ensures.is).total, c.list_size.ensures, c.requires.1.takes.room.low, (function-asked c.requires.1 c.number_at-list.ensures c.parameter_count-count.ensures.is).levels_are, c.list_levels.ensures, c.requires.1.takes.room.inside, c.requires.1.takes.store_low, c.requires.1.takes.levels_are, (back-length 1 c.put_row.new.out c.put_parameters.new.out c.put_parameters.auto.out ∙ c.put_row.auto.out))

pub write_function-slice_bounds-write_block-start : goal.write_function-slice_bounds-write_block-start
write_function-slice_bounds-write_block-start t c = omega (arith, (function-asked c.requires.1 c.number_at-list.ensures c.parameter_count-count.ensures.is).total, c.list_size.ensures, c.requires.1.takes.room.low, (function-asked c.requires.1 c.number_at-list.ensures c.parameter_count-count.ensures.is).levels_are, c.list_levels.ensures, c.requires.1.takes.room.inside, c.requires.1.takes.store_low, c.requires.1.takes.levels_are, (back-length 1 c.put_row.new.out c.put_parameters.new.out c.put_parameters.auto.out ∙ c.put_row.auto.out))

pub write_function-write_block-requires : goal.write_function-write_block-requires
write_function-write_block-requires t c = (
  record { measured = c.requires.0.measured; small_store = omega (arith, c.requires.1.takes.store_low, (function-asked c.requires.1 c.number_at-list.ensures c.parameter_count-count.ensures.is).levels_are, c.list_levels.ensures, (function-asked c.requires.1 c.number_at-list.ensures c.parameter_count-count.ensures.is).levels_are); few_levels = c.requires.0.few_levels },
  record {
    inside = (c.requires.1.block-list c.number_at-list.ensures).inside;
    room = room-behind (1 + c.parameter_count-count.result) _ (back_in 1 c.put_row.new.out c.put_parameters.new.out) c.requires.1.takes.room (back-length 1 c.put_row.new.out c.put_parameters.new.out c.put_parameters.auto.out ∙ c.put_row.auto.out) (omega (arith, (function-asked c.requires.1 c.number_at-list.ensures c.parameter_count-count.ensures.is).total));
    labels_low = omega (arith, (function-asked c.requires.1 c.number_at-list.ensures c.parameter_count-count.ensures.is).labels_low);
    exits_low = (omega arith, omega arith);
  },
)

pub write_function-overflow_add-base-6 : goal.write_function-overflow_add-base-6
write_function-overflow_add-base-6 t c = omega (arith, (function-asked c.requires.1 c.number_at-list.ensures c.parameter_count-count.ensures.is).total, c.list_size.ensures, c.requires.1.takes.room.low, c.requires.1.takes.room.inside, (back-length (1 + c.parameter_count-count.result) (back_in 1 c.put_row.new.out c.put_parameters.new.out) c.write_block.new.out c.write_block.auto.out ∙ (back-length 1 c.put_row.new.out c.put_parameters.new.out c.put_parameters.auto.out ∙ c.put_row.auto.out)))

pub write_function-overflow_mul-n : goal.write_function-overflow_mul-n
write_function-overflow_mul-n t c = omega (arith, (function-asked c.requires.1 c.number_at-list.ensures c.parameter_count-count.ensures.is).total, c.list_size.ensures, c.requires.1.takes.room.low, c.requires.1.takes.room.inside, (back-length (1 + c.parameter_count-count.result) (back_in 1 c.put_row.new.out c.put_parameters.new.out) c.write_block.new.out c.write_block.auto.out ∙ (back-length 1 c.put_row.new.out c.put_parameters.new.out c.put_parameters.auto.out ∙ c.put_row.auto.out)))

pub write_function-offset_bounds-out-n : goal.write_function-offset_bounds-out-n
write_function-offset_bounds-out-n t c = omega (arith, (function-asked c.requires.1 c.number_at-list.ensures c.parameter_count-count.ensures.is).total, c.list_size.ensures, c.requires.1.takes.room.low, c.requires.1.takes.room.inside, (back-length (1 + c.parameter_count-count.result) (back_in 1 c.put_row.new.out c.put_parameters.new.out) c.write_block.new.out c.write_block.auto.out ∙ (back-length 1 c.put_row.new.out c.put_parameters.new.out c.put_parameters.auto.out ∙ c.put_row.auto.out)))

pub write_function-slice_bounds-write_front-count : goal.write_function-slice_bounds-write_front-count
write_function-slice_bounds-write_front-count t c = omega (arith, (function-asked c.requires.1 c.number_at-list.ensures c.parameter_count-count.ensures.is).total, c.list_size.ensures, c.requires.1.takes.room.low, c.requires.1.takes.room.inside, (back-length (1 + c.parameter_count-count.result) (back_in 1 c.put_row.new.out c.put_parameters.new.out) c.write_block.new.out c.write_block.auto.out ∙ (back-length 1 c.put_row.new.out c.put_parameters.new.out c.put_parameters.auto.out ∙ c.put_row.auto.out)))

pub write_function-slice_bounds-write_front-start : goal.write_function-slice_bounds-write_front-start
write_function-slice_bounds-write_front-start t c = omega (arith, (function-asked c.requires.1 c.number_at-list.ensures c.parameter_count-count.ensures.is).total, c.list_size.ensures, c.requires.1.takes.room.low, c.requires.1.takes.room.inside, (back-length (1 + c.parameter_count-count.result) (back_in 1 c.put_row.new.out c.put_parameters.new.out) c.write_block.new.out c.write_block.auto.out ∙ (back-length 1 c.put_row.new.out c.put_parameters.new.out c.put_parameters.auto.out ∙ c.put_row.auto.out)))

pub write_function-write_front-requires : goal.write_function-write_front-requires
write_function-write_front-requires t c =
    let rest : c.args.size - (1 + c.parameter_count-count.result + 1 + c.list_size.result) ≡ program_size (called_in c.args.source.now.rows.now) (list_at c.args.source.now.rows.now c.args.next) = omega (arith, (function-asked c.requires.1 c.number_at-list.ensures c.parameter_count-count.ensures.is).total, c.list_size.ensures) in (
      omega (arith, c.decreases),
      (
        c.requires.0,
        record {
          inside = c.requires.1.next_inside;
          numbers = c.requires.1.numbers_behind;
          takes = record {
            size_is = rest;
            levels_are = omega (arith, (function-asked c.requires.1 c.number_at-list.ensures c.parameter_count-count.ensures.is).levels_are, c.list_levels.ensures);
            store_low = omega (arith, c.requires.1.takes.store_low, (function-asked c.requires.1 c.number_at-list.ensures c.parameter_count-count.ensures.is).levels_are, c.list_levels.ensures, (function-asked c.requires.1 c.number_at-list.ensures c.parameter_count-count.ensures.is).levels_are);
            labels_low = omega (arith, (function-asked c.requires.1 c.number_at-list.ensures c.parameter_count-count.ensures.is).labels_low, c.list_labels.ensures);
            room = room-behind (1 + c.parameter_count-count.result + 1 + c.list_size.result) _ (back_in (1 + c.parameter_count-count.result) (back_in 1 c.put_row.new.out c.put_parameters.new.out) c.write_block.new.out) c.requires.1.takes.room (back-length (1 + c.parameter_count-count.result) (back_in 1 c.put_row.new.out c.put_parameters.new.out) c.write_block.new.out c.write_block.auto.out ∙ (back-length 1 c.put_row.new.out c.put_parameters.new.out c.put_parameters.auto.out ∙ c.put_row.auto.out)) (omega (arith, rest, (function-asked c.requires.1 c.number_at-list.ensures c.parameter_count-count.ensures.is).total, c.list_size.ensures));
          };
        },
      ),
    )

pub write_function-returns : goal.write_function-returns
write_function-returns t c =
    let link = c.behind.ensures ∙ ap (λ (b : Bool). pick b (c.args.base + 1) 0) c.more.ensures in
    let after = c.behind-2.ensures ∙ ap (λ (b : Bool). pick b (c.args.base + (1 + c.parameter_count-count.result + 1 + c.list_size.result)) 0) c.more-2.ensures in
    let from : c.args.label + c.list_labels.result ≡ c.args.label + items_labels (list_at c.args.source.now.rows.now c.number_at-list.result) = omega (arith, c.list_labels.ensures) in
    function-done c.args.source.now.store c.args.source.now.rows.now c.args.number c.args.parameters c.args.body c.args.next c.args.label c.args.base c.args.out.now
    (c.requires.1.block-list c.number_at-list.ensures) c.parameter_count-count.ensures.is c.list_size.ensures c.requires.1.takes.size_is (omega (arith, (function-asked c.requires.1 c.number_at-list.ensures c.parameter_count-count.ensures.is).levels_are, c.list_levels.ensures)) from link after
    c.put_row.ensures c.put_parameters.ensures c.write_block.ensures c.write_front.ensures
