-- variable := atom operator atom: the rows up to its first operand, and an atom.
use Prim.Native.Nat.{◌+◌}
use Rattle.writers_rows.specs.Chain.{put_next, reworded}
use Rattle.writers_rows.proofs.Words.{operator-most, atom-put, operand-put, binary-words}
use borrow.Author.Rules.{rules}
use Rattle.writers_rows.proofs.assignments.put_binary.Goals as goal

pub overflow_add-kind : goal.overflow_add-kind
overflow_add-kind c = let low = operator-most c.args.operator in search rules

pub put_operand-requires : goal.put_operand-requires
put_operand-requires c = let low = operator-most c.args.operator in search rules

pub returns : goal.returns
returns c =
    let base = c.args.base in
    let operator = c.operator_number-kind in
    let left = operand-put _ _ c.args.number (6 + operator.result) (base + 4) (base + 5) 6 base c.args.follows c.args.left c.put_operand.ensures in
    let right = atom-put _ _ c.args.right c.put_atom.ensures in
    reworded _ (put_next left right) (binary-words base c.args.follows c.args.number c.args.operator c.args.left c.args.right operator.ensures)
