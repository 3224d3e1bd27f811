-- The stores of a row's measures.
use native.Mathlib.Omega.{arith}
use lib.ListN.{length-set}
use Rattle.measures_table.proofs.Stores.{nineteen-stores}
use Rattle.measures_table.proofs.table.set_measures.Goals as goal

pub bounds-table-at-2 : goal.bounds-table-at-2
bounds-table-at-2 c = simp length-set (omega arith)

pub bounds-table-at-3 : goal.bounds-table-at-3
bounds-table-at-3 c = simp length-set (omega arith)

pub bounds-table-at-4 : goal.bounds-table-at-4
bounds-table-at-4 c = simp length-set (omega arith)

pub bounds-table-at-5 : goal.bounds-table-at-5
bounds-table-at-5 c = simp length-set (omega arith)

pub bounds-table-at-6 : goal.bounds-table-at-6
bounds-table-at-6 c = simp length-set (omega arith)

pub bounds-table-at-7 : goal.bounds-table-at-7
bounds-table-at-7 c = simp length-set (omega arith)

pub bounds-table-at-8 : goal.bounds-table-at-8
bounds-table-at-8 c = simp length-set (omega arith)

pub bounds-table-at-9 : goal.bounds-table-at-9
bounds-table-at-9 c = simp length-set (omega arith)

pub bounds-table-at-10 : goal.bounds-table-at-10
bounds-table-at-10 c = simp length-set (omega arith)

pub bounds-table-at-11 : goal.bounds-table-at-11
bounds-table-at-11 c = simp length-set (omega arith)

pub bounds-table-at-12 : goal.bounds-table-at-12
bounds-table-at-12 c = simp length-set (omega arith)

pub bounds-table-at-13 : goal.bounds-table-at-13
bounds-table-at-13 c = simp length-set (omega arith)

pub bounds-table-at-14 : goal.bounds-table-at-14
bounds-table-at-14 c = simp length-set (omega arith)

pub bounds-table-at-15 : goal.bounds-table-at-15
bounds-table-at-15 c = simp length-set (omega arith)

pub bounds-table-at-16 : goal.bounds-table-at-16
bounds-table-at-16 c = simp length-set (omega arith)

pub bounds-table-at-17 : goal.bounds-table-at-17
bounds-table-at-17 c = simp length-set (omega arith)

pub bounds-table-at-18 : goal.bounds-table-at-18
bounds-table-at-18 c = simp length-set (omega arith)

pub bounds-table-at-19 : goal.bounds-table-at-19
bounds-table-at-19 c = simp length-set (omega arith)

pub shape_of-table : goal.shape_of-table
shape_of-table c = simp length-set

pub returns : goal.returns
returns c = nineteen-stores _ _ _ _ _ _ _ _ _ _ _ _ _ _ _ _ _ _ _ _ _ c.requires
