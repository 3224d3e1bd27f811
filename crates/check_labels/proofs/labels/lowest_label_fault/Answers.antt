-- `lowest_label_fault` notes, chains, and goes through the label numbers.
use native.Mathlib.Omega.{arith}
use borrow.Author.Rules.{rules}
use Rattle.check_labels.proofs.Chaining.{heads-start, chain-start}
use Rattle.check_labels.proofs.Marking.{marks-start}
use Rattle.check_labels.proofs.Faults.{lowest-found, lowest-nothing}
use borrow.Author.Rules.{rules}
use Rattle.check_labels.proofs.labels.lowest_label_fault.Goals as goal

pub chain_rows-requires : goal.chain_rows-requires
chain_rows-requires c =
    let s = c.before.before.before.before.before.before.before.before in
    let few = s.requires.0.few in
    (s.requires.0, s.requires.2, heads-start _ 40980 40980 few (omega arith), chain-start _ 40980 40980 few few)

pub lowest_of_all-found-requires : goal.lowest_of_all-found-requires
lowest_of_all-found-requires c =
    let s = c.before.before.before.before.before.before.before.before.before.before.before.before.before.before.before.before in (
      record { tree = s.requires.0; lone = s.requires.1; first_rows = c.write_notes.ensures; owner_rows = c.write_notes-2.ensures },
      c.chain_rows.ensures.0,
      c.chain_rows.ensures.1,
      marks-start _ 40980 s.requires.0.few,
    )

pub returns-then-found-rows : goal.returns-then-found-rows
returns-then-found-rows c = let s = c.before.before.before.before.before.before.before.before.before.before.before.before.before.before.before.before.before.before.before in lowest-found _ _ s.requires.2 c.lowest_of_all-found.ensures c.if-found-rows.true

pub returns : goal.returns
returns c = let s = c.before.before.before.before.before.before.before.before.before.before.before.before.before.before.before.before.before.before.before in lowest-nothing _ _ s.requires.2 c.lowest_of_all-found.ensures c.if-found-rows.false
