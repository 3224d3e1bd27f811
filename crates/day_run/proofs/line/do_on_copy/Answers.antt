-- `do_on_copy`: the run starts from the store with its pairs, and the store gets what it left only where it ended plainly.
use mathlib.Core.Path.{◌≡◌, sym, ap, ◌∙◌}
use native.Mathlib.Omega.{arith}
use Rattle.words_copying.specs.OverLaws.{over-whole}
use Rattle.day_run.specs.Days.{store_pairs}
use Rattle.day_run.proofs.Doing.{runnable-on, Ran, ran_on, plain_done, spent-done, fault-done}
use borrow.Author.Rules.{rules}
use Rattle.day_run.proofs.line.do_on_copy.Goals as goal

pub run-answer-requires : goal.run-answer-requires
run-answer-requires c =
    runnable-on c.requires.runnable (c.store_pairs.auto.store ∙ c.put.auto.out ∙ c.requires.copy_len)

pub returns-in-Plain : goal.returns-in-Plain
returns-in-Plain c =
    let start = c.store_pairs.ensures ∙ ap (store_pairs c.args.pairs.now) (c.put.ensures ∙ over-whole _ _ (sym c.requires.copy_len)) in
    let run = ran_on _ _ _ _ _ _ _ start c.run-answer.ensures in
    let long = c.run-answer.auto.store ∙ c.store_pairs.auto.store ∙ c.put.auto.out ∙ c.requires.copy_len in
    plain_done _ _ _ _ _ _ (rw c.in-Plain.is at run) (c.put-in-Plain.ensures ∙ over-whole _ _ long)

pub returns-in-Spent : goal.returns-in-Spent
returns-in-Spent c =
    let start = c.store_pairs.ensures ∙ ap (store_pairs c.args.pairs.now) (c.put.ensures ∙ over-whole _ _ (sym c.requires.copy_len)) in
    let run = ran_on _ _ _ _ _ _ _ start c.run-answer.ensures in
    spent-done _ _ _ _ _ (rw c.in-Spent.is at run)

pub returns-in-Fault : goal.returns-in-Fault
returns-in-Fault c =
    let start = c.store_pairs.ensures ∙ ap (store_pairs c.args.pairs.now) (c.put.ensures ∙ over-whole _ _ (sym c.requires.copy_len)) in
    let run = ran_on _ _ _ _ _ _ _ start c.run-answer.ensures in
    fault-done _ _ _ _ _ _ (rw c.in-Fault.is at run)
