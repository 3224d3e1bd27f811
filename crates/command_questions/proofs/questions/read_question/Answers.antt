-- `read_question`: the reader of programs, or of flat lists.
use borrow.Author.Rules.{rules}
use Rattle.command_questions.proofs.questions.read_question.Goals as goal

pub read_program-requires : goal.read_program-requires
read_program-requires c = rw c.in-Check.is at c.requires

pub read_program-requires-in-Writes : goal.read_program-requires-in-Writes
read_program-requires-in-Writes c = rw c.in-Writes.is at c.requires

pub read_program-requires-in-Page : goal.read_program-requires-in-Page
read_program-requires-in-Page c = rw c.in-Page.is at c.requires

pub read_program-requires-in-Flatten : goal.read_program-requires-in-Flatten
read_program-requires-in-Flatten c = rw c.in-Flatten.is at c.requires

pub read_list-requires : goal.read_list-requires
read_list-requires c = rw c.in-FlatCheck.is at c.requires

pub returns-in-Check : goal.returns-in-Check
returns-in-Check c = rw c.in-Check.is c.read_program.ensures

pub returns-in-Writes : goal.returns-in-Writes
returns-in-Writes c = rw c.in-Writes.is c.read_program-in-Writes.ensures

pub returns-in-Page : goal.returns-in-Page
returns-in-Page c = rw c.in-Page.is c.read_program-in-Page.ensures

pub returns-in-Flatten : goal.returns-in-Flatten
returns-in-Flatten c = rw c.in-Flatten.is c.read_program-in-Flatten.ensures

pub returns-in-FlatCheck : goal.returns-in-FlatCheck
returns-in-FlatCheck c = rw c.in-FlatCheck.is c.read_list.ensures
