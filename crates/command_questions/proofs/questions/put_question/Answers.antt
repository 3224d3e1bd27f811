-- `put_question`: the check, the write sets, the page, the flat list, or its check.
use borrow.Author.Rules.{rules}
use Rattle.command_questions.proofs.questions.put_question.Goals as goal

pub returns-in-Check : goal.returns-in-Check
returns-in-Check c = rw c.in-Check.is c.put_check.ensures

pub returns-in-Writes : goal.returns-in-Writes
returns-in-Writes c = rw c.in-Writes.is c.put_writes.ensures

pub returns-in-Page : goal.returns-in-Page
returns-in-Page c = rw c.in-Page.is c.put_page.ensures

pub returns-in-Flatten : goal.returns-in-Flatten
returns-in-Flatten c = rw c.in-Flatten.is c.put_flattened.ensures

pub returns-in-FlatCheck : goal.returns-in-FlatCheck
returns-in-FlatCheck c = rw c.in-FlatCheck.is c.put_list_check.ensures
