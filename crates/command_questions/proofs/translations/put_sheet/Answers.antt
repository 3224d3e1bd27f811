-- `put_sheet`: the text, or the page.
use borrow.Author.Rules.{rules}
use Rattle.command_questions.proofs.translations.put_sheet.Goals as goal

pub returns-in-Text : goal.returns-in-Text
returns-in-Text c = rw c.in-Text.is c.put_program.ensures

pub returns-in-Page : goal.returns-in-Page
returns-in-Page c = rw c.in-Page.is c.put_page.ensures
