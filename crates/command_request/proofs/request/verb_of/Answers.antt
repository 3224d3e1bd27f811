-- `verb_of`: each name, or none.
use Rattle.command_request.specs.Requests.{verb_of}
use Rattle.command_request.proofs.Names.{other_name}
use Rattle.command_request.proofs.request.verb_of.Goals as goal

pub returns-in-check : goal.returns-in-check
unfolding verb_of
returns-in-check c = rw c.in-check.is

pub returns-in-run : goal.returns-in-run
unfolding verb_of
returns-in-run c = rw c.in-run.is

pub returns-in-preview : goal.returns-in-preview
unfolding verb_of
returns-in-preview c = rw c.in-preview.is

pub returns-in-translate : goal.returns-in-translate
unfolding verb_of
returns-in-translate c = rw c.in-translate.is

pub returns-in-text : goal.returns-in-text
unfolding verb_of
returns-in-text c = rw c.in-text.is

pub returns-in-writes : goal.returns-in-writes
unfolding verb_of
returns-in-writes c = rw c.in-writes.is

pub returns-in-join : goal.returns-in-join
unfolding verb_of
returns-in-join c = rw c.in-join.is

pub returns-in-text-2 : goal.returns-in-text-2
unfolding verb_of
returns-in-text-2 c = rw c.in-text-2.is

pub returns-in-text-3 : goal.returns-in-text-3
unfolding verb_of
returns-in-text-3 c = rw c.in-text-3.is

pub returns-in-text-4 : goal.returns-in-text-4
unfolding verb_of
returns-in-text-4 c = rw c.in-text-4.is

pub returns-in-page : goal.returns-in-page
unfolding verb_of
returns-in-page c = rw c.in-page.is

pub returns-in-flatten : goal.returns-in-flatten
unfolding verb_of
returns-in-flatten c = rw c.in-flatten.is

pub returns-in-text-5 : goal.returns-in-text-5
unfolding verb_of
returns-in-text-5 c = rw c.in-text-5.is

pub returns-in-text-6 : goal.returns-in-text-6
unfolding verb_of
returns-in-text-6 c = rw c.in-text-6.is

pub returns-in_default : goal.returns-in_default
unfolding verb_of
returns-in_default c =
    let n = c.in_default in
    rw (other_name _ _ n.not-check, other_name _ _ n.not-run, other_name _ _ n.not-preview, other_name _ _ n.not-translate, other_name _ _ n.not-text, other_name _ _ n.not-writes, other_name _ _ n.not-join, other_name _ _ n.not-text-2, other_name _ _ n.not-text-3, other_name _ _ n.not-text-4, other_name _ _ n.not-page, other_name _ _ n.not-flatten, other_name _ _ n.not-text-5, other_name _ _ n.not-text-6)
