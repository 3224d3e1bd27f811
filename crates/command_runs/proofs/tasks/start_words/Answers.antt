-- `start_words`: the words of the store for each task.
use borrow.Author.Rules.{rules}
use Rattle.command_runs.proofs.tasks.start_words.Goals as goal

pub store_words-requires : goal.store_words-requires
store_words-requires c = rw c.in-Run.is at c.requires

pub store_words-requires-in-Preview : goal.store_words-requires-in-Preview
store_words-requires-in-Preview c = rw c.in-Preview.is at c.requires

pub store_size-requires : goal.store_size-requires
store_size-requires c = rw c.in-DispatcherRun.is at c.requires

pub header_store-requires : goal.header_store-requires
header_store-requires c = rw c.in-FlatRun.is at c.requires

pub returns-in-Run : goal.returns-in-Run
returns-in-Run c = rw c.in-Run.is c.store_words.ensures

pub returns-in-Preview : goal.returns-in-Preview
returns-in-Preview c = rw c.in-Preview.is c.store_words-in-Preview.ensures

pub returns-in-DispatcherRun : goal.returns-in-DispatcherRun
returns-in-DispatcherRun c = rw c.in-DispatcherRun.is c.store_size.ensures

pub returns-in-FlatRun : goal.returns-in-FlatRun
returns-in-FlatRun c = rw c.in-FlatRun.is c.header_store.ensures
