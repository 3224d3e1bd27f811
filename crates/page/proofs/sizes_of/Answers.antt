-- `sizes_of`: S and D, by their functions.
use mathlib.Core.Path.{ap₂}
use Prim.Native.Nat.{ℕ}
use Rattle.words.specs.Laws.{header_fits-facts}
use Rattle.words.specs.declared.Form.TheVariants.{Kernel}
use Rattle.page.specs.declared.Sizes.{Sizes}
use borrow.Author.Rules.{rules}
use Rattle.page.proofs.sizes_of.Goals as goal

abbrev sizes : ℕ → ℕ → Sizes
sizes store declared = record { store = store; declared = declared }

pub declared-requires : goal.declared-requires
declared-requires c = (header_fits-facts Kernel c.args.header.now c.requires).least

pub returns : goal.returns
returns c = ap₂ sizes c.store_size-store.ensures c.declared.ensures
