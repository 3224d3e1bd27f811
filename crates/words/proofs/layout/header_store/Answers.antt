-- `header_store` adds the words behind the first S to these.
use native.Mathlib.Omega.{arith}
use Rattle.words.specs.Layout.{header_store}
use Rattle.words.specs.Laws.{HeaderFits, header_fits-facts}
use Rattle.words.proofs.layout.header_store.Goals as goal
use Rattle.words.proofs.layout.header_store.Goals.{Start}

fits : (s : Start) → HeaderFits s.args.form s.args.header.now
fits s = header_fits-facts s.args.form s.args.header.now s.requires

pub declared-requires : goal.declared-requires
declared-requires c = (fits c).least

pub temporaries-requires : goal.temporaries-requires
temporaries-requires c = (fits (goal.at.temporaries-requires c).Start).least

pub overflow_add-behind : goal.overflow_add-behind
overflow_add-behind c =
    let f = fits (goal.at.overflow_add-behind c).Start in
    omega (arith, f.few_declared, f.few_temporaries, c.declared.ensures, c.temporaries.ensures)

pub overflow_add-result : goal.overflow_add-result
overflow_add-result c =
    let f = fits (goal.at.overflow_add-result c).Start in
    omega (arith, f.small_store, f.few_declared, f.few_temporaries, c.declared.ensures, c.temporaries.ensures, c.store_size.ensures)

pub returns : goal.returns
unfolding header_store
returns c = omega (arith, c.declared.ensures, c.temporaries.ensures, c.store_size.ensures)
