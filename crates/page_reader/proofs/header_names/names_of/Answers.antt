-- `names_of`: the header's bounds, its declared words and its temporaries.
use native.Mathlib.Omega.{arith}
use Rattle.words.specs.Laws.{header_fits-facts}
use Rattle.words.specs.declared.Form.TheVariants.{Kernel}
use Rattle.page_reader.proofs.HeaderNames.{names-are, variables-low, arrays-low}
use borrow.Author.Rules.{rules}
use Rattle.page_reader.proofs.header_names.names_of.Goals as goal

pub declared-inside-requires : goal.declared-inside-requires
declared-inside-requires c =
    (header_fits-facts Kernel c.args.header.now c.requires).least

pub temporaries-kept-requires : goal.temporaries-kept-requires
temporaries-kept-requires c =
    (header_fits-facts Kernel c.args.header.now c.requires).least

pub overflow_cast-result : goal.overflow_cast-result
overflow_cast-result c =
    omega (arith, variables-low c.args.header.now c.requires c.bounds_of-bounds.result c.bounds_of-bounds.ensures)

pub overflow_cast-result-2 : goal.overflow_cast-result-2
overflow_cast-result-2 c =
    omega (arith, c.declared-inside.ensures, (header_fits-facts Kernel c.args.header.now c.requires).few_declared)

pub overflow_cast-result-3 : goal.overflow_cast-result-3
overflow_cast-result-3 c =
    omega (arith, c.temporaries-kept.ensures, (header_fits-facts Kernel c.args.header.now c.requires).few_temporaries)

pub overflow_cast-result-4 : goal.overflow_cast-result-4
overflow_cast-result-4 c =
    omega (arith, arrays-low c.args.header.now c.requires c.bounds_of-bounds.result c.bounds_of-bounds.ensures)

pub returns : goal.returns
returns c =
    names-are c.args.header.now c.bounds_of-bounds.result c.declared-inside.result c.temporaries-kept.result c.bounds_of-bounds.ensures c.declared-inside.ensures c.temporaries-kept.ensures
