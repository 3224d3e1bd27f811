-- `read_whole`: the causes 2 and 10, then the rows.
use Rattle.page_reader.proofs.Results.{many-refused, short-refused, rows-counted, whole-read}
use borrow.Author.Rules.{rules}
use Rattle.page_reader.proofs.read_whole.Goals as goal

pub returns-then-count-gt40980 : goal.returns-then-count-gt40980
returns-then-count-gt40980 c =
    let both = many-refused c.args.header.now c.requires.0 c.args.names c.requires.1 c.args.page.now c.args.count c.requires.2 c.args.rows.now _ c.refused.ensures c.if-count-gt40980.true in
    record { rows_after = both.0; gives_rows = both.1 }

pub returns-then-words-rows : goal.returns-then-words-rows
returns-then-words-rows c =
    let both = short-refused c.args.header.now c.requires.0 c.args.names c.requires.1 c.args.page.now c.args.count c.requires.2 c.args.rows.now _ c.refused-then-words-rows.ensures c.if-count-gt40980.false c.if-words-rows.true in
    record { rows_after = both.0; gives_rows = both.1 }

pub write_rows-requires : goal.write_rows-requires
write_rows-requires c =
    rows-counted c.args.header.now c.requires.0 c.args.names c.requires.1 c.args.page.now c.args.count c.requires.2 c.args.rows.now _ c.sizes_of-sizes.ensures c.if-count-gt40980.false c.if-words-rows.false

pub returns : goal.returns
returns c =
    let both = whole-read c.args.header.now c.requires.0 c.args.names c.requires.1 c.args.page.now c.args.count c.requires.2 c.args.rows.now _ c.sizes_of-sizes.ensures c.if-count-gt40980.false c.if-words-rows.false _ c.write_rows.ensures in
    record { rows_after = both.0; gives_rows = both.1 }
