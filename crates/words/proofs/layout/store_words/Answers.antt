-- `store_words` adds the declarations to the words that a source header gives.
use mathlib.Core.Path.{sym, ap, ◌∙◌}
use native.Mathlib.Omega.{arith}
use Rattle.words.specs.Layout.{header_store, store_words}
use Rattle.words.specs.StoreLaws.{declarations-few, header-store-most}
use Rattle.words.specs.declared.Form.{Form}
use Rattle.words.proofs.layout.store_words.Goals as goal

pub overflow_add-result : goal.overflow_add-result
overflow_add-result c =
    let s = c.before.before.before in
    omega (arith, c.declaration_count.ensures, c.header_store.ensures, header-store-most s.args.form s.args.header.now s.requires, declarations-few s.args.rows.now, s.well_formed.1.1.0)

pub returns-in-Source : goal.returns-in-Source
unfolding store_words
returns-in-Source c =
    let s = c.before.before.before in
    let source = c.in-Source.is in
    omega (arith, c.declaration_count.ensures, c.header_store.ensures, ap (λ (form : Form). header_store form s.args.header.now) source, ap (λ (form : Form). store_words form s.args.header.now s.args.rows.now) source)

pub returns-in-Kernel : goal.returns-in-Kernel
unfolding store_words
returns-in-Kernel c =
    let s = c.before.before in
    let kernel = c.in-Kernel.is in
    c.header_store-in-Kernel.ensures ∙ ap (λ (form : Form). header_store form s.args.header.now) kernel ∙ sym (ap (λ (form : Form). store_words form s.args.header.now s.args.rows.now) kernel)
