-- `bounds_of` reads V and counts the lengths; a header within its limits has both.
use native.Mathlib.Omega.{arith}
use mathlib.Core.Path.{◌≡◌, ap, ◌∙◌}
use mathlib.Core.List.{List}
use Prim.Native.Nat.{ℕ, ◌^◌, ◌<◌}
use lib.IntN.{ℤ, pos}
use lib.Signed.{mag}
use lib.ListN.{length, get_or}
use mir.Syntax.{w32}
use mir.Val.{to_z, of_z}
use Rattle.words.specs.Word.{natural}
use Rattle.words.specs.Layout.{layout_of, store_size, header_store}
use Rattle.words.specs.declared.Form.{Form}
use Rattle.check_fields.specs.declared.Bounds.{Bounds}
use Rattle.words.specs.Laws.{back, header_fits-facts, number-of-arrays, leading-limits}
use Rattle.check_fields.specs.declared.NumberRange.{NumberRange}
use Rattle.check_fields.specs.Fields.{declared_range, bounds_of}
use borrow.Author.Rules.{rules}
use Rattle.check_fields.proofs.fields.bounds_of.Goals as goal

bounds_are : (form : Form) (header : List ℤ) (v a s w : ℕ) (d : NumberRange) → v ≡ (layout_of form header).variables → a ≡ length (layout_of form header).lengths
    → s ≡ store_size (layout_of form header) → w ≡ header_store form header → d ≡ declared_range form header
    → ◌≡◌ {A = Bounds} (record { variables = v; arrays = a; store = s; words = w; declared = d }) (bounds_of form header)
unfolding bounds_of
bounds_are form header v a s w d e f g h i = rw (e, f, g, h, i)

variables-are : (header : List ℤ) (form : Form) (v : ℕ) → mag (get_or header 0 (pos 0)) < 2 ^ 31 → v ≡ natural (to_z w32 (of_z w32 (get_or header 0 (pos 0)))) → v ≡ (layout_of form header).variables
unfolding layout_of
variables-are header form v h e = e ∙ ap natural (back (get_or header 0 (pos 0)) h)

pub bounds-header-0 : goal.bounds-header-0
bounds-header-0 c =
    let fit = header_fits-facts _ _ c.requires in omega (arith, leading-limits c.args.form, fit.least)

pub overflow_sub-arrays : goal.overflow_sub-arrays
overflow_sub-arrays c =
    let fit = header_fits-facts _ _ c.requires in omega (arith, fit.least, c.leading.ensures)

pub returns : goal.returns
returns c =
    let s = c.before.before.before.before.before.before in
    let few = number-of-arrays s.args.form s.args.header.now in
    bounds_are s.args.form s.args.header.now _ _ _ _ _
    (variables-are s.args.header.now s.args.form _ c.natural-arg-1.given c.natural-variables.ensures)
    (omega (arith, c.leading.ensures))
    c.store_size-store.ensures c.header_store-words.ensures c.declared_range-declared.ensures
