-- `declared_range` is V of a source header, and S with D of a kernel's.
use native.Mathlib.Omega.{arith}
use mathlib.Core.Path.{◌≡◌, ap, ◌∙◌}
use mathlib.Core.List.{List}
use Prim.Native.Nat.{ℕ, ◌+◌, ◌^◌, ◌<◌}
use lib.IntN.{ℤ, pos}
use lib.Signed.{mag}
use lib.ListN.{get_or}
use mir.Syntax.{w32}
use mir.Val.{to_z, of_z}
use Rattle.words.specs.Word.{natural}
use Rattle.words.specs.Layout.{layout_of, store_size, declared_of}
use Rattle.words.specs.Laws.{back, HeaderFits, header_fits-facts, leading-limits}
use Rattle.words.specs.declared.Form.{Form}
use Rattle.words.specs.declared.Form.TheVariants.{Source, Kernel}
use Rattle.check_fields.specs.Fields.{declared_range}
use Rattle.check_fields.specs.declared.NumberRange.{NumberRange}
use borrow.Author.Rules.{rules}
use Rattle.check_fields.proofs.fields.declared_range.Goals as goal
use Rattle.check_fields.proofs.fields.declared_range.Goals.{Start}

fits : (s : Start) → HeaderFits s.args.form s.args.header.now
fits s = header_fits-facts s.args.form s.args.header.now s.requires

source-range : (form : Form) (header : List ℤ) (v : ℕ) → form ≡ Source → mag (get_or header 0 (pos 0)) < 2 ^ 31 → v ≡ natural (to_z w32 (of_z w32 (get_or header 0 (pos 0)))) → ◌≡◌ {A = NumberRange} (record { first = 0; past = v }) (declared_range form header)
unfolding layout_of
source-range form header v f h e = rw (f, e ∙ ap natural (back (get_or header 0 (pos 0)) h))

kernel-range : (form : Form) (header : List ℤ) (s d : ℕ) → form ≡ Kernel → s ≡ store_size (layout_of form header) → d ≡ declared_of form header → ◌≡◌ {A = NumberRange} (record { first = s; past = s + d }) (declared_range form header)
kernel-range form header s d f e g = rw (e, g, f)

pub bounds-header-0 : goal.bounds-header-0
bounds-header-0 c = let f = fits (goal.at.bounds-header-0 c).Start in omega (arith, leading-limits c.args.form, f.least)

pub declared-requires : goal.declared-requires
declared-requires c = (fits (goal.at.declared-requires c).Start).least

pub overflow_add-past : goal.overflow_add-past
overflow_add-past c =
    let f = fits (goal.at.overflow_add-past c).Start in
    omega (arith, f.small_store, f.few_declared, c.store_size-store.ensures, c.declared.ensures)

pub returns-in-Source : goal.returns-in-Source
returns-in-Source c =
    let start = c.before.before.before in
    source-range start.args.form start.args.header.now _ c.in-Source.is c.natural-arg-1.given c.natural.ensures

pub returns-in-Kernel : goal.returns-in-Kernel
returns-in-Kernel c =
    let start = c.before.before.before in
    kernel-range start.args.form start.args.header.now _ _ c.in-Kernel.is c.store_size-store.ensures c.declared.ensures
