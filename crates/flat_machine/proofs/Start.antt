-- Start: an accepted list gives what the machine asks, with the bounds of its header's layout.
use mathlib.Core.Path.{◌≡◌, refl, sym, ap, ◌∙◌, subst}
use mathlib.Core.Bool.{true, false}
use mathlib.Core.List.{List, map}
use Prim.Native.Nat.{ℕ, suc, ◌+◌, ◌-◌, ◌<◌}
use native.Mathlib.Omega.{arith}
use lib.IntN.{ℤ, pos}
use lib.ListN.{length, get_or, take, drop, length-drop}
use borrow.Author.Tests.{le-leb}
use Rattle.words.specs.Word.{natural}
use Rattle.words.specs.Laws.{HeaderFits, header_fits-facts}
use Rattle.words.specs.Layout.{Layout, leading, layout_of, header_store}
use Rattle.words.specs.declared.Form.TheVariants.{Kernel}
use Rattle.words.proofs.Lengths.{part, size_is}
use Rattle.check_fields.specs.Fields.{declared_range, bounds_in, bounds_of as numbers_of}
use Rattle.check_fields.specs.declared.Bounds.{Bounds}
use Rattle.machine_operations.specs.Bounds.{bounds_from, layout_from}
use Rattle.machine.proofs.Bounds.{layout-again, bounds-again}
use Rattle.flat.specs.Lines.{copy, minus, operate, fetch, put, FlatLine, does, jump, jump_zero, jump_other, abort, run_from}
use Rattle.flat.specs.Words.{line_parts, line_count, field_at, operation_at, kind_of, left_constant, line_at, lines_of, Written}
use Rattle.flat.proofs.WordsLaws.{is_number, kind-small, kind-back, left_back, operation-small, operation-back, written-line}
use Rattle.flat.specs.Refusal.{lands_inside}
use Rattle.flat.specs.Legal.{Within, LegalFlat}
use Rattle.flat.specs.LineKinds.{LineKind, copies, fetches, negates, operates, puts, jumps_at_zero, jumps_otherwise, jumps, aborts}
use Rattle.flat.proofs.Accepts.{lands-distance}
use Rattle.flat.specs.Results.{run_list}
use Rattle.flat_steps.specs.Steps.{Setting}
use Rattle.flat_machine.specs.Whole.{Startable}

-- ---- a line of a legal list

line-kind-is : (i : ℕ) (x : FlatLine) → LineKind (line_parts i x).kind
line-kind-is i (does (copy x a)) = copies
line-kind-is i (does (minus x a)) = negates
line-kind-is i (does (operate o x a b)) = operates o refl
line-kind-is i (does (fetch x k a)) = fetches
line-kind-is i (does (put k a b)) = puts
line-kind-is i (jump j) = jumps
line-kind-is i (jump_zero a j) = jumps_at_zero
line-kind-is i (jump_other a j) = jumps_otherwise
line-kind-is i abort = aborts

array-left-is : (i : ℕ) (x : FlatLine) → (line_parts i x).kind ≡ 3 → is_number (line_parts i x).left ≡ false
array-left-is i (does (copy x a)) e = absurd (omega arith)
array-left-is i (does (minus x a)) e = absurd (omega arith)
array-left-is i (does (operate o x a b)) e = absurd (omega arith)
array-left-is i (does (fetch x k a)) e = refl
array-left-is i (does (put k a b)) e = absurd (omega arith)
array-left-is i (jump j) e = absurd (omega arith)
array-left-is i (jump_zero a j) e = absurd (omega arith)
array-left-is i (jump_other a j) e = absurd (omega arith)
array-left-is i abort e = absurd (omega arith)

module _ (i lines : ℕ) (h : i < lines) where
  follows : lands_inside i lines (pos 0) ≡ true
  follows = le-leb (suc i + 0) lines (omega arith)

  line-lands : (bounds : Bounds) (x : FlatLine) → Within bounds lines x → lands_inside i lines (line_parts i x).distance_is ≡ true
  line-lands bounds (does (copy x a)) w = follows
  line-lands bounds (does (minus x a)) w = follows
  line-lands bounds (does (operate o x a b)) w = follows
  line-lands bounds (does (fetch x k a)) w = follows
  line-lands bounds (does (put k a b)) w = follows
  line-lands bounds (jump j) w = lands-distance i j lines h w
  line-lands bounds (jump_zero a j) w = lands-distance i j lines h w.1
  line-lands bounds (jump_other a j) w = lands-distance i j lines h w.1
  line-lands bounds abort w = follows

-- ---- the list

module _ (header list : List ℤ) (legal : LegalFlat header list) (words : ℕ) (e : words ≡ header_store Kernel header) where
  abbrev L : Layout
  L = layout_of Kernel header

  fits : HeaderFits Kernel header
  fits = header_fits-facts Kernel header legal.header-fits

  module _ (i : ℕ) (h : i < line_count list) where
    abbrev x : FlatLine
    x = (legal.lines i h).line

    abbrev written : Written list i (line_parts i x)
    written = (legal.lines i h).written

    kind_is : kind_of (operation_at list i) ≡ (line_parts i x).kind
    kind_is = ap kind_of (operation-back written) ∙ kind-back (line_parts i x) (kind-small i x)

    known_is : LineKind (kind_of (operation_at list i))
    known_is = subst (λ (k : ℕ). LineKind k) (sym kind_is) (line-kind-is i x)

    small_is : operation_at list i < 256
    small_is = omega (arith, operation-back written, operation-small (line_parts i x) (kind-small i x))

    left_is : kind_of (operation_at list i) ≡ 3 → left_constant (operation_at list i) ≡ false
    left_is k = ap left_constant (operation-back written) ∙ left_back (line_parts i x) (kind-small i x) ∙ array-left-is i x (sym kind_is ∙ k)

    lands-is : lands_inside i (line_count list) (field_at list i 4) ≡ true
    lands-is = ap (lands_inside i (line_count list)) written.distance_word ∙ line-lands i (line_count list) h (numbers_of Kernel header) x (legal.lines i h).within

    within-is : Within (bounds_in L (declared_range Kernel header) words) (line_count list) (line_at list i)
    unfolding numbers_of
    within-is = rw (written-line list i x written, e) (legal.lines i h).within

  -- with the bounds of the layout
  setting : Setting (bounds_from L.variables L.lengths) list words
  unfolding header_store
  setting = record {
    bounds_are = bounds-again L;
    store_fits = rw (layout-again L) (omega (arith, e));
    few_words = omega (arith, e, fits.small_store, fits.few_declared, fits.few_temporaries);
    few_arrays = rw (layout-again L) fits.few_arrays;
    known = λ i h. known_is i h;
    small = λ i h. small_is i h;
    array_left = λ i h k. left_is i h k;
    lands = λ i h. lands-is i h;
    declared = declared_range Kernel header;
    within = λ i h. subst (λ M. Within (bounds_in M (declared_range Kernel header) words) (line_count list) (line_at list i)) (sym (layout-again L)) (within-is i h);
  }

  module _ (first : ℕ) (f : first ≡ leading Kernel) (variables : ℕ) (q : variables ≡ natural (get_or header 0 (pos 0))) where
    -- the lengths as the code lends them
    abbrev lent : List ℤ
    lent = take (length header - first) (drop first header)

    bounds-same : bounds_from variables (map natural lent) ≡ bounds_from L.variables L.lengths
    unfolding layout_of
    bounds-same = rw (part header first, f, q)

    pub startable : (bounds : List ℕ) → length bounds ≡ length header - first + 1 → Startable lent variables bounds list words
    startable bounds h = record {
      room = rw (part header first) (h ∙ ap (λ (k : ℕ). k + 1) (sym (length-drop first header)));
      few = omega (arith, size_is Kernel header first f, fits.small_store);
      setting = rw bounds-same setting;
    }

    -- the run with these bounds is the list's
    pub whole_run : (budget : ℕ) (s : List ℤ) → run_from (layout_from (bounds_from variables (map natural lent))) (lines_of list) budget 0 0 s ≡ run_list header list budget s
    unfolding run_list
    whole_run budget s = ap (λ (M : Layout). run_from M (lines_of list) budget 0 0 s) (ap layout_from bounds-same ∙ layout-again L)
