-- Bounds: how the list of bounds is written, one bound after the other, and that a layout is read off its own bounds.
use mathlib.Core.Path.{◌≡◌, refl, sym, ap, ap₂, subst, ◌∙◌}
use mathlib.Core.List.{List, [], ◌∷◌, map, ◌++◌, append_assoc, append-nil}
use Prim.Native.Nat.{ℕ, suc, ◌+◌, ◌-◌, ◌<◌, ◌≤◌}
use native.Mathlib.Numerals.{add-one}
use native.Mathlib.Omega.{arith}
use lib.IntN.{ℤ, pos}
use lib.ListN.{length, get_or, set, take, drop, length-append, length-map, length-set, length-drop, drop_of_length-le}
use lib.Seq.{drop-cons, take-suc-set, set_split, take-append_seam}
use borrow.Rule.Slice.PartMut.{mid_of, post_of, put_mid, Post-is, mid_len}
use Rattle.words.specs.Word.{natural}
use Rattle.words.specs.Table.{row_count}
use Rattle.words.specs.Laws.{back, HeaderFits, header_fits-facts}
use Rattle.words.specs.Layout.{Layout, leading, layout_of, sum}
use Rattle.words.specs.StoreLaws.{store-most, header-store-most}
use Rattle.words.specs.declared.Form.{Form}
use Rattle.words.proofs.Lengths.{Read, rest, sum-rest, part, size_is}
use Rattle.computation.specs.Remaining.{spend}
use Rattle.language.specs.Decode.{statement_at, decode}
use Rattle.language.specs.Meaning.{exec}
use Rattle.language.specs.Functions.{function_count}
use Rattle.language.specs.Program.{contents, table_program}
use Rattle.machine_operations.specs.Rows.{context_in}
use Rattle.machine_operations.specs.Bounds.{bounds_from, bounds_of, lengths_from, lengths_of, layout_from, array_bounds, layout_in, function_row_in}
use Rattle.machine_operations.specs.Functions.{FunctionAt}
use Rattle.machine_operations.specs.Ready.{Setting}
use Rattle.machine_flows.specs.FunctionRows.{InOrder, RowsOfFunctions}
use Rattle.machine_operations.proofs.Bounds.{bounds-count}
use Rattle.machine.specs.Whole.{whole_at, Startable, Runnable}

-- the bounds before the i-th are written, and `total` is the i-th
pub record Filled (lengths : List ℤ) (variables : ℕ) (bounds : List ℕ) (total i : ℕ) : Type 0 where
  pub most : i ≤ length lengths
  pub room : length bounds ≡ length lengths + 1
  pub total_is : total + sum (rest lengths i) ≡ variables + sum (map natural lengths)
  pub filled : take i bounds ++ bounds_from total (rest lengths i) ≡ bounds_from variables (map natural lengths)

pub filled_none : (lengths : List ℤ) (variables : ℕ) (bounds : List ℕ) → length bounds ≡ length lengths + 1 → Filled lengths variables bounds variables 0
filled_none lengths variables bounds e = record { most = omega arith; room = e; total_is = refl; filled = refl }

module _ {lengths : List ℤ} {variables : ℕ} {bounds : List ℕ} {total i : ℕ} (f : Filled lengths variables bounds total i) where
  module _ {n : ℕ} (r : Read lengths i n) where
    read_next : rest lengths i ≡ n ∷ rest lengths (i + 1)
    read_next =
        rw add-one (ap (map natural) (drop-cons lengths i (pos 0) r.below))
        ∙ ap (λ (k : ℕ). k ∷ rest lengths (i + 1)) (sym (r.is ∙ ap natural (back (get_or lengths i (pos 0)) r.word)))

    bounds-next : bounds_from total (rest lengths i) ≡ total ∷ bounds_from (total + n) (rest lengths (i + 1))
    unfolding bounds_from
    bounds-next = ap (bounds_from total) read_next

    taken_next : take (i + 1) (set bounds i total) ≡ take i bounds ++ (total ∷ [])
    taken_next = rw add-one (take-suc-set bounds i total (omega (arith, f.room, r.below)))

    pub filled_next : Filled lengths variables (set bounds i total) (total + n) (i + 1)
    filled_next = record {
      most = omega (arith, r.below);
      room = length-set bounds i total ∙ f.room;
      total_is = omega (arith, sum-rest r, f.total_is);
      filled = ap (λ (l : List ℕ). l ++ bounds_from (total + n) (rest lengths (i + 1))) taken_next ∙ append_assoc (take i bounds) (total ∷ []) _ ∙ ap (λ (l : List ℕ). take i bounds ++ l) (sym bounds-next) ∙ f.filled;
    }

  module _ (h : length lengths ≤ i) where
    bounds-last : bounds_from total (rest lengths i) ≡ total ∷ []
    unfolding bounds_from
    bounds-last = ap (λ (l : List ℤ). bounds_from total (map natural l)) (drop_of_length-le lengths h)

    pub filled-all : set bounds i total ≡ bounds_from variables (map natural lengths)
    filled-all =
        set_split bounds i total (omega (arith, f.room, f.most))
        ∙ ap (λ (l : List ℕ). take i bounds ++ (total ∷ l)) (let past : length bounds ≤ suc i = omega (arith, f.room) in drop_of_length-le bounds past)
        ∙ ap (λ (l : List ℕ). take i bounds ++ l) (sym bounds-last) ∙ f.filled

-- ---- a layout's bounds give the layout

lengths-again : (base : ℕ) (ns : List ℕ) → lengths_of (bounds_from base ns) ≡ ns
unfolding bounds_from lengths_from lengths_of
lengths-again base [] = refl
lengths-again base (n ∷ []) = ap (λ (k : ℕ). k ∷ []) (omega arith)
lengths-again base (n ∷ (m ∷ ns)) = ap₂ (λ (k : ℕ) (l : List ℕ). k ∷ l) (omega arith) (lengths-again (base + n) (m ∷ ns))

first-again : (base : ℕ) (ns : List ℕ) → get_or (bounds_from base ns) 0 0 ≡ base
unfolding bounds_from
first-again base [] = refl
first-again base (n ∷ ns) = refl

pub layout-again : (L : Layout) → layout_from (bounds_from L.variables L.lengths) ≡ L
unfolding layout_from
layout-again L = ap₂ (λ (k : ℕ) (l : List ℕ). record { variables = k; lengths = l }) (first-again L.variables L.lengths) (lengths-again L.variables L.lengths)

pub bounds-again : (L : Layout) → bounds_from L.variables L.lengths ≡ bounds_of (layout_from (bounds_from L.variables L.lengths))
unfolding bounds_of
bounds-again L = rw (layout-again L)

-- ---- the rows of the functions behind the bounds

word-behind : (a b : List ℕ) (i : ℕ) → get_or (a ++ b) (length a + i) 0 ≡ get_or b i 0
word-behind [] b i = let same : 0 + i ≡ i = omega arith in ap (λ (k : ℕ). get_or b k 0) same
word-behind (x ∷ a) b i =
    let more : suc (length a) + i ≡ suc (length a + i) = omega arith in
    ap (λ (k : ℕ). get_or (x ∷ (a ++ b)) k 0) more ∙ word-behind a b i

arrays-taken : (a b : List ℕ) (n : ℕ) → length b ≡ n → array_bounds n (a ++ b) ≡ a
arrays-taken a b n e =
    let front : length (a ++ b) - n ≡ length a = omega (arith, length-append a b) in
    ap (λ (k : ℕ). take k (a ++ b)) front ∙ take-append_seam a b

row-behind : (a b : List ℕ) (f : ℕ) → f < length b → function_row_in (a ++ b) f ≡ function_row_in b f
unfolding function_row_in
row-behind a b f h =
    let place : length (a ++ b) - 1 - f ≡ length a + (length b - 1 - f) = omega (arith, length-append a b) in
    ap (λ (k : ℕ). get_or (a ++ b) k 0) place ∙ word-behind a b (length b - 1 - f)

-- what is written: the bounds, and behind them the rows
pub list_written : (bounds functions rest : List ℕ) (n : ℕ) → n ≡ length bounds → put_mid n (length (bounds ++ rest) - n) (bounds ++ rest) functions ≡ bounds ++ functions
list_written bounds functions rest n e =
    let inside : n ≤ length (bounds ++ rest) = omega (arith, length-append bounds rest) in
    let all : length (bounds ++ rest) ≤ length (bounds ++ rest) = omega arith in
    let front : take n (bounds ++ rest) ≡ bounds = ap (λ (k : ℕ). take k (bounds ++ rest)) e ∙ take-append_seam bounds rest in
    let back : post_of n (length (bounds ++ rest) - n) (bounds ++ rest) ≡ [] = Post-is n (length (bounds ++ rest)) (bounds ++ rest) inside ∙ drop_of_length-le (bounds ++ rest) all in
    ap₂ (λ (a b : List ℕ). a ++ (functions ++ b)) front back ∙ ap (λ (l : List ℕ). bounds ++ l) (append-nil functions)

pub functions-room : (bounds before : List ℕ) (n count : ℕ) → n ≡ length bounds → length before ≡ n + count → length (mid_of n (length (bounds ++ drop n before) - n) (bounds ++ drop n before)) ≡ count
functions-room bounds before n count e room =
    mid_len n (length (bounds ++ drop n before)) (bounds ++ drop n before) (omega arith) ∙ omega (arith, length-append bounds (drop n before), length-drop n before)

pub bounds-words : (variables : ℕ) (lengths : List ℤ) → length (bounds_from variables (map natural lengths)) ≡ length lengths + 1
unfolding bounds_of
bounds-words variables lengths = omega (arith, bounds-count (record { variables = variables; lengths = map natural lengths }), length-map lengths natural)

-- ---- the start of a run

-- the limit of either form
few_rows : {form : Form} {header rows store : List ℤ} → Runnable form header rows store → row_count rows ≤ 40980
few_rows {form} r = r.few_rows

-- the definitions are in order
pub in_order : {form : Form} {header rows store : List ℤ} → Runnable form header rows store → InOrder rows
in_order {form} {header} {rows} {store} r = record {
  table = record { layout = layout_of form header; words = length store; sound = r.sound; few_rows = omega (arith, few_rows r); below = r.sound.some_rows };
  numbered = r.calls.order.numbered;
  in_front = r.calls.in_front;
}

module _ {form : Form} {header rows store : List ℤ} (r : Runnable form header rows store) (first : ℕ) (e : first ≡ leading form) (variables : ℕ) (q : variables ≡ natural (get_or header 0 (pos 0))) where
  fits : HeaderFits form header
  fits = header_fits-facts form header r.fits

  -- the lengths as the code lends them
  abbrev lent : List ℤ
  lent = take (length header - first) (drop first header)

  bounds-same : bounds_from variables (map natural lent) ≡ bounds_from (layout_of form header).variables (layout_of form header).lengths
  unfolding layout_of
  bounds-same = rw (part header first, e, q)

  few-lent : length lent ≤ 32
  few-lent = rw (part header first) (omega (arith, length-drop first header, fits.most))

  few_words : length store < 65536
  few_words = omega (arith, r.words, store-most form header rows, few_rows r, header-store-most form header r.fits)

  abbrev arrays : List ℕ
  arrays = bounds_from variables (map natural lent)

  layout-lent : layout_from arrays ≡ layout_of form header
  layout-lent = ap layout_from bounds-same ∙ layout-again (layout_of form header)

  -- with the rows of the functions behind the bounds
  module _ (functions : List ℕ) (all : length functions ≡ function_count (contents rows)) where
    layout-behind : layout_in rows (arrays ++ functions) ≡ layout_from arrays
    unfolding layout_in
    layout-behind = ap layout_from (arrays-taken arrays functions (function_count (contents rows)) all)

    setting-lent : RowsOfFunctions rows functions → Setting rows (arrays ++ functions) (length store)
    setting-lent there = record {
      sound = rw (layout-behind, layout-lent) r.sound;
      bounds_are = arrays-taken arrays functions (function_count (contents rows)) all ∙ rw (layout-behind, bounds-same) (bounds-again (layout_of form header));
      functions = record {
        room = omega (arith, length-append arrays functions);
        rows_are = λ f h. subst (λ (x : ℕ). FunctionAt rows f x) (sym (row-behind arrays functions f (omega arith))) (there f h);
      };
      few_words = few_words;
      few_rows = omega (arith, few_rows r);
      few_arrays = rw (layout-behind, layout-lent) fits.few_arrays;
      calls = r.calls;
    }

  pub startable : (room : ℕ) → room ≡ length header - first + 1 + function_count (contents rows) → Startable lent variables room rows (length store)
  startable room h = record {
    room_is = rw (part header first) (h ∙ ap (λ (k : ℕ). k + 1 + function_count (contents rows)) (sym (length-drop first header)));
    few_arrays = few-lent;
    small = omega (arith, size_is form header first e, fits.small_store);
    order = in_order r;
    setting = setting-lent;
    layout_is = layout-behind;
  }

  -- the statement at row 0 is the program
  pub whole-program : (b : ℕ) (s : List ℤ) → spend (whole_at lent variables rows) b s ≡ spend (table_program form header rows) b s
  unfolding table_program decode
  whole-program b s = ap (λ (L : Layout). spend (exec (context_in L rows) (statement_at rows 0)) b s) layout-lent
