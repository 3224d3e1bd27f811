-- Laws of readiness: for the first of some lines, and for those behind.
use Rattle.std.specs.Prelude.{◌≡◌, List, [], ◌∷◌, ◌++◌, ℕ, ◌+◌, ◌*◌, ◌≤◌, ◌<◌, ℤ, length}
use Rattle.std.proofs.Common.{arith, length-append}
use Rattle.words.specs.Table.{row_count}
use Rattle.page.specs.declared.Sizes.{Sizes}
use Rattle.page.specs.Lines.{Indented, indented}
use Rattle.page_line.specs.declared.LineAt.{LineAt}
use Rattle.page_line.specs.Contents.{line_tree, LineInside}
use Rattle.page_line.specs.LaidLaws.{laid-length}
use Rattle.page_line.specs.Printed.{LineRoom, Printed}
use Rattle.page_printer.specs.Ready.{Narrow, Ready}

narrow-first : (sizes : Sizes) (xs ys : List Indented) → Narrow sizes (xs ++ ys) → Narrow sizes xs
unfolding Narrow
narrow-first sizes [] ys n = tt
narrow-first sizes (indented level line ∷ xs) ys n = (n.0, narrow-first sizes xs ys n.1)

narrow-behind : (sizes : Sizes) (xs ys : List Indented) → Narrow sizes (xs ++ ys) → Narrow sizes ys
unfolding Narrow
narrow-behind sizes [] ys n = n
narrow-behind sizes (indented level line ∷ xs) ys n = narrow-behind sizes xs ys n.1

module _ {sizes : Sizes} {rows : List ℤ} {level done : ℕ} {page : List ℕ} where
  pub ready-first : (xs ys : List Indented) → Ready sizes rows (xs ++ ys) level done page → Ready sizes rows xs level done page
  ready-first xs ys r = record {
    readable = r.readable;
    narrow = narrow-first sizes xs ys r.narrow;
    few = omega (arith, r.few, length-append xs ys);
    shallow = omega (arith, r.shallow, length-append xs ys);
    room = omega (arith, r.room, length-append xs ys);
  }

  -- behind lines that were printed
  pub ready-behind : (xs ys : List Indented) {next : ℕ} {left : List ℕ} → Ready sizes rows (xs ++ ys) level done page → Printed sizes xs page done next left → Ready sizes rows ys level next left
  ready-behind xs ys r p = record {
    readable = r.readable;
    narrow = narrow-behind sizes xs ys r.narrow;
    few = omega (arith, r.few, length-append xs ys, p.count);
    shallow = omega (arith, r.shallow, length-append xs ys);
    room = omega (arith, r.room, length-append xs ys, p.count, laid-length p.laid);
  }

  -- the lines of a block behind the line before it stand a level deeper
  pub ready-deeper : (x : Indented) (ys : List Indented) {next : ℕ} {left : List ℕ} → Ready sizes rows (x ∷ ys) level done page → Printed sizes (x ∷ []) page done next left → Ready sizes rows ys (level + 1) next left
  ready-deeper x ys r p =
      let behind = ready-behind (x ∷ []) ys r p in
      record { readable = behind.readable; narrow = behind.narrow; few = behind.few; shallow = omega (arith, r.shallow); room = behind.room }

  pub ready-line : (line : LineAt) → Ready sizes rows (indented level (line_tree rows line) ∷ []) level done page → LineInside (row_count rows) line → LineRoom sizes rows line done page
  unfolding Narrow
  ready-line line r inside = record {
    readable = r.readable;
    inside = inside;
    few = omega (arith, r.few);
    narrow = r.narrow.0;
    room = omega (arith, r.room);
  }

-- The lines of a function's block stand a level deeper than those of its definition, of which there is one at least.
pub ready-inner : {sizes : Sizes} {rows : List ℤ} {level done next : ℕ} {page left : List ℕ} (xs ys zs : List Indented) → Ready sizes rows (xs ++ (ys ++ zs)) level done page → 1 ≤ length xs
    → Printed sizes xs page done next left → Ready sizes rows ys (level + 1) next left
ready-inner xs ys zs r some p =
    let inner = ready-first ys zs (ready-behind xs (ys ++ zs) r p) in
    record {
      readable = inner.readable;
      narrow = inner.narrow;
      few = inner.few;
      shallow = omega (arith, r.shallow, length-append xs (ys ++ zs), length-append ys zs, some);
      room = inner.room;
    }
