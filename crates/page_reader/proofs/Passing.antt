-- What is known when k lines of a page are left: the rows of the lines behind them stand from the row `base` on, and what those lines leave is held.
use Rattle.std.specs.Prelude.{None, Option, Some}
use mathlib.Core.Path.{◌≡◌, refl, sym, ap, ap₂, ◌∙◌}
use mathlib.Core.Bool.{Bool, true, false}
use mathlib.Core.List.{List, [], ◌∷◌, ◌++◌, append_assoc}
use Prim.Native.Nat.{ℕ, zero, suc, ◌+◌, ◌*◌, ◌-◌, ◌/◌, ◌≤◌, ◌<◌, min}
use native.Mathlib.Omega.{arith}
use lib.IntN.{ℤ}
use lib.ListN.{length, get_or, take, drop, length-take, length-drop, length-append, take-append-drop}
use lib.Seq.{drop_at}
use Rattle.words.specs.Over.{over}
use Rattle.words.specs.OverLaws.{part, back_in, part-is, length_over, over-next}
use Rattle.writers_rows.specs.Room.{Room}
use Rattle.page.specs.declared.Sizes.{Sizes}
use Rattle.page_words.specs.Texts.{LineFits}
use Rattle.page_words.specs.declared.Names.{Names}
use Rattle.page_words.specs.declared.LineContent.{LineContent}
use Rattle.page_frame.specs.Frames.{statement_in}
use Rattle.page_blocks.specs.Scans.{line_rows, with_line, lines_from, lines_in}
use Rattle.page_blocks.specs.LinesFit.{lines_rows, AllFit}
use Rattle.page_scan.specs.Stacks.{stack_of}
use Rattle.page_rows.specs.Rows.{Left, left_before, block_row, line_table, left_by, lines_table, page_table}
use Rattle.page_rows.specs.Fits.{most_names, line-fits-most}
use Rattle.page_rows.proofs.SizeLaws.{by_two, length-line, length-page}
use Rattle.page_reader.specs.Stacks.{Counted}
use Rattle.page_reader.proofs.Suffixes.{one_more, rows-within, fit-within}

-- Words written from k on into a table.
put-behind : (k : ℕ) (v l m : List ℤ) → k ≤ length l → m ≡ over v (part k l) → drop k (back_in k l m) ≡ v ++ drop (k + length v) l
unfolding over
put-behind k v l m h e =
    let first : length (take k l) ≡ k = length-take k l ∙ omega arith in
    let same : l ≡ over (take k l) l = sym (take-append-drop k l) ∙ ap (λ (n : ℕ). take k l ++ drop n l) (sym first) in
    let size : length (take k l ++ v) ≡ k + length v = length-append (take k l) v ∙ ap (λ (n : ℕ). n + length v) first in
    ap (drop k) (over-next (take k l) v l l m k (sym first) same e ∙ ap (λ (n : ℕ). (take k l ++ v) ++ drop n l) size ∙ append_assoc (take k l) v (drop (k + length v) l))
    ∙ drop_at (take k l) (v ++ drop (k + length v) l) k first

back_long : (k : ℕ) (v l m : List ℤ) → k ≤ length l → m ≡ over v (part k l) → length v ≤ length l - k → length (back_in k l m) ≡ length l
unfolding over
back_long k v l m h e fits =
    let first : length (take k l) ≡ k = length-take k l ∙ omega arith in
    let same : l ≡ over (take k l) l = sym (take-append-drop k l) ∙ ap (λ (n : ℕ). take k l ++ drop n l) (sym first) in
    length_over (take k l ++ v) l _ (over-next (take k l) v l l m k (sym first) same e) (omega (arith, length-append (take k l) v, first))

pub record Passing (names : Names) (sizes : Sizes) (page : List ℕ) (total : ℕ) (old : List ℤ) (rows : List ℤ) (waiting : List ℕ) (depth : ℕ) (follows : Bool) (base k : ℕ) : Type 0 where
  pub counted : Counted names sizes page total old
  pub count : ℕ
  pub all : count ≡ min (length page / 81) 81958
  pub inside : k ≤ count
  pub deep : depth + k ≤ count
  pub placed : base + lines_rows (lines_from names page (count - k) k) ≡ total
  pub left : record { follows = follows; waiting = stack_of depth waiting } ≡ left_by (lines_from names page (count - k) k) base
  pub words : drop (6 * base) rows ≡ lines_table sizes (lines_from names page (count - k) k) base ++ drop (6 * total) old
  pub long : length rows ≡ length old

pub slice-long : (page : List ℕ) (k : ℕ) → 81 * k + 81 ≤ length page → length (take (81 * k + 81 - 81 * k) (drop (81 * k) page)) ≡ 81
slice-long page k h = length-take (81 * k + 81 - 81 * k) (drop (81 * k) page) ∙ omega (arith, length-drop (81 * k) page)

pub passing-start : (names : Names) (sizes : Sizes) (page : List ℕ) (total : ℕ) (old : List ℤ) (waiting : List ℕ) (k : ℕ) → Counted names sizes page total old → k ≡ min (length page / 81) 81958
    → Passing names sizes page total old old waiting 0 false total k
unfolding lines_from left_by lines_table stack_of
passing-start names sizes page total old waiting k c e =
    let none_left : k - k ≡ 0 = omega arith in
    record {
      counted = c;
      count = k;
      all = e;
      inside = omega arith;
      deep = omega arith;
      placed = rw none_left (omega arith);
      left = rw none_left;
      words = rw none_left;
      long = refl;
    }

module _ {names : Names} {sizes : Sizes} {page : List ℕ} {total : ℕ} {old rows : List ℤ} {waiting : List ℕ} {depth : ℕ} {follows : Bool} {base k : ℕ}
    (p : Passing names sizes page total old rows waiting depth follows base k) where
  abbrev rest : List LineContent
  rest = lines_from names page (p.count - k) k

  everything : lines_from names page p.count 0 ≡ lines_in names page
  unfolding lines_in
  everything = ap (λ (n : ℕ). lines_from names page n 0) p.all

  -- ---- no line is left

  pub passing-room : k ≡ 0 → Room 1 0 (length rows)
  passing-room e = record { inside = omega (arith, p.long, p.counted.room, p.counted.all); low = omega arith }

  pub passing-end : k ≡ 0 → (m : List ℤ) → m ≡ over (block_row 0 follows 0) rows → m ≡ over (page_table sizes (lines_in names page)) old
  unfolding over page_table
  passing-end e m h =
      let none_done : p.count - k ≡ p.count = omega arith in
      let lines : lines_from names page (p.count - k) k ≡ lines_in names page = ap₂ (lines_from names page) none_done e ∙ everything in
      let placed : base + lines_rows (lines_in names page) ≡ total = rw lines at p.placed in
      let first : base ≡ 1 = omega (arith, p.counted.all) in
      let left : record { follows = follows; waiting = stack_of depth waiting } ≡ left_by (lines_in names page) 1 = rw (lines, first) at p.left in
      let goes : follows ≡ (left_by (lines_in names page) 1).follows = ap (λ (l : Left). l.follows) left in
      let words : drop 6 rows ≡ lines_table sizes (lines_in names page) 1 ++ drop (6 * total) old = rw (lines, first) at p.words in
      let size : 6 * total ≡ length (page_table sizes (lines_in names page)) = ap (λ (n : ℕ). 6 * n) p.counted.all ∙ sym (length-page sizes (lines_in names page)) in
      h ∙ ap₂ (λ (f : Bool) (l : List ℤ). block_row 0 f 0 ++ l) goes (words ∙ ap (λ (n : ℕ). lines_table sizes (lines_in names page) 1 ++ drop n old) size)

  -- ---- one line before those that are done

  module _ (more : 0 < k) where
    pub line-inside : 81 * (k - 1) + 81 ≤ length page
    line-inside = omega (arith, p.inside, p.all)

    pub shallow : depth < 81958
    shallow = omega (arith, p.deep, p.all)

    module _ (read : Option LineContent) (e : read ≡ statement_in names (take (81 * (k - 1) + 81 - 81 * (k - 1)) (drop (81 * (k - 1)) page))) where
      lines_are : lines_from names page (p.count - (k - 1)) (k - 1) ≡ with_line read rest
      lines_are =
          let left : p.count - (k - 1) ≡ suc (p.count - k) = omega (arith, p.inside) in
          let next : suc (k - 1) ≡ k = omega arith in
          let size : 81 * (k - 1) + 81 - 81 * (k - 1) ≡ 81 = omega arith in
          ap (λ (n : ℕ). lines_from names page n (k - 1)) left ∙ one_more names page (p.count - k) (k - 1)
          ∙ ap₂ (λ (r : Option LineContent) (n : ℕ). with_line r (lines_from names page (p.count - k) n)) (sym (e ∙ ap (λ (n : ℕ). statement_in names (take n (drop (81 * (k - 1)) page))) size)) next

      -- No line.
      pub passing-skip : read ≡ None → Passing names sizes page total old rows waiting depth follows base (k - 1)
      passing-skip q =
          let same : lines_from names page (p.count - (k - 1)) (k - 1) ≡ rest = lines_are ∙ ap (λ (r : Option LineContent). with_line r rest) q in
          record {
            counted = p.counted;
            count = p.count;
            all = p.all;
            inside = omega (arith, p.inside);
            deep = omega (arith, p.deep);
            placed = rw same p.placed;
            left = rw same p.left;
            words = rw same p.words;
            long = p.long;
          }

      module _ (line : LineContent) (q : read ≡ Some line) where
        begins : lines_from names page (p.count - (k - 1)) (k - 1) ≡ line ∷ rest
        begins = lines_are ∙ ap (λ (r : Option LineContent). with_line r rest) q

        all_lines : p.count - (k - 1) + (k - 1) ≡ p.count
        all_lines = omega (arith, p.inside)

        -- The line's rows have room before those of the lines behind it.
        pub rows-left : line_rows line < base
        rows-left =
            let most = rows-within names page (k - 1) (p.count - (k - 1)) in
            let bound : lines_rows (line ∷ rest) ≤ lines_rows (lines_in names page) = rw (begins, all_lines, everything) at most in
            omega (arith, p.placed, p.counted.all)

        pub line-fits : LineFits most_names line
        unfolding AllFit
        line-fits =
            let whole : AllFit names (lines_from names page (p.count - (k - 1) + (k - 1)) 0) = rw (all_lines, everything) p.counted.fit in
            let own : AllFit names (line ∷ rest) = rw begins at (fit-within names page (k - 1) (p.count - (k - 1)) whole) in
            line-fits-most names p.counted.few_variables p.counted.few_behind p.counted.few_arrays line own.0

        module _ (n : ℕ) (counted : n ≡ line_rows line) where
          pub row_low : base - n + 2 < 65536
          row_low = omega (arith, p.placed, p.counted.few)

          pub row_inside : 6 * (base - n) ≤ length rows
          row_inside = omega (arith, p.placed, p.counted.room, p.long)

          pub line-room : Room (line_rows line) (base - n) (length (part (6 * (base - n)) rows))
          line-room = record {
            inside = rw (part-is (6 * (base - n)) rows, length-drop) (omega (arith, rows-left, p.placed, p.counted.room, p.long));
            low = omega (arith, rows-left, p.placed, p.counted.few);
          }

          pub passing-next : (out : List ℤ) (first second : ℕ) (others : List ℕ) (deeper : ℕ) (goes : Bool)
              → out ≡ over (line_table sizes line (base - n) (record { follows = follows; waiting = first ∷ second ∷ [] })) (part (6 * (base - n)) rows)
              → first ≡ get_or (stack_of depth waiting) 0 0 → second ≡ get_or (stack_of depth waiting) 1 0
              → record { follows = goes; waiting = stack_of deeper others } ≡ left_before line (base - n) (record { follows = follows; waiting = stack_of depth waiting }) → deeper ≤ depth + 1
              → Passing names sizes page total old (back_in (6 * (base - n)) rows out) others deeper goes (base - n) (k - 1)
          unfolding left_by lines_table
          passing-next out first second others deeper goes w f s l d =
              let now : Left = record { follows = follows; waiting = stack_of depth waiting } in
              let behind : base - n + line_rows line ≡ base = omega (arith, rows-left) in
              let held : now ≡ left_by rest (base - n + line_rows line) = p.left ∙ ap (left_by rest) (sym behind) in
              let own = line_table sizes line (base - n) (left_by rest (base - n + line_rows line)) in
              let said : line_table sizes line (base - n) (record { follows = follows; waiting = first ∷ second ∷ [] }) ≡ own =
              ap₂ (λ (x y : ℕ). line_table sizes line (base - n) (record { follows = follows; waiting = x ∷ y ∷ [] })) f s ∙ by_two sizes line (base - n) follows (stack_of depth waiting)
              ∙ ap (line_table sizes line (base - n)) held in
              let own-words : out ≡ over own (part (6 * (base - n)) rows) = w ∙ ap (λ (t : List ℤ). over t (part (6 * (base - n)) rows)) said in
              let size : length own ≡ 6 * line_rows line = length-line sizes line (base - n) (left_by rest (base - n + line_rows line)) in
              let end : 6 * (base - n) + length own ≡ 6 * base = omega (arith, size, behind) in
              let room = line-room.inside in
              let span : length (part (6 * (base - n)) rows) ≡ length rows - 6 * (base - n) = ap length (part-is (6 * (base - n)) rows) ∙ length-drop (6 * (base - n)) rows in
              record {
                counted = p.counted;
                count = p.count;
                all = p.all;
                inside = omega (arith, p.inside);
                deep = omega (arith, p.deep);
                placed = rw begins (omega (arith, p.placed, behind));
                left = rw begins (l ∙ ap (left_before line (base - n)) held);
                words = rw begins
                    (put-behind (6 * (base - n)) own rows out row_inside own-words ∙ ap (λ (m : ℕ). own ++ drop m rows) end
                    ∙ ap (λ (t : List ℤ). own ++ t) (p.words ∙ ap (λ (b : ℕ). lines_table sizes rest b ++ drop (6 * total) old) (sym behind))
                    ∙ sym (append_assoc own (lines_table sizes rest (base - n + line_rows line)) (drop (6 * total) old)));
                long = back_long (6 * (base - n)) own rows out row_inside own-words (omega (arith, size, room, span)) ∙ p.long;
              }
