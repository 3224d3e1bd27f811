-- Laws of printed lines: the bytes of a line, and lines behind others.
use Rattle.std.specs.Prelude.{◌≡◌, refl, ℕ, zero, suc, ◌+◌, ◌*◌, ◌-◌, ◌≤◌, ◌<◌}
use Rattle.std.proofs.Common.{sym, ap, add-one}
use mathlib.Core.List.{List, [], ◌∷◌, ◌++◌, append_assoc, append-nil}
use native.Mathlib.Omega.{arith}
use Rattle.std.proofs.Math.ListN.{length, length-append}
use Rattle.text_numbers.specs.Number.{digits}
use Rattle.text_numbers.specs.PutLaws.{digits-within}
use Rattle.page.specs.declared.Sizes.{Sizes}
use Rattle.page.specs.Lines.{PageLine, Indented, indented}
use Rattle.page.specs.Page.{blank, blanks, parted, right_set, padded, indent, line_words, line_bytes, lines_bytes}
use Rattle.page.proofs.Widths.{length-blanks, length-set}
use Rattle.page_line.specs.Laid.{Laid}
use Rattle.page_line.specs.LaidLaws.{laid_none, laid_next, laid_as, laid-to}
use Rattle.page_line.specs.Printed.{Printed}

-- one blank more
pub blanks-more : (n : ℕ) → blanks n ++ (blank ∷ []) ≡ blanks (n + 1)
unfolding blanks
blanks-more zero = refl
blanks-more (suc n) = let e : suc n + 1 ≡ suc (n + 1) = omega arith in rw e (ap (λ (l : List ℕ). blank ∷ l) (blanks-more n))

-- a line's number takes five columns
pub number-five : (number : ℕ) → number < 100000 → length (right_set 5 (digits number)) ≡ 5
number-five number h = length-set 5 (digits number) (digits-within 4 number (omega arith))

module _ (sizes : Sizes) where
  lines-append : (number : ℕ) (xs ys : List Indented) → lines_bytes sizes number (xs ++ ys) ≡ lines_bytes sizes number xs ++ lines_bytes sizes (number + length xs) ys
  unfolding lines_bytes
  lines-append number [] ys = let e : number + 0 ≡ number = omega arith in rw e
  lines-append number (x ∷ xs) ys =
      let e : number + length (x ∷ xs) ≡ number + 1 + length xs = omega arith in
      rw (e, lines-append (number + 1) xs ys, append_assoc (line_bytes sizes number x))

  -- the pieces of a line, in their order
  module _ (number level : ℕ) (line : PageLine) (few : number < 100000) (rest : ℕ) where
    abbrev said : List ℕ
    said = parted (line_words sizes line)

    pub line-pieces : rest + (6 + indent level + length said) ≡ 80
        → right_set 5 (digits number) ++ (blanks (indent level + 1) ++ (said ++ (blanks rest ++ (10 ∷ [])))) ≡ lines_bytes sizes number (indented level line ∷ [])
    unfolding lines_bytes line_bytes padded blanks
    line-pieces e =
        let whole = right_set 5 (digits number) ++ (blank ∷ (blanks (indent level) ++ said)) in
        let long : 80 - length whole ≡ rest =
        omega (arith, length-append (right_set 5 (digits number)) (blank ∷ (blanks (indent level) ++ said)), length-append (blanks (indent level)) said, length-blanks (indent level), number-five number few) in
        rw (long, add-one) (simp (append_assoc, append-nil))

module _ {sizes : Sizes} where
  pub printed-none : (page : List ℕ) (done : ℕ) → 81 * done ≤ length page → Printed sizes [] page done done page
  unfolding lines_bytes
  printed-none page done h = record { columns = refl; count = omega arith; laid = laid_none page (81 * done) h }

  pub printed-next : {xs ys : List Indented} {page left last : List ℕ} {done next end : ℕ} → Printed sizes xs page done next left → Printed sizes ys left next end last → Printed sizes (xs ++ ys) page done end last
  printed-next {xs} {ys} {page} {left} {last} {done} {next} {end} p q =
      let n : done + 1 + length xs ≡ next + 1 = omega (arith, p.count) in
      let e : lines_bytes sizes (done + 1) (xs ++ ys) ≡ lines_bytes sizes (done + 1) xs ++ lines_bytes sizes (next + 1) ys = rw (← n) (lines-append sizes (done + 1) xs ys) in
      record {
        columns = omega (arith, ap length e, length-append (lines_bytes sizes (done + 1) xs) (lines_bytes sizes (next + 1) ys), length-append xs ys, p.columns, q.columns);
        count = omega (arith, p.count, q.count, length-append xs ys);
        laid = laid_as (sym e) (laid_next p.laid q.laid);
      }

-- the pieces of a line, laid one after the other
pub line-printed : (sizes : Sizes) (done level rest end : ℕ) (line : PageLine) (page last : List ℕ) → done + 1 < 100000 → rest + (6 + indent level + length (parted (line_words sizes line))) ≡ 80
    → Laid (right_set 5 (digits (done + 1)) ++ (blanks (indent level + 1) ++ (parted (line_words sizes line) ++ (blanks rest ++ (10 ∷ []))))) page (81 * done) end last
    → Printed sizes (indented level line ∷ []) page done (done + 1) last
line-printed sizes done level rest end line page last few whole laid =
    let number = right_set 5 (digits (done + 1)) in
    let indent-blanks = blanks (indent level + 1) in
    let said = parted (line_words sizes line) in
    let rest-blanks = blanks rest ++ (10 ∷ []) in
    let e = line-pieces sizes (done + 1) level line few rest whole in
    let size : length (number ++ (indent-blanks ++ (said ++ rest-blanks))) ≡ 81 =
    omega (
      arith,
      length-append number (indent-blanks ++ (said ++ rest-blanks)),
      length-append indent-blanks (said ++ rest-blanks),
      length-append said rest-blanks,
      length-append (blanks rest) (10 ∷ []),
      length-blanks (indent level + 1),
      length-blanks rest,
      number-five (done + 1) few,
    ) in
    record {
      columns = omega (arith, ap length e, size);
      count = omega arith;
      laid = laid-to (omega (arith, laid.reached, size)) (laid_as e laid);
    }
