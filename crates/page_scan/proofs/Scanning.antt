-- What is known of a page when so many of its lines are done: the scan is what it comes to from there on.
use Rattle.std.specs.Prelude.{Err, None, Result, Some, Option}
use mathlib.Core.Path.{◌≡◌, refl, sym, ap, ◌∙◌}
use mathlib.Core.Bool.{Bool}
use mathlib.Core.List.{List, []}
use Prim.Native.Nat.{ℕ, zero, suc, ◌+◌, ◌*◌, ◌-◌, ◌/◌, ◌≤◌, ◌<◌, min}
use native.Mathlib.Omega.{arith}
use lib.Dec.{eqb}
use lib.ListN.{length, take, drop, length-take, length-drop}
use Rattle.page_words.specs.declared.Names.{Names}
use Rattle.page_words.specs.declared.LineContent.{LineContent}
use Rattle.page_frame.specs.Frames.{line_in}
use Rattle.page_blocks.specs.Blocks.{Open, outside, behind, onward}
use Rattle.page_blocks.specs.Scans.{line_rows, ended, stepped, scan_from, scan}
use Rattle.page_scan.specs.Stacks.{stack_of, blocks_of, open_of, end_of}
use Rattle.page_scan.specs.declared.blocks.Among.{Among}
use Rattle.page_scan.specs.declared.blocks.Among.TheVariants.{Items}
use Rattle.page_scan.specs.StackLaws.{level-is, end_is}

pub record Scanning (names : Names) (page : List ℕ) (count : ℕ) (flags : List ℕ) (among : Among) (depth rows k : ℕ) : Type 0 where
  pub inside : k ≤ count
  pub whole : 81 * count ≤ length page
  pub few : count ≤ 81958
  pub deep : depth ≤ k
  pub low : rows ≤ 1 + 6 * k
  pub same : scan names page ≡ scan_from names page (count - k) k (open_of among depth flags) rows

pub slice-long : (page : List ℕ) (k : ℕ) → 81 * k + 81 ≤ length page → length (take (81 * k + 81 - 81 * k) (drop (81 * k) page)) ≡ 81
slice-long page k h = length-take (81 * k + 81 - 81 * k) (drop (81 * k) page) ∙ omega (arith, length-drop (81 * k) page)

pub scanning-start : (names : Names) (page : List ℕ) (count : ℕ) (flags : List ℕ) → count ≡ min (length page / 81) 81958 → Scanning names page count flags Items 0 1 0
unfolding scan blocks_of stack_of
scanning-start names page count flags e =
    let all : min (length page / 81) 81958 ≡ count - 0 = omega arith in
    record { inside = omega arith; whole = omega arith; few = omega arith; deep = omega arith; low = omega arith; same = ap (λ (n : ℕ). scan_from names page n 0 (outside []) 1) all }

module _ {names : Names} {page : List ℕ} {count : ℕ} {flags : List ℕ} {among : Among} {depth rows k : ℕ} (s : Scanning names page count flags among depth rows k) where
  pub scanning-end : count ≤ k → end_of (eqb (81 * k) (length page)) among depth rows (k + 1) ≡ scan names page
  unfolding scan_from
  scanning-end h =
      let none_left : count - k ≡ 0 = omega arith in
      end_is (eqb (81 * k) (length page)) among depth rows (k + 1) flags ∙ sym (s.same ∙ ap (λ (n : ℕ). scan_from names page n k (open_of among depth flags) rows) none_left)

  module _ (more : k < count) where
    abbrev onwards : LineContent → Open → Result ℕ ℕ
    onwards line a = scan_from names page (count - (k + 1)) (k + 1) a (rows + line_rows line)

    unrolled : scan names page ≡ stepped (line_in names (k + 1) depth (take 81 (drop (81 * k) page))) (k + 1) (open_of among depth flags) onwards
    unfolding scan_from
    unrolled =
        let left : count - k ≡ suc (count - (k + 1)) = omega arith in
        s.same ∙ ap (λ (n : ℕ). scan_from names page n k (open_of among depth flags) rows) left
        ∙ ap (λ (n : ℕ). stepped (line_in names (k + 1) n (take 81 (drop (81 * k) page))) (k + 1) (open_of among depth flags) onwards) (level-is among depth flags)

    module _ (read : Option LineContent) (e : read ≡ line_in names (k + 1) depth (take (81 * k + 81 - 81 * k) (drop (81 * k) page))) where
      by-line : scan names page ≡ stepped read (k + 1) (open_of among depth flags) onwards
      by-line =
          let size : 81 * k + 81 - 81 * k ≡ 81 = omega arith in
          unrolled ∙ ap (λ (r : Option LineContent). stepped r (k + 1) (open_of among depth flags) onwards) (sym (e ∙ ap (λ (n : ℕ). line_in names (k + 1) depth (take n (drop (81 * k) page))) size))

      pub wrong-line : read ≡ None → Err (k + 1) ≡ scan names page
      wrong-line q = sym (by-line ∙ ap (λ (r : Option LineContent). stepped r (k + 1) (open_of among depth flags) onwards) q)

      module _ (line : LineContent) (q : read ≡ Some line) where
        by-block : scan names page ≡ onward (Err (k + 1)) (onwards line) (behind line (open_of among depth flags))
        by-block = by-line ∙ ap (λ (r : Option LineContent). stepped r (k + 1) (open_of among depth flags) onwards) q

        pub wrong-block : None ≡ behind line (open_of among depth flags) → Err (k + 1) ≡ scan names page
        wrong-block b = sym (by-block ∙ ap (onward (Err (k + 1)) (onwards line)) (sym b))

        pub scanning-next : (others : List ℕ) (standing : Among) (deeper more-rows : ℕ) → Some (open_of standing deeper others) ≡ behind line (open_of among depth flags) → deeper ≤ depth + 1 → more-rows ≡ line_rows line → more-rows ≤ 6
            → Scanning names page count others standing deeper (rows + more-rows) (k + 1)
        scanning-next others standing deeper more-rows b d r few = record {
          inside = omega arith;
          whole = s.whole;
          few = s.few;
          deep = omega (arith, s.deep);
          low = omega (arith, s.low);
          same = by-block ∙ ap (onward (Err (k + 1)) (onwards line)) (sym b) ∙ ap (λ (n : ℕ). scan_from names page (count - (k + 1)) (k + 1) (open_of standing deeper others) (rows + n)) (sym r);
        }
