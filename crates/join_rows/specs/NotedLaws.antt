-- Laws of what is noted of both programs: it is all that their new rows ask, and with it both stand where they stand in their join.
use Rattle.std.specs.Prelude.{◌≡◌, List, ℕ, ◌+◌, ◌-◌, ◌≤◌, ◌<◌, ℤ}
use Rattle.std.proofs.Math.Path.{refl, ap}
use Rattle.std.proofs.Common.{◌∙◌, arith}
use Rattle.words.specs.Table.{row_count}
use Rattle.words.specs.Links.{link}
use Rattle.join.specs.Join.{functions_of, first_item, Placement, front_of, first_placement, second_placement}
use Rattle.join.proofs.JoinedRows.{rows-parts}
use Rattle.join_rows.specs.Parts.{Parts}
use Rattle.join_rows.specs.Standings.{placement_of, Ready, Noted, Standings}
use Rattle.join_rows.specs.declared.Standing.{Standing}

same-placement : (a b : Placement) → a.definitions ≡ b.definitions → a.others ≡ b.others → a.functions ≡ b.functions → a.behind ≡ b.behind → a.after ≡ b.after → a ≡ b
same-placement a b d o f e g =
    ap (λ (x : ℕ). record { definitions = x; others = a.others; functions = a.functions; behind = a.behind; after = a.after }) d
    ∙ ap (λ (x : ℕ). record { definitions = b.definitions; others = x; functions = a.functions; behind = a.behind; after = a.after }) o
    ∙ ap (λ (x : ℕ). record { definitions = b.definitions; others = b.others; functions = x; behind = a.behind; after = a.after }) f
    ∙ ap (λ (x : ℕ). record { definitions = b.definitions; others = b.others; functions = b.functions; behind = x; after = a.after }) e
    ∙ ap (λ (x : ℕ). record { definitions = b.definitions; others = b.others; functions = b.functions; behind = b.behind; after = x }) g

-- no more rows are of definitions than there are
pub noted-most : {rows : List ℤ} {around ranks : List ℕ} {definitions : ℕ} → Noted rows around ranks definitions → definitions ≤ row_count rows
noted-most {rows} n = let parts = rows-parts rows in let d = n.definitions_are in omega arith

-- Where the second stands, by what is counted of both.
pub record StandsSecond (first second : List ℤ) (definitions definitions' : ℕ) (s : Standing) : Type 0 where
  pub definitions_is : s.definitions ≡ 1 + definitions
  pub others_is : s.others ≡ 1 + definitions + definitions' + (row_count first - definitions)
  pub functions_is : s.functions ≡ functions_of first
  pub behind_is : s.behind ≡ 1 + definitions + definitions'
  pub after_is : s.after ≡ 0
  pub item_is : s.item ≡ first_item second

module _ {first second : List ℤ} (p : Parts first second) {around ranks around' ranks' : List ℕ} {definitions definitions' : ℕ} (n : Noted first around ranks definitions) (n' : Noted second around' ranks' definitions')
    {of_second : Standing} (s : StandsSecond first second definitions definitions' of_second) where
  pub second_is : placement_of of_second ≡ second_placement first second
  unfolding second_placement
  second_is =
      let d = n.definitions_are in
      let d' = n'.definitions_are in
      let parts = rows-parts first in
      let a = s.definitions_is in
      let b = s.others_is in
      let c = s.behind_is in
      same-placement (placement_of of_second) (second_placement first second) (omega arith) (omega arith) s.functions_is (omega arith) s.after_is

  pub second-ready : functions_of first < row_count first → first_item second < row_count second → Ready second around' ranks' of_second
  second-ready f i =
      let most = noted-most n in
      let most' = noted-most n' in
      let few = p.few_first in
      let few' = p.few_second in
      let a = s.definitions_is in
      let b = s.others_is in
      let c = s.behind_is in
      let g = s.functions_is in
      let h = s.after_is in
      let item = s.item_is in
      record {
        tree = p.tree_second;
        stands = n'.stands;
        ranked = n'.ranked;
        item_is = item;
        item_inside = omega arith;
        few = few';
        small = (omega arith, omega arith, omega arith, omega arith, omega arith);
        numbers = p.numbers_second;
      }

  -- The first, with the item of the new block behind its definitions.
  module _ (behind item : ℕ) (e : behind ≡ front_of (placement_of of_second) second (link second 0 1)) (below : behind < 65536) (i : item ≡ first_item first) (inside : item < row_count first) where
    abbrev pub stands_first : Standing
    stands_first = record { definitions = 1; others = of_second.behind; functions = 0; behind = behind; after = of_second.others; item = item }

    pub first-ready : Ready first around ranks stands_first
    first-ready =
        let most = noted-most n in
        let most' = noted-most n' in
        let few = p.few_first in
        let few' = p.few_second in
        let b = s.others_is in
        let c = s.behind_is in
        record {
          tree = p.tree_first;
          stands = n.stands;
          ranked = n.ranked;
          item_is = i;
          item_inside = inside;
          few = few;
          small = (omega arith, omega arith, omega arith, below, omega arith);
          numbers = p.numbers_first;
        }

    pub both-stand : Standings first second stands_first of_second
    unfolding first_placement
    both-stand =
        let is = second_is in
        record {
          first_is = same-placement (placement_of stands_first) (first_placement first second) refl (ap (λ (x : Placement). x.behind) is) refl (e ∙ ap (λ (x : Placement). front_of x second (link second 0 1)) is) (ap (λ (x : Placement). x.others) is);
          second_is = is;
        }
