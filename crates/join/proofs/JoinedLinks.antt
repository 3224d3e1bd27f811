-- Links of the joined rows: which word links which row. Each row but row 0 is linked once, and the items of a list are those of before.
use Rattle.std.specs.Prelude.{◌≡◌, refl, true, false, List, ℤ}
use Rattle.std.proofs.Math.Path.{sym, subst}
use Rattle.std.proofs.Common.{◌∙◌, ap, ne_eqb}
use Prim.Native.Nat.{ℕ, zero, suc, ◌+◌, ◌*◌, ◌/◌, ◌%◌, ◌≤◌, ◌<◌}
use native.Mathlib.Omega.{arith}
use Rattle.std.proofs.Math.Decide.{ℕ_discrete}
use Rattle.std.proofs.Math.Arith.{lt_of_le-ne}
use Rattle.words.specs.Laws.{by_cases}
use Rattle.words.specs.Table.{row_count}
use Rattle.words.specs.Links.{link, target}
use Rattle.words.specs.declared.Form.{Form}
use Rattle.check_grammar.specs.GrammarLaws.{kind-links-none, zero-links-none}
use Rattle.check_structure.specs.Links.{links_among, link_count}
use Rattle.check_structure.specs.LinkLaws.{word-of, links-hit, links-miss, owner_of}
use Rattle.check_structure.specs.Structured.{Leads, Structured}
use Rattle.check_fields.specs.declared.Bounds.{Bounds}
use Rattle.check_function_causes.specs.Functions.{is_definition}
use Rattle.check_function_causes.specs.Demands.{InFront, foremost, behind}
use Rattle.check_function_causes.proofs.FrontLaws.{front-defines, front-inside}
use Rattle.join.specs.Join.{first_item, joined_rows}
use Rattle.join.specs.Moved.{at_seam, InOrder, moved_link, Holds}
use Rattle.join.proofs.Fronts.{Seam, first-of-root, next-of-root, next-of-definition, seam-is, Front, empty, ending}
use Rattle.join.proofs.Kept.{Ordered, definition-some, end_of_front, seam-links, first_inside}
use Rattle.join.proofs.MovedLaws.{Earlier, moved-some, moved_back, link-leads, link-back}
use Rattle.join.proofs.Placements.{place-apart, front-definition, front-behind}
use Rattle.join.proofs.JoinedRows.{of_first, of_second, first_place, second_place, first-stands, second-stands, programs-apart}
use Rattle.join.proofs.JoinedSeams.{ordered-first, ordered-second, whole_first, whole_second, count, holds-first, holds-second, every-row, outer-first, outer-rest, block-seam, no-seam, items-of-first, items-of-second, next-of-first, next-of-second, behind-first, behind-second}
use Rattle.join.proofs.Linkers.{front_word, new_linker, linker-root, linker-item, linker-kept, linker-front, end_word, end-head, end-definition}

-- ---- a row that one word links is linked once

links-none : (rows : List ℤ) (words row : ℕ) → ((k : ℕ) → k < words → target rows k ≡ row → ⊥) → links_among rows words row ≡ 0
unfolding links_among
links-none rows zero row n = refl
links-none rows (suc words) row n = links-miss rows words row (n words (omega arith)) ∙ links-none rows words row (λ k b. n k (omega arith))

pub links-one : (rows : List ℤ) (words word row : ℕ) → word < words → target rows word ≡ row → ((k : ℕ) → k < words → target rows k ≡ row → k ≡ word) → links_among rows words row ≡ 1
links-one rows zero word row b e only = absurd (omega arith)
links-one rows (suc words) word row b e only = go (ℕ_discrete words word) (λ below. links-one rows words word row below e (λ k l t. only k (omega arith) t))
  where
    go : Dec (words ≡ word) → (word < words → links_among rows words row ≡ 1) → links_among rows (suc words) row ≡ 1
    go (yes q) earlier =
        let hit = links-hit rows words row (rw q e) in
        let none = links-none rows words row (λ k l t. let same = only k (omega arith) t in omega arith) in
        omega arith
    go (no q) earlier = links-miss rows words row (λ t. q (only words (omega arith) t)) ∙ earlier (lt_of_le-ne (omega arith) (λ (z : word ≡ words). q (sym z)))

module _ {form : Form} {bounds : Bounds} (first second : List ℤ) (s : Structured form bounds first) (z : Structured form bounds second) (p : InOrder first) (q : InOrder second) where
  abbrev joined : List ℤ
  joined = joined_rows first second

  abbrev ρ : ℕ → ℕ
  ρ = first_place first second

  abbrev ρ' : ℕ → ℕ
  ρ' = second_place first second

  o : Ordered first
  o = ordered-first first second s z p q

  o' : Ordered second
  o' = ordered-second first second s z p q

  h : Holds joined first ρ (λ f. (of_first first second).functions + f)
  h = holds-first first second s z p q

  h' : Holds joined second ρ' (λ f. (of_second first second).functions + f)
  h' = holds-second first second s z p q

  -- ---- which word links which row

  -- The words that link the rows 0: the end of the second's front, whose head is the end of the first's; and the next of the first's block.
  root_word : ℕ
  root_word = end_word o' ρ' (end_word o ρ 1 0 (end_of_front o)) 0 (end_of_front o')

  abbrev linker_of : ℕ → ℕ
  linker_of = new_linker o ρ 1 root_word

  abbrev linker_of' : ℕ → ℕ
  linker_of' = new_linker o' ρ' (end_word o ρ 1 0 (end_of_front o)) (6 * ρ 0 + 5)

  data LinkOf (word place : ℕ) : Type 0 where
    in_first : (row : ℕ) → row < row_count first → place ≡ ρ row → word ≡ linker_of row → LinkOf word place
    in_second : (row : ℕ) → row < row_count second → place ≡ ρ' row → word ≡ linker_of' row → LinkOf word place

  -- what the end of the first's front links
  behind-linked : (word : ℕ) → word ≡ end_word o ρ 1 0 (end_of_front o) → LinkOf word (of_first first second).behind
  unfolding root_word
  behind-linked word e =
      by_cases (is_definition second (link second 0 1))
      (λ d. let leads = o'.tree.forward 0 1 o'.tree.some_rows (omega arith) (definition-some o' (link second 0 1) d) in
      in_second (link second 0 1) leads.inside (behind-first first second s z p q ∙ front-definition (of_second first second) second (link second 0 1) d)
      (e ∙ sym (linker-front o' ρ' (end_word o ρ 1 0 (end_of_front o)) (6 * ρ 0 + 5) 0 1 (omega arith) leads d)))
      (λ d. in_first 0 o.tree.some_rows (behind-first first second s z p q ∙ front-behind (of_second first second) second (link second 0 1) d ∙ behind-second first second s z p q)
      (e ∙ end-head o' ρ' (end_word o ρ 1 0 (end_of_front o)) 0 (end_of_front o') d ∙ sym (linker-root o ρ 1 root_word)))

  front-word : (row : ℕ) → 0 < row → front_word o ρ 1 root_word row ≡ 6 * ρ row + 5
  front-word row some = rw (ne_eqb row 0 (λ e. omega arith))

  front-word' : (row : ℕ) → 0 < row → front_word o' ρ' (end_word o ρ 1 0 (end_of_front o)) (6 * ρ 0 + 5) row ≡ 6 * ρ' row + 5
  front-word' row some = rw (ne_eqb row 0 (λ e. omega arith))

  outer-linked : LinkOf 1 (link joined 0 1)
  outer-linked =
      let to = outer-first first second s z p q in
      by_cases (is_definition first (link first 0 1))
      (λ d. let leads = o.tree.forward 0 1 o.tree.some_rows (omega arith) (definition-some o (link first 0 1) d) in
      in_first (link first 0 1) leads.inside (to ∙ front-definition (of_first first second) first (link first 0 1) d) (sym (linker-front o ρ 1 root_word 0 1 (omega arith) leads d)))
      (λ d. subst (LinkOf 1) (sym (to ∙ front-behind (of_first first second) first (link first 0 1) d)) (behind-linked 1 (end-head o ρ 1 0 (end_of_front o) d)))

  -- words at the seam of the first
  item-linked : 0 < link joined (ρ 0) 1 → LinkOf (6 * ρ 0 + 1) (link joined (ρ 0) 1)
  item-linked c =
      let to = items-of-first first second s z p q in
      let some = moved_back ρ (first_item first) (rw to at c) in
      in_first (first_item first) (first_inside o some) (to ∙ moved-some ρ (first_item first) some) (sym (linker-item o ρ 1 root_word some))

  definition-linked : (row : ℕ) → row < row_count first → is_definition first row ≡ true → LinkOf (6 * ρ row + 5) (link joined (ρ row) 5)
  definition-linked row n d =
      let to = next-of-first first second s z p q row n d in
      by_cases (is_definition first (link first row 5))
      (λ e. let leads = o.tree.forward row 5 n (omega arith) (definition-some o (link first row 5) e) in
      in_first (link first row 5) leads.inside (to ∙ front-definition (of_first first second) first (link first row 5) e)
      (sym (linker-front o ρ 1 root_word row 5 (omega arith) leads e ∙ front-word row (definition-some o row d))))
      (λ e. subst (LinkOf (6 * ρ row + 5)) (sym (to ∙ front-behind (of_first first second) first (link first row 5) e)) (behind-linked (6 * ρ row + 5) (end-definition o ρ 1 0 (end_of_front o) row n d e)))

  -- of the second
  item-linked' : 0 < link joined (ρ' 0) 1 → LinkOf (6 * ρ' 0 + 1) (link joined (ρ' 0) 1)
  item-linked' c =
      let to = items-of-second first second s z p q in
      let some = moved_back ρ' (first_item second) (rw to at c) in
      in_second (first_item second) (first_inside o' some) (to ∙ moved-some ρ' (first_item second) some) (sym (linker-item o' ρ' (end_word o ρ 1 0 (end_of_front o)) (6 * ρ 0 + 5) some))

  definition-linked' : (row : ℕ) → row < row_count second → is_definition second row ≡ true → LinkOf (6 * ρ' row + 5) (link joined (ρ' row) 5)
  unfolding root_word
  definition-linked' row n d =
      let to = next-of-second first second s z p q row n d in
      by_cases (is_definition second (link second row 5))
      (λ e. let leads = o'.tree.forward row 5 n (omega arith) (definition-some o' (link second row 5) e) in
      in_second (link second row 5) leads.inside (to ∙ front-definition (of_second first second) second (link second row 5) e)
      (sym (linker-front o' ρ' (end_word o ρ 1 0 (end_of_front o)) (6 * ρ 0 + 5) row 5 (omega arith) leads e ∙ front-word' row (definition-some o' row d))))
      (λ e. in_first 0 o.tree.some_rows (to ∙ front-behind (of_second first second) second (link second row 5) e ∙ behind-second first second s z p q)
      (end-definition o' ρ' (end_word o ρ 1 0 (end_of_front o)) 0 (end_of_front o') row n d e ∙ sym (linker-root o ρ 1 root_word)))

  links-are : (row : ℕ) → row < row_count joined → (field : ℕ) → 1 ≤ field → field < 6 → 0 < link joined row field → LinkOf (6 * row + field) (link joined row field)
  links-are = every-row first second s z p q (λ row. (field : ℕ) → 1 ≤ field → field < 6 → 0 < link joined row field → LinkOf (6 * row + field) (link joined row field)) outer of_the_first of_the_second
    where
      outer : (field : ℕ) → 1 ≤ field → field < 6 → 0 < link joined 0 field → LinkOf (6 * 0 + field) (link joined 0 field)
      outer zero least most some = absurd (omega arith)
      outer (suc zero) least most some = outer-linked
      outer (suc (suc field)) least most some = absurd (let none = zero-links-none joined 0 (suc (suc field)) (outer-rest first second s z p q (suc (suc field)) (omega arith) most) in omega arith)

      at-seam : (r field : ℕ) → r < row_count first → 0 < link joined (ρ r) field → Seam first r field → LinkOf (6 * ρ r + field) (link joined (ρ r) field)
      at-seam r field n some (first-of-root a b) = let there : 0 < link joined (ρ 0) 1 = (rw (a, b) at some) in rw (a, b) (item-linked there)
      at-seam r field n some (next-of-root a b) = rw (a, b) (in_second 0 o'.tree.some_rows (block-seam first second s z p q) (sym (linker-root o' ρ' (end_word o ρ 1 0 (end_of_front o)) (6 * ρ 0 + 5))))
      at-seam r field n some (next-of-definition d b) = rw b (definition-linked r n d)

      at-seam' : (r field : ℕ) → r < row_count second → 0 < link joined (ρ' r) field → Seam second r field → LinkOf (6 * ρ' r + field) (link joined (ρ' r) field)
      at-seam' r field n some (first-of-root a b) = let there : 0 < link joined (ρ' 0) 1 = (rw (a, b) at some) in rw (a, b) (item-linked' there)
      at-seam' r field n some (next-of-root a b) = absurd (let there : 0 < link joined (ρ' 0) 5 = (rw (a, b) at some) in let none = no-seam first second s z p q in omega arith)
      at-seam' r field n some (next-of-definition d b) = rw b (definition-linked' r n d)

      of_the_first : (r : ℕ) → r < row_count first → (field : ℕ) → 1 ≤ field → field < 6 → 0 < link joined (ρ r) field → LinkOf (6 * ρ r + field) (link joined (ρ r) field)
      of_the_first r n field least most some =
          by_cases (at_seam first r field) (λ e. at-seam r field n some (seam-is first r field e))
          (λ e. let leads = link-back s h r field n least most e some in
          in_first (link first r field) leads.inside (link-leads h r field most leads e) (sym (linker-kept o ρ 1 root_word r field most leads e)))

      of_the_second : (r : ℕ) → r < row_count second → (field : ℕ) → 1 ≤ field → field < 6 → 0 < link joined (ρ' r) field → LinkOf (6 * ρ' r + field) (link joined (ρ' r) field)
      of_the_second r n field least most some =
          by_cases (at_seam second r field) (λ e. at-seam' r field n some (seam-is second r field e))
          (λ e. let leads = link-back z h' r field n least most e some in
          in_second (link second r field) leads.inside (link-leads h' r field most leads e) (sym (linker-kept o' ρ' (end_word o ρ 1 0 (end_of_front o)) (6 * ρ 0 + 5) r field most leads e)))

  same-word : {word other place : ℕ} → LinkOf word place → LinkOf other place → word ≡ other
  same-word (in_first r n a b) (in_first t m c d) =
      let same = place-apart (of_first first second) first (first-stands first second (whole_first first second s z p q) (whole_second first second s z p q)).above r t n m (sym a ∙ c) in b ∙ ap linker_of same ∙ sym d
  same-word (in_first r n a b) (in_second t m c d) = absurd (programs-apart first second (whole_first first second s z p q) (whole_second first second s z p q) r t n m (sym a ∙ c))
  same-word (in_second r n a b) (in_first t m c d) = absurd (programs-apart first second (whole_first first second s z p q) (whole_second first second s z p q) t r m n (sym c ∙ a))
  same-word (in_second r n a b) (in_second t m c d) =
      let same = place-apart (of_second first second) second (second-stands first second (whole_first first second s z p q) (whole_second first second s z p q)).above r t n m (sym a ∙ c) in b ∙ ap linker_of' same ∙ sym d

  word-links : (word : ℕ) → word < 6 * row_count joined → 0 < target joined word → LinkOf word (target joined word)
  unfolding target
  word-links word b c = subst (λ (w : ℕ). LinkOf w (link joined (word / 6) (word % 6))) (let e : 6 * (word / 6) + word % 6 ≡ word = omega arith in e)
      (links-are (word / 6) (omega arith) (word % 6) (some (word % 6) c) (omega arith) c)
    where
      some : (field : ℕ) → 0 < link joined (word / 6) field → 1 ≤ field
      some zero c = absurd (let none = kind-links-none joined (word / 6) in omega arith)
      some (suc field) c = omega arith

  -- ---- every row but row 0 is linked

  record Linked (place : ℕ) : Type 0 where
    row : ℕ
    field : ℕ
    inside : row < row_count joined
    most : field < 6
    is : link joined row field ≡ place

  -- by the end of the first's front, and by that of the second's
  behind-from : Linked (of_first first second).behind
  behind-from = go (end_of_front o)
    where
      go : Front first → Linked (of_first first second).behind
      go (empty d) =
          let c = count first second s z p q in
          record { row = 0; field = 1; inside = omega arith; most = omega arith; is = outer-first first second s z p q ∙ front-behind (of_first first second) first (link first 0 1) d }
      go (ending {row} f last) =
          let n = front-inside first f in
          record { row = ρ row; field = 5; inside = h.inside row n; most = omega arith; is = next-of-first first second s z p q row n (front-defines first f) ∙ front-behind (of_first first second) first (link first row 5) last }

  root-from : Linked (ρ 0)
  root-from = go (end_of_front o')
    where
      go : Front second → Linked (ρ 0)
      go (empty d) = subst Linked (behind-first first second s z p q ∙ front-behind (of_second first second) second (link second 0 1) d ∙ behind-second first second s z p q) behind-from
      go (ending {row} f last) =
          let n = front-inside second f in
          record { row = ρ' row; field = 5; inside = h'.inside row n; most = omega arith; is = next-of-second first second s z p q row n (front-defines second f) ∙ front-behind (of_second first second) second (link second row 5) last ∙ behind-second first second s z p q }

  front-from : {row place : ℕ} → InFront first row place → Linked (ρ row)
  front-from (foremost leads d) =
      let c = count first second s z p q in
      record { row = 0; field = 1; inside = omega arith; most = omega arith; is = outer-first first second s z p q ∙ front-definition (of_first first second) first (link first 0 1) d }
  front-from (behind {row} f leads d) =
      let n = front-inside first f in
      record { row = ρ row; field = 5; inside = h.inside row n; most = omega arith; is = next-of-first first second s z p q row n (front-defines first f) ∙ front-definition (of_first first second) first (link first row 5) d }

  front-from' : {row place : ℕ} → InFront second row place → Linked (ρ' row)
  front-from' (foremost leads d) = subst Linked (behind-first first second s z p q ∙ front-definition (of_second first second) second (link second 0 1) d) behind-from
  front-from' (behind {row} f leads d) =
      let n = front-inside second f in
      record { row = ρ' row; field = 5; inside = h'.inside row n; most = omega arith; is = next-of-second first second s z p q row n (front-defines second f) ∙ front-definition (of_second first second) second (link second row 5) d }

  first-from : (row : ℕ) → row < row_count first → Linked (ρ row)
  first-from zero n = root-from
  first-from (suc row) n =
      by_cases (is_definition first (suc row)) (λ d. front-from (o.in_order n d))
      (λ d. let w = owner_of first o.tree (suc row) (omega arith) n in let e = w.earlier in
      by_cases (at_seam first w.owner w.field)
      (λ k. let item = sym w.is ∙ seam-links o w.owner w.field w.leads k (rw w.is d) in
      record { row = ρ 0; field = 1; inside = h.inside 0 o.tree.some_rows; most = omega arith; is = items-of-first first second s z p q ∙ ap (moved_link ρ) (sym item) })
      (λ k. record { row = ρ w.owner; field = w.field; inside = h.inside w.owner (omega arith); most = w.last; is = link-leads h w.owner w.field w.last w.leads k ∙ ap ρ w.is }))

  second_from : (row : ℕ) → row < row_count second → Linked (ρ' row)
  second_from zero n = record { row = ρ 0; field = 5; inside = h.inside 0 o.tree.some_rows; most = omega arith; is = block-seam first second s z p q }
  second_from (suc row) n =
      by_cases (is_definition second (suc row)) (λ d. front-from' (o'.in_order n d))
      (λ d. let w = owner_of second o'.tree (suc row) (omega arith) n in let e = w.earlier in
      by_cases (at_seam second w.owner w.field)
      (λ k. let item = sym w.is ∙ seam-links o' w.owner w.field w.leads k (rw w.is d) in
      record { row = ρ' 0; field = 1; inside = h'.inside 0 o'.tree.some_rows; most = omega arith; is = items-of-second first second s z p q ∙ ap (moved_link ρ') (sym item) })
      (λ k. record { row = ρ' w.owner; field = w.field; inside = h'.inside w.owner (omega arith); most = w.last; is = link-leads h' w.owner w.field w.last w.leads k ∙ ap ρ' w.is }))

  -- a row that some word links is linked once
  linked-once : (place : ℕ) → 0 < place → Linked place → link_count joined place ≡ 1
  unfolding link_count target
  linked-once place c l =
      let row = l.row in
      let field = l.field in
      let n = l.inside in
      let f = l.most in
      let w = word-of l.row l.field l.most in
      let is : target joined (6 * l.row + l.field) ≡ place = rw (w.0, w.1) l.is in
      links-one joined (6 * row_count joined) (6 * l.row + l.field) place (omega arith) is
      (λ k b t. same-word (subst (LinkOf k) t (word-links k b (rw t c))) (subst (LinkOf (6 * l.row + l.field)) is (word-links (6 * l.row + l.field) (omega arith) (rw is c))))

  -- "every other row is linked exactly once"
  pub joined_once : (row : ℕ) → row < row_count joined → 0 < row → link_count joined row ≡ 1
  joined_once =
      every-row first second s z p q (λ row. 0 < row → link_count joined row ≡ 1) (λ c. absurd (omega arith))
      (λ r n c. linked-once (ρ r) c (first-from r n)) (λ r n c. linked-once (ρ' r) c (second_from r n))

  -- ---- the item before a row, in its own part

  pub back-first : (row item : ℕ) → 0 < row → row < row_count first → is_definition first row ≡ false → Leads joined item 5 → link joined item 5 ≡ ρ row → Earlier first ρ row item
  back-first row item some n d leads e = let l = leads.later in let i = leads.inside in go (links-are item (omega arith) 5 (omega arith) (omega arith) (omega arith))
    where
      old : 6 * item + 5 ≡ linker_of row → Earlier first ρ row item
      old is =
          let w = owner_of first o.tree row some n in
          by_cases (at_seam first w.owner w.field)
          (λ k. let item = seam-links o w.owner w.field w.leads k (rw w.is d) in
          absurd (let new = ap linker_of (sym w.is ∙ item) ∙ linker-item o ρ 1 root_word (rw (sym item, w.is) some) in omega arith))
          (λ k. let f = w.last in let new = ap linker_of (sym w.is) ∙ linker-kept o ρ 1 root_word w.owner w.field w.last w.leads k in
          let five : w.field ≡ 5 = omega arith in
          record { old = w.owner; is = omega arith; leads = rw five at w.leads; kept = rw five at k; to = rw five at w.is })

      go : LinkOf (6 * item + 5) (link joined item 5) → Earlier first ρ row item
      go (in_first r m a b) = old (b ∙ ap linker_of (sym (place-apart (of_first first second) first (first-stands first second (whole_first first second s z p q) (whole_second first second s z p q)).above row r n m (sym e ∙ a))))
      go (in_second r m a b) = absurd (programs-apart first second (whole_first first second s z p q) (whole_second first second s z p q) row r n m (sym e ∙ a))

  pub back-second : (row item : ℕ) → 0 < row → row < row_count second → is_definition second row ≡ false → Leads joined item 5 → link joined item 5 ≡ ρ' row → Earlier second ρ' row item
  back-second row item some n d leads e = let l = leads.later in let i = leads.inside in go (links-are item (omega arith) 5 (omega arith) (omega arith) (omega arith))
    where
      old : 6 * item + 5 ≡ linker_of' row → Earlier second ρ' row item
      old is =
          let w = owner_of second o'.tree row some n in
          by_cases (at_seam second w.owner w.field)
          (λ k. let item = seam-links o' w.owner w.field w.leads k (rw w.is d) in
          absurd (let new = ap linker_of' (sym w.is ∙ item) ∙ linker-item o' ρ' (end_word o ρ 1 0 (end_of_front o)) (6 * ρ 0 + 5) (rw (sym item, w.is) some) in omega arith))
          (λ k. let f = w.last in let new = ap linker_of' (sym w.is) ∙ linker-kept o' ρ' (end_word o ρ 1 0 (end_of_front o)) (6 * ρ 0 + 5) w.owner w.field w.last w.leads k in
          let five : w.field ≡ 5 = omega arith in
          record { old = w.owner; is = omega arith; leads = rw five at w.leads; kept = rw five at k; to = rw five at w.is })

      go : LinkOf (6 * item + 5) (link joined item 5) → Earlier second ρ' row item
      go (in_first r m a b) = absurd (programs-apart first second (whole_first first second s z p q) (whole_second first second s z p q) r row m n (sym a ∙ e))
      go (in_second r m a b) = old (b ∙ ap linker_of' (sym (place-apart (of_second first second) second (second-stands first second (whole_first first second s z p q) (whole_second first second s z p q)).above row r n m (sym e ∙ a))))
