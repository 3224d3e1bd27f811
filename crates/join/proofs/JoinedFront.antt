-- The front of a join: its new block begins with the definitions of both programs, in order, and then come their blocks. Words at the seam lead to later
-- rows.
use Rattle.std.specs.Prelude.{◌≡◌, true, List, ℕ, ◌+◌, ◌<◌, ℤ}
use Rattle.std.proofs.Common.{sym, ◌∙◌, subst, arith}
use Rattle.words.specs.Laws.{by_cases}
use Rattle.words.specs.Table.{row_count}
use Rattle.words.specs.Links.{link}
use Rattle.words.specs.declared.Form.{Form}
use Rattle.check_fields.specs.declared.Bounds.{Bounds}
use Rattle.check_structure.specs.Structured.{Leads, Structured}
use Rattle.check_function_causes.specs.Functions.{is_definition}
use Rattle.check_function_causes.specs.Demands.{InFront, foremost, behind}
use Rattle.check_function_causes.proofs.FrontLaws.{front-defines, front-inside}
use Rattle.join.specs.Join.{first_item, functions_of, joined_rows}
use Rattle.join.proofs.Fronts.{functions-none, functions-last, Front, empty, ending}
use Rattle.join.specs.Moved.{InOrder, Holds}
use Rattle.join.proofs.Kept.{Ordered, root-other, definition-of, definition-some, end_of_front, first_inside}
use Rattle.join.proofs.MovedLaws.{moved-some, moved_back, definition-held}
use Rattle.join.proofs.Placements.{place-grows, definition-least, other-least, front-definition, front-behind}
use Rattle.join.proofs.JoinedRows.{of_first, of_second, first_place, second_place, first-definitions, second-definitions, first-others, second-others}
use Rattle.join.proofs.JoinedSeams.{ordered-first, ordered-second, stands-first, stands-second, holds-first, holds-second, some-place, second-place, outer-first, root-of-first, root-of-second, block-seam, items-of-first, items-of-second, next-of-first, next-of-second, behind-first, behind-second}

-- ---- a front, by the rows that its words link

module _ {rows : List ℤ} where
  pub front-begins : (row : ℕ) → link rows 0 1 ≡ row → 0 < row → row < row_count rows → is_definition rows row ≡ true → InFront rows row 0
  front-begins row e some n d = subst (λ (x : ℕ). InFront rows x 0) e (foremost (record { later = omega arith; inside = omega arith }) (rw e d))

  pub front-goes-on : {row place : ℕ} → InFront rows row place → (next : ℕ) → link rows row 5 ≡ next → row < next → next < row_count rows → is_definition rows next ≡ true → InFront rows next (place + 1)
  front-goes-on {row} {place} f next e later n d = subst (λ (x : ℕ). InFront rows x (place + 1)) e (behind f (record { later = omega arith; inside = omega arith }) (rw e d))

module _ {form : Form} {bounds : Bounds} (first second : List ℤ) (s : Structured form bounds first) (z : Structured form bounds second) (p : InOrder first) (q : InOrder second) where
  abbrev joined : List ℤ
  joined = joined_rows first second

  abbrev ρ : ℕ → ℕ
  ρ = first_place first second

  abbrev ρ' : ℕ → ℕ
  ρ' = second_place first second

  o : Ordered first
  o = ordered-first first second s z p q

  o' : Ordered second
  o' = ordered-second first second s z p q

  h : Holds joined first ρ (λ f. (of_first first second).functions + f)
  h = holds-first first second s z p q

  h' : Holds joined second ρ' (λ f. (of_second first second).functions + f)
  h' = holds-second first second s z p q

  -- ---- what stands behind

  -- behind the first's definitions, in the table
  pub behind-first-inside : ((of_first first second).behind < row_count joined) × (0 < (of_first first second).behind)
  behind-first-inside =
      by_cases (is_definition second (link second 0 1))
      (λ d. let e = behind-first first second s z p q ∙ front-definition (of_second first second) second (link second 0 1) d in
      let leads = o'.tree.forward 0 1 o'.tree.some_rows (omega arith) (definition-some o' (link second 0 1) d) in
      let a = h'.inside (link second 0 1) leads.inside in let b = second-place first second s z p q (link second 0 1) leads.inside in (omega arith, omega arith))
      (λ d. let e = behind-first first second s z p q ∙ front-behind (of_second first second) second (link second 0 1) d ∙ behind-second first second s z p q in
      let a = h.inside 0 o.tree.some_rows in let b = some-place first second s z p q 0 o.tree.some_rows in (omega arith, omega arith))

  pub behind-first-later : (row : ℕ) → row < row_count first → is_definition first row ≡ true → ρ row < (of_first first second).behind
  behind-first-later row n d =
      let here = (definition-least (of_first first second) first (stands-first first second s z p q).above row n (definition-of o row d)).1 in
      let b = first-definitions first second in
      by_cases (is_definition second (link second 0 1))
      (λ c. let e = behind-first first second s z p q ∙ front-definition (of_second first second) second (link second 0 1) c in
      let leads = o'.tree.forward 0 1 o'.tree.some_rows (omega arith) (definition-some o' (link second 0 1) c) in
      let there = (definition-least (of_second first second) second (stands-second first second s z p q).above (link second 0 1) leads.inside (definition-of o' (link second 0 1) c)).0 in
      let f = second-definitions first second in omega arith)
      (λ c. let e = behind-first first second s z p q ∙ front-behind (of_second first second) second (link second 0 1) c ∙ behind-second first second s z p q ∙ root-of-first first second s z p q in
      let f = first-others first second in omega arith)

  pub behind-second-later : (row : ℕ) → row < row_count second → is_definition second row ≡ true → ρ' row < ρ 0
  behind-second-later row n d =
      let here = (definition-least (of_second first second) second (stands-second first second s z p q).above row n (definition-of o' row d)).1 in
      let b = second-definitions first second in
      let f = first-others first second in
      let r = root-of-first first second s z p q in
      omega arith

  pub blocks-later : ρ 0 < ρ' 0
  blocks-later =
      let a = root-of-first first second s z p q in let b = root-of-second first second s z p q in let c = first-others first second in let d = second-others first second in
      let here = (other-least (of_first first second) first (stands-first first second s z p q).above 0 o.tree.some_rows (root-other o)).1 in
      omega arith

  -- ---- links at the seam lead to later rows

  pub outer-leads : Leads joined 0 1
  outer-leads =
      let to = outer-first first second s z p q in
      by_cases (is_definition first (link first 0 1))
      (λ d. let e = to ∙ front-definition (of_first first second) first (link first 0 1) d in
      let leads = o.tree.forward 0 1 o.tree.some_rows (omega arith) (definition-some o (link first 0 1) d) in
      let a = h.inside (link first 0 1) leads.inside in let b = some-place first second s z p q (link first 0 1) leads.inside in record { later = omega arith; inside = omega arith })
      (λ d. let e = to ∙ front-behind (of_first first second) first (link first 0 1) d in let b = behind-first-inside in let b0 = b.0 in let b1 = b.1 in record { later = omega arith; inside = omega arith })

  pub block-leads : Leads joined (ρ 0) 5
  block-leads = let to = block-seam first second s z p q in let a = blocks-later in let b = h'.inside 0 o'.tree.some_rows in record { later = omega arith; inside = omega arith }

  pub items-first-leads : 0 < link joined (ρ 0) 1 → Leads joined (ρ 0) 1
  items-first-leads c =
      let to = items-of-first first second s z p q in
      let some = moved_back ρ (first_item first) (rw to at c) in
      let e = to ∙ moved-some ρ (first_item first) some in
      let a = h.begins_later some in let b = h.inside (first_item first) (first_inside o some) in record { later = omega arith; inside = omega arith }

  pub items-second-leads : 0 < link joined (ρ' 0) 1 → Leads joined (ρ' 0) 1
  items-second-leads c =
      let to = items-of-second first second s z p q in
      let some = moved_back ρ' (first_item second) (rw to at c) in
      let e = to ∙ moved-some ρ' (first_item second) some in
      let a = h'.begins_later some in let b = h'.inside (first_item second) (first_inside o' some) in record { later = omega arith; inside = omega arith }

  pub next-first-leads : (row : ℕ) → row < row_count first → is_definition first row ≡ true → Leads joined (ρ row) 5
  next-first-leads row n d =
      let to = next-of-first first second s z p q row n d in
      by_cases (is_definition first (link first row 5))
      (λ c. let e = to ∙ front-definition (of_first first second) first (link first row 5) c in
      let leads = o.tree.forward row 5 n (omega arith) (definition-some o (link first row 5) c) in
      let a = place-grows (of_first first second) first row (link first row 5) (definition-of o (link first row 5) c ∙ sym (definition-of o row d)) leads.later in
      let b = h.inside (link first row 5) leads.inside in record { later = omega arith; inside = omega arith })
      (λ c. let e = to ∙ front-behind (of_first first second) first (link first row 5) c in let a = behind-first-later row n d in let b = behind-first-inside.0 in record { later = omega arith; inside = omega arith })

  pub next-second-leads : (row : ℕ) → row < row_count second → is_definition second row ≡ true → Leads joined (ρ' row) 5
  next-second-leads row n d =
      let to = next-of-second first second s z p q row n d in
      by_cases (is_definition second (link second row 5))
      (λ c. let e = to ∙ front-definition (of_second first second) second (link second row 5) c in
      let leads = o'.tree.forward row 5 n (omega arith) (definition-some o' (link second row 5) c) in
      let a = place-grows (of_second first second) second row (link second row 5) (definition-of o' (link second row 5) c ∙ sym (definition-of o' row d)) leads.later in
      let b = h'.inside (link second row 5) leads.inside in record { later = omega arith; inside = omega arith })
      (λ c. let e = to ∙ front-behind (of_second first second) second (link second row 5) c ∙ behind-second first second s z p q in let a = behind-second-later row n d in let b = h.inside 0 o.tree.some_rows in record { later = omega arith; inside = omega arith })

  -- ---- definitions, in order

  pub front-first : {row place : ℕ} → InFront first row place → InFront joined (ρ row) place
  front-first (foremost leads d) =
      front-begins (ρ (link first 0 1)) (outer-first first second s z p q ∙ front-definition (of_first first second) first (link first 0 1) d) (some-place first second s z p q (link first 0 1) leads.inside)
      (h.inside (link first 0 1) leads.inside) (definition-held h (link first 0 1) leads.inside ∙ d)
  front-first (behind {row} f leads d) =
      let n = front-inside first f in
      let c = front-defines first f in
      let e = next-of-first first second s z p q row n c ∙ front-definition (of_first first second) first (link first row 5) d in
      front-goes-on (front-first f) (ρ (link first row 5)) e (rw e at (next-first-leads row n c).later) (h.inside (link first row 5) leads.inside) (definition-held h (link first row 5) leads.inside ∙ d)

  -- what stands behind the first's definitions, where it is a definition
  front-behind-first : is_definition joined (of_first first second).behind ≡ true → InFront joined (of_first first second).behind (functions_of first)
  front-behind-first d = go (end_of_front o)
    where
      go : Front first → InFront joined (of_first first second).behind (functions_of first)
      go (empty c) =
          rw (functions-none first c)
          (front-begins (of_first first second).behind (outer-first first second s z p q ∙ front-behind (of_first first second) first (link first 0 1) c) behind-first-inside.1 behind-first-inside.0 d)
      go (ending {row} {place} f last) =
          let n = front-inside first f in
          let c = front-defines first f in
          rw (functions-last first f last)
          (front-goes-on (front-first f) (of_first first second).behind (next-of-first first second s z p q row n c ∙ front-behind (of_first first second) first (link first row 5) last) (behind-first-later row n c) behind-first-inside.0 d)

  pub front-second : {row place : ℕ} → InFront second row place → InFront joined (ρ' row) (functions_of first + place)
  front-second (foremost leads d) =
      let e = behind-first first second s z p q ∙ front-definition (of_second first second) second (link second 0 1) d in
      let whole : functions_of first + 0 ≡ functions_of first = omega arith in
      rw whole (subst (λ (x : ℕ). is_definition joined x ≡ true → InFront joined x (functions_of first)) e front-behind-first (definition-held h' (link second 0 1) leads.inside ∙ d))
  front-second (behind {row} {place} f leads d) =
      let n = front-inside second f in
      let c = front-defines second f in
      let e = next-of-second first second s z p q row n c ∙ front-definition (of_second first second) second (link second row 5) d in
      let whole : functions_of first + (place + 1) ≡ functions_of first + place + 1 = omega arith in
      rw whole (front-goes-on (front-second f) (ρ' (link second row 5)) e (rw e at (next-second-leads row n c).later) (h'.inside (link second row 5) leads.inside) (definition-held h' (link second row 5) leads.inside ∙ d))
