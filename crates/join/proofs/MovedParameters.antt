-- Parameters of moved rows: what 19 asks of the declarations in a function's block and of its parameters holds at their new places. Both are found from the
-- definition on, which is the moved one: it stands around the declaration.
use Rattle.std.specs.Prelude.{◌≡◌, true, false, List, ℕ, ◌<◌, ℤ}
use Rattle.std.proofs.Common.{sym, ◌∙◌, ap, subst, true≢false, arith}
use Rattle.std.proofs.Math.Decide.{ℕ_discrete}
use Rattle.words.specs.Table.{row_count, number_at}
use Rattle.words.specs.Declarations.{is_declaration}
use Rattle.words.specs.Links.{link}
use Rattle.words.specs.declared.Form.{Form}
use Rattle.check_fields.specs.declared.Bounds.{Bounds}
use Rattle.words_roles.specs.Roles.{is_parameter}
use Rattle.words_roles.proofs.RoleLaws.{parameter-declaration}
use Rattle.check_structure.specs.NoteLaws.{above_zero}
use Rattle.check_structure.specs.RoleLaws.{first-parameter, parameter-fits}
use Rattle.check_structure.specs.Structured.{Leads, Structured, Tree}
use Rattle.check_function_causes.specs.Functions.{is_definition, function_around}
use Rattle.check_function_causes.specs.Demands.{Within, function_part, function_along}
use Rattle.check_function_causes.proofs.AroundLaws.{around-most, around-within, within-defines, within-is}
use Rattle.check_parameter_causes.specs.Demands.{Parameter, first_parameter, next_parameter, BodyItem, first_item, next_item, NotParameter}
use Rattle.join.specs.Moved.{InOrder, moved_link, Holds, AroundMoved}
use Rattle.join.proofs.Kept.{Ordered, ordered}
use Rattle.join.proofs.MovedLaws.{moved-some, declaration-held}
use Rattle.join.proofs.MovedDeclarations.{declared-number, OldRow, old-part, old-along}

-- an item of a function's block stands in the function
body-within : {rows : List ℤ} {definition row : ℕ} → BodyItem rows definition row → Within rows definition row
body-within (first_item d leads first) = function_along {field = 1} (omega arith) first (function_part {field = 3} (omega arith) d leads)
body-within (next_item item leads) = function_along {field = 5} (omega arith) leads (body-within item)

module _ {form : Form} {bounds : Bounds} {joined rows : List ℤ} {ρ φ : ℕ → ℕ} (s : Structured form bounds rows) (i : InOrder rows) (h : Holds joined rows ρ φ) where
  o : Ordered rows
  o = ordered s i

  -- a parameter's row is one of kind 58
  is-parameter : {definition row : ℕ} → Parameter rows definition row → is_parameter rows row ≡ true
  is-parameter {definition} (first_parameter d leads) =
      let l = leads.later in
      let below = leads.inside in
      first-parameter form bounds rows s definition (omega arith) d (omega arith)
  is-parameter (next_parameter {row} p leads) =
      let l = leads.later in
      let below = leads.inside in
      (parameter-fits form bounds rows s row (omega arith) (is-parameter p)).next-parameter (omega arith)

  -- from a definition on
  module _ (definition : ℕ) (some : 0 < definition) (n : definition < row_count rows) (d : is_definition rows definition ≡ true) where
    parameter-back : {row : ℕ} → Parameter joined (ρ definition) row → OldRow s i h (Parameter rows definition) row
    parameter-back (first_parameter f leads) = old-part s i h (Parameter rows definition) definition 2 some n (omega arith) (omega arith) leads (λ l. first_parameter d l)
    parameter-back (next_parameter p leads) =
        let w = parameter-back p in
        old-along s i h (Parameter rows definition) w 5 (omega arith) leads (λ l. next_parameter w.has l)

    -- the function's block
    abbrev Block : ℕ → Type 0
    Block row = Leads rows row 1 → BodyItem rows definition (link rows row 1)

    item_back : {row : ℕ} → BodyItem joined (ρ definition) row → OldRow s i h (BodyItem rows definition) row
    item_back (first_item f leads first) =
        let w = old-part s i h Block definition 3 some n (omega arith) (omega arith) leads (λ l k. first_item d l k) in
        old-along s i h (BodyItem rows definition) w 1 (omega arith) first w.has
    item_back (next_item item leads) =
        let w = item_back item in
        old-along s i h (BodyItem rows definition) w 5 (omega arith) leads (λ l. next_item w.has l)

    -- two rows of the other table with one number
    free-there : ((row : ℕ) → row < row_count rows → NotParameter rows row) → {row parameter : ℕ} → is_declaration joined row ≡ true → BodyItem joined (ρ definition) row → Parameter joined (ρ definition) parameter
        → number_at joined parameter 1 ≡ number_at joined row 1 → ⊥
    free-there free declares item p same =
        let a = item_back item in
        let b = parameter-back p in
        let declared : is_declaration rows a.old ≡ true = sym (declaration-held h a.old a.inside) ∙ sym (ap (is_declaration joined) a.is) ∙ declares in
        free a.old a.inside declared definition b.old a.has b.has
        (sym (declared-number s i h b.old b.inside (parameter-declaration rows b.old (is-parameter b.has))) ∙ sym (ap (λ (x : ℕ). number_at joined x 1) b.is) ∙ same
        ∙ ap (λ (x : ℕ). number_at joined x 1) a.is ∙ declared-number s i h a.old a.inside declared)

  pub not-parameter-held : Tree joined → is_definition joined 0 ≡ false → InOrder joined → AroundMoved joined rows ρ → ((row : ℕ) → row < row_count rows → NotParameter rows row) → (row : ℕ) → row < row_count rows → NotParameter joined (ρ row)
  not-parameter-held t root there around free row n d definition parameter item p same = by (ℕ_discrete (function_around rows row) 0)
    where
      is : definition ≡ moved_link ρ (function_around rows row)
      is = sym (within-is joined t root there (body-within item)) ∙ around row n

      by : Dec (function_around rows row ≡ 0) → ⊥
      by (yes z) = true≢false (sym (within-defines joined t root (body-within item)) ∙ ap (is_definition joined) (is ∙ ap (moved_link ρ) z) ∙ root)
      by (no z) =
          let e = is ∙ moved-some ρ (function_around rows row) (above_zero _ z) in
          let below : function_around rows row < row_count rows = (let most = around-most rows o.tree row n in omega arith) in
          free-there (function_around rows row) (above_zero _ z) below (within-defines rows o.tree o.root (around-within rows o.tree row n z)) free d
          (subst (λ (x : ℕ). BodyItem joined x (ρ row)) e item) (subst (λ (x : ℕ). Parameter joined x parameter) e p) same
