-- Laws of meaning: in a tree of rows a row's scope is the innermost declaration in whose scope it stands, and a number means the innermost one
-- that has the number; where there is none, a parameter of the row's function.
use Rattle.std.specs.Prelude.{◌≡◌, true, ◌&&◌, ◌||◌, ◌⊎◌, List, ℤ}
use Rattle.std.proofs.Math.Path.{refl}
use Rattle.std.proofs.Common.{sym, subst, ap, ◌∙◌}
use Rattle.std.proofs.Math.Bool.{false}
use Rattle.std.proofs.Math.Logic.{inl, inr}
use Prim.Native.Nat.{ℕ, zero, suc, ◌≤◌, ◌<◌}
use native.Mathlib.Omega.{arith}
use Rattle.std.proofs.Math.Decide.{ℕ_discrete}
use Rattle.std.proofs.Math.Dec.{eqb}
use borrow.Author.Tests.{eqb-true, eqb-false}
use Rattle.words.specs.Table.{row_count, number_at}
use Rattle.words.specs.Laws.{by_cases, both, neither}
use Rattle.words.specs.Links.{link}
use Rattle.check_structure.specs.Structured.{Leads, Tree}
use Rattle.check_structure.specs.LinkLaws.{by-owner}
use Rattle.check_structure.specs.NoteLaws.{above_zero, note-root, note-link}
use Rattle.words_roles.specs.Roles.{is_definition}
use Rattle.check_function_causes.specs.Functions.{function_around}
use Rattle.check_function_causes.proofs.AroundLaws.{around-most as function-before, around-within, within-defines}
use Rattle.check_parameter_causes.specs.Demands.{Parameter, first_parameter, next_parameter}
use Rattle.names.specs.Names.{in_scope, scope_at, meant_from, parameter_from, parameter_at, meant_at}
use Rattle.words.specs.Declarations.{is_declaration, declarations_before, declaration_count}
use Rattle.names.specs.Scope.{InScopeOf, next-item, along, SeesParameter}
use Rattle.names.proofs.ScopeLaws.{scope-declared, scope-before, before-later, parameter-outside}

module _ (rows : List ℤ) (t : Tree rows) where
  leads-inside : (row field : ℕ) → Leads rows row field → row < row_count rows
  leads-inside row field leads = let l = leads.later in let i = leads.inside in omega arith

  scope-link : (row field : ℕ) → field < 6 → Leads rows row field → scope_at rows (link rows row field) ≡ in_scope rows row field (scope_at rows row)
  unfolding scope_at
  scope-link row field h leads = note-link (in_scope rows) 0 rows t row field h leads

  -- A link to a declaration's next item, or another one.
  data Step (row field : ℕ) : Type 0 where
    declares : is_declaration rows row ≡ true → field ≡ 5 → scope_at rows (link rows row field) ≡ row → Step row field
    hands_on : scope_at rows (link rows row field) ≡ scope_at rows row → Step row field

  step_of : (row field : ℕ) → field < 6 → Leads rows row field → Step row field
  unfolding in_scope
  step_of row field h leads =
      let e = scope-link row field h leads in
      by_cases (eqb field 5 && is_declaration rows row)
      (λ b. let parts = both (eqb field 5) (is_declaration rows row) b in declares parts.1 (eqb-true _ _ parts.0) (rw b at e))
      (λ b. hands_on (rw b at e))

  -- ---- scope

  scope-root : scope_at rows 0 ≡ 0
  unfolding scope_at
  scope-root = note-root (in_scope rows) 0 rows

  scope-next : (row : ℕ) → is_declaration rows row ≡ true → Leads rows row 5 → scope_at rows (link rows row 5) ≡ row
  unfolding in_scope
  scope-next row d leads = scope-link row 5 (omega arith) leads ∙ rw d

  -- a row stands in its scope's scope
  pub scope-holds : (row : ℕ) → row < row_count rows → (scope_at rows row ≡ 0 → ⊥) → InScopeOf rows (scope_at rows row) row
  scope-holds row n =
      by-owner rows t (λ (row : ℕ). (scope_at rows row ≡ 0 → ⊥) → InScopeOf rows (scope_at rows row) row) (λ some. absurd (some scope-root))
      (λ owner field h leads above some. handed owner field h leads above some (step_of owner field h leads)) row n
    where
      next-of : (owner field : ℕ) → Leads rows owner field → is_declaration rows owner ≡ true → field ≡ 5 → InScopeOf rows owner (link rows owner field)
      next-of owner field leads d f =
          subst (λ (x : ℕ). Leads rows owner x → InScopeOf rows owner (link rows owner x)) (sym f) (λ l. next-item d l) leads

      handed : (owner field : ℕ) → field < 6 → Leads rows owner field → ((scope_at rows owner ≡ 0 → ⊥) → InScopeOf rows (scope_at rows owner) owner)
          → (scope_at rows (link rows owner field) ≡ 0 → ⊥) → Step owner field → InScopeOf rows (scope_at rows (link rows owner field)) (link rows owner field)
      handed owner field h leads above some (declares d f e) = subst (λ (x : ℕ). InScopeOf rows x (link rows owner field)) (sym e) (next-of owner field leads d f)
      handed owner field h leads above some (hands_on e) =
          subst (λ (x : ℕ). InScopeOf rows x (link rows owner field)) (sym e) (along h leads (above (λ z. some (e ∙ z))))

  -- One declaration is another, or stands around it.
  abbrev IsOrAround : ℕ → ℕ → Type 0
  IsOrAround declaration row = (declaration ≡ row) ⊎ InScopeOf rows declaration row

  -- scopes nest
  scope-nests : {declaration row : ℕ} → InScopeOf rows declaration row → IsOrAround declaration (scope_at rows row)
  scope-nests {declaration} (next-item d leads) = inl (sym (scope-next declaration d leads))
  scope-nests {declaration} (along {row} {field} h leads i) = go (step_of row field h leads) (scope-nests i)
    where
      go : Step row field → IsOrAround declaration (scope_at rows row) → IsOrAround declaration (scope_at rows (link rows row field))
      go (declares d f e) above = subst (IsOrAround declaration) (sym e) (inr i)
      go (hands_on e) above = subst (IsOrAround declaration) (sym e) above

  scope-later : {declaration row : ℕ} → InScopeOf rows declaration row → declaration < row
  scope-later (next-item d leads) = leads.later
  scope-later (along h leads i) = let l = leads.later in let b = scope-later i in omega arith

  through : {outer declaration row : ℕ} → InScopeOf rows outer declaration → InScopeOf rows declaration row → InScopeOf rows outer row
  through around (next-item d leads) = along {field = 5} (omega arith) leads around
  through around (along h leads i) = along h leads (through around i)

  around-most : {declaration row : ℕ} → IsOrAround declaration row → declaration ≤ row
  around-most (inl e) = omega arith
  around-most (inr i) = let l = scope-later i in omega arith

  -- a row's scope is the innermost
  pub scope-innermost : {declaration row : ℕ} → InScopeOf rows declaration row → declaration ≤ scope_at rows row
  scope-innermost i = around-most (scope-nests i)

  -- ---- what a number means

  meant-from-holds : (outward declaration number row : ℕ) → declaration < row_count rows → ((declaration ≡ 0 → ⊥) → InScopeOf rows declaration row)
      → (meant_from outward rows declaration number ≡ 0 → ⊥) → InScopeOf rows (meant_from outward rows declaration number) row
  unfolding meant_from
  meant-from-holds zero declaration number row n h = λ some. absurd (some refl)
  meant-from-holds (suc outward) declaration number row n h =
      by_cases (eqb declaration 0 || eqb (number_at rows declaration 1) number)
      (λ e. rw e h)
      (λ e. rw e (meant-from-holds outward (scope_at rows declaration) number row (omega (arith, scope-before rows t declaration n, n))
      (λ some. through (scope-holds declaration n some) (h (eqb-false _ _ (neither _ _ e).0)))))

  -- the row stands in the scope of what is found
  pub declared-holds : (row number : ℕ) → row < row_count rows → (meant_from 64 rows (scope_at rows row) number ≡ 0 → ⊥) → InScopeOf rows (meant_from 64 rows (scope_at rows row) number) row
  declared-holds row number n =
      meant-from-holds 64 (scope_at rows row) number row (omega (arith, scope-before rows t row n, n)) (λ some. scope-holds row n some)

  -- ---- parameters

  -- Row 0 is a block.
  module _ (block : is_declaration rows 0 ≡ false) where
    from-none : (most number : ℕ) → parameter_from most rows 0 number ≡ 0
    unfolding parameter_from
    from-none zero number = refl
    from-none (suc most) number = rw block

    parameter-row : {definition parameter : ℕ} → Parameter rows definition parameter → parameter < row_count rows
    parameter-row (first_parameter d leads) = leads.inside
    parameter-row (next_parameter p leads) = leads.inside

    -- what is found from a parameter on is a parameter
    from-holds : (definition most parameter number : ℕ) → Parameter rows definition parameter → (parameter_from most rows parameter number ≡ 0 → ⊥) → Parameter rows definition (parameter_from most rows parameter number)
    unfolding parameter_from
    from-holds definition zero parameter number p = λ some. absurd (some refl)
    from-holds definition (suc most) parameter number p =
        by_cases (is_declaration rows parameter)
        (λ d. by_cases (eqb (number_at rows parameter 1) number) (λ e. rw (d, e) (λ some. p)) (λ e. rw (d, e) (go (ℕ_discrete (link rows parameter 5) 0) (λ q. from-holds definition most (link rows parameter 5) number q))))
        (λ d. rw d (λ some. absurd (some refl)))
      where
        go : Dec (link rows parameter 5 ≡ 0)
            → (Parameter rows definition (link rows parameter 5) → (parameter_from most rows (link rows parameter 5) number ≡ 0 → ⊥) → Parameter rows definition (parameter_from most rows (link rows parameter 5) number))
            → (parameter_from most rows (link rows parameter 5) number ≡ 0 → ⊥) → Parameter rows definition (parameter_from most rows (link rows parameter 5) number)
        go (yes z) rest some = absurd (some (ap (λ (x : ℕ). parameter_from most rows x number) z ∙ from-none most number))
        go (no z) rest some = rest (next_parameter p (t.forward parameter 5 (parameter-row p) (omega arith) (above_zero _ z))) some

    parameter-holds : (definition number : ℕ) → is_definition rows definition ≡ true → definition < row_count rows → (parameter_at rows definition number ≡ 0 → ⊥) → Parameter rows definition (parameter_at rows definition number)
    unfolding parameter_at
    parameter-holds definition number d n =
        by_cases (eqb definition 0) (λ e. rw e (λ some. absurd (some refl))) (λ e. rw e (go (ℕ_discrete (link rows definition 2) 0)))
      where
        go : Dec (link rows definition 2 ≡ 0) → (parameter_from 64 rows (link rows definition 2) number ≡ 0 → ⊥) → Parameter rows definition (parameter_from 64 rows (link rows definition 2) number)
        go (yes z) some = absurd (some (ap (λ (x : ℕ). parameter_from 64 rows x number) z ∙ from-none 64 number))
        go (no z) some = from-holds definition 64 (link rows definition 2) number (first_parameter d (t.forward definition 2 n (omega arith) (above_zero _ z))) some

    -- the row stands in the scope of what the number means, or sees it as a parameter of its function
    pub meant-holds : (row number : ℕ) → row < row_count rows → is_definition rows 0 ≡ false → (meant_at rows row number ≡ 0 → ⊥)
        → InScopeOf rows (meant_at rows row number) row ⊎ SeesParameter rows row (meant_at rows row number)
    unfolding meant_at
    meant-holds row number n root =
        by_cases (eqb (meant_from 64 rows (scope_at rows row) number) 0)
        (λ e. rw e (λ some. inr (sees (ℕ_discrete (function_around rows row) 0) some)))
        (λ e. rw e (λ some. inl (declared-holds row number n some)))
      where
        sees : Dec (function_around rows row ≡ 0) → (parameter_at rows (function_around rows row) number ≡ 0 → ⊥) → SeesParameter rows row (parameter_at rows (function_around rows row) number)
        sees (yes z) some = absurd (some (parameter-outside rows (function_around rows row) number z))
        sees (no z) some =
            let within = around-within rows t row n z in
            let most = function-before rows t row n in
            record { definition = function_around rows row; within = within; of = parameter-holds (function_around rows row) number (within-defines rows t root within) (omega arith) some }

  module _ (declaration number : ℕ) (has : number_at rows declaration 1 ≡ number) where
    -- A search that begins at a declaration ends at this one, or further in.
    abbrev Reaches : ℕ → ℕ → Type 0
    Reaches outward from =
        from < row_count rows → IsOrAround declaration from → (from ≡ 0 → ⊥) → is_declaration rows from ≡ true → declarations_before rows from < outward → declaration ≤ meant_from outward rows from number

    scope-is-declared : (row : ℕ) → (scope_at rows row ≡ 0 → ⊥) → is_declaration rows (scope_at rows row) ≡ true
    scope-is-declared row some = go (scope-declared rows row)
      where
        go : (scope_at rows row ≡ 0) ⊎ (is_declaration rows (scope_at rows row) ≡ true) → is_declaration rows (scope_at rows row) ≡ true
        go (inl z) = absurd (some z)
        go (inr d) = d

    -- one declaration outward
    outward-on : (outward from : ℕ) → ((next : ℕ) → Reaches outward next) → from < row_count rows → IsOrAround declaration (scope_at rows from) → declarations_before rows from ≤ outward
        → declaration ≤ meant_from outward rows (scope_at rows from) number
    outward-on outward from rest n around few = go (ℕ_discrete (scope_at rows from) 0)
      where
        go : Dec (scope_at rows from ≡ 0) → declaration ≤ meant_from outward rows (scope_at rows from) number
        go (yes z) = let most = around-most around in omega arith
        go (no some) =
            let later = scope-later (scope-holds from n some) in
            let d = scope-is-declared from some in
            let fewer = before-later rows (scope_at rows from) from d later in
            rest (scope_at rows from) (omega arith) around some d (omega arith)

    reached : (outward from : ℕ) → Reaches outward from
    unfolding meant_from
    reached zero from n around some d few = absurd (omega arith)
    reached (suc outward) from n around some d few =
        by_cases (eqb from 0 || eqb (number_at rows from 1) number) (λ e. rw e (around-most around))
        (λ e. rw e (outward-on outward from (λ next. reached outward next) n (other e around) (omega arith)))
      where
        other : (eqb from 0 || eqb (number_at rows from 1) number) ≡ false → IsOrAround declaration from → IsOrAround declaration (scope_at rows from)
        other e (inl same) = absurd (eqb-false _ _ (neither (eqb from 0) (eqb (number_at rows from 1) number) e).1 (ap (λ (x : ℕ). number_at rows x 1) (sym same) ∙ has))
        other e (inr i) = scope-nests i

    -- "hiding the outer one": no declaration with the number stands further in
    pub meant-innermost : (row : ℕ) → row < row_count rows → declaration_count rows ≤ 64 → InScopeOf rows declaration row → declaration ≤ meant_at rows row number
    unfolding meant_at declaration_count
    meant-innermost row n few i =
        by_cases (eqb (meant_from 64 rows (scope_at rows row) number) 0)
        (λ e. let least = go (ℕ_discrete (scope_at rows row) 0) in let none : meant_from 64 rows (scope_at rows row) number ≡ 0 = eqb-true _ _ e in
        let outermost : declaration ≡ 0 = omega (arith, least, none) in rw (e, outermost) (omega arith))
        (λ e. rw e (go (ℕ_discrete (scope_at rows row) 0)))
      where
        go : Dec (scope_at rows row ≡ 0) → declaration ≤ meant_from 64 rows (scope_at rows row) number
        go (yes z) = let most = scope-innermost i in omega arith
        go (no some) =
            let d = scope-is-declared row some in
            let inside : scope_at rows row < row_count rows = omega (arith, scope-before rows t row n, n) in
            reached 64 (scope_at rows row) inside (scope-nests i) some d (omega (arith, before-later rows (scope_at rows row) (row_count rows) d inside, few))
