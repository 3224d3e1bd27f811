-- Laws of known words: a row's parts know what it knows, and the parts of a definition its parameters; its next item, what it declares too; a name
-- names a known word.
use Rattle.std.specs.Prelude.{◌≡◌, refl, true, false, ◌⊎◌, List, ℕ, ◌<◌, ℤ}
use Rattle.std.proofs.Common.{sym, subst, ap, ◌∙◌, true≢false, inl, inr, arith, eqb-true}
use Rattle.std.proofs.Math.Logic.{⊎_elim}
use Rattle.std.proofs.Math.Decide.{ℕ_discrete}
use Rattle.words.specs.Table.{row_count, number_at}
use Rattle.words.specs.Declarations.{is_declaration}
use Rattle.words.specs.Links.{link}
use Rattle.computation.specs.Agreement.{◌within◌}
use Rattle.check_structure.specs.Structured.{Leads, Tree}
use Rattle.names.specs.Names.{is_name, word_of, meant_at, resolved}
use Rattle.names.specs.Scope.{InScopeOf, next-item, along}
use Rattle.names.proofs.MeaningLaws.{meant-holds}
use Rattle.names.proofs.ResolvedNames.{variable-resolved, name-resolved}
use Rattle.language_renaming.specs.Twin.{◌with◌}
use Rattle.words_roles.specs.Roles.{is_definition}
use Rattle.check_function_causes.specs.Demands.{InFront, foremost, behind, Within, function_part, function_along}
use Rattle.check_function_causes.proofs.FrontLaws.{block-undefined, front-defines}
use Rattle.check_parameter_causes.specs.Demands.{Parameter}
use Rattle.accepted_calls.specs.Owners.{same-owner}
use Rattle.accepted_scopes.specs.Known.{Known, of_header, of_declaration, of_parameter}

pub definition-undeclared : (rows : List ℤ) (row : ℕ) → is_definition rows row ≡ true → is_declaration rows row ≡ false
unfolding is_definition is_declaration
definition-undeclared rows row d = rw (eqb-true (number_at rows row 0) 59 d)

module _ (rows : List ℤ) (t : Tree rows) where
  -- the scopes that a linked row stands in: its owner's, and that of an owner whose next item it is
  scope-from : {declaration : ℕ} (l row field : ℕ) → InScopeOf rows declaration l → l ≡ link rows row field → field < 6 → Leads rows row field
      → InScopeOf rows declaration row ⊎ ((declaration ≡ row) × (field ≡ 5) × (is_declaration rows row ≡ true))
  scope-from {declaration} _ row field (next-item d m) e h leads =
      let same = same-owner rows t declaration 5 row field (omega arith) h m leads e in
      inr (same.0, sym same.1, subst (λ (r : ℕ). is_declaration rows r ≡ true) same.0 d)
  scope-from {declaration} _ row field (along {row = other} {field = there} k m i) e h leads = inl (subst (InScopeOf rows declaration) (same-owner rows t other there row field k h m leads e).0 i)

  -- the functions that a linked row stands in: its owner's, and that of an owner that defines one
  within-from : {definition : ℕ} (l row field : ℕ) → Within rows definition l → l ≡ link rows row field → field < 6 → Leads rows row field
      → Within rows definition row ⊎ ((definition ≡ row) × (field < 5) × (is_definition rows row ≡ true))
  within-from {definition} _ row field (function_part {field = there} k d m) e h leads =
      let same = same-owner rows t definition there row field (omega arith) h m leads e in
      inr (same.0, (let f = same.1 in omega arith), subst (λ (r : ℕ). is_definition rows r ≡ true) same.0 d)
  within-from {definition} _ row field (function_along {row = other} {field = there} k m w) e h leads = inl (subst (Within rows definition) (same-owner rows t other there row field k h m leads e).0 w)

  -- row 0 stands in no function
  pub nowhere : {definition : ℕ} (l : ℕ) → Within rows definition l → l ≡ 0 → ⊥
  nowhere _ (function_part h d m) e = let later = m.later in omega arith
  nowhere _ (function_along h m w) e = let later = m.later in omega arith

  -- row 0 stands in no scope
  outermost : {declaration : ℕ} (l : ℕ) → InScopeOf rows declaration l → l ≡ 0 → ⊥
  outermost _ (next-item d m) e = let later = m.later in omega arith
  outermost _ (along h m i) e = let later = m.later in omega arith

  module _ (variables S : ℕ) where
    abbrev KnownAt : ℕ → ℕ → Type 0
    KnownAt row = Known variables S rows row

    pub known-root : KnownAt 0 within (λ word. word < variables)
    known-root word (of_header h) = h
    known-root word (of_declaration i e) = absurd (outermost 0 i refl)
    known-root word (of_parameter w q e) = absurd (nowhere 0 w refl)

    -- A word that a row makes known to the row that a field links: that of a declaration to its next item, those of parameters to the parts of their
    -- definition.
    pub data Handed (row field word : ℕ) : Type 0 where
      by-declaration : field ≡ 5 → is_declaration rows row ≡ true → word ≡ word_of S rows row → Handed row field word
      by_definition : {parameter : ℕ} → field < 5 → is_definition rows row ≡ true → Parameter rows row parameter → word ≡ word_of S rows parameter → Handed row field word

    -- what a linked row knows: what its owner knows, and what that makes known to it
    pub known_from : (row field : ℕ) → field < 6 → Leads rows row field → (word : ℕ) → KnownAt (link rows row field) word → KnownAt row word ⊎ Handed row field word
    known_from row field h leads word (of_header b) = inl (of_header b)
    known_from row field h leads word (of_declaration i e) =
        ⊎_elim (λ around. inl (of_declaration around e)) (λ own. inr (by-declaration own.1 own.2 (e ∙ ap (word_of S rows) own.0))) (scope-from (link rows row field) row field i refl h leads)
    known_from row field h leads word (of_parameter {parameter = parameter} w q e) =
        ⊎_elim (λ around. inl (of_parameter around q e))
        (λ own. inr (by_definition own.1 own.2 (subst (λ (d : ℕ). Parameter rows d parameter) own.0 q) e)) (within-from (link rows row field) row field w refl h leads)

    pub known-part : (row field : ℕ) → field < 5 → is_definition rows row ≡ false → Leads rows row field → KnownAt (link rows row field) within KnownAt row
    known-part row field h plain leads word k = ⊎_elim (λ known. known) other (known_from row field (omega arith) leads word k)
      where
        other : Handed row field word → KnownAt row word
        other (by-declaration f d e) = absurd (omega arith)
        other (by_definition f d q e) = absurd (true≢false (sym d ∙ plain))

    -- behind a row that declares nothing
    pub known_next : (row : ℕ) → is_declaration rows row ≡ false → Leads rows row 5 → KnownAt (link rows row 5) within KnownAt row
    known_next row plain leads word k = ⊎_elim (λ known. known) other (known_from row 5 (omega arith) leads word k)
      where
        other : Handed row 5 word → KnownAt row word
        other (by-declaration f d e) = absurd (true≢false (sym d ∙ plain))
        other (by_definition f d q e) = absurd (omega arith)

    -- behind a declaration
    pub known_behind : (row : ℕ) → Leads rows row 5 → KnownAt (link rows row 5) within (KnownAt row with word_of S rows row)
    known_behind row leads word k = ⊎_elim (λ known. inl known) other (known_from row 5 (omega arith) leads word k)
      where
        other : Handed row 5 word → (KnownAt row with word_of S rows row) word
        other (by-declaration f d e) = inr e
        other (by_definition f d q e) = absurd (omega arith)

    -- a definition at the front knows the header's variables alone, and its block the parameters too
    module _ (root : is_definition rows 0 ≡ false) where
      pub known-front : {row place : ℕ} → InFront rows row place → KnownAt row within (λ word. word < variables)
      known-front (foremost leads d) word k = known-root word (known-part 0 1 (omega arith) root leads word k)
      known-front (behind {row} f leads d) word k = known-front f word (known_next row (definition-undeclared rows row (front-defines rows f)) leads word k)

    -- a name names its declaration's or parameter's word, or a variable of the header
    pub name-known : number_at rows 0 0 ≡ 42 → (row : ℕ) → row < row_count rows → is_declaration rows row ≡ false → is_name rows row ≡ true → number_at rows row 1 < variables → KnownAt row (number_at (resolved S rows) row 1)
    unfolding is_declaration
    name-known block row n other name below = go (ℕ_discrete (meant_at rows row (number_at rows row 1)) 0)
      where
        go : Dec (meant_at rows row (number_at rows row 1) ≡ 0) → KnownAt row (number_at (resolved S rows) row 1)
        go (yes z) = of_header {word = number_at (resolved S rows) row 1} (rw (variable-resolved S rows t row n other name z) below)
        go (no some) =
            let word = name-resolved S rows t row n other name some in
            ⊎_elim (λ scope. of_declaration scope word) (λ sees. of_parameter sees.within sees.of word) (meant-holds rows t (rw block) row (number_at rows row 1) n (block-undefined rows 0 block) some)
