-- Scopes of moved rows: the scope of a row's new place, and what a number means there, are those of its old place, moved. Scopes are handed along the
-- links (join/MovedNotes), and so is the function that a row stands in, whose parameters are looked up from its definition on.
use Rattle.std.specs.Prelude.{◌≡◌, true, false, ◌&&◌, List, eqb, ℤ}
use Rattle.std.proofs.Math.Path.{refl}
use Rattle.std.proofs.Common.{sym, ◌∙◌, true≢false, inl, inr, arith}
use Prim.Native.Nat.{ℕ, zero, suc, ◌<◌}
use Rattle.std.proofs.Math.Decide.{dec_lt}
use borrow.Author.Tests.{ne_eqb}
use Rattle.words.specs.Word.{pick}
use Rattle.words.specs.Laws.{by_cases, both}
use Rattle.words.specs.Table.{row_count, number_at}
use Rattle.words.specs.Declarations.{is_declaration}
use Rattle.words.specs.Links.{link, note}
use Rattle.words.specs.declared.Form.{Form}
use Rattle.check_fields.specs.declared.Bounds.{Bounds}
use Rattle.check_structure.specs.LinkLaws.{part-inside}
use Rattle.check_structure.specs.Structured.{Structured, Tree}
use Rattle.check_structure.specs.StructuredLaws.{structured-tree}
use Rattle.names.specs.Names.{in_scope, scope_at, meant_from, parameter_from, parameter_at, meant_at}
use Rattle.names.proofs.ScopeLaws.{declaration-beyond, NoneOrDeclared, scope-declared, NoneOrNumbered, meant-from, scope-before}
use Rattle.check_function_causes.specs.Functions.{is_definition, function_around}
use Rattle.check_function_causes.proofs.AroundLaws.{around-most}
use Rattle.check_function_causes.specs.Demands.{InFront}
use Rattle.check_declaration_causes.proofs.DeclarationLaws.{block-undeclared}
use Rattle.join.specs.Moved.{at_seam, InOrder, moved_link, Holds, AroundMoved}
use Rattle.join.proofs.Fronts.{kept-part, kept_row}
use Rattle.join.proofs.Kept.{ordered, kept-undefined}
use Rattle.join.proofs.MovedLaws.{moved-some, declaration-held, link-held}
use Rattle.join.proofs.MovedDeclarations.{declared-number, not_root}
use Rattle.join.proofs.MovedNotes.{Hands, HandsMoved, moved-note}
use Rattle.join.proofs.MovedRoles.{definition-undeclared}

-- scopes are handed along the links
pub scope-hands : (rows : List ℤ) → Hands rows (in_scope rows)
unfolding in_scope
scope-hands rows = record { root = refl; along = λ row d. rw (definition-undeclared rows row d) }

-- Row 0 of the new table declares nothing; row 0 of the old table and its definitions stand in no scope of the new one, and each row in the function that it
-- stood in.
pub record Outside (joined rows : List ℤ) (ρ : ℕ → ℕ) : Type 0 where
  pub outer : is_declaration joined 0 ≡ false
  pub root : scope_at joined (ρ 0) ≡ 0
  pub front : (row place : ℕ) → InFront rows row place → scope_at joined (ρ row) ≡ 0
  pub around : AroundMoved joined rows ρ

module _ {form : Form} {bounds : Bounds} {joined rows : List ℤ} {ρ φ : ℕ → ℕ} (s : Structured form bounds rows) (i : InOrder rows) (h : Holds joined rows ρ φ) (t : Tree joined)
    (above : (row : ℕ) → row < row_count rows → 0 < ρ row) (out : Outside joined rows ρ) where
  old : Tree rows
  old = structured-tree form bounds rows s

  -- ---- scopes

  -- what a row hands on, moved
  handed : (owner field : ℕ) → owner < row_count rows → note (in_scope joined) 0 joined (ρ owner) ≡ moved_link ρ (note (in_scope rows) 0 rows owner)
      → in_scope joined (ρ owner) field (note (in_scope joined) 0 joined (ρ owner)) ≡ moved_link ρ (in_scope rows owner field (note (in_scope rows) 0 rows owner))
  unfolding in_scope
  handed owner field n above =
      rw (declaration-held h owner n)
      (by_cases (eqb field 5 && is_declaration rows owner)
      (λ e. rw e (sym (moved-some ρ owner (not_root s i h owner (both (eqb field 5) (is_declaration rows owner) e).1))))
      (λ e. rw e above))

  scope-held : HandsMoved joined rows ρ (in_scope rows) (in_scope joined)
  unfolding scope_at in_scope
  scope-held = record { kept = λ owner field n f k above. handed owner field n above; block = refl; top = out.root; front = λ {row} {place} f. out.front row place f }

  pub moved-scope : (row : ℕ) → row < row_count rows → scope_at joined (ρ row) ≡ moved_link ρ (scope_at rows row)
  unfolding scope_at
  moved-scope = moved-note s i h t (scope-hands rows) scope-held

  moved-from : (outward declaration number : ℕ) → declaration < row_count rows → NoneOrDeclared rows declaration
      → meant_from outward joined (moved_link ρ declaration) number ≡ moved_link ρ (meant_from outward rows declaration number)
  unfolding meant_from
  moved-from zero declaration number n d = refl
  moved-from (suc outward) zero number n d = refl
  moved-from (suc outward) (suc declaration) number n (inl z) = absurd (omega arith)
  moved-from (suc outward) (suc declaration) number n (inr d) =
      let up = above (suc declaration) n in
      rw (ne_eqb (ρ (suc declaration)) 0 (λ q. omega arith), ne_eqb (suc declaration) 0 (λ q. omega arith), declared-number s i h (suc declaration) n d, moved-scope (suc declaration) n)
      (by_cases (eqb (number_at rows (suc declaration) 1) number) (λ e. rw e)
      (λ e. rw e (moved-from outward (scope_at rows (suc declaration)) number (omega (arith, scope-before rows old (suc declaration) n)) (scope-declared rows (suc declaration)))))

  -- ---- parameters

  -- a row that definitions do not link, or none
  abbrev Listed : ℕ → Type 0
  Listed row = (row < row_count rows) × (0 < row → is_definition rows row ≡ false)

  -- what a kept field links
  linked : (row field : ℕ) → row < row_count rows → field < 6 → at_seam rows row field ≡ false → Listed (link rows row field)
  linked row field n f k =
      (part-inside rows old row field (link rows row field) n f refl, λ p. kept-undefined (ordered s i) row field f (old.forward row field n f p) k)

  moved-parameter : (most parameter number : ℕ) → Listed parameter → parameter_from most joined (moved_link ρ parameter) number ≡ moved_link ρ (parameter_from most rows parameter number)
  unfolding parameter_from
  moved-parameter zero parameter number l = refl
  moved-parameter (suc most) zero number l = rw (out.outer, block-undeclared rows 0 s.block)
  moved-parameter (suc most) (suc parameter) number l =
      let k = kept_row rows (suc parameter) 5 (omega arith) (l.1 (omega arith)) in
      rw (declaration-held h (suc parameter) l.0, link-held h (suc parameter) 5 l.0 (omega arith) k)
      (by_cases (is_declaration rows (suc parameter))
      (λ d. rw (d, declared-number s i h (suc parameter) l.0 d)
      (by_cases (eqb (number_at rows (suc parameter) 1) number) (λ e. rw e)
      (λ e. rw e (moved-parameter most (link rows (suc parameter) 5) number (linked (suc parameter) 5 l.0 (omega arith) k)))))
      (λ d. rw d))

  moved_at : (definition number : ℕ) → definition < row_count rows → parameter_at joined (moved_link ρ definition) number ≡ moved_link ρ (parameter_at rows definition number)
  unfolding parameter_at
  moved_at zero number n = refl
  moved_at (suc definition) number n =
      let up = above (suc definition) n in
      let k = kept-part rows (suc definition) 2 (omega arith) (omega arith) in
      rw (ne_eqb (ρ (suc definition)) 0 (λ q. omega arith), ne_eqb (suc definition) 0 (λ q. omega arith), link-held h (suc definition) 2 n (omega arith) k)
      (moved-parameter 64 (link rows (suc definition) 2) number (linked (suc definition) 2 n (omega arith) k))

  -- ---- meanings

  declared-inside : (row : ℕ) → is_declaration rows row ≡ true → row < row_count rows
  declared-inside row d = go (dec_lt row (row_count rows))
    where
      go : Dec (row < row_count rows) → row < row_count rows
      go (yes n) = n
      go (no n) = absurd (true≢false (sym d ∙ declaration-beyond rows row (omega (arith, n, old.whole))))

  moved-declared : (row number : ℕ) → row < row_count rows → meant_from 64 joined (scope_at joined (ρ row)) number ≡ moved_link ρ (meant_from 64 rows (scope_at rows row) number)
  moved-declared row number n = rw (moved-scope row n) (moved-from 64 (scope_at rows row) number (omega (arith, scope-before rows old row n)) (scope-declared rows row))

  pub moved-meant : (row number : ℕ) → row < row_count rows → meant_at joined (ρ row) number ≡ moved_link ρ (meant_at rows row number)
  unfolding meant_at
  moved-meant row number n = rw (moved-declared row number n, out.around row n) (go (meant_from 64 rows (scope_at rows row) number) (meant-from rows 64 (scope_at rows row) number (scope-declared rows row)))
    where
      go : (declaration : ℕ) → NoneOrNumbered rows number declaration → pick (eqb (moved_link ρ declaration) 0) (parameter_at joined (moved_link ρ (function_around rows row)) number) (moved_link ρ declaration)
          ≡ moved_link ρ (pick (eqb declaration 0) (parameter_at rows (function_around rows row) number) declaration)
      go zero d = moved_at (function_around rows row) number (omega (arith, around-most rows old row n))
      go (suc declaration) (inl z) = absurd (omega arith)
      go (suc declaration) (inr d) = let up = above (suc declaration) (declared-inside (suc declaration) d.0) in rw (ne_eqb (ρ (suc declaration)) 0 (λ q. omega arith), ne_eqb (suc declaration) 0 (λ q. omega arith))
