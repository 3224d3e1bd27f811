-- Laws of the brief tests: the checks answer the same.
use Rattle.std.specs.Prelude.{◌≡◌, Bool, true, false, List, [], ◌∷◌, map, ℕ, zero, suc, ◌+◌, ◌*◌, ◌≤◌, leb, ℤ, Err, None, Ok, Option, Result}
use Rattle.words.specs.Refusals.{NumberedRefusal}
use Rattle.std.proofs.Math.Path.{refl, ap}
use Rattle.std.proofs.Common.{sym, ap₂, ◌∙◌, arith, leb-true}
use Rattle.words.specs.Word.{pick}
use Rattle.words.specs.Table.{row_count}
use Rattle.words.specs.Layout.{depth_limit}
use Rattle.words.specs.Search.{lowest_row}
use Rattle.words.specs.SearchLaws.{lowest_row-same}
use Rattle.words.specs.declared.Form.{Form}
use Rattle.words.specs.declared.Form.TheVariants.{Source, Kernel}
use Rattle.check_fields.specs.Fields.{bounds_of}
use Rattle.check_structure.specs.Links.{links_among, link_count, not_once, too_deep}
use Rattle.check_structure.specs.DepthLaws.{depth-inside, shallow-none-deep}
use Rattle.check_structure.specs.Refusal.{at, unless, ◌next◌, row_causes, structural_refusal}
use Rattle.check_structure.specs.Structured.{Depth, root, owned, beside}
use Rattle.check_structure.specs.StructuredLaws.{accepted-structured, structured-tree}
use Rattle.check_declaration_causes.specs.Causes.{declared_before}
use Rattle.check_function_causes.specs.Causes.{function_refusal}
use Rattle.check_source.specs.Refusal.{later_refusal, refusal as source_refusal}
use Rattle.check_kernel.specs.Refusal.{form_causes, kernel_causes, refusal as kernel_refusal}
use Rattle.check_brief.specs.Brief.{targets, times, brief_causes, brief_structure, brief_depth, brief_source, brief_kernel}

-- ---- links

times-linked : (rows : List ℤ) (words row : ℕ) → times (targets rows words) row ≡ links_among rows words row
unfolding targets times links_among
times-linked rows zero row = refl
times-linked rows (suc word) row = rw (times-linked rows word row)

-- ---- depth

-- each level takes a later row
depth-few : {rows : List ℤ} {row depth : ℕ} → Depth rows row depth → depth ≤ row + 1
depth-few root = omega arith
depth-few (owned h leads d) = let less = depth-few d in let later = leads.later in omega arith
depth-few (beside leads d) = let less = depth-few d in let later = leads.later in omega arith

-- ---- chains of causes: the later ones count only where the first accept

same_next : (verdict rest other : Result (Unit {0}) NumberedRefusal) → (verdict ≡ Ok tt → rest ≡ other) → (verdict next rest) ≡ (verdict next other)
unfolding ◌next◌
same_next (Ok tt) rest other e = e refl
same_next (Err refusal) rest other e = refl

-- ---- the same answers

module _ (form : Form) (header rows : List ℤ) where
  same-causes : row_causes form (bounds_of form header) rows ≡ brief_causes form header rows (targets rows (6 * row_count rows))
  unfolding brief_causes row_causes link_count
  same-causes =
      let same = lowest_row-same rows (λ (row : ℕ). not_once rows (times (targets rows (6 * row_count rows)) row) row) (λ (row : ℕ). not_once rows (link_count rows row) row)
      (λ row n. ap (λ (count : ℕ). not_once rows count row) (times-linked rows (6 * row_count rows) row)) in
      rw same

  same-structure : structural_refusal form header rows ≡ brief_structure form header rows
  unfolding brief_structure structural_refusal
  same-structure = rw same-causes

  few-shallow : row_count rows ≤ depth_limit form → structural_refusal form header rows ≡ Ok tt → lowest_row rows (too_deep form rows) ≡ None
  few-shallow few e =
      let t = structured-tree form _ rows (accepted-structured form header rows e).1 in
      shallow-none-deep rows t form (λ row depth d. let inside = depth-inside rows t d in let less = depth-few d in omega arith)

  same-depth-by : (few : Bool) → leb (row_count rows) (depth_limit form) ≡ few → structural_refusal form header rows ≡ Ok tt → lowest_row rows (too_deep form rows) ≡ pick few None (lowest_row rows (too_deep form rows))
  same-depth-by true few e = few-shallow (leb-true _ _ few) e
  same-depth-by false few e = refl

  same-depth : structural_refusal form header rows ≡ Ok tt → lowest_row rows (too_deep form rows) ≡ brief_depth form rows
  unfolding brief_depth
  same-depth e = same-depth-by (leb (row_count rows) (depth_limit form)) refl e

-- where the first six causes accept, the cause of depth may be the brief one
skip-depth : (form : Form) (header rows : List ℤ) (rest : Result (Unit {0}) NumberedRefusal) → structural_refusal form header rows ≡ Ok tt → (at 9 (lowest_row rows (too_deep form rows)) next rest) ≡ (at 9 (brief_depth form rows) next rest)
skip-depth form header rows rest e = ap (λ (found : Option ℕ). at 9 found next rest) (same-depth form header rows e)

pub same_source : (header rows : List ℤ) → source_refusal header rows ≡ brief_source header rows
unfolding brief_source source_refusal later_refusal
same_source header rows =
    rw (← same-structure Source header rows)
    (same_next (structural_refusal Source header rows) _ _ (λ e.
    same_next (at 7 _) _ _ (λ _. same_next (at 8 _) _ _ (λ _. skip-depth Source header rows _ e))))

pub same-kernel : (header rows : List ℤ) → kernel_refusal header rows ≡ brief_kernel header rows
unfolding brief_kernel kernel_refusal kernel_causes form_causes
same-kernel header rows =
    rw (← same-structure Kernel header rows)
    (same_next (structural_refusal Kernel header rows) _ _ (λ e.
    same_next (at 7 _) _ _ (λ _. ap (λ (verdict : Result (Unit {0}) NumberedRefusal). verdict next at 19 (lowest_row rows (declared_before rows)) next function_refusal rows) (skip-depth Kernel header rows _ e))))

-- ---- tables

-- what is answered of each of a list, where two tests answer the same
pub map_same : {A : Type 0} (test other : A → Result (Unit {0}) NumberedRefusal) → ((a : A) → test a ≡ other a) → (list : List A) → map test list ≡ map other list
map_same test other same [] = refl
map_same test other same (a ∷ rest) = ap₂ ◌∷◌ (same a) (map_same test other same rest)
