-- Lists that begin with definitions: what goes along the definitions of a list, and holds of the list behind them, holds of the list.
use Rattle.std.specs.Prelude.{◌≡◌, refl, Bool, true, false, List, ℕ, ◌<◌, ℤ}
use Rattle.std.proofs.Common.{sym, ◌∙◌, arith}
use Rattle.std.proofs.Math.Path.{ap}
use Rattle.std.proofs.lemmas.Bool.{false≢true}
use Rattle.words.specs.Table.{row_count, number_at}
use Rattle.words.specs.Kinds.{kind_at}
use Rattle.words.specs.Laws.{by_cases}
use Rattle.words.specs.Links.{link}
use Rattle.words.specs.declared.Form.{Form}
use Rattle.words.specs.declared.Kind.TheVariants.{OfStatement, Definition}
use Rattle.words.specs.declared.StatementKind.TheVariants.{Block}
use Rattle.language.specs.Trees.{Items, none, ◌then◌, ◌here◌, define}
use Rattle.language.specs.Decode.{list_at, parameter_list_at}
use Rattle.words_roles.specs.Roles.{is_definition}
use Rattle.check_fields.specs.declared.Bounds.{Bounds}
use Rattle.check_structure.specs.Structured.{Leads, Structured}
use Rattle.accepted_calls.specs.Kinds.{definition-kind}
use Rattle.accepted.proofs.Definitions.{Defines, defines}
use Rattle.accepted.proofs.Statements.{ListRow, no_items, item, case-item, default-item, label-item, definition-item, list-some}

starts_defined : Items → Bool
starts_defined none = false
starts_defined (s then is) = false
starts_defined (m here is) = false
starts_defined (define f words body is) = true

module _ (form : Form) (bounds : Bounds) (rows : List ℤ) (s : Structured form bounds rows) where
  -- a list that begins with no definition does not begin at one
  undefined : (l : ℕ) → 0 < l → l < row_count rows → (is : Items) → list_at rows l ≡ is → starts_defined is ≡ false → is_definition rows l ≡ false
  unfolding starts_defined
  undefined l p n is e other =
      by_cases (is_definition rows l)
      (λ d. absurd (false≢true (sym other ∙ ap starts_defined (sym e ∙ list-some rows l p ∙ (defines form bounds rows s l n (definition-kind rows l d)).items-is))))
      (λ d. d)

  pub by-definitions : (P : ℕ → Type 0)
      → ((l : ℕ) → 0 < l → kind_at rows l ≡ Definition → Leads rows l 3 → kind_at rows (link rows l 3) ≡ OfStatement Block → ListRow rows (link rows (link rows l 3) 1)
      → list_at rows l ≡ define (number_at rows l 1) (parameter_list_at rows (link rows l 2)) (list_at rows (link rows (link rows l 3) 1)) (list_at rows (link rows l 5)) → P (link rows l 5) → P l)
      → ((l : ℕ) → ListRow rows l → (0 < l → is_definition rows l ≡ false) → P l)
      → {l : ℕ} → ListRow rows l → (0 < l → l < row_count rows) → P l
  unfolding starts_defined
  by-definitions P onward rest {l} (no_items z e) inside = rest l (no_items z e) (λ p. absurd (omega arith))
  by-definitions P onward rest {l} (item p e x y) inside = rest l (item p e x y) (λ q. undefined l p (inside p) _ e refl)
  by-definitions P onward rest {l} (case-item p k e x y) inside = rest l (case-item p k e x y) (λ q. undefined l p (inside p) _ e refl)
  by-definitions P onward rest {l} (default-item p k e x y) inside = rest l (default-item p k e x y) (λ q. undefined l p (inside p) _ e refl)
  by-definitions P onward rest {l} (label-item p k e x y) inside = rest l (label-item p k e x y) (λ q. undefined l p (inside p) _ e refl)
  by-definitions P onward rest {l} (definition-item p k q r i e x y z) inside =
      onward l p k q r y e (by-definitions P onward rest z (λ s-some. (s.forward l (inside p) 5 (omega arith) (omega arith) s-some).inside))
