-- Laws of functions: arguments and parameters one after the other, and their lines printed behind others.
use Rattle.std.proofs.Math.Path.{◌≡◌, refl, ap}
use Rattle.std.proofs.Common.{sym, subst, ◌∙◌, arith, lt-ltb, le-ltb}
use Rattle.std.specs.Prelude.{Bool, true, false, ltb, ℤ, length, None, Some}
use mathlib.Core.List.{List, [], ◌∷◌, ◌++◌, append_assoc}
use Prim.Native.Nat.{ℕ, zero, suc, ◌+◌, ◌*◌, ◌≤◌, ◌<◌}
use Rattle.words.specs.Word.{pick}
use Rattle.words.specs.Table.{row_count, number_at}
use Rattle.words.specs.Declarations.{is_declaration}
use Rattle.language.specs.Decode.{later, parameters_at, parameter_list_at, argument_list_at, expression_at}
use Rattle.language.specs.DecodeLaws.{parameters-at}
use Rattle.language.specs.Calls.{argument_count}
use Rattle.page.specs.declared.Sizes.{Sizes}
use Rattle.page.specs.Lines.{Indented, indented, argument, last_argument, parameter, last_parameter, opens_function, opens_parameters, argument_lines, parameter_lines, definition_lines}
use Rattle.page_line.specs.Reads.{Readable, ArgumentRead}
use Rattle.page_line.specs.LaidLaws.{laid-length}
use Rattle.page_line.specs.Printed.{Printed}
use Rattle.page_line.specs.PrintedLaws.{printed-none, printed-next}
use Rattle.page_printer.specs.Outlines.{is_parameter}
use Rattle.page_printer.specs.Ready.{Ready}
use Rattle.page_printer.specs.ReadyLaws.{ready-first, ready-behind}
use Rattle.page_printer.specs.OutlineLaws.{next-later}

-- ---- arguments

module _ {rows : List ℤ} {link : ℕ} where
  pub argument-more : (e : ℕ) → ArgumentRead rows link (Some e) → argument_count (argument_list_at rows link) ≡ suc (argument_count (argument_list_at rows (number_at rows link 5)))
  unfolding argument_count
  argument-more e r = ap argument_count r.is

  pub argument-end : ArgumentRead rows link None → argument_count (argument_list_at rows link) ≡ 0
  unfolding argument_count
  argument-end r = ap argument_count r.is

  module _ (level row : ℕ) where
    pub argument-line : (e : ℕ) → ArgumentRead rows link (Some e)
        → argument_lines level (expression_at rows row) (argument_list_at rows link) ≡ indented level (argument (expression_at rows row)) ∷ argument_lines level (expression_at rows e) (argument_list_at rows (number_at rows link 5))
    unfolding argument_lines
    argument-line e r = ap (argument_lines level (expression_at rows row)) r.is

    pub last-argument-line : ArgumentRead rows link None → argument_lines level (expression_at rows row) (argument_list_at rows link) ≡ indented level (last_argument (expression_at rows row)) ∷ []
    unfolding argument_lines
    last-argument-line r = ap (argument_lines level (expression_at rows row)) r.is

-- ---- parameters

pub parameter-flag : (rows : List ℤ) (link : ℕ) {flag : Bool} → (link ≡ 0 → ⊥) → flag ≡ is_declaration rows link → flag ≡ is_parameter rows link
unfolding is_parameter
parameter-flag rows zero some e = absurd (some refl)
parameter-flag rows (suc link) some e = e

pub no-parameter-flag : (rows : List ℤ) (link : ℕ) → link ≡ 0 → false ≡ is_parameter rows link
unfolding is_parameter
no-parameter-flag rows zero z = refl
no-parameter-flag rows (suc link) z = absurd (omega arith)

module _ {rows : List ℤ} (readable : Readable rows) where
  onward-list : (link next : ℕ) → (0 < next → link < next) → later [] link (parameters_at rows) next ≡ parameter_list_at rows next
  onward-list link zero later-on = rw (le-ltb link 0 (omega arith))
  onward-list link (suc next) later-on = rw (lt-ltb link (suc next) (later-on (omega arith)))

  pub parameter-more : (link : ℕ) → link < row_count rows → is_parameter rows link ≡ true → parameter_list_at rows link ≡ number_at rows link 1 ∷ parameter_list_at rows (number_at rows link 5)
  unfolding is_parameter
  parameter-more zero inside e = absurd (let z : ◌≡◌ {A = ℕ} 0 1 = cc in omega arith)
  parameter-more (suc link) inside e =
      rw (parameters-at rows readable.sound.whole (suc link), e) (ap (λ (l : List ℕ). number_at rows (suc link) 1 ∷ l) (onward-list (suc link) (number_at rows (suc link) 5) (next-later readable inside)))

  pub parameter-none : (link : ℕ) → is_parameter rows link ≡ false → parameter_list_at rows link ≡ []
  unfolding is_parameter
  parameter-none zero e = refl
  parameter-none (suc link) e = rw (parameters-at rows readable.sound.whole (suc link), e)

  module _ (level word : ℕ) (next : ℕ) where
    pub parameter-line : next < row_count rows → is_parameter rows next ≡ true
        → parameter_lines level word (parameter_list_at rows next) ≡ indented level (parameter word) ∷ parameter_lines level (number_at rows next 1) (parameter_list_at rows (number_at rows next 5))
    unfolding parameter_lines
    parameter-line inside e = ap (parameter_lines level word) (parameter-more next inside e)

    pub last-parameter-line : is_parameter rows next ≡ false → parameter_lines level word (parameter_list_at rows next) ≡ indented level (last_parameter word) ∷ []
    unfolding parameter_lines
    last-parameter-line e = ap (parameter_lines level word) (parameter-none next e)

  pub definition-alone : (level f link : ℕ) → is_parameter rows link ≡ false → definition_lines level f (parameter_list_at rows link) ≡ indented level (opens_function f) ∷ []
  definition-alone level f link e = ap (definition_lines level f) (parameter-none link e)

  pub definition-more : (level f link : ℕ) → link < row_count rows → is_parameter rows link ≡ true
      → definition_lines level f (parameter_list_at rows link) ≡ indented level (opens_parameters f) ∷ parameter_lines level (number_at rows link 1) (parameter_list_at rows (number_at rows link 5))
  definition-more level f link inside e = ap (definition_lines level f) (parameter-more link inside e)

-- ---- lines printed behind others

-- Of all lines those before the rest were printed.
pub record Printing (sizes : Sizes) (all rest : List Indented) (page : List ℕ) (done lines : ℕ) (left : List ℕ) : Type 0 where
  pub before : List Indented
  pub split : all ≡ before ++ rest
  pub printed : Printed sizes before page done lines left

pub printing-start : (sizes : Sizes) (all : List Indented) (page : List ℕ) (done : ℕ) → 81 * done ≤ length page → Printing sizes all all page done done page
printing-start sizes all page done room = record { before = []; split = refl; printed = printed-none page done room }

module _ {sizes : Sizes} {all rest : List Indented} {page left : List ℕ} {done lines : ℕ} (p : Printing sizes all rest page done lines left) where
  pub printing-length : length left ≡ length page
  printing-length = laid-length p.printed.laid

  pub printing-as : {others : List Indented} → rest ≡ others → Printing sizes all others page done lines left
  printing-as e = record { before = p.before; split = p.split ∙ ap (λ (l : List Indented). p.before ++ l) e; printed = p.printed }

  pub printing-ready : {rows : List ℤ} {level : ℕ} → Ready sizes rows all level done page → Ready sizes rows rest level lines left
  printing-ready {rows} {level} ready = ready-behind p.before rest (subst (λ (ls : List Indented). Ready sizes rows ls level done page) p.split ready) p.printed

-- the first line of the rest
module _ {sizes : Sizes} {all rest : List Indented} {line : Indented} {page left : List ℕ} {done lines : ℕ} (p : Printing sizes all (line ∷ rest) page done lines left) where
  pub printing-first : {rows : List ℤ} {level : ℕ} → Ready sizes rows all level done page → Ready sizes rows (line ∷ []) level lines left
  printing-first ready = ready-first (line ∷ []) rest (printing-ready p ready)

  pub printing-next : {last : List ℕ} {next : ℕ} → Printed sizes (line ∷ []) left lines next last → Printing sizes all rest page done next last
  printing-next q = record { before = p.before ++ (line ∷ []); split = p.split ∙ sym (append_assoc p.before (line ∷ []) rest); printed = printed-next p.printed q }

pub printing-end : {sizes : Sizes} {all : List Indented} {line : Indented} {page left last : List ℕ} {done lines next : ℕ} → Printing sizes all (line ∷ []) page done lines left
    → Printed sizes (line ∷ []) left lines next last → Printed sizes all page done next last
printing-end {sizes} {all} {line} {page} {left} {last} {done} {lines} {next} p q =
    subst (λ (ls : List Indented). Printed sizes ls page done next last) (sym p.split) (printed-next p.printed q)
