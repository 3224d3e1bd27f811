-- Walks along links: functions, arguments and parameters by the rows that hold them.
use mathlib.Core.Path.{◌≡◌, refl, sym, ap, ◌∙◌}
use mathlib.Core.Bool.{Bool, true, false, ◌&&◌, true≢false}
use mathlib.Core.List.{List, [], ◌∷◌}
use Prim.Native.Nat.{ℕ, zero, suc, ◌+◌, ◌-◌, ◌<◌, ◌≤◌}
use native.Mathlib.Omega.{arith}
use borrow.Author.Tests.{lt-ltb, eqb-true}
use lib.Dec.{ltb}
use lib.IntN.{ℤ}
use lib.ListN.{length, drop}
use Rattle.words.specs.Table.{row_count, number_at}
use Rattle.words.specs.Declarations.{is_declaration}
use Rattle.words.specs.Kinds.{kinds, kind_in, kind_of, kind_at, is_required, kind_row, member_fields, sort_in}
use Rattle.words.specs.KindLaws.{kind-numbered}
use Rattle.words.specs.declared.Kind.TheVariants.{OfStatement, OfMember}
use Rattle.words.specs.declared.StatementKind.TheVariants.{Declare}
use Rattle.words.specs.declared.MemberKind.TheVariants.{Argument}
use Rattle.language.specs.Trees.{◌also◌}
use Rattle.language.specs.Decode.{expression_at, arguments_at, argument_list_at, parameters_at, parameter_list_at}
use Rattle.language.specs.DecodeLaws.{parameters-at, at-parameter, at-argument}
use Rattle.language.specs.Calls.{argument_count}
use Rattle.language.specs.SoundLaws.{link-of}
use Rattle.machine_flows.specs.Calls.{ArgumentsAt, row_behind}
use Rattle.machine_flows.specs.Lists.{InTable}
use Rattle.machine_flows.proofs.Items.{at_row, next-later, next-below, next_is, ahead, ahead-falls}

-- ---- arguments

pub argument-list : (rows : List ℤ) (at : ℕ) → (at ≡ 0 → ⊥) → argument_list_at rows at ≡ arguments_at rows at
argument-list rows zero z = absurd (z refl)
argument-list rows (suc at) z = refl

module _ {rows : List ℤ} {at : ℕ} (arguments : ArgumentsAt rows at) (z : at ≡ 0 → ⊥) where
  pub argument-here : kind_at rows at ≡ OfMember Argument
  argument-here = arguments.argument_is (omega arith)

  next_argument : ArgumentsAt rows (number_at rows at 5)
  next_argument = record {
    table = at_row arguments.table (next-below arguments.table);
    links = arguments.links;
    argument_is = arguments.links.next_argument at arguments.table.below argument-here;
  }

  pub arguments-next : {r : ℕ} → r ≡ number_at rows at 5 → ArgumentsAt rows r
  arguments-next e = rw e next_argument

  pub argument-tree : argument_list_at rows at ≡ expression_at rows (number_at rows at 1) also argument_list_at rows (number_at rows at 5)
  unfolding is_required sort_in kind_row member_fields
  argument-tree =
      argument-list rows at z
      ∙ at-argument rows arguments.table.sound.whole at argument-here (link-of arguments.table.sound arguments.table.below argument-here 1 (omega arith) (omega arith) refl).later (next-later arguments.table)

  pub count-here : argument_count (argument_list_at rows at) ≡ suc (argument_count (argument_list_at rows (number_at rows at 5)))
  unfolding argument_count
  count-here = ap argument_count argument-tree

no_arguments : (rows : List ℤ) (at : ℕ) → at ≡ 0 → argument_count (argument_list_at rows at) ≡ 0
unfolding argument_count
no_arguments rows at e = rw e

-- a row is that of an argument
pub record IsArgument (rows : List ℤ) (r : ℕ) : Type 0 where
  pub below : r < row_count rows
  pub argument_is : kind_at rows r ≡ OfMember Argument

-- each argument's row is one
pub argument-at : (rows : List ℤ) (k first : ℕ) → ArgumentsAt rows first → k < argument_count (argument_list_at rows first) → IsArgument rows (row_behind rows first k)
unfolding row_behind
argument-at rows zero first a h = record { below = a.table.below; argument_is = argument-here a (λ e. omega (arith, h, no_arguments rows first e)) }
argument-at rows (suc k) first a h =
    let z : first ≡ 0 → ⊥ = λ e. omega (arith, h, no_arguments rows first e) in
    argument-at rows k (number_at rows first 5) (arguments-next a z refl) (omega (arith, h, count-here a z))

-- the count has come to the row `at`
pub record Counted (rows : List ℤ) (first at k : ℕ) : Type 0 where
  pub arguments : ArgumentsAt rows at
  pub total : argument_count (argument_list_at rows first) ≡ k + argument_count (argument_list_at rows at)
  pub few : k + ahead (row_count rows) at ≤ row_count rows

module _ {rows : List ℤ} {first : ℕ} where
  pub counted-first : ArgumentsAt rows first → Counted rows first first 0
  counted-first a = record { arguments = a; total = omega arith; few = by first }
    where
      by : (l : ℕ) → 0 + ahead (row_count rows) l ≤ row_count rows
      by zero = omega arith
      by (suc l) = omega arith

  module _ {at k : ℕ} (c : Counted rows first at k) where
    module _ (z : at ≡ 0 → ⊥) {r : ℕ} (e : r ≡ number_at rows at 5) where
      pub count-falls : ahead (row_count rows) r < ahead (row_count rows) at
      count-falls = ahead-falls (row_count rows) at r z c.arguments.table.below (next_is c.arguments.table e).1

      pub counted_next : {j : ℕ} → j ≡ suc k → Counted rows first r j
      counted_next g = record {
        arguments = arguments-next c.arguments z e;
        total = c.total ∙ omega (arith, count-here c.arguments z, ap (λ (l : ℕ). argument_count (argument_list_at rows l)) e);
        few = omega (arith, c.few, count-falls);
      }

      pub count_small : k + 1 < 65536
      count_small = omega (arith, c.few, count-falls, c.arguments.table.few_rows)

    pub counted-all : at ≡ 0 → k ≡ argument_count (argument_list_at rows first)
    counted-all e = sym (c.total ∙ omega (arith, no_arguments rows at e))

-- ---- the row so many links behind a first one

-- the walk has come to the row `at`, k links behind
pub record Walked (rows : List ℤ) (first links at k : ℕ) : Type 0 where
  pub table : InTable rows at
  pub before : k ≤ links
  pub row_is : row_behind rows first links ≡ row_behind rows at (links - k)

module _ {rows : List ℤ} {first links : ℕ} where
  pub walked-first : InTable rows first → Walked rows first links first 0
  walked-first table = record { table = table; before = omega arith; row_is = ap (row_behind rows first) (omega arith) }

  module _ {at k : ℕ} (w : Walked rows first links at k) where
    pub walked_next : k < links → {r j : ℕ} → r ≡ number_at rows at 5 → j ≡ suc k → Walked rows first links r j
    unfolding row_behind
    walked_next h {r} {j} e g = record {
      table = at_row w.table (next_is w.table e).0;
      before = omega arith;
      row_is = w.row_is ∙ ap (row_behind rows at) (let q : links - k ≡ suc (links - j) = omega arith in q) ∙ ap (λ (l : ℕ). row_behind rows l (links - j)) (sym e);
    }

    pub walked_all : links ≤ k → at ≡ row_behind rows first links
    unfolding row_behind
    walked_all h = sym (w.row_is ∙ ap (row_behind rows at) (let q : links - k ≡ 0 = omega (arith, w.before) in q))

-- ---- parameters

-- whether a parameter stands at the row; at 0 there is none
unfoldable pub is_parameter : List ℤ → ℕ → Bool
is_parameter rows row = ltb 0 row && is_declaration rows row

pub parameter-list : (rows : List ℤ) (at : ℕ) → (at ≡ 0 → ⊥) → parameter_list_at rows at ≡ parameters_at rows at
parameter-list rows zero z = absurd (z refl)
parameter-list rows (suc at) z = refl

module _ {rows : List ℤ} {at : ℕ} (item : InTable rows at) where
  parameter-some : is_parameter rows at ≡ true → (at ≡ 0 → ⊥) × (is_declaration rows at ≡ true)
  unfolding is_parameter
  parameter-some t = by at (is_declaration rows at) t
    where
      by : (l : ℕ) (b : Bool) → (ltb 0 l && b) ≡ true → (l ≡ 0 → ⊥) × (b ≡ true)
      by zero b t = absurd (let w : ◌≡◌ {A = ℕ} 0 1 = cc in omega arith)
      by (suc l) true t = ((λ e. omega arith), refl)
      by (suc l) false t = absurd (true≢false (sym (rw (lt-ltb 0 (suc l) (omega arith)) at t)))

  pub parameter-tree : is_parameter rows at ≡ true → parameter_list_at rows at ≡ number_at rows at 1 ∷ parameter_list_at rows (number_at rows at 5)
  parameter-tree t = parameter-list rows at (parameter-some t).0 ∙ at-parameter rows item.sound.whole at (parameter-some t).1 (next-later item)

  pub parameter-kind : is_parameter rows at ≡ true → kind_at rows at ≡ OfStatement Declare
  unfolding is_declaration kinds kind_in kind_of
  parameter-kind t = kind-numbered rows at refl 58 (eqb-true (number_at rows at 0) 58 (parameter-some t).1)

  pub parameter-end : is_parameter rows at ≡ false → parameter_list_at rows at ≡ []
  unfolding is_parameter
  parameter-end t = by at refl (is_declaration rows at) refl t
    where
      by : (l : ℕ) → l ≡ at → (b : Bool) → is_declaration rows at ≡ b → (ltb 0 l && b) ≡ false → parameter_list_at rows l ≡ []
      by zero e b q t = refl
      by (suc l) e true q t = absurd (true≢false (rw (lt-ltb 0 (suc l) (omega arith)) at t))
      by (suc l) e false q t = ap (parameters_at rows) e ∙ parameters-at rows item.sound.whole at ∙ rw q

  some-parameter : 0 < length (parameter_list_at rows at) → is_parameter rows at ≡ true
  some-parameter h = by (is_parameter rows at) refl
    where
      by : (b : Bool) → is_parameter rows at ≡ b → is_parameter rows at ≡ true
      by true e = e
      by false e = absurd (omega (arith, h, ap length (parameter-end e)))

-- the row is that of the parameter at place k, and names its word
pub record IsParameter (rows : List ℤ) (first k r : ℕ) : Type 0 where
  pub below : r < row_count rows
  pub kind_is : kind_at rows r ≡ OfStatement Declare
  pub words_are : drop k (parameter_list_at rows first) ≡ number_at rows r 1 ∷ drop (suc k) (parameter_list_at rows first)

-- each parameter's row is one
pub parameter-at : (rows : List ℤ) (k first : ℕ) → InTable rows first → k < length (parameter_list_at rows first) → IsParameter rows first k (row_behind rows first k)
unfolding row_behind
parameter-at rows zero first table h =
    let tree = parameter-tree table (some-parameter table (omega (arith, h))) in
    record { below = table.below; kind_is = parameter-kind table (some-parameter table (omega (arith, h))); words_are = tree ∙ ap (λ (l : List ℕ). number_at rows first 1 ∷ drop 1 l) (sym tree) }
parameter-at rows (suc k) first table h =
    let tree = parameter-tree table (some-parameter table (omega (arith, h))) in
    let next = parameter-at rows k (number_at rows first 5) (at_row table (next-below table)) (omega (arith, h, ap length tree)) in
    record { below = next.below; kind_is = next.kind_is; words_are = ap (drop (suc k)) tree ∙ next.words_are ∙ ap (λ (l : List ℕ). number_at rows (row_behind rows (number_at rows first 5) k) 1 ∷ drop (suc (suc k)) l) (sym tree) }
