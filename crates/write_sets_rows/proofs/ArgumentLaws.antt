-- The sets of a call's arguments, joined along their list.
use Rattle.std.specs.Prelude.{None, Some}
use mathlib.Core.Path.{◌≡◌, refl, sym, ap, subst, ◌∙◌}
use mathlib.Core.Bool.{Bool, true, false, ◌||◌}
use mathlib.Core.List.{List}
use Prim.Native.Nat.{ℕ, zero, suc, ◌+◌, ◌-◌, ◌<◌}
use native.Mathlib.Omega.{arith}
use lib.IntN.{ℤ}
use Rattle.words.specs.Table.{row_count}
use Rattle.language.specs.Trees.{Arguments, no_more, ◌also◌}
use Rattle.language.specs.Writes.{writes, arguments_write}
use Rattle.language.specs.Decode.{expression_at, arguments_at, argument_list_at}
use Rattle.language_shapes.specs.Shapes.{Onward, OptionalOnward, ArgumentAt}
use Rattle.write_sets.specs.Sets.{nothing, join}
use Rattle.write_sets.specs.declared.WriteSet.{WriteSet}
use Rattle.measures_table.specs.Parts.{called_in}
use Rattle.write_sets_rows.specs.WriteSets.{SetIs, set_at, SetsFrom, first_writes, behind_first, NextArgument}
use Rattle.write_sets_rows.proofs.WriteLaws.{or_assoc, or-none, set-nothing, set-join, set-as, link_set}

-- ---- one argument

module _ {S : ℕ} {rows : List ℤ} {row next : ℕ} where
  pub argument-set : {sets : List WriteSet} {e : ℕ} {s : WriteSet} → SetsFrom S rows sets (row + 1) → ArgumentAt rows row next (Some e) → s ≡ set_at sets e → SetIs S s (first_writes (called_in rows) (arguments_at rows row))
  argument-set {e = e} m f h = rw f.is (set-as (writes (called_in rows) (expression_at rows e)) _ (link_set m f.onward h) (λ i. refl))

  pub no-argument-set : {s : WriteSet} → ArgumentAt rows row next None → s ≡ nothing → SetIs S s (first_writes (called_in rows) (arguments_at rows row))
  no-argument-set f h = rw f.is (set-as (λ i. false) _ (set-nothing h) (λ i. refl))

pub argument-behind : {rows : List ℤ} {row next read e : ℕ} → read ≡ next → ArgumentAt rows row next (Some e) → NextArgument rows row read
argument-behind h f = rw h (record { is = sym (ap behind_first f.is); onward = f.behind })

pub no-argument-behind : {rows : List ℤ} {row next : ℕ} → ArgumentAt rows row next None → NextArgument rows row 0
no-argument-behind f = record { is = sym (ap behind_first f.is); onward = λ h. absurd (omega arith) }

-- ---- along the list

by_first : (called : ℕ → ℕ → Bool) (arguments : Arguments) (i : ℕ) → arguments_write called arguments i ≡ (first_writes called arguments i || arguments_write called (behind_first arguments) i)
unfolding arguments_write
by_first called no_more i = refl
by_first called (e also arguments) i = refl

pub list-some : (rows : List ℤ) (link : ℕ) → 0 < link → argument_list_at rows link ≡ arguments_at rows link
list-some rows zero h = absurd (omega arith)
list-some rows (suc link) h = refl

-- What the arguments before this one write is in the set.
pub record Gathered (S : ℕ) (rows : List ℤ) (row first : ℕ) (s : WriteSet) (link : ℕ) : Type 0 where
  pub before : ℕ → Bool
  pub is : SetIs S s before
  pub rest : (i : ℕ) → (before i || arguments_write (called_in rows) (argument_list_at rows link) i) ≡ arguments_write (called_in rows) (argument_list_at rows first) i
  pub onward : OptionalOnward rows row link

-- How far it is to the end of the table; nothing where the list has ended.
abbrev pub rows_left : ℕ → ℕ → ℕ
rows_left count zero = 0
rows_left count (suc link) = count - suc link

pub left_less : {rows : List ℤ} (link next : ℕ) → link < row_count rows → OptionalOnward rows link next → 0 < link → rows_left (row_count rows) next < rows_left (row_count rows) link
left_less zero next h o p = absurd (omega arith)
left_less (suc link) zero h o p = omega arith
left_less (suc link) (suc next) h o p = let x = o (omega arith) in omega (arith, x.later, x.inside)

module _ {S : ℕ} {rows : List ℤ} {row first : ℕ} where
  pub gathered_none : {s : WriteSet} → OptionalOnward rows row first → s ≡ nothing → Gathered S rows row first s first
  gathered_none o h = record { before = λ i. false; is = set-nothing h; rest = λ i. refl; onward = o }

  pub gathered_next : {s t u : WriteSet} {link next : ℕ} → Gathered S rows row first s link → 0 < link → SetIs S t (first_writes (called_in rows) (arguments_at rows link)) → u ≡ join s t → NextArgument rows link next → Gathered S rows row first u next
  gathered_next {s} {t} {u} {link} {next} g p x h n = record {
    before = λ i. g.before i || first_writes (called_in rows) (arguments_at rows link) i;
    is = set-join s t g.before _ g.is x h;
    rest = λ i. or_assoc (g.before i) _ _ ∙ ap (λ (b : Bool). g.before i || b) (step i) ∙ g.rest i;
    onward = λ q. let a = g.onward p in let b = n.onward q in record { later = omega (arith, a.later, b.later); inside = b.inside };
  }
    where
      step : (i : ℕ) → (first_writes (called_in rows) (arguments_at rows link) i || arguments_write (called_in rows) (argument_list_at rows next) i) ≡ arguments_write (called_in rows) (argument_list_at rows link) i
      step i = ap (λ (a : Arguments). first_writes (called_in rows) (arguments_at rows link) i || arguments_write (called_in rows) a i) n.is ∙ sym (by_first (called_in rows) (arguments_at rows link) i) ∙ ap (λ (a : Arguments). arguments_write (called_in rows) a i) (sym (list-some rows link p))

  pub gathered-all : {s : WriteSet} {link : ℕ} → Gathered S rows row first s link → link ≡ 0 → SetIs S s (arguments_write (called_in rows) (argument_list_at rows first))
  unfolding arguments_write
  gathered-all {s} {link} g e = set-as g.before _ g.is (λ i. sym (or-none (g.before i)) ∙ ap (λ (l : ℕ). g.before i || arguments_write (called_in rows) (argument_list_at rows l) i) (sym e) ∙ g.rest i)
