-- What a statement's own row writes, and the links at which more is written, by its shape, a clause of `statement_writes` each.
use Rattle.std.specs.Prelude.{None, Some}
use mathlib.Core.Path.{◌≡◌, refl, sym, ap, ap₂, subst, ◌∙◌}
use mathlib.Core.Bool.{Bool, true, false, ◌||◌}
use mathlib.Core.List.{List}
use Prim.Native.Nat.{ℕ, zero, suc, ◌<◌}
use native.Mathlib.Omega.{arith}
use lib.Dec.{eqb}
use lib.IntN.{ℤ}
use Rattle.words.specs.Table.{number_at}
use Rattle.language.specs.Trees.{Expression, Part, absent, present, Statement, Items, Arms}
use Rattle.language.specs.Writes.{writes}
use Rattle.language.specs.FunctionWrites.{part_writes as parts_write, statement_writes, items_write, arms_write}
use Rattle.language.specs.Decode.{expression_at, part_at, statement_at, items_at, list_at, arms_at, arm_list_at}
use Rattle.language_shapes.specs.Shapes.{statement_tree, Onward, OptionalOnward, Initial, ItemAt, ArmAt}
use Rattle.language_shapes.specs.Source.{NamesFrom, StatementAt}
use Rattle.language_shapes.specs.declared.StatementShape.{StatementShape}
use Rattle.language_shapes.specs.declared.StatementShape.TheVariants.{Empty, Express, Block, If, While, Do, For, Switch, Break, Continue, Goto, GuardedIf, GuardedDo, Abort, Declare, Return}
use Rattle.language_shapes.specs.declared.MarkShape.{MarkShape}
use Rattle.language_shapes.specs.declared.Item.TheVariants.{Statement as StatementShaped, Mark, Definition}
use Rattle.write_sets.specs.Sets.{nothing, single}
use Rattle.write_sets.specs.declared.WriteSet.{WriteSet}
use Rattle.write_sets_rows.specs.WriteSets.{SetIs, part_writes}
use Rattle.write_sets_rows.proofs.WriteLaws.{or-none, set-nothing, set_single}
use Rattle.write_sets_functions.specs.Steps.{step_to, body_writes, steps_write, StepAt, StatementItem, ArmLinksAt}
use Rattle.write_sets_functions.specs.declared.Step.{Step}
use Rattle.write_sets_functions.specs.declared.ArmLinks.{ArmLinks}

-- ---- links

missing : {rows : List ℤ} {row : ℕ} → OptionalOnward rows row 0
missing h = absurd (omega arith)

here : {rows : List ℤ} {row link : ℕ} → Onward rows row link → OptionalOnward rows row link
here o h = o

part-at : (called : ℕ → ℕ → Bool) (rows : List ℤ) (link i : ℕ) → 0 < link → writes called (expression_at rows link) i ≡ part_writes called (part_at rows link) i
part-at called rows zero i h = absurd (omega arith)
part-at called rows (suc link) i h = refl

body-at : (called : ℕ → ℕ → Bool) (rows : List ℤ) (link i : ℕ) → 0 < link → statement_writes called (statement_at rows link) i ≡ body_writes called rows link i
body-at called rows zero i h = absurd (omega arith)
body-at called rows (suc link) i h = refl

same-part : (called : ℕ → ℕ → Bool) (p : Part) (i : ℕ) → parts_write called p i ≡ part_writes called p i
same-part called absent i = refl
same-part called (present e) i = refl

swapped : (a b : Bool) → (a || b) ≡ (b || (a || false))
swapped true true = refl
swapped true false = refl
swapped false true = refl
swapped false false = refl

module _ {rows : List ℤ} {row : ℕ} (called : ℕ → ℕ → Bool) where
  P : {a : ℕ} → Onward rows row a → (i : ℕ) → writes called (expression_at rows a) i ≡ part_writes called (part_at rows a) i
  P {a} o i = part-at called rows a i (omega (arith, o.later))

  B : {a : ℕ} → Onward rows row a → (i : ℕ) → statement_writes called (statement_at rows a) i ≡ body_writes called rows a i
  B {a} o i = body-at called rows a i (omega (arith, o.later))

-- ---- a row that writes nothing itself

module _ {S : ℕ} {rows : List ℤ} {row : ℕ} {sh : StatementShape} (f : StatementAt rows row sh) (called : ℕ → ℕ → Bool) where
  unwritten : {r : Step} (first second third body other list arms : ℕ) → r ≡ step_to first second third body other list arms
      → OptionalOnward rows row first → OptionalOnward rows row second → OptionalOnward rows row third → OptionalOnward rows row body → OptionalOnward rows row other → OptionalOnward rows row list → OptionalOnward rows row arms
      → ((i : ℕ) → statement_writes called (statement_tree rows sh) i ≡ steps_write called rows (step_to first second third body other list arms) i) → StepAt S rows called row r
  unwritten first second third body other list arms er a b c d e g h w = subst (λ (r : Step). StepAt S rows called row r) (sym er) (record {
    written = λ i. false;
    own = set-nothing refl;
    first = a;
    second = b;
    third = c;
    body = d;
    other = e;
    list = g;
    arms = h;
    all = λ i. ap (λ (t : Statement). statement_writes called t i) f.is ∙ w i;
  })

  -- that has no links
  pub plain_step : {r : Step} → ((i : ℕ) → statement_writes called (statement_tree rows sh) i ≡ false) → r ≡ step_to 0 0 0 0 0 0 0 → StepAt S rows called row r
  unfolding statement_writes
  plain_step w er = unwritten 0 0 0 0 0 0 0 er missing missing missing missing missing missing missing w

module _ {S : ℕ} {rows : List ℤ} {row : ℕ} (called : ℕ → ℕ → Bool) where
  pub empty-step : {r : Step} → StatementAt rows row Empty → r ≡ step_to 0 0 0 0 0 0 0 → StepAt S rows called row r
  unfolding statement_writes
  empty-step f er = plain_step f called (λ i. refl) er

  pub break-step : {r : Step} → StatementAt rows row Break → r ≡ step_to 0 0 0 0 0 0 0 → StepAt S rows called row r
  unfolding statement_writes
  break-step f er = plain_step f called (λ i. refl) er

  pub continue-step : {r : Step} → StatementAt rows row Continue → r ≡ step_to 0 0 0 0 0 0 0 → StepAt S rows called row r
  unfolding statement_writes
  continue-step f er = plain_step f called (λ i. refl) er

  pub goto-step : {l : ℕ} {r : Step} → StatementAt rows row (Goto l) → r ≡ step_to 0 0 0 0 0 0 0 → StepAt S rows called row r
  unfolding statement_writes
  goto-step f er = plain_step f called (λ i. refl) er

  pub abort-step : {r : Step} → StatementAt rows row Abort → r ≡ step_to 0 0 0 0 0 0 0 → StepAt S rows called row r
  unfolding statement_writes
  abort-step f er = plain_step f called (λ i. refl) er

  pub express-step : {e : ℕ} {r : Step} → StatementAt rows row (Express e) → r ≡ step_to e 0 0 0 0 0 0 → StepAt S rows called row r
  unfolding statement_writes
  express-step {e} f er = unwritten f called e 0 0 0 0 0 0 er (here f.onward) missing missing missing missing missing missing (λ i. P called f.onward i ∙ sym (or-none _))

  pub block-step : {list : ℕ} {r : Step} → StatementAt rows row (Block list) → r ≡ step_to 0 0 0 0 0 list 0 → StepAt S rows called row r
  unfolding statement_writes
  block-step {list} f er = unwritten f called 0 0 0 0 0 list 0 er missing missing missing missing missing f.onward missing (λ i. sym (or-none _))

  pub if-step : {e on_true on_false : ℕ} {r : Step} → StatementAt rows row (If e on_true on_false) → r ≡ step_to e 0 0 on_true on_false 0 0 → StepAt S rows called row r
  unfolding statement_writes
  if-step {e} {on_true} {on_false} f er = unwritten f called e 0 0 on_true on_false 0 0 er (here f.onward.0) missing missing (here f.onward.1) f.onward.2 missing missing (by on_false)
    where
      by : (other i : ℕ) → statement_writes called (statement_tree rows (If e on_true other)) i ≡ steps_write called rows (step_to e 0 0 on_true other 0 0) i
      by zero i = ap₂ ◌||◌ (P called f.onward.0 i) (B called f.onward.1 i ∙ sym (or-none _))
      by (suc other) i = ap₂ ◌||◌ (P called f.onward.0 i) (ap₂ ◌||◌ (B called f.onward.1 i) (sym (or-none _)))

  pub while-step : {e body : ℕ} {r : Step} → StatementAt rows row (While e body) → r ≡ step_to e 0 0 body 0 0 0 → StepAt S rows called row r
  unfolding statement_writes
  while-step {e} {body} f er =
      unwritten f called e 0 0 body 0 0 0 er (here f.onward.0) missing missing (here f.onward.1) missing missing missing (λ i. ap₂ ◌||◌ (P called f.onward.0 i) (B called f.onward.1 i ∙ sym (or-none _)))

  pub do-step : {body e : ℕ} {r : Step} → StatementAt rows row (Do body e) → r ≡ step_to e 0 0 body 0 0 0 → StepAt S rows called row r
  unfolding statement_writes
  do-step {body} {e} f er =
      unwritten f called e 0 0 body 0 0 0 er (here f.onward.1) missing missing (here f.onward.0) missing missing missing (λ i. ap₂ ◌||◌ (B called f.onward.0 i) (P called f.onward.1 i) ∙ swapped (body_writes called rows body i) (part_writes called (part_at rows e) i))

  pub for-step : {a b c body : ℕ} {r : Step} → StatementAt rows row (For a b c body) → r ≡ step_to a b c body 0 0 0 → StepAt S rows called row r
  unfolding statement_writes
  for-step {a} {b} {c} {body} f er =
      unwritten f called a b c body 0 0 0 er f.onward.0 f.onward.1 f.onward.2 (here f.onward.3) missing missing missing
      (λ i. ap₂ ◌||◌ (same-part called (part_at rows a) i) (ap₂ ◌||◌ (same-part called (part_at rows b) i) (ap₂ ◌||◌ (same-part called (part_at rows c) i) (B called f.onward.3 i ∙ sym (or-none _)))))

  pub switch-step : {e list : ℕ} {r : Step} → StatementAt rows row (Switch e list) → r ≡ step_to e 0 0 0 0 list 0 → StepAt S rows called row r
  unfolding statement_writes
  switch-step {e} {list} f er = unwritten f called e 0 0 0 0 list 0 er (here f.onward.0) missing missing missing missing f.onward.1 missing (λ i. ap₂ ◌||◌ (P called f.onward.0 i) (sym (or-none _)))

  pub guarded-if-step : {arms : ℕ} {r : Step} → StatementAt rows row (GuardedIf arms) → r ≡ step_to 0 0 0 0 0 0 arms → StepAt S rows called row r
  unfolding statement_writes
  guarded-if-step {arms} f er = unwritten f called 0 0 0 0 0 0 arms er missing missing missing missing missing missing f.onward (λ i. refl)

  pub guarded-do-step : {arms : ℕ} {r : Step} → StatementAt rows row (GuardedDo arms) → r ≡ step_to 0 0 0 0 0 0 arms → StepAt S rows called row r
  unfolding statement_writes
  guarded-do-step {arms} f er = unwritten f called 0 0 0 0 0 0 arms er missing missing missing missing missing missing f.onward (λ i. refl)

  pub return-step : {value : ℕ} {r : Step} → StatementAt rows row (Return value) → r ≡ step_to value 0 0 0 0 0 0 → StepAt S rows called row r
  unfolding statement_writes
  return-step {value} f er = unwritten f called value 0 0 0 0 0 0 er f.onward missing missing missing missing missing missing (λ i. same-part called (part_at rows value) i ∙ sym (or-none _))

  pub declare-step : {word e : ℕ} {own : WriteSet} {r : Step} → NamesFrom S rows → StatementAt rows row (Declare word e) → own ≡ single S word
      → r ≡ record { own = own; first = e; second = 0; third = 0; body = 0; other = 0; list = 0; arms = 0 } → StepAt S rows called row r
  unfolding statement_writes writes
  declare-step {word} {e} names f eo er = subst (λ (r : Step). StepAt S rows called row r) (sym er) (record {
    written = eqb word;
    own = set_single word (f.onward.0.named S names) eo;
    first = f.onward.1.onward;
    second = missing;
    third = missing;
    body = missing;
    other = missing;
    list = missing;
    arms = missing;
    all = λ i. ap (λ (t : Statement). statement_writes called t i) f.is ∙ ap (λ (x : Bool). eqb word i || x) (initial e f.onward.1 i ∙ sym (or-none _));
  })
    where
      -- an absent expression writes nothing, as a constant does
      initial : (e : ℕ) → Initial rows row e → (i : ℕ) → writes called (expression_at rows e) i ≡ part_writes called (part_at rows e) i
      initial zero o i = rw (o.absent refl)
      initial (suc e) o i = P called (o.onward (omega arith)) i

-- ---- items and arms

module _ {rows : List ℤ} {row : ℕ} where
  pub statement-item : {r : ℕ} → 0 < row → ItemAt rows row (number_at rows row 5) StatementShaped → r ≡ row → StatementItem rows row r
  unfolding items_write
  statement-item {r} there f e = record {
    own = λ h. e;
    behind = f.onward;
    all = λ called i. ap (λ (is : Items). items_write called is i) f.is ∙ ap (λ (x : Bool). x || items_write called (list_at rows (number_at rows row 5)) i) (body-at called rows row i there ∙ ap (λ (l : ℕ). body_writes called rows l i) (sym e));
  }

  pub mark-item : {m : MarkShape} {r : ℕ} → ItemAt rows row (number_at rows row 5) (Mark m) → r ≡ 0 → StatementItem rows row r
  unfolding items_write
  mark-item {r = r} f e = record {
    own = λ h. absurd (omega arith);
    behind = f.onward;
    all = λ called i. ap (λ (is : Items). items_write called is i) f.is ∙ ap (λ (l : ℕ). body_writes called rows l i || items_write called (list_at rows (number_at rows row 5)) i) (sym e);
  }

  pub definition-item : {g words body r : ℕ} → ItemAt rows row (number_at rows row 5) (Definition g words body) → r ≡ 0 → StatementItem rows row r
  unfolding items_write
  definition-item {r = r} f e = record {
    own = λ h. absurd (omega arith);
    behind = f.onward;
    all = λ called i. ap (λ (is : Items). items_write called is i) f.is ∙ ap (λ (l : ℕ). body_writes called rows l i || items_write called (list_at rows (number_at rows row 5)) i) (sym e);
  }

  pub some-arm : {guard body next read : ℕ} → ArmAt rows row next (Some (guard, body)) → read ≡ next → ArmLinksAt rows row (record { guard = guard; body = body; next = read })
  unfolding arms_write
  some-arm {guard} {body} {next} {read} f e = subst (λ (n : ℕ). ArmLinksAt rows row (record { guard = guard; body = body; next = n })) (sym e) (record {
    guard = here f.onward.0;
    body = here f.onward.1;
    next = f.behind;
    all = λ called i.
        ap (λ (arms : Arms). arms_write called arms i) f.is ∙ ap₂ ◌||◌ (P called f.onward.0 i) (ap (λ (x : Bool). x || arms_write called (arm_list_at rows next) i) (B called f.onward.1 i))
        ∙ sym (assoc (part_writes called (part_at rows guard) i) (body_writes called rows body i) (arms_write called (arm_list_at rows next) i));
  })
    where
      assoc : (a b c : Bool) → ((a || b) || c) ≡ (a || (b || c))
      assoc true b c = refl
      assoc false b c = refl

  pub no-arm : {next : ℕ} → ArmAt rows row next None → ArmLinksAt rows row (record { guard = 0; body = 0; next = 0 })
  unfolding arms_write
  no-arm f = record { guard = missing; body = missing; next = missing; all = λ called i. ap (λ (arms : Arms). arms_write called arms i) f.is }
