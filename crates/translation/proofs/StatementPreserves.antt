-- Every statement and its code go alike: the rules of StatementRules, put together by induction on the statement.
use Rattle.std.specs.Prelude.{◌≡◌, refl, Bool, true, false, ℕ, ◌+◌, ◌*◌, ◌≤◌, length}
use native.Mathlib.Omega.{arith}
use Rattle.words.specs.Layout.{Layout}
use Rattle.computation.specs.Computation.{Computation, ret, ◌>>◌, again}
use Rattle.computation.specs.Run.{State}
use Rattle.language.specs.Trees.{Expression, variable, Part, absent, present, label, has, Statement, empty, express, block, if_then, if_else, while, do_while, for, switch, break, continue, goto, guarded_if, guarded_do, abort, declare, give_back, Arms, no_arm, arm, Items, none, ◌then◌, ◌here◌, define, ◌⧺◌}
use Rattle.language.specs.Meaning.{Signal, enter, value_of, rounds, perform, choose, choice_rounds}
use Rattle.language.specs.Calls.{CallsBelow, PartCallsBelow, StatementCallsBelow, ArmsCallBelow, ItemsCallBelow}
use Rattle.language.specs.WellFormed.{NamedPart, NamedStatement, NamedArms, NamedItems, Placed, PlacedArms, PlacedItems, SourceName}
use Rattle.translation.specs.Uses.{direct}
use Rattle.translation.specs.declared.Use.TheVariants.{Wanted as wanted, Stored as stored}
use Rattle.translation.specs.Translate.{part_code, test_code, loop_code, labels, Exits, exits, rounds_code, statement_code, arms_code, items_code, part_levels, expression_levels, statement_levels, arms_levels, items_levels}
use Rattle.translation.specs.TranslateSize.{store_rows, expression_size, part_size, cases, rounds_rows, statement_size, arms_size, items_size}
use Rattle.translation.specs.Related.{Setting, source_in, Frame}
use Rattle.translation.proofs.CallRules.{CallsGo}
use Rattle.translation.proofs.PassedCode.{plain-expression, plain-part, plain-arms, apart_below, own-labels}
use Rattle.translation.proofs.ExpressionPreserves.{InRange, own-size, wanted-goes, value-goes, dropped-goes, declared-goes}
use Rattle.translation.proofs.StatementRules.{Below, Runs, RunsOn, Turns, Drops, drops-absent, drops-present, turns-action, turns-again, turns-test, turns-body, pay-statement, runs-empty, runs-express, runs-declare, runs_block, runs-if_then, runs-if_else, runs_return, runs-return-nothing, runs-break, runs-continue, runs_loop, runs_after, runs_none, runs_then, runs_here, runs_switch}
use Rattle.translation.proofs.GuardedRules.{Chooses, chooses_none, chooses-enter, chooses-arm, runs-guarded_if, runs-guarded_do}

abbrev rounds_steps : Arms → ℕ
rounds_steps no_arm = 1
rounds_steps (arm e s arms) = 2

-- The kernel steps that a statement's own row has to pay.
abbrev own_steps : Statement → ℕ
own_steps empty = 1
own_steps (express e) = 1
own_steps (block is) = 1
own_steps (if_then e on_true) = 3
own_steps (if_else e on_true on_false) = 3
own_steps (while e body) = 2
own_steps (do_while body e) = 2
own_steps (for first test action body) = 2
own_steps (switch e is) = 11 * cases is + 2
own_steps break = 1
own_steps continue = 1
own_steps (goto l) = 1
own_steps (guarded_if arms) = 1
own_steps (guarded_do arms) = rounds_steps arms
own_steps abort = 1
own_steps (declare i e) = store_rows (variable i) (direct e)
own_steps (give_back value) = 2

own-rounds : (arms : Arms) → rounds_steps arms ≤ rounds_rows arms
own-rounds no_arm = omega arith
own-rounds (arm e s arms) = omega arith

module _ (called : ℕ → ℕ → Bool) where
  own_statement : (s : Statement) → own_steps s ≤ statement_size called s
  unfolding statement_size
  own_statement empty = omega arith
  own_statement (express e) = omega arith
  own_statement (block is) = omega arith
  own_statement (if_then e on_true) = omega arith
  own_statement (if_else e on_true on_false) = omega arith
  own_statement (while e body) = omega arith
  own_statement (do_while body e) = omega arith
  own_statement (for first test action body) = omega arith
  own_statement (switch e is) = omega arith
  own_statement break = omega arith
  own_statement continue = omega arith
  own_statement (goto l) = omega arith
  own_statement (guarded_if arms) = omega arith
  own_statement (guarded_do arms) = omega (arith, own-rounds arms)
  own_statement abort = omega arith
  own_statement (declare i e) = omega arith
  own_statement (give_back value) = omega arith

-- The numbers of a source tree are in range.
abbrev pub PartInRange : Layout → ℕ → Part → Type 0
PartInRange L first p = NamedPart (SourceName L first) (length L.lengths) p

abbrev pub StatementInRange : Layout → ℕ → Statement → Type 0
StatementInRange L first s = NamedStatement (SourceName L first) (length L.lengths) s

abbrev pub ArmsInRange : Layout → ℕ → Arms → Type 0
ArmsInRange L first arms = NamedArms (SourceName L first) (length L.lengths) arms

abbrev pub ItemsInRange : Layout → ℕ → Items → Type 0
ItemsInRange L first is = NamedItems (SourceName L first) (length L.lengths) is

module _ {setting : Setting} (fr : Frame setting) (arity : ℕ → ℕ) (limit : ℕ) (go : CallsGo fr limit) {C D : Type 0} {R : C → D → State → State → Type 0} where
  part-drops : (p : Part) → PartInRange setting.layout setting.measure.words p → PartCallsBelow arity limit p → part_levels setting.called p ≤ fr.temporaries → part_size setting.called p ≤ setting.measure.rate → Drops fr R (value_of (source_in setting) p) (part_code setting.called fr.first p)
  part-drops absent h q n r = drops-absent fr
  part-drops (present e) h q n r = drops-present fr (dropped-goes fr arity limit go e refl h q (omega arith) r)

  -- The rounds of while and for, by the rules of the body; `l` is the label behind the loop.
  module _ (l : ℕ) (action : Part) (h : PartInRange setting.layout setting.measure.words action) (q : PartCallsBelow arity limit action) (n : part_levels setting.called action ≤ fr.temporaries) (r : part_size setting.called action ≤ setting.measure.rate) where
    action-turns : Turns fr R 0 l (value_of (source_in setting) action >> ret again) (part_code setting.called fr.first action)
    action-turns = turns-action fr (part-drops action h q n r) (plain-part setting.called fr.first action (label l))

    rounds-free : {x : Exits} {b : Computation Signal} {bs : Items} → has (label l) bs ≡ false → (own : ℕ) → own + 3 ≤ setting.measure.rate → Runs fr R own (exits l (l + 1)) b bs
        → Runs fr R 2 x (rounds (source_in setting) absent action b) (loop_code fr.first (test_code setting.called fr.first absent l (bs ⧺ label (l + 1) here part_code setting.called fr.first action)) l)
    rounds-free free own enough p = runs_loop fr (omega arith) (turns-body fr free p action-turns)

    rounds-tested : {x : Exits} {b : Computation Signal} {bs : Items} → has (label l) bs ≡ false → (e : Expression) → InRange setting.layout setting.measure.words e → CallsBelow arity limit e → expression_levels setting.called e wanted ≤ fr.temporaries → expression_size setting.called e wanted + 7 ≤ setting.measure.rate → Runs fr R 0 (exits l (l + 1)) (enter b) bs
        → Runs fr R 2 x (rounds (source_in setting) (present e) action b) (loop_code fr.first (test_code setting.called fr.first (present e) l (bs ⧺ label (l + 1) here part_code setting.called fr.first action)) l)
    rounds-tested free e he qe ne enough p = runs_loop fr (omega (arith, own-size setting.called e wanted)) (turns-test fr (plain-expression setting.called fr.first e wanted 0 (label l)) (wanted-goes fr arity limit go e refl he qe (omega arith) (omega arith)) (turns-body fr free p action-turns))

  mutual
    unfolding perform statement_code statement_levels statement_size NamedStatement StatementCallsBelow Placed

    statement-runs : (s : Statement) (x : Exits) (l : ℕ) (mayReturn mayBreak mayContinue : Bool) → Below x l → StatementInRange setting.layout setting.measure.words s → StatementCallsBelow arity limit s → Placed mayReturn mayBreak mayContinue s → statement_levels setting.called s ≤ fr.temporaries → statement_size setting.called s ≤ setting.measure.rate
        → Runs fr R (own_steps s) x (perform (source_in setting) s) (statement_code setting.called fr.first s x l)
    statement-runs empty x l w b c u h q p n r = runs-empty fr
    statement-runs (express e) x l w b c u h q p n r = runs-express fr (drops-present fr (dropped-goes fr arity limit go e refl h q (omega arith) (omega arith)))
    statement-runs (block is) x l w b c u h q p n r = runs_block fr (items-run is x l w false b c u h q p n (omega arith))
    statement-runs (if_then e on_true) x l w b c u h q p n r = runs-if_then fr (value-goes fr arity limit go e refl h.0 q.0 (omega arith) (omega arith))
        (pay-statement fr (omega (arith, own_statement setting.called on_true)) (statement-runs on_true x l w b c u h.1 q.1 p (omega arith) (omega arith)))
    statement-runs (if_else e on_true on_false) x l w b c u h q p n r = runs-if_else fr (value-goes fr arity limit go e refl h.0 q.0 (omega arith) (omega arith))
        (pay-statement fr (omega (arith, own_statement setting.called on_true)) (statement-runs on_true x l w b c u h.1 q.1 p.0 (omega arith) (omega arith)))
        (pay-statement fr (omega (arith, own_statement setting.called on_false)) (statement-runs on_false x (l + labels on_true) w b c (omega arith) h.2 q.2 p.1 (omega arith) (omega arith)))
    statement-runs (while e body) x l w b c u h q p n r = rounds-tested l absent tt tt (omega arith) (omega arith) (own-labels setting.called fr.first body (exits l (l + 1)) (l + 2) l (apart_below _ _ l (omega arith)))
        e h.0 q.0 (omega arith) (omega arith)
        (pay-statement fr (omega (arith, own_statement setting.called body)) (statement-runs body (exits l (l + 1)) (l + 2) w true true (omega arith) h.1 q.1 p (omega arith) (omega arith)))
    statement-runs (do_while body e) x l w b c u h q p n r = runs_loop fr (omega (arith, own_statement setting.called body)) (turns-body fr (own-labels setting.called fr.first body (exits l (l + 1)) (l + 2) l (apart_below _ _ l (omega arith)))
        (statement-runs body (exits l (l + 1)) (l + 2) w true true (omega arith) h.0 q.0 p (omega arith) (omega arith))
        (turns-test fr (plain-expression setting.called fr.first e wanted 0 (label l)) (value-goes fr arity limit go e refl h.1 q.1 (omega arith) (omega arith)) (turns-again fr)))
    statement-runs (for first absent action body) x l w b c u h q p n r = runs_after fr (part-drops first h.0 q.0 (omega arith) (omega arith))
        (rounds-free l action h.2 q.2 (omega arith) (omega arith) (own-labels setting.called fr.first body (exits l (l + 1)) (l + 2) l (apart_below _ _ l (omega arith)))
        (own_steps body) (omega (arith, own_statement setting.called body)) (statement-runs body (exits l (l + 1)) (l + 2) w true true (omega arith) h.3 q.3 p (omega arith) (omega arith)))
    statement-runs (for first (present e) action body) x l w b c u h q p n r = runs_after fr (part-drops first h.0 q.0 (omega arith) (omega arith))
        (rounds-tested l action h.2 q.2 (omega arith) (omega arith) (own-labels setting.called fr.first body (exits l (l + 1)) (l + 2) l (apart_below _ _ l (omega arith)))
        e h.1 q.1 (omega arith) (omega arith)
        (pay-statement fr (omega (arith, own_statement setting.called body)) (statement-runs body (exits l (l + 1)) (l + 2) w true true (omega arith) h.3 q.3 p (omega arith) (omega arith))))
    statement-runs (switch e is) x l w b c u h q p n r = runs_switch fr u (omega arith) (value-goes fr arity limit go e refl h.0 q.0 (omega arith) (omega arith)) (items-run is (exits l x.on_continue) (l + 1) w true true c (omega arith) h.1 q.1 p (omega arith) (omega arith))
    statement-runs break x l w b c u h q p n r = runs-break fr
    statement-runs continue x l w b c u h q p n r = runs-continue fr
    statement-runs (goto k) x l w b c u h q p n r = absurd p
    statement-runs (guarded_if arms) x l w b c u h q p n r = runs-guarded_if fr u (arms-choose arms x l (l + 1) w b c (omega arith) h q p n (omega arith))
    statement-runs (guarded_do arms) x l w b c u h q p n r = rounds-run arms x l w b c u h q p n r
    statement-runs abort x l w b c u h q p n r = absurd p
    statement-runs (declare i e) x l w b c u h q p n r = runs-declare fr i h.0.inside (direct e) (declared-goes fr arity limit go i e refl h.0 h.1 q (omega arith) (omega arith))
    statement-runs (give_back absent) x l w b c u h q p n r = runs-return-nothing fr
    statement-runs (give_back (present e)) x l w b c u h q p n r = runs_return fr (value-goes fr arity limit go e refl h q (omega arith) (omega arith))

    arms-choose : (arms : Arms) (x : Exits) (out l : ℕ) (mayReturn mayBreak mayContinue : Bool) → Below x l → ArmsInRange setting.layout setting.measure.words arms → ArmsCallBelow arity limit arms → PlacedArms mayReturn mayBreak mayContinue arms → arms_levels setting.called arms ≤ fr.temporaries → arms_size setting.called arms ≤ setting.measure.rate
        → Chooses fr R 0 x out (choose (source_in setting) arms) (arms_code setting.called fr.first arms x out l)
    arms-choose no_arm x out l w b c u h q p n r = chooses_none fr
    arms-choose (arm e s arms) x out l w b c u h q p n r = chooses-enter fr (omega arith) (chooses-arm fr (plain-arms setting.called fr.first arms x out (l + labels s)) (value-goes fr arity limit go e refl h.0 q.0 (omega arith) (omega arith))
        (pay-statement fr (omega (arith, own_statement setting.called s)) (statement-runs s x l w b c u h.1 q.1 p.0 (omega arith) (omega arith))) (arms-choose arms x out (l + labels s) w b c (omega arith) h.2 q.2 p.1 (omega arith) (omega arith)))

    rounds-run : (arms : Arms) (x : Exits) (l : ℕ) (mayReturn mayBreak mayContinue : Bool) → Below x l → ArmsInRange setting.layout setting.measure.words arms → ArmsCallBelow arity limit arms → PlacedArms mayReturn mayBreak mayContinue arms → arms_levels setting.called arms ≤ fr.temporaries → rounds_rows arms + arms_size setting.called arms ≤ setting.measure.rate
        → Runs fr R (rounds_steps arms) x (choice_rounds (source_in setting) arms) (rounds_code fr.first arms (arms_code setting.called fr.first arms x (l + 1) (l + 2)) l)
    rounds-run no_arm x l w b c u h q p n r = runs-empty fr
    rounds-run (arm e s arms) x l w b c u h q p n r = runs-guarded_do fr (omega arith) u (chooses-arm fr (plain-arms setting.called fr.first arms x (l + 1) (l + 2 + labels s)) (value-goes fr arity limit go e refl h.0 q.0 (omega arith) (omega arith))
        (pay-statement fr (omega (arith, own_statement setting.called s)) (statement-runs s x (l + 2) w b c (omega arith) h.1 q.1 p.0 (omega arith) (omega arith))) (arms-choose arms x (l + 1) (l + 2 + labels s) w b c (omega arith) h.2 q.2 p.1 (omega arith) (omega arith)))

    pub items-run : (is : Items) (x : Exits) (l : ℕ) (mayReturn inSwitch mayBreak mayContinue : Bool) → Below x l → ItemsInRange setting.layout setting.measure.words is → ItemsCallBelow arity limit is → PlacedItems mayReturn inSwitch mayBreak mayContinue is → items_levels setting.called is ≤ fr.temporaries → items_size setting.called is ≤ setting.measure.rate
        → RunsOn fr R x l is (items_code setting.called fr.first is x l)
    items-run none x l w s b c u h q p n r = runs_none fr
    items-run (d then is) x l w s b c u h q p n r = runs_then fr u (λ j a. own-labels setting.called fr.first d x l j a)
        (pay-statement fr (omega (arith, own_statement setting.called d)) (statement-runs d x l w b c u h.0 q.0 p.0 (omega arith) (omega arith))) (items-run is x (l + labels d) w s b c (omega arith) h.1 q.1 p.1 (omega arith) (omega arith))
    items-run (m here is) x l w s b c u h q p n r = runs_here fr u (omega arith) (items-run is x (l + 1) w s b c (omega arith) h q p.1 n (omega arith))
    items-run (define f words body is) x l w s b c u h q p n r = absurd p
