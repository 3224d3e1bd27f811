-- Laws of labels: every label of a statement's code has a row.
use mathlib.Core.Bool.{Bool}
use Prim.Native.Nat.{ℕ, ◌≤◌}
use native.Mathlib.Omega.{arith}
use Rattle.language.specs.Trees.{Statement, empty, express, block, if_then, if_else, while, do_while, for, switch, break, continue, goto, guarded_if, guarded_do, abort, declare, give_back, Arms, no_arm, arm, Items, none, ◌then◌, ◌here◌, define}
use Rattle.translation.specs.Translate.{rounds_labels, labels, arms_labels, items_labels}
use Rattle.translation.specs.TranslateSize.{rounds_rows, statement_size, arms_size, items_size}

rounds-labels-small : (arms : Arms) → rounds_labels arms ≤ rounds_rows arms
rounds-labels-small no_arm = omega arith
rounds-labels-small (arm e s arms) = omega arith

module _ (called : ℕ → ℕ → Bool) where
  mutual
    unfolding labels statement_size

    labels_small : (s : Statement) → labels s ≤ statement_size called s
    labels_small empty = omega arith
    labels_small (express e) = omega arith
    labels_small (block is) = omega (arith, list-labels-small is)
    labels_small (if_then e on_true) = omega (arith, labels_small on_true)
    labels_small (if_else e on_true on_false) = omega (arith, labels_small on_true, labels_small on_false)
    labels_small (while e body) = omega (arith, labels_small body)
    labels_small (do_while body e) = omega (arith, labels_small body)
    labels_small (for first test action body) = omega (arith, labels_small body)
    labels_small (switch e is) = omega (arith, list-labels-small is)
    labels_small break = omega arith
    labels_small continue = omega arith
    labels_small (goto l) = omega arith
    labels_small (guarded_if arms) = omega (arith, arms-labels-small arms)
    labels_small (guarded_do arms) = omega (arith, rounds-labels-small arms, arms-labels-small arms)
    labels_small abort = omega arith
    labels_small (declare i e) = omega arith
    labels_small (give_back value) = omega arith

    arms-labels-small : (arms : Arms) → arms_labels arms ≤ arms_size called arms
    arms-labels-small no_arm = omega arith
    arms-labels-small (arm e s arms) = omega (arith, labels_small s, arms-labels-small arms)

    pub list-labels-small : (is : Items) → items_labels is ≤ items_size called is
    list-labels-small none = omega arith
    list-labels-small (s then is) = omega (arith, labels_small s, list-labels-small is)
    list-labels-small (m here is) = omega (arith, list-labels-small is)
    list-labels-small (define f words body is) = list-labels-small is
