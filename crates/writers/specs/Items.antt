-- Items: what the first item of a list brings to the code of the list, and the first of some arms.
use Rattle.std.specs.Prelude.{Bool, ℕ, ℤ}
use Rattle.words.specs.declared.Operator.TheVariants.{Equal}
use Rattle.language.specs.Trees.{Expression, constant, read, binary, case, default, label, goto, Arms, no_arm, arm, Items, none, ◌then◌, ◌here◌, define}
use Rattle.translation.specs.Translate.{assigning, choosing, temporary, labels, Exits, statement_code}
use Rattle.translation.specs.TranslateSize.{statement_size}

-- A definition brings nothing where it stands. `called f i`: whether function f can write the variable i.
abbrev pub item_size : (ℕ → ℕ → Bool) → Items → ℕ
item_size called none = 0
item_size called (s then is) = statement_size called s
item_size called (m here is) = 1
item_size called (define f words body is) = 0

abbrev pub item_labels : Items → ℕ
item_labels none = 0
item_labels (s then is) = labels s
item_labels (m here is) = 1
item_labels (define f words body is) = 0

abbrev pub item_cases : Items → ℕ
item_cases none = 0
item_cases (s then is) = 0
item_cases (case v here is) = 1
item_cases (default here is) = 0
item_cases (label l here is) = 0
item_cases (define f words body is) = 0

-- The test of a case, whose label is l.
abbrev pub case_test : ℕ → Expression → ℕ → ℤ → ℕ → Items
case_test S x u v l = assigning S (temporary S u) (binary Equal x (constant v)) (choosing S (read (temporary S u)) (goto l then none) none none)

-- The test that the first item brings.
abbrev pub item_test : ℕ → Expression → ℕ → Items → ℕ → Items
item_test S x u none l = none
item_test S x u (s then is) l = none
item_test S x u (case v here is) l = case_test S x u v l
item_test S x u (default here is) l = none
item_test S x u (label k here is) l = none
item_test S x u (define f words body is) l = none

-- The code of the first item.
abbrev pub item_code : (ℕ → ℕ → Bool) → ℕ → Items → Exits → ℕ → Items
item_code called S none x l = none
item_code called S (s then is) x l = statement_code called S s x l
item_code called S (m here is) x l = label l here none
item_code called S (define f words body is) x l = none

-- The first arm alone.
abbrev pub first_only : Arms → Arms
first_only no_arm = no_arm
first_only (arm e s arms) = arm e s no_arm
