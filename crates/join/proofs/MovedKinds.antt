-- A moved row's trees by its kind: those at its new place are those at its old one, with each word and each function renamed, where the trees at its
-- links are. A clause a kind.
use Rattle.std.specs.Prelude.{◌≡◌, ◌↔◌, true, false, List, map, ℤ}
use Rattle.std.proofs.Math.Path.{refl}
use Prim.Native.Nat.{ℕ, zero, suc, ◌≤◌, ◌<◌}
use Rattle.std.proofs.Common.{arith}
use Rattle.words.specs.Word.{natural}
use Rattle.words.specs.Kinds.{is_link, kind_row, expression_fields, statement_fields, mark_fields, definition_fields, member_fields, sort_in}
use Rattle.words.specs.declared.Kind.{Kind}
use Rattle.words.specs.declared.Kind.TheVariants.{OfExpression, OfStatement, OfMark, OfMember, Definition, Other}
use Rattle.words.specs.declared.ExpressionKind.TheVariants.{Constant, Variable, Element, Minus, Not, Binary, And, Or, Conditional, Comma, Assign, Compound, Prefix, Postfix, Call}
use Rattle.words.specs.declared.StatementKind.TheVariants.{Empty, Express, Block, If, While, Do, For, Switch, Break, Continue, Goto, GuardedIf, GuardedDo, Abort, Declare, Return}
use Rattle.words.specs.declared.MarkKind.TheVariants.{Case, Default, Label}
use Rattle.words.specs.declared.MemberKind.TheVariants.{Arm, Argument}
use Rattle.language.specs.Trees.{Expression, constant, read, minus, not as negation, binary, and, or, comma, conditional, assign, compound, prefix, postfix, call, Arguments, Statement, empty, express, block, if_then, if_else, while, do_while, for, switch, break, continue, goto, guarded_if, guarded_do, abort, declare, give_back, Arms, Items}
use Rattle.language.specs.Decode.{place_of, expression_of, arguments_of, part_of, if_of, block_items, statement_of, items_of, arms_of}
use Rattle.language_renaming.specs.Renaming.{renamed, renamed_place, renamed_arguments, renamed_part, renamed_statement, renamed_arms, renamed_items}
use Rattle.join.specs.Moved.{numbers_function, names_word}

-- ---- a row by its kind: words v and w of the fields, trees f and g at the links

-- Fields a to d that are no links and name no word and no function are equal.
abbrev pub SameWords : Kind → (ℕ → ℤ) → (ℕ → ℤ) → Type 0
SameWords kind v w = (field : ℕ) → field < 5 → is_link (sort_in kind field) ≡ false → numbers_function (sort_in kind field) ≡ false → names_word (sort_in kind field) ≡ false → v field ≡ w field

-- Links are absent together.
abbrev pub SameAbsence : Kind → (ℕ → ℤ) → (ℕ → ℤ) → Type 0
SameAbsence kind v w = (field : ℕ) → 1 ≤ field → field < 5 → is_link (sort_in kind field) ≡ true → (natural (v field) ≡ 0) ↔ (natural (w field) ≡ 0)

-- The trees at links are equal, but for a renaming.
abbrev pub SameTrees : {A : Type 0} → (A → A) → Kind → (ℕ → ℤ) → (ℕ → ℤ) → (ℕ → A) → (ℕ → A) → Type 0
SameTrees rename kind v w f g = (field : ℕ) → 1 ≤ field → field < 5 → is_link (sort_in kind field) ≡ true → f (natural (v field)) ≡ rename (g (natural (w field)))

-- `π i` is the word that stands for i, `φ f` the function that stands for f; word 0 is what a row that is no place decodes to.
module _ (π φ : ℕ → ℕ) (origin : π 0 ≡ 0) where
  -- Fields a to d that are numbers of functions are those of the functions that stand for them.
  abbrev RenumberedWords : Kind → (ℕ → ℤ) → (ℕ → ℤ) → Type 0
  RenumberedWords kind v w = (field : ℕ) → field < 5 → numbers_function (sort_in kind field) ≡ true → natural (v field) ≡ φ (natural (w field))

  -- Fields a to d that name a word name the one that stands for it.
  abbrev RenamedWords : Kind → (ℕ → ℤ) → (ℕ → ℤ) → Type 0
  RenamedWords kind v w = (field : ℕ) → field < 5 → names_word (sort_in kind field) ≡ true → natural (v field) ≡ π (natural (w field))

  place-renamed : (e : Expression) → place_of (renamed π φ e) ≡ renamed_place π φ (place_of e)
  unfolding renamed
  place-renamed (constant v) = rw origin
  place-renamed (read p) = refl
  place-renamed (minus e) = rw origin
  place-renamed (negation e) = rw origin
  place-renamed (binary o a b) = rw origin
  place-renamed (and a b) = rw origin
  place-renamed (or a b) = rw origin
  place-renamed (comma a b) = rw origin
  place-renamed (conditional c a b) = rw origin
  place-renamed (assign p e) = rw origin
  place-renamed (compound o p e) = rw origin
  place-renamed (prefix o p) = rw origin
  place-renamed (postfix o p) = rw origin
  place-renamed (call f arguments) = rw origin

  module _ (v w : ℕ → ℤ) (f g : ℕ → Expression) (fr gr : ℕ → Arguments) where
    pub expression-moved : (kind : Kind) → SameWords kind v w → RenumberedWords kind v w → RenamedWords kind v w → SameTrees (renamed π φ) kind v w f g → SameTrees (renamed_arguments π φ) kind v w fr gr
        → expression_of kind v f fr ≡ renamed π φ (expression_of kind w g gr)
    unfolding expression_of renamed is_link sort_in kind_row expression_fields
    expression-moved (OfExpression Constant) same number name e r = rw (same 1 (omega arith) refl refl refl)
    expression-moved (OfExpression Variable) same number name e r = rw (name 1 (omega arith) refl)
    expression-moved (OfExpression Element) same number name e r = rw (same 1 (omega arith) refl refl refl, e 2 (omega arith) (omega arith) refl)
    expression-moved (OfExpression Minus) same number name e r = rw (e 1 (omega arith) (omega arith) refl)
    expression-moved (OfExpression Not) same number name e r = rw (e 1 (omega arith) (omega arith) refl)
    expression-moved (OfExpression (Binary o)) same number name e r = rw (e 1 (omega arith) (omega arith) refl, e 2 (omega arith) (omega arith) refl)
    expression-moved (OfExpression And) same number name e r = rw (e 1 (omega arith) (omega arith) refl, e 2 (omega arith) (omega arith) refl)
    expression-moved (OfExpression Or) same number name e r = rw (e 1 (omega arith) (omega arith) refl, e 2 (omega arith) (omega arith) refl)
    expression-moved (OfExpression Conditional) same number name e r = rw (e 1 (omega arith) (omega arith) refl, e 2 (omega arith) (omega arith) refl, e 3 (omega arith) (omega arith) refl)
    expression-moved (OfExpression Comma) same number name e r = rw (e 1 (omega arith) (omega arith) refl, e 2 (omega arith) (omega arith) refl)
    expression-moved (OfExpression Assign) same number name e r = rw (e 1 (omega arith) (omega arith) refl, e 2 (omega arith) (omega arith) refl, place-renamed (g (natural (w 1))))
    expression-moved (OfExpression (Compound o)) same number name e r = rw (e 1 (omega arith) (omega arith) refl, e 2 (omega arith) (omega arith) refl, place-renamed (g (natural (w 1))))
    expression-moved (OfExpression (Prefix o)) same number name e r = rw (e 1 (omega arith) (omega arith) refl, place-renamed (g (natural (w 1))))
    expression-moved (OfExpression (Postfix o)) same number name e r = rw (e 1 (omega arith) (omega arith) refl, place-renamed (g (natural (w 1))))
    expression-moved (OfExpression Call) same number name e r = rw (number 1 (omega arith) refl, r 2 (omega arith) (omega arith) refl)
    expression-moved (OfStatement kind) same number name e r = refl
    expression-moved (OfMark kind) same number name e r = refl
    expression-moved (OfMember kind) same number name e r = refl
    expression-moved Definition same number name e r = refl
    expression-moved Other same number name e r = refl

  pub arguments-moved : (kind : Kind) (v w : ℕ → ℤ) (f g : ℕ → Expression) (xs ys : Arguments) → SameTrees (renamed π φ) kind v w f g → xs ≡ renamed_arguments π φ ys
      → arguments_of kind (f (natural (v 1))) xs ≡ renamed_arguments π φ (arguments_of kind (g (natural (w 1))) ys)
  unfolding arguments_of renamed is_link sort_in kind_row member_fields
  arguments-moved (OfExpression kind) v w f g xs ys e q = refl
  arguments-moved (OfStatement kind) v w f g xs ys e q = refl
  arguments-moved (OfMark kind) v w f g xs ys e q = refl
  arguments-moved (OfMember Arm) v w f g xs ys e q = refl
  arguments-moved (OfMember Argument) v w f g xs ys e q = rw (e 1 (omega arith) (omega arith) refl, q)
  arguments-moved Definition v w f g xs ys e q = refl
  arguments-moved Other v w f g xs ys e q = refl

  pub block-moved : (s : Statement) → block_items (renamed_statement π φ s) ≡ renamed_items π φ (block_items s)
  unfolding renamed_statement
  block-moved empty = refl
  block-moved (express e) = refl
  block-moved (block is) = refl
  block-moved (if_then e on_true) = refl
  block-moved (if_else e on_true on_false) = refl
  block-moved (while e body) = refl
  block-moved (do_while body e) = refl
  block-moved (for first test action body) = refl
  block-moved (switch e is) = refl
  block-moved break = refl
  block-moved continue = refl
  block-moved (goto l) = refl
  block-moved (guarded_if arms) = refl
  block-moved (guarded_do arms) = refl
  block-moved abort = refl
  block-moved (declare word e) = refl
  block-moved (give_back value) = refl

  -- an absent part stays absent, a present one present
  part_moved : (m l : ℕ) → (m ≡ 0) ↔ (l ≡ 0) → (x : Expression) → part_of m (renamed π φ x) ≡ renamed_part π φ (part_of l x)
  part_moved zero zero a x = refl
  part_moved zero (suc l) a x = absurd (let z = a.0 refl in omega arith)
  part_moved (suc m) zero a x = absurd (let z = a.1 refl in omega arith)
  part_moved (suc m) (suc l) a x = refl

  if-moved : (m l : ℕ) → (m ≡ 0) ↔ (l ≡ 0) → (x : Expression) (y z : Statement) → if_of m (renamed π φ x) (renamed_statement π φ y) (renamed_statement π φ z) ≡ renamed_statement π φ (if_of l x y z)
  unfolding renamed_statement
  if-moved zero zero a x y z = refl
  if-moved zero (suc l) a x y z = absurd (let q = a.0 refl in omega arith)
  if-moved (suc m) zero a x y z = absurd (let q = a.1 refl in omega arith)
  if-moved (suc m) (suc l) a x y z = refl

  module _ (v w : ℕ → ℤ) (f g : ℕ → Expression) (fs gs : ℕ → Statement) (fi gi : ℕ → Items) (fa ga : ℕ → Arms) where
    pub statement-moved : (kind : Kind) → SameWords kind v w → RenamedWords kind v w → SameAbsence kind v w → SameTrees (renamed π φ) kind v w f g → SameTrees (renamed_statement π φ) kind v w fs gs → SameTrees (renamed_items π φ) kind v w fi gi
        → SameTrees (renamed_arms π φ) kind v w fa ga → statement_of kind v f fs fi fa ≡ renamed_statement π φ (statement_of kind w g gs gi ga)
    unfolding statement_of renamed_statement is_link sort_in kind_row statement_fields
    statement-moved (OfExpression kind) same name absence e s i a = refl
    statement-moved (OfStatement Empty) same name absence e s i a = refl
    statement-moved (OfStatement Express) same name absence e s i a = rw (e 1 (omega arith) (omega arith) refl)
    statement-moved (OfStatement Block) same name absence e s i a = rw (i 1 (omega arith) (omega arith) refl)
    statement-moved (OfStatement If) same name absence e s i a =
        rw (e 1 (omega arith) (omega arith) refl, s 2 (omega arith) (omega arith) refl, s 3 (omega arith) (omega arith) refl)
        (if-moved (natural (v 3)) (natural (w 3)) (absence 3 (omega arith) (omega arith) refl) _ _ _)
    statement-moved (OfStatement While) same name absence e s i a = rw (e 1 (omega arith) (omega arith) refl, s 2 (omega arith) (omega arith) refl)
    statement-moved (OfStatement Do) same name absence e s i a = rw (s 1 (omega arith) (omega arith) refl, e 2 (omega arith) (omega arith) refl)
    statement-moved (OfStatement For) same name absence e s i a =
        rw (
          e 1 (omega arith) (omega arith) refl,
          e 2 (omega arith) (omega arith) refl,
          e 3 (omega arith) (omega arith) refl,
          s 4 (omega arith) (omega arith) refl,
          part_moved (natural (v 1)) (natural (w 1)) (absence 1 (omega arith) (omega arith) refl) (g (natural (w 1))),
          part_moved (natural (v 2)) (natural (w 2)) (absence 2 (omega arith) (omega arith) refl) (g (natural (w 2))),
          part_moved (natural (v 3)) (natural (w 3)) (absence 3 (omega arith) (omega arith) refl) (g (natural (w 3))),
        )
    statement-moved (OfStatement Switch) same name absence e s i a = rw (e 1 (omega arith) (omega arith) refl, i 2 (omega arith) (omega arith) refl)
    statement-moved (OfStatement Break) same name absence e s i a = refl
    statement-moved (OfStatement Continue) same name absence e s i a = refl
    statement-moved (OfStatement Goto) same name absence e s i a = rw (same 1 (omega arith) refl refl refl)
    statement-moved (OfStatement GuardedIf) same name absence e s i a = rw (a 1 (omega arith) (omega arith) refl)
    statement-moved (OfStatement GuardedDo) same name absence e s i a = rw (a 1 (omega arith) (omega arith) refl)
    statement-moved (OfStatement Abort) same name absence e s i a = refl
    statement-moved (OfStatement Declare) same name absence e s i a = rw (name 1 (omega arith) refl, e 2 (omega arith) (omega arith) refl)
    statement-moved (OfStatement Return) same name absence e s i a =
        rw (e 1 (omega arith) (omega arith) refl, part_moved (natural (v 1)) (natural (w 1)) (absence 1 (omega arith) (omega arith) refl) (g (natural (w 1))))
    statement-moved (OfMark kind) same name absence e s i a = refl
    statement-moved (OfMember kind) same name absence e s i a = refl
    statement-moved Definition same name absence e s i a = refl
    statement-moved Other same name absence e s i a = refl

  -- of a definition: the words m and n of its parameters, and the statements b and d at its block
  pub items-moved : (kind : Kind) (v w : ℕ → ℤ) (x y : Statement) (xs ys : Items) (m n : List ℕ) (b d : Statement) → SameWords kind v w → RenumberedWords kind v w → x ≡ renamed_statement π φ y → xs ≡ renamed_items π φ ys
      → (kind ≡ Definition → (m ≡ map π n) × (b ≡ renamed_statement π φ d)) → items_of kind v x m b xs ≡ renamed_items π φ (items_of kind w y n d ys)
  unfolding items_of renamed_items is_link sort_in kind_row mark_fields definition_fields
  items-moved (OfExpression kind) v w x y xs ys m n b d same number p q own = rw (p, q)
  items-moved (OfStatement kind) v w x y xs ys m n b d same number p q own = rw (p, q)
  items-moved (OfMark Case) v w x y xs ys m n b d same number p q own = rw (same 1 (omega arith) refl refl refl, q)
  items-moved (OfMark Default) v w x y xs ys m n b d same number p q own = rw q
  items-moved (OfMark Label) v w x y xs ys m n b d same number p q own = rw (same 1 (omega arith) refl refl refl, q)
  items-moved (OfMember kind) v w x y xs ys m n b d same number p q own = rw (p, q)
  items-moved Definition v w x y xs ys m n b d same number p q own = rw (number 1 (omega arith) refl, q, (own refl).0, (own refl).1, block-moved d)
  items-moved Other v w x y xs ys m n b d same number p q own = refl

  pub arms-moved : (kind : Kind) (v w : ℕ → ℤ) (f g : ℕ → Expression) (fs gs : ℕ → Statement) (xs ys : Arms) → SameTrees (renamed π φ) kind v w f g → SameTrees (renamed_statement π φ) kind v w fs gs → xs ≡ renamed_arms π φ ys
      → arms_of kind (f (natural (v 1))) (fs (natural (v 2))) xs ≡ renamed_arms π φ (arms_of kind (g (natural (w 1))) (gs (natural (w 2))) ys)
  unfolding arms_of renamed_arms is_link sort_in kind_row member_fields
  arms-moved (OfExpression kind) v w f g fs gs xs ys e s q = refl
  arms-moved (OfStatement kind) v w f g fs gs xs ys e s q = refl
  arms-moved (OfMark kind) v w f g fs gs xs ys e s q = refl
  arms-moved (OfMember Argument) v w f g fs gs xs ys e s q = refl
  arms-moved Definition v w f g fs gs xs ys e s q = refl
  arms-moved (OfMember Arm) v w f g fs gs xs ys e s q = rw (e 1 (omega arith) (omega arith) refl, s 2 (omega arith) (omega arith) refl, q)
  arms-moved Other v w f g fs gs xs ys e s q = refl
