-- Blind code: kernel code that reads no temporary before it has written it. What two runs of it agree on only grows, so a set of known
-- words goes through it; a rule for each form of the kernel's statements. A call leaves known what was known before it.
use Rattle.std.specs.Prelude.{◌≡◌, Bool, true, false, List, [], ◌∷◌, ℕ, ◌+◌, ◌<◌, ℤ, pos, Err, Ok, Result}
use Rattle.words.specs.declared.FaultSort.{FaultSort}
use Rattle.std.proofs.Math.Path.{refl, ap, fun_ext}
use Rattle.std.proofs.Common.{◌∙◌, arith}
use Rattle.words.specs.Word.{pick}
use Rattle.words.specs.Layout.{array_base, array_length}
use Rattle.arithmetic.specs.Arithmetic.{is_true, apply, minus as minus_word, element as element_word}
use Rattle.arithmetic.proofs.Laws.{element-inside}
use Rattle.words.specs.declared.Operator.{Operator}
use Rattle.words.specs.declared.FaultSort.TheVariants.{Guard}
use Rattle.computation.specs.Computation.{again, leave, Computation, ret, ◌>>◌, step, load, settle}
use Rattle.computation.specs.Agreement.{Words, ◌within◌}
use Rattle.computation.proofs.AgreementLaws.{Blind, blind-weaker, blind-ret, blind-then, blind-step, blind-load, blind-save, blind-fail, blind-loop, blind-again, blind-settle, after_round, then-then}
use Rattle.computation.specs.Run.{State, Limit, and_then, run}
use Rattle.language.specs.Trees.{Expression, constant, read, minus, binary, assign, call, variable, element, Arguments, no_more, ◌also◌, present, Mark, same_mark, Statement, empty, express, block, if_else, while, goto, abort, give_back, Items, none, ◌then◌, ◌here◌, define, ◌⧺◌}
use Rattle.language.specs.Meaning.{Context, Signal, next, breaking, continuing, seeking, returning, enters_statement, enters_mark, enter, evaluate, given as argument_values, after_body, perform, items}

-- The words P, and the word n.
pub data And (P : Words) (n i : ℕ) : Type 0 where
  old : P i → And P n i
  new : i ≡ n → And P n i

pub and-more : {P Q : Words} (n : ℕ) → P within Q → And P n within And Q n
and-more n h i (old p) = old (h i p)
and-more n h i (new e) = new e

-- What code is read in, and the words that are known all along. In the main part these are what the dispatcher sees; in a function, what is known
-- where it is called.
pub record Ground : Type 1 where
  pub context : Context
  pub known : Words
  pub calls_blind : (f : ℕ) (values : List ℤ) (P : Words) → known within P → Blind known P (λ _. P) (context.calling f values)

module _ (G : Ground) where
  abbrev pub Seen : Words
  Seen = G.known

  abbrev C : Context
  C = G.context

  -- The words of an array are known all along.
  abbrev pub ArrayKnown : ℕ → Type 0
  ArrayKnown array = (i : ℕ) → i < array_base C.layout array + array_length C.layout array → Seen i

  mutual
    -- An expression that reads words of P and elements of arrays.
    pub data Reads (P : Words) : Expression → Type 0 where
      reads-constant : {v : ℤ} → Reads P (constant v)
      reads_word : {i : ℕ} → P i → Reads P (read (variable i))
      reads-element : {array : ℕ} {e : Expression} → ArrayKnown array → Reads P e → Reads P (read (element array e))
      reads-minus : {e : Expression} → Reads P e → Reads P (minus e)
      reads-binary : {operator : Operator} {a b : Expression} → Reads P a → Reads P b → Reads P (binary operator a b)
      reads-call : {f : ℕ} {arguments : Arguments} → ReadsAll P arguments → Reads P (call f arguments)

    pub data ReadsAll (P : Words) : Arguments → Type 0 where
      reads_none : ReadsAll P no_more
      reads-also : {e : Expression} {arguments : Arguments} → Reads P e → ReadsAll P arguments → ReadsAll P (e also arguments)

  mutual
    pub reads_more : {P Q : Words} {e : Expression} → P within Q → Reads P e → Reads Q e
    reads_more h reads-constant = reads-constant
    reads_more h (reads_word {i} p) = reads_word (h i p)
    reads_more h (reads-element b r) = reads-element b (reads_more h r)
    reads_more h (reads-minus r) = reads-minus (reads_more h r)
    reads_more h (reads-binary r q) = reads-binary (reads_more h r) (reads_more h q)
    reads_more h (reads-call r) = reads-call (all_more h r)

    all_more : {P Q : Words} {arguments : Arguments} → P within Q → ReadsAll P arguments → ReadsAll Q arguments
    all_more h reads_none = reads_none
    all_more h (reads-also r q) = reads-also (reads_more h r) (all_more h q)

  -- What is known after a signal: where a jump is under way, what is known all along.
  abbrev pub after : Words → Signal → Words
  after P next = P
  after P breaking = Seen
  after P continuing = Seen
  after P (seeking m) = Seen
  after P (returning v) = Seen

  -- Items that start with P known end with Q known, if the next item follows.
  pub record BlindItems (P Q : Words) (is : Items) : Type 0 where
    pub blind : (signal : Signal) → Blind Seen (after P signal) (after Q) (items C is signal)

  module _ {P : Words} (sees : Seen within P) where
    enter-blind : {A : Type 0} {Q : A → Words} {m : Computation A} → Blind Seen P Q m → Blind Seen P Q (enter m)
    enter-blind b = blind-then Seen (blind-step Seen sees) (λ _. b)

    settled : {A : Type 0} (o : Result A FaultSort) → Blind Seen P (λ _. P) (settle o)
    settled (Ok a) = blind-ret Seen a (λ i k. k)
    settled (Err sort) = blind-fail Seen sort sees

    mutual
      unfolding evaluate

      reads-blind : {e : Expression} → Reads P e → Blind Seen P (λ _. P) (evaluate C e)
      reads-blind reads-constant = blind-ret Seen _ (λ i k. k)
      reads-blind (reads_word {i} b) = blind-settle Seen (Ok i) load sees (λ j e. let same : i ≡ j = cc in blind-load Seen j (rw (← same) b))
      reads-blind (reads-element {array} {e} b r) =
          blind-again Seen (enter (evaluate C e)) (λ index. settle (element_word (array_base C.layout array) (array_length C.layout array) index)) load
          (blind-then Seen (enter-blind (reads-blind r)) (λ index. blind-settle Seen (element_word (array_base C.layout array) (array_length C.layout array) index) load sees
          (λ position f. blind-load Seen position (sees position (b position (omega (arith, (element-inside _ _ index position f).most)))))))
      reads-blind (reads-minus r) = blind-then Seen (enter-blind (reads-blind r)) (λ v. settled (minus_word v))
      reads-blind (reads-binary {operator} r q) =
          blind-then Seen (enter-blind (reads-blind q)) (λ right. blind-then Seen (enter-blind (reads-blind r)) (λ left. settled (apply operator left right)))
      reads-blind (reads-call {f} r) = blind-then Seen (all-blind r) (λ values. G.calls_blind f values P sees)

      all-blind : {arguments : Arguments} → ReadsAll P arguments → Blind Seen P (λ _. P) (argument_values C arguments)
      all-blind reads_none = blind-ret Seen [] (λ i k. k)
      all-blind (reads-also r q) = blind-then Seen (all-blind q) (λ behind. blind-then Seen (enter-blind (enter-blind (reads-blind r))) (λ v. blind-ret Seen (v ∷ behind) (λ i k. k)))

    -- A word that is assigned is known then.
    assign-blind : (i : ℕ) {e : Expression} → Reads P e → Blind Seen P (after (And P i)) (perform C (express (assign (variable i) e)))
    unfolding perform evaluate
    assign-blind i r =
        blind-then Seen (enter-blind (blind-then Seen (enter-blind (reads-blind r)) (λ v. blind-again Seen step (λ _. ret i) _ (blind-then Seen (blind-step Seen sees) (λ _.
        blind-settle Seen (Ok i) _ sees (λ j f. let same : i ≡ j = cc in
        blind-then Seen (blind-save Seen j v (λ k q d. (elim q [ old p ↦ p | new e ↦ absurd (d (e ∙ same)) ]))) (λ _. blind-ret Seen v (λ j k. k))))))))
        (λ _. blind-ret Seen next (λ j k. k))

    element-blind : (array : ℕ) {index e : Expression} → Reads P index → Reads P e → Blind Seen P (after P) (perform C (express (assign (element array index) e)))
    unfolding perform evaluate
    element-blind array r q =
        blind-then Seen (enter-blind (blind-then Seen (enter-blind (reads-blind q)) (λ v.
        blind-then Seen (enter-blind (blind-then Seen (enter-blind (reads-blind r)) (λ w. settled (element_word (array_base C.layout array) (array_length C.layout array) w))))
        (λ position. blind-then Seen (blind-save Seen position v (λ j k d. k)) (λ _. blind-ret Seen v (λ j k. k))))))
        (λ _. blind-ret Seen next (λ j k. k))

    -- a jump under way passes a statement, and a mark that it does not seek
    passing : (Q : Words) {m : Computation Signal} (signal : Signal) → Blind Seen P (after Q) m → Blind Seen (after P signal) (after Q) (pick (enters_statement signal) (enter m) (ret signal))
    passing Q next b = enter-blind b
    passing Q breaking b = blind-ret Seen breaking (λ i k. k)
    passing Q continuing b = blind-ret Seen continuing (λ i k. k)
    passing Q (seeking m) b = blind-ret Seen (seeking m) (λ i k. k)
    passing Q (returning v) b = blind-ret Seen (returning v) (λ i k. k)

  chosen-blind : {A : Type 0} {P : Words} {Q : A → Words} {m n : Computation A} (test : Bool) → Blind Seen P Q m → Blind Seen P Q n → Blind Seen P Q (pick test m n)
  chosen-blind true b c = b
  chosen-blind false b c = c

  at_mark : (P : Words) → Seen within P → (signal : Signal) (m : Mark) → Blind Seen (after P signal) (after Seen) (pick (enters_mark signal m) (enter (ret next)) (ret signal))
  at_mark P sees next m = enter-blind sees (blind-ret Seen next sees)
  at_mark P sees breaking m = blind-ret Seen breaking (λ i k. k)
  at_mark P sees continuing m = blind-ret Seen continuing (λ i k. k)
  at_mark P sees (seeking n) m = chosen-blind (same_mark n m) (enter-blind (λ i k. k) (blind-ret Seen next (λ i k. k))) (blind-ret Seen (seeking n) (λ i k. k))
  at_mark P sees (returning v) m = blind-ret Seen (returning v) (λ i k. k)

  after_more : {P Q : Words} → P within Q → (signal : Signal) → after P signal within after Q signal
  after_more h next = h
  after_more h breaking = λ i k. k
  after_more h continuing = λ i k. k
  after_more h (seeking m) = λ i k. k
  after_more h (returning v) = λ i k. k

  -- ---- the rules

  -- More known before, less asked after.
  pub items-less : {P P' Q Q' : Words} {is : Items} → P within P' → Q' within Q → BlindItems P Q is → BlindItems P' Q' is
  items-less h k b = record { blind = λ signal. blind-weaker Seen (after_more h signal) (after_more k) (b.blind signal) }

  pub items-none : {P : Words} → BlindItems P P none
  unfolding items
  items-none = record { blind = λ signal. blind-ret Seen signal (λ i k. k) }

  pub items-then : {P R : Words} (Q : Words) {s : Statement} {is : Items} → Seen within P → Blind Seen P (after Q) (perform C s) → BlindItems Q R is → BlindItems P R (s then is)
  unfolding items
  items-then Q sees s b = record { blind = λ signal. blind-then Seen (passing sees Q signal s) (λ u. b.blind u) }

  -- A label may be reached from anywhere: only what is known all along is known there.
  pub items-here : {P R : Words} {m : Mark} {is : Items} → Seen within P → BlindItems Seen R is → BlindItems P R (m here is)
  unfolding items
  items-here {P} {m = m} sees b = record { blind = λ signal. blind-then Seen (at_mark P sees signal m) (λ u. b.blind u) }

  pub items-empty : {P R : Words} {is : Items} → Seen within P → BlindItems P R is → BlindItems P R (empty then is)
  unfolding perform
  items-empty {P} sees b = items-then P sees (blind-ret Seen next (λ i k. k)) b

  pub items-assign : {P R : Words} (i : ℕ) {e : Expression} {is : Items} → Seen within P → Reads P e → BlindItems (And P i) R is → BlindItems P R (express (assign (variable i) e) then is)
  items-assign {P} i sees r b = items-then (And P i) sees (assign-blind sees i r) b

  pub items-element : {P R : Words} (array : ℕ) {index e : Expression} {is : Items} → Seen within P → Reads P index → Reads P e → BlindItems P R is → BlindItems P R (express (assign (element array index) e) then is)
  items-element {P} array sees r q b = items-then P sees (element-blind sees array r q) b

  pub items-block : {P Q R : Words} {is rest : Items} → Seen within P → BlindItems P Q is → BlindItems Q R rest → BlindItems P R (block is then rest)
  unfolding perform
  items-block {Q = Q} sees b c = items-then Q sees (b.blind next) c

  pub items-if : {P Q R : Words} {e : Expression} {on_true on_false rest : Items} → Seen within P → Reads P e → BlindItems P Q on_true → BlindItems P Q on_false → BlindItems Q R rest
      → BlindItems P R (if_else e (block on_true) (block on_false) then rest)
  unfolding perform
  items-if {Q = Q} sees r a b c = items-then Q sees (blind-then Seen (enter-blind sees (reads-blind sees r)) (λ v. chosen-blind (is_true v) (enter-blind sees (a.blind next)) (enter-blind sees (b.blind next)))) c

  -- The next item does not follow a jump, so anything may be said to be known.
  pub items-goto : {P R : Words} (Q : Words) {l : ℕ} {is : Items} → Seen within P → BlindItems Q R is → BlindItems P R (goto l then is)
  unfolding perform
  items-goto Q sees b = items-then Q sees (blind-ret Seen _ sees) b

  pub items-abort : {P R : Words} (Q : Words) {is : Items} → Seen within P → BlindItems Q R is → BlindItems P R (abort then is)
  unfolding perform
  items-abort Q sees b = items-then Q sees (blind-fail Seen Guard sees) b

  pub items-return : {P R : Words} (Q : Words) {e : Expression} {is : Items} → Seen within P → Reads P e → BlindItems Q R is → BlindItems P R (give_back (present e) then is)
  unfolding perform
  items-return Q sees r b = items-then Q sees (blind-then Seen (enter-blind sees (reads-blind sees r)) (λ v. blind-ret Seen (returning v) sees)) b

  after-body : (signal : Signal) → Blind Seen (after Seen signal) (after_round Seen Seen (after Seen)) (after_body (ret (pos 0) >> ret again) signal)
  after-body next = blind-then Seen (blind-ret Seen (pos 0) (λ i k. k)) (λ _. blind-ret Seen again (λ i k. k))
  after-body breaking = blind-ret Seen (leave next) (λ i k. k)
  after-body continuing = blind-then Seen (blind-ret Seen (pos 0) (λ i k. k)) (λ _. blind-ret Seen again (λ i k. k))
  after-body (seeking m) = blind-ret Seen (leave (seeking m)) (λ i k. k)
  after-body (returning v) = blind-ret Seen (leave (returning v)) (λ i k. k)

  -- Between the rounds of a loop nothing but the seen words is known.
  pub items-while : {P R : Words} {e : Expression} {body rest : Items} → Seen within P → Reads Seen e → BlindItems Seen Seen body → BlindItems Seen R rest → BlindItems P R (while e (block body) then rest)
  unfolding perform
  items-while sees r b c = items-then Seen sees (blind-weaker Seen sees (λ _ i k. k) (blind-loop Seen (λ i k. k) (blind-then Seen (reads-blind (λ i k. k) r)
      (λ v. chosen-blind (is_true v) (blind-then Seen (enter-blind (λ i k. k) (b.blind next)) after-body) (blind-ret Seen (leave next) (λ i k. k)))))) c

  -- ---- two lists in a row

  run-append : (l : Limit) (xs ys : Items) (s : Signal) (σ : State) → run l (items C (xs ⧺ ys) s) σ ≡ and_then (run l (items C xs s) σ) (λ t τ. run l (items C ys t) τ)
  unfolding run items ◌⧺◌
  run-append l none ys s σ = refl
  run-append l (x then xs) ys s σ =
      ap (λ h. and_then (run l (pick (enters_statement s) (enter (perform C x)) (ret s)) σ) h) (fun_ext λ u. fun_ext λ τ. run-append l xs ys u τ)
      ∙ then-then (run l (pick (enters_statement s) (enter (perform C x)) (ret s)) σ) _ _
  run-append l (m here xs) ys s σ =
      ap (λ h. and_then (run l (pick (enters_mark s m) (enter (ret next)) (ret s)) σ) h) (fun_ext λ u. fun_ext λ τ. run-append l xs ys u τ)
      ∙ then-then (run l (pick (enters_mark s m) (enter (ret next)) (ret s)) σ) _ _
  run-append l (define f words body xs) ys s σ = run-append l xs ys s σ

  pub items-append : {P Q R : Words} (xs ys : Items) → BlindItems P Q xs → BlindItems Q R ys → BlindItems P R (xs ⧺ ys)
  unfolding run
  items-append xs ys b c = record {
    blind = λ signal. record {
      same = λ l σ τ g.
          rw (run-append l xs ys signal σ, run-append l xs ys signal τ) ((blind-then Seen (b.blind signal) (λ u. c.blind u)).same l σ τ g);
    };
  }
