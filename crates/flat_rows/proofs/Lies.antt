-- Lies: lines that lie in a list from a line on; the parts of an if and of a while, and their own lines.
use Rattle.std.specs.Prelude.{◌≡◌, refl, Bool, true, false, List, [], ◌∷◌, ◌++◌, ℕ, zero, suc, ◌+◌, ◌≤◌, ◌<◌, length, get_or}
use Rattle.std.proofs.Common.{ap, subst, ◌∙◌, arith, length-append, get_or-append-add}
use Rattle.std.proofs.Math.ListN.{get_or-append}
use Rattle.flat.specs.Lines.{Operand, FlatLine}
use Rattle.flat_fate.specs.Code.{if_lines, if_code, while_code}
use Rattle.flat_fate.specs.Branches.{first_at, second_at, body_at}
use Rattle.flat_rows.specs.Places.{if_own, while_own, Each}
use Rattle.flat_rows.specs.LinesPut.{There, nothing}

-- The lines xs lie in a list from line i on.
pub record Lies (lines : List FlatLine) (i : ℕ) (xs : List FlatLine) : Type 0 where
  pub within : i + length xs ≤ length lines
  pub same : (k : ℕ) → k < length xs → get_or lines (i + k) nothing ≡ get_or xs k nothing

module _ (lines : List FlatLine) where
  pub lies_whole : Lies lines 0 lines
  lies_whole = record { within = omega arith; same = λ k h. (let e : 0 + k ≡ k = omega arith in rw e) }

  pub lies-first : (i : ℕ) (xs ys : List FlatLine) → Lies lines i (xs ++ ys) → Lies lines i xs
  lies-first i xs ys l =
      let w = l.within in
      record {
        within = omega (arith, length-append xs ys);
        same = λ k h. l.same k (omega (arith, length-append xs ys)) ∙ get_or-append xs ys nothing k h;
      }

  pub lies-second : (i n : ℕ) (xs ys : List FlatLine) → length xs ≡ n → Lies lines i (xs ++ ys) → Lies lines (i + n) ys
  lies-second i n xs ys e l =
      let w = l.within in
      record {
        within = omega (arith, length-append xs ys);
        same = λ k h.
            (let there : (i + n) + k ≡ i + (length xs + k) = omega arith in
            ap (λ (m : ℕ). get_or lines m nothing) there ∙ l.same (length xs + k) (omega (arith, length-append xs ys)) ∙ get_or-append-add xs ys k nothing);
      }

  pub lies-head : (i : ℕ) (x : FlatLine) (xs : List FlatLine) → Lies lines i (x ∷ xs) → There lines i x
  lies-head i x xs l =
      let w = l.within in
      let stays : i ≡ i + 0 = omega arith in
      (omega arith, ap (λ (m : ℕ). get_or lines m nothing) stays ∙ l.same 0 (omega arith))

  pub lies-tail : (i : ℕ) (x : FlatLine) (xs : List FlatLine) → Lies lines i (x ∷ xs) → Lies lines (i + 1) xs
  lies-tail i x xs l = lies-second i 1 (x ∷ []) xs refl l

  pub lies-none : (i : ℕ) (xs : List FlatLine) → length xs ≡ 0 → i ≤ length lines → Lies lines i xs
  lies-none i xs e h = record { within = omega arith; same = λ k l. absurd (omega arith) }

  pub lies-cast : (i j : ℕ) (xs : List FlatLine) → i ≡ j → Lies lines i xs → Lies lines j xs
  lies-cast i j xs e l = subst (λ (m : ℕ). Lies lines m xs) e l

  there-cast : (i j : ℕ) (x : FlatLine) → i ≡ j → There lines i x → There lines j x
  there-cast i j x e l = subst (λ (m : ℕ). There lines m x) e l

  -- ---- the parts of an if

  module _ (a : Operand) (first second : ℕ → List FlatLine) where
    pub if-first : (p q i : ℕ) → ((j : ℕ) → length (first j) ≡ p) → i + if_lines p q ≤ length lines → Lies lines i (if_code a p q i first second) → Lies lines (first_at p q i) (first (first_at p q i))
    if-first zero zero i f w l = lies-none (i + 0) (first (i + 0)) (f (i + 0)) w
    if-first zero (suc q) i f w l = lies-none (i + (1 + suc q)) (first (i + (1 + suc q))) (f (i + (1 + suc q))) w
    if-first (suc p) zero i f w l = lies-tail i _ (first (i + 1)) l
    if-first (suc p) (suc q) i f w l = lies-first (i + 1) (first (i + 1)) _ (lies-tail i _ _ l)

    pub if-second : (p q i : ℕ) → ((j : ℕ) → length (first j) ≡ p) → ((j : ℕ) → length (second j) ≡ q) → i + if_lines p q ≤ length lines → Lies lines i (if_code a p q i first second)
        → Lies lines (second_at p q i) (second (second_at p q i))
    if-second zero zero i f g w l = lies-none (i + 0) (second (i + 0)) (g (i + 0)) w
    if-second (suc p) zero i f g w l = lies-none (i + (1 + suc p)) (second (i + (1 + suc p))) (g (i + (1 + suc p))) w
    if-second zero (suc q) i f g w l = lies-tail i _ (second (i + 1)) l
    if-second (suc p) (suc q) i f g w l =
        let e : ((i + 1) + suc p) + 1 ≡ i + (2 + suc p) = omega arith in
        lies-cast (((i + 1) + suc p) + 1) (i + (2 + suc p)) (second (i + (2 + suc p))) e
        (lies-tail ((i + 1) + suc p) _ _ (lies-second (i + 1) (suc p) (first (i + 1)) _ (f (i + 1)) (lies-tail i _ _ l)))

    pub if-own : (p q i : ℕ) → ((j : ℕ) → length (first j) ≡ p) → Lies lines i (if_code a p q i first second) → Each (There lines) (if_own a p q i)
    if-own zero zero i f l = tt
    if-own zero (suc q) i f l = (lies-head i _ _ l, tt)
    if-own (suc p) zero i f l = (lies-head i _ _ l, tt)
    if-own (suc p) (suc q) i f l =
        (lies-head i _ _ l, (lies-head ((i + 1) + suc p) _ _ (lies-second (i + 1) (suc p) (first (i + 1)) _ (f (i + 1)) (lies-tail i _ _ l)), tt))

  -- ---- the parts of a while

  module _ (a : Operand) (body : ℕ → List FlatLine) where
    pub while-body : (b : Bool) (p i : ℕ) → Lies lines i (while_code b a p i body) → Lies lines (body_at b i) (body (body_at b i))
    while-body true p i l = lies-first i (body i) _ l
    while-body false p i l = lies-first (i + 1) (body (i + 1)) _ (lies-tail i _ _ l)

    pub while-own : (b : Bool) (p i : ℕ) → ((j : ℕ) → length (body j) ≡ p) → Lies lines i (while_code b a p i body) → Each (There lines) (while_own b a p i)
    while-own true p i f l = (lies-head (i + p) _ _ (lies-second i p (body i) _ (f i) l), tt)
    while-own false p i f l = (lies-head i _ _ l, (lies-head ((i + 1) + p) _ _ (lies-second (i + 1) p (body (i + 1)) _ (f (i + 1)) (lies-tail i _ _ l)), tt))
