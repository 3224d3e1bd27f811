-- Laws of blanks: those that stand first, and those behind the last other byte.
use Rattle.std.specs.Prelude.{◌≡◌, refl, true, false, List, [], ◌∷◌, ◌++◌, ℕ, zero, suc, ◌+◌, ◌-◌, ◌≤◌, ◌<◌, eqb, length, drop}
use Rattle.std.proofs.Common.{sym, ap, ◌∙◌, arith, add-one, eq-eqb, ne_eqb, eqb-true}
use Rattle.std.proofs.lemmas.Bool.{eqb-false}
use Rattle.words.specs.Laws.{by_cases}
use Rattle.page.specs.Page.{blanks}
use Rattle.page_frame.specs.Frames.{leading_blanks, filled_size}

-- ---- first

pub leading-splits : (bytes : List ℕ) → bytes ≡ blanks (leading_blanks bytes) ++ drop (leading_blanks bytes) bytes
unfolding leading_blanks blanks
leading-splits [] = refl
leading-splits (byte ∷ bytes) =
    by_cases (eqb byte 32) (λ t. rw (t, eqb-true byte 32 t) (ap (λ (l : List ℕ). 32 ∷ l) (leading-splits bytes))) (λ t. rw t)

pub leading-within : (bytes : List ℕ) → leading_blanks bytes ≤ length bytes
unfolding leading_blanks
leading-within [] = omega arith
leading-within (byte ∷ bytes) = by_cases (eqb byte 32) (λ t. rw t (omega (arith, leading-within bytes))) (λ t. rw t (omega arith))

-- The first byte is no blank.
unfoldable pub Begins : List ℕ → Type 0
Begins [] = ⊥
Begins (byte ∷ bytes) = byte ≡ 32 → ⊥

pub leading-is : (n : ℕ) (bytes more : List ℕ) → Begins bytes → leading_blanks (blanks n ++ (bytes ++ more)) ≡ n
unfolding leading_blanks blanks Begins
leading-is zero [] more h = absurd h
leading-is zero (byte ∷ bytes) more h = rw (ne_eqb byte 32 h)
leading-is (suc n) bytes more h = ap suc (leading-is n bytes more h)

-- ---- last

pub filled_within : (bytes : List ℕ) → filled_size bytes ≤ length bytes
unfolding filled_size
filled_within [] = omega arith
filled_within (byte ∷ bytes) =
    by_cases (eqb (filled_size bytes) 0)
    (λ t. rw t (by_cases (eqb byte 32) (λ u. rw u (omega arith)) (λ u. rw u (omega arith))))
    (λ t. rw t (omega (arith, filled_within bytes)))

pub filled_none : (bytes : List ℕ) → filled_size bytes ≡ 0 → bytes ≡ blanks (length bytes)
unfolding filled_size blanks
filled_none [] e = refl
filled_none (byte ∷ bytes) e =
    by_cases (eqb (filled_size bytes) 0)
    (λ t. by_cases (eqb byte 32)
    (λ u. rw (eqb-true byte 32 u) (ap (λ (l : List ℕ). 32 ∷ l) (filled_none bytes (eqb-true (filled_size bytes) 0 t))))
    (λ u. absurd (let z : ◌≡◌ {A = ℕ} 1 0 = rw (t, u) at e in omega arith)))
    (λ t. absurd (let z : suc (filled_size bytes) ≡ 0 = rw t at e in omega arith))

pub filled-splits : (bytes : List ℕ) → drop (filled_size bytes) bytes ≡ blanks (length bytes - filled_size bytes)
unfolding filled_size blanks
filled-splits [] = refl
filled-splits (byte ∷ bytes) =
    by_cases (eqb (filled_size bytes) 0)
    (λ t. let none : filled_size bytes ≡ 0 = eqb-true (filled_size bytes) 0 t in
    let size : length (byte ∷ bytes) - 1 ≡ length bytes = omega arith in
    by_cases (eqb byte 32)
    (λ u. let all : length (byte ∷ bytes) - 0 ≡ suc (length bytes) = omega arith in rw (t, u, all, eqb-true byte 32 u) (ap (λ (l : List ℕ). 32 ∷ l) (filled_none bytes none)))
    (λ u. rw (t, u, size) (filled_none bytes none)))
    (λ t. let size : length (byte ∷ bytes) - suc (filled_size bytes) ≡ length bytes - filled_size bytes = omega arith in rw (t, size) (filled-splits bytes))

-- The last byte is no blank.
unfoldable pub Ends : List ℕ → Type 0
Ends [] = ⊥
Ends (byte ∷ []) = byte ≡ 32 → ⊥
Ends (byte ∷ (second ∷ bytes)) = Ends (second ∷ bytes)

filled-blanks : (n : ℕ) → filled_size (blanks n) ≡ 0
unfolding filled_size blanks
filled-blanks zero = refl
filled-blanks (suc n) = rw (filled-blanks n)

pub filled_is : (bytes : List ℕ) (n : ℕ) → Ends bytes → filled_size (bytes ++ blanks n) ≡ length bytes
unfolding filled_size Ends
filled_is [] n h = absurd h
filled_is (byte ∷ []) n h = rw (filled-blanks n, ne_eqb byte 32 h)
filled_is (byte ∷ (second ∷ bytes)) n h =
    rw (filled_is (second ∷ bytes) n h, ne_eqb (length (second ∷ bytes)) 0 (λ e. omega arith))

-- ---- a byte more at the end

pub filled-blank : (bytes : List ℕ) → filled_size (bytes ++ (32 ∷ [])) ≡ filled_size bytes
unfolding filled_size
filled-blank [] = refl
filled-blank (byte ∷ bytes) = rw (filled-blank bytes)

pub filled-other : (bytes : List ℕ) (last : ℕ) → (last ≡ 32 → ⊥) → filled_size (bytes ++ (last ∷ [])) ≡ suc (length bytes)
unfolding filled_size
filled-other [] last f = rw (ne_eqb last 32 f)
filled-other (byte ∷ bytes) last f = rw (filled-other bytes last f, ne_eqb (suc (length bytes)) 0 (λ e. omega arith))
