-- Laws of the lowest number that a test is true of: where the test answers as a definition, it is what the definition finds.
use Rattle.std.specs.Prelude.{◌≡◌, refl, Bool, true, false, ℕ, ◌<◌, List, ℤ, None, Option, Some}
use Rattle.std.proofs.Common.{arith, sym}
use Rattle.words.specs.Table.{row_count}
use Rattle.words.specs.Search.{lowest, lowest_row}
use Rattle.words.specs.SearchLaws.{lowest-at, all-lowest}
use Rattle.check_grammar.specs.Lowest.{IsLowest}

pub lowest-is : (Answers : ℕ → Bool → Type 0) (count : ℕ) (result : Option ℕ) → IsLowest Answers count result
    → (property : ℕ → Bool) → ((row : ℕ) (answer : Bool) → row < count → Answers row answer → answer ≡ property row) → result ≡ lowest property 0 count
lowest-is Answers count None is property same =
    sym (all-lowest property count 0 (λ row _ below. sym (same row false (let l : row < count = omega arith in l) (is.none refl row (let l : row < count = omega arith in l)))))
lowest-is Answers count (Some found) is property same =
    let below = is.below found refl in
    sym
    (lowest-at property found count 0 (omega arith) (omega arith) (sym (same found true below (is.true_there found refl)))
    (λ row _ less. sym (same row false (let l : row < count = omega arith in l) (is.false_before found refl row less))))

pub lowest_row-is : (Answers : ℕ → Bool → Type 0) (rows : List ℤ) (result : Option ℕ) → IsLowest Answers (row_count rows) result
    → (property : ℕ → Bool) → ((row : ℕ) (answer : Bool) → row < row_count rows → Answers row answer → answer ≡ property row) → result ≡ lowest_row rows property
unfolding lowest_row
lowest_row-is Answers rows result is property same = lowest-is Answers (row_count rows) result is property same
