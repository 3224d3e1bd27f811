-- CountLaws: how many numbers a line has, from what counting them answered.
use Rattle.std.specs.Prelude.{◌≡◌, refl, List, ℕ, ◌≤◌, ℤ, length, Some, None, Option}
use Rattle.std.proofs.Common.{sym, ◌∙◌, arith}
use Rattle.text_lines.specs.Reader.{Holds, number_count}
use Rattle.text_numbers.specs.NumberLaws.{not_some}

pub record Sized (read : Option (List ℤ)) (count : ℕ) : Type 0 where
  pub numbers : List ℤ
  pub is : read ≡ Some numbers
  pub size : length numbers ≡ count

pub size_none : (read : Option (List ℤ)) → None ≡ number_count read → read ≡ None
size_none None e = refl
size_none (Some numbers) e = not_some e

pub size-some : (read : Option (List ℤ)) (count : ℕ) → Some count ≡ number_count read → Sized read count
size-some None count e = not_some (sym e)
size-some (Some numbers) count e = record { numbers = numbers; is = refl; size = cc }

-- The numbers of a line, counted, fit a table of as many words.
pub counted-fits : (read : Option (List ℤ)) (table : List ℤ) (answer : Option ℕ) (count : ℕ) → answer ≡ number_count read → answer ≡ Some count → count ≤ length table → Holds read table
counted-fits None table answer count says e h =
    absurd (let none-some : number_count None ≡ Some count = sym says ∙ e in let z : ◌≡◌ {A = ℕ} 0 1 = cc in omega arith)
counted-fits (Some numbers) table answer count says e h =
    let same : Some (length numbers) ≡ Some count = sym says ∙ e in
    let size : length numbers ≡ count = cc in
    record { well_formed = refl; room = omega arith }
