-- Definitions in a legal kernel program: which rows stand in a function.
use Rattle.std.specs.Prelude.{◌≡◌, Bool, true, false, not, List, ℕ, ◌<◌, eqb, ℤ}
use Rattle.std.proofs.Common.{arith}
use borrow.Author.Tests.{ne_eqb}
use Rattle.words.specs.Links.{link}
use Rattle.check_structure.specs.NoteLaws.{note-root, note-link}
use Rattle.check_structure.specs.Structured.{Leads, Tree}
use Rattle.check_function_causes.specs.Functions.{is_definition, is_return, around_of, function_around}
use Rattle.check_function_causes.specs.Causes.{returns_outside}
use Rattle.check_function_causes.specs.Demands.{ReturnInside}
use Rattle.check_function_causes.proofs.AroundLaws.{function-inside}

-- ---- inside a function

-- A row stands in a function.
abbrev pub in_function : List ℤ → ℕ → Bool
in_function rows row = not (eqb (function_around rows row) 0)

pub root-outside : (rows : List ℤ) → in_function rows 0 ≡ false
unfolding function_around
root-outside rows = rw (note-root (around_of rows) 0 rows)

module _ (rows : List ℤ) (t : Tree rows) where
  around : (row field : ℕ) → field < 6 → Leads rows row field → function_around rows (link rows row field) ≡ around_of rows row field (function_around rows row)
  unfolding function_around
  around row field h leads = note-link (around_of rows) 0 rows t row field h leads

  -- So do the parts of a row that is no definition, and what stands behind a row,
  pub part-alike : (row field : ℕ) → field < 5 → is_definition rows row ≡ false → Leads rows row field → in_function rows (link rows row field) ≡ in_function rows row
  unfolding around_of
  part-alike row field h d leads = rw (around row field (omega arith) leads, ne_eqb field 5 (λ q. omega arith), d)

  pub next-alike : (row : ℕ) → Leads rows row 5 → in_function rows (link rows row 5) ≡ in_function rows row
  unfolding around_of
  next-alike row leads = rw (around row 5 (omega arith) leads)

  -- and the parts of a definition do.
  pub definition-part : (row field : ℕ) → field < 5 → is_definition rows row ≡ true → (row ≡ 0 → ⊥) → Leads rows row field → in_function rows (link rows row field) ≡ true
  unfolding around_of
  definition-part row field h d some leads = rw (around row field (omega arith) leads, ne_eqb field 5 (λ q. omega arith), d, ne_eqb row 0 some)

  -- A return stands in one.
  pub return_inside : is_definition rows 0 ≡ false → (row : ℕ) → is_return rows row ≡ true → ReturnInside rows row → in_function rows row ≡ true
  unfolding returns_outside
  return_inside root row r inside = rw (rw r at (function-inside rows t root row inside))
