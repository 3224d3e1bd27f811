-- Statement links: the fields of a kernel row that link a statement.
use Rattle.std.specs.Prelude.{◌≡◌, true, List, ℕ, ℤ}
use Rattle.words.specs.Table.{number_at}
use Rattle.words.specs.Links.{is_statement}

-- A field that links a statement.
pub data StatementLink (rows : List ℤ) (row : ℕ) : ℕ → Type 0 where
  next-item : {field : ℕ} → field ≡ 5 → is_statement rows row ≡ true → StatementLink rows row field
  first-item : {field : ℕ} → field ≡ 1 → number_at rows row 0 ≡ 42 → StatementLink rows row field
  true_branch : {field : ℕ} → field ≡ 2 → number_at rows row 0 ≡ 43 → StatementLink rows row field
  false_branch : {field : ℕ} → field ≡ 3 → number_at rows row 0 ≡ 43 → StatementLink rows row field
  loop_body : {field : ℕ} → field ≡ 2 → number_at rows row 0 ≡ 44 → StatementLink rows row field
