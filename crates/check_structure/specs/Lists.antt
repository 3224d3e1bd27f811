-- Lists: which item stands before another in a list, and the laws of that order.
use Rattle.std.specs.Prelude.{List, ℕ, ◌≤◌, ◌<◌, ℤ}
use Rattle.std.proofs.Common.{arith}
use Rattle.words.specs.Table.{row_count}
use Rattle.words.specs.Links.{link}
use Rattle.check_structure.specs.Structured.{Leads}

-- One item stands before another in a list.
pub data Before (rows : List ℤ) : ℕ → ℕ → Type 0 where
  adjacent : {item : ℕ} → Leads rows item 5 → Before rows item (link rows item 5)
  further : {item row : ℕ} → Before rows item row → Leads rows row 5 → Before rows item (link rows row 5)

-- The first step from an item to a later one.
pub data Step (rows : List ℤ) (item : ℕ) : ℕ → Type 0 where
  once : Leads rows item 5 → Step rows item (link rows item 5)
  on : {row : ℕ} → Leads rows item 5 → Before rows (link rows item 5) row → Step rows item row

module _ {rows : List ℤ} where
  pub before-later : {item row : ℕ} → Before rows item row → item < row
  before-later (adjacent leads) = leads.later
  before-later (further b leads) = let r = before-later b in let l = leads.later in omega arith

  pub before_inside : {item row : ℕ} → Before rows item row → row < row_count rows
  before_inside (adjacent leads) = leads.inside
  before_inside (further b leads) = leads.inside

  -- no item stands between an item and the next
  pub before-next : {item row : ℕ} → Before rows item row → link rows item 5 ≤ row
  before-next (adjacent leads) = omega arith
  before-next (further b leads) = let r = before-next b in let l = leads.later in omega arith

  pub before-before : {item between row : ℕ} → Before rows item between → Before rows between row → Before rows item row
  before-before a (adjacent leads) = further a leads
  before-before a (further b leads) = further (before-before a b) leads

  pub before-step : {item row : ℕ} → Before rows item row → Step rows item row
  before-step (adjacent leads) = once leads
  before-step (further b leads) = go (before-step b) leads
    where
      go : {item row : ℕ} → Step rows item row → Leads rows row 5 → Step rows item (link rows row 5)
      go (once first) leads = on first (adjacent leads)
      go (on first b) leads = on first (further b leads)
