-- Accepts: the check of plain kernel programs accepts these and no others.
use Rattle.std.proofs.Math.Path.{◌≡◌, refl, ap}
use Rattle.std.proofs.Common.{sym, arith}
use Rattle.std.specs.Prelude.{List, ◌↔◌, ◌⊎◌, ℕ, ℤ, Err, None, Ok, Option, Result, Some}
use Rattle.std.proofs.Math.Logic.{inl, inr}
use Rattle.words.specs.Search.{lowest_row}
use Rattle.words.specs.SearchLaws.{lowest_row-all, all-lowest_row}
use Rattle.words.specs.Refusals.{NumberedRefusal}
use Rattle.check_structure.specs.Refusal.{at, ◌next◌}
use Rattle.check_structure.specs.RefusalLaws.{next-accepts, accepts-next, at-accepts, accepts-at}
use Rattle.check_function_causes.specs.Functions.{is_definition}
use Rattle.check_kernel.specs.Refusal.{refusal as kernel_refusal}
use Rattle.check_kernel.specs.Accepts.{accepted-legal, legal_accepted}
use Rattle.check_plain.specs.Refusal.{plain_refusal}
use Rattle.check_plain.specs.Plain.{Plain}

module _ (header rows : List ℤ) where
  -- The kernel check's causes come first.
  pub accepted-first : plain_refusal header rows ≡ (Ok tt) → kernel_refusal header rows ≡ (Ok tt)
  unfolding plain_refusal
  accepted-first e = (next-accepts (kernel_refusal header rows) _ e).0

  pub accepted-plain : plain_refusal header rows ≡ (Ok tt) → Plain header rows
  unfolding plain_refusal
  accepted-plain e =
      record {
        legal = accepted-legal header rows (accepted-first e);
        no_definition = lowest_row-all rows (is_definition rows) (at-accepts 25 _ (next-accepts (kernel_refusal header rows) _ e).1);
      }

  pub plain-accepted : Plain header rows → plain_refusal header rows ≡ (Ok tt)
  unfolding plain_refusal
  plain-accepted p =
      accepts-next (kernel_refusal header rows) (at 25 _) (legal_accepted header rows p.legal)
      (accepts-at 25 _ (all-lowest_row rows (is_definition rows) p.no_definition))

  pub accepts-plain : plain_refusal header rows ≡ (Ok tt) ↔ Plain header rows
  accepts-plain = (accepted-plain, plain-accepted)

  -- A refusal is the kernel check's, or 25.
  pub refused-plain : (refusal : NumberedRefusal) → plain_refusal header rows ≡ Err refusal → (kernel_refusal header rows ≡ Err refusal) ⊎ (refusal.number ≡ 25)
  unfolding plain_refusal ◌next◌ at
  refused-plain refusal e = go (kernel_refusal header rows) (lowest_row rows (is_definition rows)) refl e
    where
      go : (verdict : Result (Unit {0}) NumberedRefusal) (found : Option ℕ) → kernel_refusal header rows ≡ verdict → (verdict next at 25 found) ≡ Err refusal → (kernel_refusal header rows ≡ Err refusal) ⊎ (refusal.number ≡ 25)
      go (Err other) found told e = inl (rw (told, e))
      go (Ok tt) (Some row) told e = inr (let same : record { number = 25; place = row } ≡ refusal = cc in ap (λ (r : NumberedRefusal). r.number) (sym same))
      go (Ok tt) None told e = absurd (let z : ◌≡◌ {A = ℕ} 0 1 = cc in omega arith)
