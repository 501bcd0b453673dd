-- The records of one claim's draws: a claim, or a claim and a release.
use mathlib.Core.Path.{◌≡◌, refl}
use Rattle.std.specs.Prelude.{Option, Some, None}
use Prim.Native.Nat.{ℕ, ◌+◌, ◌%◌, ◌≤◌}
use native.Mathlib.Omega.{arith}
use lib.Dec.{eqb}
use Rattle.rules.specs.Calls.{Model}
use Rattle.rules.proofs.Bools.{by-test}
use Rattle.format.specs.declared.Call.{Call}
use Rattle.format.specs.Calls.{claim}
use Rattle.generator.specs.declared.Draws.{Draws}
use Rattle.generator.specs.Workload.{Batch, clock_for, groups_for, length_for, after_record, claim_batch, lowest_on, release_of, followed_by, batch_of}

-- The claim of draws, after a claim at clock t.
abbrev pub claim_in : ℕ → Draws → Call
claim_in t d = claim (clock_for t d) (groups_for d) (length_for d)

module _ (t : ℕ) (m : Model) (d : Draws) where
  abbrev pub claimed : Model
  claimed = after_record m (claim_in t d)

  pub batch-cases : (P : Batch → Type 0) → P (claim_batch t m d)
      → ((k : ℕ) → lowest_on claimed ≡ Some k → P (followed_by (claim_batch t m d) (release_of (clock_for t d) claimed (Some k)))) → P (batch_of t m d)
  unfolding batch_of
  batch-cases P p q = by-test (eqb (d.last % 2) 1) (λ e. rw e (go (lowest_on claimed) refl)) (λ e. rw e p)
    where
      go : (x : Option ℕ) → lowest_on claimed ≡ x → P (followed_by (claim_batch t m d) (release_of (clock_for t d) claimed x))
      go None e = p
      go (Some k) e = q k e

  pub batch-clock : (batch_of t m d).clock ≤ t + 7
  batch-clock = batch-cases (λ (x : Batch). x.clock ≤ t + 7) (omega arith) (λ k e. omega arith)
