-- What holds of every table: `new` gives it and every call keeps it.
use Rattle.std.specs.Prelude.{◌≤◌}
use Rattle.numbers.specs.Numbers.{most_tickets}
use Rattle.rules.specs.declared.Claim.{Claim}
use Rattle.rules.specs.Lists.{◌∈◌}
use Rattle.rules.specs.Calls.{Model, setting_of}
use Rattle.rules.specs.Invariants.{Invariant, IsBooked}
use Rattle.plan.specs.Rows.{InRange}

-- The limits of document 01, "A claim", of the pool and of the grace.
pub record Ranged (m : Model) : Type 0 where
  pub ranges : InRange (setting_of m) m.pending
  pub numbered : m.issued ≤ most_tickets
  pub issued : (c : Claim) → c ∈ m.pending → c.ticket ≤ m.issued

-- These, and what rules/specs/Invariants says of a table.
pub record Valid (m : Model) : Type 0 where
  pub ranged : Ranged m
  pub settled : Invariant m
  pub booked : IsBooked m
