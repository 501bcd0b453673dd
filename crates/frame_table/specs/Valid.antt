-- What holds of every frame table. `new` makes such a table and every call keeps it so.
use Rattle.std.specs.Prelude.{◌≤◌, ◌<◌, length}
use Rattle.numbers.specs.Numbers.{most_tickets, most_pending}
use Rattle.rules.specs.Lists.{◌∈◌}
use Rattle.frames.specs.declared.Claim.{Claim}
use Rattle.frames.specs.Calls.{Model}
use Rattle.frames.specs.Invariants.{Invariant}
use Rattle.frame_table.specs.declared.Table.TheInside.{Inside}

-- What a table means.
abbrev pub model : Inside → Model
model t = record { rig = t.rig; issued = t.issued; pending = t.pending }

-- The parts of the table that a model means.
abbrev pub inside : Model → Inside
inside m = record { rig = m.rig; issued = m.issued; pending = m.pending }

-- The limits of document 01, "A claim"; and as many rows behind the head as claims, at most.
pub record Ranged (m : Model) : Type 0 where
  pub few : length m.pending ≤ most_pending
  pub numbered : m.issued ≤ most_tickets
  pub near : (c : Claim) → c ∈ m.pending → c.row ≤ most_pending

-- In range, and what frames/specs/Invariants says holds.
pub record Valid (m : Model) : Type 0 where
  pub ranged : Ranged m
  pub settled : Invariant m

-- A place and a ticket are left for a claim.
pub record HasRoom (m : Model) : Type 0 where
  pub room : length m.pending < most_pending
  pub spare : m.issued < most_tickets
