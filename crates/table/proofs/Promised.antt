-- What follows from the promises of the table's calls: the one file of proofs here that crates above cite. It is stated over the steps of
-- the rules that these promises name.
use mathlib.Core.Bool.{Bool}
use mathlib.Core.Path.{◌≡◌, refl}
use Prim.Native.Nat.{ℕ, ◌+◌, ◌-◌, ◌≤◌}
use lib.ListN.{length}
use Rattle.rules.specs.Calls.{Model, Call, Step, step, blank, new}
use Rattle.rules.proofs.Calls.{new-cases}
-- `new` gives a valid table, and every call keeps it so.
pub use Rattle.table.proofs.Steps.{step-valid}
pub use Rattle.rules.proofs.GrantCounts.{waiting}
use Rattle.rules.proofs.GrantCounts.{waiting_none, Counted, step-counted, new-counted}

-- ── how many are granted ──
-- A step that a call promises: of the table m, or a new table.
pub data Promised (m : Model) : Step → Type 0 where
  by_call : (c : Call) → Promised m (step m c)
  by-new : (g k : ℕ) (alone : Bool) → Promised m (new g k alone)

counted : {m : Model} {s : Step} → Promised m s → Counted m s
counted {m} (by_call c) = step-counted m c
counted {m} (by-new g k alone) = new-counted m g k alone

module _ {m : Model} {s : Step} (q : Promised m s) where
  -- Those named as granted, and those that still wait, waited before or were issued by the call, which issues one ticket at most.
  pub granted-once : length s.answer.grants + waiting s.model ≤ waiting m + (s.model.issued - m.issued)
  granted-once = (counted q).once

  pub issues_few : s.model.issued - m.issued ≤ 1
  issues_few = (counted q).issues_few

-- Nobody waits in a table without claims, and `new` refuses a rig without groups with such a table.
pub none-waits : (g k : ℕ) (alone : Bool) → waiting (blank g k alone) ≡ 0
none-waits g k alone = waiting_none g k alone

pub new_none : (alone : Bool) → (new 0 0 alone).model ≡ blank 0 0 alone
new_none alone = new-cases (λ (x : Step). x.model ≡ blank 0 0 alone) 0 0 alone (λ z. refl) (λ z. refl)
