-- What follows from the promises of the frame table's calls: the one file of proofs here that crates above cite. It is stated over the step
-- of the rules that a call's promise names.
use Rattle.std.proofs.Common.{◌≡◌, refl, ℕ, ◌+◌, ◌≤◌, length, arith}
use Rattle.frames.specs.Calls.{Model, Call, Step, step, blank, new}
use Rattle.frames.proofs.Calls.{new-cases}
pub use Rattle.frames.proofs.GrantCounts.{waiting}
use Rattle.frames.proofs.GrantCounts.{waiting_none, Counted, step-counted, new-counted}
use Rattle.frame_table.specs.Valid.{Valid}
pub use Rattle.frame_table.proofs.Tables.{new-valid}
use Rattle.frame_table.proofs.Tables.{step-valid}

-- A step that a call promises: of the table m, or a new table.
pub data Promised (m : Model) : Step → Type 0 where
  by_call : (c : Call) → Promised m (step m c)
  by-new : (g : ℕ) → Promised m (new g)

counted : {m : Model} {s : Step} → Promised m s → Counted m s
counted {m} (by_call c) = step-counted m c
counted {m} (by-new g) = new-counted m g

-- Those named as granted, and those that still wait, waited before, but for one that the call claimed.
pub granted-once : {m : Model} {s : Step} → Promised m s → length s.answer.grants + waiting s.model ≤ waiting m + 1
granted-once q = (counted q).once

-- Valid tables stay so, and no more are granted than there are places.
pub promised-valid : {m : Model} {s : Step} → Valid m → Promised m s → Valid s.model
promised-valid {m} v (by_call c) = step-valid m c v
promised-valid v (by-new g) = new-valid g

pub granted-few : {m : Model} {s : Step} → Valid m → Promised m s → length s.answer.grants ≤ 64
granted-few v q = omega (arith, (counted q).few, (promised-valid v q).ranged.few)

-- Nobody waits in a table without claims, and `new` refuses a rig without groups with such a table.
pub none-waits : (g : ℕ) → waiting (blank g) ≡ 0
none-waits g = waiting_none g

pub new_none : (new 0).model ≡ blank 0
new_none = new-cases (λ (x : Step). x.model ≡ blank 0) 0 (λ z. refl) (λ z. refl)
