-- Every record that a load is read as has a kind that says something: the first is the rig, and each other says a call of the table. So
-- `says_call`, and `act` in the code, take no kind but a clock's for a clock call, though their last case stands for all that are left.
use Rattle.std.specs.Prelude.{◌≡◌, List, [], ◌∷◌, ℕ}
use Rattle.rules.specs.Lists.{◌∈◌}
use Rattle.rules.specs.Calls.{Call as TableCall, claim, release, withdraw, clock, declare, set_grace}
use Rattle.format.specs.Records.{Record}
use Rattle.format.specs.Format.{rig_kind, claim_kind, release_kind, withdraw_kind, clock_kind, declaration_kind, grace_kind}
use Rattle.load.specs.Reading.{walk}
use Rattle.replay.specs.Records.{says_call}

-- A record says the call of its kind. There is no case for the rig, and none for a number that is no kind.
pub data Says (r : Record) : TableCall → Type 0 where
  says-claim : r.call.kind ≡ claim_kind → Says r (claim r.call.clock (record { groups = r.call.groups; length = r.call.length; units = r.call.units; client = r.call.client }))
  says-release : r.call.kind ≡ release_kind → Says r (release r.call.clock r.call.ticket)
  says-withdrawal : r.call.kind ≡ withdraw_kind → Says r (withdraw r.call.clock r.call.ticket)
  says-clock : r.call.kind ≡ clock_kind → Says r (clock r.call.clock)
  says-declaration : r.call.kind ≡ declaration_kind → Says r (declare r.call.client r.call.reserved r.call.limit)
  says-grace : r.call.kind ≡ grace_kind → Says r (set_grace r.call.grace)

-- No records; or the rig, and behind it records that each say the call of their kind.
pub data RigThenCalls : List Record → Type 0 where
  no_record : RigThenCalls []
  rig-first : (r : Record) (rs : List Record) → r.call.kind ≡ rig_kind → ((q : Record) → q ∈ rs → Says q (says_call q)) → RigThenCalls (r ∷ rs)

-- The records of every load. (Proved in proofs/RecordKinds: records-say-calls.)
abbrev pub RecordsSayCalls : Type 0
RecordsSayCalls = (load : List ℕ) → RigThenCalls (walk load 1).records
