-- `load::check_growth` meets its contract: each test in the code's order is the same test of `grow_number`.
use Prim.Native.Nat.{◌+◌, ◌≤◌}
use native.Mathlib.Omega.{arith}
use mathlib.Core.Path.{◌≡◌, sym}
use Rattle.format.proofs.Calls.{keeps-kind}
use Rattle.format.proofs.Format.{length-bounded}
use Rattle.format.proofs.Records.{carries-parts}
use Rattle.format.specs.Records.{record_of}
use Rattle.load.specs.Writing.{room_number, grow_number}
use Rattle.load.proofs.Bytes.{call_length}
use Rattle.load.proofs.Writing.{room-long, room-short, room-good}
use Rattle.load.proofs.check_growth.Goals.{After-length_of, then-not-placed-via-then-not-placed, then-not-placed-via-else-not-placed+then-not-carries}
use Rattle.load.proofs.check_growth.Goals as goal

-- Behind the tests of place and edition the sizes decide.
sizes : (c : After-length_of)
    → let a = c.args in
    let n = c.length_of.result in
    (room_number (a.size + (2 + n)) a.room ≡ grow_number a.edition a.size (record_of a.call) a.room) × (n ≤ 65535)
unfolding grow_number
sizes c =
    let a = c.args in
    let p = sym c.if-not-placed.ensures in
    let q = sym c.if-not-carries.ensures in
    let r = call_length a.edition a.call (keeps-kind _ _ (carries-parts a.edition (record_of a.call) q).0) in
    (rw (p, q, r, ← c.length_of.ensures), omega (arith, c.length_of.ensures, length-bounded a.edition a.call.kind))

pub returns-then-not-placed : goal.returns-then-not-placed
unfolding grow_number
returns-then-not-placed c =
    elim c.then-not-placed.branch [ then-not-placed-via-then-not-placed w ↦ rw (sym w.if-not-placed.ensures) | then-not-placed-via-else-not-placed+then-not-carries w ↦ rw (sym w.if-not-placed.ensures, sym w.if-not-carries.ensures) ]

pub overflow_add-length_of : goal.overflow_add-length_of
overflow_add-length_of c = omega (arith, (sizes c).1)

pub returns-then-whole-gt-MOST_BYTES : goal.returns-then-whole-gt-MOST_BYTES
returns-then-whole-gt-MOST_BYTES c = room-long _ _ _ (sizes (goal.at.returns-then-whole-gt-MOST_BYTES c).After-length_of).0 (omega arith)

pub returns-then-room-whole : goal.returns-then-room-whole
returns-then-room-whole c = room-short _ _ _ (sizes (goal.at.returns-then-room-whole c).After-length_of).0 (omega arith) (omega arith)

pub returns : goal.returns
returns c = room-good _ _ _ (sizes (goal.at.returns c).After-length_of).0 (omega arith) (omega arith)
