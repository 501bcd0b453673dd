-- `part_behind` meets its contract: nothing where the buffer is too short, else the calls up to the limit that leaves room for one more.
use native.Mathlib.Omega.{arith}
use Rattle.frame_listing.proofs.InParts.{part_none, part-laid}
use Rattle.frame_listing.proofs.part_behind.Goals as goal

pub returns-then-out-lt1674 : goal.returns-then-out-lt1674
returns-then-out-lt1674 c =
    let a = part_none _ _ c.args.p _ c.requires.0 c.if-out-lt1674.true in
    record { answer = a.0; buffer = a.1.0; ready = a.1.1 }

pub returns : goal.returns
returns c =
    let a = part-laid _ _ _ _ c.if-out-lt1674.false (omega arith) _ _ c.put_calls.ensures in
    record { answer = a.0; buffer = a.1.0; ready = a.1.1 }
