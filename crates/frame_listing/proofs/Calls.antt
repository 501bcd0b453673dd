-- A call of a dance show is one that the frame table promises: a new table, or a call of the table so far.
use Rattle.frames.specs.Calls.{Model, claim, release}
use Rattle.frame_table.proofs.Promised.{Promised, by_call, by-new}
use Rattle.dance_text.specs.declared.Call.{Call}
use Rattle.dance_text.specs.declared.Call.TheVariants.{Rig, Claim, Release}
use Rattle.frame_listing.specs.Text.{step_of}

pub promised : (m : Model) (c : Call) → Promised m (step_of m c)
promised m (Rig g) = by-new g
promised m (Claim g) = by_call (claim g)
promised m (Release k) = by_call (release k)
