-- Every part is one of its buffer, and each takes the listing farther on in the text.
use Prim.Native.Nat.{◌-◌, ◌≤◌}
use lib.ListN.{length}
use Rattle.frame_listing.specs.InParts.{part_room, Ready}
use Rattle.beat.proofs.print_parts.Given as goal

abbrev pub invariant-loop-part : goal.invariant-loop-part
invariant-loop-part g l = Ready l.part × (l.part.length ≤ length l.out) × (part_room ≤ length l.out)

abbrev pub decreases-loop-part : goal.decreases-loop-part
decreases-loop-part g l = length l.text - l.part.at
