-- A part that is not the last ends before the text does, and the next one farther on.
use native.Mathlib.Omega.{arith}
use Rattle.frame_listing.proofs.InParts.{next_grows}
use Rattle.beat.proofs.print_parts.Goals as goal

pub loop-part-smaller : goal.loop-part-smaller
loop-part-smaller g c =
    let h = next_grows _ c.loop-part.out _ _ c.loop-part.invariant.2 c.if-part-text.true c.next_part-part.ensures.answer in
    omega (arith, h)
