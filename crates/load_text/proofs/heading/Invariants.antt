use lib.ListN.{length}
use Rattle.load_text.proofs.Headings.{Heads}
use Rattle.load_text.proofs.heading.Given as goal

abbrev pub invariant-loop-said : goal.invariant-loop-said
invariant-loop-said l = Heads l.text l.rest l.line

abbrev pub decreases-loop-said : goal.decreases-loop-said
decreases-loop-said l = length l.rest
