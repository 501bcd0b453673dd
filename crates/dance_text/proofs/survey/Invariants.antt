use lib.ListN.{length}
use Rattle.dance_text.proofs.Shows.{Passing}
use Rattle.dance_text.proofs.survey.Given as goal

abbrev pub invariant-loop-said : goal.invariant-loop-said
invariant-loop-said l = Passing l.text l.rest l.line l.calls

abbrev pub decreases-loop-said : goal.decreases-loop-said
decreases-loop-said l = length l.rest
