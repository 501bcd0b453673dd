use lib.ListN.{length}
use Rattle.load_text.proofs.Making.{Turn}
use Rattle.load_text.proofs.gather.Given as goal

abbrev pub invariant-loop-said : goal.invariant-loop-said
invariant-loop-said l = Turn l.start.edition l.text l.rest l.initial.page l.page l.line

abbrev pub decreases-loop-said : goal.decreases-loop-said
decreases-loop-said l = length l.rest
