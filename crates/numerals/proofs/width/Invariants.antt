use Rattle.numerals.proofs.Numbers.{Counting}
use Rattle.numerals.proofs.width.Given as goal

abbrev pub invariant-loop-v : goal.invariant-loop-v
invariant-loop-v l = Counting l.value l.v l.n

abbrev pub decreases-loop-v : goal.decreases-loop-v
decreases-loop-v l = l.v
