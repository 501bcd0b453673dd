use Rattle.words.proofs.Numbers.{Summing}
use Rattle.words.proofs.value.Given as goal

abbrev pub invariant-loop-b : goal.invariant-loop-b
invariant-loop-b g l = Summing l.base l.most l.word l.v l.b-index
