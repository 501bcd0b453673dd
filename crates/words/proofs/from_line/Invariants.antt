use Rattle.words.specs.Parts.{IsLast}
use Rattle.words.proofs.Lines.{Passes}
use Rattle.words.proofs.from_line.Given as goal

abbrev pub invariant-loop : goal.invariant-loop
invariant-loop l = Passes l.text l.line l.rest l.counter × IsLast l.text l.rest
