use Rattle.load.proofs.Fields.{Reading}
use Rattle.load.proofs.call_of.Given as goal

abbrev pub invariant-loop-field : goal.invariant-loop-field
invariant-loop-field l = Reading l.edition l.kind l.bytes l.at l.field-index l.call
