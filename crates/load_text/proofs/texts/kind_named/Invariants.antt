use Rattle.load_text.proofs.Tables.{Looks}
use Rattle.load_text.proofs.texts.kind_named.Given as goal

abbrev pub invariant-loop-kind : goal.invariant-loop-kind
invariant-loop-kind l = Looks l.word l.kind
