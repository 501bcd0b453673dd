-- `ticket` meets its contract: the word says a number, or not.
use mathlib.Core.Path.{sym}
use native.Mathlib.Omega.{arith}
use Rattle.words.proofs.Numbers.{number-most}
use Rattle.question.specs.Questions.{ticket_in}
use Rattle.question.proofs.questions.ticket.Goals as goal

pub overflow_cast-result : goal.overflow_cast-result
overflow_cast-result c = omega (arith, number-most _ _ _ _ _ _ (sym c.in-Ok.ensures.0))

pub returns-in-Ok : goal.returns-in-Ok
unfolding ticket_in
returns-in-Ok c = rw (sym c.in-Ok.ensures.0)

pub returns-in-Err : goal.returns-in-Err
unfolding ticket_in
returns-in-Err c = rw (sym c.in-Err.ensures.0)
