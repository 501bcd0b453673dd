-- `answer` meets its contract: the line asks nothing, or the text, counted on one byte, goes in or not.
use mathlib.Core.Path.{sym, ◌∙◌}
use Rattle.question.proofs.Answers.{asked-none, asked-short, asked-all}
use Rattle.question.proofs.answer.Goals as goal

pub returns-in_default : goal.returns-in_default
returns-in_default c =
    let a = asked-none _ _ _ (sym c.in_default.is ∙ c.question_of.ensures) in
    record { answer = a.0; buffer = a.1.0; values = a.1.1 }

pub returns-then-out-run : goal.returns-then-out-run
returns-then-out-run c =
    let a = asked-short _ _ _ _ (sym c.in-Some.is ∙ c.question_of.ensures) _ c.replay-left.ensures _ c.run.ensures.0 c.if-out-run.true in
    record { answer = a.0; buffer = a.1.0; values = a.1.1 }

pub returns : goal.returns
returns c =
    let a = asked-all _ _ _ _ (sym c.in-Some.is ∙ c.question_of.ensures) _ c.replay-left.ensures _ c.run.ensures.0 c.if-out-run.false _ _ c.run-2.ensures in
    record { answer = a.0; buffer = a.1.0; values = a.1.1 }
