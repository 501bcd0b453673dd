-- `listing` meets its contract: a line that is wrong, the listing where it goes in, else 15.
use mathlib.Core.Path.{sym, ◌∙◌}
use native.Mathlib.Omega.{arith}
use Rattle.dance_text.proofs.Shows.{survey-calls}
use Rattle.frame_listing.proofs.CallLoop.{listed-all, listed-none}
use Rattle.frame_listing.proofs.listing.Goals as goal

pub goes_into-requires : goal.goes_into-requires
goes_into-requires c = (survey-calls _ _ (sym c.survey.ensures ∙ c.in_ok-calls.was), omega arith)

pub returns-then-goes_into : goal.returns-then-goes_into
returns-then-goes_into c =
    let a = listed-all _ _ _ (sym c.survey.ensures ∙ c.in_ok-calls.was) (sym c.goes_into.ensures ∙ c.if-goes_into.true) (omega arith) _ _ c.run.ensures in
    record { answer = a.0; buffer = a.1.0; values = a.1.1 }

pub returns : goal.returns
returns c =
    let a = listed-none _ _ _ (sym c.survey.ensures ∙ c.in_ok-calls.was) (sym c.goes_into.ensures ∙ c.if-goes_into.false) in
    record { answer = a.0; buffer = a.1.0; values = a.1.1 }
