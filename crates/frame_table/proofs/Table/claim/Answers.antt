-- `claim` meets its contract: the tests decide whether it is refused.
use Rattle.std.proofs.Common.{sym, ◌∙◌, ap}
use Rattle.std.proofs.lemmas.Result.{err_from_is_err_and}
use Rattle.frames.specs.Calls.{Step}
use Rattle.frame_table.proofs.Steps.{step-refused, claim-room, claim-accepted}
use Rattle.frame_table.proofs.Table.claim.Goals as goal

pub returns-in_err-test_claim-clause-table : goal.returns-in_err-test_claim-clause-table
returns-in_err-test_claim-clause-table c = sym (ap (λ (s : Step). s.model) (step-refused _ _ _ c.in_err-test_claim.ensures))

pub returns-in_err-test_claim-clause-answer : goal.returns-in_err-test_claim-clause-answer
returns-in_err-test_claim-clause-answer c =
    let p = err_from_is_err_and c.from_residual.result c.from_residual.ensures.1 in
    rw (p.1, p.2) (sym (ap (λ (s : Step). s.answer) (step-refused _ _ _ c.in_err-test_claim.ensures)))

pub admit-requires : goal.admit-requires
admit-requires c = claim-room _ _ c.in_ok-test_claim.ensures

pub returns-clause-table : goal.returns-clause-table
returns-clause-table c = c.admit.ensures.table ∙ sym (ap (λ (s : Step). s.model) (claim-accepted _ _ c.in_ok-test_claim.ensures))

pub returns-clause-answer : goal.returns-clause-answer
returns-clause-answer c = c.admit.ensures.answer ∙ sym (ap (λ (s : Step). s.answer) (claim-accepted _ _ c.in_ok-test_claim.ensures))
