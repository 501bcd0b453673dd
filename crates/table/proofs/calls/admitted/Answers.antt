use Rattle.std.proofs.Common.{◌≡◌, ◌+◌, sym, ◌∙◌, ap, subst}
use Rattle.rules.specs.Invariants.{Still}
use Rattle.rules.specs.Calls.{Model, Step, with_pending, with_issued, join, finish, admit}
use Rattle.rules.proofs.Calls.{placed}
use Rattle.table.specs.Valid.{Ranged}
use Rattle.table.specs.States.{model}
use Rattle.table.proofs.Steps.{asked-row, joined-is, admit-is, placed-ranged, placed-still}
use Rattle.table.proofs.calls.admitted.Goals.{After-place-reply}
use Rattle.table.proofs.calls.admitted.Goals as goal

pub place-reply-requires : goal.place-reply-requires
place-reply-requires c =
    let h = c.requires in
    let m = model c.args.t.now in
    rw c.setting_of-v.ensures (asked-row m c.args.ask h.ranged h.still h.few h.spare h.asked.0 h.asked.1 h.asked.2)

-- The table with the claim put in.
table_is : (c : After-place-reply) →
    let m = model c.args.t.now in with_pending (with_issued m (m.issued + 1)) c.place-reply.new.pending ≡ join m (placed m c.args.ask)
table_is c = joined-is (model c.args.t.now) c.args.ask _ (rw c.setting_of-v.ensures at c.place-reply.ensures.claims)

pub finished-requires-clause-ranged : goal.finished-requires-clause-ranged
finished-requires-clause-ranged c =
    let h = c.requires in
    subst Ranged (sym (table_is (goal.at.finished-requires-clause-ranged c).After-place-reply)) (placed-ranged (model c.args.t.now) c.args.ask h.ranged h.still h.few h.spare h.asked.0 h.asked.1 h.asked.2)

pub finished-requires-clause-still : goal.finished-requires-clause-still
finished-requires-clause-still c =
    let h = c.requires in
    subst Still (sym (table_is (goal.at.finished-requires-clause-still c).After-place-reply)) (placed-still (model c.args.t.now) c.args.ask h.ranged h.still h.few h.spare h.asked.0 h.asked.1 h.asked.2)

step_is : (c : After-place-reply) →
    let m = model c.args.t.now in finish (with_pending (with_issued m (m.issued + 1)) c.place-reply.new.pending) c.place-reply.result ≡ admit m c.args.ask
step_is c =
    ap (λ (n : Model). finish n c.place-reply.result) (table_is c) ∙ admit-is (model c.args.t.now) c.args.ask c.place-reply.result (rw c.setting_of-v.ensures at c.place-reply.ensures.reply)

pub returns-clause-answer : goal.returns-clause-answer
returns-clause-answer c = c.finished.ensures.answer ∙ ap (λ (s : Step). s.answer) (step_is (goal.at.returns-clause-answer c).After-place-reply)

pub returns-clause-table : goal.returns-clause-table
returns-clause-table c = c.finished.ensures.table ∙ ap (λ (s : Step). s.model) (step_is (goal.at.returns-clause-table c).After-place-reply)
