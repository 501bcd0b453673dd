use Rattle.std.proofs.Common.{◌≡◌, sym, ◌∙◌, ap, subst}
use Rattle.rules.specs.Plans.{Ascending}
use Rattle.rules.specs.Calls.{Model, with_pending, remove}
use Rattle.table.specs.Outcomes.{draws, departed, lacking}
use Rattle.table.specs.States.{model}
use Rattle.table.proofs.Finding.{any_is, found-lacking, absent-lacking}
use Rattle.table.proofs.Steps.{no-pool-draws, departed-none, departed-some, departed-ranged}
use Rattle.table.proofs.calls.removed.Goals.{Joined-t-ne0, then-t-ne0+then-anyone_draws, else-t-ne0, else-t-ne0-via-then-t-ne0+else-anyone_draws, else-t-ne0-via-else-t-ne0}
use Rattle.table.proofs.calls.removed.Goals as goal

-- The table that the claim is taken out of.
start_is : (c : Joined-t-ne0) → model c.if-t-ne0.t ≡ departed (model c.args.t.now) c.args.clock
start_is c =
    let m = model c.args.t.now in
    let x = c.args.clock in
    elim c.if-t-ne0.branch [
      | then-t-ne0+then-anyone_draws w ↦ rw w.t-is (w.at_clock.ensures ∙ sym (departed-some m x (sym (any_is draws m.pending) ∙ sym w.anyone_draws.ensures ∙ w.if-anyone_draws.true)))
      | else-t-ne0 w ↦ rw w.t-is (sym (departed-none m x (elim w.else-t-ne0.branch [
        | else-t-ne0-via-then-t-ne0+else-anyone_draws k ↦ sym (any_is draws m.pending) ∙ sym k.anyone_draws.ensures ∙ k.if-anyone_draws.false
        | else-t-ne0-via-else-t-ne0 k ↦ no-pool-draws m c.requires.valid.ranged k.if-t-ne0.false
      ])))
    ]

ascending : (c : Joined-t-ne0) → Ascending c.if-t-ne0.t.pending
ascending c =
    subst (λ (n : Model). Ascending n.pending) (sym (start_is c))
    (departed-ranged (model c.args.t.now) c.args.clock c.requires.valid.ranged c.requires.later c.requires.early).ranges.ascending

pub returns-in-Some : goal.returns-in-Some
unfolding remove
returns-in-Some c =
    let j = (goal.at.returns-in-Some c).Joined-t-ne0 in
    let k = c.args.ticket in
    let n = model c.if-t-ne0.t in
    let e : c.remove.new.self ≡ lacking k n.pending = c.remove.ensures ∙ found-lacking n.pending k c.in-Some.i (ascending j) (sym c.in-Some.is ∙ c.find.ensures) in
    ap (with_pending n) e ∙ ap (λ (x : Model). remove x k) (start_is j)

pub returns-in_default : goal.returns-in_default
unfolding remove
returns-in_default c =
    let k = c.args.ticket in
    let n = model c.if-t-ne0.t in
    ap (with_pending n) (absent-lacking n.pending k (sym c.in_default.is ∙ c.find.ensures)) ∙ ap (λ (x : Model). remove x k) (start_is (goal.at.returns-in_default c).Joined-t-ne0)
