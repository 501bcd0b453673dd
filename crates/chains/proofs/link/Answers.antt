use Rattle.std.proofs.Common.{Bool, ◌&&◌, eqb, get_or, refl, sym, ◌∙◌, ap, arith, eq-eqb, ne_eqb}
use mathlib.Core.Bool.{and-false}
use Rattle.rules.specs.Claims.{at, end_of}
use Rattle.rules.specs.Vacant.{vacant}
use Rattle.rules.specs.Chains.{link}
use Rattle.plan.proofs.Rows.{row_small}
use Rattle.chains.proofs.Following.{link_here, link_on, link_none}
use Rattle.chains.proofs.link.Goals.{else-end_of-start_or_grant-via-then-end_of-start_or_grant+else-meets, else-end_of-start_or_grant-via-else-end_of-start_or_grant}
use Rattle.chains.proofs.link.Goals as goal

pub loop-c-init : goal.loop-c-init
unfolding link
loop-c-init c = refl

pub end_of-requires : goal.end_of-requires
end_of-requires c = (row_small c.requires _ (omega arith), c.requires.timely)

pub returns-then-meets : goal.returns-then-meets
returns-then-meets c =
    sym (link_here c.args.v c.args.claims.now c.args.w c.loop-c.c-index c.loop-c-test.true
    (eq-eqb _ _ (sym c.end_of.ensures ∙ c.if-end_of-start_or_grant.true ∙ c.start_or_grant.ensures)) (sym c.meets.ensures ∙ c.if-meets.true))
    ∙ c.loop-c.invariant

pub loop-c-preserved : goal.loop-c-preserved
loop-c-preserved c =
    let turn = link_on c.args.v c.args.claims.now c.args.w c.loop-c.c-index c.loop-c-test.true in
    elim c.else-end_of-start_or_grant.branch [
      | else-end_of-start_or_grant-via-then-end_of-start_or_grant+else-meets k ↦ sym (turn (ap (λ (b : Bool). eqb (end_of c.args.v (get_or c.args.claims.now c.loop-c.c-index vacant)) (at c.args.w) && b) (sym k.meets.ensures ∙ k.if-meets.false) ∙ and-false _)) ∙ c.loop-c.invariant
      | else-end_of-start_or_grant-via-else-end_of-start_or_grant k ↦ sym (turn (rw (ne_eqb _ _ (λ e. k.if-end_of-start_or_grant.false (c.end_of.ensures ∙ e ∙ sym c.start_or_grant.ensures))) refl)) ∙ c.loop-c.invariant
    ]

pub returns : goal.returns
returns c = link_none c.args.v c.args.claims.now c.args.w c.loop-c.c-index (omega arith) ∙ c.loop-c.invariant
