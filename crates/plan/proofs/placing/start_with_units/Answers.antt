-- `placing::start_with_units` meets its contract: what bars the claim is gathered, and the first fit is the planned start (`drawn-start`).
use native.Mathlib.Omega.{arith}
use Rattle.plan.proofs.Rows.{row_sized, row_small}
use Rattle.plan.proofs.Barring.{gather-start, gather_none, gather-more, gather_all, drawn-start, claim-early}
use Rattle.plan.proofs.placing.start_with_units.Goals.{then-units-ne0, else-units-ne0}
use Rattle.plan.proofs.placing.start_with_units.Goals as goal

pub loop-c-init : goal.loop-c-init
loop-c-init c = rw (c.new-holds.ensures.0, c.new-holds.ensures.1) (gather-start _ _ _)

pub end_of-requires : goal.end_of-requires
end_of-requires c = (row_small c.requires.0 _ c.loop-c-test.true, c.requires.0.timely)

pub enter-requires : goal.enter-requires
enter-requires c =
    let g = c.loop-c.invariant in
    let s = claim-early _ _ c.requires.0 c.requires.2 _ c.loop-c-test.true in
    (omega (arith, g.few), omega (arith, g.few, g.plot.paired), omega (arith, c.start_or_grant.ensures, s), omega (arith, c.end_of.ensures, s))

pub loop-c-preserved : goal.loop-c-preserved
loop-c-preserved c =
    let r = c.requires.0 in
    let turn = c.loop-c-test.true in
    let g = c.loop-c.invariant in
    let s = claim-early _ _ r c.requires.2 _ turn in
    elim c.if-units-ne0.branch [
      | then-units-ne0 k ↦ rw k.holds-is (gather-more _ _ _ _ turn g _ c.bars_by-units.ensures (row_sized r _ turn) (omega (arith, c.bars_by-units.type_inv)) s.1
          _ _ k.start_or_grant.ensures k.end_of.ensures k.enter.ensures.0 k.enter.ensures.1)
      | else-units-ne0 k ↦ rw k.holds-is (gather_none _ _ _ _ turn g _ c.bars_by-units.ensures k.if-units-ne0.false)
    ]

pub enter_first_fit-requires : goal.enter_first_fit-requires
enter_first_fit-requires c =
    let g = c.loop-c.invariant in
    let s = c.requires.1 in
    (g.plot.events, omega (arith, g.few, c.requires.3), g.plot.paired, s.sane.drawn, omega (arith, c.requires.0.timely), s.sane.long, s.short)

pub returns : goal.returns
returns c =
    drawn-start c.args.v _ c.args.w c.requires.0 c.requires.1 c.requires.4 (gather_all c.loop-c-test.false c.loop-c.invariant) c.enter_first_fit.ensures.fit
