-- `placing::start_beside` meets its contract: no candidate is below the clock or after the planned start, and each is nearer to it; in a pass
-- the places left decide whether the candidate fits (`Tried`), and a claim that barred one bars none after it (`Passed`).
use mathlib.Core.Path.{◌≡◌, sym, ◌∙◌}
use Prim.Native.Nat.{◌≤◌, ◌<◌}
use native.Mathlib.Omega.{arith}
use lib.ListN.{length}
use Rattle.std.proofs.Common.{Some}
use Rattle.groups.specs.Groups.{lowest}
use Rattle.groups.proofs.Groups.{lowest-in}
use Rattle.rules.specs.Placing.{place}
use Rattle.rules.proofs.Placing.{place-low}
use Rattle.plan.proofs.Rows.{row-member, row_small}
use Rattle.plan.proofs.PlacingLoop.{jump, found_plain, others-fewer, passed_start, passed-jump, tried-next, tried-all}
use Rattle.plan.proofs.Ranges.{place-small}
use Rattle.plan.proofs.placing.start_beside.Goals.{In-Some, After-end_of-s}
use Rattle.plan.proofs.placing.start_beside.Goals as goal

pub candidates-init : goal.candidates-init
candidates-init c = record { low = omega arith; high = place-low _ _ _; passed = passed_start _ _ _ _ c.requires.4 }

-- The place at hand is the lowest of those that are left: that of a claim of the row.
at-hand : (c : In-Some) → lowest c.loop-j.rest ≡ Some c.in-Some.j
at-hand c = sym c.lowest.ensures ∙ c.in-Some.is

inside : (c : In-Some) →
    (c.in-Some.j < 64) × (c.in-Some.j < length c.args.pending.now)
inside c =
    let i = lowest-in _ _ (at-hand c) in
    (i.0, c.loop-j.invariant.tried.inside _ i.0 i.1)

pub offset_bounds-pending-j : goal.offset_bounds-pending-j
offset_bounds-pending-j c = omega (arith, inside c)

pub bounds-pending-j : goal.bounds-pending-j
bounds-pending-j c = (inside c).1

pub clears-requires : goal.clears-requires
clears-requires c =
    let row = c.requires.0 in (
      row_small row _ (inside (goal.at.clears-requires c).In-Some).1,
      omega (arith, c.loop-j.invariant.same, c.candidates.invariant.high, place-small _ _ _ row c.requires.1 c.requires.2),
      row.timely,
    )

pub end_of-s-requires : goal.end_of-s-requires
end_of-s-requires c = (row_small c.requires.0 _ (inside (goal.at.end_of-s-requires c).In-Some).1, c.requires.0.timely)

-- The end to which the search jumps is after the candidate, and not after the planned start.
nearer : (c : After-end_of-s) → c.in-Some.j < length c.args.pending.now →
    (c.candidates.s < c.end_of-s.result) × (c.end_of-s.result ≤ place c.args.v c.args.pending.now c.args.w)
nearer c within =
    let i = c.loop-j.invariant in
    let m = row-member c.requires.0 c.in-Some.j within in
    let k = jump c.args.v c.args.w c.loop-j.s _ c.requires.1.sane (omega (arith, i.same, c.candidates.invariant.high)) _ m (sym c.clears.ensures ∙ c.if-not-clears.true) in
    (omega (arith, c.end_of-s.ensures, k.0, i.same), omega (arith, c.end_of-s.ensures, k.1))

pub candidates-smaller : goal.candidates-smaller
candidates-smaller c = omega (arith, nearer (goal.at.candidates-smaller c).After-end_of-s (inside (goal.at.candidates-smaller c).In-Some).1)

pub candidates-preserved : goal.candidates-preserved
candidates-preserved c =
    let n = nearer (goal.at.candidates-preserved c).After-end_of-s (inside (goal.at.candidates-preserved c).In-Some).1 in
    record {
      low = omega (arith, n, c.candidates.invariant.low);
      high = n.1;
      passed = rw (c.without-left.ensures, c.only.ensures, c.loop-j.invariant.kept) (passed-jump _ _ _ c.candidates.invariant.passed _ _ (omega (arith, n)) c.end_of-s.ensures);
    }

pub loop-j-smaller : goal.loop-j-smaller
loop-j-smaller c = rw c.others-rest.ensures (others-fewer _ _ (at-hand (goal.at.loop-j-smaller c).In-Some))

pub loop-j-preserved : goal.loop-j-preserved
loop-j-preserved c =
    let i = c.loop-j.invariant in
    record {
      same = i.same;
      kept = i.kept;
      tried = rw c.others-rest.ensures (tried-next _ _ _ i.tried (at-hand (goal.at.loop-j-preserved c).In-Some) (sym c.clears.ensures ∙ c.if-not-clears.false));
    }

-- Where none is left to try, all leave room.
pub returns : goal.returns
returns c =
    let i = c.loop-j.invariant in
    let k = c.candidates.invariant in
    let clear-all = tried-all _ _ _ i.tried (sym c.lowest.ensures ∙ c.in_default.is) c.requires.0.few in
    found_plain c.args.v c.args.w c.loop-j.s _ c.requires.1.sane (omega (arith, k.high, i.same)) (omega (arith, k.low, i.same)) clear-all c.requires.3
