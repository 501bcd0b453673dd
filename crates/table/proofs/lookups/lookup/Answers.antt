use Rattle.std.proofs.Common.{◌∙◌, ap}
use Rattle.rules.specs.Calls.{standing}
use Rattle.plan.proofs.Rows.{row_small}
use Rattle.table.proofs.Finding.{found-place, found-standing, absent-standing}
use Rattle.table.proofs.lookups.lookup.Goals as goal

pub standing-requires : goal.standing-requires
standing-requires c =
    let r = c.requires.ranged.ranges in
    let h = row_small r c.in-Some.i (found-place _ _ _ r.ascending c.in-Some.ensures) in
    rw c.get.ensures h

pub returns-in-Some : goal.returns-in-Some
returns-in-Some c =
    c.standing.ensures ∙ ap standing c.get.ensures ∙ found-standing _ _ _ c.requires.ranged.ranges.ascending c.in-Some.ensures

pub returns-in-None : goal.returns-in-None
returns-in-None c = absent-standing _ _ c.in-None.ensures
