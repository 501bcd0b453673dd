-- `test_release` meets its contract: the place of the ticket's claim decides.
use Rattle.std.proofs.Common.{sym, ◌∙◌}
use Rattle.frame_table.specs.Valid.{model}
use Rattle.frame_table.proofs.Releasing.{not-pending, left-is, waits-there, on-there}
use Rattle.frame_table.proofs.Table.test_release.Goals as goal

pub returns-in_default-clause-number : goal.returns-in_default-clause-number
returns-in_default-clause-number c =
    rw (← c.self.view_is) (not-pending (model _) _ c.self.invariant.settled.ascending _ c.place_of.ensures c.in_default.is)

pub returns-then-not-is_on-clause-number : goal.returns-then-not-is_on-clause-number
returns-then-not-is_on-clause-number c =
    rw (← c.self.view_is) (waits-there (model _) _ c.self.invariant.settled.ascending _ c.place_of.ensures _ c.in-Some.is _ c.get.ensures (sym c.is_on.ensures ∙ c.if-not-is_on.true))

pub returns-clause-number : goal.returns-clause-number
returns-clause-number c =
    rw (← c.self.view_is) (on-there (model _) _ c.self.invariant.settled.ascending _ c.place_of.ensures _ c.in-Some.is _ c.get.ensures (sym c.is_on.ensures ∙ c.if-not-is_on.false))

pub returns-clause-place : goal.returns-clause-place
returns-clause-place c =
    rw (← c.self.view_is) (left-is (model c.self.inside) _ c.self.invariant.settled.ascending _ c.place_of.ensures _ c.in-Some.is)
