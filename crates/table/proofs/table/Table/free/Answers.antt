use Rattle.std.proofs.Common.{refl, sym}
use Rattle.rules.specs.Calls.{at_pool}
use Rattle.rules.proofs.Lookup.{unrefused}
use Rattle.table.specs.States.{model}
use Rattle.table.proofs.table.Table.free.Goals as goal

pub returns : goal.returns
returns c = rw (sym c.self.view_is) (c.free.ensures, unrefused (model c.self.inside.state) at_pool (λ k o. refl))
