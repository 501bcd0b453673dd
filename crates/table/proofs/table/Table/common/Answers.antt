use Rattle.std.proofs.Common.{sym}
use Rattle.rules.proofs.Lookup.{common-told}
use Rattle.table.specs.States.{model}
use Rattle.table.proofs.table.Table.common.Goals as goal

pub returns : goal.returns
returns c = rw (sym c.self.view_is) (common-told (model c.self.inside.state) c.args.first c.args.second _ c.common.ensures)
