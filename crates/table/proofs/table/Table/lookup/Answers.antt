use Rattle.std.proofs.Common.{sym}
use Rattle.rules.proofs.Lookup.{lookup-told}
use Rattle.table.specs.States.{model}
use Rattle.table.proofs.table.Table.lookup.Goals as goal

pub returns : goal.returns
returns c = rw (sym c.self.view_is) (lookup-told (model c.self.inside.state) c.args.ticket _ c.lookup.ensures)
