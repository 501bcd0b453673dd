-- What the parts of a table mean.
use Rattle.rules.specs.Calls.{Model}
use Rattle.table.specs.declared.state.State.{State}

abbrev pub model : State → Model
model t = record { rig = t.rig; clock = t.clock; pool = t.pool; issued = t.issued; grace = t.grace; shares = t.shares; pending = t.pending }

-- The parts of the table that a model means.
abbrev pub parts : Model → State
parts m = record { rig = m.rig; clock = m.clock; pool = m.pool; issued = m.issued; grace = m.grace; shares = m.shares; pending = m.pending }
