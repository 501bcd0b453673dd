-- A load that does not open leaves a table without groups; any other what its records leave.
use mathlib.Core.Path.{sym, ◌∙◌}
use Rattle.load.proofs.Reading.{open-known}
use Rattle.replay.proofs.Replaying.{whole-read, whole-stopped}
use Rattle.replay.proofs.replay.Goals as goal

pub replay_records-requires : goal.replay_records-requires
replay_records-requires c = (open-known _ (sym c.in-Ok.ensures)).2

pub returns-in-Ok : goal.returns-in-Ok
returns-in-Ok c = c.replay_records.ensures ∙ whole-read _ c.in-Ok.ensures

pub returns-in-Err : goal.returns-in-Err
returns-in-Err c = whole-stopped _ _ c.in-Err.ensures _ c.unrigged.ensures
