use mathlib.Core.Path.{refl}
use Rattle.generator.proofs.Records.{rig-is}
use Rattle.generator.proofs.Entering.{rig-begins}
use Rattle.generator.proofs.begun.Goals as goal

pub returns : goal.returns
returns c =
    rig-begins _ _ _ refl c.byte.ensures c.put_record.ensures (rig-is _ _ c.bare.ensures) c.new-table.ensures.table
