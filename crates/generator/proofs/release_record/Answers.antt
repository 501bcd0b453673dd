use Rattle.generator.proofs.Records.{release-is}
use Rattle.generator.proofs.release_record.Goals as goal

pub returns : goal.returns
returns c = release-is _ _ _ c.bare.ensures
