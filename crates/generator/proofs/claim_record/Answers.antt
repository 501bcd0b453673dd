use Rattle.generator.proofs.Records.{claim-is}
use Rattle.generator.proofs.claim_record.Goals as goal

pub returns : goal.returns
returns c = claim-is _ _ _ _ c.bare.ensures
