-- What stands for a claim where there is none.
use Rattle.rules.specs.declared.Claim.{Claim}
use Rattle.rules.specs.declared.Phase.TheVariants.{Waiting}

abbrev pub vacant : Claim
vacant = record { groups = 0; phase = Waiting 0; length = 0; ticket = 0; units = 0; client = 0 }
