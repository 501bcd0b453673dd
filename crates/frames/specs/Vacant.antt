-- What stands for a claim where there is none.
use Rattle.frames.specs.declared.Claim.{Claim}

abbrev pub vacant : Claim
vacant = record { groups = 0; ticket = 0; row = 0 }
