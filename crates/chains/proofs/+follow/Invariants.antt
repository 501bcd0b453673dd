use Rattle.rules.specs.Claims.{at}
use Rattle.chains.proofs.+follow.Given as goal

-- From a waiting claim to its link the start falls.
abbrev pub decreases-follow : goal.decreases-follow
decreases-follow l = at l.c
