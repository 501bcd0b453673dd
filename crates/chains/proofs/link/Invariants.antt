use Rattle.std.proofs.Common.{◌≡◌, drop}
use Rattle.rules.specs.Chains.{link}
use Rattle.chains.proofs.Following.{link_in}
use Rattle.chains.proofs.link.Given as goal

abbrev pub invariant-loop-c : goal.invariant-loop-c
invariant-loop-c l = link_in l.v l.claims l.w (drop l.c-index l.claims) ≡ link l.v l.claims l.w
