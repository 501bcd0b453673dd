use Rattle.frames.specs.Vacant.{vacant}
use Rattle.rules.proofs.Padding.{pushed}
use Rattle.frames.proofs.pending.Pending.push.Goals as goal

pub invariant_of-self : goal.invariant_of-self
invariant_of-self c = pushed vacant c.args.claim c.self.inside.places c.args.self.now c.self.inside.count c.self.invariant c.self.view_is c.requires
