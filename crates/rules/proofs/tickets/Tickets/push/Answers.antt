use Rattle.rules.proofs.Padding.{pushed}
use Rattle.rules.proofs.tickets.Tickets.push.Goals as goal

pub invariant_of-self : goal.invariant_of-self
invariant_of-self c = pushed 0 c.args.ticket c.self.inside.places c.args.self.now c.self.inside.count c.self.invariant c.self.view_is c.requires
