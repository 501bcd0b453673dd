use Rattle.std.proofs.Common.{set, ◌-◌, sym, subst}
use Rattle.frames.specs.Vacant.{vacant}
use Rattle.rules.specs.Padding.{IsPadded}
use Rattle.rules.proofs.Padding.{left, vacated}
use Rattle.frames.proofs.pending.Pending.remove.Goals as goal

pub invariant_of-self : goal.invariant_of-self
invariant_of-self c =
    subst (λ x. IsPadded vacant (c.self.inside.count - 1) (set c.copy_within.new.self (c.self.inside.count - 1) x)) (sym c.vacant.ensures)
    (vacated vacant c.self.inside.places c.copy_within.new.self c.args.self.now c.self.inside.count c.args.i c.self.invariant c.self.view_is c.requires c.copy_within.ensures.after)

pub returns : goal.returns
returns c = left vacant c.vacant.result c.self.inside.places c.copy_within.new.self c.args.self.now c.self.inside.count c.args.i c.self.invariant c.self.view_is c.requires c.copy_within.ensures.after
