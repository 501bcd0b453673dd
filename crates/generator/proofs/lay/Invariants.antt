-- With the claims that are left, what is laid so far gives the workload.
use Prim.Native.Nat.{◌-◌}
use Rattle.generator.proofs.Drafts.{Drafting}
use Rattle.generator.proofs.lay.Given as goal

abbrev pub invariant-loop : goal.invariant-loop
invariant-loop l = Drafting l.seed l.count l.fn.page (l.count - l.counter) l.g.state l.w l.page
