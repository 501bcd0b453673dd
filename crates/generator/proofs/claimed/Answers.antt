use mathlib.Core.Path.{refl, ap}
use Prim.Native.Nat.{ℕ, ◌+◌}
use Rattle.generator.proofs.Entering.{claim-enters}
use Rattle.generator.proofs.claimed.Goals as goal

pub returns : goal.returns
returns c =
    claim-enters _ _ _ c.put_record.ensures _ _ _ _ _ (ap (λ (n : ℕ). c.args.w.now.clock + n) c.from.ensures) c.groups_for-groups.ensures refl
    c.claim_record.ensures c.asking.ensures c.claim.ensures.table
