use Rattle.std.proofs.Common.{arith}
use Rattle.rules.proofs.Chains.{chain_length}
use Rattle.plan.proofs.Rows.{row-member}
use Rattle.chains.proofs.chain.Goals as goal

pub follow-requires : goal.follow-requires
follow-requires c =
    let r = c.requires.0 in
    let m = row-member r c.args.i c.requires.2 in
    rw (c.as_slice.ensures, c.get.ensures, c.new-tickets.ensures) (r, c.requires.1, m, omega (arith, chain_length c.requires.1.0 c.args.v c.args.pending.now c.requires.1.1 _ m, r.few))
