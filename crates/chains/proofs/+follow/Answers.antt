-- `follow` meets its contract, and ends: from a waiting claim to its link the start falls. proofs/Following has the laws of a step.
use Rattle.std.proofs.Common.{◌≡◌, false, arith}
use Rattle.rules.specs.Claims.{on}
use Rattle.rules.proofs.Chains.{link-sooner}
use Rattle.chains.proofs.Following.{room_here, linked, goes_on, room_on}
use Rattle.chains.proofs.+follow.Goals as goal

pub push-requires : goal.push-requires
push-requires t c = room_here c.args.v c.args.claims.now c.args.c c.args.tickets.now c.requires.3

pub follow-requires : goal.follow-requires
follow-requires t c =
    let waits : on c.args.c ≡ false = cc in
    let s = c.requires.1.1 in
    let m = c.requires.2 in
    rw (c.link.ensures, c.push.ensures) (
      omega (arith, link-sooner c.requires.1.0 c.args.v c.args.claims.now s c.args.c m waits, c.decreases),
      (c.requires.0, c.requires.1, linked s m waits, room_on s m waits c.args.tickets.now c.requires.3),
    )

pub returns : goal.returns
returns t c =
    let waits : on c.args.c ≡ false = cc in
    rw (c.follow.ensures, c.link.ensures, c.push.ensures) (goes_on c.requires.1.1 c.requires.2 waits c.args.tickets.now)
