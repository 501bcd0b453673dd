use Rattle.std.proofs.Common.{sym, ◌∙◌, ap, arith}
use Rattle.std.proofs.Common.{◌≤◌, is_some}
use Rattle.numbers.specs.Numbers.{most_clients}
use Rattle.rules.specs.Shares.{reserved_of}
use Rattle.rules.proofs.Shares.{declared-range}
use Rattle.table.specs.States.{model}
use Rattle.table.proofs.Sharing.{number_is, full-shut, below_none}
use Rattle.table.proofs.shares.check_share.Goals.{After-pending_each-each}
use Rattle.table.proofs.shares.check_share.Goals as goal

pub returns-then-full : goal.returns-then-full
returns-then-full c = full-shut (model c.args.t.now) c.args.client c.requires.0 (rw c.len-count.ensures.0 at (sym c.full.ensures ∙ c.if-full.true))

pub returns-then-count-from : goal.returns-then-count-from
returns-then-count-from c =
    below_none (model c.args.t.now) c.args.client c.requires.0 (omega (arith, c.len-count.ensures.0, c.from.ensures, ap reserved_of c.requires.1))

-- The client is one from 1 to 8.
range : (c : After-pending_each-each) → (1 ≤ c.args.client) × (c.args.client ≤ most_clients)
range c = declared-range _ c.requires.0.booked.eight _ (ap is_some c.requires.1)

pub returns : goal.returns
returns c =
    rw (c.from-own.ensures, c.from-2.ensures, c.len-count.ensures.0) at c.check_counted.ensures ∙ number_is (model c.args.t.now) c.args.client c.args.share c.requires.0 c.requires.1 _ c.pending_each-each.ensures

pub overflow_sub-client : goal.overflow_sub-client
overflow_sub-client c = (range (goal.at.overflow_sub-client c).After-pending_each-each).0

pub bounds-each-from : goal.bounds-each-from
bounds-each-from c = let r = range (goal.at.bounds-each-from c).After-pending_each-each in omega (arith, r.0, r.1, c.from-2.ensures)
