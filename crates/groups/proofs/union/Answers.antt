-- `groups::union` meets its contract by `union-word`: `a | b` is the set of the groups of either.
-- Assumes nothing.
use mathlib.Core.Path.{sym}
use Rattle.groups.proofs.Words.{union-word}
use Rattle.groups.proofs.union.Goals as goal

pub returns : goal.returns
returns c = sym (union-word c.args.a c.args.b c.ranges.a.fits c.ranges.b.fits)
