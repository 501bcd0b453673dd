-- `groups::within` meets its contract by `within_word`: a set a is within b exactly where `a & b` is a.
-- Assumes nothing.
use mathlib.Core.Path.{sym}
use Rattle.groups.proofs.Words.{within_word}
use Rattle.groups.proofs.within.Goals as goal

pub returns : goal.returns
returns c = sym (within_word c.args.a c.args.b c.ranges.a.fits)
