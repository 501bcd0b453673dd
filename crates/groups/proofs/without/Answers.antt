-- `groups::without` meets its contract by `without-word`. Assumes nothing.
use mathlib.Core.Path.{sym}
use Rattle.groups.proofs.Words.{without-word}
use Rattle.groups.proofs.without.Goals as goal

pub returns : goal.returns
returns c = sym (without-word c.args.a c.args.b c.ranges.a.fits)
