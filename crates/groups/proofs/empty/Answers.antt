-- `groups::empty` meets its contract by `empty-word`: a set is empty exactly where its word is 0.
-- Assumes nothing.
use mathlib.Core.Path.{sym}
use Rattle.groups.proofs.Words.{empty-word}
use Rattle.groups.proofs.empty.Goals as goal

pub returns : goal.returns
returns c = sym (empty-word c.args.a c.ranges.a.fits)
