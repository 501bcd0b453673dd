-- `groups::lowest` meets its contract by `lowest-word`. Assumes nothing.
use mathlib.Core.Path.{sym, ◌∙◌, ap}
use native.Mathlib.Omega.{arith}
use lib.Count.{trailing_le}
use Rattle.groups.specs.Groups.{lowest}
use Rattle.groups.proofs.Words.{lowest-word, lowest-zero}
use Rattle.groups.proofs.lowest.Goals as goal

pub returns-then-a-eq0 : goal.returns-then-a-eq0
returns-then-a-eq0 c = sym (ap lowest (omega arith) ∙ lowest-zero)

pub overflow_cast-result : goal.overflow_cast-result
overflow_cast-result c = omega (arith, trailing_le 64 c.args.a)

pub returns : goal.returns
returns c = sym (lowest-word c.args.a (omega arith) c.ranges.a.fits)
