-- `groups::only` meets its contract by `only-word`. Assumes nothing.
use mathlib.Core.Path.{sym, ◌∙◌}
use native.Mathlib.Omega.{arith}
use Rattle.groups.proofs.Words.{only-word, only_none}
use Rattle.groups.proofs.only.Goals as goal

pub returns-then-g-gt63 : goal.returns-then-g-gt63
returns-then-g-gt63 c = sym (only_none c.args.g (omega arith))

pub returns : goal.returns
returns c = let w = only-word c.args.g (omega arith) in w.1 ∙ sym w.0
