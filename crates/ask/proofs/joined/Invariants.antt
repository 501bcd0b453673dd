-- The arguments so far are a part of the line.
use Rattle.std.proofs.Common.{length, ◌≡◌, ◌≤◌}
use Rattle.ask.proofs.joined.Given as goal

abbrev pub invariant-loop-i : goal.invariant-loop-i
invariant-loop-i g l = (l.n ≤ length l.line) × (length l.line ≡ length l.initial.line)
