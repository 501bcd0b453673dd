-- `room_for` meets its contract: the bound of its specification, within a usize.
use native.Mathlib.Omega.{arith}
use borrow.Author.Tests.{lt-ltb, le-ltb}
use Rattle.frame_listing.specs.Text.{room_for}
use Rattle.frame_listing.proofs.room_for.Goals as goal

pub returns-then-calls-gt100000000000000000 : goal.returns-then-calls-gt100000000000000000
unfolding room_for
returns-then-calls-gt100000000000000000 c = rw (lt-ltb _ _ c.if-calls-gt100000000000000000.true)

pub overflow_mul-result : goal.overflow_mul-result
unfolding room_for
overflow_mul-result c = omega arith

pub overflow_add-result : goal.overflow_add-result
unfolding room_for
overflow_add-result c = omega arith

pub returns : goal.returns
unfolding room_for
returns c = rw (le-ltb _ _ c.if-calls-gt100000000000000000.false)
