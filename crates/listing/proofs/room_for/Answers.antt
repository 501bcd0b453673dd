-- `listing::room_for` meets its contract: the bound of its specification, within a usize.
use borrow.Author.Tests.{lt-ltb, le-ltb}
use mathlib.Core.Path.{ap}
use Prim.Native.Nat.{ℕ, ◌+◌, ◌*◌, ◌/◌}
use native.Mathlib.Omega.{arith}
use native.Mathlib.Nat.{div-le_self}
use Rattle.listing.specs.Room.{room_for}
use Rattle.listing.proofs.room_for.Goals as goal

pub returns-then-size-gt-MOST_BYTES : goal.returns-then-size-gt-MOST_BYTES
unfolding room_for
returns-then-size-gt-MOST_BYTES c = rw (lt-ltb _ _ c.if-size-gt-MOST_BYTES.true)

pub overflow_mul-result : goal.overflow_mul-result
overflow_mul-result c = let n = c.args.size in let l = div-le_self n c.least_length.result in omega arith

pub overflow_add-result : goal.overflow_add-result
overflow_add-result c = let n = c.args.size in let l = div-le_self n c.least_length.result in omega arith

pub returns : goal.returns
unfolding room_for
returns c =
    let n = c.args.size in
    rw (le-ltb 65536 n c.if-size-gt-MOST_BYTES.false) (ap (λ (d : ℕ). 71 + 129 * (n / d)) c.least_length.ensures.0)

pub nonzero_div-result : goal.nonzero_div-result
nonzero_div-result c = omega (arith, c.least_length.ensures.1)
