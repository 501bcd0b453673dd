-- The load is gathered in a buffer of its own, and copied where it goes in.
use native.Mathlib.Omega.{arith}
use lib.ListN.{length-take}
use Rattle.std.proofs.lemmas.Result.{err_from_is_err_and}
use Rattle.load_text.proofs.Making.{gathered-small, make-none, make-all, make-wrong}
use Rattle.load_text.proofs.make.Goals as goal

pub returns-in_err-size : goal.returns-in_err-size
returns-in_err-size c =
    let p = err_from_is_err_and c.from_residual.result c.from_residual.ensures.1 in
    let w = make-wrong _ c.args.out.now _ (rw c.in_err-size.was at c.gather.ensures) in
    rw (p.1, p.2) (record { answer = w.0; buffer = w.1.0; values = w.1.1 })

pub returns-then-out-size : goal.returns-then-out-size
returns-then-out-size c =
    let w = make-none _ _ _ _ (rw c.in_ok-size.was at c.gather.ensures) c.args.out.now c.if-out-size.true in
    rw c.from.ensures (record { answer = w.0; buffer = w.1.0; values = w.1.1 })

pub slice_bounds-load-end : goal.slice_bounds-load-end
slice_bounds-load-end c =
    omega (arith, gathered-small _ _ _ _ (rw c.in_ok-size.was at c.gather.ensures), c.gather.auto.out, c.room-load.ensures)

pub slice_bounds-put_bytes-end : goal.slice_bounds-put_bytes-end
slice_bounds-put_bytes-end c =
    simp length-take (omega (arith, gathered-small _ _ _ _ (rw c.in_ok-size.was at c.gather.ensures), c.gather.auto.out, c.room-load.ensures))

pub returns : goal.returns
returns c =
    let w = make-all _ _ _ _ (rw c.in_ok-size.was at c.gather.ensures) c.args.out.now c.room-load.ensures c.if-out-size.false _ c.put_bytes.ensures.1 in
    record { answer = w.0; buffer = w.1.0; values = w.1.1 }
