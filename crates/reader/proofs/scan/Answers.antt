-- `reader::scan` meets its contract: the records counted are behind the reader, and the others are left, until it stops.
use native.Mathlib.Omega.{arith}
use mathlib.Core.Path.{refl, sym, ap, ◌∙◌}
use mathlib.Core.List.{List}
use Prim.Native.Nat.{ℕ, ◌+◌}
use denote.Ref.{Bor}
use Rattle.std.specs.Prelude.{Ok}
use Rattle.reader.proofs.Counting.{at-start, left-by, fewer-by, behind-record, room-for-one, at-stop}
use Rattle.reader.proofs.scan.Goals as goal

pub loop-records-init : goal.loop-records-init
loop-records-init c =
    let e = c.opened-reader.ensures in
    at-start _ _ _ (omega arith) (ap (λ (b : Bor (List ℕ)). b.now) e.0, e.1)

pub overflow_add-records : goal.overflow_add-records
overflow_add-records c =
    omega (arith, room-for-one _ _ _ _ c.loop-records.invariant _ _ (sym (ap Ok c.in-Ok-Some.field-0-is) ∙ c.in-Ok-Some.ensures.0))

pub loop-records-preserved : goal.loop-records-preserved
loop-records-preserved c =
    left-by _ _ _ _ _ refl (behind-record _ _ _ _ c.loop-records.invariant _ _ (sym (ap Ok c.in-Ok-Some.field-0-is) ∙ c.in-Ok-Some.ensures.0) _ c.advanced-reader.ensures)

pub loop-records-smaller : goal.loop-records-smaller
loop-records-smaller c =
    fewer-by _ _ _ (c.loop-records.records + 1) _ refl (behind-record _ _ _ _ c.loop-records.invariant _ _ (sym (ap Ok c.in-Ok-Some.field-0-is) ∙ c.in-Ok-Some.ensures.0) _ c.advanced-reader.ensures)

pub returns-in-Ok-None : goal.returns-in-Ok-None
returns-in-Ok-None c = at-stop _ _ _ _ c.loop-records.invariant _ (sym (ap Ok c.in-Ok-None.field-0-is) ∙ c.in-Ok-None.ensures.0) refl

pub returns-in-Err : goal.returns-in-Err
returns-in-Err c = at-stop _ _ _ _ c.loop-records.invariant _ c.in-Err.ensures.0 refl
