-- The header and the records, or a stop line alone.
use mathlib.Core.Path.{sym}
use native.Mathlib.Omega.{arith}
use Rattle.numerals.proofs.Pages.{lays_then}
use Rattle.load.proofs.Reading.{open-known}
use Rattle.load_text.proofs.Showing.{text-open, text-read}
use Rattle.load_text.proofs.print.put_text.Goals as goal

pub bounds-load-0 : goal.bounds-load-0
bounds-load-0 c = omega (arith, (open-known _ (sym c.in-Ok.ensures)).0)

pub put_records-requires : goal.put_records-requires
put_records-requires c = sym c.in-Ok.ensures

pub returns-in-Ok : goal.returns-in-Ok
returns-in-Ok c =
    let w = text-read _ c.in-Ok.ensures (lays_then c.put_header.ensures c.put_records.ensures.laid) c.put_records.ensures.brief in
    record { laid = w.0; brief = w.1 }

pub returns-in-Err : goal.returns-in-Err
returns-in-Err c =
    let w = text-open _ _ c.in-Err.ensures (rw c.from.ensures at c.put_stop.ensures) in
    record { laid = w.0; brief = w.1 }
