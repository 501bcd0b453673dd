-- A report is its pieces laid one after the other.
use native.Mathlib.Omega.{arith}
use Rattle.numerals.proofs.Laying.{put, put_as, put_then}
use Rattle.words.specs.Reports.{report_of}
use Rattle.words.proofs.reports.put_report.Goals as goal

pub returns : goal.returns
unfolding report_of
returns c =
    let k = c.well_formed.0 in
    let l = c.put_bytes-a.auto.out in
    let m = c.put_decimal-b.auto.out in
    let n = c.put_bytes-c.auto.out in
    let o = c.put_bytes-d.auto.out in
    put_then _ _ _ _ _ _ _ _ (omega (arith, k)) (put c.put_bytes-a.ensures)
    (put_then _ _ _ _ _ _ _ _ (omega (arith, k, l)) (put c.put_decimal-b.ensures)
    (put_then _ _ _ _ _ _ _ _ (omega (arith, k, l, m)) (put c.put_bytes-c.ensures)
    (put_then _ _ _ _ _ _ _ _ (omega (arith, k, l, m, n)) (put_as _ _ c.reason_text.ensures (put c.put_bytes-d.ensures))
    (put_then _ _ _ _ _ _ _ _ (omega (arith, k, l, m, n, o)) c.put_form-e.ensures (put c.put_byte.ensures)))))
