-- A report goes into 128 bytes.
use native.Mathlib.Omega.{arith}
use Rattle.words.proofs.Texts.{report-goes}
use Rattle.words.proofs.reports.report.Goals as goal

pub returns : goal.returns
returns c =
    let g = report-goes _ _ _ c.put_report-length.ensures in
    (g.0, omega (arith, g.1, c.put_report-length.auto.out))
