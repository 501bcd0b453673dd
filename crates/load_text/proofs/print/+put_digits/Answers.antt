-- Hex is that of the higher digits, where there are any, then the lowest digit.
use native.Mathlib.Omega.{arith}
use mathlib.Core.List.{[]}
use Rattle.numerals.specs.Pages.{Lays}
use Rattle.numerals.proofs.Pages.{lays_as, lays_none}
use Rattle.load_text.proofs.Lines.{higher, higher-some, higher-one, higher-small, hex-laid}
use Rattle.load_text.proofs.print.+put_digits.Goals.{then-k-gt0+then-value-ge16, else-k-gt0, else-k-gt0-via-then-k-gt0+else-value-ge16, else-k-gt0-via-else-k-gt0}
use Rattle.load_text.proofs.print.+put_digits.Goals as goal

pub returns : goal.returns
returns t c =
    let a = c.args in
    let front : Lays a.page.now (higher a.k a.value) c.if-k-gt0.page =
    elim c.if-k-gt0.branch [
      | then-k-gt0+then-value-ge16 w ↦ rw w.page-is (lays_as _ _ (higher-some _ _ w.if-k-gt0.true w.if-value-ge16.true) w.put_digits.ensures)
      | else-k-gt0 w ↦ rw w.page-is (lays_as [] (higher a.k a.value) (elim w.else-k-gt0.branch [
        | else-k-gt0-via-then-k-gt0+else-value-ge16 v ↦ higher-small a.k a.value (omega arith)
        | else-k-gt0-via-else-k-gt0 v ↦ higher-one a.k a.value (omega arith)
      ]) (lays_none a.page.now (omega arith)))
    ] in
    hex-laid _ _ _ c.glyph.ensures front c.byte.ensures
