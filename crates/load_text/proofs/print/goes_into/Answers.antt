-- Room for any text, or the text is counted on one byte.
use mathlib.Core.Path.{ap, ◌∙◌}
use native.Mathlib.Omega.{arith}
use lib.Dec.{leb}
use Rattle.load_text.proofs.Lines.{counted}
use Rattle.load_text.proofs.Showing.{text-counted}
use Rattle.load_text.proofs.print.goes_into.Goals as goal

pub returns : goal.returns
returns c =
    let t = c.put_text.ensures in
    ap (λ n. leb n c.args.room) (counted _ (omega (arith, t.brief)) c.new-count.ensures.clean.1 t.laid) ∙ text-counted _ _ (omega arith)
