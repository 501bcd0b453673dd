-- The text goes in, or nothing is written.
use mathlib.Core.Path.{sym, ◌∙◌}
use native.Mathlib.Omega.{arith}
use borrow.Author.Rules.{rules}
use Rattle.load_text.proofs.Lines.{print-none, print-all}
use Rattle.load_text.proofs.Showing.{text-goes, text-stays}
use Rattle.load_text.specs.Lines.{text_of}
use Rattle.load_text.proofs.print.show.Goals as goal

pub returns-then-not-goes_into : goal.returns-then-not-goes_into
returns-then-not-goes_into c =
    let w = print-none (text_of c.args.load.now) c.args.out.now (text-stays _ _ (sym c.goes_into.ensures ∙ c.if-not-goes_into.true)) in
    record { answer = w.0; buffer = w.1.0; values = w.1.1 }

pub returns : goal.returns
returns c =
    let t = c.put_text.ensures in
    let w = print-all (text_of c.args.load.now) c.args.out.now (omega (arith, t.brief)) (text-goes _ _ (sym c.goes_into.ensures ∙ c.if-not-goes_into.false) t.brief) c.new-page.ensures.clean t.laid in
    let s = t.laid.same ∙ c.new-page.ensures.same in
    record { answer = w.0; buffer = search rules ∙ w.1.0; values = w.1.1 }
