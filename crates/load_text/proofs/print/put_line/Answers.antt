-- Counted on one byte, it goes in or not.
use mathlib.Core.Path.{◌∙◌}
use native.Mathlib.Omega.{arith}
use borrow.Author.Rules.{rules}
use Rattle.load_text.specs.Lines.{line_of}
use Rattle.load_text.proofs.Lines.{print-none, print-all, counted}
use Rattle.load_text.proofs.print.put_line.Goals as goal

pub returns-then-out-count : goal.returns-then-out-count
returns-then-out-count c =
    let l = c.put_call.ensures in
    let n = counted _ (omega (arith, l.brief.0)) c.new-count.ensures.clean.1 l.laid in
    let w = print-none (line_of c.args.edition c.args.call) c.args.out.now (omega (arith, n)) in
    record { answer = w.0; buffer = w.1.0; values = w.1.1 }

pub returns : goal.returns
returns c =
    let l = c.put_call.ensures in
    let n = counted _ (omega (arith, l.brief.0)) c.new-count.ensures.clean.1 l.laid in
    let p = c.put_call-2.ensures.laid in
    let w = print-all (line_of c.args.edition c.args.call) c.args.out.now (omega (arith, l.brief.0)) (omega (arith, n)) c.new-page.ensures.clean p in
    let s = p.same ∙ c.new-page.ensures.same in
    record { answer = w.0; buffer = search rules ∙ w.1.0; values = w.1.1 }
