-- `run` meets its contract: what is laid on the page, which lends the buffer no more.
use mathlib.Core.Path.{◌∙◌}
use borrow.Author.Rules.{rules}
use Rattle.question.proofs.Answers.{laid-all}
use Rattle.question.proofs.run.Goals as goal

pub returns : goal.returns
returns c =
    let n = c.new-page.ensures.clean in
    let s = c.put_text.ensures.same ∙ c.new-page.ensures.same in
    let w = c.put_text.ensures.put in
    let p = laid-all _ _ c.settle.ensures (rw (n.0, n.1) at w) in
    (p.0, search rules ∙ p.1)
