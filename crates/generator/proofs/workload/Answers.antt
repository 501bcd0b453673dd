use native.Mathlib.Omega.{arith}
use Rattle.generator.proofs.Answering.{count-right, count-wrong, answers-wrong, answers-roomy}
use Rattle.generator.proofs.workload.Goals as goal

pub copied-requires : goal.copied-requires
copied-requires c = count-right _ (λ z. omega arith) (omega arith)

pub returns-then-count-eq0 : goal.returns-then-count-eq0
returns-then-count-eq0 c =
    let a = answers-wrong _ _ _ (count-wrong _ c.then-count-eq0.either) in
    record { answer = a.answer; buffer = a.buffer; values = a.values }

pub returns : goal.returns
returns c =
    let r = count-right c.args.count (λ z. omega arith) (omega arith) in
    let a = answers-roomy _ _ _ r _ _ c.if-out-count.false c.lay_over.ensures in
    record { answer = a.answer; buffer = a.buffer; values = a.values }
