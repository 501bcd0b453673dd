-- `put_why` meets its contract: a chain, or why none is told.
use Rattle.numerals.proofs.Pages.{lays_then, lays_as}
use Rattle.question.proofs.Told.{told-chain, told_none}
use Rattle.question.proofs.sentences.put_why.Goals as goal

pub returns-in-Ok : goal.returns-in-Ok
returns-in-Ok c =
    lays_as _ _ (told-chain _ _ c.settle.ensures _ c.in-Ok.ensures.told) (lays_then c.bytes.ensures (rw c.as_slice.ensures at c.put_chain.ensures))

pub returns-in-Err : goal.returns-in-Err
returns-in-Err c = lays_as _ _ (told_none _ _ c.settle.ensures _ c.in-Err.ensures.told) c.put_unexplained.ensures
