-- `words::said` meets its contract: a comment is looked for before the line's end.
use Rattle.words.specs.Parts.{said}
use Rattle.words.proofs.said.Goals as goal

pub returns : goal.returns
unfolding said
returns c = rw (c.before-2.ensures.0, c.chomped-line.ensures)
