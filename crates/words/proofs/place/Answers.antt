-- `words::place` meets its contract: behind the text's end nothing is looked for.
use mathlib.Core.Path.{sym}
use native.Mathlib.Omega.{arith}
use Rattle.words.proofs.Parts.{place_end, place_found}
use Rattle.words.proofs.place.Goals as goal

pub returns-then-text-at : goal.returns-then-text-at
returns-then-text-at c = (sym (place_end _ _ _ c.if-text-at.true), omega arith, omega arith)

pub returns : goal.returns
returns c = place_found _ _ _ _ c.if-text-at.false c.before-2.ensures.0
