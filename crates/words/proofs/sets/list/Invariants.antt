use mathlib.Core.Path.{◌≡◌}
use lib.ListN.{length}
use Rattle.words.specs.Parts.{items_in}
use Rattle.words.specs.Sets.{with_items}
use Rattle.words.proofs.sets.list.Given as goal

abbrev pub invariant-loop-part : goal.invariant-loop-part
invariant-loop-part l = with_items l.set (items_in l.rest) ≡ with_items 0 (items_in l.word)

abbrev pub decreases-loop-part : goal.decreases-loop-part
decreases-loop-part l = length l.rest
