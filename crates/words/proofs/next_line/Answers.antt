-- `words::next_line` meets its contract where the line is empty (`empty_part`).
use Rattle.std.proofs.Common.{ap}
use Rattle.words.specs.Parts.{is_feed}
use Rattle.words.proofs.Parts.{empty_part}
use Rattle.words.proofs.next_line.Goals as goal

pub returns-in-len1-up : goal.returns-in-len1-up
returns-in-len1-up c = empty_part is_feed c.args.text.now c.in-len1-up.len_at_least (ap is_feed c.if-first-eq10.true)
