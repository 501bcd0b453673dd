-- `put_entry` meets its contract: the call's line, then the lines of the grants.
use Rattle.std.proofs.Common.{sym}
use Rattle.std.proofs.lemmas.List.{append-nil}
use Rattle.numerals.proofs.Pages.{lays_then, lays_as}
use Rattle.frame_listing.specs.Lines.{on_lines}
use Rattle.frame_listing.specs.Text.{entry_of}
use Rattle.frame_listing.proofs.put_entry.Goals as goal

pub returns-in-Ok : goal.returns-in-Ok
unfolding entry_of
returns-in-Ok c = rw c.in-Ok.is (lays_then c.put_line.ensures (rw c.as_slice.ensures at c.put_grants.ensures))

pub returns-in-Err : goal.returns-in-Err
unfolding entry_of on_lines
returns-in-Err c = rw c.in-Err.is (lays_as _ _ (sym (append-nil _)) (rw c.from.ensures at c.put_line-in-Err.ensures))
