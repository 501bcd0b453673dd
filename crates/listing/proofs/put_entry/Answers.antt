-- The record's line, then the lines of the grants: none where the call is turned down.
use Rattle.std.proofs.Common.{sym, append-nil}
use Rattle.numerals.proofs.Pages.{lays_then, lays_as}
use Rattle.listing.specs.Lines.{line_of, on_lines}
use Rattle.listing.proofs.put_entry.Goals as goal

pub returns-in-Ok : goal.returns-in-Ok
returns-in-Ok c = rw (c.in-Ok.is, ← c.as_slice.ensures) (lays_then c.put_line.ensures c.put_grants.ensures)

pub returns-in-Err : goal.returns-in-Err
unfolding on_lines
returns-in-Err c =
    rw (c.in-Err.is, ← c.from.ensures) (lays_as _ _ (sym (append-nil (line_of c.args.k c.from.result 0 0))) c.put_line-in-Err.ensures)
