-- No listing is longer than its buffer.
use Rattle.std.proofs.Common.{ℕ}
use mathlib.Core.Path.{sym}
use native.Mathlib.Omega.{arith}
use lib.ListN.{length-replicate}
use Rattle.format.specs.Format.{least_length, least_in, format, length_in, total, field_width, field_widths}
use Rattle.listing.specs.Room.{room_for}
use Rattle.cue.proofs.listing_buffer.Goals as goal

pub returns : goal.returns
unfolding room_for least_length least_in format length_in total field_width field_widths
returns c = (sym (length-replicate {0} {A = ℕ} 1409024 0), omega arith)
