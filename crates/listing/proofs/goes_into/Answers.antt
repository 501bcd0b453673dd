-- `listing::goes_into` meets its contract: the room that surely suffices, else the listing's own length.
use mathlib.Core.Path.{ap}
use lib.Dec.{leb}
use Rattle.listing.proofs.Sizes.{goes-surely}
use Rattle.listing.proofs.goes_into.Goals as goal

pub returns-then-room_for-room : goal.returns-then-room_for-room
returns-then-room_for-room c = goes-surely _ _ _ c.room_for.ensures c.if-room_for-room.true

pub returns : goal.returns
returns c = ap (λ n. leb n c.args.room) c.run.ensures.0
