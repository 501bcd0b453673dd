-- `goes_into` meets its contract: the room that surely suffices, else the listing as it is counted.
use Rattle.frame_listing.proofs.Sizes.{goes-surely, goes-counted}
use Rattle.frame_listing.proofs.goes_into.Goals as goal

pub returns-then-room_for-room : goal.returns-then-room_for-room
returns-then-room_for-room c = goes-surely _ _ c.requires.1 _ _ c.requires.0 c.room_for.ensures c.if-room_for-room.true

pub returns : goal.returns
returns c = goes-counted _ _ c.requires.1 c.run.ensures
