-- `run` meets its contract: without a limit the header and the lines of the calls are the whole listing.
use Rattle.frame_listing.proofs.InParts.{whole-put}
use Rattle.frame_listing.proofs.run.Goals as goal

pub returns : goal.returns
returns c = whole-put _ _ _ _ _ c.start.ensures.0 c.put_calls.ensures
