-- The listing where it goes in, else 15.
use mathlib.Core.Path.{sym, ◌∙◌}
use Rattle.listing.proofs.PlayersCall.{listing_none, listing-all}
use Rattle.listing.proofs.belgwyth_listing.Goals as goal

pub returns-then-goes_into : goal.returns-then-goes_into
returns-then-goes_into c =
    let r = listing-all _ _ (sym c.goes_into.ensures ∙ c.if-goes_into.true) _ _ c.run.ensures in record { answer = r.0; buffer = r.1 }

pub returns : goal.returns
returns c = let r = listing_none _ _ (sym c.goes_into.ensures ∙ c.if-goes_into.false) in record { answer = c.from-2.ensures ∙ c.from.ensures ∙ r.0; buffer = r.1 }
