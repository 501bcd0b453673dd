use Rattle.std.proofs.Common.{◌≤◌, sym, ◌∙◌}
use Rattle.numbers.specs.Numbers.{most_clients}
use Rattle.rules.proofs.Shares.{client-range, no-client-share, share-place}
use Rattle.table.proofs.shares.share_of.Goals.{Else-no_client}
use Rattle.table.proofs.shares.share_of.Goals as goal

pub returns-then-no_client : goal.returns-then-no_client
returns-then-no_client c = sym (no-client-share _ c.told-shares _ (sym c.no_client.ensures ∙ c.if-no_client.true))

-- A client from 1 to 8.
range : (c : Else-no_client) → (1 ≤ c.args.client) × (c.args.client ≤ most_clients)
range c = client-range _ (sym c.no_client.ensures ∙ c.if-no_client.false)

pub returns : goal.returns
returns c = rw c.from.ensures (sym (share-place _ _ (range (goal.at.returns c).Else-no_client).0))

pub overflow_sub-client : goal.overflow_sub-client
overflow_sub-client c = (range c).0
