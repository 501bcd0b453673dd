-- What clients have pending, counted in one pass, client 1 first.
use Rattle.std.specs.Prelude.{List, [], ◌∷◌, map, ℕ, ◌-◌, get_or, Option}
use Rattle.rules.specs.declared.Share.{Share}
use Rattle.rules.specs.Lists.{sum}
use Rattle.rules.specs.Shares.{clients, reserved_of, share_of, pending_of}
use Rattle.rules.specs.Tests.{first_number, full_for, over}

-- Of the clients ks of pending claims.
unfoldable pub pending_each : List ℕ → List ℕ
pending_each ks = map (pending_of ks) clients

-- What all clients leave unfilled, where ns are their pending claims.
unfoldable pub unfilled_each : List (Option Share) → List ℕ → ℕ
unfilled_each ss ns = sum (λ n. reserved_of (share_of ss n) - get_or ns (n - 1) 0) clients

-- The tests 6 and 18 by these, of a client's share and of the claims that it has pending: of a client that has filled its guarantee the
-- others leave unfilled what all do.
unfoldable pub number_counted : List (Option Share) → List ℕ → ℕ → ℕ → Option Share → ℕ
number_counted ss ns count own s = first_number (full_for s own count (unfilled_each ss ns) ∷ over s own ∷ [])
