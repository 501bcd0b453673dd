-- Clients and their shares of the 64 places: "A desk has a guarantee and a limit" (document 02, P4). A desk is a client here, its guarantee
-- the places reserved for it. What clients have pending is counted in ks, the clients of the pending claims in the order of these.
use Rattle.std.specs.Prelude.{Bool, not, cond, List, [], ◌∷◌, ℕ, zero, suc, ◌-◌, eqb, length, get_or, set, replicate, Option, Some, None}
use Rattle.rules.specs.declared.Share.{Share}
use Rattle.rules.specs.Lists.{sum, keep}

-- "Desks 1 to 8"
abbrev pub clients : List ℕ
clients = 1 ∷ 2 ∷ 3 ∷ 4 ∷ 5 ∷ 6 ∷ 7 ∷ 8 ∷ []

abbrev pub share : ℕ → ℕ → Share
share r l = record { reserved = r; limit = l }

-- A client that is not declared has no share: no places are reserved for it, and its limit is 0.
abbrev pub reserved_of : Option Share → ℕ
reserved_of None = 0
reserved_of (Some s) = s.reserved

abbrev pub limit_of : Option Share → ℕ
limit_of None = 0
limit_of (Some s) = s.limit

-- "Older editions start with desk 1 declared, guarantee and limit 64; edition 3 with none": client 1 alone, or nobody.
abbrev pub first_shares : Bool → List (Option Share)
first_shares alone = cond alone (Some (share 64 64)) None ∷ replicate 7 None

-- The share of client c. That of client 1 is first; there is no client 0.
unfoldable pub share_of : List (Option Share) → ℕ → Option Share
share_of ss zero = None
share_of ss (suc n) = get_or ss n None

-- The shares with that of client c.
unfoldable pub with_share : List (Option Share) → ℕ → Share → List (Option Share)
with_share ss c s = set ss (c - 1) (Some s)

-- The claims that client c has pending.
unfoldable pub pending_of : List ℕ → ℕ → ℕ
pending_of ks c = length (keep (λ k. eqb k c) ks)

-- Its unfilled guarantee.
unfoldable pub unfilled : List (Option Share) → List ℕ → ℕ → ℕ
unfilled ss ks c = reserved_of (share_of ss c) - pending_of ks c

-- "the unfilled guarantees of the other desks"
unfoldable pub unfilled_by_others : List (Option Share) → List ℕ → ℕ → ℕ
unfilled_by_others ss ks c = sum (unfilled ss ks) (keep (λ n. not (eqb n c)) clients)

-- All guarantees, and all that is unfilled of them.
unfoldable pub reserved_in_all : List (Option Share) → ℕ
reserved_in_all ss = sum (λ c. reserved_of (share_of ss c)) clients

unfoldable pub unfilled_in_all : List (Option Share) → List ℕ → ℕ
unfilled_in_all ss ks = sum (unfilled ss ks) clients
