-- What holds of a table before, during and after a call. k is the count of tickets issued.
use Rattle.std.specs.Prelude.{◌≡◌, true, List, ℕ, ◌+◌, ◌≤◌, length, Option, is_some}
use Rattle.numbers.specs.Numbers.{most_pending}
use Rattle.rules.specs.declared.Claim.{Claim}
use Rattle.rules.specs.Lists.{◌∈◌}
use Rattle.rules.specs.declared.Setting.{Setting}
use Rattle.rules.specs.declared.Share.{Share}
use Rattle.rules.specs.Shares.{reserved_of, limit_of, share_of, pending_of, unfilled_in_all}
use Rattle.rules.specs.Claims.{on, at}
use Rattle.rules.specs.Packing.{pack}
use Rattle.rules.specs.Calls.{Model, setting_of, clients_of}
use Rattle.rules.specs.Plans.{Ascending, Sane, Apart, Separated, StartsFrom, Tight, Blocked, Earliest}

-- A claim as it may stand in a table.
pub record Proper (k : ℕ) (v : Setting) (c : Claim) : Type 0 where
  pub sane : Sane v c
  pub numbered : 1 ≤ c.ticket
  pub issued : c.ticket ≤ k
  pub aged : on c ≡ true → at c ≤ v.clock

-- What packing needs.
pub record Packable (k : ℕ) (v : Setting) (ps : List Claim) : Type 0 where
  pub proper : (c : Claim) → c ∈ ps → Proper k v c
  pub ascending : Ascending ps
  pub holders : Apart v ps

-- Nobody overlaps, and no start is below the clock.
pub record Spaced (k : ℕ) (v : Setting) (ps : List Claim) : Type 0 where
  pub proper : (c : Claim) → c ∈ ps → Proper k v c
  pub ascending : Ascending ps
  pub holders : Apart v ps
  pub fit : Separated v ps
  pub low : StartsFrom v.clock ps

-- What packing gives.
pub record Packed (k : ℕ) (v : Setting) (ps : List Claim) : Type 0 where
  pub spaced : Spaced k v ps
  pub tight : Tight v ps
  pub earliest : Earliest v ps

-- What granting gives.
pub record Settled (k : ℕ) (v : Setting) (ps : List Claim) : Type 0 where
  pub spaced : Spaced k v ps
  pub blocked : Blocked v ps
  pub earliest : Earliest v ps

-- What holds of the shares and of the clients of the pending claims before and after every call.
pub record Booked (ss : List (Option Share)) (ks : List ℕ) : Type 0 where
  pub eight : length ss ≡ 8
  pub modest : (c : ℕ) → limit_of (share_of ss c) ≤ most_pending
  pub ordered : (c : ℕ) → reserved_of (share_of ss c) ≤ limit_of (share_of ss c)
  pub known : (k : ℕ) → k ∈ ks → is_some (share_of ss k) ≡ true
  -- "desk at its limit": nobody has more pending.
  pub within : (c : ℕ) → pending_of ks c ≤ limit_of (share_of ss c)
  -- A place is left for each claim that fills a guarantee.
  pub room : length ks + unfilled_in_all ss ks ≤ most_pending

-- The same of a model. `Invariant` and `IsBooked` hold of a new table and after every call.
abbrev pub IsSpaced : Model → Type 0
IsSpaced m = Spaced m.issued (setting_of m) m.pending

abbrev pub IsPacked : Model → Type 0
IsPacked m = Packed m.issued (setting_of m) m.pending

-- Packing would change nothing.
abbrev pub Still : Model → Type 0
Still m = pack (setting_of m) m.pending ≡ m.pending

abbrev pub Invariant : Model → Type 0
Invariant m = Settled m.issued (setting_of m) m.pending

abbrev pub IsBooked : Model → Type 0
IsBooked m = Booked m.shares (clients_of m.pending)
