-- "A desk below its guarantee never meets 6"; nobody has more claims pending than its limit; and pending claims with the unfilled guarantees
-- never pass 64, which is why the first holds (document 02, P4). Beside demand 3, of the same lists of calls and by the same ledger: shares
-- are what accepted declarations said, and a client's pending claims those that its own accepted calls issued. proofs/SharesKept has the
-- theorem.
use Rattle.std.specs.Prelude.{◌≡◌, ◌≢◌, List, map, ℕ, ◌+◌, ◌≤◌, ◌<◌, length}
use Rattle.numbers.specs.Numbers.{full_number, most_pending}
use Rattle.rules.specs.declared.Request.{Request}
use Rattle.rules.specs.Shares.{reserved_of, limit_of, share_of, pending_of, unfilled_in_all}
use Rattle.rules.specs.Calls.{Call, claim, step}
use Rattle.promises.specs.Ledger.{Turn, Steps, Entry, Ledger}
use Rattle.promises.specs.Runs.{Told, Start, AtAnyTime, AtAnyCall}

-- The clients of the pending claims.
abbrev pub askers : List Entry → List ℕ
askers l = map (λ e. e.asked.client) l

-- After any number of the calls.
pub record SharesNow (l : Ledger) (told : Told) : Type 0 where
  pub within_limit : (c : ℕ) → pending_of (askers l.claims) c ≤ limit_of (share_of l.shares c)
  pub room_kept : length l.claims + unfilled_in_all l.shares (askers l.claims) ≤ most_pending

-- Of one call.
pub record SharesNext (l : Ledger) (t : Turn) (before after : Told) : Type 0 where
  pub never_full : (u : ℕ) (ask : Request) → t.call ≡ claim u ask
      → pending_of (askers l.claims) ask.client < reserved_of (share_of l.shares ask.client) → t.answer.number ≢ full_number

pub record SharesKeptOf (step : Steps) (s : Start) (calls : List Call) : Type 0 where
  pub at_any_time : AtAnyTime step s calls SharesNow
  pub at_any_call : AtAnyCall step s calls SharesNext

abbrev pub SharesKept : Start → List Call → Type 0
SharesKept s calls = SharesKeptOf step s calls
