-- What the calls answer, and what their parts give, by the rules.
use Rattle.std.specs.Prelude.{Bool, true, false, not, ◌&&◌, cond, List, [], ◌∷◌, ℕ, ◌+◌, ltb, eqb, Result, Ok, Err}
use Rattle.numbers.specs.declared.Refusal.{Refusal}
use Rattle.numbers.specs.Numbers.{unknown_number, not_yet_on_number, already_on_number}
use Rattle.numbers.specs.Refusals.{number_of}
use Rattle.rules.specs.declared.Claim.{Claim}
use Rattle.rules.specs.declared.Standing.{Standing}
use Rattle.rules.specs.declared.Standing.TheVariants.{NotPending, Waits, Holds}
use Rattle.rules.specs.Lists.{any, keep}
use Rattle.rules.specs.Claims.{on, at}
use Rattle.rules.specs.Tests.{first_number, late, backward, named}
use Rattle.rules.specs.Calls.{Model, Answer, Call, full_to, over_of, release, withdraw, advance}
use Rattle.rules.specs.Chains.{ChainValues, chain_refused}
use Rattle.table.specs.declared.Accepted.{Accepted}

-- ── answers ──
-- A number, and nothing else.
abbrev pub number_alone : ℕ → Answer
number_alone n = record { number = n; ticket = 0; start = 0; contention = 0; bound = 0; grants = [] }

abbrev pub answer_of : Result Accepted Refusal → Answer
answer_of (Ok a) =
    record {
      number = 0;
      ticket = a.reply.ticket;
      start = a.reply.start;
      contention = a.reply.contention;
      bound = a.reply.bound;
      grants = a.grants;
    }
answer_of (Err r) = number_alone (number_of r)

-- What a lookup of a blocking chain tells.
abbrev pub chain_told : Result (List ℕ) Refusal → ChainValues
chain_told (Ok tickets) = record { number = 0; tickets = tickets }
chain_told (Err r) = chain_refused (number_of r)

-- ── the tests 5 and 4, and those of a release and a withdrawal ──
unfoldable pub time_number : ℕ → ℕ → ℕ
time_number now t = first_number (late t ∷ backward now t ∷ [])

-- The tests 6 and 18, of a claim of client c.
unfoldable pub share_number : Model → ℕ → ℕ
share_number m c = first_number (full_to m c ∷ over_of m c ∷ [])

-- c is on, and its promised end is below the clock t.
abbrev pub past_end : ℕ → Claim → Bool
past_end t c = on c && ltb (at c + c.length) t

-- c waits; c draws units.
abbrev pub waits : Claim → Bool
waits c = not (on c)

abbrev pub draws : Claim → Bool
draws c = not (eqb c.units 0)

-- The table that a claim is taken out of at clock t: packed where a pending claim draws units. Where none does that packing would be lost on
-- the next.
unfoldable pub departed : Model → ℕ → Model
departed m t = cond (any draws m.pending) (advance m t) m

abbrev pub phase_number : Bool → Standing → ℕ
phase_number b NotPending = unknown_number
phase_number true (Waits s) = not_yet_on_number
phase_number false (Waits s) = 0
phase_number true (Holds e) = 0
phase_number false (Holds e) = already_on_number

-- Release (true) or withdraw (false).
abbrev pub leaving : Bool → ℕ → ℕ → Call
leaving true t k = release t k
leaving false t k = withdraw t k

-- The claims but that of ticket k.
abbrev pub lacking : ℕ → List Claim → List Claim
lacking k ps = keep (λ c. not (named k c)) ps
