-- What the calls and their answers tell: which claims are pending, which are held since when, the table's clock, and what was set: pool,
-- shares and grace. Nothing here looks into a table. Quotations are from document 01, "A run of calls".
use Rattle.std.specs.Prelude.{◌≡◌, Bool, true, false, not, ◌&&◌, cond, List, [], ◌∷◌, ◌++◌, map, ℕ, ◌+◌, ◌-◌, ◌*◌, ◌≤◌, eqb, length, Option}
use Rattle.groups.specs.Groups.{shares}
use Rattle.rules.specs.declared.Request.{Request}
use Rattle.rules.specs.Lists.{◌∈◌, sum, any, keep}
use Rattle.rules.specs.declared.Setting.{Setting}
use Rattle.rules.specs.declared.Share.{Share}
use Rattle.rules.specs.Shares.{share, first_shares, with_share}
use Rattle.rules.specs.Claims.{held_until}
use Rattle.rules.specs.Calls.{Model, claims, releases, withdraws, moves_clock, declares, sets_grace, Call, timed, looks, sets_up, is_timed, clock_of, Answer, Step}

-- A call with its answer.
pub record Turn : Type 0 where
  pub call : Call
  pub answer : Answer

-- How calls are run: from a table and a call to the table after it and its answer. The rules' own is `step`.
abbrev pub Steps : Type 0
Steps = Model → Call → Step

-- "Each call gets the table as the one before it left it"
unfoldable pub turns : Steps → Model → List Call → List Turn
turns step m [] = []
turns step m (c ∷ cs) = record { call = c; answer = (step m c).answer } ∷ turns step (step m c).model cs

-- The table that the last one left.
unfoldable pub table_after : Steps → Model → List Call → Model
table_after step m [] = m
table_after step m (c ∷ cs) = table_after step (step m c).model cs

-- An accepted timed call.
abbrev pub accepted : Turn → Bool
accepted t = is_timed t.call && eqb t.answer.number 0

-- A pending claim. "Its first planned start is the start which that issuing call answers." Held: "on, or held, and a holder"; its grant
-- counts from then on, and "its promised end [is] grant + length".
pub record Entry : Type 0 where
  pub ticket : ℕ
  pub asked : Request
  pub first : ℕ
  pub held : Bool
  pub grant : ℕ

abbrev pub promised : Entry → ℕ
promised e = e.grant + e.asked.length

abbrev pub has_ticket : ℕ → Entry → Bool
has_ticket k e = eqb e.ticket k

-- The rig, the table's clock, the units in its pool, the count of claims accepted so far, the grace, the shares of clients 1 to 8, and the
-- pending claims.
pub record Ledger : Type 0 where
  pub rig : ℕ
  pub clock : ℕ
  pub pool : ℕ
  pub issued : ℕ
  pub grace : ℕ
  pub shares : List (Option Share)
  pub claims : List Entry

-- Before any call, by the call that made the table: the groups and the units that it named, whether client 1 alone is declared, and its
-- answer. The clock is "0 before any"; a table that was refused has no groups and no units; the grace is "0 unless set" (document 02, P6).
abbrev pub opening : ℕ → ℕ → Bool → Answer → Ledger
opening g k alone a =
    let made = eqb a.number 0 in
    record { rig = cond made g 0; clock = 0; pool = cond made k 0; issued = 0; grace = 0; shares = first_shares alone; claims = [] }

-- "A claim is pending from the accepted call that issued its ticket": what an accepted call issued.
unfoldable pub issues : Call → Answer → List Entry
issues (timed t (claims ask)) a = record { ticket = a.ticket; asked = ask; first = a.start; held = false; grant = 0 } ∷ []
issues (timed t (releases k)) a = []
issues (timed t (withdraws k)) a = []
issues (timed t moves_clock) a = []
issues (looks q) a = []
issues (sets_up p) a = []

-- "until an accepted release or withdrawal takes it away": what an accepted call leaves of the pending claims.
abbrev pub lacking : ℕ → List Entry → List Entry
lacking k l = keep (λ e. not (has_ticket k e)) l

unfoldable pub stay : Call → List Entry → List Entry
stay (timed t (claims ask)) l = l
stay (timed t (releases k)) l = lacking k l
stay (timed t (withdraws k)) l = lacking k l
stay (timed t moves_clock) l = l
stay (looks q) l = l
stay (sets_up p) l = l

-- What is pending once an accepted call has acted: who stays, and who is new.
abbrev pub after_acting : Turn → List Entry → List Entry
after_acting t l = stay t.call l ++ issues t.call t.answer

-- "A desk has a guarantee and a limit, declared before the first claim": the shares after an accepted call (document 02, P4).
unfoldable pub shares_by : Call → List (Option Share) → List (Option Share)
shares_by (timed t x) ss = ss
shares_by (looks q) ss = ss
shares_by (sets_up (declares c r l)) ss = with_share ss c (share r l)
shares_by (sets_up (sets_grace n)) ss = ss

-- "The rig has a grace .. set before the first claim": the grace after an accepted call (document 02, P6).
unfoldable pub grace_by : Call → ℕ → ℕ
grace_by (timed t x) g = g
grace_by (looks q) g = g
grace_by (sets_up (declares c r l)) g = g
grace_by (sets_up (sets_grace n)) g = n

-- "from the call whose answer names its ticket as granted, that call included .. Its grant is that call's clock"
abbrev pub hold : Entry → ℕ → Entry
hold e t = record { ticket = e.ticket; asked = e.asked; first = e.first; held = true; grant = t }

unfoldable pub marked : ℕ → List ℕ → Entry → Entry
marked t ks e = elim (any (λ k. eqb k e.ticket) ks) [ true ↦ hold e t | false ↦ e ]

-- The ledger after a call. "The table's clock is that of the last accepted timed call"
abbrev pub noted : Ledger → Turn → Ledger
noted l t =
    let now = clock_of t.call in
    let ss = cond (eqb t.answer.number 0) (shares_by t.call l.shares) l.shares in
    let grace = cond (eqb t.answer.number 0) (grace_by t.call l.grace) l.grace in
    cond (accepted t)
    (record { rig = l.rig; clock = now; pool = l.pool; issued = l.issued + length (issues t.call t.answer); grace = grace; shares = ss; claims = map (marked now t.answer.grants) (after_acting t l.claims) })
    (record { rig = l.rig; clock = l.clock; pool = l.pool; issued = l.issued; grace = grace; shares = ss; claims = l.claims })

-- The ledger after these calls.
unfoldable pub noted_all : Ledger → List Turn → Ledger
noted_all l [] = l
noted_all l (t ∷ ts) = noted_all (noted l t) ts

-- The call does not bear a clock past the promised end of a claim held when it comes.
abbrev pub NoOverrun : Ledger → Turn → Type 0
NoOverrun l t = accepted t ≡ true → (e : Entry) → e ∈ l.claims → e.held ≡ true → clock_of t.call ≤ promised e

-- No accepted call of these does.
abbrev pub NoOverruns : Ledger → List Turn → Type 0
NoOverruns l [] = Unit {0}
NoOverruns l (t ∷ ts) = NoOverrun l t × NoOverruns (noted l t) ts

-- The rules at clock t, by what the calls so far set.
abbrev pub ruled_by : Ledger → ℕ → Setting
ruled_by l t = record { clock = t; pool = l.pool; grace = l.grace }

-- The bound on a first planned start: "what is pending, on or waiting is taken just before the accepting call; remaining time is as in
-- the ceiling, the clock being that call's".
abbrev pub remaining_of : Setting → Entry → ℕ
remaining_of v e = cond e.held (held_until v (promised e) - v.clock) e.asked.length

abbrev pub rivals_of : List Entry → Request → List Entry
rivals_of l ask = keep (λ e. shares e.asked.groups ask.groups) l

unfoldable pub bound_on : Setting → List Entry → Request → ℕ
bound_on v l ask = v.clock + sum (remaining_of v) (rivals_of l ask) + length (rivals_of l ask) * (ask.length - 1)
