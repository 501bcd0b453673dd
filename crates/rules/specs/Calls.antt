-- The calls: in which order each is tested, and what it does. Everything here computes on numerals.
use Rattle.std.specs.Prelude.{Bool, true, false, not, ◌&&◌, cond, List, [], ◌∷◌, ◌++◌, map, ℕ, zero, suc, ◌+◌, length, Option, Some, None}
use Rattle.numbers.specs.Numbers.{dark_number, unknown_number, already_on_number}
use Rattle.groups.specs.Groups.{empty}
use Rattle.rules.specs.declared.Claim.{Claim}
use Rattle.rules.specs.declared.Request.{Request}
use Rattle.rules.specs.declared.Reply.{Reply}
use Rattle.rules.specs.declared.Setting.{Setting}
use Rattle.rules.specs.declared.Share.{Share}
use Rattle.rules.specs.declared.Phase.TheVariants.{Waiting}
use Rattle.rules.specs.declared.Common.{Common}
use Rattle.rules.specs.declared.Common.TheVariants.{Unknown, Shared, Apart}
use Rattle.rules.specs.declared.Standing.{Standing}
use Rattle.rules.specs.declared.Standing.TheVariants.{NotPending, Waits, Holds}
use Rattle.rules.specs.Lists.{any, keep}
use Rattle.rules.specs.Shares.{share, first_shares, share_of, with_share, pending_of, unfilled_by_others, reserved_in_all}
use Rattle.rules.specs.Claims.{on, at, with_phase, conflicts}
use Rattle.rules.specs.Packing.{pack}
use Rattle.rules.specs.Placing.{place, contention, start_bound}
use Rattle.rules.specs.Granting.{grant, grants}
use Rattle.rules.specs.Pool.{free_units}
use Rattle.rules.specs.Tests.{Test, test, first_number, late, backward, stranger, no_client, nothing_asked, off_rig, spots, bad_length, full_for, over, begun, overbooked, bad_grace, ticketless, named, unknown, not_yet_on, already_on}

-- What a table means. The pending claims stand in ascending order of ticket.
pub record Model : Type 0 where
  pub rig : ℕ
  pub clock : ℕ
  pub pool : ℕ
  pub issued : ℕ
  pub grace : ℕ
  pub shares : List (Option Share)
  pub pending : List Claim

abbrev pub with_clock : Model → ℕ → Model
with_clock m t = record { rig = m.rig; clock = t; pool = m.pool; issued = m.issued; grace = m.grace; shares = m.shares; pending = m.pending }

abbrev pub with_issued : Model → ℕ → Model
with_issued m n = record { rig = m.rig; clock = m.clock; pool = m.pool; issued = n; grace = m.grace; shares = m.shares; pending = m.pending }

abbrev pub with_pending : Model → List Claim → Model
with_pending m ps = record { rig = m.rig; clock = m.clock; pool = m.pool; issued = m.issued; grace = m.grace; shares = m.shares; pending = ps }

abbrev pub with_shares : Model → List (Option Share) → Model
with_shares m ss = record { rig = m.rig; clock = m.clock; pool = m.pool; issued = m.issued; grace = m.grace; shares = ss; pending = m.pending }

abbrev pub with_grace : Model → ℕ → Model
with_grace m n = record { rig = m.rig; clock = m.clock; pool = m.pool; issued = m.issued; grace = n; shares = m.shares; pending = m.pending }

-- The clients of claims.
abbrev pub clients_of : List Claim → List ℕ
clients_of ps = map (λ c. c.client) ps

-- The rules at clock t in this table; and at its own.
abbrev pub ruled : Model → ℕ → Setting
ruled m t = record { clock = t; pool = m.pool; grace = m.grace }

abbrev pub setting_of : Model → Setting
setting_of m = ruled m m.clock

-- A request of client 1 for groups for a length of time, and nothing else.
abbrev pub asking : ℕ → ℕ → Request
asking g n = record { groups = g; length = n; units = 0; client = 1 }

-- What a timed call does once the clock is set: it claims what is asked for, releases a ticket or withdraws it; or nothing, "Clock only moves
-- the clock".
pub data Action : Type 0 where
  claims : Request → Action
  releases : ℕ → Action
  withdraws : ℕ → Action
  moves_clock : Action

-- What a lookup asks: how a ticket stands, which group two tickets share, the units free, why a ticket waits. (Document 01: look is our lookup.)
pub data Look : Type 0 where
  at_ticket : ℕ → Look
  at_two : ℕ → ℕ → Look
  at_pool : Look
  at_chain : ℕ → Look

-- What is set before the first claim: a client with its guarantee and its limit; a grace.
pub data Setup : Type 0 where
  declares : ℕ → ℕ → ℕ → Setup
  sets_grace : ℕ → Setup

-- The calls of a run: timed calls, each with its clock; lookups; and what only sets something up.
pub data Call : Type 0 where
  timed : ℕ → Action → Call
  looks : Look → Call
  sets_up : Setup → Call

-- Each by its name: clock and what is asked for, clock and ticket, clock; ticket, two tickets, nothing, ticket; a client with its guarantee and
-- its limit; a grace.
abbrev pub claim : ℕ → Request → Call
claim t ask = timed t (claims ask)

abbrev pub release : ℕ → ℕ → Call
release t k = timed t (releases k)

abbrev pub withdraw : ℕ → ℕ → Call
withdraw t k = timed t (withdraws k)

abbrev pub clock : ℕ → Call
clock t = timed t moves_clock

abbrev pub lookup : ℕ → Call
lookup k = looks (at_ticket k)

abbrev pub common : ℕ → ℕ → Call
common j k = looks (at_two j k)

abbrev pub free : Call
free = looks at_pool

abbrev pub why : ℕ → Call
why k = looks (at_chain k)

abbrev pub declare : ℕ → ℕ → ℕ → Call
declare c r l = sets_up (declares c r l)

abbrev pub set_grace : ℕ → Call
set_grace n = sets_up (sets_grace n)

-- "Every accepted timed call (claim, release, withdraw, clock)"
abbrev pub is_timed : Call → Bool
is_timed (timed t x) = true
is_timed (looks q) = false
is_timed (sets_up p) = false

-- The clock that a timed call bears.
abbrev pub clock_of : Call → ℕ
clock_of (timed t x) = t
clock_of (looks q) = 0
clock_of (sets_up p) = 0

-- The calls that only tell: they change nothing.
abbrev pub is_look : Call → Bool
is_look (timed t x) = false
is_look (looks q) = true
is_look (sets_up p) = false

-- What a call answers: 0 or the refusal's number; ticket; start; contention and start bound; "the answer names those tickets".
pub record Answer : Type 0 where
  pub number : ℕ
  pub ticket : ℕ
  pub start : ℕ
  pub contention : ℕ
  pub bound : ℕ
  pub grants : List ℕ

-- The table after a call, and its answer.
pub record Step : Type 0 where
  pub model : Model
  pub answer : Answer

-- ── tests ──
-- 6 and 18 of a claim of client c.
abbrev pub full_to : Model → ℕ → Test
full_to m c =
    let ks = clients_of m.pending in
    full_for (share_of m.shares c) (pending_of ks c) (length m.pending) (unfilled_by_others m.shares ks c)

abbrev pub over_of : Model → ℕ → Test
over_of m c = over (share_of m.shares c) (pending_of (clients_of m.pending) c)

-- "A claim is tested in the order 5, 4, 1, 2, 3, 6, 7; a release 5, 4, 8, 9; a withdrawal 5, 4, 8, 10; a clock call 5, 4": of every timed
-- call 5 and 4, then these; of a claim "16 .. after 2", "17 .. before 1", "18 .. after 6" (document 02, P3 and P4).
abbrev pub action_tests : Model → Action → List Test
action_tests m (claims ask) =
    stranger (share_of m.shares ask.client) ∷ nothing_asked ask.groups ask.units
    ∷ off_rig m.rig ask.groups ∷ spots m.pool ask.units ∷ bad_length ask.length
    ∷ full_to m ask.client ∷ over_of m ask.client ∷ ticketless m.issued ∷ []
action_tests m (releases k) = unknown (named k) m.pending ∷ not_yet_on (named k) on m.pending ∷ []
action_tests m (withdraws k) = unknown (named k) m.pending ∷ already_on (named k) on m.pending ∷ []
action_tests m moves_clock = []

-- "a ticket that isn't pending answers 8" (document 02, P1; document 01: "gives 8"); "Tickets that aren't pending answer 8, those on 10" (P7):
-- whether a ticket is pending is `known`, whether it is on `held`.
abbrev pub look_tests : (ℕ → Bool) → (ℕ → Bool) → Look → List Test
look_tests known held (at_ticket k) = test (not (known k)) unknown_number ∷ []
look_tests known held (at_two j k) = test (not (known j)) unknown_number ∷ test (not (known k)) unknown_number ∷ []
look_tests known held at_pool = []
look_tests known held (at_chain k) = test (not (known k)) unknown_number ∷ test (held k) already_on_number ∷ []

-- A declaration is answered 13 "before 17", and 19 "after 17" (document 02, P4); a grace 21 (P6).
abbrev pub setup_tests : ℕ → List (Option Share) → Setup → List Test
setup_tests issued ss (declares c r l) = begun issued ∷ no_client c ∷ overbooked (share_of ss c) (reserved_in_all ss) r l ∷ []
setup_tests issued ss (sets_grace n) = bad_grace issued n ∷ []

unfoldable pub tests : Model → Call → List Test
tests m (timed t x) = late t ∷ backward m.clock t ∷ action_tests m x
tests m (looks q) = look_tests (λ k. any (named k) m.pending) (λ k. any (λ c. named k c && on c) m.pending) q
tests m (sets_up p) = setup_tests m.issued m.shares p

-- "A call turned down answers its number, with ticket, start, crowd and ceiling 0 and no grants; the table is the one handed in"
abbrev pub unchanged : Model → ℕ → Step
unchanged m n = record { model = m; answer = record { number = n; ticket = 0; start = 0; contention = 0; bound = 0; grants = [] } }

-- ── what accepted calls do ──
-- "first sets the clock and packs the waiting claims"
unfoldable pub advance : Model → ℕ → Model
advance m t = with_pending (with_clock m t) (pack (ruled m t) m.pending)

-- "These three answer their ticket (a clock call 0) and the clock as start; crowd and ceiling are 0."
abbrev pub plain : ℕ → ℕ → Reply
plain k t = record { ticket = k; start = t; contention = 0; bound = 0 }

-- "packs again and grants": with the claims ps once they are packed.
abbrev pub granting : Model → Reply → List Claim → Step
granting m r ps =
    record {
      model = with_pending m (grant (setting_of m) ps);
      answer = record { number = 0; ticket = r.ticket; start = r.start; contention = r.contention; bound = r.bound; grants = grants (setting_of m) ps };
    }

unfoldable pub finish : Model → Reply → Step
finish m r = granting m r (pack (setting_of m) m.pending)

-- One claim more, with the next ticket.
unfoldable pub join : Model → Claim → Model
join m w = with_pending (with_issued m (suc m.issued)) (m.pending ++ (w ∷ []))

-- The claims but that of ticket k.
unfoldable pub remove : Model → ℕ → Model
remove m k = with_pending m (keep (λ c. not (named k c)) m.pending)

-- A new claim, before it has its place: waiting from the clock on.
abbrev pub fresh : Model → Request → Claim
fresh m ask = record { groups = ask.groups; phase = Waiting m.clock; length = ask.length; ticket = suc m.issued; units = ask.units; client = ask.client }

-- "Claim": placed among the pending claims; "the answer is ticket, start, crowd and ceiling".
abbrev pub placing : Model → Claim → Reply
placing m w =
    let v : Setting = setting_of m in
    record { ticket = w.ticket; start = place v m.pending w; contention = contention m.pending w; bound = start_bound v m.pending w }

unfoldable pub admit : Model → Request → Step
admit m ask =
    let w : Claim = fresh m ask in
    let r : Reply = placing m w in
    finish (join m (with_phase w (Waiting r.start))) r

-- A declaration gives its client a share. It answers 0 and nothing else; so does a grace that is set.
abbrev pub declared : Model → ℕ → ℕ → ℕ → Model
declared m c r l = with_shares m (with_share m.shares c (share r l))

-- "Release takes away an on claim; withdraw takes away a waiting one. Clock only moves the clock": in a table whose clock is set to t and
-- which is packed.
abbrev pub perform : Model → ℕ → Action → Step
perform m t (claims ask) = admit m ask
perform m t (releases k) = finish (remove m k) (plain k t)
perform m t (withdraws k) = finish (remove m k) (plain k t)
perform m t moves_clock = finish m (plain 0 t)

abbrev pub with_setup : Model → Setup → Model
with_setup m (declares c r l) = declared m c r l
with_setup m (sets_grace n) = with_grace m n

-- "Every accepted timed call .. first sets the clock and packs the waiting claims, then acts, packs again and grants." Look "changes
-- nothing".
unfoldable pub act : Model → Call → Step
act m (timed t x) = perform (advance m t) t x
act m (looks q) = unchanged m 0
act m (sets_up p) = unchanged (with_setup m p) 0

-- The call's own step, or the refusal.
abbrev pub unless : Model → ℕ → Step → Step
unless m zero s = s
unless m (suc n) s = unchanged m (suc n)

unfoldable pub step : Model → Call → Step
step m c = unless m (first_number (tests m c)) (act m c)

-- ── a new table, lookup, and lists of calls ──
abbrev pub blank : ℕ → ℕ → Bool → Model
blank g k alone = record { rig = g; clock = 0; pool = k; issued = 0; grace = 0; shares = first_shares alone; pending = [] }

-- "A new table has clock 0." The grace is "0 unless set". "A call that would make a table gives, when turned down, one without groups,
-- claims or issued tickets, at clock 0." A pool without groups is dark too, and leaves no units. Client 1 alone is declared, as for loads of
-- editions 1 and 2, or nobody; so it is in a table that was turned down.
unfoldable pub new : ℕ → ℕ → Bool → Step
new g k alone = cond (empty g) (unchanged (blank 0 0 alone) dark_number) (unchanged (blank g k alone) 0)

-- "Look gives, for a ticket, waiting with start or on with promised end .. A ticket that isn't pending gives 8."
-- In numbers: the refusal's, 0 for none; the start of a waiting claim; the promised end of one that is on.
pub record StandingValues : Type 0 where
  pub number : ℕ
  pub start : ℕ
  pub end : ℕ

abbrev pub standing_values : Standing → StandingValues
standing_values NotPending = record { number = unknown_number; start = 0; end = 0 }
standing_values (Waits s) = record { number = 0; start = s; end = 0 }
standing_values (Holds e) = record { number = 0; start = 0; end = e }

abbrev pub standing : Claim → Standing
standing c = cond (on c) (Holds (at c + c.length)) (Waits (at c))

unfoldable pub standing_of : ℕ → List Claim → Standing
standing_of k [] = NotPending
standing_of k (c ∷ cs) = cond (named k c) (standing c) (standing_of k cs)

-- f of the first of the claims that has ticket k; 0 where none has.
unfoldable pub value_at : (Claim → ℕ) → ℕ → List Claim → ℕ
value_at f k [] = 0
value_at f k (c ∷ cs) = cond (named k c) (f c) (value_at f k cs)

-- What a lookup of ticket k gives in numbers, by the table: the number of its tests, and the values of the claim.
abbrev pub lookup_gives : Model → ℕ → StandingValues
lookup_gives m k =
    record {
      number = (step m (lookup k)).answer.number;
      start = value_at (λ c. cond (on c) 0 (at c)) k m.pending;
      end = value_at (λ c. cond (on c) (at c + c.length) 0) k m.pending;
    }

-- "A new look takes two tickets and gives that group; a ticket that isn't pending answers 8" (document 02, P1).
-- In numbers: the refusal's, 0 for none; the lowest group that both claims have, where there is one.
pub record CommonValues : Type 0 where
  pub number : ℕ
  pub groups : List ℕ

abbrev pub common_values : Common → CommonValues
common_values Unknown = record { number = unknown_number; groups = [] }
common_values (Shared g) = record { number = 0; groups = g ∷ [] }
common_values Apart = record { number = 0; groups = [] }

abbrev pub shared : Option ℕ → Common
shared (Some g) = Shared g
shared None = Apart

-- Of the claims of two tickets, each a claim or none.
abbrev pub between : List Claim → List Claim → Common
between (c ∷ cs) (d ∷ ds) = shared (conflicts c d)
between (c ∷ cs) [] = Unknown
between [] ds = Unknown

unfoldable pub common_of : ℕ → ℕ → List Claim → Common
common_of j k ps = between (keep (named j) ps) (keep (named k) ps)

-- The same of two tickets: the group that their claims share, where they share one.
abbrev pub group_in : Option ℕ → List ℕ
group_in (Some g) = g ∷ []
group_in None = []

abbrev pub groups_between : List Claim → List Claim → List ℕ
groups_between (c ∷ cs) (d ∷ ds) = group_in (conflicts c d)
groups_between (c ∷ cs) [] = []
groups_between [] ds = []

abbrev pub common_gives : Model → ℕ → ℕ → CommonValues
common_gives m j k =
    record { number = (step m (common j k)).answer.number; groups = groups_between (keep (named j) m.pending) (keep (named k) m.pending) }

-- "A look gives the units free" (document 02, P3): of the whole table.
abbrev pub free_of : Model → ℕ
free_of m = free_units m.pool m.pending

-- The table after a list of calls.
unfoldable pub after : Model → List Call → Model
after m [] = m
after m (c ∷ cs) = after (step m c).model cs

-- Their answers.
unfoldable pub answers : Model → List Call → List Answer
answers m [] = []
answers m (c ∷ cs) = (step m c).answer ∷ answers (step m c).model cs
