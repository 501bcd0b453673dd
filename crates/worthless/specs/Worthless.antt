-- Wrong tables, as steps run in place of the rules', each with a short list of calls at which a theorem is false of it: document 01's "Worthless
-- versions and their undoing", and tables that keep some of the promises and break another; last, wrong lookups in the rules' own run.
-- proofs/Worthless has the proofs; each goes by the clause that is named here.
use Rattle.std.specs.Prelude.{◌≡◌, Bool, true, false, not, ◌&&◌, cond, List, [], ◌∷◌, ◌++◌, map, reverse, ℕ, ◌+◌, ◌-◌, eqb, ltb, length, take}
use Rattle.numbers.specs.Numbers.{dark_number, length_number, full_number}
use Rattle.rules.specs.declared.Claim.{Claim}
use Rattle.rules.specs.declared.Reply.{Reply}
use Rattle.rules.specs.declared.Request.{Request}
use Rattle.rules.specs.declared.Phase.TheVariants.{Waiting, On}
use Rattle.rules.specs.Lists.{any, keep, greatest}
use Rattle.rules.specs.Claims.{on, at, with_phase, end_of}
use Rattle.rules.specs.Order.{rivals}
use Rattle.rules.specs.Packing.{moved}
use Rattle.rules.specs.Placing.{place}
use Rattle.rules.specs.Shares.{first_shares}
use Rattle.rules.specs.Tests.{first_number}
use Rattle.rules.specs.NoUnits.{with_pool}
use Rattle.rules.specs.Calls.{Model, with_clock, with_pending, with_grace, with_shares, setting_of, asking, Action, claims, releases, withdraws, moves_clock, Look, at_ticket, at_two, at_pool, at_chain, Call, timed, looks, sets_up, release, clock, lookup, declare, set_grace, is_timed, is_look, Answer, Step, tests, unchanged, unless, advance, plain, finish, join, remove, fresh, placing, admit, step, blank, value_at, free_of}
use Rattle.rules.specs.Chains.{ChainValues, chain_of}
use Rattle.promises.specs.Ledger.{Steps, table_after}
use Rattle.promises.specs.Runs.{Telling, Told, tells, Start, newly, ledger_after}
use Rattle.promises.specs.Demand3.{Demand3Of}
use Rattle.promises.specs.NumbersTested.{NumbersTestedOf, NewTestedOf}
use Rattle.promises.specs.Replies.{is_claim, RepliesOf}
use Rattle.promises.specs.LeastStart.{LeastStartOf}
use Rattle.promises.specs.StartsPacked.{StartsPackedOf}
use Rattle.promises.specs.PackedInTurn.{PackedInTurnOf}
use Rattle.promises.specs.PlansApart.{PlansApartOf}
use Rattle.promises.specs.WaitsExplained.{WaitsExplainedOf}
use Rattle.promises.specs.ChainsTold.{Chains}
use Rattle.promises.specs.NeverOvertaken.{NeverOvertakenOf}
use Rattle.promises.specs.PoolKept.{PoolKeptOf}
use Rattle.promises.specs.SharesKept.{SharesKeptOf}
use Rattle.promises.specs.TableKept.{TableKeptOf}
use Rattle.promises.specs.StartsHold.{StartsHoldOf}
use Rattle.promises.specs.GrantsDue.{GrantsDueOf}
use Rattle.promises.specs.WholeCalls.{WholeCallsOf}

-- A claim at a clock, of groups (hex) and a length; and one of a length and units alone.
abbrev pub claim : ℕ → ℕ → ℕ → Call
claim t g n = timed t (claims (asking g n))

abbrev pub drawing : ℕ → ℕ → ℕ → Call
drawing t n u = timed t (claims (record { groups = 0; length = n; units = u; client = 1 }))

-- ── how a step is changed ──
-- As the rules, but for what accepted timed calls do.
abbrev pub acts_by : (Model → ℕ → Action → Step) → Steps
acts_by f m (timed t x) = unless m (first_number (tests m (timed t x))) (f m t x)
acts_by f m (looks q) = step m (looks q)
acts_by f m (sets_up p) = step m (sets_up p)

abbrev pub claims_by : (Model → ℕ → Request → Step) → Model → ℕ → Action → Step
claims_by f m t (claims ask) = f m t ask
claims_by f m t (releases k) = step m (timed t (releases k))
claims_by f m t (withdraws k) = step m (timed t (withdraws k))
claims_by f m t moves_clock = step m (clock t)

abbrev pub releases_by : (Model → ℕ → ℕ → Step) → Model → ℕ → Action → Step
releases_by f m t (claims ask) = step m (timed t (claims ask))
releases_by f m t (releases k) = f m t k
releases_by f m t (withdraws k) = step m (timed t (withdraws k))
releases_by f m t moves_clock = step m (clock t)

-- A table whose claims are others; one whose waiting claims have other starts; an answer with another ticket, start, counts or grants.
abbrev pub claims_as : (Claim → Claim) → Model → Model
claims_as f m = with_pending m (map f m.pending)

abbrev pub starts_as : (Claim → ℕ) → Model → Model
starts_as f m = claims_as (moved f) m

abbrev pub answering : Answer → ℕ → ℕ → Answer
answering a k s = record { number = a.number; ticket = k; start = s; contention = a.contention; bound = a.bound; grants = a.grants }

abbrev pub counting : Answer → ℕ → ℕ → Answer
counting a i j = record { number = a.number; ticket = a.ticket; start = a.start; contention = i; bound = j; grants = a.grants }

abbrev pub naming : Answer → List ℕ → Answer
naming a ks = record { number = a.number; ticket = a.ticket; start = a.start; contention = a.contention; bound = a.bound; grants = ks }

abbrev pub is_named : List ℕ → Claim → Bool
is_named ks d = any (λ k. eqb k d.ticket) ks

-- A claim that waits on where it would have gone on.
abbrev pub waits_on : Claim → Claim
waits_on d = with_phase d (Waiting (at d))

-- Somebody is on past the promised end.
abbrev pub overrun : Model → Bool
overrun m = any (λ d. on d && ltb (at d + d.length) m.clock) m.pending

-- ── document 01's seven rows ──
-- "turns every claim down", and every other call.
unfoldable pub turns_all_down : Steps
turns_all_down m c = unchanged m length_number

-- "sets every claim at one fixed start": where it waits until then.
unfoldable pub one_fixed_start : Steps
one_fixed_start =
    acts_by (claims_by (λ m t ask.
    let s : Step = step m (timed t (claims ask)) in
    record { model = starts_as (λ d. 1000) (claims_as waits_on s.model); answer = naming (answering s.answer s.answer.ticket 1000) [] }))

-- "hands the table back untouched": the rules' answers.
unfoldable pub untouched : Steps
untouched m c = record { model = m; answer = (step m c).answer }

-- "places the first claim rightly, then echoes": every later call gets the first answer again.
unfoldable pub echoes : Steps
echoes m c =
    cond (eqb m.issued 0) (step m c)
    (record { model = m; answer = record { number = 0; ticket = 1; start = 0; contention = 0; bound = 0; grants = 1 ∷ [] } })

-- "invents crowd or ceiling": one more than there is.
unfoldable pub invents_contention : Steps
invents_contention m c = let s : Step = step m c in record { model = s.model; answer = counting s.answer (s.answer.contention + 1) s.answer.bound }

unfoldable pub invents_bound : Steps
invents_bound m c = let s : Step = step m c in record { model = s.model; answer = counting s.answer s.answer.contention (s.answer.bound + 1) }

-- "cries full with places free": as soon as one is pending.
unfoldable pub cries_full : Steps
cries_full = acts_by (claims_by (λ m t ask. cond (eqb (length m.pending) 0) (step m (timed t (claims ask))) (unchanged m full_number)))

-- "never grants": whoever would go on waits on, and nobody is named.
unfoldable pub never_grants : Steps
never_grants m c = let s : Step = step m c in record { model = claims_as waits_on s.model; answer = naming s.answer [] }

-- ── lookups, answers and grants ──
-- A lookup tells every waiting start a thousand ticks late; the table knows better.
unfoldable pub tells_late : Steps
tells_late m c =
    let s : Step = step (starts_as (λ d. at d - 1000) m) c in
    record { model = starts_as (λ d. at d + 1000) s.model; answer = s.answer }

-- Every timed call grants the holders anew, and so puts off their promised ends.
unfoldable pub renews : Steps
renews =
    acts_by (λ m t x.
    let s : Step = step m (timed t x) in
    record { model = claims_as (λ d. cond (on d) (with_phase d (On t)) d) s.model; answer = naming s.answer (map (λ d. d.ticket) (keep (λ d. on d) s.model.pending)) })

-- Whoever asks goes on at once.
unfoldable pub grants_all : Steps
grants_all =
    acts_by (claims_by (λ m t ask.
    let s : Step = step m (timed t (claims ask)) in
    record { model = claims_as (λ d. cond (eqb d.ticket s.answer.ticket) (with_phase d (On t)) d) s.model; answer = naming (answering s.answer s.answer.ticket t) (s.answer.ticket ∷ []) }))

-- A clock call puts every start back.
unfoldable pub puts_back : Steps
puts_back m c = let s : Step = step m c in cond (is_timed c && not (is_claim c)) (record { model = starts_as (λ d. at d + 1) s.model; answer = s.answer }) s

-- Waiting claims whose groups are forgotten.
unfoldable pub forgets_groups : Steps
forgets_groups m c =
    let s : Step = step m c in
    record { model = claims_as (λ d. cond (on d) d (record { groups = 0; phase = d.phase; length = d.length; ticket = d.ticket; units = d.units; client = d.client })) s.model; answer = s.answer }

-- "Naming grants in the order that their planned starts had, and not by ticket", or in any other.
unfoldable pub names_backward : Steps
names_backward m c = let s : Step = step m c in record { model = s.model; answer = naming s.answer (reverse s.answer.grants) }

-- While somebody overruns, nobody goes on.
unfoldable pub stops_granting : Steps
stops_granting m c = let s : Step = step m c in cond (overrun s.model) (record { model = claims_as (λ d. cond (is_named s.answer.grants d) (waits_on d) d) s.model; answer = naming s.answer [] }) s

-- A lookup pushes everybody back.
unfoldable pub fidgets : Steps
fidgets m c = cond (is_look c) (record { model = starts_as (λ d. at d + 1) m; answer = (step m c).answer }) (step m c)

-- A release answers no ticket; and a refused call answers one.
unfoldable pub mumbles : Steps
mumbles m c = let s : Step = step m c in record { model = s.model; answer = answering s.answer (cond (is_claim c) s.answer.ticket 0) s.answer.start }

unfoldable pub blurts : Steps
blurts m c = let s : Step = step m c in record { model = s.model; answer = cond (eqb s.answer.number 0) s.answer (answering s.answer 7 0) }

-- A call for a new table that is never satisfied.
unfoldable pub rigless : ℕ → ℕ → Bool → Step
rigless rig pool alone = unchanged (blank 0 0 alone) dark_number

-- ── starts ──
-- "Placing behind the last conflicting claim and never trying the gaps."
unfoldable pub ignores_gaps : Steps
ignores_gaps =
    acts_by (claims_by (λ m t ask.
    let n : Model = advance m t in
    let w : Claim = fresh n ask in
    let s = greatest (end_of (setting_of n)) n.clock (rivals n.pending w) in
    let r : Reply = placing n w in
    finish (join n (with_phase w (Waiting s))) (record { ticket = r.ticket; start = s; contention = r.contention; bound = r.bound })))

-- While somebody overruns, whoever comes last is placed beside the holders alone, and the others make room.
unfoldable pub pushes_in : Steps
pushes_in =
    acts_by (claims_by (λ m t ask.
    let n : Model = advance m t in
    let w : Claim = fresh n ask in
    let s = place (setting_of n) (keep on n.pending) w in
    let r : Reply = placing n w in
    cond (overrun n)
    (finish (join (starts_as (λ d. at d + 1) n) (with_phase w (Waiting s))) (record { ticket = r.ticket; start = s; contention = r.contention; bound = r.bound }))
    (step m (timed t (claims ask)))))

-- The first packing left out: a claim is placed beside starts that are past.
unfoldable pub skips_packing : Steps
skips_packing = acts_by (claims_by (λ m t ask. admit (with_clock m t) ask))

-- One drawer at a time: the pool as a single lamp.
unfoldable pub lone_drawer : Steps
lone_drawer =
    acts_by (claims_by (λ m t ask.
    let s : Step = step m (timed t (claims (record { groups = ask.groups; length = ask.length; units = cond (ltb 0 ask.units) m.pool 0; client = ask.client }))) in
    record {
      model = claims_as (λ d. cond (eqb d.ticket s.answer.ticket) (record { groups = d.groups; phase = d.phase; length = d.length; ticket = d.ticket; units = ask.units; client = d.client }) d) s.model;
      answer = s.answer;
    }))

-- While somebody overruns, all wait for a moment after the clock, one on top of the other.
unfoldable pub crowds : Steps
crowds m c = let s : Step = step m c in cond (overrun s.model) (record { model = starts_as (λ d. s.model.clock + d.ticket) s.model; answer = s.answer }) s

-- A grace that is taken and not looked at: "Plots show "now" for a cue that stays dark because an older one is running over" (document 02, P6).
unfoldable pub shows_now : Steps
shows_now m c = step (with_grace m 0) c

-- A release that moves nobody up: the others wait on for the starts they had.
unfoldable pub leaves_gaps : Steps
leaves_gaps = acts_by (releases_by (λ m t k. record { model = remove (with_clock m t) k; answer = record { number = 0; ticket = k; start = t; contention = 0; bound = 0; grants = [] } }))

-- A release that moves nobody up who draws units.
unfoldable pub leaves_drawers : Steps
leaves_drawers =
    acts_by (releases_by (λ m t k.
    let s : Step = step m (release t k) in
    record { model = claims_as (λ d. cond (ltb 0 d.units && not (on d)) (with_phase d (Waiting (value_at (λ c. at c) d.ticket m.pending))) d) s.model; answer = s.answer }))

-- A plan turned round at every call: the last comes first.
unfoldable pub reverses : Steps
reverses m c = let s : Step = step m c in record { model = starts_as (λ d. 1000 - at d) s.model; answer = s.answer }

-- While somebody overruns, two that wait for the pool, for 10 each, change places.
unfoldable pub changes_turns : Steps
changes_turns m c =
    let s : Step = step m c in
    let t = s.model.clock in
    cond (overrun s.model) (record { model = starts_as (λ d. t + (t + 10) - at d) s.model; answer = s.answer }) s

-- ── units ──
-- A pool that is not looked at.
unfoldable pub overdraws : Steps
overdraws m c = let s : Step = step (with_pool 100 m) c in record { model = with_pool m.pool s.model; answer = s.answer }

-- Holders that hand their units back at once.
unfoldable pub hides_units : Steps
hides_units m c =
    let s : Step = step m c in
    record { model = claims_as (λ d. cond (on d) (record { groups = d.groups; phase = d.phase; length = d.length; ticket = d.ticket; units = 0; client = d.client }) d) s.model; answer = s.answer }

-- Limits that are not looked at.
unfoldable pub ignores_limits : Steps
ignores_limits m (timed t x) = let s : Step = step (with_shares m (first_shares true)) (timed t x) in record { model = with_shares s.model m.shares; answer = s.answer }
ignores_limits m (looks q) = step m (looks q)
ignores_limits m (sets_up p) = step m (sets_up p)

-- Units that are free and stay in the cupboard: while units are held, whoever draws waits on, and is not named.
unfoldable pub keeps_units_back : Steps
keeps_units_back m c =
    let s : Step = step m c in
    cond (eqb (free_of m) m.pool) s
    (record {
      model = claims_as (λ d. cond (is_named s.answer.grants d && ltb 0 d.units) (waits_on d) d) s.model;
      answer = naming s.answer (keep (λ k. not (any (λ d. eqb d.ticket k && ltb 0 d.units) s.model.pending)) s.answer.grants);
    })

-- What a release sets free goes to the last comer first: in packing and in granting the higher ticket has the turn.
unfoldable pub last_first : Steps
last_first =
    acts_by (releases_by (λ m t k.
    let s : Step = finish (claims_as mirrored (remove (advance m t) k)) (plain k t) in
    record { model = claims_as mirrored s.model; answer = naming s.answer (map (λ j. 1000 - j) s.answer.grants) }))
  where
    mirrored : Claim → Claim
    mirrored d = record { groups = d.groups; phase = d.phase; length = d.length; ticket = 1000 - d.ticket; units = d.units; client = d.client }

-- Waiting claims that draw nothing until they go on.
unfoldable pub loses_units : Steps
loses_units m c =
    let s : Step = step m c in
    record { model = claims_as (λ d. cond (on d) d (record { groups = d.groups; phase = d.phase; length = d.length; ticket = d.ticket; units = 0; client = d.client })) s.model; answer = s.answer }

-- ── chains ──
-- A table that tells chains so, and all else as it is.
abbrev pub tells_chains : (Model → ℕ → ChainValues) → Model → (q : Look) → Telling q
tells_chains f m (at_ticket k) = tells m (at_ticket k)
tells_chains f m (at_two j k) = tells m (at_two j k)
tells_chains f m at_pool = tells m at_pool
tells_chains f m (at_chain k) = f m k

-- What is said of chains, of the rules' own run and of what is told of its tables.
abbrev pub ChainsBy : (Model → Told) → Start → List Call → Type 0
ChainsBy tells s calls = (before rest : List Call) → before ++ rest ≡ calls → Chains (ledger_after step s before) (tells (table_after step s.table before))

-- A chain that stops at the first link.
unfoldable pub stops_short : Model → Told
stops_short = tells_chains (λ m k. let r : ChainValues = chain_of (setting_of m) k m.pending in record { number = r.number; tickets = take 2 r.tickets })

-- Links to the highest ticket.
unfoldable pub links_highest : Model → Told
links_highest = tells_chains (λ m k. chain_of (setting_of m) k (reverse m.pending))

-- Links to whoever ends as a claim starts: as if all drew on the pool.
unfoldable pub links_anybody : Model → Told
links_anybody =
    tells_chains (λ m k.
    chain_of (setting_of m) k (map (λ d. record { groups = d.groups; phase = d.phase; length = d.length; ticket = d.ticket; units = 1; client = d.client }) m.pending))

-- A ticket that is on is told 8.
unfoldable pub disowns_holders : Model → Told
disowns_holders = tells_chains (λ m k. chain_of (setting_of m) k (keep (λ d. not (on d && eqb d.ticket k)) m.pending))

-- ── each is refused ──
pub record AllRefused : Type 0 where
  -- By `NumberTested`: 3, and the length is 10.
  pub turns_down : NumbersTestedOf turns_all_down (newly 0x1 0 true) (claim 0 0x1 10 ∷ []) → ⊥
  -- By `least`: 0 fits, in an empty table.
  pub fixed_start : LeastStartOf one_fixed_start (newly 0x1 0 true) (claim 0 0x1 10 ∷ []) → ⊥
  -- By `start_bounded`: 1000, and the bound is 0.
  pub fixed_start_late : Demand3Of one_fixed_start (newly 0x1 0 true) (claim 0 0x1 10 ∷ []) → ⊥
  -- By `lookup_agrees`: the claim is granted, and lookup does not know it.
  pub untouched_table : Demand3Of untouched (newly 0x1 0 true) (claim 0 0x1 10 ∷ []) → ⊥
  -- By `ticket_next`: the second claim is told ticket 1.
  pub echoed : Demand3Of echoes (newly 0x1 0 true) (claim 0 0x1 10 ∷ claim 0 0x1 10 ∷ []) → ⊥
  -- By `contention_counted`: 1 in an empty table; and by `bound_counted`: 1 at clock 0.
  pub invented_contention : Demand3Of invents_contention (newly 0x1 0 true) (claim 0 0x1 10 ∷ []) → ⊥
  pub invented_bound : Demand3Of invents_bound (newly 0x1 0 true) (claim 0 0x1 10 ∷ []) → ⊥
  -- By `NumberTested`: 6, and one is pending; and by `never_full`: client 1 has 64 places.
  pub full_with_places : NumbersTestedOf cries_full (newly 0x1 0 true) (claim 0 0x1 10 ∷ claim 0 0x1 10 ∷ []) → ⊥
  pub full_below_guarantee : SharesKeptOf cries_full (newly 0x1 0 true) (claim 0 0x1 10 ∷ claim 0 0x1 10 ∷ []) → ⊥
  -- By `no_wait_past`: at clock 1 the claim still waits, and its first planned start was 0.
  pub never_granted : Demand3Of never_grants (newly 0x1 0 true) (claim 0 0x1 10 ∷ clock 1 ∷ []) → ⊥
  -- By `first_told`: the second claim is answered the start 10, and lookup tells 1010.
  pub told_late : Demand3Of tells_late (newly 0x1 0 true) (claim 0 0x1 10 ∷ claim 0 0x1 10 ∷ []) → ⊥
  -- By `grants_waited`: ticket 1 was on before.
  pub renewed : Demand3Of renews (newly 0x1 0 true) (claim 0 0x1 10 ∷ clock 5 ∷ []) → ⊥
  -- By `holders_apart`: two are on the one group.
  pub granted_all : Demand3Of grants_all (newly 0x1 0 true) (claim 0 0x1 10 ∷ claim 0 0x1 10 ∷ []) → ⊥
  -- By `never_raised`: ticket 2 waits for 10, and at clock 1 for 11.
  pub put_back : Demand3Of puts_back (newly 0x1 0 true) (claim 0 0x1 10 ∷ claim 0 0x1 10 ∷ clock 1 ∷ []) → ⊥
  -- By `not_raised`: the same from the second claim on.
  pub put_back_later : StartsHoldOf puts_back (newly 0x1 0 true) (claim 0 0x1 10 ∷ claim 0 0x1 10 ∷ clock 1 ∷ []) → ⊥
  -- By `common_agrees`: both asked for group 0.
  pub groups_forgotten : Demand3Of forgets_groups (newly 0x1 0 true) (claim 0 0x1 10 ∷ claim 0 0x1 10 ∷ []) → ⊥
  -- By `grants_ascend`: 3, then 2.
  pub named_backward : Demand3Of names_backward (newly 0x3 0 true) (claim 0 0x3 10 ∷ claim 0 0x1 10 ∷ claim 0 0x2 10 ∷ release 5 1 ∷ []) → ⊥
  -- By `Explained`: ticket 2 has nothing in common with ticket 1, and waits.
  pub granting_stopped : WaitsExplainedOf stops_granting (newly 0x3 0 true) (claim 0 0x1 5 ∷ claim 10 0x2 5 ∷ []) → ⊥
  -- By `others_still`: ticket 2 waits for 10, and after a lookup for 11.
  pub fidgeted : RepliesOf fidgets (newly 0x1 0 true) (claim 0 0x1 10 ∷ claim 0 0x1 10 ∷ lookup 1 ∷ []) → ⊥
  -- By `three_plain` and `others_plain`.
  pub mumbled : RepliesOf mumbles (newly 0x1 0 true) (claim 0 0x1 10 ∷ release 4 1 ∷ []) → ⊥
  pub blurted : RepliesOf blurts (newly 0x1 0 true) (release 4 9 ∷ []) → ⊥
  -- By its condition: group 0 is no dark rig.
  pub no_rig : NewTestedOf rigless → ⊥
  -- By `least`: document 01's case 5, which fits at 0.
  pub gaps_ignored : LeastStartOf ignores_gaps (newly 0xF 0 true) (claim 0 0x8 10 ∷ claim 0 0xC 10 ∷ claim 0 0x6 11 ∷ claim 0 0x3 20 ∷ []) → ⊥
  -- By `others_packed`: behind ticket 1, which ends at 12, ticket 2 waits for 17.
  pub pushed_in : LeastStartOf pushes_in (newly 0x1 0 true) (claim 0 0x1 10 ∷ claim 0 0x1 10 ∷ claim 12 0x1 5 ∷ []) → ⊥
  -- By `first_told`: at clock 15 ticket 2 is still planned for 10, so that ticket 3 is answered 20; lookup tells 25.
  pub packing_skipped : Demand3Of skips_packing (newly 0x3 0 true) (claim 0 0x1 10 ∷ claim 0 0x3 10 ∷ claim 15 0x2 3 ∷ []) → ⊥
  -- By `least`: one of two units is free at 0, and one is asked for.
  pub one_drawer : LeastStartOf lone_drawer (newly 0x1 2 true) (drawing 0 10 1 ∷ drawing 0 10 1 ∷ []) → ⊥
  -- By `ends_awaited`: ticket 2 waits for 14, and ticket 3 for 15.
  pub crowded : PlansApartOf crowds (newly 0x1 0 true) (claim 0 0x1 10 ∷ claim 0 0x1 10 ∷ claim 0 0x1 10 ∷ clock 12 ∷ []) → ⊥
  -- By `ends_awaited`: at clock 12 ticket 2 waits for 12, and ticket 1 ends at 17.
  pub shown_now : PlansApartOf shows_now (newly 0x1 0 true) (set_grace 5 ∷ claim 0 0x1 10 ∷ claim 0 0x1 10 ∷ clock 12 ∷ []) → ⊥
  -- By `Explained`: at clock 4 ticket 2 waits for 10, and nothing else is pending.
  pub gaps_left : WaitsExplainedOf leaves_gaps (newly 0x1 0 true) (claim 0 0x1 10 ∷ claim 0 0x1 10 ∷ release 4 1 ∷ []) → ⊥
  -- By `least` of a packed start: ticket 3 draws both units and waits for 20; from 10 on, where ticket 1 ends, they are free.
  pub drawers_left : StartsPackedOf leaves_drawers (newly 0x1 2 true) (drawing 0 10 1 ∷ drawing 0 20 1 ∷ drawing 0 10 2 ∷ release 5 2 ∷ []) → ⊥
  -- By `NotOvertaken`: ticket 3 waits before ticket 2, and at the next call behind it.
  pub reversed : NeverOvertakenOf reverses (newly 0x1 0 true) (claim 0 0x1 10 ∷ claim 0 0x1 10 ∷ claim 0 0x1 10 ∷ clock 0 ∷ []) → ⊥
  -- By `least` of the start packed in turn: ticket 2, which came next, waits for 22; at 12, the clock, it could go on behind ticket 1.
  pub turns_changed : PackedInTurnOf changes_turns (newly 0x1 1 true) (drawing 0 10 1 ∷ drawing 0 10 1 ∷ drawing 0 10 1 ∷ clock 12 ∷ []) → ⊥
  -- By `never_more`: two units held of one; and by `units_enough`: two planned in use.
  pub overdrawn : PoolKeptOf overdraws (newly 0x1 1 true) (drawing 0 10 1 ∷ drawing 0 10 1 ∷ []) → ⊥
  pub overplanned : PlansApartOf overdraws (newly 0x1 1 true) (drawing 0 10 1 ∷ drawing 0 10 1 ∷ []) → ⊥
  -- By `free_and_held`: one is held of one, and one is told to be free.
  pub units_hidden : PoolKeptOf hides_units (newly 0x1 1 true) (drawing 0 10 1 ∷ []) → ⊥
  -- By `within_limit`: client 1 has one claim pending, and its limit is 0.
  pub limit_ignored : SharesKeptOf ignores_limits (newly 0x1 0 false) (declare 1 0 0 ∷ claim 0 0x1 10 ∷ []) → ⊥
  -- By `Due`: two of three units are held, and ticket 2, which asks for one, waits at its start.
  pub units_kept_back : GrantsDueOf keeps_units_back (newly 0x1 3 true) (drawing 0 10 2 ∷ drawing 10 8 1 ∷ []) → ⊥
  -- By `units_wanting`: both holders are overdue and one is released; ticket 4 has the unit, and ticket 3 waits.
  pub last_granted : WholeCallsOf last_first (table_after step (newly 0x1 2 true).table (drawing 0 5 1 ∷ drawing 0 5 1 ∷ drawing 10 10 1 ∷ drawing 10 10 1 ∷ [])) → ⊥
  -- By `packs` of a release: at 5 ticket 4 goes on, and ticket 3, which is before it, waits for 15.
  pub last_packed : WholeCallsOf last_first (table_after step (newly 0x1 2 true).table (drawing 0 20 1 ∷ drawing 0 20 1 ∷ drawing 0 10 1 ∷ drawing 0 10 1 ∷ [])) → ⊥
  -- By `units` of what the table has: ticket 2 asked for one.
  pub units_lost : TableKeptOf loses_units (newly 0x1 1 true) (drawing 0 10 1 ∷ drawing 0 10 1 ∷ []) → ⊥
  -- By `followed`: document 01's case 3; the chain told is 3, 2, and ticket 2 waits.
  pub stopped_short : ChainsBy stops_short (newly 0xF 0 true) (claim 0 0x8 10 ∷ claim 0 0xC 10 ∷ claim 0 0x6 11 ∷ []) → ⊥
  -- By `lowest`: ticket 3 waits for 1 and 2, which both end at 10; the chain told is 3, 2.
  pub highest_linked : ChainsBy links_highest (newly 0x3 0 true) (claim 0 0x1 10 ∷ claim 0 0x2 10 ∷ claim 0 0x3 10 ∷ []) → ⊥
  -- By `common`: the chain told of ticket 3 is 3, 1, and they share nothing.
  pub anybody_linked : ChainsBy links_anybody (newly 0x3 0 true) (claim 0 0x1 10 ∷ claim 0 0x2 10 ∷ claim 0 0x2 10 ∷ []) → ⊥
  -- By `held`.
  pub holders_disowned : ChainsBy disowns_holders (newly 0x1 0 true) (claim 0 0x1 10 ∷ []) → ⊥
