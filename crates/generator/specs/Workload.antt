-- The workload of a seed and a count. Quotations are from document 02, P5.
use Rattle.std.specs.Prelude.{true, ◌&&◌, cond, List, [], ◌∷◌, ◌++◌, map, ℕ, zero, suc, ◌+◌, ◌%◌, leb, eqb, length, Option, Some, None, Result, Ok, Err}
use Rattle.numbers.specs.declared.Refusal.{Refusal}
use Rattle.numbers.specs.Numbers.{count_number, most_claims, or_else}
use Rattle.numbers.specs.Refusals.{number_of}
use Rattle.numerals.specs.Laid.{space_number}
use Rattle.groups.specs.Groups.{set_where, only, union}
use Rattle.rules.specs.declared.Claim.{Claim}
use Rattle.rules.specs.Lists.{keep, least}
use Rattle.rules.specs.Claims.{on}
use Rattle.rules.specs.Calls.{Model}
use Rattle.lcg.specs.Draws.{state_in, draw_in}
use Rattle.format.specs.declared.Call.{Call}
use Rattle.load.specs.Answers.{WrittenValues}
use Rattle.format.specs.Calls.{rig, claim, release}
use Rattle.format.specs.Records.{record_of}
use Rattle.load.specs.Bytes.{load_of}
use Rattle.load.specs.Writing.{answered, answered_values, begun, lent}
use Rattle.replay.specs.Records.{step_of, unrigged}
use Rattle.generator.specs.declared.Draws.{Draws}

-- ── draws ──
-- "For each claim draw in turn: clock advance .., two groups .., length .., and one draw more": from a state on; the state is then `state_in 5`.
unfoldable pub draws_from : ℕ → Draws
draws_from s = record { advance = draw_in 0 s; first = draw_in 1 s; second = draw_in 2 s; length = draw_in 3 s; last = draw_in 4 s }

-- "clock advance (draw modulo 8, on the clock of the claim before, refused or not, at first on 0)"
abbrev pub clock_for : ℕ → Draws → ℕ
clock_for before d = before + d.advance % 8

-- "two groups (each modulo 64, perhaps equal)"
unfoldable pub groups_for : Draws → ℕ
groups_for d = union (only (d.first % 64)) (only (d.second % 64))

-- "length (modulo 1,000, plus 1)"
abbrev pub length_for : Draws → ℕ
length_for d = d.length % 1000 + 1

-- ── records ──
-- The table after a record of an edition 1 load.
abbrev pub after_record : Model → Call → Model
after_record m c = (step_of true m (record_of c)).model

-- Records that follow one another; the clock of the last claim among them or before, and the table after them.
pub record Batch : Type 0 where
  pub records : List Call
  pub clock : ℕ
  pub left : Model

-- A claim, by its draws, after a claim at clock `before` and in table m.
abbrev pub claim_batch : ℕ → Model → Draws → Batch
claim_batch before m d =
    let t = clock_for before d in
    let c = claim t (groups_for d) (length_for d) in
    record { records = c ∷ []; clock = t; left = after_record m c }

-- "the lowest on ticket", if "a claim is on"
abbrev pub tickets_on : List Claim → List ℕ
tickets_on ps = map (λ (c : Claim). c.ticket) (keep on ps)

abbrev pub lowest_of : List ℕ → Option ℕ
lowest_of [] = None
lowest_of (k ∷ ks) = Some (least (λ n. true) k ks)

unfoldable pub lowest_on : Model → Option ℕ
lowest_on m = lowest_of (tickets_on m.pending)

-- "if .. a claim is on, a release of the lowest on ticket follows at the same clock"
abbrev pub release_of : ℕ → Model → Option ℕ → Batch
release_of t m None = record { records = []; clock = t; left = m }
release_of t m (Some k) = record { records = release t k ∷ []; clock = t; left = after_record m (release t k) }

abbrev pub release_batch : ℕ → Model → Batch
release_batch t m = release_of t m (lowest_on m)

abbrev pub followed_by : Batch → Batch → Batch
followed_by x y = record { records = x.records ++ y.records; clock = y.clock; left = y.left }

-- "If that last draw is odd": whether a claim is on is judged in the table after the claim, accepted or not.
unfoldable pub batch_of : ℕ → Model → Draws → Batch
batch_of before m d =
    let x = claim_batch before m d in
    cond (eqb (d.last % 2) 1) (followed_by x (release_batch x.clock x.left)) x

-- The records of n claims, from state s on, after a claim at clock t and in table m.
unfoldable pub records_from : ℕ → ℕ → ℕ → Model → List Call
records_from zero s t m = []
records_from (suc n) s t m =
    let x = batch_of t m (draws_from s) in
    x.records ++ records_from n (state_in 5 s) x.clock x.left

-- ── the load ──
-- "all 64 groups"
abbrev pub all_groups : ℕ
all_groups = set_where (λ g. true)

-- "From a 32-bit seed and a count .., write an edition 1 load on all 64 groups." The state starts as the seed.
unfoldable pub workload_calls : ℕ → ℕ → List Call
workload_calls seed count = rig all_groups ∷ records_from count seed 0 (after_record unrigged (rig all_groups))

unfoldable pub workload_of : ℕ → ℕ → List ℕ
workload_of seed count = load_of 1 (workload_calls seed count)

-- ── the call ──
-- "20 "count", count outside 1 to 1,000, before anything is written"; then 15.
unfoldable pub claims_number : ℕ → ℕ
claims_number count = cond (leb 1 count && leb count most_claims) 0 count_number

unfoldable pub workload_number : ℕ → ℕ → List ℕ → ℕ
workload_number seed count out = or_else (claims_number count) (space_number (workload_of seed count) out)

-- The load's length, or the refusal.
unfoldable pub workload_answer : ℕ → ℕ → List ℕ → Result ℕ Refusal
workload_answer seed count out = answered (workload_number seed count out) (length (workload_of seed count))

unfoldable pub workload_values : ℕ → ℕ → List ℕ → WrittenValues
workload_values seed count out = answered_values (workload_number seed count out) (length (workload_of seed count))

-- The lent buffer: the load at its start, later bytes as they were; refused, every byte as it was.
unfoldable pub workload_out : ℕ → ℕ → List ℕ → List ℕ
workload_out seed count out = lent (workload_number seed count out) (begun (workload_of seed count) out) out

-- For C: the length or the number. (No length is a number: `LongerThanNumbers` in Whole.)
abbrev pub returned : Result ℕ Refusal → ℕ
returned (Ok n) = n
returned (Err r) = number_of r
