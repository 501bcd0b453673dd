-- What a workload reads as: each of its records can stand where it stands. A release names a ticket that is pending, so one that goes into
-- its field.
use mathlib.Core.Path.{◌≡◌, refl, sym, ap, subst, ◌∙◌}
use mathlib.Core.Bool.{true, false}
use mathlib.Core.List.{List, [], ◌∷◌, ◌++◌}
use Prim.Native.Nat.{ℕ, zero, suc, ◌+◌, ◌-◌, ◌*◌, ◌^◌, ◌≤◌, ◌<◌}
use native.Mathlib.Omega.{arith}
use lib.ListN.{length, length-append}
use Rattle.std.specs.Prelude.{Option, Some, None}
use Rattle.groups.specs.Groups.{some_from, empty, set_from, union}
use Rattle.groups.proofs.Groups.{set-under}
use Rattle.rules.specs.declared.Claim.{Claim}
use Rattle.rules.specs.Lists.{◌∈◌, keep}
use Rattle.rules.specs.Claims.{on}
use Rattle.rules.specs.Calls.{Model, Step, asking, claim as claimCall, release as releaseCall, new}
use Rattle.rules.specs.Invariants.{Invariant}
use Rattle.rules.proofs.Lists.{here, keep-e, map-e, least_under}
use Rattle.rules.proofs.Calls.{step-invariant, new-invariant, new-cases}
use Rattle.table.proofs.Promised.{by_call, issues_few}
use Rattle.format.specs.declared.Call.{Call}
use Rattle.format.specs.Format.{format, known, known_in}
use Rattle.format.specs.Calls.{rig, claim, release}
use Rattle.format.specs.Records.{record_of, records_of}
use Rattle.load.specs.Bytes.{records_bytes, load_bytes, call_bytes, calls_bytes}
use Rattle.load.specs.Reading.{open_number, walk}
use Rattle.load.proofs.Loads.{Loadable}
use Rattle.load.proofs.Reading.{load-parts}
use Rattle.load.proofs.RoundTrip.{Good, good-reads}
use Rattle.lcg.specs.Draws.{state_in}
use Rattle.replay.specs.Records.{step_of, ending, alone_in, unrigged}
use Rattle.replay.specs.Replay.{replay_from, replay_in, replay_of}
use Rattle.generator.specs.declared.Draws.{Draws}
use Rattle.generator.specs.Workload.{Batch, draws_from, clock_for, groups_for, length_for, after_record, tickets_on, lowest_of, lowest_on, batch_of, records_from, all_groups, workload_calls, workload_of}
use Rattle.generator.specs.Whole.{claims_in, WorkloadReads, LongerThanNumbers}
use Rattle.generator.proofs.Records.{by-fields, claim-does, release-does, rig-does, rig-length, claim-length, release_length, rig-sound, claim-sound, release-sound}
use Rattle.generator.proofs.Listed.{Runs, none_runs, claim-runs, release-runs}
use Rattle.generator.proofs.Batches.{claimed, batch-cases, batch-clock}

-- ── values go into their fields ──
groups-under : (d : Draws) → groups_for d < 2 ^ 64
unfolding groups_for union
groups-under d = set-under 64 0 _

-- ── tables ──
abbrev ticket_of : Option ℕ → ℕ
ticket_of (Some k) = k
ticket_of None = 0

module _ (m : Model) (i : Invariant m) where
  pending-issued : (n : ℕ) → n ∈ tickets_on m.pending → n ≤ m.issued
  pending-issued n e =
      let x = map-e (λ (c : Claim). c.ticket) (keep on m.pending) e in
      let p = (i.spaced.proper x.0 (keep-e on m.pending x.1).0).issued in
      let q = x.2 in
      omega arith

  lowest-issued : (k : ℕ) → lowest_on m ≡ Some k → k ≤ m.issued
  unfolding lowest_on
  lowest-issued k e = subst (λ (n : ℕ). n ≤ m.issued) (ap ticket_of e) (go (tickets_on m.pending) pending-issued)
    where
      go : (ks : List ℕ) → ((n : ℕ) → n ∈ ks → n ≤ m.issued) → ticket_of (lowest_of ks) ≤ m.issued
      go [] h = omega arith
      go (n ∷ ks) h = let a = least_under (λ x. true) n ks in let b = h n here in omega arith

-- A table that a workload's record may find: so many tickets are issued.
record Stands (m : Model) (n : ℕ) : Type 0 where
  pub invariant : Invariant m
  pub issued : m.issued ≤ n

step-stands : (m : Model) (c : Call) (s : Step) (n : ℕ) → step_of true m (record_of c) ≡ s → Invariant s.model → s.model.issued - m.issued ≤ 1 → Stands m n → Stands (after_record m c) (suc n)
step-stands m c s n e i f w = subst (λ (x : Step). Stands x.model (suc n)) (sym e) (let g = w.issued in record { invariant = i; issued = omega arith })

claim-stands : (m : Model) (t g l n : ℕ) → Stands m n → Stands (after_record m (claim t g l)) (suc n)
claim-stands m t g l n w = step-stands m (claim t g l) _ n (claim-does m t g l) (step-invariant m _ w.invariant) (issues_few (by_call (claimCall t (asking g l)))) w

release-stands : (m : Model) (t k n : ℕ) → Stands m n → Stands (after_record m (release t k)) (suc n)
release-stands m t k n w = step-stands m (release t k) _ n (release-does m t k) (step-invariant m _ w.invariant) (issues_few (by_call (releaseCall t k))) w

-- ── records ──
-- Records of n claims that may follow a rig.
record Fine (n : ℕ) (cs : List Call) : Type 0 where
  pub loadable : Loadable 1 false (records_of cs)
  pub claims : claims_in cs ≡ n
  pub most : length (calls_bytes 1 cs) ≤ 36 * n
  pub least : 23 * n ≤ length (calls_bytes 1 cs)
  pub runs : Runs cs

records-length : (c : Call) (cs : List Call) → length (calls_bytes 1 (c ∷ cs)) ≡ length (call_bytes 1 c) + length (calls_bytes 1 cs)
unfolding records_bytes
records-length c cs = length-append (call_bytes 1 c) (calls_bytes 1 cs)

one-claim : (t g l : ℕ) (cs : List Call) → claims_in (claim t g l ∷ cs) ≡ suc (claims_in cs)
unfolding claims_in keep
one-claim t g l cs = rw (by-fields.claim t g l) refl

no-claim : (t k : ℕ) (cs : List Call) → claims_in (release t k ∷ cs) ≡ claims_in cs
unfolding claims_in keep
no-claim t k cs = rw (by-fields.release t k) refl

module _ (t g l : ℕ) (at : t < 2 ^ 64) (set : g < 2 ^ 64) (short : l < 2 ^ 32) (n : ℕ) (cs : List Call) (f : Fine n cs) where
  claim-fine : Fine (suc n) (claim t g l ∷ cs)
  claim-fine =
      let a = f.claims in
      let b = f.most in
      let c = f.least in
      let x = records-length (claim t g l) cs in
      let y = claim-length t g l in
      record { loadable = Loadable.one (claim-sound t g l at set short) f.loadable; claims = one-claim t g l cs ∙ ap suc f.claims; most = omega arith; least = omega arith; runs = claim-runs t g l cs f.runs }

  both-fine : (k : ℕ) → k < 2 ^ 16 → Fine (suc n) (claim t g l ∷ release t k ∷ cs)
  both-fine k h =
      let b = f.most in
      let c = f.least in
      let x = records-length (claim t g l) (release t k ∷ cs) in
      let y = claim-length t g l in
      let z = records-length (release t k) cs in
      let w = release_length t k in
      record {
        loadable = Loadable.one (claim-sound t g l at set short) (Loadable.one (release-sound t k at h) f.loadable);
        claims = one-claim t g l (release t k ∷ cs) ∙ ap suc (no-claim t k cs ∙ f.claims);
        most = omega arith;
        least = omega arith;
        runs = claim-runs t g l (release t k ∷ cs) (release-runs t k cs f.runs);
      }

record Advances (n : ℕ) (x : Batch) : Type 0 where
  pub stands : Stands x.left (suc (suc n))
  pub fine : (k : ℕ) (cs : List Call) → Fine k cs → Fine (suc k) (x.records ++ cs)

batch-advances : (t : ℕ) (m : Model) (d : Draws) (n : ℕ) → t + 7 < 2 ^ 64 → n + 2 < 2 ^ 16 → Stands m n → Advances n (batch_of t m d)
batch-advances t m d n early few w =
    let q = claim-stands m (clock_for t d) (groups_for d) (length_for d) n w in
    batch-cases t m d (Advances n)
    (record {
      stands = let i = q.issued in record { invariant = q.invariant; issued = omega arith };
      fine = λ k cs f. claim-fine (clock_for t d) (groups_for d) (length_for d) (omega arith) (groups-under d) (omega arith) k cs f;
    })
    (λ j e. record {
      stands = release-stands (claimed t m d) (clock_for t d) j (suc n) q;
      fine = λ k cs f. both-fine (clock_for t d) (groups_for d) (length_for d) (omega arith) (groups-under d) (omega arith) k cs f j (let i = q.issued in omega (arith, lowest-issued (claimed t m d) q.invariant j e));
    })

records-fine : (n s t : ℕ) (m : Model) (k : ℕ) → Stands m k → k + 2 * n < 2 ^ 16 → t + 7 * n < 2 ^ 64 → Fine n (records_from n s t m)
unfolding records_from claims_in keep records_bytes
records-fine zero s t m k w few early = record { loadable = Loadable.none; claims = refl; most = omega arith; least = omega arith; runs = none_runs }
records-fine (suc n) s t m k w few early =
    let x : Batch = batch_of t m (draws_from s) in
    let a = batch-advances t m (draws_from s) k (omega arith) (omega arith) w in
    let c = batch-clock t m (draws_from s) in
    a.fine n (records_from n (state_in 5 s) x.clock x.left) (records-fine n (state_in 5 s) x.clock x.left (suc (suc k)) a.stands (omega arith) (omega arith))

-- ── the load ──
rigged : Stands (after_record unrigged (rig all_groups)) 0
rigged =
    subst (λ (x : Step). Stands x.model 0) (sym (rig-does unrigged all_groups))
    (record { invariant = new-invariant all_groups 0 true; issued = new-cases (λ (x : Step). x.model.issued ≤ 0) all_groups 0 true (λ e. omega arith) (λ e. omega arith) })

all-fine : (seed count : ℕ) → 2 * count < 2 ^ 16 → Fine count (records_from count seed 0 (after_record unrigged (rig all_groups)))
all-fine seed count h = records-fine count seed 0 (after_record unrigged (rig all_groups)) 0 rigged (omega arith) (omega arith)

no-claim-rig : (cs : List Call) → claims_in (rig all_groups ∷ cs) ≡ claims_in cs
unfolding claims_in keep
no-claim-rig cs = rw (by-fields.rig all_groups) refl

workload-length : (seed count : ℕ) → length (workload_of seed count) ≡ 12 + length (calls_bytes 1 (records_from count seed 0 (after_record unrigged (rig all_groups))))
unfolding workload_of workload_calls load_bytes
workload-length seed count = omega (arith, records-length (rig all_groups) (records_from count seed 0 (after_record unrigged (rig all_groups))), rig-length all_groups)

-- Room that every workload of a count goes into.
pub workload-most : (seed count : ℕ) → count ≤ 1000 → length (workload_of seed count) ≤ 12 + 36 * count
workload-most seed count h = let f = (all-fine seed count (omega arith)).most in omega (arith, workload-length seed count)

pub longer-than-numbers : LongerThanNumbers
longer-than-numbers seed count h l = let f = (all-fine seed count (omega arith)).least in omega (arith, workload-length seed count)

-- The rig is run, and what follows it.
rig-number : (step_of true unrigged (record_of (rig all_groups))).answer.number ≡ 0
unfolding new empty some_from set_from
rig-number = ap (λ (x : Step). x.answer.number) (rig-does unrigged all_groups)

listed : (seed count : ℕ) → 2 * count < 2 ^ 16 → open_number (workload_of seed count) ≡ 0 → walk (workload_of seed count) 1 ≡ record { records = records_of (workload_calls seed count); stop = 0 } → (replay_of (workload_of seed count)).stop ≡ 0
unfolding replay_of replay_in replay_from ending alone_in workload_of workload_calls load_bytes
listed seed count h o w = rw (o, w, rig-number) ((all-fine seed count h).runs 2 (after_record unrigged (rig all_groups)) (omega arith))

pub workload-reads : WorkloadReads
unfolding workload_of workload_calls known known_in format
workload-reads seed count h =
    let f = all-fine seed count (omega arith) in
    let l = workload-most seed count h in
    let g : Good 1 (records_of (workload_calls seed count)) = record { edition = refl; records = Loadable.one rig-sound f.loadable; bound = omega arith } in
    let r = good-reads 1 (records_of (workload_calls seed count)) g in
    record { good = r.0; calls = r.1; claims = no-claim-rig _ ∙ f.claims; fits = omega arith; listed = listed seed count (omega arith) (load-parts (workload_of seed count) r.0).0 r.1 }
