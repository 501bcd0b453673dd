-- What a workload reads as. proofs/Whole has the proofs: workload-reads, longer-than-numbers.
use Rattle.std.specs.Prelude.{List, ◌≡◌, ℕ, ◌≤◌, ◌<◌, eqb, length}
use Rattle.numbers.specs.Numbers.{most_bytes, most_claims, count_number}
use Rattle.rules.specs.Lists.{keep}
use Rattle.format.specs.declared.Call.{Call}
use Rattle.format.specs.Format.{claim_kind}
use Rattle.format.specs.Records.{records_of}
use Rattle.load.specs.Reading.{walk, load_number}
use Rattle.replay.specs.Replay.{replay_of}
use Rattle.generator.specs.Workload.{workload_calls, workload_of}

-- How many of some records are claims, kind 2.
unfoldable pub claims_in : List Call → ℕ
claims_in cs = length (keep (λ (c : Call). eqb c.kind claim_kind) cs)

-- The load reads to its end, as the records that it was made of; it has as many claims as were asked for; it goes into a load's 65,536 bytes;
-- and its listing comes to the load's end, without a stop (`replay`, Replay).
pub record ReadsToEnd (seed count : ℕ) : Type 0 where
  pub good : load_number (workload_of seed count) ≡ 0
  pub calls : walk (workload_of seed count) 1 ≡ record { records = records_of (workload_calls seed count); stop = 0 }
  pub claims : claims_in (workload_calls seed count) ≡ count
  pub fits : length (workload_of seed count) ≤ most_bytes
  pub listed : (replay_of (workload_of seed count)).stop ≡ 0

abbrev pub WorkloadReads : Type 0
WorkloadReads = (seed count : ℕ) → count ≤ most_claims → ReadsToEnd seed count

-- For who gets a length or a number as one number: every length is greater than every number that is answered, 15 and 20.
abbrev pub LongerThanNumbers : Type 0
LongerThanNumbers = (seed count : ℕ) → 1 ≤ count → count ≤ most_claims → count_number < length (workload_of seed count)
