-- Workloads with their records, worked out apart from the definitions. proofs/AllSamples has the theorem that covers the table.
use Rattle.std.specs.Prelude.{List, [], ◌∷◌, ℕ}
use Rattle.format.specs.declared.Call.{Call}
use Rattle.format.specs.Calls.{rig, claim, release}
use Rattle.generator.specs.Workload.{workload_calls}

pub record Sample : Type 0 where
  pub seed : ℕ
  pub count : ℕ
  pub calls : List Call

abbrev pub sample : ℕ → ℕ → List Call → Sample
sample seed count calls = record { seed = seed; count = count; calls = calls }

unfoldable pub samples : List Sample
samples =
    sample 1 10
    (rig 0xFFFFFFFFFFFFFFFF
    ∷ claim 0 0x400100 196
    ∷ claim 0 0x400400000 81
    ∷ release 0 1
    ∷ claim 5 0x80000100000000 850
    ∷ release 5 2
    ∷ claim 5 0x400800000000 736
    ∷ release 5 3
    ∷ claim 12 0x8004 899
    ∷ release 12 4
    ∷ claim 18 0x100000004000000 233
    ∷ release 18 5
    ∷ claim 20 0x200000400 438
    ∷ claim 24 0x82000 348
    ∷ claim 29 0x80002000000 398
    ∷ claim 35 0x11 805
    ∷ [])
    -- the least seed, and the greatest
    ∷ sample 0 3 (rig 0xFFFFFFFFFFFFFFFF ∷ claim 6 0x11000 770 ∷ claim 12 0x4000000002000000 278 ∷ claim 18 0x800020000 7 ∷ [])
    ∷ sample 4294967295 3
    (rig 0xFFFFFFFFFFFFFFFF ∷ claim 5 0x800008 344 ∷ release 5 1 ∷ claim 9 0x2000010000 475 ∷ release 9 2 ∷ claim 15 0x10002 165 ∷ [])
    ∷ []

abbrev pub given : Sample → List Call
given x = workload_calls x.seed x.count
