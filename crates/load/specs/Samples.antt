-- Calls that the writer takes or refuses by the edition and the place. proofs/Samples has the theorem that covers the table.
use Rattle.std.specs.Prelude.{ℕ, List, [], ◌∷◌}
use Rattle.format.specs.declared.Call.{Call}
use Rattle.format.specs.Calls.{rig, rig_with, claim_with, claim_from, declaration, grace}
use Rattle.format.specs.Records.{record_of}
use Rattle.load.specs.Bytes.{load_of}
use Rattle.load.specs.Writing.{append_number}

-- A call that the writer is given for a load of an edition and the calls before, in room enough, and the number of its refusal, 0 for none.
pub record Attempt : Type 0 where
  pub edition : ℕ
  pub before : List Call
  pub call : Call
  pub number : ℕ

-- After the rig.
abbrev pub attempt : ℕ → Call → ℕ → Attempt
attempt edition call number = record { edition = edition; before = rig 0xF ∷ []; call = call; number = number }

-- As the first record.
abbrev pub first : ℕ → Call → ℕ → Attempt
first edition call number = record { edition = edition; before = []; call = call; number = number }

unfoldable pub attempts : List Attempt
attempts =
    -- 13: "a call with a value that the load's edition can't carry": units, a desk other than 1, kinds 6 and 8
    attempt 1 (claim_with 0 0x8 10 2) 13
    ∷ attempt 2 (claim_with 0 0x8 10 2) 0
    ∷ attempt 1 (claim_from 0 0x8 10 0 2) 13
    ∷ attempt 2 (claim_from 0 0x8 10 2 2) 13
    ∷ attempt 3 (claim_from 0 0x8 10 2 2) 0
    ∷ attempt 1 (claim_from 0 0x8 10 0 0) 13
    ∷ attempt 1 (claim_from 0 0x8 10 0 1) 0
    ∷ attempt 2 (claim_from 0 0x8 10 2 1) 0
    ∷ attempt 1 (declaration 1 64 64) 13
    ∷ attempt 2 (declaration 1 64 64) 13
    ∷ attempt 3 (declaration 1 64 64) 0
    ∷ attempt 1 (grace 60000) 13
    ∷ attempt 2 (grace 60000) 13
    ∷ attempt 3 (grace 60000) 0
    -- "Reader and writer pass fields on without judging them"
    ∷ attempt 3 (grace 4294967295) 0
    -- 13: "a rig that isn't first, another record that is"
    ∷ first 3 (grace 60000) 13
    ∷ first 3 (rig_with 0xF 3) 0
    ∷ attempt 3 (rig_with 0xF 3) 13
    ∷ []

-- What the writer answers.
abbrev pub attempted : Attempt → ℕ
attempted x = append_number (load_of x.edition x.before) (record_of x.call) 65536
