-- A reader opened on a load and used in turn, as `next`, `advanced`, `next` and so on, claimed over what their contracts cite: `item_of` and
-- `position_after`, from the position 1 that `opened` promises. proofs/Turns has the proof of each claim: reads-once, written_read,
-- read-written.
use Rattle.std.specs.Prelude.{ℕ, List, [], ◌∷◌, ◌≡◌, Err}
use Rattle.numbers.specs.declared.Refusal.{Refusal}
use Rattle.numbers.specs.Refusals.{number_of}
use Rattle.format.specs.declared.Call.{Call}
use Rattle.format.specs.Records.{Record}
use Rattle.load.specs.Answers.{one_record, the_end}
use Rattle.load.specs.Reading.{edition_of, record_at, reading}
use Rattle.load.specs.RoundTrip.{Bytes, Appended}
use Rattle.reader.specs.Items.{item_of, position_after}

-- From a position on, a reader gives these records in turn and then this number: 0 for the end of the load, else that of the refusal.
pub data Reads (s : List ℕ) : ℕ → List Record → ℕ → Type 0 where
  ended : {at : ℕ} → item_of s at ≡ the_end → Reads s at [] 0
  refused : {at : ℕ} {r : Refusal} → item_of s at ≡ Err r → Reads s at [] (number_of r)
  gave : {at next n : ℕ} {c : Call} {rs : List Record} → item_of s at ≡ one_record c next → Reads s (position_after s at) rs n → Reads s at (record_at s at c ∷ rs) n

-- (a) Of every load a reader gives what `reading` says, the records of the walk and its stop or the opening's number, and nothing else.
abbrev pub ReadsOnce : Type 0
ReadsOnce = (s : List ℕ) → Reads s 1 (reading s).records (reading s).stop
    × ((rs : List Record) (n : ℕ) → Reads s 1 rs n → (rs ≡ (reading s).records) × (n ≡ (reading s).stop))

-- (b) What the writer makes of records, a reader gives as those records and then the end.
abbrev pub WrittenRead : Type 0
WrittenRead = (e : ℕ) (rs : List Record) (s : List ℕ) → Appended e rs s → Reads s 1 rs 0

-- (c) What a reader gives up to the end, the writer makes the same load of.
abbrev pub ReadWritten : Type 0
ReadWritten = (rs : List Record) (s : List ℕ) → Bytes s → Reads s 1 rs 0 → Appended (edition_of s) rs s
