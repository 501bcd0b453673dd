-- The round trip, claimed over what the calls' contracts cite: `append_answer` and `append_out` of the writer, `walk` and `load_number` of the
-- reader. proofs/RoundTrip has the proof of each claim: written-reads, read-written, read-bounded.
use Rattle.std.specs.Prelude.{ℕ, ◌≤◌, ◌<◌, true, List, [], ◌∷◌, ◌++◌, ◌≡◌, length, take, get_or, Ok}
use Rattle.numbers.specs.Numbers.{most_bytes}
use Rattle.format.specs.Format.{known}
use Rattle.format.specs.Records.{Record, TypedRecord}
use Rattle.load.specs.Bytes.{load_bytes}
use Rattle.load.specs.Reading.{edition_of, walk, load_number}
use Rattle.load.specs.Writing.{append_answer, append_out}

-- Every element is a byte. The code's `&[u8]` are.
abbrev pub Bytes : List ℕ → Type 0
Bytes s = (i : ℕ) → get_or s i 0 < 256

-- The load that the writer makes of records, one after the other. "Writing begins from the edition byte alone." Each record is appended to
-- the load so far and answered with a length n; the load is then the first n bytes of the lent buffer, whatever that held.
pub data Appended (e : ℕ) : List Record → List ℕ → Type 0 where
  none : known e ≡ true → Appended e [] (e ∷ [])
  one : {rs : List Record} {s : List ℕ} (r : Record) (out : List ℕ) (n : ℕ) → Appended e rs s → TypedRecord r → append_answer s r out ≡ Ok n
      → Appended e (rs ++ (r ∷ [])) (take n (append_out s r out))

-- (a) What the writer makes of records reads as those records and then the end.
abbrev pub WrittenReads : Type 0
WrittenReads = (e : ℕ) (rs : List Record) (s : List ℕ) → Appended e rs s
    → (load_number s ≡ 0) × (walk s 1 ≡ record { records = rs; stop = 0 })

-- (b) A load that reads to its end is the load of the records it reads as, and what the writer makes of them.
abbrev pub ReadWritten : Type 0
ReadWritten = (s : List ℕ) → Bytes s → load_number s ≡ 0
    → (s ≡ load_bytes (edition_of s) (walk s 1).records) × Appended (edition_of s) (walk s 1).records s

-- (c) "load over 65,536 bytes": every load that reads to its end is within them.
abbrev pub ReadBounded : Type 0
ReadBounded = (s : List ℕ) → load_number s ≡ 0 → length s ≤ most_bytes
