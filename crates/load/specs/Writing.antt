-- The writer. "The writer is given a load and one call, puts that load with one record more behind it at the start of a lent buffer, and
-- answers the new length; later bytes of the buffer keep their contents."
use Rattle.std.specs.Prelude.{ℕ, zero, suc, ◌+◌, not, ◌||◌, cond, List, ◌++◌, ltb, length, drop, Result, Ok, Err}
use Rattle.numbers.specs.declared.Refusal.{Refusal}
use Rattle.numbers.specs.Numbers.{misfit_number, overlong_number, no_space_number, most_bytes, or_else}
use Rattle.format.specs.Records.{Record, carries}
use Rattle.load.specs.Answers.{refusal_of, WrittenValues}
use Rattle.load.specs.Bytes.{record_bytes}
use Rattle.load.specs.Reading.{is_in_place, edition_of, load_number, unless_refused}

-- "that load with one record more behind it".
unfoldable pub grown : List ℕ → Record → List ℕ
grown s r = s ++ record_bytes (edition_of s) r

-- "then come 13 (a rig that isn't first, another record that is, or a call with a value that the load's edition can't carry), 14 (the grown
-- load would pass 65,536 bytes) and 15". The load has edition e and n bytes; room is the length of the lent buffer.
unfoldable pub room_number : ℕ → ℕ → ℕ
room_number whole room = cond (ltb most_bytes whole) overlong_number (cond (ltb room whole) no_space_number 0)

unfoldable pub grow_number : ℕ → ℕ → Record → ℕ → ℕ
grow_number e n r room = cond (not (is_in_place r.call.kind n) || not (carries e r)) misfit_number (room_number (n + length (record_bytes e r)) room)

-- "The load it is given is tested as by the reader, then come .."
unfoldable pub append_number : List ℕ → Record → ℕ → ℕ
append_number s r room = or_else (load_number s) (grow_number (edition_of s) (length s) r room)

-- The answer: a length where the number is 0, else the refusal of the number.
abbrev pub answered : ℕ → ℕ → Result ℕ Refusal
answered zero n = Ok n
answered (suc k) n = Err (refusal_of (suc k))

-- The lent buffer: the new contents where the number is 0, else "no byte of a lent buffer differs".
abbrev pub lent : ℕ → List ℕ → List ℕ → List ℕ
lent zero new old = new
lent (suc k) new old = old

-- The answer in numbers: the number, and the length where that is 0.
abbrev pub answered_values : ℕ → ℕ → WrittenValues
answered_values k n = record { number = k; length = unless_refused k (λ m. 0) n }

-- What the writer answers: "the new length", or the refusal.
unfoldable pub append_answer : List ℕ → Record → List ℕ → Result ℕ Refusal
append_answer s r out = answered (append_number s r (length out)) (length (grown s r))

unfoldable pub append_values : List ℕ → Record → List ℕ → WrittenValues
append_values s r out = answered_values (append_number s r (length out)) (length (grown s r))

-- What the lent buffer holds afterwards: the grown load at its start, and "later bytes of the buffer keep their contents".
abbrev pub begun : List ℕ → List ℕ → List ℕ
begun s out = s ++ drop (length s) out

unfoldable pub append_out : List ℕ → Record → List ℕ → List ℕ
append_out s r out = lent (append_number s r (length out)) (begun (grown s r) out) out
