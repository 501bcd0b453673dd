-- The reader. A position is a count of bytes from the load's start; the first record stands at 1. "A load [is tested in the order] 14, 12,
-- 11, then each record 12, 13." "Reader and writer pass fields on without judging them; the table judges."
use Rattle.std.specs.Prelude.{ℕ, zero, suc, ◌+◌, ◌<◌, Bool, true, false, not, ◌&&◌, ◌||◌, cond, List, [], ◌∷◌, ◌≡◌, ltb, eqb, length, take, drop, get_or, Some, None, Ok, Err}
use Rattle.numbers.specs.declared.Refusal.TheVariants.{Short, Misfit}
use Rattle.numbers.specs.Refusals.{number_of}
use Rattle.numbers.specs.Numbers.{short_number, misfit_number, overlong_number, edition_number, most_bytes, or_else}
use Rattle.format.specs.declared.Call.{Call}
use Rattle.format.specs.Format.{rig_kind, known, has_kind, widths, total, length_with}
use Rattle.format.specs.Calls.{call_of}
use Rattle.format.specs.Records.{Member, Record, record_of, records_of, calls_of, member_count}
use Rattle.load.specs.Answers.{Answer, one_record, the_end, ItemValues, item_values}
use Rattle.load.specs.Bytes.{big_value, field_values, members_read}

-- ── one record ──
-- Both, or neither.
abbrev pub agree : Bool → Bool → Bool
agree true b = b
agree false b = not b

-- "The first record is the rig and no other is."
abbrev pub is_in_place : ℕ → ℕ → Bool
is_in_place kind at = agree (eqb kind rig_kind) (eqb at 1)

-- The length field and the kind byte of a record.
abbrev pub length_field : List ℕ → ℕ
length_field bs = big_value (take 2 bs)

abbrev pub kind_field : List ℕ → ℕ
kind_field bs = get_or bs 2 0

-- 12: "the load .. ends inside a record". (One byte alone is fewer than two, whatever it says.)
abbrev pub short : List ℕ → Bool
short bs = ltb (length bs) (2 + length_field bs)

-- 13: "record length wrong for its kind, a kind its edition lacks, or rig record out of place", of a record of n bytes whose call asks for
-- `count` members. (A record of no bytes has a wrong length, whatever byte comes after it.)
unfoldable pub misfit : ℕ → ℕ → ℕ → ℕ → ℕ → Bool
misfit e at n kind count = not (has_kind e kind) || (not (eqb n (length_with e kind count)) || not (is_in_place kind at))

-- The call that bytes say, where they begin with a record, and how many members it asks for.
abbrev pub call_in : ℕ → List ℕ → Call
call_in e bs = call_of e (kind_field bs) (field_values (widths e (kind_field bs)) (drop 3 bs))

abbrev pub count_in : ℕ → List ℕ → ℕ
count_in e bs = member_count e (call_in e bs)

-- What the bytes from a position to the load's end begin with: "Behind the last record it says that the load has ended".
unfoldable pub read_at : ℕ → ℕ → List ℕ → Answer
read_at e at bs =
    cond (eqb (length bs) 0) the_end
    (cond (short bs) (Err Short)
    (cond (misfit e at (length_field bs) (kind_field bs) (count_in e bs)) (Err Misfit)
    (one_record (call_in e bs) (at + (2 + length_field bs)))))

-- A load's edition is its first byte.
abbrev pub edition_of : List ℕ → ℕ
edition_of s = get_or s 0 0

-- The members of the record with call c that stands at a position: behind its length, its kind byte and its fields.
abbrev pub members_at : List ℕ → ℕ → Call → List Member
members_at s at c =
    let e = edition_of s in
    members_read (member_count e c) (drop (total (widths e c.kind)) (drop 3 (drop at s)))

abbrev pub record_at : List ℕ → ℕ → Call → Record
record_at s at c = record { call = c; members = members_at s at c }

-- Every record read so far has no members. (Proved in proofs/Reading: no-members.)
abbrev pub NoMembers : Type 0
NoMembers = (s : List ℕ) (at : ℕ) (c : Call) → record_at s at c ≡ record_of c

-- What stands at a position of a load: a record's call with the next position, the end, or a refusal.
unfoldable pub item_at : List ℕ → ℕ → Answer
item_at s at = read_at (edition_of s) at (drop at s)

-- The number of what stands there: "each record 12, 13"; 0 for a record and at the end.
unfoldable pub record_number : List ℕ → ℕ → ℕ
record_number s at =
    cond (eqb (length (drop at s)) 0) 0
    (cond (short (drop at s)) short_number
    (cond (misfit (edition_of s) at (length_field (drop at s)) (kind_field (drop at s)) (count_in (edition_of s) (drop at s))) misfit_number
    0))

-- A record stands there: the load does not end there, and nothing refuses it.
abbrev pub record_there : List ℕ → ℕ → Bool
record_there s at = not (eqb (length (drop at s)) 0) && eqb (record_number s at) 0

-- What stands there in numbers, by the load's bytes: its number; of a record the call and the position after it; else no call, and the
-- position is kept.
unfoldable pub record_values : List ℕ → ℕ → ItemValues
record_values s at =
    record {
      number = record_number s at;
      calls = cond (record_there s at) (call_in (edition_of s) (drop at s) ∷ []) [];
      next = cond (record_there s at) (at + (2 + length_field (drop at s))) at;
    }

-- Every item has these. (Proved in proofs/Reading: item-valued.)
abbrev pub ItemValued : Type 0
ItemValued = (s : List ℕ) (at : ℕ) → item_values at (item_at s at) ≡ record_values s at

-- Document 02 of pool and units: "edition 1 reads as 0 for both". (Proved in proofs/Reading: edition-1-bare.)
abbrev pub Edition1Bare : Type 0
Edition1Bare = (s : List ℕ) (at : ℕ) (c : Call) (next : ℕ) → edition_of s ≡ 1 → item_at s at ≡ one_record c next → (c.pool ≡ 0) × (c.units ≡ 0)

-- Of the client: "Older editions start with desk 1 declared", and every call of theirs is client 1's. (Proved in proofs/Reading:
-- older-client-1.)
abbrev pub OlderClient1 : Type 0
OlderClient1 = (s : List ℕ) (at : ℕ) (c : Call) (next : ℕ) → edition_of s < 3 → item_at s at ≡ one_record c next → c.client ≡ 1

-- ── a whole load ──
-- 14 "load over 65,536 bytes", 12 "the load is empty", 11 "first byte of a load names no edition the reader knows"; 0 for none of them.
unfoldable pub open_number : List ℕ → ℕ
open_number s = cond (ltb most_bytes (length s)) overlong_number (cond (eqb (length s) 0) short_number (cond (known (edition_of s)) 0 edition_number))

-- The records up to the end or the first refusal, and the number of that, 0 at the end.
pub record Walk : Type 0 where
  pub records : List Record
  pub stop : ℕ

abbrev pub ended : ℕ → Walk
ended n = record { records = []; stop = n }

abbrev pub onto : Record → Walk → Walk
onto r w = record { records = r ∷ w.records; stop = w.stop }

-- From what stands at a position on, where `f` walks from another on.
abbrev pub follow : List ℕ → ℕ → (ℕ → Walk) → Answer → Walk
follow s at f (Ok (Some item)) = onto (record_at s at item.call) (f item.next)
follow s at f (Ok None) = ended 0
follow s at f (Err r) = ended (number_of r)

-- At most k items. A record takes up bytes, so that a load has no more of them than bytes, and `walk` comes to its end or a refusal.
unfoldable pub walk_in : ℕ → List ℕ → ℕ → Walk
walk_in zero s at = ended 0
walk_in (suc k) s at = follow s at (λ n. walk_in k s n) (item_at s at)

-- What a load reads as from a position on.
unfoldable pub walk : List ℕ → ℕ → Walk
walk s at = walk_in (suc (length s)) s at

-- None of them has members, so far. (Proved in proofs/Reading: walk_of-calls.)
abbrev pub WalkOfCalls : Type 0
WalkOfCalls = (s : List ℕ) (at : ℕ) → (walk s at).records ≡ records_of (calls_of (walk s at).records)

-- The refusal of a number, or, where that is 0, what there is.
abbrev pub unless_refused : {A : Type 0} → ℕ → (ℕ → A) → A → A
unless_refused zero refuse a = a
unless_refused (suc k) refuse a = refuse (suc k)

-- What a whole load reads as: where it does not open its number and no records, else what is read from the first record on.
unfoldable pub reading : List ℕ → Walk
reading s = unless_refused (open_number s) ended (walk s 1)

-- The test of a load: "14, 12, 11, then each record 12, 13"; 0 for a load that reads to its end.
unfoldable pub load_number : List ℕ → ℕ
load_number s = or_else (open_number s) (walk s 1).stop

-- That is the number at which the whole load's reading stops. (Proved in proofs/Reading: reading-tested.)
abbrev pub ReadingTested : Type 0
ReadingTested = (s : List ℕ) → (reading s).stop ≡ load_number s
