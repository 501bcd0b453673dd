-- Records as bytes. "One edition byte, 1. Then records: length in two bytes (the bytes after it), a kind byte, fields. All numbers are
-- big-endian."
use Rattle.std.specs.Prelude.{ℕ, zero, suc, List, [], ◌∷◌, ◌++◌, length, take, drop, get_or}
-- passed on: a number as bytes is part of the format
unfoldable pub use Rattle.numerals.specs.Digits.{numeral, digits}
use Rattle.format.specs.declared.Call.{Call}
use Rattle.format.specs.Format.{widths, total, member_widths, length_with}
use Rattle.format.specs.Calls.{values_of}
use Rattle.format.specs.Records.{Member, Record, record_of, records_of, member_values, member_of}

-- A number v in n bytes, "big-endian".
abbrev pub big : ℕ → ℕ → List ℕ
big n v = digits 256 0 n v

-- The number that bytes say.
abbrev pub big_value : List ℕ → ℕ
big_value bs = numeral 0 bs

-- Values written one after the other, each at its width.
unfoldable pub field_bytes : List ℕ → List ℕ → List ℕ
field_bytes [] vs = []
field_bytes (w ∷ ws) vs = big w (get_or vs 0 0) ++ field_bytes ws (drop 1 vs)

-- And read so.
unfoldable pub field_values : List ℕ → List ℕ → List ℕ
field_values [] bs = []
field_values (w ∷ ws) bs = big_value (take w bs) ∷ field_values ws (drop w bs)

-- Members, each by the widths of its fields.
unfoldable pub members_bytes : List Member → List ℕ
members_bytes [] = []
members_bytes (m ∷ ms) = field_bytes member_widths (member_values m) ++ members_bytes ms

-- And so many read so.
unfoldable pub members_read : ℕ → List ℕ → List Member
members_read zero bs = []
members_read (suc n) bs = member_of (field_values member_widths bs) ∷ members_read n (drop (total member_widths) bs)

-- A record: "length in two bytes (the bytes after it), a kind byte, fields"; then its members, if it has any.
unfoldable pub record_bytes : ℕ → Record → List ℕ
record_bytes e r =
    let c = r.call in
    big 2 (length_with e c.kind (length r.members)) ++ (c.kind ∷ field_bytes (widths e c.kind) (values_of e c) ++ members_bytes r.members)

unfoldable pub records_bytes : ℕ → List Record → List ℕ
records_bytes e [] = []
records_bytes e (r ∷ rs) = record_bytes e r ++ records_bytes e rs

-- "One edition byte .. Then records".
unfoldable pub load_bytes : ℕ → List Record → List ℕ
load_bytes e rs = e ∷ records_bytes e rs

-- The same of calls, as records without members.
abbrev pub call_bytes : ℕ → Call → List ℕ
call_bytes e c = record_bytes e (record_of c)

abbrev pub calls_bytes : ℕ → List Call → List ℕ
calls_bytes e cs = records_bytes e (records_of cs)

abbrev pub load_of : ℕ → List Call → List ℕ
load_of e cs = load_bytes e (records_of cs)
