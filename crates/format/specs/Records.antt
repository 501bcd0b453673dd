-- A record of a load is a call with its members. No kind so far has any.
use Rattle.std.specs.Prelude.{ℕ, ◌^◌, ◌<◌, Bool, ◌&&◌, List, [], ◌∷◌, map, ◌≡◌, eqb, length, get_or}
use Rattle.format.specs.declared.Call.{Call}
use Rattle.format.specs.Format.{the_groups, the_length, field_width}
use Rattle.format.specs.Calls.{keeps, Typed}

pub record Member : Type 0 where
  pub groups : ℕ
  pub length : ℕ

pub record Record : Type 0 where
  pub call : Call
  pub members : List Member

-- The record of a call, without members.
abbrev pub record_of : Call → Record
record_of c = record { call = c; members = [] }

abbrev pub records_of : List Call → List Record
records_of cs = map record_of cs

-- The calls of records.
abbrev pub calls_of : List Record → List Call
calls_of rs = map (λ r. r.call) rs

-- How many members the record of a call has in an edition.
unfoldable pub member_count : ℕ → Call → ℕ
member_count e c = 0

-- A member's values in the order of its fields, and the member of such values.
abbrev pub member_values : Member → List ℕ
member_values m = m.groups ∷ m.length ∷ []

abbrev pub member_of : List ℕ → Member
member_of vs = record { groups = get_or vs 0 0; length = get_or vs 1 0 }

-- Every value of a record goes into its field's width.
abbrev pub TypedMembers : List Member → Type 0
TypedMembers [] = Unit {0}
TypedMembers (m ∷ ms) = (m.groups < 256 ^ field_width the_groups) × (m.length < 256 ^ field_width the_length) × TypedMembers ms

abbrev pub TypedRecord : Record → Type 0
TypedRecord r = Typed r.call × TypedMembers r.members

-- The edition can carry the record: it keeps the whole call, and there are as many members as that asks for.
unfoldable pub carries : ℕ → Record → Bool
carries e r = keeps e r.call && eqb (length r.members) (member_count e r.call)

-- So far an edition carries a call's record without members where it keeps the call. (Proved in proofs/Records: call-carried.)
abbrev pub CallCarried : Type 0
CallCarried = (e : ℕ) (c : Call) → carries e (record_of c) ≡ keeps e c
