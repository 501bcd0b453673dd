-- A call as numbers, and its values in the fields of an edition, there and back.
use Rattle.std.specs.Prelude.{ℕ, zero, suc, ◌^◌, ◌<◌, Bool, true, ◌&&◌, List, [], ◌∷◌, map, ◌≡◌, eqb, drop, get_or, set}
use Rattle.format.specs.declared.Call.{Call}
use Rattle.format.specs.Format.{rig_kind, claim_kind, release_kind, withdraw_kind, clock_kind, declaration_kind, grace_kind}
use Rattle.format.specs.Format.{the_kind, the_clock, the_groups, the_length, the_ticket, the_pool, the_units, the_client, the_reserved, the_limit, the_grace}
use Rattle.format.specs.Format.{field_count, field_width, default, has_kind, fields_of}

-- Each number stands at the place that names its field.
unfoldable pub numbers : Call → List ℕ
numbers c = c.kind ∷ c.clock ∷ c.groups ∷ c.length ∷ c.ticket ∷ c.pool ∷ c.units ∷ c.client ∷ c.reserved ∷ c.limit ∷ c.grace ∷ []

-- The number of a field; its default where the list ends before.
abbrev pub given : List ℕ → ℕ → ℕ
given ns f = get_or ns f (default f)

-- The call of such numbers.
unfoldable pub made : List ℕ → Call
made ns = record {
  kind = given ns the_kind;
  clock = given ns the_clock;
  groups = given ns the_groups;
  length = given ns the_length;
  ticket = given ns the_ticket;
  pool = given ns the_pool;
  units = given ns the_units;
  client = given ns the_client;
  reserved = given ns the_reserved;
  limit = given ns the_limit;
  grace = given ns the_grace;
}

unfoldable pub value_of : ℕ → Call → ℕ
value_of f c = get_or (numbers c) f 0

unfoldable pub with_value : ℕ → ℕ → Call → Call
with_value f v c = made (set (numbers c) f v)

-- Every value goes into its field's width. The code's types are so wide.
abbrev pub Typed : Call → Type 0
Typed c = (f : ℕ) → value_of f c < 256 ^ field_width f

-- A call of a kind with no values: every other field has its default.
unfoldable pub bare : ℕ → Call
bare k = made (k ∷ [])

-- Values put into fields, one after the other.
unfoldable pub filled : List ℕ → List ℕ → Call → Call
filled [] vs c = c
filled (f ∷ fs) vs c = filled fs (drop 1 vs) (with_value f (get_or vs 0 0) c)

-- The call of a kind with these values in the order of its fields. The fields that the kind lacks have their defaults.
unfoldable pub call_of : ℕ → ℕ → List ℕ → Call
call_of e k vs = filled (fields_of e k) vs (bare k)

-- "Older editions start with desk 1 declared", and every call of theirs is client 1's. (Proved in proofs/Calls: older-call-client.)
abbrev pub OlderCallClient : Type 0
OlderCallClient = (e k : ℕ) (vs : List ℕ) → e < 3 → (call_of e k vs).client ≡ 1

-- The values of a call in the order of the fields that its kind has in an edition.
abbrev pub values_in : List ℕ → Call → List ℕ
values_in fs c = map (λ f. value_of f c) fs

unfoldable pub values_of : ℕ → Call → List ℕ
values_of e c = values_in (fields_of e c.kind) c

-- The numbers of two calls are the same, up to a place.
unfoldable pub same_below : ℕ → Call → Call → Bool
same_below zero c d = true
same_below (suc n) c d = eqb (value_of n c) (value_of n d) && same_below n c d

abbrev pub same : Call → Call → Bool
same c d = same_below field_count c d

-- What an edition keeps of a call: the fields that it lacks get their defaults.
unfoldable pub kept : ℕ → Call → Call
kept e c = call_of e c.kind (values_of e c)

-- It keeps the whole call: it has the kind, and every field that it lacks has its default.
unfoldable pub keeps : ℕ → Call → Bool
keeps e c = has_kind e c.kind && same (kept e c) c

-- ── calls, for examples ──
-- Those of edition 1; a rig and a claim of a later edition with no pool, no units and client 1 are the same calls.
abbrev pub rig : ℕ → Call
rig groups = call_of 1 rig_kind (groups ∷ [])

abbrev pub claim : ℕ → ℕ → ℕ → Call
claim clock groups length = call_of 1 claim_kind (clock ∷ groups ∷ length ∷ [])

abbrev pub release : ℕ → ℕ → Call
release clock ticket = call_of 1 release_kind (clock ∷ ticket ∷ [])

abbrev pub withdraw : ℕ → ℕ → Call
withdraw clock ticket = call_of 1 withdraw_kind (clock ∷ ticket ∷ [])

abbrev pub clock : ℕ → Call
clock at = call_of 1 clock_kind (at ∷ [])

-- Edition 2's own.
abbrev pub rig_with : ℕ → ℕ → Call
rig_with groups pool = call_of 2 rig_kind (groups ∷ pool ∷ [])

abbrev pub claim_with : ℕ → ℕ → ℕ → ℕ → Call
claim_with clock groups length units = call_of 2 claim_kind (clock ∷ groups ∷ length ∷ units ∷ [])

-- Edition 3's own.
abbrev pub claim_from : ℕ → ℕ → ℕ → ℕ → ℕ → Call
claim_from clock groups length units client = call_of 3 claim_kind (clock ∷ groups ∷ length ∷ units ∷ client ∷ [])

abbrev pub declaration : ℕ → ℕ → ℕ → Call
declaration client reserved limit = call_of 3 declaration_kind (client ∷ reserved ∷ limit ∷ [])

abbrev pub grace : ℕ → Call
grace ticks = call_of 3 grace_kind (ticks ∷ [])
