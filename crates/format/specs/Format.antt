-- The load format as one table: document 01, "The load", and editions 2 and 3 of document 02. Reader, writer and round trip are driven by
-- it. An edition and a kind are rows of `format`; a field is a name and a width here, and a number of a call (specs/Calls). Quotations are
-- from document 01, of editions 2 and 3 from document 02.
use Rattle.std.specs.Prelude.{ℕ, ◌+◌, ◌*◌, min, Bool, false, ◌&&◌, ◌||◌, cond, List, [], ◌∷◌, ◌++◌, map, eqb, length, drop, get_or}
use Rattle.numerals.specs.Texts.{bytes}
use Rattle.format.specs.declared.fields.Field.{Field}
use Rattle.format.specs.declared.fields.Field.TheVariants.{Clock, Groups, Length, Ticket, Pool, Units, Client, Reserved, Limit, Grace}

-- ── kinds ──
abbrev pub rig_kind : ℕ
rig_kind = 1

abbrev pub claim_kind : ℕ
claim_kind = 2

abbrev pub release_kind : ℕ
release_kind = 3

abbrev pub withdraw_kind : ℕ
withdraw_kind = 4

abbrev pub clock_kind : ℕ
clock_kind = 5

-- (document 02: desk)
abbrev pub declaration_kind : ℕ
declaration_kind = 6

abbrev pub grace_kind : ℕ
grace_kind = 8

-- ── fields ──
-- A field is named by a number, its place among the numbers of a call. The first is the kind byte, which every record has.
abbrev pub the_kind : ℕ
the_kind = 0

abbrev pub the_clock : ℕ
the_clock = 1

abbrev pub the_groups : ℕ
the_groups = 2

abbrev pub the_length : ℕ
the_length = 3

abbrev pub the_ticket : ℕ
the_ticket = 4

abbrev pub the_pool : ℕ
the_pool = 5

abbrev pub the_units : ℕ
the_units = 6

-- (document 02: desk)
abbrev pub the_client : ℕ
the_client = 7

-- (document 02: guarantee)
abbrev pub the_reserved : ℕ
the_reserved = 8

abbrev pub the_limit : ℕ
the_limit = 9

abbrev pub the_grace : ℕ
the_grace = 10

-- The numbers of the code's fields, which has none for the kind byte.
abbrev pub field_number : Field → ℕ
field_number Clock = the_clock
field_number Groups = the_groups
field_number Length = the_length
field_number Ticket = the_ticket
field_number Pool = the_pool
field_number Units = the_units
field_number Client = the_client
field_number Reserved = the_reserved
field_number Limit = the_limit
field_number Grace = the_grace

-- Their widths in bytes, in that order: kind 1, clock 8, groups 8, length 4, ticket 2, pool 2, units 2, client 1, reserved 1, limit 1,
-- grace 4.
unfoldable pub field_widths : List ℕ
field_widths = 1 ∷ 8 ∷ 8 ∷ 4 ∷ 2 ∷ 2 ∷ 2 ∷ 1 ∷ 1 ∷ 1 ∷ 4 ∷ []

abbrev pub field_count : ℕ
field_count = length field_widths

unfoldable pub field_width : ℕ → ℕ
field_width f = get_or field_widths f 0

-- Their values where a record lacks them, in that order: "edition 1 reads as 0 for both" pool and units, and 1 for the client, the only one
-- of older editions, which "start with desk 1 declared".
unfoldable pub defaults : List ℕ
defaults = 0 ∷ 0 ∷ 0 ∷ 0 ∷ 0 ∷ 0 ∷ 0 ∷ 1 ∷ 0 ∷ 0 ∷ 0 ∷ []

unfoldable pub default : ℕ → ℕ
default f = get_or defaults f 0

-- ── rows ──
-- A kind of an edition, and its fields in their order.
pub record Row : Type 0 where
  pub edition : ℕ
  pub kind : ℕ
  pub fields : List ℕ

abbrev pub row : ℕ → ℕ → List ℕ → Row
row edition kind fields = record { edition = edition; kind = kind; fields = fields }

-- The same kinds in another edition.
abbrev pub in_edition : ℕ → List Row → List Row
in_edition e rs = map (λ r. row e r.kind r.fields) rs

abbrev pub edition1 : List Row
edition1 =
    -- "1 rig", groups
    row 1 rig_kind (the_groups ∷ [])
    -- "2 claim", clock, groups, length
    ∷ row 1 claim_kind (the_clock ∷ the_groups ∷ the_length ∷ [])
    -- "3 release", clock, ticket
    ∷ row 1 release_kind (the_clock ∷ the_ticket ∷ [])
    -- "4 withdraw", clock, ticket
    ∷ row 1 withdraw_kind (the_clock ∷ the_ticket ∷ [])
    -- "5 clock", clock
    ∷ row 1 clock_kind (the_clock ∷ [])
    ∷ []

abbrev pub edition2 : List Row
edition2 =
    -- "two bytes of k at the end of the rig (length 11)"
    row 2 rig_kind (the_groups ∷ the_pool ∷ [])
    -- "and two of units at that of the claim (length 23)"
    ∷ row 2 claim_kind (the_clock ∷ the_groups ∷ the_length ∷ the_units ∷ [])
    -- the other kinds are edition 1's
    ∷ in_edition 2 (drop 2 edition1)

abbrev pub edition3 : List Row
edition3 =
    -- the rig is edition 2's
    row 3 rig_kind (the_groups ∷ the_pool ∷ [])
    -- "Edition 3 adds a desk byte at the end of the claim (length 24)"
    ∷ row 3 claim_kind (the_clock ∷ the_groups ∷ the_length ∷ the_units ∷ the_client ∷ [])
    -- "and a kind 6 record of desk, guarantee and limit, a byte each (length 4)"
    ∷ row 3 declaration_kind (the_client ∷ the_reserved ∷ the_limit ∷ [])
    -- "Edition 3 gains kind 8, the grace in four bytes (length 5), after the rig."
    ∷ row 3 grace_kind (the_grace ∷ [])
    -- the other kinds are edition 1's
    ∷ in_edition 3 (drop 2 edition1)

unfoldable pub format : List Row
format = edition1 ++ edition2 ++ edition3

-- The fields of all rows in a list of which each row is a part.
abbrev pub laid_fields : List ℕ
laid_fields = the_clock ∷ the_groups ∷ the_length ∷ the_units ∷ the_client ∷ the_reserved ∷ the_limit ∷ the_clock ∷ the_ticket ∷ the_groups ∷ the_pool ∷ the_grace ∷ []

-- ── from the table ──
-- The editions that there are.
unfoldable pub known_in : List Row → ℕ → Bool
known_in [] e = false
known_in (r ∷ rs) e = eqb r.edition e || known_in rs e

unfoldable pub known : ℕ → Bool
known e = known_in format e

abbrev pub is_row : ℕ → ℕ → Row → Bool
is_row e k r = eqb r.edition e && eqb r.kind k

-- The edition has the kind.
unfoldable pub has_in : List Row → ℕ → ℕ → Bool
has_in [] e k = false
has_in (r ∷ rs) e k = is_row e k r || has_in rs e k

unfoldable pub has_kind : ℕ → ℕ → Bool
has_kind e k = has_in format e k

-- The row of a kind of an edition; one with no fields where there is none.
unfoldable pub row_in : List Row → ℕ → ℕ → Row
row_in [] e k = row 0 0 []
row_in (r ∷ rs) e k = cond (is_row e k r) r (row_in rs e k)

unfoldable pub fields_of : ℕ → ℕ → List ℕ
fields_of e k = (row_in format e k).fields

unfoldable pub widths : ℕ → ℕ → List ℕ
widths e k = map field_width (fields_of e k)

unfoldable pub total : List ℕ → ℕ
total [] = 0
total (w ∷ ws) = w + total ws

-- "length in two bytes (the bytes after it), a kind byte, fields": the kind byte and the fields. 0 where there is no such kind.
unfoldable pub length_in : List ℕ → ℕ
length_in fs = total (map field_width (the_kind ∷ fs))

unfoldable pub length_of : ℕ → ℕ → ℕ
length_of e k = cond (has_kind e k) (length_in (fields_of e k)) 0

-- The fields of a member, in their order: its groups and its length. They have the widths of a call's.
abbrev pub member_fields : List ℕ
member_fields = the_groups ∷ the_length ∷ []

unfoldable pub member_widths : List ℕ
member_widths = map field_width member_fields

-- The length of a record with so many members behind its fields.
unfoldable pub length_with : ℕ → ℕ → ℕ → ℕ
length_with e k count = length_of e k + count * total member_widths

-- The least length of a whole record, its two length bytes included. (Two bytes say 65,535 at most.)
unfoldable pub least_in : List Row → ℕ
least_in [] = 2 + 65535
least_in (r ∷ rs) = min (2 + length_in r.fields) (least_in rs)

unfoldable pub least_length : ℕ
least_length = least_in format

-- The names of the kinds, in ASCII, from kind 0 on. There is no kind 0 and no kind 7, and they have no name.
unfoldable pub names : List (List ℕ)
names = [] ∷ bytes "rig" ∷ bytes "claim" ∷ bytes "release" ∷ bytes "withdraw" ∷ bytes "clock" ∷ bytes "desk" ∷ [] ∷ bytes "grace" ∷ []

-- The name of a kind; none for one that the edition lacks.
unfoldable pub name_of : ℕ → ℕ → List ℕ
name_of e k = cond (has_kind e k) (get_or names k []) []
