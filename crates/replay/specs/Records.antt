-- What the records of a load do to a table: as the load format reads them (load, Reading) they are calls of the rules (rules, Calls).
-- Quotations are from document 01, and from document 02 where a request is named.
use Rattle.std.specs.Prelude.{Bool, true, ◌&&◌, ◌||◌, cond, List, ℕ, ltb, leb, eqb}
use Rattle.numbers.specs.Numbers.{dark_number, edition_number, overlong_number}
use Rattle.rules.specs.Calls.{Model, Step, Call as TableCall, claim, release, withdraw, clock, declare, set_grace, step, blank, new}
use Rattle.format.specs.Records.{Record}
use Rattle.format.specs.Format.{rig_kind, claim_kind, release_kind, withdraw_kind, declaration_kind, grace_kind}
use Rattle.load.specs.Reading.{edition_of}

-- The call of the table that a record says: "2 claim", "3 release", "4 withdraw", "5 clock", "a kind 6 record of desk, guarantee and limit"
-- (P4), and "kind 8, the grace in four bytes" (P6). (The reader gives no other kind: specs/RecordKinds.)
unfoldable pub says_call : Record → TableCall
says_call r =
    let c = r.call in
    cond (eqb c.kind claim_kind) (claim c.clock (record { groups = c.groups; length = c.length; units = c.units; client = c.client }))
    (cond (eqb c.kind release_kind) (release c.clock c.ticket)
    (cond (eqb c.kind withdraw_kind) (withdraw c.clock c.ticket)
    (cond (eqb c.kind declaration_kind) (declare c.client c.reserved c.limit)
    (cond (eqb c.kind grace_kind) (set_grace c.grace)
    (clock c.clock)))))

-- The table before the rig. No call is made on it.
abbrev pub unrigged : Model
unrigged = blank 0 0 true

-- "Older editions start with desk 1 declared, guarantee and limit 64; edition 3 with none" (P4)
unfoldable pub alone_in : List ℕ → Bool
alone_in load = ltb (edition_of load) 3

-- What a record does: the rig makes the table; each other is a call on it.
unfoldable pub step_of : Bool → Model → Record → Step
step_of alone m r =
    let c = r.call in
    cond (eqb c.kind rig_kind) (new c.groups c.pool alone) (step m (says_call r))

-- The number by which record k, answered n, ends the load early, 0 for none: "Only 11 to 14 and a dark rig end the listing early." The rig is
-- record 1. (The table itself answers 13 to a declaration that comes late: "and a listing stops there", P4.)
unfoldable pub ending : ℕ → ℕ → ℕ
ending k n = cond (leb edition_number n && leb n overlong_number || eqb n dark_number && eqb k 1) n 0
