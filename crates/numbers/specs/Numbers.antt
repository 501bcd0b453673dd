-- "Numbers for a call that is turned down", each by the trade's word, and the limits: their one home in definitions. Quotations are from
-- document 01.
use Rattle.std.specs.Prelude.{ℕ, zero, suc}

-- The first of two numbers, unless it is 0.
abbrev pub or_else : ℕ → ℕ → ℕ
or_else zero n = n
or_else (suc k) n = suc k

-- "dark: no group in the claim, or in a new rig"
abbrev pub dark_number : ℕ
dark_number = 1

-- "off-rig: a group outside the rig"
abbrev pub off_rig_number : ℕ
off_rig_number = 2

-- "length: 0 or over 3,600,000"
abbrev pub length_number : ℕ
length_number = 3

-- "backward: clock below the table's clock"
abbrev pub backward_number : ℕ
backward_number = 4

-- "late: clock over 1,000,000,000,000"
abbrev pub late_number : ℕ
late_number = 5

-- "full: 64 claims are pending"
abbrev pub full_number : ℕ
full_number = 6

-- "ticketless: 65,535 tickets issued"
abbrev pub ticketless_number : ℕ
ticketless_number = 7

-- "unknown: ticket not pending (0 never is)"
abbrev pub unknown_number : ℕ
unknown_number = 8

-- "not yet on: release of a waiting claim"
abbrev pub not_yet_on_number : ℕ
not_yet_on_number = 9

-- "already on: withdrawal of an on claim"
abbrev pub already_on_number : ℕ
already_on_number = 10

-- "edition: first byte of a load names no edition the reader knows"
abbrev pub edition_number : ℕ
edition_number = 11

-- "short: the load is empty or ends inside a record"
abbrev pub short_number : ℕ
short_number = 12

-- "misfit: record length wrong for its kind, a kind its edition lacks, or rig record out of place"
abbrev pub misfit_number : ℕ
misfit_number = 13

-- "overlong: load over 65,536 bytes"
abbrev pub overlong_number : ℕ
overlong_number = 14

-- "no space: a lent output buffer is shorter than the output"
abbrev pub no_space_number : ℕ
no_space_number = 15

-- "spots: more units than k" (document 02, P3)
abbrev pub spots_number : ℕ
spots_number = 16

-- "stranger: a claim from an undeclared desk or a declaration outside 1 to 8" (document 02, P4)
abbrev pub stranger_number : ℕ
stranger_number = 17

-- "over: desk at its limit" (document 02, P4)
abbrev pub over_number : ℕ
over_number = 18

-- "overbooked, on a declaration only" (document 02, P4)
abbrev pub overbooked_number : ℕ
overbooked_number = 19

-- "count: count outside 1 to 1,000" (document 02, P5)
abbrev pub count_number : ℕ
count_number = 20

-- "grace: a grace over 60,000 or set after an accepted claim" (document 02, P6)
abbrev pub grace_number : ℕ
grace_number = 21

-- "Clocks run from 0 to 1,000,000,000,000."
abbrev pub most_clock : ℕ
most_clock = 1000000000000

-- "a declared length of 1 to 3,600,000 ticks"
abbrev pub most_length : ℕ
most_length = 3600000

-- "a grace of 0 to 60,000 ticks" (document 02, P6)
abbrev pub most_grace : ℕ
most_grace = 60000

-- "Tickets are issued 1, 2, 3 up to 65,535"
abbrev pub most_tickets : ℕ
most_tickets = 65535

-- "k from 0 to 65,535" (document 02, P3)
abbrev pub most_units : ℕ
most_units = 65535

-- "At most 64 claims are pending"
abbrev pub most_pending : ℕ
most_pending = 64

-- "Desks 1 to 8" (document 02, P4)
abbrev pub most_clients : ℕ
most_clients = 8

-- "load over 65,536 bytes"
abbrev pub most_bytes : ℕ
most_bytes = 65536

-- "a count of 1 to 1,000" (document 02, P5)
abbrev pub most_claims : ℕ
most_claims = 1000
