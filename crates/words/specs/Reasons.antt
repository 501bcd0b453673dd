-- Why a line of text says no call, by number: from 101 on, so that no reason can be taken for a number of document 01. Numbers of document 01
-- that are told of a line are its own (crate numbers).
use Rattle.std.specs.Prelude.{ℕ}
use Rattle.numbers.specs.Refusals.{number_of}
use Rattle.words.specs.declared.reasons.Reason.{Reason}
use Rattle.words.specs.declared.reasons.Reason.TheVariants.{Unknown, Missing, TooMany, NoClock, NoTicket, NoLength, NoGroups, TooLarge, Over63, Backward, NoPool, NoUnits, NoClient, NoReserved, NoLimit, NoGrace, Refused}

abbrev pub unknown_reason : ℕ
unknown_reason = 101

abbrev pub missing_reason : ℕ
missing_reason = 102

abbrev pub too_many_reason : ℕ
too_many_reason = 103

abbrev pub no_clock_reason : ℕ
no_clock_reason = 104

abbrev pub no_ticket_reason : ℕ
no_ticket_reason = 105

abbrev pub no_length_reason : ℕ
no_length_reason = 106

abbrev pub no_groups_reason : ℕ
no_groups_reason = 107

abbrev pub too_large_reason : ℕ
too_large_reason = 108

abbrev pub over63_reason : ℕ
over63_reason = 109

abbrev pub backward_reason : ℕ
backward_reason = 110

abbrev pub no_pool_reason : ℕ
no_pool_reason = 111

abbrev pub no_units_reason : ℕ
no_units_reason = 112

abbrev pub no_client_reason : ℕ
no_client_reason = 113

abbrev pub no_reserved_reason : ℕ
no_reserved_reason = 114

abbrev pub no_limit_reason : ℕ
no_limit_reason = 115

abbrev pub no_grace_reason : ℕ
no_grace_reason = 116

-- The number of a reason of the code.
abbrev pub reason_number : Reason → ℕ
reason_number Unknown = unknown_reason
reason_number Missing = missing_reason
reason_number TooMany = too_many_reason
reason_number NoClock = no_clock_reason
reason_number NoTicket = no_ticket_reason
reason_number NoLength = no_length_reason
reason_number NoGroups = no_groups_reason
reason_number TooLarge = too_large_reason
reason_number Over63 = over63_reason
reason_number Backward = backward_reason
reason_number NoPool = no_pool_reason
reason_number NoUnits = no_units_reason
reason_number NoClient = no_client_reason
reason_number NoReserved = no_reserved_reason
reason_number NoLimit = no_limit_reason
reason_number NoGrace = no_grace_reason
reason_number (Refused r) = number_of r
