-- A refusal of the code, and the number that it stands for.
use Rattle.std.specs.Prelude.{ℕ, Result, Ok, Err}
use Rattle.numbers.specs.declared.Refusal.{Refusal}
use Rattle.numbers.specs.declared.Refusal.TheVariants.{Dark, OffRig, BadLength, Backward, Late, Full, Ticketless, Unknown, NotYetOn, AlreadyOn, Edition, Short, Misfit, Overlong, NoSpace, Spots, Stranger, Over, Overbooked, Count, Grace}
use Rattle.numbers.specs.Numbers.{dark_number, off_rig_number, length_number, backward_number, late_number, full_number, ticketless_number, unknown_number, not_yet_on_number, already_on_number, edition_number, short_number, misfit_number, overlong_number, no_space_number, spots_number, stranger_number, over_number, overbooked_number, count_number, grace_number}

abbrev pub number_of : Refusal → ℕ
number_of Dark = dark_number
number_of OffRig = off_rig_number
number_of BadLength = length_number
number_of Backward = backward_number
number_of Late = late_number
number_of Full = full_number
number_of Ticketless = ticketless_number
number_of Unknown = unknown_number
number_of NotYetOn = not_yet_on_number
number_of AlreadyOn = already_on_number
number_of Edition = edition_number
number_of Short = short_number
number_of Misfit = misfit_number
number_of Overlong = overlong_number
number_of NoSpace = no_space_number
number_of Spots = spots_number
number_of Stranger = stranger_number
number_of Over = over_number
number_of Overbooked = overbooked_number
number_of Count = count_number
number_of Grace = grace_number

-- What a call answers by number: 0 where it is accepted.
abbrev pub number_in : {A : Type 0} → Result A Refusal → ℕ
number_in (Ok a) = 0
number_in (Err r) = number_of r
