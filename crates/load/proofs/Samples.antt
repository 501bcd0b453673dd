-- The writer answers as the table of specs/Samples says, by computation from the load format.
use mathlib.Core.List.{map}
use mathlib.Core.Path.{◌≡◌, refl}
use Rattle.format.specs.Format.{field_widths, field_width, defaults, default, format, known_in, known, has_in, has_kind, row_in, fields_of, widths, total, length_in, length_of, member_widths, length_with}
use Rattle.format.specs.Calls.{numbers, made, value_of, with_value, bare, filled, call_of, values_of, same_below, kept, keeps}
use Rattle.format.specs.Records.{member_count, carries}
use Rattle.load.specs.Bytes.{numeral, digits, field_bytes, field_values, members_bytes, record_bytes, records_bytes, load_bytes}
use Rattle.load.specs.Reading.{misfit, read_at, item_at, open_number, walk_in, walk, load_number}
use Rattle.load.specs.Writing.{room_number, grow_number, append_number}
use Rattle.load.specs.Samples.{Attempt, attempts, attempted}

pub all-attempts : map attempted attempts ≡ map (λ (x : Attempt). x.number) attempts
unfolding numeral digits field_widths field_width defaults default format known_in known has_in has_kind row_in fields_of widths total length_in length_of member_widths length_with numbers made value_of with_value bare filled call_of values_of same_below kept keeps carries member_count field_bytes field_values members_bytes record_bytes records_bytes load_bytes misfit read_at item_at open_number walk_in walk load_number room_number grow_number append_number attempts
all-attempts = refl
