-- A reader opened on each load of specs/Samples gives what the table says, by computation from the load format.
use mathlib.Core.List.{map}
use mathlib.Core.Path.{◌≡◌, refl}
use borrow.Author.Tests.{lt-ltb}
use Rattle.format.specs.Format.{field_widths, field_width, defaults, default, format, known_in, known, has_in, has_kind, row_in, fields_of, widths, total, length_in, length_of, member_widths, length_with}
use Rattle.format.specs.Calls.{numbers, made, value_of, with_value, bare, filled, call_of, values_of}
use Rattle.format.specs.Records.{member_count}
use Rattle.load.specs.Answers.{refusal_of}
use Rattle.load.specs.Bytes.{numeral, digits, field_bytes, field_values, members_bytes, members_read, record_bytes, records_bytes, load_bytes}
use Rattle.load.specs.Reading.{misfit, read_at, item_at, open_number, walk_in, walk, reading}
use Rattle.reader.specs.Items.{item_of}
use Rattle.reader.specs.Samples.{samples, given, expected, OverlongRefused}

pub all-samples : map given samples ≡ map expected samples
unfolding numeral digits field_widths field_width defaults default format known_in known has_in has_kind row_in fields_of widths total length_in length_of member_widths length_with numbers made value_of with_value bare filled call_of values_of field_bytes field_values members_bytes members_read member_count record_bytes records_bytes load_bytes misfit read_at item_at open_number walk_in walk reading refusal_of item_of samples
all-samples = refl

pub overlong-refused : OverlongRefused
unfolding item_of open_number
overlong-refused s at h = rw (lt-ltb 65536 _ h)
