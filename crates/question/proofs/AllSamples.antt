-- Every question of specs/Samples has its answer, by computation from the rules and the load format; and no wrong line asks one.
use mathlib.Core.Path.{◌≡◌, refl}
use mathlib.Core.List.{map}
use Rattle.groups.specs.Groups.{some_from, lowest_from, common, shares, empty, within}
use Rattle.rules.specs.Lists.{greatest, least, sum, all, any, keep, first_with}
use Rattle.rules.specs.Shares.{share_of, with_share, pending_of, unfilled, unfilled_by_others, reserved_in_all}
use Rattle.rules.specs.Claims.{held_until, end_of, remaining}
use Rattle.rules.specs.Order.{precedes, before}
use Rattle.rules.specs.Pool.{covers, units_at, used, enough, spare, held_units, free_units}
use Rattle.rules.specs.Seeking.{seek}
use Rattle.rules.specs.Packing.{ready, start_for, moved, ahead, start_within, packed_start, pack}
use Rattle.rules.specs.Placing.{clear, fits, place, contention, start_bound}
use Rattle.rules.specs.Granting.{taken_before, truly_free, goes_within, goes, granted, grant, grants}
use Rattle.rules.specs.Tests.{first_number}
use Rattle.rules.specs.Calls.{tests, advance, finish, join, remove, admit, act, step, new, standing_of, common_of}
use Rattle.rules.specs.Chains.{counts_as, links, link, chain_within, chain}
use Rattle.numerals.specs.Digits.{numeral, digits, width_up_to, width_of, decimal_of, column, pair}
use Rattle.format.specs.Format.{field_widths, field_width, defaults, default, format, known_in, known, has_in, has_kind, row_in, fields_of, widths, total, length_in, length_of, member_widths, length_with}
use Rattle.format.specs.Calls.{numbers, made, value_of, with_value, bare, filled, call_of, values_of}
use Rattle.format.specs.Records.{member_count}
use Rattle.load.specs.Bytes.{field_bytes, field_values, members_bytes, members_read, record_bytes, records_bytes, load_bytes}
use Rattle.load.specs.Reading.{misfit, read_at, item_at, open_number, walk_in, walk}
use Rattle.replay.specs.StopLine.{stop_line}
use Rattle.replay.specs.Records.{says_call, alone_in, step_of, ending}
use Rattle.replay.specs.Replay.{replay_from, replay_in, replay_of}
use Rattle.words.specs.Parts.{none, parts, words_in}
use Rattle.words.specs.Words.{digit_of, value_in, number_in, is_word}
use Rattle.std.specs.Prelude.{None}
use Rattle.question.specs.Questions.{ticket_in, alone_asks, ticket_asks, pair_asks, question_in, question_of}
use Rattle.question.specs.Answers.{worded, lookup_text, waits_text, holds_text, is_on_text, why_text, tickets_text, free_text, answer_text, text_of}
use Rattle.question.specs.Samples.{samples, given, expected, wrong_lines}

pub all-samples : map given samples ≡ map expected samples
unfolding some_from lowest_from common shares empty within greatest least sum all any keep first_with held_until end_of remaining precedes before covers units_at used enough spare held_units free_units ready start_for moved ahead start_within packed_start pack clear fits seek place contention start_bound taken_before truly_free goes_within goes granted grant grants share_of with_share pending_of unfilled unfilled_by_others reserved_in_all first_number tests advance finish join remove admit act step new standing_of common_of counts_as links link chain_within chain numeral digits width_up_to width_of decimal_of field_widths field_width defaults default format known_in known has_in has_kind row_in fields_of widths total length_in length_of member_widths length_with numbers made value_of with_value bare filled call_of values_of field_bytes field_values members_bytes members_read member_count record_bytes records_bytes load_bytes misfit read_at item_at open_number walk_in walk column pair stop_line says_call alone_in step_of ending replay_from replay_in replay_of none parts words_in digit_of value_in number_in is_word ticket_in alone_asks ticket_asks pair_asks question_in question_of worded lookup_text waits_text holds_text is_on_text why_text tickets_text free_text answer_text text_of samples
all-samples = refl

pub all-wrong : map question_of wrong_lines ≡ map (λ l. None) wrong_lines
unfolding none parts words_in digit_of value_in number_in is_word ticket_in alone_asks ticket_asks pair_asks question_in question_of wrong_lines
all-wrong = refl
