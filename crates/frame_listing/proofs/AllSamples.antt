-- Every dance show of specs/Samples has the listing that stands there, by computation from the lines, the rules of the frame table and
-- the text's own definitions.
use mathlib.Core.Path.{◌≡◌, refl}
use mathlib.Core.List.{◌++◌, map}
use Rattle.groups.specs.Groups.{some_from, lowest_from, common, shares, empty, within}
use Rattle.rules.specs.Lists.{any, keep}
use Rattle.rules.specs.Tests.{first_number}
use Rattle.frames.specs.Rows.{contention, taken, row_from, row_for, turned, head_tickets, turned_on}
use Rattle.frames.specs.Calls.{tests, admit, lacking, remove, act, step, new}
use Rattle.numerals.specs.Digits.{digits, width_up_to, width_of, decimal_of, column, pair}
use Rattle.words.specs.Parts.{bytes_before, none, parts, lines_in, words_in, chomped, said}
use Rattle.words.specs.Sets.{is_list, groups_in}
use Rattle.words.specs.Words.{digit_of, value_in, number_in, is_word}
use Rattle.dance_text.specs.Lines.{call_named, words_say, call_said, line_says}
use Rattle.dance_text.specs.Shows.{said_in, calls_in}
use Rattle.frame_listing.specs.Lines.{header, line_of, on_line, on_lines}
use Rattle.frame_listing.specs.Text.{entry_of, lines_of, text_of}
use Rattle.frame_listing.specs.Samples.{samples}

pub all-samples : map (λ s. text_of s.text) samples ≡ map (λ s. header ++ s.lines) samples
unfolding some_from lowest_from common shares empty within any keep first_number contention taken row_from row_for turned head_tickets turned_on tests admit lacking remove act step new digits width_up_to width_of decimal_of column pair bytes_before none parts lines_in words_in chomped said digit_of value_in number_in is_list groups_in is_word call_named words_say call_said line_says said_in calls_in line_of on_line on_lines entry_of lines_of text_of samples
all-samples = refl
